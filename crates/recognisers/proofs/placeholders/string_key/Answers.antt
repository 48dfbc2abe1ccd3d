use Rattle.recognisers.proofs.PlaceholderLaws.{short_key, escaped_key, named_key}
use Rattle.recognisers.proofs.placeholders.string_key.Goals as goal

pub returns-then-n-lt3 : goal.returns-then-n-lt3
returns-then-n-lt3 c = search short_key

pub returns-then-has_escape : goal.returns-then-has_escape
returns-then-has_escape c = search escaped_key

pub returns : goal.returns
returns c = search named_key
