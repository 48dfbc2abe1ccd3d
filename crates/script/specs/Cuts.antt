-- Where a script is cut.
use Rattle.std.specs.Prelude.{ℕ, Bool, ◌&&◌, List}
use Rattle.recognisers.specs.declared.TokenKind.TheVariants as K
use Rattle.recognisers.specs.Kinds.{is_kind}
use Rattle.recognisers.specs.Same.{same}
use Rattle.recognisers.specs.Text.{bytes}
use Rattle.tokenizer.specs.declared.Token.{Token}
use Rattle.tokenizer.specs.Values.{value}

-- an Operator `;`, behind which a part ends: one in a string, a comment or a placeholder is no token of its own
unfoldable pub is_cut : List ℕ → Token → Bool
is_cut s t = is_kind t.kind K.Operator && same (value s t) (bytes ";")
