-- What a walk over the tokens of a statement has still to yield.
use Rattle.std.specs.Prelude.{List, drop}
use Rattle.tokenizer.specs.declared.Token.{Token}
use Rattle.tokenizer.specs.declared.walking.Tokens.{Tokens}
use Rattle.tokenizer.specs.Tokens.{tokens_from}

unfoldable pub tokens_left : Tokens → List Token
tokens_left walk = tokens_from walk.settings walk.cursor.memory walk.cursor.at 0 (drop walk.cursor.at walk.statement.now)
