-- How deep a token stands: the level before it. It starts at 0; an OpenParen raises it for what follows, a CloseParen lowers it for
-- what follows, unless it is 0. CASE and END count as well, and `[` and `]` in PostgreSql, since the kinds say so.
use Rattle.std.specs.Prelude.{ℕ, suc, pred, cond, List, [], ◌∷◌}
use Rattle.recognisers.specs.declared.TokenKind.{TokenKind}
use Rattle.recognisers.specs.declared.TokenKind.TheVariants.{OpenParen, CloseParen}
use Rattle.recognisers.specs.Kinds.{is_kind}
use Rattle.tokenizer.specs.declared.Token.{Token}

-- the level past a token of this kind
unfoldable pub level_past : ℕ → TokenKind → ℕ
level_past level kind = cond (is_kind kind OpenParen) (suc level) (cond (is_kind kind CloseParen) (pred level) level)

-- the level of each token, from a level on
unfoldable pub levels_from : ℕ → List Token → List ℕ
levels_from level [] = []
levels_from level (t ∷ ts) = level ∷ levels_from (level_past level t.kind) ts

unfoldable pub levels : List Token → List ℕ
levels ts = levels_from 0 ts
