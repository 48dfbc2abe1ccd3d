-- The tight text: the tokens' values in order, with one byte or none for each gap.
use Rattle.std.specs.Prelude.{ℕ, Bool, cond, List, [], ◌∷◌, ◌++◌, Option, Some, None}
use Rattle.recognisers.specs.declared.TokenKind.{TokenKind}
use Rattle.recognisers.specs.declared.TokenKind.TheVariants as K
use Rattle.recognisers.specs.Kinds.{is_kind}
use Rattle.recognisers.specs.Text.{byte}
use Rattle.calls.specs.declared.Settings.{Settings}
use Rattle.tokenizer.specs.declared.Token.{Token}
use Rattle.tokenizer.specs.Tokens.{tokens}
use Rattle.tokenizer.specs.Values.{value}
use Rattle.tight.specs.declared.Gap.{Gap}
use Rattle.tight.specs.declared.Gap.TheVariants.{LineFeed, Space, Return}
use Rattle.tight.specs.Returning.{returns}

unfoldable pub is_gap : Token → Bool
is_gap t = is_kind t.kind K.Whitespace

-- what a gap of these bytes becomes behind a token of this kind
unfoldable pub gap_after : TokenKind → List ℕ → Gap
gap_after kind gap = cond (is_kind kind K.LineComment) LineFeed (cond (returns gap) Return Space)

-- and what it becomes here: behind a token of a kind, or before the first, where it becomes nothing
abbrev pub becomes : Option TokenKind → List ℕ → Option Gap
becomes None gap = None
becomes (Some kind) gap = Some (gap_after kind gap)

-- what is left of it where no token follows
abbrev pub at_end : Option Gap → Option Gap
at_end None = None
at_end (Some LineFeed) = None
at_end (Some Space) = None
at_end (Some Return) = Some Return

abbrev pub gap_byte : Gap → ℕ
gap_byte LineFeed = byte "\n"
gap_byte Space = byte " "
gap_byte Return = byte "\r"

abbrev pub gap_bytes : Option Gap → List ℕ
gap_bytes None = []
gap_bytes (Some gap) = gap_byte gap ∷ []

-- The tight text of the tokens that are left. `lead` is what the gap just passed became, if there was one: it stands before
-- the next token, and at the end if it is a CR.
unfoldable pub tight_from : List ℕ → Option TokenKind → Option Gap → List Token → List ℕ
tight_from s here lead [] = gap_bytes (at_end lead)
tight_from s here lead (t ∷ ts) =
    cond (is_gap t) (tight_from s here (becomes here (value s t)) ts) (gap_bytes lead ++ (value s t ++ tight_from s (Some t.kind) None ts))

unfoldable pub tight : Settings → List ℕ → List ℕ
tight settings s = tight_from s None None (tokens settings s)
