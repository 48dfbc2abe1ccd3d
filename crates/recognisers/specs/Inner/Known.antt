-- For inner contracts alone: what looks that failed tell of later ones, so that none is made twice. A hint is a length and speaks of
-- the rests of a text that are no longer; so it holds of the text and of all its rests at once.
use Rattle.std.specs.Prelude.{ℕ, ◌≤◌, ◌-◌, ◌≡◌, false, List, length, drop, None}
use Rattle.recognisers.specs.declared.hints.Hints.{Hints}
use Rattle.recognisers.specs.Text.{byte, bytes}
use Rattle.recognisers.specs.Taking.{Taker, starts_with}
use Rattle.recognisers.specs.Comment.{till_line_ending}
use Rattle.recognisers.specs.Placeholder.{through_brace}
use Rattle.recognisers.specs.Strings.{take_till_escaping}

-- of the rests of s, those of at most `known` bytes that do not start with the quote lack their closing quote
pub record Known (desired : ℕ) (escapes s : List ℕ) (known : ℕ) : Type 0 where
  pub fails : (q : ℕ) → length (drop q s) ≤ known → starts_with desired (drop q s) ≡ false → take_till_escaping desired escapes false (drop q s) ≡ None

-- the taker fails on the rests of s that have from `least` to `most` bytes
pub record Barren (taker : Taker) (s : List ℕ) (least most : ℕ) : Type 0 where
  pub fails : (q : ℕ) → least ≤ length (drop q s) → length (drop q s) ≤ most → taker (drop q s) ≡ None

-- what is known with a look at the rest of s from a place on: as before, or that this rest fails
pub data Looked (fails : List ℕ → Type 0) (s : List ℕ) (from known : ℕ) : ℕ → Type 0 where
  before : Looked fails s from known known
  failed : from ≤ length s → fails (drop from s) → Looked fails s from known (length s - from)

-- nothing is known at first
abbrev pub nothing_known : Hints
nothing_known = record { square = 0; double = 0; single = 0; brace = 0; line_shortest = 1; line_longest = 0 }

-- what the hints say of a text: for `]`, `"`, `'` and `}`, and for the line that a lone CR ends
pub record Truths (hints : Hints) (s : List ℕ) : Type 0 where
  pub square : Known (byte "]") (bytes "]") s hints.square
  pub double : Known (byte "\"") (bytes "\"\\") s hints.double
  pub single : Known (byte "'") (bytes "'\\") s hints.single
  pub brace : Barren through_brace s 0 hints.brace
  pub line : Barren till_line_ending s hints.line_shortest hints.line_longest

-- shut where hints are only passed on
unfoldable pub Truthful : Hints → List ℕ → Type 0
Truthful hints s = Truths hints s
