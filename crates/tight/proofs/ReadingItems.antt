-- A reading counted from where it stands, and its tokens with what is told of the gaps between them.
-- Assumes nothing.
use Rattle.std.proofs.Common.{Option, Some, None}
use Prim.Native.Nat.{ℕ, zero, suc, ◌+◌, pred}
use native.Mathlib.Nat.{add_assoc}
use native.Mathlib.Numerals.{add-one}
use native.Mathlib.Omega.{arith}
use mathlib.Core.Path.{◌≡◌, refl, sym, ap, ◌∙◌}
use mathlib.Core.List.{List, [], ◌∷◌}
use mathlib.Core.Bool.{Bool, true, false, cond}
use lib.ListN.{take, drop}
use lib.Seq.{drop-drop, get_or-drop}
use borrow.Author.Tests.{eqb-true, le-leb}
use Rattle.characters.specs.Character.{continuations, continued}
use Rattle.characters.specs.Classes.{is_whitespace}
use Rattle.characters.specs.Runs.{run}
use Rattle.recognisers.specs.declared.Key.{Key}
use Rattle.recognisers.specs.declared.Key.TheVariants.{Named, Escaped, ZeroIndexed, OneIndexed}
use Rattle.recognisers.specs.declared.Piece.{Piece}
use Rattle.recognisers.specs.declared.TokenKind.{TokenKind}
use Rattle.recognisers.specs.declared.TokenKind.TheVariants as K
use Rattle.recognisers.specs.Kinds.{kind_number, is_kind}
use Rattle.recognisers.specs.Pieces.{piece}
use Rattle.recognisers.specs.Words.{get_whitespace_token}
use Rattle.tokenizer.specs.declared.Memory.{Memory}
use Rattle.calls.specs.declared.Settings.{Settings}
use Rattle.tokenizer.specs.Memory.{start, remembered}
use Rattle.tokenizer.specs.NextToken.{get_next_token, next_piece}
use Rattle.tokenizer.specs.Tokens.{given_out, placed, token_at, tokens_from, tokens}
use Rattle.tight.specs.Returning.{returns}
use Rattle.tight.specs.Agree.{Meaning, meaning, Compared, compared, compared_all, reading, is_gap}
use Rattle.tight.proofs.Whitespace.{is_blank}
use Rattle.tight.proofs.PieceKinds.{NoGap, next_no_gap}
use Rattle.tight.proofs.SimPieces.{no_blank}

-- ---- counted from where it stands

abbrev pub piece_compared : Settings → List ℕ → Piece → Compared
piece_compared settings s p = record { kind = given_out settings.joins p.kind; value = take p.len s; alias = p.alias; key = meaning s p.key }

abbrev pub past : Memory → Piece → List ℕ → Memory
past memory p s = remembered memory p.kind (take p.len s) p.alias

unfoldable pub read_from : Settings → Memory → ℕ → List ℕ → List Compared
read_from settings memory passed [] = []
read_from settings memory (suc passed) (b ∷ s) = read_from settings memory passed s
read_from settings memory zero (b ∷ s) =
    elim (next_piece settings memory (b ∷ s)) [
      | Some p ↦ piece_compared settings (b ∷ s) p ∷ read_from settings (past memory p (b ∷ s)) (pred p.len) s
      | None ↦ []
    ]

-- what a key means does not depend on where it is counted from
placed_meaning : (s : List ℕ) (at : ℕ) (key : Option Key) → meaning s (placed at key) ≡ meaning (drop at s) key
placed_meaning s at None = refl
placed_meaning s at (Some (Named start len)) = rw (drop-drop start at s)
placed_meaning s at (Some (Escaped start len)) = rw (drop-drop start at s, get_or-drop at s (start + len) 0, add_assoc at start len)
placed_meaning s at (Some (ZeroIndexed n)) = refl
placed_meaning s at (Some (OneIndexed n)) = refl

placed_compared : (settings : Settings) (s : List ℕ) (at : ℕ) (p : Piece) → compared s (token_at settings at p) ≡ piece_compared settings (drop at s) p
unfolding compared
placed_compared settings s at p = rw (placed_meaning s at p.key)

next_place : (at b : ℕ) (r s : List ℕ) → drop at s ≡ b ∷ r → drop (suc at) s ≡ r
next_place at b r s e = ap (λ (k : ℕ). drop k s) (sym (add-one at)) ∙ sym (drop-drop 1 at s) ∙ ap (drop 1) e

from_place : (settings : Settings) (s : List ℕ) (memory : Memory) (at passed : ℕ) (r : List ℕ) → drop at s ≡ r → compared_all s (tokens_from settings memory at passed r) ≡ read_from settings memory passed r
unfolding compared_all tokens_from read_from
from_place settings s memory at passed [] e = refl
from_place settings s memory at (suc passed) (b ∷ r) e = from_place settings s memory (suc at) passed r (next_place at b r s e)
from_place settings s memory at zero (b ∷ r) e = go (next_piece settings memory (b ∷ r)) refl (λ m k. from_place settings s m (suc at) k r (next_place at b r s e))
  where
    go : (q : Option Piece) → next_piece settings memory (b ∷ r) ≡ q → ((m : Memory) (k : ℕ) → compared_all s (tokens_from settings m (suc at) k r) ≡ read_from settings m k r)
        → compared_all s (tokens_from settings memory at zero (b ∷ r)) ≡ read_from settings memory zero (b ∷ r)
    go (Some p) f ih =
        rw (tokens_from, read_from, f)
        (rw (placed_compared settings s at p, e) (ap (λ (cs : List Compared). piece_compared settings (b ∷ r) p ∷ cs) (ih (past memory p (b ∷ r)) (pred p.len))))
    go None f ih = rw (tokens_from, read_from, f)

pub reading_is : (settings : Settings) (s : List ℕ) → reading settings s ≡ read_from settings start 0 s
unfolding reading tokens
reading_is settings s = from_place settings s start 0 0 s refl

-- ---- one token, or one gap, and the rest

read_pass : (settings : Settings) (memory : Memory) (n : ℕ) (s : List ℕ) → read_from settings memory n s ≡ read_from settings memory 0 (drop n s)
unfolding read_from
read_pass settings memory zero s = refl
read_pass settings memory (suc n) [] = refl
read_pass settings memory (suc n) (b ∷ s) = read_pass settings memory n s

pub read_none : (settings : Settings) (memory : Memory) → read_from settings memory 0 [] ≡ []
unfolding read_from
read_none settings memory = refl

pub read_one : (settings : Settings) (memory : Memory) (b : ℕ) (x : List ℕ) (p : Piece) (n : ℕ) → next_piece settings memory (b ∷ x) ≡ Some p → p.len ≡ suc n
    → read_from settings memory 0 (b ∷ x) ≡ piece_compared settings (b ∷ x) p ∷ read_from settings (past memory p (b ∷ x)) 0 (drop n x)
unfolding read_from
read_one settings memory b x p n e l =
    let k : pred p.len ≡ n = ap pred l in
    rw (read_from, e) (ap (λ (cs : List Compared). piece_compared settings (b ∷ x) p ∷ cs) (rw k (read_pass settings (past memory p (b ∷ x)) n x)))

-- ---- a gap

gap_memory : (memory : Memory) (v : List ℕ) (alias : ℕ) → remembered memory K.Whitespace v alias ≡ memory
unfolding remembered
gap_memory memory v alias = refl

abbrev pub after_gap : List ℕ → List ℕ
after_gap y = drop (run is_whitespace 0 y) y

run_blank : (b : ℕ) (x : List ℕ) → is_blank (b ∷ x) ≡ true → run is_whitespace 0 (b ∷ x) ≡ suc (run is_whitespace (continued (continuations b) x) x)
unfolding run
run_blank b x e = rw e

pub run_text : (y : List ℕ) → is_blank y ≡ false → run is_whitespace 0 y ≡ 0
unfolding run
run_text [] e = refl
run_text (b ∷ x) e = rw e

gap_piece : (settings : Settings) (memory : Memory) (b : ℕ) (x : List ℕ) (n : ℕ) → run is_whitespace 0 (b ∷ x) ≡ suc n → next_piece settings memory (b ∷ x) ≡ Some (piece K.Whitespace (suc n) None)
unfolding next_piece get_whitespace_token
gap_piece settings memory b x n e = rw (e, le-leb 1 (suc n) (omega arith))

-- a gap as it is compared
abbrev pub gap_compared : ℕ → List ℕ → Compared
gap_compared n y = record { kind = K.Whitespace; value = take n y; alias = n; key = Meaning.none }

pub read_gap : (settings : Settings) (memory : Memory) (b : ℕ) (x : List ℕ) → is_blank (b ∷ x) ≡ true
    → read_from settings memory 0 (b ∷ x) ≡ gap_compared (run is_whitespace 0 (b ∷ x)) (b ∷ x) ∷ read_from settings memory 0 (after_gap (b ∷ x))
unfolding given_out
read_gap settings memory b x e =
    let n = run is_whitespace (continued (continuations b) x) x in
    let k : run is_whitespace 0 (b ∷ x) ≡ suc n = run_blank b x e in
    read_one settings memory b x (piece K.Whitespace (suc n) None) n (gap_piece settings memory b x n k) refl
    ∙ rw (gap_memory memory (take (suc n) (b ∷ x)) (suc n), k)

-- ---- the tokens, each with what is told of the gap behind it

-- none, or none that counts; a gap that does not return; one that does
pub data Mark : Type 0 where
  none plain returning : Mark

pub data Item : Type 0 where
  item : Compared → Mark → Item

-- behind a line comment no gap is taken for one that returns
abbrev pub sort_after : TokenKind → List ℕ → Bool
sort_after kind gap = cond (is_kind kind K.LineComment) false (returns gap)

-- past a gap of this sort; of gaps side by side the last one tells, as in `tight_from`
abbrev pub mark_past : TokenKind → Bool → List Compared → Mark
mark_past kind sort [] = cond sort returning none
mark_past kind sort (c ∷ cs) = cond (is_gap c) (mark_past kind (sort_after kind c.value) cs) (cond sort returning plain)

-- behind a token of this kind
abbrev pub gap_next : TokenKind → List Compared → Mark
gap_next kind [] = none
gap_next kind (c ∷ cs) = cond (is_gap c) (mark_past kind (sort_after kind c.value) cs) none

unfoldable pub items : List Compared → List Item
items [] = []
items (c ∷ cs) = cond (is_gap c) (items cs) (item c (gap_next c.kind cs) ∷ items cs)

pub is_gap_lem : (n : ℕ) (y : List ℕ) → is_gap (gap_compared n y) ≡ true
unfolding is_gap
is_gap_lem n y = refl

given_gap : (joins : Bool) (kind : TokenKind) → is_kind kind K.Whitespace ≡ false → is_kind (given_out joins kind) K.Whitespace ≡ false
unfolding given_out
given_gap joins kind h = go (is_kind kind K.Join) joins
  where
    go : (t j : Bool) → is_kind (cond t (cond j K.ReservedTopLevel K.ReservedNewline) kind) K.Whitespace ≡ false
    go true true = refl
    go true false = refl
    go false j = h

pub given_line : (joins : Bool) (kind : TokenKind) → is_kind (given_out joins kind) K.LineComment ≡ is_kind kind K.LineComment
unfolding given_out
given_line joins kind = go (is_kind kind K.Join) joins refl
  where
    go : (t j : Bool) → is_kind kind K.Join ≡ t → is_kind (cond t (cond j K.ReservedTopLevel K.ReservedNewline) kind) K.LineComment ≡ is_kind kind K.LineComment
    go true true e = rw (eqb-true (kind_number kind) 16 e)
    go true false e = rw (eqb-true (kind_number kind) 16 e)
    go false j e = refl

-- no piece is a gap where no whitespace stands
piece_no_gap : (settings : Settings) (memory : Memory) (b : ℕ) (x : List ℕ) (p : Piece) → is_blank (b ∷ x) ≡ false → next_piece settings memory (b ∷ x) ≡ Some p → is_kind p.kind K.Whitespace ≡ false
unfolding next_piece
piece_no_gap settings memory b x p h e =
    let f : get_next_token settings memory (b ∷ x) ≡ Some p = rw (no_blank b x h) at e in
    let g : NoGap (Some p) = rw f at (next_no_gap settings memory (b ∷ x)) in
    g

pub compared_no_gap : (settings : Settings) (memory : Memory) (b : ℕ) (x : List ℕ) (p : Piece) → is_blank (b ∷ x) ≡ false → next_piece settings memory (b ∷ x) ≡ Some p
    → is_gap (piece_compared settings (b ∷ x) p) ≡ false
unfolding is_gap
compared_no_gap settings memory b x p h e = given_gap settings.joins p.kind (piece_no_gap settings memory b x p h e)
