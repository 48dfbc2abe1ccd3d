-- Two searches agree exactly where their items are the same.
-- Assumes nothing.
use Prim.Native.Nat.{ℕ, suc, ◌+◌, ◌<◌}
use native.Mathlib.Omega.{arith}
use mathlib.Core.Path.{◌≡◌, refl, sym, ap, ◌∙◌}
use mathlib.Core.List.{List, [], ◌∷◌}
use mathlib.Core.Bool.{Bool, true, false, cond, not, ◌&&◌, false≢true}
use lib.ListN.{drop}
use lib.Seq.{drop-drop}
use borrow.Author.Tests.{ne_eqb}
use Rattle.characters.specs.Classes.{is_whitespace}
use Rattle.characters.specs.Runs.{run}
use Rattle.recognisers.specs.declared.TokenKind.{TokenKind}
use Rattle.recognisers.specs.declared.TokenKind.TheVariants as K
use Rattle.recognisers.specs.Kinds.{is_kind}
use Rattle.tokenizer.specs.declared.Memory.{Memory}
use Rattle.calls.specs.declared.Settings.{Settings}
use Rattle.tokenizer.specs.Memory.{start}
use Rattle.tokenizer.specs.Tokens.{given_out}
use Rattle.tight.specs.Returning.{returns}
use Rattle.tight.specs.Agree.{Compared, reading, is_gap, without_gaps, gaps, Agree}
use Rattle.tight.proofs.Whitespace.{is_blank, none_blank}
use Rattle.tight.proofs.LineComments.{is_nil, returns_part, no_newline}
use Rattle.tight.proofs.SimPieces.{told}
use Rattle.tight.proofs.ReadingItems.{past, read_from, reading_is, read_none, read_one, after_gap, run_text, gap_compared, read_gap, Mark, none, plain, returning, Item, item, sort_after, gap_next, items, is_gap_lem, given_line, compared_no_gap}
use Rattle.tight.proofs.GapRuns.{each_rest, gap_of_lem}
use Rattle.tight.proofs.TightReading.{Found, found, only_gaps_lem, mark_end, gap_of, mark, items_one}

-- the tokens of items, and the places and sorts of the gaps behind them
unfoldable strip : List Item → List Compared
strip [] = []
strip (item c m ∷ is) = c ∷ strip is

abbrev placing : ℕ → Mark → List (ℕ × Bool) → List (ℕ × Bool)
placing n none ps = ps
placing n plain ps = (n, false) ∷ ps
placing n returning ps = (n, true) ∷ ps

unfoldable places : ℕ → List Item → List (ℕ × Bool)
places n [] = []
places n (item c m ∷ is) = placing (suc n) m (places (suc n) is)

tokens_strip : (cs : List Compared) → without_gaps cs ≡ strip (items cs)
unfolding without_gaps items strip
tokens_strip [] = refl
tokens_strip (c ∷ cs) = go (is_gap c) (tokens_strip cs)
  where
    go : (t : Bool) → without_gaps cs ≡ strip (items cs) → cond t (without_gaps cs) (c ∷ without_gaps cs) ≡ strip (cond t (items cs) (item c (gap_next c.kind cs) ∷ items cs))
    go true h = h
    go false h = ap (λ (l : List Compared). c ∷ l) h

-- ---- gaps never stand side by side, so each place is told once

module _ (settings : Settings) where
  abbrev Placed : List ℕ → Type 0
  Placed z = (memory : Memory) (n : ℕ) → is_blank z ≡ false → gaps n (read_from settings memory 0 z) ≡ places n (items (read_from settings memory 0 z))

  placed_nil : Placed []
  unfolding gaps items places
  placed_nil memory n h = rw (read_none settings memory)

  -- behind a token of some kind: y
  module _ (memory : Memory) (kind : TokenKind) (n : ℕ) where
    abbrev told_of : List ℕ → List (ℕ × Bool)
    told_of z = places (suc n) (items (read_from settings memory 0 z))

    behind : (y : List ℕ) → sort_after kind (gap_of y) ≡ returns (gap_of y) → gaps (suc n) (read_from settings memory 0 (after_gap y)) ≡ told_of (after_gap y)
        → gaps (suc n) (read_from settings memory 0 y) ≡ placing (suc n) (mark kind y) (told_of (after_gap y))
    unfolding gaps mark
    behind [] f h = rw none_blank (ap (λ (l : List ℕ). gaps (suc n) (read_from settings memory 0 l)) (sym (after_nil)) ∙ h)
      where
        after_nil : after_gap [] ≡ []
        after_nil = rw (run_text [] none_blank)
    behind (b ∷ x) f h = go (is_blank (b ∷ x)) refl
      where
        turn : (t u : Bool) (k : ℕ) (ps : List (ℕ × Bool)) → cond (u && not t) ps ((k, t) ∷ ps) ≡ placing k (mark_end t u) ps
        turn true true k ps = refl
        turn true false k ps = refl
        turn false true k ps = refl
        turn false false k ps = refl

        go : (t : Bool) → is_blank (b ∷ x) ≡ t
            → gaps (suc n) (read_from settings memory 0 (b ∷ x)) ≡ placing (suc n) (cond t (mark_end (sort_after kind (gap_of (b ∷ x))) (is_nil (after_gap (b ∷ x)))) none) (told_of (after_gap (b ∷ x)))
        go true e =
            rw (read_gap settings memory b x e, is_gap_lem (run is_whitespace 0 (b ∷ x)) (b ∷ x), ne_eqb (suc n) 0 (omega arith), only_gaps_lem settings memory (after_gap (b ∷ x)) (gap_of_lem (b ∷ x)).ended, h, f)
            (turn (returns (gap_of (b ∷ x))) (is_nil (after_gap (b ∷ x))) (suc n) (told_of (after_gap (b ∷ x))))
        go false e = let k : after_gap (b ∷ x) ≡ b ∷ x = rw (run_text (b ∷ x) e) in ap (λ (l : List ℕ). gaps (suc n) (read_from settings memory 0 l)) (sym k) ∙ h

  -- behind a line comment no gap returns
  sort_is : (memory : Memory) (b : ℕ) (x : List ℕ) (f : Found settings memory b x) → is_blank (b ∷ x) ≡ false
      → sort_after (given_out settings.joins f.p.kind) (gap_of (drop f.n x)) ≡ returns (gap_of (drop f.n x))
  sort_is memory b x f w = rw (given_line settings.joins f.p.kind) (go (is_kind f.p.kind K.LineComment) refl)
    where
      go : (t : Bool) → is_kind f.p.kind K.LineComment ≡ t → cond t false (returns (gap_of (drop f.n x))) ≡ returns (gap_of (drop f.n x))
      go true e =
          sym (returns_part (run is_whitespace 0 (drop f.n x)) (drop f.n x) (no_newline (after_gap (drop f.n x)) (gap_of_lem (drop f.n x)).ended) ((told settings memory b x w f.p f.is f.n f.long).1 e).behind)
      go false e = refl

  placed_cons : (b : ℕ) (x : List ℕ) → ((k : ℕ) → Placed (drop k x)) → Placed (b ∷ x)
  unfolding gaps places
  placed_cons b x ih memory n h =
      let f = found settings memory b x in
      rw (items_one settings memory b x f.p f.n h f.is f.long, read_one settings memory b x f.p f.n f.is f.long, compared_no_gap settings memory b x f.p h f.is)
      (behind (past memory f.p (b ∷ x)) (given_out settings.joins f.p.kind) n (drop f.n x) (sort_is memory b x f h) (rest f.n (past memory f.p (b ∷ x))))
    where
      rest : (k : ℕ) (m : Memory) → gaps (suc n) (read_from settings m 0 (after_gap (drop k x))) ≡ places (suc n) (items (read_from settings m 0 (after_gap (drop k x))))
      rest k m = all m (suc n) (gap_of_lem (drop k x)).ended
        where
          all : Placed (after_gap (drop k x))
          all = rw (drop-drop (run is_whitespace 0 (drop k x)) k x) (ih (k + run is_whitespace 0 (drop k x)))

  placed_all : (z : List ℕ) → Placed z
  placed_all z = each_rest Placed placed_nil placed_cons z 0

  -- an outer gap at the start is not told
  placed_from : (memory : Memory) (s : List ℕ) → gaps 0 (read_from settings memory 0 s) ≡ places 0 (items (read_from settings memory 0 s))
  placed_from memory [] = placed_all [] memory 0 none_blank
  placed_from memory (b ∷ x) = go (is_blank (b ∷ x)) refl
    where
      go : (t : Bool) → is_blank (b ∷ x) ≡ t → gaps 0 (read_from settings memory 0 (b ∷ x)) ≡ places 0 (items (read_from settings memory 0 (b ∷ x)))
      go true e = leading
        where
          leading : gaps 0 (read_from settings memory 0 (b ∷ x)) ≡ places 0 (items (read_from settings memory 0 (b ∷ x)))
          leading = ap (gaps 0) (read_gap settings memory b x e) ∙ out ∙ ap (λ (cs : List Compared). places 0 (items cs)) (sym (read_gap settings memory b x e))
            where
              out : gaps 0 (gap_compared (run is_whitespace 0 (b ∷ x)) (b ∷ x) ∷ read_from settings memory 0 (after_gap (b ∷ x)))
                  ≡ places 0 (items (gap_compared (run is_whitespace 0 (b ∷ x)) (b ∷ x) ∷ read_from settings memory 0 (after_gap (b ∷ x))))
              out = unfold gaps in unfold items in rw (is_gap_lem (run is_whitespace 0 (b ∷ x)) (b ∷ x)) (placed_all (after_gap (b ∷ x)) memory 0 (gap_of_lem (b ∷ x)).ended)
      go false e = placed_all (b ∷ x) memory 0 e

  gaps_are : (s : List ℕ) → gaps 0 (reading settings s) ≡ places 0 (items (reading settings s))
  gaps_are s = rw (reading_is settings s) (placed_from start s)

-- ---- items from tokens and places

places_above : (n : ℕ) (is : List Item) (k : ℕ × Bool) (ks : List (ℕ × Bool)) → places n is ≡ k ∷ ks → n < k.0
unfolding places
places_above n [] k ks e = absurd (let z : ◌≡◌ {A = ℕ} 0 1 = cc in let y : ⊥ = omega arith in y)
places_above n (item c plain ∷ is) k ks e = let j : (suc n, false) ≡ k = cc in let i : suc n ≡ k.0 = ap (λ (q : ℕ × Bool). q.0) j in omega arith
places_above n (item c returning ∷ is) k ks e = let j : (suc n, true) ≡ k = cc in let i : suc n ≡ k.0 = ap (λ (q : ℕ × Bool). q.0) j in omega arith
places_above n (item c none ∷ is) k ks e = let j = places_above (suc n) is k ks e in omega arith

-- the same tokens and places: the same first mark, and then on
same_mark : (n : ℕ) (m m' : Mark) (is js : List Item) → placing (suc n) m (places (suc n) is) ≡ placing (suc n) m' (places (suc n) js) → (m ≡ m') × (places (suc n) is ≡ places (suc n) js)
same_mark n none none is js f = (refl, f)
same_mark n plain plain is js f = (refl, let k : places (suc n) is ≡ places (suc n) js = cc in k)
same_mark n returning returning is js f = (refl, let k : places (suc n) is ≡ places (suc n) js = cc in k)
same_mark n none plain is js f = absurd (let h = places_above (suc n) is (suc n, false) (places (suc n) js) f in let y : ⊥ = omega arith in y)
same_mark n none returning is js f = absurd (let h = places_above (suc n) is (suc n, true) (places (suc n) js) f in let y : ⊥ = omega arith in y)
same_mark n plain none is js f = absurd (let h = places_above (suc n) js (suc n, false) (places (suc n) is) (sym f) in let y : ⊥ = omega arith in y)
same_mark n returning none is js f = absurd (let h = places_above (suc n) js (suc n, true) (places (suc n) is) (sym f) in let y : ⊥ = omega arith in y)
same_mark n plain returning is js f = absurd (let j : (suc n, false) ≡ (suc n, true) = cc in false≢true (ap (λ (q : ℕ × Bool). q.1) j))
same_mark n returning plain is js f = absurd (let j : (suc n, true) ≡ (suc n, false) = cc in false≢true (sym (ap (λ (q : ℕ × Bool). q.1) j)))

items_same : (n : ℕ) (is js : List Item) → strip is ≡ strip js → places n is ≡ places n js → is ≡ js
unfolding strip places
items_same n [] [] e f = refl
items_same n [] (item d h ∷ js) e f = absurd (let z : ◌≡◌ {A = ℕ} 0 1 = cc in let y : ⊥ = omega arith in y)
items_same n (item c g ∷ is) [] e f = absurd (let z : ◌≡◌ {A = ℕ} 0 1 = cc in let y : ⊥ = omega arith in y)
items_same n (item c g ∷ is) (item d h ∷ js) e f =
    let i : c ≡ d = cc in
    let j : strip is ≡ strip js = cc in
    let k = same_mark n g h is js f in
    rw (i, k.0, items_same (suc n) is js j k.1)

module _ (settings : Settings) (s t : List ℕ) where
  pub agree_items : Agree settings s t → items (reading settings s) ≡ items (reading settings t)
  agree_items a =
      items_same 0 (items (reading settings s)) (items (reading settings t))
      (sym (tokens_strip (reading settings s)) ∙ a.same_tokens ∙ tokens_strip (reading settings t))
      (sym (gaps_are settings s) ∙ a.same_gaps ∙ gaps_are settings t)

  pub items_agree : items (reading settings s) ≡ items (reading settings t) → Agree settings s t
  items_agree e =
      record {
        same_tokens = tokens_strip (reading settings s) ∙ ap strip e ∙ sym (tokens_strip (reading settings t));
        same_gaps = gaps_are settings s ∙ ap (places 0) e ∙ sym (gaps_are settings t);
      }
