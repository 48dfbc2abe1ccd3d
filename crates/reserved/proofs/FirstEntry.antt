-- The first of the entries that stands in a text: only one with the text's first letter can.
-- Assumes nothing.
use Rattle.std.proofs.Common.{Option, Some, None, slice_get}
use Prim.Native.Nat.{ℕ, suc, ◌+◌, ◌≤◌, ◌<◌}
use native.Mathlib.Nat.{not-suc-le-zero}
use native.Mathlib.Numerals.{add-one}
use mathlib.Core.Path.{◌≡◌, refl, sym, ◌∙◌}
use mathlib.Core.List.{List, [], ◌∷◌}
use mathlib.Core.Bool.{Bool, true, false, cond, not, ◌&&◌, and-eq-true_iff}
use lib.ListN.{length, drop, get_or, drop_of_length-le}
use lib.Seq.{drop-cons}
use lib.Dec.{leb, eqb}
use borrow.Author.Tests.{ne_eqb, eqb-false, leb-true, not-true}
use Rattle.recognisers.specs.Taking.{one, capital}
use Rattle.reserved.specs.Phrases.{walk, each}
use Rattle.reserved.specs.TopLevel.{creatable, alterable_or_droppable, each_dropped, top_level_phrases}
use Rattle.reserved.specs.NewlineAfter.{newline_after_phrases}
use Rattle.reserved.specs.Newline.{newline_phrases}
use Rattle.reserved.specs.Join.{join_phrases}
use Rattle.reserved.specs.NoIndent.{no_indent_phrases}
use Rattle.reserved.specs.Plain.{plain_two_phrases, plain_one_phrases, plain_a, plain_b, plain_c, plain_d, plain_e, plain_f, plain_g, plain_h, plain_i, plain_k, plain_l, plain_m, plain_n, plain_o, plain_p, plain_q, plain_r, plain_s, plain_t, plain_u, plain_v, plain_w, plain_y}
use Rattle.reserved.specs.declared.entries.Group.{Group}
use Rattle.reserved.specs.declared.entries.Entry.{Entry}
use Rattle.reserved.specs.Inner.Entries.{grouped, entries, entry_end, chosen, find_entry, listed, entries_of}

-- ---- the loop of `find_in`

pub record SearchedTo (es : List Entry) (s : List ℕ) (i : ℕ) : Type 0 where
  pub same : find_entry (listed es) s ≡ find_entry (listed (drop i es)) s

module _ (es : List Entry) (s : List ℕ) (i : ℕ) (d : Entry) (w : SearchedTo es s i) (h : i < length es) where
  found : find_entry (listed es) s ≡ chosen (get_or es i d).0 (entry_end (get_or es i d).0 (get_or es i d).1.now s) (find_entry (listed (drop (suc i) es)) s)
  unfolding find_entry listed
  found = w.same ∙ rw (drop-cons es i d h)

  pub found_here : (n : ℕ) → Some n ≡ entry_end (get_or es i d).0 (get_or es i d).1.now s → Some ((get_or es i d).0, n) ≡ find_entry (listed es) s
  found_here n e = sym (found ∙ rw (← e))

  pub found_later : None ≡ entry_end (get_or es i d).0 (get_or es i d).1.now s → SearchedTo es s (i + 1)
  found_later e = record { same = found ∙ rw (← e, add-one i) }

  -- whatever its group
  pub found_apart : (words : List ℕ) → words ≡ (get_or es i d).1.now → ((group : Group) → None ≡ entry_end group words s) → SearchedTo es s (i + 1)
  found_apart words q f = found_later (rw (← q) (f (get_or es i d).0))

pub found_nowhere : (es : List Entry) (s : List ℕ) (i : ℕ) → SearchedTo es s i → length es ≤ i → None ≡ find_entry (listed es) s
unfolding find_entry listed
found_nowhere es s i w h = sym (w.same ∙ rw (drop_of_length-le es h))

-- ---- only entries with the text's first letter can stand there

-- every entry has words, which begin with no space
abbrev lettered : List (Group × List ℕ) → Bool
lettered [] = true
lettered (e ∷ es) = (leb 1 (length e.1) && not (eqb (get_or e.1 0 0) 32)) && lettered es

record Lettered (e : Group × List ℕ) (es : List (Group × List ℕ)) : Type 0 where
  some : 1 ≤ length e.1
  letter : get_or e.1 0 0 ≡ 32 → ⊥
  rest : lettered es ≡ true

lettered_first : (e : Group × List ℕ) (es : List (Group × List ℕ)) → lettered (e ∷ es) ≡ true → Lettered e es
lettered_first e es l =
    let a = (and-eq-true_iff (leb 1 (length e.1) && not (eqb (get_or e.1 0 0) 32)) (lettered es)).0 l in
    let b = (and-eq-true_iff (leb 1 (length e.1)) (not (eqb (get_or e.1 0 0) 32))).0 a.0 in
    record {
      some = leb-true 1 (length e.1) b.0;
      letter = eqb-false (get_or e.1 0 0) 32 (not-true (eqb (get_or e.1 0 0) 32) b.1);
      rest = a.1;
    }

-- such words do not stand in a text that begins otherwise, or in none
other_fails : (group : Group) (words s : List ℕ) → 1 ≤ length words → (get_or words 0 0 ≡ 32 → ⊥) → (capital (get_or s 0 0) ≡ get_or words 0 0 → ⊥) → entry_end group words s ≡ None
unfolding entry_end walk one
other_fails group [] s o n c = absurd (not-suc-le-zero o)
other_fails group (p ∷ words) [] o n c = rw (ne_eqb p 32 n)
other_fails group (p ∷ words) (b ∷ s) o n c = rw (ne_eqb p 32 n, ne_eqb (capital b) p c)

letter_find : (letter : ℕ) (es : List (Group × List ℕ)) (s : List ℕ) → lettered es ≡ true → capital (get_or s 0 0) ≡ letter → find_entry (entries_of letter es) s ≡ find_entry es s
unfolding find_entry entries_of
letter_find letter [] s l c = refl
letter_find letter (e ∷ es) s l c =
    let f = lettered_first e es l in
    go (eqb (get_or e.1 0 0) letter) refl f (letter_find letter es s f.rest c)
  where
    go : (t : Bool) → eqb (get_or e.1 0 0) letter ≡ t → Lettered e es → find_entry (entries_of letter es) s ≡ find_entry es s
        → find_entry (cond (eqb (get_or e.1 0 0) letter) (e ∷ entries_of letter es) (entries_of letter es)) s ≡ chosen e.0 (entry_end e.0 e.1 s) (find_entry es s)
    go true q f ih = rw (q, ih)
    go false q f ih =
        rw (q, ih, other_fails e.0 e.1 s f.some f.letter (λ y. eqb-false (get_or e.1 0 0) letter q (sym y ∙ c)))

-- ---- as `find_phrase` uses them

-- one test that the checker computes over all phrases
all_lettered : lettered entries ≡ true
unfolding entries grouped top_level_phrases creatable alterable_or_droppable each each_dropped newline_after_phrases newline_phrases join_phrases no_indent_phrases plain_two_phrases plain_one_phrases plain_a plain_b plain_c plain_d plain_e plain_f plain_g plain_h plain_i plain_k plain_l plain_m plain_n plain_o plain_p plain_q plain_r plain_s plain_t plain_u plain_v plain_w plain_y
all_lettered = refl

pub letter_is : (s : List ℕ) (x : ℕ) → x ≡ capital (get_or s 0 0) → find_entry (entries_of x entries) s ≡ find_entry entries s
letter_is s x c = letter_find x entries s all_lettered (sym c)

none_starts : (es : List (Group × List ℕ)) → lettered es ≡ true → None ≡ find_entry es []
unfolding find_entry entry_end walk one
none_starts [] l = refl
none_starts (e ∷ es) l =
    let f = lettered_first e es l in
    rw (no_words e.1 f.some f.letter) (none_starts es f.rest)
  where
    no_words : (words : List ℕ) → 1 ≤ length words → (get_or words 0 0 ≡ 32 → ⊥) → entry_end e.0 words [] ≡ None
    no_words [] o n = absurd (not-suc-le-zero o)
    no_words (p ∷ words) o n = rw (ne_eqb p 32 n)

pub no_text : (s : List ℕ) → None ≡ slice_get s 0 → (t : Option (Group × ℕ)) → t ≡ None → t ≡ find_entry entries s
no_text [] h t e = e ∙ none_starts entries all_lettered
no_text (b ∷ s) h t e = absurd (let z : ⊥ = cc in z)
