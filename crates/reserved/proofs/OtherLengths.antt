-- Words that begin with a word of another length than the text do not stand there.
-- Assumes nothing.
use Rattle.std.proofs.Common.{Option, Some, None, slice_get}
use Prim.Native.Nat.{ℕ, suc, ◌≤◌}
use native.Mathlib.Omega.{arith}
use mathlib.Core.Path.{◌≡◌, refl, sym, ap, ◌∙◌}
use mathlib.Core.List.{List, [], ◌∷◌}
use mathlib.Core.Bool.{Bool, true, false, cond, beq, false≢true, true≢false, and-eq-true_iff}
use lib.ListN.{length}
use lib.Dec.{ltb, eqb}
use borrow.Author.Tests.{ltb-true, ltb-false, eqb-true, eqb-false}
use Rattle.characters.specs.Ranges.{within}
use Rattle.characters.specs.Ascii.{is_letter, is_ascii_word}
use Rattle.characters.specs.Character.{code_point}
use Rattle.characters.specs.Classes.{is_whitespace, is_word_character}
use Rattle.characters.proofs.AsciiRule.{word_byte}
use Rattle.characters.proofs.Below.{all_below, below}
use Rattle.characters.proofs.ClassesApart.{white_no_word}
use Rattle.characters.proofs.RunLaws.{ascii_first}
use Rattle.characters.proofs.Within.{above_not}
use Rattle.recognisers.specs.Inner.WordLength.{word_length}
use Rattle.recognisers.specs.Taking.{Taker, more, one, capital, blanks, end_of_word, count}
use Rattle.reserved.specs.Phrases.{walk, optional}
use Rattle.reserved.specs.declared.entries.Entry.{Entry}
use Rattle.reserved.specs.declared.entries.Group.{Group}
use Rattle.reserved.specs.declared.entries.Group.TheVariants.{TopLevel, Dropped, NewlineAfter, Newline, Join, NoIndent, Plain}
use Rattle.reserved.specs.Inner.Entries.{entries, if_exists, ending, entry_end, chosen, find_entry, listed, entries_of, entries_long}
use Rattle.reserved.proofs.FirstEntry.{letter_is}

-- ---- an ASCII word character at the start of the text

module _ (b : ℕ) (w : is_ascii_word b ≡ true) where
  word_told : ltb b 128 ≡ true × is_word_character b ≡ true
  word_told = (and-eq-true_iff (ltb b 128) (is_word_character b)).0 (sym (word_byte b) ∙ w)

  start_is : (s : List ℕ) → code_point (b ∷ s) ≡ b
  start_is s = ascii_first b s (ltb-true b 128 word_told.0)

  not_white : is_whitespace b ≡ false
  not_white = go (is_whitespace b) refl
    where
      go : (t : Bool) → is_whitespace b ≡ t → t ≡ false
      go true e = absurd (false≢true (sym (white_no_word b e) ∙ word_told.1))
      go false e = refl

  no_end : (s : List ℕ) → end_of_word (b ∷ s) ≡ None
  unfolding end_of_word
  no_end s = rw (start_is s, word_told.1)

  no_blanks : (then : Taker) (s : List ℕ) → blanks then (b ∷ s) ≡ None
  unfolding blanks
  no_blanks then s = rw (start_is s, not_white)

no_ending : (group : Group) (b : ℕ) (s : List ℕ) → is_ascii_word b ≡ true → ending group (b ∷ s) ≡ None
unfolding if_exists optional walk
no_ending TopLevel b s w = no_end b w s
no_ending Dropped b s w = rw (no_blanks b w _ s) (no_end b w s)
no_ending NewlineAfter b s w = no_end b w s
no_ending Newline b s w = no_end b w s
no_ending Join b s w = no_end b w s
no_ending NoIndent b s w = no_end b w s
no_ending Plain b s w = no_end b w s

-- ---- a letter and its capital are word characters both

as_it_is : (b : ℕ) → 128 ≤ b → capital b ≡ b
unfolding capital
as_it_is b l = rw (above_not 0x61 0x7A b (omega arith))

alike : ℕ → Bool
alike k = beq (is_ascii_word (capital k)) (is_ascii_word k)

all_alike : all_below alike 128 ≡ true
unfolding alike is_ascii_word is_letter within capital
all_alike = refl

pub capital_word : (b : ℕ) → is_ascii_word (capital b) ≡ is_ascii_word b
unfolding alike
capital_word b = go (ltb b 128) refl
  where
    same : (x y : Bool) → beq x y ≡ true → x ≡ y
    same true true e = refl
    same true false e = sym e
    same false true e = e
    same false false e = refl

    go : (t : Bool) → ltb b 128 ≡ t → is_ascii_word (capital b) ≡ is_ascii_word b
    go true q = same _ _ (below alike 128 all_alike b (ltb-true b 128 q))
    go false q = ap is_ascii_word (as_it_is b (ltb-false b 128 q))

pub no_space : (p : ℕ) → is_ascii_word p ≡ true → eqb p 32 ≡ false
unfolding is_ascii_word is_letter within
no_space p w = go (eqb p 32) refl
  where
    go : (t : Bool) → eqb p 32 ≡ t → t ≡ false
    go true q = absurd (false≢true (rw (eqb-true p 32 q) at w))
    go false q = refl

-- ---- words that begin with a word of another length than the text's

module _ (then : Taker) (stops : (b : ℕ) (s : List ℕ) → is_ascii_word b ≡ true → then (b ∷ s) ≡ None) where
  module _ (p : ℕ) (words : List ℕ) (b : ℕ) (s : List ℕ) where
    -- one is a word character and the other is none
    unlike : (t u : Bool) → is_ascii_word p ≡ t → is_ascii_word b ≡ u → (t ≡ u → ⊥) → eqb (capital b) p ≡ false
    unlike t u q v n = go (eqb (capital b) p) refl
      where
        go : (o : Bool) → eqb (capital b) p ≡ o → o ≡ false
        go true e = absurd (n (sym q ∙ ap is_ascii_word (sym (eqb-true (capital b) p e)) ∙ capital_word b ∙ v))
        go false e = refl

    walk_on : is_ascii_word b ≡ true → walk words then s ≡ None → walk (p ∷ words) then (b ∷ s) ≡ None
    unfolding walk one
    walk_on w ih = go (eqb p 32)
      where
        both : (u : Bool) → cond u (more 1 (walk words then s)) None ≡ None
        both true = rw ih
        both false = refl

        go : (t : Bool) → cond t (blanks (walk words then) (b ∷ s)) (cond (eqb (capital b) p) (more 1 (walk words then s)) None) ≡ None
        go true = no_blanks b w (walk words then) s
        go false = both (eqb (capital b) p)

    walk_here : (t u : Bool) → is_ascii_word p ≡ t → is_ascii_word b ≡ u
        → ((count is_ascii_word words ≡ count is_ascii_word s → ⊥) → walk words then s ≡ None)
        → (cond t (suc (count is_ascii_word words)) 0 ≡ cond u (suc (count is_ascii_word s)) 0 → ⊥) → walk (p ∷ words) then (b ∷ s) ≡ None
    unfolding walk one
    walk_here true true q v ih n = walk_on v (ih (λ e. n (ap suc e)))
    walk_here true false q v ih n = rw (no_space p q, unlike true false q v true≢false)
    walk_here false true q v ih n = go (eqb p 32)
      where
        go : (o : Bool) → cond o (blanks (walk words then) (b ∷ s)) (cond (eqb (capital b) p) (more 1 (walk words then s)) None) ≡ None
        go true = no_blanks b v (walk words then) s
        go false = rw (unlike false true q v false≢true)
    walk_here false false q v ih n = absurd (n refl)

  walk_length : (words s : List ℕ) → (count is_ascii_word words ≡ count is_ascii_word s → ⊥) → walk words then s ≡ None
  unfolding walk one count
  walk_length [] [] n = absurd (n refl)
  walk_length [] (b ∷ s) n = go (is_ascii_word b) refl n
    where
      go : (t : Bool) → is_ascii_word b ≡ t → (0 ≡ cond t (suc (count is_ascii_word s)) 0 → ⊥) → then (b ∷ s) ≡ None
      go true q l = stops b s q
      go false q l = absurd (l refl)
  walk_length (p ∷ words) [] n = go (is_ascii_word p) refl n
    where
      go : (t : Bool) → is_ascii_word p ≡ t → (cond t (suc (count is_ascii_word words)) 0 ≡ 0 → ⊥) → walk (p ∷ words) then [] ≡ None
      go true q l = rw (no_space p q)
      go false q l = absurd (l refl)
  walk_length (p ∷ words) (b ∷ s) n = walk_here p words b s (is_ascii_word p) (is_ascii_word b) refl refl (walk_length words s) n

pub entry_unlike : (group : Group) (words s : List ℕ) → (count is_ascii_word words ≡ word_length s → ⊥) → entry_end group words s ≡ None
unfolding entry_end word_length
entry_unlike group words s d = walk_length (ending group) (no_ending group) words s d

-- ---- only entries whose first word is as long as the text's can stand there

long_find : (es : List (Group × List ℕ)) (s : List ℕ) → find_entry (entries_long (word_length s) es) s ≡ find_entry es s
unfolding find_entry entries_long
long_find [] s = refl
long_find (e ∷ es) s = go (eqb (count is_ascii_word e.1) (word_length s)) refl (long_find es s)
  where
    go : (t : Bool) → eqb (count is_ascii_word e.1) (word_length s) ≡ t → find_entry (entries_long (word_length s) es) s ≡ find_entry es s
        → find_entry (cond (eqb (count is_ascii_word e.1) (word_length s)) (e ∷ entries_long (word_length s) es) (entries_long (word_length s) es)) s
        ≡ chosen e.0 (entry_end e.0 e.1 s) (find_entry es s)
    go true q ih = rw (q, ih)
    go false q ih = rw (q, ih, entry_unlike e.0 e.1 s (eqb-false (count is_ascii_word e.1) (word_length s) q))

-- ---- as `find_phrase` uses it

pub first_entry : (s : List ℕ) (b x n : ℕ) → Some b ≡ slice_get s 0 → x ≡ capital b → n ≡ word_length s → (es : List (Group × List ℕ)) → es ≡ entries_long n (entries_of x entries)
    → (t : Option (Group × ℕ)) → t ≡ find_entry es s → t ≡ find_entry entries s
first_entry [] b x n f c e es g t h = absurd (let z : ⊥ = cc in z)
first_entry (a ∷ s) b x n f c e es g t h =
    let k : b ≡ a = cc in
    h ∙ rw (g, e) (long_find (entries_of x entries) (a ∷ s)) ∙ letter_is (a ∷ s) x (rw k at c)

-- no entry, no phrase
pub no_entry : (s : List ℕ) (b x n : ℕ) → Some b ≡ slice_get s 0 → x ≡ capital b → n ≡ word_length s → (es : List Entry) → listed es ≡ entries_long n (entries_of x entries)
    → length es ≡ 0 → None ≡ find_entry entries s
unfolding find_entry listed
no_entry s b x n f c e [] g z = first_entry s b x n f c e [] g None refl
no_entry s b x n f c e (y ∷ es) g z = absurd (let z : ⊥ = omega arith in z)
