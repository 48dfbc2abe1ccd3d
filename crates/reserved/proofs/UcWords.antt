-- The Rust's own way to a reserved phrase takes what `walk` takes, on any bytes that do not begin with whitespace.
-- Assumes nothing.
use Rattle.std.proofs.Common.{Option, Some, None}
use Prim.Native.Nat.{ℕ, zero, suc}
use native.Mathlib.Omega.{arith}
use mathlib.Core.Path.{◌≡◌, refl, sym, ap, ◌∙◌}
use mathlib.Core.List.{List, [], ◌∷◌, ◌++◌}
use mathlib.Core.Bool.{Bool, true, false, cond, ◌&&◌, false≢true, true≢false, and-eq-true_iff}
use lib.ListN.{length, take, drop}
use lib.Dec.{eqb}
use borrow.Author.Tests.{eqb-true}
use Rattle.characters.specs.Classes.{is_whitespace, is_word_character}
use Rattle.characters.specs.Character.{code_point}
use Rattle.characters.specs.Runs.{run}
use Rattle.recognisers.specs.Text.{bytes}
use Rattle.recognisers.specs.Taking.{Taker, more, done, one, typed, spelled, literal, end_of_word}
use Rattle.recognisers.proofs.Spelling.{not_fails}
use Rattle.reserved.specs.Phrases.{walk, after, optional, phrase, phrase_if_exists}
use Rattle.reserved.specs.UcWords.{trim_start, split_whitespace, get_uc_words, last_word, finalize, opt, uc_phrase, finalized, phrase_by_uc_words}
use Rattle.reserved.specs.UcChoices.{behind}
use Rattle.reserved.proofs.Behind.{behind_same, literal_behind}
use Rattle.reserved.proofs.PhraseWalk.{walk_step, walk_and}
use Rattle.reserved.proofs.UcAhead.{begins, shaped, ahead, ahead_end, stands, done_alike, end_of_word_alike, stands_alike, letter_shape, no_gap}
use Rattle.reserved.proofs.UcFind.{left_of, letter_of, no_letter_at_end, ends_itself, finalize_walk}

-- the words that `get_uc_words` takes, where the text begins with one
trim_none : (s : List ℕ) → is_whitespace (code_point s) ≡ false → trim_start s ≡ s
unfolding run
trim_none [] w = refl
trim_none (b ∷ s) w = rw w

pub uc_ahead : (n : ℕ) (s : List ℕ) → is_whitespace (code_point s) ≡ false → get_uc_words (suc n) s ≡ ahead 0 n s
unfolding get_uc_words split_whitespace
uc_ahead n [] w = rw (trim_none [] w) (sym (ahead_end 0 n))
uc_ahead n (b ∷ s) w = rw (trim_none (b ∷ s) w)

-- ---- what `.take()` gives

end_takes_none : (s : List ℕ) (m : ℕ) → end_of_word s ≡ Some m → m ≡ 0
unfolding end_of_word
end_takes_none s m e = go (is_word_character (code_point s)) e
  where
    go : (t : Bool) → cond t None (Some 0) ≡ Some m → m ≡ 0
    go true f = not_fails m f
    go false f = let g : 0 ≡ m = cc in sym g

-- the token is the phrase
record Token (words uc : List ℕ) (m : ℕ) : Type 0 where
  size : m ≡ length words
  is : take m uc ≡ words

token_is : (words uc : List ℕ) (m : ℕ) → literal words end_of_word uc ≡ Some m → Token words uc m
unfolding spelled one typed
token_is [] uc m e = let z = end_takes_none uc m e in record { size = z; is = rw z }
token_is (p ∷ words) [] m e = not_fails m e
token_is (p ∷ words) (x ∷ uc) m e = go (eqb x p) refl (token_is words uc)
  where
    go : (t : Bool) → eqb x p ≡ t → ((k : ℕ) → literal words end_of_word uc ≡ Some k → Token words uc k) → Token (p ∷ words) (x ∷ uc) m
    go true q ih =
        let f : more 1 (literal words end_of_word uc) ≡ Some m = rw q at e in
        let l = left_of 1 (literal words end_of_word uc) m f in
        let r = ih l.left l.is in
        let sum = l.sum in
        let size = r.size in
        let m_is : m ≡ suc l.left = omega arith in
        record { size = omega arith; is = rw (m_is, eqb-true x p q, r.is) }
    go false q ih = not_fails m (rw q at e)

walk_done : (words s : List ℕ) (m : ℕ) → walk words end_of_word s ≡ Some m → walk words done s ≡ Some m
walk_done words s m e = go (walk words done s) refl
  where
    go : (t : Option ℕ) → walk words done s ≡ t → walk words done s ≡ Some m
    go (Some a) q =
        let f : more a (end_of_word (drop a s)) ≡ Some m = ap (λ (t : Option ℕ). behind t end_of_word s) (sym q) ∙ (sym (walk_and words end_of_word s) ∙ e) in
        let l = left_of a (end_of_word (drop a s)) m f in
        let z = end_takes_none (drop a s) l.left l.is in
        let sum = l.sum in
        q ∙ ap Some (omega arith)
    go None q = not_fails m (ap (λ (t : Option ℕ). behind t end_of_word s) (sym q) ∙ (sym (walk_and words end_of_word s) ∙ e))

-- ---- one phrase

-- it begins with a word, has at most n, and its last word is found first at its own place
abbrev pub is_phrase : ℕ → List ℕ → Bool
is_phrase zero words = false
is_phrase (suc n) words = (begins words && shaped n words) && ends_itself words (last_word words)

record IsPhrase (n : ℕ) (words : List ℕ) : Type 0 where
  shape : shaped n words ≡ true
  ends : ends_itself words (last_word words) ≡ true

is_phrase_lem : (n : ℕ) (words : List ℕ) → is_phrase (suc n) words ≡ true → IsPhrase n words
is_phrase_lem n words h =
    let h₂ = (and-eq-true_iff (begins words && shaped n words) (ends_itself words (last_word words))).0 h in
    let h₃ = (and-eq-true_iff (begins words) (shaped n words)).0 h₂.0 in
    record { shape = h₃.1; ends = h₂.1 }

pub agrees : (n : ℕ) (words s : List ℕ) → is_phrase n words ≡ true → is_whitespace (code_point s) ≡ false → phrase_by_uc_words n (phrase words) s ≡ walk words end_of_word s
unfolding phrase_by_uc_words uc_phrase
agrees zero words s h w = absurd (false≢true h)
agrees (suc n) words s h w =
    go (literal words end_of_word (get_uc_words (suc n) s)) refl (walk words end_of_word s) refl
    (ap (λ (u : List ℕ). stands (literal words end_of_word u)) (uc_ahead n s w) ∙ stands_alike end_of_word end_of_word_alike words n s (is_phrase_lem n words h).shape)
  where
    go : (t : Option ℕ) → literal words end_of_word (get_uc_words (suc n) s) ≡ t → (u : Option ℕ) → walk words end_of_word s ≡ u
        → stands (literal words end_of_word (get_uc_words (suc n) s)) ≡ stands (walk words end_of_word s)
        → finalized s (get_uc_words (suc n) s) t ≡ u
    go (Some k) e (Some m) f g =
        ap Some
        (ap (finalize s) (token_is words (get_uc_words (suc n) s) k e).is ∙ finalize_walk words s m (is_phrase_lem n words h).ends (walk_done words s m f))
    go (Some k) e None f g = absurd (true≢false (ap stands (sym e) ∙ (g ∙ ap stands f)))
    go None e (Some m) f g = absurd (false≢true (ap stands (sym e) ∙ (g ∙ ap stands f)))
    go None e None f g = refl

-- ---- with `opt`

-- a part that goes on with what follows where it has taken its bytes, and does not come back
abbrev Forward : (Taker → Taker) → Type 0
Forward part = (then : Taker) (s : List ℕ) → part then s ≡ behind (part done s) then s

-- `opt(..)` between a part and the end of the word
module _ (first second : Taker → Taker) (f : Forward first) (g : Forward second) (s : List ℕ) where
  abbrev maybe : Taker
  maybe t = after (second done t) end_of_word t

  opt_yes : stands (first (second done) s) ≡ true → first maybe s ≡ first (second end_of_word) s
  opt_yes e = f maybe s ∙ go (first done s) (rw (f (second done) s) at e) ∙ sym (f (second end_of_word) s)
    where
      inner : (n : ℕ) (t : Option ℕ) → second done (drop n s) ≡ t → stands (more n t) ≡ true → after t end_of_word (drop n s) ≡ behind t end_of_word (drop n s)
      inner n (Some k) q h = refl
      inner n None q h = absurd (false≢true h)

      go : (t : Option ℕ) → stands (behind t (second done) s) ≡ true → behind t maybe s ≡ behind t (second end_of_word) s
      go (Some n) h = ap (more n) (inner n (second done (drop n s)) refl h ∙ sym (g end_of_word (drop n s)))
      go None h = refl

  opt_no : stands (first (second done) s) ≡ false → first maybe s ≡ first end_of_word s
  opt_no e = f maybe s ∙ go (first done s) (rw (f (second done) s) at e) ∙ sym (f end_of_word s)
    where
      inner : (n : ℕ) (t : Option ℕ) → stands (more n t) ≡ false → after t end_of_word (drop n s) ≡ end_of_word (drop n s)
      inner n (Some k) h = absurd (true≢false h)
      inner n None h = refl

      go : (t : Option ℕ) → stands (behind t (second done) s) ≡ false → behind t maybe s ≡ behind t end_of_word s
      go (Some n) h = ap (more n) (inner n (second done (drop n s)) h)
      go None h = refl

walk_append : (words more : List ℕ) (then : Taker) (s : List ℕ) → walk (words ++ more) then s ≡ walk words (walk more then) s
unfolding walk
walk_append [] more then s = refl
walk_append (p ∷ words) more then s =
    walk_step p (words ++ more) then s
    ∙ behind_same (walk (p ∷ []) done s) (walk (words ++ more) then) (walk words (walk more then)) s (walk_append words more then)
    ∙ sym (walk_step p words (walk more then) s)

pub literal_append : (words more : List ℕ) (then : Taker) (s : List ℕ) → literal (words ++ more) then s ≡ literal words (literal more then) s
unfolding spelled one
literal_append [] more then s = refl
literal_append (p ∷ words) more then [] = refl
literal_append (p ∷ words) more then (b ∷ s) = rw (literal_append words more then s)

-- ---- a phrase with IF EXISTS behind it, or not

module _ (n : ℕ) (words s : List ℕ) (h : is_phrase n words ≡ true) (w : is_whitespace (code_point s) ≡ false) where
  abbrev exists : List ℕ
  exists = bytes " IF EXISTS"

  abbrev uc : List ℕ
  uc = get_uc_words n s

  module _ (h₂ : is_phrase n (words ++ exists) ≡ true) where
    both_stand : (n : ℕ) → is_phrase n (words ++ exists) ≡ true → stands (literal (words ++ exists) done (get_uc_words n s)) ≡ stands (walk (words ++ exists) done s)
    both_stand zero q = absurd (false≢true q)
    both_stand (suc n) q =
        ap (λ (u : List ℕ). stands (literal (words ++ exists) done u)) (uc_ahead n s w) ∙ stands_alike done done_alike (words ++ exists) n s (is_phrase_lem n (words ++ exists) q).shape

    pub agrees_if_exists : phrase_by_uc_words n (phrase_if_exists words) s ≡ walk words (optional exists end_of_word) s
    unfolding phrase_by_uc_words uc_phrase opt optional
    agrees_if_exists = go (stands (walk (words ++ exists) done s)) refl
      where
        go : (t : Bool) → stands (walk (words ++ exists) done s) ≡ t → finalized s uc (literal words (opt exists end_of_word) uc) ≡ walk words (optional exists end_of_word) s
        go true e =
            ap (finalized s uc) (opt_yes (literal words) (literal exists) (literal_behind words) (literal_behind exists) uc (ap stands (sym (literal_append words exists done uc)) ∙ (both_stand n h₂ ∙ e)))
            ∙ ap (finalized s uc) (sym (literal_append words exists end_of_word uc))
            ∙ agrees n (words ++ exists) s h₂ w
            ∙ walk_append words exists end_of_word s
            ∙ sym (opt_yes (walk words) (walk exists) (walk_and words) (walk_and exists) s (ap stands (sym (walk_append words exists done s)) ∙ e))
        go false e =
            ap (finalized s uc) (opt_no (literal words) (literal exists) (literal_behind words) (literal_behind exists) uc (ap stands (sym (literal_append words exists done uc)) ∙ (both_stand n h₂ ∙ e)))
            ∙ agrees n words s h w
            ∙ sym (opt_no (walk words) (walk exists) (walk_and words) (walk_and exists) s (ap stands (sym (walk_append words exists done s)) ∙ e))

-- ---- a phrase of one word, which is taken by its own length

single_walk : (words s : List ℕ) (m : ℕ) → shaped 0 words ≡ true → walk words done s ≡ Some m → m ≡ length words
unfolding walk
single_walk [] s m h e = let f : 0 ≡ m = cc in sym f
single_walk (p ∷ words) s m h e = go (eqb p 32) refl s e (single_walk words)
  where
    go : (t : Bool) → eqb p 32 ≡ t → (s : List ℕ) → walk (p ∷ words) done s ≡ Some m → ((t : List ℕ) (k : ℕ) → shaped 0 words ≡ true → walk words done t ≡ Some k → k ≡ length words) → m ≡ suc (length words)
    go true q s f ih = no_gap words (rw (eqb-true p 32 q) at h)
    go false q [] f ih = no_letter_at_end p words m q f
    go false q (b ∷ s) f ih =
        let a = letter_of p words b s m q f in
        let k = ih s a.rest.left (letter_shape 0 p words q h).1 a.rest.is in
        let sum = a.rest.sum in
        omega arith

pub agrees_one : (words s : List ℕ) → is_phrase 1 words ≡ true → is_whitespace (code_point s) ≡ false → uc_phrase (phrase words) (get_uc_words 1 s) ≡ walk words end_of_word s
unfolding phrase_by_uc_words uc_phrase
agrees_one words s h w = go (literal words end_of_word (get_uc_words 1 s)) refl (walk words end_of_word s) refl (agrees 1 words s h w)
  where
    go : (t : Option ℕ) → literal words end_of_word (get_uc_words 1 s) ≡ t → (u : Option ℕ) → walk words end_of_word s ≡ u
        → finalized s (get_uc_words 1 s) (literal words end_of_word (get_uc_words 1 s)) ≡ walk words end_of_word s
        → t ≡ u
    go (Some k) e (Some m) f g =
        ap Some ((token_is words (get_uc_words 1 s) k e).size ∙ sym (single_walk words s m (is_phrase_lem 0 words h).shape (walk_done words s m f)))
    go (Some k) e None f g = not_fails (finalize s (take k (get_uc_words 1 s))) (sym f ∙ (sym g ∙ ap (finalized s (get_uc_words 1 s)) e))
    go None e (Some m) f g = not_fails m (ap (finalized s (get_uc_words 1 s)) (sym e) ∙ (g ∙ f))
    go None e None f g = refl
