-- A taker's law: of x and x' with `Sim n x x'` it takes the same, as far as n tells.
-- Assumes nothing.
use Rattle.std.proofs.Common.{Option, Some, None}
use Prim.Native.Nat.{ℕ, zero, suc, ◌+◌}
use native.Mathlib.Numerals.{one-add}
use native.Mathlib.Omega.{arith}
use mathlib.Core.Path.{◌≡◌, refl, sym, ap, ◌∙◌}
use mathlib.Core.List.{List, [], ◌∷◌}
use mathlib.Core.Bool.{Bool, true, false, cond, not, ◌&&◌, false≢true}
use lib.ListN.{drop}
use lib.Dec.{leb, eqb}
use borrow.Author.Tests.{le-leb}
use Rattle.characters.specs.Character.{is_continuation, continuations, continued}
use Rattle.characters.specs.Classes.{is_whitespace, is_word_character}
use Rattle.characters.specs.Runs.{run}
use Rattle.recognisers.specs.Taking.{Taker, or, done, one, spelled, typed, blanks, end_of_word, digit0, digit1, count, is_digit, contains}
use Rattle.recognisers.specs.Taking as T
use Rattle.recognisers.proofs.Spelling.{more_zero, more_more}
use Rattle.characters.proofs.ClassesApart.{white_no_word, zero_no_word}
use Rattle.tight.proofs.Whitespace.{is_blank, none_blank, blank_byte, blank_whole, not_byte, range_quiet}
use Rattle.tight.proofs.Sim.{Conts, last, more, blank, Separator, space, newline, return, Ends, at_end_lem, at_separator, Sim, nil, keep, same, swap, lose, Blankish, ended, starts, blankish, separator_blank, separator_ish, ends_ish, class_sim, blank_sim}

-- both fail, or both take something; and where the first takes n bytes, so does the second
pub data Same : ℕ → Option ℕ → Option ℕ → Type 0 where
  neither : {n : ℕ} → Same n None None
  equal : {n m : ℕ} → Same n (Some m) (Some m)
  other : {n m m' : ℕ} → (m ≡ n → ⊥) → Same n (Some m) (Some m')

abbrev pub Law : Taker → Type 0
Law part = (n : ℕ) (x x' : List ℕ) → Sim n x x' → Same n (part x) (part x')

pub same_refl : (n : ℕ) (t : Option ℕ) → Same n t t
same_refl n (Some m) = equal
same_refl n None = neither

-- one byte more on both sides; on both sides, where none is kept; on the left side
pub both_more : {n : ℕ} {t t' : Option ℕ} → Same n t t' → Same (suc n) (T.more 1 t) (T.more 1 t')
both_more neither = neither
both_more equal = equal
both_more {n} (other {m} h) = other {n = suc n} (λ (e : 1 + m ≡ suc n). h (omega arith))

pub free_more : {n : ℕ} {t t' : Option ℕ} → Same n t t' → Same 0 (T.more 1 t) (T.more 1 t')
free_more neither = neither
free_more equal = equal
free_more (other {m} h) = other {n = 0} (λ (e : 1 + m ≡ 0). omega arith)

pub left_more : {n : ℕ} {t t' : Option ℕ} → Same n t t' → Same 0 (T.more 1 t) t'
left_more neither = neither
left_more (equal {m}) = other {n = 0} (λ (e : 1 + m ≡ 0). omega arith)
left_more (other {m} h) = other {n = 0} (λ (e : 1 + m ≡ 0). omega arith)

pub cond_same : {n : ℕ} (t : Bool) {o o' p p' : Option ℕ} → Same n o o' → Same n p p' → Same n (cond t o p) (cond t o' p')
cond_same true s r = s
cond_same false s r = r

pub or_same : {n : ℕ} {o o' p p' : Option ℕ} → Same n o o' → Same n p p' → Same n (or o p) (or o' p')
or_same neither r = r
or_same equal r = equal
or_same (other h) r = other h

pub done_law : Law done
done_law n x x' s = equal

-- ---- a byte that no whitespace character has

abbrev pub Quiet : (ℕ → Bool) → Type 0
Quiet test = (b : ℕ) → blank_byte b ≡ true → test b ≡ false

pub one_law : (test : ℕ → Bool) → Quiet test → (then : Taker) → Law then → Law (one test then)
unfolding one
one_law test quiet then l n x x' s = go s
  where
    none : {x : List ℕ} → Blankish x → one test then x ≡ None
    none ended = refl
    none (starts {b} c g w) = rw (quiet b g)

    go : {n : ℕ} {x x' : List ℕ} → Sim n x x' → Same n (one test then x) (one test then x')
    go nil = neither
    go (keep {n} {b} {x} {x'} s) = cond_same (test b) (both_more (l n x x' s)) neither
    go (same {n} {b} {x} {x'} s) = cond_same (test b) (free_more (l n x x' s)) neither
    go (swap {s = c} {y'} w q s) = rw (none (blankish w), none (separator_ish y' q)) neither
    go (lose w q s) = rw (none (blankish w), none (ends_ish q)) neither

-- bytes of a word, none of them whitespace's
abbrev pub all_quiet : List ℕ → Bool
all_quiet [] = true
all_quiet (w ∷ word) = not (blank_byte w) && all_quiet word

pub quiet_both : (t u : Bool) → (not t && u) ≡ true → (t ≡ false) × (u ≡ true)
quiet_both true u e = absurd (false≢true e)
quiet_both false u e = (refl, e)

-- a form that leaves the bytes of whitespace as they are
abbrev Leaves : (ℕ → ℕ) → Type 0
Leaves form = (b : ℕ) → blank_byte b ≡ true → form b ≡ b

pub typed_leaves : Leaves typed
unfolding typed
typed_leaves b h = refl

pub form_quiet : (form : ℕ → ℕ) → Leaves form → (w : ℕ) → blank_byte w ≡ false → Quiet (λ b. eqb (form b) w)
form_quiet form k w h b g = rw (k b g) (not_byte w b h g)

pub spelled_law : (form : ℕ → ℕ) → Leaves form → (word : List ℕ) → all_quiet word ≡ true → (then : Taker) → Law then → Law (spelled form word then)
unfolding spelled
spelled_law form k [] a then l n x x' s = l n x x' s
spelled_law form k (w ∷ word) a then l n x x' s =
    let b = quiet_both (blank_byte w) (all_quiet word) a in
    one_law (λ c. eqb (form c) w) (form_quiet form k w b.0) (spelled form word then) (spelled_law form k word b.1 then l) n x x' s

pub contains_quiet : (among : List ℕ) → all_quiet among ≡ true → Quiet (contains among)
unfolding contains
contains_quiet [] a b h = refl
contains_quiet (e ∷ among) a b h =
    let k = quiet_both (blank_byte e) (all_quiet among) a in
    rw (not_byte e b k.0 h) (contains_quiet among k.1 b h)

-- ---- digits

digit_quiet : Quiet is_digit
digit_quiet b h = range_quiet 0x30 0x39 (omega arith) (omega arith) b h

-- the bytes that pass a test, and what follows
unfoldable pub many : (ℕ → Bool) → Taker → Taker
many test then [] = then []
many test then (b ∷ x) = cond (test b) (T.more 1 (many test then x)) (then (b ∷ x))

pub many_law : (test : ℕ → Bool) → Quiet test → (then : Taker) → Law then → Law (many test then)
unfolding many
many_law test quiet then l n x x' s = go s
  where
    none : {x : List ℕ} → Blankish x → many test then x ≡ then x
    none ended = refl
    none (starts {b} c g w) = rw (quiet b g)

    go : {n : ℕ} {x x' : List ℕ} → Sim n x x' → Same n (many test then x) (many test then x')
    go {n} nil = same_refl n (then [])
    go (keep {n} {b} {x} {x'} s) = cond_same (test b) (both_more (go s)) (l (suc n) (b ∷ x) (b ∷ x') (keep s))
    go (same {n} {b} {x} {x'} s) = cond_same (test b) (free_more (go s)) (l 0 (b ∷ x) (b ∷ x') (same s))
    go (swap {s = c} {x} {y'} w q s) = rw (none (blankish w), none (separator_ish y' q)) (l 0 x (c ∷ y') (swap w q s))
    go (lose {x} {x'} w q s) = rw (none (blankish w), none (ends_ish q)) (l 0 x x' (lose w q s))

digit0_many : (then : Taker) (x : List ℕ) → digit0 then x ≡ many is_digit then x
unfolding digit0 many count
digit0_many then [] = more_zero (then [])
digit0_many then (b ∷ x) = go (is_digit b) (digit0_many then x)
  where
    go : (t : Bool) → T.more (count is_digit x) (then (drop (count is_digit x) x)) ≡ many is_digit then x
        → T.more (cond t (suc (count is_digit x)) 0) (then (drop (cond t (suc (count is_digit x)) 0) (b ∷ x))) ≡ cond t (T.more 1 (many is_digit then x)) (then (b ∷ x))
    go true h = sym (ap (T.more 1) (sym h) ∙ more_more 1 (count is_digit x) (then (drop (count is_digit x) x)) ∙ rw (one-add (count is_digit x)))
    go false h = more_zero (then (b ∷ x))

digit1_many : (then : Taker) (x : List ℕ) → digit1 then x ≡ one is_digit (many is_digit then) x
unfolding digit1 digit0 one count
digit1_many then [] = refl
digit1_many then (b ∷ x) = go (is_digit b)
  where
    after : T.more (suc (count is_digit x)) (then (drop (count is_digit x) x)) ≡ T.more 1 (many is_digit then x)
    after = sym (ap (T.more 1) (sym (digit0_many then x)) ∙ more_more 1 (count is_digit x) (then (drop (count is_digit x) x)) ∙ rw (one-add (count is_digit x)))

    go : (t : Bool) → cond (leb 1 (cond t (suc (count is_digit x)) 0)) (T.more (cond t (suc (count is_digit x)) 0) (then (drop (cond t (suc (count is_digit x)) 0) (b ∷ x)))) None
        ≡ cond t (T.more 1 (many is_digit then x)) None
    go true = rw (le-leb 1 (suc (count is_digit x)) (omega arith)) after
    go false = refl

pub digit0_law : (then : Taker) → Law then → Law (digit0 then)
digit0_law then l n x x' s = rw (digit0_many then x, digit0_many then x') (many_law is_digit digit_quiet then l n x x' s)

pub digit1_law : (then : Taker) → Law then → Law (digit1 then)
digit1_law then l n x x' s =
    rw (digit1_many then x, digit1_many then x') (one_law is_digit digit_quiet (many is_digit then) (many_law is_digit digit_quiet then l) n x x' s)

-- ---- the end of a word

pub end_of_word_law : Law end_of_word
unfolding end_of_word
end_of_word_law n x x' s = rw (class_sim is_word_character zero_no_word white_no_word s) (same_refl n _)

-- ---- whitespace and what follows it

module _ (then : Taker) where
  -- the bytes of whitespace characters one by one, and what follows; k continuation bytes are due
  unfoldable eat : ℕ → Taker
  eat zero [] = then []
  eat (suc k) [] = None
  eat zero (b ∷ x) = cond (is_blank (b ∷ x)) (T.more 1 (eat (continuations b) x)) (then (b ∷ x))
  eat (suc k) (b ∷ x) = cond (is_continuation b) (T.more 1 (eat k x)) None

  further : (n : ℕ) (x : List ℕ) (t : Option ℕ) → t ≡ T.more n (then (drop n x)) → T.more 1 t ≡ T.more (suc n) (then (drop n x))
  further n x t e = ap (T.more 1) e ∙ more_more 1 n (then (drop n x)) ∙ rw (one-add n)

  eat_run : (k : ℕ) (x : List ℕ) → continued k x ≡ k → eat k x ≡ T.more (run is_whitespace k x) (then (drop (run is_whitespace k x) x))
  unfolding eat run continued
  eat_run zero [] e = sym (more_zero (then []))
  eat_run (suc k) [] e = absurd (let z : ⊥ = omega (arith, e) in z)
  eat_run (suc k) (b ∷ x) e = go (is_continuation b) refl (eat_run k x)
    where
      go : (t : Bool) → is_continuation b ≡ t → (continued k x ≡ k → eat k x ≡ T.more (run is_whitespace k x) (then (drop (run is_whitespace k x) x)))
          → cond t (T.more 1 (eat k x)) None ≡ T.more (suc (run is_whitespace k x)) (then (drop (run is_whitespace k x) x))
      go true f h = further (run is_whitespace k x) x (eat k x) (h (let z : suc (continued k x) ≡ suc k = rw f at e in omega arith))
      go false f h = absurd (let z : 0 ≡ suc k = rw f at e in let y : ⊥ = omega arith in y)
  eat_run zero (b ∷ x) e = go (is_blank (b ∷ x)) refl (eat_run (continuations b) x)
    where
      go : (t : Bool) → is_blank (b ∷ x) ≡ t → (continued (continuations b) x ≡ continuations b → eat (continuations b) x ≡ T.more (run is_whitespace (continuations b) x) (then (drop (run is_whitespace (continuations b) x) x)))
          → cond t (T.more 1 (eat (continuations b) x)) (then (b ∷ x))
          ≡ T.more (cond t (suc (run is_whitespace (continued (continuations b) x) x)) 0) (then (drop (cond t (suc (run is_whitespace (continued (continuations b) x) x)) 0) (b ∷ x)))
      go true f h = rw (blank_whole b x f) (further (run is_whitespace (continuations b) x) x (eat (continuations b) x) (h (blank_whole b x f)))
      go false f h = sym (more_zero (then (b ∷ x)))

  blanks_eat : (x : List ℕ) → blanks then x ≡ cond (is_blank x) (eat 0 x) None
  unfolding blanks continued
  blanks_eat x = rw (eat_run 0 x refl)

  module _ (l : Law then) where
    eat_conts : {k : ℕ} {x y : List ℕ} (n : ℕ) {o : Option ℕ} → Conts k x y → Same n (eat 0 y) o → (m : ℕ) × Same m (eat k x) o
    unfolding eat
    eat_conts n last s = (n, s)
    eat_conts n (more {c} {x} h r) s = (0, rw h (left_more (eat_conts n r s).1))

    eat_none : (k : ℕ) {x : List ℕ} → Blankish x → eat (suc k) x ≡ None
    unfolding eat
    eat_none k ended = refl
    eat_none k (starts c g w) = rw c

    separator_alone : {c : ℕ} → Separator c → continuations c ≡ 0
    unfolding continuations
    separator_alone space = refl
    separator_alone newline = refl
    separator_alone return = refl

    eat_separator : {c : ℕ} (x : List ℕ) → Separator c → eat 0 (c ∷ x) ≡ T.more 1 (eat 0 x)
    unfolding eat
    eat_separator x p = rw (separator_blank x p, separator_alone p)

    eat_law : (k : ℕ) {n : ℕ} {x x' : List ℕ} → Sim n x x' → Same n (eat k x) (eat k x')
    unfolding eat
    eat_law zero {n} nil = l n [] [] nil
    eat_law (suc k) nil = neither
    eat_law zero (keep {n} {b} {x} {x'} s) =
        rw (← blank_sim b s) (cond_same (is_blank (b ∷ x)) (both_more (eat_law (continuations b) s)) (l (suc n) (b ∷ x) (b ∷ x') (keep s)))
    eat_law (suc k) (keep {b} s) = cond_same (is_continuation b) (both_more (eat_law k s)) neither
    eat_law zero (same {n} {b} {x} {x'} s) =
        rw (← blank_sim b s) (cond_same (is_blank (b ∷ x)) (free_more (eat_law (continuations b) s)) (l 0 (b ∷ x) (b ∷ x') (same s)))
    eat_law (suc k) (same {b} s) = cond_same (is_continuation b) (free_more (eat_law k s)) neither
    eat_law zero (swap {n} {s = c} {y'} (blank w r) p s) = rw (w, eat_separator y' p) (free_more (eat_conts n r (eat_law zero s)).1)
    eat_law (suc k) (swap {y'} w p s) = rw (eat_none k (blankish w), eat_none k (separator_ish y' p)) neither
    eat_law zero (lose {n} (blank w r) p s) = rw w (left_more (eat_conts n r (eat_law zero s)).1)
    eat_law (suc k) (lose w p s) = rw (eat_none k (blankish w), eat_none k (ends_ish p)) neither

    -- what follows the whitespace must not be content with nothing: at the end of x' there may be no whitespace any more
    nil_same : {o : Option ℕ} → then [] ≡ None → Same 0 o (eat 0 []) → Same 0 o (cond (is_blank []) (eat 0 []) None)
    unfolding eat
    nil_same h r = rw (none_blank, ← h) r

    pub blanks_law : then [] ≡ None → Law (blanks then)
    blanks_law h n x x' s = rw (blanks_eat x, blanks_eat x') (go s)
      where
        ends : {x' : List ℕ} {o : Option ℕ} → Ends x' → Same 0 o (eat 0 x') → Same 0 o (cond (is_blank x') (eat 0 x') None)
        ends at_end_lem r = nil_same h r
        ends (at_separator {x} q) r = rw (separator_blank x q) r

        go : {n : ℕ} {x x' : List ℕ} → Sim n x x' → Same n (cond (is_blank x) (eat 0 x) None) (cond (is_blank x') (eat 0 x') None)
        go {n} nil = same_refl n _
        go (keep {b} {x} s) = rw (← blank_sim b s) (cond_same (is_blank (b ∷ x)) (eat_law 0 (keep s)) neither)
        go (same {b} {x} s) = rw (← blank_sim b s) (cond_same (is_blank (b ∷ x)) (eat_law 0 (same s)) neither)
        go (swap {y'} (blank w r) q s) = rw (w, separator_blank y' q) (eat_law 0 (swap (blank w r) q s))
        go (lose (blank w r) q s) = rw w (ends q (eat_law 0 (lose (blank w r) q s)))
