-- The entries of a letter stand by the length of their first word.
-- Assumes nothing.
use Rattle.std.proofs.Common.{Bor}
use Prim.Native.Nat.{ℕ, zero, suc, ◌+◌, ◌≤◌, ◌<◌}
use native.Mathlib.Nat.{add-zero, le_of_suc-le-suc, not-suc-le-zero}
use native.Mathlib.Omega.{arith}
use mathlib.Core.Path.{◌≡◌, refl, sym, ap, ◌∙◌}
use mathlib.Core.List.{List, [], ◌∷◌}
use mathlib.Core.Bool.{Bool, true, false, ◌&&◌, false≢true, and-eq-true_iff}
use lib.ListN.{length, get_or}
use lib.Dec.{ltb, eqb}
use borrow.Author.Tests.{ltb-true, ne_eqb, eqb-true}
use Rattle.characters.specs.Ascii.{is_ascii_word}
use Rattle.recognisers.specs.Taking.{count, contains}
use Rattle.reserved.specs.declared.entries.Entry.{Entry}
use Rattle.reserved.specs.declared.entries.Group.{Group}
use Rattle.reserved.specs.Inner.Entries.{entries, listed, listed_at, entries_of, entries_long}

abbrev pub all_listed : List (Bor (List Entry)) → List (List (Group × List ℕ))
all_listed [] = []
all_listed (some ∷ lengths) = listed some.now ∷ all_listed lengths

-- the entries of so many lengths from one on
abbrev pub by_length : ℕ → ℕ → List (Group × List ℕ) → List (List (Group × List ℕ))
by_length from zero es = []
by_length from (suc lengths) es = entries_long from es ∷ by_length (suc from) lengths es

abbrev pub all_shorter : ℕ → List (Group × List ℕ) → Bool
all_shorter n [] = true
all_shorter n (e ∷ es) = ltb (count is_ascii_word e.1) n && all_shorter n es

none_long : (es : List (Group × List ℕ)) (m n : ℕ) → all_shorter m es ≡ true → [] ≡ entries_long (m + n) es
unfolding entries_long
none_long [] m n s = refl
none_long (e ∷ es) m n s =
    let both = (and-eq-true_iff (ltb (count is_ascii_word e.1) m) (all_shorter m es)).0 s in
    let below = ltb-true (count is_ascii_word e.1) m both.0 in
    rw (ne_eqb (count is_ascii_word e.1) (m + n) (λ q. let z : ⊥ = omega (arith, q, below) in z)) (none_long es m n both.1)

at_length : (lengths : List (Bor (List Entry))) (from n : ℕ) (es : List (Group × List ℕ)) → all_listed lengths ≡ by_length from (length lengths) es → all_shorter (from + length lengths) es ≡ true
    → listed_at n lengths ≡ entries_long (from + n) es
unfolding listed_at
at_length [] from n es e s = none_long es from n (rw add-zero at s)
at_length (some ∷ lengths) from zero es e s =
    let first : listed some.now ≡ entries_long from es = cc in
    first ∙ rw (add-zero from)
at_length (some ∷ lengths) from (suc n) es e s =
    let rest : all_listed lengths ≡ by_length (suc from) (length lengths) es = cc in
    let k : from + suc n ≡ suc from + n = omega arith in
    let m : from + suc (length lengths) ≡ suc from + length lengths = omega arith in
    rw k (at_length lengths (suc from) n es rest (rw m at s))

-- ---- as `lengths_of` uses them

pub of_letter : (letter x : ℕ) → x ≡ letter → (lengths : List (Bor (List Entry))) → all_listed lengths ≡ by_length 0 (length lengths) (entries_of letter entries) → all_shorter (length lengths) (entries_of letter entries) ≡ true
    → (n : ℕ) → listed_at n lengths ≡ entries_long n (entries_of x entries)
of_letter letter x q lengths e s n =
    let k : 0 + n ≡ n = omega arith in
    let m : 0 + length lengths ≡ length lengths = omega arith in
    let here : listed_at n lengths ≡ entries_long (0 + n) (entries_of letter entries) = at_length lengths 0 n (entries_of letter entries) e (rw m s) in
    rw q (rw k at here)

pub at_place : (lengths : List (Bor (List Entry))) (n : ℕ) (some : Bor (List Entry)) → n < length lengths → some ≡ get_or lengths n some → listed some.now ≡ listed_at n lengths
unfolding listed_at
at_place [] n some h e = absurd (not-suc-le-zero h)
at_place (first ∷ lengths) zero some h e = ap (λ (es : Bor (List Entry)). listed es.now) e
at_place (first ∷ lengths) (suc n) some h e = at_place lengths n some (le_of_suc-le-suc h) e

pub past_lengths : (lengths : List (Bor (List Entry))) (n : ℕ) → length lengths ≤ n → [] ≡ listed_at n lengths
unfolding listed_at
past_lengths [] n h = refl
past_lengths (some ∷ lengths) zero h = absurd (not-suc-le-zero h)
past_lengths (some ∷ lengths) (suc n) h = past_lengths lengths n (le_of_suc-le-suc h)

-- x is none of the letters, as a `match` says it of its last arm
abbrev pub NoneOf : ℕ → List ℕ → Type 0
NoneOf x [] = Unit {0}
NoneOf x (letter ∷ letters) = NoneOf x letters × (x ≡ letter → ⊥)

-- each entry begins with one of the letters
abbrev pub all_among : List ℕ → List (Group × List ℕ) → Bool
all_among letters [] = true
all_among letters (e ∷ es) = contains letters (get_or e.1 0 0) && all_among letters es

none_of : (x w : ℕ) (letters : List ℕ) → NoneOf x letters → contains letters w ≡ true → w ≡ x → ⊥
unfolding contains
none_of x w [] n c q = false≢true c
none_of x w (letter ∷ letters) n c q = go (eqb w letter) refl (none_of x w letters n.0)
  where
    go : (t : Bool) → eqb w letter ≡ t → (contains letters w ≡ true → w ≡ x → ⊥) → ⊥
    go true e rest = n.1 (sym q ∙ eqb-true w letter e)
    go false e rest = rest (rw e at c) q

no_entries : (x : ℕ) (letters : List ℕ) (es : List (Group × List ℕ)) → all_among letters es ≡ true → NoneOf x letters → [] ≡ entries_of x es
unfolding entries_of
no_entries x letters [] k none = refl
no_entries x letters (e ∷ es) k none =
    let both = (and-eq-true_iff (contains letters (get_or e.1 0 0)) (all_among letters es)).0 k in
    rw (ne_eqb (get_or e.1 0 0) x (none_of x (get_or e.1 0 0) letters none both.0)) (no_entries x letters es both.1 none)

pub of_no_letter : (letters : List ℕ) (x : ℕ) → all_among letters entries ≡ true → NoneOf x letters → (n : ℕ) → [] ≡ entries_long n (entries_of x entries)
unfolding entries_long
of_no_letter letters x k none n = rw (← no_entries x letters entries k none)
