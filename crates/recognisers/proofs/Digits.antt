-- Digits and marks, and what follows them.
-- Assumes nothing.
use Rattle.std.proofs.Common.{Option, Some, None}
use Prim.Native.Nat.{ℕ}
use native.Mathlib.Nat.{add-zero}
use mathlib.Core.Path.{◌≡◌, sym, ap, ◌∙◌}
use mathlib.Core.List.{List}
use mathlib.Core.Bool.{cond}
use lib.ListN.{length}
use lib.Dec.{leb}
use Rattle.recognisers.specs.Text.{bytes}
use Rattle.recognisers.specs.Taking.{Taker, or, done, one, typed, spelled, digit1, digit0, count, is_digit, at_least, contains}
use Rattle.recognisers.specs.Number.{decimal_number, signed_digits, exponent, scientific_notation, unsigned}
use Rattle.recognisers.proofs.TakenInside.{Inside, or_inside, done_inside, one_inside, spelled_inside, digit0_inside, digit1_inside}

module _ (s : List ℕ) (n : ℕ) (e : n ≡ count is_digit s) where
  pub digits_alone : (q : Option ℕ) → q ≡ at_least 1 n → q ≡ digit1 done s
  unfolding digit1
  digits_alone q g = g ∙ rw (← e) (ap (λ (m : ℕ). cond (leb 1 n) (Some m) None) (sym (add-zero n)))

-- ---- inside

pub digits_inside : Inside (digit1 done)
digits_inside = digit1_inside done done_inside

pub signed_inside : Inside signed_digits
unfolding signed_digits
signed_inside s =
    or_inside (one (contains (bytes "-+")) (digit1 done) s) (digit1 done s) (length s)
    (one_inside (contains (bytes "-+")) (digit1 done) digits_inside s)
    (digits_inside s)

pub exponent_inside : Inside exponent
unfolding exponent
exponent_inside s = spelled_inside typed (bytes "e") signed_digits signed_inside s

pub fraction_inside : (then : Taker) → Inside then → Inside (spelled typed (bytes ".") (digit0 then))
fraction_inside then h = spelled_inside typed (bytes ".") (digit0 then) (digit0_inside then h)

pub decimal_inside : (then : Taker) → Inside then → Inside (decimal_number then)
unfolding decimal_number
decimal_inside then h = digit1_inside (spelled typed (bytes ".") (digit0 then)) (fraction_inside then h)

pub unsigned_inside : Inside unsigned
unfolding unsigned scientific_notation
unsigned_inside s =
    or_inside (or (decimal_number exponent s) (digit1 exponent s)) (or (decimal_number done s) (digit1 done s)) (length s)
    (or_inside (decimal_number exponent s) (digit1 exponent s) (length s) (decimal_inside exponent exponent_inside s) (digit1_inside exponent exponent_inside s))
    (or_inside (decimal_number done s) (digit1 done s) (length s) (decimal_inside done done_inside s) (digits_inside s))
