-- What `array_windows::<2>` gives: each two bytes that stand side by side.
-- Assumes nothing.
use Rattle.std.specs.List.{zip}
use Rattle.std.specs.Iterator.{AlwaysYields}
use Rattle.std.specs.Slice.Iter.{windows_rest, windows_size}
use Rattle.std.specs.declared.slice.ArrayWindows.{ArrayWindows}
use Rattle.std.specs.Slice.ArrayWindows.{array_windows_parts, array_windows_steps}
use Rattle.std.proofs.lemmas.Iterator.{YieldsList}
use denote.Ref.{Bor}
use Prim.Native.Nat.{ℕ}
use native.Mathlib.Omega.{arith}
use mathlib.Core.Path.{◌≡◌, ap, ◌∙◌}
use mathlib.Core.List.{List, [], ◌∷◌}
use lib.ListN.{length, drop, get_or}

abbrev pub both : Bor (List ℕ) → ℕ × ℕ
both pair = (get_or pair.now 0 0, get_or pair.now 1 0)

gives : (xs : List ℕ) (s : ArrayWindows ℕ 2) → windows_rest (array_windows_parts s) ≡ xs → windows_size (array_windows_parts s) ≡ 2 → AlwaysYields (array_windows_steps {A = ℕ} {n = 2}) both s (zip xs (drop 1 xs))
gives [] s e k = λ x j p. omega (arith, p.1.0, ap length e, k)
gives (b ∷ []) s e k = λ x j p. omega (arith, p.1.0, ap length e, k)
gives (b ∷ d ∷ xs) s e k = (
  (λ j p. omega (arith, p.1.0, ap length e, k)),
  λ x j p.
      let two : x.now ≡ b ∷ d ∷ [] = rw (k, e) at p.1.1 in
      (ap (λ (ys : List ℕ). (get_or ys 0 0, get_or ys 1 0)) two, gives (d ∷ xs) j (p.1.2 ∙ ap (drop 1) e) (p.0 ∙ k)),
)

pub YieldsList-from_pairs : {s : ArrayWindows ℕ 2} (xs : List ℕ) → windows_rest (array_windows_parts s) ≡ xs → windows_size (array_windows_parts s) ≡ 2 → YieldsList (array_windows_steps {A = ℕ} {n = 2}) both s (zip xs (drop 1 xs))
YieldsList-from_pairs {s} xs e k = record { runs = gives xs s e k }
