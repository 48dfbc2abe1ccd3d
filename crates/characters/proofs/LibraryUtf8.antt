-- What the library calls UTF-8, the bytes of scalar values, is what the sequences of table 3-7 fill.
--     text_formed     UTF-8 is filled whole
--     valid_len_is    the longest front that is UTF-8 is what is filled
-- Assumes nothing.
use Prim.Native.Nat.{ℕ, zero, suc, ◌+◌, ◌-◌, ◌*◌, ◌≤◌, ◌<◌}
use native.Mathlib.Nat.{zero-add, add-zero}
use native.Mathlib.Omega.{arith}
use mathlib.Core.Path.{◌≡◌, refl, sym, ap, ◌∙◌, subst}
use mathlib.Core.Logic.{◌⊎◌, inl, inr}
use mathlib.Core.List.{List, [], ◌∷◌, ◌++◌, append_assoc, append-nil}
use mathlib.Core.Bool.{Bool, true, false, ◌&&◌, ◌||◌, false≢true, and-eq-true_iff}
use lib.ListN.{length, take, drop, length-append, length-drop, take-append-drop}
use lib.Seq.{drop-append_seam, take-add, length-take-le, take_all}
use lib.Utf8.{scalar, scalars, encode, encodes, scalar_cases}
use lib.Dec.{leb, ltb}
use Rattle.std.specs.Str.{IsUtf8}
use Rattle.std.specs.Str.Lossy.{utf8_valid_len}
use Rattle.std.proofs.lemmas.Bool.Decides.{nat_tests}
use Rattle.std.proofs.lemmas.Str.{IsUtf8-nil, utf8_valid_len-IsUtf8, utf8_valid_len-IsValidUpTo}
use Rattle.std.proofs.str.Laws.{Scalar, Follows, order, one, two, three, four, IsUtf8-append}
use Rattle.std.proofs.str.Valid.{of_one, of_two, of_three, of_four}
use Rattle.characters.specs.Ranges.{within}
use Rattle.characters.specs.Utf8.{table_3_7, fits_row, sequence_in, sequence_length, well_formed_from}
use Rattle.characters.proofs.Within.{within_low, within_high}
use Rattle.characters.proofs.Sequences.{Rows, ascii_sequence, sequence_inside, step, stop}

-- ---- a scalar value's bytes are a sequence

sequence_two : (a b : ℕ) (t : List ℕ) → 194 ≤ a → a < 224 → Follows b → sequence_length (a ∷ b ∷ t) ≡ 2
unfolding sequence_length sequence_in table_3_7 fits_row within
sequence_two a b t l h f = grind (arith, nat_tests)

sequence_three : (a b d : ℕ) (t : List ℕ) → 224 ≤ a → a < 240 → Follows b → Follows d → (a ≡ 224 → 160 ≤ b) → (a ≡ 237 → b < 160) → sequence_length (a ∷ b ∷ d ∷ t) ≡ 3
unfolding sequence_length sequence_in table_3_7 fits_row within
sequence_three a b d t l h f g m n = grind (arith, nat_tests)

sequence_four : (a b d e : ℕ) (t : List ℕ) → 240 ≤ a → a < 245 → Follows b → Follows d → Follows e → (a ≡ 240 → 144 ≤ b) → (a ≡ 244 → b < 144) → sequence_length (a ∷ b ∷ d ∷ e ∷ t) ≡ 4
unfolding sequence_length sequence_in table_3_7 fits_row within
sequence_four a b d e t l h f g k m n = grind (arith, nat_tests)

scalar_sequence : (c : ℕ) (t : List ℕ) → Scalar c → sequence_length (encode c ++ t) ≡ length (encode c)
scalar_sequence c t v = by (order c 128) (order c 2048) (order c 65536) v
  where
    by : (c < 128) ⊎ (128 ≤ c) → (c < 2048) ⊎ (2048 ≤ c) → (c < 65536) ⊎ (65536 ≤ c) → Scalar c → sequence_length (encode c ++ t) ≡ length (encode c)
    by (inl h) _ _ v = rw (one c h) (ascii_sequence c t h)
    by (inr l) (inl h) _ v = rw (two c l h) (sequence_two _ _ t (omega arith) (omega arith) (omega arith, omega arith))
    by (inr _) (inr l) (inl h) (inl k) = rw (three c l h) (sequence_three _ _ _ t (omega arith) (omega arith) (omega arith, omega arith) (omega arith, omega arith) (λ e. omega arith) (λ e. omega arith))
    by (inr _) (inr l) (inl h) (inr k) = rw (three c l h) (sequence_three _ _ _ t (omega arith) (omega arith) (omega arith, omega arith) (omega arith, omega arith) (λ e. omega arith) (λ e. omega arith))
    by (inr _) (inr _) (inr l) (inl k) = absurd (let z : ⊥ = omega arith in z)
    by (inr _) (inr _) (inr l) (inr k) = rw (four c l) (sequence_four _ _ _ _ t (omega arith) (omega arith) (omega arith, omega arith) (omega arith, omega arith) (omega arith, omega arith) (λ e. omega arith) (λ e. omega arith))

-- so scalar values are passed one by one
scalars_passed : (cs t : List ℕ) → scalars cs ≡ true → well_formed_from 0 (encodes cs ++ t) ≡ length (encodes cs) + well_formed_from 0 t
scalars_passed [] t e = sym (zero-add (well_formed_from 0 t))
scalars_passed (c ∷ cs) t e =
    let both = (and-eq-true_iff (scalar c) (scalars cs)).0 e in
    let rest : List ℕ = encodes cs ++ t in
    let n : sequence_length (encode c ++ rest) ≡ length (encode c) = scalar_sequence c rest (scalar_cases c both.0) in
    rw (append_assoc (encode c) (encodes cs) t)
    (passed (encode c ++ rest) (length (encode c)) n
    ∙ rw (drop-append_seam (encode c) rest, scalars_passed cs t both.1, length-append (encode c) (encodes cs)) (omega arith))
  where
    passed : (s : List ℕ) (n : ℕ) → sequence_length s ≡ n → well_formed_from 0 s ≡ n + well_formed_from 0 (drop n s)
    passed s zero q = sym (zero-add (well_formed_from 0 s))
    passed s (suc n) q = step s n q

-- ---- a sequence is a scalar value's bytes

-- what a row says of the bytes, one by one
abbrev Fits : List (ℕ × ℕ) → List ℕ → Type 0
Fits [] s = Unit {0}
Fits (range ∷ row) [] = ⊥
Fits (range ∷ row) (b ∷ s) = (range.0 ≤ b) × (b ≤ range.1) × Fits row s

fits : (row : List (ℕ × ℕ)) (s : List ℕ) → fits_row row s ≡ true → Fits row s
unfolding fits_row
fits [] s e = tt
fits (range ∷ row) [] e = absurd (false≢true e)
fits (range ∷ row) (b ∷ s) e =
    let both = (and-eq-true_iff (within range.0 range.1 b) (fits_row row s)).0 e in
    (within_low range.0 range.1 b both.0, within_high range.0 range.1 b both.0, fits row s both.1)

three_text : (a b d : ℕ) (t : List ℕ) → 224 ≤ a → a < 240 → Follows b → Follows d → (a ≡ 224 → 160 ≤ b) → (a ≡ 237 → b < 160) → IsUtf8 (take 3 (a ∷ b ∷ d ∷ t))
three_text a b d t l h f g m n = of_three (a ∷ b ∷ d ∷ t) 0 (omega arith) (l, h) f g (grind arith) (by (order a 238))
  where
    by : (a < 238) ⊎ (238 ≤ a) → ((a - 224) * 4096 + (b - 128) * 64 + (d - 128) < 55296) ⊎ (57344 ≤ (a - 224) * 4096 + (b - 128) * 64 + (d - 128))
    by (inl k) = inl (grind arith)
    by (inr k) = inr (omega arith)

four_text : (a b d e : ℕ) (t : List ℕ) → 240 ≤ a → a < 245 → Follows b → Follows d → Follows e → (a ≡ 240 → 144 ≤ b) → (a ≡ 244 → b < 144) → IsUtf8 (take 4 (a ∷ b ∷ d ∷ e ∷ t))
four_text a b d e t l h f g k m n = of_four (a ∷ b ∷ d ∷ e ∷ t) 0 (omega arith) l f g k (grind arith, grind arith)

abbrev Text : List (ℕ × ℕ) → List ℕ → Type 0
Text row s = fits_row row s ≡ true → IsUtf8 (take (length row) s)

abbrev following : ℕ × ℕ
following = (0x80, 0xBF)

one_row : (p : ℕ × ℕ) (s : List ℕ) → ltb p.1 128 ≡ true → Text (p ∷ []) s
one_row p s t e = go s (fits (p ∷ []) s e)
  where
    go : (s : List ℕ) → Fits (p ∷ []) s → IsUtf8 (take 1 s)
    go [] f = absurd f
    go (a ∷ u) (la, ha, _) = of_one (a ∷ u) 0 (omega arith) (grind (arith, nat_tests))

two_row : (p : ℕ × ℕ) (s : List ℕ) → (leb 194 p.0 && ltb p.1 224) ≡ true → Text (p ∷ following ∷ []) s
two_row p s t e = go s (fits (p ∷ following ∷ []) s e)
  where
    go : (s : List ℕ) → Fits (p ∷ following ∷ []) s → IsUtf8 (take 2 s)
    go [] f = absurd f
    go (a ∷ []) f = absurd f.2
    go (a ∷ b ∷ u) (la, ha, (lb, hb, _)) = of_two (a ∷ b ∷ u) 0 (omega arith) (grind (arith, nat_tests), grind (arith, nat_tests)) (lb, omega arith)

-- the ranges of the first two of three bytes: none overlong, no surrogate
abbrev three_allowed : ℕ × ℕ → ℕ × ℕ → Bool
three_allowed p q = (leb 224 p.0 && ltb p.1 240) && (leb 128 q.0 && ltb q.1 192) && (ltb 224 p.0 || leb 160 q.0) && (ltb p.1 237 || ltb 237 p.0 || ltb q.1 160)

three_row : (p q : ℕ × ℕ) (s : List ℕ) → three_allowed p q ≡ true → Text (p ∷ q ∷ following ∷ []) s
three_row p q s t e = go s (fits (p ∷ q ∷ following ∷ []) s e)
  where
    go : (s : List ℕ) → Fits (p ∷ q ∷ following ∷ []) s → IsUtf8 (take 3 s)
    go [] f = absurd f
    go (a ∷ []) f = absurd f.2
    go (a ∷ b ∷ []) f = absurd f.2.2
    go (a ∷ b ∷ d ∷ u) (la, ha, (lb, hb, (ld, hd, _))) =
        three_text a b d u (grind (arith, nat_tests)) (grind (arith, nat_tests)) (grind (arith, nat_tests), grind (arith, nat_tests)) (ld, omega arith)
        (λ k. grind (arith, nat_tests))
        (λ k. grind (arith, nat_tests))

-- and of four: none overlong, none past U+10FFFF
abbrev four_allowed : ℕ × ℕ → ℕ × ℕ → Bool
four_allowed p q = (leb 240 p.0 && ltb p.1 245) && (leb 128 q.0 && ltb q.1 192) && (ltb 240 p.0 || leb 144 q.0) && (ltb p.1 244 || ltb q.1 144)

four_row : (p q : ℕ × ℕ) (s : List ℕ) → four_allowed p q ≡ true → Text (p ∷ q ∷ following ∷ following ∷ []) s
four_row p q s t e = go s (fits (p ∷ q ∷ following ∷ following ∷ []) s e)
  where
    go : (s : List ℕ) → Fits (p ∷ q ∷ following ∷ following ∷ []) s → IsUtf8 (take 4 s)
    go [] f = absurd f
    go (a ∷ []) f = absurd f.2
    go (a ∷ b ∷ []) f = absurd f.2.2
    go (a ∷ b ∷ d ∷ []) f = absurd f.2.2.2
    go (a ∷ b ∷ d ∷ x ∷ u) (la, ha, (lb, hb, (ld, hd, (lx, hx, _)))) =
        four_text a b d x u (grind (arith, nat_tests)) (grind (arith, nat_tests)) (grind (arith, nat_tests), grind (arith, nat_tests)) (ld, omega arith) (lx, omega arith)
        (λ k. grind (arith, nat_tests))
        (λ k. grind (arith, nat_tests))

abbrev Texts : Rows → List ℕ → Type 0
Texts [] s = Unit {0}
Texts (row ∷ rows) s = Text row s × Texts rows s

text_in : (rows : Rows) (s : List ℕ) (n : ℕ) → Texts rows s → sequence_in rows s ≡ suc n → IsUtf8 (take (suc n) s)
unfolding sequence_in
text_in [] s n a e = absurd (let z : ⊥ = omega arith in z)
text_in (row ∷ rows) s n a e = go (fits_row row s) refl (λ q. text_in rows s n a.1 q)
  where
    go : (t : Bool) → fits_row row s ≡ t → (sequence_in rows s ≡ suc n → IsUtf8 (take (suc n) s)) → IsUtf8 (take (suc n) s)
    go true q later = let l : length row ≡ suc n = rw q at e in subst (λ m. IsUtf8 (take m s)) l (a.0 q)
    go false q later = later (rw q at e)

sequence_text : (s : List ℕ) (n : ℕ) → sequence_length s ≡ suc n → IsUtf8 (take (suc n) s)
unfolding sequence_length table_3_7
sequence_text s n e = text_in table_3_7 s n (one_row _ s refl, (two_row _ s refl, threes)) e
  where
    fours : Texts (drop 6 table_3_7) s
    fours = (four_row _ _ s refl, (four_row _ _ s refl, (four_row _ _ s refl, tt)))

    threes : Texts (drop 2 table_3_7) s
    threes = (three_row _ _ s refl, (three_row _ _ s refl, (three_row _ _ s refl, (three_row _ _ s refl, fours))))

-- ---- the whole text

pub text_formed : (s : List ℕ) → IsUtf8 s → well_formed_from 0 s ≡ length s
unfolding well_formed_from
text_formed s u =
    let e : encodes u.0 ++ [] ≡ s = append-nil (encodes u.0) ∙ u.1.1 in
    ap (well_formed_from 0) (sym e) ∙ scalars_passed u.0 [] u.1.0 ∙ rw u.1.1 (add-zero (length s))

-- UTF-8 at the front is passed
front_passed : (s : List ℕ) (n : ℕ) → n ≤ length s → IsUtf8 (take n s) → n ≤ well_formed_from 0 s
front_passed s n h u =
    let e : encodes u.0 ++ drop n s ≡ s = rw u.1.1 (take-append-drop n s) in
    let l : length (encodes u.0) ≡ n = rw u.1.1 (length-take-le n s h) in
    let p = ap (well_formed_from 0) (sym e) ∙ scalars_passed u.0 (drop n s) u.1.0 in
    omega (arith, p, l)

-- and what is passed is UTF-8, by the length of the bytes
passed_text : (most : ℕ) (s : List ℕ) → length s ≤ most → IsUtf8 (take (well_formed_from 0 s) s)
passed_text zero s h = rw (stop s (let i = sequence_inside s in omega arith)) IsUtf8-nil
passed_text (suc most) s h = by (sequence_length s) refl (passed_text most)
  where
    by : (n : ℕ) → sequence_length s ≡ n → ((t : List ℕ) → length t ≤ most → IsUtf8 (take (well_formed_from 0 t) t)) → IsUtf8 (take (well_formed_from 0 s) s)
    by zero q rest = rw (stop s q) IsUtf8-nil
    by (suc n) q rest =
        let t : List ℕ = drop (suc n) s in
        rw (step s n q, take-add (suc n) (well_formed_from 0 t) s)
        (IsUtf8-append (take (suc n) s) (take (well_formed_from 0 t) t) (sequence_text s n q) (rest t (let l = length-drop (suc n) s in omega (arith, l))))

pub valid_len_is : (s : List ℕ) → utf8_valid_len s ≡ well_formed_from 0 s
valid_len_is s = by (order (well_formed_from 0 s) (length s))
  where
    whole : (m : ℕ) → length s ≤ m → IsUtf8 (take m s) → IsUtf8 s
    whole m h u = subst IsUtf8 (take_all m s h) u

    past : (m : ℕ) → well_formed_from 0 s < m → well_formed_from 0 s < length s → IsUtf8 (take m s) → (m < length s) ⊎ (length s ≤ m) → ⊥
    past m l h u (inl k) = let p = front_passed s m (omega arith) u in omega (arith, p)
    past m l h u (inr k) = let p = text_formed s (whole m k u) in omega (arith, p)

    by : (well_formed_from 0 s < length s) ⊎ (length s ≤ well_formed_from 0 s) → utf8_valid_len s ≡ well_formed_from 0 s
    by (inl h) =
        utf8_valid_len-IsValidUpTo s (well_formed_from 0 s)
        (record { short = h; front = passed_text (length s) s (omega arith); longest = λ m l u. past m l h u (order m (length s)) })
    by (inr h) =
        let u = whole (well_formed_from 0 s) h (passed_text (length s) s (omega arith)) in
        utf8_valid_len-IsUtf8 s u ∙ sym (text_formed s u)
