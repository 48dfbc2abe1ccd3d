-- A `$` begins no phrase where no other stands behind it.
-- Assumes nothing.
use Rattle.std.proofs.Common.{None}
use Prim.Native.Nat.{ℕ, ◌-◌}
use native.Mathlib.Omega.{arith}
use mathlib.Core.Path.{◌≡◌, refl, sym, ◌∙◌}
use mathlib.Core.List.{List, [], ◌∷◌}
use mathlib.Core.Bool.{Bool, true, false, cond, not, ◌&&◌, false≢true, and-eq-true_iff}
use lib.ListN.{drop}
use lib.Dec.{eqb}
use borrow.Author.Tests.{not-true, eqb-true, ne_eqb}
use Rattle.characters.specs.Ranges.{within}
use Rattle.characters.proofs.Within.{within_low}
use Rattle.recognisers.specs.Text.{bytes}
use Rattle.recognisers.specs.Taking.{one, capital, starts_with}
use Rattle.reserved.specs.declared.TopLevel.{TopLevel}
use Rattle.reserved.specs.Phrases.{walk, each}
use Rattle.reserved.specs.TopLevel.{creatable, alterable_or_droppable, each_dropped, top_level_phrases}
use Rattle.reserved.specs.NewlineAfter.{newline_after_phrases}
use Rattle.reserved.specs.Newline.{newline_phrases}
use Rattle.reserved.specs.Join.{join_phrases}
use Rattle.reserved.specs.NoIndent.{no_indent_phrases}
use Rattle.reserved.specs.Plain.{plain_two_phrases, plain_one_phrases, plain_a, plain_b, plain_c, plain_d, plain_e, plain_f, plain_g, plain_h, plain_i, plain_k, plain_l, plain_m, plain_n, plain_o, plain_p, plain_q, plain_r, plain_s, plain_t, plain_u, plain_v, plain_w, plain_y}
use Rattle.reserved.specs.declared.entries.Group.TheVariants.{NoIndent}
use Rattle.reserved.specs.Inner.Entries.{grouped, entries, entries_of, entry_end, find_entry, token_for}
use Rattle.reserved.proofs.FirstEntry.{letter_is}

no_dollar : (d : ℕ) → eqb d 36 ≡ false → eqb (capital d) 36 ≡ false
unfolding capital
no_dollar d n = go (within 0x61 0x7A d) refl
  where
    go : (t : Bool) → within 0x61 0x7A d ≡ t → eqb (cond t (d - 0x20) d) 36 ≡ false
    go true w = ne_eqb (d - 0x20) 36 (λ e. let h = within_low 0x61 0x7A d w in let z : ⊥ = omega arith in z)
    go false w = n

entries_dollar : entries_of 36 entries ≡ (NoIndent, bytes "$$") ∷ []
unfolding entries_of entries grouped top_level_phrases creatable alterable_or_droppable each each_dropped newline_after_phrases newline_phrases join_phrases no_indent_phrases plain_two_phrases plain_one_phrases plain_a plain_b plain_c plain_d plain_e plain_f plain_g plain_h plain_i plain_k plain_l plain_m plain_n plain_o plain_p plain_q plain_r plain_s plain_t plain_u plain_v plain_w plain_y
entries_dollar = refl

dollar_alone : (s : List ℕ) → starts_with 36 s ≡ false → find_entry ((NoIndent, bytes "$$") ∷ []) (36 ∷ s) ≡ None
unfolding find_entry entry_end walk one capital within starts_with
dollar_alone [] n = refl
dollar_alone (d ∷ s) n = rw (no_dollar d n)

dollar_none : (s : List ℕ) → starts_with 36 s ≡ false → find_entry entries (36 ∷ s) ≡ None
unfolding capital within
dollar_none s n = sym (letter_is (36 ∷ s) 36 refl) ∙ rw entries_dollar (dollar_alone s n)

-- as `reserved_token` uses it
pub lone_dollar : (between : Bool) (last : TopLevel) (s : List ℕ) (p : Bool) → p ≡ (starts_with 36 s && not (starts_with 36 (drop 1 s))) → p ≡ true → None ≡ token_for between last s (find_entry entries s)
unfolding starts_with
lone_dollar between last [] p e q = absurd (false≢true (sym e ∙ q))
lone_dollar between last (b ∷ s) p e q =
    let both = (and-eq-true_iff (eqb b 36) (not (starts_with 36 s))).0 (sym e ∙ q) in
    rw (eqb-true b 36 both.0, dollar_none s (not-true (starts_with 36 s) both.1))
