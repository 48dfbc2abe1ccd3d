-- The third demand. For all accepted settings and any two accepted searches the tight texts are equal if and only if the
-- searches agree; and each search agrees with its own tight text, which is accepted too. So the tight text can be trusted as
-- a key for every accepted search, whatever CRs it holds.
-- `Agree` is in specs/Agree.antt, `tight` in specs/TightText.antt; `checked` is the tokenizer's: Ok exactly where none
-- of the refusals 1, 2 and 3 applies.
-- Assumes nothing.
use Rattle.std.specs.Prelude.{Ok}
use Prim.Native.Nat.{ℕ}
use mathlib.Core.List.{List}
use mathlib.Core.Logic.{◌↔◌}
use mathlib.Core.Path.{◌≡◌, sym, ap, ◌∙◌}
use Rattle.calls.specs.declared.Settings.{Settings}
use Rattle.calls.specs.Checks.{checked}
use Rattle.tokenizer.specs.Memory.{start}
use Rattle.tight.specs.TightText.{tight}
use Rattle.tight.specs.Agree.{reading, Agree}
use Rattle.tight.proofs.TightReading.{render, items_again}
use Rattle.tight.proofs.AgreeByItems.{agree_items, items_agree}
use Rattle.tight.proofs.ReadingItems.{reading_is, items}
use Rattle.tight.proofs.TightByItems.{tight_is}
use Rattle.tight.proofs.TightAccepted.{tight_accepted}

module _ (settings : Settings) where
  items_of_tight : (s : List ℕ) → items (reading settings s) ≡ items (reading settings (tight settings s))
  items_of_tight s = rw (reading_is settings (tight settings s), tight_is settings s, reading_is settings s) (sym (items_again settings start s))

  agree_tight : (s t : List ℕ) → Agree settings s t → tight settings s ≡ tight settings t
  agree_tight s t a = tight_is settings s ∙ ap render (agree_items settings s t a) ∙ sym (tight_is settings t)

  tight_agree : (s t : List ℕ) → tight settings s ≡ tight settings t → Agree settings s t
  tight_agree s t e = items_agree settings s t (items_of_tight s ∙ ap (λ (u : List ℕ). items (reading settings u)) e ∙ sym (items_of_tight t))

module _ (dialect joins named : ℕ) (settings : Settings) where
  pub third_demand : (s t : List ℕ) → checked dialect joins named s ≡ Ok settings → checked dialect joins named t ≡ Ok settings
      → (tight settings s ≡ tight settings t) ↔ Agree settings s t
  third_demand s t a b = (tight_agree settings s t, agree_tight settings s t)

  pub own_search : (s : List ℕ) → checked dialect joins named s ≡ Ok settings
      → (checked dialect joins named (tight settings s) ≡ Ok settings) × Agree settings s (tight settings s)
  own_search s a = (tight_accepted dialect joins named settings s a, items_agree settings s (tight settings s) (items_of_tight settings s))

  -- tightening twice gives what once gave
  pub twice : (s : List ℕ) → checked dialect joins named s ≡ Ok settings → tight settings (tight settings s) ≡ tight settings s
  twice s a = sym (agree_tight settings s (tight settings s) (own_search s a).1)
