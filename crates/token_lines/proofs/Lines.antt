-- The lines of the tokens read so far, and those still to read.
use Rattle.std.proofs.Common.{◌≡◌, ℕ, List, [], ◌∷◌, ◌++◌, Option, Result, Ok, Err, OnOk, sym, ap, ◌∙◌, append_assoc, append-nil, subst}
use Rattle.std.proofs.KnownBytes.{Appends-trans}
use Rattle.std.specs.Io.KnownBytes.{Appends}
use Rattle.tokenizer.specs.declared.Token.{Token}
use Rattle.tokenizer.specs.Levels.{level_past}
use Rattle.token_lines.specs.Printed.{token_line, lines_from}

module _ (level : ℕ) (ts : List Token) (passed whole : List ℕ) (before : passed ++ lines_from level ts ≡ whole) where
  pub lines_more : (next : ℕ) (t : Token) (rest : List Token) → next ≡ level_past level t.kind → ts ≡ t ∷ rest → (passed ++ token_line level t) ++ lines_from next rest ≡ whole
  unfolding lines_from
  lines_more next t rest e f =
      append_assoc passed (token_line level t) (lines_from next rest)
      ∙ ap (λ n. passed ++ (token_line level t ++ lines_from n rest)) e
      ∙ ap (λ us. passed ++ lines_from level us) (sym f)
      ∙ before

  pub lines_end : ts ≡ [] → passed ≡ whole
  unfolding lines_from
  lines_end f = sym (append-nil passed) ∙ ap (λ us. passed ++ lines_from level us) (sym f) ∙ before

-- a line of four parts, whose last three are printed together
pub line_last : {A E : Type 0} (r : Result A E) (a b c : Option (List ℕ)) (w x y z : List ℕ) → Appends a b w → OnOk r (Appends b c (x ++ y ++ z)) → OnOk r (Appends a c (w ++ x ++ y ++ z))
line_last (Ok v) a b c w x y z p q =
    let joined : w ++ (x ++ y ++ z) ≡ w ++ x ++ y ++ z = sym (append_assoc w (x ++ y) z) ∙ ap (λ l. l ++ z) (sym (append_assoc w x y)) in
    subst (Appends a c) joined (Appends-trans a b c w (x ++ y ++ z) p q)
line_last (Err e) a b c w x y z p q = tt
