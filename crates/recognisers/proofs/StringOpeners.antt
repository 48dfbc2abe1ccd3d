-- Which opener a string can have, by its first byte.
-- Assumes nothing.
use Rattle.std.proofs.Common.{Option, None}
use Prim.Native.Nat.{ℕ}
use mathlib.Core.Path.{◌≡◌, refl, sym, ◌∙◌}
use mathlib.Core.Bool.{Bool, true, false, cond, false≢true}
use mathlib.Core.List.{List, [], ◌∷◌}
use lib.Dec.{eqb}
use lib.ListN.{drop}
use borrow.Author.Tests.{eqb-true}
use Rattle.recognisers.specs.Text.{byte, bytes}
use Rattle.recognisers.specs.declared.Dialect.{Dialect}
use Rattle.recognisers.specs.declared.Dialect.TheVariants.{Generic, PostgreSql, SQLServer}
use Rattle.recognisers.specs.Taking.{more, or, one, spelled, typed, literal, starts_with}
use Rattle.recognisers.specs.Strings.{closed_by, in_sql_server, hex_taken, quoted_taken, string_taken, placeholder_quoted_taken, placeholder_string_taken}
use Rattle.recognisers.proofs.FirstBytes.{or_fails, is_other}

-- ---- of a string

single_cons : (b : ℕ) (s : List ℕ) → b ≡ 39 → (dialect : Dialect) → more 1 (closed_by (byte "'") (bytes "'\\") s) ≡ string_taken dialect (b ∷ s)
unfolding string_taken quoted_taken hex_taken spelled one typed starts_with
single_cons b s e Generic = rw e (or_fails _)
single_cons b s e PostgreSql = rw e (or_fails _)
single_cons b s e SQLServer = rw e (or_fails _)

double_cons : (b : ℕ) (s : List ℕ) → b ≡ 34 → (dialect : Dialect) → more 1 (closed_by (byte "\"") (bytes "\"\\") s) ≡ string_taken dialect (b ∷ s)
unfolding string_taken quoted_taken hex_taken spelled one typed starts_with
double_cons b s e Generic = rw e (or_fails _)
double_cons b s e PostgreSql = rw e (or_fails _)
double_cons b s e SQLServer = rw e (or_fails _)

tick_cons : (b : ℕ) (s : List ℕ) → b ≡ 96 → (dialect : Dialect) → literal (bytes "`") (closed_by (byte "`") (bytes "`")) (b ∷ s) ≡ string_taken dialect (b ∷ s)
unfolding string_taken quoted_taken hex_taken spelled one typed starts_with
tick_cons b s e Generic = rw e (or_fails _)
tick_cons b s e PostgreSql = rw e (or_fails _)
tick_cons b s e SQLServer = rw e (or_fails _)

bracket_cons : (b : ℕ) (s : List ℕ) → b ≡ 91 → (dialect : Dialect) → in_sql_server dialect (literal (bytes "[") (closed_by (byte "]") (bytes "]"))) (b ∷ s) ≡ string_taken dialect (b ∷ s)
unfolding string_taken quoted_taken hex_taken spelled one typed starts_with
bracket_cons b s e Generic = rw e
bracket_cons b s e PostgreSql = rw e
bracket_cons b s e SQLServer = rw e (or_fails _)

module _ (dialect : Dialect) (k : ℕ) (r : Option ℕ) where
  pub single_is : (s : List ℕ) → starts_with k s ≡ true → k ≡ 39 → r ≡ more 1 (closed_by (byte "'") (bytes "'\\") (drop 1 s)) → r ≡ string_taken dialect s
  unfolding starts_with
  single_is [] e q f = absurd (false≢true e)
  single_is (b ∷ s) e q f = f ∙ single_cons b s (eqb-true b k e ∙ q) dialect

  pub double_is : (s : List ℕ) → starts_with k s ≡ true → k ≡ 34 → r ≡ more 1 (closed_by (byte "\"") (bytes "\"\\") (drop 1 s)) → r ≡ string_taken dialect s
  unfolding starts_with
  double_is [] e q f = absurd (false≢true e)
  double_is (b ∷ s) e q f = f ∙ double_cons b s (eqb-true b k e ∙ q) dialect

  pub tick_is : (s : List ℕ) → starts_with k s ≡ true → k ≡ 96 → r ≡ literal (bytes "`") (closed_by (byte "`") (bytes "`")) s → r ≡ string_taken dialect s
  unfolding starts_with
  tick_is [] e q f = absurd (false≢true e)
  tick_is (b ∷ s) e q f = f ∙ tick_cons b s (eqb-true b k e ∙ q) dialect

  pub bracket_is : (s : List ℕ) → starts_with k s ≡ true → k ≡ 91 → r ≡ in_sql_server dialect (literal (bytes "[") (closed_by (byte "]") (bytes "]"))) s → r ≡ string_taken dialect s
  unfolding starts_with
  bracket_is [] e q f = absurd (false≢true e)
  bracket_is (b ∷ s) e q f = f ∙ bracket_cons b s (eqb-true b k e ∙ q) dialect

other_cons : (b : ℕ) (s : List ℕ) → eqb b 39 ≡ false → eqb b 34 ≡ false → eqb b 96 ≡ false → eqb b 91 ≡ false → (dialect : Dialect) → or (literal (bytes "N'") (closed_by (byte "'") (bytes "'\\")) (b ∷ s)) (or (literal (bytes "E'") (closed_by (byte "'") (bytes "'\\")) (b ∷ s)) (hex_taken (b ∷ s))) ≡ string_taken dialect (b ∷ s)
unfolding string_taken quoted_taken hex_taken spelled one typed starts_with
other_cons b s h i j k Generic = rw (h, i, j)
other_cons b s h i j k PostgreSql = rw (h, i, j)
other_cons b s h i j k SQLServer = rw (h, i, j, k)

pub other_is : (dialect : Dialect) (k : ℕ) (r : Option ℕ) (s : List ℕ) → starts_with k s ≡ true → (k ≡ 39 → ⊥) → (k ≡ 34 → ⊥) → (k ≡ 96 → ⊥) → (k ≡ 91 → ⊥)
    → r ≡ or (literal (bytes "N'") (closed_by (byte "'") (bytes "'\\")) s) (or (literal (bytes "E'") (closed_by (byte "'") (bytes "'\\")) s) (hex_taken s)) → r ≡ string_taken dialect s
unfolding starts_with
other_is dialect k r [] e l m n o f = absurd (false≢true e)
other_is dialect k r (b ∷ s) e l m n o f = f ∙ other_cons b s (is_other k b 39 e l) (is_other k b 34 e m) (is_other k b 96 e n) (is_other k b 91 e o) dialect

-- a letter opens a string only before a single quote
either_fails : (t : Bool) → ◌≡◌ {A = Option ℕ} (cond {A = Option ℕ} t None None) None
either_fails true = refl
either_fails false = refl

unquoted_cons : (b : ℕ) (s : List ℕ) → starts_with 39 s ≡ false
    → None ≡ or (literal (bytes "N'") (closed_by (byte "'") (bytes "'\\")) (b ∷ s)) (or (literal (bytes "E'") (closed_by (byte "'") (bytes "'\\")) (b ∷ s)) (hex_taken (b ∷ s)))
unfolding hex_taken spelled one typed starts_with
unquoted_cons b [] n = rw (either_fails (eqb b 78), either_fails (eqb b 69), either_fails (eqb b 120), either_fails (eqb b 88))
unquoted_cons b (d ∷ s) n = rw (n, either_fails (eqb b 78), either_fails (eqb b 69), either_fails (eqb b 120), either_fails (eqb b 88))

no_letters : (s : List ℕ) → starts_with 39 (drop 1 s) ≡ false
    → None ≡ or (literal (bytes "N'") (closed_by (byte "'") (bytes "'\\")) s) (or (literal (bytes "E'") (closed_by (byte "'") (bytes "'\\")) s) (hex_taken s))
unfolding hex_taken spelled one
no_letters [] n = refl
no_letters (b ∷ s) n = unquoted_cons b s n

pub unquoted_is : (dialect : Dialect) (k : ℕ) (s : List ℕ) → starts_with k s ≡ true → (k ≡ 39 → ⊥) → (k ≡ 34 → ⊥) → (k ≡ 96 → ⊥) → (k ≡ 91 → ⊥)
    → (v : Bool) → v ≡ starts_with 39 (drop 1 s) → v ≡ false → None ≡ string_taken dialect s
unquoted_is dialect k s e l m n o v f g = other_is dialect k None s e l m n o (no_letters s (sym f ∙ g))

-- ---- of a placeholder

named_single_cons : (b : ℕ) (s : List ℕ) → b ≡ 39 → (dialect : Dialect) → literal (bytes "'") (closed_by (byte "'") (bytes "\\")) (b ∷ s) ≡ placeholder_string_taken dialect (b ∷ s)
unfolding placeholder_string_taken placeholder_quoted_taken spelled one typed starts_with
named_single_cons b s e Generic = rw e (or_fails _)
named_single_cons b s e PostgreSql = rw e (or_fails _)
named_single_cons b s e SQLServer = rw e (or_fails _)

named_double_cons : (b : ℕ) (s : List ℕ) → b ≡ 34 → (dialect : Dialect) → literal (bytes "\"") (closed_by (byte "\"") (bytes "\\")) (b ∷ s) ≡ placeholder_string_taken dialect (b ∷ s)
unfolding placeholder_string_taken placeholder_quoted_taken spelled one typed starts_with
named_double_cons b s e Generic = rw e (or_fails _)
named_double_cons b s e PostgreSql = rw e (or_fails _)
named_double_cons b s e SQLServer = rw e (or_fails _)

named_tick_cons : (b : ℕ) (s : List ℕ) → b ≡ 96 → (dialect : Dialect) → literal (bytes "`") (closed_by (byte "`") (bytes "`")) (b ∷ s) ≡ placeholder_string_taken dialect (b ∷ s)
unfolding placeholder_string_taken placeholder_quoted_taken spelled one typed starts_with
named_tick_cons b s e Generic = rw e (or_fails _)
named_tick_cons b s e PostgreSql = rw e (or_fails _)
named_tick_cons b s e SQLServer = rw e (or_fails _)

named_bracket_cons : (b : ℕ) (s : List ℕ) → b ≡ 91 → (dialect : Dialect) → in_sql_server dialect (literal (bytes "[") (closed_by (byte "]") (bytes "]"))) (b ∷ s) ≡ placeholder_string_taken dialect (b ∷ s)
unfolding placeholder_string_taken placeholder_quoted_taken spelled one typed starts_with
named_bracket_cons b s e Generic = rw e
named_bracket_cons b s e PostgreSql = rw e
named_bracket_cons b s e SQLServer = rw e (or_fails _)

module _ (dialect : Dialect) (k : ℕ) (r : Option ℕ) where
  pub named_single_is : (s : List ℕ) → starts_with k s ≡ true → k ≡ 39 → r ≡ literal (bytes "'") (closed_by (byte "'") (bytes "\\")) s → r ≡ placeholder_string_taken dialect s
  unfolding starts_with
  named_single_is [] e q f = absurd (false≢true e)
  named_single_is (b ∷ s) e q f = f ∙ named_single_cons b s (eqb-true b k e ∙ q) dialect

  pub named_double_is : (s : List ℕ) → starts_with k s ≡ true → k ≡ 34 → r ≡ literal (bytes "\"") (closed_by (byte "\"") (bytes "\\")) s → r ≡ placeholder_string_taken dialect s
  unfolding starts_with
  named_double_is [] e q f = absurd (false≢true e)
  named_double_is (b ∷ s) e q f = f ∙ named_double_cons b s (eqb-true b k e ∙ q) dialect

  pub named_tick_is : (s : List ℕ) → starts_with k s ≡ true → k ≡ 96 → r ≡ literal (bytes "`") (closed_by (byte "`") (bytes "`")) s → r ≡ placeholder_string_taken dialect s
  unfolding starts_with
  named_tick_is [] e q f = absurd (false≢true e)
  named_tick_is (b ∷ s) e q f = f ∙ named_tick_cons b s (eqb-true b k e ∙ q) dialect

  pub named_bracket_is : (s : List ℕ) → starts_with k s ≡ true → k ≡ 91 → r ≡ in_sql_server dialect (literal (bytes "[") (closed_by (byte "]") (bytes "]"))) s → r ≡ placeholder_string_taken dialect s
  unfolding starts_with
  named_bracket_is [] e q f = absurd (false≢true e)
  named_bracket_is (b ∷ s) e q f = f ∙ named_bracket_cons b s (eqb-true b k e ∙ q) dialect

named_other_cons : (b : ℕ) (s : List ℕ) → eqb b 39 ≡ false → eqb b 34 ≡ false → eqb b 96 ≡ false → eqb b 91 ≡ false → (dialect : Dialect) → literal (bytes "N'") (closed_by (byte "'") (bytes "\\")) (b ∷ s) ≡ placeholder_string_taken dialect (b ∷ s)
unfolding placeholder_string_taken placeholder_quoted_taken spelled one typed starts_with
named_other_cons b s h i j k Generic = rw (h, i, j)
named_other_cons b s h i j k PostgreSql = rw (h, i, j)
named_other_cons b s h i j k SQLServer = rw (h, i, j, k)

pub named_other_is : (dialect : Dialect) (k : ℕ) (r : Option ℕ) (s : List ℕ) → starts_with k s ≡ true → (k ≡ 39 → ⊥) → (k ≡ 34 → ⊥) → (k ≡ 96 → ⊥) → (k ≡ 91 → ⊥)
    → r ≡ literal (bytes "N'") (closed_by (byte "'") (bytes "\\")) s → r ≡ placeholder_string_taken dialect s
unfolding starts_with
named_other_is dialect k r [] e l m n o f = absurd (false≢true e)
named_other_is dialect k r (b ∷ s) e l m n o f = f ∙ named_other_cons b s (is_other k b 39 e l) (is_other k b 34 e m) (is_other k b 96 e n) (is_other k b 91 e o) dialect
