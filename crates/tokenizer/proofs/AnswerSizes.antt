-- How large the numbers of an answer can be where tokens were written.
-- Assumes nothing.
use Rattle.std.specs.Prelude.{Result, Ok, Err}
use Prim.Native.Nat.{ℕ, ◌*◌, ◌/◌, ◌≤◌}
use native.Mathlib.Omega.{arith}
use mathlib.Core.Path.{◌≡◌, refl}
use mathlib.Core.Bool.{Bool, true, false, cond}
use mathlib.Core.List.{List}
use lib.Dec.{ltb}
use lib.ListN.{length}
use Rattle.calls.specs.declared.Refusal.TheVariants.{TableFull}
use Rattle.calls.specs.declared.Settings.{Settings}
use Rattle.calls.specs.Checks.{longest, checked, accepted_or}
use Rattle.calls.proofs.Checks.{accepted_short}
use Rattle.tokenizer.specs.Answers.{table_answer, tokenize_answer}
use Rattle.tokenizer.specs.EscapedQuotes.{totals}
use Rattle.tokenizer.specs.Records.{record_bytes}
use Rattle.tokenizer.specs.Tokens.{tokens}
use Rattle.tokenizer.proofs.EndToEnd.{tokens_short}
use Rattle.tokenizer.proofs.EscapedTotals.{few_escaped}
use Rattle.calls.specs.declared.Refusal.{Refusal}
use Rattle.tokenizer.specs.declared.Totals.{Totals}

-- no more tokens than bytes, and two bytes for each escaped quote
abbrev pub Small : Result Totals Refusal → Type 0
Small (Ok t) = (t.tokens ≤ longest) × (t.escaped * 2 ≤ longest)
Small (Err refusal) = Unit {0}

module _ (s : List ℕ) (dialect joins named room : ℕ) where
  written_small : (settings : Settings) → length s ≤ longest → Small (table_answer settings s room)
  unfolding table_answer
  written_small settings l = go (ltb (room / record_bytes) (length (tokens settings s)))
    where
      go : (t : Bool) → Small (cond t (Err (TableFull (length (tokens settings s)))) (Ok (totals (tokens settings s))))
      go true = tt
      go false = let a = tokens_short settings s in let b = few_escaped settings s in (omega (arith, a, l), omega (arith, b, l))

  pub answer_small : Small (tokenize_answer s dialect joins named room)
  unfolding tokenize_answer
  answer_small = go (checked dialect joins named s) refl
    where
      go : (c : Result Settings Refusal) → checked dialect joins named s ≡ c → Small (accepted_or (λ settings. table_answer settings s room) Err c)
      go (Ok settings) e = written_small settings (accepted_short dialect joins named s settings e)
      go (Err refusal) e = tt
