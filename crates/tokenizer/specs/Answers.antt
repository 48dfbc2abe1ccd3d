-- What a caller of `tokenize` is told, and what becomes of the table lent.
use Rattle.std.specs.Prelude.{ℕ, ◌/◌, cond, List, ltb, length, Result, Ok, Err}
use Rattle.calls.specs.declared.Refusal.TheVariants.{TableFull}
use Rattle.calls.specs.declared.Settings.{Settings}
use Rattle.calls.specs.Checks.{checked, accepted_or}
use Rattle.calls.specs.Refusals.{refusal_number, refusal_detail}
use Rattle.tokenizer.specs.declared.Totals.{Totals}
use Rattle.tokenizer.specs.Tokens.{tokens}
use Rattle.tokenizer.specs.Records.{record_bytes, written}
use Rattle.tokenizer.specs.EscapedQuotes.{totals}
use Rattle.calls.specs.declared.Refusal.{Refusal}

-- whole records in a table of so many bytes
unfoldable pub table_answer : Settings → List ℕ → ℕ → Result Totals Refusal
table_answer settings s room =
    cond (ltb (room / record_bytes) (length (tokens settings s))) (Err (TableFull (length (tokens settings s))))
    (Ok (totals (tokens settings s)))

unfoldable pub table_after : Settings → List ℕ → List ℕ → List ℕ
table_after settings s table = cond (ltb (length table / record_bytes) (length (tokens settings s))) table (written (tokens settings s) table)

-- the answer, for a statement, the settings as numbers and a table of so many bytes
unfoldable pub tokenize_answer : List ℕ → ℕ → ℕ → ℕ → ℕ → Result Totals Refusal
tokenize_answer s dialect joins named room = accepted_or (λ settings. table_answer settings s room) Err (checked dialect joins named s)

-- the whole table afterwards
unfoldable pub tokenize_records : List ℕ → ℕ → ℕ → ℕ → List ℕ → List ℕ
tokenize_records s dialect joins named table = accepted_or (λ settings. table_after settings s table) (λ refusal. table) (checked dialect joins named s)

-- the number, the detail beside it, and how many quotes are escaped
abbrev pub table_number : Result Totals Refusal → ℕ
table_number (Ok t) = 0
table_number (Err refusal) = refusal_number refusal

abbrev pub table_detail : Result Totals Refusal → ℕ
table_detail (Ok t) = t.tokens
table_detail (Err refusal) = refusal_detail refusal

abbrev pub table_escaped : Result Totals Refusal → ℕ
table_escaped (Ok t) = t.escaped
table_escaped (Err refusal) = 0
