-- The sum of the escaped quotes over the tokens: a walk in which each token adds a mark for each, and how large the sum can be.
-- Assumes nothing.
use Rattle.std.proofs.Common.{Some}
use Prim.Native.Nat.{ℕ, zero, suc, ◌*◌, ◌/◌, ◌^◌, ◌≤◌, ◌<◌, zero-le}
use native.Mathlib.Omega.{arith}
use mathlib.Core.Path.{◌≡◌, refl, ap}
use mathlib.Core.List.{List, [], ◌∷◌, ◌++◌}
use lib.ListN.{length, drop, length-append}
use lib.Seq.{length-take-le}
use Rattle.recognisers.specs.declared.Piece.{Piece}
use Rattle.recognisers.proofs.PieceSizes.{Sized}
use Rattle.calls.specs.declared.Settings.{Settings}
use Rattle.tokenizer.specs.declared.walking.Tokens.{Tokens}
use Rattle.tokenizer.specs.declared.Memory.{Memory}
use Rattle.tokenizer.specs.declared.Token.{Token}
use Rattle.tokenizer.specs.declared.Totals.{Totals}
use Rattle.tokenizer.specs.EscapedQuotes.{escaped_in, totals}
use Rattle.tokenizer.specs.NextToken.{next_piece}
use Rattle.tokenizer.specs.Records.{record_bytes, records_of}
use Rattle.tokenizer.specs.Tokens.{token_at, tokens}
use Rattle.tokenizer.specs.Values.{value, values}
use Rattle.tokenizer.proofs.EachToken.{Each, each_token}
use Rattle.tokenizer.proofs.EndToEnd.{end_to_end}
use Rattle.tokenizer.proofs.NextPieceSizes.{piece_sized}
use Rattle.tokenizer.proofs.RecordBytes.{record_walk, records_count}
use Rattle.tokenizer.proofs.LevelLaws.{Low}
use Rattle.tokenizer.proofs.Walks.{Walk, Counted, Wrote}

-- ---- the walk

-- n of them
abbrev marks : ℕ → List (Unit {0})
marks zero = []
marks (suc n) = tt ∷ marks n

marked : (n : ℕ) → n ≡ length (marks n)
marked zero = refl
marked (suc n) = ap suc (marked n)

pub token_marked : (t : Token) → t.escaped ≡ length (marks t.escaped)
token_marked t = marked t.escaped

abbrev pub all_marks : List Token → List (Unit {0})
all_marks [] = []
all_marks (t ∷ ts) = marks t.escaped ++ all_marks ts

abbrev pub escaped_walk : Walk (Unit {0}) (Unit {0})
escaped_walk = record { adds = λ x t. marks t.escaped; past = λ x t. x; text = λ x ts. all_marks ts; none = λ x. refl; more = λ x t ts. refl }

all_marked : (ts : List Token) → length (all_marks ts) ≡ escaped_in ts
unfolding escaped_in
all_marked [] = refl
all_marked (t ∷ ts) = rw (length-append, ← marked t.escaped, all_marked ts)

-- ---- a quote that is escaped takes two bytes

abbrev Few : List ℕ → Token → Type 0
Few s t = t.escaped * 2 ≤ length (value s t)

few_sum : (s : List ℕ) (ts : List Token) → Each (Few s) ts → escaped_in ts * 2 ≤ length (values s ts)
unfolding escaped_in values
few_sum s [] h = zero-le
few_sum s (t ∷ ts) h = rw length-append (omega (arith, h.0, few_sum s ts h.1))

module _ (settings : Settings) (s : List ℕ) where
  few_each : Each (Few s) (tokens settings s)
  few_each = each_token settings s (Few s) (λ at. Unit {0}) one tt
    where
      one : (memory : Memory) (at : ℕ) (p : Piece) → at < length s → Unit {0} → next_piece settings memory (drop at s) ≡ Some p → Few s (token_at settings at p) × Unit {0}
      one memory at p h u e =
          let f : Sized (drop at s) (Some p) = rw e at (piece_sized settings memory (drop at s)) in
          (rw (length-take-le p.len (drop at s) f.inside) f.escaped_inside, tt)

  pub few_escaped : escaped_in (tokens settings s) * 2 ≤ length s
  few_escaped = rw end_to_end at (few_sum s (tokens settings s) few_each)

  pub escaped_fit : length s < 2 ^ 64 → length (all_marks (tokens settings s)) < 2 ^ 64
  escaped_fit h = omega (arith, all_marked (tokens settings s), few_escaped)

-- ---- the loop

pub record Tabled (settings : Settings) (s before table : List ℕ) (at escaped level : ℕ) (it : Tokens) : Type 0 where
  pub wrote : Wrote record_walk settings s (records_of (tokens settings s)) before table at level it
  pub low : Low s level it
  pub marked : Counted escaped_walk settings s (all_marks (tokens settings s)) escaped tt it

pub totals_are : (ts : List Token) (at escaped : ℕ) → at ≡ length (records_of ts) → escaped ≡ length (all_marks ts) → ◌≡◌ {A = Totals} (record { tokens = at / record_bytes; escaped = escaped }) (totals ts)
totals_are ts at escaped e f = rw (records_count ts at e, f, all_marked ts)
