-- A word goes on where its ASCII characters end.
-- Assumes nothing.
use Prim.Native.Nat.{ℕ, suc, ◌+◌, ◌≤◌, ◌<◌, suc-le-suc, zero-le}
use native.Mathlib.Nat.{zero-add}
use native.Mathlib.Omega.{arith}
use mathlib.Core.Path.{◌≡◌, refl, sym, ◌∙◌}
use mathlib.Core.List.{List, [], ◌∷◌}
use mathlib.Core.Bool.{Bool, true, false, cond, and-eq-true_iff}
use lib.ListN.{length, drop, get_or}
use lib.Dec.{ltb}
use borrow.Author.Tests.{ltb-true}
use Rattle.characters.specs.Ascii.{is_ascii_word}
use Rattle.characters.specs.Classes.{is_word_character}
use Rattle.characters.specs.Runs.{in_class, run}
use Rattle.characters.specs.declared.Class.TheVariants.{Word}
use Rattle.characters.specs.Inner.RunAt.{RunAt}
use Rattle.characters.proofs.AsciiRule.{word_byte}
use Rattle.characters.proofs.RunLaws.{run_step, run_end, byte_stop, ascii_first, ascii_length}
use Rattle.recognisers.specs.Taking.{count}
use Rattle.recognisers.specs.Inner.WordLength.{word_length}
use Rattle.recognisers.proofs.ByteLoops.{count_inside, stopped}

-- the run goes on behind them
run_on : (s : List ℕ) → run (in_class Word) 0 s ≡ count is_ascii_word s + run (in_class Word) 0 (drop (count is_ascii_word s) s)
unfolding count in_class
run_on [] = sym (zero-add (run is_word_character 0 []))
run_on (b ∷ s) = go (is_ascii_word b) refl (run_on s)
  where
    go : (t : Bool) → is_ascii_word b ≡ t → run is_word_character 0 s ≡ count is_ascii_word s + run is_word_character 0 (drop (count is_ascii_word s) s)
        → run is_word_character 0 (b ∷ s) ≡ cond t (suc (count is_ascii_word s)) 0 + run is_word_character 0 (drop (cond t (suc (count is_ascii_word s)) 0) (b ∷ s))
    go true q ih =
        let both = (and-eq-true_iff (ltb b 128) (is_word_character b)).0 (sym (word_byte b) ∙ q) in
        let l = ltb-true b 128 both.0 in
        run_step Word (b ∷ s) (suc-le-suc zero-le)
        ∙ rw (ascii_first b s l, both.1, ascii_length (b ∷ s) 0 (suc-le-suc zero-le) l, ih) (omega arith)
    go false q ih = sym (zero-add (run is_word_character 0 (b ∷ s)))

-- as `word_end` uses it
module _ (s : List ℕ) (n : ℕ) (e : n ≡ word_length s) where
  pub word_at : RunAt Word s n
  unfolding word_length
  word_at = record { inside = rw e (count_inside is_ascii_word s); same = rw e (run_on s) }

  pub word_whole : length s ≤ n → n ≡ run is_word_character 0 s
  unfolding in_class
  word_whole h = run_end Word s n word_at h

  pub word_stops : n < length s → get_or s n 0 < 128 → n ≡ run is_word_character 0 s
  unfolding in_class word_length
  word_stops h l = byte_stop Word s n h (is_ascii_word (get_or s n 0)) (word_byte (get_or s n 0)) word_at (stopped is_ascii_word s n e h) l
