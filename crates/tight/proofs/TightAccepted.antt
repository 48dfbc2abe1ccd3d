-- The tight text of an accepted search is accepted: it is no longer than the search, and well formed.
-- Assumes nothing.
use Rattle.std.proofs.Common.{Some}
use Rattle.std.specs.Prelude.{Ok}
use Prim.Native.Nat.{ℕ, ◌+◌, ◌<◌}
use native.Mathlib.Nat.{le_trans}
use native.Mathlib.Omega.{arith}
use mathlib.Core.Path.{◌≡◌}
use mathlib.Core.List.{List, [], ◌∷◌}
use mathlib.Core.Bool.{true, false}
use lib.ListN.{take, drop, take-append-drop}
use lib.Seq.{drop-drop}
use Rattle.characters.specs.Classes.{is_whitespace}
use Rattle.characters.specs.Runs.{run}
use Rattle.characters.specs.Utf8.{well_formed}
use Rattle.characters.proofs.WellFormedCuts.{end_formed, run_cut}
use Rattle.recognisers.specs.declared.TokenKind.{TokenKind}
use Rattle.recognisers.proofs.PieceBoundaries.{Bounded}
use Rattle.tokenizer.specs.declared.Memory.{Memory}
use Rattle.calls.specs.declared.Settings.{Settings}
use Rattle.calls.specs.Checks.{checked}
use Rattle.calls.proofs.Checks.{accepts, accepted}
use Rattle.tokenizer.specs.Memory.{start}
use Rattle.tokenizer.specs.Tokens.{given_out}
use Rattle.tokenizer.proofs.TokenBoundaries.{piece_bounded}
use Rattle.tight.specs.TightText.{tight}
use Rattle.tight.proofs.TightShort.{tight_short}
use Rattle.tight.proofs.Whitespace.{is_blank}
use Rattle.tight.proofs.Sim.{Separator, space, newline, return}
use Rattle.tight.proofs.ReadingItems.{past, read_from, reading_is, read_none, after_gap, Mark, none, plain, returning, items}
use Rattle.tight.proofs.GapRuns.{each_rest, gap_of_lem}
use Rattle.tight.proofs.TightReading.{found, mark, items_gap, joint, render, render_one, separates}
use Rattle.tight.proofs.TightByItems.{tight_is}
use Rattle.characters.proofs.ReplacedEnds.{replaced, ascii_before}

-- ---- it is well formed

separator_ascii : {s : ℕ} → Separator s → s < 0x80
separator_ascii space = omega arith
separator_ascii newline = omega arith
separator_ascii return = omega arith

joint_formed : (m : Mark) (kind : TokenKind) (z : List ℕ) → well_formed z ≡ true → well_formed (joint m kind z) ≡ true
joint_formed plain kind z w = let q = separates kind in rw q.is (ascii_before q.s z (separator_ascii q.separator) w)
joint_formed none kind z w = w
joint_formed returning kind z w = ascii_before 13 z (omega arith) w

module _ (settings : Settings) where
  abbrev Formed : List ℕ → Type 0
  Formed z = (memory : Memory) → is_blank z ≡ false → well_formed z ≡ true → well_formed (render (items (read_from settings memory 0 z))) ≡ true

  formed_nil : Formed []
  unfolding items render
  formed_nil memory h w = rw (read_none settings memory) end_formed

  formed_cons : (b : ℕ) (x : List ℕ) → ((k : ℕ) → Formed (drop k x)) → Formed (b ∷ x)
  formed_cons b x ih memory h w =
      let f = found settings memory b x in
      let y : List ℕ = drop f.n x in
      let cut : well_formed (drop f.p.len (b ∷ x)) ≡ true = (let q : Bounded (b ∷ x) (Some f.p) = rw f.is at (piece_bounded settings memory (b ∷ x) w) in q) in
      let formed_y : well_formed (drop f.n x) ≡ true = rw f.long at cut in
      rw (render_one settings memory b x f.p f.n h f.is f.long)
      (replaced (b ∷ take f.n x) (drop f.n x) _ (rw (take-append-drop f.n x) w) formed_y
      (joint_formed (mark (given_out settings.joins f.p.kind) (drop f.n x)) (given_out settings.joins f.p.kind) _ (rest f.n (past memory f.p (b ∷ x)) formed_y)))
    where
      rest : (n : ℕ) (m : Memory) → well_formed (drop n x) ≡ true → well_formed (render (items (read_from settings m 0 (after_gap (drop n x))))) ≡ true
      rest n m v = all m (gap_of_lem (drop n x)).ended (run_cut is_whitespace 0 (drop n x) v)
        where
          all : Formed (after_gap (drop n x))
          all = rw (drop-drop (run is_whitespace 0 (drop n x)) n x) (ih (n + run is_whitespace 0 (drop n x)))

  formed : (z : List ℕ) → Formed z
  formed z = each_rest Formed formed_nil formed_cons z 0

  pub tight_formed : (s : List ℕ) → well_formed s ≡ true → well_formed (tight settings s) ≡ true
  tight_formed s w =
      rw (tight_is settings s, reading_is settings s, items_gap settings start s) (formed (after_gap s) start (gap_of_lem s).ended (run_cut is_whitespace 0 s w))

-- ---- it is accepted

module _ (dialect joins named : ℕ) (settings : Settings) where
  pub tight_accepted : (s : List ℕ) → checked dialect joins named s ≡ Ok settings → checked dialect joins named (tight settings s) ≡ Ok settings
  tight_accepted s e =
      let a = accepts dialect joins named settings s e in
      accepted dialect joins named settings (tight settings s)
      (record { setting = a.setting; is = a.is; short = le_trans (tight_short settings s) a.short; utf8 = tight_formed settings s a.utf8 })
