-- What a part takes, and another behind it, with no way back: `behind`.
-- Assumes nothing.
use Rattle.std.proofs.Common.{Option, Some, None}
use Prim.Native.Nat.{ℕ}
use native.Mathlib.Nat.{add-zero}
use mathlib.Core.Path.{◌≡◌, refl, sym, ap, ◌∙◌}
use mathlib.Core.List.{List}
use mathlib.Core.Bool.{Bool, true, false, cond}
use lib.ListN.{length, drop}
use lib.Seq.{drop-drop}
use Rattle.recognisers.specs.Taking.{Taker, more, done, typed, is_spelled, literal}
use Rattle.recognisers.proofs.Spelling.{more_more, spelled_is}
use Rattle.reserved.specs.UcChoices.{behind}

pub behind_behind : (t : Option ℕ) (a b : Taker) (s : List ℕ) → behind (behind t a s) b s ≡ behind t (λ u. behind (a u) b u) s
behind_behind (Some n) a b s = go (a (drop n s))
  where
    go : (u : Option ℕ) → behind (more n u) b s ≡ more n (behind u b (drop n s))
    go (Some m) = rw (← drop-drop m n s) (sym (more_more n m (b (drop m (drop n s)))))
    go None = refl
behind_behind None a b s = refl

pub behind_same : (t : Option ℕ) (a b : Taker) (s : List ℕ) → ((u : List ℕ) → a u ≡ b u) → behind t a s ≡ behind t b s
behind_same (Some n) a b s e = rw (e (drop n s))
behind_same None a b s e = refl

-- n bytes where a test says so
pub bytes_behind : (test : Bool) (n : ℕ) (then : Taker) (s : List ℕ) → cond test (more n (then (drop n s))) None ≡ behind (cond test (more n (Some 0)) None) then s
bytes_behind true n then s = rw (add-zero n)
bytes_behind false n then s = refl

pub literal_behind : (w : List ℕ) (then : Taker) (s : List ℕ) → literal w then s ≡ behind (literal w done s) then s
literal_behind w then s =
    spelled_is typed w s then ∙ bytes_behind (is_spelled typed w s) (length w) then s ∙ ap (λ (t : Option ℕ). behind t then s) (sym (spelled_is typed w s done))
