-- The tight text, by the items of the reading.
-- Assumes nothing.
use Rattle.std.proofs.Common.{Some, None}
use Prim.Native.Nat.{ℕ}
use mathlib.Core.Path.{◌≡◌, refl, ap, ◌∙◌}
use mathlib.Core.List.{List, [], ◌∷◌, ◌++◌}
use mathlib.Core.Bool.{Bool, true, false, cond}
use Rattle.recognisers.specs.declared.TokenKind.{TokenKind}
use Rattle.recognisers.specs.declared.TokenKind.TheVariants as K
use Rattle.recognisers.specs.Kinds.{is_kind}
use Rattle.calls.specs.declared.Settings.{Settings}
use Rattle.tokenizer.specs.declared.Token.{Token}
use Rattle.tokenizer.specs.Tokens.{tokens}
use Rattle.tokenizer.specs.Values.{value}
use Rattle.tight.specs.Returning.{returns}
use Rattle.tight.specs.TightText.{gap_after, gap_bytes, at_end, tight_from, tight}
use Rattle.tight.specs.TightText as T
use Rattle.tight.specs.Agree.{Compared, compared, compared_all, reading, is_gap}
use Rattle.tight.proofs.ReadingItems.{none, plain, returning, sort_after, mark_past, gap_next, items}
use Rattle.tight.proofs.TightReading.{joint, render}

-- what a gap becomes, before a token and at the end
module _ (kind : TokenKind) (gap : List ℕ) where
  before : (z : List ℕ) → gap_bytes (Some (gap_after kind gap)) ++ z ≡ joint (cond (sort_after kind gap) returning plain) kind z
  unfolding gap_after
  before z = go (is_kind kind K.LineComment) (returns gap) refl refl
    where
      go : (t u : Bool) → is_kind kind K.LineComment ≡ t → returns gap ≡ u → gap_bytes (Some (gap_after kind gap)) ++ z ≡ joint (cond (sort_after kind gap) returning plain) kind z
      go true u e f = rw (e, e)
      go false true e f = rw (e, f)
      go false false e f = rw (e, f, e)

  at_end_lem : gap_bytes (at_end (Some (gap_after kind gap))) ≡ joint (cond (sort_after kind gap) returning none) kind []
  unfolding gap_after
  at_end_lem = go (is_kind kind K.LineComment) (returns gap) refl refl
    where
      go : (t u : Bool) → is_kind kind K.LineComment ≡ t → returns gap ≡ u → gap_bytes (at_end (Some (gap_after kind gap))) ≡ joint (cond (sort_after kind gap) returning none) kind []
      go true u e f = rw e
      go false true e f = rw (e, f)
      go false false e f = rw (e, f)

-- behind a token of some kind; behind such a token and a gap; before the first token
record Rendered (s : List ℕ) (ts : List Token) : Type 0 where
  behind : (kind : TokenKind) → tight_from s (Some kind) None ts ≡ joint (gap_next kind (compared_all s ts)) kind (render (items (compared_all s ts)))
  past_gap : (kind : TokenKind) (gap : List ℕ) → tight_from s (Some kind) (Some (gap_after kind gap)) ts ≡ joint (mark_past kind (sort_after kind gap) (compared_all s ts)) kind (render (items (compared_all s ts)))
  first : tight_from s None None ts ≡ render (items (compared_all s ts))

module _ (s : List ℕ) (t : Token) (ts : List Token) (r : Rendered s ts) where
  abbrev cs : List Compared
  cs = compared_all s ts

  rendered_one : (b : Bool) → T.is_gap t ≡ b → is_gap (compared s t) ≡ b → Rendered s (t ∷ ts)
  unfolding tight_from compared_all items render
  rendered_one true e f = record { behind = λ kind. rw (e, f) (past kind); past_gap = λ kind gap. rw (e, f) (past kind); first = rw (e, f) r.first }
    where
      past : (kind : TokenKind) → tight_from s (Some kind) (Some (gap_after kind (value s t))) ts ≡ joint (mark_past kind (sort_after kind (compared s t).value) cs) kind (render (items cs))
      past kind = unfold compared in r.past_gap kind (value s t)
  rendered_one false e f = record { behind = λ kind. rw (e, f) text; past_gap = λ kind gap. rw (e, f) (ap (λ (l : List ℕ). gap_bytes (Some (gap_after kind gap)) ++ l) text ∙ before kind gap _); first = rw (e, f) text }
    where
      text : value s t ++ tight_from s (Some t.kind) None ts ≡ (compared s t).value ++ joint (gap_next (compared s t).kind cs) (compared s t).kind (render (items cs))
      text = unfold compared in rw (r.behind t.kind)

rendered : (s : List ℕ) (ts : List Token) → Rendered s ts
unfolding tight_from compared_all items render
rendered s [] = record { behind = λ kind. refl; past_gap = λ kind gap. at_end_lem kind gap; first = refl }
rendered s (t ∷ ts) = rendered_one s t ts (rendered s ts) (T.is_gap t) refl (gap_is t)
  where
    gap_is : (t : Token) → is_gap (compared s t) ≡ T.is_gap t
    gap_is t = unfold is_gap in unfold compared in unfold T.is_gap in refl

pub tight_is : (settings : Settings) (s : List ℕ) → tight settings s ≡ render (items (reading settings s))
unfolding tight reading
tight_is settings s = (rendered s (tokens settings s)).first
