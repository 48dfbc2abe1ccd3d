-- The tight text reads as the statement does.
-- Assumes nothing.
use Rattle.std.proofs.Common.{Option, Some, None}
use Prim.Native.Nat.{ℕ, zero, suc, ◌+◌}
use native.Mathlib.Omega.{arith}
use mathlib.Core.Path.{◌≡◌, refl, sym, ap, ◌∙◌}
use mathlib.Core.List.{List, [], ◌∷◌, ◌++◌}
use mathlib.Core.Bool.{Bool, true, false, cond, ◌||◌, false≢true}
use lib.ListN.{take, drop}
use lib.Seq.{drop-drop}
use Rattle.characters.specs.Classes.{is_whitespace}
use Rattle.characters.specs.Character.{continuations, continued}
use Rattle.characters.specs.Runs.{run}
use Rattle.recognisers.specs.declared.Key.{Key}
use Rattle.recognisers.specs.declared.Key.TheVariants.{Named, Escaped, ZeroIndexed, OneIndexed}
use Rattle.recognisers.specs.declared.Piece.{Piece}
use Rattle.recognisers.specs.declared.TokenKind.{TokenKind}
use Rattle.recognisers.specs.declared.TokenKind.TheVariants as K
use Rattle.recognisers.specs.Kinds.{is_kind}
use Rattle.recognisers.specs.Taking.{starts_with}
use Rattle.recognisers.proofs.PieceSizes.{KeyFits, Sized, Sound}
use Rattle.tokenizer.specs.declared.Memory.{Memory}
use Rattle.calls.specs.declared.Settings.{Settings}
use Rattle.tokenizer.specs.NextToken.{next_piece}
use Rattle.tokenizer.specs.Tokens.{given_out}
use Rattle.tokenizer.proofs.NextPieceSizes.{piece_sized}
use Rattle.tokenizer.proofs.EndToEnd.{Recognises, piece_recognised}
use Rattle.tight.specs.declared.Gap.{Gap}
use Rattle.tight.specs.declared.Gap.TheVariants.{LineFeed, Space, Return}
use Rattle.tight.specs.Returning.{returns}
use Rattle.tight.specs.TightText.{gap_bytes, gap_byte}
use Rattle.tight.specs.Agree.{meaning, only_gaps}
use Rattle.tight.proofs.Whitespace.{is_blank, none_blank}
use Rattle.tight.proofs.Sim.{Separator, space, newline, return, at_end_lem, Sim, nil, keep, same, swap, lose, blank, blank_sim, separator_blank, take_sim}
use Rattle.tight.proofs.LineComments.{is_nil, Broken, at_nil, at_newline, later, Returning, returns_kept, returns_past, no_newline, returns_head}
use Rattle.tight.proofs.SimRecognisers.{part_of, byte_of}
use Rattle.tight.proofs.SimPieces.{piece_sim, told}
use Rattle.tight.proofs.ReadingItems.{piece_compared, past, read_from, read_none, read_one, after_gap, run_text, read_gap, Mark, none, plain, returning, Item, item, sort_after, mark_past, gap_next, items, is_gap_lem, given_line, compared_no_gap}
use Rattle.tight.proofs.GapRuns.{each_rest, gap_of_lem}

-- ---- one token of a reading

-- the piece at the start of a rest, and how many bytes it has behind its first
pub record Found (settings : Settings) (memory : Memory) (b : ℕ) (x : List ℕ) : Type 0 where
  pub p : Piece
  pub n : ℕ
  pub is : next_piece settings memory (b ∷ x) ≡ Some p
  pub long : p.len ≡ suc n
  pub sound : Sound (b ∷ x) p

pub found : (settings : Settings) (memory : Memory) (b : ℕ) (x : List ℕ) → Found settings memory b x
found settings memory b x = go (next_piece settings memory (b ∷ x)) refl (piece_recognised settings memory b x) (piece_sized settings memory (b ∷ x))
  where
    of : (p : Piece) (n : ℕ) → p.len ≡ n → next_piece settings memory (b ∷ x) ≡ Some p → Sound (b ∷ x) p → Found settings memory b x
    of p zero l e s = absurd (let k = s.some in let z : ⊥ = omega arith in z)
    of p (suc n) l e s = record { p = p; n = n; is = e; long = l; sound = s }

    go : (q : Option Piece) → next_piece settings memory (b ∷ x) ≡ q → Recognises q → Sized (b ∷ x) q → Found settings memory b x
    go (Some p) e h s = of p p.len refl e s
    go None e h s = absurd h

pub only_gaps_lem : (settings : Settings) (memory : Memory) (z : List ℕ) → is_blank z ≡ false → only_gaps (read_from settings memory 0 z) ≡ is_nil z
unfolding only_gaps
only_gaps_lem settings memory [] h = rw (read_none settings memory)
only_gaps_lem settings memory (b ∷ x) h =
    let f = found settings memory b x in
    rw (read_one settings memory b x f.p f.n f.is f.long, compared_no_gap settings memory b x f.p h f.is)

-- of a gap of this sort, with the end behind it or a token
abbrev pub mark_end : Bool → Bool → Mark
mark_end sort end = cond sort returning (cond end none plain)

abbrev pub gap_of : List ℕ → List ℕ
gap_of y = take (run is_whitespace 0 y) y

-- of the bytes behind a token of this kind: what is told of a gap there
unfoldable pub mark : TokenKind → List ℕ → Mark
mark kind y = cond (is_blank y) (mark_end (sort_after kind (gap_of y)) (is_nil (after_gap y))) none

past_next : (settings : Settings) (memory : Memory) (kind : TokenKind) (sort : Bool) (z : List ℕ) → is_blank z ≡ false → mark_past kind sort (read_from settings memory 0 z) ≡ mark_end sort (is_nil z)
past_next settings memory kind sort [] h = rw (read_none settings memory)
past_next settings memory kind sort (b ∷ x) h =
    let f = found settings memory b x in
    rw (read_one settings memory b x f.p f.n f.is f.long, compared_no_gap settings memory b x f.p h f.is)

gap_next_lem : (settings : Settings) (memory : Memory) (kind : TokenKind) (y : List ℕ) → gap_next kind (read_from settings memory 0 y) ≡ mark kind y
unfolding mark
gap_next_lem settings memory kind [] = rw (read_none settings memory, none_blank)
gap_next_lem settings memory kind (b ∷ x) = go (is_blank (b ∷ x)) refl
  where
    go : (t : Bool) → is_blank (b ∷ x) ≡ t → gap_next kind (read_from settings memory 0 (b ∷ x)) ≡ cond t (mark_end (sort_after kind (gap_of (b ∷ x))) (is_nil (after_gap (b ∷ x)))) none
    go true e =
        rw (read_gap settings memory b x e, is_gap_lem (run is_whitespace 0 (b ∷ x)) (b ∷ x))
        (past_next settings memory kind (sort_after kind (gap_of (b ∷ x))) (after_gap (b ∷ x)) (gap_of_lem (b ∷ x)).ended)
    go false e =
        let f = found settings memory b x in
        rw (read_one settings memory b x f.p f.n f.is f.long, compared_no_gap settings memory b x f.p e f.is)

pub items_gap : (settings : Settings) (memory : Memory) (y : List ℕ) → items (read_from settings memory 0 y) ≡ items (read_from settings memory 0 (after_gap y))
unfolding items
items_gap settings memory [] = rw (run_text [] none_blank)
items_gap settings memory (b ∷ x) = go (is_blank (b ∷ x)) refl
  where
    go : (t : Bool) → is_blank (b ∷ x) ≡ t → items (read_from settings memory 0 (b ∷ x)) ≡ items (read_from settings memory 0 (after_gap (b ∷ x)))
    go true e = rw (read_gap settings memory b x e, is_gap_lem (run is_whitespace 0 (b ∷ x)) (b ∷ x))
    go false e = rw (run_text (b ∷ x) e)

pub items_one : (settings : Settings) (memory : Memory) (b : ℕ) (x : List ℕ) (p : Piece) (n : ℕ) → is_blank (b ∷ x) ≡ false → next_piece settings memory (b ∷ x) ≡ Some p → p.len ≡ suc n
    → items (read_from settings memory 0 (b ∷ x))
    ≡ item (piece_compared settings (b ∷ x) p) (mark (given_out settings.joins p.kind) (drop n x)) ∷ items (read_from settings (past memory p (b ∷ x)) 0 (after_gap (drop n x)))
unfolding items
items_one settings memory b x p n h e l =
    rw (read_one settings memory b x p n e l, compared_no_gap settings memory b x p h e, gap_next_lem settings (past memory p (b ∷ x)) (given_out settings.joins p.kind) (drop n x), items_gap settings (past memory p (b ∷ x)) (drop n x))

-- ---- the tight text of items

-- what a gap that does not return becomes behind a token of this kind
abbrev pub usual : TokenKind → Gap
usual kind = cond (is_kind kind K.LineComment) LineFeed Space

abbrev pub joint : Mark → TokenKind → List ℕ → List ℕ
joint none kind z = z
joint plain kind z = gap_bytes (Some (usual kind)) ++ z
joint returning kind z = gap_bytes (Some Return) ++ z

unfoldable pub render : List Item → List ℕ
render [] = []
render (item c m ∷ is) = c.value ++ joint m c.kind (render is)

-- the one byte that a gap becomes that does not return
pub record Separates (kind : TokenKind) : Type 0 where
  pub s : ℕ
  pub separator : Separator s
  pub is : gap_byte (usual kind) ≡ s
  pub line : is_kind kind K.LineComment ≡ true → s ≡ 10
  pub other : is_kind kind K.LineComment ≡ false → s ≡ 32
  pub sort : sort_after kind (s ∷ []) ≡ false

pub separates : (kind : TokenKind) → Separates kind
unfolding returns
separates kind = go (is_kind kind K.LineComment) refl
  where
    go : (t : Bool) → is_kind kind K.LineComment ≡ t → Separates kind
    go true e = record { s = 10; separator = newline; is = rw e; line = λ l. refl; other = λ l. absurd (false≢true (sym l ∙ e)); sort = rw e }
    go false e = record { s = 32; separator = space; is = rw e; line = λ l. absurd (false≢true (sym e ∙ l)); other = λ l. refl; sort = rw e }

-- ---- what the first bytes tell is the same

meaning_of : (n : ℕ) (key : Option Key) (r r' : List ℕ) → KeyFits n key → take n r ≡ take n r' → meaning r' key ≡ meaning r key
meaning_of n None r r' h e = refl
meaning_of n (Some (Named start len)) r r' h e = rw (part_of start len n r h, part_of start len n r' h, e)
meaning_of n (Some (Escaped start len)) r r' h e =
    rw (part_of start len n r (omega arith), part_of start len n r' (omega arith), byte_of (start + len) n r h, byte_of (start + len) n r' h, e)
meaning_of n (Some (ZeroIndexed i)) r r' h e = refl
meaning_of n (Some (OneIndexed i)) r r' h e = refl

same_compared : (settings : Settings) (p : Piece) (r r' : List ℕ) → KeyFits p.len p.key → take p.len r ≡ take p.len r' → piece_compared settings r' p ≡ piece_compared settings r p
same_compared settings p r r' h e = rw (meaning_of p.len p.key r r' h e, e)

-- ---- one token's bytes

sim_nil : {n : ℕ} {x x' : List ℕ} → Sim n x x' → is_nil x ≡ true → x' ≡ []
sim_nil nil h = refl
sim_nil (keep s) h = absurd (false≢true h)
sim_nil (same s) h = absurd (false≢true h)
sim_nil (swap (blank w r) p s) h = absurd (false≢true h)
sim_nil (lose (blank w r) p s) h = absurd (false≢true h)

record Kept (n : ℕ) (x y' : List ℕ) : Type 0 where
  sim : Sim n x (take n x ++ y')
  rest : drop n (take n x ++ y') ≡ y'
  broken : Broken 0 y' → Broken n (take n x ++ y')

kept : (n : ℕ) (x y' : List ℕ) → Sim 0 (drop n x) y' → Kept n x y'
kept zero x y' s = record { sim = s; rest = refl; broken = λ b. b }
kept (suc n) [] y' s = rw (sim_nil s refl) (record { sim = nil; rest = refl; broken = λ b. at_nil })
kept (suc n) (b ∷ x) y' s =
    let i = kept n x y' s in
    record { sim = keep i.sim; rest = i.rest; broken = λ r. later (i.broken r) }

-- ---- what follows a token

-- z' stands for z, a rest that begins with a token; `line`: where z refuses a line comment, so does z'
record Read (settings : Settings) (memory : Memory) (z z' : List ℕ) : Type 0 where
  sim : Sim 0 z z'
  again : items (read_from settings memory 0 z') ≡ items (read_from settings memory 0 z)
  starts : is_blank z' ≡ false
  nils : is_nil z' ≡ is_nil z
  line : Returning z z'

-- y' stands for y, what follows a token of this kind; `line` is needed only where that is no line comment
record Follow (kind : TokenKind) (y y' z' : List ℕ) : Type 0 where
  sim : Sim 0 y y'
  gap : mark kind y' ≡ mark kind y
  next : after_gap y' ≡ z'
  broken : is_kind kind K.LineComment ≡ true → (is_nil y || is_blank y) ≡ true → Broken 0 y'
  line : is_kind kind K.LineComment ≡ false → Returning y y' × (starts_with 10 y' ≡ false)

mark_none : (kind : TokenKind) (y : List ℕ) → is_blank y ≡ false → mark kind y ≡ none
unfolding mark
mark_none kind y h = rw h

mark_is : (kind : TokenKind) (y : List ℕ) {t u : Bool} → is_blank y ≡ true → sort_after kind (gap_of y) ≡ t → is_nil (after_gap y) ≡ u → mark kind y ≡ mark_end t u
unfolding mark
mark_is kind y h f g = rw (h, f, g)

is_nil_lem : (x : List ℕ) → is_nil x ≡ true → x ≡ []
is_nil_lem [] h = refl
is_nil_lem (b ∷ x) h = absurd (false≢true h)

after_none : (z : List ℕ) → is_blank z ≡ false → after_gap z ≡ z
after_none z h = rw (run_text z h)

run_separator : {s : ℕ} (z : List ℕ) → Separator s → is_blank z ≡ false → run is_whitespace 0 (s ∷ z) ≡ 1
unfolding run continuations continued
run_separator z space h = rw (separator_blank z space, run_text z h)
run_separator z newline h = rw (separator_blank z newline, run_text z h)
run_separator z return h = rw (separator_blank z return, run_text z h)

after_separator : {s : ℕ} (z : List ℕ) → Separator s → is_blank z ≡ false → after_gap (s ∷ z) ≡ z
after_separator z p h = rw (run_separator z p h)

mark_separator : {s : ℕ} {t : Bool} (kind : TokenKind) (z : List ℕ) → Separator s → is_blank z ≡ false → sort_after kind (s ∷ []) ≡ t → mark kind (s ∷ z) ≡ mark_end t (is_nil z)
mark_separator {s} kind z p h f =
    mark_is kind (s ∷ z) (separator_blank z p) (ap (λ (n : ℕ). sort_after kind (take n (s ∷ z))) (run_separator z p h) ∙ f) (ap is_nil (after_separator z p h))

-- only behind what is no line comment a gap is taken for one that returns
sort_line : (kind : TokenKind) (gap : List ℕ) → sort_after kind gap ≡ true → is_kind kind K.LineComment ≡ false
sort_line kind gap h = go (is_kind kind K.LineComment) h
  where
    go : (t : Bool) → cond t false (returns gap) ≡ true → t ≡ false
    go true e = sym e
    go false e = refl

module _ (settings : Settings) (memory : Memory) (kind : TokenKind) (y z' : List ℕ) (r : Read settings memory (after_gap y) z') where
  -- no gap
  follow_none : is_blank y ≡ false → Follow kind y z' z'
  follow_none f =
      record {
        sim = rw (after_none y f) at r.sim;
        gap = mark_none kind z' r.starts ∙ sym (mark_none kind y f);
        next = after_none z' r.starts;
        broken = λ e h. rw (is_nil_lem z' (r.nils ∙ ap is_nil (after_none y f) ∙ left (is_nil y) (is_blank y) f h)) at_nil;
        line = λ l. (rw (after_none y f) at r.line, no_newline z' r.starts);
      }
    where
      left : (t u : Bool) → u ≡ false → (t || u) ≡ true → t ≡ true
      left true u f h = refl
      left false u f h = sym f ∙ h

  -- a gap that does not return: what is kept of the rest behind it is kept
  past_sort : sort_after kind (gap_of y) ≡ false → is_kind kind K.LineComment ≡ false → Returning y z'
  past_sort f l h = r.line (returns_past (run is_whitespace 0 y) y (rw l at f) h)

  -- such a gap, and the end
  follow_last : mark kind y ≡ none → sort_after kind (gap_of y) ≡ false → is_nil (after_gap y) ≡ true → Follow kind y z' z'
  follow_last m f g =
      let e : z' ≡ [] = is_nil_lem z' (r.nils ∙ g) in
      record {
        sim = (gap_of_lem y).lost z' (rw e at_end_lem) r.sim;
        gap = mark_none kind z' r.starts ∙ sym m;
        next = after_none z' r.starts;
        broken = λ l h. rw e at_nil;
        line = λ l. (past_sort f l, no_newline z' r.starts);
      }

  -- such a gap, and a token
  follow_gap : mark kind y ≡ plain → is_blank y ≡ true → sort_after kind (gap_of y) ≡ false → is_nil (after_gap y) ≡ false → Follow kind y (gap_bytes (Some (usual kind)) ++ z') z'
  unfolding returns starts_with
  follow_gap m b f g =
      let q = separates kind in
      rw q.is
      (record {
        sim = (gap_of_lem y).swapped q.s z' q.separator b r.sim;
        gap = mark_separator kind z' q.separator r.starts q.sort ∙ ap (λ (u : Bool). mark_end false u) (r.nils ∙ g) ∙ sym m;
        next = after_separator z' q.separator r.starts;
        broken = λ l h. rw (q.line l) at_newline;
        line = λ l. rw (q.other l) (past_sort f l, refl);
      })

  -- a gap that returns
  follow_return : mark kind y ≡ returning → is_blank y ≡ true → sort_after kind (gap_of y) ≡ true → Follow kind y (gap_bytes (Some Return) ++ z') z'
  unfolding returns starts_with
  follow_return m b f =
      let l : is_kind kind K.LineComment ≡ false = sort_line kind (gap_of y) f in
      record {
        sim = (gap_of_lem y).swapped 13 z' return b r.sim;
        gap = mark_separator {t = true} kind z' return r.starts (rw l) ∙ sym m;
        next = after_separator z' return r.starts;
        broken = λ e h. absurd (false≢true (sym l ∙ e));
        line = λ e. (λ h. rw (no_newline z' r.starts), refl);
      }

  follow : Follow kind y (joint (mark kind y) kind z') z'
  follow = go (is_blank y) (sort_after kind (gap_of y)) (is_nil (after_gap y)) refl refl refl
    where
      go : (t u v : Bool) → is_blank y ≡ t → sort_after kind (gap_of y) ≡ u → is_nil (after_gap y) ≡ v → Follow kind y (joint (mark kind y) kind z') z'
      go false u v e f g = rw (mark_none kind y e) (follow_none e)
      go true true v e f g = rw (mark_is kind y e f g) (follow_return (mark_is kind y e f g) e f)
      go true false true e f g = rw (mark_is kind y e f g) (follow_last (mark_is kind y e f g) f g)
      go true false false e f g = rw (mark_is kind y e f g) (follow_gap (mark_is kind y e f g) e f g)

pub render_one : (settings : Settings) (memory : Memory) (b : ℕ) (x : List ℕ) (p : Piece) (n : ℕ) → is_blank (b ∷ x) ≡ false → next_piece settings memory (b ∷ x) ≡ Some p → p.len ≡ suc n
    → render (items (read_from settings memory 0 (b ∷ x)))
    ≡ b ∷ (take n x ++ joint (mark (given_out settings.joins p.kind) (drop n x)) (given_out settings.joins p.kind) (render (items (read_from settings (past memory p (b ∷ x)) 0 (after_gap (drop n x))))))
unfolding render
render_one settings memory b x p n w e l = rw (items_one settings memory b x p n w e l, l)

-- ---- what is read of a rest that begins with a token

module _ (settings : Settings) (memory : Memory) (b : ℕ) (x : List ℕ) (w : is_blank (b ∷ x) ≡ false) where
  abbrev f : Found settings memory b x
  f = found settings memory b x

  abbrev y : List ℕ
  y = drop f.n x

  abbrev kind : TokenKind
  kind = given_out settings.joins f.p.kind

  abbrev memory' : Memory
  memory' = past memory f.p (b ∷ x)

  kept_line : (y' z' : List ℕ) → Follow kind y y' z' → Returning x (take f.n x ++ y')
  kept_line y' z' o h = go (is_kind f.p.kind K.LineComment) refl
    where
      go : (t : Bool) → is_kind f.p.kind K.LineComment ≡ t → returns (take f.n x ++ y') ≡ true
      go true e = absurd (false≢true (sym ((told settings memory b x w f.p f.is f.n f.long).1 e).whole ∙ h))
      go false e =
          let l = o.line (given_line settings.joins f.p.kind ∙ e) in
          returns_kept f.n x y' l.1 l.0 h

  step : (z' y' : List ℕ) → Read settings memory' (after_gap y) z' → Follow kind y y' z' → Read settings memory (b ∷ x) (b ∷ (take f.n x ++ y'))
  step z' y' r o =
      let k : Kept f.n x y' = kept f.n x y' o.sim in
      let x' : List ℕ = take f.n x ++ y' in
      let ends = (told settings memory b x w f.p f.is f.n f.long).1 in
      let is' : next_piece settings memory (b ∷ (take f.n x ++ y')) ≡ Some f.p =
      piece_sim settings memory b x w f.p f.is f.n (take f.n x ++ y') k.sim (kept_line y' z' o) f.long
      (λ l. k.broken (o.broken (given_line settings.joins f.p.kind ∙ l) (ends l).ends)) in
      let same_value : take f.p.len (b ∷ x) ≡ take f.p.len (b ∷ (take f.n x ++ y')) = rw f.long (take_sim (keep {b = b} k.sim)) in
      record {
        sim = same k.sim;
        again =
            items_one settings memory b (take f.n x ++ y') f.p f.n (sym (blank_sim b k.sim) ∙ w) is' f.long
            ∙ rw (same_compared settings f.p (b ∷ x) (b ∷ (take f.n x ++ y')) f.sound.key_inside same_value, ← same_value, k.rest, o.gap, o.next, r.again)
            (sym (items_one settings memory b x f.p f.n w f.is f.long));
        starts = sym (blank_sim b k.sim) ∙ w;
        nils = refl;
        line = λ h. returns_head b (take f.n x ++ y') (sym (blank_sim b k.sim) ∙ w) ∙ kept_line y' z' o (sym (returns_head b x w) ∙ h);
      }

  read_one_again : Read settings memory' (after_gap y) (render (items (read_from settings memory' 0 (after_gap y)))) → Read settings memory (b ∷ x) (render (items (read_from settings memory 0 (b ∷ x))))
  read_one_again r =
      rw (render_one settings memory b x f.p f.n w f.is f.long)
      (step (render (items (read_from settings memory' 0 (after_gap y)))) (joint (mark kind y) kind (render (items (read_from settings memory' 0 (after_gap y)))))
      r (follow settings memory' kind y (render (items (read_from settings memory' 0 (after_gap y)))) r))

-- ---- the whole

module _ (settings : Settings) where
  abbrev Holds : List ℕ → Type 0
  Holds x = (memory : Memory) → is_blank x ≡ false → Read settings memory x (render (items (read_from settings memory 0 x)))

  holds_nil : Holds []
  unfolding items render
  holds_nil memory w = rw (read_none settings memory) (record { sim = nil; again = rw (read_none settings memory); starts = w; nils = refl; line = λ h. h })

  holds_cons : (b : ℕ) (x : List ℕ) → ((k : ℕ) → Holds (drop k x)) → Holds (b ∷ x)
  holds_cons b x ih memory w = read_one_again settings memory b x w (go (found settings memory b x).n)
    where
      go : (n : ℕ) {m : Memory} → Read settings m (after_gap (drop n x)) (render (items (read_from settings m 0 (after_gap (drop n x)))))
      go n {m} = rest m (gap_of_lem (drop n x)).ended
        where
          rest : Holds (after_gap (drop n x))
          rest = rw (drop-drop (run is_whitespace 0 (drop n x)) n x) (ih (n + run is_whitespace 0 (drop n x)))

  holds : (x : List ℕ) → Holds x
  holds x = each_rest Holds holds_nil holds_cons x 0

  -- the items of a statement's tight text are its own
  pub items_again : (memory : Memory) (s : List ℕ) → items (read_from settings memory 0 (render (items (read_from settings memory 0 s)))) ≡ items (read_from settings memory 0 s)
  items_again memory s =
      let r = holds (after_gap s) memory (gap_of_lem s).ended in
      rw (items_gap settings memory s) r.again
