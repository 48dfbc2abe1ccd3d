-- The first entry makes the token that the six recognisers, tried in turn, make.
-- Assumes nothing.
use Rattle.std.proofs.Common.{Option, Some, None}
use Prim.Native.Nat.{ℕ, ◌≤◌}
use native.Mathlib.Omega.{arith}
use mathlib.Core.Path.{◌≡◌, refl, sym, ap, ◌∙◌}
use mathlib.Core.List.{List, [], ◌∷◌, ◌++◌}
use mathlib.Core.Bool.{Bool, true, false, false≢true}
use lib.ListN.{length, take}
use Rattle.std.proofs.lemmas.List.{length-take-le, take_all}
use Rattle.recognisers.specs.declared.Piece.{Piece}
use Rattle.recognisers.specs.declared.TokenKind.TheVariants.{Reserved, ReservedTopLevelNoIndent, ReservedNewlineAfter}
use Rattle.recognisers.specs.declared.TokenKind.TheVariants.{Join as JoinToken}
use Rattle.recognisers.specs.Taking.{taken, or, end_of_word}
use Rattle.recognisers.specs.Pieces.{token_of, alt}
use Rattle.reserved.specs.declared.TopLevel.{TopLevel as LastTopLevel}
use Rattle.reserved.specs.declared.entries.Group.{Group}
use Rattle.reserved.specs.declared.entries.Group.TheVariants.{TopLevel, Dropped, NewlineAfter, Newline, Join, NoIndent, Plain}
use Rattle.reserved.specs.Phrases.{Phrase, phrase, phrase_if_exists, phrase_end, first_phrase}
use Rattle.reserved.specs.TopLevel.{top_level_phrases}
use Rattle.reserved.specs.NewlineAfter.{newline_after_phrases}
use Rattle.reserved.specs.Newline.{newline_phrases}
use Rattle.reserved.specs.Join.{join_phrases}
use Rattle.reserved.specs.NoIndent.{no_indent_phrases}
use Rattle.reserved.specs.Plain.{plain_two_phrases, plain_one_phrases, plain_a, plain_b, plain_c, plain_d, plain_e, plain_f, plain_g, plain_h, plain_i, plain_k, plain_l, plain_m, plain_n, plain_o, plain_p, plain_q, plain_r, plain_s, plain_t, plain_u, plain_v, plain_w, plain_y}
use Rattle.reserved.specs.Inner.Entries.{grouped, entries, if_exists, ending, entry_end, chosen, find_entry, token_for}
use Rattle.reserved.specs.Reserved.{top_level_token, newline_token, get_top_level_reserved_token, get_newline_after_reserved_token, get_newline_reserved_token, get_join_token, get_top_level_reserved_token_no_indent, get_plain_reserved_token, may_be_reserved, get_reserved_word_token}
use Rattle.reserved.proofs.PhraseWalk.{walk_inside, ending_inside}

-- ---- one list after another

abbrev or_else : Option (Group × ℕ) → Option (Group × ℕ) → Option (Group × ℕ)
or_else (Some found) other = Some found
or_else None other = other

find_append : (xs ys : List (Group × List ℕ)) (s : List ℕ) → find_entry (xs ++ ys) s ≡ or_else (find_entry xs s) (find_entry ys s)
unfolding find_entry
find_append [] ys s = refl
find_append (x ∷ xs) ys s = rw (find_append xs ys s) (go (entry_end x.0 x.1 s))
  where
    go : (t : Option ℕ) → chosen x.0 t (or_else (find_entry xs s) (find_entry ys s)) ≡ or_else (chosen x.0 t (find_entry xs s)) (find_entry ys s)
    go (Some n) = refl
    go None = refl

-- ---- one group

abbrev has_if_exists : List Phrase → Bool
has_if_exists [] = false
has_if_exists (phrase words ∷ phrases) = has_if_exists phrases
has_if_exists (phrase_if_exists words ∷ phrases) = true

plain_end : (group : Group) (words s : List ℕ) → ending group ≡ end_of_word → entry_end group words s ≡ phrase_end (phrase words) s
unfolding entry_end phrase_end
plain_end group words s d = rw d

exists_end : (words s : List ℕ) → entry_end Dropped words s ≡ phrase_end (phrase_if_exists words) s
unfolding entry_end phrase_end if_exists
exists_end words s = refl

-- a group makes its tokens
record Makes (between : Bool) (last : LastTopLevel) (s : List ℕ) (group : Group) (make : Option ℕ → Option Piece) (phrases : List Phrase) : Type 0 where
  plain : ending group ≡ end_of_word
  own : (n : ℕ) → token_for between last s (Some (group, n)) ≡ make (Some n)
  dropped : has_if_exists phrases ≡ true → (n : ℕ) → token_for between last s (Some (Dropped, n)) ≡ make (Some n)
  fails : make None ≡ None
  takes : (n : ℕ) (other : Option Piece) → alt (make (Some n)) other ≡ make (Some n)

group_find : (between : Bool) (last : LastTopLevel) (s : List ℕ) (group : Group) (make : Option ℕ → Option Piece) (phrases : List Phrase) (other : Option (Group × ℕ)) → Makes between last s group make phrases
    → token_for between last s (or_else (find_entry (grouped group phrases) s) other) ≡ alt (make (first_phrase phrases s)) (token_for between last s other)
unfolding find_entry grouped first_phrase
group_find between last s group make [] other m = rw m.fails
group_find between last s group make (phrase words ∷ phrases) other m =
    rw (plain_end group words s m.plain)
    (go (phrase_end (phrase words) s) (group_find between last s group make phrases other (record { plain = m.plain; own = m.own; dropped = m.dropped; fails = m.fails; takes = m.takes })))
  where
    go : (t : Option ℕ) → token_for between last s (or_else (find_entry (grouped group phrases) s) other) ≡ alt (make (first_phrase phrases s)) (token_for between last s other)
        → token_for between last s (or_else (chosen group t (find_entry (grouped group phrases) s)) other) ≡ alt (make (or t (first_phrase phrases s))) (token_for between last s other)
    go (Some n) ih = m.own n ∙ sym (m.takes n (token_for between last s other))
    go None ih = ih
group_find between last s group make (phrase_if_exists words ∷ phrases) other m =
    rw (exists_end words s)
    (go (phrase_end (phrase_if_exists words) s) (group_find between last s group make phrases other (record { plain = m.plain; own = m.own; dropped = λ e. m.dropped refl; fails = m.fails; takes = m.takes })))
  where
    go : (t : Option ℕ) → token_for between last s (or_else (find_entry (grouped group phrases) s) other) ≡ alt (make (first_phrase phrases s)) (token_for between last s other)
        → token_for between last s (or_else (chosen Dropped t (find_entry (grouped group phrases) s)) other) ≡ alt (make (or t (first_phrase phrases s))) (token_for between last s other)
    go (Some n) ih = m.dropped refl n ∙ sym (m.takes n (token_for between last s other))
    go None ih = ih

-- ---- all groups

module _ (between : Bool) (last : LastTopLevel) (s : List ℕ) where
  abbrev Made : Group → (Option ℕ → Option Piece) → List Phrase → Type 0
  Made = Makes between last s

  top_made : Made TopLevel (top_level_token last s) top_level_phrases
  top_made = record { plain = refl; own = λ n. refl; dropped = λ e n. refl; fails = refl; takes = λ n other. refl }

  after_made : Made NewlineAfter (token_of ReservedNewlineAfter) newline_after_phrases
  unfolding newline_after_phrases
  after_made = record { plain = refl; own = λ n. refl; dropped = λ e n. absurd (false≢true e); fails = refl; takes = λ n other. refl }

  newline_made : Made Newline (newline_token between s) newline_phrases
  unfolding newline_phrases
  newline_made = record { plain = refl; own = λ n. refl; dropped = λ e n. absurd (false≢true e); fails = refl; takes = λ n other. refl }

  join_made : Made Join (token_of JoinToken) join_phrases
  unfolding join_phrases
  join_made = record { plain = refl; own = λ n. refl; dropped = λ e n. absurd (false≢true e); fails = refl; takes = λ n other. refl }

  no_indent_made : Made NoIndent (token_of ReservedTopLevelNoIndent) no_indent_phrases
  unfolding no_indent_phrases
  no_indent_made = record { plain = refl; own = λ n. refl; dropped = λ e n. absurd (false≢true e); fails = refl; takes = λ n other. refl }

  two_made : Made Plain (token_of Reserved) plain_two_phrases
  unfolding plain_two_phrases
  two_made = record { plain = refl; own = λ n. refl; dropped = λ e n. absurd (false≢true e); fails = refl; takes = λ n other. refl }

  one_made : Made Plain (token_of Reserved) plain_one_phrases
  unfolding plain_one_phrases plain_a plain_b plain_c plain_d plain_e plain_f plain_g plain_h plain_i plain_k plain_l plain_m plain_n plain_o plain_p plain_q plain_r plain_s plain_t plain_u plain_v plain_w plain_y
  one_made = record { plain = refl; own = λ n. refl; dropped = λ e n. absurd (false≢true e); fails = refl; takes = λ n other. refl }

  abbrev token : List (Group × List ℕ) → Option Piece
  token es = token_for between last s (find_entry es s)

  -- one group and what comes after it
  next : (group : Group) (make : Option ℕ → Option Piece) (phrases : List Phrase) (rest : List (Group × List ℕ)) → Made group make phrases → token (grouped group phrases ++ rest) ≡ alt (make (first_phrase phrases s)) (token rest)
  next group make phrases rest m =
      ap (token_for between last s) (find_append (grouped group phrases) rest s) ∙ group_find between last s group make phrases (find_entry rest s) m

  or_nothing : (f : Option (Group × ℕ)) → or_else f None ≡ f
  or_nothing (Some found) = refl
  or_nothing None = refl

  alt_nothing : (r : Option Piece) → alt r None ≡ r
  alt_nothing (Some p) = refl
  alt_nothing None = refl

  last_group : token (grouped Plain plain_one_phrases) ≡ token_of Reserved (first_phrase plain_one_phrases s)
  last_group =
      ap (token_for between last s) (sym (or_nothing (find_entry (grouped Plain plain_one_phrases) s)))
      ∙ group_find between last s Plain (token_of Reserved) plain_one_phrases None one_made
      ∙ alt_nothing (token_of Reserved (first_phrase plain_one_phrases s))

  pub reserved_is : token entries
      ≡ alt (get_top_level_reserved_token last s) (alt (get_newline_after_reserved_token s) (alt (get_newline_reserved_token between s) (alt (get_join_token s) (alt (get_top_level_reserved_token_no_indent s) (get_plain_reserved_token s)))))
  unfolding entries get_top_level_reserved_token get_newline_after_reserved_token get_newline_reserved_token get_join_token get_top_level_reserved_token_no_indent get_plain_reserved_token
  reserved_is =
      let r₂ = grouped Plain plain_two_phrases ++ grouped Plain plain_one_phrases in
      let i = grouped NoIndent no_indent_phrases ++ r₂ in
      let j = grouped Join join_phrases ++ i in
      let n = grouped Newline newline_phrases ++ j in
      let a = grouped NewlineAfter newline_after_phrases ++ n in
      next TopLevel (top_level_token last s) top_level_phrases a top_made
      ∙ ap (alt (top_level_token last s (first_phrase top_level_phrases s)))
      (next NewlineAfter (token_of ReservedNewlineAfter) newline_after_phrases n after_made
      ∙ ap (alt (token_of ReservedNewlineAfter (first_phrase newline_after_phrases s)))
      (next Newline (newline_token between s) newline_phrases j newline_made
      ∙ ap (alt (newline_token between s (first_phrase newline_phrases s)))
      (next Join (token_of JoinToken) join_phrases i join_made
      ∙ ap (alt (token_of JoinToken (first_phrase join_phrases s)))
      (next NoIndent (token_of ReservedTopLevelNoIndent) no_indent_phrases r₂ no_indent_made
      ∙ ap (alt (token_of ReservedTopLevelNoIndent (first_phrase no_indent_phrases s)))
      (next Plain (token_of Reserved) plain_two_phrases (grouped Plain plain_one_phrases) two_made
      ∙ ap (alt (token_of Reserved (first_phrase plain_two_phrases s))) last_group)))))

-- ---- as the functions use them

module _ (s : List ℕ) (after_dot between : Bool) (last : LastTopLevel) where
  pub after_dot_lem : after_dot ≡ true → None ≡ get_reserved_word_token after_dot between last s
  unfolding get_reserved_word_token
  after_dot_lem d = rw d

  module _ (m : Bool) (e : m ≡ may_be_reserved s) (d : after_dot ≡ false) where
    pub no_letter : m ≡ false → None ≡ get_reserved_word_token after_dot between last s
    unfolding get_reserved_word_token
    no_letter f = rw (d, ← e, f)

    pub reserved_word : (r : Option Piece) → m ≡ true → r ≡ token_for between last s (find_entry entries s) → r ≡ get_reserved_word_token after_dot between last s
    unfolding get_reserved_word_token
    reserved_word r f g = g ∙ rw (d, ← e, f) (reserved_is between last s)

entry_inside : (group : Group) (words s : List ℕ) → taken (entry_end group words s) ≤ length s
unfolding entry_end
entry_inside group words s = walk_inside words (ending group) (ending_inside group) s

-- an entry that was found lies inside
found_inside : (es : List (Group × List ℕ)) (s : List ℕ) (group : Group) (n : ℕ) → Some (group, n) ≡ find_entry es s → n ≤ length s
unfolding find_entry
found_inside [] s group n e = absurd (let z : ⊥ = cc in z)
found_inside (x ∷ es) s group n e = go (entry_end x.0 x.1 s) refl (found_inside es s group n)
  where
    go : (t : Option ℕ) → entry_end x.0 x.1 s ≡ t → (Some (group, n) ≡ find_entry es s → n ≤ length s) → n ≤ length s
    go (Some m) q rest =
        let h : taken (entry_end x.0 x.1 s) ≤ length s = entry_inside x.0 x.1 s in
        let k : m ≤ length s = rw q at h in
        let f : Some (group, n) ≡ Some (x.0, m) = rw q at e in
        let g : (group, n) ≡ (x.0, m) = cc in
        let j : n ≡ m = ap (λ (p : Group × ℕ). p.1) g in
        omega arith
    go None q rest = rest (rw q at e)

entry_length : (s : List ℕ) (group : Group) (n : ℕ) → Some (group, n) ≡ find_entry entries s → n ≤ length s
entry_length s group n e = found_inside entries s group n e

-- ---- a token goes by its phrase's bytes alone

module _ (between : Bool) (last : LastTopLevel) (s : List ℕ) (n : ℕ) where
  same_bytes : (group : Group) (value : List ℕ) → length value ≡ n → take n value ≡ take n s → token_for between last value (Some (group, length value)) ≡ token_for between last s (Some (group, n))
  same_bytes TopLevel value e f = rw (e, f)
  same_bytes Dropped value e f = rw (e, f)
  same_bytes NewlineAfter value e f = rw e
  same_bytes Newline value e f = rw (e, f)
  same_bytes Join value e f = rw e
  same_bytes NoIndent value e f = rw e
  same_bytes Plain value e f = rw e

  pub value_length : (group : Group) → Some (group, n) ≡ find_entry entries s → length (take n s) ≡ n
  value_length group e = length-take-le n s (entry_length s group n e)

  pub by_value : (group : Group) → Some (group, n) ≡ find_entry entries s → token_for between last (take n s) (Some (group, length (take n s))) ≡ token_for between last s (find_entry entries s)
  by_value group e =
      let l = value_length group e in
      same_bytes group (take n s) l (take_all n (take n s) (omega (arith, l))) ∙ ap (token_for between last s) e
