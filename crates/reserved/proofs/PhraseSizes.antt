-- Every reserved word is at least one byte, lies inside the rest, and has its alias inside it.
-- Assumes nothing.
use Rattle.std.proofs.Common.{Option, Some, None}
use Prim.Native.Nat.{ℕ, ◌≤◌, zero-le}
use native.Mathlib.Nat.{le_refl}
use mathlib.Core.Path.{◌≡◌, refl}
use mathlib.Core.List.{List, [], ◌∷◌}
use mathlib.Core.Bool.{Bool, true, false, cond, not, ◌&&◌, ◌||◌, false≢true, and-eq-true_iff}
use lib.ListN.{length, take}
use lib.Dec.{eqb}
use lib.Seq.{length-take-le}
use Rattle.recognisers.specs.declared.Piece.{Piece}
use Rattle.recognisers.specs.declared.TokenKind.TheVariants as K
use Rattle.recognisers.specs.Text.{byte, bytes}
use Rattle.recognisers.specs.Taking.{Taker, one, typed, capital, is_spelled, blanks, end_of_word}
use Rattle.recognisers.specs.Pieces.{token_of, alt}
use Rattle.recognisers.proofs.Spelling.{spelled_fits}
use Rattle.recognisers.proofs.TakenInside.{Inside, end_of_word_inside}
use Rattle.recognisers.proofs.PieceSizes.{Least, one_some, Sized, alt_sized, Takes, or_takes, fails_takes, takes_sized}
use Rattle.reserved.specs.declared.TopLevel.{TopLevel}
use Rattle.reserved.specs.Phrases.{Phrase, phrase, phrase_if_exists, walk, phrase_end, first_phrase, each}
use Rattle.reserved.specs.Inner.Entries.{if_exists}
use Rattle.reserved.specs.TopLevel.{creatable, alterable_or_droppable, each_dropped, top_level_phrases}
use Rattle.reserved.specs.NewlineAfter.{newline_after_phrases}
use Rattle.reserved.specs.Newline.{newline_phrases}
use Rattle.reserved.specs.Join.{join_phrases}
use Rattle.reserved.specs.NoIndent.{no_indent_phrases}
use Rattle.reserved.specs.Plain.{plain_two_phrases, plain_a, plain_b, plain_c, plain_d, plain_e, plain_f, plain_g, plain_h, plain_i, plain_k, plain_l, plain_m, plain_n, plain_o, plain_p, plain_q, plain_r, plain_s, plain_t, plain_u, plain_v, plain_w, plain_y, plain_one_phrases}
use Rattle.reserved.specs.Reserved.{alias_length, top_level_token, newline_token, get_top_level_reserved_token, get_newline_after_reserved_token, get_newline_reserved_token, get_join_token, get_top_level_reserved_token_no_indent, get_plain_reserved_token, may_be_reserved, get_reserved_word_token}
use Rattle.reserved.proofs.PhraseWalk.{words_of, walk_inside, exists_inside}

-- a phrase begins with a byte that is no space
abbrev pub begins : List ℕ → Bool
begins [] = false
begins (p ∷ words) = not (eqb p (byte " "))

abbrev all_begin : List Phrase → Bool
all_begin [] = true
all_begin (p ∷ phrases) = begins (words_of p) && all_begin phrases

pub walk_some : (words : List ℕ) (then : Taker) → begins words ≡ true → (s : List ℕ) → Least 1 (walk words then s)
unfolding walk
walk_some [] then e s = absurd (false≢true e)
walk_some (p ∷ words) then e s = go (eqb p 32) e
  where
    go : (t : Bool) → not t ≡ true → Least 1 (cond t (blanks (walk words then) s) (one (λ b. eqb (capital b) p) (walk words then) s))
    go true q = absurd (false≢true q)
    go false q = one_some (λ b. eqb (capital b) p) (walk words then) s

walk_takes : (words : List ℕ) (then : Taker) → Inside then → begins words ≡ true → (s : List ℕ) → Takes 1 s (walk words then s)
walk_takes words then h e s = record { least = walk_some words then e s; inside = walk_inside words then h s }

phrase_takes : (p : Phrase) → begins (words_of p) ≡ true → (s : List ℕ) → Takes 1 s (phrase_end p s)
unfolding phrase_end if_exists
phrase_takes (phrase words) e s = walk_takes words end_of_word end_of_word_inside e s
phrase_takes (phrase_if_exists words) e s = walk_takes words if_exists exists_inside e s

first_takes : (phrases : List Phrase) → all_begin phrases ≡ true → (s : List ℕ) → Takes 1 s (first_phrase phrases s)
unfolding first_phrase
first_takes [] e s = fails_takes 1 s
first_takes (p ∷ phrases) e s =
    or_takes 1 s (phrase_end p s) (first_phrase phrases s) (phrase_takes p ((and-eq-true_iff (begins (words_of p)) (all_begin phrases)).0 e).0 s)
    (first_takes phrases ((and-eq-true_iff (begins (words_of p)) (all_begin phrases)).0 e).1 s)

-- ---- the alias

alias_fits : (v : List ℕ) → alias_length v ≤ length v
unfolding alias_length
alias_fits v = go (is_spelled typed (bytes "CREATE") v) (is_spelled typed (bytes "SELECT") v) refl refl
  where
    go : (a b : Bool) → is_spelled typed (bytes "CREATE") v ≡ a → is_spelled typed (bytes "SELECT") v ≡ b → cond (a || b) 6 (length v) ≤ length v
    go true b e f = spelled_fits typed (bytes "CREATE") v e
    go false true e f = spelled_fits typed (bytes "SELECT") v f
    go false false e f = le_refl (length v)

top_level_sized : (last : TopLevel) (s : List ℕ) (t : Option ℕ) → Takes 1 s t → Sized s (top_level_token last s t)
top_level_sized last s (Some n) h =
    let a = alias_fits (take n s) in
    let l : length (take n s) ≡ n = length-take-le n s h.inside in
    record { some = h.least; inside = h.inside; alias_inside = rw l at a; key_inside = tt; escaped_inside = zero-le }
top_level_sized last s None h = tt

newline_sized : (between : Bool) (s : List ℕ) (t : Option ℕ) → Takes 1 s t → Sized s (newline_token between s t)
newline_sized between s (Some n) h = record { some = h.least; inside = h.inside; alias_inside = le_refl n; key_inside = tt; escaped_inside = zero-le }
newline_sized between s None h = tt

-- ---- the six groups

top_begins : all_begin top_level_phrases ≡ true
unfolding top_level_phrases creatable alterable_or_droppable each_dropped each
top_begins = refl

after_begins : all_begin newline_after_phrases ≡ true
unfolding newline_after_phrases
after_begins = refl

newline_begins : all_begin newline_phrases ≡ true
unfolding newline_phrases
newline_begins = refl

join_begins : all_begin join_phrases ≡ true
unfolding join_phrases
join_begins = refl

no_indent_begins : all_begin no_indent_phrases ≡ true
unfolding no_indent_phrases
no_indent_begins = refl

two_begins : all_begin plain_two_phrases ≡ true
unfolding plain_two_phrases
two_begins = refl

one_begins : all_begin plain_one_phrases ≡ true
unfolding plain_one_phrases plain_a plain_b plain_c plain_d plain_e plain_f plain_g plain_h plain_i plain_k plain_l plain_m plain_n plain_o plain_p plain_q plain_r plain_s plain_t plain_u plain_v plain_w plain_y
one_begins = refl

module _ (s : List ℕ) (a b c d e f g : Option Piece) where
  groups_sized : Sized s a → Sized s b → Sized s c → Sized s d → Sized s e → Sized s f → Sized s g → Sized s (alt a (alt b (alt c (alt d (alt e (alt f g))))))
  groups_sized h i j k l m n =
      alt_sized s a (alt b (alt c (alt d (alt e (alt f g))))) h
      (alt_sized s b (alt c (alt d (alt e (alt f g)))) i
      (alt_sized s c (alt d (alt e (alt f g))) j (alt_sized s d (alt e (alt f g)) k (alt_sized s e (alt f g) l (alt_sized s f g m n)))))

pub reserved_sized : (dot between : Bool) (last : TopLevel) (s : List ℕ) → Sized s (get_reserved_word_token dot between last s)
unfolding get_reserved_word_token get_top_level_reserved_token get_newline_after_reserved_token get_newline_reserved_token get_join_token get_top_level_reserved_token_no_indent get_plain_reserved_token
reserved_sized dot between last s =
    go (dot || not (may_be_reserved s)) _
    (groups_sized s
    (top_level_token last s (first_phrase top_level_phrases s))
    (token_of K.ReservedNewlineAfter (first_phrase newline_after_phrases s))
    (newline_token between s (first_phrase newline_phrases s))
    (token_of K.Join (first_phrase join_phrases s))
    (token_of K.ReservedTopLevelNoIndent (first_phrase no_indent_phrases s))
    (token_of K.Reserved (first_phrase plain_two_phrases s))
    (token_of K.Reserved (first_phrase plain_one_phrases s))
    (top_level_sized last s (first_phrase top_level_phrases s) (first_takes top_level_phrases top_begins s))
    (takes_sized s K.ReservedNewlineAfter (first_phrase newline_after_phrases s) (first_takes newline_after_phrases after_begins s))
    (newline_sized between s (first_phrase newline_phrases s) (first_takes newline_phrases newline_begins s))
    (takes_sized s K.Join (first_phrase join_phrases s) (first_takes join_phrases join_begins s))
    (takes_sized s K.ReservedTopLevelNoIndent (first_phrase no_indent_phrases s) (first_takes no_indent_phrases no_indent_begins s))
    (takes_sized s K.Reserved (first_phrase plain_two_phrases s) (first_takes plain_two_phrases two_begins s))
    (takes_sized s K.Reserved (first_phrase plain_one_phrases s) (first_takes plain_one_phrases one_begins s)))
  where
    go : (t : Bool) (r : Option Piece) → Sized s r → Sized s (cond t None r)
    go true r h = tt
    go false r h = h
