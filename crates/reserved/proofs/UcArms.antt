-- The alternatives of `get_top_level_reserved_token`, nested as in the Rust, are `top_level_phrases`; and the phrases of the
-- text's first letter find what all find.
-- Assumes nothing.
use Rattle.std.proofs.Common.{Option, Some, None}
use mathlib.Core.Path.{◌≡◌, refl, sym, ap, ◌∙◌}
use Prim.Native.Nat.{ℕ, suc}
use mathlib.Core.List.{List, [], ◌∷◌, ◌++◌}
use mathlib.Core.Bool.{Bool, true, false, cond, ◌&&◌, and-eq-true_iff}
use lib.Dec.{eqb}
use Rattle.characters.specs.Classes.{is_whitespace}
use Rattle.characters.specs.Character.{continuations, continued, code_point}
use Rattle.recognisers.specs.Text.{bytes}
use Rattle.recognisers.specs.Taking.{Taker, or, typed, is_spelled, spelled, literal, capital, end_of_word}
use Rattle.reserved.specs.Phrases.{Phrase, phrase, phrase_if_exists, each}
use Rattle.reserved.specs.TopLevel.{creatable, alterable_or_droppable, each_dropped, top_level_phrases}
use Rattle.reserved.specs.UcWords.{get_uc_words, opt, uc_phrase, first_uc_phrase}
use Rattle.reserved.specs.UcChoices.{Choice, behind, choose, Arm, ended, ended_if_exists, arm_end, first_arm, create, for_lock, top_level_arms}
use Rattle.reserved.proofs.UcAhead.{lit_no, ahead, ahead_letter}
use Rattle.reserved.proofs.UcWords.{uc_ahead}
use Rattle.reserved.proofs.UcChoices.{first_then, own, clear, or_fails, commits}

-- ---- an arm

behind_end : (t : Option ℕ) (then : Taker) (s : List ℕ) → behind t (first_then ([] ∷ []) then) s ≡ behind t then s
unfolding spelled
behind_end (Some n) then s = rw (or_fails (then _))
behind_end None then s = refl

choice_is : (c : Choice) (then : Taker) (s : List ℕ) → clear c ([] ∷ []) ≡ true → behind (choose c s) then s ≡ first_then (own c) then s
choice_is c then s h = sym (behind_end (choose c s) then s) ∙ commits c ([] ∷ []) then s h

abbrev plainly : List (List ℕ) → List Phrase
plainly [] = []
plainly (words ∷ ws) = phrase words ∷ plainly ws

abbrev with_exists : List (List ℕ) → List Phrase
with_exists [] = []
with_exists (words ∷ ws) = phrase_if_exists words ∷ with_exists ws

plainly_is : (ws : List (List ℕ)) (s : List ℕ) → first_uc_phrase (plainly ws) s ≡ first_then ws end_of_word s
unfolding first_uc_phrase uc_phrase
plainly_is [] s = refl
plainly_is (words ∷ ws) s = rw (plainly_is ws s)

with_exists_is : (ws : List (List ℕ)) (s : List ℕ) → first_uc_phrase (with_exists ws) s ≡ first_then ws (opt (bytes " IF EXISTS") end_of_word) s
unfolding first_uc_phrase uc_phrase
with_exists_is [] s = refl
with_exists_is (words ∷ ws) s = rw (with_exists_is ws s)

-- ---- all arms, written out

abbrev phrases_of : Arm → List Phrase
phrases_of (ended c) = plainly (own c)
phrases_of (ended_if_exists c) = with_exists (own c)

abbrev all_phrases : List Arm → List Phrase
all_phrases [] = []
all_phrases (arm ∷ arms) = phrases_of arm ++ all_phrases arms

abbrev clear_arm : Arm → Bool
clear_arm (ended c) = clear c ([] ∷ [])
clear_arm (ended_if_exists c) = clear c ([] ∷ [])

abbrev all_clear : List Arm → Bool
all_clear [] = true
all_clear (arm ∷ arms) = clear_arm arm && all_clear arms

arm_is : (arm : Arm) (s : List ℕ) → clear_arm arm ≡ true → arm_end arm s ≡ first_uc_phrase (phrases_of arm) s
unfolding arm_end
arm_is (ended c) s h = choice_is c end_of_word s h ∙ sym (plainly_is (own c) s)
arm_is (ended_if_exists c) s h = choice_is c (opt (bytes " IF EXISTS") end_of_word) s h ∙ sym (with_exists_is (own c) s)

first_append : (A B : List Phrase) (s : List ℕ) → first_uc_phrase (A ++ B) s ≡ or (first_uc_phrase A s) (first_uc_phrase B s)
unfolding first_uc_phrase
first_append [] B s = refl
first_append (p ∷ A) B s = rw (first_append A B s) (go (uc_phrase p s))
  where
    go : (t : Option ℕ) → or t (or (first_uc_phrase A s) (first_uc_phrase B s)) ≡ or (or t (first_uc_phrase A s)) (first_uc_phrase B s)
    go (Some n) = refl
    go None = refl

arms_are : (arms : List Arm) (s : List ℕ) → all_clear arms ≡ true → first_arm arms s ≡ first_uc_phrase (all_phrases arms) s
unfolding first_arm first_uc_phrase
arms_are [] s h = refl
arms_are (arm ∷ arms) s h =
    let h₂ = (and-eq-true_iff (clear_arm arm) (all_clear arms)).0 h in
    rw (arm_is arm s h₂.0, arms_are arms s h₂.1) (sym (first_append (phrases_of arm) (all_phrases arms) s))

-- two tests that the checker computes

top_level_clear : all_clear top_level_arms ≡ true
unfolding top_level_arms create for_lock creatable alterable_or_droppable is_spelled typed
top_level_clear = refl

top_level_written : all_phrases top_level_arms ≡ top_level_phrases
unfolding top_level_arms create for_lock top_level_phrases creatable alterable_or_droppable each_dropped each
top_level_written = refl

pub top_level_arms_lem : (s : List ℕ) → first_arm top_level_arms s ≡ first_uc_phrase top_level_phrases s
top_level_arms_lem s = arms_are top_level_arms s top_level_clear ∙ ap (λ (phrases : List Phrase). first_uc_phrase phrases s) top_level_written

-- ---- `match first_char`: a phrase of another letter fails, so the phrases of the letter are enough

abbrev pub starting_with : ℕ → List Phrase → List Phrase
starting_with c [] = []
starting_with c (phrase [] ∷ phrases) = phrase [] ∷ starting_with c phrases
starting_with c (phrase (p ∷ words) ∷ phrases) = cond (eqb c p) (phrase (p ∷ words) ∷ starting_with c phrases) (starting_with c phrases)
starting_with c (phrase_if_exists [] ∷ phrases) = phrase_if_exists [] ∷ starting_with c phrases
starting_with c (phrase_if_exists (p ∷ words) ∷ phrases) =
    cond (eqb c p) (phrase_if_exists (p ∷ words) ∷ starting_with c phrases) (starting_with c phrases)

pub by_letter : (c : ℕ) (uc : List ℕ) (phrases : List Phrase) → first_uc_phrase phrases (c ∷ uc) ≡ first_uc_phrase (starting_with c phrases) (c ∷ uc)
unfolding first_uc_phrase uc_phrase
by_letter c uc [] = refl
by_letter c uc (phrase [] ∷ phrases) = rw (by_letter c uc phrases)
by_letter c uc (phrase (p ∷ words) ∷ phrases) = rw (by_letter c uc phrases) (go (eqb c p) refl)
  where
    go : (t : Bool) → eqb c p ≡ t → or (literal (p ∷ words) end_of_word (c ∷ uc)) (first_uc_phrase (starting_with c phrases) (c ∷ uc)) ≡ first_uc_phrase (cond t (phrase (p ∷ words) ∷ starting_with c phrases) (starting_with c phrases)) (c ∷ uc)
    go true e = refl
    go false e = rw (lit_no end_of_word p words c uc e)
by_letter c uc (phrase_if_exists [] ∷ phrases) = rw (by_letter c uc phrases)
by_letter c uc (phrase_if_exists (p ∷ words) ∷ phrases) = rw (by_letter c uc phrases) (go (eqb c p) refl)
  where
    go : (t : Bool) → eqb c p ≡ t → or (literal (p ∷ words) (opt (bytes " IF EXISTS") end_of_word) (c ∷ uc)) (first_uc_phrase (starting_with c phrases) (c ∷ uc)) ≡ first_uc_phrase (cond t (phrase_if_exists (p ∷ words) ∷ starting_with c phrases) (starting_with c phrases)) (c ∷ uc)
    go true e = refl
    go false e = rw (lit_no (opt (bytes " IF EXISTS") end_of_word) p words c uc e)

pub by_first_char : (n b : ℕ) (s : List ℕ) (phrases : List Phrase) → is_whitespace (code_point (b ∷ s)) ≡ false
    → first_uc_phrase phrases (get_uc_words (suc n) (b ∷ s)) ≡ first_uc_phrase (starting_with (capital b) phrases) (get_uc_words (suc n) (b ∷ s))
by_first_char n b s phrases w =
    rw (uc_ahead n (b ∷ s) w ∙ ahead_letter n b s w) (by_letter (capital b) (ahead (continued (continuations b) s) n s) phrases)
