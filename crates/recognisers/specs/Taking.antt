-- What the recognisers are made of. Each taker says how many bytes it takes from the start of the rest, or fails; `then` is
-- the taker that follows it.
use Rattle.std.specs.Prelude.{ℕ, suc, ◌+◌, ◌-◌, Bool, true, false, cond, ◌&&◌, ◌||◌, List, [], ◌∷◌, drop, leb, eqb, Option, Some, None}
use Rattle.characters.specs.Ranges.{within}
use Rattle.characters.specs.Classes.{is_whitespace, is_word_character}
use Rattle.characters.specs.Character.{code_point}
use Rattle.characters.specs.Runs.{run}

abbrev pub Taker : Type 0
Taker = List ℕ → Option ℕ

-- n bytes more
abbrev pub more : ℕ → Option ℕ → Option ℕ
more n (Some m) = Some (n + m)
more n None = None

-- the first that does not fail
abbrev pub or : Option ℕ → Option ℕ → Option ℕ
or (Some n) other = Some n
or None other = other

-- nothing more
abbrev pub done : Taker
done s = Some 0

-- one byte that passes the test
unfoldable pub one : (ℕ → Bool) → Taker → Taker
one test then [] = None
one test then (b ∷ s) = cond (test b) (more 1 (then s)) None

-- these bytes, in a form of the text's
unfoldable pub spelled : (ℕ → ℕ) → List ℕ → Taker → Taker
spelled form [] then s = then s
spelled form (w ∷ word) then s = one (λ b. eqb (form b) w) (spelled form word then) s

-- a word stands at the start so
unfoldable pub is_spelled : (ℕ → ℕ) → List ℕ → List ℕ → Bool
is_spelled form [] s = true
is_spelled form (w ∷ word) [] = false
is_spelled form (w ∷ word) (b ∷ s) = eqb (form b) w && is_spelled form word s

unfoldable pub typed : ℕ → ℕ
typed b = b

-- an ASCII letter as its capital
unfoldable pub capital : ℕ → ℕ
capital b = cond (within 0x61 0x7A b) (b - 0x20) b

-- these bytes as typed
abbrev pub literal : List ℕ → Taker → Taker
literal word then = spelled typed word then

-- these capitals, in either case
abbrev pub caseless : List ℕ → Taker → Taker
caseless word then = spelled capital word then

-- at least one whitespace character, and all that follow
unfoldable pub blanks : Taker → Taker
blanks then s = cond (is_whitespace (code_point s)) (more (run is_whitespace 0 s) (then (drop (run is_whitespace 0 s) s))) None

-- no word character comes next: the end of the text has code point 0, which is none
unfoldable pub end_of_word : Taker
end_of_word s = cond (is_word_character (code_point s)) None (Some 0)

abbrev pub is_digit : ℕ → Bool
is_digit b = within 0x30 0x39 b

-- how many of the bytes at the start pass the test
unfoldable pub count : (ℕ → Bool) → List ℕ → ℕ
count test [] = 0
count test (b ∷ s) = cond (test b) (suc (count test s)) 0

-- ASCII digits, one at least, and all that follow
unfoldable pub digit1 : Taker → Taker
digit1 then s = cond (leb 1 (count is_digit s)) (more (count is_digit s) (then (drop (count is_digit s) s))) None

-- ASCII digits, or none
unfoldable pub digit0 : Taker → Taker
digit0 then s = more (count is_digit s) (then (drop (count is_digit s) s))

-- so many bytes, where there are that many at least
abbrev pub at_least : ℕ → ℕ → Option ℕ
at_least least n = cond (leb least n) (Some n) None

-- how many bytes were taken
abbrev pub taken : Option ℕ → ℕ
taken (Some n) = n
taken None = 0

-- the byte is among them
unfoldable pub contains : List ℕ → ℕ → Bool
contains [] b = false
contains (e ∷ bytes) b = eqb b e || contains bytes b

-- the byte stands at the start
unfoldable pub starts_with : ℕ → List ℕ → Bool
starts_with b [] = false
starts_with b (c ∷ s) = eqb c b

-- one of the bytes stands at the start
unfoldable pub starts_among : List ℕ → List ℕ → Bool
starts_among bytes [] = false
starts_among bytes (b ∷ s) = contains bytes b
