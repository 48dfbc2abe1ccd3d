-- `Params::get`: the entry that a placeholder takes, its value's place, and the counter past it.
use Rattle.std.specs.Prelude.{ℕ, zero, suc, ◌+◌, ◌-◌, cond, List, ltb, eqb, Option, Some, None}
use Rattle.recognisers.specs.declared.Key.{Key}
use Rattle.recognisers.specs.declared.Key.TheVariants as K
use Rattle.recognisers.specs.Same.{same}
use Rattle.tokenizer.specs.declared.Token.{Token}
use Rattle.tokenizer.specs.KeyText.{key_text}
use Rattle.params.specs.declared.Part.{Part}
use Rattle.params.specs.declared.Part.TheVariants as P
use Rattle.params.specs.declared.Place.{Place}
use Rattle.params.specs.declared.QueryParams.{QueryParams}
use Rattle.params.specs.declared.QueryParams.TheVariants as Q
use Rattle.params.specs.Sheet.{params_of, count_of, lengths_at, place_of, name_of}
use Rattle.params.specs.Keys.{has_key, has_name, has_no_index}

-- ---- which entry is taken: its number, or the count or more where none is

-- the first entry with this name among `left` entries from number n on, else the number behind them
unfoldable pub first_named : List ℕ → List ℕ → ℕ → ℕ → ℕ
first_named sheet text n zero = n
first_named sheet text n (suc left) = cond (same (name_of sheet n) text) n (first_named sheet text (suc n) left)

unfoldable pub with_name : List ℕ → List ℕ → ℕ
with_name sheet text = first_named sheet text 0 (count_of sheet)

-- an index has the empty text as its name
unfoldable pub by_name : List ℕ → List ℕ → Option Key → ℕ
by_name s sheet key = cond (has_key key) (with_name sheet (key_text s key)) (count_of sheet)

-- by the index, else the next in turn; a one-indexed zero counts as past the end, in a lookup: fill refuses it
abbrev pub by_index : List ℕ → ℕ → Option Key → ℕ
by_index sheet index None = index
by_index sheet index (Some (K.Named start len)) = index
by_index sheet index (Some (K.Escaped start len)) = index
by_index sheet index (Some (K.ZeroIndexed n)) = n
by_index sheet index (Some (K.OneIndexed n)) = cond (eqb n 0) (count_of sheet) (n - 1)

abbrev pub taken_from : QueryParams → List ℕ → List ℕ → ℕ → Option Key → ℕ
taken_from Q.Named s sheet index key = by_name s sheet key
taken_from Q.Indexed s sheet index key = cond (has_name s key) (count_of sheet) (by_index sheet index key)
taken_from Q.None s sheet index key = count_of sheet

unfoldable pub taken : List ℕ → List ℕ → ℕ → Option Key → ℕ
taken s sheet index key = taken_from (params_of sheet) s sheet index key

-- ---- what stands for the placeholder

-- a token's own text
abbrev pub own_text : Token → Part
own_text t = P.Statement t.start t.len

-- the value of the entry at a place
unfoldable pub value_part : List ℕ → Place → Part
value_part sheet p = P.Sheet (p.body + (lengths_at sheet p).name) (lengths_at sheet p).value

-- the value of entry number n, or the text of the token where there is no such entry
unfoldable pub value_or : List ℕ → ℕ → Token → Part
value_or sheet n t = cond (ltb n (count_of sheet)) (value_part sheet (place_of sheet n)) (own_text t)

unfoldable pub get : List ℕ → List ℕ → ℕ → Token → Part
get s sheet index t = value_or sheet (taken s sheet index t.key) t

-- ---- the counter

-- the largest 64-bit number
abbrev pub largest : ℕ
largest = 18446744073709551615

unfoldable pub counted_on : ℕ → ℕ
counted_on index = cond (ltb index largest) (index + 1) index

-- it moves where an indexed sheet gives the next value in turn, or would
abbrev pub index_from : QueryParams → List ℕ → ℕ → Option Key → ℕ
index_from Q.Named s index key = index
index_from Q.Indexed s index key = cond (has_name s key) index (cond (has_no_index key) (counted_on index) index)
index_from Q.None s index key = index

unfoldable pub index_past : List ℕ → List ℕ → ℕ → Option Key → ℕ
index_past s sheet index key = index_from (params_of sheet) s index key
