-- The filled text: all tokens' values, each Placeholder replaced by `Params::get`, whose counter starts at 0.
use Rattle.std.specs.Prelude.{ℕ, ◌+◌, Bool, cond, List, [], ◌∷◌, ◌++◌, take, drop}
use Rattle.recognisers.specs.declared.TokenKind.TheVariants as K
use Rattle.recognisers.specs.Kinds.{is_kind}
use Rattle.calls.specs.declared.Settings.{Settings}
use Rattle.tokenizer.specs.declared.Token.{Token}
use Rattle.tokenizer.specs.Tokens.{tokens}
use Rattle.params.specs.declared.Part.{Part}
use Rattle.params.specs.declared.Part.TheVariants.{Statement, Sheet}
use Rattle.params.specs.Get.{own_text, get, index_past}

unfoldable pub is_placeholder : Token → Bool
is_placeholder t = is_kind t.kind K.Placeholder

-- what stands for a token, and the counter past it
unfoldable pub stands_for : List ℕ → List ℕ → ℕ → Token → Part
stands_for s sheet index t = cond (is_placeholder t) (get s sheet index t) (own_text t)

unfoldable pub index_after : List ℕ → List ℕ → ℕ → Token → ℕ
index_after s sheet index t = cond (is_placeholder t) (index_past s sheet index t.key) index

-- the bytes of a part of the statement or of the sheet
abbrev pub part_bytes : List ℕ → List ℕ → Part → List ℕ
part_bytes s sheet (Statement start len) = take len (drop start s)
part_bytes s sheet (Sheet start len) = take len (drop start sheet)

abbrev pub part_length : Part → ℕ
part_length (Statement start len) = len
part_length (Sheet start len) = len

-- where a part starts, in memory, for a statement and a sheet that start at these: a block of memory and a byte of it
abbrev pub part_start : ℕ × ℕ → ℕ × ℕ → Part → ℕ × ℕ
part_start s sheet (Statement start len) = (s.0, start + s.1)
part_start s sheet (Sheet start len) = (sheet.0, start + sheet.1)

-- the bytes that stand for a token
abbrev pub bytes_for : List ℕ → List ℕ → ℕ → Token → List ℕ
bytes_for s sheet index t = part_bytes s sheet (stands_for s sheet index t)

-- the text of these tokens, from a counter on
unfoldable pub filled_from : List ℕ → List ℕ → ℕ → List Token → List ℕ
filled_from s sheet index [] = []
filled_from s sheet index (t ∷ ts) = bytes_for s sheet index t ++ filled_from s sheet (index_after s sheet index t) ts

unfoldable pub filled : Settings → List ℕ → List ℕ → List ℕ
filled settings s sheet = filled_from s sheet 0 (tokens settings s)
