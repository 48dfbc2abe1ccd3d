-- What `tokenize` remembers of earlier tokens: only what is asked of them.
use Rattle.std.specs.Prelude.{ℕ, Bool, true, false, cond, List, [], ◌∷◌, take}
use Rattle.recognisers.specs.declared.TokenKind.{TokenKind}
use Rattle.recognisers.specs.Kinds.{is_kind, is_one_of}
use Rattle.recognisers.specs.Text.{bytes}
use Rattle.reserved.specs.declared.TopLevel.{TopLevel}
use Rattle.reserved.specs.declared.TopLevel.TheVariants.{Select, Update, MergeInto, DeleteFrom, Other}
use Rattle.recognisers.specs.Same.{same}
use Rattle.tokenizer.specs.declared.Memory.{Memory}

-- before the first token
abbrev pub start : Memory
start = record { type_specifier = true; after_dot = false; after_between = false; top_level = Other }

-- the kinds after which a type specifier may stand
unfoldable pub takes_type_specifier : TokenKind → Bool
takes_type_specifier kind =
    is_one_of
    (TokenKind.CloseParen
    ∷ TokenKind.Placeholder
    ∷ TokenKind.Reserved
    ∷ TokenKind.String
    ∷ TokenKind.Number
    ∷ TokenKind.TypeSpecifier
    ∷ TokenKind.Word
    ∷ [])
    kind

-- which alias it is, as typed
unfoldable pub top_level_of : List ℕ → TopLevel
top_level_of alias =
    cond (same alias (bytes "SELECT")) Select
    (cond (same alias (bytes "UPDATE")) Update
    (cond (same alias (bytes "MERGE INTO")) MergeInto (cond (same alias (bytes "DELETE FROM")) DeleteFrom Other)))

-- is the last Reserved token's value exactly BETWEEN
unfoldable pub after_between : Bool → TokenKind → List ℕ → Bool
after_between before kind value = cond (is_kind kind TokenKind.Reserved) (same value (bytes "BETWEEN")) before

-- A Join is neither Reserved nor top level here, whatever it is given out as.
unfoldable pub last_top_level : TopLevel → TokenKind → List ℕ → ℕ → TopLevel
last_top_level before kind value alias = cond (is_kind kind TokenKind.ReservedTopLevel) (top_level_of (take alias value)) before

-- the memory after a token of this kind, value and alias length
unfoldable pub remember : Memory → TokenKind → List ℕ → ℕ → Memory
remember memory kind value alias =
    record {
      type_specifier = takes_type_specifier kind;
      after_dot = same value (bytes ".");
      after_between = after_between memory.after_between kind value;
      top_level = last_top_level memory.top_level kind value alias;
    }

-- whitespace is passed over
unfoldable pub remembered : Memory → TokenKind → List ℕ → ℕ → Memory
remembered memory kind value alias = cond (is_kind kind TokenKind.Whitespace) memory (remember memory kind value alias)
