-- The tight text of a search that a call accepts.
use Rattle.std.specs.Prelude.{ℕ, List}
use Rattle.calls.specs.declared.Search.{Search}
use Rattle.tight.specs.TightText.{tight}

abbrev pub text_of : Search → List ℕ
text_of search = tight search.settings search.text.now
