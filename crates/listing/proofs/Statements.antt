-- What is printed of a statement is told by how it is checked, and by as much of it as is kept.
use Rattle.std.proofs.Common.{◌≡◌, ℕ, List, take}
use Rattle.console.proofs.Whole.{accepted_whole}
use Rattle.tokenizer.specs.Tokens.{tokens}
use Rattle.token_lines.specs.Printed.{listed}
use Rattle.listing.specs.Printed.{listing_printed}

pub listing_whole : (s : List ℕ) → listing_printed (take 65537 s) ≡ listing_printed s
unfolding listing_printed
listing_whole s = accepted_whole (λ front settings. listed (tokens settings front)) 0 0 0 s
