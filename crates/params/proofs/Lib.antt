-- Laws that the proofs cite, and theorems on the definitions.
pub mod SheetEntries
pub mod EntriesInside
pub mod EntryLists
pub mod NamedEntries
pub mod KeyTexts
pub mod GetByCases
pub mod TokensInside
pub mod Noughts
pub mod FillWalk
pub mod LongestValues
pub mod FilledShort
pub mod FillAnswers
pub mod PartBytes
pub mod Lookups
pub mod AcceptedFills
pub mod FillIsLookups
pub mod UntakenValues
