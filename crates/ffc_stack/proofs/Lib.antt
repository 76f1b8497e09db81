pub mod FoundLemmas
pub mod MarkLemmas
pub mod StackLemmas
