pub mod MarkLemmas
pub mod CoreLemmas
