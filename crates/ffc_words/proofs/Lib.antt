pub mod SkipLemmas
pub mod OrderLemmas
