pub mod MoreLemmas
