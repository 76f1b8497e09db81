pub mod AboveLemmas
pub mod MeterLemmas
pub mod ZeroLemmas
pub mod TreeLemmas
