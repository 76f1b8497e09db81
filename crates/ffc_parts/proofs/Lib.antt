pub mod GrowingLemmas
pub mod ChoosingLemmas
pub mod ApplyingLemmas
pub mod HeadLemmas
mod TableLemmas
