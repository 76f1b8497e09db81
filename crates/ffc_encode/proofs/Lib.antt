pub mod ListingLemmas
pub mod LimitLemmas
pub mod PartLemmas
pub mod ExpandLemmas
pub mod WaitingLemmas
pub mod OpeningLemmas
pub mod OrderLemmas
pub mod LearningLemmas
