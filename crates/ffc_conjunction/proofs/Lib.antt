pub mod ListedLemmas
pub mod ForcedLemmas
pub mod WalkLemmas
pub mod AssertedLemmas
pub mod VisitLemmas
