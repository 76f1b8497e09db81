pub mod MarkLemmas
pub mod WalkLemmas
pub mod StateLemmas
pub mod StepLemmas
pub mod TrailLemmas
pub mod SettledLemmas
pub mod LawLemmas
