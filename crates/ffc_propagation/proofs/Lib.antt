mod IndexLemmas
pub mod CountLemmas
pub mod RowLemmas
pub mod TrailLemmas
pub mod GivenLemmas
pub mod SettlingLemmas
pub mod FoundLemmas
pub mod LookLemmas
pub mod FoundSteps
