pub mod HintLemmas
pub mod PropagationLemmas
pub mod MarkLemmas
