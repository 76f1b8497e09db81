pub mod RememberLemmas
pub mod EntryLemmas
pub mod ListLemmas
pub mod AdvanceLemmas
pub mod CheckLemmas
pub mod ViewLemmas
pub mod ReadLemmas
pub mod TakenLemmas
pub mod SoonLemmas
pub mod RunLemmas
pub mod EndingLemmas
mod PausedLemmas
pub mod ArgumentLemmas
mod GivenLemmas
pub mod MadeLemmas
pub mod GeneratedLemmas
