pub mod Stops
pub mod Progress
pub mod Answers
pub mod Kept
pub mod Laws
