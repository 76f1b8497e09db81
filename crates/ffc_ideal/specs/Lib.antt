pub mod Answers
pub mod Ideals
