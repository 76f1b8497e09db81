pub mod Answers
pub mod Reading
pub mod Steps
pub mod Words
