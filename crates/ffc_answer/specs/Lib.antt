pub mod Answers
pub mod Seen
pub mod Views
pub mod Laws
pub mod Rows
