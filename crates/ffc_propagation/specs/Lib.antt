pub mod Counts
pub mod Rows
pub mod Trails
pub mod Forcing
pub mod Settling
pub mod Answers
pub mod Laws
