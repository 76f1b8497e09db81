pub mod Given
pub mod Words
pub mod Skipping
pub mod Outcomes
