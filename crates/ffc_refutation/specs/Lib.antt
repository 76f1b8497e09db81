pub mod Forcing
pub mod Combinations
pub mod Given
pub mod Written
pub mod Steps
