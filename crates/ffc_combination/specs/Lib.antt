pub mod Forced
pub mod Choices
pub mod Generators
pub mod Attempts
pub mod Flat
pub mod Values
pub mod Solving
pub mod Search
