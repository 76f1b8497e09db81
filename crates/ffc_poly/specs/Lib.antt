pub mod Equality
pub mod Ordered
pub mod Tails
