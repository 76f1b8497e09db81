pub mod Combinations
pub mod Conjunctions
pub mod Forced
pub mod Linear
pub mod Monomials
pub mod Rows
