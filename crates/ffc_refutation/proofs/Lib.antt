pub mod Forced
pub mod Monomials
pub mod Sums
pub mod Texts
pub mod Readable
pub mod Refuting
pub mod Steps
