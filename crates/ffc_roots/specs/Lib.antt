pub mod Divisors
pub mod Parts
pub mod Roots
pub mod Separation
pub mod Sparse
