pub mod Trees
pub mod Roots
pub mod Written
