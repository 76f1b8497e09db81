pub mod Operators
pub mod Numbers
pub mod Growing
pub mod Heads
pub mod Words
