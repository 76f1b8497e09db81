pub mod Versions
pub mod Stops
pub mod Counting
pub mod Enumerating
pub mod Known
pub mod Opened
pub mod Parts
