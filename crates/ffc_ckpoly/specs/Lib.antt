pub mod Flat
pub mod Sorted
pub mod Parts
pub mod Multiples
pub mod Opening
pub mod Uses
