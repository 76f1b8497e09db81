pub mod Clauses
pub mod Listing
pub mod Parts
pub mod Opening
pub mod Order
pub mod Waiting
pub mod Values
