pub mod Bounds
pub mod Answering
pub mod Univariate
pub mod Euclid
pub mod Dividing
pub mod Outcomes
pub mod Decisions
pub mod Rows
