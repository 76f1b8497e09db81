pub mod Status
pub mod Decided
