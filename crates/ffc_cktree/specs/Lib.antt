pub mod Lines
pub mod Factors
pub mod Identities
pub mod Waiting
pub mod Walking
pub mod Extents
