pub mod Affine
pub mod Answering
pub mod Decisions
pub mod Forming
pub mod Refuting
pub mod Systems
pub mod Units
