pub mod Changes
pub mod Remembering
pub mod Solving
pub mod Underway
pub mod Arguments
pub mod Generated
pub mod Status
