pub mod Literals
pub mod Forced
pub mod Walks
