pub mod Outside
pub mod Counts
pub mod Contents
pub mod Failing
pub mod Files
pub mod Metering
pub mod Stops
