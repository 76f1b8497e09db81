pub mod Answering
pub mod Criterion
