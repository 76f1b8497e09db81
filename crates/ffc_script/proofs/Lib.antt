pub mod RunLemmas
pub mod StepLemmas
pub mod KeptLemmas
pub mod ReaderLemmas
pub mod LimitLemmas
pub mod CountLemmas
