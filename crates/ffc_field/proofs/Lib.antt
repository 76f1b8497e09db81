pub mod FieldLaws
pub mod ModularLaws
pub mod OrderLemmas
pub mod Primes
pub mod Rests
