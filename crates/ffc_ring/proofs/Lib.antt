pub mod CountingLemmas
pub mod MonomialLemmas
pub mod PolynomialLemmas
pub mod ReachedLemmas
pub mod PowerLemmas
pub mod ValueLemmas
