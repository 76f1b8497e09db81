pub mod Counting
pub mod Monomial
pub mod MonomialLaws
pub mod Polynomial
pub mod PolynomialLaws
