pub mod Chains
pub mod Laws
pub mod Rows
pub mod Units
pub mod Univariate
pub mod Equality
