pub mod Clauses
pub mod Hints
pub mod Propagation
pub mod Laws
pub mod Marks
