pub mod Generators
pub mod Marks
pub mod Stacks
