pub mod BooleanNodes
mod ReadEntries
