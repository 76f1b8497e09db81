pub mod ListLemmas
pub mod ConstantLemmas
pub mod ModelLemmas
pub mod SeenLemmas
pub mod ViewLemmas
pub mod LawLemmas
pub mod RowLemmas
