pub mod ColumnLemmas
pub mod DenseLemmas
pub mod FirstLemmas
pub mod TableLemmas
