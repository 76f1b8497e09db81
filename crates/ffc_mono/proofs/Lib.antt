pub mod LeadingLemmas
pub mod MaskLemmas
pub mod OrderLemmas
pub mod PowerLemmas
pub mod RowLemmas
