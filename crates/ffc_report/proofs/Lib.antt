pub mod DecimalLemmas
pub mod DecidedLemmas
pub mod WordLemmas
