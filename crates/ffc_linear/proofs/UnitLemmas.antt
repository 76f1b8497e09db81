-- Units of any kinds, taken one call after another.
pub use Rattle.ffc_echelon.proofs.StepLemmas.{IsTakenWithin, within_later, taken_within, within_freely, within_last, within_next, within_turn, memory_not_spent}
