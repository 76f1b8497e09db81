-- How many units the steps of a decision take.
pub use Rattle.ffc_echelon.specs.Units.{TakesWithin}
