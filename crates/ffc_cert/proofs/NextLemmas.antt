-- The state after a line, by its place.
use Rattle.std.proofs.Common.{◌≡◌, ℕ, ◌+◌, ◌==◌, true, false, List, length, take, min, refl, inl, inr}
use Rattle.std.proofs.lemmas.Bool.Decides.{eqb_tells}
use Rattle.std.proofs.Math.Nat.{min_comm}
use Rattle.std.proofs.lemmas.List.{take_min}
use Rattle.ffc_cert.specs.declared.TheConstants.{MAX_BYTES}
use Rattle.ffc_cert.specs.declared.progress.Place.{Place}
use Rattle.ffc_cert.specs.declared.progress.Place.TheVariants.{Header, Between, Assignment, Refutation}
use Rattle.ffc_cert.specs.declared.progress.Progress.{Progress}
use Rattle.ffc_cert.specs.declared.forms.Awaited.{Awaited}
use Rattle.ffc_cert.specs.Reading.{Halt, fault_at, header_line, opening_line, assignment_line, refutation_line, next_in, next_at}

pub seen_is : (line : List ℕ) (n size : ℕ) → size ≡ min (length line) n → take size line ≡ take n line
seen_is line n size h = rw (h, min_comm (length line) n) (take_min n line)

not_same : (a b : ℕ) → (a ≡ b → ⊥) → (a == b) ≡ false
not_same a b h = elim (eqb_tells a b) [ inl same ↦ absurd (h same.1) | inr other ↦ other.0 ]

module _ (wanted : ℕ) (p : Progress) (line seen : List ℕ) (cut : seen ≡ take (MAX_BYTES + 1) line) where
  seen_in : (place : Place) → p.place ≡ place → next_at wanted p line ≡ next_in place wanted p seen
  unfolding next_at
  seen_in place h = rw (h, cut) refl

  pub next_header : p.place ≡ Header → next_at wanted p line ≡ header_line p seen
  unfolding next_in
  next_header h = seen_in Header h

  pub next_behind : p.place ≡ Between → (p.complete == wanted) ≡ true → next_at wanted p line ≡ Halt (fault_at 2 p)
  unfolding next_in
  next_behind h all = rw (seen_in Between h, all) refl

  pub next_opening : p.place ≡ Between → (p.complete ≡ wanted → ⊥) → next_at wanted p line ≡ opening_line p seen
  unfolding next_in
  next_opening h some = let differs : (p.complete == wanted) ≡ false = not_same p.complete wanted some in rw (seen_in Between h, differs) refl

  pub next_value : (left : ℕ) → p.place ≡ Assignment left → next_at wanted p line ≡ assignment_line left p seen
  unfolding next_in
  next_value left h = seen_in (Assignment left) h

  pub next_refutation : (awaited : Awaited) → p.place ≡ Refutation awaited → next_at wanted p line ≡ refutation_line awaited p seen
  unfolding next_in
  next_refutation awaited h = seen_in (Refutation awaited) h
