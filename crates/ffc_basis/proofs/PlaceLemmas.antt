-- The place of a line's part, where there is one.
use Rattle.std.proofs.Common.{◌≡◌, ℕ, ◌<◌, [], ◌∷◌, ◌++◌, length, get_or, Option, Some, None, IfSome, MatchOption, refl, ap, arith, length-append}
use Rattle.ffc_ring.specs.Monomial.{Monomial}
use Rattle.ffc_ring.specs.Polynomial.{Terms, PassesTerms}
use Rattle.ffc_line.specs.Lines.{Parts, HasPart}
use Rattle.ffc_basis.proofs.TermCounts.{few_terms_pass_no_limit}

-- the part at a place, with one term more, passes the limit
abbrev pub PassesAt : ℕ → Parts → ℕ × Monomial → Option ℕ → Type 0
PassesAt p ts t place = MatchOption place ⊥ (λ i. PassesTerms p 131072 ((get_or ts i (0, [])).1 ++ t ∷ []))

abbrev pub IsPlaceOf : Parts → ℕ → Option ℕ → Type 0
IsPlaceOf ts line place = IfSome place (λ i. (i < length ts) × ((get_or ts i (0, [])).0 ≡ line))

pub part_over : (p : ℕ) (ts : Parts) (line : ℕ) (t : ℕ × Monomial) (place : Option ℕ) → IsPlaceOf ts line place → PassesAt p ts t place → (part : Terms) × HasPart ts line part × PassesTerms p 131072 (part ++ t ∷ [])
part_over p ts line t None found passes = absurd passes
part_over p ts line t (Some i) found passes =
    let part : Terms = (get_or ts i (0, [])).1 in
    (part, (i, found.0, ap (λ (n : ℕ). (n, part)) found.1), passes)

-- a part that is shorter than the limit has room for a term
pub room_for_one : (p : ℕ) (ts : Parts) (t : ℕ × Monomial) (place : Option ℕ) → IfSome place (λ i. length (get_or ts i (0, [])).1 < 131072) → PassesAt p ts t place → ⊥
room_for_one p ts t None room passes = passes
room_for_one p ts t (Some i) room passes =
    let part : Terms = (get_or ts i (0, [])).1 in
    few_terms_pass_no_limit p 131072 (part ++ t ∷ []) (part ++ t ∷ []) (λ _. refl) (omega (arith, length-append part (t ∷ []), room)) passes
