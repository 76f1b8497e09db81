-- The buffer and its marks.
use Rattle.std.proofs.Common.{◌≡◌, ℕ, ◌+◌, ◌-◌, List, [], ◌∷◌, ◌++◌, length, take, drop, refl, sym, ap, ap₂, ◌∙◌, subst, arith, take_all, length-append, length-drop}
use Rattle.std.proofs.lemmas.List.{take-append-le, drop-append-le}
use Rattle.ffc_ring.specs.Monomial.{Monomial}
use Rattle.ffc_ring.specs.Polynomial.{Terms}
use Rattle.ffc_ckpoly.specs.Flat.{cut, Parts, HaveMonomials}

nothing_in : {A : Type 0} (xs : List A) → length xs ≡ 0 → xs ≡ []
nothing_in [] h = refl
nothing_in (x ∷ xs) h = absurd (omega arith)

module _ {F : Type 0} (value : F → ℕ) (more : List (ℕ × ℕ)) (k : F × ℕ) where
  -- a term more at the end
  pub cut-push : (start : ℕ) (marks : List (F × ℕ)) (powers : List (ℕ × ℕ)) → Parts start marks powers → k.1 ≡ start + length powers + length more
      → cut value start (marks ++ k ∷ []) (powers ++ more) ≡ cut value start marks powers ++ (value k.0, more) ∷ []
  cut-push start [] powers parts e =
      let none : powers ≡ [] = nothing_in powers parts in
      let n : k.1 - start ≡ length more = omega (arith, e, parts) in
      ap (λ (m : Monomial). (value k.0, m) ∷ []) (ap₂ take n (ap (λ ps. ps ++ more) none) ∙ take_all (length more) more (omega arith))
  cut-push start (j ∷ marks) powers parts e =
      ap₂ (λ (m : Monomial) (ts : Terms). (value j.0, m) ∷ ts) (take-append-le (j.1 - start) powers more parts.1)
      (ap (cut value j.1 (marks ++ k ∷ [])) (drop-append-le (j.1 - start) powers more parts.1)
      ∙ cut-push j.1 marks (drop (j.1 - start) powers) parts.2 (omega (arith, e, parts.0, parts.1, length-drop (j.1 - start) powers)))

  pub Parts-push : (start : ℕ) (marks : List (F × ℕ)) (powers : List (ℕ × ℕ)) → Parts start marks powers → k.1 ≡ start + length powers + length more
      → Parts start (marks ++ k ∷ []) (powers ++ more)
  Parts-push start [] powers parts e =
      let n : k.1 - start ≡ length more = omega (arith, e, parts) in
      (omega (arith, e), omega (arith, n, length-append powers more), omega (arith, n, length-drop (k.1 - start) (powers ++ more), length-append powers more, parts))
  Parts-push start (j ∷ marks) powers parts e = (
    parts.0,
    omega (arith, parts.1, length-append powers more),
    subst (Parts j.1 (marks ++ k ∷ [])) (sym (drop-append-le (j.1 - start) powers more parts.1))
        (Parts-push j.1 marks (drop (j.1 - start) powers) parts.2 (omega (arith, e, parts.0, parts.1, length-drop (j.1 - start) powers))),
  )

pub HaveMonomials-parts : (a b : Terms) → HaveMonomials (a ++ b) → HaveMonomials a × HaveMonomials b
HaveMonomials-parts [] b h = (tt, h)
HaveMonomials-parts (t ∷ a) b h = let rest = HaveMonomials-parts a b h.2 in ((h.0, h.1, rest.0), rest.1)
