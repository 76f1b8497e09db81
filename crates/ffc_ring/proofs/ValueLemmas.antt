-- Values at a point, power by power and term by term.
use Rattle.std.proofs.Common.{◌≡◌, ℕ, ◌+◌, ◌*◌, ◌%◌, ◌^◌, ◌∷◌, refl, sym, ap, ◌∙◌, arith, mul_assoc}
use Rattle.std.proofs.Math.Nat.{mod-add-mod, add-mod-mod}
use Rattle.std.proofs.lemmas.Nat.{mul-mod_first, mul-mod_second}
use Rattle.ffc_field.specs.Modular.{add_mod, mul_mod, pow_mod}
use Rattle.ffc_ring.specs.Monomial.{Monomial, mono_value}
use Rattle.ffc_ring.specs.Polynomial.{Terms, value_sum}
use Rattle.ffc_ring.proofs.PolynomialLemmas.{sum_alike}

-- one power more
pub power_taken : (p : ℕ) (point : ℕ → ℕ) (v w x : ℕ) (q : ℕ × ℕ) (rest : Monomial) → x ≡ point q.0 → w ≡ mul_mod p v (pow_mod p x q.1) → (w * mono_value point rest) % p ≡ (v * mono_value point (q ∷ rest)) % p
power_taken p point v w x q rest ex ew =
    ap (λ k. (k * mono_value point rest) % p) ew
    ∙ mul-mod_first (v * pow_mod p x q.1) (mono_value point rest) p
    ∙ sym (mul-mod_first (v * pow_mod p x q.1) (mono_value point rest) p)
    ∙ ap (λ k. (k * mono_value point rest) % p) (mul-mod_second v (x ^ q.1) p)
    ∙ mul-mod_first (v * x ^ q.1) (mono_value point rest) p
    ∙ ap (λ k. k % p) (mul_assoc v (x ^ q.1) (mono_value point rest))
    ∙ ap (λ k. (v * (k ^ q.1 * mono_value point rest)) % p) ex

-- one term more
pub term_taken : (p : ℕ) (point : ℕ → ℕ) (s r k w : ℕ) (t : ℕ × Monomial) (rest : Terms) → k ≡ mono_value point t.1 % p → w ≡ mul_mod p t.0 k → r ≡ add_mod p s w → (r + value_sum point rest) % p ≡ (s + value_sum point (t ∷ rest)) % p
term_taken p point s r k w t rest ek ew er =
    ap (λ j. (j + value_sum point rest) % p) er
    ∙ mod-add-mod (s + w) p (value_sum point rest)
    ∙ sum_alike p (s + w) (s + t.0 * mono_value point t.1) (value_sum point rest) (value_sum point rest)
    (ap (λ j. (s + j) % p) (ew ∙ ap (mul_mod p t.0) ek) ∙ add-mod-mod s (t.0 * (mono_value point t.1 % p)) p
    ∙ sum_alike p s s (t.0 * (mono_value point t.1 % p)) (t.0 * mono_value point t.1) refl (mul-mod_second t.0 (mono_value point t.1) p)) refl
    ∙ ap (λ j. j % p) (omega arith)
