-- What is read from the same lines, written in other orders of their terms, is one.
use Rattle.std.proofs.Common.{◌≡◌, ℕ, zero, suc, ◌+◌, ◌-◌, ◌*◌, ◌^◌, ◌<◌, Bool, true, false, not, ◌&&◌, ◌==◌, nat_lt, if◌then◌else◌, List, [], ◌∷◌, ◌++◌, length, Result, Ok, Err, refl, sym, ap, ap₂, ◌∙◌, subst}
use Rattle.std.specs.List.{range_with_len, list_all}
use Rattle.std.proofs.lemmas.List.Sums.{sum_by-cons}
use Rattle.ffc_cert.specs.declared.entries.CertLine.{CertLine}
use Rattle.ffc_cert.specs.declared.entries.CertLine.TheVariants.{Combine, Bits, Chain, Step, Split, Values, Close}
use Rattle.ffc_ring.specs.Polynomial.{Terms, SamePolynomial, product}
use Rattle.ffc_ring.proofs.PolynomialLemmas.{same_sums, same_products}
use Rattle.ffc_uni.specs.Univariate.{Coefficients, indeterminate, product_of_roots, terms_in}
use Rattle.ffc_uni.specs.Chains.{pair_count, digits_of}
use Rattle.ffc_trees.specs.Normal.{normal}
use Rattle.ffc_trees.specs.TreeLines.{Limits, Multiple, Factor, line_at, is_there, are_there, products_in, is_written_within, written_degree, is_within, are_residues, sum_of_multiples, combined, combine_line, is_in, coefficients_of, is_same, are_below, factors_over, fermat_line, chain_line, step_line, root_line, case_lines, is_root_product, split_line, values_line, last_line, closes}
use Rattle.ffc_trees.specs.BitLines.{is_linear, variables_of, are_bits, is_written_in, is_of_bits, follows, are_choices_within, is_polynomial_within, bits_line}
use Rattle.ffc_trees.specs.Trees.{Power, Stage, Open, Within, with_line, with_power, kept, branch_read, step_read, Broken, next_read, read_from}
use Rattle.ffc_trees.specs.Same.{IsSameLine, AreSameLines, AreSameCases, IsSameStage}
use Rattle.ffc_trees.proofs.NormalLemmas.{normal_same, normal_is_normal}
use Rattle.ffc_trees.proofs.SameLemmas.{one_length, one_degree, one_is_in, one_coefficients, one_constant}
use Rattle.ffc_trees.proofs.SameBitLemmas.{one_variables, one_linear, one_bit, one_follows}

if_not : {A : Type 0} (c d : Bool) (r s : A) (e : A) → c ≡ d → r ≡ s → (if not c then e else r) ≡ (if not d then e else s)
if_not c d r s e x y = ap₂ (λ b z. if not b then e else z) x y

-- two results are alike: both broke the same rule, or both kept it with what R says
abbrev pub Alike : {A : Type 0} → (A → A → Type 0) → Result A ℕ → Result A ℕ → Type 0
Alike R (Ok x) (Ok y) = R x y
Alike R (Ok x) (Err e) = ⊥
Alike R (Err e) (Ok y) = ⊥
Alike R (Err d) (Err e) = d ≡ e

alike-if_not : {A : Type 0} (R : A → A → Type 0) (c d : Bool) (e : ℕ) (r s : Result A ℕ) → c ≡ d → Alike R r s → Alike R (if not c then Err e else r) (if not d then Err e else s)
alike-if_not R true d e r s same alike = subst (λ b. Alike R r (if not b then Err e else s)) same alike
alike-if_not R false d e r s same alike = subst (λ b. Alike R (Err e) (if not b then Err e else s)) same refl

alike-if : {A : Type 0} (R : A → A → Type 0) (c : Bool) (e : ℕ) (r s : Result A ℕ) → Alike R r s → Alike R (if c then Err e else r) (if c then Err e else s)
alike-if R true e r s alike = refl
alike-if R false e r s alike = alike

alike-kept : {A B : Type 0} (R : A → A → Type 0) (Q : B → B → Type 0) (f g : A → B) → ((x y : A) → R x y → Q (f x) (g y)) → (r s : Result A ℕ) → Alike R r s → Alike Q (kept f r) (kept g s)
alike-kept R Q f g h (Ok x) (Ok y) alike = h x y alike
alike-kept R Q f g h (Ok x) (Err e) alike = alike
alike-kept R Q f g h (Err e) (Ok y) alike = alike
alike-kept R Q f g h (Err d) (Err e) alike = alike

alike-same : {A : Type 0} (R : A → A → Type 0) → ((x : A) → R x x) → (r s : Result A ℕ) → r ≡ s → Alike R r s
alike-same R h (Ok x) s e = subst (Alike R (Ok x)) e (h x)
alike-same R h (Err d) s e = subst (Alike R (Err d)) e refl

module _ (p : ℕ) (positive : 0 < p) where
  abbrev Same : Terms → Terms → Type 0
  Same f g = IsSameLine p f g

  none_same : Same [] []
  none_same = record { one = tt; other = tt; same = λ m. refl }

  normal-same : (f g : Terms) → SamePolynomial p f g → Same (normal p f) (normal p g)
  normal-same f g e = record {
    one = normal_is_normal p f positive;
    other = normal_is_normal p g positive;
    same = λ m. normal_same p f m ∙ e m ∙ sym (normal_same p g m);
  }

  -- the tests of a line of bits in their order
  abbrev judged : (there choices polynomial residues bits following : Bool) → Terms → Result Terms ℕ
  judged there choices polynomial residues bits following new =
      if not there then Err 12 else
      if not choices then Err 11 else
      if not polynomial then Err 11 else
      if not residues then Err 13 else
      if not bits then Err 13 else
      if not following then Err 13 else Ok new

  judged-same : (there choices polynomial residues bits following : Bool) (new : Terms) → Same new new → Alike Same (judged there choices polynomial residues bits following new) (judged there choices polynomial residues bits following new)
  judged-same false c d e f g new same = refl
  judged-same true false d e f g new same = refl
  judged-same true true false e f g new same = refl
  judged-same true true true false f g new same = refl
  judged-same true true true true false g new same = refl
  judged-same true true true true true false new same = refl
  judged-same true true true true true true new same = same

  same-line_at : (a b : List Terms) (k : ℕ) → AreSameLines p a b → Same (line_at a k) (line_at b k)
  same-line_at [] [] k are = none_same
  same-line_at [] (g ∷ b) k are = absurd are
  same-line_at (f ∷ a) [] k are = absurd are
  same-line_at (f ∷ a) (g ∷ b) zero are = are.0
  same-line_at (f ∷ a) (g ∷ b) (suc k) are = same-line_at a b k are.1

  same-length : (a b : List Terms) → AreSameLines p a b → length a ≡ length b
  same-length [] [] are = refl
  same-length [] (g ∷ b) are = absurd are
  same-length (f ∷ a) [] are = absurd are
  same-length (f ∷ a) (g ∷ b) are = ap suc (same-length a b are.1)

  same-push : (a b : List Terms) (f g : Terms) → AreSameLines p a b → Same f g → AreSameLines p (a ++ f ∷ []) (b ++ g ∷ [])
  same-push [] [] f g are is = (is, tt)
  same-push [] (h ∷ b) f g are is = absurd are
  same-push (h ∷ a) [] f g are is = absurd are
  same-push (h ∷ a) (i ∷ b) f g are is = (are.0, same-push a b f g are.1 is)

  same-last : (a b : List Terms) → AreSameLines p a b → Same (last_line a) (last_line b)
  same-last [] [] are = none_same
  same-last [] (g ∷ b) are = absurd are
  same-last (f ∷ a) [] are = absurd are
  same-last (f ∷ []) (g ∷ []) are = are.0
  same-last (f ∷ []) (g ∷ h ∷ b) are = absurd are.1
  same-last (f ∷ h ∷ a) (g ∷ []) are = absurd are.1
  same-last (f ∷ h ∷ a) (g ∷ i ∷ b) are = same-last (h ∷ a) (i ∷ b) are.1

  same-append : (a b c d : List (List Terms)) → AreSameCases p a b → AreSameCases p c d → AreSameCases p (a ++ c) (b ++ d)
  same-append [] [] c d are is = is
  same-append [] (g ∷ b) c d are is = absurd are
  same-append (f ∷ a) [] c d are is = absurd are
  same-append (f ∷ a) (g ∷ b) c d are is = (are.0, same-append a b c d are.1 is)

  module _ (a b : List Terms) (are : AreSameLines p a b) where
    there : (k : ℕ) → is_there a k ≡ is_there b k
    there k = ap (λ n. nat_lt k n) (same-length a b are)

    all_there : (ms : List Multiple) → are_there a ms ≡ are_there b ms
    all_there [] = refl
    all_there (m ∷ ms) = ap₂ (λ c d. c && d) (there m.0) (all_there ms)

    products_alike : (ms : List Multiple) → products_in a ms ≡ products_in b ms
    products_alike [] = refl
    products_alike (m ∷ ms) =
        sum_by-cons (λ (n : Multiple). length n.1 * length (line_at a n.0)) m ms
        ∙ ap₂ (λ k rest. length m.1 * k + rest) (one_length p (line_at a m.0) (line_at b m.0) positive (same-line_at a b m.0 are)) (products_alike ms)
        ∙ sym (sum_by-cons (λ (n : Multiple). length n.1 * length (line_at b n.0)) m ms)

    sums_same : (ms : List Multiple) → SamePolynomial p (sum_of_multiples a ms) (sum_of_multiples b ms)
    sums_same [] = λ m. refl
    sums_same (m ∷ ms) =
        same_sums p (product m.1 (line_at a m.0)) (product m.1 (line_at b m.0)) (sum_of_multiples a ms) (sum_of_multiples b ms)
        (same_products p m.1 m.1 (line_at a m.0) (line_at b m.0) (λ n. refl) (same-line_at a b m.0 are).same) (sums_same ms)

    combined_same : (ms : List Multiple) → Same (combined p a ms) (combined p b ms)
    unfolding combined
    combined_same ms = normal-same (sum_of_multiples a ms) (sum_of_multiples b ms) (sums_same ms)

    combine-alike : (l : Limits) (ms : List Multiple) → Alike Same (combine_line l p a ms) (combine_line l p b ms)
    unfolding combine_line
    combine-alike l ms =
        let one : Terms = combined p a ms in
        let other : Terms = combined p b ms in
        let same : Same one other = combined_same ms in
        let four = alike-if_not Same (are_residues p ms) (are_residues p ms) 5 (Ok one) (Ok other) refl same in
        let three = alike-if_not Same (is_within l one) (is_within l other) 11 (if not (are_residues p ms) then Err 5 else Ok one) (if not (are_residues p ms) then Err 5 else Ok other)
        (ap₂ (λ d n. not (nat_lt l.degree d) && not (nat_lt l.terms n)) (one_degree p one other positive same) (one_length p one other positive same)) four in
        let two = alike-if_not Same (is_written_within l a ms) (is_written_within l b ms) 11 (if not (is_within l one) then Err 11 else if not (are_residues p ms) then Err 5 else Ok one) (if not (is_within l other) then Err 11 else if not (are_residues p ms) then Err 5 else Ok other)
        (ap (λ n. not (nat_lt l.products n) && not (nat_lt l.degree (written_degree ms))) (products_alike ms)) three in
        alike-if_not Same (are_there a ms) (are_there b ms) 12 (if not (is_written_within l a ms) then Err 11 else if not (is_within l one) then Err 11 else if not (are_residues p ms) then Err 5 else Ok one) (if not (is_written_within l b ms) then Err 11 else if not (is_within l other) then Err 11 else if not (are_residues p ms) then Err 5 else Ok other) (all_there ms) two

    all_lines_there : (ks : List ℕ) → list_all (is_there a) ks ≡ list_all (is_there b) ks
    all_lines_there [] = refl
    all_lines_there (k ∷ ks) = ap₂ (λ c d. c && d) (there k) (all_lines_there ks)

    bits-one : (xs ks : List ℕ) → are_bits p a xs ks ≡ are_bits p b xs ks
    bits-one [] [] = refl
    bits-one [] (k ∷ ks) = refl
    bits-one (x ∷ xs) [] = refl
    bits-one (x ∷ xs) (k ∷ ks) = ap₂ (λ c d. c && d) (one_bit p (line_at a k) (line_at b k) positive (same-line_at a b k are) x) (bits-one xs ks)

    of_bits-one : (k : ℕ) (ks : List ℕ) → is_of_bits p a (line_at a k) ks ≡ is_of_bits p b (line_at b k) ks
    of_bits-one k ks =
        let same : Same (line_at a k) (line_at b k) = same-line_at a b k are in
        ap₂ (λ c xs. c && are_bits p a xs ks) (one_linear p (line_at a k) (line_at b k) positive same) (one_variables p (line_at a k) (line_at b k) positive same)
        ∙ ap (λ c. is_linear (line_at b k) && c) (bits-one (variables_of (line_at b k)) ks)

    bits-alike : (l : Limits) (k : ℕ) (chosen : List ℕ) (written : Terms) (ks : List ℕ) → Alike Same (bits_line l p a k chosen written ks) (bits_line l p b k chosen written ks)
    unfolding bits_line
    bits-alike l k chosen written ks =
        let f : Terms = line_at a k in
        let g : Terms = line_at b k in
        let same : Same f g = same-line_at a b k are in
        let new : Terms = normal p written in
        let residues : Bool = is_written_in p chosen written in
        let polynomial : Bool = is_polynomial_within l p written in
        let lines_there : (is_there a k && list_all (is_there a) ks) ≡ (is_there b k && list_all (is_there b) ks) = ap₂ (λ c d. c && d) (there k) (all_lines_there ks) in
        let choices : are_choices_within l f chosen written ≡ are_choices_within l g chosen written =
        ap (λ n. not (nat_lt l.choices (length chosen)) && not (nat_lt l.products (2 ^ length chosen * n)) && not (nat_lt l.products (2 ^ length chosen * length written))) (one_length p f g positive same)
        in let one = judged-same (is_there a k && list_all (is_there a) ks) (are_choices_within l f chosen written) polynomial residues (is_of_bits p a f ks) (follows p f chosen written) new (normal-same written written (λ m. refl)) in
        subst (λ r. Alike Same (bits_line l p a k chosen written ks) r)
        (ap₂ (λ c d. judged c d polynomial residues (is_of_bits p a f ks) (follows p f chosen written) new) lines_there choices
        ∙ ap₂ (λ c d. judged (is_there b k && list_all (is_there b) ks) (are_choices_within l g chosen written) polynomial residues c d new) (of_bits-one k ks) (one_follows p f g positive same chosen written))
        one

    chain-one : (k x steps : ℕ) → chain_line p a k x steps ≡ chain_line p b k x steps
    unfolding chain_line
    chain-one k x steps =
        let same : Same (line_at a k) (line_at b k) = same-line_at a b k are in
        if_not (is_there a k) (is_there b k) (if not (is_in x (line_at a k) && (steps == pair_count p)) then Err 6 else Ok (coefficients_of (line_at a k))) (if not (is_in x (line_at b k) && (steps == pair_count p)) then Err 6 else Ok (coefficients_of (line_at b k))) (Err 12) (there k)
        (if_not (is_in x (line_at a k) && (steps == pair_count p)) (is_in x (line_at b k) && (steps == pair_count p)) (Ok (coefficients_of (line_at a k))) (Ok (coefficients_of (line_at b k))) (Err 6)
        (ap (λ c. c && (steps == pair_count p)) (one_is_in x p (line_at a k) (line_at b k) positive same)) (ap Ok (one_coefficients p (line_at a k) (line_at b k) positive same)))

    cases_same : (x : ℕ) (zeros : List ℕ) → AreSameCases p (case_lines p a x zeros) (case_lines p b x zeros)
    unfolding root_line
    cases_same x [] = tt
    cases_same x (r ∷ zeros) = (same-push a b (root_line p x r) (root_line p x r) are (normal-same (terms_in x ((p - r) ∷ 1 ∷ [])) (terms_in x ((p - r) ∷ 1 ∷ [])) (λ m. refl)), cases_same x zeros)

    product-one : (k x : ℕ) (zeros : List ℕ) → is_root_product p (line_at a k) x zeros ≡ is_root_product p (line_at b k) x zeros
    product-one k x zeros =
        let same : Same (line_at a k) (line_at b k) = same-line_at a b k are in
        ap₂ (λ c f. c && is_same p f (product_of_roots p zeros)) (one_is_in x p (line_at a k) (line_at b k) positive same) (one_coefficients p (line_at a k) (line_at b k) positive same)

    split-alike : (k x : ℕ) (zeros : List ℕ) → Alike (AreSameCases p) (split_line p a k x zeros) (split_line p b k x zeros)
    unfolding split_line
    split-alike k x zeros =
        let good : Bool = nat_lt 0 (length zeros) && are_below p zeros in
        let three = alike-if_not (AreSameCases p) (is_root_product p (line_at a k) x zeros) (is_root_product p (line_at b k) x zeros) 7 (Ok (case_lines p a x zeros)) (Ok (case_lines p b x zeros)) (product-one k x zeros) (cases_same x zeros) in
        let two = alike-if_not (AreSameCases p) good good 7 (if not (is_root_product p (line_at a k) x zeros) then Err 7 else Ok (case_lines p a x zeros)) (if not (is_root_product p (line_at b k) x zeros) then Err 7 else Ok (case_lines p b x zeros)) refl three in
        alike-if_not (AreSameCases p) (is_there a k) (is_there b k) 12 (if not good then Err 7 else if not (is_root_product p (line_at a k) x zeros) then Err 7 else Ok (case_lines p a x zeros)) (if not good then Err 7 else if not (is_root_product p (line_at b k) x zeros) then Err 7 else Ok (case_lines p b x zeros)) (there k) two

    values-alike : (x count : ℕ) → Alike (AreSameCases p) (values_line p a x count) (values_line p b x count)
    unfolding values_line
    values-alike x count =
        let two = alike-if_not (AreSameCases p) (count == p) (count == p) 7 (Ok (case_lines p a x (range_with_len 0 p))) (Ok (case_lines p b x (range_with_len 0 p))) refl (cases_same x (range_with_len 0 p)) in
        alike-if (AreSameCases p) _ 7 (if not (count == p) then Err 7 else Ok (case_lines p a x (range_with_len 0 p))) (if not (count == p) then Err 7 else Ok (case_lines p b x (range_with_len 0 p))) two

    closes-one : closes p a ≡ closes p b
    unfolding closes
    closes-one = one_constant p (last_line a) (last_line b) positive (same-last a b are)

    module _ (others more : List (List Terms)) (rest : AreSameCases p others more) where
      with_power-same : (x : ℕ) (f : Coefficients) (factors : List Factor) (r : Coefficients) → IsSameStage p (with_power p x f a others factors r) (with_power p x f b more factors r)
      unfolding fermat_line
      with_power-same x f [] r = (same-push a b (fermat_line p x r) (fermat_line p x r) are (normal-same _ _ (λ m. refl)), rest)
      with_power-same x f (factor ∷ factors) r = (refl, are, rest)

      close-alike : (c d : Bool) → c ≡ d → Alike (IsSameStage p) (if c then Ok (Open others) else Err 8) (if d then Ok (Open more) else Err 8)
      close-alike true d e = subst (λ b. Alike (IsSameStage p) (Ok (Open others)) (if b then Ok (Open more) else Err 8)) e rest
      close-alike false d e = subst (λ b. Alike (IsSameStage p) (Err 8) (if b then Ok (Open more) else Err 8)) e refl

      branch-alike : (l : Limits) (line : CertLine) → Alike (IsSameStage p) (branch_read l p a others line) (branch_read l p b more line)
      branch-alike l (Combine ms) = alike-kept Same (IsSameStage p) (with_line a others) (with_line b more) (λ f g is. (same-push a b f g are is, rest)) (combine_line l p a ms) (combine_line l p b ms) (combine-alike l ms)
      branch-alike l (Bits k chosen written ks) = alike-kept Same (IsSameStage p) (with_line a others) (with_line b more) (λ f g is. (same-push a b f g are is, rest)) (bits_line l p a k chosen written ks) (bits_line l p b k chosen written ks) (bits-alike l k chosen written ks)
      branch-alike l (Chain k x steps) =
          alike-kept (λ f g. f ≡ g) (IsSameStage p) (λ f. with_power p x f a others (factors_over (digits_of p)) indeterminate) (λ f. with_power p x f b more (factors_over (digits_of p)) indeterminate)
          (λ f g e. subst (λ h. IsSameStage p (with_power p x f a others (factors_over (digits_of p)) indeterminate) (with_power p x h b more (factors_over (digits_of p)) indeterminate)) e (with_power-same x f (factors_over (digits_of p)) indeterminate))
          (chain_line p a k x steps) (chain_line p b k x steps) (alike-same (λ f g. f ≡ g) (λ f. refl) (chain_line p a k x steps) (chain_line p b k x steps) (chain-one k x steps))
      branch-alike l (Split k x zeros) = alike-kept (AreSameCases p) (IsSameStage p) (λ cases. Open (cases ++ others)) (λ cases. Open (cases ++ more)) (λ c d is. same-append c d others more is rest) (split_line p a k x zeros) (split_line p b k x zeros) (split-alike k x zeros)
      branch-alike l (Values x count) = alike-kept (AreSameCases p) (IsSameStage p) (λ cases. Open (cases ++ others)) (λ cases. Open (cases ++ more)) (λ c d is. same-append c d others more is rest) (values_line p a x count) (values_line p b x count) (values-alike x count)
      branch-alike l Close = close-alike (closes p a) (closes p b) closes-one
      branch-alike l _ = refl

      step-alike : (l : Limits) (c : Power) (line : CertLine) → Alike (IsSameStage p) (step_read l p c a others line) (step_read l p c b more line)
      step-alike l c (Step quotient remainder) =
          alike-kept (λ f g. f ≡ g) (IsSameStage p) (with_power p c.variable c.modulus a others c.factors) (with_power p c.variable c.modulus b more c.factors)
          (λ f g e. subst (λ h. IsSameStage p (with_power p c.variable c.modulus a others c.factors f) (with_power p c.variable c.modulus b more c.factors h)) e (with_power-same c.variable c.modulus c.factors f))
          (step_line l p c.modulus c.factor c.power quotient remainder) (step_line l p c.modulus c.factor c.power quotient remainder) (alike-same (λ f g. f ≡ g) (λ f. refl) (step_line l p c.modulus c.factor c.power quotient remainder) (step_line l p c.modulus c.factor c.power quotient remainder) refl)
      step-alike l c _ = refl

  next-one : (at : ℕ) (go : Stage → Result (List CertLine) Broken) → ((s t : Stage) → IsSameStage p s t → go s ≡ go t) → (r s : Result Stage ℕ) → Alike (IsSameStage p) r s → next_read at go r ≡ next_read at go s
  next-one at go h (Ok s) (Ok t) alike = h s t alike
  next-one at go h (Ok s) (Err e) alike = absurd alike
  next-one at go h (Err e) (Ok t) alike = absurd alike
  next-one at go h (Err d) (Err e) alike = ap (λ rule. Err (record { offset = at; rule = rule })) alike

  pub stages_read_alike : (l : Limits) (tree : List CertLine) (at : ℕ) (s t : Stage) → IsSameStage p s t → read_from l p s at tree ≡ read_from l p t at tree
  unfolding read_from
  stages_read_alike l tree at (Open []) (Open []) same = refl
  stages_read_alike l tree at (Open []) (Open (b ∷ bs)) same = absurd same
  stages_read_alike l tree at (Open (a ∷ xs)) (Open []) same = absurd same
  stages_read_alike l [] at (Open (a ∷ xs)) (Open (b ∷ bs)) same = refl
  stages_read_alike l (line ∷ tree) at (Open (a ∷ xs)) (Open (b ∷ bs)) same =
      next-one at (λ stage. read_from l p stage (suc at) tree) (λ s t e. stages_read_alike l tree (suc at) s t e) (branch_read l p a xs line) (branch_read l p b bs line) (branch-alike a b same.0 xs bs same.1 l line)
  stages_read_alike l tree at (Open xs) (Within d b bs) same = absurd same
  stages_read_alike l tree at (Within c a xs) (Open bs) same = absurd same
  stages_read_alike l [] at (Within c a xs) (Within d b bs) same = refl
  stages_read_alike l (line ∷ tree) at (Within c a xs) (Within d b bs) same =
      next-one at (λ stage. read_from l p stage (suc at) tree) (λ s t e. stages_read_alike l tree (suc at) s t e) (step_read l p c a xs line) (step_read l p d b bs line)
      (subst (λ e. Alike (IsSameStage p) (step_read l p c a xs line) (step_read l p e b bs line)) same.0 (step-alike a b same.1 xs bs same.2 l c line))
