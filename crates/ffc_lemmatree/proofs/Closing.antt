-- The tree over roots closes.
use Rattle.std.proofs.Common.{◌≡◌, ◌≢◌, ℕ, zero, suc, ◌+◌, ◌-◌, ◌*◌, ◌<◌, ◌≤◌, List, [], ◌∷◌, ◌++◌, length, map, All, Some, Ok, refl, sym, ap, ◌∙◌, arith, subst, append_assoc, slice_get, length-append}
use Rattle.std.specs.List.{AllByRecursion}
use Rattle.std.proofs.lemmas.Bool.{cond-false, ne_eqb}
use Rattle.std.proofs.lemmas.List.{append-nil, get_or_append_left, get_or_at, length_push}
use Rattle.std.proofs.lemmas.List.Elements.{recursion_from_All}
use Rattle.std.proofs.lemmas.List.Sums.{sum_by-cons}
use Rattle.ffc_cert.specs.declared.entries.CertLine.{CertLine}
use Rattle.ffc_cert.specs.declared.entries.CertLine.TheVariants.{Combine, Chain, Split, Close}
use Rattle.ffc_ring.specs.Polynomial.{Terms, SamePolynomial, coefficient, product, difference}
use Rattle.ffc_ring.proofs.PolynomialLemmas.{product_with_one}
use Rattle.ffc_uni.specs.Univariate.{Coefficients, SameUnivariate, IsNormal as IsNormalIn, indeterminate, product_of_roots, terms_in}
use Rattle.ffc_uni.specs.Chains.{Pair, IsChain, digits_of, pair_count, last_remainder}
use Rattle.ffc_roots.specs.declared.found.Roots.{Roots}
use Rattle.ffc_roots.specs.Roots.{without_x}
use Rattle.ffc_trees.specs.NodePolynomials.{variable, constant}
use Rattle.ffc_trees.specs.Normal.{normal}
use Rattle.ffc_trees.specs.TreeLines.{limits, Multiple, line_at, products_in, combined, combine_line, coefficients_of, fermat_line, root_line, case_lines, chain_line, closes}
use Rattle.ffc_trees.specs.Closing.{written_step, Closes, CloseAll}
use Rattle.ffc_trees.specs.Closing.Closes.{combine, chain, split, close}
use Rattle.ffc_trees.specs.Closing.CloseAll.{no_cases, each}
use Rattle.ffc_trees.proofs.RuleLemmas.{chain_to, split_to}
use Rattle.ffc_lemmatree.specs.declared.cases.CaseNumbers.{CaseNumbers}
use Rattle.ffc_lemmatree.specs.declared.endings.EuclidStep.{EuclidStep}
use Rattle.ffc_lemmatree.specs.declared.endings.RootCase.{RootCase}
use Rattle.ffc_lemmatree.specs.Roots.{LeadsTo, IsCase, AreCases, AreRefutedRoots}
use Rattle.ffc_lemmatree.specs.Roots.LeadsTo.{nothing, next as next_step}
use Rattle.ffc_lemmatree.specs.Written.{written_in, appended, sum_line, euclid_lines, last_divisor, root_case_lines, all_case_lines, split_lines, roots_lines, constant_lines, IsNormalStep, IsNormalCase, AreNormalRoots}
use Rattle.ffc_lemmatree.proofs.Grammar.{chain_is_long}
use Rattle.ffc_lemmatree.proofs.Lines.{IsLineIn, IsAt, line_short, line_low, line_alone, line_coefficients, sum_keeps, combined_same, combined_is_normal, sum_of_two_keeps, sum_of_two_is}
use Rattle.ffc_lemmatree.proofs.Branches.{constant_closes, case_keeps, case_closes}
use Rattle.ffc_lemmatree.proofs.Chains.{chain_alike, chain_written, fermat_is_line, fermat_short}

-- ---- numbers of lines

last_next : (last next n : ℕ) → last_divisor next (next + 1) n ≡ last_divisor last next (suc n)
last_next last next zero = omega arith
last_next last next (suc n) =
    cond-false _ _ _ (ne_eqb (suc n) 0 (λ e. absurd (omega (arith, e))))
    ∙ (let same : next + 1 + (suc n - 1) ≡ next + (suc (suc n) - 1) = omega arith in same)
    ∙ sym (cond-false _ _ _ (ne_eqb (suc (suc n)) 0 (λ e. absurd (omega (arith, e)))))

-- a line that was there is where it was
pub kept_at : (p x : ℕ) (lines more : List Terms) (f : Coefficients) (k : ℕ) → IsAt p x lines f k → IsAt p x (lines ++ more) f k
kept_at p x lines more f k is =
    let same : line_at (lines ++ more) k ≡ line_at lines k = get_or_append_left lines more [] k is.there in
    let long = length-append lines more in
    let there : k < length lines = is.there in
    record { there = omega arith; low = is.low; line = subst (IsLineIn p x f) (sym same) is.line }

-- a line that is added has the next number
pub added_at : (p x : ℕ) (lines : List Terms) (line : Terms) (f : Coefficients) (k : ℕ) → k ≡ length lines → length f ≤ 256 → IsLineIn p x f line → IsAt p x (lines ++ line ∷ []) f k
added_at p x lines line f k at low is =
    let same : line_at (lines ++ line ∷ []) k ≡ line = get_or_at lines line [] [] k (sym at) in
    let long = length_push lines line in
    record { there = omega arith; low = low; line = subst (IsLineIn p x f) (sym same) is }

-- ---- what the first lines are

-- the line of a disequation with the polynomial h, whose inverse is the variable w
pub record IsUnequal (p x : ℕ) (first : List Terms) (h : Coefficients) (k w : ℕ) : Type 0 where
  pub there : k < length first
  pub low : length h ≤ 256
  pub sides : Terms
  pub same : SamePolynomial p sides (terms_in x h)
  pub line : line_at first k ≡ normal p (difference p (product sides (variable w)) (constant 1))

module _ (p x : ℕ) (more : 1 < p) (first : List Terms) where
  positive : 0 < p
  positive = omega arith

  -- ---- the steps of Euclid's algorithm

  module _ (polynomials : List Coefficients) (equal : (k : ℕ) (f : Coefficients) → slice_get polynomials k ≡ Some f → IsAt p x first f k) where
    pub euclid_closes : {F : Type 0} {f g : Coefficients} {steps : List (EuclidStep F)} (added : List Terms) (last next : ℕ) (tree rest : List CertLine)
        → LeadsTo p polynomials f steps g → AllByRecursion (IsNormalStep p) steps → IsAt p x (first ++ added) f last → next ≡ length (first ++ added)
        → ((later : List Terms) → IsAt p x (first ++ later) g (last_divisor last next (length steps)) → next + length steps ≡ length (first ++ later) → Closes limits p (first ++ later) tree rest)
        → Closes limits p (first ++ added) (euclid_lines x last next steps ++ tree) rest
    euclid_closes added last next tree rest nothing normal at number ends = ends added at (omega arith)
    euclid_closes added last next tree rest (next_step {f = f} {steps = steps} step g is leads) normal at number ends =
        let lines : List Terms = first ++ added in
        let h : Coefficients = is.polynomial in
        let other : IsAt p x lines h step.equation = kept_at p x first added h step.equation (equal step.equation h is.at) in
        let multiples : List Multiple = (last, written_in x step.a) ∷ (step.equation, written_in x step.b) ∷ [] in
        let line : Terms = combined p lines multiples in
        let keeps : combine_line limits p lines multiples ≡ Ok line = sum_of_two_keeps p x positive lines last step.equation step.a f step.b h g normal.0.0 normal.0.1 is.low_a is.low_b at other in
        let of_line : IsLineIn p x g line = sum_of_two_is p x positive lines last step.equation step.a f step.b h g normal.0.0 normal.0.1 is.low_a is.low_b at other is.combination in
        let assoc : lines ++ line ∷ [] ≡ first ++ (added ++ line ∷ []) = append_assoc first added (line ∷ []) in
        let new_at : IsAt p x (first ++ (added ++ line ∷ [])) g next = subst (λ ls. IsAt p x ls g next) assoc (added_at p x lines line g next number is.low of_line) in
        let new_number : next + 1 ≡ length (first ++ (added ++ line ∷ [])) = (let long = length_push lines line in let moved = ap length assoc in omega arith) in
        combine multiples line keeps
        (subst (λ ls. Closes limits p ls (euclid_lines x next (next + 1) steps ++ tree) rest) (sym assoc)
        (euclid_closes (added ++ line ∷ []) next (next + 1) tree rest leads normal.1 new_at new_number
        (λ later there long. ends later (subst (IsAt p x (first ++ later) _) (last_next last next (length steps)) there) (omega arith))))

  -- ---- a constant divisor

  pub constant_ends : (lines : List Terms) (g : Coefficients) (last : ℕ) (rest : List CertLine) → IsAt p x lines g last → IsNormalIn p g → length g ≡ 1 → Closes limits p lines (constant_lines last ++ rest) rest
  constant_ends lines [] last rest at is one = absurd (omega arith)
  constant_ends lines (c ∷ d ∷ g) last rest at is one = absurd (omega arith)
  constant_ends lines (c ∷ []) last rest at is one =
      let multiples : List Multiple = (last, (1, []) ∷ []) ∷ [] in
      let line : Terms = combined p lines multiples in
      let f : Terms = line_at lines last in
      let short : length f ≤ 1 = line_short p x positive (c ∷ []) f at.line in
      let count : products_in lines multiples ≡ 1 * length f + 0 = sum_by-cons (λ (n : Multiple). length n.1 * length (line_at lines n.0)) (last, (1, []) ∷ []) [] in
      let keeps : combine_line limits p lines multiples ≡ Ok line =
      sum_keeps p lines multiples (record { there = at.there; residues = (omega arith, tt); factor = (omega arith, tt); line = line_low p x positive (c ∷ []) f at.line 512 (omega arith) }, tt) (omega arith) in
      let same : SamePolynomial p line (constant c) = λ m.
      combined_same p lines multiples m
      ∙ ap (λ ts. coefficient p ts m) (append-nil (product ((1, []) ∷ []) f))
      ∙ product_with_one p f m ∙ at.line.same m in
      let some : 0 < c = (let other : c ≢ 0 = is.1 in omega arith) in
      combine multiples line keeps (close (constant_closes p c lines line some is.0 (combined_is_normal p lines multiples positive) same))

  -- ---- the roots of a divisor

  module _ (others : List Coefficients) (n : CaseNumbers) (same_variable : n.variable ≡ x) (above : x < n.first_inverse)
      (unequal : (k : ℕ) (h : Coefficients) → slice_get others k ≡ Some h → IsUnequal p x first h (n.first_line + k) (n.first_inverse + k)) where
    one_case : {F : Type 0} (added : List Terms) (root : ℕ) (case : RootCase F) (rest : List CertLine) → n.root_line ≡ length (first ++ added) → IsCase p others root case → IsNormalCase p case
        → Closes limits p ((first ++ added) ++ root_line p x root ∷ []) (root_case_lines p n case ++ rest) rest
    one_case added root case rest number is residues =
        let w : ℕ = n.first_inverse + case.disequation in
        let other : ℕ = n.first_line + case.disequation in
        let line : Terms = root_line p x root in
        let lines : List Terms = (first ++ added) ++ line ∷ [] in
        let h : Coefficients = is.polynomial in
        let un : IsUnequal p x first h other w = unequal case.disequation h is.at in
        let whole : lines ≡ first ++ (added ++ line ∷ []) = append_assoc first added (line ∷ []) in
        let long = length_push (first ++ added) line in
        let size : length lines ≡ length first + length (added ++ line ∷ []) = ap length whole ∙ length-append first (added ++ line ∷ []) in
        let there : n.root_line < length lines = omega arith in
        let other_there : other < length lines = (let inside : other < length first = un.there in omega arith) in
        let at_is : line_at lines n.root_line ≡ line = get_or_at (first ++ added) line [] [] n.root_line (sym number) in
        let other_is : line_at lines other ≡ normal p (difference p (product un.sides (variable w)) (constant 1)) =
        ap (λ ls. line_at ls other) whole ∙ get_or_append_left first (added ++ line ∷ []) [] other un.there ∙ un.line in
        let high : x < w = omega arith in
        subst (λ y. Closes limits p lines (Combine ((n.root_line, appended ((w, 1) ∷ []) (written_in y case.quotient)) ∷ (other, (p - 1, []) ∷ []) ∷ []) ∷ Close ∷ rest) rest) (sym same_variable)
        (combine ((n.root_line, appended ((w, 1) ∷ []) (written_in x case.quotient)) ∷ (other, (p - 1, []) ∷ []) ∷ []) (combined p lines ((n.root_line, appended ((w, 1) ∷ []) (written_in x case.quotient)) ∷ (other, (p - 1, []) ∷ []) ∷ []))
        (case_keeps p x w root more high case.quotient h residues is.low un.low is.division un.sides un.same lines n.root_line other there other_there at_is other_is)
        (close (case_closes p x w root more high case.quotient h residues is.low un.low is.division un.sides un.same lines n.root_line other there other_there at_is other_is)))

    all_cases : {F : Type 0} (added : List Terms) (roots : List ℕ) (cases : List (RootCase F)) (rest : List CertLine) → n.root_line ≡ length (first ++ added) → AreCases p others roots cases → AllByRecursion (IsNormalCase p) cases
        → CloseAll limits p (case_lines p (first ++ added) x roots) (all_case_lines p n cases ++ rest) rest
    all_cases added [] [] rest number are normal = no_cases
    all_cases added [] (c ∷ cs) rest number are normal = absurd are
    all_cases added (z ∷ zs) [] rest number are normal = absurd are
    all_cases added (z ∷ zs) (c ∷ cs) rest number are normal =
        each (one_case added z c (all_case_lines p n cs ++ rest) number are.0 normal.0) (all_cases added zs cs rest number are.1 normal.1)

    -- the product of the X - root is in the last line, and with no root it is 1
    split_ends : {F : Type 0} (added : List Terms) (roots : List ℕ) (cases : List (RootCase F)) (rest : List CertLine) (line : Terms) → IsLineIn p x (product_of_roots p roots) line
        → n.root_line ≡ length (first ++ (added ++ line ∷ [])) → All (λ z. z < p) roots → AreCases p others roots cases → AllByRecursion (IsNormalCase p) cases
        → Closes limits p (first ++ (added ++ line ∷ [])) (split_lines p n roots cases ++ rest) rest
    split_ends added [] cases rest line of_line number below are normal =
        close (ap (closes p) (sym (append_assoc first added (line ∷ []))) ∙ constant_closes p 1 (first ++ added) line (omega arith) more of_line.normal of_line.same)
    split_ends added (z ∷ zs) cases rest line of_line number below are normal =
        let lines : List Terms = first ++ (added ++ line ∷ []) in
        let whole : (first ++ added) ++ line ∷ [] ≡ lines = append_assoc first added (line ∷ []) in
        let k : ℕ = n.root_line - 1 in
        let long = length_push (first ++ added) line in
        let size = ap length whole in
        let at : k ≡ length (first ++ added) = omega arith in
        let here : line_at lines k ≡ line = ap (λ ls. line_at ls k) (sym whole) ∙ get_or_at (first ++ added) line [] [] k (sym at) in
        let in_x : IsLineIn p x (product_of_roots p (z ∷ zs)) (line_at lines k) = subst (IsLineIn p x (product_of_roots p (z ∷ zs))) (sym here) of_line in
        subst (λ y. Closes limits p lines (Split k y (z ∷ zs) ∷ (all_case_lines p n cases ++ rest)) rest) (sym same_variable)
        (split k x (z ∷ zs) (case_lines p lines x (z ∷ zs))
        (split_to p lines k x (z ∷ zs) (case_lines p lines x (z ∷ zs)) (record {
          there = omega arith;
          some = omega arith;
          residues = below;
          alone = line_alone p x positive (product_of_roots p (z ∷ zs)) (line_at lines k) in_x;
          product = line_coefficients p x positive (product_of_roots p (z ∷ zs)) (line_at lines k) in_x;
          each = refl;
        }))
        (all_cases (added ++ line ∷ []) (z ∷ zs) cases rest number are normal))

    pub roots_end : {F : Type 0} (added : List Terms) (g : Coefficients) (last next : ℕ) (roots : Roots F) (cases : List (RootCase F)) (rest : List CertLine)
        → IsAt p x (first ++ added) g last → next ≡ length (first ++ added) → n.root_line ≡ next + 2 → AreRefutedRoots p others g roots cases → AreNormalRoots p roots cases
        → Closes limits p (first ++ added) (roots_lines p last next n roots cases ++ rest) rest
    roots_end added g last next roots cases rest at number root_number are normal =
        let lines : List Terms = first ++ added in
        let steps : List Pair = roots.chain.steps in
        let f : Coefficients = coefficients_of (line_at lines last) in
        let same : SameUnivariate p f g = line_coefficients p x positive g (line_at lines last) at.line in
        let is_chain : IsChain p f steps = chain_alike p g f indeterminate (digits_of p) steps (λ k. sym (same k)) are.chain in
        let count : length steps ≡ pair_count p = chain_is_long p g indeterminate (digits_of p) steps are.chain in
        let begins : chain_line p lines last x (length steps) ≡ Ok f =
        chain_to p lines last x (length steps) f (record { there = at.there; alone = line_alone p x positive g (line_at lines last) at.line; long = count; line = refl }) in
        let low : length g ≤ 256 = at.low in
        let r : Coefficients = last_remainder indeterminate steps in
        let power : Terms = fermat_line p x r in
        let with_power : List Terms = lines ++ power ∷ [] in
        let whole : with_power ≡ first ++ (added ++ power ∷ []) = append_assoc first added (power ∷ []) in
        let power_at : IsAt p x with_power (without_x p r) next = added_at p x lines power (without_x p r) next number (let h = fermat_short p g steps are.some are.lower in omega arith) (fermat_is_line p x r positive) in
        let divisor_at : IsAt p x with_power g last = kept_at p x lines (power ∷ []) g last at in
        let short_a : length roots.a ≤ 256 = (let h = are.short.0 in omega arith) in
        let short_b : length roots.b ≤ 256 = (let h = are.short.1 in omega arith) in
        let multiples : List Multiple = (last, written_in x roots.a) ∷ (next, written_in x roots.b) ∷ [] in
        let line : Terms = combined p with_power multiples in
        let keeps : combine_line limits p with_power multiples ≡ Ok line =
        sum_of_two_keeps p x positive with_power last next roots.a g roots.b (without_x p r) (product_of_roots p roots.zeros) normal.a normal.b short_a short_b divisor_at power_at in
        let of_line : IsLineIn p x (product_of_roots p roots.zeros) line =
        sum_of_two_is p x positive with_power last next roots.a g roots.b (without_x p r) (product_of_roots p roots.zeros) normal.a normal.b short_a short_b divisor_at power_at are.identity in
        let after : List CertLine = sum_line x last roots.a next roots.b ∷ (split_lines p n roots.zeros cases ++ rest) in
        let all : with_power ++ line ∷ [] ≡ first ++ ((added ++ power ∷ []) ++ line ∷ []) = ap (λ ls. ls ++ line ∷ []) whole ∙ append_assoc first (added ++ power ∷ []) (line ∷ []) in
        let size : n.root_line ≡ length (first ++ ((added ++ power ∷ []) ++ line ∷ [])) =
        (let one = length_push lines power in let two = length_push with_power line in let moved = ap length all in omega arith) in
        let ends : Closes limits p (with_power ++ line ∷ []) (split_lines p n roots.zeros cases ++ rest) rest =
        subst (λ ls. Closes limits p ls (split_lines p n roots.zeros cases ++ rest) rest) (sym all)
        (split_ends (added ++ power ∷ []) roots.zeros cases rest line of_line size normal.residues are.each (recursion_from_All (IsNormalCase p) cases normal.quotients)) in
        subst (λ y. Closes limits p lines (Chain last y (length steps) ∷ ((map written_step steps ++ (sum_line y last roots.a next roots.b ∷ split_lines p n roots.zeros cases)) ++ rest)) rest) (sym same_variable)
        (chain last x (length steps) f steps begins
        (record { chain = is_chain; written = chain_written p g steps low are.lower normal.steps; front = append_assoc (map written_step steps) (sum_line x last roots.a next roots.b ∷ split_lines p n roots.zeros cases) rest })
        (combine multiples line keeps ends))
