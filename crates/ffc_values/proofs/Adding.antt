-- The lines that add up multiples of a tree's lines are right, and their last one is the sum.
use Rattle.std.proofs.Common.{◌≡◌, ℕ, suc, ◌+◌, ◌*◌, ◌<◌, ◌≤◌, max, List, [], ◌∷◌, ◌++◌, length, map, All, Contains, fold, refl, sym, ap, ◌∙◌, subst, inl, inr, arith, append_assoc, length-append}
use Rattle.std.specs.List.{AllByRecursion}
use Rattle.std.proofs.lemmas.Bool.{cases_lt, cond-true, cond-false, lt-ltb, le-ltb}
use Rattle.std.proofs.lemmas.List.{append-nil, get_or_append_left, get_or_at, length_push}
use Rattle.std.proofs.lemmas.List.Elements.{All-from_recursion, recursion_from_All, All-nil, All-cons}
use Rattle.std.proofs.lemmas.List.Sums.{sum_by_push}
use Rattle.ffc_cert.specs.declared.entries.CertLine.{CertLine}
use Rattle.ffc_ring.specs.Monomial.{Monomial, degree, mono_mul}
use Rattle.ffc_ring.specs.Polynomial.{Terms, SamePolynomial, term_product, product, coefficient}
use Rattle.ffc_ring.proofs.PolynomialLemmas.{same_sums, product_with_one}
use Rattle.ffc_trees.specs.Normal.{degree_of, IsNormal}
use Rattle.ffc_trees.specs.NodePolynomials.{EachMonomial}
use Rattle.ffc_trees.specs.TreeLines.{limits, Multiple, line_at, sum_of_multiples, products_in, combined}
use Rattle.ffc_trees.specs.Rules.{IsSum}
use Rattle.ffc_trees.specs.Closing.{Closes}
use Rattle.ffc_trees.specs.Closing.Closes.{combine}
use Rattle.ffc_trees.proofs.NormalLemmas.{normal_same, normal_is_normal}
use Rattle.ffc_trees.proofs.RuleLemmas.{sum_to}
use Rattle.ffc_refutation.specs.Combinations.{Summand, sum_of, IsSummand}
use Rattle.ffc_refutation.specs.Written.{multiple_of, whole_line}
use Rattle.ffc_refutation.proofs.Monomials.{each_append, each_normal, each_times, normal_few, normal_low}
use Rattle.ffc_refutation.proofs.Sums.{all_last}
use Rattle.ffc_values.specs.Written.{sums_lines}

-- ---- lists

sum-append : (lines : List Terms) (ms ns : List Multiple) → sum_of_multiples lines (ms ++ ns) ≡ sum_of_multiples lines ms ++ sum_of_multiples lines ns
sum-append lines [] ns = refl
sum-append lines (m ∷ ms) ns = ap (λ ts. product m.1 (line_at lines m.0) ++ ts) (sum-append lines ms ns) ∙ sym (append_assoc (product m.1 (line_at lines m.0)) (sum_of_multiples lines ms) (sum_of_multiples lines ns))

-- of one multiple by a term
sum_of_one : (lines : List Terms) (s : Summand) → sum_of_multiples lines (multiple_of s ∷ []) ≡ term_product s.1.0 s.1.1 (line_at lines s.0)
sum_of_one lines s = append-nil (term_product s.1.0 s.1.1 (line_at lines s.0) ++ []) ∙ append-nil (term_product s.1.0 s.1.1 (line_at lines s.0))

greatest_within : {A : Type 0} (f : A → ℕ) (d s : ℕ) (xs : List A) → s ≤ d → AllByRecursion (λ x. f x ≤ d) xs → fold (λ a x. max a (f x)) s xs ≤ d
greatest_within f d s [] low all = low
greatest_within f d s (x ∷ xs) low all = greatest_within f d (max s (f x)) xs (omega (arith, all.0)) all.1

length-term_product : (c : ℕ) (m : Monomial) (ts : Terms) → length (term_product c m ts) ≡ length ts
length-term_product c m [] = refl
length-term_product c m (t ∷ ts) = ap suc (length-term_product c m ts)

among : (monomials : List Monomial) (c : ℕ) (m : Monomial) (ts : Terms) → AllByRecursion (λ (t : ℕ × Monomial). Contains monomials (mono_mul m t.1)) ts → EachMonomial (Contains monomials) (term_product c m ts)
among monomials c m [] all = tt
among monomials c m (t ∷ ts) all = (all.0, among monomials c m ts all.1)

-- ---- sums that are begun

module _ (p : ℕ) (least : 2 ≤ p) (first : List Terms) (monomials : List Monomial) (few_monomials : length monomials ≤ 65536) (low : All (λ m. degree m ≤ 1024) monomials) where
  record IsBegun (lines : List Terms) (pending : List Multiple) : Type 0 where
    there : AllByRecursion (λ m. m.0 < length lines) pending
    residues : AllByRecursion (λ m. All (λ t. t.0 < p) m.1) pending
    degrees : AllByRecursion (λ m. degree_of m.1 ≤ 1024) pending
    products : products_in lines pending ≤ 65536 + 8192 * length pending
    monomials_are : EachMonomial (Contains monomials) (sum_of_multiples lines pending)
    few : length pending ≤ 448

  is_sum : (lines : List Terms) (pending : List Multiple) → IsBegun lines pending → IsSum limits p lines pending (combined p lines pending)
  unfolding combined
  is_sum lines pending is = record {
    there = All-from_recursion (λ m. m.0 < length lines) pending is.there;
    products = (let products = is.products in let few = is.few in omega arith);
    written = greatest_within (λ m. degree_of m.1) 1024 0 pending (omega arith) is.degrees;
    degree = normal_low p 1024 (sum_of_multiples lines pending) monomials low is.monomials_are;
    terms = (let many = normal_few p (sum_of_multiples lines pending) monomials (omega arith) is.monomials_are in omega arith);
    residues = All-from_recursion (λ m. All (λ t. t.0 < p) m.1) pending is.residues;
    sum = refl;
  }

  -- one more multiple of a first line
  one_begun : (added : List Terms) (pending : List Multiple) (s : Summand) → IsSummand p first monomials s → length pending < 448 → IsBegun (first ++ added) pending → IsBegun (first ++ added) (pending ++ multiple_of s ∷ [])
  one_begun added pending s summand room is =
      let lines : List Terms = first ++ added in
      let line : Terms = line_at first s.0 in
      let same : line_at lines s.0 ≡ line = get_or_append_left first added [] s.0 summand.there in
      let short : length (line_at lines s.0) ≤ 8192 = subst (λ f. length f ≤ 8192) (sym same) summand.short in
      let more : length (first ++ added) ≡ length first + length added = length-append first added in
      let long : length (pending ++ multiple_of s ∷ []) ≡ length pending + 1 = length_push pending (multiple_of s) in
      let products : products_in lines (pending ++ multiple_of s ∷ []) ≡ products_in lines pending + 1 * length (line_at lines s.0) = sum_by_push (λ (m : Multiple). length m.1 * length (line_at lines m.0)) pending (multiple_of s) in
      let before : products_in lines pending ≤ 65536 + 8192 * length pending = is.products in
      let there : s.0 < length first = summand.there in
      record {
        there = all_last (λ m. m.0 < length lines) pending (multiple_of s) is.there (omega arith);
        residues = all_last (λ m. All (λ t. t.0 < p) m.1) pending (multiple_of s) is.residues (All-cons (λ t. t.0 < p) s.1 [] summand.residue (All-nil (λ t. t.0 < p)));
        degrees = all_last (λ m. degree_of m.1 ≤ 1024) pending (multiple_of s) is.degrees (let low_term = summand.low in omega arith);
        products = omega arith;
        monomials_are =
            subst (EachMonomial (Contains monomials)) (sym (sum-append lines pending (multiple_of s ∷ []) ∙ ap (λ ts. sum_of_multiples lines pending ++ ts) (sum_of_one lines s ∙ ap (term_product s.1.0 s.1.1) same)))
            (each_append (Contains monomials) (sum_of_multiples lines pending) (term_product s.1.0 s.1.1 line) is.monomials_are (among monomials s.1.0 s.1.1 line (recursion_from_All (λ (t : ℕ × Monomial). Contains monomials (mono_mul s.1.1 t.1)) line summand.among)));
        few = omega arith;
      }

  -- with the sum that was written
  whole_begun : (lines : List Terms) (pending : List Multiple) → IsBegun lines pending → IsBegun (lines ++ combined p lines pending ∷ []) (whole_line (length lines) ∷ [])
  unfolding combined
  whole_begun lines pending is =
      let line : Terms = combined p lines pending in
      let at : line_at (lines ++ line ∷ []) (length lines) ≡ line = get_or_at lines line [] [] (length lines) refl in
      let many : length line ≤ length monomials = normal_few p (sum_of_multiples lines pending) monomials (omega arith) is.monomials_are in
      let size : length (line_at (lines ++ line ∷ []) (length lines)) ≤ 65536 = subst (λ f. length f ≤ 65536) (sym at) (omega arith) in
      let long : length (lines ++ line ∷ []) ≡ length lines + 1 = length_push lines line in
      let each : EachMonomial (Contains monomials) (term_product 1 [] line) = each_times (Contains monomials) 1 line (each_normal (Contains monomials) p (sum_of_multiples lines pending) is.monomials_are) in
      record {
        there = (omega arith, tt);
        residues = (All-cons (λ t. t.0 < p) (1, []) [] (omega arith) (All-nil (λ t. t.0 < p)), tt);
        degrees = (omega arith, tt);
        products = omega arith;
        monomials_are =
            subst (EachMonomial (Contains monomials)) (sym (append-nil (term_product 1 [] (line_at (lines ++ line ∷ []) (length lines)) ++ []) ∙ append-nil (term_product 1 [] (line_at (lines ++ line ∷ []) (length lines))) ∙ ap (term_product 1 []) at)) each;
        few = omega arith;
      }

  -- ---- what is left to add

  module _ (total : Terms) where
    Left : List Terms → List Multiple → List Summand → Type 0
    Left lines pending ss = SamePolynomial p (sum_of_multiples lines pending ++ sum_of first ss) total

    one_left : (added : List Terms) (pending : List Multiple) (s : Summand) (ss : List Summand) → s.0 < length first → Left (first ++ added) pending (s ∷ ss) → Left (first ++ added) (pending ++ multiple_of s ∷ []) ss
    unfolding Left
    one_left added pending s ss there left =
        let lines : List Terms = first ++ added in
        let piece : Terms = term_product s.1.0 s.1.1 (line_at first s.0) in
        let same : sum_of_multiples lines (multiple_of s ∷ []) ≡ piece = sum_of_one lines s ∙ ap (term_product s.1.0 s.1.1) (get_or_append_left first added [] s.0 there) in
        subst (λ ts. SamePolynomial p ts total)
        (sym (ap (λ ts. ts ++ sum_of first ss) (sum-append lines pending (multiple_of s ∷ []) ∙ ap (λ ts. sum_of_multiples lines pending ++ ts) same) ∙ append_assoc (sum_of_multiples lines pending) piece (sum_of first ss)))
        left

    whole_left : (lines : List Terms) (pending : List Multiple) (ss : List Summand) → Left lines pending ss → Left (lines ++ combined p lines pending ∷ []) (whole_line (length lines) ∷ []) ss
    unfolding Left combined
    whole_left lines pending ss left =
        let sum : Terms = sum_of_multiples lines pending in
        let line : Terms = combined p lines pending in
        let at : line_at (lines ++ line ∷ []) (length lines) ≡ line = get_or_at lines line [] [] (length lines) refl in
        let is : sum_of_multiples (lines ++ line ∷ []) (whole_line (length lines) ∷ []) ≡ product ((1, []) ∷ []) line = append-nil (product ((1, []) ∷ []) (line_at (lines ++ line ∷ []) (length lines))) ∙ ap (product ((1, []) ∷ [])) at in
        let same : SamePolynomial p (product ((1, []) ∷ []) line) sum = λ m. product_with_one p line m ∙ normal_same p sum m in
        λ m. ap (λ ts. coefficient p (ts ++ sum_of first ss) m) is ∙ same_sums p (product ((1, []) ∷ []) line) sum (sum_of first ss) (sum_of first ss) same (λ n. refl) m ∙ left m

    nothing_left : (lines : List Terms) (pending : List Multiple) → Left lines pending [] → SamePolynomial p (combined p lines pending) total
    unfolding Left combined
    nothing_left lines pending left =
        let sum : Terms = sum_of_multiples lines pending in
        λ m. normal_same p sum m ∙ ap (λ ts. coefficient p ts m) (sym (append-nil sum)) ∙ left m

    combined_normal : (lines : List Terms) (pending : List Multiple) → IsNormal p (combined p lines pending)
    unfolding combined
    combined_normal lines pending = normal_is_normal p (sum_of_multiples lines pending) (omega arith)

    -- lines that are added by the rules, the last of which is the sum
    pub record Reaches (added : List Terms) (tree : List CertLine) : Type 0 where
      pub all : List Terms
      pub line : Terms
      pub count : length all + 1 ≡ length added + length tree
      pub normal : IsNormal p line
      pub same : SamePolynomial p line total
      pub closes : (after rest : List CertLine) → Closes limits p ((first ++ all) ++ line ∷ []) after rest → Closes limits p (first ++ added) (tree ++ after) rest

    reached : (ss : List Summand) (added : List Terms) (pending : List Multiple) (next : ℕ) → next ≡ length (first ++ added) → IsBegun (first ++ added) pending → AllByRecursion (IsSummand p first monomials) ss → Left (first ++ added) pending ss
        → Reaches added (sums_lines next pending (map multiple_of ss))
    reached [] added pending next at is all left =
        let lines : List Terms = first ++ added in
        let line : Terms = combined p lines pending in
        record {
          all = added;
          line = line;
          count = refl;
          normal = combined_normal lines pending;
          same = nothing_left lines pending left;
          closes = λ after rest go. combine pending line (sum_to limits p lines pending line (is_sum lines pending is)) go;
        }
    reached (s ∷ ss) added pending next at is all left =
        let lines : List Terms = first ++ added in
        let line : Terms = combined p lines pending in
        elim (cases_lt (length pending) 448) as (λ _. Reaches added (sums_lines next pending (multiple_of s ∷ map multiple_of ss))) [
          | inl room ↦
              subst (Reaches added) (sym (cond-true _ _ _ (lt-ltb (length pending) 448 room)))
              (reached ss added (pending ++ multiple_of s ∷ []) next at (one_begun added pending s all.0 room is) all.1 (one_left added pending s ss all.0.there left))
          | inr full ↦
              let more : lines ++ line ∷ [] ≡ first ++ (added ++ line ∷ []) = append_assoc first added (line ∷ []) in
              let tree : List CertLine = sums_lines (next + 1) (whole_line next ∷ multiple_of s ∷ []) (map multiple_of ss) in
              let begun : IsBegun (first ++ (added ++ line ∷ [])) (whole_line next ∷ []) = subst (λ n. IsBegun (first ++ (added ++ line ∷ [])) (whole_line n ∷ [])) (sym at) (subst (λ ls. IsBegun ls (whole_line (length lines) ∷ [])) more (whole_begun lines pending is)) in
              let rest_left : Left (first ++ (added ++ line ∷ [])) (whole_line next ∷ []) (s ∷ ss) = subst (λ n. Left (first ++ (added ++ line ∷ [])) (whole_line n ∷ []) (s ∷ ss)) (sym at) (subst (λ ls. Left ls (whole_line (length lines) ∷ []) (s ∷ ss)) more (whole_left lines pending (s ∷ ss) left)) in
              let number : next + 1 ≡ length (first ++ (added ++ line ∷ [])) = (let long = length_push lines line in let moved = ap length more in omega arith) in
              let later : Reaches (added ++ line ∷ []) tree =
              reached ss (added ++ line ∷ []) (whole_line next ∷ multiple_of s ∷ []) (next + 1) number (one_begun (added ++ line ∷ []) (whole_line next ∷ []) s all.0 (omega arith) begun) all.1 (one_left (added ++ line ∷ []) (whole_line next ∷ []) s ss all.0.there rest_left) in
              subst (Reaches added) (sym (cond-false _ _ _ (le-ltb (length pending) 448 full)))
              (record {
                all = later.all;
                line = later.line;
                count = (let long = length_push added line in let count = later.count in omega arith);
                normal = later.normal;
                same = later.same;
                closes = λ after rest go. combine pending line (sum_to limits p lines pending line (is_sum lines pending is)) (subst (λ ls. Closes limits p ls (tree ++ after) rest) (sym more) (later.closes after rest go));
              })
        ]

    -- the lines that add up multiples
    pub sum_reaches : (ss : List Summand) (next : ℕ) → next ≡ length first → AllByRecursion (IsSummand p first monomials) ss → SamePolynomial p (sum_of first ss) total → Reaches [] (sums_lines next [] (map multiple_of ss))
    unfolding Left
    sum_reaches ss next at all same =
        let begun : IsBegun (first ++ []) [] = record { there = tt; residues = tt; degrees = tt; products = omega arith; monomials_are = tt; few = omega arith } in
        reached ss [] [] next (at ∙ ap length (sym (append-nil first))) begun all same
