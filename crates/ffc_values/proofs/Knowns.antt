-- The sums of variables one after another: each adds the line of its variable, and the tree goes on.
use Rattle.std.proofs.Common.{◌≡◌, inl, inr, ℕ, ◌+◌, ◌-◌, ◌<◌, ◌≤◌, List, [], ◌∷◌, ◌++◌, length, take, Some, refl, sym, ap, ap₂, ◌∙◌, subst, arith, append_assoc, append-nil, length-append}
use Rattle.std.specs.List.{AllByRecursion}
use Rattle.std.proofs.lemmas.Bool.{cases_eq, cond-true, cond-false, eq-eqb, ne_eqb}
use Rattle.std.proofs.lemmas.List.{get_or_append_left, get_or_at, length_push}
use Rattle.std.proofs.lemmas.List.Elements.{recursion_from_All}
use Rattle.ffc_cert.specs.declared.entries.CertLine.{CertLine}
use Rattle.ffc_ring.specs.Monomial.{Monomial}
use Rattle.ffc_ring.specs.Polynomial.{Terms, SamePolynomial, difference, term_product}
use Rattle.ffc_ring.specs.Counting.{IsAmong}
use Rattle.ffc_trees.specs.Normal.{IsNormal}
use Rattle.ffc_trees.specs.NodePolynomials.{variable, constant}
use Rattle.ffc_trees.specs.TreeLines.{limits, line_at}
use Rattle.ffc_trees.specs.Closing.{Closes}
use Rattle.ffc_refutation.specs.declared.combination.Determined.{Determined}
use Rattle.ffc_refutation.specs.Combinations.{Summand, sum_of, IsSummand, IsAmong as AreAmong}
use Rattle.ffc_values.specs.declared.dividing.Known.{Known}
use Rattle.ffc_values.specs.Values.{AreKnown}
use Rattle.ffc_values.specs.Written.{known_sum, known_lines, knowns_of, known_of}
use Rattle.ffc_values.proofs.Adding.{sum_reaches}
use Rattle.ffc_values.proofs.Last.{IsLineAt, IsFound}

-- ---- lines that were there

kept_line : (lines more : List Terms) (k : ℕ) → k < length lines → line_at (lines ++ more) k ≡ line_at lines k
kept_line lines more k there = get_or_append_left lines more [] k there

kept_summand : (p : ℕ) (lines more : List Terms) (monomials : List Monomial) (s : Summand) → IsSummand p lines monomials s → IsSummand p (lines ++ more) monomials s
kept_summand p lines more monomials s is =
    let same : line_at (lines ++ more) s.0 ≡ line_at lines s.0 = kept_line lines more s.0 is.there in
    record {
      there = (let there = is.there in let long = length-append lines more in omega arith);
      residue = is.residue;
      monomial = is.monomial;
      powers = is.powers;
      low = is.low;
      short = subst (λ f. length f ≤ 8192) (sym same) is.short;
      among = subst (AreAmong monomials s.1.1) (sym same) is.among;
    }

kept_summands : (p : ℕ) (lines more : List Terms) (monomials : List Monomial) (ss : List Summand) → AllByRecursion (IsSummand p lines monomials) ss → AllByRecursion (IsSummand p (lines ++ more) monomials) ss
kept_summands p lines more monomials [] all = tt
kept_summands p lines more monomials (s ∷ ss) all = (kept_summand p lines more monomials s all.0, kept_summands p lines more monomials ss all.1)

kept_sum : (p : ℕ) (lines more : List Terms) (monomials : List Monomial) (ss : List Summand) → AllByRecursion (IsSummand p lines monomials) ss → sum_of (lines ++ more) ss ≡ sum_of lines ss
kept_sum p lines more monomials [] all = refl
kept_sum p lines more monomials (s ∷ ss) all = ap₂ (λ f ts. term_product s.1.0 s.1.1 f ++ ts) (kept_line lines more s.0 all.0.there) (kept_sum p lines more monomials ss all.1)

pub kept_line_at : (p : ℕ) (lines more : List Terms) (k : Known) → IsLineAt p lines k → IsLineAt p (lines ++ more) k
kept_line_at p lines more k is =
    let same : line_at (lines ++ more) k.line ≡ line_at lines k.line = kept_line lines more k.line is.there in
    record {
      there = (let there = is.there in let long = length-append lines more in omega arith);
      normal = subst (IsNormal p) (sym same) is.normal;
      same = subst (λ f. SamePolynomial p f (difference p (variable k.variable) (constant k.value))) (sym same) is.same;
    }

-- ---- one sum after another

module _ (p : ℕ) (least : 2 ≤ p) (base : List Terms) (nodes d : ℕ) (point : ℕ → ℕ) where
  -- lines that are added by the rules, with those of the variables
  pub record KnownsReach (lines : List Terms) (next : ℕ) (xs : List ℕ) (ds : List Determined) : Type 0 where
    pub more : List Terms
    pub count : length more ≡ length (known_lines next ds)
    pub facts : AllByRecursion (IsLineAt p (lines ++ more)) (knowns_of next xs ds)
    pub closes : (after rest : List CertLine) → Closes limits p (lines ++ more) after rest → Closes limits p lines (known_lines next ds ++ after) rest

  pub knowns_reach : (xs : List ℕ) (ds : List Determined) (added : List Terms) (next : ℕ) → next ≡ length (base ++ added) → AreKnown p base nodes d point xs ds → KnownsReach (base ++ added) next xs ds
  knowns_reach xs [] added next at known = record {
    more = [];
    count = refl;
    facts = tt;
    closes = λ after rest go. subst (λ ls. Closes limits p ls after rest) (append-nil (base ++ added)) go;
  }
  knowns_reach [] (k ∷ ks) added next at known = absurd known
  knowns_reach (x ∷ xs) (k ∷ ks) added next at known =
      let lines : List Terms = base ++ added in
      let is = known.0.determined in
      let ss : List Summand = k.summands.items in
      let sum : List CertLine = known_sum next k in
      let total : Terms = difference p (variable x) (constant k.value) in
      let each : AllByRecursion (IsSummand p base is.monomials) ss = recursion_from_All (IsSummand p base is.monomials) ss is.each in
      let same : SamePolynomial p (sum_of lines ss) total = subst (λ ts. SamePolynomial p ts total) (sym (kept_sum p base added is.monomials ss each)) is.sum in
      let one = sum_reaches p least lines is.monomials is.few is.low total ss next at (kept_summands p base added is.monomials ss each) same in
      let now : List Terms = (lines ++ one.all) ++ one.line ∷ [] in
      let moved : now ≡ base ++ (added ++ (one.all ++ one.line ∷ [])) = append_assoc lines one.all (one.line ∷ []) ∙ append_assoc base added (one.all ++ one.line ∷ []) in
      let long : length now ≡ length (lines ++ one.all) + 1 = length_push (lines ++ one.all) one.line in
      let size : length (lines ++ one.all) ≡ length lines + length one.all = length-append lines one.all in
      let next_at : next + length sum ≡ length (base ++ (added ++ (one.all ++ one.line ∷ []))) = (let same_length = ap length moved in let count = one.count in omega arith) in
      let number : ℕ = next + length sum - 1 in
      let place : number ≡ length (lines ++ one.all) = (let count = one.count in omega arith) in
      let here : line_at now number ≡ one.line = get_or_at (lines ++ one.all) one.line [] [] number (sym place) in
      let first : Known = record { variable = x; line = number; value = k.value } in
      let found : IsLineAt p now first = record { there = omega arith; normal = subst (IsNormal p) (sym here) one.normal; same = subst (λ f. SamePolynomial p f total) (sym here) one.same } in
      let later = knowns_reach xs ks (added ++ (one.all ++ one.line ∷ [])) (next + length sum) next_at known.1 in
      let last : (base ++ (added ++ (one.all ++ one.line ∷ []))) ++ later.more ≡ lines ++ ((one.all ++ one.line ∷ []) ++ later.more) =
      ap (λ ls. ls ++ later.more) (sym moved ∙ append_assoc lines one.all (one.line ∷ [])) ∙ append_assoc lines (one.all ++ one.line ∷ []) later.more in
      record {
        more = (one.all ++ one.line ∷ []) ++ later.more;
        count =
            (let parts = length-append (one.all ++ one.line ∷ []) later.more in let pushed = length_push one.all one.line in let tree = length-append sum (known_lines (next + length sum) ks) in
            let count = one.count in let rest = later.count in omega arith);
        facts = subst (λ ls. AllByRecursion (IsLineAt p ls) (first ∷ knowns_of (next + length sum) xs ks)) last (subst (λ ls. IsLineAt p (ls ++ later.more) first) moved (kept_line_at p now later.more first found), later.facts);
        closes = λ after rest go.
            subst (λ tree. Closes limits p lines tree rest) (sym (append_assoc sum (known_lines (next + length sum) ks) after))
            (subst (λ ls. Closes limits p ls (sum ++ (known_lines (next + length sum) ks ++ after)) rest) (append-nil lines)
            (one.closes (known_lines (next + length sum) ks ++ after) rest
            (subst (λ ls. Closes limits p ls (known_lines (next + length sum) ks ++ after) rest) (sym moved)
            (later.closes after rest (subst (λ ls. Closes limits p ls after rest) (sym last) go)))));
      }

-- ---- which variables are known

pub enough_variables : (p : ℕ) (lines : List Terms) (nodes d : ℕ) (point : ℕ → ℕ) (xs : List ℕ) (ds : List Determined) → AreKnown p lines nodes d point xs ds → length ds ≤ length xs
enough_variables p lines nodes d point xs [] known = omega arith
enough_variables p lines nodes d point [] (k ∷ ks) known = absurd known
enough_variables p lines nodes d point (x ∷ xs) (k ∷ ks) known = let rest = enough_variables p lines nodes d point xs ks known.1 in omega arith

module _ (p : ℕ) (base lines : List Terms) (nodes d : ℕ) (point : ℕ → ℕ) where
  here_or_later : (k : Known) (ks : List Known) (x : ℕ) → (k.variable ≡ x) → known_of (k ∷ ks) x ≡ Some k
  here_or_later k ks x same = cond-true _ _ _ (eq-eqb k.variable x same)

  pub known_found : (xs : List ℕ) (ds : List Determined) (next x : ℕ) → AreKnown p base nodes d point xs ds → AllByRecursion (IsLineAt p lines) (knowns_of next xs ds) → IsAmong (take (length ds) xs) x
      → IsFound p lines (knowns_of next xs ds) point nodes x
  known_found xs [] next x known facts among = absurd among
  known_found [] (k ∷ ks) next x known facts among = absurd known
  known_found (y ∷ xs) (k ∷ ks) next x known facts among =
      let number : ℕ = next + length (known_sum next k) in
      let first : Known = record { variable = y; line = number - 1; value = k.value } in
      let others : List Known = knowns_of number xs ks in
      elim (cases_eq y x) as (λ _. IsFound p lines (first ∷ others) point nodes x) [
        | inl same ↦ record {
          at = record { known = first; found = here_or_later first others x same; variable = same; value = ap point (sym same) ∙ known.0.value; line = facts.0.same };
          line = facts.0;
          below = subst (λ i. i < nodes) same known.0.below;
        }
        | inr other ↦
            let is = known_found xs ks number x known.1 facts.1 (later other among) in
            let same : known_of (first ∷ others) x ≡ known_of others x = cond-false _ _ _ (ne_eqb y x other) in
            record {
              at = record { known = is.at.known; found = same ∙ is.at.found; variable = is.at.variable; value = is.at.value; line = is.at.line };
              line = is.line;
              below = is.below;
            }
      ]
    where
      later : (y ≡ x → ⊥) → IsAmong (take (length (k ∷ ks)) (y ∷ xs)) x → IsAmong (take (length ks) xs) x
      later other is = elim is as (λ _. IsAmong (take (length ks) xs) x) [ inl same ↦ absurd (other (sym same)) | inr after ↦ after ]
