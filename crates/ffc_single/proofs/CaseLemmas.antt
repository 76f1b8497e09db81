-- Disequations that are false at roots, and the roots' cases.
use Rattle.std.proofs.Common.{◌≡◌, ℕ, zero, suc, ◌-◌, ◌≤◌, List, [], ◌∷◌, ◌++◌, length, Some, All, refl, sym, ap, ◌∙◌, subst, arith, length-append}
use Rattle.std.specs.Prelude.{slice_get}
use Rattle.std.proofs.lemmas.List.Elements.{All-nil, All-cons}
use Rattle.std.proofs.lemmas.Option.{none-some, same_Some, get_or_from_slice_get, slice_get_within}
use Rattle.ffc_lemmatree.specs.declared.endings.RootCase.{RootCase}
use Rattle.ffc_lemmatree.specs.Roots.{IsCase, AreCases, IsPolynomialOf, ArePolynomialsOf}
use Rattle.ffc_term.specs.declared.node.Node.{Node}
use Rattle.ffc_uni.specs.Univariate.{Coefficients, SameUnivariate, times}
use Rattle.ffc_single.specs.declared.trials.Cases.{Cases as FoundCases}
use Rattle.ffc_single.specs.Outcomes.{ArePicked, AreCasesAt}
use Rattle.ffc_single.specs.Univariate.{IsFormOf, AreFormsOf}

-- ---- lists

there_still : {A : Type 0} (xs ys : List A) (k : ℕ) (x : A) → slice_get xs k ≡ Some x → slice_get (xs ++ ys) k ≡ Some x
there_still [] ys k x at = absurd (none-some x at)
there_still (y ∷ xs) ys zero x at = at
there_still (y ∷ xs) ys (suc k) x at = there_still xs ys k x at

at_end : {A : Type 0} (xs : List A) (x : A) (k : ℕ) → k ≡ length xs → slice_get (xs ++ x ∷ []) k ≡ Some x
at_end [] x zero is = refl
at_end [] x (suc k) is = absurd (omega arith)
at_end (y ∷ xs) x zero is = absurd (omega arith)
at_end (y ∷ xs) x (suc k) is = at_end xs x k (omega arith)

-- ---- what is picked

module _ (ids : List ℕ) (forms : List Coefficients) where
  picked_long : (picked : List ℕ) (others : List Coefficients) → ArePicked ids forms picked others → length picked ≡ length others
  picked_long [] [] are = refl
  picked_long [] (f ∷ others) are = absurd are
  picked_long (d ∷ picked) [] are = absurd are
  picked_long (d ∷ picked) (f ∷ others) are = ap suc (picked_long picked others are.1)

  picked_more : (picked : List ℕ) (others : List Coefficients) (k d : ℕ) (f : Coefficients) → ArePicked ids forms picked others → slice_get ids k ≡ Some d → slice_get forms k ≡ Some f
      → ArePicked ids forms (picked ++ d ∷ []) (others ++ f ∷ [])
  picked_more [] [] k d f are one two = ((k, one, two), tt)
  picked_more [] (g ∷ others) k d f are one two = absurd are
  picked_more (e ∷ picked) [] k d f are one two = absurd are
  picked_more (e ∷ picked) (g ∷ others) k d f are one two = (are.0, picked_more picked others k d f are.1 one two)

  -- what holds of all holds of what is picked
  pub picked_all : (P : ℕ → Type 0) (picked : List ℕ) (others : List Coefficients) → All P ids → ArePicked ids forms picked others → All P picked
  picked_all P [] [] each are = All-nil P
  picked_all P [] (f ∷ others) each are = absurd are
  picked_all P (d ∷ picked) [] each are = absurd are
  picked_all P (d ∷ picked) (f ∷ others) each are =
      let (k, one, two) = are.0 in
      All-cons P d picked (subst P (get_or_from_slice_get ids k d d one) (each k d (slice_get_within ids k d one))) (picked_all P picked others each are.1)

-- the polynomial at a place is that of the equality there
form_at : (p : ℕ) (ns : List Node) (x : ℕ) (ids : List ℕ) (fs : List Coefficients) (k d : ℕ) (f : Coefficients) → AreFormsOf p ns x ids fs → slice_get ids k ≡ Some d → slice_get fs k ≡ Some f → IsFormOf p ns x d f
form_at p ns x [] fs k d f are one two = absurd (none-some d one)
form_at p ns x (id ∷ ids) [] k d f are one two = absurd are
form_at p ns x (id ∷ ids) (g ∷ fs) zero d f are one two = subst (λ i. IsFormOf p ns x i f) (same_Some id d one) (subst (IsFormOf p ns x id) (same_Some g f two) are.0)
form_at p ns x (id ∷ ids) (g ∷ fs) (suc k) d f are one two = form_at p ns x ids fs k d f are.1 one two

-- ---- cases

module _ {F : Type 0} (p : ℕ) where
  cases_more : (others more : List Coefficients) (zeros : List ℕ) (cases : List (RootCase F)) → AreCases p others zeros cases → AreCases p (others ++ more) zeros cases
  cases_more others more [] [] are = tt
  cases_more others more [] (c ∷ cases) are = absurd are
  cases_more others more (z ∷ zeros) [] are = absurd are
  cases_more others more (z ∷ zeros) (c ∷ cases) are = (
    record { polynomial = are.0.polynomial; at = there_still others more c.disequation are.0.polynomial are.0.at; division = are.0.division; low = are.0.low },
    cases_more others more zeros cases are.1,
  )

  cases_push : (others : List Coefficients) (zeros : List ℕ) (cases : List (RootCase F)) (z : ℕ) (c : RootCase F) → AreCases p others zeros cases → IsCase p others z c → AreCases p others (zeros ++ z ∷ []) (cases ++ c ∷ [])
  cases_push others [] [] z c are is = (is, tt)
  cases_push others [] (d ∷ cases) z c are is = absurd are
  cases_push others (y ∷ zeros) [] z c are is = absurd are
  cases_push others (y ∷ zeros) (d ∷ cases) z c are is = (are.0, cases_push others zeros cases z c are.1 is)

  -- none yet
  pub no_cases : (ids : List ℕ) (forms : List Coefficients) (found : FoundCases F) → found.disequations.items ≡ [] → found.cases.items ≡ [] → AreCasesAt p [] ids forms found
  no_cases ids forms found one two = record {
    others = [];
    picked = subst (λ ds. ArePicked ids forms ds []) (sym one) tt;
    count = ap length one;
    cases = subst (λ (cs : List (RootCase F)). AreCases p [] [] cs) (sym two) tt;
  }

  -- one more root, at which a disequation is false
  pub one_more_case : (ids : List ℕ) (forms : List Coefficients) (zeros : List ℕ) (old new : FoundCases F) (z k d : ℕ) (f : Coefficients) (case : RootCase F) → AreCasesAt p zeros ids forms old
      → slice_get ids k ≡ Some d → slice_get forms k ≡ Some f → case.disequation ≡ length zeros → SameUnivariate p f (times case.quotient ((p - z) ∷ 1 ∷ [])) → length case.quotient ≤ 256
      → new.disequations.items ≡ old.disequations.items ++ d ∷ [] → new.cases.items ≡ old.cases.items ++ case ∷ [] → AreCasesAt p (zeros ++ z ∷ []) ids forms new
  one_more_case ids forms zeros old new z k d f case are one two number division low disequations cases =
      let others = are.others ++ f ∷ [] in
      let count = are.count in
      let long = picked_long ids forms old.disequations.items are.others are.picked in
      let is : IsCase p others z case = record { polynomial = f; at = at_end are.others f case.disequation (omega (arith, number, count, long)); division = division; low = low } in
      record {
        others = others;
        picked = subst (λ ds. ArePicked ids forms ds others) (sym disequations) (picked_more ids forms old.disequations.items are.others k d f are.picked one two);
        count = ap length disequations ∙ omega (arith, length-append old.disequations.items (d ∷ []), length-append zeros (z ∷ []), count);
        cases = subst (λ (cs : List (RootCase F)). AreCases p others (zeros ++ z ∷ []) cs) (sym cases)
            (cases_push others zeros old.cases.items z case (cases_more are.others (f ∷ []) zeros old.cases.items are.cases) is);
      }

-- ---- polynomials of a refutation

module _ (p : ℕ) (ns : List Node) (x : ℕ) where
  polynomial_of : (id : ℕ) (f : Coefficients) → IsFormOf p ns x id f → length f ≤ 256 → IsPolynomialOf ns p x id f
  polynomial_of id f form low = record { same = λ m. sym (form.same m); low = low }

  pub polynomials_of : (ids : List ℕ) (fs : List Coefficients) → AreFormsOf p ns x ids fs → All (λ f. length f ≤ 256) fs → ArePolynomialsOf ns p x ids fs
  polynomials_of [] [] are low = tt
  polynomials_of [] (f ∷ fs) are low = absurd are
  polynomials_of (id ∷ ids) [] are low = absurd are
  polynomials_of (id ∷ ids) (f ∷ fs) are low =
      (polynomial_of id f are.0 (low 0 f (omega arith)), polynomials_of ids fs are.1 (λ k d inside. low (suc k) d (omega arith)))

  pub picked_polynomials : (ids : List ℕ) (forms : List Coefficients) (picked : List ℕ) (others : List Coefficients) → AreFormsOf p ns x ids forms → All (λ f. length f ≤ 256) forms → ArePicked ids forms picked others
      → ArePolynomialsOf ns p x picked others
  picked_polynomials ids forms [] [] are low picks = tt
  picked_polynomials ids forms [] (f ∷ others) are low picks = absurd picks
  picked_polynomials ids forms (d ∷ picked) [] are low picks = absurd picks
  picked_polynomials ids forms (d ∷ picked) (f ∷ others) are low picks =
      let (k, one, two) = picks.0 in (
        polynomial_of d f (form_at p ns x ids forms k d f are one two) (subst (λ (g : Coefficients). length g ≤ 256) (get_or_from_slice_get forms k f f two) (low k f (slice_get_within forms k f two))),
        picked_polynomials ids forms picked others are low picks.1,
      )
