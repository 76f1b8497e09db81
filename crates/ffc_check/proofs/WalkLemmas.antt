-- A refutation line by line.
use Rattle.std.proofs.Common.{◌≡◌, ℕ, zero, suc, ◌+◌, ◌-◌, ◌<◌, ◌≤◌, Bool, cond, List, [], ◌∷◌, ◌++◌, length, get_or, drop, Option, Some, None, Result, Ok, Err, refl, sym, ap, ap₂, ◌∙◌, arith}
use Rattle.std.proofs.lemmas.List.{drop_more, drop-drop, length-drop}
use Rattle.ffc_cert.specs.declared.entries.CertLine.{CertLine}
use Rattle.ffc_clause.specs.Clauses.{Clause}
use Rattle.ffc_check.specs.declared.stop.CheckStop.{CheckStop}
use Rattle.ffc_check.specs.declared.stop.CheckStop.TheVariants as stops
use Rattle.ffc_rules.specs.Entries.{NodeCheck, Broken, Given, Limits, breaks, clause_given, ends_empty, lines_fault}
use Rattle.ffc_check.specs.Answers.{Names, Refuses}
use Rattle.ffc_check.specs.Giving.{IsGiven}

module _ (l : Limits) (c : NodeCheck) where
  -- the lines of a tree are passed
  skip : (clauses : List Clause) (line n : ℕ) (rest : List CertLine) → n ≤ length rest → lines_fault l c clauses line n rest ≡ lines_fault l c clauses (line + n) 0 (drop n rest)
  unfolding lines_fault
  skip clauses line zero rest few = ap (λ k. lines_fault l c clauses k 0 rest) (omega arith)
  skip clauses line (suc n) [] few = absurd (omega (arith, few))
  skip clauses line (suc n) (x ∷ rest) few = skip clauses (line + 1) n rest (omega (arith, few)) ∙ ap (λ k. lines_fault l c clauses k 0 (drop n rest)) (omega arith)

  -- what follows a line, by what it gives
  unfoldable pub after : List Clause → ℕ → List CertLine → Result Given Broken → Option Broken
  after clauses line rest (Err broken) = Some broken
  after clauses line rest (Ok given) = lines_fault l c (clauses ++ given.clause ∷ []) (line + 1) (length rest - length given.rest) rest

  pub step : (clauses : List Clause) (line : ℕ) (x : CertLine) (rest : List CertLine) (given : Result Given Broken) → clause_given l c clauses line x rest ≡ given → lines_fault l c clauses line 0 (x ∷ rest) ≡ after clauses line rest given
  unfolding lines_fault after
  step clauses line x rest given e =
      ap (λ (r : Result Given Broken). elim r as (λ _. Option Broken) [
        | Err broken ↦ Some broken
        | Ok found ↦ lines_fault l c (clauses ++ found.clause ∷ []) (line + 1) (length rest - length found.rest) rest
      ]) e ∙ by_cases given
    where
      by_cases : (r : Result Given Broken) → elim r as (λ _. Option Broken) [
        | Err broken ↦ Some broken
        | Ok found ↦ lines_fault l c (clauses ++ found.clause ∷ []) (line + 1) (length rest - length found.rest) rest
      ] ≡ after clauses line rest r
      by_cases (Err broken) = refl
      by_cases (Ok found) = refl

  module _ (clauses new : List Clause) (lines rest : List CertLine) (i line : ℕ) (inside : i < length lines) (x : CertLine) (is : x ≡ get_or lines i x) (left : rest ≡ drop (i + 1) lines) where
    begins : lines_fault l c clauses (line + i) 0 (drop i lines) ≡ lines_fault l c clauses (line + i) 0 (x ∷ rest)
    begins = ap (lines_fault l c clauses (line + i) 0) (drop_more lines i x inside ∙ ap₂ (λ y ys. y ∷ ys) (sym is) (sym left))

    -- a line gives a clause and takes its tree along
    pub goes_on : (used : ℕ) (given : Given) → clause_given l c clauses (line + i) x rest ≡ Ok given → IsGiven clauses new rest used given
        → lines_fault l c new (line + (i + (1 + used))) 0 (drop (i + (1 + used)) lines) ≡ lines_fault l c clauses (line + i) 0 (drop i lines)
    unfolding after
    goes_on used given e g =
        let few : length rest - length given.rest ≡ used = omega (arith, ap length g.taken.left, length-drop used rest, g.taken.few) in
        sym (begins ∙ step clauses (line + i) x rest (Ok given) e
        ∙ ap₂ (λ cs n. lines_fault l c cs (line + i + 1) n rest) (sym g.grown) few
        ∙ skip new (line + i + 1) used rest g.taken.few
        ∙ ap₂ (λ k ls. lines_fault l c new k 0 ls) (omega arith) (ap (drop used) left ∙ drop-drop used (i + 1) lines ∙ ap (λ k. drop k lines) (omega arith)))

    -- a line is broken
    pub is_broken : (stop : CheckStop) → Refuses stop (clause_given l c clauses (line + i) x rest) → Names stop (lines_fault l c clauses (line + i) 0 (drop i lines))
    unfolding after
    is_broken (stops.Broken b) e = begins ∙ step clauses (line + i) x rest (Err (breaks b.rule b.line)) e
    is_broken stops.Memory e = tt

  -- at the end
  pub at_end : (clauses : List Clause) (line : ℕ) (empty : Bool) → ends_empty clauses ≡ empty → lines_fault l c clauses line 0 [] ≡ cond empty None (Some (breaks 9 (line - 1)))
  unfolding lines_fault
  at_end clauses line empty e = ap (λ b. cond b None (Some (breaks 9 (line - 1)))) e
