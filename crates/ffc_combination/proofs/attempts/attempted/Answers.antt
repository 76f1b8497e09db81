use Rattle.std.proofs.Common.{◌≡◌, ◌*◌, ◌<◌, ◌≤◌, List, [], ℕ, length, get_or, Err, sym, ap, ap₂, ◌∙◌, subst, arith}
use Rattle.ffc_clause.specs.Clauses.{Literal}
use Rattle.ffc_macaulay.specs.Identities.{AreGenerators, AreLinesOf}
use Rattle.ffc_ring.specs.Polynomial.{Terms}
use Rattle.ffc_trees.specs.FirstLines.{first_lines}
use Rattle.ffc_combination.specs.Attempts.{HasSize}
use Rattle.ffc_combination.specs.Generators.{AreGeneratorsOf}
use Rattle.ffc_combination.proofs.AttemptLemmas.{unsized, units_are, lines_short, few_literals, are_generators, are_lines, bound_is, neither, some_at, some_rows, within_variables}
use Rattle.ffc_combination.proofs.attempts.attempted.Goals as goal

pub returns-in_default-clause-answer : goal.returns-in_default-clause-answer
returns-in_default-clause-answer g c =
    let p = g.F.Field.ORDER in
    let positive : 0 < p = omega (arith, g.met.F.Field.prime.least) in
    unsized p positive c.args.table.now c.args.choice.now c.requires.choice c.args.degree g.met.F.Field.prime.least c.in_default.ensures.none

pub returns-then-left-from-clause-answer : goal.returns-then-left-from-clause-answer
returns-then-left-from-clause-answer g c =
    let p = g.F.Field.ORDER in
    let ns = c.args.table.now in
    let d = c.args.degree in
    let x = c.args.choice.now in
    let vs = x.variables.items in
    let es = x.degrees.items in
    let m = c.in-Some.columns in
    let n = c.in-Some.rows in
    let s : HasSize d vs es m n = c.in-Some.ensures.some in
    let units = units_are d vs es m n s in
    let same : 2 * c.from.result * c.from-2.result ≡ 2 * n * m = ap₂ (λ a b. 2 * a * b) c.from.ensures c.from-2.ensures in
    omega (arith, units, same, c.if-left-from.true, c.left.ensures)

pub make-requires-clause-few : goal.make-requires-clause-few
make-requires-clause-few g c =
    let p = g.F.Field.ORDER in
    let ns = c.args.table.now in
    let d = c.args.degree in
    let x = c.args.choice.now in
    let vs = x.variables.items in
    let es = x.degrees.items in
    let m = c.in-Some.columns in
    let n = c.in-Some.rows in
    let s : HasSize d vs es m n = c.in-Some.ensures.some in
    let positive : 0 < p = omega (arith, g.met.F.Field.prime.least) in
    let few = few_literals p positive ns x c.requires.choice d m n s in
    omega (arith, few, ap length c.as_slice.ensures.value)

pub make-requires-clause-short : goal.make-requires-clause-short
make-requires-clause-short g c =
    let p = g.F.Field.ORDER in
    let ns = c.args.table.now in
    let d = c.args.degree in
    let x = c.args.choice.now in
    let vs = x.variables.items in
    let es = x.degrees.items in
    let m = c.in-Some.columns in
    let n = c.in-Some.rows in
    let s : HasSize d vs es m n = c.in-Some.ensures.some in
    let positive : 0 < p = omega (arith, g.met.F.Field.prime.least) in
    subst (λ (ls : List Literal). (i : ℕ) → i < length ls → length (get_or (first_lines ns p ls) i []) ≤ 131072) (sym c.as_slice.ensures.value) (lines_short p positive ns x c.requires.choice d m n s)

pub looked_for-requires-clause-rises : goal.looked_for-requires-clause-rises
looked_for-requires-clause-rises g c = c.requires.choice.rises

pub looked_for-requires-clause-constants : goal.looked_for-requires-clause-constants
looked_for-requires-clause-constants g c =
    some_at c.args.degree c.args.choice.now (λ count. count ≤ length c.args.choice.now.variables.items)
    (within_variables c.args.choice.now.constants (length c.args.choice.now.variables.items) c.requires.choice.constants)

pub looked_for-requires-clause-generators : goal.looked_for-requires-clause-generators
looked_for-requires-clause-generators g c =
    let p = g.F.Field.ORDER in
    let ns = c.args.table.now in
    let d = c.args.degree in
    let x = c.args.choice.now in
    let vs = x.variables.items in
    let es = x.degrees.items in
    let m = c.in-Some.columns in
    let n = c.in-Some.rows in
    let s : HasSize d vs es m n = c.in-Some.ensures.some in
    let positive : 0 < p = omega (arith, g.met.F.Field.prime.least) in
    let generators : List Terms = c.make.new.generators.items in
    let are : AreGeneratorsOf p (first_lines ns p x.literals.items) generators = subst (λ (ls : List Literal). AreGeneratorsOf p (first_lines ns p ls) generators) c.as_slice.ensures.value c.in_ok-make.ensures in
    subst (λ (gs : List Terms). AreGenerators d vs es gs) (sym c.as_slice-2.ensures.value) (are_generators p positive ns x c.requires.choice generators are d m n s)

pub looked_for-requires-clause-columns : goal.looked_for-requires-clause-columns
looked_for-requires-clause-columns g c = let s = c.in-Some.ensures.some in omega (arith, s.columns_is, s.few_columns)

pub looked_for-requires-clause-rows : goal.looked_for-requires-clause-rows
looked_for-requires-clause-rows g c = let s = c.in-Some.ensures.some in omega (arith, s.rows_is, s.few_rows)

pub looked_for-requires-clause-some : goal.looked_for-requires-clause-some
looked_for-requires-clause-some g c =
    let p = g.F.Field.ORDER in
    let ns = c.args.table.now in
    let d = c.args.degree in
    let x = c.args.choice.now in
    let vs = x.variables.items in
    let es = x.degrees.items in
    let m = c.in-Some.columns in
    let n = c.in-Some.rows in
    let s : HasSize d vs es m n = c.in-Some.ensures.some in
    some_rows d vs es m n s

pub unreachable-requires : goal.unreachable-requires
unreachable-requires g c =
    let p = g.F.Field.ORDER in
    let ns = c.args.table.now in
    let d = c.args.degree in
    let x = c.args.choice.now in
    let vs = x.variables.items in
    let es = x.degrees.items in
    let m = c.in-Some.columns in
    let n = c.in-Some.rows in
    let s : HasSize d vs es m n = c.in-Some.ensures.some in
    let same : 2 * n * m ≡ 2 * c.from.result * c.from-2.result = ap₂ (λ a b. 2 * a * b) (sym c.from.ensures) (sym c.from-2.ensures) in
    let spent = c.looked_for.ensures.units.units.spent_only (c.in-Err-Spent.is ∙ ap Err c.in-Err-Spent.field-0-is) in
    omega (arith, spent, bound_is d vs es m n s, units_are d vs es m n s, same, c.if-left-from.false, c.left.ensures)

pub returns-in-Ok-Identity-clause-answer : goal.returns-in-Ok-Identity-clause-answer
returns-in-Ok-Identity-clause-answer g c =
    let p = g.F.Field.ORDER in
    let ns = c.args.table.now in
    let d = c.args.degree in
    let x = c.args.choice.now in
    let vs = x.variables.items in
    let es = x.degrees.items in
    let m = c.in-Some.columns in
    let n = c.in-Some.rows in
    let s : HasSize d vs es m n = c.in-Some.ensures.some in
    let positive : 0 < p = omega (arith, g.met.F.Field.prime.least) in
    let generators : List Terms = c.make.new.generators.items in
    let are : AreGeneratorsOf p (first_lines ns p x.literals.items) generators = subst (λ (ls : List Literal). AreGeneratorsOf p (first_lines ns p ls) generators) c.as_slice.ensures.value c.in_ok-make.ensures in
    let lines_are : AreLinesOf p c.as_slice-2.result.now (first_lines ns p x.literals.items) = subst (λ (gs : List Terms). AreLinesOf p gs (first_lines ns p x.literals.items)) (sym c.as_slice-2.ensures.value) (are_lines p positive ns x c.requires.choice generators are) in
    let found = rw c.in-Ok-Identity.field-0-is at c.in-Ok-Identity.ensures.answer (first_lines ns p x.literals.items) lines_are in
    record {
      few_literals = few_literals p positive ns x c.requires.choice d m n s;
      few_summands = found.1;
      constant_sum = found.0;
    }

pub returns-in-Ok-Values-clause-answer : goal.returns-in-Ok-Values-clause-answer
returns-in-Ok-Values-clause-answer g c =
    let p = g.F.Field.ORDER in
    let ns = c.args.table.now in
    let d = c.args.degree in
    let x = c.args.choice.now in
    let vs = x.variables.items in
    let es = x.degrees.items in
    let m = c.in-Some.columns in
    let n = c.in-Some.rows in
    let s : HasSize d vs es m n = c.in-Some.ensures.some in
    let positive : 0 < p = omega (arith, g.met.F.Field.prime.least) in
    let generators : List Terms = c.make.new.generators.items in
    let are : AreGeneratorsOf p (first_lines ns p x.literals.items) generators = subst (λ (ls : List Literal). AreGeneratorsOf p (first_lines ns p ls) generators) c.as_slice.ensures.value c.in_ok-make.ensures in
    let lines_are : AreLinesOf p c.as_slice-2.result.now (first_lines ns p x.literals.items) = subst (λ (gs : List Terms). AreLinesOf p gs (first_lines ns p x.literals.items)) (sym c.as_slice-2.ensures.value) (are_lines p positive ns x c.requires.choice generators are) in
    let found = rw c.in-Ok-Values.field-0-is at c.in-Ok-Values.ensures.answer (first_lines ns p x.literals.items) lines_are in
    record {
      low = s.low;
      few_columns = omega (arith, s.columns_is, s.few_columns);
      few_literals = few_literals p positive ns x c.requires.choice d m n s;
      determined = found;
    }

pub returns-in-Ok-Values-clause-trial : goal.returns-in-Ok-Values-clause-trial
returns-in-Ok-Values-clause-trial g c =
    let p = g.F.Field.ORDER in
    let ns = c.args.table.now in
    let d = c.args.degree in
    let x = c.args.choice.now in
    let vs = x.variables.items in
    let es = x.degrees.items in
    let m = c.in-Some.columns in
    let n = c.in-Some.rows in
    let s : HasSize d vs es m n = c.in-Some.ensures.some in
    let one = rw c.in-Ok-Values.field-0-is at c.in-Ok-Values.ensures.units.trial in
    let same : 2 * n * m ≡ 2 * c.from.result * c.from-2.result = ap₂ (λ a b. 2 * a * b) (sym c.from.ensures) (sym c.from-2.ensures) in
    let takes = c.looked_for.ensures.units.units.takes in
    (omega (arith, one, bound_is d vs es m n s), omega (arith, one, bound_is d vs es m n s, units_are d vs es m n s, same, c.if-left-from.false, c.left.ensures, takes.same_budget))

pub returns-in-Ok-Neither-clause-answer : goal.returns-in-Ok-Neither-clause-answer
returns-in-Ok-Neither-clause-answer g c =
    let p = g.F.Field.ORDER in
    let ns = c.args.table.now in
    let d = c.args.degree in
    let x = c.args.choice.now in
    let vs = x.variables.items in
    let es = x.degrees.items in
    let m = c.in-Some.columns in
    let n = c.in-Some.rows in
    let s : HasSize d vs es m n = c.in-Some.ensures.some in
    let positive : 0 < p = omega (arith, g.met.F.Field.prime.least) in
    let generators : List Terms = c.make.new.generators.items in
    let are : AreGeneratorsOf p (first_lines ns p x.literals.items) generators = subst (λ (ls : List Literal). AreGeneratorsOf p (first_lines ns p ls) generators) c.as_slice.ensures.value c.in_ok-make.ensures in
    let lines_are : AreLinesOf p c.as_slice-2.result.now (first_lines ns p x.literals.items) = subst (λ (gs : List Terms). AreLinesOf p gs (first_lines ns p x.literals.items)) (sym c.as_slice-2.ensures.value) (are_lines p positive ns x c.requires.choice generators are) in
    let found = rw c.in-Ok-Neither.field-0-is at c.in-Ok-Neither.ensures.answer (first_lines ns p x.literals.items) lines_are in
    neither p positive ns x c.requires.choice d found.0 found.1

pub returns-in-Ok-Identity-clause-units : goal.returns-in-Ok-Identity-clause-units
returns-in-Ok-Identity-clause-units g c =
    let p = g.F.Field.ORDER in
    let ns = c.args.table.now in
    let d = c.args.degree in
    let x = c.args.choice.now in
    let vs = x.variables.items in
    let es = x.degrees.items in
    let m = c.in-Some.columns in
    let n = c.in-Some.rows in
    let s : HasSize d vs es m n = c.in-Some.ensures.some in
    let units = c.looked_for.ensures.units.units in
    record { takes = units.takes; within = omega (arith, units.within, bound_is d vs es m n s) }

pub returns-in-Ok-Values-clause-units : goal.returns-in-Ok-Values-clause-units
returns-in-Ok-Values-clause-units g c =
    let p = g.F.Field.ORDER in
    let ns = c.args.table.now in
    let d = c.args.degree in
    let x = c.args.choice.now in
    let vs = x.variables.items in
    let es = x.degrees.items in
    let m = c.in-Some.columns in
    let n = c.in-Some.rows in
    let s : HasSize d vs es m n = c.in-Some.ensures.some in
    let units = c.looked_for.ensures.units.units in
    record { takes = units.takes; within = omega (arith, units.within, bound_is d vs es m n s) }

pub returns-in-Ok-Neither-clause-units : goal.returns-in-Ok-Neither-clause-units
returns-in-Ok-Neither-clause-units g c =
    let p = g.F.Field.ORDER in
    let ns = c.args.table.now in
    let d = c.args.degree in
    let x = c.args.choice.now in
    let vs = x.variables.items in
    let es = x.degrees.items in
    let m = c.in-Some.columns in
    let n = c.in-Some.rows in
    let s : HasSize d vs es m n = c.in-Some.ensures.some in
    let units = c.looked_for.ensures.units.units in
    record { takes = units.takes; within = omega (arith, units.within, bound_is d vs es m n s) }

pub returns-in-Err-Memory-clause-units : goal.returns-in-Err-Memory-clause-units
returns-in-Err-Memory-clause-units g c =
    let p = g.F.Field.ORDER in
    let ns = c.args.table.now in
    let d = c.args.degree in
    let x = c.args.choice.now in
    let vs = x.variables.items in
    let es = x.degrees.items in
    let m = c.in-Some.columns in
    let n = c.in-Some.rows in
    let s : HasSize d vs es m n = c.in-Some.ensures.some in
    let units = c.looked_for.ensures.units.units in
    record { takes = units.takes; within = omega (arith, units.within, bound_is d vs es m n s) }
