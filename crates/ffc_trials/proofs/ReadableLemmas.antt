-- Going over the parts of an entry: lists of parts that are in range, variables that increase, and lines in their order.
use Rattle.std.proofs.Common.{◌≡◌, ℕ, ◌+◌, ◌-◌, ◌<◌, ◌≤◌, ◌==◌, ◌&&◌, nat_lt, Bool, true, false, cond, List, [], ◌∷◌, length, get_or, drop, Option, Some, None, refl, sym, ap, subst, arith}
use Rattle.std.specs.List.{AllByRecursion}
use Rattle.std.proofs.lemmas.List.{drop_more}
use Rattle.std.proofs.lemmas.Bool.Decides.{nat_tests}
use Rattle.ffc_cert.specs.declared.entries.CertLine.{CertLine}
use Rattle.ffc_cert.specs.declared.entries.CertLine.TheVariants.{Assume, Scheme, Hinted, Lemma, Combine, Bits, Chain, Step, Split, Values, Close}
use Rattle.ffc_cert.specs.Ranges.{VariablesIncrease, Increase}
use Rattle.ffc_cert.specs.Reading.{awaited_after, is_whole}
use Rattle.ffc_cert.specs.Spelling.{is_clause}
use Rattle.ffc_cert.proofs.GrammarLemmas.{awaiting, Completes, AreCounted, clauses_shape}
use Rattle.ffc_trials.specs.declared.readable.Open.{Open}
use Rattle.ffc_trials.specs.Opened.{opened, opened_by_clause, opened_by_step, opened_by_tree}

-- one more element of a list has a property
pub one_more : {A : Type 0} (P : A → Type 0) (xs : List A) (i : ℕ) (d : A) → i < length xs → P (get_or xs i d)
    → (AllByRecursion P (drop i xs) → AllByRecursion P xs) → AllByRecursion P (drop (i + 1) xs) → AllByRecursion P xs
one_more P xs i d inside here so_far rest = so_far (subst (AllByRecursion P) (sym (drop_more xs i d inside)) (here, rest))

-- Variables

-- each variable is above the one before it, and the first is not below a number
abbrev pub IncreaseFrom : ℕ → List (ℕ × ℕ) → Type 0
IncreaseFrom least [] = Unit {0}
IncreaseFrom least (p ∷ powers) = (least ≤ p.0) × IncreaseFrom (p.0 + 1) powers

all_above : (least bound : ℕ) (powers : List (ℕ × ℕ)) → bound < least → IncreaseFrom least powers → AllByRecursion (λ q. bound < q.0) powers
all_above least bound [] below from = tt
all_above least bound (p ∷ powers) below from = (let first = from.0 in omega arith, all_above (p.0 + 1) bound powers (let first = from.0 in omega arith) from.1)

pub increase : (least : ℕ) (powers : List (ℕ × ℕ)) → IncreaseFrom least powers → VariablesIncrease powers
increase least [] from = tt
increase least (p ∷ powers) from = (all_above (p.0 + 1) p.0 powers (omega arith) from.1, increase (p.0 + 1) powers from.1)

-- the same of numbers
abbrev pub NumbersFrom : ℕ → List ℕ → Type 0
NumbersFrom least [] = Unit {0}
NumbersFrom least (x ∷ xs) = (least ≤ x) × NumbersFrom (x + 1) xs

numbers_above : (least bound : ℕ) (xs : List ℕ) → bound < least → NumbersFrom least xs → AllByRecursion (λ y. bound < y) xs
numbers_above least bound [] below from = tt
numbers_above least bound (x ∷ xs) below from = (let first = from.0 in omega arith, numbers_above (x + 1) bound xs (let first = from.0 in omega arith) from.1)

pub numbers_increase : (least : ℕ) (xs : List ℕ) → NumbersFrom least xs → Increase xs
numbers_increase least [] from = tt
numbers_increase least (x ∷ xs) from = (numbers_above (x + 1) x xs (omega arith) from.1, numbers_increase (x + 1) xs from.1)

-- Lines in their order

chosen : {A : Type 0} (b : Bool) (x y : A) → ◌≡◌ {A = Option A} (cond b (Some x) None) (Some y) → (b ≡ true) × (x ≡ y)
chosen true x y e = (refl, cc)
chosen false x y e = absurd (cc)

both : (a b : Bool) → (a && b) ≡ true → (a ≡ true) × (b ≡ true)
both true b e = (refl, e)
both false b e = absurd (cc)

and_false : (b : Bool) → (b && false) ≡ false
and_false true = refl
and_false false = refl

is_zero : (n : ℕ) → (n == 0) ≡ true → n ≡ 0
is_zero n e = grind (arith, nat_tests)

is_more : (n : ℕ) → nat_lt 0 n ≡ true → 0 < n
is_more n e = grind (arith, nat_tests)

not_zero : (n : ℕ) → 0 < n → (n == 0) ≡ false
not_zero n some = grind (arith, nat_tests)

clause_awaited : (c t s : ℕ) → is_whole (awaiting (c + 1) t s) ≡ false
unfolding is_whole
clause_awaited c t s = rw (not_zero (c + 1) (omega arith)) refl

tree_awaited : (c t s : ℕ) → 0 < t → is_whole (awaiting c t s) ≡ false
unfolding is_whole
tree_awaited c t s some = rw (not_zero t some, and_false (c == 0)) refl

step_awaited : (c t s : ℕ) → 0 < s → is_whole (awaiting c t s) ≡ false
unfolding is_whole
step_awaited c t s some = rw (not_zero s some) (and_false (c == 0 && t == 0))

moved : (c c' t t' s s' : ℕ) (lines : List CertLine) → c' ≡ c → t' ≡ t → s' ≡ s → Completes (awaiting c t s) lines → Completes (awaiting c' t' s') lines
moved c c' t t' s s' lines ec et es h = subst (λ n. Completes (awaiting n t' s') lines) (sym ec) (subst (λ n. Completes (awaiting c n s') lines) (sym et) (subst (λ n. Completes (awaiting c t n) lines) (sym es) h))

-- what a line needs before it, by its kind
record AfterClause (o next : Open) (trees : ℕ) : Type 0 where
  no_steps : o.steps ≡ 0
  no_trees : o.trees ≡ 0
  new_trees : next.trees ≡ trees
  new_steps : next.steps ≡ 0

after_clause : (o next : Open) (trees : ℕ) → opened_by_clause o trees ≡ Some next → AfterClause o next trees
after_clause o next trees e =
    let (test, is) = chosen (o.steps == 0 && o.trees == 0) (record { trees = trees; steps = 0 }) next e in
    let (steps, none) = both (o.steps == 0) (o.trees == 0) test in
    record { no_steps = is_zero o.steps steps; no_trees = is_zero o.trees none; new_trees = sym (ap (λ (p : Open). p.trees) is); new_steps = sym (ap (λ (p : Open). p.steps) is) }

record AfterTree (o next : Open) (trees steps : ℕ) : Type 0 where
  no_steps : o.steps ≡ 0
  some_trees : 0 < o.trees
  new_trees : next.trees ≡ o.trees - 1 + trees
  new_steps : next.steps ≡ steps

after_tree : (o next : Open) (trees steps : ℕ) → opened_by_tree o trees steps ≡ Some next → AfterTree o next trees steps
after_tree o next trees steps e =
    let (test, is) = chosen (o.steps == 0 && nat_lt 0 o.trees) (record { trees = o.trees - 1 + trees; steps = steps }) next e in
    let (none, some) = both (o.steps == 0) (nat_lt 0 o.trees) test in
    record { no_steps = is_zero o.steps none; some_trees = is_more o.trees some; new_trees = sym (ap (λ (p : Open). p.trees) is); new_steps = sym (ap (λ (p : Open). p.steps) is) }

record AfterStep (o next : Open) : Type 0 where
  some_steps : 0 < o.steps
  same_trees : next.trees ≡ o.trees
  new_steps : next.steps ≡ o.steps - 1

after_step : (o next : Open) → opened_by_step o ≡ Some next → AfterStep o next
after_step o next e =
    let (some, is) = chosen (nat_lt 0 o.steps) (record { trees = o.trees; steps = o.steps - 1 }) next e in
    record { some_steps = is_more o.steps some; same_trees = sym (ap (λ (p : Open). p.trees) is); new_steps = sym (ap (λ (p : Open). p.steps) is) }

-- lines that complete what is to come after a line complete, with it, what is to come before it
leads : (o next : Open) (x : CertLine) (n : ℕ) (rest : List CertLine) → opened o x ≡ Some next → Completes (awaiting n next.trees next.steps) rest
    → Completes (awaiting (cond (is_clause x) (n + 1) n) o.trees o.steps) (x ∷ rest)
unfolding is_clause awaited_after
leads o next (Assume k) n rest e h =
    let a = after_clause o next 0 e in
    (clause_awaited n o.trees o.steps, ((a.no_steps, a.no_trees), moved n (n + 1 - 1) next.trees o.trees next.steps o.steps rest (omega arith) (omega arith) (omega arith) h))
leads o next (Scheme node scheme index) n rest e h =
    let a = after_clause o next 0 e in
    (clause_awaited n o.trees o.steps, ((a.no_steps, a.no_trees), moved n (n + 1 - 1) next.trees o.trees next.steps o.steps rest (omega arith) (omega arith) (omega arith) h))
leads o next (Hinted lits hints) n rest e h =
    let a = after_clause o next 0 e in
    (clause_awaited n o.trees o.steps, ((a.no_steps, a.no_trees), moved n (n + 1 - 1) next.trees o.trees next.steps o.steps rest (omega arith) (omega arith) (omega arith) h))
leads o next (Lemma order lits) n rest e h =
    let a = after_clause o next 1 e in
    (clause_awaited n o.trees o.steps, ((a.no_steps, a.no_trees), moved n (n + 1 - 1) next.trees 1 next.steps 0 rest (omega arith) (omega arith) (omega arith) h))
leads o next (Combine multiples) n rest e h =
    let a = after_tree o next 1 0 e in
    (tree_awaited n o.trees o.steps a.some_trees, ((a.no_steps, a.some_trees), moved n n next.trees o.trees next.steps o.steps rest refl (omega arith) (omega arith) h))
leads o next (Bits line chosen polynomial bits) n rest e h =
    let a = after_tree o next 1 0 e in
    (tree_awaited n o.trees o.steps a.some_trees, ((a.no_steps, a.some_trees), moved n n next.trees o.trees next.steps o.steps rest refl (omega arith) (omega arith) h))
leads o next (Chain line variable steps) n rest e h =
    let a = after_tree o next 1 steps e in
    (tree_awaited n o.trees o.steps a.some_trees, ((a.no_steps, a.some_trees), moved n n next.trees o.trees next.steps steps rest refl (omega arith) (omega arith) h))
leads o next (Step quotient remainder) n rest e h =
    let a = after_step o next e in
    (step_awaited n o.trees o.steps a.some_steps, (a.some_steps, moved n n next.trees o.trees next.steps (o.steps - 1) rest refl (omega arith) (omega arith) h))
leads o next (Split line variable zeros) n rest e h =
    let a = after_tree o next (length zeros) 0 e in
    (tree_awaited n o.trees o.steps a.some_trees, ((a.no_steps, a.some_trees), moved n n next.trees (o.trees - 1 + length zeros) next.steps o.steps rest refl (omega arith) (omega arith) h))
leads o next (Values variable trees) n rest e h =
    let a = after_tree o next trees 0 e in
    (tree_awaited n o.trees o.steps a.some_trees, ((a.no_steps, a.some_trees), moved n n next.trees (o.trees - 1 + trees) next.steps o.steps rest refl (omega arith) (omega arith) h))
leads o next Close n rest e h =
    let a = after_tree o next 0 0 e in
    (tree_awaited n o.trees o.steps a.some_trees, ((a.no_steps, a.some_trees), moved n n next.trees (o.trees - 1) next.steps o.steps rest refl (omega arith) (omega arith) h))

-- so many clauses were read, and the lines from one on complete what is to come: then all lines are clauses in their order
abbrev pub ReadSoFar : Open → ℕ → List CertLine → List CertLine → Type 0
ReadSoFar o clauses lines rest = (n : ℕ) → Completes (awaiting n o.trees o.steps) rest → Completes (awaiting (n + clauses) 0 0) lines

module _ (o next : Open) (lines : List CertLine) (i clauses : ℕ) (d : CertLine) (inside : i < length lines) (after : opened o (get_or lines i d) ≡ Some next) (so_far : ReadSoFar o clauses lines (drop i lines)) where
  one_line : (n : ℕ) → Completes (awaiting n next.trees next.steps) (drop (i + 1) lines) → Completes (awaiting (cond (is_clause (get_or lines i d)) (n + 1) n + clauses) 0 0) lines
  one_line n h =
      let x = get_or lines i d in
      so_far (cond (is_clause x) (n + 1) n) (subst (Completes (awaiting (cond (is_clause x) (n + 1) n) o.trees o.steps)) (sym (drop_more lines i d inside)) (leads o next x n (drop (i + 1) lines) after h))

  pub one_clause : is_clause (get_or lines i d) ≡ true → ReadSoFar next (clauses + 1) lines (drop (i + 1) lines)
  one_clause is n h = subst (λ k. Completes (awaiting k 0 0) lines) (let e : n + 1 + clauses ≡ n + (clauses + 1) = omega arith in e) (subst (λ b. Completes (awaiting (cond b (n + 1) n + clauses) 0 0) lines) is (one_line n h))

  pub no_clause : is_clause (get_or lines i d) ≡ false → ReadSoFar next clauses lines (drop (i + 1) lines)
  no_clause is n h = subst (λ b. Completes (awaiting (cond b (n + 1) n + clauses) 0 0) lines) is (one_line n h)

pub read_none : (lines : List CertLine) → ReadSoFar (record { trees = 0; steps = 0 }) 0 lines lines
read_none lines n h = subst (λ k. Completes (awaiting k 0 0) lines) (let e : n ≡ n + 0 = omega arith in e) h

-- all was read, and nothing is to come
pub read_all : (o : Open) (clauses : ℕ) (lines rest : List CertLine) → rest ≡ [] → o.trees ≡ 0 → o.steps ≡ 0 → ReadSoFar o clauses lines rest → AreCounted clauses lines
unfolding is_whole
read_all o clauses lines rest none trees steps so_far =
    clauses_shape clauses lines
    (subst (λ k. Completes (awaiting k 0 0) lines) (let e : 0 + clauses ≡ clauses = omega arith in e)
    (so_far 0 (subst (Completes (awaiting 0 o.trees o.steps)) (sym none) (rw (trees, steps) refl))))
