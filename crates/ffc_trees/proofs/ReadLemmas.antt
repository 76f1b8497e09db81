-- A tree is read to its end exactly where it closes.
use Rattle.std.proofs.Common.{◌≡◌, ℕ, suc, Bool, true, false, if◌then◌else◌, List, [], ◌∷◌, ◌++◌, map, Result, Ok, Err, refl, sym, ap, ◌∙◌, subst}
use Rattle.ffc_cert.specs.declared.entries.CertLine.{CertLine}
use Rattle.ffc_cert.specs.declared.entries.CertLine.TheVariants.{Combine, Bits, Chain, Step, Split, Values, Close}
use Rattle.ffc_ring.specs.Polynomial.{Terms}
use Rattle.ffc_uni.specs.Univariate.{Coefficients, indeterminate}
use Rattle.ffc_uni.specs.Chains.{Pair, IsDivision, IsChainFrom, digits_of, last_remainder}
use Rattle.ffc_trees.specs.TreeLines.{Limits, Factor, factors_over, times_factor, combine_line, chain_line, step_line, fermat_line, split_line, values_line, closes}
use Rattle.ffc_trees.specs.BitLines.{bits_line}
use Rattle.ffc_trees.specs.Trees.{Power, Stage, Open, Within, with_line, with_power, kept, branch_read, step_read, Broken, next_read, read_from, tree_read}
use Rattle.ffc_trees.specs.Closing.{written_step, AreWritten, IsChainIn, Closes, CloseAll}
use Rattle.ffc_trees.specs.Closing.Closes.{combine, bits, chain, split, values, close}
use Rattle.ffc_trees.specs.Closing.CloseAll.{no_cases, each}
use Rattle.ffc_trees.proofs.RuleLemmas.{step_gives, step_to}
use Rattle.std.proofs.lemmas.Bool.{false≢true}

-- the steps go on from the power r over these factors
abbrev pub IsChainOver : ℕ → Coefficients → Coefficients → List Factor → List Pair → Type 0
IsChainOver p f r [] [] = Unit {0}
IsChainOver p f r [] (s ∷ steps) = ⊥
IsChainOver p f r (factor ∷ factors) [] = ⊥
IsChainOver p f r (factor ∷ factors) (s ∷ steps) = IsDivision p f (times_factor factor r) s × IsChainOver p f s.1 factors steps

pub chain_from_over : (p : ℕ) (f r : Coefficients) (ds : List Bool) (steps : List Pair) → IsChainOver p f r (factors_over ds) steps → IsChainFrom p f r ds steps
chain_from_over p f r [] [] over = tt
chain_from_over p f r [] (s ∷ steps) over = over
chain_from_over p f r (false ∷ ds) [] over = over
chain_from_over p f r (false ∷ ds) (s ∷ steps) over = (over.0, chain_from_over p f s.1 ds steps over.1)
chain_from_over p f r (true ∷ ds) [] over = over
chain_from_over p f r (true ∷ ds) (s ∷ []) over = over.1
chain_from_over p f r (true ∷ ds) (s ∷ t ∷ steps) over = (over.0, over.1.0, chain_from_over p f t.1 ds steps over.1.1)

pub chain_over_from : (p : ℕ) (f r : Coefficients) (ds : List Bool) (steps : List Pair) → IsChainFrom p f r ds steps → IsChainOver p f r (factors_over ds) steps
chain_over_from p f r [] [] from = tt
chain_over_from p f r [] (s ∷ steps) from = from
chain_over_from p f r (false ∷ ds) [] from = from
chain_over_from p f r (false ∷ ds) (s ∷ steps) from = (from.0, chain_over_from p f s.1 ds steps from.1)
chain_over_from p f r (true ∷ ds) [] from = from
chain_over_from p f r (true ∷ ds) (s ∷ []) from = absurd from
chain_over_from p f r (true ∷ ds) (s ∷ t ∷ steps) from = (from.0, (from.1, chain_over_from p f t.1 ds steps from.2))

-- ---- what is read closes

record NextRead {A : Type 0} (go : Stage → Result A Broken) (read : Result Stage ℕ) (x : A) : Type 0 where
  stage : Stage
  kept_rule : read ≡ Ok stage
  goes_on : go stage ≡ Ok x

next_read-ok : {A : Type 0} (at : ℕ) (go : Stage → Result A Broken) (read : Result Stage ℕ) (x : A) → next_read at go read ≡ Ok x → NextRead go read x
next_read-ok at go (Ok stage) x h = record { stage = stage; kept_rule = refl; goes_on = h }
next_read-ok at go (Err rule) x h = absurd (cc)

record Kept {A : Type 0} (f : A → Stage) (read : Result A ℕ) (stage : Stage) : Type 0 where
  what : A
  rule : read ≡ Ok what
  gives : f what ≡ stage

kept-ok : {A : Type 0} (f : A → Stage) (read : Result A ℕ) (stage : Stage) → kept f read ≡ Ok stage → Kept f read stage
kept-ok f (Ok x) stage h = record { what = x; rule = refl; gives = cc }
kept-ok f (Err rule) stage h = absurd (cc)

record IsClosed (is : Bool) (others : List (List Terms)) (stage : Stage) : Type 0 where
  closed : is ≡ true
  gives : Open others ≡ stage

closed-ok : (is : Bool) (others : List (List Terms)) (stage : Stage) → (let bad : Result Stage ℕ = Err 8 in if is then Ok (Open others) else bad) ≡ Ok stage → IsClosed is others stage
closed-ok true others stage h = record { closed = refl; gives = cc }
closed-ok false others stage h = absurd (cc)

closed_read : (is : Bool) (others : List (List Terms)) → is ≡ true → (let bad : Result Stage ℕ = Err 8 in if is then Ok (Open others) else bad) ≡ Ok (Open others)
closed_read true others is = refl
closed_read false others is = absurd (false≢true is)

in_front : (line : CertLine) (xs ys : List CertLine) → xs ≡ ys → line ∷ xs ≡ line ∷ ys
in_front line xs ys e = ap (λ zs. line ∷ zs) e

module _ (l : Limits) (p : ℕ) where
  -- the rest of a chain, its line and what follows
  record Chained (x : ℕ) (f r : Coefficients) (factors : List Factor) (lines : List Terms) (others : List (List Terms)) (tree rest : List CertLine) : Type 0 where
    steps : List Pair
    after : List CertLine
    over : IsChainOver p f r factors steps
    written : AreWritten l p steps
    front : tree ≡ map written_step steps ++ after
    more : CloseAll l p ((lines ++ fermat_line p x (last_remainder r steps) ∷ []) ∷ others) after rest

  abbrev Reached : Stage → List CertLine → List CertLine → Type 0
  Reached (Open cases) tree rest = CloseAll l p cases tree rest
  Reached (Within c lines others) tree rest = Chained c.variable c.modulus c.power (c.factor ∷ c.factors) lines others tree rest

  with_power-reached : (x : ℕ) (f r : Coefficients) (factors : List Factor) (lines : List Terms) (others : List (List Terms)) (tree rest : List CertLine) → Reached (with_power p x f lines others factors r) tree rest → Chained x f r factors lines others tree rest
  with_power-reached x f r [] lines others tree rest h = record { steps = []; after = tree; over = tt; written = tt; front = refl; more = h }
  with_power-reached x f r (factor ∷ factors) lines others tree rest h = h

  record Uncons (lines : List Terms) (cases : List (List Terms)) (tree rest : List CertLine) : Type 0 where
    after : List CertLine
    first : Closes l p lines tree after
    later : CloseAll l p cases after rest

  uncons : (lines : List Terms) (cases : List (List Terms)) (tree rest : List CertLine) → CloseAll l p (lines ∷ cases) tree rest → Uncons lines cases tree rest
  uncons lines cases tree rest (each first later) = record { after = _; first = first; later = later }

  record Unappend (cases others : List (List Terms)) (tree rest : List CertLine) : Type 0 where
    after : List CertLine
    first : CloseAll l p cases tree after
    later : CloseAll l p others after rest

  unappend : (cases others : List (List Terms)) (tree rest : List CertLine) → CloseAll l p (cases ++ others) tree rest → Unappend cases others tree rest
  unappend [] others tree rest all = record { after = tree; first = no_cases; later = all }
  unappend (lines ∷ cases) others tree rest all =
      let head = uncons lines (cases ++ others) tree rest all in
      let tail = unappend cases others head.after rest head.later in
      record { after = tail.after; first = each head.first tail.first; later = tail.later }

  -- one line of a branch, and then what closes after it
  branch_closes : (lines : List Terms) (others : List (List Terms)) (line : CertLine) (tree rest : List CertLine) (stage : Stage) → branch_read l p lines others line ≡ Ok stage → Reached stage tree rest → CloseAll l p (lines ∷ others) (line ∷ tree) rest
  branch_closes lines others (Combine multiples) tree rest stage h reached =
      let k = kept-ok (with_line lines others) (combine_line l p lines multiples) stage h in
      let parts = uncons (lines ++ k.what ∷ []) others tree rest (subst (λ s. Reached s tree rest) (sym k.gives) reached) in
      each (combine multiples k.what k.rule parts.first) parts.later
  branch_closes lines others (Bits sum chosen written numbers) tree rest stage h reached =
      let k = kept-ok (with_line lines others) (bits_line l p lines sum chosen written numbers) stage h in
      let parts = uncons (lines ++ k.what ∷ []) others tree rest (subst (λ s. Reached s tree rest) (sym k.gives) reached) in
      each (bits sum chosen written numbers k.what k.rule parts.first) parts.later
  branch_closes lines others (Chain number x steps) tree rest stage h reached =
      let k = kept-ok (λ f. with_power p x f lines others (factors_over (digits_of p)) indeterminate) (chain_line p lines number x steps) stage h in
      let chained = with_power-reached x k.what indeterminate (factors_over (digits_of p)) lines others tree rest (subst (λ s. Reached s tree rest) (sym k.gives) reached) in
      let parts = uncons (lines ++ fermat_line p x (last_remainder indeterminate chained.steps) ∷ []) others chained.after rest chained.more in
      let whole : IsChainIn l p k.what chained.steps tree chained.after = record { chain = chain_from_over p k.what indeterminate (digits_of p) chained.steps chained.over; written = chained.written; front = chained.front } in
      each (chain number x steps k.what chained.steps k.rule whole parts.first) parts.later
  branch_closes lines others (Split number x zeros) tree rest stage h reached =
      let k = kept-ok (λ cases. Open (cases ++ others)) (split_line p lines number x zeros) stage h in
      let parts = unappend k.what others tree rest (subst (λ s. Reached s tree rest) (sym k.gives) reached) in
      each (split number x zeros k.what k.rule parts.first) parts.later
  branch_closes lines others (Values x count) tree rest stage h reached =
      let k = kept-ok (λ cases. Open (cases ++ others)) (values_line p lines x count) stage h in
      let parts = unappend k.what others tree rest (subst (λ s. Reached s tree rest) (sym k.gives) reached) in
      each (values x count k.what k.rule parts.first) parts.later
  branch_closes lines others Close tree rest stage h reached =
      let k = closed-ok (closes p lines) others stage h in
      each (close k.closed) (subst (λ s. Reached s tree rest) (sym k.gives) reached)
  branch_closes lines others _ tree rest stage h reached = absurd (cc)

  -- one step of a chain, and then what closes after it
  step_closes : (c : Power) (lines : List Terms) (others : List (List Terms)) (line : CertLine) (tree rest : List CertLine) (stage : Stage) → step_read l p c lines others line ≡ Ok stage → Reached stage tree rest → Chained c.variable c.modulus c.power (c.factor ∷ c.factors) lines others (line ∷ tree) rest
  step_closes c lines others (Step quotient remainder) tree rest stage h reached =
      let k = kept-ok (with_power p c.variable c.modulus lines others c.factors) (step_line l p c.modulus c.factor c.power quotient remainder) stage h in
      let ok = step_gives l p c.modulus c.factor c.power quotient remainder k.what k.rule in
      let there : Reached (with_power p c.variable c.modulus lines others c.factors remainder) tree rest = subst (λ r. Reached (with_power p c.variable c.modulus lines others c.factors r) tree rest) (sym ok.1) (subst (λ s. Reached s tree rest) (sym k.gives) reached) in
      let chained = with_power-reached c.variable c.modulus remainder c.factors lines others tree rest there in
      record {
        steps = (quotient, remainder) ∷ chained.steps;
        after = chained.after;
        over = (ok.0.identity, chained.over);
        written = (ok.0.short, ok.0.small, ok.0.residues, ok.0.below, chained.written);
        front = in_front (Step quotient remainder) tree (map written_step chained.steps ++ chained.after) chained.front;
        more = chained.more;
      }
  step_closes c lines others _ tree rest stage h reached = absurd (cc)

  read_closes : (tree rest : List CertLine) (at : ℕ) (stage : Stage) → read_from l p stage at tree ≡ Ok rest → Reached stage tree rest
  unfolding read_from
  read_closes tree rest at (Open []) h = subst (λ xs. CloseAll l p [] tree xs) (cc) no_cases
  read_closes [] rest at (Open (lines ∷ others)) h = absurd (cc)
  read_closes [] rest at (Within c lines others) h = absurd (cc)
  read_closes (line ∷ tree) rest at (Open (lines ∷ others)) h =
      let next = next_read-ok at (λ stage. read_from l p stage (suc at) tree) (branch_read l p lines others line) rest h in
      branch_closes lines others line tree rest next.stage next.kept_rule (read_closes tree rest (suc at) next.stage next.goes_on)
  read_closes (line ∷ tree) rest at (Within c lines others) h =
      let next = next_read-ok at (λ stage. read_from l p stage (suc at) tree) (step_read l p c lines others line) rest h in
      step_closes c lines others line tree rest next.stage next.kept_rule (read_closes tree rest (suc at) next.stage next.goes_on)

  nothing_later : (after rest : List CertLine) → CloseAll l p [] after rest → after ≡ rest
  nothing_later _ _ no_cases = refl

  pub tree_read-closes : (lines : List Terms) (tree rest : List CertLine) → tree_read l p lines tree ≡ Ok rest → Closes l p lines tree rest
  tree_read-closes lines tree rest h =
      let parts = uncons lines [] tree rest (read_closes tree rest 0 (Open (lines ∷ [])) h) in
      subst (λ xs. Closes l p lines tree xs) (nothing_later parts.after rest parts.later) parts.first

  -- ---- what closes is read

  -- reading goes on after a part of the lines
  record GoesOn (stage : Stage) (at : ℕ) (tree : List CertLine) (next : Stage) (after : List CertLine) : Type 0 where
    place : ℕ
    read : read_from l p stage at tree ≡ read_from l p next place after

  branch_next : (lines : List Terms) (others : List (List Terms)) (at : ℕ) (line : CertLine) (tree : List CertLine) (stage : Stage) → branch_read l p lines others line ≡ Ok stage → read_from l p (Open (lines ∷ others)) at (line ∷ tree) ≡ read_from l p stage (suc at) tree
  unfolding read_from
  branch_next lines others at line tree stage h = ap (next_read at (λ s. read_from l p s (suc at) tree)) h

  step_next : (c : Power) (lines : List Terms) (others : List (List Terms)) (at : ℕ) (line : CertLine) (tree : List CertLine) (stage : Stage) → step_read l p c lines others line ≡ Ok stage → read_from l p (Within c lines others) at (line ∷ tree) ≡ read_from l p stage (suc at) tree
  unfolding read_from
  step_next c lines others at line tree stage h = ap (next_read at (λ s. read_from l p s (suc at) tree)) h

  steps_read : (x : ℕ) (f r : Coefficients) (factors : List Factor) (lines : List Terms) (others : List (List Terms)) (steps : List Pair) (at : ℕ) (after : List CertLine) → IsChainOver p f r factors steps → AreWritten l p steps → GoesOn (with_power p x f lines others factors r) at (map written_step steps ++ after) (with_line lines others (fermat_line p x (last_remainder r steps))) after
  steps_read x f r [] lines others [] at after over written = record { place = at; read = refl }
  steps_read x f r [] lines others (s ∷ steps) at after over written = absurd over
  steps_read x f r (factor ∷ factors) lines others [] at after over written = absurd over
  steps_read x f r (factor ∷ factors) lines others (s ∷ steps) at after over written =
      let later = steps_read x f s.1 factors lines others steps (suc at) after over.1 written.4 in
      let c : Power = record { variable = x; modulus = f; power = r; factor = factor; factors = factors } in
      let here : step_read l p c lines others (written_step s) ≡ Ok (with_power p x f lines others factors s.1) =
      ap (kept (with_power p x f lines others factors)) (step_to l p f factor r s.0 s.1 (record { short = written.0; small = written.1; residues = written.2; below = written.3; identity = over.0 }))
      in record {
        place = later.place;
        read = step_next c lines others at (written_step s) (map written_step steps ++ after) (with_power p x f lines others factors s.1) here ∙ later.read;
      }

  mutual
    closed_is_read : (lines : List Terms) (tree rest : List CertLine) → Closes l p lines tree rest → (others : List (List Terms)) (at : ℕ) → GoesOn (Open (lines ∷ others)) at tree (Open others) rest
    closed_is_read lines _ rest (combine {tree = tree} multiples line h more) others at =
        let later = closed_is_read (lines ++ line ∷ []) tree rest more others (suc at) in
        record { place = later.place; read = branch_next lines others at (Combine multiples) tree (with_line lines others line) (ap (kept (with_line lines others)) h) ∙ later.read }
    closed_is_read lines _ rest (bits {tree = tree} sum chosen written numbers line h more) others at =
        let later = closed_is_read (lines ++ line ∷ []) tree rest more others (suc at) in
        record { place = later.place; read = branch_next lines others at (Bits sum chosen written numbers) tree (with_line lines others line) (ap (kept (with_line lines others)) h) ∙ later.read }
    closed_is_read lines _ rest (chain {tree = tree} {after = after} k x count f steps h whole more) others at =
        let start : branch_read l p lines others (Chain k x count) ≡ Ok (with_power p x f lines others (factors_over (digits_of p)) indeterminate) =
        ap (kept (λ g. with_power p x g lines others (factors_over (digits_of p)) indeterminate)) h
        in let middle = steps_read x f indeterminate (factors_over (digits_of p)) lines others steps (suc at) after (chain_over_from p f indeterminate (digits_of p) steps whole.chain) whole.written in
        let later = closed_is_read (lines ++ fermat_line p x (last_remainder indeterminate steps) ∷ []) after rest more others middle.place in
        record {
          place = later.place;
          read =
              branch_next lines others at (Chain k x count) tree (with_power p x f lines others (factors_over (digits_of p)) indeterminate) start
              ∙ ap (read_from l p (with_power p x f lines others (factors_over (digits_of p)) indeterminate) (suc at)) whole.front
              ∙ middle.read ∙ later.read;
        }
    closed_is_read lines _ rest (split {tree = tree} k x zeros cases h all) others at =
        let later = all_are_read cases tree rest all others (suc at) in
        record { place = later.place; read = branch_next lines others at (Split k x zeros) tree (Open (cases ++ others)) (ap (kept (λ cs. Open (cs ++ others))) h) ∙ later.read }
    closed_is_read lines _ rest (values {tree = tree} x count cases h all) others at =
        let later = all_are_read cases tree rest all others (suc at) in
        record { place = later.place; read = branch_next lines others at (Values x count) tree (Open (cases ++ others)) (ap (kept (λ cs. Open (cs ++ others))) h) ∙ later.read }
    closed_is_read lines _ rest (close is) others at =
        record { place = suc at; read = branch_next lines others at Close rest (Open others) (closed_read (closes p lines) others is) }

    all_are_read : (cases : List (List Terms)) (tree rest : List CertLine) → CloseAll l p cases tree rest → (others : List (List Terms)) (at : ℕ) → GoesOn (Open (cases ++ others)) at tree (Open others) rest
    all_are_read [] _ rest no_cases others at = record { place = at; read = refl }
    all_are_read (lines ∷ cases) tree rest (each {after = after} first more) others at =
        let here = closed_is_read lines tree after first (cases ++ others) at in
        let later = all_are_read cases after rest more others here.place in
        record { place = later.place; read = here.read ∙ later.read }

  ended : (at : ℕ) (rest : List CertLine) → read_from l p (Open []) at rest ≡ Ok rest
  unfolding read_from
  ended at rest = refl

  pub closes-tree_read : (lines : List Terms) (tree rest : List CertLine) → Closes l p lines tree rest → tree_read l p lines tree ≡ Ok rest
  closes-tree_read lines tree rest closed =
      let whole = closed_is_read lines tree rest closed [] 0 in
      whole.read ∙ ended whole.place rest
