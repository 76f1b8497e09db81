use Rattle.std.proofs.Common.{◌≡◌, ◌<◌, ◌≤◌, ◌+◌, ℕ, ◌==◌, count_by, get_or, length, slice_index_or, All, sym, ap, ◌∙◌, subst, arith}
use Rattle.std.proofs.lemmas.List.{length-map}
use Rattle.ffc_clause.specs.Clauses.{minus, negated}
use Rattle.ffc_clause.specs.Marks.{place_of}
use Rattle.ffc_propagation.specs.Rows.{row_at}
use Rattle.ffc_propagation.specs.Settling.{clauses_of}
use Rattle.ffc_propagation.proofs.LookLemmas.{listed_within, literal_read, row_settles, if_ok}
use Rattle.ffc_propagation.proofs.RowLemmas.{row_within}
use Rattle.ffc_propagation.proofs.SettlingLemmas.{place_within, lower_enough, lowered, lowered_settled}
use Rattle.ffc_propagation.proofs.settling.look_at.Goals as goal

pub lower-requires-clause-within : goal.lower-requires-clause-within
lower-requires-clause-within c =
    let s = c.requires.settled.state in
    let l = get_or c.args.trail.now.literals.items c.args.looked (minus 0) in
    let is : c.negated-literal.result ≡ negated l = literal_read c.args.trail.now.literals.items c.args.looked c.index.result.now c.negated-literal.result c.requires.more c.index.ensures c.negated-literal.ensures in
    let within = place_within (negated l) (length c.args.trail.now.marks.items) (listed_within c.args.trail.now c.args.looked s.trail c.requires.more) in
    let same = ap place_of is in
    omega (arith, within, same, s.wide)

pub lower-requires-clause-enough : goal.lower-requires-clause-enough
lower-requires-clause-enough c =
    let l = get_or c.args.trail.now.literals.items c.args.looked (minus 0) in
    let is : c.negated-literal.result ≡ negated l = literal_read c.args.trail.now.literals.items c.args.looked c.index.result.now c.negated-literal.result c.requires.more c.index.ensures c.negated-literal.ensures in
    subst (λ m. (k : ℕ) → count_by (λ j. j == k) (row_at c.args.occurrences.now.rows (place_of m)) ≤ slice_index_or c.args.occurrences.now.counts.items k 0) (sym is)
    (lower_enough (clauses_of c.args.clauses.now) c.args.looked c.args.trail.now c.args.occurrences.now c.requires.settled.state c.requires.more)

pub row-requires : goal.row-requires
row-requires c =
    let s = c.requires.settled.state in
    let l = get_or c.args.trail.now.literals.items c.args.looked (minus 0) in
    let is : c.negated-literal.result ≡ negated l = literal_read c.args.trail.now.literals.items c.args.looked c.index.result.now c.negated-literal.result c.requires.more c.index.ensures c.negated-literal.ensures in
    let within = place_within (negated l) (length c.args.trail.now.marks.items) (listed_within c.args.trail.now c.args.looked s.trail c.requires.more) in
    let same = ap place_of is in
    let kept = ap length c.lower.ensures.rows in
    omega (arith, within, same, s.wide, kept)

pub take_row-requires-clause-state : goal.take_row-requires-clause-state
take_row-requires-clause-state c =
    let l = get_or c.args.trail.now.literals.items c.args.looked (minus 0) in
    let is : c.negated-literal.result ≡ negated l = literal_read c.args.trail.now.literals.items c.args.looked c.index.result.now c.negated-literal.result c.requires.more c.index.ensures c.negated-literal.ensures in
    let counts = subst (λ m. (k : ℕ) → slice_index_or c.lower.new.self.counts.items k 0 + count_by (λ j. j == k) (row_at c.args.occurrences.now.rows (place_of m)) ≡ slice_index_or c.args.occurrences.now.counts.items k 0) is c.lower.ensures.counts in
    record {
      looked = c.args.looked + 1;
      state = lowered (clauses_of c.args.clauses.now) c.args.looked c.args.trail.now c.args.occurrences.now c.requires.settled.state c.requires.more c.lower.new.self c.lower.ensures.rows c.lower.ensures.long counts;
    }

pub take_row-requires-clause-within : goal.take_row-requires-clause-within
take_row-requires-clause-within c = λ k d inside.
    let clauses = clauses_of c.args.clauses.now in
    let long = length-map c.args.clauses.now (λ x. x.lits) in
    let row : c.row.result.now ≡ row_at c.args.occurrences.now.rows (place_of c.negated-literal.result) = c.row.ensures ∙ ap (λ rows. row_at rows (place_of c.negated-literal.result)) c.lower.ensures.rows in
    let within = subst (All (λ j. j < length clauses)) (sym row) (row_within clauses c.args.occurrences.now.rows c.requires.settled.state.rows c.negated-literal.result) in
    let below = within k d inside in
    omega (arith, long, below)

pub take_row-requires-clause-others : goal.take_row-requires-clause-others
take_row-requires-clause-others c = λ k inside none.
    let clauses = clauses_of c.args.clauses.now in
    let l = get_or c.args.trail.now.literals.items c.args.looked (minus 0) in
    let is : c.negated-literal.result ≡ negated l = literal_read c.args.trail.now.literals.items c.args.looked c.index.result.now c.negated-literal.result c.requires.more c.index.ensures c.negated-literal.ensures in
    let counts = subst (λ m. (k : ℕ) → slice_index_or c.lower.new.self.counts.items k 0 + count_by (λ j. j == k) (row_at c.args.occurrences.now.rows (place_of m)) ≡ slice_index_or c.args.occurrences.now.counts.items k 0) is c.lower.ensures.counts in
    let row : c.row.result.now ≡ row_at c.args.occurrences.now.rows (place_of (negated l)) =
    c.row.ensures ∙ ap (λ rows. row_at rows (place_of c.negated-literal.result)) c.lower.ensures.rows ∙ ap (λ m. row_at c.args.occurrences.now.rows (place_of m)) is in
    let long = length-map c.args.clauses.now (λ x. x.lits) in
    let room : k < length clauses = omega (arith, long, inside) in
    lowered_settled clauses c.args.looked c.args.trail.now c.args.occurrences.now c.requires.settled.state c.requires.more c.lower.new.self c.lower.ensures.rows c.lower.ensures.long counts k
    (ap (count_by (λ j. j == k)) (sym row) ∙ none) (c.requires.settled.all k room)

pub returns-clause-settled : goal.returns-clause-settled
returns-clause-settled c =
    let clauses = clauses_of c.args.clauses.now in
    let l = get_or c.args.trail.now.literals.items c.args.looked (minus 0) in
    let is : c.negated-literal.result ≡ negated l = literal_read c.args.trail.now.literals.items c.args.looked c.index.result.now c.negated-literal.result c.requires.more c.index.ensures c.negated-literal.ensures in
    let counts = subst (λ m. (k : ℕ) → slice_index_or c.lower.new.self.counts.items k 0 + count_by (λ j. j == k) (row_at c.args.occurrences.now.rows (place_of m)) ≡ slice_index_or c.args.occurrences.now.counts.items k 0) is c.lower.ensures.counts in
    let state = lowered clauses c.args.looked c.args.trail.now c.args.occurrences.now c.requires.settled.state c.requires.more c.lower.new.self c.lower.ensures.rows c.lower.ensures.long counts in
    if_ok c.take_row.result c.take_row.ensures.settled (row_settles clauses (c.args.looked + 1) c.args.trail.now c.take_row.new.trail c.lower.new.self state)
