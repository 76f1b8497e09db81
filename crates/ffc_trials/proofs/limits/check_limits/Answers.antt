use Rattle.std.proofs.Common.{ℕ, List, nat_lt, filter, sym, ap, ◌∙◌}
use Rattle.std.specs.List.{list_any}
use Rattle.ffc_term.specs.Nodes.{node_at}
use Rattle.ffc_term.specs.Measuring.{degree_at, length_at}
use Rattle.ffc_rules.specs.Cones.{is_equality}
use Rattle.ffc_trials.proofs.limits.check_limits.Goals as goal

pub returns-then-passes_degree-clause-passed : goal.returns-then-passes_degree-clause-passed
returns-then-passes_degree-clause-passed c =
    let ns = c.args.check.now.table.now in
    let all = c.as_slice.ensures.value ∙ c.requires.cone.all in
    sym (ap (λ (nodes : List ℕ). list_any (λ id. nat_lt 255 (degree_at ns id)) (filter (λ id. is_equality (node_at ns id)) nodes)) all)
    ∙ sym c.passes_degree.ensures ∙ c.if-passes_degree.true

pub returns-then-passes_length-clause-passed : goal.returns-then-passes_length-clause-passed
returns-then-passes_length-clause-passed c =
    let ns = c.args.check.now.table.now in
    let cone = c.requires.cone.all in (
      sym (ap (λ (nodes : List ℕ). list_any (λ id. nat_lt 255 (degree_at ns id)) (filter (λ id. is_equality (node_at ns id)) nodes)) (c.as_slice.ensures.value ∙ cone))
          ∙ sym c.passes_degree.ensures ∙ c.if-passes_degree.false,
      sym (ap (λ (nodes : List ℕ). list_any (λ id. nat_lt 65536 (length_at ns id)) (filter (λ id. is_equality (node_at ns id)) nodes)) (c.as_slice-2.ensures.value ∙ cone))
          ∙ sym c.passes_length.ensures ∙ c.if-passes_length.true,
    )

pub returns-clause-within : goal.returns-clause-within
returns-clause-within c =
    let ns = c.args.check.now.table.now in
    let cone = c.requires.cone.all in
    record {
      degree = sym (ap (λ (nodes : List ℕ). list_any (λ id. nat_lt 255 (degree_at ns id)) (filter (λ id. is_equality (node_at ns id)) nodes)) (c.as_slice.ensures.value ∙ cone))
          ∙ sym c.passes_degree.ensures ∙ c.if-passes_degree.false;
      length = sym (ap (λ (nodes : List ℕ). list_any (λ id. nat_lt 65536 (length_at ns id)) (filter (λ id. is_equality (node_at ns id)) nodes)) (c.as_slice-2.ensures.value ∙ cone))
          ∙ sym c.passes_length.ensures ∙ c.if-passes_length.false;
    }
