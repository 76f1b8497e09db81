use Rattle.std.proofs.Common.{◌+◌, refl, sym, ap, ◌∙◌, subst, arith}
use Rattle.ffc_mono.specs.declared.mono.TheConstants.{DEGREE_LIMIT}
use Rattle.ffc_line.specs.Lines.{polys_of, AreLines}
use Rattle.ffc_basis.specs.declared.spoly.Outcome.TheVariants.{Added}
use Rattle.ffc_basis.specs.Outcomes.{IsOutcome}
use Rattle.ffc_basis.specs.PairTable.{ArePairs, seconds, settled_count, with_state}
use Rattle.ffc_basis.specs.declared.pair.PairState.TheVariants.{Closed, Over}
use Rattle.ffc_basis.proofs.FewLemmas.{seconds-set, settled_set, pending_within}
use Rattle.ffc_basis.proofs.OrderedTerms.{AreTerms-ordered}
use Rattle.ffc_basis.proofs.AddedLemmas.{front_same, front_one, line_added, settled_closed, settled_over, settled_added}
use Rattle.ffc_basis.proofs.pairing.settle.Goals as goal

pub returns-in-Closed : goal.returns-in-Closed
returns-in-Closed g c =
    let p = g.F.Field.ORDER in
    let cmp = g.O.MonoOrder.cmp in
    let ls = c.args.lines.now.items in
    let rs = c.args.pairing.now.records.items in
    let paired = c.args.pairing.now.paired in
    record {
      index = λ is. is;
      front = front_same p cmp ls ls refl;
      lines = c.requires.lines;
      pairs = subst (λ x. ArePairs p cmp (polys_of ls) x paired) (sym c.mark.ensures)
          (settled_closed p cmp ls rs paired c.args.place c.args.pair c.len-count.result (omega (arith, c.len-count.ensures, c.args.lines.now.ok.0)) (omega (arith, c.requires.within, c.args.pairing.now.records.ok.0)) c.requires.pair
          (subst (IsOutcome p cmp (polys_of ls) c.args.pair.first c.args.pair.second) c.in-Closed.is c.requires.outcome) c.requires.pairs);
      seconds = ap seconds c.mark.ensures ∙ seconds-set rs c.args.place c.args.pair (with_state c.args.pair (Closed c.len-count.result)) (pending_within rs c.args.place c.requires.pending) c.requires.pair refl;
      paired = refl;
      settled = ap settled_count c.mark.ensures ∙ settled_set rs c.args.place (with_state c.args.pair (Closed c.len-count.result)) c.requires.pending refl;
    }

pub returns-in-Over : goal.returns-in-Over
returns-in-Over g c =
    let p = g.F.Field.ORDER in
    let cmp = g.O.MonoOrder.cmp in
    let ls = c.args.lines.now.items in
    let rs = c.args.pairing.now.records.items in
    let paired = c.args.pairing.now.paired in
    record {
      index = λ is. is;
      front = front_same p cmp ls ls refl;
      lines = c.requires.lines;
      pairs = subst (λ x. ArePairs p cmp (polys_of ls) x paired) (sym c.mark-in-Over.ensures)
          (settled_over p cmp ls rs paired c.args.place c.args.pair c.len-count.result (omega (arith, c.len-count.ensures, c.args.lines.now.ok.0)) (omega (arith, c.requires.within, c.args.pairing.now.records.ok.0)) c.requires.pair
          (subst (IsOutcome p cmp (polys_of ls) c.args.pair.first c.args.pair.second) c.in-Over.is c.requires.outcome) c.requires.pairs);
      seconds = ap seconds c.mark-in-Over.ensures ∙ seconds-set rs c.args.place c.args.pair (with_state c.args.pair (Over c.len-count.result)) (pending_within rs c.args.place c.requires.pending) c.requires.pair refl;
      paired = refl;
      settled = ap settled_count c.mark-in-Over.ensures ∙ settled_set rs c.args.place (with_state c.args.pair (Over c.len-count.result)) c.requires.pending refl;
    }

pub returns-in_err-push_line-in-Added-clause-front : goal.returns-in_err-push_line-in-Added-clause-front
returns-in_err-push_line-in-Added-clause-front g c =
    front_same g.F.Field.ORDER g.O.MonoOrder.cmp c.args.lines.now.items c.push_line.new.lines.items c.in_err-push_line-in-Added.ensures.err

pub returns-in_err-push_line-in-Added-clause-lines : goal.returns-in_err-push_line-in-Added-clause-lines
returns-in_err-push_line-in-Added-clause-lines g c =
    subst (AreLines g.F.Field.ORDER) (sym c.in_err-push_line-in-Added.ensures.err) c.requires.lines

pub returns-in_err-push_line-in-Added-clause-pairs : goal.returns-in_err-push_line-in-Added-clause-pairs
returns-in_err-push_line-in-Added-clause-pairs g c =
    subst (λ x. ArePairs g.F.Field.ORDER g.O.MonoOrder.cmp (polys_of x) c.args.pairing.now.records.items c.args.pairing.now.paired) (sym c.in_err-push_line-in-Added.ensures.err) c.requires.pairs

pub returns-in_ok-push_line-in-Added : goal.returns-in_ok-push_line-in-Added
returns-in_ok-push_line-in-Added g c =
    let p = g.F.Field.ORDER in
    let cmp = g.O.MonoOrder.cmp in
    let ls = c.args.lines.now.items in
    let ks = c.push_line.new.lines.items in
    let rs = c.args.pairing.now.records.items in
    let paired = c.args.pairing.now.paired in
    let l = c.in-Added.line in
    let is = c.in_ok-push_line-in-Added.ensures.ok in
    let outcome : IsOutcome p cmp (polys_of ls) c.args.pair.first c.args.pair.second (Added l) =
    subst (IsOutcome p cmp (polys_of ls) c.args.pair.first c.args.pair.second) c.in-Added.is c.requires.outcome in
    record {
      index = c.in_ok-push_line-in-Added.ensures.index;
      front = front_one p cmp ls ks l is outcome.1;
      lines = line_added p ls ks l is c.requires.lines outcome.0;
      pairs = subst (λ x. ArePairs p cmp (polys_of ks) x paired) (sym c.mark-in-Added.ensures)
          (settled_added p cmp ls ks l rs paired c.args.place c.args.pair c.len-count.result is (omega (arith, c.len-count.ensures, c.args.lines.now.ok.0)) (omega (arith, c.requires.within, c.args.pairing.now.records.ok.0)) c.requires.pair
          (AreTerms-ordered p cmp DEGREE_LIMIT l.poly c.len-length.ensures.ordered) outcome.2 c.requires.pairs);
      seconds = ap seconds c.mark-in-Added.ensures ∙ seconds-set rs c.args.place c.args.pair (with_state c.args.pair (Closed (c.len-count.result + 1))) (pending_within rs c.args.place c.requires.pending) c.requires.pair refl;
      paired = refl;
      settled = ap settled_count c.mark-in-Added.ensures ∙ settled_set rs c.args.place (with_state c.args.pair (Closed (c.len-count.result + 1))) c.requires.pending refl;
    }
