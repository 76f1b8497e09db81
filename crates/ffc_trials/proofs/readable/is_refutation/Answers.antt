use Rattle.std.proofs.Common.{◌≡◌, ◌+◌, Some, drop, refl, subst, sym, ap, ◌∙◌, arith}
use Rattle.std.specs.List.{AllByRecursion}
use Rattle.std.proofs.lemmas.Bool.{leb-true}
use Rattle.std.proofs.lemmas.List.{drop_all}
use Rattle.ffc_cert.specs.declared.entries.CertLine.{CertLine}
use Rattle.ffc_cert.specs.Spelling.{is_clause}
use Rattle.ffc_cert.specs.Ranges.{IsLine}
use Rattle.ffc_cert.specs.WellFormed.{LineFitsVersion}
use Rattle.ffc_trials.specs.Opened.{opened}
use Rattle.ffc_trials.specs.Versions.{written_version}
use Rattle.ffc_trials.proofs.ReadableLemmas.{ReadSoFar, one_more, one_clause, no_clause, read_all}
use Rattle.ffc_trials.proofs.readable.is_refutation.Goals as goal
use Rattle.ffc_trials.proofs.readable.is_refutation.Goals.{then-is_clause, else-is_clause}

pub loop-line-preserved : goal.loop-line-preserved
loop-line-preserved c =
    let lines = c.args.lines.now in
    let i = c.loop-line.line-index in
    let x = c.line-item.result in
    let next = c.in-Some.next in
    let so_far = c.loop-line.invariant in
    let inside = c.loop-line-test.true in
    let after = subst (λ (y : CertLine). opened c.loop-line.open y ≡ Some next) c.line-item.is c.in-Some.ensures in
    let kind = c.is_clause.ensures ∙ ap is_clause c.line-item.is in
    record {
      order = elim c.if-is_clause.branch as (λ _. ReadSoFar next c.if-is_clause.clauses lines (drop (i + 1) lines)) [
        | then-is_clause w ↦ subst (λ k. ReadSoFar next k lines (drop (i + 1) lines)) (sym w.clauses-is)
            (one_clause c.loop-line.open next lines i c.loop-line.clauses x inside after so_far.order (sym kind ∙ w.if-is_clause.true))
        | else-is_clause w ↦ subst (λ k. ReadSoFar next k lines (drop (i + 1) lines)) (sym w.clauses-is)
            (no_clause c.loop-line.open next lines i c.loop-line.clauses x inside after so_far.order (sym kind ∙ w.if-is_clause.false))
      ];
      ranges = one_more IsLine lines i x inside (subst IsLine c.line-item.is (c.if-not-is_line.ensures.ranges refl)) so_far.ranges;
      fits = one_more (LineFitsVersion (written_version c.args.bits)) lines i x inside (subst (LineFitsVersion (written_version c.args.bits)) c.line-item.is (c.if-not-is_line.ensures.fits refl)) so_far.fits;
      few = elim c.if-is_clause.branch [ then-is_clause w ↦ omega arith | else-is_clause w ↦ omega arith ];
    }

pub returns : goal.returns
returns c few =
    let lines = c.args.lines.now in
    let none = drop_all c.loop-line.line-index lines c.loop-line-test.false in
    let all = c.loop-line.invariant in
    let counted = read_all c.loop-line.open c.loop-line.clauses lines (drop c.loop-line.line-index lines) none (c.if-not-is_none.ensures.trees refl) (c.if-not-is_none.ensures.steps refl) all.order in
    record {
      few = let same = counted.count in let most = leb-true c.loop-line.clauses 4294967295 few in omega arith;
      order = counted.order;
      ranges = all.ranges (subst (AllByRecursion IsLine) (sym none) tt);
      fits = all.fits (subst (AllByRecursion (LineFitsVersion (written_version c.args.bits))) (sym none) tt);
    }
