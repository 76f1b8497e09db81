use Rattle.std.proofs.Common.{◌≡◌, true, false, slice_get, sym, ap, ◌∙◌}
use Rattle.std.proofs.lemmas.Result.{IfOk-weaker}
use Rattle.ffc_rules.specs.Schemes.{schemes, scheme_clause}
use Rattle.ffc_check.specs.Patterns.{scheme_in}
use Rattle.ffc_check.specs.Gates.{gate_schemes, literals_of}
use Rattle.ffc_check.proofs.SchemeLemmas.{scheme_at}
use Rattle.ffc_check.proofs.schemes.scheme_clause.Goals as goal

pub returns-in-And : goal.returns-in-And
returns-in-And c =
    let v = c.args.node in
    let k = c.args.scheme in
    let i = c.args.index in
    IfOk-weaker c.gate_clause.result _ (λ found. literals_of found ≡ scheme_clause c.args.table.now v k i)
    (λ found h. h ∙ ap (λ ids. slice_get (scheme_in (gate_schemes v true ids) k) i) c.as_slice.ensures
    ∙ sym (scheme_at c.args.table.now v k i c.node.result.now c.node.ensures.at ∙ ap (λ n. slice_get (scheme_in (schemes v n) k) i) c.in-And.is)) c.gate_clause.ensures

pub returns-in-Or : goal.returns-in-Or
returns-in-Or c =
    let v = c.args.node in
    let k = c.args.scheme in
    let i = c.args.index in
    IfOk-weaker c.gate_clause-in-Or.result _ (λ found. literals_of found ≡ scheme_clause c.args.table.now v k i)
    (λ found h. h ∙ ap (λ ids. slice_get (scheme_in (gate_schemes v false ids) k) i) c.as_slice-in-Or.ensures
    ∙ sym (scheme_at c.args.table.now v k i c.node.result.now c.node.ensures.at ∙ ap (λ n. slice_get (scheme_in (schemes v n) k) i) c.in-Or.is)) c.gate_clause-in-Or.ensures

pub returns-in_default : goal.returns-in_default
returns-in_default c =
    let v = c.args.node in
    let k = c.args.scheme in
    let i = c.args.index in
    IfOk-weaker c.short_clause.result _ (λ found. literals_of found ≡ scheme_clause c.args.table.now v k i)
    (λ found h. h ∙ ap (λ cs. slice_get cs i) c.pattern_of.ensures
    ∙ sym (scheme_at c.args.table.now v k i c.node.result.now c.node.ensures.at)) c.short_clause.ensures
