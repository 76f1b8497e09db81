use Rattle.std.proofs.Common.{◌≡◌, true, false, sym, ap, ◌∙◌, eqb, Some}
use Rattle.std.specs.Option.{is_some}
use Rattle.std.proofs.lemmas.Bool.{eq-eqb}
use Rattle.ffc_lex.specs.Reading.{fault_at}
use Rattle.ffc_lex.specs.Scan.{kind_in, scanned}
use Rattle.ffc_lex.proofs.BetweenLemmas.{outside_at_end, inside_at_end, other_test}
use Rattle.ffc_lex.proofs.scanning.Scanner.fault_at_end.Goals as goal

pub returns-then-self-eq0 : goal.returns-then-self-eq0
returns-then-self-eq0 c n text window ready end =
    outside_at_end n text c.args.self.now ready end (eq-eqb c.args.self.now.depth 0 (sym (ap (λ v. v.depth) c.self.view_is) ∙ c.if-self-eq0.true))

pub returns-in-Some : goal.returns-in-Some
returns-in-Some c n text window ready end =
    let inside : eqb c.args.self.now.depth 0 ≡ false = other_test c.args.self.now.depth 0 (λ z. c.if-self-eq0.false (ap (λ v. v.depth) c.self.view_is ∙ z)) in
    let whole : is_some (kind_in c.args.self.now.mode (scanned text c.args.self.now)) ≡ true = ap (λ o. is_some o) (sym (c.kind_so_far.ensures text window) ∙ c.in-Some.is) in
    ap (λ x. Some x) c.lex_fault.ensures ∙ (ap (λ v. Some (fault_at 2 v.first)) c.self.view_is ∙ inside_at_end n text c.args.self.now true ready end inside whole)

pub returns-in-None : goal.returns-in-None
returns-in-None c n text window ready end =
    let inside : eqb c.args.self.now.depth 0 ≡ false = other_test c.args.self.now.depth 0 (λ z. c.if-self-eq0.false (ap (λ v. v.depth) c.self.view_is ∙ z)) in
    let part : is_some (kind_in c.args.self.now.mode (scanned text c.args.self.now)) ≡ false = ap (λ o. is_some o) (sym (c.kind_so_far.ensures text window) ∙ c.in-None.is) in
    ap (λ x. Some x) c.lex_fault-in-None.ensures ∙ (ap (λ v. Some (fault_at 1 v.start)) c.self.view_is ∙ inside_at_end n text c.args.self.now false ready end inside part)
