use Rattle.std.proofs.Common.{◌≡◌, [], inl, inr, subst}
use Rattle.std.specs.Bool.{OnFalse}
use Rattle.ffc_basis.specs.PairTable.{AreKnown, AreSettled, AreDone, over_of}
use Rattle.ffc_basis.proofs.DivisorLemmas.{map_none}
use Rattle.ffc_basis.proofs.pairing.first_open.Goals as goal

pub returns-then-has_over-clause-none : goal.returns-then-has_over-clause-none
returns-then-has_over-clause-none c =
    map_none c.first_unsettled.result (AreSettled c.args.records.now) (AreDone c.args.records.now) (λ v. inr v) c.first_unsettled.ensures.none

pub returns-clause-none : goal.returns-clause-none
returns-clause-none c =
    let none : over_of c.args.records.now ≡ [] = subst (λ b. OnFalse b (over_of c.args.records.now ≡ [])) c.if-has_over.false c.has_over.ensures in
    map_none c.first_pending.result (AreKnown c.args.records.now) (AreDone c.args.records.now) (λ v. inl (v, none)) c.first_pending.ensures.none
