use Rattle.std.proofs.Common.{Bool, true, false, not, refl, IsTrue}
use Rattle.std.specs.Bool.{OnFalse}
use Rattle.ffc_mono.specs.declared.mono.TheConstants.{DEGREE_LIMIT}
use Rattle.ffc_basis.proofs.NeedlessLemmas.{coprime_is_needless}
use Rattle.ffc_basis.proofs.pairing.is_needed.Goals as goal

where_true : (b : Bool) (P : Type 0) → (IsTrue b → P) → OnFalse (not b) P
where_true true P f = f refl
where_true false P f = tt

pub returns : goal.returns
returns g c =
    where_true c.is_coprime.result _
    (λ yes. coprime_is_needless g.F.Field.ORDER g.met.F.Field.prime g.O.MonoOrder.cmp g.met.O.MonoOrder.laws DEGREE_LIMIT c.args.a.now c.args.b.now c.len.ensures.ordered c.len-2.ensures.ordered
    (g.F.Field.value c.in-Some.field-0-0) c.in-Some.m.powers.now (g.F.Field.value c.in-Some-lead.field-0-0) c.in-Some-lead.n.powers.now c.in-Some.ensures.leading c.in-Some-lead.ensures.leading (c.is_coprime.ensures.0 yes))
