use Rattle.ffc_mono.specs.declared.mono.TheConstants.{DEGREE_LIMIT}
use Rattle.ffc_poly.proofs.LeadLemmas.{lead_dropped}
use Rattle.ffc_poly.proofs.tails.drop_lead.Goals as goal

pub returns : goal.returns
returns g c =
    let is =
    lead_dropped g.F.Field.ORDER g.O.MonoOrder.cmp g.met.O.MonoOrder.laws DEGREE_LIMIT c.args.tails.now.items c.args.i c.requires.ordered c.requires.top c.drop_first_of.new.tails.items c.drop_first_of.ensures in
    record { ordered = is.0; rest = is.1; fewer = is.2 }
