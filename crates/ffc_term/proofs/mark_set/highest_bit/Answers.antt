use Rattle.std.proofs.Common.{refl}
use Rattle.ffc_term.proofs.MarkLemmas.{no_bit, bit_within, bit_set, none_above}
use Rattle.ffc_term.proofs.mark_set.highest_bit.Goals as goal

pub returns-then-bits-eq0-clause-none : goal.returns-then-bits-eq0-clause-none
returns-then-bits-eq0-clause-none c = no_bit c.args.word c.args.last c.requires _ refl c.if-bits-eq0.true

pub returns-clause-some : goal.returns-clause-some
returns-clause-some c =
    let r = c.ilog2.result in
    let least = c.ilog2.ensures.power_le in
    let most = c.ilog2.ensures.next_power_gt in (
      bit_within c.args.word c.args.last c.requires _ refl r least most,
      bit_set c.args.word c.args.last c.requires _ refl r least most,
      none_above c.args.word c.args.last c.requires _ refl r least most,
    )
