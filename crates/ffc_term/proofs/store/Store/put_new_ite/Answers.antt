use Rattle.ffc_term.proofs.IteLemmas.{first_fits, second_fits, same_ok, other_ok, take_front}
use Rattle.ffc_term.proofs.store.Store.put_new_ite.Goals as goal

pub put-requires-2-clause-fits : goal.put-requires-2-clause-fits
put-requires-2-clause-fits c =
    first_fits c.args.self.now c.args.c c.args.a c.args.b c.requires.valid c.requires.fits c.requires.new c.requires.room _ _ c.in_ok-id.ensures.ok

pub put-requires-3-clause-fits : goal.put-requires-3-clause-fits
put-requires-3-clause-fits c =
    second_fits c.args.self.now c.args.c c.args.a c.args.b c.requires.valid c.requires.fits c.requires.new c.requires.room _ _ _ _ c.in_ok-id.ensures.ok c.in_ok-put.ensures.ok

pub returns-then-a-b-clause-ok : goal.returns-then-a-b-clause-ok
returns-then-a-b-clause-ok c =
    same_ok c.args.self.now c.args.c c.args.a c.args.b c.requires.valid c.requires.fits c.requires.new c.requires.room _ _ _ _ c.if-a-b.true c.in_ok-id.ensures.ok c.in_ok-put.ensures.ok

pub returns-clause-ok : goal.returns-clause-ok
returns-clause-ok c =
    other_ok c.args.self.now c.args.c c.args.a c.args.b c.requires.valid c.requires.fits c.requires.new c.requires.room _ _ _ _ _ _ c.if-a-b.false c.in_ok-id.ensures.ok c.in_ok-put.ensures.ok c.in_ok-put-2.ensures.ok

pub returns-clause-front : goal.returns-clause-front
returns-clause-front c =
    take_front _ _ _ (other_ok c.args.self.now c.args.c c.args.a c.args.b c.requires.valid c.requires.fits c.requires.new c.requires.room _ _ _ _ _ _ c.if-a-b.false c.in_ok-id.ensures.ok c.in_ok-put.ensures.ok c.in_ok-put-2.ensures.ok).0
