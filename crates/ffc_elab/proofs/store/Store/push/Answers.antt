use Rattle.std.proofs.Common.{◌≡◌, ◌+◌, ◌-◌, ◌++◌, replicate, take, ap, ◌∙◌, arith}
use Rattle.ffc_smt.specs.Scopes.{empty_level}
use Rattle.ffc_elab.specs.Kept.{mark_of}
use Rattle.ffc_elab.proofs.LevelLemmas.{levels_more, level_count, filled_up}
use Rattle.ffc_elab.proofs.store.Store.push.Goals as goal

pub returns-clause-ok : goal.returns-clause-ok
returns-clause-ok c = λ k few h.
    let x = c.args.self.now in
    let count = level_count k x h in
    let levels : c.saturating_add-levels.result ≡ x.marks.len + c.args.count = omega (arith, c.saturating_add-levels.ensures, c.len.ensures, count, few, x.marks.ok.0) in
    levels_more k c.args.count x c.resize.new.self few h
    (filled_up x.marks.items c.resize.new.self.items (mark_of empty_level) c.args.count x.marks.len c.saturating_add-levels.result
    (c.in_ok-resize.ensures.items ∙ ap (λ m. take c.saturating_add-levels.result x.marks.items ++ replicate (c.saturating_add-levels.result - x.marks.len) m) c.new.ensures) (omega (arith, x.marks.ok.0)) levels)
