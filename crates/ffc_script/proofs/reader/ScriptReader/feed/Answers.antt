use Rattle.std.proofs.Common.{false, sym, subst}
use Rattle.ffc_script.specs.Kept.{IsKept}
use Rattle.ffc_script.proofs.KeptLemmas.{kept_fed}
use Rattle.ffc_script.proofs.ReaderLemmas.{open_now, kept_now}
use Rattle.ffc_script.proofs.reader.ScriptReader.feed.Goals as goal
use Rattle.ffc_script.proofs.reader.ScriptReader.feed.Goals.{in-Ok, in-Err-Memory}

pub invariant_of-self : goal.invariant_of-self
invariant_of-self c =
    let i = c.self.inside in
    let over = open_now i.lexer i.context i.over c.args.self.now c.self.view_is c.requires c.self.invariant in
    let kept = kept_now i.lexer i.context i.over c.args.self.now c.self.view_is c.requires c.self.invariant in
    elim c.match-feed.branch [
      | in-Ok w ↦
          let ok = w.in-Ok.ensures.ok in
          subst (IsKept c.feed.new.self i.context) (sym over) (subst (λ l. IsKept l i.context false) (sym ok.1) (kept_fed i.lexer i.context kept c.args.piece.now))
      | in-Err-Memory w ↦
          let stop = w.in-Err-Memory.ensures.stop in
          subst (λ l. IsKept l i.context i.over) (sym stop.0) c.self.invariant
    ]
