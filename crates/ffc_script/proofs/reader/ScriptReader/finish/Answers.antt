use Rattle.std.proofs.Common.{◌≡◌, true, refl, ap, sym, subst, ◌∙◌, OnOk, IfErr}
use Rattle.ffc_script.specs.Answers.{SaysAll, EndsAt}
use Rattle.ffc_script.proofs.KeptLemmas.{kept_over}
use Rattle.ffc_script.proofs.ReaderLemmas.{kept_now, all_read, says_all, end_text, end_stops}
use Rattle.ffc_script.proofs.reader.ScriptReader.finish.Goals as goal
use Rattle.ffc_script.proofs.reader.ScriptReader.finish.Goals.{in-Ok, in-Err}

pub finish-requires : goal.finish-requires
finish-requires c = let i = c.self.inside in all_read i.lexer i.context i.over c.args.self.now c.self.view_is c.requires.going c.self.invariant c.requires

pub invariant_of-self : goal.invariant_of-self
invariant_of-self c =
    let i = c.self.inside in
    let kept = kept_now i.lexer i.context i.over c.args.self.now c.self.view_is c.requires.going c.self.invariant in
    elim c.match-finish.branch [
      | in-Ok w ↦ let ok = w.in-Ok.ensures.ok in kept_over i.lexer i.context kept c.finish.new.self (ap (λ l. l.text) ok.1)
      | in-Err w ↦
          kept_over i.lexer i.context kept c.finish.new.self
          (end_text i.lexer i.context i.over c.args.self.now c.self.view_is c.requires.going c.self.invariant c.requires c.finish.new.self w.in-Err.stop w.in-Err.ensures.stop)
    ]

pub returns-clause-ok : goal.returns-clause-ok
returns-clause-ok c =
    let i = c.self.inside in
    elim c.match-finish.branch [
      | in-Ok w ↦
          let ok = w.in-Ok.ensures.ok in
          subst (λ r. OnOk r (SaysAll c.args.self.now)) (sym w.result-is) (says_all i.lexer i.context i.over c.args.self.now c.self.view_is c.requires.going c.self.invariant c.requires ok.0)
      | in-Err w ↦ subst (λ r. OnOk r (SaysAll c.args.self.now)) (sym w.result-is) tt
    ]

pub returns-clause-stop : goal.returns-clause-stop
returns-clause-stop c =
    let i = c.self.inside in
    elim c.match-finish.branch [
      | in-Ok w ↦ subst (λ r. IfErr r (EndsAt c.args.self.now)) (sym w.result-is) tt
      | in-Err w ↦
          subst (λ r. IfErr r (EndsAt c.args.self.now)) (sym w.result-is)
          (subst (EndsAt c.args.self.now) (sym w.from.ensures)
          (end_stops i.lexer i.context i.over c.args.self.now c.self.view_is c.requires.going c.self.invariant c.requires c.finish.new.self w.in-Err.stop w.in-Err.ensures.stop))
    ]
