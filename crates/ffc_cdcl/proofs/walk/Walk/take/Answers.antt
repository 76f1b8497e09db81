use Rattle.std.proofs.Common.{◌∷◌, [], ◌++◌, sym, subst}
use Rattle.ffc_clause.specs.Hints.{open_literals}
use Rattle.ffc_cdcl.specs.declared.walk.Opening.TheVariants as is
use Rattle.ffc_cdcl.specs.Walking.{Leads, IsAt}
use Rattle.ffc_cdcl.proofs.WalkLemmas.{said, open_leads, leads_push, contradiction_by}
use Rattle.ffc_cdcl.proofs.walk.Walk.take.Goals as goal

pub returns-in-Closed-opening_under : goal.returns-in-Closed-opening_under
returns-in-Closed-opening_under c start taken has =
    let inside = c.self.inside in
    let leads = open_leads start taken c.args.self.now inside.assumed inside.phase c.self.view_is c.in-Open.is has in
    contradiction_by start taken inside.assumed c.args.clause.now leads (said (open_literals inside.assumed c.args.clause.now) is.Closed c.in-Closed-opening_under.ensures)

pub returns-in_ok-assume-in-One : goal.returns-in_ok-assume-in-One
returns-in_ok-assume-in-One c start taken has =
    let inside = c.self.inside in
    let leads = open_leads start taken c.args.self.now inside.assumed inside.phase c.self.view_is c.in-Open.is has in
    let pushed = leads_push start taken inside.assumed c.args.clause.now c.in-One.literal leads (said (open_literals inside.assumed c.args.clause.now) (is.One c.in-One.literal) c.in-One.ensures) in
    subst (λ p. IsAt start (taken ++ c.args.clause.now ∷ []) c.assume.new.self p) (sym c.in-Open.is)
    (subst (λ a. Leads start (taken ++ c.args.clause.now ∷ []) a) (sym c.in_ok-assume-in-One.ensures) pushed)
