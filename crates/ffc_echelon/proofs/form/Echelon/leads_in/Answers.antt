use Rattle.std.proofs.Common.{◌≡◌, Some, None, List, ap, sym, ◌∙◌, subst}
use Rattle.std.proofs.lemmas.Bool.{false≢true}
use Rattle.std.specs.Prelude.{◌↔◌, IsTrue, slice_get}
use Rattle.std.proofs.lemmas.Option.{slice_get-get_or}
use Rattle.ffc_echelon.specs.Forms.{Kept, LeadsIn}
use Rattle.ffc_echelon.specs.Progress.{AreLeads}
use Rattle.ffc_echelon.proofs.Spanning.{leads_by_table, leads_past_table}
use Rattle.ffc_echelon.proofs.form.Echelon.leads_in.Goals as goal

pub returns-in-Some : goal.returns-in-Some
returns-in-Some g c =
    let leads = c.deref.result.now in
    let column = c.args.column in
    let kept = c.args.self.now.kept in
    let found = c.in-Some.ensures.lookup.3 in
    let at : slice_get leads column ≡ Some c.in-Some.lead.now = slice_get-get_or leads column None found.0 ∙ ap Some (sym (found.1 None)) in
    let table : AreLeads c.self.inside.unknowns kept leads =
    subst (λ (k : List Kept). AreLeads c.self.inside.unknowns k leads) (ap (λ f. f.kept) c.self.view_is)
    (subst (AreLeads c.self.inside.unknowns c.self.inside.rows.items) (sym c.deref.ensures.value) c.self.invariant.1) in
    subst (λ b. IsTrue b ↔ LeadsIn kept column) (sym c.is_some.ensures) (leads_by_table c.self.inside.unknowns kept leads column c.in-Some.lead.now table at)

pub returns-in-None : goal.returns-in-None
returns-in-None g c =
    let leads = c.deref.result.now in
    let kept = c.args.self.now.kept in
    let table : AreLeads c.self.inside.unknowns kept leads =
    subst (λ (k : List Kept). AreLeads c.self.inside.unknowns k leads) (ap (λ f. f.kept) c.self.view_is)
    (subst (AreLeads c.self.inside.unknowns c.self.inside.rows.items) (sym c.deref.ensures.value) c.self.invariant.1) in
    (λ claimed. absurd (false≢true claimed), λ found. absurd (leads_past_table c.self.inside.unknowns kept leads c.args.column table c.in-None.ensures.lookup.3 found))
