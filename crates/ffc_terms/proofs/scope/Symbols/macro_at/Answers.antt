use Rattle.std.proofs.Common.{◌≤◌, length, rules, sym, ap}
use Rattle.ffc_terms.specs.Callees.{as_macro}
use Rattle.ffc_terms.proofs.SlotLemmas.{at_slot_past}
use Rattle.ffc_terms.proofs.scope.Symbols.macro_at.Goals as goal

pub returns-then-place-len : goal.returns-then-place-len
returns-then-place-len c =
    let past : length c.args.self.now.terms ≤ c.args.place = search rules in
    ap as_macro (sym (at_slot_past c.args.self.now.terms c.args.place past))
