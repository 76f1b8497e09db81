use Rattle.std.proofs.Common.{◌≡◌, ℕ, Option, None, true, cond, is_some, rules, sym, ap, ◌∙◌}
use Rattle.std.specs.Str.{bytes_eq}
use Rattle.ffc_terms.specs.Slots.{indexed}
use Rattle.ffc_terms.proofs.IndexLemmas.{indexed_after, none_either}
use Rattle.ffc_terms.proofs.environment.set_back.Goals as goal

pub returns-in-None : goal.returns-in-None
returns-in-None c = λ other.
    indexed_after c.args.name.now c.args.index.now c.remove.new.self None c.remove.ensures.updates other
    ∙ ap (λ (x : Option ℕ). cond (bytes_eq c.args.name.now other) x (indexed c.args.index.now other))
    (sym (none_either (is_some (indexed c.args.index.now c.args.name.now))) ∙ ap (λ x. cond (is_some (indexed c.args.index.now c.args.name.now)) x None) (sym c.in-None.is))

pub returns-in-Some-get_mut : goal.returns-in-Some-get_mut
returns-in-Some-get_mut c = λ other.
    let some : is_some (indexed c.args.index.now c.args.name.now) ≡ true = search rules in
    indexed_after c.args.name.now c.args.index.now (c.get_mut.follows.lender c.in-Some.earlier) _ ((c.get_mut.follows.holds c.in-Some.earlier).3 (search rules)) other
    ∙ ap (λ (x : Option ℕ). cond (bytes_eq c.args.name.now other) x (indexed c.args.index.now other))
    (sym c.in-Some.is ∙ ap (λ b. cond b c.args.slot None) (sym some))
