use Rattle.std.proofs.Common.{rules, ◌≡◌, ◌++◌, ◌∷◌, [], length, map, reverse, Some, None, refl, sym, ap, ◌∙◌}
use Rattle.ffc_terms.specs.Callees.{macro_at}
use Rattle.ffc_terms.specs.declared.scope.Macro.{Macro}
use Rattle.std.proofs.lemmas.List.{map-append}
use Rattle.ffc_making.specs.Machine.{saved}
use Rattle.ffc_making.proofs.StepLemmas.{callee_found, macro_found, on_ok, same_making}
use Rattle.ffc_making.proofs.making.Maker.call.Goals as goal

pub unreachable-requires : goal.unreachable-requires
unreachable-requires c =
    let none : macro_at c.args.symbols.now c.args.place ≡ None = search rules in
    macro_found c.args.symbols.now c.args.place c.requires none

pub returns : goal.returns
returns c = on_ok c.move_last.result c.move_last.ensures (λ moved callee kept ids there last.
    let stack_is : c.args.self.now.stack ≡ c.self.inside.stack.items = search rules in
    let locals_is : c.args.self.now.locals ≡ c.self.inside.locals.items = search rules in
    let found : Some c.in-Some.callee.now ≡ macro_at c.args.symbols.now c.args.place = search rules in
    let same = callee_found c.args.symbols.now c.args.place c.in-Some.callee.now callee found there in
    let m = moved kept ids (rw (← stack_is) last) in
    let rest_is : c.deref-self-inside.result.now ≡ c.in-Some.callee.now.code.items = search rules in
    let base_is : c.len-self-inside.result ≡ length c.args.self.now.locals = search rules in
    let calls_were : c.args.self.now.calls ≡ map (λ r. saved r.rest.now r.base) c.self.inside.calls.items = search rules in
    let pushed : c.push.new.self.items ≡ c.self.inside.calls.items ++ record { rest = c.self.inside.rest; base = c.self.inside.base } ∷ [] = search rules in
    let rest_was : c.args.self.now.rest ≡ c.self.inside.rest.now = search rules in
    let base_was : c.args.self.now.base ≡ c.self.inside.base = search rules in
    let calls_is : map (λ r. saved r.rest.now r.base) c.push.new.self.items ≡ c.args.self.now.calls ++ saved c.args.self.now.rest c.args.self.now.base ∷ [] =
    ap (map (λ r. saved r.rest.now r.base)) pushed ∙ map-append (λ r. saved r.rest.now r.base) c.self.inside.calls.items _
    ∙ rw (← calls_were, ← rest_was, ← base_was) refl in
    same_making _ _ _ _ _ _ _ _ _ _ (rest_is ∙ ap (λ (x : Macro). x.code.items) same) base_is calls_is m.0 (m.1 ∙ ap (λ l. l ++ reverse ids) (sym locals_is)))
