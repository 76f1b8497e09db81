use Rattle.std.proofs.Common.{◌≡◌, ◌-◌, take, drop, [], ◌∷◌, ◌++◌, length, option_to_list, refl, ap, ◌∙◌, arith}
use Rattle.ffc_elab.specs.declared.store.Store.{Store}
use Rattle.ffc_elab.proofs.LevelLemmas.{level_closed, level_less}
use Rattle.ffc_elab.proofs.store.Store.pop_level.Goals as goal

pub returns : goal.returns
returns c = λ s h.
    let x = c.args.self.now in
    let y : Store = record {
      alloc = x.alloc;
      logic = x.logic;
      options = x.options;
      marks = c.pop.new.self;
      symbols = record { terms = c.cut.new.self; sorts = c.cut-2.new.self };
      table = x.table;
      constants = x.constants;
      first = x.first;
      in_force = c.truncate-3.new.self;
      names = c.truncate-4.new.self;
      assumed = x.assumed;
      declared = c.truncate.new.self;
      declared_nodes = c.truncate-2.new.self;
    } in
    let mark = c.in-Some.mark in
    let marks : x.marks.items ≡ y.marks.items ++ mark ∷ [] = c.pop.ensures.items ∙ ap (λ o. y.marks.items ++ option_to_list o) c.in-Some.is in
    let names : c.saturating_sub-names.result ≡ length x.symbols.terms - mark.names = c.saturating_sub-names.ensures ∙ ap (λ n. n - mark.names) c.len.ensures in
    let sorts : c.saturating_sub-sorts.result ≡ length x.symbols.sorts - mark.sorts = c.saturating_sub-sorts.ensures ∙ ap (λ n. n - mark.sorts) c.len-2.ensures in
    let declared : c.saturating_sub-declared.result ≡ length x.declared.items - mark.declared = omega (arith, c.saturating_sub-declared.ensures, c.len-3.ensures, x.declared.ok.0) in
    let asserted : c.saturating_sub-asserted.result ≡ length x.in_force.items - mark.asserted = omega (arith, c.saturating_sub-asserted.ensures, c.len-4.ensures, x.in_force.ok.0) in
    level_closed s x y mark h marks (λ l ls k.
    level_less s l ls x y mark k marks refl refl refl refl refl refl
    (c.cut.ensures ∙ ap (λ n. drop (length x.symbols.terms - n) x.symbols.terms) names)
    (c.cut-2.ensures ∙ ap (λ n. drop (length x.symbols.sorts - n) x.symbols.sorts) sorts)
    (c.truncate.ensures.items ∙ ap (λ n. take n x.declared.items) declared)
    (c.truncate-2.ensures.items ∙ ap (λ n. take n x.declared_nodes.items) declared)
    (c.truncate-3.ensures.items ∙ ap (λ n. take n x.in_force.items) asserted)
    (c.truncate-4.ensures.items ∙ ap (λ n. take n x.names.items) asserted))
