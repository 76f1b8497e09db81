use Rattle.std.proofs.Common.{◌≡◌, [], is_some, sym, ap, ◌∙◌, Ok, Err}
use Rattle.ffc_smt.specs.Trees.{Leaf, items_of}
use Rattle.ffc_smt.specs.Faults.{last, item, read_map}
use Rattle.ffc_smt.specs.Meaning.{found}
use Rattle.ffc_smt.specs.Scopes.{scope_of}
use Rattle.ffc_smt.specs.Terms as smt
use Rattle.ffc_smt.specs.TermReading.{sort_read}
use Rattle.ffc_smt.specs.CommandReading.{fresh_read, is_taken, none_read}
use Rattle.ffc_words.specs.Words.{word_at, fault_of}
use Rattle.ffc_words.specs.Outcomes.{outcome}
use Rattle.ffc_elab.specs.Reading.{result_as, later_items}
use Rattle.ffc_elab.proofs.OutcomeLemmas.{next_order}
use Rattle.ffc_elab.proofs.ItemLemmas.{constants_there}
use Rattle.ffc_elab.proofs.NamingLemmas.{meanings_taken, naming_refused, naming_items, naming_sorted}
use Rattle.ffc_elab.proofs.declaring.declare_fun.Goals as goal

pub returns-in-Err : goal.returns-in-Err
returns-in-Err c = λ s items closing scope at order.
    let symbols = c.args.symbols.now in
    naming_refused smt.Declare (λ q. q.1.0) (λ name. is_some (found symbols.terms name)) (is_taken s) (λ name. meanings_taken s.nodes symbols.terms (scope_of s).names name scope.terms) (λ closing ts. item closing none_read (item closing (sort_read (scope_of s).sorts) last) ts) c.args.words.now items closing (constants_there (scope_of s).sorts) at order (fault_of c.in-Err.fault)
    (sym (ap (result_as (λ b. b.now)) c.in-Err.is) ∙ c.fresh_name.ensures)

pub returns-in-Err-constant_sort : goal.returns-in-Err-constant_sort
returns-in-Err-constant_sort c = λ s items closing scope at order.
    let symbols = c.args.symbols.now in
    let name : Ok c.in-Ok.name.now ≡ outcome (fresh_read (λ name. is_some (found symbols.terms name)) (Leaf (word_at c.args.words.now 2))) = sym (ap (result_as (λ b. b.now)) c.in-Ok.is) ∙ c.fresh_name.ensures in
    let later = naming_items smt.Declare (λ q. q.1.0) (λ name. is_some (found symbols.terms name)) (is_taken s) (λ name. meanings_taken s.nodes symbols.terms (scope_of s).names name scope.terms) (λ closing ts. item closing none_read (item closing (sort_read (scope_of s).sorts) last) ts) c.args.words.now items closing (constants_there (scope_of s).sorts) at order c.in-Ok.name.now name in
    naming_sorted smt.Declare (λ q. q.1.0) (λ name. is_some (found symbols.terms name)) (is_taken s) (λ name. meanings_taken s.nodes symbols.terms (scope_of s).names name scope.terms) (λ closing ts. item closing none_read (item closing (sort_read (scope_of s).sorts) last) ts) c.args.words.now items closing (constants_there (scope_of s).sorts) at order c.in-Ok.name.now (Err (fault_of c.in-Err-constant_sort.fault)) name
    (sym (ap (result_as (λ v. v)) c.in-Err-constant_sort.is) ∙ c.constant_sort.ensures (later_items items) closing later (next_order c.args.words.now 2 items closing [] at order)
    ∙ ap (λ sorts. outcome (read_map (λ q. q.1.0) (item closing none_read (item closing (sort_read sorts) last) (items_of (later_items items))))) scope.sorts)

pub returns-in-Ok-constant_sort : goal.returns-in-Ok-constant_sort
returns-in-Ok-constant_sort c = λ s items closing scope at order.
    let symbols = c.args.symbols.now in
    let name : Ok c.in-Ok.name.now ≡ outcome (fresh_read (λ name. is_some (found symbols.terms name)) (Leaf (word_at c.args.words.now 2))) = sym (ap (result_as (λ b. b.now)) c.in-Ok.is) ∙ c.fresh_name.ensures in
    let later = naming_items smt.Declare (λ q. q.1.0) (λ name. is_some (found symbols.terms name)) (is_taken s) (λ name. meanings_taken s.nodes symbols.terms (scope_of s).names name scope.terms) (λ closing ts. item closing none_read (item closing (sort_read (scope_of s).sorts) last) ts) c.args.words.now items closing (constants_there (scope_of s).sorts) at order c.in-Ok.name.now name in
    naming_sorted smt.Declare (λ q. q.1.0) (λ name. is_some (found symbols.terms name)) (is_taken s) (λ name. meanings_taken s.nodes symbols.terms (scope_of s).names name scope.terms) (λ closing ts. item closing none_read (item closing (sort_read (scope_of s).sorts) last) ts) c.args.words.now items closing (constants_there (scope_of s).sorts) at order c.in-Ok.name.now (Ok c.in-Ok-constant_sort.sort) name
    (sym (ap (result_as (λ v. v)) c.in-Ok-constant_sort.is) ∙ c.constant_sort.ensures (later_items items) closing later (next_order c.args.words.now 2 items closing [] at order)
    ∙ ap (λ sorts. outcome (read_map (λ q. q.1.0) (item closing none_read (item closing (sort_read sorts) last) (items_of (later_items items))))) scope.sorts)
