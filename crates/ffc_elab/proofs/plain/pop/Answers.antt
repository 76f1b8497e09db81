use Rattle.std.proofs.Common.{nat_lt, not, sym, ap, ◌∙◌, Ok, Err}
use Rattle.ffc_smt.specs.Trees.{items_of}
use Rattle.ffc_smt.specs.Terms as smt
use Rattle.ffc_smt.specs.Scopes.{level_of}
use Rattle.ffc_words.specs.Words.{fault_of}
use Rattle.ffc_elab.specs.Reading.{result_as, up_to}
use Rattle.ffc_elab.proofs.PlainLemmas.{levels_command}
use Rattle.ffc_elab.proofs.DispatchLemmas.{pop_test}
use Rattle.ffc_elab.proofs.plain.pop.Goals as goal

pub returns-in-Ok-clause-reads : goal.returns-in-Ok-clause-reads
returns-in-Ok-clause-reads c = λ s items closing level at order.
    levels_command smt.Pop (up_to (c.args.level)) (λ n. not (nat_lt (level_of s) n)) closing (items_of items) (Ok c.in-Ok.count)
    (λ n. pop_test c.args.level n ∙ ap (λ k. not (nat_lt k n)) (sym level))
    (sym (ap (result_as (λ n. n)) c.in-Ok.is) ∙ c.levels.ensures.reads items closing at order)

pub returns-in-Err-clause-reads : goal.returns-in-Err-clause-reads
returns-in-Err-clause-reads c = λ s items closing level at order.
    levels_command smt.Pop (up_to (c.args.level)) (λ n. not (nat_lt (level_of s) n)) closing (items_of items) (Err (fault_of c.in-Err.fault))
    (λ n. pop_test c.args.level n ∙ ap (λ k. not (nat_lt k n)) (sym level))
    (sym (ap (result_as (λ n. n)) c.in-Err.is) ∙ c.levels.ensures.reads items closing at order)
