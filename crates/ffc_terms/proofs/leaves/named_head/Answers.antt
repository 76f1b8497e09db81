use Rattle.std.proofs.Common.{Ok, sym, ap, ◌∙◌}
use Rattle.ffc_terms.specs.declared.leaves.Head.TheVariants as heads
use Rattle.ffc_terms.specs.declared.callees.Callee.TheVariants as callee
use Rattle.ffc_terms.specs.Leaves.{function_head}
use Rattle.ffc_terms.proofs.HeadLemmas.{function_back}
use Rattle.ffc_terms.proofs.leaves.named_head.Goals as goal

pub returns-in-Some : goal.returns-in-Some
returns-in-Some c = ap (λ f. Ok (heads.Callee (callee.Function f))) (sym (function_back c.in-Some.op)) ∙ ap (function_head _) c.in-Some.ensures
