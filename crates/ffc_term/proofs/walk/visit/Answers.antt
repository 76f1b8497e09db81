use Rattle.std.proofs.Common.{inl}
use Rattle.std.proofs.lemmas.List.Elements.{Contains-get_or}
use Rattle.ffc_term.specs.Nodes.{children}
use Rattle.ffc_term.proofs.walk.visit.Goals as goal

pub mark_children-requires : goal.mark_children-requires
mark_children-requires c = λ k d inside. c.requires.within _ (inl (Contains-get_or (children c.args.node.now) k d inside))
