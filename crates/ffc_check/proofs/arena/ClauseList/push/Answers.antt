use Rattle.std.proofs.Common.{◌≡◌, ◌++◌, ◌∷◌, [], length, take, ap, ◌∙◌}
use Rattle.ffc_check.specs.Arena.{last_end}
use Rattle.ffc_check.proofs.ArenaLemmas.{IsArena-push, clauses_in-more}
use Rattle.ffc_check.proofs.arena.ClauseList.push.Goals as goal
use Rattle.ffc_check.proofs.arena.ClauseList.push.Goals.{In_ok-push}

-- what was appended, and where
last : (c : In_ok-push) → c.last_end-end.result ≡ last_end 0 c.self.inside.ends.items
last c = c.last_end-end.ensures ∙ ap (last_end 0) c.as_slice.ensures.value

appended : (c : In_ok-push) → c.append.new.buffer.items ≡ take c.last_end-end.result c.self.inside.literals.items ++ c.args.clause.now
appended c = c.in_ok-append.ensures.ok ∙ ap (λ xs. xs ++ c.args.clause.now) c.truncate.ensures.items

pushed : (c : In_ok-push) → c.push.new.self.items ≡ c.self.inside.ends.items ++ length c.append.new.buffer.items ∷ []
pushed c = c.in_ok-push.ensures.items ∙ ap (λ n. c.self.inside.ends.items ++ n ∷ []) (c.len.ensures ∙ c.append.new.buffer.ok.0)

pub invariant_of-self-2 : goal.invariant_of-self-2
invariant_of-self-2 c =
    IsArena-push c.self.inside.literals.items c.append.new.buffer.items c.args.clause.now c.self.inside.ends.items c.push.new.self.items c.last_end-end.result c.self.invariant (last c) (appended c) (pushed c)

pub returns : goal.returns
returns c =
    clauses_in-more c.self.inside.literals.items c.append.new.buffer.items c.args.clause.now c.self.inside.ends.items c.push.new.self.items c.last_end-end.result c.self.invariant (last c) (appended c) (pushed c)
    ∙ ap (λ all. all ++ c.args.clause.now ∷ []) c.self.view_is
