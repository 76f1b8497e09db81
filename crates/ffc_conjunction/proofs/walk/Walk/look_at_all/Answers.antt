use Rattle.std.proofs.Common.{◌≡◌, ◌+◌, ◌-◌, ◌<◌, ◌∷◌, false, length, take, drop, get_or, sym, ap, ◌∙◌, subst, arith, take-append-drop}
use Rattle.std.proofs.lemmas.List.{drop_more}
use Rattle.ffc_conjunction.specs.Walks.{are_plain, Walks}
use Rattle.ffc_conjunction.proofs.WalkLemmas.{stops_before}
use Rattle.ffc_conjunction.proofs.walk.Walk.look_at_all.Goals as goal

pub returns-then-not-branch : goal.returns-then-not-branch
returns-then-not-branch c = λ k ids same w.
    let nodes = c.args.nodes.now in
    let i = c.loop-k.k in
    let x = get_or nodes (i - 1) 0 in
    let inside : i - 1 < length nodes = omega (arith, c.loop-k.invariant.within, c.loop-k-test.true) in
    let one : i - 1 + 1 ≡ i = omega (arith, c.loop-k-test.true) in
    let front : drop (i - 1) nodes ≡ x ∷ drop i nodes = drop_more nodes (i - 1) 0 inside ∙ ap (λ j. x ∷ drop j nodes) one in
    let off : are_plain k.nodes ids (x ∷ drop i nodes) ≡ false =
    subst (Walks k ids (x ∷ drop i nodes) c.look_at.new.self) c.if-not-branch.true (c.in_ok-look_at.ensures.walks k ids (drop i nodes) same (c.loop-k.invariant.walk k ids same w)) in
    sym (ap (are_plain k.nodes ids) (take-append-drop (i - 1) nodes))
    ∙ stops_before k.nodes ids (take (i - 1) nodes) (drop (i - 1) nodes) (ap (are_plain k.nodes ids) front ∙ off)
