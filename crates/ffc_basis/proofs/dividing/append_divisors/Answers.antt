use Rattle.std.proofs.Common.{◌≡◌, ◌<◌, ◌++◌, ◌∷◌, [], List, ℕ, All, get_or, length, sym, ap, ◌∙◌, subst}
use Rattle.std.proofs.lemmas.List.Elements.{All-push}
use Rattle.ffc_basis.proofs.dividing.append_divisors.Goals as goal
use Rattle.ffc_basis.proofs.dividing.append_divisors.Goals.{in-Some+then-divides+in_ok-push, in-Some+else-divides, in_default}

pub loop-number-preserved : goal.loop-number-preserved
loop-number-preserved g c =
    let lines = c.args.lines.now in
    let number = get_or c.args.numbers.now c.loop-number.number-index 0 in
    let below : number < length lines = c.requires.numbers c.loop-number.number-index 0 c.loop-number-test.true in
    let Within : List ℕ → Type 0 = All (λ i. i < length lines) in
    elim c.match-lead.branch [
      | in-Some+then-divides+in_ok-push w ↦
          let e : c.match-lead.found.items ≡ c.loop-number.found.items ++ number ∷ [] = ap (λ v. v.items) w.found-is ∙ w.in_ok-push.ensures.items in
          subst Within (sym e) (All-push (λ i. i < length lines) c.loop-number.found.items number c.loop-number.invariant below)
      | in-Some+else-divides w ↦ subst Within (sym (ap (λ v. v.items) w.found-is)) c.loop-number.invariant
      | in_default w ↦ subst Within (sym (ap (λ v. v.items) w.found-is)) c.loop-number.invariant
    ]
