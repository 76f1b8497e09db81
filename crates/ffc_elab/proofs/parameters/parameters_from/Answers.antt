use Rattle.std.proofs.Common.{◌≤◌, ◌-◌, ◌^◌, length, refl, sym, ◌∙◌, ◌<◌, arith}
use Rattle.ffc_elab.proofs.ParameterLists.{begins, ends, stops_at, goes_on, goes_further}
use Rattle.ffc_elab.proofs.ParameterReading.{items_inside}
use Rattle.ffc_elab.proofs.parameters.parameters_from.Goals as goal

pub loop-init : goal.loop-init
loop-init c = λ s items closing rest sorts at order.
    (begins s c.args.words.now c.args.at items closing rest at order c.new-read.result c.new-read.ensures.0 c.new-read.ensures.1, omega arith)

pub returns-in-RightParen : goal.returns-in-RightParen
returns-in-RightParen c = λ s items closing rest sorts at order.
    let words = c.args.words.now in
    let few : length words ≤ 2 ^ 64 - 1 = omega (arith, c.len-count.ensures, c.len-count.type_inv) in
    let h = c.loop.invariant s items closing rest sorts at order in
    ends s words c.args.at items closing rest c.args.sorts.now sorts c.loop.read c.loop.next h.0 (sym c.kind.ensures ∙ c.in-RightParen.is) few c.saturating_add.result c.saturating_add.ensures

pub returns-in-Err : goal.returns-in-Err
returns-in-Err c = λ s items closing rest sorts at order.
    let h = c.loop.invariant s items closing rest sorts at order in
    stops_at s c.args.words.now c.args.at items closing rest c.args.sorts.now sorts c.loop.read c.loop.next (λ e. c.in_default.not-RightParen (c.kind.ensures ∙ e)) c.loop.read c.read_next.new.self c.in-Err.stop refl h.0
    (λ t more tree. c.in-Err.ensures t more tree h.0.order)

pub loop-preserved : goal.loop-preserved
loop-preserved c = λ s items closing rest sorts at order.
    let words = c.args.words.now in
    let h = c.loop.invariant s items closing rest sorts at order in
    let further : c.loop.next < c.in-Ok.after =
    goes_further s words c.args.at items closing rest c.loop.read c.read_next.new.self c.loop.next c.in-Ok.after h.0 (λ e. c.in_default.not-RightParen (c.kind.ensures ∙ e)) c.args.sorts.now (λ t more tree. c.in-Ok.ensures t more tree h.0.order) in (
      goes_on s words c.args.at items closing rest c.args.sorts.now sorts c.loop.read c.loop.next (λ e. c.in_default.not-RightParen (c.kind.ensures ∙ e)) c.loop.read c.read_next.new.self c.in-Ok.after refl h.0
          (λ t more tree. c.in-Ok.ensures t more tree h.0.order),
      omega (arith, further, h.1),
    )

pub returns : goal.returns
returns c = λ s items closing rest sorts at order.
    let h = c.loop.invariant s items closing rest sorts at order in
    let inside = items_inside c.args.words.now c.loop.next h.0.left closing rest h.0.here in
    absurd (omega (arith, inside, h.1))
