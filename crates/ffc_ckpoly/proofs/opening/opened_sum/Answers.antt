use Rattle.std.proofs.Common.{◌≡◌, ◌++◌, ◌∷◌, [], ◌%◌, All, sum_by, sym, ap, ◌∙◌, subst, arith, append-nil}
use Rattle.std.proofs.lemmas.Result.{IfOk-weaker}
use Rattle.ffc_ring.specs.Polynomial.{SamePolynomial, written}
use Rattle.ffc_trees.specs.NodePolynomials.{node_polys, poly_at}
use Rattle.ffc_ckpoly.specs.Parts.{owed}
use Rattle.ffc_ckpoly.specs.Opening.{size_at, waiting_ids, IsThere, IsOpenable}
use Rattle.ffc_ckpoly.proofs.PartLemmas.{all_one}
use Rattle.ffc_ckpoly.proofs.OpeningLemmas.{owed-push, owed_first, nothing_waits, waiting_ids-push, all_front, all_last, sum_by-push}
use Rattle.ffc_ckpoly.proofs.opening.opened_sum.Goals as goal

pub loop-item-init : goal.loop-item-init
loop-item-init g c =
    let one = c.of.result in
    let id = c.args.id in
    let P = IsOpenable c.args.table.now g.F.Field.ORDER (IsThere c.args.known.now c.args.made.now) in
    let items : c.push.new.self.items ≡ [] ++ (one, id) ∷ [] = c.in_ok-push.ensures.items ∙ ap (λ l. l ++ (one, id) ∷ []) c.new-waiting.ensures.items in
    record {
      nodes = subst (All P) (sym (waiting_ids-push [] c.push.new.self.items (one, id) items)) (all_one P id c.requires.node);
      owed = owed_first g.F.Field.value g.F.Field.ORDER (node_polys c.args.table.now) c.push.new.self.items one id c.new-sum.result c.new-sum.ensures items c.of.ensures;
    }

pub add_node-requires-clause-node : goal.add_node-requires-clause-node
add_node-requires-clause-node g c =
    let P = IsOpenable c.args.table.now g.F.Field.ORDER (IsThere c.args.known.now c.args.made.now) in
    let rest = c.pop.new.self.items in
    let item = c.in-Some.item in
    all_last P (waiting_ids rest) item.1 (subst (All P) (waiting_ids-push rest c.loop-item.waiting.items item c.in-Some.ensures.items) c.loop-item.invariant.nodes)

pub add_node-requires-clause-waiting : goal.add_node-requires-clause-waiting
add_node-requires-clause-waiting g c =
    let P = IsOpenable c.args.table.now g.F.Field.ORDER (IsThere c.args.known.now c.args.made.now) in
    let rest = c.pop.new.self.items in
    let item = c.in-Some.item in
    all_front P (waiting_ids rest) item.1 (subst (All P) (waiting_ids-push rest c.loop-item.waiting.items item c.in-Some.ensures.items) c.loop-item.invariant.nodes)

pub loop-item-smaller : goal.loop-item-smaller
loop-item-smaller g c =
    let size = size_at c.args.table.now in
    let rest = c.pop.new.self.items in
    let item = c.in-Some.item in
    omega (arith, c.in_ok-sum.ensures.less, ap (sum_by size) (waiting_ids-push rest c.loop-item.waiting.items item c.in-Some.ensures.items), sum_by-push size (waiting_ids rest) item.1)

pub loop-item-preserved : goal.loop-item-preserved
loop-item-preserved g c =
    let value = g.F.Field.value in
    let polys = node_polys c.args.table.now in
    let rest = c.pop.new.self.items in
    let item = c.in-Some.item in
    let joined = ap (owed value polys) c.in-Some.ensures.items ∙ owed-push value polys rest item.0 item.1 in
    record {
      nodes = c.in_ok-sum.ensures.waiting;
      owed = λ m. c.in_ok-sum.ensures.same m ∙ ap (λ ts. written (c.loop-item.sum ++ ts) m % g.F.Field.ORDER) (sym joined) ∙ c.loop-item.invariant.owed m;
    }

pub returns-clause-same : goal.returns-clause-same
returns-clause-same g c =
    let value = g.F.Field.value in
    let p = g.F.Field.ORDER in
    let polys = node_polys c.args.table.now in
    let none : c.loop-item.waiting.items ≡ [] = nothing_waits c.loop-item.waiting.items (omega (arith, c.in_default.ensures.cases, c.loop-item.waiting.ok)) in
    IfOk-weaker c.total.result (λ r. SamePolynomial p r c.loop-item.sum) (λ r. SamePolynomial p r (poly_at c.args.table.now c.args.id))
    (λ r h m. h m
    ∙ ap (λ ts. written ts m % p) (sym (append-nil c.loop-item.sum) ∙ ap (λ l. c.loop-item.sum ++ owed value polys l) (sym none))
    ∙ c.loop-item.invariant.owed m)
    c.total.ensures.sum
