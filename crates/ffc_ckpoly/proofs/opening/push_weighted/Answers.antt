use Rattle.std.proofs.Common.{◌≡◌, ◌+◌, ◌*◌, ◌%◌, ◌++◌, ◌∷◌, [], get_or, take, drop, refl, sym, ap, ◌∙◌, subst, append-nil, append_assoc, take_all}
use Rattle.std.proofs.lemmas.List.{take_more}
use Rattle.std.proofs.Math.Nat.{mod-mod}
use Rattle.ffc_ring.specs.Polynomial.{SamePolynomial, written}
use Rattle.ffc_trees.specs.NodePolynomials.{node_polys, poly_in}
use Rattle.ffc_ckpoly.specs.Parts.{weighted, owed}
use Rattle.ffc_ckpoly.specs.Opening.{waiting_ids}
use Rattle.ffc_ckpoly.proofs.Lists.{left_at, get_or-any}
use Rattle.ffc_ckpoly.proofs.SortedLemmas.{nothing_past}
use Rattle.ffc_ckpoly.proofs.PartLemmas.{part_added}
use Rattle.ffc_ckpoly.proofs.OpeningLemmas.{owed-push, waiting_ids-push}
use Rattle.ffc_ckpoly.proofs.opening.push_weighted.Goals as goal

pub loop-id-preserved : goal.loop-id-preserved
loop-id-preserved g c =
    let value = g.F.Field.value in
    let p = g.F.Field.ORDER in
    let nodes = c.args.table.now in
    let polys = node_polys nodes in
    let ids = c.args.ids.now in
    let i = c.loop-id.id-index in
    let id = get_or ids i 0 in
    let left = left_at ids i id c.loop-id-test.true (get_or-any ids i 0 id c.loop-id-test.true) in
    let w = c.loop-id.weight in
    let r = value c.args.ratio in
    let old = c.loop-id.waiting.items in
    let new = c.push.new.self.items in
    let all = owed value polys c.args.waiting.now.items ++ weighted (value c.args.first) r polys ids in
    let pushed : new ≡ old ++ (w, id) ∷ [] = c.in_ok-push.ensures.items in
    let so_far : SamePolynomial p (owed value polys old ++ weighted (value w) r polys (id ∷ drop (i + 1) ids)) all = subst (λ l. SamePolynomial p (owed value polys old ++ weighted (value w) r polys l) all) left c.loop-id.invariant.owed in
    record {
      nodes = waiting_ids-push old new (w, id) pushed ∙ ap (λ l. l ++ id ∷ []) c.loop-id.invariant.nodes
          ∙ append_assoc (waiting_ids c.args.waiting.now.items) (take i ids) (id ∷ [])
          ∙ ap (λ l. waiting_ids c.args.waiting.now.items ++ l) (sym (take_more ids i 0 c.loop-id-test.true));
      owed = part_added p (value w) (value c.mul-weight.result) r polys id (drop (i + 1) ids) (owed value polys new) (owed value polys old) (poly_in polys id) all
          (ap (λ k. k % p) c.mul-weight.ensures ∙ mod-mod (value w * r) p)
          (λ m. ap (λ ts. written ts m % p) (ap (owed value polys) pushed ∙ owed-push value polys old w id)) (λ m. refl) so_far;
    }

pub returns-clause-waiting : goal.returns-clause-waiting
returns-clause-waiting g c = c.loop-id.invariant.nodes ∙ ap (λ l. waiting_ids c.args.waiting.now.items ++ l) (take_all c.loop-id.id-index c.args.ids.now c.loop-id-test.false)

pub returns-clause-owed : goal.returns-clause-owed
returns-clause-owed g c m =
    let value = g.F.Field.value in
    let p = g.F.Field.ORDER in
    let polys = node_polys c.args.table.now in
    let ids = c.args.ids.now in
    let now = owed value polys c.loop-id.waiting.items in
    ap (λ ts. written ts m % p) (sym (append-nil now) ∙ ap (λ l. now ++ weighted (value c.loop-id.weight) (value c.args.ratio) polys l) (sym (nothing_past c.loop-id.id-index ids c.loop-id-test.false)))
    ∙ c.loop-id.invariant.owed m
