use Rattle.std.proofs.Common.{◌<◌, ◌≤◌, ◌∙◌, arith}
use Rattle.std.proofs.lemmas.Result.{IfOk-weaker}
use Rattle.ffc_ring.specs.Polynomial.{SamePolynomial, difference}
use Rattle.ffc_trees.specs.Normal.{IsNormal, degree_of}
use Rattle.ffc_trees.specs.NodePolynomials.{poly_at}
use Rattle.ffc_trees.specs.Same.{IsSameLine}
use Rattle.ffc_ckpoly.proofs.DegreeLemmas.{degree_of_difference}
use Rattle.ffc_ckpoly.proofs.PartLemmas.{at_some, difference_alike, known_low, if_both}
use Rattle.ffc_ckpoly.proofs.nodes.known_difference.Goals as goal

pub returns-clause-difference : goal.returns-clause-difference
returns-clause-difference g c =
    let p = g.F.Field.ORDER in
    let some : 0 < p = omega (arith, g.met.F.Field.prime.least) in
    let nodes = c.args.table.now in
    let s = c.args.s in
    let t = c.args.t in
    let x = c.index.result.now in
    let y = c.index-2.result.now in
    let left : IsSameLine p x (poly_at nodes s) = at_some (λ f. IsSameLine p f (poly_at nodes s)) _ x c.index.ensures (c.requires.known s) in
    let right : IsSameLine p y (poly_at nodes t) = at_some (λ f. IsSameLine p f (poly_at nodes t)) _ y c.index-2.ensures (c.requires.known t) in
    IfOk-weaker c.sub.result _ (λ r. SamePolynomial p r (difference p (poly_at nodes s) (poly_at nodes t)))
    (λ r h m. h m ∙ difference_alike p x y (poly_at nodes s) (poly_at nodes t) left.same right.same m) c.sub.ensures.difference

pub returns-clause-low : goal.returns-clause-low
returns-clause-low g c =
    let p = g.F.Field.ORDER in
    let some : 0 < p = omega (arith, g.met.F.Field.prime.least) in
    let nodes = c.args.table.now in
    let s = c.args.s in
    let t = c.args.t in
    let x = c.index.result.now in
    let y = c.index-2.result.now in
    let left : IsSameLine p x (poly_at nodes s) = at_some (λ f. IsSameLine p f (poly_at nodes s)) _ x c.index.ensures (c.requires.known s) in
    let right : IsSameLine p y (poly_at nodes t) = at_some (λ f. IsSameLine p f (poly_at nodes t)) _ y c.index-2.ensures (c.requires.known t) in
    if_both (λ r. SamePolynomial p r (difference p x y)) (IsNormal p) (λ r. degree_of r ≤ 255) c.sub.result
    (λ r same n. degree_of_difference 255 p r x y some n same (known_low nodes p s x some c.len-nodes.ensures.valid c.requires.left left) (known_low nodes p t y some c.len-nodes.ensures.valid c.requires.right right)) c.sub.ensures.difference c.sub.ensures.normal
