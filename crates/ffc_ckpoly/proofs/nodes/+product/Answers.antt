use Rattle.std.proofs.Common.{◌≡◌, ◌+◌, ◌≤◌, ◌<◌, ◌%◌, ◌++◌, ◌∷◌, [], get_or, sum_by, All, refl, sym, ap, ap₂, ◌∙◌, subst, arith, rules, take-append-drop}
use Rattle.std.proofs.lemmas.List.Elements.{All-take, All-drop}
use Rattle.std.proofs.lemmas.List.Sums.{sum_by-append, sum_by-cons}
use Rattle.std.proofs.lemmas.Result.{IfOk-weaker}
use Rattle.ffc_ring.specs.Polynomial.{SamePolynomial, written, product}
use Rattle.ffc_term.specs.Tables.{IsFieldAt}
use Rattle.ffc_term.specs.Measuring.{degree_at}
use Rattle.ffc_trees.specs.Normal.{IsNormal, degree_of}
use Rattle.ffc_trees.specs.NodePolynomials.{node_polys, poly_at, product_of}
use Rattle.ffc_trees.specs.Same.{IsSameLine}
use Rattle.ffc_trees.proofs.BoundLemmas.{poly_at-bounded}
use Rattle.ffc_trees.proofs.SameLemmas.{one_degree}
use Rattle.ffc_ckpoly.specs.Opening.{IsThere}
use Rattle.ffc_ckpoly.proofs.Lists.{only_one, get_or-any}
use Rattle.ffc_ckpoly.proofs.DegreeLemmas.{degree_within, within_degree}
use Rattle.ffc_trees.proofs.ProductLemmas.{product_halves, product_single}
use Rattle.ffc_ckpoly.proofs.PartLemmas.{found_line, if_both, within-product}
use Rattle.ffc_ckpoly.proofs.nodes.+product.Goals as goal

pub product-requires-in_default : goal.product-requires-in_default
product-requires-in_default g t c κs within =
    let ids = c.args.ids.now in
    let front = c.split_at.result.0.now in
    let back = c.split_at.result.1.now in
    let field = IsFieldAt c.args.table.now g.F.Field.ORDER in
    let there = IsThere c.args.known.now c.args.made.now in
    let whole : front ++ back ≡ ids = ap₂ (λ a b. a ++ b) c.split_at.ensures.front c.split_at.ensures.back ∙ take-append-drop _ ids in
    let sums = sym (sum_by-append (degree_at c.args.table.now) front back) ∙ ap (sum_by (degree_at c.args.table.now)) whole in (
      omega (arith, c.decreases, c.split_at.ensures.back_len, c.split_at.ensures.front_len, c.in_default.len_at_least),
      (
        search rules,
        (
          c.requires.valid,
          (
            c.requires.known,
            (
              c.requires.made,
              (
                subst (All field) (sym c.split_at.ensures.back) (All-drop field _ ids c.requires.fields),
                (subst (All there) (sym c.split_at.ensures.back) (All-drop there _ ids c.requires.parts), omega (arith, sums, c.requires.low)),
              ),
            ),
          ),
        ),
      ),
    )

pub mul-requires : goal.mul-requires
mul-requires g t c =
    let ids = c.args.ids.now in
    let front = c.split_at.result.0.now in
    let back = c.split_at.result.1.now in
    let whole : front ++ back ≡ ids = ap₂ (λ a b. a ++ b) c.split_at.ensures.front c.split_at.ensures.back ∙ take-append-drop _ ids in
    let sums = sym (sum_by-append (degree_at c.args.table.now) front back) ∙ ap (sum_by (degree_at c.args.table.now)) whole in
    omega (arith, sums, c.requires.low, c.in_ok-left-in_default.ensures.degree, c.in_ok-right-in_default.ensures.degree)

pub returns-in-empty-clause-degree : goal.returns-in-empty-clause-degree
returns-in-empty-clause-degree g t c =
    let p = g.F.Field.ORDER in
    let one = (g.F.Field.value c.of.result, []) ∷ [] in
    if_both (λ r. SamePolynomial p r one) (IsNormal p) (λ r. degree_of r ≤ sum_by (degree_at c.args.table.now) c.args.ids.now) c.term.result
    (λ r same n. omega (arith, degree_within 0 p r one (omega (arith, g.met.F.Field.prime.least)) n same (omega arith, tt)))
    c.term.ensures.same c.term.ensures.normal

pub returns-in-Some-clause-same : goal.returns-in-Some-clause-same
returns-in-Some-clause-same g t c =
    let p = g.F.Field.ORDER in
    let nodes = c.args.table.now in
    let ids = c.args.ids.now in
    let id = get_or ids 0 0 in
    let f = c.in-Some.part.now in
    let one : ids ≡ id ∷ [] = only_one ids id c.in-len1.len_at_least c.in-len1.len_below (get_or-any ids 0 0 id (omega (arith, c.in-len1.len_at_least))) in
    let field : IsFieldAt nodes p id = c.requires.fields 0 0 (omega (arith, c.in-len1.len_at_least)) in
    let line : IsSameLine p f (poly_at nodes id) = found_line p nodes c.args.known.now c.args.made.now id f c.requires.known c.requires.made c.in-Some.ensures in
    IfOk-weaker c.copied.result (λ r. r ≡ f) (λ r. SamePolynomial p r (product_of (node_polys nodes) ids))
    (λ r same m. ap (λ ts. written ts m % p) same ∙ product_single nodes p c.requires.valid f id (id ∷ []) refl field line.same m
    ∙ ap (λ l. written (product_of (node_polys nodes) l) m % p) (sym one))
    c.copied.ensures.same

pub returns-in-Some-clause-degree : goal.returns-in-Some-clause-degree
returns-in-Some-clause-degree g t c =
    let p = g.F.Field.ORDER in
    let some : 0 < p = omega (arith, g.met.F.Field.prime.least) in
    let nodes = c.args.table.now in
    let ids = c.args.ids.now in
    let id = get_or ids 0 0 in
    let f = c.in-Some.part.now in
    let one : ids ≡ id ∷ [] = only_one ids id c.in-len1.len_at_least c.in-len1.len_below (get_or-any ids 0 0 id (omega (arith, c.in-len1.len_at_least))) in
    let field : IsFieldAt nodes p id = c.requires.fields 0 0 (omega (arith, c.in-len1.len_at_least)) in
    let line : IsSameLine p f (poly_at nodes id) = found_line p nodes c.args.known.now c.args.made.now id f c.requires.known c.requires.made c.in-Some.ensures in
    let all : sum_by (degree_at nodes) ids ≡ degree_at nodes id + 0 = ap (sum_by (degree_at nodes)) one ∙ sum_by-cons (degree_at nodes) id [] in
    IfOk-weaker c.copied.result (λ r. r ≡ f) (λ r. degree_of r ≤ sum_by (degree_at nodes) ids)
    (λ r same. omega (arith, ap degree_of same, one_degree p f (poly_at nodes id) some line, (poly_at-bounded nodes p id c.requires.valid field).0, all))
    c.copied.ensures.same

pub returns-in_ok-right-in_default-clause-same : goal.returns-in_ok-right-in_default-clause-same
returns-in_ok-right-in_default-clause-same g t c =
    let p = g.F.Field.ORDER in
    let nodes = c.args.table.now in
    let ids = c.args.ids.now in
    let front = c.split_at.result.0.now in
    let back = c.split_at.result.1.now in
    let x = c.in_ok-left-in_default.left in
    let y = c.in_ok-right-in_default.right in
    let whole : front ++ back ≡ ids = ap₂ (λ a b. a ++ b) c.split_at.ensures.front c.split_at.ensures.back ∙ take-append-drop _ ids in
    let first : All (IsFieldAt nodes p) front = subst (All (IsFieldAt nodes p)) (sym c.split_at.ensures.front) (All-take (IsFieldAt nodes p) _ ids c.requires.fields) in
    let second : All (IsFieldAt nodes p) back = subst (All (IsFieldAt nodes p)) (sym c.split_at.ensures.back) (All-drop (IsFieldAt nodes p) _ ids c.requires.fields) in
    IfOk-weaker c.mul.result (λ r. SamePolynomial p r (product x y)) (λ r. SamePolynomial p r (product_of (node_polys nodes) ids))
    (λ r made. product_halves nodes p c.requires.valid x y r front back ids first second whole c.in_ok-left-in_default.ensures.same c.in_ok-right-in_default.ensures.same made)
    c.mul.ensures.product

pub returns-in_ok-right-in_default-clause-degree : goal.returns-in_ok-right-in_default-clause-degree
returns-in_ok-right-in_default-clause-degree g t c =
    let p = g.F.Field.ORDER in
    let ids = c.args.ids.now in
    let front = c.split_at.result.0.now in
    let back = c.split_at.result.1.now in
    let x = c.in_ok-left-in_default.left in
    let y = c.in_ok-right-in_default.right in
    let whole : front ++ back ≡ ids = ap₂ (λ a b. a ++ b) c.split_at.ensures.front c.split_at.ensures.back ∙ take-append-drop _ ids in
    let sums = sym (sum_by-append (degree_at c.args.table.now) front back) ∙ ap (sum_by (degree_at c.args.table.now)) whole in
    if_both (λ r. SamePolynomial p r (product x y)) (IsNormal p) (λ r. degree_of r ≤ sum_by (degree_at c.args.table.now) ids) c.mul.result
    (λ r made n. omega (
      arith,
      sums,
      c.in_ok-left-in_default.ensures.degree,
      c.in_ok-right-in_default.ensures.degree,
      degree_within (degree_of x + degree_of y) p r (product x y) (omega (arith, g.met.F.Field.prime.least)) n made
          (within-product (degree_of x) (degree_of y) x y (within_degree x) (within_degree y)),
    ))
    c.mul.ensures.product c.mul.ensures.normal
