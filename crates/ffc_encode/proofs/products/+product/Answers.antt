use Rattle.std.proofs.Common.{◌≡◌, ◌++◌, ◌∷◌, [], get_or, All, sym, ap₂, ◌∙◌, subst, arith, rules, take-append-drop, sum_by}
use Rattle.std.proofs.Math.Nat.{mul-le-mul}
use Rattle.std.proofs.lemmas.List.Elements.{All-take, All-drop}
use Rattle.ffc_ring.specs.Polynomial.{SamePolynomial, product}
use Rattle.ffc_ring.proofs.PolynomialLemmas.{same_products}
use Rattle.ffc_term.specs.Tables.{IsFieldAt}
use Rattle.ffc_term.specs.Measuring.{degree_at}
use Rattle.ffc_trees.specs.NodePolynomials.{node_polys, poly_at, product_of}
use Rattle.ffc_encode.proofs.LimitLemmas.{terms_few, degree_low, length-product}
use Rattle.std.proofs.lemmas.Result.{IfOk-weaker}
use Rattle.ffc_encode.specs.Opening.{IsReady}
use Rattle.ffc_encode.proofs.PartLemmas.{front_factors, back_factors, degrees_split, lengths_split, product_low, product_short}
use Rattle.ffc_trees.proofs.ProductLemmas.{product_halves, product_single}
use Rattle.ffc_encode.proofs.WaitingLemmas.{only_one, get_or-any}
use Rattle.ffc_encode.proofs.products.+product.Goals as goal

pub factor-requires-clause-field : goal.factor-requires-clause-field
factor-requires-clause-field g t c = c.requires.factors.fields 0 0 (omega (arith, c.in-len1.len_at_least))

pub factor-requires-clause-there : goal.factor-requires-clause-there
factor-requires-clause-there g t c = c.requires.there 0 0 (omega (arith, c.in-len1.len_at_least))

pub returns-in-len1 : goal.returns-in-len1
returns-in-len1 g t c =
    let p = g.F.Field.ORDER in
    let nodes = c.args.table.now in
    let ids = c.args.ids.now in
    let id = get_or ids 0 0 in
    let one : ids ≡ id ∷ [] = only_one ids id c.in-len1.len_at_least c.in-len1.len_below (get_or-any ids 0 0 id (omega (arith, c.in-len1.len_at_least))) in
    let field : IsFieldAt nodes p id = c.requires.factors.fields 0 0 (omega (arith, c.in-len1.len_at_least)) in
    IfOk-weaker c.factor.result (λ r. SamePolynomial p r (poly_at nodes id)) (λ r. SamePolynomial p r (product_of (node_polys nodes) ids))
    (λ r same. product_single nodes p c.requires.valid r id ids one field same) c.factor.ensures

pub product-requires : goal.product-requires
product-requires g t c κs within =
    let p = g.F.Field.ORDER in
    let nodes = c.args.table.now in
    let ids = c.args.ids.now in
    let front = c.split_at.result.0.now in
    let back = c.split_at.result.1.now in
    let ready = IsReady nodes c.args.known.now in
    let fields = c.requires.factors.fields in
    let whole : front ++ back ≡ ids = ap₂ (λ a b. a ++ b) c.split_at.ensures.front c.split_at.ensures.back ∙ take-append-drop _ ids in
    let first : All (IsFieldAt nodes p) front = subst (All (IsFieldAt nodes p)) (sym c.split_at.ensures.front) (All-take (IsFieldAt nodes p) _ ids fields) in
    let second : All (IsFieldAt nodes p) back = subst (All (IsFieldAt nodes p)) (sym c.split_at.ensures.back) (All-drop (IsFieldAt nodes p) _ ids fields) in (
      omega (arith, c.decreases, c.split_at.ensures.back_len, c.split_at.ensures.front_len, c.in_default.len_at_least),
      (
        search rules,
        (
          search rules,
          (
            c.requires.valid,
            (
              c.requires.known,
              (
                front_factors nodes p c.requires.valid front back ids whole c.requires.factors first second,
                subst (All ready) (sym c.split_at.ensures.front) (All-take ready _ ids c.requires.there),
              ),
            ),
          ),
        ),
      ),
    )

pub product-requires-in_default : goal.product-requires-in_default
product-requires-in_default g t c κs within =
    let p = g.F.Field.ORDER in
    let nodes = c.args.table.now in
    let ids = c.args.ids.now in
    let front = c.split_at.result.0.now in
    let back = c.split_at.result.1.now in
    let ready = IsReady nodes c.args.known.now in
    let fields = c.requires.factors.fields in
    let whole : front ++ back ≡ ids = ap₂ (λ a b. a ++ b) c.split_at.ensures.front c.split_at.ensures.back ∙ take-append-drop _ ids in
    let first : All (IsFieldAt nodes p) front = subst (All (IsFieldAt nodes p)) (sym c.split_at.ensures.front) (All-take (IsFieldAt nodes p) _ ids fields) in
    let second : All (IsFieldAt nodes p) back = subst (All (IsFieldAt nodes p)) (sym c.split_at.ensures.back) (All-drop (IsFieldAt nodes p) _ ids fields) in (
      omega (arith, c.decreases, c.split_at.ensures.back_len, c.split_at.ensures.front_len, c.in_default.len_at_least),
      (
        search rules,
        (
          search rules,
          (
            c.requires.valid,
            (
              c.requires.known,
              (
                back_factors nodes p c.requires.valid front back ids whole c.requires.factors first second,
                subst (All ready) (sym c.split_at.ensures.back) (All-drop ready _ ids c.requires.there),
              ),
            ),
          ),
        ),
      ),
    )

pub both-requires-clause-low : goal.both-requires-clause-low
both-requires-clause-low g t c =
    let p = g.F.Field.ORDER in
    let nodes = c.args.table.now in
    let ids = c.args.ids.now in
    let front = c.split_at.result.0.now in
    let back = c.split_at.result.1.now in
    let x = c.in_ok-left-in_default.left in
    let y = c.in_ok-right-in_default.right in
    let fields = c.requires.factors.fields in
    let whole : front ++ back ≡ ids = ap₂ (λ a b. a ++ b) c.split_at.ensures.front c.split_at.ensures.back ∙ take-append-drop _ ids in
    let first : All (IsFieldAt nodes p) front = subst (All (IsFieldAt nodes p)) (sym c.split_at.ensures.front) (All-take (IsFieldAt nodes p) _ ids fields) in
    let second : All (IsFieldAt nodes p) back = subst (All (IsFieldAt nodes p)) (sym c.split_at.ensures.back) (All-drop (IsFieldAt nodes p) _ ids fields) in
    let left = c.in_ok-left-in_default.ensures in
    let right = c.in_ok-right-in_default.ensures in
    degree_low p (sum_by (degree_at nodes) front) (sum_by (degree_at nodes) back) 1024 x y (product_of (node_polys nodes) front) (product_of (node_polys nodes) back) left right
    (product_low nodes p c.requires.valid front first) (product_low nodes p c.requires.valid back second)
    (omega (arith, degrees_split nodes p c.requires.valid front back ids whole c.requires.factors first second))

pub both-requires-clause-few : goal.both-requires-clause-few
both-requires-clause-few g t c =
    let p = g.F.Field.ORDER in
    let nodes = c.args.table.now in
    let ids = c.args.ids.now in
    let front = c.split_at.result.0.now in
    let back = c.split_at.result.1.now in
    let x = c.in_ok-left-in_default.left in
    let y = c.in_ok-right-in_default.right in
    let fields = c.requires.factors.fields in
    let whole : front ++ back ≡ ids = ap₂ (λ a b. a ++ b) c.split_at.ensures.front c.split_at.ensures.back ∙ take-append-drop _ ids in
    let first : All (IsFieldAt nodes p) front = subst (All (IsFieldAt nodes p)) (sym c.split_at.ensures.front) (All-take (IsFieldAt nodes p) _ ids fields) in
    let second : All (IsFieldAt nodes p) back = subst (All (IsFieldAt nodes p)) (sym c.split_at.ensures.back) (All-drop (IsFieldAt nodes p) _ ids fields) in
    let left = c.in_ok-left-in_default.ensures in
    let right = c.in_ok-right-in_default.ensures in
    let all_front = product_of (node_polys nodes) front in
    let all_back = product_of (node_polys nodes) back in
    terms_few p 131072 (product x y) (product all_front all_back) (same_products p x all_front y all_back left right)
    (omega (
      arith,
      length-product all_front all_back,
      mul-le-mul (product_short nodes p c.requires.valid front first) (product_short nodes p c.requires.valid back second),
      lengths_split nodes p c.requires.valid front back ids whole c.requires.factors first second,
    ))

pub returns-in_ok-right-in_default : goal.returns-in_ok-right-in_default
returns-in_ok-right-in_default g t c =
    let p = g.F.Field.ORDER in
    let nodes = c.args.table.now in
    let ids = c.args.ids.now in
    let front = c.split_at.result.0.now in
    let back = c.split_at.result.1.now in
    let x = c.in_ok-left-in_default.left in
    let y = c.in_ok-right-in_default.right in
    let fields = c.requires.factors.fields in
    let whole : front ++ back ≡ ids = ap₂ (λ a b. a ++ b) c.split_at.ensures.front c.split_at.ensures.back ∙ take-append-drop _ ids in
    let first : All (IsFieldAt nodes p) front = subst (All (IsFieldAt nodes p)) (sym c.split_at.ensures.front) (All-take (IsFieldAt nodes p) _ ids fields) in
    let second : All (IsFieldAt nodes p) back = subst (All (IsFieldAt nodes p)) (sym c.split_at.ensures.back) (All-drop (IsFieldAt nodes p) _ ids fields) in
    IfOk-weaker c.both.result (λ r. SamePolynomial p r (product x y)) (λ r. SamePolynomial p r (product_of (node_polys nodes) ids))
    (λ r made. product_halves nodes p c.requires.valid x y r front back ids first second whole c.in_ok-left-in_default.ensures c.in_ok-right-in_default.ensures made) c.both.ensures
