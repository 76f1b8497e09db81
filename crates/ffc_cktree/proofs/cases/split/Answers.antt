use Rattle.std.proofs.Common.{◌≡◌, ◌≤◌, ◌<◌, ◌%◌, ◌&&◌, nat_lt, length, map, false, true, [], subst, sym, ap, ap₂, ◌∙◌, arith, refl}
use Rattle.std.proofs.lemmas.Bool.{ltb-true, ltb-false}
use Rattle.std.proofs.lemmas.List.{length-map}
use Rattle.ffc_uni.specs.Univariate.{SameUnivariate, coefficient_at, product_of_roots}
use Rattle.ffc_trees.specs.TreeLines.{is_in, line_at, coefficients_of, are_below, is_same}
use Rattle.ffc_cktree.proofs.SumLemmas.{rule_is, at_some, at_none}
use Rattle.ffc_cktree.proofs.RowLemmas.{is_same-alike}
use Rattle.ffc_cktree.proofs.CaseLemmas.{split_missing, split_no_roots, split_elsewhere, split_differs, split_kept, too_many_roots, some_roots, no_root}
use Rattle.ffc_cktree.proofs.cases.split.Goals as goal
use Rattle.ffc_cktree.proofs.cases.split.Goals.{then-is_empty-via-then-is_empty, then-is_empty-via-else-is_empty+then-not-are_below}

pub returns-in_default-clause-broken : goal.returns-in_default-clause-broken
returns-in_default-clause-broken g c rule e =
    let lines = c.args.lines.now in
    rule_is 12 rule _ _ (split_missing g.F.Field.ORDER lines c.args.k c.args.x c.args.roots.now (ltb-false c.args.k (length lines) (sym c.in_default.ensures.lookup.0))) e refl

pub returns-then-is_empty-clause-broken : goal.returns-then-is_empty-clause-broken
returns-then-is_empty-clause-broken g c rule e =
    let value = g.F.Field.value in
    let p = g.F.Field.ORDER in
    let lines = c.args.lines.now in
    let k = c.args.k in
    let x = c.args.x in
    let roots = c.args.roots.now in
    let line : c.in-Some.line.now ≡ line_at lines k = c.in-Some.ensures.lookup.4 (omega arith) [] in
    let within : k < length lines = ltb-true k (length lines) (sym c.in-Some.ensures.lookup.0) in
    elim c.then-is_empty.branch [
      | then-is_empty-via-then-is_empty w ↦
          rule_is 7 rule _ _ (split_no_roots p lines k x roots within (ap (λ b. b && are_below p roots) (no_root roots (sym w.if-is_empty.ensures)))) e refl
      | then-is_empty-via-else-is_empty+then-not-are_below w ↦
          let none : are_below p roots ≡ false = ap (λ q. are_below q roots) (sym w.ORDER.ensures) ∙ sym w.if-not-are_below.ensures in
          rule_is 7 rule _ _ (split_no_roots p lines k x roots within (ap₂ (λ a b. a && b) (some_roots roots (sym w.if-is_empty.ensures)) none)) e refl
    ]

pub returns-in_default-2-clause-broken : goal.returns-in_default-2-clause-broken
returns-in_default-2-clause-broken g c rule e =
    let value = g.F.Field.value in
    let p = g.F.Field.ORDER in
    let lines = c.args.lines.now in
    let k = c.args.k in
    let x = c.args.x in
    let roots = c.args.roots.now in
    let line : c.in-Some.line.now ≡ line_at lines k = c.in-Some.ensures.lookup.4 (omega arith) [] in
    let within : k < length lines = ltb-true k (length lines) (sym c.in-Some.ensures.lookup.0) in
    let some : nat_lt 0 (length roots) ≡ true = some_roots roots (sym c.if-is_empty.ensures) in
    let below : are_below p roots ≡ true = ap (λ q. are_below q roots) (sym c.ORDER.ensures) ∙ sym c.if-not-are_below.ensures in
    let tested = ap₂ (λ a b. a && b) some below in
    let other = at_none (is_in x c.in-Some.line.now ≡ false) c.in_ok-coefs.field-0 c.in_default-2.is c.in_ok-coefs.ensures.other in
    rule_is 7 rule _ _ (split_elsewhere p lines k x roots within tested (ap (is_in x) (sym line) ∙ other)) e refl

pub returns-then-roots-len-clause-broken : goal.returns-then-roots-len-clause-broken
returns-then-roots-len-clause-broken g c rule e =
    let value = g.F.Field.value in
    let p = g.F.Field.ORDER in
    let lines = c.args.lines.now in
    let k = c.args.k in
    let x = c.args.x in
    let roots = c.args.roots.now in
    let line : c.in-Some.line.now ≡ line_at lines k = c.in-Some.ensures.lookup.4 (omega arith) [] in
    let within : k < length lines = ltb-true k (length lines) (sym c.in-Some.ensures.lookup.0) in
    let some : nat_lt 0 (length roots) ≡ true = some_roots roots (sym c.if-is_empty.ensures) in
    let below : are_below p roots ≡ true = ap (λ q. are_below q roots) (sym c.ORDER.ensures) ∙ sym c.if-not-are_below.ensures in
    let tested = ap₂ (λ a b. a && b) some below in
    let alone = ap (is_in x) (sym line) ∙ at_some (λ v. is_in x c.in-Some.line.now ≡ true) c.in_ok-coefs.field-0 c.in-Some-2.coefs c.in-Some-2.is c.in_ok-coefs.ensures.alone in
    let row = at_some (λ v. map value v.items ≡ coefficients_of c.in-Some.line.now) c.in_ok-coefs.field-0 c.in-Some-2.coefs c.in-Some-2.is c.in_ok-coefs.ensures.row ∙ ap coefficients_of line in
    let long : length (coefficients_of (line_at lines k)) ≤ length roots = omega (arith, ap length row, length-map c.in-Some-2.coefs.items value, c.len.ensures, c.in-Some-2.coefs.ok, c.if-roots-len.true) in
    rule_is 7 rule _ _ (split_differs p lines k x roots within tested alone (too_many_roots p (coefficients_of (line_at lines k)) roots (omega (arith, g.met.F.Field.prime.least)) long)) e refl

pub returns-then-not-are_same-clause-broken : goal.returns-then-not-are_same-clause-broken
returns-then-not-are_same-clause-broken g c rule e =
    let value = g.F.Field.value in
    let p = g.F.Field.ORDER in
    let lines = c.args.lines.now in
    let k = c.args.k in
    let x = c.args.x in
    let roots = c.args.roots.now in
    let line : c.in-Some.line.now ≡ line_at lines k = c.in-Some.ensures.lookup.4 (omega arith) [] in
    let within : k < length lines = ltb-true k (length lines) (sym c.in-Some.ensures.lookup.0) in
    let some : nat_lt 0 (length roots) ≡ true = some_roots roots (sym c.if-is_empty.ensures) in
    let below : are_below p roots ≡ true = ap (λ q. are_below q roots) (sym c.ORDER.ensures) ∙ sym c.if-not-are_below.ensures in
    let tested = ap₂ (λ a b. a && b) some below in
    let alone = ap (is_in x) (sym line) ∙ at_some (λ v. is_in x c.in-Some.line.now ≡ true) c.in_ok-coefs.field-0 c.in-Some-2.coefs c.in-Some-2.is c.in_ok-coefs.ensures.alone in
    let row = at_some (λ v. map value v.items ≡ coefficients_of c.in-Some.line.now) c.in_ok-coefs.field-0 c.in-Some-2.coefs c.in-Some-2.is c.in_ok-coefs.ensures.row ∙ ap coefficients_of line in
    let product : SameUnivariate p (map value c.in_ok-product.product.items) (product_of_roots p roots) =
    subst (λ l. SameUnivariate p (map value c.in_ok-product.product.items) (product_of_roots p l)) (ap (map value) c.as_slice.ensures.value ∙ c.in_ok-elements.ensures) c.in_ok-product.ensures in
    let same = ap₂ (λ a b. is_same p (map value a) (map value b)) c.as_slice-2.ensures.value c.as_slice-3.ensures.value
    ∙ is_same-alike p (map value c.in-Some-2.coefs.items) (map value c.in_ok-product.product.items) (coefficients_of (line_at lines k)) (product_of_roots p roots) (λ j. ap (λ l. coefficient_at l j % p) row) product in
    rule_is 7 rule _ _ (split_differs p lines k x roots within tested alone (sym same ∙ sym c.if-not-are_same.ensures)) e refl

pub returns-clause-kept : goal.returns-clause-kept
returns-clause-kept g c =
    let value = g.F.Field.value in
    let p = g.F.Field.ORDER in
    let lines = c.args.lines.now in
    let k = c.args.k in
    let x = c.args.x in
    let roots = c.args.roots.now in
    let line : c.in-Some.line.now ≡ line_at lines k = c.in-Some.ensures.lookup.4 (omega arith) [] in
    let within : k < length lines = ltb-true k (length lines) (sym c.in-Some.ensures.lookup.0) in
    let some : nat_lt 0 (length roots) ≡ true = some_roots roots (sym c.if-is_empty.ensures) in
    let below : are_below p roots ≡ true = ap (λ q. are_below q roots) (sym c.ORDER.ensures) ∙ sym c.if-not-are_below.ensures in
    let tested = ap₂ (λ a b. a && b) some below in
    let alone = ap (is_in x) (sym line) ∙ at_some (λ v. is_in x c.in-Some.line.now ≡ true) c.in_ok-coefs.field-0 c.in-Some-2.coefs c.in-Some-2.is c.in_ok-coefs.ensures.alone in
    let row = at_some (λ v. map value v.items ≡ coefficients_of c.in-Some.line.now) c.in_ok-coefs.field-0 c.in-Some-2.coefs c.in-Some-2.is c.in_ok-coefs.ensures.row ∙ ap coefficients_of line in
    let product : SameUnivariate p (map value c.in_ok-product.product.items) (product_of_roots p roots) =
    subst (λ l. SameUnivariate p (map value c.in_ok-product.product.items) (product_of_roots p l)) (ap (map value) c.as_slice.ensures.value ∙ c.in_ok-elements.ensures) c.in_ok-product.ensures in
    let same = ap₂ (λ a b. is_same p (map value a) (map value b)) c.as_slice-2.ensures.value c.as_slice-3.ensures.value
    ∙ is_same-alike p (map value c.in-Some-2.coefs.items) (map value c.in_ok-product.product.items) (coefficients_of (line_at lines k)) (product_of_roots p roots) (λ j. ap (λ l. coefficient_at l j % p) row) product in
    split_kept p lines k x roots within tested alone (sym same ∙ sym c.if-not-are_same.ensures)
