use Rattle.std.proofs.Common.{◌≡◌, ℕ, ◌*◌, ◌<◌, ◌%◌, ◌++◌, ◌∷◌, [], length, All, Some, None, true, false, sym, ap, ◌∙◌, subst, arith}
use Rattle.std.specs.Prelude.{is_none}
use Rattle.std.proofs.Math.Nat.{mod-mod}
use Rattle.std.proofs.lemmas.Nat.{mul-mod_second}
use Rattle.ffc_ring.specs.Monomial.{Monomial}
use Rattle.ffc_ring.specs.Polynomial.{SamePolynomial, written, scaled}
use Rattle.ffc_term.specs.declared.node.Node.TheVariants.{FieldConst, Num, IteField, Add, Mul, Neg, Bitsum}
use Rattle.ffc_term.specs.Nodes.{IsNodeAt}
use Rattle.ffc_trees.specs.NodePolynomials.{node_polys, poly_at}
use Rattle.ffc_ckpoly.specs.Parts.{weighted, owed}
use Rattle.ffc_ckpoly.specs.Multiples.{multiple_of}
use Rattle.ffc_ckpoly.proofs.MultipleLemmas.{parts_inside}
use Rattle.ffc_ckpoly.proofs.MultiplePolys.{multiple_expands}
use Rattle.ffc_ckpoly.proofs.SortedLemmas.{minus_one}
use Rattle.ffc_trees.proofs.PartLemmas.{parts_are}
use Rattle.ffc_ckpoly.proofs.OpeningLemmas.{node_expands, parts_owed, sum_kept, term_added, term_scaled, sum_expands, bits_expand, negation_expands, nothing_else}
use Rattle.ffc_ckpoly.proofs.opening.open.Goals as goal

pub returns-in_ok-with_term-in-FieldConst-clause-same : goal.returns-in_ok-with_term-in-FieldConst-clause-same
returns-in_ok-with_term-in-FieldConst-clause-same g c m =
    let value = g.F.Field.value in
    let p = g.F.Field.ORDER in
    let nodes = c.args.table.now in
    let id = c.args.id in
    let at : IsNodeAt nodes id (FieldConst c.in-FieldConst.field-0 c.in-FieldConst.field-1) = subst (IsNodeAt nodes id) c.in-FieldConst.is c.node.ensures.at in
    let w = value c.args.weight in
    let x : Monomial = (id, 1) ∷ [] in
    let old = owed value (node_polys nodes) c.args.waiting.now.items in
    let same : w % p ≡ w * 1 % p = ap (λ k. k % p) (let once : w ≡ w * 1 = omega arith in once) in
    let added = term_scaled p w w 1 x (poly_at nodes id) same (node_expands nodes p id (FieldConst c.in-FieldConst.field-0 c.in-FieldConst.field-1) c.requires.field at) in
    ap (λ ts. written (ts ++ old) m % p) c.in_ok-with_term-in-FieldConst.ensures ∙ term_added p c.args.sum old ((w, x) ∷ []) (scaled w (poly_at nodes id)) added m

pub returns-in_ok-with_term-in-IteField-clause-same : goal.returns-in_ok-with_term-in-IteField-clause-same
returns-in_ok-with_term-in-IteField-clause-same g c m =
    let value = g.F.Field.value in
    let p = g.F.Field.ORDER in
    let nodes = c.args.table.now in
    let id = c.args.id in
    let at : IsNodeAt nodes id (IteField c.in-IteField.field-0 c.in-IteField.field-1 c.in-IteField.field-2) = subst (IsNodeAt nodes id) c.in-IteField.is c.node.ensures.at in
    let w = value c.args.weight in
    let x : Monomial = (id, 1) ∷ [] in
    let old = owed value (node_polys nodes) c.args.waiting.now.items in
    let same : w % p ≡ w * 1 % p = ap (λ k. k % p) (let once : w ≡ w * 1 = omega arith in once) in
    let added = term_scaled p w w 1 x (poly_at nodes id) same (node_expands nodes p id (IteField c.in-IteField.field-0 c.in-IteField.field-1 c.in-IteField.field-2) c.requires.field at) in
    ap (λ ts. written (ts ++ old) m % p) c.in_ok-with_term-in-IteField.ensures ∙ term_added p c.args.sum old ((w, x) ∷ []) (scaled w (poly_at nodes id)) added m

pub returns-in_ok-with_term-in-Num-clause-same : goal.returns-in_ok-with_term-in-Num-clause-same
returns-in_ok-with_term-in-Num-clause-same g c m =
    let value = g.F.Field.value in
    let p = g.F.Field.ORDER in
    let nodes = c.args.table.now in
    let id = c.args.id in
    let n = c.in-Num.n in
    let at : IsNodeAt nodes id (Num n c.in-Num.field-1) = subst (IsNodeAt nodes id) c.in-Num.is c.node.ensures.at in
    let w = value c.args.weight in
    let v = value c.mul.result in
    let none : Monomial = [] in
    let old = owed value (node_polys nodes) c.args.waiting.now.items in
    let number : value c.of.result ≡ n % p = c.of.ensures ∙ ap (λ k. k % p) c.from.ensures in
    let same : v % p ≡ w * n % p =
    ap (λ k. k % p) c.mul.ensures ∙ mod-mod (w * value c.of.result) p ∙ ap (λ k. w * k % p) number ∙ mul-mod_second w n p in
    let added = term_scaled p v w n none (poly_at nodes id) same (node_expands nodes p id (Num n c.in-Num.field-1) c.requires.field at) in
    ap (λ ts. written (ts ++ old) m % p) c.in_ok-with_term-in-Num.ensures ∙ term_added p c.args.sum old ((v, none) ∷ []) (scaled w (poly_at nodes id)) added m

pub returns-in_ok-push_weighted-in-Add-clause-same : goal.returns-in_ok-push_weighted-in-Add-clause-same
returns-in_ok-push_weighted-in-Add-clause-same g c =
    let value = g.F.Field.value in
    let p = g.F.Field.ORDER in
    let nodes = c.args.table.now in
    let id = c.args.id in
    let polys = node_polys nodes in
    let ids = c.in-Add.ids in
    let at : IsNodeAt nodes id (Add ids) = subst (IsNodeAt nodes id) c.in-Add.is c.node.ensures.at in
    let parts = parts_are nodes p id c.node.ensures.valid c.requires.field (Add ids) at in
    let w = value c.args.weight in
    let v = value c.mul-in-Add.result in
    let a = value c.of-one.result in
    let r = value c.of-one.result in
    let old = owed value polys c.args.waiting.now.items in
    let new = owed value polys c.push_weighted.new.waiting.items in
    let pushed : SamePolynomial p new (old ++ weighted v r polys ids) = subst (λ l. SamePolynomial p new (old ++ weighted v r polys l)) c.as_slice.ensures c.in_ok-push_weighted-in-Add.ensures.owed in
    let is = sum_expands nodes p id c.requires.field a r ids at (λ k d h. (parts k d h).1) c.of-one.ensures c.of-one.ensures in
    sum_kept p c.args.sum new (old ++ scaled w (poly_at nodes id)) (parts_owed p w v a r polys id ids new old c.mul-in-Add.ensures is pushed)

pub returns-in_ok-push_weighted-in-Bitsum-clause-same : goal.returns-in_ok-push_weighted-in-Bitsum-clause-same
returns-in_ok-push_weighted-in-Bitsum-clause-same g c =
    let value = g.F.Field.value in
    let p = g.F.Field.ORDER in
    let nodes = c.args.table.now in
    let id = c.args.id in
    let polys = node_polys nodes in
    let ids = c.in-Bitsum.ids in
    let at : IsNodeAt nodes id (Bitsum ids) = subst (IsNodeAt nodes id) c.in-Bitsum.is c.node.ensures.at in
    let parts = parts_are nodes p id c.node.ensures.valid c.requires.field (Bitsum ids) at in
    let w = value c.args.weight in
    let v = value c.mul-in-Bitsum.result in
    let a = value c.of-one.result in
    let r = value c.of-in-Bitsum.result in
    let old = owed value polys c.args.waiting.now.items in
    let new = owed value polys c.push_weighted-in-Bitsum.new.waiting.items in
    let pushed : SamePolynomial p new (old ++ weighted v r polys ids) = subst (λ l. SamePolynomial p new (old ++ weighted v r polys l)) c.as_slice-in-Bitsum.ensures c.in_ok-push_weighted-in-Bitsum.ensures.owed in
    let is = bits_expand nodes p id c.requires.field a r ids at (λ k d h. (parts k d h).1) c.of-one.ensures c.of-in-Bitsum.ensures in
    sum_kept p c.args.sum new (old ++ scaled w (poly_at nodes id)) (parts_owed p w v a r polys id ids new old c.mul-in-Bitsum.ensures is pushed)

pub returns-in_ok-push_weighted-in-Neg-clause-same : goal.returns-in_ok-push_weighted-in-Neg-clause-same
returns-in_ok-push_weighted-in-Neg-clause-same g c =
    let value = g.F.Field.value in
    let p = g.F.Field.ORDER in
    let nodes = c.args.table.now in
    let id = c.args.id in
    let polys = node_polys nodes in
    let part = c.in-Neg.a in
    let at : IsNodeAt nodes id (Neg part) = subst (IsNodeAt nodes id) c.in-Neg.is c.node.ensures.at in
    let parts = parts_are nodes p id c.node.ensures.valid c.requires.field (Neg part) at in
    let w = value c.args.weight in
    let v = value c.mul-in-Neg.result in
    let a = value c.neg.result in
    let r = value c.of-one.result in
    let old = owed value polys c.args.waiting.now.items in
    let new = owed value polys c.push_weighted-in-Neg.new.waiting.items in
    let is = negation_expands nodes p id c.requires.field a r part at (parts 0 0 (omega arith)).1 (minus_one p r a g.met.F.Field.prime.least c.of-one.ensures c.neg.ensures) in
    sum_kept p c.args.sum new (old ++ scaled w (poly_at nodes id)) (parts_owed p w v a r polys id (part ∷ []) new old c.mul-in-Neg.ensures is c.in_ok-push_weighted-in-Neg.ensures.owed)

pub multiple_of-requires : goal.multiple_of-requires
multiple_of-requires g c =
    let nodes = c.args.table.now in
    let id = c.args.id in
    let ids = c.in-Mul.ids in
    let at : IsNodeAt nodes id (Mul ids) = subst (IsNodeAt nodes id) c.in-Mul.is c.node.ensures.at in
    subst (All (λ k. k < length nodes)) (sym c.as_slice-in-Mul.ensures) (parts_inside nodes id (Mul ids) c.node.ensures.valid at)

pub returns-in_ok-push_weighted-in-Some-clause-same : goal.returns-in_ok-push_weighted-in-Some-clause-same
returns-in_ok-push_weighted-in-Some-clause-same g c =
    let value = g.F.Field.value in
    let p = g.F.Field.ORDER in
    let nodes = c.args.table.now in
    let id = c.args.id in
    let polys = node_polys nodes in
    let ids = c.in-Mul.ids in
    let at : IsNodeAt nodes id (Mul ids) = subst (IsNodeAt nodes id) c.in-Mul.is c.node.ensures.at in
    let x : ℕ × ℕ = (c.in-Some.n, c.in-Some.part) in
    let found : multiple_of nodes ids ≡ Some x = ap (multiple_of nodes) (sym c.as_slice-in-Mul.ensures) ∙ sym c.in-Some.ensures in
    let w = value c.args.weight in
    let v = value c.mul-in-Some.result in
    let a = value c.of-number.result in
    let r = value c.of-one.result in
    let old = owed value polys c.args.waiting.now.items in
    let new = owed value polys c.push_weighted-in-Some.new.waiting.items in
    let reduced : a ≡ c.in-Some.n % p = c.of-number.ensures ∙ ap (λ k. k % p) c.from-in-Some.ensures in
    let is = multiple_expands nodes p c.node.ensures.valid id a r ids x c.requires.field at found reduced in
    sum_kept p c.args.sum new (old ++ scaled w (poly_at nodes id)) (parts_owed p w v a r polys id (c.in-Some.part ∷ []) new old c.mul-in-Some.ensures is c.in_ok-push_weighted-in-Some.ensures.owed)

pub unreachable-requires : goal.unreachable-requires
unreachable-requires g c =
    let nodes = c.args.table.now in
    let id = c.args.id in
    let ids = c.in-Mul.ids in
    let at : IsNodeAt nodes id (Mul ids) = subst (IsNodeAt nodes id) c.in-Mul.is c.node.ensures.at in
    let none : multiple_of nodes ids ≡ None = ap (multiple_of nodes) (sym c.as_slice-in-Mul.ensures) ∙ sym c.in-None.ensures in
    let never : true ≡ false = sym (ap is_none none) ∙ c.requires.plain (Mul ids) at in
    cc

pub unreachable-requires-in_default : goal.unreachable-requires-in_default
unreachable-requires-in_default g c =
    nothing_else c.args.table.now g.F.Field.ORDER c.args.id c.node.result.now c.requires.field c.node.ensures.at
    c.in_default.not-FieldConst c.in_default.not-Num c.in_default.not-IteField c.in_default.not-Add c.in_default.not-Mul c.in_default.not-Neg c.in_default.not-Bitsum
