use Rattle.std.proofs.Common.{◌%◌, ◌∷◌, Ok, Err, sym, ap, ◌∙◌, subst, arith}
use Rattle.std.proofs.lemmas.List.Sorted.{searched}
use Rattle.std.specs.List.Sorted.{IsBinarySearchResult}
use Rattle.std.specs.Ordering.{nat_cmp}
use Rattle.ffc_uni.specs.Univariate.{coefficient_at, product_of_roots}
use Rattle.ffc_roots.specs.Parts.{AreRising}
use Rattle.ffc_roots.proofs.Rising.{contains_at, rising_pairs, rising-insert, product-insert}
use Rattle.ffc_roots.proofs.ordered.insert_root.Goals as goal

pub unreachable-requires : goal.unreachable-requires
unreachable-requires g c =
    let old = c.args.roots.now.items in
    let residue = c.residue-residue.result in
    let position = subst (λ l. IsBinarySearchResult (λ y. nat_cmp y residue) l (Ok c.in-Ok.field-0)) c.deref.ensures.value c.in-Ok.ensures.position in
    let found = searched old residue (Ok c.in-Ok.field-0) position (rising_pairs g.F.Field.ORDER 0 old c.requires.rising) in
    c.requires.absent (contains_at old c.in-Ok.field-0 residue (g.F.Field.value c.args.root) found.0 found.1 c.residue-residue.ensures.value)

pub returns-clause-rising : goal.returns-clause-rising
returns-clause-rising g c =
    let p = g.F.Field.ORDER in
    let old = c.args.roots.now.items in
    let residue = c.residue-residue.result in
    let place = c.in-Err.place in
    let position = subst (λ l. IsBinarySearchResult (λ y. nat_cmp y residue) l (Err place)) c.deref.ensures.value c.in-Err.ensures.position in
    let found = searched old residue (Err place) position (rising_pairs p 0 old c.requires.rising) in
    subst (AreRising p 0) (sym c.in_ok-insert-in-Err.ensures.items)
    (rising-insert p 0 residue place old c.requires.rising (omega arith) c.residue-residue.ensures.below found.0 found.1 found.2)

pub returns-clause-product : goal.returns-clause-product
returns-clause-product g c = λ k.
    let p = g.F.Field.ORDER in
    let old = c.args.roots.now.items in
    ap (λ l. coefficient_at (product_of_roots p l) k % p) c.in_ok-insert-in-Err.ensures.items
    ∙ product-insert p c.residue-residue.result c.in-Err.place old k
    ∙ ap (λ r. coefficient_at (product_of_roots p (r ∷ old)) k % p) c.residue-residue.ensures.value
