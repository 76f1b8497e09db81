use Rattle.std.proofs.Common.{◌≡◌, ◌∷◌, ◌++◌, ◌%◌, [], refl, sym, ap, ◌∙◌, subst, append-nil}
use Rattle.ffc_mono.specs.declared.mono.TheConstants.{DEGREE_LIMIT}
use Rattle.ffc_ring.specs.Polynomial.{written, scaled}
use Rattle.ffc_ring.proofs.PolynomialLemmas.{same_sums}
use Rattle.ffc_poly.specs.Ordered.{sum_of}
use Rattle.ffc_poly.specs.Tails.{AreOrdered}
use Rattle.ffc_poly.proofs.TailLemmas.{AreOrdered-push}
use Rattle.ffc_poly.proofs.TermLemmas.{sum_of-append}
use Rattle.ffc_poly.proofs.tails.append_multiple.Goals as goal

pub settle-requires : goal.settle-requires
settle-requires g c =
    let p = g.F.Field.ORDER in
    let cmp = g.O.MonoOrder.cmp in
    subst (AreOrdered p cmp DEGREE_LIMIT) (sym c.in_ok-append.ensures.appended)
    (AreOrdered-push p cmp DEGREE_LIMIT c.args.tails.now.items c.in_ok-multiple.multiple c.requires.tails_are c.in_ok-multiple.ensures.ordered)

pub returns-clause-same : goal.returns-clause-same
returns-clause-same g c =
    let p = g.F.Field.ORDER in
    let xs = c.args.tails.now.items in
    let multiple = c.in_ok-multiple.multiple in
    let sums : sum_of c.append.new.tails.items ≡ sum_of xs ++ multiple =
    ap sum_of c.in_ok-append.ensures.appended ∙ sum_of-append xs (multiple ∷ []) ∙ ap (λ ts. sum_of xs ++ ts) (append-nil multiple) in
    λ m. c.settle.ensures.same m ∙ ap (λ ts. written ts m % p) sums
    ∙ same_sums p (sum_of xs) (sum_of xs) multiple (scaled (g.F.Field.value c.args.c) c.args.terms.now) (λ _. refl) c.in_ok-multiple.ensures.same m
