use Rattle.std.proofs.Common.{ℕ, ◌%◌, ◌<◌, [], ◌∷◌, ◌++◌, List, length, map, sym, ap, ap₂, ◌∙◌, arith, mod-eq_of_lt}
use Rattle.std.proofs.lemmas.List.{map-append, take_more}
use Rattle.ffc_roots.proofs.Rising.{rising_at}
use Rattle.ffc_roots.proofs.ordered.elements_of.Goals as goal

pub loop-residue-preserved : goal.loop-residue-preserved
loop-residue-preserved g c =
    let p = g.F.Field.ORDER in
    let value = g.F.Field.value in
    let residues = c.args.residues.now in
    let i = c.loop-residue.residue-index in
    let within : i < length residues = omega (arith, c.loop-residue-test.true) in
    let below = (rising_at p 0 residues c.requires i within).1 in
    ap (map value) c.in_ok-push.ensures.items
    ∙ map-append value c.loop-residue.elements.items (c.of.result ∷ [])
    ∙ ap₂ (λ (l : List ℕ) (n : ℕ). l ++ n ∷ []) c.loop-residue.invariant (c.of.ensures ∙ ap (λ n. n % p) c.from.ensures ∙ mod-eq_of_lt below)
    ∙ sym (take_more residues i 0 within)
