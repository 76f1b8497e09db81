use Rattle.std.proofs.Common.{◌≡◌, ◌⊎◌, ◌++◌, ◌∷◌, [], Contains, length, get_or, sym, ap, ◌∙◌, subst}
use Rattle.std.proofs.lemmas.Bool.Decides.{when_true}
use Rattle.std.proofs.lemmas.Option.{get_or_from_slice_get}
use Rattle.ffc_term.specs.Tables.{Fits, IsNumbered, IsInterned, most_nodes}
use Rattle.ffc_term.specs.Keeping.{IsKeptOf}
use Rattle.ffc_term.proofs.TableLemmas.{Store-push}
use Rattle.ffc_term.proofs.store.Store.put.Goals as goal
use Rattle.ffc_term.proofs.store.Store.put.Goals.{then-added, else-added}

pub invariant_of-self-then-added : goal.invariant_of-self-then-added
invariant_of-self-then-added c =
    let keys = c.self.inside.nodes.keys in
    let new = c.insert.new.nodes.keys in
    let n = c.args.node in
    let k = c.keep.ensures.0 in
    let is = sym c.self.view_is in
    let known = c.in_ok-at.ensures in
    let split : ¬ (Contains keys n) × (new ≡ keys ++ n ∷ []) = when_true _ _ c.if-added.true known.new in
    let found = c.index-as_slice-at.result in
    let same : found ≡ n = c.index-as_slice-at.is ∙ ap (λ xs. get_or xs c.in_ok-at.at found) c.as_slice.ensures.keys ∙ get_or_from_slice_get new c.in_ok-at.at n found known.put.at in
    let room : ¬ (length keys ≡ most_nodes) = λ full. c.if-len-eq-MOST_NODES.false (c.len.ensures.count ∙ ap length is ∙ full) in
    let kept : IsKeptOf c.self.inside.kept.items n k = subst (λ xs. IsKeptOf xs n k) c.reserve.ensures.items (subst (λ m. IsKeptOf c.reserve.new.self.items m k) same c.keep.ensures.1) in
    let after = c.keep.ensures.2 ∙ ap (λ xs. xs ++ k ∷ []) c.reserve.ensures.items in
    Store-push keys new c.self.inside.kept.items c.keep.new.kept.items n k c.self.invariant.0 c.self.invariant.1 (subst (λ xs. Fits xs n) is c.requires.fits) (subst (λ xs. Contains xs n ⊎ IsNumbered xs n) is c.requires.numbered) room split.0 split.1 kept after

pub returns-clause-ok : goal.returns-clause-ok
returns-clause-ok c =
    let put = subst (λ xs. IsInterned xs c.insert.new.nodes.keys c.args.node c.in_ok-at.at) c.self.view_is c.in_ok-at.ensures.put in
    elim c.if-added.branch [ then-added w ↦ rw w.self-is put | else-added w ↦ rw w.self-is put ]
