use Rattle.std.proofs.Common.{◌<◌, ◌≡◌, length, sym, ap, subst, arith}
use Rattle.ffc_term.specs.Nodes.{sort_at}
use Rattle.ffc_term.proofs.TableLemmas.{AreKept-length, AreKept-sort}
use Rattle.ffc_term.proofs.store.Store.sort.Goals as goal

pub index-requires : goal.index-requires
index-requires c =
    let long = AreKept-length _ _ c.self.invariant.1 in
    let same = ap length c.self.view_is in
    omega (arith, long, same, c.self.inside.kept.ok.0)

pub returns-clause-value : goal.returns-clause-value
returns-clause-value c =
    subst (λ xs. c.index.result.now.sort ≡ sort_at xs c.args.id) c.self.view_is (AreKept-sort _ _ c.self.invariant.1 c.args.id c.index.result.now (subst (λ xs. c.args.id < length xs) (sym c.self.view_is) c.requires) c.index.ensures)
