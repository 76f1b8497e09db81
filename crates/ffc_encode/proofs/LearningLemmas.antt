-- Polynomials of listed nodes, which are made in increasing order and kept.
use Rattle.std.proofs.Common.{◌≡◌, ℕ, ◌<◌, true, false, List, [], ◌∷◌, Option, Some, None, is_some, IsSome, IfSome, ◌⊎◌, inl, inr, ⊎_elim, refl, sym, ap, ◌∙◌, subst, arith}
use Rattle.std.specs.Ordering.{nat_cmp, is_gt}
use Rattle.std.specs.BTreeMap.{BTreeMap, get, Updates}
use Rattle.std.specs.BTreeSet as set
use Rattle.std.specs.BTreeSet.{BTreeSet}
use Rattle.std.proofs.lemmas.Bool.{cases_eq}
use Rattle.std.proofs.lemmas.Bool.Decides.{nat_tests}
use Rattle.ffc_ring.specs.Polynomial.{Terms}
use Rattle.ffc_term.specs.declared.node.Node.{Node}
use Rattle.ffc_term.specs.Tables.{IsTable}
use Rattle.ffc_encode.specs.Parts.{IsWithin, AreKnown, IsKept}
use Rattle.ffc_encode.specs.Opening.{IsLeafAt, IsReady, CanMake}
use Rattle.ffc_encode.specs.Opening.CanOpen.{There}
use Rattle.ffc_encode.specs.Order.{HasId, CanBeMadeInOrder, IsListedOrLeaf}
use Rattle.ffc_encode.proofs.OrderLemmas.{apart, at_other, make_through, make_before}
use Rattle.ffc_encode.proofs.OpeningLemmas.{leaf_can}

-- one more polynomial is kept, and those that were are
pub now_kept : (old new : BTreeMap ℕ Terms) (id : ℕ) (f : Terms) → Updates nat_cmp old new id (Some f) → IsKept old new id
now_kept old new id f u = record {
  it = ap is_some u.1;
  others = λ q is. ⊎_elim
      (λ e. subst (λ k. IsSome (get nat_cmp new k)) e (ap is_some u.1))
      (λ ne. ap is_some (at_other old new id (Some f) u q ne) ∙ is)
      (cases_eq id q);
}

-- a polynomial is ready, or will be made
abbrev pub WillBe : List Node → BTreeMap ℕ Terms → BTreeSet ℕ → ℕ → Type 0
WillBe ns known ids q = IsReady ns known q ⊎ HasId ids q

-- The polynomials that are kept are those of their nodes, and the nodes that are left can be made in order.
pub record AreLeft (ns : List Node) (p root : ℕ) (known : BTreeMap ℕ Terms) (ids : BTreeSet ℕ) : Type 0 where
  pub known_are : AreKnown p ns known
  pub within : (q : ℕ) → HasId ids q → IsWithin ns p q
  pub left : (q : ℕ) → HasId ids q → CanMake ns (WillBe ns known ids) (WillBe ns known ids) q
  pub itself : WillBe ns known ids root

pub all_left : (ns : List Node) (p root : ℕ) (known : BTreeMap ℕ Terms) (ids : BTreeSet ℕ) → AreKnown p ns known → CanBeMadeInOrder ns p known ids → IsListedOrLeaf ns ids root → AreLeft ns p root known ids
all_left ns p root known ids are order itself = record {
  known_are = are;
  within = order.within;
  left = order.made;
  itself = ⊎_elim (λ h. inr h) (λ l. inl (inr l)) itself;
}

module _ (ns : List Node) (p root : ℕ) (known : BTreeMap ℕ Terms) (ids : BTreeSet ℕ) (next : ℕ) (are : AreLeft ns p root known ids) where
  not_before : (x y : ℕ) → y < x → is_gt (nat_cmp x y) ≡ false → ⊥
  not_before x y less h = grind (arith, nat_tests, less, h)

  -- the least node can be made of what is there
  pub least_can : IsTable ns → HasId ids next → set.IsLowerBound nat_cmp ids next → CanMake ns (IsReady ns known) (IsReady ns known) next
  least_can table has least = make_before ns p next (WillBe ns known ids) (IsReady ns known) table (are.within next has).field
      (λ q less w. ⊎_elim (λ t. t) (λ h. absurd (not_before next q less (least q h))) w) (are.left next has)

  pub one_made : (now : BTreeMap ℕ Terms) (rest : BTreeSet ℕ) → set.Updates nat_cmp ids rest next false → AreKnown p ns now → IsKept known now next → AreLeft ns p root now rest
  one_made now rest removed known_are kept = record {
    known_are = known_are;
    within = λ q h. are.within q (was q h);
    left = λ q h. make_through ns (WillBe ns known ids) (WillBe ns known ids) (WillBe ns now rest) (WillBe ns now rest) after (λ k t. There k (after k t)) q (are.left q (was q h));
    itself = after root are.itself;
  }
    where
      other : (q : ℕ) → (next ≡ q → ⊥) → set.contains nat_cmp rest q ≡ set.contains nat_cmp ids q
      other q ne = removed.2 q (apart next q ne)

      gone : (q : ℕ) → next ≡ q → HasId rest q → ⊥
      gone q e h = let never = sym removed.1 ∙ subst (HasId rest) (sym e) h in cc

      was : (q : ℕ) → HasId rest q → HasId ids q
      was q h = ⊎_elim (λ e. absurd (gone q e h)) (λ ne. sym (other q ne) ∙ h) (cases_eq next q)

      ready : (q : ℕ) → IsReady ns known q → IsReady ns now q
      ready q r = ⊎_elim (λ is. inl (kept.others q is)) (λ l. inr l) r

      after : (q : ℕ) → WillBe ns known ids q → WillBe ns now rest q
      after q w = ⊎_elim (λ r. inl (ready q r))
          (λ h. ⊎_elim (λ e. inl (inl (subst (λ k. IsSome (get nat_cmp now k)) e kept.it))) (λ ne. inr (other q ne ∙ h)) (cases_eq next q)) w

-- Nothing is left, and the polynomial of the root is not kept: it is a single term.
pub only_leaf : (ns : List Node) (p root : ℕ) (known : BTreeMap ℕ Terms) (ids : BTreeSet ℕ) → AreLeft ns p root known ids → ((q : ℕ) → HasId ids q → ⊥) → (IsSome (get nat_cmp known root) → ⊥) → CanMake ns (IsReady ns known) (IsReady ns known) root
only_leaf ns p root known ids are none new = leaf_can ns (IsReady ns known) root
    (⊎_elim (λ r. ⊎_elim (λ is. absurd (new is)) (λ l. l) r) (λ h. absurd (none root h)) are.itself)
