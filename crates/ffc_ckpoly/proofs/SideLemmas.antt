-- The polynomial of a node, from those under it that are made in increasing order.
use Rattle.std.proofs.Common.{◌≡◌, ℕ, ◌<◌, false, List, [], Option, Some, None, is_some, IsSome, IfSome, ◌⊎◌, inl, inr, ⊎_elim, refl, sym, ap, ◌∙◌, subst, arith}
use Rattle.std.specs.Ordering.{nat_cmp, is_gt}
use Rattle.std.specs.BTreeMap.{BTreeMap, get, is_at, Updates}
use Rattle.std.specs.Map.{lookup}
use Rattle.std.specs.BTreeSet as set
use Rattle.std.specs.BTreeSet.{BTreeSet}
use Rattle.std.proofs.lemmas.Bool.{cases_eq}
use Rattle.std.proofs.lemmas.Bool.Decides.{nat_tests}
use Rattle.ffc_ring.specs.Polynomial.{Terms}
use Rattle.ffc_term.specs.declared.node.Node.{Node}
use Rattle.ffc_term.specs.Tables.{IsTable}
use Rattle.ffc_trees.specs.NodePolynomials.{poly_at}
use Rattle.ffc_trees.specs.Same.{IsSameLine}
use Rattle.ffc_ckpoly.specs.Parts.{IsWithin, AreKnown}
use Rattle.ffc_ckpoly.specs.Multiples.{this_or}
use Rattle.ffc_ckpoly.specs.Opening.{IsThere, CanMake}
use Rattle.ffc_ckpoly.specs.Opening.CanOpen.{There}
use Rattle.ffc_ckpoly.specs.Uses.{HasId, CanBeMadeInOrder}
use Rattle.ffc_ckpoly.proofs.UseLemmas.{apart, at_other, make_through, make_before}

pub none_known : (p : ℕ) (ns : List Node) (m : BTreeMap ℕ Terms) → m.entries ≡ [] → AreKnown p ns m
none_known p ns m e q = subst (λ o. IfSome o (λ f. IsSameLine p f (poly_at ns q))) (sym (ap (lookup (is_at (nat_cmp q))) e)) tt

-- one more polynomial is kept
pub keeps_known : (p : ℕ) (ns : List Node) (old new : BTreeMap ℕ Terms) (id : ℕ) (f : Terms) → AreKnown p ns old → IsSameLine p f (poly_at ns id) → Updates nat_cmp old new id (Some f) → AreKnown p ns new
keeps_known p ns old new id f are line u q = ⊎_elim
    (λ e. subst (λ k. IfSome (get nat_cmp new k) (λ g. IsSameLine p g (poly_at ns k))) e (subst (λ o. IfSome o (λ g. IsSameLine p g (poly_at ns id))) (sym u.1) line))
    (λ ne. subst (λ o. IfSome o (λ g. IsSameLine p g (poly_at ns q))) (sym (at_other old new id (Some f) u q ne)) (are q))
    (cases_eq id q)

-- and those that were there are there
pub still_there : (old new : BTreeMap ℕ Terms) (id : ℕ) (f : Terms) → Updates nat_cmp old new id (Some f) → (q : ℕ) → IsSome (get nat_cmp old q) → IsSome (get nat_cmp new q)
still_there old new id f u q is = ⊎_elim
    (λ e. subst (λ k. IsSome (get nat_cmp new k)) e (ap is_some u.1))
    (λ ne. ap is_some (at_other old new id (Some f) u q ne) ∙ is)
    (cases_eq id q)

there_known : (known made : BTreeMap ℕ Terms) (q : ℕ) → IsSome (get nat_cmp known q) → IsThere known made q
there_known known made q = by_case (get nat_cmp known q)
  where
    by_case : (o : Option Terms) → IsSome o → IsSome (this_or o (get nat_cmp made q))
    by_case None is = cc
    by_case (Some f) is = refl

there_made : (known made new : BTreeMap ℕ Terms) (q : ℕ) → (IsSome (get nat_cmp made q) → IsSome (get nat_cmp new q)) → IsThere known made q → IsThere known new q
there_made known made new q f = by_case (get nat_cmp known q)
  where
    by_case : (o : Option Terms) → IsSome (this_or o (get nat_cmp made q)) → IsSome (this_or o (get nat_cmp new q))
    by_case None is = f is
    by_case (Some g) is = refl

there_at : (known made : BTreeMap ℕ Terms) (q : ℕ) → IsSome (get nat_cmp made q) → IsThere known made q
there_at known made q is = by_case (get nat_cmp known q)
  where
    by_case : (o : Option Terms) → IsSome (this_or o (get nat_cmp made q))
    by_case None = is
    by_case (Some g) = refl

-- a polynomial is there, or will be made
abbrev WillBe : BTreeMap ℕ Terms → BTreeMap ℕ Terms → BTreeSet ℕ → ℕ → Type 0
WillBe known made ids q = IsThere known made q ⊎ HasId ids q

-- The polynomials that were made under `root` are those of their nodes, and the nodes that are left can be made in order.
pub record AreLeft (ns : List Node) (p : ℕ) (known : BTreeMap ℕ Terms) (root : ℕ) (made : BTreeMap ℕ Terms) (ids : BTreeSet ℕ) : Type 0 where
  pub lines : AreKnown p ns made
  pub within : (q : ℕ) → HasId ids q → IsWithin ns p q
  pub left : (q : ℕ) → HasId ids q → CanMake ns (WillBe known made ids) (WillBe known made ids) q
  pub itself : HasId ids root ⊎ IsSome (get nat_cmp made root)

pub all_left : (ns : List Node) (p : ℕ) (known made : BTreeMap ℕ Terms) (root : ℕ) (ids : BTreeSet ℕ) → AreKnown p ns made → CanBeMadeInOrder ns p known ids → HasId ids root → AreLeft ns p known root made ids
all_left ns p known made root ids lines are itself = record {
  lines = lines;
  within = are.within;
  left = λ q h. make_through ns Then Then (WillBe known made ids) (WillBe known made ids) now (λ k t. There k (now k t)) q (are.made q h);
  itself = inl itself;
}
  where
    Then : ℕ → Type 0
    Then q = IsSome (get nat_cmp known q) ⊎ HasId ids q

    now : (q : ℕ) → Then q → WillBe known made ids q
    now q t = ⊎_elim (λ is. inl (there_known known made q is)) (λ h. inr h) t

module _ (ns : List Node) (p : ℕ) (known : BTreeMap ℕ Terms) (root : ℕ) (made : BTreeMap ℕ Terms) (ids : BTreeSet ℕ) (next : ℕ) (are : AreLeft ns p known root made ids) where
  not_before : (x y : ℕ) → y < x → is_gt (nat_cmp x y) ≡ false → ⊥
  not_before x y less h = grind (arith, nat_tests, less, h)

  -- the least node can be made of what is there
  pub least_can : IsTable ns → HasId ids next → set.IsLowerBound nat_cmp ids next → CanMake ns (IsThere known made) (IsThere known made) next
  least_can table has least = make_before ns p next (WillBe known made ids) (IsThere known made) table (are.within next has).field
      (λ q less w. ⊎_elim (λ t. t) (λ h. absurd (not_before next q less (least q h))) w) (are.left next has)

  pub one_made : (now : BTreeMap ℕ Terms) (rest : BTreeSet ℕ) (f : Terms) → set.Updates nat_cmp ids rest next false → Updates nat_cmp made now next (Some f) → IsSameLine p f (poly_at ns next) → AreLeft ns p known root now rest
  one_made now rest f removed u line = record {
    lines = keeps_known p ns made now next f are.lines line u;
    within = λ q h. are.within q (was q h);
    left = λ q h. make_through ns (WillBe known made ids) (WillBe known made ids) (WillBe known now rest) (WillBe known now rest) after (λ k t. There k (after k t)) q (are.left q (was q h));
    itself = ⊎_elim (λ h. made_or_left root h) (λ is. inr (still_there made now next f u root is)) are.itself;
  }
    where
      other : (q : ℕ) → (next ≡ q → ⊥) → set.contains nat_cmp rest q ≡ set.contains nat_cmp ids q
      other q ne = removed.2 q (apart next q ne)

      gone : (q : ℕ) → next ≡ q → HasId rest q → ⊥
      gone q e h = let never = sym removed.1 ∙ subst (HasId rest) (sym e) h in cc

      was : (q : ℕ) → HasId rest q → HasId ids q
      was q h = ⊎_elim (λ e. absurd (gone q e h)) (λ ne. sym (other q ne) ∙ h) (cases_eq next q)

      made_or_left : (q : ℕ) → HasId ids q → HasId rest q ⊎ IsSome (get nat_cmp now q)
      made_or_left q h = ⊎_elim (λ e. inr (subst (λ k. IsSome (get nat_cmp now k)) e (ap is_some u.1))) (λ ne. inl (other q ne ∙ h)) (cases_eq next q)

      after : (q : ℕ) → WillBe known made ids q → WillBe known now rest q
      after q w = ⊎_elim (λ t. inl (there_made known made now q (still_there made now next f u q) t))
          (λ h. ⊎_elim (λ left. inr left) (λ is. inl (there_at known now q is)) (made_or_left q h)) w
