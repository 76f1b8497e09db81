-- Maps with names as keys, read by the names' bytes.
use Rattle.std.proofs.Common.{◌≡◌, ℕ, Bool, true, false, cond, List, Option, None, refl, sym, subst, ◌∙◌, ⊎_elim}
use Rattle.std.specs.Str.{bytes_eq}
use Rattle.std.specs.BTreeMap.{BTreeMap, UpdatesBy}
use Rattle.std.specs.Cmp.{eq_by_cmp_equiv}
use Rattle.std.specs.Cmp.Lexicographic.{slice_cmp, bytes_decides, nat_list_cmp_total, nat_list_eq_equiv, texts_ties}
use Rattle.std.specs.Ordering.{is_eq, nat_cmp}
use Rattle.std.specs.Map.{lookup, IsKeyTest, AreApart, KeepsOthers}
use Rattle.std.proofs.lemmas.Bool.{cases_Bool, cond-true, cond-false}
use Rattle.std.specs.declared.alloc.Global.{Global}
use Rattle.std.specs.Prelude.{Vec}
use Rattle.ffc_terms.specs.Slots.{indexed}

apart : (bs cs ks : List ℕ) → bytes_eq bs cs ≡ false → is_eq (slice_cmp nat_cmp bs ks) ≡ true → is_eq (slice_cmp nat_cmp cs ks) ≡ false
apart bs cs ks n y = sym (texts_ties cs ks) ∙ (nat_list_eq_equiv.symm cs ks ∙ sym (nat_list_eq_equiv.congr bs ks cs (texts_ties bs ks ∙ y)) ∙ n)

others_stay : {K X : Type 0} (eq : K → K → Bool) (test : K → Bool) (old new : List (K × X)) → KeepsOthers eq test old new → (other : K → Bool) → IsKeyTest eq other → AreApart test other → lookup other new ≡ lookup other old
unfolding KeepsOthers
others_stay eq test old new h = h

-- after a change at a name, another one has what it had
pub indexed_after : (name : List ℕ) (m n : BTreeMap (Vec ℕ Global) ℕ) (w : Option ℕ)
    → UpdatesBy (λ x y. slice_cmp nat_cmp x.items y.items) (λ k. slice_cmp nat_cmp name k.items) m n w
    → (other : List ℕ) → indexed n other ≡ cond (bytes_eq name other) w (indexed m other)
indexed_after name m n w h other =
    ⊎_elim
    (λ y. subst (λ l. indexed n l ≡ w) ((bytes_decides name other).0 y) h.1 ∙ sym (cond-true (bytes_eq name other) w (indexed m other) y))
    (λ no. others_stay _ _ _ _ h.3 _ (λ x y. (eq_by_cmp_equiv nat_list_cmp_total).congr other x.items y.items) (λ k. apart name other k.items no)
    ∙ sym (cond-false (bytes_eq name other) w (indexed m other) no))
    (cases_Bool (bytes_eq name other))

pub none_either : (b : Bool) → cond {A = Option ℕ} b None None ≡ None
none_either true = refl
none_either false = refl
