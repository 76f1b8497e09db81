-- The index of names after a name came or went.
use Rattle.std.proofs.Common.{◌≡◌, ℕ, zero, suc, ◌-◌, ◌<◌, ◌≤◌, Bool, true, cond, List, [], ◌∷◌, ◌++◌, length, drop, reverse, map, Option, Some, None, is_some, get_or, set, refl, sym, ap, subst, ◌∙◌, ⊎_elim, arith}
use Rattle.std.specs.Str.{bytes_eq}
use Rattle.std.specs.Option.{IfSome, IfNone}
use Rattle.std.specs.Cmp.Lexicographic.{bytes_decides, nat_list_eq_equiv}
use Rattle.std.specs.BTreeMap.{BTreeMap}
use Rattle.std.specs.declared.alloc.Global.{Global}
use Rattle.std.specs.Prelude.{Vec}
use Rattle.std.proofs.lemmas.Bool.{cases_Bool, cond-true, cond-false}
use Rattle.std.proofs.lemmas.List.{length-map, length-reverse, reverse-append}
use Rattle.ffc_smt.specs.Meaning.{Env}
use Rattle.ffc_terms.specs.declared.environment.Entry.{Entry}
use Rattle.ffc_terms.specs.Slots.{slot_of, pair_of, env_of, AreHidden, with_last, indexed, IsIndex}

pub env_pushed : {V : Type 0} (entries : List (Entry V)) (e : Entry V) → env_of (entries ++ e ∷ []) ≡ pair_of e ∷ env_of entries
env_pushed entries e = ap (map pair_of) (reverse-append entries (e ∷ []))

length_env : {V : Type 0} (entries : List (Entry V)) → length (env_of entries) ≡ length entries
length_env entries = length-map (reverse entries) pair_of ∙ length-reverse entries

pub index_pushed : {V : Type 0} (entries : List (Entry V)) (e : Entry V) (before after : BTreeMap (Vec ℕ Global) ℕ) (name : List ℕ) (slot : ℕ) → IsIndex entries before
    → e.hidden ≡ indexed before e.name.items → name ≡ e.name.items → slot ≡ length entries
    → ((other : List ℕ) → indexed after other ≡ cond (bytes_eq name other) (Some slot) (indexed before other))
    → IsIndex (entries ++ e ∷ []) after
index_pushed entries e before after name slot is hidden same at set = record {
  each = λ other.
      set other
      ∙ ap (λ n. cond (bytes_eq n other) (Some slot) (indexed before other)) same
      ∙ ap (λ x. cond (bytes_eq e.name.items other) (Some slot) x) (is.each other)
      ∙ ap (λ n. cond (bytes_eq e.name.items other) (Some n) (slot_of (env_of entries) other)) (at ∙ sym (length_env entries))
      ∙ ap (λ v. slot_of v other) (sym (env_pushed entries e));
  hidden = subst AreHidden (sym (reverse-append entries (e ∷ []))) (hidden ∙ is.each e.name.items, is.hidden);
}

none_or : (b : Bool) (x : Option ℕ) → b ≡ true → cond b x None ≡ x
none_or b x h = cond-true b x None h

pub index_popped : {V : Type 0} (entries : List (Entry V)) (e : Entry V) (before after : BTreeMap (Vec ℕ Global) ℕ) → IsIndex (entries ++ e ∷ []) before
    → ((other : List ℕ) → indexed after other ≡ cond (bytes_eq e.name.items other) (cond (is_some (indexed before e.name.items)) e.hidden None) (indexed before other))
    → IsIndex entries after
index_popped entries e before after is set =
    let h = subst AreHidden (reverse-append entries (e ∷ [])) is.hidden in
    let each : (other : List ℕ) → indexed before other ≡ cond (bytes_eq e.name.items other) (Some (length (env_of entries))) (slot_of (env_of entries) other) =
    λ other. is.each other ∙ ap (λ v. slot_of v other) (env_pushed entries e) in
    let here : is_some (indexed before e.name.items) ≡ true =
    ap is_some (each e.name.items ∙ cond-true (bytes_eq e.name.items e.name.items) _ _ (nat_list_eq_equiv.refl e.name.items)) in
    record {
      each = λ other. ⊎_elim
          (λ y. set other ∙ cond-true (bytes_eq e.name.items other) _ _ y ∙ none_or _ e.hidden here ∙ h.0
          ∙ ap (slot_of (env_of entries)) ((bytes_decides e.name.items other).0 y))
          (λ n. set other ∙ cond-false (bytes_eq e.name.items other) _ _ n ∙ each other ∙ cond-false (bytes_eq e.name.items other) _ _ n)
          (cases_Bool (bytes_eq e.name.items other));
      hidden = h.1;
    }

drop_one : {A : Type 0} (n : ℕ) (xs ys : List A) (x : A) → drop n xs ≡ x ∷ ys → drop (suc n) xs ≡ ys
drop_one zero [] ys x h = cc
drop_one zero (z ∷ xs) ys x h = cc
drop_one (suc n) [] ys x h = cc
drop_one (suc n) (z ∷ xs) ys x h = drop_one n xs ys x h

-- one more of the first ones is dropped
pub drop_next : {A : Type 0} (xs ys now : List A) (x : A) → now ≡ x ∷ ys → length now ≤ length xs → now ≡ drop (length xs - length now) xs → ys ≡ drop (length xs - length ys) xs
drop_next xs ys now x is le h =
    let n : length now ≡ suc (length ys) = ap length is in
    let count : suc (length xs - length now) ≡ length xs - length ys = omega arith in
    sym (drop_one _ xs ys x (sym h ∙ is)) ∙ ap (λ k. drop k xs) count

-- what a `pop` took from names that are not empty
popped_one : {A B : Type 0} (r : Option A) (f : A → B) (old new : List B) → IfSome r (λ last. old ≡ f last ∷ new) → IfNone r ((old ≡ []) × (new ≡ [])) → 0 < length old
    → (x : B) × (old ≡ x ∷ new)
popped_one None f old new some none h = let e = ap length none.0 in absurd (omega arith)
popped_one (Some last) f old new some none h = (f last, some)

pub cut_by_one : {A B : Type 0} (r : Option A) (f : A → B) (first old new : List B) (n : ℕ) → IfSome r (λ last. old ≡ f last ∷ new) → IfNone r ((old ≡ []) × (new ≡ []))
    → n < length old → (n ≤ length old) × (length old ≤ length first) × (old ≡ drop (length first - length old) first)
    → (n ≤ length new) × (length new ≤ length first) × (new ≡ drop (length first - length new) first)
cut_by_one r f first old new n some none h before =
    let p = popped_one r f old new some none (omega arith) in
    let e : length old ≡ suc (length new) = ap length p.1 in
    (omega arith, omega arith, drop_next first new old p.0 p.1 before.1 before.2)

-- a list by its last item
ends : {A : Type 0} (xs : List A) (n : ℕ) (e y : A) → length xs ≡ suc n → e ≡ get_or xs n e
    → (init : List A) × (xs ≡ init ++ e ∷ []) × (set xs n y ≡ init ++ y ∷ [])
ends [] n e y l is = absurd (omega arith)
ends (x ∷ []) zero e y l is = ([], ap (λ z. z ∷ []) (sym is), refl)
ends (x ∷ []) (suc n) e y l is = absurd (omega arith)
ends (x ∷ z ∷ xs) zero e y l is = absurd (omega arith)
ends (x ∷ z ∷ xs) (suc n) e y l is =
    let more = ends (z ∷ xs) n e y (omega arith) is in
    (x ∷ more.0, ap (λ ys. x ∷ ys) more.1, ap (λ ys. x ∷ ys) more.2)

-- the entry with another value
abbrev pub revalued : {V : Type 0} → Entry V → V → Entry V
revalued e v = record { name = e.name; value = v; hidden = e.hidden }

index_revalued : {V : Type 0} (init : List (Entry V)) (e : Entry V) (v : V) (index : BTreeMap (Vec ℕ Global) ℕ) → IsIndex (init ++ e ∷ []) index → IsIndex (init ++ revalued e v ∷ []) index
index_revalued init e v index is = record {
  each = λ other. is.each other ∙ ap (λ env. slot_of env other) (env_pushed init e) ∙ ap (λ env. slot_of env other) (sym (env_pushed init (revalued e v)));
  hidden = let h = subst AreHidden (reverse-append init (e ∷ [])) is.hidden in subst AreHidden (sym (reverse-append init (revalued e v ∷ []))) (h.0, h.1);
}

pub index_set_last : {V : Type 0} (xs : List (Entry V)) (n : ℕ) (e : Entry V) (v : V) (index : BTreeMap (Vec ℕ Global) ℕ) → length xs ≡ suc n → e ≡ get_or xs n e
    → IsIndex xs index → IsIndex (set xs n (revalued e v)) index
index_set_last xs n e v index l is all =
    let parts = ends xs n e (revalued e v) l is in
    subst (λ ys. IsIndex ys index) (sym parts.2) (index_revalued parts.0 e v index (subst (λ ys. IsIndex ys index) parts.1 all))

pub env_set_last : {V : Type 0} (xs : List (Entry V)) (n : ℕ) (e : Entry V) (v : V) (env : Env V) → length xs ≡ suc n → e ≡ get_or xs n e → env_of xs ≡ env
    → env_of (set xs n (revalued e v)) ≡ with_last v env
env_set_last xs n e v env l is view =
    let parts = ends xs n e (revalued e v) l is in
    ap env_of parts.2 ∙ env_pushed parts.0 (revalued e v) ∙ ap (with_last v) (sym (env_pushed parts.0 e) ∙ ap env_of (sym parts.1) ∙ view)
