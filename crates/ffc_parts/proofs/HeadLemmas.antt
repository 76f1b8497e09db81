-- The commands by name.
use Rattle.std.proofs.Common.{◌≡◌, ℕ, Bool, true, false, List, [], ◌∷◌, if◌then◌else◌, Option, Some, None, IfSome, IfNone, refl, sym, ap, ◌∙◌, rules}
use Rattle.std.specs.Str.{bytes_eq}
use Rattle.ffc_smt.specs.Terms.{Name}
use Rattle.ffc_smt.specs.Meaning.{Env, found}
use Rattle.ffc_smt.specs.Scopes.{State}
use Rattle.ffc_smt.specs.CommandReading.{Limits, readers}
use Rattle.ffc_parts.specs.declared.heads.Head.{Head}
use Rattle.ffc_parts.specs.Heads.{head_name, heads}

-- each under its own name
abbrev pub AreNamed : Env Head → Type 0
AreNamed [] = Unit {0}
AreNamed (x ∷ xs) = (x.0 ≡ head_name x.1) × AreNamed xs

equal_bytes : (xs ys : List ℕ) → bytes_eq xs ys ≡ true → xs ≡ ys
equal_bytes xs ys e = search (rules, e)

same_first : (x y : Name) (xs ys : List Name) → x ∷ xs ≡ y ∷ ys → x ≡ y
same_first x y xs ys e = cc

same_rest : (x y : Name) (xs ys : List Name) → x ∷ xs ≡ y ∷ ys → xs ≡ ys
same_rest x y xs ys e = cc

the_same : (a b : Head) → Some a ≡ Some b → a ≡ b
the_same a b e = cc

pub found_name : (xs : Env Head) (name : Name) (h : Head) → AreNamed xs → found xs name ≡ Some h → name ≡ head_name h
found_name [] name h named e = cc
found_name (x ∷ xs) name h named e = by_test (bytes_eq x.0 name) refl (λ is. found_name xs name h named.1 is) e
  where
    by_test : (b : Bool) → bytes_eq x.0 name ≡ b → (found xs name ≡ Some h → name ≡ head_name h) → (if b then Some x.1 else found xs name) ≡ Some h → name ≡ head_name h
    by_test true same later is = sym (equal_bytes x.0 name same) ∙ named.0 ∙ ap head_name (the_same x.1 h is)
    by_test false other later is = later is

abbrev pub names : {A : Type 0} → Env A → List Name
names [] = []
names (x ∷ xs) = x.0 ∷ names xs

-- where two lists have the same names, a name is in none or in both of them
pub found_none : {A B : Type 0} (xs : Env A) (ys : Env B) (name : Name) → names xs ≡ names ys → found xs name ≡ None → found ys name ≡ None
found_none [] [] name e h = refl
found_none [] (y ∷ ys) name e h = cc
found_none (x ∷ xs) [] name e h = cc
found_none {A} {B} (x ∷ xs) (y ∷ ys) name e h = by_test (bytes_eq x.0 name) refl (λ is. found_none xs ys name (same_rest x.0 y.0 (names xs) (names ys) e) is) h
  where
    first : x.0 ≡ y.0
    first = same_first x.0 y.0 (names xs) (names ys) e

    by_test : (b : Bool) → bytes_eq x.0 name ≡ b → (found xs name ≡ None → found ys name ≡ None) → (if b then Some x.1 else found xs name) ≡ None
        → (if bytes_eq y.0 name then Some y.1 else found ys name) ≡ None
    by_test true same later is = cc
    by_test false other later is = rw (sym (ap (λ n. bytes_eq n name) first) ∙ other) (later is)

pub are_named : AreNamed heads
are_named = (
  refl,
  (
    refl,
    (
      refl,
      (
        refl,
        (
          refl,
          (
            refl,
            (
              refl,
              (
                refl,
                (
                  refl,
                  (
                    refl,
                    (
                      refl,
                      (refl, (refl, (refl, (refl, (refl, (refl, (refl, (refl, (refl, (refl, (refl, tt))))))))))),
                    ),
                  ),
                ),
              ),
            ),
          ),
        ),
      ),
    ),
  ),
)

pub some_named : (r : Option Head) (xs : Env Head) (name : Name) → AreNamed xs → r ≡ found xs name → IfSome r (λ h. name ≡ head_name h)
some_named None xs name named e = tt
some_named (Some h) xs name named e = found_name xs name h named (sym e)

pub none_known : (r : Option Head) (name : Name) (l : Limits) (s : State) → r ≡ found heads name → IfNone r (found (readers l s) name ≡ None)
none_known (Some h) name l s e = tt
none_known None name l s e = found_none heads (readers l s) name refl (sym e)
