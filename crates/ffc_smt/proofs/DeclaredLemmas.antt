-- The constants in scope, in the order of their declaration, and their nodes.
use Rattle.std.proofs.Common.{◌≡◌, ℕ, ◌+◌, ◌<◌, ◌≤◌, ◌⊎◌, inl, inr, ⊎_elim, cond, List, [], ◌∷◌, ◌++◌, length, take, map, filter_map, reverse, get_or, Some, All, Contains, slice_get, refl, sym, ap, ◌∙◌, subst, arith, length-append, append-nil, take-take, sum_by}
use Rattle.std.proofs.lemmas.Bool.{cases_lt}
use Rattle.std.proofs.Math.ListN.{get_or-append}
use Rattle.std.proofs.Math.Seq.{get_or-append_seam}
use Rattle.std.proofs.lemmas.List.{reverse-append, map-append}
use Rattle.std.proofs.lemmas.List.Elements.{All-cons, All-nil, All-head, All-tail, All-append, All-map, All-weaker, filter_map-append, Contains-append_left, Contains-append_right, Contains-append_cases, Contains-push_cases}
use Rattle.std.proofs.lemmas.List.Sums.{sum_by-take-le}
use Rattle.std.proofs.lemmas.Option.{slice_get_within, slice_get-get_or, get_or_from_slice_get, slice_get-map}
use Rattle.std.specs.List.Sorted.{IsStrictlyIncreasing}
use Rattle.std.specs.Option.{option_map}
use Rattle.ffc_term.specs.declared.node.Node.{Node}
use Rattle.ffc_term.specs.declared.node.Sort.{Sort}
use Rattle.ffc_term.specs.Nodes.{IsNodeAt, is_constant}
use Rattle.ffc_term.specs.Tables.{IsWellFormed, constant_count}
use Rattle.ffc_smt.specs.Terms.{Name, Constant}
use Rattle.ffc_smt.specs.Meaning.{Env}
use Rattle.ffc_smt.specs.Making.{constant_node, made}
use Rattle.ffc_smt.specs.Scopes.{Meant, AsConstant, AsTerm, AsMacro, Declared, as_declared}
use Rattle.ffc_smt.specs.TableChecks.{node_of}
use Rattle.ffc_smt.specs.ScopedStates.{AreNumberedBelow}
use Rattle.ffc_smt.proofs.Again.{interned_there}
use Rattle.ffc_smt.proofs.SoundStates.{constant_number}

-- Lists

pub contains_from_get : {A : Type 0} (xs : List A) (k : ℕ) (x : A) → slice_get xs k ≡ Some x → Contains xs x
contains_from_get xs k x e = (k, slice_get_within xs k x e, get_or_from_slice_get xs k x x e)

pub get_from_contains : {A : Type 0} (xs : List A) (x : A) → (h : Contains xs x) → slice_get xs h.0 ≡ Some x
get_from_contains xs x h = slice_get-get_or xs h.0 x h.1 ∙ ap (λ y. Some y) h.2

pub contains_map : {A B : Type 0} (f : A → B) (xs : List A) (x : A) → Contains xs x → Contains (map f xs) (f x)
contains_map f xs x h = contains_from_get (map f xs) h.0 (f x) (slice_get-map f xs h.0 ∙ ap (λ o. option_map f o) (get_from_contains xs x h))

pub in_front : {A : Type 0} (x : A) (xs : List A) (y : A) → Contains (x ∷ xs) y → (y ≡ x) ⊎ Contains xs y
in_front x xs y has = ⊎_elim (λ first. ⊎_elim (λ none. absurd (at_none none)) (λ e. inl (sym e)) (Contains-push_cases [] x y first)) (λ later. inr later) (Contains-append_cases (x ∷ []) xs y has)
  where
    at_none : Contains [] y → ⊥
    at_none (k, inside, e) = absurd (omega arith)

increasing_push : (xs : List ℕ) (y : ℕ) → IsStrictlyIncreasing xs → All (λ x. x < y) xs → IsStrictlyIncreasing (xs ++ y ∷ [])
increasing_push xs y rises below k inside =
    let long : length (xs ++ y ∷ []) ≡ length xs + 1 = length-append xs (y ∷ []) in
    ⊎_elim
    (λ (early : k + 1 < length xs).
    let one = get_or-append xs (y ∷ []) 0 k (omega arith) in
    let two = get_or-append xs (y ∷ []) 0 (k + 1) early in
    let less = rises k early in
    omega arith)
    (λ (late : length xs ≤ k + 1).
    let at : k + 1 ≡ length xs = omega arith in
    let one = get_or-append xs (y ∷ []) 0 k (omega arith) in
    let two : get_or (xs ++ y ∷ []) (k + 1) 0 ≡ y = ap (λ i. get_or (xs ++ y ∷ []) i 0) at ∙ get_or-append_seam xs y [] 0 in
    let less : get_or xs k 0 < y = below k 0 (omega arith) in
    omega arith)
    (cases_lt (k + 1) (length xs))

-- What is declared by names, of which the newest comes first

abbrev pub declared_by : Env Meant → List Declared
declared_by names = filter_map as_declared (reverse names)

declared_cons : (x : Name × Meant) (xs : Env Meant) → declared_by (x ∷ xs) ≡ declared_by xs ++ filter_map as_declared (x ∷ [])
declared_cons x xs = ap (λ ys. filter_map as_declared ys) (reverse-append (x ∷ []) xs) ∙ filter_map-append as_declared (reverse xs) (x ∷ [])

pub declared_has : (names : Env Meant) (name : Name) (k : ℕ) (s : Sort) → Contains names (name, AsConstant k s) → Contains (declared_by names) (record { name = name; number = k; sort = s })
declared_has [] name k s (i, inside, e) = absurd (omega arith)
declared_has (x ∷ xs) name k s has =
    let d : Declared = record { name = name; number = k; sort = s } in
    subst (λ ys. Contains ys d) (sym (declared_cons x xs))
    (⊎_elim
    (λ e. Contains-append_right (declared_by xs) (filter_map as_declared (x ∷ [])) d (subst (λ y. Contains (filter_map as_declared (y ∷ [])) d) e (0, omega arith, refl)))
    (λ later. Contains-append_left (declared_by xs) (filter_map as_declared (x ∷ [])) d (declared_has xs name k s later))
    (in_front x xs (name, AsConstant k s) has))

-- of a name, where it means a constant
abbrev pub IfConstant : (Declared → Type 0) → Name × Meant → Type 0
IfConstant P (name, AsConstant k s) = P (record { name = name; number = k; sort = s })
IfConstant P (name, AsTerm s t) = Unit {0}
IfConstant P (name, AsMacro ps s t) = Unit {0}

declared_one : (P : Declared → Type 0) (x : Name × Meant) → IfConstant P x → All P (filter_map as_declared (x ∷ []))
declared_one P (name, AsConstant k s) h = All-cons P (record { name = name; number = k; sort = s }) [] h (All-nil P)
declared_one P (name, AsTerm s t) h = All-nil P
declared_one P (name, AsMacro ps s t) h = All-nil P

pub declared_all : (P : Declared → Type 0) (names : Env Meant) → All (IfConstant P) names → All P (declared_by names)
declared_all P [] h = All-nil P
declared_all P (x ∷ xs) h =
    subst (All P) (sym (declared_cons x xs))
    (All-append P (declared_by xs) (filter_map as_declared (x ∷ [])) (declared_all P xs (All-tail (IfConstant P) x xs h)) (declared_one P x (All-head (IfConstant P) x xs h)))

raised : (k n : ℕ) (x : Name × Meant) → k < n → IfConstant (λ d. d.number < k) x → IfConstant (λ d. d.number < n) x
raised k n (name, AsConstant j s) less h = omega arith
raised k n (name, AsTerm s t) less h = tt
raised k n (name, AsMacro ps s t) less h = tt

all_below : (n : ℕ) (names : Env Meant) → AreNumberedBelow n names → All (IfConstant (λ d. d.number < n)) names
all_below n [] h = All-nil (IfConstant (λ d. d.number < n))
all_below n ((name, AsConstant k s) ∷ rest) h =
    let x : Name × Meant = (name, AsConstant k s) in
    All-cons (IfConstant (λ d. d.number < n)) x rest h.0 (All-weaker (IfConstant (λ d. d.number < k)) (IfConstant (λ d. d.number < n)) (λ y g. raised k n y h.0 g) rest (all_below k rest h.1))
all_below n ((name, AsTerm s t) ∷ rest) h = All-cons (IfConstant (λ d. d.number < n)) (name, AsTerm s t) rest tt (all_below n rest h)
all_below n ((name, AsMacro ps s t) ∷ rest) h = All-cons (IfConstant (λ d. d.number < n)) (name, AsMacro ps s t) rest tt (all_below n rest h)

numbered_all : (n : ℕ) (names : Env Meant) → AreNumberedBelow n names → All (λ d. d.number < n) (declared_by names)
numbered_all n names h = declared_all (λ d. d.number < n) names (all_below n names h)

-- Nodes of constants

module _ (ns : List Node) (formed : IsWellFormed ns) where
  abbrev pub node_at : Declared → ℕ
  node_at d = node_of ns (Constant d.number d.sort)

  abbrev pub HasItsNode : Declared → Type 0
  HasItsNode d = IsNodeAt ns (node_at d) (constant_node d.number d.sort)

  pub node_there : (k : ℕ) (s : Sort) (id : ℕ) → IsNodeAt ns id (constant_node k s) → node_of ns (Constant k s) ≡ id
  unfolding made
  node_there k s id at = ap (λ m. m.id) (interned_there ns (constant_node k s) id formed at)

  pub has_its_node : (d : Declared) (id : ℕ) → IsNodeAt ns id (constant_node d.number d.sort) → HasItsNode d
  has_its_node d id at = subst (λ k. IsNodeAt ns k (constant_node d.number d.sort)) (sym (node_there d.number d.sort id at)) at

  counts_rise : (a b : ℕ) → b ≤ a → constant_count (take b ns) ≤ constant_count (take a ns)
  counts_rise a b le =
      let f = λ (x : Node). cond (is_constant x) 1 0 in
      subst (λ ms. sum_by f ms ≤ sum_by f (take a ns)) (take-take b a ns le) (sum_by-take-le f (take a ns) b)

  nodes_rise : (d e : Declared) → HasItsNode d → HasItsNode e → d.number < e.number → node_at d < node_at e
  nodes_rise d e h g less =
      let one : d.number ≡ constant_count (take (node_at d) ns) = constant_number (take (node_at d) ns) d.number d.sort (formed.numbered (node_at d) (constant_node d.number d.sort) h) in
      let two : e.number ≡ constant_count (take (node_at e) ns) = constant_number (take (node_at e) ns) e.number e.sort (formed.numbered (node_at e) (constant_node e.number e.sort) g) in
      ⊎_elim (λ lt. lt) (λ le. absurd (let rise = counts_rise (node_at d) (node_at e) le in omega arith)) (cases_lt (node_at d) (node_at e))

  rise_one : (xs : List Declared) (e : Declared) → All HasItsNode xs → HasItsNode e → All (λ d. d.number < e.number) xs → All (λ d. node_at d < node_at e) xs
  rise_one xs e h g less k d inside = nodes_rise (get_or xs k d) e (h k d inside) g (less k d inside)

  abbrev Rises : Env Meant → Type 0
  Rises names = IsStrictlyIncreasing (map node_at (declared_by names))

  same_rises : (x : Name × Meant) (xs : Env Meant) → filter_map as_declared (x ∷ []) ≡ [] → Rises xs → Rises (x ∷ xs)
  same_rises x xs e h = subst (λ ys. IsStrictlyIncreasing (map node_at ys)) (sym (declared_cons x xs ∙ ap (λ ys. declared_by xs ++ ys) e ∙ append-nil (declared_by xs))) h

  pub declared_rises : (n : ℕ) (names : Env Meant) → AreNumberedBelow n names → All (IfConstant HasItsNode) names → Rises names
  declared_rises n [] h g = λ k inside. absurd (omega arith)
  declared_rises n ((name, AsConstant k s) ∷ rest) h g =
      let x : Name × Meant = (name, AsConstant k s) in
      let d : Declared = record { name = name; number = k; sort = s } in
      let more = All-tail (IfConstant HasItsNode) x rest g in
      let old = declared_by rest in
      let all = declared_all HasItsNode rest more in
      let less = rise_one old d all (All-head (IfConstant HasItsNode) x rest g) (numbered_all k rest h.1) in
      subst (λ ys. IsStrictlyIncreasing (map node_at ys)) (sym (declared_cons x rest))
      (subst IsStrictlyIncreasing (sym (map-append node_at old (d ∷ [])))
      (increasing_push (map node_at old) (node_at d) (declared_rises k rest h.1 more) (All-map (λ y. y < node_at d) node_at old less)))
  declared_rises n ((name, AsTerm s t) ∷ rest) h g = same_rises (name, AsTerm s t) rest refl (declared_rises n rest h (All-tail (IfConstant HasItsNode) (name, AsTerm s t) rest g))
  declared_rises n ((name, AsMacro ps s t) ∷ rest) h g = same_rises (name, AsMacro ps s t) rest refl (declared_rises n rest h (All-tail (IfConstant HasItsNode) (name, AsMacro ps s t) rest g))
