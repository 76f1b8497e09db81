-- Steps of writing sums: what is added, and what is left.
use Rattle.std.proofs.Common.{◌≡◌, ℕ, zero, suc, ◌+◌, ◌-◌, ◌%◌, ◌<◌, List, [], ◌∷◌, ◌++◌, length, map, reverse, drop, get_or, Option, Some, None, sym, ap, ap₂, ◌∙◌, refl, subst, arith, append_assoc, drop-cons, length-append}
use Rattle.std.proofs.lemmas.List.{append-nil, map-append, reverse-append}
use Rattle.std.proofs.lemmas.Nat.{mul-mod_second}
use Rattle.ffc_cert.specs.declared.entries.CertLine.{CertLine}
use Rattle.ffc_cert.specs.declared.entries.CertLine.TheVariants.{Combine, Close}
use Rattle.ffc_field.specs.Modular.{mul_mod, neg_mod}
use Rattle.ffc_ring.specs.Monomial.{Monomial}
use Rattle.ffc_ring.specs.Polynomial.{Terms}
use Rattle.ffc_trees.specs.TreeLines.{Multiple}
use Rattle.ffc_bounds.specs.Monomials.{power}
use Rattle.ffc_refutation.specs.declared.combination.Determined.{Determined}
use Rattle.ffc_refutation.specs.Combinations.{Summand}
use Rattle.ffc_refutation.specs.Written.{multiple_of}
use Rattle.ffc_values.specs.declared.sums.Sums.{Sums}
use Rattle.ffc_values.specs.declared.dividing.Known.{Known}
use Rattle.ffc_values.specs.Written.{Adds, next_line, written_with, sums_lines, known_sum, known_lines, knowns_of, known_of, power_summands, power_rest, term_summands, quotients, last_summands, values_tree}
use Rattle.ffc_values.specs.Steps.{Remains}

pub all_remains : (all : List Multiple) (sums : Sums) → Remains all all sums sums
all_remains all sums = record { first = refl; tree = λ ms. refl }

pub some_remains : (all added left : List Multiple) (old mid new : Sums) → Remains all (added ++ left) old mid → Adds added mid new → Remains all left old new
some_remains all added left old mid new before adds = record {
  first = adds.first ∙ before.first;
  tree = λ ms. adds.tree (left ++ ms) ∙ ap (written_with mid) (sym (append_assoc added left ms)) ∙ before.tree ms;
}

pub nothing_remains : (all : List Multiple) (old new : Sums) → Remains all [] old new → Adds all old new
nothing_remains all old new is = record { first = is.first; tree = λ ms. is.tree ms }

-- what is popped comes next
pub popped : {A : Type 0} (xs ys : List A) (x : A) → xs ≡ ys ++ x ∷ [] → reverse xs ≡ x ∷ reverse ys
popped xs ys x e = ap reverse e ∙ reverse-append ys (x ∷ [])

-- ---- a power

power_next : (p : ℕ) (k : Known) (m : Monomial) (c left : ℕ) → 0 < left
    → power_summands p k m c left ≡ (k.line, (c, power k.variable (left - 1) ++ m)) ∷ power_summands p k m (mul_mod p c k.value) (left - 1)
power_next p k m c zero some = absurd (omega arith)
power_next p k m c (suc e) some = ap (λ i. (k.line, (c, power k.variable i ++ m)) ∷ power_summands p k m (mul_mod p c k.value) i) (let less : e ≡ suc e - 1 = omega arith in less)

pub power_remains : (p : ℕ) (k : Known) (m : Monomial) (c left : ℕ) (all : List Multiple) (old mid new : Sums) (r : ℕ) (n : Monomial) (v c2 : ℕ) → 0 < left
    → Remains all (map multiple_of (power_summands p k m c left)) old mid → r ≡ c → n ≡ power k.variable (left - 1) ++ m → Adds (multiple_of (k.line, (r, n)) ∷ []) mid new
    → v ≡ k.value % p → c2 ≡ mul_mod p c v → Remains all (map multiple_of (power_summands p k m c2 (left - 1))) old new
power_remains p k m c left all old mid new r n v c2 some before residue monomial adds reduced next =
    let same : c2 ≡ mul_mod p c k.value = next ∙ ap (mul_mod p c) reduced ∙ mul-mod_second c k.value p in
    let first : (k.line, (r, n)) ∷ power_summands p k m c2 (left - 1) ≡ power_summands p k m c left =
    ap₂ (λ i j. (k.line, (i, j)) ∷ power_summands p k m c2 (left - 1)) residue monomial
    ∙ ap (λ i. (k.line, (c, power k.variable (left - 1) ++ m)) ∷ power_summands p k m i (left - 1)) same
    ∙ sym (power_next p k m c left some) in
    some_remains all (multiple_of (k.line, (r, n)) ∷ []) (map multiple_of (power_summands p k m c2 (left - 1))) old mid new
    (subst (λ ss. Remains all (map multiple_of ss) old mid) (sym first) before) adds

pub power_rest_next : (p value c left v c2 : ℕ) → 0 < left → v ≡ value % p → c2 ≡ mul_mod p c v → power_rest p value c2 (left - 1) ≡ power_rest p value c left
power_rest_next p value c zero v c2 some reduced next = absurd (omega arith)
power_rest_next p value c (suc e) v c2 some reduced next =
    ap₂ (power_rest p value) (next ∙ ap (mul_mod p c) reduced ∙ mul-mod_second c value p) (let less : suc e - 1 ≡ e = omega arith in less)

-- ---- a term

term_next : (p : ℕ) (ks : List Known) (u : Monomial) (c : ℕ) (f : ℕ × ℕ) (m : Monomial) (k : Known) → known_of ks f.0 ≡ Some k
    → term_summands p ks u c (f ∷ m) ≡ power_summands p k (m ++ u) c f.1 ++ term_summands p ks u (power_rest p k.value c f.1) m
term_next p ks u c f m k found =
    ap (λ (o : Option Known). elim o as (λ _. List Summand) [ None ↦ [] | Some j ↦ power_summands p j (m ++ u) c f.1 ++ term_summands p ks u (power_rest p j.value c f.1) m ]) found

pub term_stops : (p : ℕ) (ks : List Known) (u : Monomial) (c : ℕ) (f : ℕ × ℕ) (m : Monomial) → known_of ks f.0 ≡ None → term_summands p ks u c (f ∷ m) ≡ []
term_stops p ks u c f m missed =
    ap (λ (o : Option Known). elim o as (λ _. List Summand) [ None ↦ [] | Some j ↦ power_summands p j (m ++ u) c f.1 ++ term_summands p ks u (power_rest p j.value c f.1) m ]) missed

pub term_remains : (p : ℕ) (ks : List Known) (u : Monomial) (c : ℕ) (f : ℕ × ℕ) (m left : Monomial) (k : Known) (all : List Multiple) (old mid new : Sums) (r : ℕ) → left ≡ f ∷ m → known_of ks f.0 ≡ Some k
    → Remains all (map multiple_of (term_summands p ks u c left)) old mid → Adds (map multiple_of (power_summands p k (m ++ u) c f.1)) mid new → r ≡ power_rest p k.value c f.1
    → Remains all (map multiple_of (term_summands p ks u r m)) old new
term_remains p ks u c f m left k all old mid new r parts found before adds rest =
    let first : List Summand = power_summands p k (m ++ u) c f.1 in
    let whole : map multiple_of (term_summands p ks u c left) ≡ map multiple_of first ++ map multiple_of (term_summands p ks u r m) =
    ap (λ ps. map multiple_of (term_summands p ks u c ps)) parts ∙ ap (map multiple_of) (term_next p ks u c f m k found ∙ ap (λ i. first ++ term_summands p ks u i m) (sym rest))
    ∙ map-append multiple_of first (term_summands p ks u r m) in
    some_remains all (map multiple_of first) (map multiple_of (term_summands p ks u r m)) old mid new (subst (λ ms. Remains all ms old mid) whole before) adds

-- ---- a polynomial

pub quotients_remain : (p : ℕ) (ks : List Known) (u : Monomial) (ts : Terms) (i : ℕ) (t : ℕ × Monomial) (n : ℕ) (m : Monomial) (all : List Multiple) (old mid new : Sums) → i < length ts → get_or ts i (0, []) ≡ t → n ≡ neg_mod p t.0 → m ≡ t.1
    → Remains all (map multiple_of (quotients p ks u (drop i ts))) old mid → Adds (map multiple_of (term_summands p ks u n m)) mid new
    → Remains all (map multiple_of (quotients p ks u (drop (i + 1) ts))) old new
quotients_remain p ks u ts i t n m all old mid new inside at negated monomial before adds =
    let first : List Summand = term_summands p ks u n m in
    let left : List Summand = quotients p ks u (drop (i + 1) ts) in
    let parts : drop i ts ≡ t ∷ drop (i + 1) ts =
    drop-cons ts i (0, []) inside ∙ ap₂ (λ x j. x ∷ drop j ts) at (let more : suc i ≡ i + 1 = omega arith in more) in
    let whole : map multiple_of (quotients p ks u (drop i ts)) ≡ map multiple_of first ++ map multiple_of left =
    ap (λ ss. map multiple_of (quotients p ks u ss)) parts ∙ ap (map multiple_of) (ap₂ (λ a b. term_summands p ks u a b ++ left) (sym negated) (sym monomial)) ∙ map-append multiple_of first left in
    some_remains all (map multiple_of first) (map multiple_of left) old mid new (subst (λ ms. Remains all ms old mid) whole before) adds

-- ---- the sums of variables

next_grows : (old new : Sums) (added : List CertLine) → new.first ≡ old.first → new.lines.items ≡ old.lines.items ++ added → next_line new ≡ next_line old + length added
next_grows old new added first lines = omega (arith, first, ap length lines, length-append old.lines.items added)

pub knowns_next : (old new : Sums) (d : Determined) (variables : List ℕ) (place x number : ℕ) (left : List Determined) → new.first ≡ old.first → new.lines.items ≡ old.lines.items ++ known_sum (next_line old) d
    → number + 1 ≡ next_line new → place < length variables → x ≡ get_or variables place 0
    → knowns_of (next_line old) (drop place variables) (d ∷ left) ≡ record { variable = x; line = number; value = d.value } ∷ knowns_of (next_line new) (drop (place + 1) variables) left
knowns_next old new d variables place x number left first lines last inside at =
    let sum : List CertLine = known_sum (next_line old) d in
    let grows : next_line new ≡ next_line old + length sum = next_grows old new sum first lines in
    let line : next_line old + length sum - 1 ≡ number = omega arith in
    let parts : drop place variables ≡ x ∷ drop (place + 1) variables =
    drop-cons variables place 0 inside ∙ ap₂ (λ y j. y ∷ drop j variables) (sym at) (let more : suc place ≡ place + 1 = omega arith in more) in
    ap (λ xs. knowns_of (next_line old) xs (d ∷ left)) parts
    ∙ ap₂ (λ i j. record { variable = x; line = i; value = d.value } ∷ knowns_of j (drop (place + 1) variables) left) line (sym grows)

pub lines_next : (old new : Sums) (d : Determined) (left : List Determined) → new.first ≡ old.first → new.lines.items ≡ old.lines.items ++ known_sum (next_line old) d
    → new.lines.items ++ known_lines (next_line new) left ≡ old.lines.items ++ known_lines (next_line old) (d ∷ left)
lines_next old new d left first lines =
    let sum : List CertLine = known_sum (next_line old) d in
    ap₂ (λ ls n. ls ++ known_lines n left) lines (next_grows old new sum first lines)
    ∙ append_assoc old.lines.items sum (known_lines (next_line old + length sum) left)

pub knowns_more : (before after : List Known) (k : Known) (rest next total : List Known) → after ≡ before ++ k ∷ [] → rest ≡ k ∷ next → before ++ rest ≡ total → after ++ next ≡ total
knowns_more before after k rest next total pushed parts so_far =
    ap (λ ks. ks ++ next) pushed ∙ append_assoc before (k ∷ []) next ∙ ap (λ ks. before ++ ks) (sym parts) ∙ so_far

-- the whole tree, from what is added after the sums of variables
pub tree_written : (p first : ℕ) (xs : List ℕ) (ds : List Determined) (line : ℕ) (u : Monomial) (sides : Terms) (start known mid last : Sums) (lines : List CertLine) (ks : List Known) → start.first ≡ first → start.lines.items ≡ []
    → known.first ≡ start.first → known.lines.items ≡ start.lines.items ++ known_lines (next_line start) ds → known.pending.items ≡ [] → ks ≡ knowns_of (next_line start) xs ds
    → Adds (multiple_of (line, (1, [])) ∷ []) known mid → Adds (map multiple_of (quotients p ks u sides)) mid last
    → lines ≡ last.lines.items ++ (Combine last.pending.items ∷ Close ∷ []) → lines ≡ values_tree p first xs ds line u sides
tree_written p first xs ds line u sides start known mid last lines ks ef es ek el ep en adds more written =
    let from : next_line start ≡ first = omega (arith, ef, ap length es) in
    let front : known.lines.items ≡ known_lines first ds = el ∙ ap₂ (λ ls n. ls ++ known_lines n ds) es from in
    let next : next_line known ≡ first + length (known_lines first ds) = omega (arith, ek, ef, ap length front) in
    let knowns : ks ≡ knowns_of first xs ds = en ∙ ap (λ n. knowns_of n xs ds) from in
    let one : Multiple = multiple_of (line, (1, [])) in
    let rest : List Multiple = map multiple_of (quotients p ks u sides) in
    let close : List CertLine = Close ∷ [] in
    let whole : last.lines.items ++ Combine last.pending.items ∷ [] ≡ known.lines.items ++ sums_lines (next_line known) known.pending.items (one ∷ rest) =
    more.tree [] ∙ ap (written_with mid) (append-nil rest) ∙ adds.tree rest in
    written ∙ sym (append_assoc last.lines.items (Combine last.pending.items ∷ []) close)
    ∙ ap (λ ls. ls ++ close) (whole ∙ ap₂ (λ ls n. ls ++ sums_lines n known.pending.items (one ∷ rest)) front next
    ∙ ap₂ (λ ps js. known_lines first ds ++ sums_lines (first + length (known_lines first ds)) ps (one ∷ map multiple_of (quotients p js u sides))) ep knowns)
    ∙ append_assoc (known_lines first ds) (sums_lines (first + length (known_lines first ds)) [] (map multiple_of (last_summands p (knowns_of first xs ds) u line sides))) close
