-- Levels that begin, go on and end.
use Rattle.std.proofs.Common.{◌≡◌, ◌≢◌, ℕ, zero, suc, ◌<◌, ◌≤◌, List, [], ◌∷◌, ◌++◌, length, take, drop, get_or, refl, sym, ap, ap₂, ◌∙◌, subst, arith, append-nil, append_assoc, length-append}
use Rattle.std.proofs.Math.Seq.{take-append_seam, drop-append_seam}
use Rattle.std.proofs.lemmas.List.{take-append-le, drop-append-le, take-append-drop, take-take, length-take-le, same_from_push}
use Rattle.std.specs.List.{Contains}
use Rattle.std.specs.declared.cmp.Ordering.{Ordering}
use Rattle.ffc_ring.specs.Monomial.{Monomial}
use Rattle.ffc_ring.specs.Polynomial.{Terms}
use Rattle.ffc_line.specs.declared.line.Line.{Line}
use Rattle.ffc_basis.specs.Completed.{AreAdded, IsFront}
use Rattle.ffc_line.specs.Lines.{Parts, polys_of, AreLines, AreGenerators, IsAddedTo}
use Rattle.ffc_stack.specs.Stacks.{Stack, stack_of, own, generators, HaveParts, AreMarks, HaveNoneBelow, levels_from, joined, LeadToLive, IsBegun, IsPushed, IsCompletedWith, GoesOn, IsPopped}
use Rattle.ffc_stack.specs.Generators.{IsPath, IsGenerator}
use Rattle.ffc_stack.proofs.MarkLemmas.{names_below}

-- generators among lines

pub generators-append : {F O : Type 0} (xs ys : List (Line F O)) → generators (xs ++ ys) ≡ generators xs ++ generators ys
generators-append [] ys = refl
generators-append (x ∷ xs) ys =
    ap (λ gs. own x.parts.items x.poly ++ gs) (generators-append xs ys) ∙ sym (append_assoc (own x.parts.items x.poly) (generators xs) (generators ys))

pub generators-own : {F O : Type 0} (ls : List (Line F O)) (gs : List Terms) → AreGenerators ls gs → generators ls ≡ gs
generators-own [] [] v = refl
generators-own [] (g ∷ gs) v = absurd v
generators-own (l ∷ ls) [] v = absurd v
generators-own (l ∷ ls) (g ∷ gs) v =
    ap₂ (λ own rest. own ++ rest) (ap (λ ps. own ps l.poly) v.1 ∙ ap (λ ts. ts ∷ []) v.0) (generators-own ls gs v.2)

none_own : (ps : Parts) (ts : Terms) → ps ≢ [] → own ps ts ≡ []
none_own [] ts some = absurd (some refl)
none_own (p ∷ ps) ts some = refl

pub generators-none : {F O : Type 0} (ls : List (Line F O)) → HaveParts ls → generators ls ≡ []
generators-none [] v = refl
generators-none (l ∷ ls) v = ap₂ (λ own rest. own ++ rest) (none_own l.parts.items l.poly v.0) (generators-none ls v.1)

pub generators-more : {F O : Type 0} (ls more : List (Line F O)) → HaveParts more → generators (ls ++ more) ≡ generators ls
generators-more ls more v =
    generators-append ls more ∙ ap (λ gs. generators ls ++ gs) (generators-none more v) ∙ append-nil (generators ls)

pub parts-added : {F O : Type 0} (p : ℕ) (cmp : Monomial → Monomial → Ordering) (gs : List Terms) (ls : List (Line F O)) → AreAdded p cmp gs ls → HaveParts ls
parts-added p cmp gs [] v = tt
parts-added p cmp gs (l ∷ ls) v = (v.0.has_parts, parts-added p cmp (gs ++ l.poly ∷ []) ls v.1)

-- marks

pub marks_between : (low high : ℕ) (ms : List ℕ) → AreMarks low high ms → low ≤ high
marks_between low high [] v = v
marks_between low high (m ∷ ms) v = omega (arith, v.0, marks_between m high ms v.1)

pub marks_wider : (low high top : ℕ) (ms : List ℕ) → high ≤ top → AreMarks low high ms → AreMarks low top ms
marks_wider low high top [] h v = omega (arith, h, v)
marks_wider low high top (m ∷ ms) h v = (v.0, marks_wider m high top ms h v.1)

pub marks_push : (low high top : ℕ) (ms : List ℕ) → high ≤ top → AreMarks low high ms → AreMarks low top (ms ++ high ∷ [])
marks_push low high top [] h v = (v, h)
marks_push low high top (m ∷ ms) h v = (v.0, marks_push m high top ms h v.1)

pub marks_pop : (low high k : ℕ) (ms : List ℕ) → AreMarks low high (ms ++ k ∷ []) → AreMarks low k ms × (k ≤ high)
marks_pop low high k [] v = v
marks_pop low high k (m ∷ ms) v = let rest = marks_pop m high k ms v.1 in ((v.0, rest.0), rest.1)

-- nothing below the first level

pub none_below_push : {F O : Type 0} (ls more : List (Line F O)) (ms : List ℕ) → AreMarks 0 (length ls) ms → HaveNoneBelow ls ms → HaveNoneBelow (ls ++ more) (ms ++ length ls ∷ [])
none_below_push ls more [] v none = ap generators (take-append_seam ls more) ∙ none
none_below_push ls more (m ∷ ms) v none = ap generators (take-append-le m ls more (marks_between m (length ls) ms v.1)) ∙ none

pub none_below_more : {F O : Type 0} (ls more : List (Line F O)) (ms : List ℕ) → HaveParts more → AreMarks 0 (length ls) ms → HaveNoneBelow ls ms → HaveNoneBelow (ls ++ more) ms
none_below_more ls more [] w v none = generators-more ls more w ∙ none
none_below_more ls more (m ∷ ms) w v none = ap generators (take-append-le m ls more (marks_between m (length ls) ms v.1)) ∙ none

pub none_below_pop : {F O : Type 0} (ls : List (Line F O)) (high k : ℕ) (ms : List ℕ) → AreMarks 0 high (ms ++ k ∷ []) → HaveNoneBelow ls (ms ++ k ∷ []) → HaveNoneBelow (take k ls) ms
none_below_pop ls high k [] v none = none
none_below_pop ls high k (m ∷ ms) v none =
    ap generators (take-take m k ls (marks_between m k ms (marks_pop m high k ms v.1).0)) ∙ none

-- the levels' generators

pub levels_begun : {F O : Type 0} (ls more : List (Line F O)) (low : ℕ) (ms : List ℕ) → AreMarks low (length ls) ms → levels_from (ls ++ more) (ms ++ length ls ∷ []) ≡ levels_from ls ms ++ generators more ∷ []
levels_begun ls more low [] v = ap (λ ks. generators ks ∷ []) (drop-append_seam ls more)
levels_begun ls more low (m ∷ []) v =
    ap₂ (λ front back. generators (drop m front) ∷ generators back ∷ []) (take-append_seam ls more) (drop-append_seam ls more)
levels_begun ls more low (m ∷ k ∷ ms) v =
    ap₂ (λ front rest. generators (drop m front) ∷ rest) (take-append-le k ls more (marks_between k (length ls) ms v.1.1)) (levels_begun ls more m (k ∷ ms) v.1)

pub levels_more : {F O : Type 0} (ls more : List (Line F O)) (low : ℕ) (ms : List ℕ) → HaveParts more → AreMarks low (length ls) ms → levels_from (ls ++ more) ms ≡ levels_from ls ms
levels_more ls more low [] w v = refl
levels_more ls more low (m ∷ []) w v =
    ap (λ gs. gs ∷ []) (ap generators (drop-append-le m ls more v.1) ∙ generators-more (drop m ls) more w)
levels_more ls more low (m ∷ k ∷ ms) w v =
    ap₂ (λ front rest. generators (drop m front) ∷ rest) (take-append-le k ls more (marks_between k (length ls) ms v.1.1)) (levels_more ls more m (k ∷ ms) w v.1)

between_marks : {A : Type 0} (m k : ℕ) (xs : List A) → m ≤ k → k ≤ length xs → drop m (take k xs) ++ drop k xs ≡ drop m xs
between_marks m k xs h g =
    sym (drop-append-le m (take k xs) (drop k xs) (omega (arith, h, length-take-le k xs g))) ∙ ap (drop m) (take-append-drop k xs)

joined_above : {F O : Type 0} (ls : List (Line F O)) (m : ℕ) (ms : List ℕ) → AreMarks m (length ls) ms → joined (levels_from ls (m ∷ ms)) ≡ generators (drop m ls)
joined_above ls m [] v = append-nil (generators (drop m ls))
joined_above ls m (k ∷ ms) v =
    ap (λ rest. generators (drop m (take k ls)) ++ rest) (joined_above ls k ms v.1)
    ∙ sym (generators-append (drop m (take k ls)) (drop k ls))
    ∙ ap generators (between_marks m k ls v.0 (marks_between k (length ls) ms v.1))

pub generators_joined : {F O : Type 0} (ls : List (Line F O)) (ms : List ℕ) → AreMarks 0 (length ls) ms → HaveNoneBelow ls ms → generators ls ≡ joined (levels_from ls ms)
generators_joined ls [] v none = none
generators_joined ls (m ∷ ms) v none =
    ap generators (sym (take-append-drop m ls)) ∙ generators-append (take m ls) (drop m ls)
    ∙ ap (λ gs. gs ++ generators (drop m ls)) none ∙ sym (joined_above ls m ms v.1)

-- a level begins

pub begun_invariant : {F O : Type 0} (old new : List (Line F O)) (ms ns : List ℕ) (gs : List Terms) → ns ≡ ms ++ length old ∷ [] → IsAddedTo old new gs → AreMarks 0 (length old) ms × HaveNoneBelow old ms → AreMarks 0 (length new) ns × HaveNoneBelow new ns
begun_invariant old new ms ns gs e (more, is, v) holds =
    subst (λ ks. AreMarks 0 (length new) ks × HaveNoneBelow new ks) (sym e)
    (subst (λ ls. AreMarks 0 (length ls) (ms ++ length old ∷ []) × HaveNoneBelow ls (ms ++ length old ∷ [])) (sym is)
    (marks_push 0 (length old) (length (old ++ more)) ms (omega (arith, length-append old more)) holds.0, none_below_push old more ms holds.0 holds.1))

pub begun_levels : {F O : Type 0} (old new : List (Line F O)) (ms ns : List ℕ) (gs : List Terms) → ns ≡ ms ++ length old ∷ [] → IsAddedTo old new gs → AreMarks 0 (length old) ms → levels_from new ns ≡ levels_from old ms ++ gs ∷ []
begun_levels old new ms ns gs e (more, is, v) marks =
    ap₂ levels_from is e ∙ levels_begun old more 0 ms marks ∙ ap (λ own. levels_from old ms ++ own ∷ []) (generators-own more gs v)

-- lines are added to the newest level

pub front_invariant : {F O : Type 0} (p : ℕ) (cmp : Monomial → Monomial → Ordering) (old new : List (Line F O)) (ms : List ℕ) → IsFront p cmp old new → AreMarks 0 (length old) ms × HaveNoneBelow old ms → AreMarks 0 (length new) ms × HaveNoneBelow new ms
front_invariant p cmp old new ms (more, is, v) holds =
    subst (λ ls. AreMarks 0 (length ls) ms × HaveNoneBelow ls ms) (sym is)
    (marks_wider 0 (length old) (length (old ++ more)) ms (omega (arith, length-append old more)) holds.0, none_below_more old more ms (parts-added p cmp (polys_of old) more v) holds.0 holds.1)

pub front_levels : {F O : Type 0} (p : ℕ) (cmp : Monomial → Monomial → Ordering) (old new : List (Line F O)) (ms : List ℕ) → IsFront p cmp old new → AreMarks 0 (length old) ms → levels_from new ms ≡ levels_from old ms
front_levels p cmp old new ms (more, is, v) marks =
    ap (λ ls. levels_from ls ms) is ∙ levels_more old more 0 ms (parts-added p cmp (polys_of old) more v) marks

pub front_goes_on : {F O : Type 0} (p : ℕ) (cmp : Monomial → Monomial → Ordering) (old new : List (Line F O)) (ms : List ℕ) → IsFront p cmp old new → GoesOn (stack_of old ms) (stack_of new ms)
front_goes_on p cmp old new ms (more, is, v) = (more, is, parts-added p cmp (polys_of old) more v, refl)

pub front_pushed : {F O : Type 0} (p : ℕ) (cmp : Monomial → Monomial → Ordering) (old : Stack F O) (mid new : List (Line F O)) (ms : List ℕ) (gs : List Terms) → IsBegun old (stack_of mid ms) gs → IsFront p cmp mid new → IsPushed old (stack_of new ms) gs
front_pushed p cmp old mid new ms gs (own, is, v, marks) (more, js, w) =
    (own, more, js ∙ ap (λ ls. ls ++ more) is, v, parts-added p cmp (polys_of mid) more w, marks)

pub front_completed : {F O : Type 0} (p : ℕ) (cmp : Monomial → Monomial → Ordering) (old : Stack F O) (mid new : List (Line F O)) (ms : List ℕ) (gs : List Terms) → IsBegun old (stack_of mid ms) gs → IsFront p cmp mid new → IsCompletedWith p cmp old (stack_of new ms) gs
front_completed p cmp old mid new ms gs (own, is, v, marks) (more, js, w) =
    (own, more, js ∙ ap (λ ls. ls ++ more) is, v, subst (λ ls. AreAdded p cmp (polys_of ls) more) is w)

-- what the parts of a line lead to

leads_within : {F O : Type 0} (p : ℕ) (ls : List (Line F O)) (ks : List ℕ) (i j : ℕ) → AreLines p ls → i < length ls → IsPath ls i ks j → j < length ls
leads_within p ls [] i j v h path = subst (λ k. k < length ls) path h
leads_within p ls (k ∷ ks) i j v h path =
    let low : k < i = names_below p ls i k v path.0 in
    leads_within p ls ks k j v (omega arith) path.1

in_own : (ps : Parts) (ts : Terms) (rest : List Terms) → ps ≡ [] → Contains (own ps ts ++ rest) ts
in_own [] ts rest none = (0, omega arith, refl)
in_own (p ∷ ps) ts rest some = absurd (cc some)

in_behind : (xs rest : List Terms) (ts : Terms) → Contains rest ts → Contains (xs ++ rest) ts
in_behind [] rest ts found = found
in_behind (x ∷ xs) rest ts found = let there = in_behind xs rest ts found in (suc there.0, omega (arith, there.1), there.2)

generator_is_among : {F O : Type 0} (ls : List (Line F O)) (j : ℕ) → IsGenerator ls j → Contains (generators ls) (get_or (polys_of ls) j [])
generator_is_among [] j v = absurd (omega (arith, v.0))
generator_is_among (l ∷ ls) zero v = in_own l.parts.items l.poly (generators ls) v.1
generator_is_among (l ∷ ls) (suc j) v = in_behind (own l.parts.items l.poly) (generators ls) (get_or (polys_of ls) j []) (generator_is_among ls j (omega (arith, v.0), v.1))

pub lead_to_live : {F O : Type 0} (p : ℕ) (ls : List (Line F O)) (ms : List ℕ) → AreLines p ls → generators ls ≡ joined (levels_from ls ms) → LeadToLive (stack_of ls ms)
lead_to_live p ls ms v all i j h (ks, path) = (
  leads_within p ls ks i j v h path,
  λ is. subst (λ gs. Contains gs (get_or (polys_of ls) j [])) all (generator_is_among ls j is),
)

-- the newest level ends

pub popped_invariant : {F O : Type 0} (ls : List (Line F O)) (ms ns : List ℕ) (count : ℕ) → ms ≡ ns ++ count ∷ [] → AreMarks 0 (length ls) ms × HaveNoneBelow ls ms → AreMarks 0 (length (take count ls)) ns × HaveNoneBelow (take count ls) ns
popped_invariant ls ms ns count e holds =
    let all : AreMarks 0 (length ls) (ns ++ count ∷ []) = subst (AreMarks 0 (length ls)) e holds.0 in
    let parts = marks_pop 0 (length ls) count ns all in (
      subst (λ n. AreMarks 0 n ns) (sym (length-take-le count ls parts.1)) parts.0,
      none_below_pop ls (length ls) count ns all (subst (HaveNoneBelow ls) e holds.1),
    )

pub popped_within : {F O : Type 0} (ls : List (Line F O)) (ms ns : List ℕ) (count : ℕ) → ms ≡ ns ++ count ∷ [] → AreMarks 0 (length ls) ms → count ≤ length ls
popped_within ls ms ns count e marks = (marks_pop 0 (length ls) count ns (subst (AreMarks 0 (length ls)) e marks)).1

pub popped_levels : {F O : Type 0} (ls : List (Line F O)) (ms ns : List ℕ) (count : ℕ) → ms ≡ ns ++ count ∷ [] → AreMarks 0 (length ls) ms → levels_from ls ms ≡ levels_from (take count ls) ns ++ generators (drop count ls) ∷ []
popped_levels ls ms ns count e marks =
    let parts = marks_pop 0 (length ls) count ns (subst (AreMarks 0 (length ls)) e marks) in
    let long : length (take count ls) ≡ count = length-take-le count ls parts.1 in
    ap₂ levels_from (sym (take-append-drop count ls)) (e ∙ ap (λ n. ns ++ n ∷ []) (sym long))
    ∙ levels_begun (take count ls) (drop count ls) 0 ns (subst (λ n. AreMarks 0 n ns) (sym long) parts.0)

-- what a push added, its pop drops

have_parts_append : {F O : Type 0} (xs ys : List (Line F O)) → HaveParts xs → HaveParts ys → HaveParts (xs ++ ys)
have_parts_append [] ys v w = w
have_parts_append (x ∷ xs) ys v w = (v.0, have_parts_append xs ys v.1 w)

pub push_goes_on : {F O : Type 0} (old mid new : Stack F O) (gens : List Terms) → IsPushed old mid gens → GoesOn mid new → IsPushed old new gens
push_goes_on old mid new gens (own, more, is, v, w, marks) (extra, js, u, same) = (
  own,
  more ++ extra,
  js ∙ ap (λ ls. ls ++ extra) is ∙ append_assoc (old.lines ++ own) more extra,
  v,
  have_parts_append more extra w u,
  same ∙ marks,
)

pub pop_undoes_push : {F O : Type 0} (old mid new : Stack F O) (gens : List Terms) → IsPushed old mid gens → IsPopped mid new → new ≡ old
pop_undoes_push old mid new gens (own, more, is, v, w, marks) (count, ns, ls) =
    let same = same_from_push new.marks old.marks count (length old.lines) (sym ns ∙ marks) in
    ap₂ stack_of (ls ∙ ap₂ (λ k ks. take k ks) same.1 (is ∙ append_assoc old.lines own more) ∙ take-append_seam old.lines (own ++ more)) same.0
