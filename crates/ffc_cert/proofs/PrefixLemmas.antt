-- The text of an entry is known by its first line and by where its body ends.
use Rattle.std.proofs.Common.{◌≡◌, ℕ, true, false, Bool, List, [], ◌∷◌, ◌++◌, length, Ok, refl, sym, ap, ◌∙◌, subst, arith, append_assoc}
use Rattle.std.specs.Prelude.{codes}
use Rattle.std.specs.List.{AllByRecursion, flat_map}
use Rattle.ffc_cert.specs.declared.entries.CertLine.{CertLine}
use Rattle.ffc_cert.specs.declared.entries.Entry.{Entry}
use Rattle.ffc_cert.specs.declared.entries.Entry.TheVariants.{Sat, UnsatCases, UnsatSteps, Unknown}
use Rattle.ffc_cert.specs.declared.entries.Cause.{Cause}
use Rattle.ffc_cert.specs.declared.entries.Cause.TheVariants.{Degree, Terms, Steps, Memory}
use Rattle.ffc_cert.specs.declared.forms.Awaited.{Awaited}
use Rattle.ffc_cert.specs.declared.forms.Opening.{Opening}
use Rattle.ffc_cert.specs.declared.forms.Opening.TheVariants.{Assignment, Refutation, Whole}
use Rattle.ffc_cert.specs.Lines.{line_at, value_at, opening_at}
use Rattle.ffc_cert.specs.Reading.{awaited_after}
use Rattle.ffc_cert.specs.Spelling.{number, line_items, line_text, value_line, cause_items, clauses, entry_text}
use Rattle.ffc_cert.specs.Ranges.{IsLine, IsValue, IsCause}
use Rattle.ffc_cert.specs.WellFormed.{LineFitsVersion, IsWellFormed}
use Rattle.ffc_cert.specs.Laws.{IsVersion, BeginsNoOther}
use Rattle.ffc_cert.proofs.Codes.{IsPlain, plain_append}
use Rattle.ffc_cert.proofs.NumberCodes.{narrow_code, wide_code, differs}
use Rattle.ffc_cert.proofs.LineCodes.{line_reads, items_plain}
use Rattle.ffc_cert.proofs.GrammarLemmas.{awaiting, Completes, clauses_complete}
use Rattle.ffc_cert.proofs.OpeningCodes.{value_items, value_plain, value_reads, sat_reads, unsat_reads, cases_reads, unknown_reads}

-- two lines at the front of one text
pub cut_at : (x y xs ys : List ℕ) → IsPlain x → IsPlain y → x ++ (10 ∷ xs) ≡ y ++ (10 ∷ ys) → (x ≡ y) × (xs ≡ ys)
cut_at [] [] xs ys h k e = (refl, cc)
cut_at [] (d ∷ y) xs ys h k e = absurd (let same : d ≡ 10 = cc in differs d 10 k.0 same)
cut_at (c ∷ x) [] xs ys h k e = absurd (let same : c ≡ 10 = cc in differs c 10 h.0 same)
cut_at (c ∷ x) (d ∷ y) xs ys h k e =
    let first : c ≡ d = cc in
    let others : x ++ (10 ∷ xs) ≡ y ++ (10 ∷ ys) = cc in
    let more = cut_at x y xs ys h.1 k.1 others in
    (ap (λ (z : ℕ). z ∷ x) first ∙ ap (λ (zs : List ℕ). d ∷ zs) more.0, more.1)

pub regroup : (line body more : List ℕ) → ((line ++ (10 ∷ [])) ++ body) ++ more ≡ line ++ (10 ∷ (body ++ more))
regroup line body more = append_assoc (line ++ (10 ∷ [])) body more ∙ append_assoc line (10 ∷ []) (body ++ more)

pub record AreLines (version : ℕ) (lines : List CertLine) : Type 0 where
  pub ranges : AllByRecursion IsLine lines
  pub fits : AllByRecursion (LineFitsVersion version) lines

module _ {bits : Bool} (version : ℕ) (known : IsVersion bits version) where
  same_line : (a : Awaited) (l m : CertLine) (lines others : List CertLine) → Completes a (l ∷ lines) → Completes a (m ∷ others)
      → AreLines version (l ∷ lines) → AreLines version (m ∷ others) → line_items l ≡ line_items m → l ≡ m
  same_line a l m lines others h k p q e =
      let both : Ok l ≡ Ok m = sym (line_reads version known a l h.1.0 p.ranges.0 p.fits.0) ∙ ap (line_at version a) e ∙ line_reads version known a m k.1.0 q.ranges.0 q.fits.0 in
      cc

  lines_end : (lines others : List CertLine) (a : Awaited) (more : List ℕ) → Completes a lines → Completes a others → AreLines version lines → AreLines version others
      → flat_map line_text lines ++ more ≡ flat_map line_text others → (lines ≡ others) × (more ≡ [])
  lines_end [] [] a more h k p q e = (refl, e)
  lines_end [] (m ∷ others) a more h k p q e = absurd (let clash : true ≡ false = sym h ∙ k.0 in cc)
  lines_end (l ∷ lines) [] a more h k p q e = absurd (let clash : true ≡ false = sym k ∙ h.0 in cc)
  lines_end (l ∷ lines) (m ∷ others) a more h k p q e =
      let there : line_items l ++ (10 ∷ (flat_map line_text lines ++ more)) ≡ line_items m ++ (10 ∷ flat_map line_text others) =
      sym (regroup (line_items l) (flat_map line_text lines) more) ∙ e ∙ append_assoc (line_items m) (10 ∷ []) (flat_map line_text others) in
      let parts = cut_at (line_items l) (line_items m) _ _ (items_plain version known a l p.ranges.0 p.fits.0) (items_plain version known a m q.ranges.0 q.fits.0) there in
      let same = same_line a l m lines others h k p q parts.0 in
      let further = subst (λ (x : CertLine). Completes (awaited_after x a) others) (sym same) k.1.1 in
      let more_of = lines_end lines others (awaited_after l a) more h.1.1 further (record { ranges = p.ranges.1; fits = p.fits.1 }) (record { ranges = q.ranges.1; fits = q.fits.1 }) parts.1 in
      (ap (λ (x : CertLine). x ∷ lines) same ∙ ap (λ (xs : List CertLine). m ∷ xs) more_of.0, more_of.1)

same_value : (v w : ℕ × ℕ) → IsValue v → IsValue w → value_items v ≡ value_items w → v ≡ w
same_value v w h k e = let both : Ok v ≡ Ok w = sym (value_reads v h) ∙ ap value_at e ∙ value_reads w k in cc

values_end : (values others : List (ℕ × ℕ)) (more : List ℕ) → length values ≡ length others → AllByRecursion IsValue values → AllByRecursion IsValue others
    → flat_map value_line values ++ more ≡ flat_map value_line others → (values ≡ others) × (more ≡ [])
values_end [] [] more n h k e = (refl, e)
values_end [] (w ∷ others) more n h k e = absurd (omega (arith, n))
values_end (v ∷ values) [] more n h k e = absurd (omega (arith, n))
values_end (v ∷ values) (w ∷ others) more n h k e =
    let there : value_items v ++ (10 ∷ (flat_map value_line values ++ more)) ≡ value_items w ++ (10 ∷ flat_map value_line others) =
    sym (regroup (value_items v) (flat_map value_line values) more) ∙ e ∙ append_assoc (value_items w) (10 ∷ []) (flat_map value_line others) in
    let parts = cut_at (value_items v) (value_items w) _ _ (value_plain v h.0) (value_plain w k.0) there in
    let same = same_value v w h.0 k.0 parts.0 in
    let more_of = values_end values others more (omega (arith, n)) h.1 k.1 parts.1 in
    (ap (λ (x : ℕ × ℕ). x ∷ values) same ∙ ap (λ (xs : List (ℕ × ℕ)). w ∷ xs) more_of.0, more_of.1)

-- The first line of an entry, and the lines after it.
abbrev pub first_of : Entry → List ℕ
first_of (Sat values) = codes "sat" ++ number (length values)
first_of UnsatCases = codes "unsat e"
first_of (UnsatSteps lines) = codes "unsat" ++ number (clauses lines)
first_of (Unknown cause) = codes "unknown" ++ cause_items cause

abbrev pub body_of : Entry → List ℕ
body_of (Sat values) = flat_map value_line values
body_of UnsatCases = []
body_of (UnsatSteps lines) = flat_map line_text lines
body_of (Unknown cause) = []

abbrev pub opening_of : Entry → Opening
opening_of (Sat values) = Assignment (length values)
opening_of UnsatCases = Whole UnsatCases
opening_of (UnsatSteps lines) = Refutation (clauses lines)
opening_of (Unknown cause) = Whole (Unknown cause)

pub entry_is : (e : Entry) → entry_text e ≡ first_of e ++ (10 ∷ body_of e)
unfolding entry_text
entry_is (Sat values) = append_assoc (codes "sat" ++ number (length values)) (10 ∷ []) (flat_map value_line values)
entry_is UnsatCases = refl
entry_is (UnsatSteps lines) = append_assoc (codes "unsat" ++ number (clauses lines)) (10 ∷ []) (flat_map line_text lines)
entry_is (Unknown cause) = refl

cause_plain : (cause : Cause) → IsCause cause → IsPlain (cause_items cause)
unfolding cause_items
cause_plain Degree h = (refl, (refl, (refl, (refl, (refl, (refl, (refl, tt)))))))
cause_plain Terms h = (refl, (refl, (refl, (refl, (refl, (refl, tt))))))
cause_plain (Steps t r a c) h = (
  refl,
  (
    refl,
    (
      refl,
      (
        refl,
        (
          refl,
          (
            refl,
            plain_append ((number t ++ number r) ++ number a) (number c)
                (plain_append (number t ++ number r) (number a) (plain_append (number t) (number r) (wide_code.plain t h.0) (wide_code.plain r h.1.0)) (wide_code.plain a h.1.1.0))
                (wide_code.plain c h.1.1.1),
          ),
        ),
      ),
    ),
  ),
)
cause_plain Memory h = (refl, (refl, (refl, (refl, (refl, (refl, (refl, tt)))))))

module _ (version : ℕ) where
  pub first_plain : (e : Entry) → IsWellFormed version e → IsPlain (first_of e)
  first_plain (Sat values) h = (refl, (refl, (refl, narrow_code.plain (length values) h.few)))
  first_plain UnsatCases h = (refl, (refl, (refl, (refl, (refl, (refl, (refl, tt)))))))
  first_plain (UnsatSteps lines) h = (refl, (refl, (refl, (refl, (refl, narrow_code.plain (clauses lines) h.few)))))
  first_plain (Unknown cause) h = (refl, (refl, (refl, (refl, (refl, (refl, (refl, cause_plain cause h)))))))

  pub first_reads : (e : Entry) → IsWellFormed version e → opening_at (first_of e) ≡ Ok (opening_of e)
  first_reads (Sat values) h = sat_reads (length values) h.few
  first_reads UnsatCases h = cases_reads
  first_reads (UnsatSteps lines) h = unsat_reads (clauses lines) h.few
  first_reads (Unknown cause) h = unknown_reads cause h

  bodies_end : {bits : Bool} → IsVersion bits version → (a b : Entry) (more : List ℕ) → IsWellFormed version a → IsWellFormed version b → opening_of a ≡ opening_of b
      → body_of a ++ more ≡ body_of b → (a ≡ b) × (more ≡ [])
  bodies_end known (Sat values) (Sat others) more h k o e =
      let n : length values ≡ length others = cc in
      let r = values_end values others more n h.each k.each e in
      (ap Sat r.0, r.1)
  bodies_end known UnsatCases UnsatCases more h k o e = (refl, e)
  bodies_end known (UnsatSteps lines) (UnsatSteps others) more h k o e =
      let n : clauses lines ≡ clauses others = cc in
      let other_end = subst (λ m. Completes (awaiting m 0 0) others) (sym n) (clauses_complete k.order) in
      let r = lines_end version known lines others (awaiting (clauses lines) 0 0) more (clauses_complete h.order) other_end
      (record { ranges = h.ranges; fits = h.fits }) (record { ranges = k.ranges; fits = k.fits }) e in
      (ap UnsatSteps r.0, r.1)
  bodies_end known (Unknown cause) (Unknown other) more h k o e = (let same : cause ≡ other = cc in ap Unknown same, e)
  bodies_end known (Sat values) UnsatCases more h k o e = absurd (cc)
  bodies_end known (Sat values) (UnsatSteps others) more h k o e = absurd (cc)
  bodies_end known (Sat values) (Unknown other) more h k o e = absurd (cc)
  bodies_end known UnsatCases (Sat others) more h k o e = absurd (cc)
  bodies_end known UnsatCases (UnsatSteps others) more h k o e = absurd (cc)
  bodies_end known UnsatCases (Unknown other) more h k o e = absurd (cc)
  bodies_end known (UnsatSteps lines) (Sat others) more h k o e = absurd (cc)
  bodies_end known (UnsatSteps lines) UnsatCases more h k o e = absurd (cc)
  bodies_end known (UnsatSteps lines) (Unknown other) more h k o e = absurd (cc)
  bodies_end known (Unknown cause) (Sat others) more h k o e = absurd (cc)
  bodies_end known (Unknown cause) UnsatCases more h k o e = absurd (cc)
  bodies_end known (Unknown cause) (UnsatSteps others) more h k o e = absurd (cc)

pub begins_no_other : BeginsNoOther
begins_no_other bits version a b more known h k e =
    let front : first_of a ++ (10 ∷ (body_of a ++ more)) ≡ first_of b ++ (10 ∷ body_of b) =
    sym (append_assoc (first_of a) (10 ∷ body_of a) more) ∙ ap (λ (xs : List ℕ). xs ++ more) (sym (entry_is a)) ∙ e ∙ entry_is b in
    let parts = cut_at (first_of a) (first_of b) _ _ (first_plain version a h) (first_plain version b k) front in
    let openings : Ok (opening_of a) ≡ Ok (opening_of b) = sym (first_reads version a h) ∙ ap opening_at parts.0 ∙ first_reads version b k in
    bodies_end version known a b more h k (cc) parts.1
