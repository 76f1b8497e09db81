-- Lines of clauses and trees.
use Rattle.std.proofs.Common.{◌≡◌, ℕ, ◌<◌, ◌==◌, Bool, true, false, List, [], ◌∷◌, ◌++◌, Option, None, Some, Result, Ok, ◌⊎◌, inl, inr, refl, sym, ap, ◌∙◌, subst, arith}
use Rattle.std.specs.Prelude.{if◌then◌else◌, nat_lt, codes}
use Rattle.std.specs.Str.{bytes_eq}
use Rattle.std.proofs.lemmas.List.{append-nil}
use Rattle.std.proofs.lemmas.Bool.Decides.{nat_tests}
use Rattle.std.proofs.lemmas.Slice.Eq.{bytes_eq-Decides}
use Rattle.ffc_cert.specs.declared.flaws.Flaw.{Flaw}
use Rattle.ffc_cert.specs.declared.flaws.Flaw.TheVariants.{Form}
use Rattle.ffc_cert.specs.declared.entries.CertLine.{CertLine}
use Rattle.ffc_cert.specs.declared.entries.CertLine.TheVariants.{Assume, Scheme, Hinted, Lemma, Combine, Bits, Chain, Step, Split, Values, Close}
use Rattle.ffc_cert.specs.declared.forms.Awaited.{Awaited}
use Rattle.ffc_cert.specs.Items.{◌>>=◌, first_item, behind_item, ended, wide_at}
use Rattle.ffc_cert.specs.Lines.{assume_at, scheme_at, hinted_at, order_at, lemma_at, combine_at, bits_at, bits_in, chain_at, step_at, split_at, values_at, clause_form, tree_form, step_form, form_at, line_at}
use Rattle.ffc_cert.specs.Spelling.{number, literal, counted, term, multiple, order_item, line_items}
use Rattle.ffc_cert.specs.Ranges.{IsOrder, IsLine}
use Rattle.ffc_cert.specs.WellFormed.{LineFitsVersion}
use Rattle.ffc_cert.specs.Laws.{IsVersion}
use Rattle.ffc_cert.specs.Cuts.{IsCut}
use Rattle.ffc_cert.proofs.Codes.{IsPlain, IsText, IsCode, bound, branch, chosen, same_parts, Is}
use Rattle.ffc_cert.proofs.NumberCodes.{IsItem, narrow_code, wide_code, literal_code, word_front, word_behind, front_behind, is_same, differs}
use Rattle.ffc_cert.proofs.ListCodes.{counted_code, pair_reads, pair_gives, pair_plain, triple_reads, triple_gives, triple_plain, four_reads, four_gives, four_plain}
use Rattle.ffc_cert.proofs.TermCodes.{term_code, multiple_code}
use Rattle.ffc_cert.proofs.VariableCodes.{chosen_code}

-- the line may come where this is needed
abbrev pub IsNext : CertLine → Awaited → Type 0
IsNext (Assume k) a = (a.steps ≡ 0) × (a.trees ≡ 0)
IsNext (Scheme node scheme index) a = (a.steps ≡ 0) × (a.trees ≡ 0)
IsNext (Hinted lits hints) a = (a.steps ≡ 0) × (a.trees ≡ 0)
IsNext (Lemma order lits) a = (a.steps ≡ 0) × (a.trees ≡ 0)
IsNext (Combine multiples) a = (a.steps ≡ 0) × (0 < a.trees)
IsNext (Bits line chosen polynomial bits) a = (a.steps ≡ 0) × (0 < a.trees)
IsNext (Chain line variable steps) a = (a.steps ≡ 0) × (0 < a.trees)
IsNext (Step quotient remainder) a = 0 < a.steps
IsNext (Split line variable zeros) a = (a.steps ≡ 0) × (0 < a.trees)
IsNext (Values variable trees) a = (a.steps ≡ 0) × (0 < a.trees)
IsNext Close a = (a.steps ≡ 0) × (0 < a.trees)

-- The order of a lemma.
abbrev pub OrderFits : ℕ → Option ℕ → Type 0
OrderFits version None = version ≡ 1
OrderFits version (Some order) = (version ≡ 2) ⊎ (version ≡ 3)

later_left : {bits : Bool} (version : ℕ) → IsVersion bits version → (version == 1) ≡ false → (version ≡ 2) ⊎ (version ≡ 3)
later_left version (inl one) h = absurd (differs version 1 h one)
later_left version (inr (inl two)) h = inl two
later_left version (inr (inr three)) h = inr three.0

pub not_first : (version : ℕ) → (version ≡ 2) ⊎ (version ≡ 3) → (version == 1) ≡ false
not_first version (inl two) = rw two refl
not_first version (inr three) = rw three refl

module _ {bits : Bool} (version : ℕ) (known : IsVersion bits version) where
  order_cut : (order : Option ℕ) (rest : List ℕ) → IsCut rest → IsCut (order_item order ++ rest)
  order_cut None rest k = k
  order_cut (Some order) rest k = refl

  order_plain : (order : Option ℕ) → OrderFits version order × IsOrder order → IsPlain (order_item order)
  order_plain None h = tt
  order_plain (Some order) h = wide_code.plain order h.1

  order_reads : (order : Option ℕ) (rest : List ℕ) → OrderFits version order × IsOrder order → IsCut rest → order_at version (order_item order ++ rest) ≡ Ok (order, rest)
  unfolding order_at
  order_reads None rest h k = rw h.0 refl
  order_reads (Some order) rest h k = rw (not_first version h.0, wide_code.reads order rest h.1 k) refl

  order_gives_by : (one : Bool) → (version == 1) ≡ one → (bytes : List ℕ) (order : Option ℕ) (rest : List ℕ)
      → Is {A = Option ℕ × List ℕ} (if one then Ok (None, bytes) else (wide_at bytes >>= λ read. Ok (Some read.0, read.1))) (order, rest)
      → IsText bytes (order_item order) rest (OrderFits version order × IsOrder order)
  order_gives_by true e bytes order rest h =
      let parts = same_parts None order bytes rest h in
      subst (λ o. IsText bytes (order_item o) rest (OrderFits version o × IsOrder o)) parts.0 (record { text_is = parts.1; holds = (is_same version 1 e, tt) })
  order_gives_by false e bytes order rest h =
      let read = bound (wide_at bytes) (λ x. Ok (Some x.0, x.1)) (order, rest) h in
      let parts = same_parts (Some read.value.0) order read.value.1 rest read.second in
      let text = wide_code.gives bytes read.value.0 read.value.1 read.first in
      subst (λ o. IsText bytes (order_item o) rest (OrderFits version o × IsOrder o)) parts.0 (record {
        text_is = text.text_is ∙ ap (λ (ys : List ℕ). number read.value.0 ++ ys) parts.1;
        holds = (later_left version known e, text.holds);
      })

  order_gives : (bytes : List ℕ) (order : Option ℕ) (rest : List ℕ) → order_at version bytes ≡ Ok (order, rest) → IsText bytes (order_item order) rest (OrderFits version order × IsOrder order)
  unfolding order_at
  order_gives bytes order rest h = order_gives_by (version == 1) refl bytes order rest h

  order_code : IsCode (order_at version) order_item (λ order. OrderFits version order × IsOrder order)
  order_code = record { cut = order_cut; plain = order_plain; reads = order_reads; gives = order_gives }

pub whole : {A : Type 0} (at : List ℕ → Result (A × List ℕ) Flaw) (text : List ℕ) (x : A) → Is (at (text ++ [])) (x, []) → Is (at text) (x, [])
whole at text x h = rw (append-nil text) at h

pub zero_steps : (n : ℕ) → n ≡ 0 → nat_lt 0 n ≡ false
zero_steps n h = grind (arith, nat_tests, h)

pub some_steps : (n : ℕ) → 0 < n → nat_lt 0 n ≡ true
some_steps n h = grind (arith, nat_tests, h)

front : {A : Type 0} (text : A → List ℕ) (xs : List A) → IsCut (counted text xs)
unfolding counted
front text xs = refl

pair_front : (lits : List (Bool × ℕ)) (hints : List ℕ) → IsCut (counted literal lits ++ counted number hints)
unfolding counted
pair_front lits hints = refl

steps_front : (quotient remainder : List ℕ) → IsCut (counted number quotient ++ counted number remainder)
unfolding counted
steps_front quotient remainder = refl

lemma_front : (order : Option ℕ) (lits : List (Bool × ℕ)) → IsCut (order_item order ++ counted literal lits)
unfolding counted
lemma_front None lits = refl
lemma_front (Some order) lits = refl

-- What a line is that was read.
pub record IsLineText (version : ℕ) (a : Awaited) (bytes : List ℕ) (l : CertLine) (rest : List ℕ) : Type 0 where
  pub text_is : bytes ≡ line_items l ++ rest
  pub next : IsNext l a
  pub line : IsLine l
  pub fits : LineFitsVersion version l

pub lemma_fits : (version : ℕ) (order : Option ℕ) (lits : List (Bool × ℕ)) → LineFitsVersion version (Lemma order lits) → OrderFits version order
lemma_fits version None lits h = h
lemma_fits version (Some order) lits h = h

pub fits_lemma : (version : ℕ) (order : Option ℕ) (lits : List (Bool × ℕ)) → OrderFits version order → LineFitsVersion version (Lemma order lits)
fits_lemma version None lits h = h
fits_lemma version (Some order) lits h = h

pub above_zero : (n : ℕ) → nat_lt 0 n ≡ true → 0 < n
above_zero n h = grind (arith, nat_tests, h)

pub is_zero : (n : ℕ) → nat_lt 0 n ≡ false → n ≡ 0
is_zero n h = grind (arith, nat_tests, h)

pub ended_gives : {A : Type 0} (x y : A) (rest : List ℕ) → Is (ended (x, rest)) y → (x ≡ y) × (rest ≡ [])
unfolding ended
ended_gives x y [] h = (cc, refl)
ended_gives x y (c ∷ rest) h = absurd (cc)

module _ {bits : Bool} (version : ℕ) (known : IsVersion bits version) (a : Awaited) where
  reads_word : (word text : List ℕ) (l : CertLine) → IsItem word → IsCut text → Is (form_at version a word text) (l, []) → line_at version a (word ++ text) ≡ Ok l
  unfolding line_at ended
  reads_word word text l item k h = rw (word_front word text item k, word_behind word text item k, h) refl

  clause_reads : (word text : List ℕ) (l : CertLine) → IsItem word → IsCut text → (a.steps ≡ 0) × (a.trees ≡ 0) → Is (clause_form version word text) (l, []) → line_at version a (word ++ text) ≡ Ok l
  unfolding form_at
  clause_reads word text l item k h read = reads_word word text l item k (rw (zero_steps a.steps h.0, zero_steps a.trees h.1) read)

  tree_reads : (word text : List ℕ) (l : CertLine) → IsItem word → IsCut text → (a.steps ≡ 0) × (0 < a.trees) → Is (tree_form version word text) (l, []) → line_at version a (word ++ text) ≡ Ok l
  unfolding form_at
  tree_reads word text l item k h read = reads_word word text l item k (rw (zero_steps a.steps h.0, some_steps a.trees h.1) read)

  step_reads : (word text : List ℕ) (l : CertLine) → IsItem word → IsCut text → 0 < a.steps → Is (step_form word text) (l, []) → line_at version a (word ++ text) ≡ Ok l
  unfolding form_at
  step_reads word text l item k h read = reads_word word text l item k (rw (some_steps a.steps h) read)

  bits_reads : (text : List ℕ) (l : CertLine) → version ≡ 3 → Is (bits_at text) (l, []) → Is (bits_in version text) (l, [])
  unfolding bits_in
  bits_reads text l three read = rw three read

  pub line_reads : (l : CertLine) → IsNext l a → IsLine l → LineFitsVersion version l → line_at version a (line_items l) ≡ Ok l
  unfolding line_items clause_form tree_form step_form assume_at scheme_at hinted_at lemma_at combine_at bits_at bits_in chain_at step_at split_at values_at
  line_reads (Assume k) next h fits =
      clause_reads (codes "a") (number k) (Assume k) (refl, tt) refl next
      (whole assume_at (number k) (Assume k) (rw (narrow_code.reads k [] h tt) refl))
  line_reads (Scheme node scheme index) next h fits =
      clause_reads (codes "n") ((number node ++ number scheme) ++ number index) (Scheme node scheme index) (refl, tt) refl next
      (whole scheme_at ((number node ++ number scheme) ++ number index) (Scheme node scheme index) (triple_reads narrow_code narrow_code narrow_code Scheme node scheme index [] h.0 h.1.0 h.1.1 tt))
  line_reads (Hinted lits hints) next h fits =
      clause_reads (codes "r") (counted literal lits ++ counted number hints) (Hinted lits hints) (refl, tt) (pair_front lits hints) next
      (whole hinted_at (counted literal lits ++ counted number hints) (Hinted lits hints) (pair_reads (counted_code literal_code) (counted_code narrow_code) Hinted lits hints [] h.0 h.1 tt))
  line_reads (Lemma order lits) next h fits =
      clause_reads (codes "f") (order_item order ++ counted literal lits) (Lemma order lits) (refl, tt) (lemma_front order lits) next
      (whole (lemma_at version) (order_item order ++ counted literal lits) (Lemma order lits) (pair_reads (order_code version known) (counted_code literal_code) Lemma order lits [] (lemma_fits version order lits fits, h.0) h.1 tt))
  line_reads (Combine multiples) next h fits =
      tree_reads (codes "c") (counted multiple multiples) (Combine multiples) (refl, tt) (front multiple multiples) next
      (whole combine_at (counted multiple multiples) (Combine multiples) (rw ((counted_code multiple_code).reads multiples [] h tt) refl))
  line_reads (Bits line chosen polynomial bits) next h fits =
      tree_reads (codes "b") (((number line ++ counted number chosen) ++ counted term polynomial) ++ counted number bits) (Bits line chosen polynomial bits) (refl, tt) refl next
      (bits_reads (((number line ++ counted number chosen) ++ counted term polynomial) ++ counted number bits) (Bits line chosen polynomial bits) fits
      (whole bits_at (((number line ++ counted number chosen) ++ counted term polynomial) ++ counted number bits) (Bits line chosen polynomial bits)
      (four_reads narrow_code chosen_code (counted_code term_code) (counted_code narrow_code) Bits line chosen polynomial bits [] h.0 h.1.0 h.1.1.0 h.1.1.1 tt)))
  line_reads (Chain line variable steps) next h fits =
      tree_reads (codes "p") ((number line ++ number variable) ++ number steps) (Chain line variable steps) (refl, tt) refl next
      (whole chain_at ((number line ++ number variable) ++ number steps) (Chain line variable steps) (triple_reads narrow_code narrow_code narrow_code Chain line variable steps [] h.0 h.1.0 h.1.1 tt))
  line_reads (Step quotient remainder) next h fits =
      step_reads (codes "u") (counted number quotient ++ counted number remainder) (Step quotient remainder) (refl, tt) (steps_front quotient remainder) next
      (whole step_at (counted number quotient ++ counted number remainder) (Step quotient remainder) (pair_reads (counted_code wide_code) (counted_code wide_code) Step quotient remainder [] h.0 h.1 tt))
  line_reads (Split line variable zeros) next h fits =
      tree_reads (codes "s") ((number line ++ number variable) ++ counted number zeros) (Split line variable zeros) (refl, tt) refl next
      (whole split_at ((number line ++ number variable) ++ counted number zeros) (Split line variable zeros) (triple_reads narrow_code narrow_code (counted_code wide_code) Split line variable zeros [] h.0 h.1.0 h.1.1 tt))
  line_reads (Values variable trees) next h fits =
      tree_reads (codes "v") (number variable ++ number trees) (Values variable trees) (refl, tt) refl next
      (whole values_at (number variable ++ number trees) (Values variable trees) (pair_reads narrow_code narrow_code Values variable trees [] h.0 h.1 tt))
  line_reads Close next h fits = tree_reads (codes "z") [] Close (refl, tt) tt next refl

  -- The same from a text that was read.
  abbrev Clause : Type 0
  Clause = (a.steps ≡ 0) × (a.trees ≡ 0)

  abbrev Tree : Type 0
  Tree = (a.steps ≡ 0) × (0 < a.trees)

  assume_gives : (bytes : List ℕ) (l : CertLine) (rest : List ℕ) → Clause → assume_at bytes ≡ Ok (l, rest) → IsLineText version a (97 ∷ bytes) l rest
  unfolding assume_at line_items
  assume_gives bytes l rest here h =
      let n = bound _ _ _ h in
      let parts = same_parts (Assume n.value.0) l n.value.1 rest n.second in
      let one = narrow_code.gives bytes n.value.0 n.value.1 n.first in
      subst (λ m. IsLineText version a (97 ∷ bytes) m rest) parts.0 (record {
        text_is = ap (λ (ys : List ℕ). 97 ∷ ys) (one.text_is ∙ ap (λ (ys : List ℕ). number n.value.0 ++ ys) parts.1);
        next = here;
        line = one.holds;
        fits = tt;
      })

  scheme_gives : (bytes : List ℕ) (l : CertLine) (rest : List ℕ) → Clause → scheme_at bytes ≡ Ok (l, rest) → IsLineText version a (110 ∷ bytes) l rest
  unfolding scheme_at line_items
  scheme_gives bytes l rest here h =
      let t = triple_gives narrow_code narrow_code narrow_code Scheme bytes l rest h in
      subst (λ m. IsLineText version a (110 ∷ bytes) m rest) t.made (record {
        text_is = ap (λ (ys : List ℕ). 110 ∷ ys) t.text_is;
        next = here;
        line = (t.first, (t.second, t.third));
        fits = tt;
      })

  hinted_gives : (bytes : List ℕ) (l : CertLine) (rest : List ℕ) → Clause → hinted_at bytes ≡ Ok (l, rest) → IsLineText version a (114 ∷ bytes) l rest
  unfolding hinted_at line_items
  hinted_gives bytes l rest here h =
      let p = pair_gives (counted_code literal_code) (counted_code narrow_code) Hinted bytes l rest h in
      subst (λ m. IsLineText version a (114 ∷ bytes) m rest) p.made (record {
        text_is = ap (λ (ys : List ℕ). 114 ∷ ys) p.text_is;
        next = here;
        line = (p.first, p.second);
        fits = tt;
      })

  lemma_gives : (bytes : List ℕ) (l : CertLine) (rest : List ℕ) → Clause → lemma_at version bytes ≡ Ok (l, rest) → IsLineText version a (102 ∷ bytes) l rest
  unfolding lemma_at line_items
  lemma_gives bytes l rest here h =
      let p = pair_gives (order_code version known) (counted_code literal_code) Lemma bytes l rest h in
      subst (λ m. IsLineText version a (102 ∷ bytes) m rest) p.made (record {
        text_is = ap (λ (ys : List ℕ). 102 ∷ ys) p.text_is;
        next = here;
        line = (p.first.1, p.second);
        fits = fits_lemma version p.one p.two p.first.0;
      })

  combine_gives : (bytes : List ℕ) (l : CertLine) (rest : List ℕ) → Tree → combine_at bytes ≡ Ok (l, rest) → IsLineText version a (99 ∷ bytes) l rest
  unfolding combine_at line_items
  combine_gives bytes l rest here h =
      let n = bound _ _ _ h in
      let parts = same_parts (Combine n.value.0) l n.value.1 rest n.second in
      let one = (counted_code multiple_code).gives bytes n.value.0 n.value.1 n.first in
      subst (λ m. IsLineText version a (99 ∷ bytes) m rest) parts.0 (record {
        text_is = ap (λ (ys : List ℕ). 99 ∷ ys) (one.text_is ∙ ap (λ (ys : List ℕ). counted multiple n.value.0 ++ ys) parts.1);
        next = here;
        line = one.holds;
        fits = tt;
      })

  bits_gives : (bytes : List ℕ) (l : CertLine) (rest : List ℕ) → Tree → bits_in version bytes ≡ Ok (l, rest) → IsLineText version a (98 ∷ bytes) l rest
  unfolding bits_at bits_in line_items
  bits_gives bytes l rest here h =
      let in_three = chosen (version == 3) (bits_at bytes) Form (l, rest) h in
      let f = four_gives narrow_code chosen_code (counted_code term_code) (counted_code narrow_code) Bits bytes l rest in_three.1 in
      subst (λ m. IsLineText version a (98 ∷ bytes) m rest) f.made (record {
        text_is = ap (λ (ys : List ℕ). 98 ∷ ys) f.text_is;
        next = here;
        line = (f.first, (f.second, (f.third, f.fourth)));
        fits = is_same version 3 in_three.0;
      })

  chain_gives : (bytes : List ℕ) (l : CertLine) (rest : List ℕ) → Tree → chain_at bytes ≡ Ok (l, rest) → IsLineText version a (112 ∷ bytes) l rest
  unfolding chain_at line_items
  chain_gives bytes l rest here h =
      let t = triple_gives narrow_code narrow_code narrow_code Chain bytes l rest h in
      subst (λ m. IsLineText version a (112 ∷ bytes) m rest) t.made (record {
        text_is = ap (λ (ys : List ℕ). 112 ∷ ys) t.text_is;
        next = here;
        line = (t.first, (t.second, t.third));
        fits = tt;
      })

  split_gives : (bytes : List ℕ) (l : CertLine) (rest : List ℕ) → Tree → split_at bytes ≡ Ok (l, rest) → IsLineText version a (115 ∷ bytes) l rest
  unfolding split_at line_items
  split_gives bytes l rest here h =
      let t = triple_gives narrow_code narrow_code (counted_code wide_code) Split bytes l rest h in
      subst (λ m. IsLineText version a (115 ∷ bytes) m rest) t.made (record {
        text_is = ap (λ (ys : List ℕ). 115 ∷ ys) t.text_is;
        next = here;
        line = (t.first, (t.second, t.third));
        fits = tt;
      })

  values_gives : (bytes : List ℕ) (l : CertLine) (rest : List ℕ) → Tree → values_at bytes ≡ Ok (l, rest) → IsLineText version a (118 ∷ bytes) l rest
  unfolding values_at line_items
  values_gives bytes l rest here h =
      let p = pair_gives narrow_code narrow_code Values bytes l rest h in
      subst (λ m. IsLineText version a (118 ∷ bytes) m rest) p.made (record {
        text_is = ap (λ (ys : List ℕ). 118 ∷ ys) p.text_is;
        next = here;
        line = (p.first, p.second);
        fits = tt;
      })

  step_gives : (bytes : List ℕ) (l : CertLine) (rest : List ℕ) → 0 < a.steps → step_at bytes ≡ Ok (l, rest) → IsLineText version a (117 ∷ bytes) l rest
  unfolding step_at line_items
  step_gives bytes l rest here h =
      let p = pair_gives (counted_code wide_code) (counted_code wide_code) Step bytes l rest h in
      subst (λ m. IsLineText version a (117 ∷ bytes) m rest) p.made (record {
        text_is = ap (λ (ys : List ℕ). 117 ∷ ys) p.text_is;
        next = here;
        line = (p.first, p.second);
        fits = tt;
      })

  close_gives : (bytes : List ℕ) (l : CertLine) (rest : List ℕ) → Tree → Is {A = CertLine × List ℕ} (Ok (Close, bytes)) (l, rest) → IsLineText version a (122 ∷ bytes) l rest
  unfolding line_items
  close_gives bytes l rest here h =
      let parts = same_parts Close l bytes rest h in
      subst (λ m. IsLineText version a (122 ∷ bytes) m rest) parts.0 (record { text_is = ap (λ (ys : List ℕ). 122 ∷ ys) parts.1; next = here; line = tt; fits = tt })

  with_word : (word name bytes : List ℕ) (l : CertLine) (rest : List ℕ) → bytes_eq word name ≡ true → IsLineText version a (name ++ bytes) l rest → IsLineText version a (word ++ bytes) l rest
  with_word word name bytes l rest same h = subst (λ w. IsLineText version a (w ++ bytes) l rest) (sym ((bytes_eq-Decides word name).0 same)) h

  clause_gives : (word bytes : List ℕ) (l : CertLine) (rest : List ℕ) → Clause → clause_form version word bytes ≡ Ok (l, rest) → IsLineText version a (word ++ bytes) l rest
  unfolding clause_form
  clause_gives word bytes l rest here h =
      elim (branch (bytes_eq word (codes "a")) (assume_at bytes) _ (l, rest) h) [
        | inl one ↦ with_word word (codes "a") bytes l rest one.0 (assume_gives bytes l rest here one.1)
        | inr other ↦ elim (branch (bytes_eq word (codes "n")) (scheme_at bytes) _ (l, rest) other.1) [
          | inl one ↦ with_word word (codes "n") bytes l rest one.0 (scheme_gives bytes l rest here one.1)
          | inr other ↦ elim (branch (bytes_eq word (codes "r")) (hinted_at bytes) _ (l, rest) other.1) [
            | inl one ↦ with_word word (codes "r") bytes l rest one.0 (hinted_gives bytes l rest here one.1)
            | inr other ↦
                let one = chosen (bytes_eq word (codes "f")) (lemma_at version bytes) Form (l, rest) other.1 in
                with_word word (codes "f") bytes l rest one.0 (lemma_gives bytes l rest here one.1)
          ]
        ]
      ]

  tree_gives : (word bytes : List ℕ) (l : CertLine) (rest : List ℕ) → Tree → tree_form version word bytes ≡ Ok (l, rest) → IsLineText version a (word ++ bytes) l rest
  unfolding tree_form
  tree_gives word bytes l rest here h =
      elim (branch (bytes_eq word (codes "c")) (combine_at bytes) _ (l, rest) h) [
        | inl one ↦ with_word word (codes "c") bytes l rest one.0 (combine_gives bytes l rest here one.1)
        | inr other ↦ elim (branch (bytes_eq word (codes "b")) (bits_in version bytes) _ (l, rest) other.1) [
          | inl one ↦ with_word word (codes "b") bytes l rest one.0 (bits_gives bytes l rest here one.1)
          | inr other ↦ elim (branch (bytes_eq word (codes "p")) (chain_at bytes) _ (l, rest) other.1) [
            | inl one ↦ with_word word (codes "p") bytes l rest one.0 (chain_gives bytes l rest here one.1)
            | inr other ↦ elim (branch (bytes_eq word (codes "s")) (split_at bytes) _ (l, rest) other.1) [
              | inl one ↦ with_word word (codes "s") bytes l rest one.0 (split_gives bytes l rest here one.1)
              | inr other ↦ elim (branch (bytes_eq word (codes "v")) (values_at bytes) _ (l, rest) other.1) [
                | inl one ↦ with_word word (codes "v") bytes l rest one.0 (values_gives bytes l rest here one.1)
                | inr other ↦
                    let one = chosen (bytes_eq word (codes "z")) (Ok (Close, bytes)) Form (l, rest) other.1 in
                    with_word word (codes "z") bytes l rest one.0 (close_gives bytes l rest here one.1)
              ]
            ]
          ]
        ]
      ]

  form_gives_by : (some more : Bool) → nat_lt 0 a.steps ≡ some → nat_lt 0 a.trees ≡ more → (word bytes : List ℕ) (l : CertLine) (rest : List ℕ)
      → form_at version a word bytes ≡ Ok (l, rest) → IsLineText version a (word ++ bytes) l rest
  unfolding form_at step_form
  form_gives_by true more s t word bytes l rest h =
      let read = rw s at h in
      let one = chosen (bytes_eq word (codes "u")) (step_at bytes) Form (l, rest) read in
      with_word word (codes "u") bytes l rest one.0 (step_gives bytes l rest (above_zero a.steps s) one.1)
  form_gives_by false true s t word bytes l rest h = let read = rw (s, t) at h in tree_gives word bytes l rest (is_zero a.steps s, above_zero a.trees t) read
  form_gives_by false false s t word bytes l rest h = let read = rw (s, t) at h in clause_gives word bytes l rest (is_zero a.steps s, is_zero a.trees t) read

  pub line_gives : (bytes : List ℕ) (l : CertLine) → line_at version a bytes ≡ Ok l → IsLineText version a bytes l []
  unfolding line_at ended
  line_gives bytes l h =
      let read = bound (form_at version a (first_item bytes) (behind_item bytes)) ended l h in
      let e = ended_gives read.value.0 l read.value.1 read.second in
      let got = form_gives_by (nat_lt 0 a.steps) (nat_lt 0 a.trees) refl refl (first_item bytes) (behind_item bytes) read.value.0 read.value.1 read.first in
      let whole_line = subst (λ (bs : List ℕ). IsLineText version a bs read.value.0 read.value.1) (front_behind bytes) got in
      subst (λ (m : CertLine). IsLineText version a bytes m []) e.0 (subst (λ (r : List ℕ). IsLineText version a bytes read.value.0 r) e.1 whole_line)

  pub items_plain : (l : CertLine) → IsLine l → LineFitsVersion version l → IsPlain (line_items l)
  unfolding line_items
  items_plain (Assume k) h fits = (refl, narrow_code.plain k h)
  items_plain (Scheme node scheme index) h fits = (refl, triple_plain narrow_code narrow_code narrow_code Scheme node scheme index h.0 h.1.0 h.1.1)
  items_plain (Hinted lits hints) h fits = (refl, pair_plain (counted_code literal_code) (counted_code narrow_code) Hinted lits hints h.0 h.1)
  items_plain (Lemma order lits) h fits = (refl, pair_plain (order_code version known) (counted_code literal_code) Lemma order lits (lemma_fits version order lits fits, h.0) h.1)
  items_plain (Combine multiples) h fits = (refl, (counted_code multiple_code).plain multiples h)
  items_plain (Bits line chosen polynomial bits) h fits =
      (refl, four_plain narrow_code chosen_code (counted_code term_code) (counted_code narrow_code) Bits line chosen polynomial bits h.0 h.1.0 h.1.1.0 h.1.1.1)
  items_plain (Chain line variable steps) h fits = (refl, triple_plain narrow_code narrow_code narrow_code Chain line variable steps h.0 h.1.0 h.1.1)
  items_plain (Step quotient remainder) h fits = (refl, pair_plain (counted_code wide_code) (counted_code wide_code) Step quotient remainder h.0 h.1)
  items_plain (Split line variable zeros) h fits = (refl, triple_plain narrow_code narrow_code (counted_code wide_code) Split line variable zeros h.0 h.1.0 h.1.1)
  items_plain (Values variable trees) h fits = (refl, pair_plain narrow_code narrow_code Values variable trees h.0 h.1)
  items_plain Close h fits = (refl, tt)
