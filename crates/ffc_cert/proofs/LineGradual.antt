-- The lines of an entry, item by item.
use Rattle.std.proofs.Common.{◌≡◌, ℕ, ◌<◌, ◌^◌, ◌==◌, Bool, true, false, List, [], ◌∷◌, ◌++◌, length, Option, None, Some, Result, Ok, Err, refl, sym, ap, ◌∙◌, subst, arith}
use Rattle.std.specs.Prelude.{if◌then◌else◌, nat_lt, codes, decimal}
use Rattle.std.specs.Str.{bytes_eq}
use Rattle.std.proofs.lemmas.Slice.Eq.{bytes_eq-Decides}
use Rattle.ffc_cert.specs.declared.flaws.Flaw.{Flaw}
use Rattle.ffc_cert.specs.declared.flaws.Flaw.TheVariants.{Form, Number, Missing}
use Rattle.ffc_cert.specs.declared.entries.Cause.{Cause}
use Rattle.ffc_cert.specs.declared.entries.Cause.TheVariants as causes
use Rattle.ffc_cert.specs.declared.entries.Entry.{Entry}
use Rattle.ffc_cert.specs.declared.entries.Entry.TheVariants.{Sat, UnsatCases, UnsatSteps, Unknown}
use Rattle.ffc_cert.specs.declared.entries.CertLine.{CertLine}
use Rattle.ffc_cert.specs.declared.entries.CertLine.TheVariants.{Assume, Scheme, Hinted, Lemma, Combine, Bits, Chain, Step, Split, Values, Close}
use Rattle.ffc_cert.specs.declared.forms.Awaited.{Awaited}
use Rattle.ffc_cert.specs.declared.forms.Opening.{Opening}
use Rattle.ffc_cert.specs.declared.forms.Opening.TheVariants.{Assignment, Refutation, Whole}
use Rattle.ffc_cert.specs.Items.{◌>>=◌, item_at, is_digits, number_in, narrow_at, wide_at}
use Rattle.ffc_cert.specs.Lines.{assume_at, scheme_at, hinted_at, lemma_at, combine_at, bits_at, bits_in, chain_at, step_at, split_at, values_at, clause_form, tree_form, step_form, form_at, sat_at, unsat_at, steps_at, unknown_at, opening_form}
use Rattle.ffc_cert.specs.LineItems.{Item, Word, Below, item_text, IsRight, IsBadNumber, narrow, wide, items_of, value_items, cause_items, first_items}
use Rattle.ffc_cert.specs.Spelling.{clauses}
use Rattle.ffc_cert.specs.Laws.{IsVersion}
use Rattle.ffc_cert.specs.WellFormed.{LineFitsVersion}
use Rattle.ffc_cert.specs.Cuts.{IsCut}
use Rattle.ffc_cert.proofs.Codes.{Is, bound}
use Rattle.ffc_cert.proofs.NumberCodes.{IsItem, decimal_is_digits, is_same}
use Rattle.ffc_cert.proofs.LineCodes.{IsNext, zero_steps, some_steps, above_zero, is_zero, lemma_fits, fits_lemma}
use Rattle.ffc_cert.proofs.Gradual.{Stops, Fails, Gives, IsGradual, pure_gradual, then_gradual, mapped_gradual, same_gradual}
use Rattle.ffc_cert.proofs.GradualItems.{IsNextItem, next_item, no_item, IsJudge, judged_gradual, narrow_gradual, wide_gradual, number_judge}
use Rattle.ffc_cert.proofs.GradualLists.{assume_gradual, scheme_gradual, hinted_gradual, lemma_gradual, combine_gradual, bits_gradual, chain_gradual, step_gradual, split_gradual, values_gradual}
use Rattle.ffc_cert.proofs.GrammarLemmas.{awaiting, clauses_shape}
use Rattle.ffc_cert.proofs.PrefixLemmas.{opening_of}
use Rattle.ffc_cert.proofs.FillLemmas.{filled, zeros}
use Rattle.ffc_cert.proofs.WordLemmas.{word_at, ReadsItems, word_reads, word_fails, word_gives, IsNoWord, other_word, missing_word}

-- how a reading has ended
abbrev pub Outcome : {T A : Type 0} → (List ℕ → Result (A × List ℕ) Flaw) → (T → List Item) → (T → A) → (T → Type 0) → List ℕ → Result (A × List ℕ) Flaw → Type 0
Outcome at lines value Q bytes (Err flaw) = Fails at lines Q bytes flaw
Outcome at lines value Q bytes (Ok x) = Gives lines value Q bytes x.0 x.1

word_is : (item word : List ℕ) → bytes_eq item word ≡ true → item ≡ word
word_is item word h = (bytes_eq-Decides item word).0 h

-- the reader of lines by a form
module _ {T A : Type 0} (form : List ℕ → List ℕ → Result (A × List ℕ) Flaw) (lines : T → List Item) (value : T → A) (Q : T → Type 0) (n : IsNoWord form lines Q)
    (reads : (t : T) → Q t → ReadsItems (word_at form) (lines t) (value t))
    (outcome : (bytes item rest : List ℕ) → IsNextItem bytes item rest → Outcome (word_at form) lines value Q bytes (form item rest)) where
  outcome_at : (bytes : List ℕ) → IsCut bytes → (q : Result (List ℕ × List ℕ) Flaw) → item_at bytes ≡ q → Outcome (word_at form) lines value Q bytes (q >>= λ item. form item.0 item.1)
  outcome_at bytes k (Err e) is = missing_word form lines Q n bytes e (no_item bytes e k is)
  outcome_at bytes k (Ok item) is = outcome bytes item.0 item.1 (next_item bytes item.0 item.1 is)

  pub form_gradual : IsGradual (word_at form) lines value Q
  form_gradual = record {
    filler = n.line;
    filler_holds = n.holds;
    reads = λ t rest q r k. (reads t q).reads rest r k;
    sure = λ t front due others tail flaw q is r k. (reads t q).sure front due others tail flaw is r k;
    gives = λ bytes x rest k h. subst (Outcome (word_at form) lines value Q bytes) h (outcome_at bytes k (item_at bytes) refl);
    fails = λ bytes flaw k h. subst (Outcome (word_at form) lines value Q bytes) h (outcome_at bytes k (item_at bytes) refl);
  }

-- the outcome behind a word
module _ {S A : Type 0} {at : List ℕ → Result (A × List ℕ) Flaw} {items : S → List Item} {value : S → A} {P : S → Type 0} (c : IsGradual at items value P)
    (form : List ℕ → List ℕ → Result (A × List ℕ) Flaw) (word : List ℕ) (whole : IsItem word) (is : (bytes : List ℕ) → form word bytes ≡ at bytes)
    {T : Type 0} (lines : T → List Item) (Q : T → Type 0) (value' : T → A) (make : S → T) (spelled : (s : S) → lines (make s) ≡ Word word ∷ items s) (holds : (s : S) → P s → Q (make s))
    (same : (s : S) → value s ≡ value' (make s)) where
  word_by : (bytes rest : List ℕ) → bytes ≡ 32 ∷ (word ++ rest) → IsCut rest → (r : Result (A × List ℕ) Flaw) → form word rest ≡ r → Outcome (word_at form) lines value' Q bytes r
  word_by bytes rest e k (Err flaw) h = word_fails c form word whole is lines Q value' make spelled holds same bytes rest flaw e k h
  word_by bytes rest e k (Ok x) h = word_gives c form word whole is lines Q value' make spelled holds same bytes rest x.0 x.1 e k h

  pub word_outcome : (bytes item rest : List ℕ) → IsNextItem bytes item rest → bytes_eq item word ≡ true → Outcome (word_at form) lines value' Q bytes (at rest)
  word_outcome bytes item rest i e = word_by bytes rest (i.bytes_are ∙ ap (λ (xs : List ℕ). 32 ∷ (xs ++ rest)) (word_is item word e)) i.cut (at rest) (is rest)

-- lines of a refutation
module _ {bits : Bool} (version : ℕ) (known : IsVersion bits version) (a : Awaited) where
  abbrev pub MayCome : CertLine → Type 0
  MayCome l = IsNext l a × LineFitsVersion version l

  clause_is : (a.steps ≡ 0) × (a.trees ≡ 0) → (word bytes : List ℕ) → form_at version a word bytes ≡ clause_form version word bytes
  unfolding form_at
  clause_is h word bytes = rw (zero_steps a.steps h.0, zero_steps a.trees h.1) refl

  tree_is : (a.steps ≡ 0) × (0 < a.trees) → (word bytes : List ℕ) → form_at version a word bytes ≡ tree_form version word bytes
  unfolding form_at
  tree_is h word bytes = rw (zero_steps a.steps h.0, some_steps a.trees h.1) refl

  bits_is : (a.steps ≡ 0) × (0 < a.trees) → version ≡ 3 → (bytes : List ℕ) → form_at version a (codes "b") bytes ≡ bits_at bytes
  unfolding tree_form bits_in
  bits_is h three bytes = tree_is h (codes "b") bytes ∙ rw three refl

  step_is : 0 < a.steps → (word bytes : List ℕ) → form_at version a word bytes ≡ step_form word bytes
  unfolding form_at
  step_is h word bytes = rw (some_steps a.steps h) refl

  abbrev form : List ℕ → List ℕ → Result (CertLine × List ℕ) Flaw
  form = form_at version a

  line_reads : (l : CertLine) → MayCome l → ReadsItems (word_at form) (items_of l) l
  unfolding clause_form tree_form step_form
  line_reads (Assume k) h = word_reads assume_gradual form (codes "a") (refl, tt) (clause_is h.0 (codes "a")) k tt
  line_reads (Scheme node scheme index) h = word_reads scheme_gradual form (codes "n") (refl, tt) (clause_is h.0 (codes "n")) (node, (scheme, index)) (tt, (tt, tt))
  line_reads (Hinted lits hints) h = word_reads hinted_gradual form (codes "r") (refl, tt) (clause_is h.0 (codes "r")) (lits, hints) (tt, tt)
  line_reads (Lemma order lits) h = word_reads (lemma_gradual version known) form (codes "f") (refl, tt) (clause_is h.0 (codes "f")) (order, lits) (lemma_fits version order lits h.1, tt)
  line_reads (Combine multiples) h = word_reads combine_gradual form (codes "c") (refl, tt) (tree_is h.0 (codes "c")) multiples tt
  line_reads (Bits line chosen polynomial bits) h = word_reads bits_gradual form (codes "b") (refl, tt) (bits_is h.0 h.1) (line, (chosen, (polynomial, bits))) (tt, (tt, (tt, tt)))
  line_reads (Chain line variable steps) h = word_reads chain_gradual form (codes "p") (refl, tt) (tree_is h.0 (codes "p")) (line, (variable, steps)) (tt, (tt, tt))
  line_reads (Step quotient remainder) h = word_reads step_gradual form (codes "u") (refl, tt) (step_is h.0 (codes "u")) (quotient, remainder) (tt, tt)
  line_reads (Split line variable zeros) h = word_reads split_gradual form (codes "s") (refl, tt) (tree_is h.0 (codes "s")) (line, (variable, zeros)) (tt, (tt, tt))
  line_reads (Values variable trees) h = word_reads values_gradual form (codes "v") (refl, tt) (tree_is h.0 (codes "v")) (variable, trees) (tt, tt)
  line_reads Close h = word_reads (pure_gradual Close) form (codes "z") (refl, tt) (tree_is h.0 (codes "z")) tt tt

  abbrev After : List ℕ → Result (CertLine × List ℕ) Flaw → Type 0
  After bytes r = Outcome (word_at form) items_of (λ l. l) MayCome bytes r

  no_clause : (a.steps ≡ 0) × (a.trees ≡ 0) → IsNoWord form items_of MayCome
  no_clause h = record { line = Assume 0; holds = (h, tt); word = codes "a"; others = narrow 0; items_are = refl }

  no_tree : (a.steps ≡ 0) × (0 < a.trees) → IsNoWord form items_of MayCome
  no_tree h = record { line = Close; holds = (h, tt); word = codes "z"; others = []; items_are = refl }

  no_step : 0 < a.steps → IsNoWord form items_of MayCome
  no_step h = record { line = Step [] []; holds = (h, tt); word = codes "u"; others = narrow 0 ++ narrow 0; items_are = refl }

  no_line : (some more : Bool) → nat_lt 0 a.steps ≡ some → nat_lt 0 a.trees ≡ more → IsNoWord form items_of MayCome
  no_line true more s t = no_step (above_zero a.steps s)
  no_line false true s t = no_tree (is_zero a.steps s, above_zero a.trees t)
  no_line false false s t = no_clause (is_zero a.steps s, is_zero a.trees t)

  module _ (bytes item rest : List ℕ) (i : IsNextItem bytes item rest) where
    -- a clause is needed
    module _ (h : (a.steps ≡ 0) × (a.trees ≡ 0)) where
      clause_outcome : (is_a is_n is_r is_f : Bool) → bytes_eq item (codes "a") ≡ is_a → bytes_eq item (codes "n") ≡ is_n → bytes_eq item (codes "r") ≡ is_r → bytes_eq item (codes "f") ≡ is_f
          → After bytes (if is_a then assume_at rest else if is_n then scheme_at rest else if is_r then hinted_at rest else if is_f then lemma_at version rest else Err Form)
      unfolding clause_form
      clause_outcome true n r f e1 e2 e3 e4 =
          word_outcome assume_gradual form (codes "a") (refl, tt) (clause_is h (codes "a")) items_of MayCome (λ l. l) Assume (λ s. refl) (λ s p. (h, tt)) (λ s. refl) bytes item rest i e1
      clause_outcome false true r f e1 e2 e3 e4 =
          word_outcome scheme_gradual form (codes "n") (refl, tt) (clause_is h (codes "n")) items_of MayCome (λ l. l) (λ s. Scheme s.0 s.1.0 s.1.1) (λ s. refl) (λ s p. (h, tt)) (λ s. refl) bytes item rest i e2
      clause_outcome false false true f e1 e2 e3 e4 =
          word_outcome hinted_gradual form (codes "r") (refl, tt) (clause_is h (codes "r")) items_of MayCome (λ l. l) (λ s. Hinted s.0 s.1) (λ s. refl) (λ s p. (h, tt)) (λ s. refl) bytes item rest i e3
      clause_outcome false false false true e1 e2 e3 e4 =
          word_outcome (lemma_gradual version known) form (codes "f") (refl, tt) (clause_is h (codes "f")) items_of MayCome (λ l. l) (λ s. Lemma s.0 s.1) (λ s. refl)
          (λ s p. (h, fits_lemma version s.0 s.1 p.0)) (λ s. refl) bytes item rest i e4
      clause_outcome false false false false e1 e2 e3 e4 =
          other_word form items_of MayCome (no_clause h) bytes item rest i (clause_is h item [] ∙ rw (e1, e2, e3, e4) refl)

    module _ (h : (a.steps ≡ 0) × (0 < a.trees)) where
      bits_outcome : (is_three : Bool) → (version == 3) ≡ is_three → bytes_eq item (codes "b") ≡ true → form item [] ≡ (if is_three then bits_at [] else Err Form) → After bytes (if is_three then bits_at rest else Err Form)
      bits_outcome true e same here =
          let three = is_same version 3 e in
          word_outcome bits_gradual form (codes "b") (refl, tt) (bits_is h three) items_of MayCome (λ l. l) (λ s. Bits s.0 s.1.0 s.1.1.0 s.1.1.1) (λ s. refl) (λ s p. (h, three)) (λ s. refl) bytes item rest i same
      bits_outcome false e same here = other_word form items_of MayCome (no_tree h) bytes item rest i here

      tree_outcome : (is_c is_b is_p is_s is_v is_z is_three : Bool) → bytes_eq item (codes "c") ≡ is_c → bytes_eq item (codes "b") ≡ is_b → bytes_eq item (codes "p") ≡ is_p → bytes_eq item (codes "s") ≡ is_s → bytes_eq item (codes "v") ≡ is_v → bytes_eq item (codes "z") ≡ is_z
          → (version == 3) ≡ is_three
          → After bytes (if is_c then combine_at rest else if is_b then (if is_three then bits_at rest else Err Form) else if is_p then chain_at rest else if is_s then split_at rest else if is_v then values_at rest else if is_z then Ok (Close, rest) else Err Form)
      unfolding tree_form bits_in
      tree_outcome true b p s v z three e1 e2 e3 e4 e5 e6 e7 =
          word_outcome combine_gradual form (codes "c") (refl, tt) (tree_is h (codes "c")) items_of MayCome (λ l. l) Combine (λ s. refl) (λ s p. (h, tt)) (λ s. refl) bytes item rest i e1
      tree_outcome false true p s v z three e1 e2 e3 e4 e5 e6 e7 = bits_outcome three e7 e2 (tree_is h item [] ∙ rw (e1, e2, e7) refl)
      tree_outcome false false true s v z three e1 e2 e3 e4 e5 e6 e7 =
          word_outcome chain_gradual form (codes "p") (refl, tt) (tree_is h (codes "p")) items_of MayCome (λ l. l) (λ s. Chain s.0 s.1.0 s.1.1) (λ s. refl) (λ s p. (h, tt)) (λ s. refl) bytes item rest i e3
      tree_outcome false false false true v z three e1 e2 e3 e4 e5 e6 e7 =
          word_outcome split_gradual form (codes "s") (refl, tt) (tree_is h (codes "s")) items_of MayCome (λ l. l) (λ s. Split s.0 s.1.0 s.1.1) (λ s. refl) (λ s p. (h, tt)) (λ s. refl) bytes item rest i e4
      tree_outcome false false false false true z three e1 e2 e3 e4 e5 e6 e7 =
          word_outcome values_gradual form (codes "v") (refl, tt) (tree_is h (codes "v")) items_of MayCome (λ l. l) (λ s. Values s.0 s.1) (λ s. refl) (λ s p. (h, tt)) (λ s. refl) bytes item rest i e5
      tree_outcome false false false false false true three e1 e2 e3 e4 e5 e6 e7 =
          word_outcome (pure_gradual Close) form (codes "z") (refl, tt) (tree_is h (codes "z")) items_of MayCome (λ l. l) (λ _. Close) (λ s. refl) (λ s p. (h, tt)) (λ s. refl) bytes item rest i e6
      tree_outcome false false false false false false three e1 e2 e3 e4 e5 e6 e7 =
          other_word form items_of MayCome (no_tree h) bytes item rest i (tree_is h item [] ∙ rw (e1, e2, e3, e4, e5, e6) refl)

    module _ (h : 0 < a.steps) where
      step_outcome : (is_u : Bool) → bytes_eq item (codes "u") ≡ is_u → After bytes (if is_u then step_at rest else Err Form)
      unfolding step_form
      step_outcome true e =
          word_outcome step_gradual form (codes "u") (refl, tt) (step_is h (codes "u")) items_of MayCome (λ l. l) (λ s. Step s.0 s.1) (λ s. refl) (λ s p. (h, tt)) (λ s. refl) bytes item rest i e
      step_outcome false e = other_word form items_of MayCome (no_step h) bytes item rest i (step_is h item [] ∙ rw e refl)

    line_outcome : (some more : Bool) → nat_lt 0 a.steps ≡ some → nat_lt 0 a.trees ≡ more → After bytes (form item rest)
    unfolding clause_form tree_form bits_in step_form
    line_outcome true more s t =
        let h = above_zero a.steps s in
        subst (After bytes) (sym (step_is h item rest)) (step_outcome h (bytes_eq item (codes "u")) refl)
    line_outcome false true s t =
        let h : (a.steps ≡ 0) × (0 < a.trees) = (is_zero a.steps s, above_zero a.trees t) in
        subst (After bytes) (sym (tree_is h item rest))
        (tree_outcome h (bytes_eq item (codes "c")) (bytes_eq item (codes "b")) (bytes_eq item (codes "p")) (bytes_eq item (codes "s")) (bytes_eq item (codes "v")) (bytes_eq item (codes "z")) (version == 3) refl refl refl refl refl refl refl)
    line_outcome false false s t =
        let h : (a.steps ≡ 0) × (a.trees ≡ 0) = (is_zero a.steps s, is_zero a.trees t) in
        subst (After bytes) (sym (clause_is h item rest))
        (clause_outcome h (bytes_eq item (codes "a")) (bytes_eq item (codes "n")) (bytes_eq item (codes "r")) (bytes_eq item (codes "f")) refl refl refl refl)

  pub line_gradual : IsGradual (word_at (form_at version a)) items_of (λ l. l) MayCome
  line_gradual = form_gradual form items_of (λ l. l) MayCome (no_line (nat_lt 0 a.steps) (nat_lt 0 a.trees) refl refl) line_reads
      (λ bytes item rest i. line_outcome bytes item rest i (nat_lt 0 a.steps) (nat_lt 0 a.trees) refl refl)

-- lines of values
abbrev pub value_form : List ℕ → List ℕ → Result ((ℕ × ℕ) × List ℕ) Flaw
value_form word bytes = if bytes_eq word (codes "=") then (narrow_at bytes >>= λ node. wide_at node.1 >>= λ value. Ok ((node.0, value.0), value.1)) else Err Form

pair_gradual : IsGradual {S = ℕ × ℕ} {A = ℕ × ℕ} (λ bytes. narrow_at bytes >>= λ node. wide_at node.1 >>= λ value. Ok ((node.0, value.0), value.1)) (λ v. narrow v.0 ++ wide v.1) (λ v. (v.0, v.1)) (λ _. Unit {0} × Unit {0})
pair_gradual = then_gradual narrow_gradual (λ n bs. wide_at bs >>= λ x. Ok ((n, x.0), x.1)) (λ n. mapped_gradual wide_gradual (λ x. (n, x)))

no_value : IsNoWord value_form value_items (λ _. Unit {0})
no_value = record { line = (0, 0); holds = tt; word = codes "="; others = narrow 0 ++ wide 0; items_are = refl }

value_outcome : (bytes item rest : List ℕ) → IsNextItem bytes item rest → (is : Bool) → bytes_eq item (codes "=") ≡ is
    → Outcome {T = ℕ × ℕ} (word_at value_form) value_items (λ v. v) (λ _. Unit {0}) bytes (if is then (narrow_at rest >>= λ node. wide_at node.1 >>= λ value. Ok ((node.0, value.0), value.1)) else Err Form)
value_outcome bytes item rest i true e =
    word_outcome pair_gradual value_form (codes "=") (refl, tt) (λ bs. refl) value_items (λ _. Unit {0}) (λ v. v) (λ s. s) (λ s. refl) (λ s p. tt) (λ s. refl) bytes item rest i e
value_outcome bytes item rest i false e = other_word value_form value_items (λ _. Unit {0}) no_value bytes item rest i (rw e refl)

pub value_gradual : IsGradual (word_at value_form) value_items (λ v. v) (λ _. Unit {0})
value_gradual = form_gradual value_form value_items (λ v. v) (λ _. Unit {0}) no_value (λ v q. word_reads pair_gradual value_form (codes "=") (refl, tt) (λ bs. refl) v (tt, tt))
    (λ bytes item rest i. value_outcome bytes item rest i (bytes_eq item (codes "=")) refl)

-- first lines of entries

sat_gradual : IsGradual sat_at narrow Assignment (λ _. Unit {0})
unfolding sat_at
sat_gradual = mapped_gradual narrow_gradual Assignment

-- `e`, or a number
abbrev unsat_in : List ℕ → Result (Option ℕ) Flaw
unsat_in item = if bytes_eq item (codes "e") then Ok None else number_in (2 ^ 32) item >>= λ n. Ok (Some n)

abbrev unsat_item : Option ℕ → Item
unsat_item None = Word (codes "e")
unsat_item (Some n) = Below (2 ^ 32) n

abbrev unsat_opening : Option ℕ → Opening
unsat_opening None = Whole UnsatCases
unsat_opening (Some n) = Refutation n

not_digits : (item : List ℕ) → is_digits item ≡ true → (same : Bool) → bytes_eq item (codes "e") ≡ same → same ≡ false
unfolding is_digits
not_digits item h true e = absurd (let clash : true ≡ false = sym h ∙ ap is_digits (word_is item (codes "e") e) in cc)
not_digits item h false e = refl

record IsUnsatItem (item : List ℕ) (o : Option ℕ) : Type 0 where
  text_is : item ≡ item_text (unsat_item o)
  right : IsRight (unsat_item o)

unsat_by : (item : List ℕ) (o : Option ℕ) (same : Bool) → bytes_eq item (codes "e") ≡ same → Is {A = Option ℕ} (if same then Ok None else number_in (2 ^ 32) item >>= λ n. Ok (Some n)) o → IsUnsatItem item o
unsat_by item None true e h = record { text_is = word_is item (codes "e") e; right = tt }
unsat_by item (Some n) true e h = absurd (cc)
unsat_by item o false e h =
    let n = bound (number_in (2 ^ 32) item) (λ n. Ok (Some n)) o h in
    let is : Some n.value ≡ o = cc (n.second) in
    let j = number_judge (2 ^ 32) (omega arith) in
    subst (IsUnsatItem item) is (record { text_is = j.text_is item n.value n.first; right = j.right item n.value n.first })

unsat_flaw : (item : List ℕ) (flaw : Flaw) (same : Bool) → Stops {A = Option ℕ} (if same then Ok None else number_in (2 ^ 32) item >>= λ n. Ok (Some n)) flaw → number_in (2 ^ 32) item ≡ Err flaw
unsat_flaw item flaw true h = absurd (cc)
unsat_flaw item flaw false h = number_failed (number_in (2 ^ 32) item) h
  where
    number_failed : (q : Result ℕ Flaw) → Stops {A = Option ℕ} (q >>= λ n. Ok (Some n)) flaw → q ≡ Err flaw
    number_failed (Err e) h = cc
    number_failed (Ok n) h = absurd (cc)

unsat_bad : (o : Option ℕ) (item : List ℕ) → IsBadNumber (unsat_item o) item → unsat_in item ≡ Err Number
unsat_bad None item h = absurd h
unsat_bad (Some n) item h = rw (not_digits item h.0 (bytes_eq item (codes "e")) refl, (number_judge (2 ^ 32) (omega arith)).bad n item h) refl

unsat_whole : (o : Option ℕ) → IsRight (unsat_item o) → IsItem (item_text (unsat_item o))
unsat_whole None h = (refl, tt)
unsat_whole (Some n) h = (number_judge (2 ^ 32) (omega arith)).whole n h

unsat_reads : (o : Option ℕ) → IsRight (unsat_item o) → unsat_in (item_text (unsat_item o)) ≡ Ok o
unsat_reads None h = refl
unsat_reads (Some n) h = rw (not_digits (decimal n) (decimal_is_digits n (omega (arith, h))) (bytes_eq (decimal n) (codes "e")) refl, (number_judge (2 ^ 32) (omega arith)).reads n h) refl

unsat_judge : IsJudge unsat_in unsat_item (Some 0)
unsat_judge = record {
  whole = unsat_whole;
  reads = unsat_reads;
  text_is = λ item o h. (unsat_by item o (bytes_eq item (codes "e")) refl h).text_is;
  right = λ item o h. (unsat_by item o (bytes_eq item (codes "e")) refl h).right;
  bad = unsat_bad;
  other = λ item h. (number_judge (2 ^ 32) (omega arith)).other item (unsat_flaw item Missing (bytes_eq item (codes "e")) h);
  number = λ item h. (number_judge (2 ^ 32) (omega arith)).number item (unsat_flaw item Number (bytes_eq item (codes "e")) h);
}

abbrev opened_as : Result (Option ℕ × List ℕ) Flaw → Result (Opening × List ℕ) Flaw
opened_as read = read >>= λ o. Ok (unsat_opening o.0, o.1)

abbrev unsat_read : List ℕ → Result (Opening × List ℕ) Flaw
unsat_read bytes = opened_as (item_at bytes >>= λ item. unsat_in item.0 >>= λ o. Ok (o, item.1))

unsat_same : (bytes : List ℕ) → unsat_at bytes ≡ unsat_read bytes
unfolding unsat_at
unsat_same bytes = by (item_at bytes)
  where
    by_number : (q : Result ℕ Flaw) (rest : List ℕ) → (let r : Result (Opening × List ℕ) Flaw = q >>= λ n. Ok (Refutation n, rest) in r)
        ≡ opened_as ((let r : Result (Option ℕ) Flaw = q >>= λ n. Ok (Some n) in r) >>= λ o. Ok (o, rest))
    by_number (Err e) rest = refl
    by_number (Ok n) rest = refl

    by_word : (same : Bool) (q : Result ℕ Flaw) (rest : List ℕ) → (let r : Result (Opening × List ℕ) Flaw = if same then Ok (Whole UnsatCases, rest) else (q >>= λ n. Ok (Refutation n, rest)) in r)
        ≡ opened_as ((let r : Result (Option ℕ) Flaw = if same then Ok None else (q >>= λ n. Ok (Some n)) in r) >>= λ o. Ok (o, rest))
    by_word true q rest = refl
    by_word false q rest = by_number q rest

    by : (q : Result (List ℕ × List ℕ) Flaw) → (let r : Result (Opening × List ℕ) Flaw = q >>= λ item. if bytes_eq item.0 (codes "e") then Ok (Whole UnsatCases, item.1) else (number_in (2 ^ 32) item.0 >>= λ n. Ok (Refutation n, item.1)) in r)
        ≡ opened_as (q >>= λ item. unsat_in item.0 >>= λ o. Ok (o, item.1))
    by (Err e) = refl
    by (Ok item) = by_word (bytes_eq item.0 (codes "e")) (number_in (2 ^ 32) item.0) item.1

unsat_gradual : IsGradual unsat_at (λ o. unsat_item o ∷ []) unsat_opening (λ _. Unit {0})
unsat_gradual = same_gradual unsat_same (mapped_gradual (judged_gradual unsat_in unsat_item (Some 0) unsat_judge) unsat_opening)

-- causes
abbrev steps_cause : ℕ × (ℕ × (ℕ × ℕ)) → Cause
steps_cause s = causes.Steps s.0 s.1.0 s.1.1.0 s.1.1.1

steps_gradual : IsGradual {S = ℕ × (ℕ × (ℕ × ℕ))} steps_at (λ s. wide s.0 ++ (wide s.1.0 ++ (wide s.1.1.0 ++ wide s.1.1.1))) (λ s. Whole (Unknown (steps_cause s))) (λ _. Unit {0} × (Unit {0} × (Unit {0} × Unit {0})))
unfolding steps_at
steps_gradual =
    then_gradual wide_gradual (λ t bs. wide_at bs >>= λ r. wide_at r.1 >>= λ a. wide_at a.1 >>= λ c. Ok (Whole (Unknown (causes.Steps t r.0 a.0 c.0)), c.1))
    (λ t. then_gradual wide_gradual (λ r bs. wide_at bs >>= λ a. wide_at a.1 >>= λ c. Ok (Whole (Unknown (causes.Steps t r a.0 c.0)), c.1))
    (λ r. then_gradual wide_gradual (λ a bs. wide_at bs >>= λ c. Ok (Whole (Unknown (causes.Steps t r a c.0)), c.1)) (λ a. mapped_gradual wide_gradual (λ c. Whole (Unknown (causes.Steps t r a c))))))

abbrev cause_form : List ℕ → List ℕ → Result (Opening × List ℕ) Flaw
cause_form word bytes =
    if bytes_eq word (codes "degree") then Ok (Whole (Unknown causes.Degree), bytes) else
    if bytes_eq word (codes "terms") then Ok (Whole (Unknown causes.Terms), bytes) else
    if bytes_eq word (codes "memory") then Ok (Whole (Unknown causes.Memory), bytes) else
    if bytes_eq word (codes "steps") then steps_at bytes else Err Form

abbrev cause_value : Cause → Opening
cause_value c = Whole (Unknown c)

no_cause : IsNoWord cause_form cause_items (λ _. Unit {0})
no_cause = record { line = causes.Degree; holds = tt; word = codes "degree"; others = []; items_are = refl }

word_letters : Unit {0} → IsItem (codes "degree") × (IsItem (codes "terms") × (IsItem (codes "memory") × IsItem (codes "steps")))
word_letters u = (
  (refl, (refl, (refl, (refl, (refl, (refl, tt)))))),
  ((refl, (refl, (refl, (refl, (refl, tt))))), ((refl, (refl, (refl, (refl, (refl, (refl, tt)))))), (refl, (refl, (refl, (refl, (refl, tt))))))),
)

cause_reads : (c : Cause) → Unit {0} → ReadsItems (word_at cause_form) (cause_items c) (cause_value c)
cause_reads causes.Degree q = word_reads (pure_gradual (Whole (Unknown causes.Degree))) cause_form (codes "degree") (word_letters tt).0 (λ bs. refl) tt tt
cause_reads causes.Terms q = word_reads (pure_gradual (Whole (Unknown causes.Terms))) cause_form (codes "terms") (word_letters tt).1.0 (λ bs. refl) tt tt
cause_reads (causes.Steps t r a c) q = word_reads steps_gradual cause_form (codes "steps") (word_letters tt).1.1.1 (λ bs. refl) (t, (r, (a, c))) (tt, (tt, (tt, tt)))
cause_reads causes.Memory q = word_reads (pure_gradual (Whole (Unknown causes.Memory))) cause_form (codes "memory") (word_letters tt).1.1.0 (λ bs. refl) tt tt

module _ (bytes item rest : List ℕ) (i : IsNextItem bytes item rest) where
  cause_outcome : (is_d is_t is_m is_s : Bool) → bytes_eq item (codes "degree") ≡ is_d → bytes_eq item (codes "terms") ≡ is_t → bytes_eq item (codes "memory") ≡ is_m → bytes_eq item (codes "steps") ≡ is_s
      → Outcome {T = Cause} (word_at cause_form) cause_items cause_value (λ _. Unit {0}) bytes (if is_d then Ok (Whole (Unknown causes.Degree), rest) else
      if is_t then Ok (Whole (Unknown causes.Terms), rest) else
      if is_m then Ok (Whole (Unknown causes.Memory), rest) else
      if is_s then steps_at rest else Err Form)
  cause_outcome true t m s e1 e2 e3 e4 =
      word_outcome (pure_gradual (Whole (Unknown causes.Degree))) cause_form (codes "degree") (word_letters tt).0 (λ bs. refl) cause_items (λ _. Unit {0}) cause_value (λ _. causes.Degree) (λ s. refl) (λ s p. tt) (λ s. refl) bytes item rest i e1
  cause_outcome false true m s e1 e2 e3 e4 =
      word_outcome (pure_gradual (Whole (Unknown causes.Terms))) cause_form (codes "terms") (word_letters tt).1.0 (λ bs. refl) cause_items (λ _. Unit {0}) cause_value (λ _. causes.Terms) (λ s. refl) (λ s p. tt) (λ s. refl) bytes item rest i e2
  cause_outcome false false true s e1 e2 e3 e4 =
      word_outcome (pure_gradual (Whole (Unknown causes.Memory))) cause_form (codes "memory") (word_letters tt).1.1.0 (λ bs. refl) cause_items (λ _. Unit {0}) cause_value (λ _. causes.Memory) (λ s. refl) (λ s p. tt) (λ s. refl) bytes item rest i e3
  cause_outcome false false false true e1 e2 e3 e4 =
      word_outcome steps_gradual cause_form (codes "steps") (word_letters tt).1.1.1 (λ bs. refl) cause_items (λ _. Unit {0}) cause_value steps_cause (λ s. refl) (λ s p. tt) (λ s. refl) bytes item rest i e4
  cause_outcome false false false false e1 e2 e3 e4 = other_word cause_form cause_items (λ _. Unit {0}) no_cause bytes item rest i (rw (e1, e2, e3, e4) refl)

unknown_gradual : IsGradual unknown_at cause_items cause_value (λ _. Unit {0})
unfolding unknown_at
unknown_gradual = form_gradual cause_form cause_items cause_value (λ _. Unit {0}) no_cause cause_reads
    (λ bytes item rest i. cause_outcome bytes item rest i (bytes_eq item (codes "degree")) (bytes_eq item (codes "terms")) (bytes_eq item (codes "memory")) (bytes_eq item (codes "steps")) refl refl refl refl)

-- entries with these first lines

sat_entry : ℕ → Entry
sat_entry n = Sat (zeros n).values

steps_entry : ℕ → Entry
steps_entry n = UnsatSteps (filled 1 (awaiting n 0 0)).lines

steps_count : (n : ℕ) → clauses (filled 1 (awaiting n 0 0)).lines ≡ n
steps_count n = let f = filled 1 (awaiting n 0 0) in (clauses_shape n f.lines f.completes).count

unsat_entry : Option ℕ → Entry
unsat_entry None = UnsatCases
unsat_entry (Some n) = steps_entry n

unsat_items : (o : Option ℕ) → first_items (unsat_entry o) ≡ Word (codes "unsat") ∷ unsat_item o ∷ []
unfolding unsat_entry steps_entry
unsat_items None = refl
unsat_items (Some n) = ap (λ (m : ℕ). Word (codes "unsat") ∷ narrow m) (steps_count n)

unsat_value : (o : Option ℕ) → unsat_opening o ≡ opening_of (unsat_entry o)
unfolding unsat_entry steps_entry
unsat_value None = refl
unsat_value (Some n) = ap Refutation (sym (steps_count n))

sat_items : (n : ℕ) → first_items (sat_entry n) ≡ Word (codes "sat") ∷ narrow n
unfolding sat_entry
sat_items n = ap (λ (m : ℕ). Word (codes "sat") ∷ narrow m) (zeros n).count

sat_value : (n : ℕ) → Assignment n ≡ opening_of (sat_entry n)
unfolding sat_entry
sat_value n = ap Assignment (sym (zeros n).count)

sat_whole : IsItem (codes "sat")
sat_whole = (refl, (refl, (refl, tt)))

unsat_word : IsItem (codes "unsat")
unsat_word = (refl, (refl, (refl, (refl, (refl, tt)))))

unknown_word : IsItem (codes "unknown")
unknown_word = (refl, (refl, (refl, (refl, (refl, (refl, (refl, tt)))))))

no_first : IsNoWord opening_form first_items (λ _. Unit {0})
no_first = record { line = UnsatCases; holds = tt; word = codes "unsat"; others = Word (codes "e") ∷ []; items_are = refl }

first_reads : (e : Entry) → Unit {0} → ReadsItems (word_at opening_form) (first_items e) (opening_of e)
unfolding opening_form
first_reads (Sat values) q = word_reads sat_gradual opening_form (codes "sat") sat_whole (λ bs. refl) (length values) tt
first_reads UnsatCases q = word_reads unsat_gradual opening_form (codes "unsat") unsat_word (λ bs. refl) None tt
first_reads (UnsatSteps lines) q = word_reads unsat_gradual opening_form (codes "unsat") unsat_word (λ bs. refl) (Some (clauses lines)) tt
first_reads (Unknown cause) q = word_reads unknown_gradual opening_form (codes "unknown") unknown_word (λ bs. refl) cause tt

module _ (bytes item rest : List ℕ) (i : IsNextItem bytes item rest) where
  first_outcome : (is_s is_u is_k : Bool) → bytes_eq item (codes "sat") ≡ is_s → bytes_eq item (codes "unsat") ≡ is_u → bytes_eq item (codes "unknown") ≡ is_k
      → Outcome {T = Entry} (word_at opening_form) first_items opening_of (λ _. Unit {0}) bytes (if is_s then sat_at rest else if is_u then unsat_at rest else if is_k then unknown_at rest else Err Form)
  unfolding opening_form
  first_outcome true u k e1 e2 e3 =
      word_outcome sat_gradual opening_form (codes "sat") sat_whole (λ bs. refl) first_items (λ _. Unit {0}) opening_of sat_entry sat_items (λ s p. tt) sat_value bytes item rest i e1
  first_outcome false true k e1 e2 e3 =
      word_outcome unsat_gradual opening_form (codes "unsat") unsat_word (λ bs. refl) first_items (λ _. Unit {0}) opening_of unsat_entry unsat_items (λ s p. tt) unsat_value bytes item rest i e2
  first_outcome false false true e1 e2 e3 =
      word_outcome unknown_gradual opening_form (codes "unknown") unknown_word (λ bs. refl) first_items (λ _. Unit {0}) opening_of (λ c. Unknown c) (λ c. refl) (λ c p. tt) (λ c. refl) bytes item rest i e3
  first_outcome false false false e1 e2 e3 = other_word opening_form first_items (λ _. Unit {0}) no_first bytes item rest i (rw (e1, e2, e3) refl)

pub first_gradual : IsGradual (word_at opening_form) first_items opening_of (λ _. Unit {0})
unfolding opening_form
first_gradual = form_gradual opening_form first_items opening_of (λ _. Unit {0}) no_first first_reads
    (λ bytes item rest i. first_outcome bytes item rest i (bytes_eq item (codes "sat")) (bytes_eq item (codes "unsat")) (bytes_eq item (codes "unknown")) refl refl refl)
