-- Lines of values, and first lines of entries.
use Rattle.std.proofs.Common.{◌≡◌, ℕ, ◌<◌, ◌^◌, Bool, true, false, List, [], ◌∷◌, ◌++◌, Ok, Err, inl, inr, refl, sym, ap, ◌∙◌, subst, arith, append_assoc}
use Rattle.std.specs.Prelude.{if◌then◌else◌, codes, decimal}
use Rattle.std.specs.Str.{bytes_eq}
use Rattle.std.proofs.lemmas.List.{append-nil}
use Rattle.std.proofs.lemmas.Slice.Eq.{bytes_eq-Decides}
use Rattle.ffc_cert.specs.declared.flaws.Flaw.TheVariants.{Form}
use Rattle.ffc_cert.specs.declared.entries.Entry.TheVariants.{Sat, UnsatCases, UnsatSteps, Unknown}
use Rattle.ffc_cert.specs.declared.entries.Cause.{Cause}
use Rattle.ffc_cert.specs.declared.entries.Cause.TheVariants.{Degree, Terms, Steps, Memory}
use Rattle.ffc_cert.specs.declared.forms.Opening.{Opening}
use Rattle.ffc_cert.specs.declared.forms.Opening.TheVariants.{Assignment, Refutation, Whole}
use Rattle.ffc_cert.specs.Items.{◌>>=◌, first_item, behind_item, item_at, ended, is_digits, number_in, narrow_at, wide_at}
use Rattle.ffc_cert.specs.Lines.{value_at, sat_at, unsat_at, steps_at, unknown_at, opening_form, opening_at}
use Rattle.ffc_cert.specs.Spelling.{number, cause_items}
use Rattle.ffc_cert.specs.Ranges.{IsNarrow, IsWide, IsValue, IsCause}
use Rattle.ffc_cert.specs.Cuts.{IsCut}
use Rattle.ffc_cert.proofs.Codes.{IsPlain, plain_append, bound, branch, chosen, same_parts, Is}
use Rattle.ffc_cert.proofs.NumberCodes.{IsItem, narrow_code, wide_code, word_front, word_behind, front_behind, item_reads, item_gives, decimal_item, decimal_is_digits, number_in_reads, number_in_gives}
use Rattle.ffc_cert.proofs.LineCodes.{whole, ended_gives}

abbrev pub value_items : ℕ × ℕ → List ℕ
value_items v = codes "=" ++ (number v.0 ++ number v.1)

pub value_plain : (v : ℕ × ℕ) → IsValue v → IsPlain (value_items v)
value_plain v h = (refl, plain_append (number v.0) (number v.1) (narrow_code.plain v.0 h.0) (wide_code.plain v.1 h.1))

pub value_reads : (v : ℕ × ℕ) → IsValue v → value_at (value_items v) ≡ Ok v
unfolding value_at ended
value_reads v h =
    let last : wide_at (number v.1) ≡ Ok (v.1, []) = whole wide_at (number v.1) v.1 (wide_code.reads v.1 [] h.1 tt) in
    rw (narrow_code.reads v.0 (number v.1) h.0 refl, last) refl

pub record IsValueText (line : List ℕ) (v : ℕ × ℕ) : Type 0 where
  pub text_is : line ≡ value_items v
  pub holds : IsValue v

-- what comes after the first item, where that is a word
behind_word : (line word later : List ℕ) → bytes_eq (first_item line) word ≡ true → behind_item line ≡ later → line ≡ word ++ later
behind_word line word later same h =
    sym (front_behind line) ∙ ap (λ (xs : List ℕ). xs ++ behind_item line) ((bytes_eq-Decides (first_item line) word).0 same) ∙ ap (λ (xs : List ℕ). word ++ xs) h

pub value_gives : (line : List ℕ) (v : ℕ × ℕ) → value_at line ≡ Ok v → IsValueText line v
unfolding value_at
value_gives line v h =
    let read = chosen (bytes_eq (first_item line) (codes "=")) _ Form v h in
    let node = bound (narrow_at (behind_item line)) (λ n. wide_at n.1 >>= λ x. ended ((n.0, x.0), x.1)) v read.1 in
    let value = bound (wide_at node.value.1) (λ x. ended ((node.value.0, x.0), x.1)) v node.second in
    let e = ended_gives (node.value.0, value.value.0) v value.value.1 value.second in
    let one = narrow_code.gives (behind_item line) node.value.0 node.value.1 node.first in
    let two = wide_code.gives node.value.1 value.value.0 value.value.1 value.first in
    let later : behind_item line ≡ number node.value.0 ++ number value.value.0 =
    one.text_is ∙ ap (λ (xs : List ℕ). number node.value.0 ++ xs) (two.text_is ∙ ap (λ (xs : List ℕ). number value.value.0 ++ xs) e.1 ∙ append-nil (number value.value.0)) in
    subst (λ (w : ℕ × ℕ). IsValueText line w) e.0 (record {
      text_is = behind_word line (codes "=") (number node.value.0 ++ number value.value.0) read.0 later;
      holds = (one.holds, two.holds);
    })

-- First lines.
abbrev pub IsOpeningText : List ℕ → Opening → Type 0
IsOpeningText line (Assignment n) = (line ≡ codes "sat" ++ number n) × IsNarrow n
IsOpeningText line (Refutation n) = (line ≡ codes "unsat" ++ number n) × IsNarrow n
IsOpeningText line (Whole (Sat values)) = ⊥
IsOpeningText line (Whole UnsatCases) = line ≡ codes "unsat e"
IsOpeningText line (Whole (UnsatSteps lines)) = ⊥
IsOpeningText line (Whole (Unknown cause)) = (line ≡ codes "unknown" ++ cause_items cause) × IsCause cause

reads_word : (word text : List ℕ) (o : Opening) → IsItem word → IsCut text → Is (opening_form word text) (o, []) → opening_at (word ++ text) ≡ Ok o
unfolding opening_at ended
reads_word word text o item k h = rw (word_front word text item k, word_behind word text item k, h) refl

pub sat_reads : (n : ℕ) → IsNarrow n → opening_at (codes "sat" ++ number n) ≡ Ok (Assignment n)
unfolding opening_form sat_at
sat_reads n h = reads_word (codes "sat") (number n) (Assignment n) (refl, (refl, (refl, tt))) refl
    (whole sat_at (number n) (Assignment n) (rw (narrow_code.reads n [] h tt) refl))

not_e : (n : ℕ) → n < 2 ^ 64 → (same : Bool) → bytes_eq (decimal n) (codes "e") ≡ same → same ≡ false
unfolding is_digits
not_e n h true e =
    let clash : true ≡ false = sym (decimal_is_digits n h) ∙ ap is_digits ((bytes_eq-Decides (decimal n) (codes "e")).0 e) in
    absurd (cc)
not_e n h false e = refl

pub unsat_reads : (n : ℕ) → IsNarrow n → opening_at (codes "unsat" ++ number n) ≡ Ok (Refutation n)
unfolding opening_form unsat_at
unsat_reads n h =
    let small : n < 2 ^ 64 = omega (arith, h) in
    let other : bytes_eq (decimal n) (codes "e") ≡ false = not_e n small (bytes_eq (decimal n) (codes "e")) refl in
    reads_word (codes "unsat") (number n) (Refutation n) (refl, (refl, (refl, (refl, (refl, tt))))) refl
    (whole unsat_at (number n) (Refutation n) (rw (item_reads (decimal n) [] (decimal_item n small) tt, other, number_in_reads (2 ^ 32) (omega arith) n h) refl))

pub cases_reads : opening_at (codes "unsat e") ≡ Ok (Whole UnsatCases)
unfolding opening_at opening_form unsat_at item_at ended
cases_reads = refl

steps_reads : (t r a c : ℕ) → IsWide t → IsWide r → IsWide a → IsWide c
    → Is (steps_at (((number t ++ number r) ++ number a) ++ number c)) (Whole (Unknown (Steps t r a c)), [])
unfolding steps_at
steps_reads t r a c ht hr ha hc =
    let last : wide_at (number c) ≡ Ok (c, []) = whole wide_at (number c) c (wide_code.reads c [] hc tt) in
    rw (
      append_assoc (number t ++ number r) (number a) (number c),
      append_assoc (number t) (number r) (number a ++ number c),
      wide_code.reads t (number r ++ (number a ++ number c)) ht refl,
      wide_code.reads r (number a ++ number c) hr refl,
      wide_code.reads a (number c) ha refl,
      last,
    ) refl

unknown_steps : (t r a c : ℕ) → Is (steps_at (((number t ++ number r) ++ number a) ++ number c)) (Whole (Unknown (Steps t r a c)), [])
    → opening_at (codes "unknown" ++ cause_items (Steps t r a c)) ≡ Ok (Whole (Unknown (Steps t r a c)))
unfolding opening_form unknown_at cause_items
unknown_steps t r a c h =
    reads_word (codes "unknown") (cause_items (Steps t r a c)) (Whole (Unknown (Steps t r a c))) (refl, (refl, (refl, (refl, (refl, (refl, (refl, tt))))))) refl
    (rw (item_reads (codes "steps") (((number t ++ number r) ++ number a) ++ number c) (refl, (refl, (refl, (refl, (refl, tt))))) refl) h)

pub unknown_reads : (cause : Cause) → IsCause cause → opening_at (codes "unknown" ++ cause_items cause) ≡ Ok (Whole (Unknown cause))
unfolding opening_at opening_form unknown_at item_at ended cause_items
unknown_reads Degree h = refl
unknown_reads Terms h = refl
unknown_reads (Steps t r a c) h = unknown_steps t r a c (steps_reads t r a c h.0 h.1.0 h.1.1.0 h.1.1.1)
unknown_reads Memory h = refl

-- what was read, after a word
abbrev AfterWord : List ℕ → List ℕ → Opening → List ℕ → Type 0
AfterWord word bytes o rest = rest ≡ [] → IsOpeningText (word ++ bytes) o

sat_gives : (bytes : List ℕ) (o : Opening) (rest : List ℕ) → sat_at bytes ≡ Ok (o, rest) → AfterWord (codes "sat") bytes o rest
unfolding sat_at
sat_gives bytes o rest h over =
    let n = bound (narrow_at bytes) (λ x. Ok (Assignment x.0, x.1)) (o, rest) h in
    let parts = same_parts (Assignment n.value.0) o n.value.1 rest n.second in
    let one = narrow_code.gives bytes n.value.0 n.value.1 n.first in
    let text : bytes ≡ number n.value.0 = one.text_is ∙ ap (λ (xs : List ℕ). number n.value.0 ++ xs) (parts.1 ∙ over) ∙ append-nil (number n.value.0) in
    subst (λ (x : Opening). IsOpeningText (codes "sat" ++ bytes) x) parts.0 (ap (λ (xs : List ℕ). codes "sat" ++ xs) text, one.holds)

unsat_gives : (bytes : List ℕ) (o : Opening) (rest : List ℕ) → unsat_at bytes ≡ Ok (o, rest) → AfterWord (codes "unsat") bytes o rest
unfolding unsat_at
unsat_gives bytes o rest h over =
    let item = bound (item_at bytes) (λ x. if bytes_eq x.0 (codes "e") then Ok (Whole UnsatCases, x.1) else number_in (2 ^ 32) x.0 >>= λ n. Ok (Refutation n, x.1)) (o, rest) h in
    let here : bytes ≡ 32 ∷ (item.value.0 ++ item.value.1) = item_gives bytes item.value.0 item.value.1 item.first in
    elim (branch (bytes_eq item.value.0 (codes "e")) (Ok (Whole UnsatCases, item.value.1)) (number_in (2 ^ 32) item.value.0 >>= λ n. Ok (Refutation n, item.value.1)) (o, rest) item.second) [
      | inl e ↦
          let parts = same_parts (Whole UnsatCases) o item.value.1 rest e.1 in
          let word : item.value.0 ≡ codes "e" = (bytes_eq-Decides item.value.0 (codes "e")).0 e.0 in
          subst (λ (x : Opening). IsOpeningText (codes "unsat" ++ bytes) x) parts.0
          (ap (λ (xs : List ℕ). codes "unsat" ++ xs) here ∙ ap (λ (xs : List ℕ). codes "unsat" ++ (32 ∷ (xs ++ item.value.1))) word ∙ ap (λ (xs : List ℕ). codes "unsat e" ++ xs) (parts.1 ∙ over))
      | inr other ↦
          let n = bound (number_in (2 ^ 32) item.value.0) (λ x. Ok (Refutation x, item.value.1)) (o, rest) other.1 in
          let parts = same_parts (Refutation n.value) o item.value.1 rest n.second in
          let one = number_in_gives (2 ^ 32) (omega arith) item.value.0 n.value n.first in
          let text : bytes ≡ number n.value = here ∙ ap (λ (xs : List ℕ). 32 ∷ (xs ++ item.value.1)) (one.text_is ∙ append-nil (decimal n.value))
          ∙ ap (λ (xs : List ℕ). number n.value ++ xs) (parts.1 ∙ over) ∙ append-nil (number n.value) in
          subst (λ (x : Opening). IsOpeningText (codes "unsat" ++ bytes) x) parts.0 (ap (λ (xs : List ℕ). codes "unsat" ++ xs) text, one.holds)
    ]

steps_gives : (bytes : List ℕ) (o : Opening) (rest : List ℕ) → steps_at bytes ≡ Ok (o, rest) → rest ≡ [] → IsOpeningText (codes "unknown steps" ++ bytes) o
unfolding steps_at cause_items
steps_gives bytes o rest h over =
    let t = bound _ _ _ h in
    let r = bound _ _ _ t.second in
    let a = bound _ _ _ r.second in
    let c = bound (wide_at a.value.1) (λ x. Ok (Whole (Unknown (Steps t.value.0 r.value.0 a.value.0 x.0)), x.1)) (o, rest) a.second in
    let parts = same_parts (Whole (Unknown (Steps t.value.0 r.value.0 a.value.0 c.value.0))) o c.value.1 rest c.second in
    let one = wide_code.gives bytes t.value.0 t.value.1 t.first in
    let two = wide_code.gives t.value.1 r.value.0 r.value.1 r.first in
    let three = wide_code.gives r.value.1 a.value.0 a.value.1 a.first in
    let four = wide_code.gives a.value.1 c.value.0 c.value.1 c.first in
    let last : a.value.1 ≡ number c.value.0 = four.text_is ∙ ap (λ (xs : List ℕ). number c.value.0 ++ xs) (parts.1 ∙ over) ∙ append-nil (number c.value.0) in
    let text : bytes ≡ ((number t.value.0 ++ number r.value.0) ++ number a.value.0) ++ number c.value.0 =
    one.text_is ∙ ap (λ (xs : List ℕ). number t.value.0 ++ xs) (two.text_is ∙ ap (λ (xs : List ℕ). number r.value.0 ++ xs) (three.text_is ∙ ap (λ (xs : List ℕ). number a.value.0 ++ xs) last))
    ∙ sym (append_assoc (number t.value.0) (number r.value.0) (number a.value.0 ++ number c.value.0))
    ∙ sym (append_assoc (number t.value.0 ++ number r.value.0) (number a.value.0) (number c.value.0)) in
    subst (λ (x : Opening). IsOpeningText (codes "unknown steps" ++ bytes) x) parts.0
    (ap (λ (xs : List ℕ). codes "unknown steps" ++ xs) text, (one.holds, (two.holds, (three.holds, four.holds))))

-- a cause that is one word
module _ (cause : Cause) (word item left : List ℕ) (o : Opening) (rest : List ℕ) (spelled : cause_items cause ≡ 32 ∷ word) (holds : IsCause cause) where
  cause_gives : bytes_eq item word ≡ true → Is {A = Opening × List ℕ} (Ok (Whole (Unknown cause), left)) (o, rest) → rest ≡ [] → IsOpeningText (codes "unknown" ++ (32 ∷ (item ++ left))) o
  cause_gives same h over =
      let parts = same_parts (Whole (Unknown cause)) o left rest h in
      let is : item ≡ word = (bytes_eq-Decides item word).0 same in
      subst (λ (x : Opening). IsOpeningText (codes "unknown" ++ (32 ∷ (item ++ left))) x) parts.0 (
        ap (λ (xs : List ℕ). codes "unknown" ++ (32 ∷ (xs ++ left))) is ∙ ap (λ (xs : List ℕ). codes "unknown" ++ (32 ∷ (word ++ xs))) (parts.1 ∙ over)
            ∙ ap (λ (xs : List ℕ). codes "unknown" ++ (32 ∷ xs)) (append-nil word) ∙ ap (λ (xs : List ℕ). codes "unknown" ++ xs) (sym spelled),
        holds,
      )

unknown_item : (item left : List ℕ) (o : Opening) (rest : List ℕ)
    → Is (if bytes_eq item (codes "degree") then Ok (Whole (Unknown Degree), left) else
    if bytes_eq item (codes "terms") then Ok (Whole (Unknown Terms), left) else
    if bytes_eq item (codes "memory") then Ok (Whole (Unknown Memory), left) else
    if bytes_eq item (codes "steps") then steps_at left else Err Form) (o, rest)
    → rest ≡ [] → IsOpeningText (codes "unknown" ++ (32 ∷ (item ++ left))) o
unfolding cause_items
unknown_item item left o rest h over =
    elim (branch (bytes_eq item (codes "degree")) (Ok (Whole (Unknown Degree), left)) _ (o, rest) h) [
      | inl e ↦ cause_gives Degree (codes "degree") item left o rest refl tt e.0 e.1 over
      | inr other ↦ elim (branch (bytes_eq item (codes "terms")) (Ok (Whole (Unknown Terms), left)) _ (o, rest) other.1) [
        | inl e ↦ cause_gives Terms (codes "terms") item left o rest refl tt e.0 e.1 over
        | inr other ↦ elim (branch (bytes_eq item (codes "memory")) (Ok (Whole (Unknown Memory), left)) _ (o, rest) other.1) [
          | inl e ↦ cause_gives Memory (codes "memory") item left o rest refl tt e.0 e.1 over
          | inr other ↦
              let one = chosen (bytes_eq item (codes "steps")) (steps_at left) Form (o, rest) other.1 in
              let is : item ≡ codes "steps" = (bytes_eq-Decides item (codes "steps")).0 one.0 in
              subst (λ (w : List ℕ). IsOpeningText (codes "unknown" ++ (32 ∷ (w ++ left))) o) (sym is) (steps_gives left o rest one.1 over)
        ]
      ]
    ]

unknown_gives : (bytes : List ℕ) (o : Opening) (rest : List ℕ) → unknown_at bytes ≡ Ok (o, rest) → AfterWord (codes "unknown") bytes o rest
unfolding unknown_at
unknown_gives bytes o rest h over =
    let item = bound _ _ _ h in
    let here : bytes ≡ 32 ∷ (item.value.0 ++ item.value.1) = item_gives bytes item.value.0 item.value.1 item.first in
    subst (λ (bs : List ℕ). IsOpeningText (codes "unknown" ++ bs) o) (sym here) (unknown_item item.value.0 item.value.1 o rest item.second over)

with_word : (word name bytes : List ℕ) (o : Opening) → bytes_eq word name ≡ true → IsOpeningText (name ++ bytes) o → IsOpeningText (word ++ bytes) o
with_word word name bytes o same h = subst (λ (w : List ℕ). IsOpeningText (w ++ bytes) o) (sym ((bytes_eq-Decides word name).0 same)) h

form_gives : (word bytes : List ℕ) (o : Opening) (rest : List ℕ) → opening_form word bytes ≡ Ok (o, rest) → rest ≡ [] → IsOpeningText (word ++ bytes) o
unfolding opening_form
form_gives word bytes o rest h over =
    elim (branch (bytes_eq word (codes "sat")) (sat_at bytes) _ (o, rest) h) [
      | inl e ↦ with_word word (codes "sat") bytes o e.0 (sat_gives bytes o rest e.1 over)
      | inr other ↦ elim (branch (bytes_eq word (codes "unsat")) (unsat_at bytes) _ (o, rest) other.1) [
        | inl e ↦ with_word word (codes "unsat") bytes o e.0 (unsat_gives bytes o rest e.1 over)
        | inr other ↦
            let e = chosen (bytes_eq word (codes "unknown")) (unknown_at bytes) Form (o, rest) other.1 in
            with_word word (codes "unknown") bytes o e.0 (unknown_gives bytes o rest e.1 over)
      ]
    ]

pub opening_gives : (line : List ℕ) (o : Opening) → opening_at line ≡ Ok o → IsOpeningText line o
unfolding opening_at
opening_gives line o h =
    let read = bound (opening_form (first_item line) (behind_item line)) ended o h in
    let e = ended_gives read.value.0 o read.value.1 read.second in
    let got = form_gives (first_item line) (behind_item line) read.value.0 read.value.1 read.first e.1 in
    subst (λ (x : Opening). IsOpeningText line x) e.0 (subst (λ (bs : List ℕ). IsOpeningText bs read.value.0) (front_behind line) got)
