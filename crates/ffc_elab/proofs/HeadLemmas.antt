-- Which command a form is, by its second word.
use Rattle.std.proofs.Common.{◌≡◌, inl, inr, Bool, true, false, List, [], ◌∷◌, ◌++◌, All, drop, if◌then◌else◌, Option, Some, None, Result, Ok, Err, refl, sym, ap, ◌∙◌, subst}
use Rattle.std.proofs.lemmas.List.Elements.{All-cons, All-nil}
use Rattle.ffc_lex.specs.declared.tokens.TokenKind.{TokenKind}
use Rattle.ffc_lex.specs.declared.tokens.TokenKind.TheVariants as kinds
use Rattle.ffc_smt.specs.Trees.{Word, Tree, Leaf, Group, Trees, Empty, First, items_of, tokens_of, tokens_of_items}
use Rattle.ffc_smt.specs.TreeShapes.{is_parenthesis}
use Rattle.ffc_smt.specs.FaultLaws.{IsWordBefore}
use Rattle.ffc_smt.specs.Faults.{Fault, word_fault, Read, faults, faulty, unless}
use Rattle.ffc_smt.specs.Meaning.{found}
use Rattle.ffc_smt.specs.Terms.{Command}
use Rattle.ffc_smt.specs.Scopes.{State}
use Rattle.ffc_smt.specs.CommandReading.{limits, When, Always, BehindLogic, BeforeLogic, Reader, readers, moment_faults, read_by, by_head, form_read}
use Rattle.ffc_smt.proofs.CommandWalk.{reads_form}
use Rattle.ffc_smt.proofs.WalkLemmas.{EachToken, MayFail}
use Rattle.ffc_parts.specs.declared.heads.Head.{Head}
use Rattle.ffc_parts.specs.Heads.{head_name, MayComeAs, may_come_at}
use Rattle.ffc_lex.specs.declared.faults.ScriptFault.{ScriptFault}
use Rattle.ffc_words.specs.Words.{AreItemsAt, word_at}
use Rattle.ffc_words.specs.Outcomes.{outcome}
use Rattle.ffc_elab.specs.Reading.{AreInOrder, IsFormOf, IsHeadOf, TimelyAs, read_by_head}
use Rattle.ffc_elab.proofs.OutcomeLemmas.{word_is, word_at_items, next_items, outcome_unless_before, IsAt, IsAfterWord, all_at, each_of_words, each_may, all_right}

-- The second word

inner_items : (words : List Word) (opening closing : Word) (items : Trees) → IsFormOf words (Group opening items closing) → AreItemsAt words 1 items closing []
unfolding tokens_of
inner_items words opening closing items h = record {
  text = ap (drop 1) (sym h.spelled);
  proper = h.proper.1;
  closed = h.proper.2;
}

no_leaf : (words : List Word) (w : Word) → IsFormOf words (Leaf w) → ⊥
unfolding tokens_of
no_leaf words w h =
    let first : word_at words 0 ≡ w = word_is words 0 w [] (sym h.spelled) in
    let e : is_parenthesis kinds.LeftParen ≡ false = ap is_parenthesis (sym h.opened ∙ ap (λ v. v.kind) first) ∙ h.proper in cc

module _ (s : State) (words : List Word) where
  pub other_head : (tree : Tree) → IsFormOf words tree → ((word_at words 1).kind ≡ kinds.Symbol → ⊥) → ((word_at words 1).kind ≡ kinds.Quoted → ⊥)
      → outcome (form_read limits s tree) ≡ Err (word_fault 5 (word_at words 1))
  unfolding form_read
  other_head (Leaf w) h n m = absurd (no_leaf words w h)
  other_head (Group opening Empty closing) h n m = ap (λ w. Err (word_fault 5 w)) (sym (word_at_items words 1 Empty closing [] (inner_items words opening closing Empty h)))
  other_head (Group opening (First (Group o items c) ts) closing) h n m =
      ap (λ w. Err (word_fault 5 w)) (sym (word_at_items words 1 (First (Group o items c) ts) closing [] (inner_items words opening closing (First (Group o items c) ts) h)))
  other_head (Group opening (First (Leaf w) ts) closing) h n m =
      let is = word_at_items words 1 (First (Leaf w) ts) closing [] (inner_items words opening closing (First (Leaf w) ts) h) in
      by_kind w closing ts w.kind (λ e. n (ap (λ v. v.kind) is ∙ e)) (λ e. m (ap (λ v. v.kind) is ∙ e)) ∙ ap (λ v. Err (word_fault 5 v)) (sym is)
    where
      by_kind : (w closing : Word) (ts : Trees) (k : TokenKind) → (k ≡ kinds.Symbol → ⊥) → (k ≡ kinds.Quoted → ⊥) → outcome (by_head limits s k w closing (items_of ts)) ≡ Err (word_fault 5 w)
      by_kind w closing ts kinds.Symbol n m = absurd (n refl)
      by_kind w closing ts kinds.Quoted n m = absurd (m refl)
      by_kind w closing ts kinds.LeftParen n m = refl
      by_kind w closing ts kinds.RightParen n m = refl
      by_kind w closing ts kinds.Numeral n m = refl
      by_kind w closing ts kinds.Decimal n m = refl
      by_kind w closing ts kinds.Keyword n m = refl
      by_kind w closing ts kinds.Str n m = refl
      by_kind w closing ts kinds.FieldLiteral n m = refl

  pub quoted_head : (tree : Tree) → IsFormOf words tree → (word_at words 1).kind ≡ kinds.Quoted → outcome (form_read limits s tree) ≡ Err (word_fault 4 (word_at words 1))
  unfolding form_read
  quoted_head (Leaf w) h e = absurd (no_leaf words w h)
  quoted_head (Group opening Empty closing) h e =
      let at = inner_items words opening closing Empty h in
      let q : kinds.RightParen ≡ kinds.Quoted = sym at.closed ∙ ap (λ w. w.kind) (sym (word_at_items words 1 Empty closing [] at)) ∙ e in cc
  quoted_head (Group opening (First (Group o items c) ts) closing) h e =
      let at = inner_items words opening closing (First (Group o items c) ts) h in
      let q : kinds.LeftParen ≡ kinds.Quoted = sym at.proper.0.0 ∙ ap (λ w. w.kind) (sym (word_at_items words 1 (First (Group o items c) ts) closing [] at)) ∙ e in cc
  quoted_head (Group opening (First (Leaf w) ts) closing) h e =
      let is = word_at_items words 1 (First (Leaf w) ts) closing [] (inner_items words opening closing (First (Leaf w) ts) h) in
      ap (λ k. outcome (by_head limits s k w closing (items_of ts))) (ap (λ v. v.kind) (sym is) ∙ e) ∙ ap (λ v. Err (word_fault 4 v)) (sym is)

form_order : (words : List Word) → AreInOrder words → AreInOrder (drop 2 words)
form_order [] h = h
form_order (w ∷ []) h = tt
form_order (w ∷ v ∷ ws) h = h.1.1

order_one : (words : List Word) → AreInOrder words → AreInOrder (drop 1 words)
order_one [] h = h
order_one (w ∷ ws) h = h.1

later_order : (words : List Word) (opening closing w : Word) (ts : Trees) → IsFormOf words (Group opening (First (Leaf w) ts) closing) → All (IsWordBefore w) (tokens_of_items ts ++ closing ∷ [])
unfolding tokens_of
later_order words opening closing w ts form = (subst AreInOrder (inner_items words opening closing (First (Leaf w) ts) form).text (order_one words form.places)).0

-- Faults of the items are after the head

faults_unless : {A : Type 0} (fs : List Fault) (r : Read A) → faults (unless fs r) ≡ fs ++ faults r
faults_unless [] r = refl
faults_unless (f ∷ fs) r = refl

items_fail_later : (s : State) (head closing : Word) (rest : Trees) (r : Reader) → found (readers limits s) head.bytes ≡ Some r → All (IsWordBefore head) (tokens_of_items rest ++ closing ∷ [])
    → All (IsAfterWord head) (faults (r.read closing (items_of rest)))
unfolding form_read
items_fail_later s head closing rest r e h =
    let P = IsAfterWord head in
    let moved : Word = record { kind = kinds.Symbol; bytes = head.bytes; line = closing.line; column = closing.column } in
    let each = each_of_words (IsWordBefore head) rest closing [] h in
    let last : MayFail P closing = λ code. each.1 in
    let m : EachToken (MayFail P) (Group closing (First (Leaf moved) rest) closing) = (last, (λ code. each.1, each_may head rest each.0), last) in
    let all = (reads_form P limits s (Group closing (First (Leaf moved) rest) closing) m).0 in
    let by = subst (λ o. All P (faults (read_by s moved closing (items_of rest) o))) e all in
    all_right P (moment_faults s r.moment moved) (faults (r.read closing (items_of rest))) (subst (All P) (faults_unless (moment_faults s r.moment moved) (r.read closing (items_of rest))) by)

-- When a command may come

moment_fine : (s : State) (m : When) (w : Word) (b : Bool) → s.logic ≡ b → true ≡ may_come_at m b → moment_faults s m w ≡ []
moment_fine s Always w b e h = refl
moment_fine s BehindLogic w true e h = ap (λ x. if x then [] else word_fault 7 w ∷ []) e
moment_fine s BehindLogic w false e h = cc
moment_fine s BeforeLogic w true e h = cc
moment_fine s BeforeLogic w false e h = ap (λ x. if x then word_fault 7 w ∷ [] else []) e

moment_wrong : (s : State) (m : When) (w : Word) (b : Bool) → s.logic ≡ b → false ≡ may_come_at m b → moment_faults s m w ≡ word_fault 7 w ∷ []
moment_wrong s Always w b e h = cc
moment_wrong s BehindLogic w true e h = cc
moment_wrong s BehindLogic w false e h = ap (λ x. if x then [] else word_fault 7 w ∷ []) e
moment_wrong s BeforeLogic w true e h = ap (λ x. if x then word_fault 7 w ∷ [] else []) e
moment_wrong s BeforeLogic w false e h = cc

module _ (s : State) (logic : Bool) (is : s.logic ≡ logic) (w closing : Word) (ts : Trees) where
  abbrev Reads : Read Command
  Reads = read_by s w closing (items_of ts) (found (readers limits s) w.bytes)

  come : (h : Head) (o : Option Reader) → found (readers limits s) (head_name h) ≡ o → w.bytes ≡ head_name h → MayComeAs o logic true → Reads ≡ read_by_head limits s h closing (items_of ts)
  come h None e n may = absurd may
  come h (Some r) e n may =
      ap (λ b. read_by s w closing (items_of ts) (found (readers limits s) b)) n
      ∙ ap (read_by s w closing (items_of ts)) e
      ∙ ap (λ fs. unless fs (r.read closing (items_of ts))) (moment_fine s r.moment w logic is may)
      ∙ sym (ap (λ o. elim o as (λ x. Read Command) [ None ↦ faulty 5 closing | Some q ↦ q.read closing (items_of ts) ]) e)

  come_early : (h : Head) (o : Option Reader) → found (readers limits s) (head_name h) ≡ o → w.bytes ≡ head_name h → MayComeAs o logic false → All (IsWordBefore w) (tokens_of_items ts ++ closing ∷ [])
      → outcome Reads ≡ Err (word_fault 7 w)
  come_early h None e n may order = absurd may
  come_early h (Some r) e n may order =
      let q = r.read closing (items_of ts) in
      let f = word_fault 7 w in
      let found_is : found (readers limits s) w.bytes ≡ Some r = ap (found (readers limits s)) n ∙ e in
      ap (λ o. outcome (read_by s w closing (items_of ts) o)) found_is
      ∙ ap (λ fs. outcome (unless fs q)) (moment_wrong s r.moment w logic is may)
      ∙ outcome_unless_before f [] q (all_at w (faults q) (f ∷ []) (All-cons (IsAt w) f [] (refl, refl) (All-nil (IsAt w))) (items_fail_later s w closing ts r found_is order))

  head_as : (words : List Word) (opening : Word) (r : Result Head ScriptFault) → word_at words 1 ≡ w → w.kind ≡ kinds.Symbol → IsFormOf words (Group opening (First (Leaf w) ts) closing)
      → TimelyAs w logic r → IsHeadOf words s (Group opening (First (Leaf w) ts) closing) r
  unfolding form_read
  head_as words opening (Ok h) at sym_kind form t =
      let items = inner_items words opening closing (First (Leaf w) ts) form in
      record {
        opening = opening;
        name = w;
        items = ts;
        closing = closing;
        shape = refl;
        at = next_items words 1 (First (Leaf w) ts) closing [] items (ap (λ v. is_parenthesis v.kind) at ∙ form.proper.1.0);
        order = form_order words form.places;
        read = ap (λ k. outcome (by_head limits s k w closing (items_of ts))) sym_kind ∙ ap outcome (come h (found (readers limits s) (head_name h)) refl t.0 (t.1 s));
      }
  head_as words opening (Err f) at sym_kind form (inl (e, none)) =
      ap (λ k. outcome (by_head limits s k w closing (items_of ts))) sym_kind
      ∙ ap (λ o. outcome (read_by s w closing (items_of ts) o)) (none s) ∙ ap Err (sym e)
  head_as words opening (Err f) at sym_kind form (inr (h, e, n, may)) =
      ap (λ k. outcome (by_head limits s k w closing (items_of ts))) sym_kind
      ∙ come_early h (found (readers limits s) (head_name h)) refl n (may s) (later_order words opening closing w ts form) ∙ ap Err (sym e)

pub symbol_head : (s : State) (logic : Bool) → s.logic ≡ logic → (words : List Word) (tree : Tree) (r : Result Head ScriptFault) → IsFormOf words tree → (word_at words 1).kind ≡ kinds.Symbol → TimelyAs (word_at words 1) logic r
    → IsHeadOf words s tree r
symbol_head s logic is words (Leaf w) r h e t = absurd (no_leaf words w h)
symbol_head s logic is words (Group opening Empty closing) r h e t =
    let at = inner_items words opening closing Empty h in
    let q : kinds.RightParen ≡ kinds.Symbol = sym at.closed ∙ ap (λ w. w.kind) (sym (word_at_items words 1 Empty closing [] at)) ∙ e in cc
symbol_head s logic is words (Group opening (First (Group o items c) ts) closing) r h e t =
    let at = inner_items words opening closing (First (Group o items c) ts) h in
    let q : kinds.LeftParen ≡ kinds.Symbol = sym at.proper.0.0 ∙ ap (λ w. w.kind) (sym (word_at_items words 1 (First (Group o items c) ts) closing [] at)) ∙ e in cc
symbol_head s logic is words (Group opening (First (Leaf w) ts) closing) r h e t =
    let at = word_at_items words 1 (First (Leaf w) ts) closing [] (inner_items words opening closing (First (Leaf w) ts) h) in
    head_as s logic is w closing ts words opening r at (ap (λ v. v.kind) (sym at) ∙ e) h (subst (λ v. TimelyAs v logic r) at t)
