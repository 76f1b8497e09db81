-- Lines by their first items.
use Rattle.std.proofs.Common.{◌≡◌, ℕ, List, [], ◌∷◌, ◌++◌, Result, Ok, Err, inl, inr, refl, sym, ap, ◌∙◌, subst, append_assoc, append-nil}
use Rattle.ffc_cert.specs.declared.flaws.Flaw.{Flaw}
use Rattle.ffc_cert.specs.declared.flaws.Flaw.TheVariants.{Form, Missing}
use Rattle.ffc_cert.specs.Items.{◌>>=◌, item_at}
use Rattle.ffc_cert.specs.LineItems.{Item, Word, spaced, AreRight}
use Rattle.ffc_cert.specs.Cuts.{IsCut}
use Rattle.ffc_cert.proofs.NumberCodes.{IsItem, item_reads}
use Rattle.ffc_cert.proofs.Gradual.{spaced_cut, IsSure, IsWhy, Fails, Gives, IsGradual}
use Rattle.ffc_cert.proofs.GradualItems.{IsNextItem, missing_item}

-- a word, and then by the word
abbrev pub word_at : {A : Type 0} → (List ℕ → List ℕ → Result (A × List ℕ) Flaw) → List ℕ → Result (A × List ℕ) Flaw
word_at form bytes = item_at bytes >>= λ item. form item.0 item.1

pub at_word : {A : Type 0} (form : List ℕ → List ℕ → Result (A × List ℕ) Flaw) (word rest : List ℕ) → IsItem word → IsCut rest → word_at form (32 ∷ (word ++ rest)) ≡ form word rest
at_word form word rest h k = rw (item_reads word rest h k) refl

-- what is read of a line of these items
pub record ReadsItems {A : Type 0} (at : List ℕ → Result (A × List ℕ) Flaw) (items : List Item) (x : A) : Type 0 where
  pub reads : (rest : List ℕ) → AreRight items → IsCut rest → at (spaced items ++ rest) ≡ Ok (x, rest)
  pub sure : (front : List Item) (due : Item) (others : List Item) (tail : List ℕ) (flaw : Flaw) → items ≡ front ++ due ∷ others → AreRight front → IsSure due tail flaw → at (spaced front ++ tail) ≡ Err flaw

no_word : {A : Type 0} (form : List ℕ → List ℕ → Result (A × List ℕ) Flaw) (word tail : List ℕ) (flaw : Flaw) → IsSure (Word word) tail flaw → word_at form tail ≡ Err flaw
no_word form word tail flaw (inl h) = rw (h.0, missing_item) (ap Err (sym h.1))
no_word form word tail flaw (inr h) = absurd h.bad

cut_of : (due : Item) (tail : List ℕ) (flaw : Flaw) → IsSure due tail flaw → IsCut tail
cut_of due tail flaw (inl h) = subst IsCut (sym h.0) tt
cut_of due tail flaw (inr h) = subst IsCut (sym h.tail_is) refl

module _ {S A : Type 0} {at : List ℕ → Result (A × List ℕ) Flaw} {items : S → List Item} {value : S → A} {P : S → Type 0} (c : IsGradual at items value P)
    (form : List ℕ → List ℕ → Result (A × List ℕ) Flaw) (word : List ℕ) (whole : IsItem word) (is : (bytes : List ℕ) → form word bytes ≡ at bytes) where
  regroup : (xs : List Item) (tail : List ℕ) → spaced (Word word ∷ xs) ++ tail ≡ 32 ∷ (word ++ (spaced xs ++ tail))
  regroup xs tail = ap (λ (bs : List ℕ). 32 ∷ bs) (append_assoc word (spaced xs) tail)

  word_sure : (s : S) → P s → (front : List Item) (due : Item) (others : List Item) (tail : List ℕ) (flaw : Flaw) → Word word ∷ items s ≡ front ++ due ∷ others → AreRight front → IsSure due tail flaw
      → word_at form (spaced front ++ tail) ≡ Err flaw
  word_sure s p [] due others tail flaw e r k = no_word form word tail flaw (subst (λ (x : Item). IsSure x tail flaw) (sym (cc)) k)
  word_sure s p (x ∷ front) due others tail flaw e r k =
      let first : Word word ≡ x = cc in
      let later : items s ≡ front ++ due ∷ others = cc in
      ap (λ (y : Item). word_at form (spaced (y ∷ front) ++ tail)) (sym first)
      ∙ ap (word_at form) (regroup front tail)
      ∙ at_word form word (spaced front ++ tail) whole (spaced_cut front tail (cut_of due tail flaw k))
      ∙ is (spaced front ++ tail) ∙ c.sure s front due others tail flaw p later r.1 k

  pub word_reads : (s : S) → P s → ReadsItems (word_at form) (Word word ∷ items s) (value s)
  word_reads s p = record {
    reads = λ rest r k. ap (word_at form) (regroup (items s) rest) ∙ at_word form word (spaced (items s) ++ rest) whole (spaced_cut (items s) rest k) ∙ is (spaced (items s) ++ rest) ∙ c.reads s rest p r.1 k;
    sure = word_sure s p;
  }

  -- the same of a line that has failed, or was read
  module _ {T : Type 0} (lines : T → List Item) (Q : T → Type 0) (value' : T → A) (make : S → T) (spelled : (s : S) → lines (make s) ≡ Word word ∷ items s) (holds : (s : S) → P s → Q (make s))
      (same : (s : S) → value s ≡ value' (make s)) where
    pub word_fails : (bytes rest : List ℕ) (flaw : Flaw) → bytes ≡ 32 ∷ (word ++ rest) → IsCut rest → form word rest ≡ Err flaw → Fails (word_at form) lines Q bytes flaw
    word_fails bytes rest flaw e k h =
        let f = c.fails rest flaw k (sym (is rest) ∙ h) in
        record {
          shape = make f.shape;
          holds = holds f.shape f.holds;
          front = Word word ∷ f.front;
          due = f.due;
          others = f.others;
          items_are = spelled f.shape ∙ ap (λ (xs : List Item). Word word ∷ xs) f.items_are;
          right = (tt, f.right);
          tail = f.tail;
          bytes_are = e ∙ ap (λ (bs : List ℕ). 32 ∷ (word ++ bs)) f.bytes_are ∙ sym (regroup f.front f.tail);
          why = why f.front f.due f.tail flaw f.why;
        }
      where
        why : (front : List Item) (due : Item) (tail : List ℕ) (flaw : Flaw) → IsWhy (λ (bs : List ℕ). at (spaced front ++ bs) ≡ Err flaw) due tail flaw
            → IsWhy (λ (bs : List ℕ). word_at form (spaced (Word word ∷ front) ++ bs) ≡ Err flaw) due tail flaw
        why front due tail flaw (inl h) = inl h
        why front due tail flaw (inr h) = inr (record {
          item = h.item;
          after = h.after;
          tail_is = h.tail_is;
          whole = h.whole;
          cut = h.cut;
          other = h.other;
          number = h.number;
          stays = ap (word_at form) (regroup front (32 ∷ h.item)) ∙ at_word form word (spaced front ++ (32 ∷ h.item)) whole (spaced_cut front (32 ∷ h.item) refl) ∙ is (spaced front ++ (32 ∷ h.item)) ∙ h.stays;
        })

    pub word_gives : (bytes rest : List ℕ) (x : A) (left : List ℕ) → bytes ≡ 32 ∷ (word ++ rest) → IsCut rest → form word rest ≡ Ok (x, left) → Gives lines value' Q bytes x left
    word_gives bytes rest x left e k h =
        let g = c.gives rest x left k (sym (is rest) ∙ h) in
        record {
          shape = make g.shape;
          holds = holds g.shape g.holds;
          value_is = sym (same g.shape) ∙ g.value_is;
          right = subst AreRight (sym (spelled g.shape)) (tt, g.right);
          bytes_are = e ∙ ap (λ (bs : List ℕ). 32 ∷ (word ++ bs)) g.bytes_are ∙ sym (regroup (items g.shape) left) ∙ ap (λ (xs : List Item). spaced xs ++ left) (sym (spelled g.shape));
          cut = g.cut;
        }

-- no word that may come there
pub record IsNoWord {A T : Type 0} (form : List ℕ → List ℕ → Result (A × List ℕ) Flaw) (lines : T → List Item) (Q : T → Type 0) : Type 0 where
  pub line : T
  pub holds : Q line
  pub word : List ℕ
  pub others : List Item
  pub items_are : lines line ≡ Word word ∷ others

module _ {A T : Type 0} (form : List ℕ → List ℕ → Result (A × List ℕ) Flaw) (lines : T → List Item) (Q : T → Type 0) (n : IsNoWord form lines Q) where
  pub other_word : (bytes item after : List ℕ) → IsNextItem bytes item after → form item [] ≡ Err Form → Fails (word_at form) lines Q bytes Form
  other_word bytes item after i h = record {
    shape = n.line;
    holds = n.holds;
    front = [];
    due = Word n.word;
    others = n.others;
    items_are = n.items_are;
    right = tt;
    tail = bytes;
    bytes_are = refl;
    why = inr (record {
      item = item;
      after = after;
      tail_is = i.bytes_are;
      whole = i.whole;
      cut = i.cut;
      other = λ e. cc;
      number = λ e. absurd (cc);
      stays = ap (λ (bs : List ℕ). word_at form (32 ∷ bs)) (sym (append-nil item)) ∙ at_word form item [] i.whole tt ∙ h;
    });
  }

  pub missing_word : (bytes : List ℕ) (flaw : Flaw) → (bytes ≡ []) × (flaw ≡ Missing) → Fails (word_at form) lines Q bytes flaw
  missing_word bytes flaw h = record {
    shape = n.line;
    holds = n.holds;
    front = [];
    due = Word n.word;
    others = n.others;
    items_are = n.items_are;
    right = tt;
    tail = bytes;
    bytes_are = refl;
    why = inl h;
  }
