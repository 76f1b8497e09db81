-- A reader of items, item by item: right items are read; where it fails, the items before are right, and it fails at the
-- next one as it does wherever the bytes go on from there.
use Rattle.std.proofs.Common.{◌≡◌, ℕ, List, [], ◌∷◌, ◌++◌, Result, Ok, Err, ◌⊎◌, inl, inr, refl, sym, ap, ◌∙◌, subst, append_assoc}
use Rattle.ffc_cert.specs.declared.flaws.Flaw.{Flaw}
use Rattle.ffc_cert.specs.declared.flaws.Flaw.TheVariants.{Number, Missing}
use Rattle.ffc_cert.specs.Items.{◌>>=◌}
use Rattle.ffc_cert.specs.LineItems.{Item, item_text, IsBadNumber, spaced, AreRight}
use Rattle.ffc_cert.specs.Cuts.{IsCut}
use Rattle.ffc_cert.proofs.Codes.{bound, same_parts}
use Rattle.ffc_cert.proofs.NumberCodes.{IsItem}

abbrev pub Stops : {A : Type 0} → Result A Flaw → Flaw → Type 0
Stops read flaw = read ≡ Err flaw

pub right_front : (xs ys : List Item) → AreRight (xs ++ ys) → AreRight xs
right_front [] ys h = tt
right_front (x ∷ xs) ys h = (h.0, right_front xs ys h.1)

pub right_rest : (xs ys : List Item) → AreRight (xs ++ ys) → AreRight ys
right_rest [] ys h = h
right_rest (x ∷ xs) ys h = right_rest xs ys h.1

pub right_both : (xs ys : List Item) → AreRight xs → AreRight ys → AreRight (xs ++ ys)
right_both [] ys h k = k
right_both (x ∷ xs) ys h k = (h.0, right_both xs ys h.1 k)

pub spaced_append : (xs ys : List Item) → spaced (xs ++ ys) ≡ spaced xs ++ spaced ys
spaced_append [] ys = refl
spaced_append (x ∷ xs) ys = ap (λ (bs : List ℕ). 32 ∷ (item_text x ++ bs)) (spaced_append xs ys) ∙ ap (λ (bs : List ℕ). 32 ∷ bs) (sym (append_assoc (item_text x) (spaced xs) (spaced ys)))

pub spaced_more : (xs ys : List Item) (tail : List ℕ) → spaced (xs ++ ys) ++ tail ≡ spaced xs ++ (spaced ys ++ tail)
spaced_more xs ys tail = ap (λ (bs : List ℕ). bs ++ tail) (spaced_append xs ys) ∙ append_assoc (spaced xs) (spaced ys) tail

pub spaced_cut : (xs : List Item) (tail : List ℕ) → IsCut tail → IsCut (spaced xs ++ tail)
spaced_cut [] tail k = k
spaced_cut (x ∷ xs) tail k = refl

-- Bytes at which it is sure that a reader fails where this item is due.
pub record IsBadTail (due : Item) (tail : List ℕ) (flaw : Flaw) : Type 0 where
  pub item : List ℕ
  pub after : List ℕ
  pub tail_is : tail ≡ 32 ∷ (item ++ after)
  pub whole : IsItem item
  pub cut : IsCut after
  pub bad : IsBadNumber due item
  pub flaw_is : flaw ≡ Number

abbrev pub IsSure : Item → List ℕ → Flaw → Type 0
IsSure due tail flaw = ((tail ≡ []) × (flaw ≡ Missing)) ⊎ IsBadTail due tail flaw

sure_cut : (due : Item) (tail : List ℕ) (flaw : Flaw) → IsSure due tail flaw → IsCut tail
sure_cut due tail flaw (inl h) = subst IsCut (sym h.0) tt
sure_cut due tail flaw (inr h) = subst IsCut (sym h.tail_is) refl

-- The item at which a reader has failed.
pub record IsWrongItem (at : List ℕ → Type 0) (due : Item) (tail : List ℕ) (flaw : Flaw) : Type 0 where
  pub item : List ℕ
  pub after : List ℕ
  pub tail_is : tail ≡ 32 ∷ (item ++ after)
  pub whole : IsItem item
  pub cut : IsCut after
  pub other : flaw ≡ Missing → ⊥
  pub number : flaw ≡ Number → IsBadNumber due item
  pub stays : at (32 ∷ item)

abbrev pub IsWhy : (List ℕ → Type 0) → Item → List ℕ → Flaw → Type 0
IsWhy at due tail flaw = ((tail ≡ []) × (flaw ≡ Missing)) ⊎ IsWrongItem at due tail flaw

pub record Fails {S A : Type 0} (at : List ℕ → Result (A × List ℕ) Flaw) (items : S → List Item) (P : S → Type 0) (bytes : List ℕ) (flaw : Flaw) : Type 0 where
  pub shape : S
  pub holds : P shape
  pub front : List Item
  pub due : Item
  pub others : List Item
  pub items_are : items shape ≡ front ++ due ∷ others
  pub right : AreRight front
  pub tail : List ℕ
  pub bytes_are : bytes ≡ spaced front ++ tail
  pub why : IsWhy (λ (bs : List ℕ). at (spaced front ++ bs) ≡ Err flaw) due tail flaw

pub record Gives {S A : Type 0} (items : S → List Item) (value : S → A) (P : S → Type 0) (bytes : List ℕ) (x : A) (rest : List ℕ) : Type 0 where
  pub shape : S
  pub holds : P shape
  pub value_is : value shape ≡ x
  pub right : AreRight (items shape)
  pub bytes_are : bytes ≡ spaced (items shape) ++ rest
  pub cut : IsCut rest

pub record IsGradual {S A : Type 0} (at : List ℕ → Result (A × List ℕ) Flaw) (items : S → List Item) (value : S → A) (P : S → Type 0) : Type 0 where
  pub filler : S
  pub filler_holds : P filler
  pub reads : (s : S) (rest : List ℕ) → P s → AreRight (items s) → IsCut rest → at (spaced (items s) ++ rest) ≡ Ok (value s, rest)
  pub sure : (s : S) (front : List Item) (due : Item) (others : List Item) (tail : List ℕ) (flaw : Flaw) → P s → items s ≡ front ++ due ∷ others → AreRight front → IsSure due tail flaw
      → at (spaced front ++ tail) ≡ Err flaw
  pub gives : (bytes : List ℕ) (x : A) (rest : List ℕ) → IsCut bytes → at bytes ≡ Ok (x, rest) → Gives items value P bytes x rest
  pub fails : (bytes : List ℕ) (flaw : Flaw) → IsCut bytes → at bytes ≡ Err flaw → Fails at items P bytes flaw

no_room : (front : List Item) (due : Item) (others : List Item) → [] ≡ front ++ due ∷ others → ⊥
no_room [] due others h = cc
no_room (x ∷ front) due others h = cc

-- a front that ends in the first list, or in the second
pub record InFirst (ks front : List Item) (due : Item) : Type 0 where
  pub more : List Item
  pub is : ks ≡ front ++ due ∷ more

pub record InSecond (ks bs front : List Item) (due : Item) (others : List Item) : Type 0 where
  pub later : List Item
  pub front_is : front ≡ ks ++ later
  pub is : bs ≡ later ++ due ∷ others

first_more : (a : Item) (ks front : List Item) (due : Item) → InFirst ks front due → InFirst (a ∷ ks) (a ∷ front) due
first_more a ks front due h = record { more = h.more; is = ap (λ (ys : List Item). a ∷ ys) h.is }

second_more : (a : Item) (ks bs front : List Item) (due : Item) (others : List Item) → InSecond ks bs front due others → InSecond (a ∷ ks) bs (a ∷ front) due others
second_more a ks bs front due others h = record { later = h.later; front_is = ap (λ (ys : List Item). a ∷ ys) h.front_is; is = h.is }

either_more : (a : Item) (ks bs front : List Item) (due : Item) (others : List Item) → InFirst ks front due ⊎ InSecond ks bs front due others
    → InFirst (a ∷ ks) (a ∷ front) due ⊎ InSecond (a ∷ ks) bs (a ∷ front) due others
either_more a ks bs front due others (inl h) = inl (first_more a ks front due h)
either_more a ks bs front due others (inr h) = inr (second_more a ks bs front due others h)

same_head : (a x : Item) (ks xs : List Item) → a ∷ ks ≡ x ∷ xs → (a ≡ x) × (ks ≡ xs)
same_head a x ks xs h = (cc, cc)

pub split_front : (ks bs front : List Item) (due : Item) (others : List Item) → ks ++ bs ≡ front ++ due ∷ others → InFirst ks front due ⊎ InSecond ks bs front due others
split_front [] bs front due others h = inr (record { later = front; front_is = refl; is = h })
split_front (a ∷ ks) bs [] due others h =
    let same = same_head a due (ks ++ bs) others h in
    inl (record { more = ks; is = ap (λ (x : Item). x ∷ ks) same.0 })
split_front (a ∷ ks) bs (x ∷ front) due others h =
    let same = same_head a x (ks ++ bs) (front ++ due ∷ others) h in
    subst (λ (y : Item). InFirst (a ∷ ks) (y ∷ front) due ⊎ InSecond (a ∷ ks) bs (y ∷ front) due others) same.0
    (either_more a ks bs front due others (split_front ks bs front due others same.1))

-- a reader that reads nothing
pub pure_gradual : {A : Type 0} (x : A) → IsGradual {S = Unit {0}} (λ bytes. Ok (x, bytes)) (λ _. []) (λ _. x) (λ _. Unit {0})
pure_gradual x = record {
  filler = tt;
  filler_holds = tt;
  reads = λ s rest p r k. refl;
  sure = λ s front due others tail flaw p is right h. absurd (no_room front due others is);
  gives = λ bytes y rest k h.
      let parts = same_parts x y bytes rest h in
      record { shape = tt; holds = tt; value_is = parts.0; right = tt; bytes_are = parts.1; cut = subst IsCut parts.1 k };
  fails = λ bytes flaw k h. absurd (cc);
}

all_weaker : {at other : List ℕ → Type 0} (due : Item) (tail : List ℕ) (flaw : Flaw) → ((bs : List ℕ) → at bs → other bs) → IsWhy at due tail flaw → IsWhy other due tail flaw
all_weaker due tail flaw f (inl h) = inl h
all_weaker due tail flaw f (inr h) =
    inr (record { item = h.item; after = h.after; tail_is = h.tail_is; whole = h.whole; cut = h.cut; other = h.other; number = h.number; stays = f (32 ∷ h.item) h.stays })

failed_first : {A B : Type 0} (r : Result A Flaw) (f : A → Result B Flaw) (flaw : Flaw) → r ≡ Err flaw → (r >>= f) ≡ Err flaw
failed_first r f flaw h = ap (λ q. q >>= f) h

-- One reader, and then another that may hang on what was read.
module _ {S T A B : Type 0} {at : List ℕ → Result (A × List ℕ) Flaw} {items : S → List Item} {value : S → A} {P : S → Type 0} (one : IsGradual at items value P)
    (next : A → List ℕ → Result (B × List ℕ) Flaw) {later : S → T → List Item} {last : S → T → B} {Q : S → T → Type 0} (two : (s : S) → IsGradual (next (value s)) (later s) (last s) (Q s)) where
  abbrev pub then_at : List ℕ → Result (B × List ℕ) Flaw
  then_at bytes = at bytes >>= λ a. next a.0 a.1

  abbrev pub then_items : S × T → List Item
  then_items s = items s.0 ++ later s.0 s.1

  after_first : (s : S) (bytes : List ℕ) → P s → AreRight (items s) → IsCut bytes → then_at (spaced (items s) ++ bytes) ≡ next (value s) bytes
  after_first s bytes p r k = rw (one.reads s bytes p r k) refl

  then_reads : (s : S × T) (rest : List ℕ) → P s.0 × Q s.0 s.1 → AreRight (then_items s) → IsCut rest → then_at (spaced (then_items s) ++ rest) ≡ Ok (last s.0 s.1, rest)
  then_reads s rest p r k =
      ap then_at (spaced_more (items s.0) (later s.0 s.1) rest)
      ∙ after_first s.0 (spaced (later s.0 s.1) ++ rest) p.0 (right_front (items s.0) (later s.0 s.1) r) (spaced_cut (later s.0 s.1) rest k)
      ∙ (two s.0).reads s.1 rest p.1 (right_rest (items s.0) (later s.0 s.1) r) k

  then_sure_by : (s : S × T) (front : List Item) (due : Item) (others : List Item) (tail : List ℕ) (flaw : Flaw) → P s.0 × Q s.0 s.1 → AreRight front → IsSure due tail flaw
      → InFirst (items s.0) front due ⊎ InSecond (items s.0) (later s.0 s.1) front due others → then_at (spaced front ++ tail) ≡ Err flaw
  then_sure_by s front due others tail flaw p r k (inl h) =
      failed_first (at (spaced front ++ tail)) (λ a. next a.0 a.1) flaw (one.sure s.0 front due h.more tail flaw p.0 h.is r k)
  then_sure_by s front due others tail flaw p r k (inr h) =
      let all = subst AreRight h.front_is r in
      ap (λ (xs : List Item). then_at (spaced xs ++ tail)) h.front_is
      ∙ ap then_at (spaced_more (items s.0) h.later tail)
      ∙ after_first s.0 (spaced h.later ++ tail) p.0 (right_front (items s.0) h.later all) (spaced_cut h.later tail (sure_cut due tail flaw k))
      ∙ (two s.0).sure s.1 h.later due others tail flaw p.1 h.is (right_rest (items s.0) h.later all) k

  then_gives : (bytes : List ℕ) (x : B) (rest : List ℕ) → IsCut bytes → then_at bytes ≡ Ok (x, rest) → Gives then_items (λ s. last s.0 s.1) (λ s. P s.0 × Q s.0 s.1) bytes x rest
  then_gives bytes x rest k h =
      let a = bound (at bytes) (λ a. next a.0 a.1) (x, rest) h in
      let g = one.gives bytes a.value.0 a.value.1 k a.first in
      let second : next (value g.shape) a.value.1 ≡ Ok (x, rest) = ap (λ v. next v a.value.1) g.value_is ∙ a.second in
      let l = (two g.shape).gives a.value.1 x rest g.cut second in
      record {
        shape = (g.shape, l.shape);
        holds = (g.holds, l.holds);
        value_is = l.value_is;
        right = right_both (items g.shape) (later g.shape l.shape) g.right l.right;
        bytes_are = g.bytes_are ∙ ap (λ (bs : List ℕ). spaced (items g.shape) ++ bs) l.bytes_are ∙ sym (spaced_more (items g.shape) (later g.shape l.shape) rest);
        cut = l.cut;
      }

  fails_first : (bytes : List ℕ) (flaw : Flaw) → IsCut bytes → at bytes ≡ Err flaw → Fails then_at then_items (λ s. P s.0 × Q s.0 s.1) bytes flaw
  fails_first bytes flaw k h =
      let f = one.fails bytes flaw k h in
      let t = (two f.shape).filler in
      record {
        shape = (f.shape, t);
        holds = (f.holds, (two f.shape).filler_holds);
        front = f.front;
        due = f.due;
        others = f.others ++ later f.shape t;
        items_are = ap (λ (xs : List Item). xs ++ later f.shape t) f.items_are ∙ append_assoc f.front (f.due ∷ f.others) (later f.shape t);
        right = f.right;
        tail = f.tail;
        bytes_are = f.bytes_are;
        why = all_weaker f.due f.tail flaw (λ bs e. failed_first (at (spaced f.front ++ bs)) (λ a. next a.0 a.1) flaw e) f.why;
      }

  fails_second : (bytes : List ℕ) (flaw : Flaw) (s : S) (rest : List ℕ) → P s → AreRight (items s) → bytes ≡ spaced (items s) ++ rest → Fails (next (value s)) (later s) (Q s) rest flaw
      → Fails then_at then_items (λ s. P s.0 × Q s.0 s.1) bytes flaw
  fails_second bytes flaw s rest p r is f = record {
    shape = (s, f.shape);
    holds = (p, f.holds);
    front = items s ++ f.front;
    due = f.due;
    others = f.others;
    items_are = ap (λ (xs : List Item). items s ++ xs) f.items_are ∙ sym (append_assoc (items s) f.front (f.due ∷ f.others));
    right = right_both (items s) f.front r f.right;
    tail = f.tail;
    bytes_are = is ∙ ap (λ (bs : List ℕ). spaced (items s) ++ bs) f.bytes_are ∙ sym (spaced_more (items s) f.front f.tail);
    why = why_second s p r f.front f.due f.tail flaw f.why;
  }
    where
      why_second : (s : S) → P s → AreRight (items s) → (front : List Item) (due : Item) (tail : List ℕ) (flaw : Flaw) → IsWhy (λ (bs : List ℕ). next (value s) (spaced front ++ bs) ≡ Err flaw) due tail flaw
          → IsWhy (λ (bs : List ℕ). then_at (spaced (items s ++ front) ++ bs) ≡ Err flaw) due tail flaw
      why_second s p r front due tail flaw (inl h) = inl h
      why_second s p r front due tail flaw (inr h) = inr (record {
        item = h.item;
        after = h.after;
        tail_is = h.tail_is;
        whole = h.whole;
        cut = h.cut;
        other = h.other;
        number = h.number;
        stays = ap then_at (spaced_more (items s) front (32 ∷ h.item)) ∙ after_first s (spaced front ++ (32 ∷ h.item)) p r (spaced_cut front (32 ∷ h.item) refl) ∙ h.stays;
      })

  then_fails_by : (bytes : List ℕ) (flaw : Flaw) → IsCut bytes → (r : Result (A × List ℕ) Flaw) → at bytes ≡ r → (r >>= λ a. next a.0 a.1) ≡ Err flaw
      → Fails then_at then_items (λ s. P s.0 × Q s.0 s.1) bytes flaw
  then_fails_by bytes flaw k (Err e) is h = let same : e ≡ flaw = cc in fails_first bytes flaw k (is ∙ ap Err same)
  then_fails_by bytes flaw k (Ok a) is h =
      let g = one.gives bytes a.0 a.1 k is in
      let second : next (value g.shape) a.1 ≡ Err flaw = ap (λ v. next v a.1) g.value_is ∙ h in
      fails_second bytes flaw g.shape a.1 g.holds g.right g.bytes_are ((two g.shape).fails a.1 flaw g.cut second)

  pub then_gradual : IsGradual then_at then_items (λ s. last s.0 s.1) (λ s. P s.0 × Q s.0 s.1)
  then_gradual = record {
    filler = (one.filler, (two one.filler).filler);
    filler_holds = (one.filler_holds, (two one.filler).filler_holds);
    reads = then_reads;
    sure = λ s front due others tail flaw p is r k. then_sure_by s front due others tail flaw p r k (split_front (items s.0) (later s.0 s.1) front due others is);
    gives = then_gives;
    fails = λ bytes flaw k h. then_fails_by bytes flaw k (at bytes) refl h;
  }

-- The same reader, where its items and its value are said of something else.
module _ {S T A B : Type 0} {at : List ℕ → Result (A × List ℕ) Flaw} {items : S → List Item} {value : S → A} {P : S → Type 0} (c : IsGradual at items value P)
    (make : A → B) (items' : T → List Item) (value' : T → B) (Q : T → Type 0) (to : T → S) (from : S → T)
    (to_holds : (t : T) → Q t → P (to t)) (from_holds : (s : S) → P s → Q (from s))
    (to_items : (t : T) → Q t → items (to t) ≡ items' t) (from_items : (s : S) → P s → items s ≡ items' (from s))
    (to_value : (t : T) → Q t → make (value (to t)) ≡ value' t) (from_value : (s : S) → P s → make (value s) ≡ value' (from s)) where
  abbrev made_at : List ℕ → Result (B × List ℕ) Flaw
  made_at bytes = at bytes >>= λ a. Ok (make a.0, a.1)

  made_gives : (bytes : List ℕ) (x : B) (rest : List ℕ) → IsCut bytes → made_at bytes ≡ Ok (x, rest) → Gives items' value' Q bytes x rest
  made_gives bytes x rest k h =
      let a = bound (at bytes) (λ a. Ok (make a.0, a.1)) (x, rest) h in
      let parts = same_parts (make a.value.0) x a.value.1 rest a.second in
      let g = c.gives bytes a.value.0 a.value.1 k a.first in
      record {
        shape = from g.shape;
        holds = from_holds g.shape g.holds;
        value_is = sym (from_value g.shape g.holds) ∙ ap make g.value_is ∙ parts.0;
        right = subst AreRight (from_items g.shape g.holds) g.right;
        bytes_are = g.bytes_are ∙ ap (λ (xs : List Item). spaced xs ++ a.value.1) (from_items g.shape g.holds) ∙ ap (λ (bs : List ℕ). spaced (items' (from g.shape)) ++ bs) parts.1;
        cut = subst IsCut parts.1 g.cut;
      }

  abbrev made : Result (A × List ℕ) Flaw → Result (B × List ℕ) Flaw
  made r = r >>= λ a. Ok (make a.0, a.1)

  made_failed : (r : Result (A × List ℕ) Flaw) (flaw : Flaw) → made r ≡ Err flaw → r ≡ Err flaw
  made_failed (Err e) flaw h = cc
  made_failed (Ok a) flaw h = absurd (cc)

  made_fails : (bytes : List ℕ) (flaw : Flaw) → IsCut bytes → made_at bytes ≡ Err flaw → Fails made_at items' Q bytes flaw
  made_fails bytes flaw k h =
      let f = c.fails bytes flaw k (made_failed (at bytes) flaw h) in
      record {
        shape = from f.shape;
        holds = from_holds f.shape f.holds;
        front = f.front;
        due = f.due;
        others = f.others;
        items_are = sym (from_items f.shape f.holds) ∙ f.items_are;
        right = f.right;
        tail = f.tail;
        bytes_are = f.bytes_are;
        why = all_weaker f.due f.tail flaw (λ bs e. failed_first (at (spaced f.front ++ bs)) (λ a. Ok (make a.0, a.1)) flaw e) f.why;
      }

  pub made_gradual : IsGradual (λ bytes. at bytes >>= λ a. Ok (make a.0, a.1)) items' value' Q
  made_gradual = record {
    filler = from c.filler;
    filler_holds = from_holds c.filler c.filler_holds;
    reads = λ t rest q r k.
        let read = c.reads (to t) rest (to_holds t q) (subst AreRight (sym (to_items t q)) r) k in
        ap (λ (xs : List Item). made_at (spaced xs ++ rest)) (sym (to_items t q)) ∙ rw read (ap (λ (x : B). Ok (x, rest)) (to_value t q));
    sure = λ t front due others tail flaw q is r k. failed_first (at (spaced front ++ tail)) (λ a. Ok (make a.0, a.1)) flaw (c.sure (to t) front due others tail flaw (to_holds t q) (to_items t q ∙ is) r k);
    gives = made_gives;
    fails = made_fails;
  }

pub mapped_gradual : {S A B : Type 0} {at : List ℕ → Result (A × List ℕ) Flaw} {items : S → List Item} {value : S → A} {P : S → Type 0} → IsGradual at items value P → (make : A → B)
    → IsGradual (λ bytes. at bytes >>= λ a. Ok (make a.0, a.1)) items (λ s. make (value s)) P
mapped_gradual {items = items} {value = value} {P = P} c make =
    made_gradual c make items (λ s. make (value s)) P (λ s. s) (λ s. s) (λ s p. p) (λ s p. p) (λ s p. refl) (λ s p. refl) (λ s p. refl) (λ s p. refl)

-- a reader that does the same
pub same_gradual : {S A : Type 0} {at other : List ℕ → Result (A × List ℕ) Flaw} {items : S → List Item} {value : S → A} {P : S → Type 0} → ((bytes : List ℕ) → other bytes ≡ at bytes)
    → IsGradual at items value P → IsGradual other items value P
same_gradual same c = record {
  filler = c.filler;
  filler_holds = c.filler_holds;
  reads = λ s rest p r k. same _ ∙ c.reads s rest p r k;
  sure = λ s front due others tail flaw p is r k. same _ ∙ c.sure s front due others tail flaw p is r k;
  gives = λ bytes x rest k h. c.gives bytes x rest k (sym (same bytes) ∙ h);
  fails = λ bytes flaw k h.
      let f = c.fails bytes flaw k (sym (same bytes) ∙ h) in
      record {
        shape = f.shape;
        holds = f.holds;
        front = f.front;
        due = f.due;
        others = f.others;
        items_are = f.items_are;
        right = f.right;
        tail = f.tail;
        bytes_are = f.bytes_are;
        why = all_weaker f.due f.tail flaw (λ bs e. same _ ∙ e) f.why;
      };
}

kept : {A : Type 0} (r : Result (A × List ℕ) Flaw) → r ≡ (r >>= λ a. Ok (a.0, a.1))
kept (Err e) = refl
kept (Ok a) = refl

-- the same reader, with its items said of something else
module _ {S T A : Type 0} {at : List ℕ → Result (A × List ℕ) Flaw} {items : S → List Item} {value : S → A} {P : S → Type 0} (c : IsGradual at items value P)
    (items' : T → List Item) (value' : T → A) (Q : T → Type 0) (to : T → S) (from : S → T)
    (to_holds : (t : T) → Q t → P (to t)) (from_holds : (s : S) → P s → Q (from s))
    (to_items : (t : T) → Q t → items (to t) ≡ items' t) (from_items : (s : S) → P s → items s ≡ items' (from s))
    (to_value : (t : T) → Q t → value (to t) ≡ value' t) (from_value : (s : S) → P s → value s ≡ value' (from s)) where
  pub shaped_gradual : IsGradual at items' value' Q
  shaped_gradual = same_gradual (λ bytes. kept (at bytes)) (made_gradual c (λ x. x) items' value' Q to from to_holds from_holds to_items from_items to_value from_value)
