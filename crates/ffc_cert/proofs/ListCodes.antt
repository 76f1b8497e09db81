-- Lists, and items that are made of others.
use Rattle.std.proofs.Common.{◌≡◌, ℕ, zero, suc, ◌<◌, ◌^◌, List, [], ◌∷◌, ◌++◌, length, Result, Ok, refl, sym, ap, ◌∙◌, subst, append_assoc}
use Rattle.std.specs.List.{AllByRecursion, flat_map}
use Rattle.ffc_cert.specs.declared.flaws.Flaw.{Flaw}
use Rattle.ffc_cert.specs.Items.{◌>>=◌, many_at, counted_at}
use Rattle.ffc_cert.specs.Spelling.{number, counted}
use Rattle.ffc_cert.specs.Ranges.{IsCounted}
use Rattle.ffc_cert.specs.Cuts.{IsCut}
use Rattle.ffc_cert.proofs.Codes.{IsPlain, plain_append, IsText, IsCode, bound, same_parts}
use Rattle.ffc_cert.proofs.NumberCodes.{narrow_code}

pub all_map : {A : Type 0} (P Q : A → Type 0) (xs : List A) → ((x : A) → P x → Q x) → AllByRecursion P xs → AllByRecursion Q xs
all_map P Q [] f h = tt
all_map P Q (x ∷ xs) f h = (f x h.0, all_map P Q xs f h.1)

-- so many of a kind that were read
record AreText {A : Type 0} (bytes : List ℕ) (text : A → List ℕ) (n : ℕ) (xs : List A) (rest : List ℕ) (P : A → Type 0) : Type 0 where
  text_is : bytes ≡ flat_map text xs ++ rest
  count : length xs ≡ n
  each : AllByRecursion P xs

module _ {A : Type 0} {at : List ℕ → Result (A × List ℕ) Flaw} {text : A → List ℕ} {P : A → Type 0} (code : IsCode at text P) where
  pub flat_cut : (xs : List A) (rest : List ℕ) → IsCut rest → IsCut (flat_map text xs ++ rest)
  flat_cut [] rest k = k
  flat_cut (x ∷ xs) rest k = subst IsCut (sym (append_assoc (text x) (flat_map text xs) rest)) (code.cut x (flat_map text xs ++ rest) (flat_cut xs rest k))

  pub flat_plain : (xs : List A) → AllByRecursion P xs → IsPlain (flat_map text xs)
  flat_plain [] h = tt
  flat_plain (x ∷ xs) h = plain_append (text x) (flat_map text xs) (code.plain x h.0) (flat_plain xs h.1)

  many_reads : (xs : List A) (rest : List ℕ) → AllByRecursion P xs → IsCut rest → many_at at (length xs) (flat_map text xs ++ rest) ≡ Ok (xs, rest)
  unfolding many_at
  many_reads [] rest h k = refl
  many_reads (x ∷ xs) rest h k =
      rw (append_assoc (text x) (flat_map text xs) rest, code.reads x (flat_map text xs ++ rest) h.0 (flat_cut xs rest k), many_reads xs rest h.1 k) refl

  many_gives : (n : ℕ) (bytes : List ℕ) (xs : List A) (rest : List ℕ) → many_at at n bytes ≡ Ok (xs, rest) → AreText bytes text n xs rest P
  unfolding many_at
  many_gives zero bytes xs rest h =
      let parts = same_parts [] xs bytes rest h in
      subst (λ ys. AreText bytes text zero ys rest P) parts.0 (record { text_is = parts.1; count = refl; each = tt })
  many_gives (suc n) bytes xs rest h =
      let first = bound _ _ _ h in
      let others = bound _ _ _ first.second in
      let parts = same_parts (first.value.0 ∷ others.value.0) xs others.value.1 rest others.second in
      let one = code.gives bytes first.value.0 first.value.1 first.first in
      let more = many_gives n first.value.1 others.value.0 others.value.1 others.first in
      subst (λ ys. AreText bytes text (suc n) ys rest P) parts.0 (record {
        text_is = one.text_is ∙ ap (λ (ys : List ℕ). text first.value.0 ++ ys) (more.text_is ∙ ap (λ (ys : List ℕ). flat_map text others.value.0 ++ ys) parts.1)
            ∙ sym (append_assoc (text first.value.0) (flat_map text others.value.0) rest);
        count = ap suc more.count;
        each = (one.holds, more.each);
      })

  counted_reads : (xs : List A) (rest : List ℕ) → IsCounted P xs → IsCut rest → counted_at at (counted text xs ++ rest) ≡ Ok (xs, rest)
  unfolding counted_at counted
  counted_reads xs rest h k =
      rw (append_assoc (number (length xs)) (flat_map text xs) rest, narrow_code.reads (length xs) (flat_map text xs ++ rest) h.few (flat_cut xs rest k), many_reads xs rest h.each k) refl

  counted_gives : (bytes : List ℕ) (xs : List A) (rest : List ℕ) → counted_at at bytes ≡ Ok (xs, rest) → IsText bytes (counted text xs) rest (IsCounted P xs)
  unfolding counted_at counted
  counted_gives bytes xs rest h =
      let n = bound _ _ _ h in
      let one = narrow_code.gives bytes n.value.0 n.value.1 n.first in
      let many = many_gives n.value.0 n.value.1 xs rest n.second in
      record {
        text_is = one.text_is ∙ ap (λ (ys : List ℕ). number n.value.0 ++ ys) many.text_is
            ∙ ap (λ (m : ℕ). number m ++ (flat_map text xs ++ rest)) (sym many.count)
            ∙ sym (append_assoc (number (length xs)) (flat_map text xs) rest);
        holds = record { few = subst (λ m. m < 2 ^ 32) (sym many.count) one.holds; each = many.each };
      }

  counted_plain : (xs : List A) → IsCounted P xs → IsPlain (counted text xs)
  unfolding counted
  counted_plain xs h = plain_append (number (length xs)) (flat_map text xs) (narrow_code.plain (length xs) h.few) (flat_plain xs h.each)

  counted_cut : (xs : List A) (rest : List ℕ) → IsCut rest → IsCut (counted text xs ++ rest)
  unfolding counted
  counted_cut xs rest k = refl

  pub counted_code : IsCode (counted_at at) (counted text) (IsCounted P)
  counted_code = record { cut = counted_cut; plain = counted_plain; reads = counted_reads; gives = counted_gives }

-- Two items, one after the other.
pub record IsPair {A B C : Type 0} (bytes : List ℕ) (t₁ : A → List ℕ) (t₂ : B → List ℕ) (P : A → Type 0) (Q : B → Type 0) (f : A → B → C) (z : C) (rest : List ℕ) : Type 0 where
  pub one : A
  pub two : B
  pub made : f one two ≡ z
  pub text_is : bytes ≡ (t₁ one ++ t₂ two) ++ rest
  pub first : P one
  pub second : Q two

module _ {A B : Type 0} {at₁ : List ℕ → Result (A × List ℕ) Flaw} {t₁ : A → List ℕ} {P : A → Type 0} (c₁ : IsCode at₁ t₁ P)
    {at₂ : List ℕ → Result (B × List ℕ) Flaw} {t₂ : B → List ℕ} {Q : B → Type 0} (c₂ : IsCode at₂ t₂ Q) {C : Type 0} (f : A → B → C) where
  abbrev pub pair_at : List ℕ → Result (C × List ℕ) Flaw
  pair_at bytes = at₁ bytes >>= λ a. at₂ a.1 >>= λ b. Ok (f a.0 b.0, b.1)

  pub pair_reads : (x : A) (y : B) (rest : List ℕ) → P x → Q y → IsCut rest → pair_at ((t₁ x ++ t₂ y) ++ rest) ≡ Ok (f x y, rest)
  pair_reads x y rest p q k = rw (append_assoc (t₁ x) (t₂ y) rest, c₁.reads x (t₂ y ++ rest) p (c₂.cut y rest k), c₂.reads y rest q k) refl

  pub pair_gives : (bytes : List ℕ) (z : C) (rest : List ℕ) → pair_at bytes ≡ Ok (z, rest) → IsPair bytes t₁ t₂ P Q f z rest
  pair_gives bytes z rest h =
      let a = bound _ _ _ h in
      let b = bound _ _ _ a.second in
      let parts = same_parts (f a.value.0 b.value.0) z b.value.1 rest b.second in
      let one = c₁.gives bytes a.value.0 a.value.1 a.first in
      let two = c₂.gives a.value.1 b.value.0 b.value.1 b.first in
      record {
        one = a.value.0;
        two = b.value.0;
        made = parts.0;
        text_is = one.text_is ∙ ap (λ (ys : List ℕ). t₁ a.value.0 ++ ys) (two.text_is ∙ ap (λ (ys : List ℕ). t₂ b.value.0 ++ ys) parts.1) ∙ sym (append_assoc (t₁ a.value.0) (t₂ b.value.0) rest);
        first = one.holds;
        second = two.holds;
      }

  pub pair_plain : (x : A) (y : B) → P x → Q y → IsPlain (t₁ x ++ t₂ y)
  pair_plain x y p q = plain_append (t₁ x) (t₂ y) (c₁.plain x p) (c₂.plain y q)

-- Three items.
pub record IsTriple {A B D C : Type 0} (bytes : List ℕ) (t₁ : A → List ℕ) (t₂ : B → List ℕ) (t₃ : D → List ℕ) (P : A → Type 0) (Q : B → Type 0) (R : D → Type 0) (f : A → B → D → C) (z : C) (rest : List ℕ) : Type 0 where
  pub one : A
  pub two : B
  pub three : D
  pub made : f one two three ≡ z
  pub text_is : bytes ≡ ((t₁ one ++ t₂ two) ++ t₃ three) ++ rest
  pub first : P one
  pub second : Q two
  pub third : R three

module _ {A B D : Type 0} {at₁ : List ℕ → Result (A × List ℕ) Flaw} {t₁ : A → List ℕ} {P : A → Type 0} (c₁ : IsCode at₁ t₁ P)
    {at₂ : List ℕ → Result (B × List ℕ) Flaw} {t₂ : B → List ℕ} {Q : B → Type 0} (c₂ : IsCode at₂ t₂ Q)
    {at₃ : List ℕ → Result (D × List ℕ) Flaw} {t₃ : D → List ℕ} {R : D → Type 0} (c₃ : IsCode at₃ t₃ R) {C : Type 0} (f : A → B → D → C) where
  abbrev pub triple_at : List ℕ → Result (C × List ℕ) Flaw
  triple_at bytes = at₁ bytes >>= λ a. at₂ a.1 >>= λ b. at₃ b.1 >>= λ d. Ok (f a.0 b.0 d.0, d.1)

  pub triple_reads : (x : A) (y : B) (z : D) (rest : List ℕ) → P x → Q y → R z → IsCut rest → triple_at (((t₁ x ++ t₂ y) ++ t₃ z) ++ rest) ≡ Ok (f x y z, rest)
  triple_reads x y z rest p q r k =
      rw (append_assoc (t₁ x ++ t₂ y) (t₃ z) rest, append_assoc (t₁ x) (t₂ y) (t₃ z ++ rest), c₁.reads x (t₂ y ++ (t₃ z ++ rest)) p (c₂.cut y (t₃ z ++ rest) (c₃.cut z rest k)), c₂.reads y (t₃ z ++ rest) q (c₃.cut z rest k), c₃.reads z rest r k) refl

  pub triple_gives : (bytes : List ℕ) (z : C) (rest : List ℕ) → triple_at bytes ≡ Ok (z, rest) → IsTriple bytes t₁ t₂ t₃ P Q R f z rest
  triple_gives bytes z rest h =
      let a = bound _ _ _ h in
      let one = c₁.gives bytes a.value.0 a.value.1 a.first in
      let others = pair_gives c₂ c₃ (f a.value.0) a.value.1 z rest a.second in
      record {
        one = a.value.0;
        two = others.one;
        three = others.two;
        made = others.made;
        text_is = one.text_is ∙ ap (λ (ys : List ℕ). t₁ a.value.0 ++ ys) (others.text_is ∙ append_assoc (t₂ others.one) (t₃ others.two) rest)
            ∙ sym (append_assoc (t₁ a.value.0) (t₂ others.one) (t₃ others.two ++ rest)) ∙ sym (append_assoc (t₁ a.value.0 ++ t₂ others.one) (t₃ others.two) rest);
        first = one.holds;
        second = others.first;
        third = others.second;
      }

  pub triple_plain : (x : A) (y : B) (z : D) → P x → Q y → R z → IsPlain ((t₁ x ++ t₂ y) ++ t₃ z)
  triple_plain x y z p q r = plain_append (t₁ x ++ t₂ y) (t₃ z) (plain_append (t₁ x) (t₂ y) (c₁.plain x p) (c₂.plain y q)) (c₃.plain z r)

-- Four items.
pub record IsFour {A B D E C : Type 0} (bytes : List ℕ) (t₁ : A → List ℕ) (t₂ : B → List ℕ) (t₃ : D → List ℕ) (t₄ : E → List ℕ) (P : A → Type 0) (Q : B → Type 0) (R : D → Type 0) (S : E → Type 0) (f : A → B → D → E → C) (z : C) (rest : List ℕ) : Type 0 where
  pub one : A
  pub two : B
  pub three : D
  pub four : E
  pub made : f one two three four ≡ z
  pub text_is : bytes ≡ (((t₁ one ++ t₂ two) ++ t₃ three) ++ t₄ four) ++ rest
  pub first : P one
  pub second : Q two
  pub third : R three
  pub fourth : S four

module _ {A B D E : Type 0} {at₁ : List ℕ → Result (A × List ℕ) Flaw} {t₁ : A → List ℕ} {P : A → Type 0} (c₁ : IsCode at₁ t₁ P)
    {at₂ : List ℕ → Result (B × List ℕ) Flaw} {t₂ : B → List ℕ} {Q : B → Type 0} (c₂ : IsCode at₂ t₂ Q)
    {at₃ : List ℕ → Result (D × List ℕ) Flaw} {t₃ : D → List ℕ} {R : D → Type 0} (c₃ : IsCode at₃ t₃ R)
    {at₄ : List ℕ → Result (E × List ℕ) Flaw} {t₄ : E → List ℕ} {S : E → Type 0} (c₄ : IsCode at₄ t₄ S) {C : Type 0} (f : A → B → D → E → C) where
  abbrev pub four_at : List ℕ → Result (C × List ℕ) Flaw
  four_at bytes = at₁ bytes >>= λ a. at₂ a.1 >>= λ b. at₃ b.1 >>= λ d. at₄ d.1 >>= λ e. Ok (f a.0 b.0 d.0 e.0, e.1)

  -- the first, and then the others
  first_apart : (x : A) (y : B) (z : D) (w : E) (rest : List ℕ) → (((t₁ x ++ t₂ y) ++ t₃ z) ++ t₄ w) ++ rest ≡ t₁ x ++ (((t₂ y ++ t₃ z) ++ t₄ w) ++ rest)
  first_apart x y z w rest = simp append_assoc

  pub four_reads : (x : A) (y : B) (z : D) (w : E) (rest : List ℕ) → P x → Q y → R z → S w → IsCut rest → four_at ((((t₁ x ++ t₂ y) ++ t₃ z) ++ t₄ w) ++ rest) ≡ Ok (f x y z w, rest)
  four_reads x y z w rest p q r s k =
      let others = triple_reads c₂ c₃ c₄ (f x) y z w rest q r s k in
      let cut : IsCut (((t₂ y ++ t₃ z) ++ t₄ w) ++ rest) =
      subst IsCut (sym (append_assoc (t₂ y ++ t₃ z) (t₄ w) rest ∙ append_assoc (t₂ y) (t₃ z) (t₄ w ++ rest))) (c₂.cut y (t₃ z ++ (t₄ w ++ rest)) (c₃.cut z (t₄ w ++ rest) (c₄.cut w rest k))) in
      rw (first_apart x y z w rest, c₁.reads x (((t₂ y ++ t₃ z) ++ t₄ w) ++ rest) p cut) others

  pub four_gives : (bytes : List ℕ) (z : C) (rest : List ℕ) → four_at bytes ≡ Ok (z, rest) → IsFour bytes t₁ t₂ t₃ t₄ P Q R S f z rest
  four_gives bytes z rest h =
      let a = bound _ _ _ h in
      let one = c₁.gives bytes a.value.0 a.value.1 a.first in
      let others = triple_gives c₂ c₃ c₄ (f a.value.0) a.value.1 z rest a.second in
      record {
        one = a.value.0;
        two = others.one;
        three = others.two;
        four = others.three;
        made = others.made;
        text_is = one.text_is ∙ ap (λ (ys : List ℕ). t₁ a.value.0 ++ ys) others.text_is ∙ sym (first_apart a.value.0 others.one others.two others.three rest);
        first = one.holds;
        second = others.first;
        third = others.second;
        fourth = others.third;
      }

  pub four_plain : (x : A) (y : B) (z : D) (w : E) → P x → Q y → R z → S w → IsPlain (((t₁ x ++ t₂ y) ++ t₃ z) ++ t₄ w)
  four_plain x y z w p q r s = plain_append ((t₁ x ++ t₂ y) ++ t₃ z) (t₄ w) (triple_plain c₁ c₂ c₃ (λ a b d. f a b d w) x y z p q r) (c₄.plain w s)
