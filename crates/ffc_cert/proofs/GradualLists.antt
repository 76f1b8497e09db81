-- Lists, polynomials and the forms of lines, item by item.
use Rattle.std.proofs.Common.{◌≡◌, ℕ, zero, suc, ◌+◌, ◌∙◌, Bool, true, false, List, [], ◌∷◌, ◌++◌, length, Option, None, Some, Result, Ok, ◌⊎◌, inl, inr, refl, sym, ap, arith}
use Rattle.std.specs.List.{flat_map}
use Rattle.ffc_cert.specs.declared.flaws.Flaw.{Flaw}
use Rattle.ffc_cert.specs.declared.entries.CertLine.TheVariants.{Assume, Scheme, Hinted, Lemma, Combine, Bits, Chain, Step, Split, Values}
use Rattle.ffc_cert.specs.Items.{◌>>=◌, narrow_at, wide_at, literal_at, many_at, counted_at, exponent_at, power_at, powers_at, variables_at, chosen_at, term_at, multiple_at}
use Rattle.ffc_cert.specs.Lines.{assume_at, scheme_at, hinted_at, order_at, lemma_at, combine_at, bits_at, chain_at, step_at, split_at, values_at}
use Rattle.ffc_cert.specs.LineItems.{Item, Variable, narrow, wide, signed, counted_items, power_items, powers_items, variables_items, term_items, multiple_items, order_items}
use Rattle.ffc_cert.specs.Laws.{IsVersion}
use Rattle.ffc_cert.proofs.LineCodes.{OrderFits, not_first}
use Rattle.ffc_cert.proofs.Gradual.{IsGradual, pure_gradual, then_gradual, mapped_gradual, same_gradual, shaped_gradual}
use Rattle.ffc_cert.proofs.GradualItems.{narrow_gradual, wide_gradual, literal_gradual, variable_gradual, exponent_gradual}

-- lists

module _ {A : Type 0} {at : List ℕ → Result (A × List ℕ) Flaw} {items : A → List Item} (filler : A) (c : IsGradual at items (λ x. x) (λ _. Unit {0})) where
  head_of : List A → A × List A
  head_of [] = (filler, [])
  head_of (x ∷ xs) = (x, xs)

  abbrev IsLong : ℕ → List A → Type 0
  IsLong n xs = length xs ≡ n

  many_gradual : (n : ℕ) → IsGradual (many_at at n) (flat_map items) (λ xs. xs) (IsLong n)
  unfolding many_at head_of
  many_gradual zero = shaped_gradual (pure_gradual []) (flat_map items) (λ xs. xs) (IsLong zero) (λ _. tt) (λ _. []) (λ xs q. tt) (λ _ p. refl) to_none (λ _ p. refl) no_list (λ _ p. refl)
    where
      to_none : (xs : List A) → length xs ≡ 0 → [] ≡ flat_map items xs
      to_none [] q = refl
      to_none (x ∷ xs) q = absurd (omega (arith, q))

      no_list : (xs : List A) → length xs ≡ 0 → [] ≡ xs
      no_list [] q = refl
      no_list (x ∷ xs) q = absurd (omega (arith, q))
  many_gradual (suc n) =
      shaped_gradual (then_gradual c (λ x bs. many_at at n bs >>= λ ys. Ok (x ∷ ys.0, ys.1)) (λ x. mapped_gradual (many_gradual n) (λ ys. x ∷ ys)))
      (flat_map items) (λ xs. xs) (IsLong (suc n)) head_of (λ s. s.0 ∷ s.1) to_long (λ s p. ap suc p.1) to_items (λ s p. refl) to_list (λ s p. refl)
    where
      to_long : (xs : List A) → length xs ≡ suc n → Unit {0} × IsLong n (head_of xs).1
      to_long [] q = absurd (omega (arith, q))
      to_long (x ∷ xs) q = (tt, omega (arith, q))

      to_items : (xs : List A) → length xs ≡ suc n → items (head_of xs).0 ++ flat_map items (head_of xs).1 ≡ flat_map items xs
      to_items [] q = absurd (omega (arith, q))
      to_items (x ∷ xs) q = refl

      to_list : (xs : List A) → length xs ≡ suc n → (head_of xs).0 ∷ (head_of xs).1 ≡ xs
      to_list [] q = absurd (omega (arith, q))
      to_list (x ∷ xs) q = refl

  pub counted_gradual : IsGradual (counted_at at) (counted_items items) (λ xs. xs) (λ _. Unit {0})
  unfolding counted_at
  counted_gradual =
      shaped_gradual (then_gradual narrow_gradual (λ n. many_at at n) (λ n. many_gradual n)) (counted_items items) (λ xs. xs) (λ _. Unit {0}) (λ xs. (length xs, xs)) (λ s. s.1)
      (λ xs q. (tt, refl)) (λ s p. tt) (λ xs q. refl) (λ s p. ap (λ n. narrow n ++ flat_map items s.1) (sym p.1)) (λ xs q. refl) (λ s p. refl)

-- polynomials

power_gradual : (least : ℕ) → IsGradual (power_at least) (power_items least) (λ p. p) (λ _. Unit {0})
unfolding power_at
power_gradual least =
    shaped_gradual (then_gradual (variable_gradual least) (λ v bs. exponent_at bs >>= λ e. Ok ((v, e.0), e.1)) (λ v. mapped_gradual exponent_gradual (λ e. (v, e))))
    (power_items least) (λ p. p) (λ _. Unit {0}) (λ p. p) (λ p. p) (λ p q. (tt, tt)) (λ p q. tt) (λ p q. refl) (λ p q. refl) (λ p q. refl) (λ p q. refl)

head_power : List (ℕ × ℕ) → (ℕ × ℕ) × List (ℕ × ℕ)
head_power [] = ((0, 0), [])
head_power (p ∷ ps) = (p, ps)

powers_gradual : (least n : ℕ) → IsGradual (powers_at least n) (powers_items least) (λ ps. ps) (λ ps. length ps ≡ n)
unfolding powers_at head_power
powers_gradual least zero =
    shaped_gradual (pure_gradual []) (powers_items least) (λ ps. ps) (λ ps. length ps ≡ zero) (λ _. tt) (λ _. []) (λ ps q. tt) (λ _ p. refl) to_none (λ _ p. refl) no_list (λ _ p. refl)
  where
    to_none : (ps : List (ℕ × ℕ)) → length ps ≡ 0 → [] ≡ powers_items least ps
    to_none [] q = refl
    to_none (p ∷ ps) q = absurd (omega (arith, q))

    no_list : (ps : List (ℕ × ℕ)) → length ps ≡ 0 → [] ≡ ps
    no_list [] q = refl
    no_list (p ∷ ps) q = absurd (omega (arith, q))
powers_gradual least (suc n) =
    shaped_gradual (then_gradual (power_gradual least) (λ p bs. powers_at (p.0 + 1) n bs >>= λ ps. Ok (p ∷ ps.0, ps.1)) (λ p. mapped_gradual (powers_gradual (p.0 + 1) n) (λ ps. p ∷ ps)))
    (powers_items least) (λ ps. ps) (λ ps. length ps ≡ suc n) head_power (λ s. s.0 ∷ s.1) to_long (λ s p. ap suc p.1) to_items (λ s p. refl) to_list (λ s p. refl)
  where
    to_long : (ps : List (ℕ × ℕ)) → length ps ≡ suc n → Unit {0} × (length (head_power ps).1 ≡ n)
    to_long [] q = absurd (omega (arith, q))
    to_long (p ∷ ps) q = (tt, omega (arith, q))

    to_items : (ps : List (ℕ × ℕ)) → length ps ≡ suc n → power_items least (head_power ps).0 ++ powers_items ((head_power ps).0.0 + 1) (head_power ps).1 ≡ powers_items least ps
    to_items [] q = absurd (omega (arith, q))
    to_items (p ∷ ps) q = refl

    to_list : (ps : List (ℕ × ℕ)) → length ps ≡ suc n → (head_power ps).0 ∷ (head_power ps).1 ≡ ps
    to_list [] q = absurd (omega (arith, q))
    to_list (p ∷ ps) q = refl

head_variable : List ℕ → ℕ × List ℕ
head_variable [] = (0, [])
head_variable (x ∷ xs) = (x, xs)

variables_gradual : (least n : ℕ) → IsGradual (variables_at least n) (variables_items least) (λ xs. xs) (λ xs. length xs ≡ n)
unfolding variables_at head_variable
variables_gradual least zero =
    shaped_gradual (pure_gradual []) (variables_items least) (λ xs. xs) (λ xs. length xs ≡ zero) (λ _. tt) (λ _. []) (λ xs q. tt) (λ _ p. refl) to_none (λ _ p. refl) no_list (λ _ p. refl)
  where
    to_none : (xs : List ℕ) → length xs ≡ 0 → [] ≡ variables_items least xs
    to_none [] q = refl
    to_none (x ∷ xs) q = absurd (omega (arith, q))

    no_list : (xs : List ℕ) → length xs ≡ 0 → [] ≡ xs
    no_list [] q = refl
    no_list (x ∷ xs) q = absurd (omega (arith, q))
variables_gradual least (suc n) =
    shaped_gradual (then_gradual (variable_gradual least) (λ x bs. variables_at (x + 1) n bs >>= λ xs. Ok (x ∷ xs.0, xs.1)) (λ x. mapped_gradual (variables_gradual (x + 1) n) (λ xs. x ∷ xs)))
    (variables_items least) (λ xs. xs) (λ xs. length xs ≡ suc n) head_variable (λ s. s.0 ∷ s.1) to_long (λ s p. ap suc p.1) to_items (λ s p. refl) to_list (λ s p. refl)
  where
    to_long : (xs : List ℕ) → length xs ≡ suc n → Unit {0} × (length (head_variable xs).1 ≡ n)
    to_long [] q = absurd (omega (arith, q))
    to_long (x ∷ xs) q = (tt, omega (arith, q))

    to_items : (xs : List ℕ) → length xs ≡ suc n → Variable least (head_variable xs).0 ∷ variables_items ((head_variable xs).0 + 1) (head_variable xs).1 ≡ variables_items least xs
    to_items [] q = absurd (omega (arith, q))
    to_items (x ∷ xs) q = refl

    to_list : (xs : List ℕ) → length xs ≡ suc n → (head_variable xs).0 ∷ (head_variable xs).1 ≡ xs
    to_list [] q = absurd (omega (arith, q))
    to_list (x ∷ xs) q = refl

chosen_gradual : IsGradual chosen_at (λ xs. narrow (length xs) ++ variables_items 0 xs) (λ xs. xs) (λ _. Unit {0})
unfolding chosen_at
chosen_gradual =
    shaped_gradual (then_gradual narrow_gradual (λ n. variables_at 0 n) (λ n. variables_gradual 0 n)) (λ xs. narrow (length xs) ++ variables_items 0 xs) (λ xs. xs) (λ _. Unit {0}) (λ xs. (length xs, xs)) (λ s. s.1)
    (λ xs q. (tt, refl)) (λ s p. tt) (λ xs q. refl) (λ s p. ap (λ n. narrow n ++ variables_items 0 s.1) (sym p.1)) (λ xs q. refl) (λ s p. refl)

term_gradual : IsGradual term_at term_items (λ t. t) (λ _. Unit {0})
unfolding term_at
term_gradual =
    shaped_gradual (then_gradual wide_gradual (λ c bs. narrow_at bs >>= λ n. powers_at 0 n.0 n.1 >>= λ ps. Ok ((c, ps.0), ps.1))
    (λ c. then_gradual narrow_gradual (λ n bs. powers_at 0 n bs >>= λ ps. Ok ((c, ps.0), ps.1)) (λ n. mapped_gradual (powers_gradual 0 n) (λ ps. (c, ps)))))
    term_items (λ t. t) (λ _. Unit {0}) (λ t. (t.0, (length t.1, t.1))) (λ s. (s.0, s.1.1))
    (λ t q. (tt, (tt, refl))) (λ s p. tt) (λ t q. refl) (λ s p. ap (λ n. wide s.0 ++ (narrow n ++ powers_items 0 s.1.1)) (sym p.1.1)) (λ t q. refl) (λ s p. refl)

multiple_gradual : IsGradual multiple_at multiple_items (λ m. m) (λ _. Unit {0})
unfolding multiple_at
multiple_gradual =
    shaped_gradual (then_gradual narrow_gradual (λ l bs. counted_at term_at bs >>= λ ts. Ok ((l, ts.0), ts.1)) (λ l. mapped_gradual (counted_gradual (0, []) term_gradual) (λ ts. (l, ts))))
    multiple_items (λ m. m) (λ _. Unit {0}) (λ m. m) (λ m. m) (λ m q. (tt, tt)) (λ m q. tt) (λ m q. refl) (λ m q. refl) (λ m q. refl) (λ m q. refl)

-- lines after their first items

pub assume_gradual : IsGradual assume_at narrow Assume (λ _. Unit {0})
unfolding assume_at
assume_gradual = mapped_gradual narrow_gradual Assume

pub scheme_gradual : IsGradual {S = ℕ × (ℕ × ℕ)} scheme_at (λ s. narrow s.0 ++ (narrow s.1.0 ++ narrow s.1.1)) (λ s. Scheme s.0 s.1.0 s.1.1) (λ _. Unit {0} × (Unit {0} × Unit {0}))
unfolding scheme_at
scheme_gradual =
    then_gradual narrow_gradual (λ a bs. narrow_at bs >>= λ b. narrow_at b.1 >>= λ c. Ok (Scheme a b.0 c.0, c.1))
    (λ a. then_gradual narrow_gradual (λ b bs. narrow_at bs >>= λ c. Ok (Scheme a b c.0, c.1)) (λ b. mapped_gradual narrow_gradual (Scheme a b)))

pub hinted_gradual : IsGradual {S = List (Bool × ℕ) × List ℕ} hinted_at (λ s. counted_items signed s.0 ++ counted_items narrow s.1) (λ s. Hinted s.0 s.1) (λ _. Unit {0} × Unit {0})
unfolding hinted_at
hinted_gradual =
    then_gradual (counted_gradual (true, 0) literal_gradual) (λ a bs. counted_at narrow_at bs >>= λ b. Ok (Hinted a b.0, b.1)) (λ a. mapped_gradual (counted_gradual 0 narrow_gradual) (Hinted a))

some_order : (version : ℕ) → (version ≡ 2) ⊎ (version ≡ 3) → IsGradual (order_at version) order_items (λ o. o) (OrderFits version)
unfolding order_at
some_order version later =
    same_gradual some_at
    (shaped_gradual (mapped_gradual wide_gradual Some) order_items (λ o. o) (OrderFits version) order_of Some (λ o q. tt) (λ n p. later) to_items (λ n p. refl) to_value (λ n p. refl))
  where
    order_of : Option ℕ → ℕ
    order_of None = 0
    order_of (Some p) = p

    not_one : version ≡ 1 → ⊥
    not_one one = let clash : true ≡ false = sym (rw one refl) ∙ not_first version later in cc

    some_at : (bytes : List ℕ) → order_at version bytes ≡ (wide_at bytes >>= λ o. Ok (Some o.0, o.1))
    some_at bytes = rw (not_first version later) refl

    to_items : (o : Option ℕ) → OrderFits version o → wide (order_of o) ≡ order_items o
    to_items None q = absurd (not_one q)
    to_items (Some p) q = refl

    to_value : (o : Option ℕ) → OrderFits version o → Some (order_of o) ≡ o
    to_value None q = absurd (not_one q)
    to_value (Some p) q = refl

order_gradual : {bits : Bool} (version : ℕ) → IsVersion bits version → IsGradual (order_at version) order_items (λ o. o) (OrderFits version)
unfolding order_at
order_gradual version (inl one) =
    same_gradual none_at
    (shaped_gradual (pure_gradual None) order_items (λ o. o) (OrderFits version) (λ _. tt) (λ _. None) (λ o q. tt) (λ _ p. one) to_none (λ _ p. refl) to_value (λ _ p. refl))
  where
    not_later : (version ≡ 2) ⊎ (version ≡ 3) → ⊥
    not_later (inl two) = omega (arith, one, two)
    not_later (inr three) = omega (arith, one, three)

    none_at : (bytes : List ℕ) → order_at version bytes ≡ Ok (None, bytes)
    none_at bytes = rw one refl

    to_none : (o : Option ℕ) → OrderFits version o → [] ≡ order_items o
    to_none None q = refl
    to_none (Some p) q = absurd (not_later q)

    to_value : (o : Option ℕ) → OrderFits version o → None ≡ o
    to_value None q = refl
    to_value (Some p) q = absurd (not_later q)
order_gradual version (inr (inl two)) = some_order version (inl two)
order_gradual version (inr (inr three)) = some_order version (inr three.0)

pub lemma_gradual : {bits : Bool} (version : ℕ) → IsVersion bits version
    → IsGradual {S = Option ℕ × List (Bool × ℕ)} (lemma_at version) (λ s. order_items s.0 ++ counted_items signed s.1) (λ s. Lemma s.0 s.1) (λ s. OrderFits version s.0 × Unit {0})
unfolding lemma_at
lemma_gradual version known =
    then_gradual (order_gradual version known) (λ a bs. counted_at literal_at bs >>= λ b. Ok (Lemma a b.0, b.1)) (λ a. mapped_gradual (counted_gradual (true, 0) literal_gradual) (Lemma a))

pub combine_gradual : IsGradual combine_at (counted_items multiple_items) Combine (λ _. Unit {0})
unfolding combine_at
combine_gradual = mapped_gradual (counted_gradual (0, []) multiple_gradual) Combine

pub bits_gradual : IsGradual {S = ℕ × (List ℕ × (List (ℕ × List (ℕ × ℕ)) × List ℕ))} bits_at
    (λ s. narrow s.0 ++ ((narrow (length s.1.0) ++ variables_items 0 s.1.0) ++ (counted_items term_items s.1.1.0 ++ counted_items narrow s.1.1.1))) (λ s. Bits s.0 s.1.0 s.1.1.0 s.1.1.1)
    (λ _. Unit {0} × (Unit {0} × (Unit {0} × Unit {0})))
unfolding bits_at
bits_gradual =
    then_gradual narrow_gradual (λ a bs. chosen_at bs >>= λ b. counted_at term_at b.1 >>= λ c. counted_at narrow_at c.1 >>= λ d. Ok (Bits a b.0 c.0 d.0, d.1))
    (λ a. then_gradual chosen_gradual (λ b bs. counted_at term_at bs >>= λ c. counted_at narrow_at c.1 >>= λ d. Ok (Bits a b c.0 d.0, d.1))
    (λ b. then_gradual (counted_gradual (0, []) term_gradual) (λ c bs. counted_at narrow_at bs >>= λ d. Ok (Bits a b c d.0, d.1)) (λ c. mapped_gradual (counted_gradual 0 narrow_gradual) (Bits a b c))))

pub chain_gradual : IsGradual {S = ℕ × (ℕ × ℕ)} chain_at (λ s. narrow s.0 ++ (narrow s.1.0 ++ narrow s.1.1)) (λ s. Chain s.0 s.1.0 s.1.1) (λ _. Unit {0} × (Unit {0} × Unit {0}))
unfolding chain_at
chain_gradual =
    then_gradual narrow_gradual (λ a bs. narrow_at bs >>= λ b. narrow_at b.1 >>= λ c. Ok (Chain a b.0 c.0, c.1))
    (λ a. then_gradual narrow_gradual (λ b bs. narrow_at bs >>= λ c. Ok (Chain a b c.0, c.1)) (λ b. mapped_gradual narrow_gradual (Chain a b)))

pub step_gradual : IsGradual {S = List ℕ × List ℕ} step_at (λ s. counted_items wide s.0 ++ counted_items wide s.1) (λ s. Step s.0 s.1) (λ _. Unit {0} × Unit {0})
unfolding step_at
step_gradual =
    then_gradual (counted_gradual 0 wide_gradual) (λ a bs. counted_at wide_at bs >>= λ b. Ok (Step a b.0, b.1)) (λ a. mapped_gradual (counted_gradual 0 wide_gradual) (Step a))

pub split_gradual : IsGradual {S = ℕ × (ℕ × List ℕ)} split_at (λ s. narrow s.0 ++ (narrow s.1.0 ++ counted_items wide s.1.1)) (λ s. Split s.0 s.1.0 s.1.1) (λ _. Unit {0} × (Unit {0} × Unit {0}))
unfolding split_at
split_gradual =
    then_gradual narrow_gradual (λ a bs. narrow_at bs >>= λ b. counted_at wide_at b.1 >>= λ c. Ok (Split a b.0 c.0, c.1))
    (λ a. then_gradual narrow_gradual (λ b bs. counted_at wide_at bs >>= λ c. Ok (Split a b c.0, c.1)) (λ b. mapped_gradual (counted_gradual 0 wide_gradual) (Split a b)))

pub values_gradual : IsGradual {S = ℕ × ℕ} values_at (λ s. narrow s.0 ++ narrow s.1) (λ s. Values s.0 s.1) (λ _. Unit {0} × Unit {0})
unfolding values_at
values_gradual = then_gradual narrow_gradual (λ a bs. narrow_at bs >>= λ b. Ok (Values a b.0, b.1)) (λ a. mapped_gradual narrow_gradual (Values a))
