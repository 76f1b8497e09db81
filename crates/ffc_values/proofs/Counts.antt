-- How long the text of the tree is at most, where there are few monomials: with more variables there are fewer powers in each.
use Rattle.std.proofs.Common.{◌≡◌, ℕ, zero, suc, ◌+◌, ◌-◌, ◌*◌, ◌/◌, ◌<◌, ◌≤◌, inl, inr, sym, ap, ap₂, ◌∙◌, arith}
use Rattle.std.proofs.Math.Nat.{mul-le-mul}
use Rattle.std.proofs.lemmas.Bool.{cases_lt}
use Rattle.ffc_field.specs.Binomial.{choose, choose-none, choose-all}
use Rattle.ffc_ring.proofs.CountingLemmas.{pascal}
use Rattle.ffc_macaulay.proofs.CountLemmas.{grows_degree, grows_variables, next_count}

-- ---- some counts

symmetric : (a b : ℕ) → choose (a + b) a ≡ choose (a + b) b
symmetric zero b = choose-none (0 + b) ∙ sym (ap (λ n. choose n b) (let e : 0 + b ≡ b = omega arith in e) ∙ choose-all b)
symmetric (suc a) zero = ap (λ n. choose n (suc a)) (let e : suc a + 0 ≡ suc a = omega arith in e) ∙ choose-all (suc a) ∙ sym (choose-none (suc a + 0))
symmetric (suc a) (suc b) =
    let top : suc a + suc b ≡ suc (a + suc b) = omega arith in
    let same : a + suc b ≡ suc a + b = omega arith in
    ap (λ n. choose n (suc a)) top ∙ pascal (a + suc b) a
    ∙ ap₂ ◌+◌ (symmetric a (suc b)) (ap (λ n. choose n (suc a)) same ∙ symmetric (suc a) b ∙ ap (λ n. choose n b) (sym same))
    ∙ (let swapped : choose (a + suc b) (suc b) + choose (a + suc b) b ≡ choose (a + suc b) b + choose (a + suc b) (suc b) = omega arith in swapped)
    ∙ sym (ap (λ n. choose n (suc b)) top ∙ pascal (a + suc b) b)

none_yet : (d : ℕ) → 1 ≡ choose (d + 0) 0
none_yet d = sym (choose-none (d + 0))

two_variables : 4186 ≡ choose 92 2
two_variables = next_count 90 1 91 (next_count 90 0 1 (none_yet 90))

three_variables : 4495 ≡ choose 31 3
three_variables = next_count 28 2 435 (next_count 28 1 29 (next_count 28 0 1 (none_yet 28)))

five_variables : 4368 ≡ choose 16 5
five_variables = next_count 11 4 1365 (next_count 11 3 364 (next_count 11 2 78 (next_count 11 1 12 (next_count 11 0 1 (none_yet 11)))))

-- ---- few monomials

-- not so many variables and so high a degree
not_both : (d k d0 k0 : ℕ) → d0 ≤ d → k0 ≤ k → choose (d + k) k ≤ 4096 → 4096 < choose (d0 + k0) k0 → ⊥
not_both d k d0 k0 high many few large =
    let one = grows_variables d0 k0 (k - k0) in
    let other = grows_degree d0 (d - d0) k in
    let first : choose (d0 + (k0 + (k - k0))) (k0 + (k - k0)) ≡ choose (d0 + k) k = ap (λ i. choose (d0 + i) i) (let e : k0 + (k - k0) ≡ k = omega arith in e) in
    let second : choose (d0 + (d - d0) + k) k ≡ choose (d + k) k = ap (λ i. choose (i + k) k) (let e : d0 + (d - d0) ≡ d = omega arith in e) in
    omega arith

module _ (d k : ℕ) (few : choose (d + k) k ≤ 4096) where
  most_variables_2 : 2 ≤ d → k ≤ 89
  most_variables_2 h = elim (cases_lt k 90) as (λ _. k ≤ 89) [ inl less ↦ omega arith | inr more ↦ absurd (not_both d k 2 90 h more few (let e = symmetric 2 90 in omega (arith, two_variables))) ]

  most_variables_3 : 3 ≤ d → k ≤ 27
  most_variables_3 h = elim (cases_lt k 28) as (λ _. k ≤ 27) [ inl less ↦ omega arith | inr more ↦ absurd (not_both d k 3 28 h more few (let e = symmetric 3 28 in omega (arith, three_variables))) ]

  most_variables_5 : 5 ≤ d → k ≤ 10
  most_variables_5 h = elim (cases_lt k 11) as (λ _. k ≤ 10) [ inl less ↦ omega arith | inr more ↦ absurd (not_both d k 5 11 h more few (let e = symmetric 5 11 in omega (arith, five_variables))) ]

  most_degree_5 : 5 ≤ k → d ≤ 10
  most_degree_5 h = elim (cases_lt d 11) as (λ _. d ≤ 10) [ inl less ↦ omega arith | inr more ↦ absurd (not_both d k 11 5 more h few (omega (arith, five_variables))) ]

  most_degree_3 : 3 ≤ k → d ≤ 27
  most_degree_3 h = elim (cases_lt d 28) as (λ _. d ≤ 27) [ inl less ↦ omega arith | inr more ↦ absurd (not_both d k 28 3 more h few (omega (arith, three_variables))) ]

  most_degree_2 : 2 ≤ k → d ≤ 89
  most_degree_2 h = elim (cases_lt d 90) as (λ _. d ≤ 89) [ inl less ↦ omega arith | inr more ↦ absurd (not_both d k 90 2 more h few (omega (arith, two_variables))) ]

-- ---- the text

-- the bytes of k sums of at most 4096 multiples with at most q powers each, and of a sum of at most t multiples with at most r powers
abbrev pub bytes : ℕ → ℕ → ℕ → ℕ → ℕ
bytes k q t r = (13 + (37 + 16 * q + 1) * 4096) * k + (13 + (37 + 13 * r + 1) * (t + 1) + 2)

more_bytes : (k q t r k0 q0 t0 r0 : ℕ) → k ≤ k0 → q ≤ q0 → t ≤ t0 → r ≤ r0 → bytes k q t r ≤ bytes k0 q0 t0 r0
more_bytes k q t r k0 q0 t0 r0 a b c e =
    let one : (13 + (37 + 16 * q + 1) * 4096) * k ≤ (13 + (37 + 16 * q0 + 1) * 4096) * k0 = mul-le-mul (let h : 13 + (37 + 16 * q + 1) * 4096 ≤ 13 + (37 + 16 * q0 + 1) * 4096 = omega arith in h) a in
    let other : (37 + 13 * r + 1) * (t + 1) ≤ (37 + 13 * r0 + 1) * (t0 + 1) = mul-le-mul (let h : 37 + 13 * r + 1 ≤ 37 + 13 * r0 + 1 = omega arith in h) (let h : t + 1 ≤ t0 + 1 = omega arith in h) in
    omega arith

-- what is known: the powers of a multiple are at most as many as its degree, and as its variables
pub record IsFew (d k low q r t n : ℕ) : Type 0 where
  pub least : 2 ≤ d
  pub few : choose (d + k) k ≤ 4096
  pub lower : low ≤ d
  pub within : low ≤ 255
  pub q_degree : q ≤ d
  pub q_most : q ≤ 16
  pub r_degree : r ≤ low + 1
  pub r_variables : r ≤ k + 1
  pub terms : t ≤ low * n
  pub monomials : n ≤ choose (low + k) k

few_monomials : (d k low n : ℕ) → low ≤ d → choose (d + k) k ≤ 4096 → n ≤ choose (low + k) k → n ≤ 4096
few_monomials d k low n less few is =
    let more = grows_degree low (d - low) k in
    let same : choose (low + (d - low) + k) k ≡ choose (d + k) k = ap (λ i. choose (i + k) k) (let e : low + (d - low) ≡ d = omega arith in e) in
    omega arith

module _ (d k low q r t n : ℕ) (is : IsFew d k low q r t n) where
  by : (d0 k0 q0 r0 n0 : ℕ) → low ≤ d0 → k ≤ k0 → q ≤ q0 → r ≤ r0 → n ≤ n0 → bytes k0 q0 (d0 * n0) r0 ≤ 31000000 → bytes k q t r ≤ 31000000
  by d0 k0 q0 r0 n0 a b c e f small =
      let terms : low * n ≤ d0 * n0 = mul-le-mul a f in
      let more = more_bytes k q t r k0 q0 (d0 * n0) r0 b c (let h = is.terms in omega arith) e in
      omega arith

  n_few : n ≤ 4096
  n_few = few_monomials d k low n is.lower is.few is.monomials

  one_variable : k ≤ 1 → bytes k q t r ≤ 31000000
  one_variable h =
      by 255 1 16 2 256 is.within h is.q_most (omega (arith, is.r_variables)) (elim (cases_lt k 1) as (λ _. n ≤ 256) [
        | inl none ↦ (let zero_is : k ≡ 0 = omega arith in let e : choose (low + k) k ≡ 1 = ap (λ i. choose (low + i) i) zero_is ∙ choose-none (low + 0) in omega (arith, is.monomials))
        | inr some ↦
            (let one_is : k ≡ 1 = omega arith in
            let count : 1 * (low + (0 + 1)) ≡ choose (low + 1) 1 = (let e : 1 * (low + (0 + 1)) ≡ 1 * (low + (0 + 1)) / (0 + 1) = omega arith in e) ∙ next_count low 0 1 (none_yet low) in
            let e : choose (low + k) k ≡ choose (low + 1) 1 = ap (λ i. choose (low + i) i) one_is in omega (arith, is.monomials, is.within))
      ]) (omega arith)

  two : k ≡ 2 → 5 ≤ d → bytes k q t r ≤ 31000000
  two h high = by 89 2 16 3 4096 (let most = most_degree_2 d k is.few (omega arith) in omega (arith, is.lower)) (omega arith) is.q_most (omega (arith, is.r_variables)) n_few (omega arith)

  three : 3 ≤ k → k < 5 → 5 ≤ d → bytes k q t r ≤ 31000000
  three h less high = by 27 4 16 5 4096 (let most = most_degree_3 d k is.few h in omega (arith, is.lower)) (omega arith) is.q_most (omega (arith, is.r_variables)) n_few (omega arith)

  five : 5 ≤ k → 5 ≤ d → bytes k q t r ≤ 31000000
  five h high =
      let most = most_degree_5 d k is.few h in
      let variables = most_variables_5 d k is.few high in
      by 10 10 10 11 4096 (omega (arith, is.lower)) variables (omega (arith, is.q_degree)) (omega (arith, is.r_variables)) n_few (omega arith)

  low_degree : 3 ≤ d → d < 5 → bytes k q t r ≤ 31000000
  low_degree h less = by 4 27 4 5 4096 (omega (arith, is.lower)) (most_variables_3 d k is.few h) (omega (arith, is.q_degree)) (omega (arith, is.r_degree, is.lower)) n_few (omega arith)

  squares : d ≡ 2 → bytes k q t r ≤ 31000000
  squares h = by 2 89 2 3 4096 (omega (arith, is.lower)) (most_variables_2 d k is.few is.least) (omega (arith, is.q_degree)) (omega (arith, is.r_degree, is.lower)) n_few (omega arith)

  by_variables : 5 ≤ d → bytes k q t r ≤ 31000000
  by_variables h =
      elim (cases_lt k 2) as (λ _. bytes k q t r ≤ 31000000) [
        | inl less ↦ one_variable (omega arith)
        | inr more ↦
            elim (cases_lt k 3) as (λ _. bytes k q t r ≤ 31000000) [
              | inl less ↦ two (omega arith) h
              | inr more ↦ elim (cases_lt k 5) as (λ _. bytes k q t r ≤ 31000000) [ inl less ↦ three more less h | inr more ↦ five more h ]
            ]
      ]

  -- the tree fits an entry
  pub bytes_are_few : bytes k q t r ≤ 31000000
  bytes_are_few =
      elim (cases_lt d 3) as (λ _. bytes k q t r ≤ 31000000) [
        | inl less ↦ squares (omega (arith, is.least))
        | inr more ↦ elim (cases_lt d 5) as (λ _. bytes k q t r ≤ 31000000) [ inl less ↦ low_degree more less | inr more ↦ by_variables more ]
      ]

  -- the powers of each are few, and so are the lines
  pub variables_are_few : k ≤ 89
  variables_are_few = most_variables_2 d k is.few is.least

  pub powers_are_few : r ≤ 16
  powers_are_few =
      elim (cases_lt k 15) as (λ _. r ≤ 16) [
        | inl less ↦ omega (arith, is.r_variables)
        | inr more ↦ (let most = most_degree_5 d k is.few (omega arith) in omega (arith, is.r_degree, is.lower))
      ]
