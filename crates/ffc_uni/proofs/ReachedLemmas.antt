-- How far a chain has come.
use Rattle.std.proofs.Common.{◌≡◌, ℕ, suc, ◌+◌, ◌-◌, ◌/◌, ◌%◌, ◌^◌, ◌==◌, ◌<◌, ◌≤◌, Bool, true, false, List, [], ◌∷◌, ◌++◌, length, sym, ap, ◌∙◌, arith, append_assoc, append-nil}
use Rattle.std.specs.Int.Count.{count_leading_zeros}
use Rattle.std.proofs.lemmas.Nat.{leading_top}
use Rattle.ffc_base.specs.Metering.{Spending, total}
use Rattle.ffc_base.specs.declared.stop.Stop.{Stop}
use Rattle.ffc_uni.specs.Univariate.{Coefficients, indeterminate}
use Rattle.ffc_uni.specs.Chains.{Pair, binary, digits_of, pairs_over, pair_count, IsChainFrom, IsChain, IsWithDigit, AreLower}
use Rattle.ffc_uni.specs.Units.{chained, IsStopped}
use Rattle.ffc_uni.proofs.DigitLemmas.{spelled, spelled-digits_of, digits_of-from}
use Rattle.ffc_uni.proofs.StepLemmas.{chain-append, lower-append}
use Rattle.ffc_uni.proofs.UnitLemmas.{chained-none, chained-chained, stopped_later}

-- The steps are those of the digits above a place, and their units are taken.
pub record IsReached (p : ℕ) (f : Coefficients) (place : ℕ) (steps : List Pair) (old new : Spending) : Type 0 where
  pub done : List Bool
  pub rest : done ++ binary place p ≡ digits_of p
  pub chain : IsChainFrom p f indeterminate done steps
  pub lower : AreLower f steps
  pub counted : new ≡ chained old (pairs_over done)
  pub within : 0 < length done → total new ≤ new.budget

pairs_over-append : (ds es : List Bool) → pairs_over (ds ++ es) ≡ pairs_over ds + pairs_over es
pairs_over-append [] es = omega arith
pairs_over-append (false ∷ ds) es = omega (arith, pairs_over-append ds es)
pairs_over-append (true ∷ ds) es = omega (arith, pairs_over-append ds es)

some_digits : (p : ℕ) (ds : List Bool) → ds ≡ digits_of p → 1 < p → p < 2 ^ 64 → 0 < length ds
some_digits p [] same least fits =
    let one : 1 ≡ p = ap (spelled 1) same ∙ spelled-digits_of p (omega arith) fits in absurd (omega arith)
some_digits p (d ∷ ds) same least fits = omega arith

-- no digit is done at the place of the first
pub reached_first : (p n : ℕ) (f : Coefficients) (steps : List Pair) (old : Spending) → n ≡ p → 1 < p → p < 2 ^ 64 → steps ≡ [] →
    (63 - count_leading_zeros 64 n < 64) × IsReached p f (63 - count_leading_zeros 64 n) steps old old
reached_first p n f steps old order least fits none =
    let top = leading_top 64 n (omega arith) (omega arith)
    in let place : 63 - count_leading_zeros 64 n ≡ top.0 = omega (arith, top.1)
    in let high : 2 ^ top.0 ≤ p = omega (arith, top.2)
    in let low : p < 2 ^ suc top.0 = omega (arith, top.3)
    in (
      omega arith,
      rw (none, place) (record {
        done = [];
        rest = sym (digits_of-from top.0 p (omega (arith, top.1)) high low);
        chain = tt;
        lower = tt;
        counted = chained-none old;
        within = λ some. absurd (omega arith);
      }),
    )

pub reached_next : (p : ℕ) (f : Coefficients) (place i : ℕ) (steps more : List Pair) (d : Bool) (old middle new : Spending) →
    IsReached p f place steps old middle → place ≡ suc i → d ≡ (p / 2 ^ i % 2 == 1)
    → IsWithDigit p f d steps more → new ≡ chained middle (pairs_over (d ∷ [])) → total new ≤ new.budget
    → IsReached p f i more old new
reached_next p f place i steps more d old middle new reached here digit added taken within =
    let digits : binary place p ≡ d ∷ binary i p = ap (λ n. binary n p) here ∙ ap (λ b. b ∷ binary i p) (sym digit)
    in record {
      done = reached.done ++ d ∷ [];
      rest = append_assoc reached.done (d ∷ []) (binary i p) ∙ ap (λ ds. reached.done ++ ds) (sym digits) ∙ reached.rest;
      chain =
          rw added.1 (chain-append p f indeterminate reached.done (d ∷ []) steps added.0 reached.chain added.2);
      lower = rw added.1 (lower-append f steps added.0 reached.lower added.3);
      counted =
          taken ∙ ap (λ s. chained s (pairs_over (d ∷ []))) reached.counted
          ∙ chained-chained old (pairs_over reached.done) (pairs_over (d ∷ []))
          ∙ ap (chained old) (sym (pairs_over-append reached.done (d ∷ [])));
      within = λ some. within;
    }

-- a stop at a digit is one of the whole chain
pub reached_stop : (p : ℕ) (f : Coefficients) (place i : ℕ) (steps : List Pair) (d : Bool) (old middle new : Spending) (stop : Stop) →
    IsReached p f place steps old middle → place ≡ suc i → d ≡ (p / 2 ^ i % 2 == 1)
    → IsStopped (pairs_over (d ∷ [])) middle new stop → IsStopped (pair_count p) old new stop
reached_stop p f place i steps d old middle new stop reached here digit stopped =
    let digits : d ∷ binary i p ≡ binary place p = ap (λ b. b ∷ binary i p) digit ∙ ap (λ n. binary n p) (sym here)
    in let all : pairs_over reached.done + pairs_over (d ∷ binary i p) ≡ pair_count p =
    sym (pairs_over-append reached.done (d ∷ binary i p)) ∙ ap (λ ds. pairs_over (reached.done ++ ds)) digits ∙ ap pairs_over reached.rest
    in let one : pairs_over (d ∷ []) ≤ pairs_over (d ∷ binary i p) = omega (arith, pairs_over-append (d ∷ []) (binary i p))
    in stopped_later (pair_count p) (pairs_over reached.done) (pairs_over (d ∷ [])) old middle new stop (omega arith) reached.counted stopped

pub record IsWhole (p : ℕ) (f : Coefficients) (steps : List Pair) (old new : Spending) : Type 0 where
  pub chain : IsChain p f steps
  pub lower : AreLower f steps
  pub counted : (new ≡ chained old (pair_count p)) × (total new ≤ new.budget)

-- after the lowest digit the chain is whole
pub reached_whole : (p : ℕ) (f : Coefficients) (steps : List Pair) (old new : Spending) → 1 < p → p < 2 ^ 64 →
    IsReached p f 0 steps old new → IsWhole p f steps old new
reached_whole p f steps old new least fits reached =
    let done : reached.done ≡ digits_of p = sym (append-nil reached.done) ∙ reached.rest
    in let some : 0 < length reached.done = some_digits p reached.done done least fits
    in record {
      chain = rw (sym done) reached.chain;
      lower = reached.lower;
      counted = (reached.counted ∙ ap (λ ds. chained old (pairs_over ds)) done, reached.within some);
    }
