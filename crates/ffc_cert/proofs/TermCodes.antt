-- Powers of variables, terms, and multiples of lines.
use Rattle.std.proofs.Common.{◌≡◌, ℕ, zero, suc, ◌+◌, ◌<◌, ◌≤◌, ◌==◌, false, List, [], ◌∷◌, ◌++◌, length, Ok, refl, sym, ap, ◌∙◌, subst, arith, append_assoc}
use Rattle.std.specs.Prelude.{nat_lt}
use Rattle.std.specs.List.{AllByRecursion, flat_map}
use Rattle.std.proofs.lemmas.Bool.Decides.{nat_tests}
use Rattle.ffc_cert.specs.declared.flaws.Flaw.TheVariants.{Form}
use Rattle.ffc_cert.specs.Items.{variable_at, exponent_at, power_at, powers_at, term_at, multiple_at}
use Rattle.ffc_cert.specs.Spelling.{number, counted, power, term, multiple}
use Rattle.ffc_cert.specs.Ranges.{IsNarrow, IsPower, VariablesIncrease, IsTerm, IsMultiple}
use Rattle.ffc_cert.specs.Cuts.{IsCut}
use Rattle.ffc_cert.proofs.Codes.{IsPlain, plain_append, IsText, IsCode, bound, barred, same_parts}
use Rattle.ffc_cert.proofs.NumberCodes.{narrow_code, wide_code}
use Rattle.ffc_cert.proofs.ListCodes.{all_map, counted_code, pair_reads, pair_gives, pair_plain}

power_plain : (p : ℕ × ℕ) → IsPower p → IsPlain (power p)
power_plain p h = pair_plain narrow_code narrow_code (λ (a b : ℕ). a) p.0 p.1 h.variable h.exponent

power_reads : (least : ℕ) (p : ℕ × ℕ) (rest : List ℕ) → least ≤ p.0 → IsPower p → IsCut rest → power_at least (power p ++ rest) ≡ Ok (p, rest)
unfolding power_at variable_at exponent_at
power_reads least p rest le h k =
    let above : nat_lt p.0 least ≡ false = grind (arith, nat_tests, le) in
    let some : (p.1 == 0) ≡ false = grind (arith, nat_tests, h.positive) in
    rw (append_assoc (number p.0) (number p.1) rest, narrow_code.reads p.0 (number p.1 ++ rest) h.variable refl, above, narrow_code.reads p.1 rest h.exponent k, some) refl

record IsPowerText (least : ℕ) (bytes : List ℕ) (p : ℕ × ℕ) (rest : List ℕ) : Type 0 where
  text_is : bytes ≡ power p ++ rest
  above : least ≤ p.0
  holds : IsPower p

pub not_below : (a b : ℕ) → nat_lt a b ≡ false → b ≤ a
not_below a b h = grind (arith, nat_tests, h)

not_zero : (n : ℕ) → (n == 0) ≡ false → 0 < n
not_zero n h = grind (arith, nat_tests, h)

power_gives : (least : ℕ) (bytes : List ℕ) (p : ℕ × ℕ) (rest : List ℕ) → power_at least bytes ≡ Ok (p, rest) → IsPowerText least bytes p rest
unfolding power_at variable_at exponent_at
power_gives least bytes p rest h =
    let variable = bound _ _ _ h in
    let exponent = bound _ _ _ variable.second in
    let parts = same_parts (variable.value.0, exponent.value.0) p exponent.value.1 rest exponent.second in
    let v = bound _ _ _ variable.first in
    let e = bound _ _ _ exponent.first in
    let low = barred (nat_lt v.value.0 least) (Ok v.value) Form variable.value v.second in
    let none = barred (e.value.0 == 0) (Ok e.value) Form exponent.value e.second in
    let v_is : v.value ≡ variable.value = cc (low.1) in
    let e_is : e.value ≡ exponent.value = cc (none.1) in
    let one = narrow_code.gives bytes v.value.0 v.value.1 v.first in
    let two = narrow_code.gives variable.value.1 e.value.0 e.value.1 e.first in
    let v0 : v.value.0 ≡ p.0 = ap (λ (q : ℕ × List ℕ). q.0) v_is ∙ ap (λ (q : ℕ × ℕ). q.0) parts.0 in
    let e0 : e.value.0 ≡ p.1 = ap (λ (q : ℕ × List ℕ). q.0) e_is ∙ ap (λ (q : ℕ × ℕ). q.1) parts.0 in
    let e1 : e.value.1 ≡ rest = ap (λ (q : ℕ × List ℕ). q.1) e_is ∙ parts.1 in
    let v1 : v.value.1 ≡ variable.value.1 = ap (λ (q : ℕ × List ℕ). q.1) v_is in
    record {
      text_is = one.text_is ∙ ap (λ (n : ℕ). number n ++ v.value.1) v0
          ∙ ap (λ (ys : List ℕ). number p.0 ++ ys) (v1 ∙ two.text_is ∙ ap (λ (n : ℕ). number n ++ e.value.1) e0 ∙ ap (λ (ys : List ℕ). number p.1 ++ ys) e1)
          ∙ sym (append_assoc (number p.0) (number p.1) rest);
      above = subst (λ n. least ≤ n) v0 (not_below _ _ low.0);
      holds = record {
        variable = subst IsNarrow v0 one.holds;
        positive = subst (λ n. 0 < n) e0 (not_zero _ none.0);
        exponent = subst IsNarrow e0 two.holds;
      };
    }

powers_cut : (ps : List (ℕ × ℕ)) (rest : List ℕ) → IsCut rest → IsCut (flat_map power ps ++ rest)
powers_cut [] rest k = k
powers_cut (p ∷ ps) rest k = refl

powers_plain : (ps : List (ℕ × ℕ)) → AllByRecursion IsPower ps → IsPlain (flat_map power ps)
powers_plain [] h = tt
powers_plain (p ∷ ps) h = plain_append (power p) (flat_map power ps) (power_plain p h.0) (powers_plain ps h.1)

powers_reads : (least : ℕ) (ps : List (ℕ × ℕ)) (rest : List ℕ) → AllByRecursion IsPower ps → AllByRecursion (λ q. least ≤ q.0) ps → VariablesIncrease ps → IsCut rest
    → powers_at least (length ps) (flat_map power ps ++ rest) ≡ Ok (ps, rest)
unfolding powers_at
powers_reads least [] rest h above inc k = refl
powers_reads least (p ∷ ps) rest h above inc k =
    let further = all_map (λ (q : ℕ × ℕ). p.0 < q.0) (λ (q : ℕ × ℕ). p.0 + 1 ≤ q.0) ps (λ q lt. omega arith) inc.0 in
    rw (append_assoc (power p) (flat_map power ps) rest, power_reads least p (flat_map power ps ++ rest) above.0 h.0 (powers_cut ps rest k), powers_reads (p.0 + 1) ps rest h.1 further inc.1 k) refl

record ArePowerTexts (least : ℕ) (bytes : List ℕ) (n : ℕ) (ps : List (ℕ × ℕ)) (rest : List ℕ) : Type 0 where
  text_is : bytes ≡ flat_map power ps ++ rest
  count : length ps ≡ n
  each : AllByRecursion IsPower ps
  above : AllByRecursion (λ q. least ≤ q.0) ps
  increasing : VariablesIncrease ps

powers_gives : (least n : ℕ) (bytes : List ℕ) (ps : List (ℕ × ℕ)) (rest : List ℕ) → powers_at least n bytes ≡ Ok (ps, rest) → ArePowerTexts least bytes n ps rest
unfolding powers_at
powers_gives least zero bytes ps rest h =
    let parts = same_parts [] ps bytes rest h in
    subst (λ ys. ArePowerTexts least bytes zero ys rest) parts.0 (record { text_is = parts.1; count = refl; each = tt; above = tt; increasing = tt })
powers_gives least (suc n) bytes ps rest h =
    let first = bound _ _ _ h in
    let others = bound _ _ _ first.second in
    let parts = same_parts (first.value.0 ∷ others.value.0) ps others.value.1 rest others.second in
    let one = power_gives least bytes first.value.0 first.value.1 first.first in
    let more = powers_gives (first.value.0.0 + 1) n first.value.1 others.value.0 others.value.1 others.first in
    subst (λ ys. ArePowerTexts least bytes (suc n) ys rest) parts.0 (record {
      text_is = one.text_is ∙ ap (λ (ys : List ℕ). power first.value.0 ++ ys) (more.text_is ∙ ap (λ (ys : List ℕ). flat_map power others.value.0 ++ ys) parts.1)
          ∙ sym (append_assoc (power first.value.0) (flat_map power others.value.0) rest);
      count = ap suc more.count;
      each = (one.holds, more.each);
      above = (one.above, all_map (λ (q : ℕ × ℕ). first.value.0.0 + 1 ≤ q.0) (λ (q : ℕ × ℕ). least ≤ q.0) others.value.0 (λ q le. omega (arith, one.above)) more.above);
      increasing = (all_map (λ (q : ℕ × ℕ). first.value.0.0 + 1 ≤ q.0) (λ (q : ℕ × ℕ). first.value.0.0 < q.0) others.value.0 (λ q le. omega arith) more.above, more.increasing);
    })

from_zero : (ps : List (ℕ × ℕ)) → AllByRecursion (λ q. 0 ≤ q.0) ps
from_zero [] = tt
from_zero (p ∷ ps) = (omega arith, from_zero ps)

term_reads : (t : ℕ × List (ℕ × ℕ)) (rest : List ℕ) → IsTerm t → IsCut rest → term_at (term t ++ rest) ≡ Ok (t, rest)
unfolding term_at counted
term_reads t rest h k =
    let m = h.monomial in
    rw (
      append_assoc (number t.0) (number (length t.1) ++ flat_map power t.1) rest,
      append_assoc (number (length t.1)) (flat_map power t.1) rest,
      wide_code.reads t.0 (number (length t.1) ++ (flat_map power t.1 ++ rest)) h.coefficient refl,
      narrow_code.reads (length t.1) (flat_map power t.1 ++ rest) m.counted.few (powers_cut t.1 rest k),
      powers_reads 0 t.1 rest m.counted.each (from_zero t.1) m.increasing k,
    ) refl

term_gives : (bytes : List ℕ) (t : ℕ × List (ℕ × ℕ)) (rest : List ℕ) → term_at bytes ≡ Ok (t, rest) → IsText bytes (term t) rest (IsTerm t)
unfolding term_at counted
term_gives bytes t rest h =
    let c = bound _ _ _ h in
    let n = bound _ _ _ c.second in
    let ps = bound (powers_at 0 n.value.0 n.value.1) (λ powers. Ok ((c.value.0, powers.0), powers.1)) (t, rest) n.second in
    let parts = same_parts (c.value.0, ps.value.0) t ps.value.1 rest ps.second in
    let one = wide_code.gives bytes c.value.0 c.value.1 c.first in
    let two = narrow_code.gives c.value.1 n.value.0 n.value.1 n.first in
    let three = powers_gives 0 n.value.0 n.value.1 ps.value.0 ps.value.1 ps.first in
    subst (λ m. IsText bytes (term m) rest (IsTerm m)) parts.0 (record {
      text_is = one.text_is ∙ ap (λ (ys : List ℕ). number c.value.0 ++ ys) (two.text_is ∙ ap (λ (m : ℕ). number m ++ n.value.1) (sym three.count)
          ∙ ap (λ (ys : List ℕ). number (length ps.value.0) ++ ys) (three.text_is ∙ ap (λ (ys : List ℕ). flat_map power ps.value.0 ++ ys) parts.1)
          ∙ sym (append_assoc (number (length ps.value.0)) (flat_map power ps.value.0) rest))
          ∙ sym (append_assoc (number c.value.0) (number (length ps.value.0) ++ flat_map power ps.value.0) rest);
      holds = record {
        coefficient = one.holds;
        monomial = record { counted = record { few = subst IsNarrow (sym three.count) two.holds; each = three.each }; increasing = three.increasing };
      };
    })

term_plain : (t : ℕ × List (ℕ × ℕ)) → IsTerm t → IsPlain (term t)
unfolding counted
term_plain t h = plain_append (number t.0) (number (length t.1) ++ flat_map power t.1) (wide_code.plain t.0 h.coefficient)
    (plain_append (number (length t.1)) (flat_map power t.1) (narrow_code.plain (length t.1) h.monomial.counted.few) (powers_plain t.1 h.monomial.counted.each))

pub term_code : IsCode term_at term IsTerm
term_code = record { cut = λ t rest k. refl; plain = term_plain; reads = term_reads; gives = term_gives }

multiple_gives : (bytes : List ℕ) (m : ℕ × List (ℕ × List (ℕ × ℕ))) (rest : List ℕ) → multiple_at bytes ≡ Ok (m, rest) → IsText bytes (multiple m) rest (IsMultiple m)
unfolding multiple_at
multiple_gives bytes m rest h =
    let p = pair_gives narrow_code (counted_code term_code) (λ (a : ℕ) (b : List (ℕ × List (ℕ × ℕ))). (a, b)) bytes m rest h in
    subst (λ x. IsText bytes (multiple x) rest (IsMultiple x)) p.made (record { text_is = p.text_is; holds = record { line = p.first; polynomial = p.second } })

multiple_reads : (m : ℕ × List (ℕ × List (ℕ × ℕ))) (rest : List ℕ) → IsMultiple m → IsCut rest → multiple_at (multiple m ++ rest) ≡ Ok (m, rest)
unfolding multiple_at
multiple_reads m rest h k = pair_reads narrow_code (counted_code term_code) (λ (a : ℕ) (b : List (ℕ × List (ℕ × ℕ))). (a, b)) m.0 m.1 rest h.line h.polynomial k

pub multiple_code : IsCode multiple_at multiple IsMultiple
multiple_code = record {
  cut = λ m rest k. refl;
  plain = λ m h. pair_plain narrow_code (counted_code term_code) (λ (a : ℕ) (b : List (ℕ × List (ℕ × ℕ))). a) m.0 m.1 h.line h.polynomial;
  reads = multiple_reads;
  gives = multiple_gives;
}
