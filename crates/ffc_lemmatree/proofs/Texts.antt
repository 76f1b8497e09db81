-- The lines of the tree over roots are in range, and their text is short.
use Rattle.std.proofs.Common.{◌≡◌, ℕ, zero, suc, ◌+◌, ◌*◌, ◌^◌, ◌<◌, ◌≤◌, List, [], ◌∷◌, ◌++◌, length, codes, refl, ap, ◌∙◌, subst, arith, length-append, mul-suc}
use Rattle.std.specs.List.{AllByRecursion, flat_map}
use Rattle.std.proofs.lemmas.List.Concat.{flat_map-append}
use Rattle.ffc_cert.specs.declared.entries.CertLine.{CertLine}
use Rattle.ffc_cert.specs.declared.entries.CertLine.TheVariants.{Combine, Chain, Split, Close}
use Rattle.ffc_cert.specs.Ranges.{IsNarrow, IsWide, IsPower, IsTerm, IsMultiple, IsCounted, IsLine}
use Rattle.ffc_cert.specs.Spelling.{number, counted, power, term, multiple, line_items, line_text}
use Rattle.ffc_ring.specs.Monomial.{Monomial}
use Rattle.ffc_ring.specs.Polynomial.{Terms}
use Rattle.ffc_uni.specs.Univariate.{Coefficients, IsNormal, power_of, terms_from, terms_in}
use Rattle.ffc_uni.specs.Chains.{Pair}
use Rattle.ffc_uni.proofs.ValueLemmas.{normal_head, normal_tail}
use Rattle.ffc_trees.specs.TreeLines.{Multiple}
use Rattle.ffc_trees.specs.Closing.{written_step}
use Rattle.ffc_refutation.proofs.Texts.{number_short, number_long}
use Rattle.ffc_lemmatree.specs.Written.{written_in, appended, IsNormalPair}
use Rattle.ffc_lemmatree.proofs.Polynomials.{all-nonzero, length-written_in}
use Rattle.ffc_lemmatree.proofs.Chains.{normal_below}

-- ---- lists that are written after their count

pub each_short : {A : Type 0} (f : A → List ℕ) (bound : ℕ) (xs : List A) → AllByRecursion (λ x. length (f x) ≤ bound) xs → length (flat_map f xs) ≤ bound * length xs
each_short f bound [] all = omega arith
each_short f bound (x ∷ xs) all =
    let rest : length (flat_map f xs) ≤ bound * length xs = each_short f bound xs all.1 in
    let long : length (f x ++ flat_map f xs) ≡ length (f x) + length (flat_map f xs) = length-append (f x) (flat_map f xs) in
    let times : bound * suc (length xs) ≡ bound * length xs + bound = mul-suc bound (length xs) in
    omega (arith, all.0)

pub length-counted : {A : Type 0} (f : A → List ℕ) (xs : List A) → length (counted f xs) ≡ length (number (length xs)) + length (flat_map f xs)
unfolding counted
length-counted f xs = length-append (number (length xs)) (flat_map f xs)

counted_short : {A : Type 0} (f : A → List ℕ) (bound : ℕ) (xs : List A) → length xs < 2 ^ 32 → AllByRecursion (λ x. length (f x) ≤ bound) xs → length (counted f xs) ≤ 11 + bound * length xs
counted_short f bound xs few all =
    let long = length-counted f xs in
    let count = number_short (length xs) few in
    let rest = each_short f bound xs all in
    omega arith

length-line : (word items : List ℕ) → length ((word ++ items) ++ 10 ∷ []) ≡ length word + length items + 1
length-line word items = length-append (word ++ items) (10 ∷ []) ∙ ap (λ n. n + 1) (length-append word items)

-- ---- terms with one power or two

pub record IsBoundedTerm (t : ℕ × Monomial) : Type 0 where
  pub range : IsTerm t
  pub short : length (term t) ≤ 76

one_power : (x e : ℕ) → IsNarrow x → 0 < e → IsNarrow e → IsPower (x, e)
one_power x e narrow some low = record { variable = narrow; positive = some; exponent = low }

power_short : (f : ℕ × ℕ) → IsPower f → length (power f) ≤ 22
power_short f is =
    let one = number_short f.0 is.variable in
    let two = number_short f.1 is.exponent in
    let long = length-append (number f.0) (number f.1) in
    omega arith

powers_short : (m : Monomial) → AllByRecursion IsPower m → AllByRecursion (λ f. length (power f) ≤ 22) m
powers_short [] all = tt
powers_short (f ∷ m) all = (power_short f all.0, powers_short m all.1)

bounded_term : (c : ℕ) (m : Monomial) → IsTerm (c, m) → length m ≤ 2 → IsBoundedTerm (c, m)
bounded_term c m is low =
    let coefficient = number_long c is.coefficient in
    let powers : length (counted power m) ≤ 11 + 22 * length m = counted_short power 22 m (omega arith) (powers_short m is.monomial.counted.each) in
    let long = length-append (number c) (counted power m) in
    record { range = is; short = omega arith }

constant_term : (c : ℕ) → IsWide c → IsBoundedTerm (c, [])
constant_term c wide = bounded_term c [] (record { coefficient = wide; monomial = record { counted = record { few = omega arith; each = tt }; increasing = tt } }) (omega arith)

alone_term : (c x k : ℕ) → IsWide c → IsNarrow x → k < 256 → IsBoundedTerm (c, power_of x k)
alone_term c x zero wide narrow low = constant_term c wide
alone_term c x (suc k) wide narrow low =
    bounded_term c ((x, suc k) ∷ []) (record { coefficient = wide; monomial = record { counted = record { few = omega arith; each = (one_power x (suc k) narrow (omega arith) (omega arith), tt) }; increasing = (tt, tt) } }) (omega arith)

last_term : (c x w k : ℕ) → IsWide c → IsNarrow w → x < w → k < 256 → IsBoundedTerm (c, power_of x k ++ (w, 1) ∷ [])
last_term c x w zero wide narrow above low =
    bounded_term c ((w, 1) ∷ []) (record { coefficient = wide; monomial = record { counted = record { few = omega arith; each = (one_power w 1 narrow (omega arith) (omega arith), tt) }; increasing = (tt, tt) } }) (omega arith)
last_term c x w (suc k) wide narrow above low =
    bounded_term c ((x, suc k) ∷ (w, 1) ∷ [])
    (record { coefficient = wide; monomial = record { counted = record { few = omega arith; each = (one_power x (suc k) (omega arith) (omega arith) (omega arith), (one_power w 1 narrow (omega arith) (omega arith), tt)) }; increasing = ((above, tt), (tt, tt)) } })
    (omega arith)

-- a coefficient, and a power of x below 256
record IsPowerTerm (x : ℕ) (t : ℕ × Monomial) : Type 0 where
  wide : IsWide t.0
  exponent : ℕ
  low : exponent < 256
  same : power_of x exponent ≡ t.1

power_terms : (p x k : ℕ) (a : Coefficients) → p ≤ 2 ^ 64 → IsNormal p a → k + length a ≤ 256 → AllByRecursion (IsPowerTerm x) (terms_from x k a)
power_terms p x k [] wide is low = tt
power_terms p x k (c ∷ a) wide is low =
    (record { wide = (let h = normal_head p c a is in omega arith); exponent = k; low = omega arith; same = refl }, power_terms p x (suc k) a wide (normal_tail p c a is) (omega arith))

each_alone : (x : ℕ) (ts : Terms) → IsNarrow x → AllByRecursion (IsPowerTerm x) ts → AllByRecursion IsBoundedTerm ts
each_alone x [] narrow all = tt
each_alone x (t ∷ ts) narrow all = (subst (λ m. IsBoundedTerm (t.0, m)) all.0.same (alone_term t.0 x all.0.exponent all.0.wide narrow all.0.low), each_alone x ts narrow all.1)

each_last : (x w : ℕ) (ts : Terms) → IsNarrow w → x < w → AllByRecursion (IsPowerTerm x) ts → AllByRecursion IsBoundedTerm (appended ((w, 1) ∷ []) ts)
each_last x w [] narrow above all = tt
each_last x w (t ∷ ts) narrow above all =
    (subst (λ (m : Monomial). IsBoundedTerm (t.0, m ++ (w, 1) ∷ [])) all.0.same (last_term t.0 x w all.0.exponent all.0.wide narrow above all.0.low), each_last x w ts narrow above all.1)

-- ---- multiples

-- in range, with a text of so many bytes at most
pub record IsBoundedMultiple (bound : ℕ) (m : Multiple) : Type 0 where
  pub range : IsMultiple m
  pub short : length (multiple m) ≤ bound

terms_in_range : (ts : Terms) → AllByRecursion IsBoundedTerm ts → AllByRecursion IsTerm ts
terms_in_range [] all = tt
terms_in_range (t ∷ ts) all = (all.0.range, terms_in_range ts all.1)

terms_short : (ts : Terms) → AllByRecursion IsBoundedTerm ts → AllByRecursion (λ t. length (term t) ≤ 76) ts
terms_short [] all = tt
terms_short (t ∷ ts) all = (all.0.short, terms_short ts all.1)

bounded_multiple : (k n : ℕ) (ts : Terms) → IsNarrow k → length ts ≤ n → n ≤ 256 → AllByRecursion IsBoundedTerm ts → IsBoundedMultiple (22 + 76 * n) (k, ts)
bounded_multiple k n ts narrow few low all =
    let one = number_short k narrow in
    let rest : length (counted term ts) ≤ 11 + 76 * length ts = counted_short term 76 ts (omega arith) (terms_short ts all) in
    let long = length-append (number k) (counted term ts) in
    record { range = record { line = narrow; polynomial = record { few = omega arith; each = terms_in_range ts all } }; short = omega arith }

pub polynomial_bounded : (p x k : ℕ) (a : Coefficients) → p ≤ 2 ^ 64 → IsNarrow x → IsNarrow k → IsNormal p a → length a ≤ 256 → IsBoundedMultiple 19478 (k, written_in x a)
polynomial_bounded p x k a wide narrow line is short =
    bounded_multiple k 256 (written_in x a) line (let h = length-written_in x a in omega arith) (omega arith) (each_alone x (written_in x a) narrow (all-nonzero (IsPowerTerm x) (terms_in x a) (power_terms p x 0 a wide is (omega arith))))

length-appended : (m : Monomial) (ts : Terms) → length (appended m ts) ≡ length ts
length-appended m [] = refl
length-appended m (t ∷ ts) = ap suc (length-appended m ts)

pub inverse_bounded : (p x w k : ℕ) (a : Coefficients) → p ≤ 2 ^ 64 → IsNarrow w → x < w → IsNarrow k → IsNormal p a → length a ≤ 256 → IsBoundedMultiple 19478 (k, appended ((w, 1) ∷ []) (written_in x a))
inverse_bounded p x w k a wide narrow above line is short =
    bounded_multiple k 256 (appended ((w, 1) ∷ []) (written_in x a)) line (let h = length-written_in x a in let e = length-appended ((w, 1) ∷ []) (written_in x a) in omega arith) (omega arith)
    (each_last x w (written_in x a) narrow above (all-nonzero (IsPowerTerm x) (terms_in x a) (power_terms p x 0 a wide is (omega arith))))

pub constant_bounded : (k c : ℕ) → IsNarrow k → IsWide c → IsBoundedMultiple 98 (k, (c, []) ∷ [])
constant_bounded k c line wide = bounded_multiple k 1 ((c, []) ∷ []) line (omega arith) (omega arith) (constant_term c wide, tt)

-- ---- lines

-- in range, with a text of so many bytes at most
pub record IsBounded (bound : ℕ) (line : CertLine) : Type 0 where
  pub range : IsLine line
  pub short : length (line_text line) ≤ bound

pub two_bounded : (b c : ℕ) (m n : Multiple) → IsBoundedMultiple b m → IsBoundedMultiple c n → IsBounded (13 + b + c) (Combine (m ∷ n ∷ []))
unfolding line_items
two_bounded b c m n one other =
    let count = length-counted multiple (m ∷ n ∷ []) in
    let number_two = number_short 2 (omega arith) in
    let parts = length-append (multiple m) (multiple n ++ []) in
    let last = length-append (multiple n) [] in
    let long = length-line (codes "c") (counted multiple (m ∷ n ∷ [])) in
    let x = one.short in
    let y = other.short in
    record { range = record { few = omega arith; each = (one.range, (other.range, tt)) }; short = omega arith }

pub one_bounded : (b : ℕ) (m : Multiple) → IsBoundedMultiple b m → IsBounded (13 + b) (Combine (m ∷ []))
unfolding line_items
one_bounded b m one =
    let count = length-counted multiple (m ∷ []) in
    let number_one = number_short 1 (omega arith) in
    let last = length-append (multiple m) [] in
    let long = length-line (codes "c") (counted multiple (m ∷ [])) in
    let x = one.short in
    record { range = record { few = omega arith; each = (one.range, tt) }; short = omega arith }

pub close_bounded : IsBounded 2 Close
unfolding line_items
close_bounded = record { range = tt; short = omega arith }

pub chain_bounded : (k x count : ℕ) → IsNarrow k → IsNarrow x → IsNarrow count → IsBounded 35 (Chain k x count)
unfolding line_items
chain_bounded k x count one two three =
    let a = number_short k one in
    let b = number_short x two in
    let c = number_short count three in
    let long : length ((codes "p" ++ number k ++ number x ++ number count) ++ 10 ∷ []) ≡ 1 + length (number k) + length (number x) + length (number count) + 1 =
    length-line (codes "p" ++ number k ++ number x) (number count)
    ∙ ap (λ n. n + length (number count) + 1) (length-append (codes "p" ++ number k) (number x) ∙ ap (λ n. n + length (number x)) (length-append (codes "p") (number k))) in
    record { range = (one, (two, three)); short = omega arith }

wide_numbers : (p : ℕ) (a : List ℕ) → p ≤ 2 ^ 64 → AllByRecursion (λ c. c < p) a → AllByRecursion IsWide a
wide_numbers p [] wide all = tt
wide_numbers p (c ∷ a) wide all = (let h = all.0 in omega arith, wide_numbers p a wide all.1)

numbers_short : (a : List ℕ) → AllByRecursion IsWide a → AllByRecursion (λ c. length (number c) ≤ 21) a
numbers_short [] all = tt
numbers_short (c ∷ a) all = (number_long c all.0, numbers_short a all.1)

numbers_counted : (p : ℕ) (a : List ℕ) → p ≤ 2 ^ 64 → AllByRecursion (λ c. c < p) a → length a ≤ 256 → IsCounted IsWide a × (length (counted number a) ≤ 5387)
numbers_counted p a wide all short =
    let each : AllByRecursion IsWide a = wide_numbers p a wide all in
    let text : length (counted number a) ≤ 11 + 21 * length a = counted_short number 21 a (omega arith) (numbers_short a each) in
    (record { few = omega arith; each = each }, omega arith)

pub step_bounded : (p : ℕ) (s : Pair) → p ≤ 2 ^ 64 → IsNormalPair p s → length s.0 ≤ 256 → length s.1 ≤ 256 → IsBounded 10800 (written_step s)
unfolding line_items
step_bounded p s wide is short other =
    let one = numbers_counted p s.0 wide (normal_below p s.0 is.0) short in
    let two = numbers_counted p s.1 wide (normal_below p s.1 is.1) other in
    let a = one.1 in
    let b = two.1 in
    let long : length ((codes "u" ++ counted number s.0 ++ counted number s.1) ++ 10 ∷ []) ≡ 1 + length (counted number s.0) + length (counted number s.1) + 1 =
    length-line (codes "u" ++ counted number s.0) (counted number s.1) ∙ ap (λ n. n + length (counted number s.1) + 1) (length-append (codes "u") (counted number s.0)) in
    record { range = (one.0, two.0); short = omega arith }

pub split_bounded : (p k x : ℕ) (zeros : List ℕ) → p ≤ 2 ^ 64 → IsNarrow k → IsNarrow x → AllByRecursion (λ z. z < p) zeros → length zeros ≤ 256 → IsBounded 5500 (Split k x zeros)
unfolding line_items
split_bounded p k x zeros wide one two all short =
    let a = number_short k one in
    let b = number_short x two in
    let rest = numbers_counted p zeros wide all short in
    let c = rest.1 in
    let long : length ((codes "s" ++ number k ++ number x ++ counted number zeros) ++ 10 ∷ []) ≡ 1 + length (number k) + length (number x) + length (counted number zeros) + 1 =
    length-line (codes "s" ++ number k ++ number x) (counted number zeros)
    ∙ ap (λ n. n + length (counted number zeros) + 1) (length-append (codes "s" ++ number k) (number x) ∙ ap (λ n. n + length (number x)) (length-append (codes "s") (number k))) in
    record { range = (one, (two, rest.0)); short = omega arith }

-- ---- lists of lines

pub record AreBounded (bound : ℕ) (lines : List CertLine) : Type 0 where
  pub ranges : AllByRecursion IsLine lines
  pub short : length (flat_map line_text lines) ≤ bound

pub no_lines_bounded : AreBounded 0 []
no_lines_bounded = record { ranges = tt; short = omega arith }

pub first_bounded : (bound rest : ℕ) (line : CertLine) (lines : List CertLine) → IsBounded bound line → AreBounded rest lines → AreBounded (bound + rest) (line ∷ lines)
first_bounded bound rest line lines one all =
    let long = length-append (line_text line) (flat_map line_text lines) in
    let a = one.short in
    let b = all.short in
    record { ranges = (one.range, all.ranges); short = omega arith }

ranges_append : (a b : List CertLine) → AllByRecursion IsLine a → AllByRecursion IsLine b → AllByRecursion IsLine (a ++ b)
ranges_append [] b all other = other
ranges_append (l ∷ a) b all other = (all.0, ranges_append a b all.1 other)

pub both_bounded : (m n : ℕ) (a b : List CertLine) → AreBounded m a → AreBounded n b → AreBounded (m + n) (a ++ b)
both_bounded m n a b one other =
    let parts = ap length (flat_map-append line_text a b) in
    let long = length-append (flat_map line_text a) (flat_map line_text b) in
    let x = one.short in
    let y = other.short in
    record { ranges = ranges_append a b one.ranges other.ranges; short = omega arith }

pub more_bounded : (m n : ℕ) (lines : List CertLine) → m ≤ n → AreBounded m lines → AreBounded n lines
more_bounded m n lines low all = (let h = all.short in record { ranges = all.ranges; short = omega arith })
