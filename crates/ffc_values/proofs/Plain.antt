-- The tree by values has no lines of bits.
use Rattle.std.proofs.Common.{ℕ, ◌+◌, Bool, true, false, cond, nat_lt, List, [], ◌∷◌, ◌++◌, map, length}
use Rattle.std.specs.List.{AllByRecursion}
use Rattle.ffc_cert.specs.declared.entries.CertLine.{CertLine}
use Rattle.ffc_cert.specs.declared.entries.CertLine.TheVariants.{Combine, Close}
use Rattle.ffc_ring.specs.Monomial.{Monomial}
use Rattle.ffc_ring.specs.Polynomial.{Terms}
use Rattle.ffc_trees.specs.TreeLines.{Multiple}
use Rattle.ffc_refutation.specs.declared.combination.Determined.{Determined}
use Rattle.ffc_lemmatree.proofs.Plain.{ArePlain, both_plain}
use Rattle.ffc_refutation.specs.Written.{multiple_of, whole_line}
use Rattle.ffc_values.specs.Written.{sums_lines, known_sum, known_lines, knowns_of, last_summands, values_tree}

plain_by : (b : Bool) (x y : List CertLine) → ArePlain x → ArePlain y → ArePlain (cond b x y)
plain_by true x y h k = h
plain_by false x y h k = k

sums_plain : (ms : List Multiple) (next : ℕ) (pending : List Multiple) → ArePlain (sums_lines next pending ms)
sums_plain [] next pending = (tt, tt)
sums_plain (m ∷ ms) next pending =
    plain_by (nat_lt (length pending) 448) (sums_lines next (pending ++ m ∷ []) ms) (Combine pending ∷ sums_lines (next + 1) (whole_line next ∷ m ∷ []) ms)
    (sums_plain ms next (pending ++ m ∷ [])) (tt, sums_plain ms (next + 1) (whole_line next ∷ m ∷ []))

knowns_plain : (next : ℕ) (ks : List Determined) → ArePlain (known_lines next ks)
knowns_plain next [] = tt
knowns_plain next (k ∷ ks) = both_plain (known_sum next k) _ (sums_plain (map multiple_of k.summands.items) next []) (knowns_plain (next + length (known_sum next k)) ks)

pub values_plain : (p first : ℕ) (xs : List ℕ) (ds : List Determined) (line : ℕ) (u : Monomial) (sides : Terms) → ArePlain (values_tree p first xs ds line u sides)
values_plain p first xs ds line u sides =
    both_plain (known_lines first ds) _ (knowns_plain first ds)
    (both_plain (sums_lines (first + length (known_lines first ds)) [] (map multiple_of (last_summands p (knowns_of first xs ds) u line sides))) (Close ∷ [])
    (sums_plain (map multiple_of (last_summands p (knowns_of first xs ds) u line sides)) (first + length (known_lines first ds)) []) (tt, tt))
