-- The lines of an entry, as they are read. A line is the bytes before its LF.
use Rattle.std.specs.Prelude.{ℕ, ◌^◌, ◌==◌, nat_lt, List, codes, if◌then◌else◌, Option, Some, None, Result, Ok, Err}
use Rattle.std.specs.Str.{bytes_eq}
use Rattle.ffc_cert.specs.declared.flaws.Flaw.{Flaw}
use Rattle.ffc_cert.specs.declared.flaws.Flaw.TheVariants.{Form}
use Rattle.ffc_cert.specs.declared.entries.Entry.TheVariants.{UnsatCases, Unknown}
use Rattle.ffc_cert.specs.declared.entries.Cause.TheVariants as causes
use Rattle.ffc_cert.specs.declared.entries.CertLine.{CertLine}
use Rattle.ffc_cert.specs.declared.entries.CertLine.TheVariants.{Assume, Scheme, Hinted, Lemma, Combine, Bits, Chain, Step, Split, Values, Close}
use Rattle.ffc_cert.specs.declared.forms.Opening.{Opening}
use Rattle.ffc_cert.specs.declared.forms.Opening.TheVariants.{Assignment, Refutation, Whole}
use Rattle.ffc_cert.specs.declared.forms.Awaited.{Awaited}
use Rattle.ffc_cert.specs.Items.{◌>>=◌, first_item, behind_item, item_at, ended, number_in, narrow_at, wide_at, literal_at, counted_at, chosen_at, term_at, multiple_at}

unfoldable pub assume_at : List ℕ → Result (CertLine × List ℕ) Flaw
assume_at bytes = do
  number ← narrow_at bytes
  Ok (Assume number.0, number.1)

unfoldable pub scheme_at : List ℕ → Result (CertLine × List ℕ) Flaw
scheme_at bytes = do
  node ← narrow_at bytes
  scheme ← narrow_at node.1
  index ← narrow_at scheme.1
  Ok (Scheme node.0 scheme.0 index.0, index.1)

unfoldable pub hinted_at : List ℕ → Result (CertLine × List ℕ) Flaw
hinted_at bytes = do
  lits ← counted_at literal_at bytes
  hints ← counted_at narrow_at lits.1
  Ok (Hinted lits.0 hints.0, hints.1)

-- version 1 names no order
unfoldable pub order_at : ℕ → List ℕ → Result (Option ℕ × List ℕ) Flaw
order_at version bytes = if version == 1 then Ok (None, bytes) else wide_at bytes >>= λ order. Ok (Some order.0, order.1)

unfoldable pub lemma_at : ℕ → List ℕ → Result (CertLine × List ℕ) Flaw
lemma_at version bytes = do
  order ← order_at version bytes
  lits ← counted_at literal_at order.1
  Ok (Lemma order.0 lits.0, lits.1)

unfoldable pub combine_at : List ℕ → Result (CertLine × List ℕ) Flaw
combine_at bytes = do
  multiples ← counted_at multiple_at bytes
  Ok (Combine multiples.0, multiples.1)

unfoldable pub bits_at : List ℕ → Result (CertLine × List ℕ) Flaw
bits_at bytes = do
  line ← narrow_at bytes
  chosen ← chosen_at line.1
  polynomial ← counted_at term_at chosen.1
  bits ← counted_at narrow_at polynomial.1
  Ok (Bits line.0 chosen.0 polynomial.0 bits.0, bits.1)

-- no version but 3 has this line
unfoldable pub bits_in : ℕ → List ℕ → Result (CertLine × List ℕ) Flaw
bits_in version bytes = if version == 3 then bits_at bytes else Err Form

unfoldable pub chain_at : List ℕ → Result (CertLine × List ℕ) Flaw
chain_at bytes = do
  line ← narrow_at bytes
  variable ← narrow_at line.1
  steps ← narrow_at variable.1
  Ok (Chain line.0 variable.0 steps.0, steps.1)

unfoldable pub step_at : List ℕ → Result (CertLine × List ℕ) Flaw
step_at bytes = do
  quotient ← counted_at wide_at bytes
  remainder ← counted_at wide_at quotient.1
  Ok (Step quotient.0 remainder.0, remainder.1)

unfoldable pub split_at : List ℕ → Result (CertLine × List ℕ) Flaw
split_at bytes = do
  line ← narrow_at bytes
  variable ← narrow_at line.1
  zeros ← counted_at wide_at variable.1
  Ok (Split line.0 variable.0 zeros.0, zeros.1)

unfoldable pub values_at : List ℕ → Result (CertLine × List ℕ) Flaw
values_at bytes = do
  variable ← narrow_at bytes
  trees ← narrow_at variable.1
  Ok (Values variable.0 trees.0, trees.1)

-- by the first item of a line
unfoldable pub clause_form : ℕ → List ℕ → List ℕ → Result (CertLine × List ℕ) Flaw
clause_form version word bytes =
    if bytes_eq word (codes "a") then assume_at bytes else
    if bytes_eq word (codes "n") then scheme_at bytes else
    if bytes_eq word (codes "r") then hinted_at bytes else
    if bytes_eq word (codes "f") then lemma_at version bytes else Err Form

unfoldable pub tree_form : ℕ → List ℕ → List ℕ → Result (CertLine × List ℕ) Flaw
tree_form version word bytes =
    if bytes_eq word (codes "c") then combine_at bytes else
    if bytes_eq word (codes "b") then bits_in version bytes else
    if bytes_eq word (codes "p") then chain_at bytes else
    if bytes_eq word (codes "s") then split_at bytes else
    if bytes_eq word (codes "v") then values_at bytes else
    if bytes_eq word (codes "z") then Ok (Close, bytes) else Err Form

unfoldable pub step_form : List ℕ → List ℕ → Result (CertLine × List ℕ) Flaw
step_form word bytes = if bytes_eq word (codes "u") then step_at bytes else Err Form

-- the line that a refutation needs next: a step of a chain first, then a line of a tree, then a clause
unfoldable pub form_at : ℕ → Awaited → List ℕ → List ℕ → Result (CertLine × List ℕ) Flaw
form_at version awaited word bytes =
    if nat_lt 0 awaited.steps then step_form word bytes else
    if nat_lt 0 awaited.trees then tree_form version word bytes else clause_form version word bytes

unfoldable pub line_at : ℕ → Awaited → List ℕ → Result CertLine Flaw
line_at version awaited line = form_at version awaited (first_item line) (behind_item line) >>= ended

-- a line of values
unfoldable pub value_at : List ℕ → Result (ℕ × ℕ) Flaw
value_at line =
    if bytes_eq (first_item line) (codes "=") then (do
      node ← narrow_at (behind_item line)
      value ← wide_at node.1
      ended ((node.0, value.0), value.1)) else Err Form

unfoldable pub sat_at : List ℕ → Result (Opening × List ℕ) Flaw
sat_at bytes = do
  count ← narrow_at bytes
  Ok (Assignment count.0, count.1)

unfoldable pub unsat_at : List ℕ → Result (Opening × List ℕ) Flaw
unsat_at bytes = do
  item ← item_at bytes
  if bytes_eq item.0 (codes "e") then Ok (Whole UnsatCases, item.1) else
      number_in (2 ^ 32) item.0 >>= λ count. Ok (Refutation count, item.1)

unfoldable pub steps_at : List ℕ → Result (Opening × List ℕ) Flaw
steps_at bytes = do
  trials ← wide_at bytes
  reductions ← wide_at trials.1
  assignments ← wide_at reductions.1
  chains ← wide_at assignments.1
  Ok (Whole (Unknown (causes.Steps trials.0 reductions.0 assignments.0 chains.0)), chains.1)

unfoldable pub unknown_at : List ℕ → Result (Opening × List ℕ) Flaw
unknown_at bytes = do
  item ← item_at bytes
  if bytes_eq item.0 (codes "degree") then Ok (Whole (Unknown causes.Degree), item.1) else
      if bytes_eq item.0 (codes "terms") then Ok (Whole (Unknown causes.Terms), item.1) else
      if bytes_eq item.0 (codes "memory") then Ok (Whole (Unknown causes.Memory), item.1) else
      if bytes_eq item.0 (codes "steps") then steps_at item.1 else Err Form

-- the first line of an entry
unfoldable pub opening_form : List ℕ → List ℕ → Result (Opening × List ℕ) Flaw
opening_form word bytes =
    if bytes_eq word (codes "sat") then sat_at bytes else
    if bytes_eq word (codes "unsat") then unsat_at bytes else
    if bytes_eq word (codes "unknown") then unknown_at bytes else Err Form

unfoldable pub opening_at : List ℕ → Result Opening Flaw
opening_at line = opening_form (first_item line) (behind_item line) >>= ended
