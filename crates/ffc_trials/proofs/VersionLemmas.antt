-- What is readable without lines of bits is readable where they may come.
use Rattle.std.proofs.Common.{ℕ, ◌≡◌, ◌⊎◌, inr, refl, Bool, true, false, List, [], ◌∷◌, Some, None, arith}
use Rattle.std.specs.List.{AllByRecursion}
use Rattle.ffc_cert.specs.declared.entries.CertLine.{CertLine}
use Rattle.ffc_cert.specs.declared.entries.CertLine.TheVariants.{Assume, Scheme, Hinted, Lemma, Combine, Bits, Chain, Step, Split, Values, Close}
use Rattle.ffc_cert.specs.declared.entries.Entry.{Entry}
use Rattle.ffc_cert.specs.declared.entries.Entry.TheVariants.{Sat, UnsatCases, UnsatSteps, Unknown}
use Rattle.ffc_cert.specs.WellFormed.{LineFitsVersion, IsWellFormed, IsReadable}
use Rattle.ffc_rules.specs.Entries.{NodeCheck}
use Rattle.ffc_trials.specs.Stops.{AreModelValues, IsGiven, IsGivenIn}
use Rattle.ffc_trials.specs.Versions.{written_version}

line_later : (x : CertLine) → LineFitsVersion 2 x → LineFitsVersion 3 x
line_later (Assume k) h = tt
line_later (Scheme node scheme index) h = tt
line_later (Hinted lits hints) h = tt
line_later (Lemma None lits) h = cc
line_later (Lemma (Some order) lits) h = inr refl
line_later (Combine multiples) h = tt
line_later (Bits line chosen polynomial bits) h = refl
line_later (Chain line variable steps) h = tt
line_later (Step quotient remainder) h = tt
line_later (Split line variable zeros) h = tt
line_later (Values variable trees) h = tt
line_later Close h = tt

lines_later : (lines : List CertLine) → AllByRecursion (LineFitsVersion 2) lines → AllByRecursion (LineFitsVersion 3) lines
lines_later [] all = tt
lines_later (x ∷ lines) all = (line_later x all.0, lines_later lines all.1)

formed_later : (entry : Entry) → IsWellFormed 2 entry → IsWellFormed 3 entry
formed_later (Sat values) h = h
formed_later UnsatCases h = tt
formed_later (UnsatSteps lines) h = record { few = h.few; order = h.order; ranges = h.ranges; fits = lines_later lines h.fits }
formed_later (Unknown cause) h = h

readable_later : (bits : Bool) (entry : Entry) → IsReadable 2 entry → IsReadable (written_version bits) entry
readable_later true entry h = record { well_formed = formed_later entry h.well_formed; short = h.short }
readable_later false entry h = h

-- what may be given without lines of bits may be given where they may come
pub given_in : (bits : Bool) (c : NodeCheck) (entry : Entry) → IsGiven c entry → IsGivenIn bits c entry
given_in bits c entry given = record { readable = readable_later bits entry given.readable; right = given.right; verdict = given.verdict }

pub model_in : (bits : Bool) (c : NodeCheck) (pairs : List (ℕ × ℕ)) → AreModelValues c pairs → IsGivenIn bits c (Sat pairs)
model_in bits c pairs values = record { readable = readable_later bits (Sat pairs) values.readable; right = values.right; verdict = tt }
