-- A certificate gives no more entries than are wanted.
use Rattle.std.proofs.Common.{◌≡◌, ℕ, ◌+◌, ◌==◌, ◌<◌, ◌≤◌, Bool, ◌&&◌, true, false, cond, List, [], ◌∷◌, length, take, Result, Ok, Err, refl, arith, codes}
use Rattle.std.proofs.lemmas.Bool.{false≢true}
use Rattle.std.proofs.lemmas.Bool.Decides.{nat_tests}
use Rattle.std.specs.Str.{bytes_eq}
use Rattle.std.specs.List.{slice_split}
use Rattle.ffc_cert.specs.declared.TheConstants.{MAX_BYTES}
use Rattle.ffc_cert.specs.declared.entries.CertFault.{CertFault}
use Rattle.ffc_cert.specs.declared.entries.CertLine.{CertLine}
use Rattle.ffc_cert.specs.declared.forms.Opening.{Opening}
use Rattle.ffc_cert.specs.declared.forms.Opening.TheVariants as openings
use Rattle.ffc_cert.specs.declared.forms.Awaited.{Awaited}
use Rattle.ffc_cert.specs.declared.progress.Place.{Place}
use Rattle.ffc_cert.specs.declared.progress.Place.TheVariants.{Header, Between, Assignment, Refutation}
use Rattle.ffc_cert.specs.declared.progress.Progress.{Progress}
use Rattle.ffc_cert.specs.Lines.{opening_at, value_at, line_at}
use Rattle.ffc_cert.specs.Reading.{Next, Halt, Move, Give, Stopped, Reading, awaited_after, is_whole, begun, with_value, with_line, limited, after, header_line, opening_line, assignment_line, refutation_line, fault_at, next_in, next_at, read, read_parts, reading_of, origin, is_line_end}

-- an entry was begun, and is not complete
abbrev is_within : Place → Bool
is_within Header = false
is_within Between = false
is_within (Assignment left) = true
is_within (Refutation awaited) = true

record Fits (wanted : ℕ) (p : Progress) : Type 0 where
  pub few : p.complete ≤ wanted
  pub awaited : is_within p.place ≡ true → p.complete < wanted

-- the state after a line from a place where fewer are complete
Leads : ℕ → Progress → Next → Type 0
Leads wanted p (Halt fault) = Unit {0}
Leads wanted p (Move q) = (q.complete ≡ p.complete) × Fits wanted q
Leads wanted p (Give entry q) = (q.complete ≡ p.complete + 1) × Fits wanted q

either : (wanted : ℕ) (p : Progress) (b : Bool) (x y : Next) → Leads wanted p x → Leads wanted p y → Leads wanted p (cond b x y)
either wanted p true x y one two = one
either wanted p false x y one two = two

after_leads : {A : Type 0} (wanted : ℕ) (p : Progress) (r : Result A CertFault) (next : A → Next) → ((x : A) → Leads wanted p (next x)) → Leads wanted p (after r next)
unfolding Leads
after_leads wanted p (Err fault) next all = tt
after_leads wanted p (Ok x) next all = all x

module _ (wanted : ℕ) (p : Progress) (lt : p.complete < wanted) where
  begun_leads : (size : ℕ) (o : Opening) → Leads wanted p (begun size p o)
  unfolding Leads begun
  begun_leads size (openings.Assignment n) =
      either wanted p (n == 0) _ _ (refl, record { few = omega arith; awaited = λ e. absurd (false≢true e) }) (refl, record { few = omega arith; awaited = λ e. lt })
  begun_leads size (openings.Refutation n) =
      either wanted p (n == 0) _ _ (refl, record { few = omega arith; awaited = λ e. absurd (false≢true e) }) (refl, record { few = omega arith; awaited = λ e. lt })
  begun_leads size (openings.Whole entry) = (refl, record { few = omega arith; awaited = λ e. absurd (false≢true e) })

  value_leads : (left size : ℕ) (v : ℕ × ℕ) → Leads wanted p (with_value left size p v)
  unfolding Leads with_value
  value_leads left size v =
      either wanted p (left == 1) _ _ (refl, record { few = omega arith; awaited = λ e. absurd (false≢true e) }) (refl, record { few = omega arith; awaited = λ e. lt })

  line_leads : (a : Awaited) (size : ℕ) (x : CertLine) → Leads wanted p (with_line a size p x)
  unfolding Leads with_line
  line_leads a size x =
      either wanted p (is_whole (awaited_after x a)) _ _ (refl, record { few = omega arith; awaited = λ e. absurd (false≢true e) }) (refl, record { few = omega arith; awaited = λ e. lt })

ne_below : (n wanted : ℕ) → (n == wanted) ≡ false → n ≤ wanted → n < wanted
ne_below n wanted e le = grind (arith, nat_tests)

between_leads : (wanted : ℕ) (p : Progress) (line : List ℕ) (b : Bool) → (p.complete == wanted) ≡ b → p.complete ≤ wanted → Leads wanted p (cond b (Halt (fault_at 2 p)) (opening_line p line))
unfolding Leads opening_line
between_leads wanted p line true e few = tt
between_leads wanted p line false e few = after_leads wanted p (limited line p (opening_at line)) _ (begun_leads wanted p (ne_below p.complete wanted e few) (length line + 1))

next_leads : (place : Place) (wanted : ℕ) (p : Progress) (line : List ℕ) → p.complete ≤ wanted → (is_within place ≡ true → p.complete < wanted) → Leads wanted p (next_in place wanted p line)
unfolding Leads next_in header_line assignment_line refutation_line
next_leads Header wanted p line few h =
    let named : (version : ℕ) → Fits wanted (record p { version = version; place = Between; line = p.line + 1; first_line = p.line + 1 }) = λ version. record { few = few; awaited = λ e. absurd (false≢true e) } in
    either wanted p (bytes_eq line (codes "ffcert 1")) _ _ (refl, named 1)
    (either wanted p (bytes_eq line (codes "ffcert 2")) _ _ (refl, named 2) (either wanted p (p.bits && bytes_eq line (codes "ffcert 3")) _ _ (refl, named 3) tt))
next_leads Between wanted p line few h = between_leads wanted p line (p.complete == wanted) refl few
next_leads (Assignment left) wanted p line few h = after_leads wanted p (limited line p (value_at line)) _ (value_leads wanted p (h refl) left (length line + 1))
next_leads (Refutation awaited) wanted p line few h = after_leads wanted p (limited line p (line_at p.version awaited line)) _ (line_leads wanted p (h refl) awaited (length line + 1))

read_few : (wanted : ℕ) (p : Progress) (part : List ℕ) (parts : List (List ℕ)) → Fits wanted p → p.complete + length (read wanted p part parts).entries ≤ wanted
unfolding read next_at Leads
read_few wanted p part [] fits = let few = fits.few in omega arith
read_few wanted p part (next ∷ parts) fits = by_next (next_at wanted p part) leads (λ q h. read_few wanted q next parts h)
  where
    leads : Leads wanted p (next_at wanted p part)
    leads = next_leads p.place wanted p (take (MAX_BYTES + 1) part) fits.few fits.awaited

    by_next : (n : Next) → Leads wanted p n → ((q : Progress) → Fits wanted q → q.complete + length (read wanted q next parts).entries ≤ wanted)
        → p.complete + length (elim n as (λ _. Reading) [ Halt fault ↦ record { entries = []; end = Stopped fault } | Move q ↦ read wanted q next parts | Give entry q ↦ record { entries = entry ∷ (read wanted q next parts).entries; end = (read wanted q next parts).end } ]).entries ≤ wanted
    by_next (Halt fault) counts later = let few = fits.few in omega arith
    by_next (Move q) counts later = let e = later q counts.1 in omega (arith, counts.0, e)
    by_next (Give entry q) counts later = let e = later q counts.1 in omega (arith, counts.0, e)

pub entries_few : (bits : Bool) (wanted : ℕ) (text : List ℕ) → length (reading_of bits wanted text).entries ≤ wanted
unfolding read
entries_few bits wanted text = by_parts (slice_split is_line_end text)
  where
    first : Fits wanted (origin bits)
    first = record { few = omega arith; awaited = λ e. absurd (false≢true e) }

    by_parts : (parts : List (List ℕ)) → length (read_parts wanted (origin bits) parts).entries ≤ wanted
    by_parts [] = omega arith
    by_parts (part ∷ parts) = let k = read_few wanted (origin bits) part parts first in omega arith
