-- The code of a certificate that ends too early is 4, and no other fault has it.
use Rattle.std.proofs.Common.{◌≡◌, ◌↔◌, ℕ, ◌+◌, ◌==◌, nat_lt, Bool, ◌&&◌, true, false, cond, List, [], ◌∷◌, length, take, Option, Some, None, Result, Ok, Err, refl, sym, ◌∙◌, subst, codes}
use Rattle.std.specs.Result.{IfErr}
use Rattle.std.proofs.lemmas.Bool.{false≢true, eq-eqb}
use Rattle.std.proofs.lemmas.Option.{none-some, same_Some}
use Rattle.std.specs.Str.{bytes_eq}
use Rattle.std.specs.List.{slice_split}
use Rattle.ffc_cert.specs.declared.TheConstants.{MAX_BYTES}
use Rattle.ffc_cert.specs.declared.flaws.Flaw.{Flaw}
use Rattle.ffc_cert.specs.declared.flaws.Flaw.TheVariants.{Form, Number, Missing}
use Rattle.ffc_cert.specs.declared.entries.CertFault.{CertFault}
use Rattle.ffc_cert.specs.declared.entries.CertLine.{CertLine}
use Rattle.ffc_cert.specs.declared.entries.Numbered.{Numbered}
use Rattle.ffc_cert.specs.declared.forms.Opening.{Opening}
use Rattle.ffc_cert.specs.declared.forms.Opening.TheVariants as openings
use Rattle.ffc_cert.specs.declared.forms.Awaited.{Awaited}
use Rattle.ffc_cert.specs.declared.progress.Place.{Place}
use Rattle.ffc_cert.specs.declared.progress.Place.TheVariants.{Header, Between, Assignment, Refutation}
use Rattle.ffc_cert.specs.declared.progress.Progress.{Progress}
use Rattle.ffc_cert.specs.Lines.{opening_at, value_at, line_at}
use Rattle.ffc_cert.specs.Reading.{Next, Halt, Move, Give, End, Complete, Open, Stopped, Reading, awaited_after, is_whole, begun, code_of, with_value, with_line, limited, after, header_line, opening_line, assignment_line, refutation_line, fault_at, next_in, next_at, read, read_parts, reading_of, origin, is_line_end, end_at, is_complete, end_after, cut_end, stop_fault}
use Rattle.ffc_rules.specs.Entries.{Broken, Limits, NodeCheck, entry_fault_within, limits}
use Rattle.ffc_rules.specs.Judging.{Judgement, Refused, Rule, checks_in, end_judgement, first_broken, judge, judgement_of}
use Rattle.ffc_verify.specs.Status.{IsNotEnough}
use Rattle.ffc_verify.specs.Laws.{MayGoOn}

-- no other code than 4
abbrev IsOther : CertFault → Type 0
IsOther f = (f.code == 4) ≡ false

-- a line that is at fault has another code
HasOther : Next → Type 0
HasOther (Halt fault) = IsOther fault
HasOther (Move q) = Unit {0}
HasOther (Give entry q) = Unit {0}

either : (b : Bool) (x y : Next) → HasOther x → HasOther y → HasOther (cond b x y)
either true x y one two = one
either false x y one two = two

after_other : {A : Type 0} (r : Result A CertFault) (next : A → Next) → IfErr r IsOther → ((x : A) → HasOther (next x)) → HasOther (after r next)
unfolding HasOther
after_other (Err fault) next other all = other
after_other (Ok x) next other all = all x

flaw_other : (cut : Bool) (flaw : Flaw) (p : Progress) → IsOther (fault_at (code_of cut flaw) p)
unfolding code_of
flaw_other cut Form p = refl
flaw_other cut Number p = refl
flaw_other true Missing p = refl
flaw_other false Missing p = refl

limited_other : {A : Type 0} (line : List ℕ) (p : Progress) (r : Result A Flaw) → IfErr (limited line p r) IsOther
unfolding limited
limited_other line p (Err flaw) = flaw_other (nat_lt MAX_BYTES (length line)) flaw p
limited_other line p (Ok x) = by_size (nat_lt MAX_BYTES (p.bytes + (length line + 1)))
  where
    by_size : (b : Bool) → IfErr (cond b (Err (fault_at 5 p)) (Ok x)) IsOther
    by_size true = refl
    by_size false = tt

begun_other : (size : ℕ) (p : Progress) (o : Opening) → HasOther (begun size p o)
unfolding HasOther begun
begun_other size p (openings.Assignment n) = either (n == 0) _ _ tt tt
begun_other size p (openings.Refutation n) = either (n == 0) _ _ tt tt
begun_other size p (openings.Whole entry) = tt

value_other : (left size : ℕ) (p : Progress) (v : ℕ × ℕ) → HasOther (with_value left size p v)
unfolding HasOther with_value
value_other left size p v = either (left == 1) _ _ tt tt

line_other : (a : Awaited) (size : ℕ) (p : Progress) (x : CertLine) → HasOther (with_line a size p x)
unfolding HasOther with_line
line_other a size p x = either (is_whole (awaited_after x a)) _ _ tt tt

next_other : (place : Place) (wanted : ℕ) (p : Progress) (line : List ℕ) → HasOther (next_in place wanted p line)
unfolding HasOther next_in header_line opening_line assignment_line refutation_line
next_other Header wanted p line =
    either (bytes_eq line (codes "ffcert 1")) _ _ tt (either (bytes_eq line (codes "ffcert 2")) _ _ tt (either (p.bits && bytes_eq line (codes "ffcert 3")) _ _ tt refl))
next_other Between wanted p line = either (p.complete == wanted) _ _ refl (after_other (limited line p (opening_at line)) _ (limited_other line p (opening_at line)) (begun_other (length line + 1) p))
next_other (Assignment left) wanted p line = after_other (limited line p (value_at line)) _ (limited_other line p (value_at line)) (value_other left (length line + 1) p)
next_other (Refutation awaited) wanted p line = after_other (limited line p (line_at p.version awaited line)) _ (limited_other line p (line_at p.version awaited line)) (line_other awaited (length line + 1) p)

-- a text that ends too early has the code 4, and one that is at fault whatever follows another
abbrev pub HasItsCode : End → Type 0
HasItsCode Complete = Unit {0}
HasItsCode (Open fault) = fault.code ≡ 4
HasItsCode (Stopped fault) = IsOther fault

cut_code : (n : Next) (p : Progress) → HasOther n → HasItsCode (cut_end n p)
unfolding HasOther cut_end
cut_code (Halt fault) p other = other
cut_code (Move q) p other = refl
cut_code (Give entry q) p other = refl

after_code : (rest : List ℕ) (p : Progress) → HasItsCode (end_after rest p)
unfolding end_after
after_code [] p = tt
after_code (c ∷ cs) p = refl

line_has : (wanted : ℕ) (p : Progress) (line : List ℕ) → HasOther (next_at wanted p line)
unfolding next_at
line_has wanted p line = next_other p.place wanted p (take (MAX_BYTES + 1) line)

end_code : (wanted : ℕ) (p : Progress) (rest : List ℕ) → HasItsCode (end_at wanted p rest)
unfolding end_at
end_code wanted p rest = by_size (nat_lt MAX_BYTES (length rest)) (is_complete p.place p.complete wanted)
  where
    by_size : (long beyond : Bool) → HasItsCode (cond long (cut_end (next_at wanted p rest) p) (cond beyond (end_after rest p) (Open (fault_at 4 p))))
    by_size true beyond = cut_code (next_at wanted p rest) p (line_has wanted p rest)
    by_size false true = after_code rest p
    by_size false false = refl

read_code : (wanted : ℕ) (p : Progress) (part : List ℕ) (parts : List (List ℕ)) → HasItsCode (read wanted p part parts).end
unfolding read HasOther
read_code wanted p part [] = end_code wanted p part
read_code wanted p part (next ∷ parts) = by_next (next_at wanted p part) (line_has wanted p part) (λ q. read_code wanted q next parts)
  where
    by_next : (n : Next) → HasOther n → ((q : Progress) → HasItsCode (read wanted q next parts).end)
        → HasItsCode (elim n as (λ _. Reading) [ Halt fault ↦ record { entries = []; end = Stopped fault } | Move q ↦ read wanted q next parts | Give entry q ↦ record { entries = entry ∷ (read wanted q next parts).entries; end = (read wanted q next parts).end } ]).end
    by_next (Halt fault) other later = other
    by_next (Move q) other later = later q
    by_next (Give entry q) other later = later q

end_has_its_code : (bits : Bool) (wanted : ℕ) (text : List ℕ) → HasItsCode (reading_of bits wanted text).end
end_has_its_code bits wanted text = by_parts (slice_split is_line_end text)
  where
    by_parts : (parts : List (List ℕ)) → HasItsCode (read_parts wanted (origin bits) parts).end
    by_parts [] = end_code wanted (origin bits) []
    by_parts (part ∷ parts) = read_code wanted (origin bits) part parts

-- The judgement where the text ends here

end_goes_on : (entries : List Numbered) (end : End) → HasItsCode end → (stop_fault end ≡ None) ↔ MayGoOn (end_judgement entries end)
end_goes_on entries Complete code = ((λ e. tt), (λ h. refl))
end_goes_on entries (Open fault) code = ((λ e. code), (λ h. refl))
end_goes_on entries (Stopped fault) code = ((λ e. absurd (none-some fault (sym e))), (λ h. absurd (false≢true (sym code ∙ eq-eqb fault.code 4 h))))

-- a broken rule ends the reading
broken_ends : (l : Limits) (checks : List NodeCheck) (entries : List Numbered) (j : Judgement) → first_broken l checks entries ≡ Some j → MayGoOn j → ⊥
unfolding first_broken
broken_ends l checks [] j e h = none-some j e
broken_ends l [] (x ∷ entries) j e h = none-some j e
broken_ends l (d ∷ checks) (x ∷ entries) j e h = by_first (entry_fault_within l d x.entry x.first_line) e (λ f. broken_ends l checks entries j f h)
  where
    by_first : (o : Option Broken) → elim o as (λ _. Option Judgement) [ Some broken ↦ Some (Refused x.number broken.line (Rule broken.rule)) | None ↦ first_broken l checks entries ] ≡ Some j → (first_broken l checks entries ≡ Some j → ⊥) → ⊥
    by_first (Some broken) is on = subst MayGoOn (sym (same_Some _ j is)) h
    by_first None is on = on is

-- What the whole entries and the end say of a front, they say of the judgement where nothing follows.

goes_on : (checks : List NodeCheck) (r : Reading) → HasItsCode r.end → first_broken limits checks r.entries ≡ None → stop_fault r.end ≡ None → MayGoOn (judgement_of limits checks r)
unfolding judgement_of
goes_on checks r code rules form = by_none (first_broken limits checks r.entries) rules
  where
    by_none : (o : Option Judgement) → o ≡ None → MayGoOn (elim o as (λ _. Judgement) [ Some refused ↦ refused | None ↦ end_judgement r.entries r.end ])
    by_none (Some j) e = absurd (none-some j (sym e))
    by_none None e = (end_goes_on r.entries r.end code).0 form

unsettled : (checks : List NodeCheck) (r : Reading) → HasItsCode r.end → MayGoOn (judgement_of limits checks r) → (first_broken limits checks r.entries ≡ None) × (stop_fault r.end ≡ None)
unfolding judgement_of
unsettled checks r code h = by_broken (first_broken limits checks r.entries) refl h
  where
    by_broken : (o : Option Judgement) → first_broken limits checks r.entries ≡ o → MayGoOn (elim o as (λ _. Judgement) [ Some refused ↦ refused | None ↦ end_judgement r.entries r.end ]) → (first_broken limits checks r.entries ≡ None) × (stop_fault r.end ≡ None)
    by_broken (Some j) is on = absurd (broken_ends limits checks r.entries j is on)
    by_broken None is on = (is, (end_goes_on r.entries r.end code).1 on)

pub not_enough_goes_on : (bits : Bool) (script front : List ℕ) → IsNotEnough bits script front ↔ MayGoOn (judge bits script front)
not_enough_goes_on bits script front =
    let checks = checks_in script in
    let r = reading_of bits (length checks) front in
    let code = end_has_its_code bits (length checks) front in (
      (λ n. goes_on checks r code n.rules n.form),
      (λ h. let both = unsettled checks r code h in record { form = both.1; rules = both.0 }),
    )
