-- The first broken entry, the counts and the cores of lists of entries.
use Rattle.std.proofs.Common.{◌≡◌, List, [], ◌∷◌, ◌++◌, length, Some, None, Option, refl, sym, ap, ◌∙◌, arith, append-nil, append_assoc}
use Rattle.std.proofs.lemmas.Option.{none-some}
use Rattle.ffc_cert.specs.declared.entries.Entry.{Entry}
use Rattle.ffc_cert.specs.declared.entries.Entry.TheVariants.{Sat, UnsatCases, UnsatSteps, Unknown}
use Rattle.ffc_cert.specs.declared.entries.Numbered.{Numbered}
use Rattle.ffc_smt.specs.TableChecks.{TableCheck}
use Rattle.ffc_rules.specs.Entries.{NodeCheck, Limits, Broken, entry_fault_within}
use Rattle.ffc_rules.specs.Judging.{Counts, Judgement, Refused, Rule, counted, counts_of, first_broken}
use Rattle.ffc_verify.specs.Due.{entry_core, entries_cores}

abbrev Next : Numbered → Option Judgement → Option Broken → Option Judgement
Next e later o = elim o as (λ _. Option Judgement) [ Some broken ↦ Some (Refused e.number broken.line (Rule broken.rule)) | None ↦ later ]

broken_cons : (l : Limits) (c : NodeCheck) (cs : List NodeCheck) (e : Numbered) (es : List Numbered)
    → first_broken l (c ∷ cs) (e ∷ es) ≡ Next e (first_broken l cs es) (entry_fault_within l c e.entry e.first_line)
unfolding first_broken
broken_cons l c cs e es = refl

broken_no_entries : (l : Limits) (cs : List NodeCheck) → first_broken l cs [] ≡ None
unfolding first_broken
broken_no_entries l [] = refl
broken_no_entries l (c ∷ cs) = refl

next_none : (e : Numbered) (later : Option Judgement) (o : Option Broken) → Next e later o ≡ None → (o ≡ None) × (later ≡ None)
next_none e later (Some b) h = absurd (none-some _ (sym h))
next_none e later None h = (refl, h)

-- where the first entries break no rule, the first broken one is among the others
pub broken_append : (l : Limits) (cs ds : List NodeCheck) (es fs : List Numbered) → length cs ≡ length es → first_broken l cs es ≡ None → first_broken l (cs ++ ds) (es ++ fs) ≡ first_broken l ds fs
broken_append l [] ds [] fs long none = refl
broken_append l [] ds (e ∷ es) fs long none = absurd (omega arith)
broken_append l (c ∷ cs) ds [] fs long none = absurd (omega arith)
broken_append l (c ∷ cs) ds (e ∷ es) fs long none =
    let both = next_none e (first_broken l cs es) (entry_fault_within l c e.entry e.first_line) (sym (broken_cons l c cs e es) ∙ none) in
    broken_cons l c (cs ++ ds) e (es ++ fs) ∙ ap (Next e (first_broken l (cs ++ ds) (es ++ fs))) both.0 ∙ broken_append l cs ds es fs (omega arith) both.1

pub broken_none : (l : Limits) (cs ds : List NodeCheck) (es : List Numbered) → length cs ≡ length es → first_broken l cs es ≡ None → first_broken l (cs ++ ds) es ≡ None
broken_none l cs ds es long none = ap (first_broken l (cs ++ ds)) (sym (append-nil es)) ∙ broken_append l cs ds es [] long none ∙ broken_no_entries l ds

-- one more entry that breaks no rule
pub broken_more : (l : Limits) (cs : List NodeCheck) (c : NodeCheck) (es : List Numbered) (e : Numbered) → length cs ≡ length es → first_broken l cs es ≡ None
    → entry_fault_within l c e.entry e.first_line ≡ None → first_broken l (cs ++ c ∷ []) (es ++ e ∷ []) ≡ None
broken_more l cs c es e long none kept =
    broken_append l cs (c ∷ []) es (e ∷ []) long none ∙ broken_cons l c [] e [] ∙ ap (Next e (first_broken l [] [])) kept ∙ broken_no_entries l []

-- one that does
pub broken_there : (l : Limits) (cs : List NodeCheck) (c : NodeCheck) (ds : List NodeCheck) (es : List Numbered) (e : Numbered) (fs : List Numbered) (b : Broken) → length cs ≡ length es → first_broken l cs es ≡ None
    → entry_fault_within l c e.entry e.first_line ≡ Some b → first_broken l (cs ++ c ∷ ds) (es ++ e ∷ fs) ≡ Some (Refused e.number b.line (Rule b.rule))
broken_there l cs c ds es e fs b long none is = broken_append l cs (c ∷ ds) es (e ∷ fs) long none ∙ broken_cons l c ds e fs ∙ ap (Next e (first_broken l ds fs)) is

-- Counts

counted_twice : (a b : Entry) (n : Counts) → counted a (counted b n) ≡ counted b (counted a n)
counted_twice (Sat p) (Sat q) n = refl
counted_twice (Sat p) UnsatCases n = refl
counted_twice (Sat p) (UnsatSteps xs) n = refl
counted_twice (Sat p) (Unknown c) n = refl
counted_twice UnsatCases (Sat q) n = refl
counted_twice UnsatCases UnsatCases n = refl
counted_twice UnsatCases (UnsatSteps xs) n = refl
counted_twice UnsatCases (Unknown c) n = refl
counted_twice (UnsatSteps ys) (Sat q) n = refl
counted_twice (UnsatSteps ys) UnsatCases n = refl
counted_twice (UnsatSteps ys) (UnsatSteps xs) n = refl
counted_twice (UnsatSteps ys) (Unknown c) n = refl
counted_twice (Unknown d) (Sat q) n = refl
counted_twice (Unknown d) UnsatCases n = refl
counted_twice (Unknown d) (UnsatSteps xs) n = refl
counted_twice (Unknown d) (Unknown c) n = refl

pub counts_more : (es : List Numbered) (e : Numbered) → counts_of (es ++ e ∷ []) ≡ counted e.entry (counts_of es)
counts_more [] e = refl
counts_more (f ∷ es) e = ap (counted f.entry) (counts_more es e) ∙ counted_twice f.entry e.entry (counts_of es)

-- Cores

pub cores_more : (cs : List TableCheck) (c : TableCheck) (es : List Numbered) (e : Numbered) → length cs ≡ length es → entries_cores (cs ++ c ∷ []) (es ++ e ∷ []) ≡ entries_cores cs es ++ entry_core c e
cores_more [] c [] e long = append-nil (entry_core c e)
cores_more [] c (f ∷ es) e long = absurd (omega arith)
cores_more (d ∷ cs) c [] e long = absurd (omega arith)
cores_more (d ∷ cs) c (f ∷ es) e long = ap (λ text. entry_core d f ++ text) (cores_more cs c es e (omega arith)) ∙ sym (append_assoc (entry_core d f) (entries_cores cs es) (entry_core c e))
