-- A part of an entry can be gone on with to the end of a well-formed entry.
use Rattle.std.proofs.Common.{◌≡◌, ℕ, zero, suc, ◌+◌, ◌<◌, ◌==◌, ◌&&◌, true, false, List, [], ◌∷◌, ◌++◌, length, refl, sym, ap, ◌∙◌, subst, arith, append_assoc, length-append}
use Rattle.std.specs.Prelude.{codes}
use Rattle.std.specs.List.{AllByRecursion, flat_map}
use Rattle.std.proofs.lemmas.List.Concat.{flat_map-append}
use Rattle.ffc_cert.specs.declared.entries.CertLine.{CertLine}
use Rattle.ffc_cert.specs.declared.entries.CertLine.TheVariants.{Assume, Step, Close}
use Rattle.ffc_cert.specs.declared.entries.Entry.TheVariants.{Sat, UnsatCases, UnsatSteps}
use Rattle.ffc_cert.specs.declared.forms.Awaited.{Awaited}
use Rattle.ffc_cert.specs.declared.progress.Place.{Place}
use Rattle.ffc_cert.specs.declared.progress.Place.TheVariants.{Header, Between, Assignment, Refutation}
use Rattle.ffc_cert.specs.declared.progress.Progress.{Progress}
use Rattle.ffc_cert.specs.Reading.{awaited_after, is_whole}
use Rattle.ffc_cert.specs.Spelling.{number, line_items, line_text, value_line, clauses, entry_text}
use Rattle.ffc_cert.specs.Ranges.{IsNarrow, IsLine, IsValue}
use Rattle.ffc_cert.specs.WellFormed.{LineFitsVersion}
use Rattle.ffc_cert.specs.FirstFault.{Begins}
use Rattle.ffc_cert.proofs.OpeningCodes.{value_items}
use Rattle.ffc_cert.proofs.GrammarLemmas.{awaiting, Completes, one_less, not_zero, and_false, tree_needed, clause_needed, clauses_shape}
use Rattle.ffc_cert.proofs.PrefixLemmas.{AreLines, entry_is}
use Rattle.ffc_cert.proofs.GivenLemmas.{InValues, InLines, At}
use Rattle.ffc_cert.proofs.TextLemmas.{lines_size}

pub all_append : {A : Type 0} (P : A → Type 0) (xs ys : List A) → AllByRecursion P xs → AllByRecursion P ys → AllByRecursion P (xs ++ ys)
all_append P [] ys h k = k
all_append P (x ∷ xs) ys h k = (h.0, all_append P xs ys h.1 k)

-- lines that end what is needed
pub record Filled (version : ℕ) (a : Awaited) : Type 0 where
  pub lines : List CertLine
  pub completes : Completes a lines
  pub are : AreLines version lines

step_due : (c t s : ℕ) → is_whole (awaiting c t (suc s)) ≡ false
unfolding is_whole
step_due c t s = rw (not_zero s, and_false (c == 0 && t == 0)) refl

clauses_filled : (version c : ℕ) → Filled version (awaiting c 0 0)
unfolding awaited_after is_whole
clauses_filled version zero = record { lines = []; completes = refl; are = record { ranges = tt; fits = tt } }
clauses_filled version (suc c) =
    let f = clauses_filled version c in
    record {
      lines = Assume 0 ∷ f.lines;
      completes = (clause_needed c 0 0, ((refl, refl), subst (λ n. Completes (awaiting n 0 0) f.lines) (sym (one_less c)) f.completes));
      are = record { ranges = (omega arith, f.are.ranges); fits = (tt, f.are.fits) };
    }

trees_filled : (version c t : ℕ) → Filled version (awaiting c t 0)
unfolding awaited_after
trees_filled version c zero = clauses_filled version c
trees_filled version c (suc t) =
    let f = trees_filled version c t in
    record {
      lines = Close ∷ f.lines;
      completes = (tree_needed c t 0, ((refl, omega arith), subst (λ n. Completes (awaiting c n 0) f.lines) (sym (one_less t)) f.completes));
      are = record { ranges = (tt, f.are.ranges); fits = (tt, f.are.fits) };
    }

steps_filled : (version c t s : ℕ) → Filled version (awaiting c t s)
unfolding awaited_after
steps_filled version c t zero = trees_filled version c t
steps_filled version c t (suc s) =
    let f = steps_filled version c t s in
    record {
      lines = Step [] [] ∷ f.lines;
      completes = (step_due c t s, (omega arith, subst (λ n. Completes (awaiting c t n) f.lines) (sym (one_less s)) f.completes));
      are = record { ranges = ((record { few = omega arith; each = tt }, record { few = omega arith; each = tt }), f.are.ranges); fits = (tt, f.are.fits) };
    }

pub filled : (version : ℕ) (a : Awaited) → Filled version a
filled version a = steps_filled version a.clauses a.trees a.steps

-- so many values
pub record AreZeros (n : ℕ) : Type 0 where
  pub values : List (ℕ × ℕ)
  pub count : length values ≡ n
  pub each : AllByRecursion IsValue values

pub zeros : (n : ℕ) → AreZeros n
zeros zero = record { values = []; count = refl; each = tt }
zeros (suc n) = let z = zeros n in record { values = (0, 0) ∷ z.values; count = ap suc z.count; each = ((omega arith, omega arith), z.each) }

-- lines after a first one, and more of them
pub longer : {A : Type 0} (text : A → List ℕ) (first : List ℕ) (xs ys : List A) → first ++ (10 ∷ flat_map text (xs ++ ys)) ≡ (first ++ (10 ∷ flat_map text xs)) ++ flat_map text ys
longer text first xs ys =
    ap (λ (zs : List ℕ). first ++ (10 ∷ zs)) (flat_map-append text xs ys) ∙ sym (append_assoc first (10 ∷ flat_map text xs) (flat_map text ys))

some_lines : (a : Awaited) (lines : List CertLine) → is_whole a ≡ false → Completes a lines → 0 < length lines
some_lines a [] more h = absurd (let clash : true ≡ false = sym h ∙ more in cc)
some_lines a (l ∷ lines) more h = omega arith

-- a part of an entry, and a well-formed entry that goes on from it
pub record IsUnfinished (version : ℕ) (part : List ℕ) : Type 0 where
  pub begun : Begins version part
  pub unfinished : 0 < length begun.more

module _ (version wanted : ℕ) (part : List ℕ) (p : Progress) where
  between_begun : part ≡ [] → IsUnfinished version part
  unfolding entry_text
  between_begun none = record {
    begun = record { entry = UnsatCases; more = entry_text UnsatCases; well_formed = tt; text_is = ap (λ (xs : List ℕ). xs ++ entry_text UnsatCases) (sym none) };
    unfinished = omega arith;
  }

  values_begun : (left : ℕ) → InValues wanted left part p → IsUnfinished version part
  values_begun left h =
      let z = zeros left in
      let count = length-append p.values z.values in
      let total : length (p.values ++ z.values) ≡ length p.values + left = omega (arith, count, z.count) in
      let size = lines_size value_line value_items (λ v. refl) z.values in
      record {
        begun = record {
          entry = Sat (p.values ++ z.values);
          more = flat_map value_line z.values;
          well_formed = record { few = omega (arith, total, h.few); each = all_append IsValue p.values z.values h.each z.each };
          text_is = entry_is (Sat (p.values ++ z.values)) ∙ longer value_line (codes "sat" ++ number (length (p.values ++ z.values))) p.values z.values
              ∙ ap (λ (n : ℕ). ((codes "sat" ++ number n) ++ (10 ∷ flat_map value_line p.values)) ++ flat_map value_line z.values) total
              ∙ ap (λ (xs : List ℕ). xs ++ flat_map value_line z.values) (sym h.text_is);
        };
        unfinished = omega (arith, size, z.count, h.some);
      }

  lines_begun : (a : Awaited) → InLines version wanted a part p → IsUnfinished version part
  lines_begun a h =
      let f = filled version a in
      let c = clauses_shape h.count (p.lines ++ f.lines) (h.leads f.lines f.completes) in
      let some = some_lines a f.lines h.more f.completes in
      let size = lines_size line_text line_items (λ l. refl) f.lines in
      record {
        begun = record {
          entry = UnsatSteps (p.lines ++ f.lines);
          more = flat_map line_text f.lines;
          well_formed = record {
            few = subst IsNarrow (sym c.count) h.few;
            order = c.order;
            ranges = all_append IsLine p.lines f.lines h.lines.ranges f.are.ranges;
            fits = all_append (LineFitsVersion version) p.lines f.lines h.lines.fits f.are.fits;
          };
          text_is = entry_is (UnsatSteps (p.lines ++ f.lines)) ∙ longer line_text (codes "unsat" ++ number (clauses (p.lines ++ f.lines))) p.lines f.lines
              ∙ ap (λ (n : ℕ). ((codes "unsat" ++ number n) ++ (10 ∷ flat_map line_text p.lines)) ++ flat_map line_text f.lines) c.count
              ∙ ap (λ (xs : List ℕ). xs ++ flat_map line_text f.lines) (sym h.text_is);
        };
        unfinished = omega (arith, size, some);
      }

  pub part_begun : (place : Place) → At version wanted place part p → IsUnfinished version part
  part_begun Header h = absurd h
  part_begun Between h = between_begun h.text_is
  part_begun (Assignment left) h = values_begun left h.0
  part_begun (Refutation a) h = lines_begun a h.0
