-- The nodes of terms that were read, and the table without them.
use Rattle.std.proofs.Common.{◌≡◌, ℕ, ◌<◌, ◌≤◌, List, [], length, take, sym, ap, ◌∙◌, subst, arith}
use Rattle.std.proofs.lemmas.List.{take-append-le, take_all}
use Rattle.std.proofs.lemmas.Option.{slice_get_within}
use Rattle.ffc_term.specs.declared.node.Node.{Node}
use Rattle.ffc_term.specs.declared.node.Node.TheVariants.{IteField, Eq}
use Rattle.ffc_term.specs.Tables.{IsTable, CanCut, second_equality}
use Rattle.ffc_term.proofs.NodeLemmas.{IsNodeAt-append_left}
use Rattle.ffc_parts.specs.Growing.{Grows}
use Rattle.ffc_smt.specs.Meaning.{Env}
use Rattle.ffc_smt.specs.Terms.{Term, weight}
use Rattle.ffc_smt.specs.CommandReading.{limits}
use Rattle.ffc_terms.specs.declared.codes.Op.{Op}
use Rattle.ffc_terms.specs.declared.scope.Meaning.{Meaning}
use Rattle.ffc_terms.specs.declared.terms.TermRead.{TermRead}
use Rattle.ffc_terms.specs.Codes.{IsCode, capped_weight}
use Rattle.ffc_making.specs.Machine.{IsCodeOf}
use Rattle.ffc_elab.specs.Making.{IsSoundRead}

-- What was put after a table may be dropped.

pub grown_cut : (old new : List Node) (n : ℕ) → IsTable old → Grows old new → n ≡ length old → CanCut new n
grown_cut old new n table grows e =
    subst (CanCut new) (sym e) (subst (λ ns. CanCut ns (length old)) (sym grows.put)
    (λ t x a b at below. slice_get_within old (second_equality t a b) (Eq t b) (table.equalities t x a b (IsNodeAt-append_left old grows.more t (IteField x a b) below at)).1))

pub grown_front : (old new : List Node) (n : ℕ) → Grows old new → n ≡ length old → take n new ≡ old
grown_front old new n grows e =
    ap (λ k. take k new) e ∙ ap (take (length old)) grows.put ∙ take-append-le (length old) old grows.more (omega arith) ∙ take_all (length old) old (omega arith)

-- A weight that is light is not capped.

pub read_code : (nodes : List Node) (symbols : Env Meaning) (t : Term) (read : TermRead) (code : List Op) → code ≡ read.code.items → read.weight ≤ limits.weight → IsSoundRead nodes symbols t read
    → IsCodeOf nodes symbols t read.weight code
read_code nodes symbols t read code same light h = record {
  constants = h.constants;
  count = h.count;
  sort = h.sort;
  table = h.table;
  sound = h.sound;
  is = subst (IsCode nodes symbols [] t) (sym same) h.code;
  light = omega (arith, light, h.weight_is);
}

pub light_weight : (t : Term) (w : ℕ) → w ≡ capped_weight (weight t) → w ≤ limits.weight → weight t ≤ limits.weight
light_weight t w e light = omega (arith, e, light)

pub heavy_weight : (t : Term) (w : ℕ) → w ≡ capped_weight (weight t) → limits.weight < w → limits.weight < weight t
heavy_weight t w e heavy = omega (arith, e, heavy)
