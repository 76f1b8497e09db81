use Rattle.std.proofs.Common.{◌≡◌, ◌+◌, ◌<◌, ◌++◌, ◌∷◌, [], get_or, length, refl, sym, ap, ◌∙◌, subst, inl, inr, arith, is_some}
use Rattle.std.proofs.lemmas.Bool.{cases_eq, false≢true}
use Rattle.std.proofs.lemmas.Map.Views.{length-le_from_below}
use Rattle.ffc_mono.specs.Leading.{IsLeading}
use Rattle.ffc_line.specs.Lines.{polys_of}
use Rattle.ffc_basis.specs.PairTable.{ArePairs}
use Rattle.ffc_basis.specs.declared.pair.PairRecord.{PairRecord}
use Rattle.ffc_basis.specs.declared.pair.PairState.TheVariants.{Pending}
use Rattle.ffc_basis.proofs.DivisorLemmas.{open_begins, zero_column}
use Rattle.ffc_basis.proofs.FewLemmas.{pairs_nothing, pairs_more, pairs_one}
use Rattle.ffc_basis.proofs.Lists.{poly_at, length-polys}
use Rattle.ffc_basis.proofs.PairTableLemmas.{IsOpenColumn, open_ended, open_pushed, pairs_paired, pairs_push}
use Rattle.ffc_basis.proofs.PartnerLemmas.{below_rest}
use Rattle.ffc_basis.proofs.pairing.pair_line.Goals as goal

pub returns-in_default-clause-paired : goal.returns-in_default-clause-paired
returns-in_default-clause-paired g c =
    let p = g.F.Field.ORDER in
    let cmp = g.O.MonoOrder.cmp in
    let lines = c.args.lines.now in
    let second = c.args.second in
    let empty : (get_or lines second c.index-lines-second.result).poly ≡ [] = c.lead.ensures.zero.0 (ap is_some c.in_default.is) in
    pairs_paired p cmp (polys_of lines) c.args.records.now.items second (omega (arith, c.requires.within, length-polys lines)) c.requires.pairs
    (zero_column p cmp (polys_of lines) c.args.records.now.items second (poly_at lines second c.index-lines-second.result c.requires.within ∙ empty))

pub loop-first-init : goal.loop-first-init
loop-first-init g c =
    let p = g.F.Field.ORDER in
    let cmp = g.O.MonoOrder.cmp in
    let lines = c.args.lines.now in
    let gs = polys_of lines in
    let second = c.args.second in
    let keys = c.in_ok-partners.partners.keys in
    let d = g.F.Field.value c.in-Some.field-0-0 in
    let m = c.in-Some.lead.powers.now in
    let within : second < length gs = omega (arith, c.requires.within, length-polys lines) in
    let lead : IsLeading p cmp (get_or gs second []) d m =
    subst (λ ts. IsLeading p cmp ts d m) (sym (poly_at lines second c.index-lines-second.result c.requires.within)) c.in-Some.ensures.leading in
    record {
      pairs = c.requires.pairs;
      column = open_begins p g.met.F.Field.prime cmp g.met.O.MonoOrder.laws gs c.args.index.now c.requires.index c.args.records.now.items second keys within d m lead c.in_ok-partners.ensures.all;
      below = c.in_ok-partners.ensures.only;
      most = (0, pairs_nothing second c.args.records.now.items, omega (arith, length-le_from_below second keys c.len-count.ensures.ordered c.in_ok-partners.ensures.only));
    }

pub loop-first-preserved : goal.loop-first-preserved
loop-first-preserved g c =
    let p = g.F.Field.ORDER in
    let cmp = g.O.MonoOrder.cmp in
    let lines = c.args.lines.now in
    let gs = polys_of lines in
    let second = c.args.second in
    let first = c.in-Some-pop_first.first in
    let rest = c.pop_first.new.self.keys in
    let before = c.loop-first.records.items in
    let both = below_rest second first rest c.loop-first.partners.keys c.in-Some-pop_first.ensures.removal c.loop-first.invariant.below in
    let pair : PairRecord = record { first = first; second = second; state = Pending } in
    let e : c.push.new.self.items ≡ before ++ pair ∷ [] = c.in_ok-push.ensures.items in
    let (n, paired, fits) = c.loop-first.invariant.most in
    record {
      pairs = subst (λ rs. ArePairs p cmp gs rs second) (sym e) (pairs_push p cmp gs before second pair both.0 (omega (arith, c.requires.within, length-polys lines)) refl c.loop-first.invariant.pairs);
      column = subst (λ rs. IsOpenColumn p cmp gs rs second rest) (sym e)
          (open_pushed p cmp gs before second first rest pair refl refl (subst (IsOpenColumn p cmp gs before second) c.in-Some-pop_first.ensures.removal c.loop-first.invariant.column));
      below = both.1;
      most = (n + 1, pairs_one second n c.args.records.now.items before c.push.new.self.items pair refl refl e paired, omega (arith, fits, ap length c.in-Some-pop_first.ensures.removal));
    }

pub returns-clause-paired : goal.returns-clause-paired
returns-clause-paired g c =
    let p = g.F.Field.ORDER in
    let cmp = g.O.MonoOrder.cmp in
    let lines = c.args.lines.now in
    let gs = polys_of lines in
    let keys = c.loop-first.partners.keys in
    let none : length keys ≡ 0 =
    elim (cases_eq (length keys) 0) [
      | inl same ↦ same
      | inr other ↦ absurd (false≢true (sym (ap is_some c.in_default-pop_first.is) ∙ c.pop_first.ensures.variant.1 (omega (arith, other))))
    ] in
    pairs_paired p cmp gs c.loop-first.records.items c.args.second (omega (arith, c.requires.within, length-polys lines)) c.loop-first.invariant.pairs
    (open_ended p cmp gs c.loop-first.records.items c.args.second keys none c.loop-first.invariant.column)

pub returns-clause-more : goal.returns-clause-more
returns-clause-more g c =
    let (n, paired, fits) = c.loop-first.invariant.most in
    pairs_more c.args.second n c.args.second c.args.records.now.items c.loop-first.records.items (omega (arith, fits)) paired
