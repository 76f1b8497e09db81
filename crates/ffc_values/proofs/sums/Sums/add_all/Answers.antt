use Rattle.std.proofs.Common.{◌≡◌, [], ◌∷◌, ◌++◌, All, length, map, reverse, sym, ap, ◌∙◌, subst, arith, length-append}
use Rattle.std.proofs.lemmas.List.{length-reverse, reverse-reverse}
use Rattle.std.proofs.lemmas.List.Elements.{All-cons}
use Rattle.ffc_cert.specs.Ranges.{IsNarrow}
use Rattle.ffc_refutation.specs.Combinations.{Summand}
use Rattle.ffc_refutation.specs.Written.{multiple_of, IsNumbered}
use Rattle.ffc_values.specs.Steps.{Remains}
use Rattle.ffc_values.proofs.Steps.{all_remains, some_remains, popped}
use Rattle.ffc_values.proofs.sums.Sums.add_all.Goals as goal

pub loop-line-init : goal.loop-line-init
loop-line-init c =
    let ss = c.args.summands.items in
    let e : reverse c.reverse.new.self.items ≡ ss = ap reverse c.reverse.ensures.items ∙ reverse-reverse ss in
    record {
      adds = subst (λ xs. Remains (map multiple_of ss) (map multiple_of xs) c.args.self.now c.args.self.now) (sym e) (all_remains (map multiple_of ss) c.args.self.now);
      numbered = λ all. subst (All IsNumbered) e all;
      few = omega (arith, ap length c.reverse.ensures.items, length-reverse ss);
    }

pub loop-line-preserved : goal.loop-line-preserved
loop-line-preserved c =
    let s : Summand = (c.in-Some.line, c.in-Some.term) in
    let left = c.pop.new.self.items in
    let e : c.loop-line.left.items ≡ left ++ s ∷ [] = c.in-Some.ensures.items in
    let i = c.loop-line.invariant in
    let next : reverse c.loop-line.left.items ≡ s ∷ reverse left = popped c.loop-line.left.items left s e in
    let numbered : IsNumbered s = subst (All (λ f. IsNarrow f.0)) c.as_slice.ensures c.have_numbers.ensures in
    record {
      adds =
          some_remains (map multiple_of c.args.summands.items) (multiple_of s ∷ []) (map multiple_of (reverse left)) c.args.self.now c.loop-line.self c.add.new.self
          (subst (λ xs. Remains (map multiple_of c.args.summands.items) (map multiple_of xs) c.args.self.now c.loop-line.self) next i.adds) c.in_ok-add.ensures.adds;
      numbered = λ rest. i.numbered (subst (All IsNumbered) (sym next) (All-cons IsNumbered s (reverse left) numbered rest));
      few = omega (arith, c.in_ok-add.ensures.few, ap length e, length-append left (s ∷ []), i.few);
    }
