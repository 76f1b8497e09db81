use Rattle.std.proofs.Common.{◌≡◌, ◌+◌, ◌<◌, [], ◌∷◌, ◌++◌, length, map, take, get_or, Some, refl, sym, ap, ◌∙◌, subst, arith, length-take}
use Rattle.std.specs.Prelude.{slice_get}
use Rattle.std.proofs.lemmas.List.{length-map, map_more}
use Rattle.std.proofs.lemmas.Option.{slice_get_read, slice_get-get_or, slice_get_within}
use Rattle.ffc_uni.specs.Univariate.{Coefficients}
use Rattle.ffc_lemmatree.specs.declared.endings.RootCase.{RootCase}
use Rattle.ffc_single.specs.declared.trials.Cases.{Cases as FoundCases}
use Rattle.ffc_single.specs.Outcomes.{IsFirstZero, AreCasesAt}
use Rattle.ffc_single.proofs.CaseLemmas.{one_more_case}
use Rattle.ffc_single.proofs.DividingLemmas.{low_at}
use Rattle.ffc_single.proofs.trials.try_roots.Goals as goal

pub loop-number-preserved : goal.loop-number-preserved
loop-number-preserved g c =
    let p = g.F.Field.ORDER in
    let value = g.F.Field.value in
    let ids = c.args.ids.now in
    let forms = c.args.forms.now in
    let zeros = c.args.zeros.now in
    let i = c.loop-number.number in
    let root = c.index-zeros-number.result in
    let place = c.in-Some.place in
    let first : IsFirstZero p (value root) forms place = c.in-Some.ensures.some in
    let inside : place < length forms = slice_get_within forms place first.form first.at in
    let f : Coefficients = c.index-forms-place.result in
    let at : slice_get forms place ≡ Some f = slice_get_read forms (length forms) place f refl inside c.index-forms-place.is in
    let same = c.requires.same in
    let id_at : slice_get ids place ≡ Some (get_or ids place 0) = slice_get-get_or ids place 0 (omega (arith, inside, same)) in
    let in_zeros : i < length zeros = c.loop-number-test.true in
    let taken = c.loop-number.invariant.taken in
    let takes = c.loop-number.invariant.takes in
    let one_unit = c.in_default.ensures.one_unit in
    let short = c.in_ok-without_root.ensures.short in
    let f_low = low_at 256 forms place f c.requires.low at in
    let before : length (map value (take i zeros)) ≡ i = length-map (take i zeros) value ∙ omega (arith, length-take i zeros, in_zeros) in
    let listed : map value (take i zeros) ++ value root ∷ [] ≡ map value (take (i + 1) zeros) =
    ap (λ n. map value (take i zeros) ++ n ∷ []) (ap value c.index-zeros-number.is) ∙ sym (map_more value zeros i root in_zeros) in
    let new : FoundCases g.row.F.Denot = record { disequations = c.push.new.self; cases = c.push-in-loop-number.new.self } in
    let case : RootCase g.row.F.Denot = record { disequation = i; quotient = c.in_ok-without_root.field-0 } in
    record {
      cases = subst (λ zs. AreCasesAt p zs ids forms new) listed
          (one_more_case p ids forms (map value (take i zeros)) c.loop-number.found new (value root) place (get_or ids place 0) f case c.loop-number.invariant.cases id_at at (sym before)
          c.in_ok-without_root.ensures.division (omega (arith, short, f_low)) c.in_ok-push.ensures.items c.in_ok-push-2.ensures.items);
      takes = record { same_budget = c.take.ensures.same_budget ∙ takes.same_budget; taken = omega (arith, takes.taken, one_unit) };
      taken = omega (arith, one_unit, taken);
    }
