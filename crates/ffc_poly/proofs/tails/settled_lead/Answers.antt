use Rattle.std.proofs.Common.{◌≡◌, ◌%◌, List, [], get_or, refl, sym, ap, ◌∙◌, true≢false}
use Rattle.ffc_mono.specs.declared.mono.TheConstants.{DEGREE_LIMIT}
use Rattle.ffc_ring.specs.Polynomial.{Terms, written}
use Rattle.ffc_poly.specs.Ordered.{sum_of}
use Rattle.ffc_poly.proofs.LeadLemmas.{empty_sum, top_leads}
use Rattle.ffc_poly.proofs.tails.settled_lead.Goals as goal

pub returns-in_default-clause-zero : goal.returns-in_default-clause-zero
returns-in_default-clause-zero g c = (
  λ _ m. sym (c.settled.ensures.same m) ∙ ap (λ t. written t m % g.F.Field.ORDER) (empty_sum c.settled.new.tails.items c.in_default.ensures.found),
  λ _. refl,
)

pub returns : goal.returns
returns g c =
    let xs = c.settled.new.tails.items in
    let i = c.in-Some.i in
    let k = g.F.Field.value c.in_ok-first.first.0 in
    let m = c.in_ok-first.first.1 in
    let first : (k, m) ≡ get_or (get_or xs i []) 0 (0, []) =
    c.in_ok-first.ensures ∙ ap (λ (ts : List Terms). get_or (get_or ts i []) 0 (0, [])) c.as_slice.ensures.value in
    let leads =
    top_leads g.F.Field.ORDER g.O.MonoOrder.cmp g.met.O.MonoOrder.laws DEGREE_LIMIT xs i c.settled.ensures.ordered c.in-Some.ensures.found (sum_of c.args.tails.now.items) k m c.settled.ensures.same first in
    record {
      ordered = c.settled.ensures.ordered;
      same = c.settled.ensures.same;
      zero = (λ none. absurd (true≢false none), λ zero. absurd (leads.1 zero));
      leading = leads.0;
      top = c.in-Some.ensures.found;
      first = first;
    }
