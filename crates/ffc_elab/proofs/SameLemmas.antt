-- Where the same is kept, and where the table is cut back to what it was.
use Rattle.std.proofs.Common.{◌≡◌, List, sym, ap, ◌∙◌, subst}
use Rattle.ffc_field.specs.Orders.{order_of_id}
use Rattle.std.specs.Prelude.{option_map}
use Rattle.ffc_term.specs.declared.node.Node.{Node}
use Rattle.ffc_smt.specs.Meaning.{Env}
use Rattle.ffc_smt.specs.Scopes.{scope_of}
use Rattle.ffc_parts.specs.Heads.{options_of}
use Rattle.ffc_terms.specs.declared.scope.Meaning.{Meaning}
use Rattle.ffc_terms.specs.Codes.{AreMeanings}
use Rattle.ffc_elab.specs.declared.store.Store.{Store}
use Rattle.ffc_elab.specs.Histories.{Known}
use Rattle.ffc_elab.specs.Kept.{IsKept}
use Rattle.ffc_elab.specs.Changes.{IsSame}

pub same_keeps : (k : Known) (x y : Store) → IsSame x y → IsKept k x → IsKept k y
same_keeps k x y e h = record {
  logic = e.logic ∙ h.logic;
  options = ap options_of e.options ∙ h.options;
  marks = e.marks ∙ h.marks;
  levels = h.levels;
  scope = record {
    terms = subst (λ (v : Env Meaning). AreMeanings k.state.nodes v (scope_of k.state).names) (sym e.terms) h.scope.terms;
    sorts = e.sorts ∙ h.scope.sorts;
  };
  nodes = e.table ∙ h.nodes;
  constants = e.constants ∙ h.constants;
  first = ap (option_map order_of_id) e.first ∙ h.first;
  in_force = e.in_force ∙ h.in_force;
  names = e.names ∙ h.names;
  assumed = e.assumed ∙ h.assumed;
  declared = e.declared ∙ h.declared;
  declared_nodes = e.declared_nodes ∙ h.declared_nodes;
}

-- nodes came, the same was kept, and they went
pub same_cut : (x y z w : Store) (nodes more : List Node) → y ≡ record x { table = nodes } → IsSame y z → w ≡ record z { table = more } → more ≡ x.table → IsSame x w
same_cut x y z w nodes more came kept went back =
    subst (IsSame x) (sym went)
    (let e : IsSame (record x { table = nodes }) z = subst (λ v. IsSame v z) came kept in
    record {
      logic = e.logic;
      options = e.options;
      marks = e.marks;
      terms = e.terms;
      sorts = e.sorts;
      table = back;
      constants = e.constants;
      first = e.first;
      in_force = e.in_force;
      names = e.names;
      assumed = e.assumed;
      declared = e.declared;
      declared_nodes = e.declared_nodes;
    })

-- nodes came and went
pub same_nodes : (x y : Store) (nodes : List Node) → y ≡ record x { table = nodes } → nodes ≡ x.table → y ≡ x
same_nodes x y nodes e back = e ∙ ap (λ ns. record x { table = ns }) back
