use Rattle.std.proofs.Common.{◌≡◌, List, ℕ, [], ◌∷◌, ◌++◌, sym, ap, ◌∙◌, subst}
use Rattle.ffc_smt.specs.Answering.{asked_text}
use Rattle.ffc_smt.specs.TableChecks.{node_of}
use Rattle.ffc_making.specs.Machine.{IsCodeOf}
use Rattle.ffc_elab.proofs.AskedNodeLemmas.{code_of_next, node_is}
use Rattle.ffc_elab.proofs.asked_nodes.make_one.Goals as goal

pub returns : goal.returns
returns c = λ a h.
    let old = c.args.table.now in
    let new = c.make.new.table in
    let done = c.in-Ok.ensures a.term
    (subst (IsCodeOf old c.args.symbols.now.terms a.term 16777216) (sym c.deref.ensures.value) (code_of_next c.args.words.now old c.args.symbols.now a c.args.term.now h)) in
    let node : c.in-Ok.node ≡ node_of new a.term = sym (node_is old new a.term c.in-Ok.node done.made) in
    let text : c.in_ok-text.text ≡ asked_text a = c.in_ok-text.ensures a.tree h.read.rest h.read.written h.read.next in
    record {
      nodes = ap (λ m. m.nodes) done.made;
      put = c.in_ok-push.ensures.items ∙ ap (λ n. c.args.asked.now.items ++ record { node = n; text = c.in_ok-text.text } ∷ []) node
          ∙ ap (λ (t : List ℕ). c.args.asked.now.items ++ record { node = node_of new a.term; text = t } ∷ []) text;
      grows = done.grows;
    }
