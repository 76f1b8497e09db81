use Rattle.ffc_lex.specs.declared.tokens.TokenKind.TheVariants as kinds
use Rattle.std.proofs.Common.{◌≡◌, refl, sym, ◌∙◌, subst}
use Rattle.ffc_elab.specs.Asked.{ReadsAsked}
use Rattle.ffc_elab.specs.AskedLists.{listed_read}
use Rattle.ffc_elab.proofs.AskedFaultLemmas.{listed_inside}
use Rattle.ffc_elab.proofs.AskedListLemmas.{here, after_here, tree_here, stays, stops_here, goes_on}
use Rattle.ffc_elab.proofs.asked_lists.AskedList.read_next.Goals as goal

pub returns-in-RightParen : goal.returns-in-RightParen
returns-in-RightParen c = λ nodes s items closing rest scope far h.
    stays nodes c.args.symbols.now c.args.words.now (listed_read c.args.listed s) (listed_inside c.args.listed s) items closing rest far c.args.self.now h (sym c.kind.ensures ∙ c.in-RightParen.is)

pub returns-in-Err : goal.returns-in-Err
returns-in-Err c = λ nodes s items closing rest scope far h.
    let symbols = c.args.symbols.now in
    let words = c.args.words.now in
    let read = listed_read c.args.listed s in
    let inner = listed_inside c.args.listed s in
    let l = c.args.self.now in
    let open_yet = λ (e : (Rattle.ffc_words.specs.Words.word_at words l.next).kind ≡ kinds.RightParen). c.in_default.not-RightParen (c.kind.ensures ∙ e) in
    let tree = here nodes symbols words read inner items closing rest far l h open_yet in
    stops_here nodes symbols words read inner items closing rest far l h open_yet l c.in-Err.stop
    (subst (ReadsAsked nodes symbols words (read tree) tree l.next) c.in-Err.is
    (c.listed_at.ensures nodes s tree (after_here nodes symbols words read inner items closing rest far l h open_yet) scope (tree_here nodes symbols words read inner items closing rest far l h open_yet)))

pub returns-in_ok-push-in_default : goal.returns-in_ok-push-in_default
returns-in_ok-push-in_default c = λ nodes s items closing rest scope far h.
    let symbols = c.args.symbols.now in
    let words = c.args.words.now in
    let read = listed_read c.args.listed s in
    let inner = listed_inside c.args.listed s in
    let l = c.args.self.now in
    let open_yet = λ (e : (Rattle.ffc_words.specs.Words.word_at words l.next).kind ≡ kinds.RightParen). c.in_default.not-RightParen (c.kind.ensures ∙ e) in
    let tree = here nodes symbols words read inner items closing rest far l h open_yet in
    goes_on nodes symbols words read inner items closing rest far l h open_yet c.in-Ok.term
    (subst (ReadsAsked nodes symbols words (read tree) tree l.next) c.in-Ok.is
    (c.listed_at.ensures nodes s tree (after_here nodes symbols words read inner items closing rest far l h open_yet) scope (tree_here nodes symbols words read inner items closing rest far l h open_yet)))
    (record { terms = c.push.new.self; weight = c.saturating_add-self.result; next = c.in-Ok.term.next }) c.in_ok-push-in_default.ensures.items c.saturating_add-self.ensures refl
