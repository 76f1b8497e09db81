use Rattle.std.proofs.Common.{◌≡◌, ◌+◌, true, false, Ok, Err, sym, ap, ◌∙◌, subst, arith}
use Rattle.ffc_elab.specs.Reading.{end_at, result_as}
use Rattle.ffc_elab.specs.AskedLists.{IsMissing, ReadsItems, listed_read}
use Rattle.ffc_words.specs.Words.{word_at, fault_of}
use Rattle.ffc_elab.proofs.ListEndLemmas.{after, inner_there, inner_order, missing_term, items_stop, room, end_missing, list_read_so}
use Rattle.ffc_elab.proofs.asked_lists.inner_list.Goals as goal

pub returns-then-is_missing : goal.returns-then-is_missing
returns-then-is_missing c = λ nodes s opening last closing inner items scope at order.
    let words = c.args.words.now in
    let is : IsMissing c.args.listed (word_at words 3).kind true = subst (λ k. IsMissing c.args.listed k true) c.kind.ensures (subst (IsMissing c.args.listed c.kind.result) c.if-is_missing.true c.is_missing.ensures) in
    missing_term c.args.listed s words closing opening last inner items at order is ∙ ap Err (sym c.fault.ensures)

pub returns-in-Err : goal.returns-in-Err
returns-in-Err c = λ nodes s opening last closing inner items scope at order.
    let words = c.args.words.now in
    let symbols = c.args.symbols.now in
    let which = c.args.listed in
    let some : IsMissing which (word_at words 3).kind false = subst (λ k. IsMissing which k false) c.kind.ensures (subst (IsMissing which c.kind.result) c.if-is_missing.false c.is_missing.ensures) in
    let rest = after which s words closing opening last inner items at order in
    items_stop which s words closing opening last inner items at order some nodes symbols c.in-Err.stop
    (subst (ReadsItems nodes symbols words (listed_read which s) inner last rest) c.in-Err.is
    (c.read_items.ensures nodes s inner last rest scope (inner_there which s words closing opening last inner items at order) (inner_order which s words closing opening last inner items at order)))

pub returns-in-Err-end_at : goal.returns-in-Err-end_at
returns-in-Err-end_at c = λ nodes s opening last closing inner items scope at order.
    let words = c.args.words.now in
    let symbols = c.args.symbols.now in
    let which = c.args.listed in
    let some : IsMissing which (word_at words 3).kind false = subst (λ k. IsMissing which k false) c.kind.ensures (subst (IsMissing which c.kind.result) c.if-is_missing.false c.is_missing.ensures) in
    let rest = after which s words closing opening last inner items at order in
    let read = subst (ReadsItems nodes symbols words (listed_read which s) inner last rest) c.in-Ok.is
    (c.read_items.ensures nodes s inner last rest scope (inner_there which s words closing opening last inner items at order) (inner_order which s words closing opening last inner items at order)) in
    let l = c.in-Ok.list in
    let few = room which s words closing opening last inner items at order some nodes symbols l read in
    let next : c.saturating_add.result ≡ l.next + 1 = omega (arith, c.saturating_add.ensures, few, c.len-len.ensures, c.len-len.type_inv) in
    let end : Err (fault_of c.in-Err-end_at.fault) ≡ end_at (word_at words c.saturating_add.result) = sym (ap (result_as (λ u. u)) c.in-Err-end_at.is) ∙ c.end_at.ensures in
    end_missing which s words closing opening last inner items at order some nodes symbols l read (fault_of c.in-Err-end_at.fault)
    (ap (λ i. end_at (word_at words i)) (sym next) ∙ sym end)

pub returns-in-Ok-end_at : goal.returns-in-Ok-end_at
returns-in-Ok-end_at c = λ nodes s opening last closing inner items scope at order.
    let words = c.args.words.now in
    let symbols = c.args.symbols.now in
    let which = c.args.listed in
    let some : IsMissing which (word_at words 3).kind false = subst (λ k. IsMissing which k false) c.kind.ensures (subst (IsMissing which c.kind.result) c.if-is_missing.false c.is_missing.ensures) in
    let rest = after which s words closing opening last inner items at order in
    let read = subst (ReadsItems nodes symbols words (listed_read which s) inner last rest) c.in-Ok.is
    (c.read_items.ensures nodes s inner last rest scope (inner_there which s words closing opening last inner items at order) (inner_order which s words closing opening last inner items at order)) in
    let l = c.in-Ok.list in
    let few = room which s words closing opening last inner items at order some nodes symbols l read in
    let next : c.saturating_add.result ≡ l.next + 1 = omega (arith, c.saturating_add.ensures, few, c.len-len.ensures, c.len-len.type_inv) in
    let end : Ok tt ≡ end_at (word_at words c.saturating_add.result) = sym (ap (result_as (λ u. u)) c.in-Ok-end_at.is) ∙ c.end_at.ensures in
    list_read_so which s words closing opening last inner items at order some nodes symbols l read
    (ap (λ i. end_at (word_at words i)) (sym next) ∙ sym end)
