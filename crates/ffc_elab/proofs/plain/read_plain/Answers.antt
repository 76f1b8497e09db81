use Rattle.std.proofs.Common.{[], List, ℕ, sym, ◌∙◌}
use Rattle.ffc_smt.specs.Meaning.{found}
use Rattle.ffc_smt.specs.Faults.{read_map}
use Rattle.ffc_smt.specs.CommandReading.{get_info, get_option, infos, keyword_read, logic_read, options, string_read}
use Rattle.ffc_words.specs.Words.{word_at}
use Rattle.ffc_elab.proofs.PlainLemmas.{one_outcome, logic_leaf, string_leaf, keyword_leaf, mapped_leaf, keyword_ended}
use Rattle.ffc_elab.proofs.plain.read_plain.Goals as goal

pub returns-in-SetLogic-clause-reads : goal.returns-in-SetLogic-clause-reads
returns-in-SetLogic-clause-reads c = λ s items closing logic level at order.
    rw c.in-SetLogic.is
    (c.set_logic.ensures.reads ∙ sym (one_outcome (logic_read) c.args.words.now 2 items closing [] logic_leaf at order))

pub returns-in-GetOption-clause-reads : goal.returns-in-GetOption-clause-reads
returns-in-GetOption-clause-reads c = λ s items closing logic level at order.
    let w = word_at c.args.words.now 2 in
    let asks = λ (key : List ℕ). get_option (found options key) in
    rw c.in-GetOption.is
    (c.get_option.ensures.reads ∙ sym (keyword_ended asks w (word_at c.args.words.now 3))
    ∙ sym (one_outcome (λ t. read_map (λ w. asks w.bytes) (keyword_read t)) c.args.words.now 2 items closing [] (mapped_leaf (λ w. asks w.bytes) keyword_read keyword_leaf) at order))

pub returns-in-GetInfo-clause-reads : goal.returns-in-GetInfo-clause-reads
returns-in-GetInfo-clause-reads c = λ s items closing logic level at order.
    let w = word_at c.args.words.now 2 in
    let asks = λ (key : List ℕ). get_info (found infos key) in
    rw c.in-GetInfo.is
    (c.get_info.ensures.reads ∙ sym (keyword_ended asks w (word_at c.args.words.now 3))
    ∙ sym (one_outcome (λ t. read_map (λ w. asks w.bytes) (keyword_read t)) c.args.words.now 2 items closing [] (mapped_leaf (λ w. asks w.bytes) keyword_read keyword_leaf) at order))

pub returns-in-Echo-clause-reads : goal.returns-in-Echo-clause-reads
returns-in-Echo-clause-reads c = λ s items closing logic level at order.
    rw c.in-Echo.is
    (c.echo.ensures.reads ∙ sym (one_outcome (string_read) c.args.words.now 2 items closing [] string_leaf at order))

pub returns-in-SetLogic-clause-within : goal.returns-in-SetLogic-clause-within
returns-in-SetLogic-clause-within c = c.set_logic.ensures.within c.args.level

pub returns-in-SetOption-clause-within : goal.returns-in-SetOption-clause-within
returns-in-SetOption-clause-within c = c.set_option.ensures.within c.args.level

pub returns-in-SetInfo-clause-within : goal.returns-in-SetInfo-clause-within
returns-in-SetInfo-clause-within c = c.set_info.ensures.within c.args.level

pub returns-in-CheckSat-clause-within : goal.returns-in-CheckSat-clause-within
returns-in-CheckSat-clause-within c = c.alone.ensures.within c.args.level tt

pub returns-in-GetUnsatCore-clause-within : goal.returns-in-GetUnsatCore-clause-within
returns-in-GetUnsatCore-clause-within c = c.alone-in-GetUnsatCore.ensures.within c.args.level tt

pub returns-in-GetUnsatAssumptions-clause-within : goal.returns-in-GetUnsatAssumptions-clause-within
returns-in-GetUnsatAssumptions-clause-within c = c.alone-in-GetUnsatAssumptions.ensures.within c.args.level tt

pub returns-in-GetModel-clause-within : goal.returns-in-GetModel-clause-within
returns-in-GetModel-clause-within c = c.alone-in-GetModel.ensures.within c.args.level tt

pub returns-in-ResetAssertions-clause-within : goal.returns-in-ResetAssertions-clause-within
returns-in-ResetAssertions-clause-within c = c.alone-in-ResetAssertions.ensures.within c.args.level tt

pub returns-in-Reset-clause-within : goal.returns-in-Reset-clause-within
returns-in-Reset-clause-within c = c.alone-in-Reset.ensures.within c.args.level tt

pub returns-in-Exit-clause-within : goal.returns-in-Exit-clause-within
returns-in-Exit-clause-within c = c.alone-in-Exit.ensures.within c.args.level tt
