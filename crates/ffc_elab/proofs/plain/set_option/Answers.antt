use Rattle.std.proofs.Common.{◌≡◌, [], None, Some, Ok, Err, option_map, sym, ap, ◌∙◌}
use Rattle.ffc_smt.specs.Meaning.{found}
use Rattle.ffc_smt.specs.CommandReading.{options}
use Rattle.ffc_parts.specs.Heads.{setting_of}
use Rattle.ffc_words.specs.Words.{word_at, fault_of}
use Rattle.ffc_elab.specs.Reading.{keyword_of, result_as}
use Rattle.ffc_elab.proofs.PlainLemmas.{option_refused, option_unknown, option_known}
use Rattle.ffc_elab.proofs.plain.set_option.Goals as goal

pub returns-in-Err-clause-reads : goal.returns-in-Err-clause-reads
returns-in-Err-clause-reads c = λ s items closing logic at order.
    let e : keyword_of (word_at c.args.words.now 2) ≡ Err (fault_of c.in-Err.fault) = sym c.keyword_at.ensures ∙ ap (result_as (λ b. b.now)) c.in-Err.is in
    sym (option_refused s c.args.words.now 2 items closing [] at order (fault_of c.in-Err.fault) e)

pub returns-in-None-clause-reads : goal.returns-in-None-clause-reads
returns-in-None-clause-reads c = λ s items closing logic at order.
    let key = c.in-Ok.key.now in
    let e : keyword_of (word_at c.args.words.now 2) ≡ Ok key = sym c.keyword_at.ensures ∙ ap (result_as (λ b. b.now)) c.in-Ok.is in
    let none : found options key ≡ None = sym c.setting_named.ensures ∙ ap (option_map setting_of) c.in-None.is in
    c.ended.ensures.reads ∙ sym (option_unknown s c.args.words.now 2 items closing [] at order key c.after_item-end.result e none (λ ts h. c.after_item-end.ensures ts closing [] h))

pub returns-in-Some-clause-reads : goal.returns-in-Some-clause-reads
returns-in-Some-clause-reads c = λ s items closing logic at order.
    let key = c.in-Ok.key.now in
    let e : keyword_of (word_at c.args.words.now 2) ≡ Ok key = sym c.keyword_at.ensures ∙ ap (result_as (λ b. b.now)) c.in-Ok.is in
    let known : found options key ≡ Some (setting_of c.in-Some.setting) = sym c.setting_named.ensures ∙ ap (option_map setting_of) c.in-Some.is in
    c.set_known.ensures.reads s logic ∙ sym (option_known s c.args.words.now 2 items closing [] at order key (setting_of c.in-Some.setting) e known)
