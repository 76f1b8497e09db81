use Rattle.std.proofs.Common.{◌≡◌, [], is_some, List, ℕ, Bool, refl, sym, ap, ◌∙◌, Ok}
use Rattle.ffc_smt.specs.Trees.{Leaf}
use Rattle.ffc_smt.specs.Meaning.{found}
use Rattle.ffc_smt.specs.Scopes.{scope_of}
use Rattle.ffc_smt.specs.CommandReading.{fresh_read, is_taken}
use Rattle.ffc_elab.specs.declared.defining.Definition.{Definition}
use Rattle.ffc_words.specs.Words.{fault_of, word_at}
use Rattle.ffc_words.specs.Outcomes.{outcome}
use Rattle.ffc_elab.specs.Reading.{result_as, later_items}
use Rattle.ffc_elab.proofs.NamingLemmas.{meanings_taken}
use Rattle.ffc_elab.proofs.DefineReading.{unnamed, after_name, order_after, no_parameters, some_parameters, no_body, some_body}
use Rattle.ffc_elab.proofs.defining.read_definition.Goals as goal

pub returns-in-Err : goal.returns-in-Err
returns-in-Err c = λ s items closing scope at order.
    let symbols = c.args.symbols.now in
    let test : List ℕ → Bool = λ name. is_some (found symbols.terms name) in
    unnamed s symbols.terms test (λ name. meanings_taken s.nodes symbols.terms (scope_of s).names name scope.terms) c.args.words.now items closing at order (fault_of c.in-Err.fault)
    (sym (ap (result_as (λ b. b.now)) c.in-Err.is) ∙ c.fresh_name.ensures)

pub returns-in-Err-parameters_at : goal.returns-in-Err-parameters_at
returns-in-Err-parameters_at c = λ s items closing scope at order.
    let symbols = c.args.symbols.now in
    let words = c.args.words.now in
    let test : List ℕ → Bool = λ name. is_some (found symbols.terms name) in
    let same : (name : List ℕ) → test name ≡ is_taken s name = λ name. meanings_taken s.nodes symbols.terms (scope_of s).names name scope.terms in
    let name = c.in-Ok.name.now in
    let named : Ok name ≡ outcome (fresh_read test (Leaf (word_at words 2))) = sym (ap (result_as (λ b. b.now)) c.in-Ok.is) ∙ c.fresh_name.ensures in
    let left = later_items items in
    let here = after_name s symbols.terms test same words items closing at order name named in
    let after = order_after s symbols.terms test same words items closing at order name named in
    no_parameters s symbols.terms test same words items closing at order name named left c.in-Err-parameters_at.stop refl (c.in-Err-parameters_at.ensures s left closing [] scope.sorts here after) s.nodes symbols

pub returns-in-Err-sort_and_body : goal.returns-in-Err-sort_and_body
returns-in-Err-sort_and_body c = λ s items closing scope at order.
    let symbols = c.args.symbols.now in
    let words = c.args.words.now in
    let test : List ℕ → Bool = λ name. is_some (found symbols.terms name) in
    let same : (name : List ℕ) → test name ≡ is_taken s name = λ name. meanings_taken s.nodes symbols.terms (scope_of s).names name scope.terms in
    let name = c.in-Ok.name.now in
    let named : Ok name ≡ outcome (fresh_read test (Leaf (word_at words 2))) = sym (ap (result_as (λ b. b.now)) c.in-Ok.is) ∙ c.fresh_name.ensures in
    let left = later_items items in
    let here = after_name s symbols.terms test same words items closing at order name named in
    let after = order_after s symbols.terms test same words items closing at order name named in
    let p = c.in-Ok-parameters_at.read in
    let next = c.in-Ok-parameters_at.next in
    let has = some_parameters s symbols.terms test same words items closing at order name named left p next refl (c.in-Ok-parameters_at.ensures s left closing [] scope.sorts here after) in
    no_body s symbols.terms test same words items closing at order name named s.nodes symbols p next has c.in-Err-sort_and_body.stop
    (c.in-Err-sort_and_body.ensures s has.parameters has.others closing has.names scope has.here has.order_here)

pub returns-in-Ok-sort_and_body : goal.returns-in-Ok-sort_and_body
returns-in-Ok-sort_and_body c = λ s items closing scope at order.
    let symbols = c.args.symbols.now in
    let words = c.args.words.now in
    let test : List ℕ → Bool = λ name. is_some (found symbols.terms name) in
    let same : (name : List ℕ) → test name ≡ is_taken s name = λ name. meanings_taken s.nodes symbols.terms (scope_of s).names name scope.terms in
    let name = c.in-Ok.name.now in
    let named : Ok name ≡ outcome (fresh_read test (Leaf (word_at words 2))) = sym (ap (result_as (λ b. b.now)) c.in-Ok.is) ∙ c.fresh_name.ensures in
    let left = later_items items in
    let here = after_name s symbols.terms test same words items closing at order name named in
    let after = order_after s symbols.terms test same words items closing at order name named in
    let p = c.in-Ok-parameters_at.read in
    let next = c.in-Ok-parameters_at.next in
    let has = some_parameters s symbols.terms test same words items closing at order name named left p next refl (c.in-Ok-parameters_at.ensures s left closing [] scope.sorts here after) in
    let d : Definition = record { name = c.in-Ok.name; parameters = p.sorts; sort = c.in-Ok-sort_and_body.sort; body = c.in-Ok-sort_and_body.body } in
    some_body s symbols.terms test same words items closing at order name named s.nodes symbols p next has d refl refl
    (c.in-Ok-sort_and_body.ensures s has.parameters has.others closing has.names scope has.here has.order_here)
