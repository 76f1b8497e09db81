-- The form that a lexer gives next.
use Rattle.std.proofs.Common.{◌≡◌, ℕ, suc, ◌+◌, List, Option, Some, None, sym, subst, arith}
use Rattle.std.proofs.lemmas.Option.{none-some}
use Rattle.ffc_lex.specs.declared.faults.ScriptFault.{ScriptFault}
use Rattle.ffc_lex.specs.declared.tokens.Token.{Token}
use Rattle.ffc_lex.specs.Lexing.{Lexing, due_form, next_form_of}
use Rattle.ffc_words.specs.Given.{IsGiven}

due_is_next : (fault : Option ScriptFault) (text : List ℕ) (given : ℕ) (form : List Token) → due_form fault text given ≡ Some form → next_form_of text given ≡ Some form
due_is_next None text given form due = due
due_is_next (Some fault) text given form due = absurd (none-some form due)

pub next_is_given : (old new : Lexing) (form : List Token) → due_form old.fault old.text old.given ≡ Some form → new ≡ record old { given = old.given + 1 } → IsGiven form new
next_is_given old new form due is =
    let count : old.given + 1 ≡ suc old.given = omega arith in
    subst (IsGiven form) (sym is) (record { before = old.given; count = count; last = due_is_next old.fault old.text old.given form due })
