-- A form that a lexer just gave is the last one.
use Rattle.std.proofs.Common.{◌≡◌, ℕ, suc, ◌+◌, List, Option, Some, None, sym, ap, ◌∙◌, arith}
use Rattle.ffc_lex.specs.declared.faults.ScriptFault.{ScriptFault}
use Rattle.ffc_lex.specs.declared.tokens.Token.{Token}
use Rattle.ffc_lex.specs.Lexing.{Lexing, due_form, next_form_of}
use Rattle.ffc_words.specs.Given.{IsGiven}

due_next : (fault : Option ScriptFault) (text : List ℕ) (given : ℕ) (form : List Token) → Some form ≡ due_form fault text given → next_form_of text given ≡ Some form
due_next None text given form e = sym e
due_next (Some f) text given form e = cc

pub given_now : (old new : Lexing) (form : List Token) → Some form ≡ due_form old.fault old.text old.given → new ≡ record old { given = old.given + 1 } → IsGiven form new
given_now old new form due is =
    let counted : new.given ≡ suc old.given = ap (λ (l : Lexing). l.given) is ∙ omega arith in
    let text : new.text ≡ old.text = ap (λ (l : Lexing). l.text) is in
    record { before = old.given; count = counted; last = ap (λ t. next_form_of t old.given) text ∙ due_next old.fault old.text old.given form due }
