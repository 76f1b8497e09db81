use Rattle.std.proofs.Common.{◌≡◌, ℕ, ◌<◌, List, [], length, Contains, unwrap_or, get_or, sym, ap, ◌∙◌, subst, arith}
use Rattle.std.proofs.lemmas.List.Elements.{Contains-get_or}
use Rattle.ffc_lex.specs.declared.tokens.Token.{Token}
use Rattle.ffc_lex.specs.declared.tokens.TokenKind.TheVariants.{LeftParen}
use Rattle.ffc_lex.specs.Lexing.{Lexing, last_form_of, IsOfLastForm}
use Rattle.ffc_words.specs.Given.{IsGiven}
use Rattle.ffc_words.proofs.form_words.FormWords.bytes.Goals as goal

last_is : (form : List Token) (l : Lexing) → IsGiven form l → last_form_of l.text l.given ≡ form
last_is form l g = ap (last_form_of l.text) g.count ∙ ap (λ o. unwrap_or o []) g.last

of_last_form : (form : List Token) (l : Lexing) (i : ℕ) (d : Token) → IsGiven form l → i < length form → IsOfLastForm (get_or form i d) l
of_last_form form l i d g within = subst (λ xs. Contains xs (get_or form i d)) (sym (last_is form l g)) (Contains-get_or form i d within)

pub bytes_of-requires : goal.bytes_of-requires
bytes_of-requires c =
    let tokens = c.self.inside.tokens.now in
    let lexer = c.self.inside.lexer.now in
    let within : c.args.at < length tokens =
    omega arith in
    of_last_form tokens lexer c.args.at (record { kind = LeftParen; start = 0; length = 0; line = 0; column = 0 }) c.self.invariant within
