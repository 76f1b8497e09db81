-- The names that scripts may not take, and how a symbol is written: SMT-LIB 2.6, section 3.1, with its reserved words and
-- command names, and the functions of the theories of this project's scripts (section 3.7 for the core theory).
use Rattle.std.specs.Prelude.{ℕ, ◌&&◌, not, Bool, List, [], ◌∷◌, ◌++◌, if◌then◌else◌, codes}
use Rattle.std.specs.List.{list_any}
use Rattle.std.specs.Str.{bytes_eq}
use Rattle.ffc_lex.specs.Words.{is_symbol_word}

abbrev pub reserved_words : List (List ℕ)
reserved_words =
    codes "!" ∷ codes "_" ∷ codes "as" ∷ codes "BINARY" ∷ codes "DECIMAL" ∷ codes "exists" ∷ codes "HEXADECIMAL" ∷
    codes "forall" ∷ codes "let" ∷ codes "match" ∷ codes "NUMERAL" ∷ codes "par" ∷ codes "STRING" ∷ codes "assert" ∷
    codes "check-sat" ∷ codes "check-sat-assuming" ∷ codes "declare-const" ∷ codes "declare-datatype" ∷
    codes "declare-datatypes" ∷ codes "declare-fun" ∷ codes "declare-sort" ∷ codes "define-fun" ∷
    codes "define-fun-rec" ∷ codes "define-funs-rec" ∷ codes "define-sort" ∷ codes "echo" ∷ codes "exit" ∷
    codes "get-assertions" ∷ codes "get-assignment" ∷ codes "get-info" ∷ codes "get-model" ∷ codes "get-option" ∷
    codes "get-proof" ∷ codes "get-unsat-assumptions" ∷ codes "get-unsat-core" ∷ codes "get-value" ∷ codes "pop" ∷
    codes "push" ∷ codes "reset" ∷ codes "reset-assertions" ∷ codes "set-info" ∷ codes "set-logic" ∷
    codes "set-option" ∷ []

abbrev pub theory_symbols : List (List ℕ)
theory_symbols =
    codes "true" ∷ codes "false" ∷ codes "not" ∷ codes "and" ∷ codes "or" ∷ codes "xor" ∷ codes "=>" ∷ codes "=" ∷
    codes "distinct" ∷ codes "ite" ∷ codes "ff.add" ∷ codes "ff.mul" ∷ codes "ff.neg" ∷ codes "ff.bitsum" ∷ []

abbrev pub is_reserved_word : List ℕ → Bool
is_reserved_word name = list_any (λ word. bytes_eq word name) reserved_words

abbrev pub is_theory_name : List ℕ → Bool
is_theory_name name = list_any (λ word. bytes_eq word name) theory_symbols

-- A symbol is written without bars where its name is a word that isn't reserved.
abbrev pub written_symbol : List ℕ → List ℕ
written_symbol name =
    if is_symbol_word name && not (is_reserved_word name) then name else 124 ∷ (name ++ 124 ∷ [])
