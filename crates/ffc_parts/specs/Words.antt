-- What a token is as a word or as a name, by its kind and its bytes.
use Rattle.std.specs.Prelude.{ℕ, Bool, false, ◌&&◌, List, None, Some}
use Rattle.std.specs.Str.{bytes_eq}
use Rattle.ffc_lex.specs.declared.tokens.TokenKind.{TokenKind}
use Rattle.ffc_lex.specs.Names.{is_reserved_word}
use Rattle.ffc_smt.specs.Trees.{is_symbol, name_by_kind}

-- `is_word` of a token of this kind and these bytes
abbrev pub is_kind_of_word : List ℕ → TokenKind → List ℕ → Bool
is_kind_of_word word kind bytes = is_symbol kind && is_reserved_word bytes && bytes_eq bytes word

-- `is_named` of it
abbrev pub is_name_by_kind : List ℕ → TokenKind → List ℕ → Bool
is_name_by_kind name kind bytes = elim (name_by_kind kind bytes) [ None ↦ false | Some n ↦ bytes_eq n name ]
