-- What a word is: SMT-LIB 2.6, section 3.1 (numerals, decimals, simple symbols, keywords), and the field literals of
-- finite-field scripts, #fNmP for N modulo P. A word is taken as the longest run of word bytes.
use Rattle.std.specs.Prelude.{ℕ, Bool, false, ◌==◌, List, [], ◌∷◌, take, drop, if◌then◌else◌, Option, Some, None}
use Rattle.std.specs.List.{list_all, prefix_len}
use Rattle.ffc_lex.specs.declared.tokens.TokenKind.{TokenKind}
use Rattle.ffc_lex.specs.declared.tokens.TokenKind.TheVariants.{Numeral, Decimal, Symbol, Keyword, FieldLiteral}
use Rattle.ffc_lex.specs.Bytes.{is_digit, is_word_byte}

-- 0, or digits that don't begin with 0
unfoldable pub is_numeral : List ℕ → Bool
is_numeral [] = false
is_numeral (c ∷ []) = is_digit c
is_numeral (c ∷ d ∷ ds) = if c == 48 then false else list_all is_digit (c ∷ d ∷ ds)

-- digits, and what comes after them
abbrev pub digits : List ℕ → List ℕ
digits word = take (prefix_len is_digit word) word

abbrev pub after_digits : List ℕ → List ℕ
after_digits word = drop (prefix_len is_digit word) word

-- a dot and one or more digits
abbrev pub is_fraction : List ℕ → Bool
is_fraction [] = false
is_fraction (c ∷ []) = false
is_fraction (c ∷ d ∷ ds) = if c == 46 then list_all is_digit (d ∷ ds) else false

-- a numeral, a dot, and one or more digits
unfoldable pub is_decimal : List ℕ → Bool
is_decimal word = if is_numeral (digits word) then is_fraction (after_digits word) else false

-- a word that doesn't begin with a digit
unfoldable pub is_symbol_word : List ℕ → Bool
is_symbol_word [] = false
is_symbol_word (c ∷ cs) = if is_digit c then false else list_all is_word_byte (c ∷ cs)

-- m and a numeral
abbrev pub is_order_part : List ℕ → Bool
is_order_part [] = false
is_order_part (c ∷ cs) = if c == 109 then is_numeral cs else false

-- a numeral, m, and a numeral
abbrev pub is_residue : List ℕ → Bool
is_residue word = if is_numeral (digits word) then is_order_part (after_digits word) else false

-- the same after an optional minus sign
abbrev pub is_signed_residue : List ℕ → Bool
is_signed_residue [] = false
is_signed_residue (c ∷ cs) = if c == 45 then is_residue cs else is_residue (c ∷ cs)

-- f, an optional minus sign, a numeral, m, and a numeral: what comes after the # of a field literal
unfoldable pub is_field_word : List ℕ → Bool
is_field_word [] = false
is_field_word (c ∷ cs) = if c == 102 then is_signed_residue cs else false

-- what token a word is by itself, if it is one
unfoldable pub word_kind : List ℕ → Option TokenKind
word_kind word =
    if is_symbol_word word then Some Symbol else
    if is_numeral word then Some Numeral else
    if is_decimal word then Some Decimal else None

-- what token a colon and a word are
unfoldable pub keyword_kind : List ℕ → Option TokenKind
keyword_kind word = if is_symbol_word word then Some Keyword else None

-- what token a # and a word are
unfoldable pub hash_kind : List ℕ → Option TokenKind
hash_kind word = if is_field_word word then Some FieldLiteral else None
