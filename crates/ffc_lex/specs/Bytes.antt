-- Classes of bytes: SMT-LIB 2.6, section 3.1 (lexicon), for this project's scripts. A word here is what the standard
-- spells numerals, decimals, simple symbols and reserved words with; outside strings, quoted symbols and comments no
-- byte above 126 is allowed.
use Rattle.std.specs.Prelude.{ℕ, Bool, false, ◌==◌, ◌&&◌, ◌||◌, nat_le, codes, if◌then◌else◌}
use Rattle.std.specs.List.{list_any}
use Rattle.ffc_lex.specs.declared.byte_classes.ByteClass.{ByteClass}
use Rattle.ffc_lex.specs.declared.byte_classes.ByteClass.TheVariants.{White, Semicolon, LeftParen, RightParen, Bar, Quote, Colon, Hash, Word, Other}

-- the decimal digits
abbrev pub is_digit : ℕ → Bool
is_digit c = nat_le 48 c && nat_le c 57

-- the letters
abbrev pub is_letter : ℕ → Bool
is_letter c = (nat_le 65 c && nat_le c 90) || (nat_le 97 c && nat_le c 122)

-- one of ~ ! @ $ % ^ & * _ - + = < > . ? /
abbrev pub is_mark : ℕ → Bool
is_mark c = list_any (λ d. c == d) (codes "~!@$%^&*_-+=<>.?/")

-- what a word is made of
unfoldable pub is_word_byte : ℕ → Bool
is_word_byte c = is_letter c || is_digit c || is_mark c

-- tab, LF, CR and space
abbrev pub is_white : ℕ → Bool
is_white c = c == 9 || c == 10 || c == 13 || c == 32

-- what ends a comment
unfoldable pub is_line_end : ℕ → Bool
is_line_end c = c == 10 || c == 13

-- what may be inside a string or a quoted symbol, but for what ends it: 32 to 126, 128 to 255, tab, LF and CR
unfoldable pub is_text_byte : ℕ → Bool
is_text_byte c = is_white c || (nat_le 32 c && nat_le c 126) || (nat_le 128 c && nat_le c 255)

-- what may be between the bars of a quoted symbol: no bar and no backslash
unfoldable pub is_quoted_byte : ℕ → Bool
is_quoted_byte c = if c == 124 then false else if c == 92 then false else is_text_byte c

-- what a byte is, at the start of a token or between two
unfoldable pub byte_class : ℕ → ByteClass
byte_class c =
    if is_white c then White else
    if c == 59 then Semicolon else
    if c == 40 then LeftParen else
    if c == 41 then RightParen else
    if c == 124 then Bar else
    if c == 34 then Quote else
    if c == 58 then Colon else
    if c == 35 then Hash else
    if is_word_byte c then Word else Other
