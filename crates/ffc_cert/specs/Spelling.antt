-- The text of a certificate. It is lines, each ended by LF; the items of a line are separated by single spaces. The form is
-- this project's own; `a`, `n`, `r`, `f` are clauses, `c`, `b`, `p`, `u`, `s`, `v`, `z` the lines of a clause's tree.
use Rattle.std.specs.Prelude.{ℕ, Bool, true, false, if◌then◌else◌, count_by, List, [], ◌∷◌, ◌++◌, length, Option, None, Some, codes, decimal}
use Rattle.std.specs.List.{flat_map}
use Rattle.ffc_cert.specs.declared.entries.Entry.{Entry}
use Rattle.ffc_cert.specs.declared.entries.Entry.TheVariants.{Sat, UnsatCases, UnsatSteps, Unknown}
use Rattle.ffc_cert.specs.declared.entries.Cause.{Cause}
use Rattle.ffc_cert.specs.declared.entries.Cause.TheVariants.{Degree, Terms, Steps, Memory}
use Rattle.ffc_cert.specs.declared.entries.CertLine.{CertLine}
use Rattle.ffc_cert.specs.declared.entries.CertLine.TheVariants.{Assume, Scheme, Hinted, Lemma, Combine, Bits, Chain, Step, Split, Values, Close}

-- The items of a line after its first one, each after a space.

abbrev pub number : ℕ → List ℕ
number n = 32 ∷ decimal n

abbrev pub literal : Bool × ℕ → List ℕ
literal l = 32 ∷ ((if l.0 then 43 else 45) ∷ decimal l.1)

-- how many, and then each
unfoldable pub counted : {A : Type 0} → (A → List ℕ) → List A → List ℕ
counted f xs = number (length xs) ++ flat_map f xs

-- a variable and its exponent
abbrev pub power : ℕ × ℕ → List ℕ
power p = number p.0 ++ number p.1

-- a coefficient, and its powers of variables
abbrev pub term : ℕ × List (ℕ × ℕ) → List ℕ
term t = number t.0 ++ counted power t.1

-- a line's number, and a polynomial
abbrev pub multiple : ℕ × List (ℕ × List (ℕ × ℕ)) → List ℕ
multiple m = number m.0 ++ counted term m.1

-- versions 2 and 3 name the order of a lemma
abbrev pub order_item : Option ℕ → List ℕ
order_item None = []
order_item (Some p) = number p

-- a line of a clause or a tree, without its LF
unfoldable pub line_items : CertLine → List ℕ
line_items (Assume k) = codes "a" ++ number k
line_items (Scheme node scheme index) = codes "n" ++ number node ++ number scheme ++ number index
line_items (Hinted lits hints) = codes "r" ++ counted literal lits ++ counted number hints
line_items (Lemma order lits) = codes "f" ++ order_item order ++ counted literal lits
line_items (Combine multiples) = codes "c" ++ counted multiple multiples
line_items (Bits line chosen polynomial bits) = codes "b" ++ number line ++ counted number chosen ++ counted term polynomial ++ counted number bits
line_items (Chain line variable steps) = codes "p" ++ number line ++ number variable ++ number steps
line_items (Step quotient remainder) = codes "u" ++ counted number quotient ++ counted number remainder
line_items (Split line variable zeros) = codes "s" ++ number line ++ number variable ++ counted number zeros
line_items (Values variable trees) = codes "v" ++ number variable ++ number trees
line_items Close = codes "z"

abbrev pub line_text : CertLine → List ℕ
line_text l = line_items l ++ 10 ∷ []

-- a line of values
abbrev pub value_line : ℕ × ℕ → List ℕ
value_line v = codes "=" ++ number v.0 ++ number v.1 ++ 10 ∷ []

unfoldable pub cause_items : Cause → List ℕ
cause_items Degree = codes " degree"
cause_items Terms = codes " terms"
cause_items (Steps trials reductions assignments chains) =
    codes " steps" ++ number trials ++ number reductions ++ number assignments ++ number chains
cause_items Memory = codes " memory"

-- whether a line is a clause; else it belongs to the tree of one
unfoldable pub is_clause : CertLine → Bool
is_clause (Assume k) = true
is_clause (Scheme node scheme index) = true
is_clause (Hinted lits hints) = true
is_clause (Lemma order lits) = true
is_clause (Combine multiples) = false
is_clause (Bits line chosen polynomial bits) = false
is_clause (Chain line variable steps) = false
is_clause (Step quotient remainder) = false
is_clause (Split line variable zeros) = false
is_clause (Values variable trees) = false
is_clause Close = false

abbrev pub clauses : List CertLine → ℕ
clauses lines = count_by is_clause lines

-- the text of an entry, in each version
unfoldable pub entry_text : Entry → List ℕ
entry_text (Sat values) = codes "sat" ++ number (length values) ++ 10 ∷ [] ++ flat_map value_line values
entry_text UnsatCases = codes "unsat e" ++ 10 ∷ []
entry_text (UnsatSteps lines) = codes "unsat" ++ number (clauses lines) ++ 10 ∷ [] ++ flat_map line_text lines
entry_text (Unknown cause) = codes "unknown" ++ cause_items cause ++ 10 ∷ []

-- line 1
abbrev pub header : ℕ → List ℕ
header version = codes "ffcert" ++ number version ++ 10 ∷ []

-- the one text of a version and a list of entries
unfoldable pub text_of : ℕ → List Entry → List ℕ
text_of version entries = header version ++ flat_map entry_text entries
