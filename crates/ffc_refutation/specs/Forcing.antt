-- Literals that the clauses of a check force one after another (unit propagation), each with the line of a certificate that gives
-- its clause.
use Rattle.std.specs.Prelude.{◌≡◌, nat_lt, if◌then◌else◌, List, [], ◌∷◌, ◌++◌, length, slice_get, option_map, Option, Some, None}
use Rattle.ffc_cert.specs.declared.entries.CertLine.{CertLine}
use Rattle.ffc_cert.specs.declared.entries.CertLine.TheVariants.{Assume, Scheme}
use Rattle.ffc_clause.specs.Clauses.{Literal, Clause, plus}
use Rattle.ffc_clause.specs.Hints.{open_literals, only_literal}
use Rattle.ffc_rules.specs.Entries.{NodeCheck}
use Rattle.ffc_rules.specs.Schemes.{scheme_clause}
use Rattle.ffc_refutation.specs.declared.reason.Reason.{Reason}
use Rattle.ffc_refutation.specs.declared.reason.Reason.TheVariants as reason

-- the line that a reason is
abbrev pub line_of : Reason → CertLine
line_of (reason.Assertion k) = Assume k
line_of (reason.Scheme node scheme index) = Scheme node scheme index

-- the clause that it gives
abbrev pub reason_clause : NodeCheck → Reason → Option Clause
reason_clause c (reason.Assertion k) = option_map (λ id. plus id ∷ []) (slice_get c.in_force k)
reason_clause c (reason.Scheme node scheme index) =
    if nat_lt node (length c.nodes) then scheme_clause c.nodes node scheme index else None

-- Reasons force literals in turn, which are put in front of those that are true before: of each one's clause one literal is open.
pub data Forces (c : NodeCheck) : List Literal → List Reason → List Literal → Type 0 where
  nothing : {forced : List Literal} → Forces c forced [] forced
  next : {forced all : List Literal} {rest : List Reason} (x : Reason) (clause : Clause) (l : Literal) → reason_clause c x ≡ Some clause → only_literal (open_literals forced clause) ≡ Some l → Forces c (l ∷ forced) rest all → Forces c forced (x ∷ rest) all

-- after reasons that force literals, one that is false
pub record IsConflict (c : NodeCheck) (reasons : List Reason) : Type 0 where
  pub before : List Reason
  pub last : Reason
  pub parts : reasons ≡ before ++ last ∷ []
  pub forced : List Literal
  pub forces : Forces c [] before forced
  pub clause : Clause
  pub given : reason_clause c last ≡ Some clause
  pub false_of : open_literals forced clause ≡ []
