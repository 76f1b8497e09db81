-- The clauses that say what a node's value is by the values of its children (Tseitin 1968).
--
-- A node has schemes, numbered from 0, and a scheme has clauses, indexed from 0. Only `and` and `or` have a scheme with
-- more than one clause: one for each child.
use Rattle.std.specs.Prelude.{ℕ, ◌+◌, List, [], ◌∷◌, length, map, flat_map, Option, None, Some, slice_get}
use Rattle.std.specs.List.{range_with_len}
use Rattle.ffc_term.specs.declared.node.Node.{Node}
use Rattle.ffc_term.specs.declared.node.Node.TheVariants.{True, False, BoolConst, FieldConst, Num, Not, And, Or, Iff, Xor, IteBool, IteField, Eq, Add, Mul, Neg, Bitsum}
use Rattle.ffc_term.specs.Tables.{second_equality}
use Rattle.ffc_clause.specs.Clauses.{Clause, plus, minus}

-- a scheme with one clause
abbrev pub one : Clause → List Clause
one clause = clause ∷ []

-- The schemes of the node numbered v, in order, each with its clauses. The equalities of an `ite` of field sort with its
-- branches come after it in the table.
abbrev pub schemes : ℕ → Node → List (List Clause)
schemes v True = one (plus v ∷ []) ∷ []
schemes v False = one (minus v ∷ []) ∷ []
schemes v (Not a) = one (plus v ∷ plus a ∷ []) ∷ one (minus v ∷ minus a ∷ []) ∷ []
schemes v (And ids) = map (λ a. minus v ∷ plus a ∷ []) ids ∷ one (plus v ∷ map minus ids) ∷ []
schemes v (Or ids) = map (λ a. plus v ∷ minus a ∷ []) ids ∷ one (minus v ∷ map plus ids) ∷ []
schemes v (Iff a b) =
    one (minus v ∷ minus a ∷ plus b ∷ [])
    ∷ one (minus v ∷ plus a ∷ minus b ∷ [])
    ∷ one (plus v ∷ plus a ∷ plus b ∷ [])
    ∷ one (plus v ∷ minus a ∷ minus b ∷ [])
    ∷ []
schemes v (Xor a b) =
    one (minus v ∷ plus a ∷ plus b ∷ [])
    ∷ one (minus v ∷ minus a ∷ minus b ∷ [])
    ∷ one (plus v ∷ minus a ∷ plus b ∷ [])
    ∷ one (plus v ∷ plus a ∷ minus b ∷ [])
    ∷ []
schemes v (IteBool c a b) =
    one (minus v ∷ minus c ∷ plus a ∷ [])
    ∷ one (minus v ∷ plus c ∷ plus b ∷ [])
    ∷ one (plus v ∷ minus c ∷ minus a ∷ [])
    ∷ one (plus v ∷ plus c ∷ minus b ∷ [])
    ∷ []
schemes v (IteField c a b) =
    one (minus c ∷ plus (v + 1) ∷ []) ∷ one (plus c ∷ plus (second_equality v a b) ∷ []) ∷ []
schemes v (BoolConst k) = []
schemes v (FieldConst k p) = []
schemes v (Num n p) = []
schemes v (Eq a b) = []
schemes v (Add ids) = []
schemes v (Mul ids) = []
schemes v (Neg a) = []
schemes v (Bitsum ids) = []

abbrev pub schemes_at : List Node → ℕ → List (List Clause)
schemes_at nodes v = elim (slice_get nodes v) [ None ↦ [] | Some n ↦ schemes v n ]

-- the clauses of one scheme of the node numbered v, none where it has no such scheme
abbrev pub scheme_clauses : List Node → ℕ → ℕ → List Clause
scheme_clauses nodes v scheme = elim (slice_get (schemes_at nodes v) scheme) [ None ↦ [] | Some clauses ↦ clauses ]

-- the clause of this scheme and index of the node numbered v, if there is one
unfoldable pub scheme_clause : List Node → ℕ → ℕ → ℕ → Option Clause
scheme_clause nodes v scheme index = slice_get (scheme_clauses nodes v scheme) index

-- the scheme and the index of each clause of the node numbered v
unfoldable pub all_schemes : List Node → ℕ → List (ℕ × ℕ)
all_schemes nodes v =
    flat_map
    (λ scheme. map (λ index. (scheme, index)) (range_with_len 0 (length (scheme_clauses nodes v scheme))))
    (range_with_len 0 (length (schemes_at nodes v)))
