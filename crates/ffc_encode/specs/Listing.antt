-- The clauses of a node as they are listed: scheme by scheme, and clause by clause.
use Rattle.std.specs.Prelude.{ℕ, ◌+◌, Bool, not, List, [], ◌∷◌, ◌++◌, map}
use Rattle.ffc_clause.specs.Clauses.{Clause}
use Rattle.ffc_rules.specs.Schemes.{one}
use Rattle.ffc_encode.specs.declared.clauses.NodeClause.{NodeClause}
use Rattle.ffc_encode.specs.Clauses.{clause_of}

-- what f gives of each element and its number, from k on
abbrev pub counted : {A B : Type 0} → (ℕ → A → List B) → ℕ → List A → List B
counted f k [] = []
counted f k (x ∷ xs) = f k x ++ counted f (k + 1) xs

-- the clauses of one scheme, from the index k on
abbrev pub indexed : ℕ → ℕ → ℕ → List Clause → List NodeClause
indexed node scheme k clauses = counted (λ index lits. clause_of node scheme index lits ∷ []) k clauses

-- the clauses of schemes, from the number k on
abbrev pub numbered : ℕ → ℕ → List (List Clause) → List NodeClause
numbered node k schemes = counted (λ scheme clauses. indexed node scheme 0 clauses) k schemes

-- the scheme of an `and`, where `all` is true, or of an `or`, with a clause for each child
abbrev pub child_clauses : ℕ → Bool → List ℕ → List Clause
child_clauses v all ids = map (λ a. (not all, v) ∷ (all, a) ∷ []) ids

-- both schemes of it
abbrev pub gate : ℕ → Bool → List ℕ → List (List Clause)
gate v all ids = child_clauses v all ids ∷ one ((all, v) ∷ map (λ a. (not all, a)) ids) ∷ []
