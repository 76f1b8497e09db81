-- What the open literals of a hint are: none, one that is written perhaps several times, or different ones.
use Rattle.std.specs.Prelude.{List, [], ◌∷◌, Option, Some, None, if◌then◌else◌}
use Rattle.std.specs.List.{list_all}
use Rattle.ffc_cdcl.specs.declared.walk.Opening.{Opening}
use Rattle.ffc_cdcl.specs.declared.walk.Opening.TheVariants as is
use Rattle.ffc_clause.specs.Clauses.{Literal, same_literal}

-- after one that was found, if one was
abbrev pub opening_from : Option Literal → List Literal → Opening
opening_from None [] = is.Closed
opening_from None (l ∷ ls) = if list_all (same_literal l) ls then is.One l else is.Several
opening_from (Some l) ls = if list_all (same_literal l) ls then is.One l else is.Several

abbrev pub opening_of : List Literal → Opening
opening_of ls = opening_from None ls
