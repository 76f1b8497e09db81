-- A node that was asked for is Boolean where its variant is.
use Rattle.std.proofs.Common.{ℕ, List}
use Rattle.std.proofs.lemmas.Option.{slice_get_within}
use Rattle.ffc_term.specs.declared.node.Node.{Node}
use Rattle.ffc_term.specs.declared.node.Node.TheVariants.{BoolConst, Not}
use Rattle.ffc_term.specs.Tables.{IsBooleanAt, IsInterned}
use Rattle.ffc_term.proofs.TableLemmas.{sort_at-is}

pub constant_is_boolean : (old new : List Node) (k id : ℕ) → IsInterned old new (BoolConst k) id → IsBooleanAt new id
constant_is_boolean old new k id h = (slice_get_within new id _ h.at, sort_at-is new id _ h.at)

pub negation_is_boolean : (old new : List Node) (a id : ℕ) → IsInterned old new (Not a) id → IsBooleanAt new id
negation_is_boolean old new a id h = (slice_get_within new id _ h.at, sort_at-is new id _ h.at)
