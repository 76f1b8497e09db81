-- What is applied to arguments: a function, or a macro that is in scope. What it takes, and what is known of its arguments.
use Rattle.std.specs.Prelude.{ℕ, ◌+◌, ◌-◌, ◌^◌, ◌==◌, nat_le, min, max, Bool, true, false, length, if◌then◌else◌, Option, Some, None, slice_get}
use Rattle.ffc_term.specs.declared.node.Sort.{Sort}
use Rattle.ffc_term.specs.declared.node.Sort.TheVariants as sort
use Rattle.ffc_parts.specs.Operators.{operator_of}
use Rattle.ffc_smt.specs.Terms.{Name}
use Rattle.ffc_smt.specs.TermReading as reading
use Rattle.ffc_terms.specs.declared.callees.Callee.{Callee}
use Rattle.ffc_terms.specs.declared.callees.Callee.TheVariants as callee
use Rattle.ffc_terms.specs.declared.callees.Parts.{Parts}
use Rattle.ffc_terms.specs.declared.codes.Op.{Op}
use Rattle.ffc_terms.specs.declared.codes.Op.TheVariants as op
use Rattle.ffc_terms.specs.declared.scope.Macro.{Macro}
use Rattle.ffc_terms.specs.declared.scope.Meaning.{Meaning}
use Rattle.ffc_terms.specs.declared.scope.Meaning.TheVariants as meaning
use Rattle.ffc_terms.specs.declared.scope.Symbols.{Symbols}
use Rattle.ffc_terms.specs.Slots.{at_slot}

-- Arguments

abbrev pub capped : ℕ → ℕ
capped n = min n (2 ^ 32 - 1)

abbrev pub no_parts : Parts
no_parts = record { count = 0; first = None; second = None; height = 0; weight = 0 }

abbrev pub with_part : Sort → ℕ → ℕ → Parts → Parts
with_part s height weight p = record {
  count = p.count + 1;
  first = if p.count == 0 then Some s else p.first;
  second = if p.count == 1 then Some s else p.second;
  height = max p.height height;
  weight = capped (p.weight + weight);
}

abbrev pub with_body : ℕ → ℕ → Parts → Parts
with_body height weight p = record {
  count = p.count;
  first = p.first;
  second = p.second;
  height = max p.height height;
  weight = capped (p.weight + weight);
}

-- Macros

abbrev pub as_macro : Option (Name × Meaning) → Option Macro
as_macro None = None
as_macro (Some (name, meaning.Constant number s id)) = None
as_macro (Some (name, meaning.Defined s id)) = None
as_macro (Some (name, meaning.Macro m)) = Some m

-- the macro at a place
abbrev pub macro_at : Symbols → ℕ → Option Macro
macro_at symbols place = as_macro (at_slot symbols.terms place)

abbrev pub macro_least : Option Macro → ℕ
macro_least None = 0
macro_least (Some m) = length m.parameters.items

abbrev pub macro_full : Option Macro → ℕ → Bool
macro_full None count = true
macro_full (Some m) count = nat_le (length m.parameters.items) count

abbrev pub only : Option Sort → reading.Wanted
only None = reading.AnySort
only (Some s) = reading.Only s

abbrev pub macro_wanted : Option Macro → ℕ → reading.Wanted
macro_wanted None count = reading.AnySort
macro_wanted (Some m) count = only (slice_get m.parameters.items count)

abbrev pub macro_sort : Option Macro → Sort
macro_sort None = sort.Bool
macro_sort (Some m) = m.sort

abbrev pub macro_body : Option Macro → ℕ × ℕ
macro_body None = (0, 0)
macro_body (Some m) = (m.height, m.weight)

-- Functions and macros

abbrev pub at_most : Option ℕ → ℕ → Bool
at_most None count = false
at_most (Some most) count = nat_le most count

abbrev pub least : Symbols → Callee → ℕ
least symbols (callee.Function f) = reading.least (operator_of f)
least symbols (callee.Macro place) = macro_least (macro_at symbols place)

abbrev pub is_full : Symbols → Callee → ℕ → Bool
is_full symbols (callee.Function f) count = at_most (reading.most (operator_of f)) count
is_full symbols (callee.Macro place) count = macro_full (macro_at symbols place) count

abbrev pub wanted : Symbols → Callee → Option Sort → Option Sort → ℕ → reading.Wanted
wanted symbols (callee.Function f) first second count = reading.wanted (operator_of f) first second (min count 2)
wanted symbols (callee.Macro place) first second count = macro_wanted (macro_at symbols place) count

abbrev pub result_sort : Symbols → Callee → Option Sort → Option Sort → Sort
result_sort symbols (callee.Function f) first second = reading.result_sort (operator_of f) first second
result_sort symbols (callee.Macro place) first second = macro_sort (macro_at symbols place)

abbrev pub body : Symbols → Callee → ℕ × ℕ
body symbols (callee.Function f) = (0, 0)
body symbols (callee.Macro place) = macro_body (macro_at symbols place)

abbrev pub op_of : Callee → ℕ → Op
op_of (callee.Function f) count = op.Apply f count
op_of (callee.Macro place) count = op.Call place count
