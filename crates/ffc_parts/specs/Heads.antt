-- The commands and the options by name, as the elaborator has them.
use Rattle.std.specs.Prelude.{◌≡◌, ℕ, Bool, true, not, List, [], ◌∷◌, codes, Option, Some, None}
use Rattle.ffc_parts.specs.declared.heads.Head.{Head}
use Rattle.ffc_parts.specs.declared.heads.Head.TheVariants as head
use Rattle.ffc_parts.specs.declared.options.Setting.{Setting}
use Rattle.ffc_parts.specs.declared.options.Setting.TheVariants as setting
use Rattle.ffc_parts.specs.declared.options.Options.{Options}
use Rattle.ffc_smt.specs.Meaning.{Env}
use Rattle.ffc_smt.specs.Terms as term
use Rattle.ffc_smt.specs.Scopes as scope
use Rattle.ffc_smt.specs.CommandReading.{When, Always, BehindLogic, BeforeLogic, Reader}

-- how a command is written
abbrev pub head_name : Head → List ℕ
head_name head.SetLogic = codes "set-logic"
head_name head.SetOption = codes "set-option"
head_name head.GetOption = codes "get-option"
head_name head.SetInfo = codes "set-info"
head_name head.GetInfo = codes "get-info"
head_name head.Echo = codes "echo"
head_name head.DeclareConst = codes "declare-const"
head_name head.DeclareFun = codes "declare-fun"
head_name head.DefineSort = codes "define-sort"
head_name head.DefineFun = codes "define-fun"
head_name head.Assert = codes "assert"
head_name head.CheckSat = codes "check-sat"
head_name head.CheckSatAssuming = codes "check-sat-assuming"
head_name head.GetUnsatCore = codes "get-unsat-core"
head_name head.GetUnsatAssumptions = codes "get-unsat-assumptions"
head_name head.GetModel = codes "get-model"
head_name head.GetValue = codes "get-value"
head_name head.Push = codes "push"
head_name head.Pop = codes "pop"
head_name head.ResetAssertions = codes "reset-assertions"
head_name head.Reset = codes "reset"
head_name head.Exit = codes "exit"

-- all commands by name
abbrev pub heads : Env Head
heads =
    (codes "set-logic", head.SetLogic)
    ∷ (codes "set-option", head.SetOption)
    ∷ (codes "get-option", head.GetOption)
    ∷ (codes "set-info", head.SetInfo)
    ∷ (codes "get-info", head.GetInfo)
    ∷ (codes "echo", head.Echo)
    ∷ (codes "declare-const", head.DeclareConst)
    ∷ (codes "declare-fun", head.DeclareFun)
    ∷ (codes "define-sort", head.DefineSort)
    ∷ (codes "define-fun", head.DefineFun)
    ∷ (codes "assert", head.Assert)
    ∷ (codes "check-sat", head.CheckSat)
    ∷ (codes "check-sat-assuming", head.CheckSatAssuming)
    ∷ (codes "get-unsat-core", head.GetUnsatCore)
    ∷ (codes "get-unsat-assumptions", head.GetUnsatAssumptions)
    ∷ (codes "get-model", head.GetModel)
    ∷ (codes "get-value", head.GetValue)
    ∷ (codes "push", head.Push)
    ∷ (codes "pop", head.Pop)
    ∷ (codes "reset-assertions", head.ResetAssertions)
    ∷ (codes "reset", head.Reset)
    ∷ (codes "exit", head.Exit) ∷ []

-- whether what may come at that moment may come where a logic was set, or was not
abbrev pub may_come_at : When → Bool → Bool
may_come_at Always logic = true
may_come_at BehindLogic logic = logic
may_come_at BeforeLogic logic = not logic

-- the reader, if there is one, is for commands that may come so
abbrev pub MayComeAs : Option Reader → Bool → Bool → Type 0
MayComeAs None logic may = ⊥
MayComeAs (Some r) logic may = may ≡ may_come_at r.moment logic

-- the option that is meant
abbrev pub setting_of : Setting → term.Setting
setting_of setting.PrintSuccess = term.PrintSuccess
setting_of setting.ProduceModels = term.ProduceModels
setting_of setting.GlobalDeclarations = term.GlobalDeclarations
setting_of setting.ProduceUnsatCores = term.ProduceUnsatCores
setting_of setting.ProduceUnsatAssumptions = term.ProduceUnsatAssumptions

-- the same values
abbrev pub options_of : Options → scope.Options
options_of o = record {
  print_success = o.print_success;
  produce_models = o.produce_models;
  global_declarations = o.global_declarations;
  produce_unsat_cores = o.produce_unsat_cores;
  produce_unsat_assumptions = o.produce_unsat_assumptions;
}
