-- The reader of each command.
use Rattle.std.proofs.Common.{◌≡◌, ℕ, ◌+◌, ◌-◌, ◌≤◌, nat_lt, not, List, refl, arith}
use Rattle.std.proofs.lemmas.Bool.Decides.{nat_tests}
use Rattle.ffc_smt.specs.Trees.{Word, Tree}
use Rattle.ffc_smt.specs.Faults.{read_map, item}
use Rattle.ffc_smt.specs.Meaning.{found}
use Rattle.ffc_smt.specs.Terms as smt
use Rattle.ffc_smt.specs.Scopes.{State, level_of}
use Rattle.ffc_smt.specs.CommandReading.{Limits, alone, one, at_most_one, get_info, get_option, infos, keyword_read, levels_read, logic_read, option_read, options, string_read}
use Rattle.ffc_parts.specs.declared.heads.Head.TheVariants as head
use Rattle.ffc_elab.specs.Reading.{read_by_head, up_to}

module _ (l : Limits) (s : State) (closing : Word) (items : List Tree) where
  pub reads_set_logic : read_by_head l s head.SetLogic closing items ≡ one logic_read closing items
  reads_set_logic = refl

  pub reads_set_option : read_by_head l s head.SetOption closing items ≡ option_read s closing items
  reads_set_option = refl

  pub reads_get_option : read_by_head l s head.GetOption closing items ≡ one (λ t. read_map (λ w. get_option (found options w.bytes)) (keyword_read t)) closing items
  reads_get_option = refl

  pub reads_set_info : read_by_head l s head.SetInfo closing items ≡ read_map (λ _. smt.SetInfo) (item closing keyword_read at_most_one items)
  reads_set_info = refl

  pub reads_get_info : read_by_head l s head.GetInfo closing items ≡ one (λ t. read_map (λ w. get_info (found infos w.bytes)) (keyword_read t)) closing items
  reads_get_info = refl

  pub reads_echo : read_by_head l s head.Echo closing items ≡ one string_read closing items
  reads_echo = refl

  pub reads_check_sat : read_by_head l s head.CheckSat closing items ≡ alone smt.CheckSat closing items
  reads_check_sat = refl

  pub reads_get_core : read_by_head l s head.GetUnsatCore closing items ≡ alone smt.GetUnsatCore closing items
  reads_get_core = refl

  pub reads_get_assumptions : read_by_head l s head.GetUnsatAssumptions closing items ≡ alone smt.GetUnsatAssumptions closing items
  reads_get_assumptions = refl

  pub reads_get_model : read_by_head l s head.GetModel closing items ≡ alone smt.GetModel closing items
  reads_get_model = refl

  pub reads_push : read_by_head l s head.Push closing items ≡ read_map smt.Push (levels_read (λ n. not (nat_lt l.levels (level_of s + n))) closing items)
  reads_push = refl

  pub reads_pop : read_by_head l s head.Pop closing items ≡ read_map smt.Pop (levels_read (λ n. not (nat_lt (level_of s) n)) closing items)
  reads_pop = refl

  pub reads_reset_assertions : read_by_head l s head.ResetAssertions closing items ≡ alone smt.ResetAssertions closing items
  reads_reset_assertions = refl

  pub reads_reset : read_by_head l s head.Reset closing items ≡ alone smt.Reset closing items
  reads_reset = refl

  pub reads_exit : read_by_head l s head.Exit closing items ≡ alone smt.Exit closing items
  reads_exit = refl

pub push_test : (most level n : ℕ) → level ≤ most → up_to (most - level) n ≡ not (nat_lt most (level + n))
push_test most level n h = grind (arith, nat_tests)

pub pop_test : (level n : ℕ) → up_to level n ≡ not (nat_lt level n)
pop_test level n = grind (arith, nat_tests)
