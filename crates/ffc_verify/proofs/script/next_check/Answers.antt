use Rattle.std.proofs.Common.{Some, sym}
use Rattle.std.specs.Option.{IfSome}
use Rattle.ffc_script.specs.Answers.{Gives}
use Rattle.ffc_verify.proofs.WalkLemmas.{none_first, found_check, found_last, goes_on, stops_at}
use Rattle.ffc_verify.proofs.script.next_check.Goals as goal

pub commands-init : goal.commands-init
commands-init c = none_first c.args.reader.now c.requires

pub returns-in-Err-clause-stop : goal.returns-in-Err-clause-stop
returns-in-Err-clause-stop c = let stop = c.in-Err.ensures.stop in stops_at c.args.reader.now c.commands.reader c.in-Err.stop c.commands.invariant stop.1

pub returns-in-Check-clause-check : goal.returns-in-Check-clause-check
returns-in-Check-clause-check c = λ _.
    let gives : IfSome (Some c.in-Ok-Some.command) (Gives c.commands.reader c.next_command.new.self) = rw c.in-Ok-Some.field-0-is at c.in-Ok-Some.ensures.some in
    found_check c.args.reader.now c.commands.reader c.next_command.new.self c.in-Ok-Some.command c.commands.invariant gives (sym c.in-Check.ensures)

pub returns-in-Last-clause-none : goal.returns-in-Last-clause-none
returns-in-Last-clause-none c = λ _.
    let gives : IfSome (Some c.in-Ok-Some.command) (Gives c.commands.reader c.next_command.new.self) = rw c.in-Ok-Some.field-0-is at c.in-Ok-Some.ensures.some in
    found_last c.args.reader.now c.commands.reader c.next_command.new.self c.in-Ok-Some.command c.commands.invariant gives (sym c.in-Last.ensures)

pub commands-preserved : goal.commands-preserved
commands-preserved c =
    let gives : IfSome (Some c.in-Ok-Some.command) (Gives c.commands.reader c.next_command.new.self) = rw c.in-Ok-Some.field-0-is at c.in-Ok-Some.ensures.some in
    goes_on c.args.reader.now c.commands.reader c.next_command.new.self c.in-Ok-Some.command c.commands.invariant gives (sym c.in-Other.ensures)
