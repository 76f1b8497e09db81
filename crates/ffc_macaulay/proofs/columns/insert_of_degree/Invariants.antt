use Rattle.std.proofs.Common.{take}
use Rattle.ffc_macaulay.specs.Matrix.{AddsOfDegree}
use Rattle.ffc_macaulay.proofs.columns.insert_of_degree.Given as goal

abbrev pub invariant-loop-m : goal.invariant-loop-m
invariant-loop-m l = AddsOfDegree l.wanted (take l.m-index l.monomials) l.fn.unknowns.keys l.unknowns.keys
