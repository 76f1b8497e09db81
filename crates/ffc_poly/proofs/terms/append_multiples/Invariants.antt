use Rattle.std.proofs.Common.{◌≡◌, ◌+◌, ◌-◌, ◌≤◌, ◌++◌, map, take, length}
use Rattle.std.specs.Vec.{vec_len, vec_capacity}
use Rattle.ffc_field.specs.Modular.{mul_mod}
use Rattle.ffc_poly.specs.Ordered.{values_of}
use Rattle.ffc_poly.proofs.terms.append_multiples.Given as goal

abbrev pub invariant-loop-coefficient : goal.invariant-loop-coefficient
invariant-loop-coefficient g l =
    let value = g.F.Field.value in
    record {
      so_far :
          values_of value l.out.items
          ≡ values_of value l.fn.out.items ++ map (mul_mod g.F.Field.ORDER (value l.c)) (values_of value (take l.coefficient-index l.coefficients));
      room : vec_len l.out + (length l.coefficients - l.coefficient-index) ≤ vec_capacity l.out;
    }
