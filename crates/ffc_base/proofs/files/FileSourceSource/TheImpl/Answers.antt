use Rattle.std.proofs.Common.{refl}
use Rattle.ffc_base.proofs.Counting.{if_ok, on_err, later, rose}
use Rattle.ffc_base.proofs.files.FileSourceSource.TheImpl.Goals as goal

pub read-tells : goal.read-tells
read-tells g c = record {
  within = c.ensures.within;
  moved = if_ok c.result (λ _. tt);
  failed = on_err c.result refl;
  later = later c.result _ _ c.ensures.in_range c.ensures.steady c.ensures.risen;
  cause = rose c.result _ _ c.ensures.in_range c.ensures.risen;
}
