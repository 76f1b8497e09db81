use Rattle.std.proofs.Common.{refl}
use Rattle.ffc_base.proofs.Counting.{on_ok, on_err, later, rose_at}
use Rattle.ffc_base.proofs.files.FileSourceNamedSource.TheImpl.Goals as goal

pub open_named-tells : goal.open_named-tells
open_named-tells g c = record {
  opened = on_ok c.result tt;
  refused = on_err c.result refl;
  later = later c.result _ _ c.ensures.in_range c.ensures.steady c.ensures.risen;
  cause = rose_at c.result _ _ c.ensures.in_range c.ensures.risen _;
}
