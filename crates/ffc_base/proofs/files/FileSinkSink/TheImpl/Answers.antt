use Rattle.std.proofs.Common.{refl}
use Rattle.ffc_base.proofs.Counting.{on_ok, later, rose_at}
use Rattle.ffc_base.proofs.FileStates.{steady_faults, risen_faults, same_name}
use Rattle.ffc_base.proofs.files.FileSinkSink.TheImpl.Goals as goal

pub write-tells : goal.write-tells
write-tells g c =
    let steady = steady_faults c.result _ _ c.ensures.steady in
    let risen = risen_faults c.result _ _ c.ensures.risen in
    record {
      written = on_ok c.result tt;
      failed = λ _. tt;
      memory = λ _. refl;
      same_name = same_name c.result _ _ c.ensures.steady c.ensures.risen;
      later = later c.result _ _ c.ensures.in_range steady risen;
      cause = rose_at c.result _ _ c.ensures.in_range risen _;
    }
