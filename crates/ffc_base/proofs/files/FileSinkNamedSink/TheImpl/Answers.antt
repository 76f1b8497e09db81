use Rattle.std.proofs.Common.{refl}
use Rattle.ffc_base.proofs.Counting.{on_ok, on_err, later, rose_at}
use Rattle.ffc_base.proofs.FileStates.{named_faults, risen_faults, same_name_at_err, becomes_named}
use Rattle.ffc_base.proofs.files.FileSinkNamedSink.TheImpl.Goals as goal

pub create-tells : goal.create-tells
create-tells g c =
    let steady = named_faults c.result _ _ _ c.ensures.steady in
    let risen = risen_faults c.result _ _ c.ensures.risen in
    record {
      created = on_ok c.result tt;
      named = becomes_named c.result _ _ _ c.ensures.steady;
      refused = on_err c.result refl;
      same_name = same_name_at_err c.result _ _ c.ensures.risen;
      later = later c.result _ _ c.ensures.in_range steady risen;
      cause = rose_at c.result _ _ c.ensures.in_range risen _;
    }
