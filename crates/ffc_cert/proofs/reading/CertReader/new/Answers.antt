use Rattle.ffc_cert.proofs.KeptLemmas.{kept_first}
use Rattle.ffc_cert.proofs.reading.CertReader.new.Goals as goal

pub invariant_of-result : goal.invariant_of-result
invariant_of-result c =
    kept_first c.args.bits c.args.entries c.new.result.bytes c.new-2.result.items c.new-3.result c.new.ensures c.new-2.ensures.items (c.new-3.ensures.ready c.args.entries) c.new-3.ensures.start c.new-3.ensures.gone
