use Rattle.ffc_encode.proofs.LimitLemmas.{only_memory}
use Rattle.ffc_encode.proofs.products.both.Goals as goal

pub memory-requires : goal.memory-requires
memory-requires g c =
    only_memory c.mul.result c.in-Err.stop c.in-Err.is (λ e. c.requires.low (c.mul.ensures.degree_over.0 e)) (λ e. c.requires.few (c.mul.ensures.terms_over e))
