use Rattle.std.proofs.Common.{◌<◌, ◌^◌, arith, length}
use Rattle.std.proofs.lemmas.Result.{IfOk-at_ok}
use Rattle.ffc_cert.specs.Trees.{new_trees}
use Rattle.ffc_cert.proofs.TreeLemmas.{trees_after}
use Rattle.ffc_cert.proofs.progress.Progress.take_refutation.Goals as goal

pub returns-clause-follows : goal.returns-clause-follows
returns-clause-follows c =
    rw (c.go_on.ensures, c.after-awaited.ensures) (record {
      bounded = record {
        bytes = c.in_ok-read.ensures.fits;
        trees = trees_after c.in_ok-read.read c.args.awaited c.args.self.now.bytes (length c.args.line.now) c.requires.trees (IfOk-at_ok (λ line. new_trees line < 2 ^ 32) c.in_ok-read.ensures.read c.refutation_line-read.ensures.short);
      };
      line = omega arith;
      complete = omega arith;
    })
