use Rattle.std.proofs.Common.{◌≡◌, ◌≤◌, ◌+◌, length, take, refl, sym, ap, ◌∙◌, arith}
use Rattle.std.proofs.lemmas.List.{take-append-le, length-take}
use Rattle.std.proofs.lemmas.List.{length-replicate}
use Rattle.std.proofs.lemmas.Grind.{common_steps}
use Rattle.std.proofs.Common.{ℕ}
use Rattle.ffc_lex.specs.Lexing.{extended}
use Rattle.ffc_solve.proofs.ReadLemmas.{HasRead-moved, taken_moved, within_limit}
use Rattle.ffc_solve.proofs.running.read_on.Goals as goal

pub returns-in_err-feed-clause-memory : goal.returns-in_err-feed-clause-memory
returns-in_err-feed-clause-memory g c = λ _.
    taken_moved c.in-Ok.count c.read.new.buf (g.S.Source.left c.args.script.now) (g.S.Source.left c.read.new.self) (length c.args.dialogue.now.reader.text) c.in-Ok.ensures.moved
    (let n : c.in-Ok.count ≤ c.min-room.result = omega (arith, c.in-Ok.ensures.within, length-take {A = ℕ}, length-replicate {A = ℕ}) in let m = c.min-room.ensures in let t = c.requires.taken in let s = c.requires.short in omega arith)
    (let n : c.in-Ok.count ≤ c.min-room.result = omega (arith, c.in-Ok.ensures.within, length-take {A = ℕ}, length-replicate {A = ℕ}) in let m = c.min-room.ensures in omega arith)

pub returns-clause-more : goal.returns-clause-more
returns-clause-more g c = λ _.
    let n = c.in-Ok.count in
    let buf = c.read.new.buf in
    let text = c.args.dialogue.now.reader.text in
    let inside : n ≤ length buf = omega (arith, c.in-Ok.ensures.within, c.read.auto.buf) in
    let long : length (take n buf) ≡ n = omega (arith, length-take n buf) in
    let few : length text + length (take n buf) ≤ 67108865 = (let w : c.in-Ok.count ≤ c.min-room.result = grind (arith, common_steps) in let m = c.min-room.ensures in let t = c.requires.taken in let s = c.requires.short in omega arith) in
    record {
      piece = take n buf;
      read = HasRead-moved n buf (g.S.Source.left c.args.script.now) (g.S.Source.left c.read.new.self) c.in-Ok.ensures.moved;
      reader = c.in_ok-feed.ensures.ok ∙ ap (λ b. record c.args.dialogue.now.reader { text = extended text b }) (take-append-le n buf _ inside)
          ∙ ap (λ b. record c.args.dialogue.now.reader { text = b }) (within_limit text (take n buf) few);
      some = omega arith;
      few = few;
      short = let w : c.in-Ok.count ≤ c.min-room.result = grind (arith, common_steps) in let m = c.min-room.ensures in omega arith;
      taken = ap (λ k. c.args.dialogue.now.taken + k) (sym long);
      same = (refl, refl, refl);
    }
