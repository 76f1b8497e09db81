use Rattle.std.proofs.Common.{◌≡◌, ℕ, ◌-◌, List, [], ◌∷◌, ◌++◌, codes, decimal, ap, ap₂, ◌∙◌, append_assoc}
use Rattle.ffc_solve.specs.Generated.{line}
use Rattle.ffc_solve.proofs.generated.push_tail.Goals as goal

line3 : (p d s : List ℕ) → p ++ (d ++ (s ++ 10 ∷ [])) ≡ ((p ++ d) ++ s) ++ 10 ∷ []
line3 p d s = simp append_assoc

line7 : (a j b k c n d : List ℕ) → a ++ (j ++ (b ++ (k ++ (c ++ (n ++ (d ++ 10 ∷ [])))))) ≡ ((((((a ++ j) ++ b) ++ k) ++ c) ++ n) ++ d) ++ 10 ∷ []
line7 a j b k c n d = simp append_assoc

regroup : (x a b c d e f : List ℕ) → (((x ++ a) ++ b) ++ c) ++ ((d ++ e) ++ f) ≡ x ++ (((((a ++ b) ++ c) ++ d) ++ e) ++ f)
regroup x a b c d e f = simp append_assoc

four : (x x1 x2 x3 x4 p q a b c d e f : List ℕ) → x1 ≡ x ++ a → x2 ≡ x1 ++ p → x3 ≡ x2 ++ q → x4 ≡ x3 ++ ((d ++ e) ++ f) → p ≡ b → q ≡ c → x4 ≡ x ++ (((((a ++ b) ++ c) ++ d) ++ e) ++ f)
four x x1 x2 x3 x4 p q a b c d e f h1 h2 h3 h4 g h =
    h4 ∙ ap (λ y. y ++ ((d ++ e) ++ f)) (h3 ∙ ap (λ y. y ++ q) (h2 ∙ ap (λ y. y ++ p) h1))
    ∙ ap₂ (λ y z. (((x ++ a) ++ y) ++ z) ++ ((d ++ e) ++ f)) g h
    ∙ regroup x a b c d e f

pub returns : goal.returns
returns c =
    let n = decimal c.args.n in
    let m = decimal (c.args.n - 1) in
    let front = (line (codes "(check-sat)") ++ line (codes "(push 1)")) ++ line (codes "(declare-const y F)") in
    four _ _ _ _ _ _ _ front _ _ (line (codes "(check-sat)")) (line (codes "(pop 1)")) (line (codes "(check-sat)"))
    c.in_ok-push_str.ensures.bytes c.in_ok-write.ensures.bytes c.in_ok-write-2.ensures.bytes c.in_ok-push_str-2.ensures.bytes
    (line7 (codes "(assert (= y (ff.add (ff.mul x") m (codes " x") m (codes ") (as ff") n (codes " F))))"))
    (line3 (codes "(assert (distinct y x") n (codes "))"))
