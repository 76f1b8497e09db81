use Rattle.std.proofs.Common.{◌≡◌, ℕ, ◌-◌, List, [], ◌∷◌, ◌++◌, codes, decimal, ap, ap₂, ◌∙◌, append_assoc}
use Rattle.ffc_solve.proofs.generated.push_step.Goals as goal

line3 : (p d s : List ℕ) → p ++ (d ++ (s ++ 10 ∷ [])) ≡ ((p ++ d) ++ s) ++ 10 ∷ []
line3 p d s = simp append_assoc

line9 : (a d b e c e2 f g h : List ℕ) → a ++ (d ++ (b ++ (e ++ (c ++ (e2 ++ (f ++ (g ++ (h ++ 10 ∷ [])))))))) ≡ ((((((((a ++ d) ++ b) ++ e) ++ c) ++ e2) ++ f) ++ g) ++ h) ++ 10 ∷ []
line9 a d b e c e2 f g h = simp append_assoc

both : (x x1 x2 a b c d : List ℕ) → x1 ≡ x ++ a → x2 ≡ x1 ++ b → a ≡ c → b ≡ d → x2 ≡ x ++ (c ++ d)
both x x1 x2 a b c d e f g h = f ∙ ap (λ y. y ++ b) e ∙ append_assoc x a b ∙ ap (λ y. x ++ y) (ap₂ (λ y z. y ++ z) g h)

pub returns : goal.returns
returns c =
    let i = decimal c.args.i in
    let j = decimal (c.args.i - 1) in
    both _ _ _ _ _ _ _ c.in_ok-write.ensures.bytes c.in_ok-write-2.ensures.bytes
    (line3 (codes "(declare-const x") i (codes " F)"))
    (line9 (codes "(assert (= x") i (codes " (ff.add (ff.mul x") j (codes " x") j (codes ") (as ff") i (codes " F))))"))
