-- What holds of a Result or an Option, by cases.
use Rattle.std.proofs.Common.{◌≡◌, refl, sym, subst}
use Rattle.std.specs.Prelude.{Option, Some, None, Result, Ok, Err, IfOk, IfNone, IsErrAnd, IsErrOf}
use Rattle.ffc_base.specs.declared.stop.Stop.{Stop}
use Rattle.ffc_base.specs.declared.stop.Stop.TheVariants.{Spent}

pub IfOk-both : {T E : Type 0} (r : Result T E) (P Q R : T → Type 0) → ((x : T) → P x → Q x → R x) → IfOk r P → IfOk r Q → IfOk r R
IfOk-both (Ok x) P Q R both p q = both x p q
IfOk-both (Err e) P Q R both p q = tt

pub IfNone-weaker : {T : Type 0} (o : Option T) (P Q : Type 0) → (P → Q) → IfNone o P → IfNone o Q
IfNone-weaker None P Q weaker p = weaker p
IfNone-weaker (Some x) P Q weaker p = tt

-- Spent is handed on by a part that is Spent.
pub part_was_spent : (T U : Type 0) (r : Result T Stop) (u : Stop) → IsErrAnd r (λ e. e ≡ u) → IsErrOf r Spent → IsErrOf {T = U} (Err u) Spent
part_was_spent T U (Ok x) u given spent = absurd given
part_was_spent T U (Err e) u given spent =
    let same : u ≡ Spent = cc (given, spent) in
    let P : Stop → Type 0 = λ x. IsErrOf {T = U} (Err x) Spent in
    subst P (sym same) refl
