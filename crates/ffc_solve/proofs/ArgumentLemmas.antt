-- Numbers that the arguments give.
use Rattle.std.proofs.Common.{◌≡◌, ◌≢◌, inl, inr, ℕ, [], Option, Some, None, Result, Ok, Err, unwrap_or, option_map, refl, sym, ap, arith, subst}
use Rattle.std.specs.Option.{IfSome, IsSome}
use Rattle.std.specs.Str.Parse.{ParsesUnsigned}
use Rattle.clap.specs.Words.{HasKind, IsUnsignedIn, Kinds, ReadsOne, Text, kind_of, one_text}
use Rattle.clap.specs.declared.error.Error.{Error}
use Rattle.clap.specs.declared.error.kind.ErrorKind.TheVariants.{OutOfMemory}
use Rattle.clap.specs.declared.parser.matches.Found.{Found}
use Rattle.ffc_solve.specs.Arguments.{IsInRange, number_read}

-- words that are refused for another cause than memory are not taken
pub not_taken : (kinds : Kinds) (e : Error) → HasKind kinds e → kind_of e ≢ OutOfMemory → kinds ≡ [] → ⊥
not_taken kinds e has other none = has_none (subst (λ k. HasKind k e) none has)
  where
    has_none : HasKind [] e → ⊥
    has_none (inl m) = other m
    has_none (inr h) = h

-- a number that was read of a text that the arguments give
pub record IsRead (given : Option Text) (most : ℕ) (number : Option ℕ) : Type 0 where
  pub is : number ≡ option_map number_read given
  pub within : IfSome number (IsInRange most)

-- what `get_one` gives of an argument that is a number
pub one_number : (E : Type 0) (G : Text → Result ℕ E → Type 0) (f : Found) (id : Text) (most : ℕ) (r : Option ℕ) → ((t : Text) (x : Result ℕ E) → G t x → ParsesUnsigned 64 10 t x) → (one_text f id ≡ None → r ≡ None) → ((t : Text) → one_text f id ≡ Some t → ReadsOne G t r)
    → ((t : Text) → one_text f id ≡ Some t → IsUnsignedIn 1 most t) → IsRead (one_text f id) most r
one_number E G f id most r only none some passed = by_text (one_text f id) refl
  where
    by_read : (t : Text) (o : Option ℕ) → ReadsOne G t o → IsUnsignedIn 1 most t → IsRead (Some t) most o
    by_read t (Some n) read within =
        let is : n ≡ number_read t = (only t (Ok n) read).1 in
        let least = within.2 in
        record { is = ap Some is; within = subst (IsInRange most) (sym is) (record { some = omega arith; few = within.3 }) }
    by_read t None read within = absurd (only t (Err read.0) read.1 (within.0, within.1))

    by_text : (o : Option Text) → one_text f id ≡ o → IsRead (one_text f id) most r
    by_text None e = subst (λ o. IsRead o most r) (sym e) (subst (IsRead None most) (sym (none e)) (record { is = refl; within = tt }))
    by_text (Some t) e = subst (λ o. IsRead o most r) (sym e) (by_read t r (some t e) (passed t e))

pub range_or : (n : Option ℕ) → IfSome n (IsInRange 1000000000000) → IsInRange 1000000000000 (unwrap_or n 1000000)
range_or None h = record { some = omega arith; few = omega arith }
range_or (Some n) h = h

-- where no script is to be generated, no number is given for one
pub none_given : (given n : Option ℕ) → n ≡ given → n ≡ None → IsSome given → ⊥
none_given None n is none some = cc
none_given (Some k) n is none some = cc
