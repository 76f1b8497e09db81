-- What a part of a form says, where it has no fault.
use Rattle.std.proofs.Common.{◌≡◌, Bool, true, false, List, [], ◌∷◌, ◌++◌, if◌then◌else◌, refl}
use Rattle.ffc_smt.specs.Trees.{Word, Tree}
use Rattle.ffc_smt.specs.Faults.{Fault, Read, Sound, Faulty, unless, read_map, both, behind, item}

abbrev pub IfSound : {A : Type 0} → Read A → (A → Type 0) → Type 0
IfSound (Sound a) P = P a
IfSound (Faulty f fs) P = Unit {0}

pub all_sound : {A : Type 0} (r : Read A) (P : A → Type 0) → ((a : A) → P a) → IfSound r P
all_sound (Sound a) P h = h a
all_sound (Faulty f fs) P h = tt

pub weaker_sound : {A : Type 0} (r : Read A) (P Q : A → Type 0) → ((a : A) → P a → Q a) → IfSound r P → IfSound r Q
weaker_sound (Sound a) P Q h g = h a g
weaker_sound (Faulty f fs) P Q h g = tt

pub unless_sound : {A : Type 0} (fs : List Fault) (r : Read A) (P : A → Type 0) → (fs ≡ [] → IfSound r P) → IfSound (unless fs r) P
unless_sound [] r P h = h refl
unless_sound (f ∷ fs) r P h = tt

pub map_sound : {A B : Type 0} (f : A → B) (r : Read A) (P : B → Type 0) → IfSound r (λ a. P (f a)) → IfSound (read_map f r) P
map_sound f (Sound a) P h = h
map_sound f (Faulty g gs) P h = tt

pub behind_sound : {A B : Type 0} (r : Read A) (next : A → Read B) (P : A → Type 0) (Q : B → Type 0) → IfSound r P → ((a : A) → P a → IfSound (next a) Q) → IfSound (behind r next) Q
behind_sound (Sound a) next P Q h k = k a h
behind_sound (Faulty f fs) next P Q h k = tt

pub either_sound : {A : Type 0} (b : Bool) (r s : Read A) (P : A → Type 0) → IfSound r P → IfSound s P → IfSound (if b then r else s) P
either_sound true r s P h g = h
either_sound false r s P h g = g

pub both_none : (fs gs : List Fault) → fs ++ gs ≡ [] → (fs ≡ []) × (gs ≡ [])
both_none [] gs e = (refl, e)
both_none (f ∷ fs) gs e = cc

-- two parts, and the items of a list

pub both_sound : {A B : Type 0} (r : Read A) (q : Read B) (P : A → Type 0) (Q : B → Type 0) → IfSound r P → IfSound q Q → IfSound (both r q) (λ p. P p.0 × Q p.1)
both_sound (Sound a) (Sound b) P Q h g = (h, g)
both_sound (Sound a) (Faulty f fs) P Q h g = tt
both_sound (Faulty f fs) q P Q h g = tt

both_first : {A B : Type 0} (r : Read A) (q : Read B) (P : A → Type 0) → IfSound r P → IfSound (both r q) (λ p. P p.0)
both_first (Sound a) (Sound b) P h = h
both_first (Sound a) (Faulty f fs) P h = tt
both_first (Faulty f fs) q P h = tt

both_second : {A B : Type 0} (r : Read A) (q : Read B) (P : B → Type 0) → IfSound q P → IfSound (both r q) (λ p. P p.1)
both_second (Sound a) (Sound b) P h = h
both_second (Sound a) (Faulty f fs) P h = tt
both_second (Faulty f fs) q P h = tt

pub item_first : {A B : Type 0} (closing : Word) (read : Tree → Read A) (next : List Tree → Read B) (items : List Tree) (P : A → Type 0) → ((t : Tree) → IfSound (read t) P)
    → IfSound (item closing read next items) (λ p. P p.0)
item_first closing read next [] P h = tt
item_first closing read next (t ∷ ts) P h = both_first (read t) (next ts) P (h t)

pub item_second : {A B : Type 0} (closing : Word) (read : Tree → Read A) (next : List Tree → Read B) (items : List Tree) (P : B → Type 0) → ((ts : List Tree) → IfSound (next ts) P)
    → IfSound (item closing read next items) (λ p. P p.1)
item_second closing read next [] P h = tt
item_second closing read next (t ∷ ts) P h = both_second (read t) (next ts) P (h ts)
