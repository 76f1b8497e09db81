-- What is known of the pairs of lines while a basis is completed.
use Rattle.std.specs.Prelude.{◌≡◌, ◌≢◌, ℕ, zero, suc, ◌+◌, ◌*◌, ◌<◌, ◌≤◌, ◌⊎◌, List, [], ◌∷◌, ◌++◌, length, get_or, map, take, nat_le, nat_lt, if◌then◌else◌}
use Rattle.std.specs.List.{AllByRecursion}
use Rattle.std.specs.declared.cmp.Ordering.{Ordering}
use Rattle.ffc_ring.specs.Monomial.{Monomial}
use Rattle.ffc_ring.specs.Polynomial.{Terms}
use Rattle.ffc_basis.specs.declared.completion.Completion.{Completion as Answer}
use Rattle.ffc_basis.specs.declared.completion.Completion.TheVariants.{Closed as whole, SetAside}
use Rattle.ffc_basis.specs.declared.pair.PairRecord.{PairRecord}
use Rattle.ffc_basis.specs.declared.pair.PairState.{PairState}
use Rattle.ffc_basis.specs.declared.pair.PairState.TheVariants.{Pending, Closed, Represented, Over}
use Rattle.ffc_basis.specs.Completion.{IsPairClosed, IsPairOver}
use Rattle.ffc_line.specs.Lines.{AreLists}
use Rattle.ffc_basis.specs.Representations.{AreBothRepresented}

-- both S-polynomials of two lines reduce to zero
abbrev pub AreBothClosed : ℕ → (Monomial → Monomial → Ordering) → List Terms → ℕ → ℕ → Type 0
AreBothClosed p cmp gs i j = IsPairClosed p cmp gs i j × IsPairClosed p cmp gs j i

-- so do those of any lines that have these two polynomials
abbrev pub AreNeedless : ℕ → (Monomial → Monomial → Ordering) → Terms → Terms → Type 0
AreNeedless p cmp a b =
    (gs : List Terms) (i j : ℕ) → i < length gs → j < length gs → get_or gs i [] ≡ a → get_or gs j [] ≡ b → AreBothClosed p cmp gs i j

-- what a state says of a pair
abbrev pub IsState : ℕ → (Monomial → Monomial → Ordering) → List Terms → ℕ → ℕ → PairState → Type 0
IsState p cmp gs i j Pending = Unit {0}
IsState p cmp gs i j (Closed n) = (n ≤ length gs) × (j < n) × AreBothClosed p cmp (take n gs) i j
IsState p cmp gs i j (Represented n) = (n ≤ length gs) × (j < n) × AreBothRepresented p cmp (take n gs) i j
IsState p cmp gs i j (Over n) = (n ≤ length gs) × (j < n) × IsPairOver p cmp (take n gs) i j

-- a pair of lines
pub record IsRecord (p : ℕ) (cmp : Monomial → Monomial → Ordering) (gs : List Terms) (r : PairRecord) : Type 0 where
  pub ordered : r.first < r.second
  pub within : r.second < length gs
  pub state : IsState p cmp gs r.first r.second r.state

abbrev pub AreRecords : ℕ → (Monomial → Monomial → Ordering) → List Terms → List PairRecord → Type 0
AreRecords p cmp gs [] = Unit {0}
AreRecords p cmp gs (r ∷ rs) = IsRecord p cmp gs r × AreRecords p cmp gs rs

-- the S-polynomials are known to be sums of multiples below the least common multiple
abbrev pub IsRepresentedState : PairState → Type 0
IsRepresentedState Pending = ⊥
IsRepresentedState (Closed n) = Unit {0}
IsRepresentedState (Represented n) = Unit {0}
IsRepresentedState (Over n) = ⊥

-- the pair is there, and this is known of it
abbrev pub HasRepresented : List PairRecord → ℕ → ℕ → Type 0
HasRepresented [] i j = ⊥
HasRepresented (r ∷ rs) i j = ((r.first ≡ i) × (r.second ≡ j) × IsRepresentedState r.state) ⊎ HasRepresented rs i j

-- the pair is there
abbrev pub HasRecord : List PairRecord → ℕ → ℕ → Type 0
HasRecord [] i j = ⊥
HasRecord (r ∷ rs) i j = ((r.first ≡ i) × (r.second ≡ j)) ⊎ HasRecord rs i j

-- each pair of the first lines is there or needless
abbrev pub IsCovered : ℕ → (Monomial → Monomial → Ordering) → List Terms → List PairRecord → ℕ → Type 0
IsCovered p cmp gs rs paired =
    (i j : ℕ) → i < j → j < paired → HasRecord rs i j ⊎ AreNeedless p cmp (get_or gs i []) (get_or gs j [])

pub record ArePairs (p : ℕ) (cmp : Monomial → Monomial → Ordering) (gs : List Terms) (rs : List PairRecord) (paired : ℕ) : Type 0 where
  pub paired_within : paired ≤ length gs
  pub lists : AreLists gs
  pub records : AreRecords p cmp gs rs
  pub covered : IsCovered p cmp gs rs paired

-- how many of these numbers are below n
abbrev pub count_below : ℕ → List ℕ → ℕ
count_below n [] = 0
count_below n (k ∷ ks) = (if nat_lt k n then 1 else 0) + count_below n ks

-- the second lines of the pairs
abbrev pub seconds : List PairRecord → List ℕ
seconds rs = map (λ r. r.second) rs

-- of the first n lines there are at most n*n pairs, and of all paired lines
pub record AreFew (ks : List ℕ) (paired : ℕ) : Type 0 where
  pub all : length ks ≤ paired * paired
  pub first : (n : ℕ) → n ≤ paired → count_below n ks ≤ n * n

-- pending pairs of one line with others
abbrev pub ArePendingOf : ℕ → List PairRecord → Type 0
ArePendingOf line [] = Unit {0}
ArePendingOf line (r ∷ rs) = (r.second ≡ line) × (r.state ≡ Pending) × ArePendingOf line rs

-- at most so many pending pairs of the line are appended
abbrev pub IsPaired : ℕ → ℕ → List PairRecord → List PairRecord → Type 0
IsPaired line most old new = (more : List PairRecord) × (new ≡ old ++ more) × ArePendingOf line more × (length more ≤ most)

-- how many pairs were reduced or follow from others by themselves
abbrev pub settled_one : PairState → ℕ
settled_one Pending = 0
settled_one (Closed n) = 1
settled_one (Represented n) = 0
settled_one (Over n) = 1

abbrev pub settled_count : List PairRecord → ℕ
settled_count [] = 0
settled_count (r ∷ rs) = settled_one r.state + settled_count rs

-- the pair at this place was not
abbrev pub IsPendingAt : List PairRecord → ℕ → Type 0
IsPendingAt [] place = ⊥
IsPendingAt (r ∷ rs) zero = settled_one r.state ≡ 0
IsPendingAt (r ∷ rs) (suc place) = IsPendingAt rs place

-- each pair was
abbrev pub AreSettled : List PairRecord → Type 0
AreSettled rs = AllByRecursion (λ r. settled_one r.state ≡ 1) rs

-- something is known of each pair
abbrev pub AreKnown : List PairRecord → Type 0
AreKnown rs = AllByRecursion (λ r. r.state ≢ Pending) rs

-- what is known by the first lines alone
abbrev pub known_by : ℕ → PairState → PairState
known_by len Pending = Pending
known_by len (Closed n) = if nat_le n len then Closed n else Pending
known_by len (Represented n) = if nat_le n len then Represented n else Pending
known_by len (Over n) = if nat_le n len then Over n else Pending

abbrev pub forgotten : ℕ → PairRecord → PairRecord
forgotten len r = record { first = r.first; second = r.second; state = known_by len r.state }

-- the pair with this known of it
abbrev pub with_state : PairRecord → PairState → PairRecord
with_state r s = record { first = r.first; second = r.second; state = s }

-- a pair before others, where a limit was passed at it
abbrev pub with_over : PairState → ℕ × ℕ → List (ℕ × ℕ) → List (ℕ × ℕ)
with_over Pending t ts = ts
with_over (Closed n) t ts = ts
with_over (Represented n) t ts = ts
with_over (Over n) t ts = t ∷ ts

-- the pairs at which one was passed
abbrev pub over_of : List PairRecord → List (ℕ × ℕ)
over_of [] = []
over_of (r ∷ rs) = with_over r.state (r.first, r.second) (over_of rs)

-- nothing is left to do: something is known of each pair and no limit was passed, or each pair is settled
abbrev pub AreDone : List PairRecord → Type 0
AreDone rs = (AreKnown rs × (over_of rs ≡ [])) ⊎ AreSettled rs

-- more pairs are known to be represented
pub record IsLeftOut (p : ℕ) (cmp : Monomial → Monomial → Ordering) (gs : List Terms) (old new : List PairRecord) (paired : ℕ) : Type 0 where
  pub pairs : ArePairs p cmp gs new paired
  pub seconds : seconds new ≡ seconds old
  pub settled : settled_count new ≡ settled_count old

-- the answer where nothing is left to do
abbrev pub answer_of : List (ℕ × ℕ) → Answer
answer_of [] = whole
answer_of (t ∷ ts) = SetAside (t ∷ ts)
