-- The run queue by stamps. A process is in the run queue if it has a stamp; the queue is in ascending order of stamps.
use Rattle.std.specs.Prelude.{ℕ, ◌+◌, ◌<◌, ◌≤◌, ◌==◌, ◌≡◌, ◌↔◌, false, if◌then◌else◌, List, [], ◌∷◌, ◌++◌, Option, Some, None, IsSome, Contains, AllPairs}
use Rattle.posix.specs.Common.{is_in, without}

-- The stamp of each process that has one.
abbrev pub Stamps : Type 0
Stamps = ℕ → Option ℕ

-- No process has a stamp.
abbrev pub no_stamps : Stamps
no_stamps q = None

-- Returns the stamps without that of p.
abbrev pub without_stamp : ℕ → Stamps → Stamps
without_stamp p stamps q = if q == p then None else stamps q

-- Returns the stamps with the stamp n for p.
abbrev pub with_stamp : ℕ → ℕ → Stamps → Stamps
with_stamp p n stamps q = if q == p then Some n else stamps q

-- All stamps are below n.
abbrev pub AllBelow : ℕ → Stamps → Type 0
AllBelow n stamps = (q m : ℕ) → stamps q ≡ Some m → m < n

-- Both are stamps, and the first is below the second.
abbrev pub IsBelow : Option ℕ → Option ℕ → Type 0
IsBelow None later = ⊥
IsBelow (Some m) None = ⊥
IsBelow (Some m) (Some n) = m < n

-- The list has each process with a stamp, once, in ascending order of stamps.
pub record IsRisingOrder (order : List ℕ) (stamps : Stamps) : Type 0 where
  pub placed : (q : ℕ) → Contains order q ↔ IsSome (stamps q)
  pub rising : AllPairs (λ q r. IsBelow (stamps q) (stamps r)) order

-- p has a stamp, and it is the lowest.
abbrev pub HasLeastStamp : ℕ → Stamps → Type 0
HasLeastStamp p stamps = (n : ℕ) × (stamps p ≡ Some n) × ((q m : ℕ) → stamps q ≡ Some m → n ≤ m)

-- ---- moves

-- The stamps, and the next stamp to be given.
pub record Stamping : Type 0 where
  pub stamps : Stamps
  pub next : ℕ

-- The order is the ascending order of the stamps, and the next stamp is above all others.
pub record IsStamped (order : List ℕ) (t : Stamping) : Type 0 where
  pub rising : IsRisingOrder order t.stamps
  pub below : AllBelow t.next t.stamps

-- At boot, process 1 has the stamp 0.
abbrev pub first_stamping : Stamping
first_stamping = record { stamps = with_stamp 1 0 no_stamps; next = 1 }

-- Gives p the next stamp.
abbrev pub stamped : ℕ → Stamping → Stamping
stamped p t = record { stamps = with_stamp p t.next t.stamps; next = t.next + 1 }

-- A change of the run queue: a process leaves, moves to the end, or enters at the end.
pub data Move : Type 0 where
  Lose : ℕ → Move
  GoLast : ℕ → Move
  Place : ℕ → Move

-- Only the current process leaves the run queue or moves to its end; a process that enters is not in it.
abbrev pub CanMove : Option ℕ → List ℕ → Move → Type 0
CanMove turn order (Lose p) = turn ≡ Some p
CanMove turn order (GoLast p) = turn ≡ Some p
CanMove turn order (Place p) = is_in p order ≡ false

abbrev pub order_moved : List ℕ → Move → List ℕ
order_moved order (Lose p) = without p order
order_moved order (GoLast p) = without p order ++ p ∷ []
order_moved order (Place p) = order ++ p ∷ []

-- A process that moves to the end, or enters, gets the next stamp.
abbrev pub stamping_moved : Stamping → Move → Stamping
stamping_moved t (Lose p) = record t { stamps = without_stamp p t.stamps }
stamping_moved t (GoLast p) = stamped p t
stamping_moved t (Place p) = stamped p t

-- The moves lead from one run queue to another, while this process is current.
abbrev pub Leads : Option ℕ → List ℕ → List Move → List ℕ → Type 0
Leads turn old [] new = new ≡ old
Leads turn old (m ∷ ms) new = CanMove turn old m × Leads turn (order_moved old m) ms new

abbrev pub stamping_after : Stamping → List Move → Stamping
stamping_after t [] = t
stamping_after t (m ∷ ms) = stamping_after (stamping_moved t m) ms
