-- Indexes of processes: pairs of a key and a process ID. A process may have no key.
use Rattle.std.specs.Prelude.{◌≡◌, ℕ, ◌+◌, ◌-◌, ◌*◌, ◌<◌, ◌≤◌, ◌==◌, Bool, true, false, ◌&&◌, ◌||◌, not, nat_le, if◌then◌else◌, List, length, map, Option, Some, None, option_and_then, IsSome}
use Rattle.std.specs.List.{AllByRecursion, list_any}
use Rattle.std.specs.Option.{option_map_or}
use Rattle.posix.specs.Common.{Process, lookup, is_anchor}
use Rattle.pidset.specs.declared.index.Pair.{Pair}
use Rattle.pidset.specs.Numbers.{Rises}

-- a number for each key and process: it falls as the key rises, so that the lowest key is last, and rises with the
-- process ID
abbrev pub keyed_number : ℕ → ℕ → ℕ
keyed_number k p = (18446744073709551615 - k) * 4294967296 + p

abbrev pub pair_number : Pair → ℕ
pair_number x = keyed_number x.key x.pid

abbrev pub IsPair : Pair → Type 0
IsPair x = (1 ≤ x.pid) × (x.pid < 4294967296) × (x.key ≤ 18446744073709551615)

-- each pair once, in order
pub record ArePairs (pairs : List Pair) : Type 0 where
  pub rising : Rises (map pair_number pairs)
  pub within : AllByRecursion IsPair pairs

abbrev pub is_pair : ℕ → ℕ → Pair → Bool
is_pair k p x = x.key == k && x.pid == p

-- true if process p has key k
unfoldable pub is_pair_in : ℕ → ℕ → List Pair → Bool
is_pair_in k p pairs = list_any (is_pair k p) pairs

-- true if some process has a key from low to high, inclusive
abbrev pub has_within : ℕ → ℕ → List Pair → Bool
has_within low high pairs = list_any (λ x. nat_le low x.key && nat_le x.key high) pairs

-- the pairs, and how many there is room for, including these
pub record IndexView : Type 0 where
  pub pairs : List Pair
  pub room : ℕ

-- `next` is the lowest process ID above n with key k. It exists if some process above n has key k.
pub record IsNextPair (k n : ℕ) (pairs : List Pair) (next : Option ℕ) : Type 0 where
  pub there : (p : ℕ) → next ≡ Some p → (n < p) × (is_pair_in k p pairs ≡ true)
  pub least : (p : ℕ) → is_pair_in k p pairs ≡ true → n < p → (m : ℕ) × (next ≡ Some m) × (m ≤ p)

-- ---- one process

-- true if the key exists and is k
abbrev pub is_key : ℕ → Option ℕ → Bool
is_key k None = false
is_key k (Some n) = n == k

-- p has this key and no other, or no key
abbrev pub IsAt : ℕ → Option ℕ → List Pair → Type 0
IsAt p key pairs = (k : ℕ) → is_pair_in k p pairs ≡ is_key k key

-- p has this key now, and all other processes keep theirs
abbrev pub IsMoved : ℕ → Option ℕ → List Pair → List Pair → Type 0
IsMoved p key old new = (k q : ℕ) → is_pair_in k q new ≡ (if q == p then is_key k key else is_pair_in k q old)

-- p has this key, and there is room for a pair if it has none
pub record CanReplace (p : ℕ) (key : Option ℕ) (set : IndexView) : Type 0 where
  pub at : IsAt p key set.pairs
  pub room : key ≡ None → length set.pairs < set.room

-- p has this key now, the pairs are in order, and the room is unchanged
pub record IsReplaced (p : ℕ) (key : Option ℕ) (old new : IndexView) : Type 0 where
  pub moved : IsMoved p key old.pairs new.pairs
  pub once : ArePairs new.pairs
  pub room : new.room ≡ old.room

-- all processes that had one key have another
abbrev pub ArePairsRekeyed : ℕ → ℕ → List Pair → List Pair → Type 0
ArePairsRekeyed from to old new = (k p : ℕ) → is_pair_in k p new ≡ (not (k == from) && (is_pair_in k p old || k == to && is_pair_in from p old))

-- the processes are rekeyed, the pairs are in order, and the room is unchanged
pub record IsRekeyed (from to : ℕ) (old new : IndexView) : Type 0 where
  pub pairs : ArePairsRekeyed from to old.pairs new.pairs
  pub once : ArePairs new.pairs
  pub room : new.room ≡ old.room

-- ---- all processes

-- the key of process p, if p exists and has one
abbrev pub key_of : (Process → Option ℕ) → ℕ → List Process → Option ℕ
key_of key p rs = option_and_then key (lookup p rs)

-- each ID has its key in these pairs, or none
abbrev pub IsKeyed : (ℕ → Option ℕ) → List Pair → Type 0
IsKeyed keys pairs = (p : ℕ) → IsAt p (keys p) pairs

-- What an index is: each existing process has its key in these pairs, or none if it has no key.
abbrev pub IsIndex : (Process → Option ℕ) → List Process → List Pair → Type 0
IsIndex key rs pairs = IsKeyed (λ p. key_of key p rs) pairs

-- the key of a member that keeps its process group from being orphaned is that group
abbrev pub anchor_key : List Process → Process → Option ℕ
anchor_key rs r = if is_anchor rs r then Some r.group else None

-- the index of these members; the key depends on two records, that of the process and that of its parent
abbrev pub IsAnchorIndex : List Process → List Pair → Type 0
IsAnchorIndex rs pairs = IsIndex (anchor_key rs) rs pairs

-- an index with room for all processes
pub record IsIndexed (key : Process → Option ℕ) (rs : List Process) (set : IndexView) : Type 0 where
  pub index : IsIndex key rs set.pairs
  pub once : ArePairs set.pairs
  pub room : length rs ≤ set.room

-- ---- children

-- true if q has key k after the children of p have got these keys, and all others have kept theirs
abbrev pub is_turned : ℕ → (Process → Option ℕ) → List Process → List Pair → ℕ → ℕ → Bool
is_turned p key rs old k q = option_map_or (λ r. if r.parent == p then is_key k (key r) else is_pair_in k q old) (lookup q rs) (is_pair_in k q old)

-- the children of p have got these keys, and all others have kept theirs
abbrev pub AreTurned : ℕ → (Process → Option ℕ) → List Process → List Pair → List Pair → Type 0
AreTurned p key rs old new = (k q : ℕ) → is_pair_in k q new ≡ is_turned p key rs old k q

-- each of these processes has an existing parent
abbrev pub HaveParents : (ℕ → Process → Type 0) → List Process → Type 0
HaveParents has rs = (p : ℕ) (r : Process) → has p r → lookup p rs ≡ Some r → IsSome (lookup r.parent rs)
