-- The children of each process as a linked list: each record names its first child, its previous sibling and its next
-- sibling. The children of process 1, which are never reparented, are in no list.
use Rattle.std.specs.Prelude.{ℕ, ◌≡◌, ◌≢◌, ◌⊎◌, ◌<◌, ◌≤◌, ◌==◌, Bool, false, cond, if◌then◌else◌, List, Option, Some, option_map, count_by}
use Rattle.std.specs.Option.{option_map_or}
use Rattle.std.specs.Map.{keys_of}
use Rattle.audit.specs.declared.records.Record.{Record}
use Rattle.audit.specs.declared.records.Link.{Link}
use Rattle.audit.specs.declared.records.Link.TheVariants.{Parent, First, Before, Behind, Place, Begins}
use Rattle.audit.specs.declared.records.State.{State}
use Rattle.audit.specs.Records.{newborn_state, record_in, kept_by, changed, NobodyMarked}

-- Returns the parent of i, or 0.
unfoldable pub parent_in : (ℕ → Option Record) → ℕ → ℕ
parent_in f i = option_map_or (λ r. r.parent) (f i) 0

-- Returns the first child of i, or 0.
abbrev pub first_of : (ℕ → Option Record) → ℕ → ℕ
first_of f i = option_map_or (λ r. r.first) (f i) 0

-- Returns the next sibling of i, or 0.
abbrev pub behind_of : (ℕ → Option Record) → ℕ → ℕ
behind_of f i = option_map_or (λ r. r.behind) (f i) 0

-- Returns the child of k after a, or the first child of k after 0; 0 if there is none.
unfoldable pub behind_in : (ℕ → Option Record) → ℕ → ℕ → ℕ
behind_in f k a = if a == 0 then first_of f k else behind_of f a

-- Returns the previous sibling of b, or 0.
unfoldable pub before_in : (ℕ → Option Record) → ℕ → ℕ
before_in f b = option_map_or (λ r. r.before) (f b) 0

unfoldable pub state_in : (ℕ → Option Record) → ℕ → Option State
state_in f i = option_map (λ r. r.state) (f i)

-- The ID a is a child of k, or 0, which comes before the first child and after the last.
abbrev pub Stands : (ℕ → Option Record) → ℕ → ℕ → Type 0
Stands f k a = (a ≡ 0) ⊎ (parent_in f a ≡ k)

-- The child z of k comes right after a, at a higher place, or z is 0.
pub record IsNext (f : ℕ → Option Record) (place : ℕ → ℕ) (k a z : ℕ) : Type 0 where
  pub stands : Stands f k z
  pub back : z ≢ 0 → before_in f z ≡ a
  pub rises : z ≢ 0 → a ≢ 0 → place a < place z

-- In each list, the links lead from each child to the next one, and back.
pub record AreLinked (f : ℕ → Option Record) : Type 0 where
  pub place : ℕ → ℕ
  pub nobody : parent_in f 0 ≡ 0
  pub behind : (k a : ℕ) → 2 ≤ k → Stands f k a → IsNext f place k a (behind_in f k a)
  pub before : (k c : ℕ) → 2 ≤ k → parent_in f c ≡ k → Stands f k (before_in f c) × (behind_in f k (before_in f c) ≡ c)

-- The lists are linked, and there is no child subreaper unless there may be one.
abbrev pub AreSound : Bool → List (ℕ × Record) → Type 0
AreSound may entries = AreLinked (record_in entries) × (may ≡ false → NobodyMarked (kept_by entries))

-- Returns a record with one link changed.
abbrev pub linked : Link → Record → Record
linked (Parent parent) r = record r { parent = parent }
linked (First first) r = record r { first = first }
linked (Before before) r = record r { before = before }
linked (Behind behind) r = record r { behind = behind }
linked (Place parent behind) r = record r { parent = parent; before = 0; behind = behind }
linked Begins r = record r { parent = 0; state = newborn_state }

abbrev pub in_state : State → Record → Record
in_state s r = record r { state = s }

-- Returns the records after b becomes the next sibling of a, or the first child of k.
abbrev pub put_behind : ℕ → ℕ → ℕ → (ℕ → Option Record) → ℕ → Option Record
put_behind k a b f = if a == 0 then changed k (linked (First b)) f else changed a (linked (Behind b)) f

-- Returns the records after b comes right after a among the children of k.
abbrev pub joined : ℕ → ℕ → ℕ → (ℕ → Option Record) → ℕ → Option Record
joined k a b f = changed b (linked (Before a)) (put_behind k a b f)

-- The process p has the parent k; all other parents, and all states, are unchanged.
pub record IsGiven (p k : ℕ) (old new : List (ℕ × Record)) : Type 0 where
  pub linked : AreLinked (record_in new)
  pub parent : (i : ℕ) → parent_in (record_in new) i ≡ cond (i == p) k (parent_in (record_in old) i)
  pub state : (i : ℕ) → state_in (record_in new) i ≡ state_in (record_in old) i
  pub keys : keys_of new ≡ keys_of old

-- Returns the number of children of p.
abbrev pub count_children : ℕ → List (ℕ × Record) → ℕ
count_children p entries = count_by (λ q. parent_in (record_in entries) q == p) (keys_of entries)

-- The children of p have a new parent, and keep their order, but p has no first child. The first of them was c, and
-- the last one z; both are 0 if there are none.
pub record AreAllGiven (p heir c z : ℕ) (f g : ℕ → Option Record) : Type 0 where
  pub parent : (i : ℕ) → parent_in g i ≡ (if parent_in f i == p then heir else parent_in f i)
  pub first : (k : ℕ) → behind_in g k 0 ≡ (if k == p then 0 else behind_in f k 0)
  pub behind : (k a : ℕ) → a ≢ 0 → behind_in g k a ≡ behind_in f k a
  pub before : (b : ℕ) → before_in g b ≡ before_in f b
  pub state : (i : ℕ) → state_in g i ≡ state_in f i
  pub starts : c ≡ behind_in f p 0
  pub stands : Stands f p z
  pub ends : behind_in f p z ≡ 0

-- The children of p have a new parent; all other parents, and all states, are unchanged.
pub record AreGivenOn (p heir : ℕ) (old new : List (ℕ × Record)) : Type 0 where
  pub linked : AreLinked (record_in new)
  pub parent : (i : ℕ) → parent_in (record_in new) i ≡ (if parent_in (record_in old) i == p then heir else parent_in (record_in old) i)
  pub state : (i : ℕ) → state_in (record_in new) i ≡ state_in (record_in old) i

-- All parents and siblings are unchanged.
pub record KeepLinks (f g : ℕ → Option Record) : Type 0 where
  pub parent : (i : ℕ) → parent_in g i ≡ parent_in f i
  pub behind : (k a : ℕ) → behind_in g k a ≡ behind_in f k a
  pub before : (b : ℕ) → before_in g b ≡ before_in f b

-- A life of p begins, without a parent; all other parents and states are unchanged.
pub record IsBegun (p : ℕ) (old new : List (ℕ × Record)) : Type 0 where
  pub linked : AreLinked (record_in new)
  pub parent : (i : ℕ) → parent_in (record_in new) i ≡ cond (i == p) 0 (parent_in (record_in old) i)
  pub state : (i : ℕ) → state_in (record_in new) i ≡ cond (i == p) (Some newborn_state) (state_in (record_in old) i)
