-- Doubly linked lists of processes.
use Rattle.std.specs.Prelude.{◌≡◌, true, ◌≢◌, ◌⊎◌, ℕ, ◌*◌, ◌<◌, ◌≤◌, ◌==◌, cond, if◌then◌else◌, List, length, filter_map, Option, Some, None}
use Rattle.std.specs.List.{range_with_len}
use Rattle.pidset.specs.declared.index.Pair.{Pair}
use Rattle.pidset.specs.declared.lists.Node.{Node}
use Rattle.pidset.specs.Indexes.{is_pair_in}
use Rattle.pidset.specs.Rows.{IsOnAnotherPage, row_or, sizes_without, sizes_of, with_row}

-- the processes with the IDs of their lists, and for how many IDs of each page there is room
pub record ListsView : Type 0 where
  pub pairs : List Pair
  pub sizes : List ℕ

-- no process whose ID is on the page of n is in a list, and no list whose ID is on that page contains a process
abbrev pub IsPageUnused : ℕ → List Pair → Type 0
IsPageUnused n pairs = (k p : ℕ) → is_pair_in k p pairs ≡ true → IsOnAnotherPage k n × IsOnAnotherPage p n

-- the lists without room for the IDs on the page of n
abbrev pub without_page_of : ℕ → ListsView → ListsView
without_page_of n v = record { pairs = v.pairs; sizes = sizes_without v.sizes n }

-- the nodes, by pages
abbrev pub Nodes : Type 0
Nodes = List (List Node)

-- the node of i
unfoldable pub node_of : Nodes → ℕ → Node
node_of ns i = row_or (record { list = 0; before = 0; behind = 0; first = 0; last = 0 }) ns i

-- the list that contains i; 0 if none does
unfoldable pub list_of : Nodes → ℕ → ℕ
list_of ns i = (node_of ns i).list

-- the process i with the ID of its list, if one contains it
abbrev pub pair_of : Nodes → ℕ → Option Pair
pair_of ns i = if list_of ns i == 0 then None else Some (record { key = list_of ns i; pid = i })

-- all processes in lists
unfoldable pub pairs_in : Nodes → List Pair
pairs_in ns = filter_map (pair_of ns) (range_with_len 0 (1024 * length ns))

-- the process after a in the list k, or its first if a is 0
unfoldable pub behind_of : Nodes → ℕ → ℕ → ℕ
behind_of ns k a = if a == 0 then (node_of ns k).first else (node_of ns a).behind

-- the process before b in the list k, or its last if b is 0
unfoldable pub before_of : Nodes → ℕ → ℕ → ℕ
before_of ns k b = if b == 0 then (node_of ns k).last else (node_of ns b).before

-- a is in the list k, or is 0, which comes before its first and after its last
abbrev pub Stands : Nodes → ℕ → ℕ → Type 0
Stands ns k a = (a ≡ 0) ⊎ (list_of ns a ≡ k)

-- m is an ID in the list k above a; 0 for none
abbrev pub IsAbove : Nodes → ℕ → ℕ → ℕ → Type 0
IsAbove ns k a m = (m ≡ 0) ⊎ ((a < m) × (list_of ns m ≡ k))

-- m is the lowest such ID; 0 if there is none
pub record IsLeast (ns : Nodes) (k a m : ℕ) : Type 0 where
  pub there : IsAbove ns k a m
  pub least : (q : ℕ) → list_of ns q ≡ k → a < q → (1 ≤ m) × (m ≤ q)

-- what holds of the nodes: in each list the links lead from each process to the one with the next higher ID, and back
pub record AreLinked (ns : Nodes) : Type 0 where
  pub none : list_of ns 0 ≡ 0
  pub behind : (k a : ℕ) → k ≢ 0 → Stands ns k a → IsLeast ns k a (behind_of ns k a)
  pub before : (k b : ℕ) → k ≢ 0 → Stands ns k b → Stands ns k (before_of ns k b) × (behind_of ns k (before_of ns k b) ≡ b)

-- the nodes after p gets its place in the list k between a and b
unfoldable pub with_place : Nodes → ℕ → ℕ → ℕ → ℕ → Nodes
with_place ns p k a b = with_row ns p (record (node_of ns p) { list = k; before = a; behind = b })

-- the nodes after b becomes the one after a in the list k, or its first if a is 0
unfoldable pub with_behind : Nodes → ℕ → ℕ → ℕ → Nodes
with_behind ns k a b = if a == 0 then with_row ns k (record (node_of ns k) { first = b }) else with_row ns a (record (node_of ns a) { behind = b })

-- the nodes after a becomes the one before b in the list k, or its last if b is 0
unfoldable pub with_before : Nodes → ℕ → ℕ → ℕ → Nodes
with_before ns k b a = if b == 0 then with_row ns k (record (node_of ns k) { last = a }) else with_row ns b (record (node_of ns b) { before = a })

-- the nodes after x becomes the one after a in the list k, and y the one before b
abbrev pub joined : Nodes → ℕ → ℕ → ℕ → ℕ → ℕ → Nodes
joined ns k a x b y = with_before (with_behind ns k a x) k b y

-- the nodes are linked, p is in the list k, or in none, and all others are where they were
pub record IsListed (old new : Nodes) (p k : ℕ) : Type 0 where
  pub sizes : sizes_of new ≡ sizes_of old
  pub linked : AreLinked new
  pub list : (i : ℕ) → list_of new i ≡ cond (i == p) k (list_of old i)

-- p belongs between a and b in the list k
pub record IsPlaceFor (ns : Nodes) (k p a b : ℕ) : Type 0 where
  pub stands : Stands ns k a
  pub behind : behind_of ns k a ≡ b
  pub low : a < p
  pub high : (b ≡ 0) ⊎ (p < b)

-- m is where the search for the lowest ID above n in the list k starts: m is in the list or 0, and skips no such ID
pub record IsFrom (ns : Nodes) (k n m : ℕ) : Type 0 where
  pub there : Stands ns k m
  pub least : (q : ℕ) → list_of ns q ≡ k → n < q → (1 ≤ m) × (m ≤ q)
