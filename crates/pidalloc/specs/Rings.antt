-- Processes in a ring of doubly linked nodes.
use Rattle.std.specs.Prelude.{◌≡◌, ℕ, zero, suc, ◌≤◌, ◌==◌, cond, true, not, List, [], ◌∷◌}
use Rattle.posix.specs.Common.{is_in, IsDistinct}
use Rattle.pidset.specs.Rows.{row_or, sizes_of}
use Rattle.pidalloc.specs.declared.order.Node.{Node}

-- the nodes, by pages
abbrev pub Nodes : Type 0
Nodes = List (List Node)

-- the node of i, and the processes after i and before it; 0 if i isn't in the ring
abbrev pub node_of : Nodes → ℕ → Node
node_of ns i = row_or (record { prev = 0; next = 0 }) ns i

unfoldable pub next_of : Nodes → ℕ → ℕ
next_of ns i = (node_of ns i).next

unfoldable pub prev_of : Nodes → ℕ → ℕ
prev_of ns i = (node_of ns i).prev

-- the first n IDs, from b on
unfoldable pub read_off : ℕ → Nodes → ℕ → List ℕ
read_off zero ns b = []
read_off (suc n) ns b = b ∷ read_off n ns (next_of ns b)

-- the nodes lead from b through these IDs to a, and back
unfoldable pub IsLinked : Nodes → ℕ → List ℕ → ℕ → Type 0
IsLinked ns b [] a = (next_of ns b ≡ a) × (prev_of ns a ≡ b)
IsLinked ns b (p ∷ ps) a = (next_of ns b ≡ p) × (prev_of ns p ≡ b) × IsLinked ns p ps a

-- `old` became `new`: b comes right after a, and nothing else changed
pub record IsJoined (old new : Nodes) (a b : ℕ) : Type 0 where
  pub sizes : sizes_of new ≡ sizes_of old
  pub next : (i : ℕ) → next_of new i ≡ cond (i == a) b (next_of old i)
  pub prev : (i : ℕ) → prev_of new i ≡ cond (i == b) a (prev_of old i)

-- the nodes lead from the first ID through the others, and back to it; the first is 0 if there are none
unfoldable pub IsRing : Nodes → ℕ → List ℕ → Type 0
IsRing ns first [] = first ≡ 0
IsRing ns first (p ∷ ps) = (first ≡ p) × IsLinked ns p ps p

-- What holds of the nodes of a run queue: they are a ring of its IDs, each once and none 0, and the node of an ID says
-- whether it is in the ring.
pub record IsKept (ns : Nodes) (first : ℕ) (ps : List ℕ) : Type 0 where
  pub ring : IsRing ns first ps
  pub distinct : IsDistinct ps
  pub low : (i : ℕ) → is_in i ps ≡ true → 1 ≤ i
  pub high : (i : ℕ) → is_in i ps ≡ true → i ≤ 2147483647
  pub told : (i : ℕ) → is_in i ps ≡ not (next_of ns i == 0)
