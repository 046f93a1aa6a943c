-- The contents of the nodes of lists, and what a change of one node changes.
use Rattle.std.proofs.Common.{◌≡◌, ◌≢◌, ◌⊎◌, ℕ, ◌/◌, cond, refl, ◌∙◌, arith, ◌==◌, inl, inr}
use Rattle.std.proofs.lemmas.Bool.{eq-eqb, ne_eqb, cases_eq}
use Rattle.std.proofs.lemmas.Bool.Decides.{nat_tests}
use Rattle.pidset.specs.declared.lists.Node.{Node}
use Rattle.pidset.specs.Rows.{HasRow, IsOnAnotherPage, sizes_of, with_row, without_page}
use Rattle.pidset.specs.Lists.{Nodes, node_of, list_of, behind_of, before_of, with_place, with_behind, with_before, joined}
use Rattle.pidset.proofs.RowLemmas.{row_set, row_kept, row_or_none, row_left, row_gone, sizes_kept}

-- ---- a node is read

-- the node of a process in no list, and of an empty list
abbrev pub nowhere : Node
nowhere = record { list = 0; before = 0; behind = 0; first = 0; last = 0 }

pub node_or_none : (ns : Nodes) (i : ℕ) → HasRow ns i ⊎ (node_of ns i ≡ nowhere)
unfolding node_of
node_or_none ns i = row_or_none ns i nowhere

-- ---- a page of nodes is freed

pub node_left : (ns : Nodes) (n i : ℕ) → IsOnAnotherPage i n → node_of (without_page ns n) i ≡ node_of ns i
unfolding node_of
node_left ns n i apart = row_left ns n i nowhere apart

pub node_gone : (ns : Nodes) (n i : ℕ) → i / 1024 ≡ n / 1024 → node_of (without_page ns n) i ≡ nowhere
unfolding node_of
node_gone ns n i same = row_gone ns n i nowhere same

-- ---- a node is set

node_set : (ns : Nodes) (x i : ℕ) (n : Node) → HasRow ns x → node_of (with_row ns x n) i ≡ cond (i == x) n (node_of ns i)
unfolding node_of
node_set ns x i n h = row_set ns x i n nowhere h

-- p is now in the list k between a and b, and nothing else changed
pub record IsPlaced (old new : Nodes) (p k a b : ℕ) : Type 0 where
  pub sizes : sizes_of new ≡ sizes_of old
  pub list : (i : ℕ) → list_of new i ≡ cond (i == p) k (list_of old i)
  pub behind : (n i : ℕ) → behind_of new n i ≡ cond (i == p) b (behind_of old n i)
  pub before : (n i : ℕ) → before_of new n i ≡ cond (i == p) a (before_of old n i)

placed_so : (old new : Nodes) (p k a b : ℕ) → p ≢ 0 → sizes_of new ≡ sizes_of old → ((i : ℕ) → node_of new i ≡ cond (i == p) (record (node_of old p) { list = k; before = a; behind = b }) (node_of old i)) → IsPlaced old new p k a b
unfolding list_of behind_of before_of
placed_so old new p k a b some sizes is = record {
  sizes = sizes;
  list = λ i. grind (arith, nat_tests, is i);
  behind = λ n i. grind (arith, nat_tests, is i, is n);
  before = λ n i. grind (arith, nat_tests, is i, is n);
}

pub placed : (ns : Nodes) (p k a b : ℕ) → p ≢ 0 → HasRow ns p → IsPlaced ns (with_place ns p k a b) p k a b
unfolding with_place
placed ns p k a b some h = placed_so ns _ p k a b some (sizes_kept ns p _) (λ i. node_set ns p i _ h)

-- the links of a process are the same in each list
pub links_same : (ns : Nodes) (p k n : ℕ) → p ≢ 0 → (behind_of ns n p ≡ behind_of ns k p) × (before_of ns n p ≡ before_of ns k p)
unfolding behind_of before_of
links_same ns p k n some = rw (ne_eqb p 0 some) (refl, refl)

-- x is now after a in the list k, and y before b, and nothing else changed
pub record IsJoined (old new : Nodes) (k a x b y : ℕ) : Type 0 where
  pub sizes : sizes_of new ≡ sizes_of old
  pub list : (i : ℕ) → list_of new i ≡ list_of old i
  pub behind : (n i : ℕ) → n ≡ k → behind_of new n i ≡ cond (i == a) x (behind_of old n i)
  pub before : (n i : ℕ) → n ≡ k → before_of new n i ≡ cond (i == b) y (before_of old n i)
  pub else_behind : (n i : ℕ) → n ≢ k → (i ≡ a → a ≡ 0) → behind_of new n i ≡ behind_of old n i
  pub else_before : (n i : ℕ) → n ≢ k → (i ≡ b → b ≡ 0) → before_of new n i ≡ before_of old n i

-- which node changes when another process comes after a in the list k, and how
abbrev IsBehindSet : Nodes → Nodes → ℕ → ℕ → ℕ → Type 0
IsBehindSet old new k a b = (i : ℕ) → node_of new i ≡ cond (a == 0) (cond (i == k) (record (node_of old k) { first = b }) (node_of old i)) (cond (i == a) (record (node_of old a) { behind = b }) (node_of old i))

abbrev IsBeforeSet : Nodes → Nodes → ℕ → ℕ → ℕ → Type 0
IsBeforeSet old new k b a = (i : ℕ) → node_of new i ≡ cond (b == 0) (cond (i == k) (record (node_of old k) { last = a }) (node_of old i)) (cond (i == b) (record (node_of old b) { before = a }) (node_of old i))

behind_set : (ns : Nodes) (k a b : ℕ) → HasRow ns k → (a ≢ 0 → HasRow ns a) → IsBehindSet ns (with_behind ns k a b) k a b
unfolding with_behind
behind_set ns k a b hk ha i = elim (cases_eq a 0) [ inl e ↦ rw (eq-eqb a 0 e) (node_set ns k i _ hk) | inr ne ↦ rw (ne_eqb a 0 ne) (node_set ns a i _ (ha ne)) ]

before_set : (ns : Nodes) (k b a : ℕ) → HasRow ns k → (b ≢ 0 → HasRow ns b) → IsBeforeSet ns (with_before ns k b a) k b a
unfolding with_before
before_set ns k b a hk hb i = elim (cases_eq b 0) [ inl e ↦ rw (eq-eqb b 0 e) (node_set ns k i _ hk) | inr ne ↦ rw (ne_eqb b 0 ne) (node_set ns b i _ (hb ne)) ]

sizes_behind : (ns : Nodes) (k a b : ℕ) → sizes_of (with_behind ns k a b) ≡ sizes_of ns
unfolding with_behind
sizes_behind ns k a b = elim (cases_eq a 0) [ inl e ↦ rw (eq-eqb a 0 e) (sizes_kept ns k _) | inr ne ↦ rw (ne_eqb a 0 ne) (sizes_kept ns a _) ]

sizes_before : (ns : Nodes) (k b a : ℕ) → sizes_of (with_before ns k b a) ≡ sizes_of ns
unfolding with_before
sizes_before ns k b a = elim (cases_eq b 0) [ inl e ↦ rw (eq-eqb b 0 e) (sizes_kept ns k _) | inr ne ↦ rw (ne_eqb b 0 ne) (sizes_kept ns b _) ]

-- no node is lost
pub row_behind : (ns new : Nodes) (k a b i : ℕ) → new ≡ with_behind ns k a b → HasRow ns i → HasRow new i
row_behind ns new k a b i is h = rw is (row_kept ns (with_behind ns k a b) i (sizes_behind ns k a b) h)

pub row_joined : (ns mid new : Nodes) (k a x b y i : ℕ) → mid ≡ with_behind ns k a x → new ≡ with_before mid k b y → HasRow ns i → HasRow new i
row_joined ns mid new k a x b y i one two h = rw (two, one) (row_kept ns (joined ns k a x b y) i (sizes_before (with_behind ns k a x) k b y ∙ sizes_behind ns k a x) h)

joins_so : (old mid new : Nodes) (k a x b y : ℕ) → sizes_of new ≡ sizes_of old → IsBehindSet old mid k a x → IsBeforeSet mid new k b y → IsJoined old new k a x b y
unfolding list_of behind_of before_of
joins_so old mid new k a x b y sizes one two = record {
  sizes = sizes;
  list = λ i. grind (arith, nat_tests, one, two);
  behind = λ n i h. grind (arith, nat_tests, one, two);
  before = λ n i h. grind (arith, nat_tests, one, two);
  else_behind = λ n i h t. grind (arith, nat_tests, one, two);
  else_before = λ n i h t. grind (arith, nat_tests, one, two);
}

pub joins : (ns : Nodes) (k a x b y : ℕ) → HasRow ns k → (a ≢ 0 → HasRow ns a) → (b ≢ 0 → HasRow ns b) → IsJoined ns (joined ns k a x b y) k a x b y
joins ns k a x b y hk ha hb =
    let mid : Nodes = with_behind ns k a x in
    let s = sizes_behind ns k a x in
    joins_so ns mid (with_before mid k b y) k a x b y (sizes_before mid k b y ∙ s) (behind_set ns k a x hk ha) (before_set mid k b y (row_kept ns mid k s hk) (λ h. row_kept ns mid b s (hb h)))
