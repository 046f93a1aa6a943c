-- Doubly linked IDs, when one is added at the end or removed.
use Rattle.std.proofs.Common.{◌≡◌, ℕ, zero, suc, true, false, cond, refl, ap, sym, ◌∙◌, subst, List, [], ◌∷◌, ◌++◌, length, ◌==◌, arith, inl, inr}
use Rattle.std.proofs.lemmas.Bool.{eqb-true, eq-eqb, ne_eqb, cases_eq}
use Rattle.std.proofs.lemmas.Bool.Decides.{nat_tests}
use Rattle.posix.specs.Common.{is_in, without, IsDistinct}
use Rattle.posix.proofs.MemberLemmas.{in_first, in_none}
use Rattle.posix.proofs.OrderLemmas.{without_absent}
use Rattle.pidset.specs.Rows.{HasRow, with_row}
use Rattle.pidset.proofs.RowLemmas.{row_set, row_kept, sizes_kept}
use Rattle.pidalloc.specs.declared.order.Node.{Node}
use Rattle.pidalloc.specs.Rings.{Nodes, node_of, next_of, prev_of, read_off, IsLinked, IsJoined}

-- ---- nodes

-- a node is set
pub next_set : (ns : Nodes) (k : ℕ) (n : Node) → HasRow ns k → (i : ℕ) → next_of (with_row ns k n) i ≡ cond (i == k) n.next (next_of ns i)
unfolding next_of
next_set ns k n h i = grind (arith, row_set ns k i n (record { prev = 0; next = 0 }) h)

pub prev_set : (ns : Nodes) (k : ℕ) (n : Node) → HasRow ns k → (i : ℕ) → prev_of (with_row ns k n) i ≡ cond (i == k) n.prev (prev_of ns i)
unfolding prev_of
prev_set ns k n h i = grind (arith, row_set ns k i n (record { prev = 0; next = 0 }) h)

-- a node is read
pub next_read : (ns : Nodes) (i : ℕ) (n : Node) → node_of ns i ≡ n → next_of ns i ≡ n.next
unfolding next_of
next_read ns i n e = ap (λ (m : Node). m.next) e

pub prev_read : (ns : Nodes) (i : ℕ) (n : Node) → node_of ns i ≡ n → prev_of ns i ≡ n.prev
unfolding prev_of
prev_read ns i n e = ap (λ (m : Node). m.prev) e

-- two are joined when the one gets its next node, and then the other its previous one
pub joining : (ns : Nodes) (a b : ℕ) (x y : Node) → HasRow ns a → HasRow ns b → node_of ns a ≡ x → node_of (with_row ns a (record { prev = x.prev; next = b })) b ≡ y
    → IsJoined ns (with_row (with_row ns a (record { prev = x.prev; next = b })) b (record { prev = a; next = y.next })) a b
joining ns a b x y ha hb ex ey =
    let mid : Nodes = with_row ns a (record { prev = x.prev; next = b }) in
    let more : HasRow mid b = row_kept ns mid b (sizes_kept ns a (record { prev = x.prev; next = b })) hb in
    record {
      sizes = sizes_kept mid b (record { prev = a; next = y.next }) ∙ sizes_kept ns a (record { prev = x.prev; next = b });
      next = λ i. grind (arith, eqb-true, next_set mid b (record { prev = a; next = y.next }) more i, next_read mid b y ey, next_set ns a (record { prev = x.prev; next = b }) ha i);
      prev = λ i. grind (arith, eqb-true, prev_set mid b (record { prev = a; next = y.next }) more i, prev_set ns a (record { prev = x.prev; next = b }) ha i, prev_read ns a x ex);
    }

-- ---- what follows from links

-- the IDs are read off
pub read_back : (ns : Nodes) (b : ℕ) (ps : List ℕ) (a : ℕ) → IsLinked ns b ps a → read_off (suc (length ps)) ns b ≡ b ∷ ps
unfolding IsLinked read_off
read_back ns b [] a l = refl
read_back ns b (p ∷ ps) a l = rw l.0 (ap (λ qs. b ∷ qs) (read_back ns p ps a l.2))

-- n IDs are read off
pub read_length : (n : ℕ) (ns : Nodes) (b : ℕ) → length (read_off n ns b) ≡ n
unfolding read_off
read_length zero ns b = refl
read_length (suc n) ns b = ap suc (read_length n ns (next_of ns b))

-- the node after one of them, or after the one before them, is one of them or the end
pub next_in : (ns : Nodes) (b : ℕ) (ps : List ℕ) (a : ℕ) → IsLinked ns b ps a → (p : ℕ) → is_in p (b ∷ ps) ≡ true → is_in (next_of ns p) (a ∷ ps) ≡ true
unfolding IsLinked is_in
next_in ns b [] a l p e = grind (arith, nat_tests, l.0)
next_in ns b (x ∷ xs) a l p e = grind (arith, nat_tests, next_in ns x xs a l.2 p, l.0)

-- the node before one of them, or before the end, is one of them or the one before them
pub prev_in : (ns : Nodes) (b : ℕ) (ps : List ℕ) (a : ℕ) → IsLinked ns b ps a → (p : ℕ) → is_in p (a ∷ ps) ≡ true → is_in (prev_of ns p) (b ∷ ps) ≡ true
unfolding IsLinked is_in
prev_in ns b [] a l p e = grind (arith, nat_tests, l.1)
prev_in ns b (x ∷ xs) a l p e = grind (arith, nat_tests, prev_in ns x xs a l.2 p, l.1)

-- links stay if the nodes of the linked IDs do
pub stay : (old new : Nodes) (b : ℕ) (ps : List ℕ) (a : ℕ) → ((i : ℕ) → is_in i (b ∷ ps) ≡ true → next_of new i ≡ next_of old i) → ((i : ℕ) → is_in i (a ∷ ps) ≡ true → prev_of new i ≡ prev_of old i)
    → IsLinked old b ps a → IsLinked new b ps a
unfolding IsLinked is_in
stay old new b [] a n p l = (n b (in_first b []) ∙ l.0, p a (in_first a []) ∙ l.1)
stay old new b (x ∷ xs) a n p l = (n b (in_first b (x ∷ xs)) ∙ l.0, p x (grind (arith, in_first x xs)) ∙ l.1, stay old new x xs a (λ i e. n i (grind (arith, e))) (λ i e. p i (grind (arith, e))) l.2)

-- links that lead to y, and on from y
pub appended : (ns : Nodes) (b : ℕ) (xs : List ℕ) (y : ℕ) (ys : List ℕ) (a : ℕ) → IsLinked ns b xs y → IsLinked ns y ys a → IsLinked ns b (xs ++ y ∷ ys) a
unfolding IsLinked
appended ns b [] y ys a l k = (l.0, l.1, k)
appended ns b (x ∷ xs) y ys a l k = (l.0, l.1, appended ns x xs y ys a l.2 k)

-- the end a is replaced by c
pub turned : (old new : Nodes) (c b : ℕ) (ps : List ℕ) (a : ℕ) → IsLinked old b ps a → IsJoined old new (prev_of old a) c → is_in b ps ≡ false → IsDistinct ps → is_in c ps ≡ false → IsLinked new b ps c
unfolding IsLinked IsDistinct is_in
turned old new c b [] a l j ob d oc = grind (arith, eq-eqb, j.next b, j.prev c, l.0, l.1)
turned old new c b (x ∷ xs) a l j ob d oc =
    let among = prev_in old x xs a l.2 a (in_first a xs) in
    (grind (arith, eqb-true, j.next b, among, ob, l.0), grind (arith, eqb-true, j.prev x, oc, l.1), turned old new c x xs a l.2 j d.0 d.1 (grind (arith, oc)))

-- the node before p and the nodes after p are joined
bridged : (old new : Nodes) (b p : ℕ) (ps : List ℕ) (a : ℕ) → IsLinked old p ps a → IsJoined old new b (next_of old p) → is_in b ps ≡ false → is_in a ps ≡ false → IsDistinct ps → IsLinked new b ps a
unfolding IsLinked IsDistinct is_in
bridged old new b p [] a l j ob oa d = grind (arith, eq-eqb, j.next b, j.prev a, l.0, l.1)
bridged old new b p (y ∷ ys) a l j ob oa d = (
  grind (arith, eq-eqb, j.next b, l.0),
  grind (arith, eq-eqb, j.prev y, l.0),
  stay old new y ys a (λ i e. grind (arith, eqb-true, j.next i, e, ob)) (λ i e. grind (arith, eqb-true, j.prev i, e, l.0, oa, d.0)) l.2,
)

-- p is removed
pub taken_out : (old new : Nodes) (p b : ℕ) (ps : List ℕ) (a : ℕ) → IsLinked old b ps a → IsJoined old new (prev_of old p) (next_of old p) → is_in b ps ≡ false → is_in a ps ≡ false → IsDistinct ps → is_in p ps ≡ true
    → IsLinked new b (without p ps) a
unfolding IsLinked IsDistinct is_in without
taken_out old new p b [] a l j ob oa d e = absurd (in_none p e)
taken_out old new p b (x ∷ xs) a l j ob oa d e = elim (cases_eq x p) [
  | inl same ↦
      let k = subst (λ n. IsJoined old new n (next_of old x)) l.1 (subst (λ n. IsJoined old new (prev_of old n) (next_of old n)) (sym same) j) in
      let r = bridged old new b x xs a l.2 k (grind (arith, ob)) (grind (arith, oa)) d.1 in
      rw (eq-eqb x p same) (subst (λ n. IsLinked new b (without n xs) a) same (subst (λ qs. IsLinked new b qs a) (sym (without_absent x xs d.0)) r))
  | inr ne ↦
      let later : is_in p xs ≡ true = grind (arith, eqb-true, e, ne) in
      let before = prev_in old x xs a l.2 p (grind (arith, later)) in
      let after = next_in old x xs a l.2 p (grind (arith, later)) in
      rw (ne_eqb x p ne) (grind (arith, eqb-true, j.next b, before, ob, l.0), grind (arith, eqb-true, j.prev x, after, oa, d.0, l.1), taken_out old new p x xs a l.2 j d.0 (grind (arith, oa)) d.1 later)
]
