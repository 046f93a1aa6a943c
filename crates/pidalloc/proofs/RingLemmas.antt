-- The nodes of a run queue, when processes are added and removed.
use Rattle.std.proofs.Common.{◌≡◌, ◌≢◌, ℕ, suc, ◌+◌, ◌-◌, ◌/◌, ◌≤◌, ◌==◌, true, false, not, cond, refl, ap, sym, ◌∙◌, arith, subst, List, [], ◌∷◌, ◌++◌, length, length-append, None, Some, slice_get, inl, inr}
use Rattle.std.proofs.lemmas.Bool.{eqb-true, eq-eqb, ne_eqb, cases_eq}
use Rattle.std.proofs.lemmas.Bool.Decides.{nat_tests}
use Rattle.posix.specs.Common.{is_in, without, IsDistinct}
use Rattle.posix.proofs.MemberLemmas.{in_first, in_none, in_last, in_without, is_other, out_of}
use Rattle.posix.proofs.OrderLemmas.{distinct_last, one_less, without_absent}
use Rattle.posix.proofs.RegularLemmas.{distinct_without}
use Rattle.pidset.specs.Rows.{HasRow, IsOnAnotherPage, sizes_of, with_row, without_page}
use Rattle.pidset.proofs.RowLemmas.{row_or_none, row_kept, row_left, row_gone}
use Rattle.pidalloc.specs.declared.order.Node.{Node}
use Rattle.pidalloc.specs.Places.{Places}
use Rattle.pidalloc.specs.Rings.{Nodes, node_of, next_of, prev_of, read_off, IsLinked, IsJoined, IsRing, IsKept}
use Rattle.pidalloc.proofs.LinkLemmas.{next_set, prev_set, next_read, prev_read, read_back, read_length, next_in, prev_in, stay, appended, turned, taken_out}

-- ---- what a ring says about its nodes

-- the nodes after and before a member of the ring are members
pub next_inside : (ns : Nodes) (f p : ℕ) (ps : List ℕ) → IsRing ns f ps → is_in p ps ≡ true → is_in (next_of ns p) ps ≡ true
unfolding IsRing
next_inside ns f p [] r e = absurd (in_none p e)
next_inside ns f p (x ∷ xs) r e = next_in ns x xs x r.1 p e

pub prev_inside : (ns : Nodes) (f p : ℕ) (ps : List ℕ) → IsRing ns f ps → is_in p ps ≡ true → is_in (prev_of ns p) ps ≡ true
unfolding IsRing
prev_inside ns f p [] r e = absurd (in_none p e)
prev_inside ns f p (x ∷ xs) r e = prev_in ns x xs x r.1 p e

-- so is the first, if there is one
pub first_inside : (ns : Nodes) (f : ℕ) (ps : List ℕ) → IsRing ns f ps → f ≢ 0 → is_in f ps ≡ true
unfolding IsRing
first_inside ns f [] r ne = absurd (ne r)
first_inside ns f (x ∷ xs) r ne = rw r.0 (in_first x xs)

pub first_is : (ns : Nodes) (f : ℕ) (ps : List ℕ) → IsKept ns f ps → slice_get ps 0 ≡ cond (f == 0) None (Some f)
unfolding IsRing
first_is ns f [] k = grind (arith, eq-eqb, k.ring)
first_is ns f (x ∷ xs) k = grind (arith, nat_tests, k.ring.0, k.low x (in_first x xs))

-- a member has a row
pub inside : (ns : Nodes) (f : ℕ) (ps : List ℕ) → IsKept ns f ps → (i : ℕ) → is_in i ps ≡ true → HasRow ns i
inside ns f ps k i e = elim (row_or_none ns i (record { prev = 0; next = 0 })) [
  | inl h ↦ h
  | inr none ↦ let t : true ≡ false = sym e ∙ k.told i ∙ ap (λ n. not (n == 0)) (next_read ns i _ none) in absurd (cc)
]

-- and so have its neighbours
pub prev_row : (ns : Nodes) (f : ℕ) (ps : List ℕ) → IsKept ns f ps → (p : ℕ) (m : Node) → is_in p ps ≡ true → node_of ns p ≡ m → HasRow ns m.prev
prev_row ns f ps k p m e is = subst (HasRow ns) (prev_read ns p m is) (inside ns f ps k (prev_of ns p) (prev_inside ns f p ps k.ring e))

pub next_row : (ns : Nodes) (f : ℕ) (ps : List ℕ) → IsKept ns f ps → (p : ℕ) (m : Node) → is_in p ps ≡ true → node_of ns p ≡ m → HasRow ns m.next
next_row ns f ps k p m e is = subst (HasRow ns) (next_read ns p m is) (inside ns f ps k (next_of ns p) (next_inside ns f p ps k.ring e))

-- the ring is read off
read_ring : (ns : Nodes) (f : ℕ) (ps : List ℕ) → IsRing ns f ps → read_off (length ps) ns f ≡ ps
unfolding IsRing read_off
read_ring ns f [] r = refl
read_ring ns f (x ∷ xs) r = subst (λ p. read_off (suc (length xs)) ns p ≡ x ∷ xs) (sym r.0) (read_back ns x xs x r.1)

-- ---- the ring changes

-- p becomes the last
ring_added : (old mid new : Nodes) (x p : ℕ) (xs : List ℕ) → IsLinked old x xs x → IsDistinct (x ∷ xs) → is_in p (x ∷ xs) ≡ false → IsJoined old mid (prev_of old x) p → IsJoined mid new p x → IsLinked new x (xs ++ p ∷ []) x
unfolding IsLinked IsDistinct is_in
ring_added old mid new x p xs l d o j k =
    let led : IsLinked mid x xs p = turned old mid p x xs x l j d.0 d.1 (grind (arith, o)) in
    let still : IsLinked new x xs p = stay mid new x xs p (λ i e. grind (arith, eqb-true, k.next i, e, o)) (λ i e. grind (arith, eqb-true, k.prev i, e, d.0, o)) led in
    appended new x xs p [] x still (grind (arith, eq-eqb, k.next p), grind (arith, eq-eqb, k.prev x))

-- the first is removed
first_gone : (old mid : Nodes) (x : ℕ) (xs : List ℕ) → IsLinked old x xs x → IsDistinct (x ∷ xs) → IsJoined old mid (prev_of old x) (next_of old x) → IsRing mid (cond (next_of old x == x) 0 (next_of old x)) xs
unfolding IsRing IsLinked IsDistinct is_in
first_gone old mid x [] l d j = grind (arith, eq-eqb, l.0)
first_gone old mid x (y ∷ ys) l d j = (grind (arith, eqb-true, l.0, d.0), turned old mid y y ys x l.2 (subst (IsJoined old mid (prev_of old x)) l.0 j) d.1.0 d.1.1 d.1.0)

without_first : (x : ℕ) (xs : List ℕ) → is_in x xs ≡ false → without x (x ∷ xs) ≡ xs
unfolding without
without_first x xs o = rw (eq-eqb x x refl) (without_absent x xs o)

-- p is removed
ring_removed : (old mid : Nodes) (x p : ℕ) (xs : List ℕ) → IsLinked old x xs x → IsDistinct (x ∷ xs) → is_in p (x ∷ xs) ≡ true → IsJoined old mid (prev_of old p) (next_of old p)
    → IsRing mid (cond (p == x) (cond (next_of old p == p) 0 (next_of old p)) x) (without p (x ∷ xs))
unfolding IsRing IsDistinct is_in without
ring_removed old mid x p xs l d e j = elim (cases_eq x p) [
  | inl same ↦
      let k = subst (λ n. IsJoined old mid (prev_of old n) (next_of old n)) (sym same) j in
      let r = subst (IsRing mid (cond (next_of old x == x) 0 (next_of old x))) (sym (without_absent x xs d.0)) (first_gone old mid x xs l d k) in
      subst (λ n. IsRing mid (cond (n == x) (cond (next_of old n == n) 0 (next_of old n)) x) (without n (x ∷ xs))) same (rw (eq-eqb x x refl) r)
  | inr ne ↦ rw (ne_eqb x p ne, ne_eqb p x (λ s. ne (sym s))) (refl, taken_out old mid p x xs x l j d.0 d.0 d.1 (grind (arith, eqb-true, e, ne)))
]

-- the first becomes the last
ring_turned : (ns : Nodes) (x : ℕ) (xs : List ℕ) → IsLinked ns x xs x → IsRing ns (next_of ns x) (xs ++ x ∷ [])
unfolding IsRing IsLinked
ring_turned ns x [] l = (l.0, l)
ring_turned ns x (y ∷ ys) l = (l.0, appended ns y ys x [] y l.2 (l.0, l.1))

-- ---- a run queue changes

-- n IDs, whose nodes are right
pub record IsOrder (ns : Nodes) (n f : ℕ) (ps : List ℕ) : Type 0 where
  pub kept : IsKept ns f ps
  pub count : n ≡ length ps

pub known : (ns : Nodes) (n f : ℕ) (v : Places) → IsKept ns f (read_off n ns f) → record { pids = read_off n ns f; sizes = sizes_of ns } ≡ v → IsOrder ns n f v.pids
known ns n f v k view = subst (λ (w : Places). IsOrder ns n f w.pids) view (record { kept = k; count = sym (read_length n ns f) })

-- they are read off
pub read : (ns : Nodes) (n f : ℕ) (ps : List ℕ) → IsOrder ns n f ps → read_off n ns f ≡ ps
read ns n f ps o = ap (λ k. read_off k ns f) o.count ∙ read_ring ns f ps o.kept.ring

pub kept : (ns : Nodes) (n f : ℕ) (ps : List ℕ) → IsOrder ns n f ps → IsKept ns f (read_off n ns f)
kept ns n f ps o = subst (IsKept ns f) (sym (read ns n f ps o)) o.kept

-- the run queue is empty
pub kept_new : IsKept [] 0 []
unfolding IsRing IsDistinct next_of is_in
kept_new = record { ring = refl; distinct = tt; low = λ i e. absurd (in_none i e); high = λ i e. absurd (in_none i e); told = λ i. refl }

-- the nodes lead on as before, and back for the members
ring_stays : (old new : Nodes) (f : ℕ) (ps : List ℕ) → ((i : ℕ) → is_in i ps ≡ true → next_of new i ≡ next_of old i) → ((i : ℕ) → is_in i ps ≡ true → prev_of new i ≡ prev_of old i) → IsRing old f ps → IsRing new f ps
unfolding IsRing
ring_stays old new f [] n p r = r
ring_stays old new f (x ∷ xs) n p r = (r.0, stay old new x xs x n p r.1)

pub order_stays : (old new : Nodes) (n f : ℕ) (ps : List ℕ) → IsOrder old n f ps → ((i : ℕ) → next_of new i ≡ next_of old i) → ((i : ℕ) → is_in i ps ≡ true → prev_of new i ≡ prev_of old i) → IsOrder new n f ps
order_stays old new n f ps o next prev =
    let k = o.kept in
    record {
      kept = record { ring = ring_stays old new f ps (λ i e. next i) prev k.ring; distinct = k.distinct; low = k.low; high = k.high; told = λ i. k.told i ∙ ap (λ m. not (m == 0)) (sym (next i)) };
      count = o.count;
    }

-- there is more room
pub order_grown : (old new : Nodes) (n f : ℕ) (ps : List ℕ) → IsOrder old n f ps → ((i : ℕ) → node_of new i ≡ node_of old i) → IsOrder new n f ps
unfolding prev_of next_of
order_grown old new n f ps o same = order_stays old new n f ps o (λ i. ap (λ (m : Node). m.next) (same i)) (λ i e. ap (λ (m : Node). m.prev) (same i))

-- a page is freed
pub order_left : (old : Nodes) (n f p : ℕ) (ps : List ℕ) → IsOrder old n f ps → ((i : ℕ) → is_in i ps ≡ true → IsOnAnotherPage i p) → IsOrder (without_page old p) n f ps
unfolding prev_of next_of
order_left old n f p ps o apart = order_stays old (without_page old p) n f ps o
    (λ i. elim (cases_eq (i / 1024) (p / 1024)) [
      | inl same ↦ ap (λ (m : Node). m.next) (row_gone old p i (record { prev = 0; next = 0 }) same) ∙ grind (arith, nat_tests, o.kept.told i, λ (e : is_in i ps ≡ true). apart i e same)
      | inr ne ↦ ap (λ (m : Node). m.next) (row_left old p i (record { prev = 0; next = 0 }) ne)
    ])
    (λ i e. ap (λ (m : Node). m.prev) (row_left old p i (record { prev = 0; next = 0 }) (apart i e)))

-- p is added to an empty run queue
pub order_first : (old new : Nodes) (n f p : ℕ) (ps : List ℕ) → IsOrder old n f ps → f ≡ 0 → 1 ≤ p → p ≤ 2147483647 → IsJoined old new p p → IsOrder new (n + 1) p (ps ++ p ∷ [])
unfolding IsRing IsLinked IsDistinct is_in
order_first old new n f p [] o e low high j = record {
  kept = record {
    ring = (refl, (grind (arith, eq-eqb, j.next p), grind (arith, eq-eqb, j.prev p)));
    distinct = (refl, tt);
    low = λ i t. grind (arith, eqb-true, t);
    high = λ i t. grind (arith, eqb-true, t);
    told = λ i. grind (arith, nat_tests, j.next i, o.kept.told i);
  };
  count = ap (λ m. m + 1) o.count;
}
order_first old new n f p (x ∷ xs) o e low high j = absurd (let l = o.kept.low x (in_first x xs) in let s = o.kept.ring.0 in omega (arith, l, s, e))

-- p is added at the end, after the node before the first
pub order_last : (old mid new : Nodes) (n f p : ℕ) (ps : List ℕ) (m : Node) → IsOrder old n f ps → f ≢ 0 → 1 ≤ p → p ≤ 2147483647 → is_in p ps ≡ false → node_of old f ≡ m → IsJoined old mid m.prev p → IsJoined mid new p f
    → IsOrder new (n + 1) f (ps ++ p ∷ [])
unfolding IsRing
order_last old mid new n f p [] m o some low high out is j k = absurd (some o.kept.ring)
order_last old mid new n f p (x ∷ xs) m o some low high out is j k =
    let r = o.kept.ring in
    let i : IsJoined old mid (prev_of old f) p = subst (λ l. IsJoined old mid l p) (sym (prev_read old f m is)) j in
    let last = prev_inside old f f (x ∷ xs) r (first_inside old f (x ∷ xs) r some) in
    record {
      kept = record {
        ring = (r.0, ring_added old mid new x p xs r.1 o.kept.distinct out (subst (λ q. IsJoined old mid (prev_of old q) p) r.0 i) (subst (IsJoined mid new p) r.0 k));
        distinct = distinct_last p (x ∷ xs) o.kept.distinct out;
        low = λ q e. grind (arith, eqb-true, in_last q p (x ∷ xs), o.kept.low q);
        high = λ q e. grind (arith, eqb-true, in_last q p (x ∷ xs), o.kept.high q);
        told = λ q. grind (arith, nat_tests, in_last q p (x ∷ xs), i.next q, k.next q, o.kept.told q, last);
      };
      count = omega (arith, o.count, length-append (x ∷ xs) (p ∷ []));
    }

-- p is removed, and its node is cleared
pub order_dropped : (old mid new : Nodes) (n f g p : ℕ) (ps : List ℕ) (m : Node) → IsOrder old n f ps → is_in p ps ≡ true → node_of old p ≡ m → IsJoined old mid m.prev m.next → new ≡ with_row mid p (record { prev = 0; next = 0 })
    → g ≡ cond (p == f) (cond (m.next == p) 0 m.next) f → IsOrder new (n - 1) g (without p ps)
unfolding IsRing
order_dropped old mid new n f g p [] m o e is h set first = absurd (in_none p e)
order_dropped old mid new n f g p (x ∷ xs) m o e is h set first =
    let ps : List ℕ = x ∷ xs in
    let nowhere : Node = record { prev = 0; next = 0 } in
    let k = o.kept in
    let after = sym (next_read old p m is) in
    let j : IsJoined old mid (prev_of old p) (next_of old p) = subst (λ a. IsJoined old mid a (next_of old p)) (sym (prev_read old p m is)) (subst (IsJoined old mid m.prev) after h) in
    let row : HasRow mid p = row_kept old mid p j.sizes (inside old f ps k p e) in
    let ring = subst (λ q. IsRing mid (cond (p == q) (cond (next_of old p == p) 0 (next_of old p)) q) (without p ps)) (sym k.ring.0) (ring_removed old mid x p xs k.ring.1 k.distinct e j) in
    let before = prev_inside old f p ps k.ring e in
    rw (set, first, after) (record {
      kept = record {
        ring = ring_stays mid (with_row mid p nowhere) _ (without p ps) (λ i t. grind (arith, eqb-true, next_set mid p nowhere row i, (is_other p i ps t).apart)) (λ i t. grind (arith, eqb-true, prev_set mid p nowhere row i, (is_other p i ps t).apart)) ring;
        distinct = distinct_without p ps k.distinct;
        low = λ i t. k.low i (is_other p i ps t).among;
        high = λ i t. k.high i (is_other p i ps t).among;
        told = λ i. grind (arith, nat_tests, next_set mid p nowhere row i, in_without i p ps, j.next i, k.told i, k.told p, e, before);
      };
      count = omega (arith, o.count, one_less p ps k.distinct e);
    })

-- the first becomes the last
pub order_turned : (ns : Nodes) (n f p : ℕ) (ps : List ℕ) (m : Node) → IsOrder ns n f ps → p ≡ f → is_in p ps ≡ true → node_of ns p ≡ m → IsOrder ns n m.next (without p ps ++ p ∷ [])
unfolding IsRing IsDistinct
order_turned ns n f p [] m o s e is = absurd (in_none p e)
order_turned ns n f p (x ∷ xs) m o s e is =
    let ps : List ℕ = x ∷ xs in
    let k = o.kept in
    let same : (i : ℕ) → is_in i (without p ps ++ p ∷ []) ≡ is_in i ps = λ i. grind (arith, eqb-true, in_last i p (without p ps), in_without i p ps, e) in
    let ring = subst (λ q. IsRing ns (next_of ns q) (without q ps ++ q ∷ [])) (sym (s ∙ k.ring.0)) (rw (without_first x xs k.distinct.0) (ring_turned ns x xs k.ring.1)) in
    record {
      kept = record {
        ring = subst (λ g. IsRing ns g (without p ps ++ p ∷ [])) (next_read ns p m is) ring;
        distinct = distinct_last p (without p ps) (distinct_without p ps k.distinct) (out_of p ps);
        low = λ i t. k.low i (sym (same i) ∙ t);
        high = λ i t. k.high i (sym (same i) ∙ t);
        told = λ i. same i ∙ k.told i;
      };
      count = omega (arith, o.count, one_less p ps k.distinct e, length-append (without p ps) (p ∷ []));
    }
