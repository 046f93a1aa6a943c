-- Linked lists, when a process is inserted or removed.
use Rattle.std.proofs.Common.{◌≡◌, ◌≢◌, ◌⊎◌, ℕ, ◌<◌, ◌≤◌, cond, refl, ap, sym, ◌∙◌, subst, arith, ◌==◌, inl, inr}
use Rattle.std.proofs.lemmas.Bool.{ne_eqb}
use Rattle.std.proofs.lemmas.Bool.Decides.{nat_tests}
use Rattle.pidset.specs.declared.lists.Node.{Node}
use Rattle.pidset.specs.Rows.{HasRow}
use Rattle.pidset.specs.Lists.{Nodes, node_of, list_of, behind_of, before_of, Stands, IsLeast, AreLinked, IsListed, IsPlaceFor, with_place, joined}
use Rattle.pidset.proofs.RowLemmas.{row_kept}
use Rattle.pidset.proofs.NodeLemmas.{nowhere, node_or_none, IsPlaced, placed, links_same, joins}

-- ---- nodes within the pages

-- a process in a list has a node
pub inside : (ns : Nodes) (i : ℕ) → list_of ns i ≢ 0 → HasRow ns i
unfolding list_of
inside ns i some = elim (node_or_none ns i) [ inl h ↦ h | inr e ↦ absurd (some (ap (λ (n : Node). n.list) e)) ]

first_none : (ns : Nodes) (k : ℕ) → node_of ns k ≡ nowhere → behind_of ns k 0 ≡ 0
unfolding behind_of
first_none ns k e = ap (λ (n : Node). n.first) e

pub stands_inside : (ns : Nodes) (k i : ℕ) → k ≢ 0 → Stands ns k i → i ≢ 0 → HasRow ns i
stands_inside ns k i nk h ni = inside ns i (λ e. grind arith)

-- so has the process next to it
pub behind_inside : (ns : Nodes) (k a m : ℕ) → AreLinked ns → k ≢ 0 → Stands ns k a → m ≡ behind_of ns k a → m ≢ 0 → HasRow ns m
behind_inside ns k a m l nk h is = rw is (λ some. stands_inside ns k (behind_of ns k a) nk (grind (arith, (l.behind k a nk h).there)) some)

pub before_inside : (ns : Nodes) (k b m : ℕ) → AreLinked ns → k ≢ 0 → Stands ns k b → m ≡ before_of ns k b → m ≢ 0 → HasRow ns m
before_inside ns k b m l nk h is = rw is (stands_inside ns k (before_of ns k b) nk (l.before k b nk h).0)

-- a list that contains a process has a node
pub list_inside : (ns : Nodes) (p : ℕ) → AreLinked ns → list_of ns p ≢ 0 → 1 ≤ p → HasRow ns (list_of ns p)
list_inside ns p l some h = elim (node_or_none ns (list_of ns p)) [
  | inl h ↦ h
  | inr e ↦ absurd (let m = (l.behind (list_of ns p) 0 some (inl refl)).least p refl h in let z = first_none ns (list_of ns p) e in omega (arith, m.0, z))
]

-- ---- the process p, between a and b in the list k, is removed

-- in a list n, z is after x now, where y was
removed_behind : (old new : Nodes) (k p a b n x y z : ℕ) → k ≢ 0 → p ≢ 0 → n ≢ 0 → Stands new n x → (Stands old n x → IsLeast old n x y) → IsLeast old k p b → Stands old k a → list_of old p ≡ k → IsLeast old k a p
    → ((i : ℕ) → list_of new i ≡ cond (i == p) 0 (list_of old i)) → (n ≡ k → z ≡ cond (x == a) b y) → (n ≢ k → (x ≡ a → a ≡ 0) → z ≡ y) → IsLeast new n x z
removed_behind old new k p a b n x y z nk np nn hx m g ha e l list is at = record { there = grind (arith, nat_tests); least = λ q hq h. grind (arith, nat_tests) }

-- and z is before y now, where x was
removed_before : (old new : Nodes) (k p a b n x y z : ℕ) → k ≢ 0 → p ≢ 0 → n ≢ 0 → b ≢ p → a < p → Stands new n y → (Stands old n y → Stands old n x × (behind_of old n x ≡ y)) → Stands old k a → Stands old k b → behind_of old k a ≡ p → behind_of old k p ≡ b → list_of old p ≡ k
    → ((i : ℕ) → list_of new i ≡ cond (i == p) 0 (list_of old i)) → ((i : ℕ) → n ≡ k → behind_of new n i ≡ cond (i == a) b (behind_of old n i)) → ((i : ℕ) → n ≢ k → (i ≡ a → a ≡ 0) → behind_of new n i ≡ behind_of old n i)
    → (n ≡ k → z ≡ cond (y == b) a x) → (n ≢ k → (y ≡ b → b ≡ 0) → z ≡ x) → Stands new n z × (behind_of new n z ≡ y)
removed_before old new k p a b n x y z nk np nn nb less hy m ha hb ea ep e list behind else is at = (grind (arith, nat_tests), grind (arith, nat_tests))

pub removed : (old new : Nodes) (k p a b : ℕ) → AreLinked old → k ≢ 0 → 1 ≤ p → list_of old p ≡ k → a ≡ before_of old k p → b ≡ behind_of old k p → new ≡ with_place (joined old k a b b a) p 0 a b → IsListed old new p 0
removed old new k p a b l nk some e ea eb is =
    let np : p ≢ 0 = omega (arith, some) in
    let up : IsLeast old k p b = rw eb (l.behind k p nk (inr e)) in
    let ha : Stands old k a = rw ea (l.before k p nk (inr e)).0 in
    let sa : behind_of old k a ≡ p = rw ea (l.before k p nk (inr e)).1 in
    let m : IsLeast old k a p = rw (← sa) (l.behind k a nk ha) in
    let hb : Stands old k b = grind arith in
    let some_list : list_of old p ≢ 0 = λ z. nk (sym e ∙ z) in
    let j = joins old k a b b a (subst (HasRow old) e (list_inside old p l some_list some)) (stands_inside old k a nk ha) (stands_inside old k b nk hb) in
    let js = j.sizes in
    let mid : Nodes = joined old k a b b a in
    let s : IsPlaced mid new p 0 a b = rw is (placed mid p 0 a b np (row_kept old _ p js (inside old p some_list))) in
    let list : (i : ℕ) → list_of new i ≡ cond (i == p) 0 (list_of old i) = (λ i. s.list i ∙ ap (cond (i == p) 0) (j.list i)) in
    let behind : (n i : ℕ) → behind_of new n i ≡ behind_of mid n i = (λ n i. grind (arith, nat_tests, s.behind n i, j.behind k p refl, (links_same mid p k n np).0)) in
    let before : (n i : ℕ) → before_of new n i ≡ before_of mid n i = (λ n i. grind (arith, nat_tests, s.before n i, j.before k p refl, (links_same mid p k n np).1)) in
    record {
      sizes = s.sizes ∙ js;
      linked = record {
        none = grind (arith, list 0, l.none);
        behind = λ n x nn h. removed_behind old new k p a b n x _ _ nk np nn h (l.behind n x nn) up ha e m list (λ t. behind n x ∙ j.behind n x t) (λ t u. behind n x ∙ j.else_behind n x t u);
        before = λ n y nn h. removed_before old new k p a b n _ y _ nk np nn (grind arith) (grind arith) h (l.before n y nn) ha hb sa (sym eb) e list (λ i t. behind n i ∙ j.behind n i t) (λ i t u. behind n i ∙ j.else_behind n i t u) (λ t. before n y ∙ j.before n y t) (λ t u. before n y ∙ j.else_before n y t u);
      };
      list = list;
    }

-- ---- the process p is inserted between a and b in the list k

-- in a list n, z is after x now, where y was
added_behind : (old new : Nodes) (k p a b n x y z : ℕ) → k ≢ 0 → p ≢ 0 → n ≢ 0 → Stands new n x → (Stands old n x → IsLeast old n x y) → IsLeast old k a b → Stands old k a → a < p → (b ≡ 0) ⊎ (p < b) → list_of old p ≡ 0
    → ((i : ℕ) → list_of new i ≡ cond (i == p) k (list_of old i)) → (n ≡ k → z ≡ cond (x == p) b (cond (x == a) p y)) → (n ≢ k → (x ≡ p → p ≡ 0) → (x ≡ a → a ≡ 0) → z ≡ y) → IsLeast new n x z
added_behind old new k p a b n x y z nk np nn hx m l ha less high e list is at = record { there = grind (arith, nat_tests); least = λ q hq g. grind (arith, nat_tests) }

-- y is p, or was after x; in a list other than k, neither is a or b unless it is 0
abbrev WasBehind : Nodes → ℕ → ℕ → ℕ → ℕ → ℕ → ℕ → ℕ → Type 0
WasBehind old k p a b n x y = ((n ≡ k) × (y ≡ p)) ⊎ ((y ≢ p) × (x ≢ p) × Stands old n x × (behind_of old n x ≡ y) × (n ≢ k → (x ≡ a → a ≡ 0) × (y ≡ b → b ≡ 0)))

was_behind : (old new : Nodes) (k p a b n x y : ℕ) → k ≢ 0 → p ≢ 0 → n ≢ 0 → Stands new n y → (Stands old n y → Stands old n x × (behind_of old n x ≡ y)) → Stands old k a → Stands old k b → list_of old p ≡ 0 → ((i : ℕ) → list_of new i ≡ cond (i == p) k (list_of old i)) → WasBehind old k p a b n x y
was_behind old new k p a b n x y nk np nn hy m ha hb e list = grind (arith, nat_tests)

-- z is before y now, where x was: z is in the list, and y is after it
added_stands : (old new : Nodes) (k p a b n x y z : ℕ) → p ≢ 0 → WasBehind old k p a b n x y → Stands old k a → list_of old p ≡ 0
    → ((i : ℕ) → list_of new i ≡ cond (i == p) k (list_of old i)) → (n ≡ k → z ≡ cond (y == p) a (cond (y == b) p x)) → (n ≢ k → (y ≡ b → b ≡ 0) → (y ≡ p → p ≡ 0) → z ≡ x) → Stands new n z
added_stands old new k p a b n x y z np m ha e list is at = grind (arith, nat_tests)

added_back : (old new : Nodes) (k p a b n x y z : ℕ) → p ≢ 0 → a < p → WasBehind old k p a b n x y → behind_of old k a ≡ b
    → (n ≡ k → behind_of new n z ≡ cond (z == p) b (cond (z == a) p (behind_of old n z))) → (n ≢ k → (z ≡ p → p ≡ 0) → (z ≡ a → a ≡ 0) → behind_of new n z ≡ behind_of old n z)
    → (n ≡ k → z ≡ cond (y == p) a (cond (y == b) p x)) → (n ≢ k → (y ≡ b → b ≡ 0) → (y ≡ p → p ≡ 0) → z ≡ x) → behind_of new n z ≡ y
added_back old new k p a b n x y z np less m ea behind else is at = grind (arith, nat_tests)

pub added : (old new : Nodes) (k p a b : ℕ) → AreLinked old → 1 ≤ k → HasRow old k → 1 ≤ p → HasRow old p → list_of old p ≡ 0 → IsPlaceFor old k p a b → new ≡ with_place (joined old k a p b p) p k a b → IsListed old new p k
added old new k p a b l some hk one hp e place is =
    let nk : k ≢ 0 = omega (arith, some) in
    let np : p ≢ 0 = omega (arith, one) in
    let ha = place.stands in
    let up : IsLeast old k a b = rw (← place.behind) (l.behind k a nk ha) in
    let hb : Stands old k b = grind arith in
    let j = joins old k a p b p hk (stands_inside old k a nk ha) (stands_inside old k b nk hb) in
    let js = j.sizes in
    let s : IsPlaced (joined old k a p b p) new p k a b = rw is (placed (joined old k a p b p) p k a b np (row_kept old _ p js hp)) in
    let list : (i : ℕ) → list_of new i ≡ cond (i == p) k (list_of old i) = (λ i. s.list i ∙ ap (cond (i == p) k) (j.list i)) in
    let behind : (n i : ℕ) → n ≡ k → behind_of new n i ≡ cond (i == p) b (cond (i == a) p (behind_of old n i)) = (λ n i t. s.behind n i ∙ ap (cond (i == p) b) (j.behind n i t)) in
    let else : (n i : ℕ) → n ≢ k → (i ≡ p → p ≡ 0) → (i ≡ a → a ≡ 0) → behind_of new n i ≡ behind_of old n i = (λ n i t u v. s.behind n i ∙ rw (ne_eqb i p (λ is. np (u is))) (j.else_behind n i t v)) in
    record {
      sizes = s.sizes ∙ js;
      linked = record {
        none = grind (arith, list 0, l.none);
        behind = λ n x nn h. added_behind old new k p a b n x _ _ nk np nn h (l.behind n x nn) up ha place.low place.high e list (behind n x) (else n x);
        before = λ n y nn h.
            let m = was_behind old new k p a b n _ y nk np nn h (l.before n y nn) ha hb e list in
            let z : n ≡ k → before_of new n y ≡ cond (y == p) a (cond (y == b) p (before_of old n y)) = (λ t. s.before n y ∙ ap (cond (y == p) a) (j.before n y t)) in
            let w : n ≢ k → (y ≡ b → b ≡ 0) → (y ≡ p → p ≡ 0) → before_of new n y ≡ before_of old n y = (λ t u v. s.before n y ∙ rw (ne_eqb y p (λ is. np (v is))) (j.else_before n y t u)) in
            (added_stands old new k p a b n _ y _ np m ha e list z w, added_back old new k p a b n _ y _ np place.low m place.behind (behind n _) (else n _) z w);
      };
      list = list;
    }

-- ---- nodes with the same contents

stands_still : (old new : Nodes) (k a : ℕ) → ((i : ℕ) → list_of new i ≡ list_of old i) → Stands new k a → Stands old k a
stands_still old new k a list (inl e) = inl e
stands_still old new k a list (inr e) = inr (sym (list a) ∙ e)

-- the links of all processes in lists, and of all lists, are the same
pub kept : (old new : Nodes) → ((i : ℕ) → list_of new i ≡ list_of old i) → ((k a : ℕ) → k ≢ 0 → Stands old k a → (behind_of new k a ≡ behind_of old k a) × (before_of new k a ≡ before_of old k a)) → AreLinked old → AreLinked new
kept old new list same l = record {
  none = list 0 ∙ l.none;
  behind = λ k a nk h. let g = stands_still old new k a list h in rw (same k a nk g).0 (let m = l.behind k a nk g in record {
    there = grind (arith, m.there, list (behind_of old k a));
    least = λ q e. m.least q (sym (list q) ∙ e);
  });
  before = λ k b nk h. let g = stands_still old new k b list h in rw (same k b nk g).1 (let m = l.before k b nk g in
      (stands_still new old k (before_of old k b) (λ i. sym (list i)) m.0, (same k (before_of old k b) nk m.0).0 ∙ m.1));
}
