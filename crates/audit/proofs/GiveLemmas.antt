-- Children in lists that are linked, as all children of one number are given to an heir.
use Rattle.std.proofs.Common.{◌≡◌, ◌≢◌, ◌⊎◌, inl, inr, ℕ, zero, suc, ◌+◌, ◌<◌, ◌≤◌, Bool, true, cond, refl, ap, sym, ◌∙◌, subst, arith, List, [], ◌∷◌, ◌==◌, Option, is_some}
use Rattle.std.proofs.lemmas.Bool.{cases_eq, eq-eqb, ne_eqb}
use Rattle.std.proofs.lemmas.Bool.Decides.{nat_tests}
use Rattle.std.proofs.lemmas.List.Sums.{sum_by-cons, sum_by-le-sum_by}
use Rattle.std.specs.List.{sum_by}
use Rattle.std.specs.Map.{keys_of}
use Rattle.audit.specs.declared.records.Record.{Record}
use Rattle.audit.specs.Records.{record_in, changed, Become}
use Rattle.audit.specs.Children.{parent_in, first_of, behind_of, behind_in, before_in, state_in, Stands, IsNext, AreLinked, joined, AreAllGiven, AreGivenOn, count_children, linked}
use Rattle.audit.specs.declared.records.Link.TheVariants.{First, Parent}
use Rattle.audit.proofs.FieldLemmas.{IsParentSet, parent_set, first_set, AreJoined, joins, state_same}
use Rattle.audit.proofs.ChildLemmas.{is_there, behind_first, child_there}
use Rattle.audit.proofs.KeptLemmas.{there_by_state}

-- the next sibling of a child doesn't depend on the parent
behind_any : (f : ℕ → Option Record) (k n i : ℕ) → i ≢ 0 → behind_in f k i ≡ behind_in f n i
unfolding behind_in
behind_any f k n i some = rw (ne_eqb i 0 some) refl

behind_child : (f : ℕ → Option Record) (k i : ℕ) → i ≢ 0 → behind_in f k i ≡ behind_of f i
unfolding behind_in
behind_child f k i some = rw (ne_eqb i 0 some) refl

-- a child isn't 0
child_some : (f : ℕ → Option Record) (k i : ℕ) → parent_in f 0 ≡ 0 → 2 ≤ k → parent_in f i ≡ k → i ≢ 0
child_some f k i nobody two e = λ no. let is : parent_in f 0 ≡ k = ap (parent_in f) (sym no) ∙ e in omega (arith, is, nobody, two)

-- a child of k that isn't 0 has the parent k
child_of : (f : ℕ → Option Record) (k i : ℕ) → Stands f k i → i ≢ 0 → parent_in f i ≡ k
child_of f k i (inl none) some = absurd (some none)
child_of f k i (inr e) some = e

-- ---- how many children are left

-- a sum over the keys, of which no term is more and one is less
less_in : (f g : ℕ → ℕ) (c : ℕ) → ((i : ℕ) → g i ≤ f i) → g c < f c → (entries : List (ℕ × Record)) → is_some (record_in entries c) ≡ true → sum_by g (keys_of entries) < sum_by f (keys_of entries)
less_in f g c most one [] there = absurd (cc)
less_in f g c most one (e ∷ es) there = by (λ t. less_in f g c most one es t) (cases_eq c e.0) there
  where
    by : (is_some (record_in es c) ≡ true → sum_by g (keys_of es) < sum_by f (keys_of es)) → (c ≡ e.0) ⊎ (c ≢ e.0) → is_some (record_in (e ∷ es) c) ≡ true → sum_by g (keys_of (e ∷ es)) < sum_by f (keys_of (e ∷ es))
    by rest (inl same) t =
        let here : g e.0 < f e.0 = subst (λ i. g i < f i) same one in
        let others = sum_by-le-sum_by g f (keys_of es) most in
        omega (arith, here, others, sum_by-cons g e.0 (keys_of es), sum_by-cons f e.0 (keys_of es))
    by rest (inr apart) t =
        let here = most e.0 in
        let others = rest (rw (ne_eqb c e.0 apart) at t) in
        omega (arith, here, others, sum_by-cons g e.0 (keys_of es), sum_by-cons f e.0 (keys_of es))

abbrev bit_of : Bool → ℕ
bit_of b = cond b 1 0

-- a child that has another parent now
one_less : (x y p heir : ℕ) (mine : Bool) → heir ≢ p → y ≡ cond mine heir x → bit_of (y == p) ≤ bit_of (x == p)
one_less x y p heir mine other is = grind (arith, nat_tests)

fewer : (p heir child : ℕ) (old new : List (ℕ × Record)) → heir ≢ p → parent_in (record_in old) child ≡ p → is_some (record_in old child) ≡ true → IsParentSet child heir (record_in old) (record_in new) → keys_of new ≡ keys_of old → count_children p new < count_children p old
fewer p heir child old new other mine there s keys =
    let now : parent_in (record_in new) child ≡ heir = s.parent child ∙ rw (eq-eqb child child refl) refl in
    rw keys (less_in (λ q. bit_of (parent_in (record_in old) q == p)) (λ q. bit_of (parent_in (record_in new) q == p)) child
    (λ q. one_less (parent_in (record_in old) q) (parent_in (record_in new) q) p heir (q == child) other (s.parent q))
    (rw (now, mine, ne_eqb heir p other, eq-eqb p p refl) (omega arith)) old there)

-- ---- from each child to the next

-- The children of p up to z have the heir as their parent by now, where z is one of them, or 0. The next one is c.
pub record AreUpTo (p heir z c : ℕ) (f g : ℕ → Option Record) : Type 0 where
  pub linked : AreLinked f
  pub stands : Stands f p z
  pub next : c ≡ behind_in f p z
  pub passed : (i : ℕ) → parent_in f i ≡ p → parent_in g i ≢ p → (z ≢ 0) × (linked.place i ≤ linked.place z)
  pub left : (i : ℕ) → parent_in g i ≡ p → (before_in f i ≡ z) ⊎ ((before_in f i ≢ 0) × (parent_in g (before_in f i) ≡ p))
  pub parent : (i : ℕ) → (parent_in g i ≡ parent_in f i) ⊎ ((parent_in f i ≡ p) × (parent_in g i ≡ heir))
  pub first : (k : ℕ) → behind_in g k 0 ≡ cond (k == p) 0 (behind_in f k 0)
  pub behind : (k a : ℕ) → a ≢ 0 → behind_in g k a ≡ behind_in f k a
  pub before : (b : ℕ) → before_in g b ≡ before_in f b
  pub state : (i : ℕ) → state_in g i ≡ state_in f i

-- the previous sibling of a child is a child, or 0
before_child : (f : ℕ → Option Record) (l : AreLinked f) (p i : ℕ) → 2 ≤ p → parent_in f i ≡ p → (before_in f i ≡ 0) ⊎ ((before_in f i ≢ 0) × (parent_in f (before_in f i) ≡ p))
before_child f l p i two e = by (before_in f i) (l.before p i two e).0
  where
    by : (x : ℕ) → Stands f p x → (x ≡ 0) ⊎ ((x ≢ 0) × (parent_in f x ≡ p))
    by x (inl none) = inl none
    by x (inr child) = inr (child_some f p x l.nobody two child, child)

-- at first none is given
pub none_yet : (p heir c : ℕ) (old new : List (ℕ × Record)) → AreLinked (record_in old) → 2 ≤ p → c ≡ first_of (record_in old) p → Become (changed p (linked (First 0))) old new → AreUpTo p heir 0 c (record_in old) (record_in new)
none_yet p heir c old new l two is h =
    let f : ℕ → Option Record = record_in old in
    let s = first_set p 0 old new h (λ some. absurd (some refl)) in
    record {
      linked = l;
      stands = inl refl;
      next = is ∙ sym (behind_first f p);
      passed = λ i e other. absurd (other (s.parent i ∙ e));
      left = λ i e. elim (before_child f l p i two (sym (s.parent i) ∙ e)) [
        | inl none ↦ inl none
        | inr q ↦ inr (q.0, s.parent (before_in f i) ∙ q.1)
      ];
      parent = λ i. inl (s.parent i);
      first = s.first;
      behind = s.behind;
      before = s.before;
      state = s.state;
    }

-- the next one is a child, and p is its parent still
next_child : (p heir z c : ℕ) (f g : ℕ → Option Record) (t : AreUpTo p heir z c f g) → 2 ≤ p → c ≢ 0 → (parent_in f c ≡ p) × (parent_in g c ≡ p) × (z ≢ 0 → t.linked.place z < t.linked.place c)
next_child p heir z c f g t two some =
    let n : IsNext f t.linked.place p z c = subst (IsNext f t.linked.place p z) (sym t.next) (t.linked.behind p z two t.stands) in
    let mine : parent_in f c ≡ p = elim n.stands [ inl none ↦ absurd (some none) | inr e ↦ e ] in
    let still : parent_in g c ≡ p = elim (cases_eq (parent_in g c) p) [
      | inl e ↦ e
      | inr other ↦ let old = t.passed c mine other in let up = n.rises some old.0 in absurd (omega (arith, old.1, up))
    ] in
    (mine, still, n.rises some)

-- whose parent is p still was a child of p
was_child : (p heir x y : ℕ) → heir ≢ p → (x ≡ y) ⊎ ((y ≡ p) × (x ≡ heir)) → x ≡ p → y ≡ p
was_child p heir x y other (inl same) e = sym same ∙ e
was_child p heir x y other (inr q) e = q.0

-- then it is given
one_given : (p heir z c d : ℕ) (f g h : ℕ → Option Record) → 2 ≤ p → heir ≢ p → c ≢ 0 → d ≡ behind_in f p c → AreUpTo p heir z c f g → IsParentSet c heir g h → ((i : ℕ) → state_in h i ≡ state_in g i) → AreUpTo p heir c d f h
one_given p heir z c d f g h two other some next t s state =
    let k = next_child p heir z c f g t two some in
    record {
      linked = t.linked;
      stands = inr k.0;
      next = next;
      passed = λ i e gone. (
        some,
        elim (cases_eq i c) [
          | inl same ↦ let at : t.linked.place i ≡ t.linked.place c = ap t.linked.place same in omega (arith, at)
          | inr apart ↦
              let old = t.passed i e (λ was. gone (s.parent i ∙ rw (ne_eqb i c apart) was)) in
              let up = k.2 old.0 in
              omega (arith, old.1, up)
        ],
      );
      left = λ i e.
          let apart : i ≢ c = (λ same. let is : parent_in h i ≡ heir = s.parent i ∙ rw (eq-eqb i c same) refl in other (sym is ∙ e)) in
          let is : parent_in h i ≡ parent_in g i = s.parent i ∙ rw (ne_eqb i c apart) refl in
          let was : parent_in g i ≡ p = sym is ∙ e in
          let mine : parent_in f i ≡ p = was_child p heir (parent_in g i) (parent_in f i) other (t.parent i) was in
          elim (t.left i was) [
            | inl last ↦ absurd (apart (sym (t.linked.before p i two mine).1 ∙ ap (behind_in f p) last ∙ sym t.next))
            | inr q ↦ elim (cases_eq (before_in f i) c) [
              | inl same ↦ inl same
              | inr far ↦ inr (q.0, s.parent (before_in f i) ∙ rw (ne_eqb (before_in f i) c far) q.1)
            ]
          ];
      parent = λ i. elim (cases_eq i c) [
        | inl same ↦ inr (ap (parent_in f) same ∙ k.0, s.parent i ∙ rw (eq-eqb i c same) refl)
        | inr apart ↦ elim (t.parent i) [
          | inl e ↦ inl (s.parent i ∙ rw (ne_eqb i c apart) e)
          | inr q ↦ inr (q.0, s.parent i ∙ rw (ne_eqb i c apart) q.1)
        ]
      ];
      first = λ n. s.behind n 0 ∙ t.first n;
      behind = λ n a there. s.behind n a ∙ t.behind n a there;
      before = λ b. s.before b ∙ t.before b;
      state = λ i. state i ∙ t.state i;
    }

pub next_given : (p heir z c d : ℕ) (old now new : List (ℕ × Record)) → 2 ≤ p → heir ≢ p → c ≢ 0 → d ≡ behind_of (record_in now) c → AreUpTo p heir z c (record_in old) (record_in now) → Become (changed c (linked (Parent heir))) now new
    → AreUpTo p heir c d (record_in old) (record_in new) × (count_children p new < count_children p now)
next_given p heir z c d old now new two other some is t h =
    let k = next_child p heir z c (record_in old) (record_in now) t two some in
    let there : is_some (record_in now c) ≡ true = is_there (record_in now) c (λ no. omega (arith, no, k.1, two)) in
    let s = parent_set c heir (linked (Parent heir)) (λ r. (refl, refl, refl, refl)) now new h there in
    let next : d ≡ behind_in (record_in old) p c = is ∙ sym (behind_child (record_in now) p c some) ∙ t.behind p c some in
    (one_given p heir z c d (record_in old) (record_in now) (record_in new) two other some next t s (state_same c (linked (Parent heir)) (λ r. refl) (record_in now) (record_in new) h.is), fewer p heir c now new other k.1 there s h.keys)

-- ---- if no child comes after the last one, no child is left

-- the previous sibling of a child has a lower place
lower : (f : ℕ → Option Record) (l : AreLinked f) (p i : ℕ) → 2 ≤ p → parent_in f i ≡ p → i ≢ 0 → before_in f i ≢ 0 → l.place (before_in f i) < l.place i
lower f l p i two e some there =
    let b = l.before p i two e in
    subst (λ x. l.place (before_in f i) < l.place x) b.1 ((l.behind p (before_in f i) two b.0).rises (λ z. some (sym b.1 ∙ z)) there)

-- if no child comes after z, and the previous sibling of each marked child is z or marked, no child is marked
none_below : (f : ℕ → Option Record) (l : AreLinked f) (p z : ℕ) (Marked : ℕ → Type 0) → 2 ≤ p → behind_in f p z ≡ 0 → ((i : ℕ) → Marked i → (parent_in f i ≡ p) × ((before_in f i ≡ z) ⊎ ((before_in f i ≢ 0) × Marked (before_in f i)))) → (n i : ℕ) → Marked i → l.place i < n → ⊥
none_below f l p z Marked two none down zero i marked less = omega (arith, less)
none_below f l p z Marked two none down (suc n) i marked less =
    let is = down i marked in
    let some : i ≢ 0 = child_some f p i l.nobody two is.0 in
    by (λ x mark up. none_below f l p z Marked two none down n x mark (omega (arith, up, less))) is.0 some is.1
  where
    by : ((x : ℕ) → Marked x → l.place x < l.place i → ⊥) → parent_in f i ≡ p → i ≢ 0 → (before_in f i ≡ z) ⊎ ((before_in f i ≢ 0) × Marked (before_in f i)) → ⊥
    by rest mine some (inl last) = some (sym (l.before p i two mine).1 ∙ ap (behind_in f p) last ∙ none)
    by rest mine some (inr q) = rest (before_in f i) q.1 (lower f l p i two mine some q.0)

none_left : (p heir z c : ℕ) (f g : ℕ → Option Record) → AreUpTo p heir z c f g → 2 ≤ p → heir ≢ p → c ≡ 0 → (i : ℕ) → parent_in g i ≡ p → ⊥
none_left p heir z c f g t two other none i e =
    none_below f t.linked p z (λ x. parent_in g x ≡ p) two (sym t.next ∙ none) (λ x child. (was_child p heir (parent_in g x) (parent_in f x) other (t.parent x) child, t.left x child)) (t.linked.place i + 1) i e (omega arith)

no_child : (f : ℕ → Option Record) (p : ℕ) → AreLinked f → 2 ≤ p → behind_in f p 0 ≡ 0 → (i : ℕ) → parent_in f i ≡ p → ⊥
no_child f p l two none i e = none_below f l p 0 (λ x. parent_in f x ≡ p) two none (λ x child. (child, before_child f l p x two child)) (l.place i + 1) i e (omega arith)

pub all_given : (p heir first z c : ℕ) (f g : ℕ → Option Record) → 2 ≤ p → heir ≢ p → first ≡ first_of f p → c ≡ 0 → AreUpTo p heir z c f g → AreAllGiven p heir first z f g
all_given p heir first z c f g two other starts none t = record {
  parent = λ i. by i (t.parent i);
  first = t.first;
  behind = t.behind;
  before = t.before;
  state = t.state;
  starts = starts ∙ sym (behind_first f p);
  stands = t.stands;
  ends = sym t.next ∙ none;
}
  where
    by : (i : ℕ) → (parent_in g i ≡ parent_in f i) ⊎ ((parent_in f i ≡ p) × (parent_in g i ≡ heir)) → parent_in g i ≡ cond (parent_in f i == p) heir (parent_in f i)
    by i (inl e) = e ∙ rw (ne_eqb (parent_in f i) p (λ mine. none_left p heir z c f g t two other none i (e ∙ mine))) refl
    by i (inr q) = q.1 ∙ rw (eq-eqb (parent_in f i) p q.0) refl

-- ---- the children that go to a new parent without a list are in no list

nothing_next : (f : ℕ → Option Record) (place : ℕ → ℕ) (k a z : ℕ) → z ≡ 0 → IsNext f place k a z
nothing_next f place k a z none = record { stands = inl none; back = λ some. absurd (some none); rises = λ some. absurd (some none) }

-- a child in a list other than that of p stays in that list
stands_still : (f g : ℕ → Option Record) (p h k a : ℕ) → parent_in g a ≡ cond (parent_in f a == p) h (parent_in f a) → k ≢ p → Stands f k a → Stands g k a
stands_still f g p h k a is apart (inl none) = inl none
stands_still f g p h k a is apart (inr e) = inr (is ∙ rw (ne_eqb (parent_in f a) p (λ mine. apart (sym e ∙ mine))) e)

-- p has no first child, and in all other lists all is as it was
left_linked : (f g : ℕ → Option Record) (p h c z : ℕ) → AreLinked f → 2 ≤ p → ((i : ℕ) → parent_in f i ≡ p → h ≤ 1) → AreAllGiven p h c z f g → AreLinked g
left_linked f g p h c z l two low t = record {
  place = l.place;
  nobody = grind (arith, nat_tests, t.parent 0, l.nobody, two);
  behind = λ k a high s.
      let was : Stands f k a = grind (arith, nat_tests, t.parent a, s, low a, high) in
      elim (cases_eq k p) [
        | inl same ↦
            let none : a ≡ 0 = grind (arith, nat_tests, t.parent a, s, low a, high, same) in
            nothing_next g l.place k a (behind_in g k a) (ap (behind_in g k) none ∙ t.first k ∙ rw (eq-eqb k p same) refl)
        | inr apart ↦
            let n = l.behind k a high was in
            rw (still k a apart) (record { stands = stands_still f g p h k (behind_in f k a) (t.parent (behind_in f k a)) apart n.stands; back = λ some. t.before (behind_in f k a) ∙ n.back some; rises = n.rises })
      ];
  before = λ k y high e.
      let was : parent_in f y ≡ k = grind (arith, nat_tests, t.parent y, e, low y, high) in
      let apart : k ≢ p = grind (arith, nat_tests, t.parent y, e, low y, high) in
      let b = l.before k y high was in
      rw (t.before y) (stands_still f g p h k (before_in f y) (t.parent (before_in f y)) apart b.0, still k (before_in f y) apart ∙ b.1);
}
  where
    still : (k a : ℕ) → k ≢ p → behind_in g k a ≡ behind_in f k a
    still k a apart = elim (cases_eq a 0) [
      | inl none ↦ ap (behind_in g k) none ∙ t.first k ∙ rw (ne_eqb k p apart) (ap (behind_in f k) (sym none))
      | inr some ↦ t.behind k a some
    ]

pub given_to_none : (p h c z : ℕ) (old new : List (ℕ × Record)) → AreLinked (record_in old) → 2 ≤ p → h ≤ 1 → AreAllGiven p h c z (record_in old) (record_in new) → AreGivenOn p h old new
given_to_none p h c z old new l two low m = record { linked = left_linked (record_in old) (record_in new) p h c z l two (λ i e. low) m; parent = m.parent; state = m.state }

pub nobody_given : (p h : ℕ) (old : List (ℕ × Record)) → AreLinked (record_in old) → 2 ≤ p → 0 ≡ first_of (record_in old) p → AreGivenOn p h old old
nobody_given p h old l two none = record {
  linked = l;
  parent = λ i. rw (ne_eqb (parent_in (record_in old) i) p (λ mine. no_child (record_in old) p l two (behind_first (record_in old) p ∙ sym none) i mine)) refl;
  state = λ i. refl;
}

-- ---- the children of p, from c to z, come before the first child b of h

record IsSpliced (f g : ℕ → Option Record) (p h c z b : ℕ) : Type 0 where
  two : 2 ≤ p
  other : h ≢ p
  nobody : parent_in f 0 ≡ 0
  first_is : parent_in f c ≡ p
  first_was : behind_in f p 0 ≡ c
  first_back : before_in f c ≡ 0
  last_is : parent_in f z ≡ p
  last_end : behind_in f p z ≡ 0
  above : Stands f h b
  above_was : behind_in f h 0 ≡ b
  above_back : b ≢ 0 → before_in f b ≡ 0
  parent : (i : ℕ) → parent_in g i ≡ cond (parent_in f i == p) h (parent_in f i)
  first : (n : ℕ) → behind_in g n 0 ≡ cond (n == h) c (cond (n == p) 0 (behind_in f n 0))
  behind : (n k i : ℕ) → i ≢ 0 → behind_in g n i ≡ cond (i == z) b (behind_in f k i)
  before : (i : ℕ) → i ≢ 0 → before_in g i ≡ cond (i == b) z (before_in f i)

-- the places after it: all others come after the last child of p
abbrev spliced_place : (ℕ → Option Record) → (ℕ → ℕ) → ℕ → ℕ → ℕ → ℕ
spliced_place f place p z i = cond (parent_in f i == p) (place i) (place i + place z + 1)

-- the first of each list
spliced_first : (f g : ℕ → Option Record) (place : ℕ → ℕ) (p h c z b k y w : ℕ) → IsSpliced f g p h c z b → IsNext f place k 0 y → w ≡ cond (k == h) c (cond (k == p) 0 y) → IsNext g (spliced_place f place p z) k 0 w
spliced_first f g place p h c z b k y w t m is = record {
  stands = grind (arith, nat_tests, t.two, t.other, t.first_is, m.stands, t.parent w);
  back = λ some. grind (arith, nat_tests, t.two, t.other, t.first_is, t.first_back, t.above, m.stands, m.back, t.before w);
  rises = λ some up. absurd (up refl);
}

-- x has the parent n before it
spliced_next : (f g : ℕ → Option Record) (place : ℕ → ℕ) (p h c z b n k x y w : ℕ) → IsSpliced f g p h c z b → x ≢ 0 → parent_in f x ≡ n → parent_in g x ≡ k → IsNext f place n x y → w ≡ cond (x == z) b y → IsNext g (spliced_place f place p z) k x w
spliced_next f g place p h c z b n k x y w t some was now m is = record {
  stands = grind (arith, nat_tests, t.other, t.last_is, t.above, m.stands, t.parent x, t.parent w);
  back = λ there. grind (arith, nat_tests, t.other, t.last_is, t.above, t.above_back, m.stands, m.back, t.parent x, t.before w);
  rises = λ there up. grind (arith, nat_tests, t.other, t.last_is, t.above, m.stands, m.rises, t.parent x);
}

-- y has the parent n, and its previous sibling was x: 0, or another child
back_first : (f g : ℕ → Option Record) (p h c z b n k y : ℕ) → IsSpliced f g p h c z b → y ≢ b → parent_in f y ≡ n → parent_in g y ≡ k → behind_in f n 0 ≡ y → behind_in g k 0 ≡ y
back_first f g p h c z b n k y t other was now m = grind (arith, nat_tests, t.first_was, t.above_was, t.parent y, t.first k)

back_next : (f g : ℕ → Option Record) (p h c z b n k x y : ℕ) → IsSpliced f g p h c z b → y ≢ 0 → x ≢ 0 → Stands f n x → behind_in f n x ≡ y → behind_in g k x ≡ y
back_next f g p h c z b n k x y t some there hx m = grind (arith, nat_tests, t.last_is, t.last_end, t.behind k n x)

spliced_before : (f g : ℕ → Option Record) (p h c z b n k x y w : ℕ) → IsSpliced f g p h c z b → y ≢ 0 → parent_in f y ≡ n → parent_in g y ≡ k → Stands f n x → behind_in f n x ≡ y → w ≡ cond (y == b) z x → Stands g k w × (behind_in g k w ≡ y)
spliced_before f g p h c z b n k x y w t some was now hx m is = (
  grind (arith, nat_tests, t.other, t.last_is, t.above, t.parent y, t.parent w),
  elim (cases_eq y b) [
    | inl same ↦ rw (is, eq-eqb y b same) (t.behind k n z (child_some f p z t.nobody t.two t.last_is) ∙ rw (eq-eqb z z refl) (sym same))
    | inr other ↦ rw (is, ne_eqb y b other) elim (cases_eq x 0) [
      | inl none ↦ rw none (back_first f g p h c z b n k y t other was now (ap (behind_in f n) (sym none) ∙ m))
      | inr there ↦ back_next f g p h c z b n k x y t some there hx m
    ]
  ],
)

spliced : (f g : ℕ → Option Record) (p h c z b : ℕ) → AreLinked f → IsSpliced f g p h c z b → AreLinked g
spliced f g p h c z b l t =
    let nobody : parent_in g 0 ≡ 0 = grind (arith, nat_tests, t.parent 0, t.nobody, t.two) in
    record {
      place = spliced_place f l.place p z;
      nobody = nobody;
      behind = λ k x high s. elim (cases_eq x 0) [
        | inl none ↦ rw none (spliced_first f g l.place p h c z b k (behind_in f k 0) (behind_in g k 0) t (l.behind k 0 high (inl refl)) (t.first k))
        | inr some ↦
            let now : parent_in g x ≡ k = child_of g k x s some in
            let two : 2 ≤ parent_in f x = grind (arith, nat_tests, t.two, t.parent x, high, now) in
            spliced_next f g l.place p h c z b (parent_in f x) k x (behind_in f (parent_in f x) x) (behind_in g k x) t some refl now (l.behind (parent_in f x) x two (inr refl)) (t.behind k (parent_in f x) x some)
      ];
      before = λ k y high now.
          let some : y ≢ 0 = child_some g k y nobody high now in
          let two : 2 ≤ parent_in f y = grind (arith, nat_tests, t.two, t.parent y, high, now) in
          let old = l.before (parent_in f y) y two refl in
          spliced_before f g p h c z b (parent_in f y) k (before_in f y) y (before_in g y) t some refl now old.0 old.1 (t.before y some);
    }

-- a first child stays when another one is inserted after the last one
first_joined : (h z b k : ℕ) (f g : ℕ → Option Record) → z ≢ 0 → AreJoined h z b f g → behind_in g k 0 ≡ behind_in f k 0
first_joined h z b k f g end j = elim (cases_eq k h) [
  | inl here ↦ j.behind k 0 here ∙ rw (ne_eqb 0 z (λ e. end (sym e))) refl
  | inr apart ↦ j.else_behind k 0 apart sym
]

pub given_to_list : (p h c z b : ℕ) (old mid last new : List (ℕ × Record)) → AreLinked (record_in old) → 2 ≤ p → 2 ≤ h → h ≢ p → is_some (record_in old h) ≡ true → c ≢ 0
    → AreAllGiven p h c z (record_in old) (record_in mid) → b ≡ first_of (record_in mid) h → Become (changed h (linked (First c))) mid last → Become (joined h z b) last new → AreGivenOn p h old new
given_to_list p h c z b old mid last new l two high other heir some m is y w =
    let f : ℕ → Option Record = record_in old in
    let o : ℕ → Option Record = record_in last in
    let g : ℕ → Option Record = record_in new in
    let q = first_set h c mid last y (λ there. there_by_state f (record_in mid) h (m.state h) heir) in
    let lead : IsNext f l.place p 0 c = rw m.starts (l.behind p 0 two (inl refl)) in
    let end : z ≢ 0 = (λ none. some (m.starts ∙ ap (behind_in f p) (sym none) ∙ m.ends)) in
    let last_is : parent_in f z ≡ p = child_of f p z m.stands end in
    let above_was : b ≡ behind_in f h 0 = is ∙ sym (behind_first (record_in mid) h) ∙ m.first h ∙ rw (ne_eqb h p other) refl in
    let up : IsNext f l.place h 0 b = rw above_was (l.behind h 0 high (inl refl)) in
    let parent : (i : ℕ) → parent_in o i ≡ cond (parent_in f i == p) h (parent_in f i) = (λ i. q.parent i ∙ m.parent i) in
    let j : AreJoined h z b o g = joins h z b last new w (λ none. absurd (end none))
    (child_there o h z high (inr (parent z ∙ rw (eq-eqb (parent_in f z) p last_is) refl)))
    (child_there o h b high (stands_still f o p h h b (parent b) other up.stands)) in
    let t : IsSpliced f g p h c z b = record {
      two = two;
      other = other;
      nobody = l.nobody;
      first_is = child_of f p c lead.stands some;
      first_was = sym m.starts;
      first_back = lead.back some;
      last_is = last_is;
      last_end = m.ends;
      above = up.stands;
      above_was = sym above_was;
      above_back = up.back;
      parent = λ i. j.parent i ∙ parent i;
      first = λ k. first_joined h z b k o g end j ∙ q.first k ∙ ap (cond (k == h) c) (m.first k);
      behind = λ k i a some. behind_any g k h a some ∙ j.behind h a refl ∙ ap (cond (a == z) b) (q.behind h a some ∙ m.behind h a some ∙ behind_any f h i a some);
      before = λ i some. j.before i some ∙ ap (cond (i == b) z) (q.before i ∙ m.before i);
    } in
    record { linked = spliced f g p h c z b l t; parent = t.parent; state = λ i. j.state i ∙ q.state i ∙ m.state i }
