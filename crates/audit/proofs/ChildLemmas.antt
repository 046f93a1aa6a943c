-- Children in lists that are linked, as one goes into a list or is taken out.
use Rattle.std.proofs.Common.{◌≡◌, ◌≢◌, ◌⊎◌, inl, inr, ℕ, ◌+◌, ◌<◌, ◌≤◌, true, cond, refl, ap, sym, ◌∙◌, subst, arith, List, ◌==◌, Option, Some, None, option_map, is_some}
use Rattle.std.proofs.lemmas.Bool.Decides.{nat_tests}
use Rattle.std.proofs.lemmas.Bool.{cases_eq, cond_both, eq-eqb, ne_eqb}
use Rattle.audit.specs.declared.records.Record.{Record}
use Rattle.audit.specs.Children.{parent_in, first_of, behind_in, before_in, state_in, Stands, IsNext, AreLinked, KeepLinks, joined, IsGiven, IsBegun, linked}
use Rattle.audit.specs.declared.records.Link.TheVariants.{Before, Begins, First, Parent, Place}
use Rattle.audit.specs.Records.{newborn_state, record_in, changed, Become}
use Rattle.std.specs.Option.{option_map_or}
use Rattle.audit.proofs.FieldLemmas.{IsParentSet, parent_set, AreJoined, joins, IsFirstPut, first_put, state_same, state_set, there_same}

-- ---- one without a list

-- a child of no process or of process 1 was in no list, and one that gets such a parent is in none
pub unlisted : (f g : ℕ → Option Record) (p k : ℕ) → AreLinked f → parent_in f p ≤ 1 → k ≤ 1 → p ≢ 0 → IsParentSet p k f g → AreLinked g
unlisted f g p k l low none some s = record {
  place = l.place;
  nobody = grind (arith, nat_tests, s.parent 0, l.nobody);
  behind = λ n a two h. next n a two (l.behind n a two (was n a two h));
  before = λ n c two e.
      let old : parent_in f c ≡ n = grind (arith, nat_tests, s.parent c) in
      let b = l.before n c two old in
      (rw (s.before c) (now n (before_in f c) two b.0), rw (s.before c, s.behind n (before_in f c)) b.1);
}
  where
    was : (n a : ℕ) → 2 ≤ n → Stands g n a → Stands f n a
    was n a two h = grind (arith, nat_tests, s.parent a)

    now : (n a : ℕ) → 2 ≤ n → Stands f n a → Stands g n a
    now n a two h = grind (arith, nat_tests, s.parent a)

    next : (n a : ℕ) → 2 ≤ n → IsNext f l.place n a (behind_in f n a) → IsNext g l.place n a (behind_in g n a)
    next n a two h = rw (s.behind n a) (record { stands = now n (behind_in f n a) two h.stands; back = λ some. s.before (behind_in f n a) ∙ h.back some; rises = h.rises })

-- ---- p, between a and b among the children of k, is taken out

-- what is known of it
record IsTaken (f g : ℕ → Option Record) (place : ℕ → ℕ) (k p a b : ℕ) : Type 0 where
  two : 2 ≤ k
  some : p ≢ 0
  is : parent_in f p ≡ k
  before_is : before_in f p ≡ a
  behind_is : behind_in f k p ≡ b
  below : Stands f k a
  above : Stands f k b
  back : behind_in f k a ≡ p
  low : a ≢ 0 → place a < place p
  high : b ≢ 0 → place p < place b
  ahead : b ≢ 0 → before_in f b ≡ p
  parent : (i : ℕ) → parent_in g i ≡ cond (i == p) 0 (parent_in f i)
  behind : (n i : ℕ) → n ≡ k → behind_in g n i ≡ cond (i == a) b (behind_in f n i)
  else_behind : (n i : ℕ) → n ≢ k → (i ≡ a → a ≡ 0) → behind_in g n i ≡ behind_in f n i
  before : (i : ℕ) → i ≢ 0 → before_in g i ≡ cond (i == b) a (before_in f i)

-- in a list n, z comes after x now, where y came before: after a, it is b
taken_gap : (f g : ℕ → Option Record) (place : ℕ → ℕ) (k p a b : ℕ) → IsTaken f g place k p a b → IsNext g place k a b
taken_gap f g place k p a b t = record {
  stands = grind (arith, nat_tests, t.two, t.some, t.above, t.high, t.parent b);
  back = λ some. grind (arith, nat_tests, t.before b);
  rises = λ some up. let low = t.low up in let high = t.high some in omega (arith, low, high);
}

-- the previous sibling of p
taken_from : (f g : ℕ → Option Record) (place : ℕ → ℕ) (k p a b n x z : ℕ) → IsTaken f g place k p a b → Stands f n x → IsNext f place n x p → z ≡ behind_in g n x → (n ≡ k) × (x ≡ a) × (z ≡ b)
taken_from f g place k p a b n x z t hx m ez = (grind (arith, t.some, t.is, m.stands), grind (arith, t.some, t.before_is, m.back), grind (arith, nat_tests, t.some, t.is, t.before_is, m.stands, m.back, t.behind n x))

-- a child other than p keeps its next sibling
taken_still : (f g : ℕ → Option Record) (place : ℕ → ℕ) (k p a b n x y z : ℕ) → IsTaken f g place k p a b → y ≢ p → behind_in f n x ≡ y → Stands f n x → z ≡ behind_in g n x → z ≡ y
taken_still f g place k p a b n x y z t away ey hx ez = grind (arith, nat_tests, t.below, t.back, t.behind n x, t.else_behind n x)

taken_next : (f g : ℕ → Option Record) (place : ℕ → ℕ) (k p a b n x y : ℕ) → IsTaken f g place k p a b → x ≢ p → y ≢ p → IsNext f place n x y → IsNext g place n x y
taken_next f g place k p a b n x y t apart away m = record {
  stands = grind (arith, nat_tests, t.parent y, m.stands);
  back = λ some. grind (arith, nat_tests, t.before y, t.ahead, m.back);
  rises = m.rises;
}

taken_behind : (f g : ℕ → Option Record) (place : ℕ → ℕ) (k p a b n x z : ℕ) → IsTaken f g place k p a b → x ≢ p → Stands f n x → IsNext f place n x (behind_in f n x) → z ≡ behind_in g n x → IsNext g place n x z
taken_behind f g place k p a b n x z t apart hx m ez = elim (cases_eq (behind_in f n x) p) [
  | inl same ↦ let is = taken_from f g place k p a b n x z t hx (subst (IsNext f place n x) same m) ez in rw (is.2, is.0, is.1) (taken_gap f g place k p a b t)
  | inr away ↦ rw (taken_still f g place k p a b n x (behind_in f n x) z t away refl hx ez) (taken_next f g place k p a b n x (behind_in f n x) t apart away m)
]

-- and z is before y now, where x was
taken_before : (f g : ℕ → Option Record) (place : ℕ → ℕ) (k p a b n x y z : ℕ) → IsTaken f g place k p a b → 2 ≤ n → y ≢ 0 → y ≢ p → parent_in f y ≡ n → Stands f n x → behind_in f n x ≡ y → z ≡ cond (y == b) a x → Stands g n z × (behind_in g n z ≡ y)
taken_before f g place k p a b n x y z t two some apart e hx m ez = (
  grind (arith, nat_tests, t.two, t.some, t.is, t.behind_is, t.below, t.above, t.low, t.parent z),
  elim (cases_eq y b) [
    | inl same ↦ let here : n ≡ k = grind (arith, t.above) in rw (ez, eq-eqb y b same) (t.behind n a here ∙ rw (eq-eqb a a refl) (sym same))
    | inr other ↦ rw (ez, ne_eqb y b other) (taken_still f g place k p a b n x y (behind_in g n x) t apart m hx refl)
  ],
)

pub removed : (f m g : ℕ → Option Record) (k p a b : ℕ) → AreLinked f → 2 ≤ k → parent_in f p ≡ k → a ≡ before_in f p → b ≡ behind_in f k p → IsParentSet p 0 f m → AreJoined k a b m g → AreLinked g
removed f m g k p a b l two e ea eb s j =
    let some : p ≢ 0 = (λ none. let no : parent_in f 0 ≡ k = ap (parent_in f) (sym none) ∙ e in let z = l.nobody in omega (arith, no, z, two)) in
    let up : IsNext f l.place k p b = rw eb (l.behind k p two (inr e)) in
    let low : Stands f k a × (behind_in f k a ≡ p) = rw ea (l.before k p two e) in
    let lo : IsNext f l.place k a p = rw (← low.1) (l.behind k a two low.0) in
    let parent : (i : ℕ) → parent_in g i ≡ cond (i == p) 0 (parent_in f i) = (λ i. j.parent i ∙ s.parent i) in
    let t : IsTaken f g l.place k p a b = record {
      two = two;
      some = some;
      is = e;
      before_is = sym ea;
      behind_is = sym eb;
      below = low.0;
      above = up.stands;
      back = low.1;
      low = lo.rises some;
      high = λ h. up.rises h some;
      ahead = up.back;
      parent = parent;
      behind = λ n i h. j.behind n i h ∙ ap (cond (i == a) b) (s.behind n i);
      else_behind = λ n i h u. j.else_behind n i h u ∙ s.behind n i;
      before = λ i h. j.before i h ∙ ap (cond (i == b) a) (s.before i);
    } in
    record {
      place = l.place;
      nobody = grind (arith, nat_tests, parent 0, l.nobody);
      behind = λ n x high h.
          let apart : x ≢ p = grind (arith, nat_tests, parent x, some) in
          let was : Stands f n x = grind (arith, nat_tests, parent x) in
          taken_behind f g l.place k p a b n x (behind_in g n x) t apart was (l.behind n x high was) refl;
      before = λ n y high h.
          let apart : y ≢ p = grind (arith, nat_tests, parent y) in
          let was : parent_in f y ≡ n = grind (arith, nat_tests, parent y) in
          let there : y ≢ 0 = grind (arith, nat_tests, l.nobody) in
          let old = l.before n y high was in
          taken_before f g l.place k p a b n (before_in f y) y (before_in g y) t high there apart was old.0 old.1 (t.before y there);
    }

-- ---- p, which has no parent, comes before the first child b of k

record IsAdded (f g : ℕ → Option Record) (k p b : ℕ) : Type 0 where
  two : 2 ≤ k
  some : p ≢ 0
  nobody : parent_in f 0 ≡ 0
  apart : parent_in f p ≡ 0
  first_is : behind_in f k 0 ≡ b
  above : Stands f k b
  back : b ≢ 0 → before_in f b ≡ 0
  put : IsFirstPut k p b f g

-- the places after it: p comes first
abbrev place_after : (ℕ → ℕ) → ℕ → ℕ → ℕ
place_after place p i = cond (i == p) 0 (place i + 1)

added_behind : (f g : ℕ → Option Record) (place : ℕ → ℕ) (k p b n x y z : ℕ) → IsAdded f g k p b → 2 ≤ n → x ≢ p → Stands f n x → IsNext f place n x y → y ≡ behind_in f n x → z ≡ behind_in g n x → IsNext g (place_after place p) n x z
added_behind f g place k p b n x y z t two apart hx m ey ez =
    let at = t.put.behind n x in
    let other = t.put.else_behind n x in
    record {
      stands = grind (arith, nat_tests, t.two, t.some, t.apart, m.stands, t.put.parent z, at, other);
      back = λ some. grind (arith, nat_tests, t.two, t.some, t.apart, t.first_is, t.above, t.back, m.stands, m.back, t.put.before z, at, other);
      rises = λ some up. grind (arith, nat_tests, t.two, t.some, t.apart, m.stands, m.rises, at, other);
    }

-- and after p
added_first : (f g : ℕ → Option Record) (place : ℕ → ℕ) (k p b n z : ℕ) → IsAdded f g k p b → n ≡ k → z ≡ behind_in g n p → IsNext g (place_after place p) n p z
added_first f g place k p b n z t same ez =
    let at = t.put.behind n p same in
    record {
      stands = grind (arith, nat_tests, t.two, t.apart, t.above, t.put.parent z, at, same);
      back = λ some. grind (arith, nat_tests, t.put.before z, at);
      rises = λ some up. grind (arith, nat_tests, t.two, t.apart, t.above, at);
    }

added_before : (f g : ℕ → Option Record) (k p b n x y z : ℕ) → IsAdded f g k p b → 2 ≤ n → y ≢ 0 → y ≢ p → parent_in f y ≡ n → x ≡ before_in f y → Stands f n x → behind_in f n x ≡ y → z ≡ before_in g y → Stands g n z × (behind_in g n z ≡ y)
added_before f g k p b n x y z t two some apart e ex hx m ez = (
  grind (arith, nat_tests, t.two, t.some, t.apart, t.first_is, t.above, t.put.parent z, t.put.before y),
  grind (arith, nat_tests, t.two, t.some, t.apart, t.first_is, t.above, t.back, t.put.behind n z, t.put.else_behind n z, t.put.before y),
)

pub added : (f g : ℕ → Option Record) (k p b : ℕ) → AreLinked f → 2 ≤ k → p ≢ 0 → parent_in f p ≡ 0 → b ≡ behind_in f k 0 → IsFirstPut k p b f g → AreLinked g
added f g k p b l two some apart eb q =
    let first : IsNext f l.place k 0 b = rw eb (l.behind k 0 two (inl refl)) in
    let parent = q.parent in
    let t : IsAdded f g k p b = record {
      two = two;
      some = some;
      nobody = l.nobody;
      apart = apart;
      first_is = sym eb;
      above = first.stands;
      back = first.back;
      put = q;
    } in
    record {
      place = place_after l.place p;
      nobody = grind (arith, nat_tests, parent 0, l.nobody, some);
      behind = λ n x high e. elim (cases_eq x p) [
        | inl same ↦ rw same (added_first f g l.place k p b n (behind_in g n p) t (grind (arith, nat_tests, parent p, some)) refl)
        | inr other ↦
            let was : Stands f n x = grind (arith, nat_tests, parent x) in
            added_behind f g l.place k p b n x (behind_in f n x) (behind_in g n x) t high other was (l.behind n x high was) refl refl
      ];
      before = λ n y high e. elim (cases_eq y p) [
        | inl same ↦
            let here : n ≡ k = grind (arith, nat_tests, parent y, same) in
            let none : before_in g y ≡ 0 = grind (arith, nat_tests, q.before y, t.above, t.apart, some, two, same) in
            rw none (inl refl, grind (arith, nat_tests, q.behind n 0 here, some, same))
        | inr other ↦
            let was : parent_in f y ≡ n = grind (arith, nat_tests, parent y) in
            let there : y ≢ 0 = grind (arith, nat_tests, l.nobody) in
            let old = l.before n y high was in
            added_before f g k p b n (before_in f y) y (before_in g y) t high there other was refl old.0 old.1 refl
      ];
    }

-- ---- records that link the same

pub same_links : (f g : ℕ → Option Record) → KeepLinks f g → AreLinked f → AreLinked g
same_links f g h l = record {
  place = l.place;
  nobody = h.parent 0 ∙ l.nobody;
  behind = λ k a two t. let m = l.behind k a two (was k a t) in rw (h.behind k a) (record { stands = now k (behind_in f k a) m.stands; back = λ some. h.before (behind_in f k a) ∙ m.back some; rises = m.rises });
  before = λ k c two e. let m = l.before k c two (sym (h.parent c) ∙ e) in rw (h.before c) (now k (before_in f c) m.0, h.behind k (before_in f c) ∙ m.1);
}
  where
    was : (k a : ℕ) → Stands g k a → Stands f k a
    was k a (inl none) = inl none
    was k a (inr e) = inr (sym (h.parent a) ∙ e)

    now : (k a : ℕ) → Stands f k a → Stands g k a
    now k a (inl none) = inl none
    now k a (inr e) = inr (h.parent a ∙ e)

pub no_links : (f : ℕ → Option Record) → ((i : ℕ) → f i ≡ None) → AreLinked f
unfolding parent_in behind_in before_in
no_links f none = record {
  place = λ i. 0;
  nobody = rw (none 0) refl;
  behind = λ k a two h. let z : behind_in f k a ≡ 0 = rw (none k, none a) (cond_both (a == 0) 0 0 (λ n. n ≡ 0) (λ t. refl) (λ t. refl)) in record { stands = inl z; back = λ some. absurd (some z); rises = λ some. absurd (some z) };
  before = λ k c two e. let z : parent_in f c ≡ 0 = rw (none c) refl in absurd (omega (arith, z, e, two));
}

-- ---- the same, of the entries of a map

-- who has a field that isn't 0 is there
has_field : (read : Record → ℕ) (o : Option Record) → option_map_or read o 0 ≢ 0 → is_some o ≡ true
has_field read None some = absurd (some refl)
has_field read (Some r) some = refl

pub is_there : (f : ℕ → Option Record) (i : ℕ) → parent_in f i ≢ 0 → is_some (f i) ≡ true
unfolding parent_in
is_there f i = has_field (λ r. r.parent) (f i)

has_first : (f : ℕ → Option Record) (k : ℕ) → behind_in f k 0 ≢ 0 → is_some (f k) ≡ true
unfolding behind_in
has_first f k = has_field (λ r. r.first) (f k)

-- what the record of p says of it
says : (f : ℕ → Option Record) (k p : ℕ) (r : Record) → p ≢ 0 → f p ≡ Some r → (parent_in f p ≡ r.parent) × (before_in f p ≡ r.before) × (behind_in f k p ≡ r.behind)
unfolding parent_in behind_in before_in
says f k p r some e = rw (ne_eqb p 0 some, e) (refl, refl, refl)

pub behind_first : (f : ℕ → Option Record) (k : ℕ) → behind_in f k 0 ≡ first_of f k
unfolding behind_in
behind_first f k = refl

pub given_unlisted : (p k : ℕ) (old new : List (ℕ × Record)) → AreLinked (record_in old) → 1 ≤ p → is_some (record_in old p) ≡ true → parent_in (record_in old) p ≤ 1 → k ≤ 1 → Become (changed p (linked (Parent k))) old new → IsGiven p k old new
given_unlisted p k old new l one there low none h =
    let s = parent_set p k (linked (Parent k)) (λ r. (refl, refl, refl, refl)) old new h there in
    record {
      linked = unlisted (record_in old) (record_in new) p k l low none (λ z. omega (arith, one, z)) s;
      parent = s.parent;
      state = state_same p (linked (Parent k)) (λ r. refl) (record_in old) (record_in new) h.is;
      keys = h.keys;
    }

-- a child in a list exists
pub child_there : (f : ℕ → Option Record) (k i : ℕ) → 2 ≤ k → Stands f k i → i ≢ 0 → is_some (f i) ≡ true
child_there f k i two (inl none) other = absurd (other none)
child_there f k i two (inr e) other = is_there f i (λ z. omega (arith, e, z, two))

pub given_first : (p k b : ℕ) (old mid next new : List (ℕ × Record)) → AreLinked (record_in old) → 1 ≤ p → is_some (record_in old p) ≡ true → parent_in (record_in old) p ≡ 0 → 2 ≤ k → is_some (record_in old k) ≡ true → b ≡ behind_in (record_in old) k 0
    → Become (changed k (linked (First p))) old mid → Become (changed p (linked (Place k b))) mid next → Become (changed b (linked (Before p))) next new → IsGiven p k old new
given_first p k b old mid next new l one there apart two parent first x y z =
    let some : p ≢ 0 = (λ n. omega (arith, one, n)) in
    let above : Stands (record_in old) k b = subst (Stands (record_in old) k) (sym first) (l.behind k 0 two (inl refl)).stands in
    let q = first_put k p b old mid next new some there parent (child_there (record_in old) k b two above) x y z in
    record { linked = added (record_in old) (record_in new) k p b l two some apart first q; parent = q.parent; state = q.state; keys = z.keys ∙ y.keys ∙ x.keys }

-- ---- a life that begins

-- one whose parent has no list
pub begun_unlisted : (p : ℕ) (r : Record) (old new : List (ℕ × Record)) → AreLinked (record_in old) → 1 ≤ p → record_in old p ≡ Some r → r.parent ≤ 1 → Become (changed p (linked Begins)) old new → IsBegun p old new
begun_unlisted p r old new l one found low h =
    let f : ℕ → Option Record = record_in old in
    let some : p ≢ 0 = (λ z. omega (arith, one, z)) in
    let there : is_some (f p) ≡ true = ap is_some found in
    let is : parent_in f p ≡ r.parent = (says f r.parent p r some found).0 in
    let g = parent_set p 0 (linked Begins) (λ r. (refl, refl, refl, refl)) old new h there in
    record { linked = unlisted f (record_in new) p 0 l (omega (arith, is, low)) (omega arith) some g; parent = g.parent; state = state_set p old new h there }

-- one that is taken out from a list
pub begun_away : (p : ℕ) (r : Record) (old mid new : List (ℕ × Record)) → AreLinked (record_in old) → 1 ≤ p → record_in old p ≡ Some r → 2 ≤ r.parent → Become (changed p (linked Begins)) old mid → Become (joined r.parent r.before r.behind) mid new → IsBegun p old new
begun_away p r old mid new l one found two h w =
    let f : ℕ → Option Record = record_in old in
    let some : p ≢ 0 = (λ z. omega (arith, one, z)) in
    let there : is_some (f p) ≡ true = ap is_some found in
    let reads = says f r.parent p r some found in
    let is : parent_in f p ≡ r.parent = reads.0 in
    let before : r.before ≡ before_in f p = sym reads.1 in
    let behind : r.behind ≡ behind_in f r.parent p = sym reads.2 in
    let low : Stands f r.parent r.before × (behind_in f r.parent r.before ≡ p) = rw (before) (l.before r.parent p two is) in
    let up : Stands f r.parent r.behind = rw (behind) ((l.behind r.parent p two (inr is)).stands) in
    let still = there_same p (linked Begins) f (record_in mid) h.is in
    let j : AreJoined r.parent r.before r.behind (record_in mid) (record_in new) = joins r.parent r.before r.behind mid new w
    (λ none. still r.parent ∙ has_first f r.parent (λ z. some (sym low.1 ∙ ap (behind_in f r.parent) none ∙ z)))
    (λ other. still r.before ∙ child_there f r.parent r.before two low.0 other) (λ other. still r.behind ∙ child_there f r.parent r.behind two up other) in
    let g = parent_set p 0 (linked Begins) (λ r. (refl, refl, refl, refl)) old mid h there in
    record {
      linked = removed f (record_in mid) (record_in new) r.parent p r.before r.behind l two is before behind g j;
      parent = λ i. j.parent i ∙ g.parent i;
      state = λ i. j.state i ∙ state_set p old mid h there i;
    }

-- one of a number without a record
pub begun_anew : (p n : ℕ) (r : Record) (old new : List (ℕ × Record)) → AreLinked (record_in old) → n ≡ p → record_in old n ≡ None → r ≡ record { parent = 0; before = 0; behind = 0; first = 0; state = newborn_state }
    → ((q : ℕ) → record_in new q ≡ cond (n == q) (Some r) (record_in old q)) → IsBegun p old new
unfolding parent_in behind_in before_in state_in
begun_anew p n r old new l same none e is =
    let links : KeepLinks (record_in old) (record_in new) = record {
      parent = field (λ r. r.parent) (ap (λ (r : Record). r.parent) e);
      behind = λ k i. rw (field (λ r. r.first) (ap (λ (r : Record). r.first) e) k, field (λ r. r.behind) (ap (λ (r : Record). r.behind) e) i) refl;
      before = field (λ r. r.before) (ap (λ (r : Record). r.before) e);
    } in
    record {
      linked = same_links (record_in old) (record_in new) links l;
      parent = λ i. links.parent i ∙ parent i (cases_eq n i);
      state = λ i. ap (option_map (λ (r : Record). r.state)) (is i) ∙ state i (cases_eq n i);
    }
  where
    gone : (i : ℕ) → n ≡ i → record_in old i ≡ None
    gone i here = ap (record_in old) (sym here) ∙ none

    field : (read : Record → ℕ) → read r ≡ 0 → (i : ℕ) → option_map_or read (record_in new i) 0 ≡ option_map_or read (record_in old i) 0
    field read zero i = ap (λ o. option_map_or read o 0) (is i) ∙ elim (cases_eq n i) [
      | inl here ↦ rw (eq-eqb n i here, gone i here) zero
      | inr apart ↦ rw (ne_eqb n i apart) refl
    ]

    parent : (i : ℕ) → (n ≡ i) ⊎ (n ≢ i) → option_map_or (λ (r : Record). r.parent) (record_in old i) 0 ≡ cond (i == p) 0 (option_map_or (λ (r : Record). r.parent) (record_in old i) 0)
    parent i (inl here) = rw (eq-eqb i p (sym here ∙ same), gone i here) refl
    parent i (inr apart) = rw (ne_eqb i p (λ h. apart (same ∙ sym h))) refl

    state : (i : ℕ) → (n ≡ i) ⊎ (n ≢ i) → option_map (λ (r : Record). r.state) (cond (n == i) (Some r) (record_in old i)) ≡ cond (i == p) (Some newborn_state) (option_map (λ (r : Record). r.state) (record_in old i))
    state i (inl here) = rw (eq-eqb n i here, eq-eqb i p (sym here ∙ same)) (ap (λ (r : Record). Some r.state) e)
    state i (inr apart) = rw (ne_eqb n i apart, ne_eqb i p (λ h. apart (same ∙ sym h))) refl
