-- The fields of records, as one of the records changes.
use Rattle.std.proofs.Common.{◌≡◌, ◌≢◌, ◌⊎◌, inl, inr, ℕ, Bool, true, false, cond, if◌then◌else◌, refl, ap, sym, ◌∙◌, arith, List, ◌==◌, Option, Some, None, option_map, is_some}
use Rattle.std.specs.Option.{option_map_or}
use Rattle.std.proofs.lemmas.Bool.{cases_eq, eq-eqb, eqb-true, eqb-false, ne_eqb}
use Rattle.std.proofs.lemmas.Bool.Decides.{nat_tests}
use Rattle.audit.specs.declared.records.Record.{Record}
use Rattle.audit.specs.declared.records.State.{State}
use Rattle.audit.specs.Records.{newborn_state, record_in, changed, Become}
use Rattle.audit.specs.Children.{parent_in, first_of, behind_of, behind_in, before_in, state_in, in_state, put_behind, joined, KeepLinks, linked}
use Rattle.audit.specs.declared.records.Link.TheVariants.{Before, Begins, Behind, First, Place}

-- a field that doesn't change
field_same : (read : Record → ℕ) (p : ℕ) (h : Record → Record) → ((r : Record) → read (h r) ≡ read r) → (f g : ℕ → Option Record) → ((q : ℕ) → g q ≡ changed p h f q) → (i : ℕ) → option_map_or read (g i) 0 ≡ option_map_or read (f i) 0
field_same read p h same f g is i = ap (λ o. option_map_or read o 0) (is i) ∙ by (p == i) (f i)
  where
    by : (b : Bool) (o : Option Record) → option_map_or read (if b then option_map h o else o) 0 ≡ option_map_or read o 0
    by false o = refl
    by true None = refl
    by true (Some r) = same r

-- and one that does, where there is a record, or it is 0
field_set : (read : Record → ℕ) (p w : ℕ) (h : Record → Record) → ((r : Record) → read (h r) ≡ w) → (f g : ℕ → Option Record) → ((q : ℕ) → g q ≡ changed p h f q) → (i : ℕ) → (i ≡ p → w ≢ 0 → is_some (f p) ≡ true) → option_map_or read (g i) 0 ≡ cond (i == p) w (option_map_or read (f i) 0)
field_set read p w h set f g is i there = ap (λ o. option_map_or read o 0) (is i) ∙ by (cases_eq p i)
  where
    here : (o : Option Record) → (w ≢ 0 → is_some o ≡ true) → option_map_or read (option_map h o) 0 ≡ w
    here None t = elim (cases_eq w 0) [
      | inl zero ↦ sym zero
      | inr some ↦ let no = t some in absurd (cc)
    ]
    here (Some r) t = set r

    by : (p ≡ i) ⊎ (p ≢ i) → option_map_or read (changed p h f i) 0 ≡ cond (i == p) w (option_map_or read (f i) 0)
    by (inl same) = rw (eq-eqb p i same, eq-eqb i p (sym same)) (here (f i) (λ some. ap (λ q. is_some (f q)) (sym same) ∙ there (sym same) some))
    by (inr apart) = rw (ne_eqb p i apart, ne_eqb i p (λ e. apart (sym e))) refl

pub state_same : (p : ℕ) (h : Record → Record) → ((r : Record) → (h r).state ≡ r.state) → (f g : ℕ → Option Record) → ((q : ℕ) → g q ≡ changed p h f q) → (i : ℕ) → state_in g i ≡ state_in f i
unfolding state_in
state_same p h same f g is i = ap (option_map (λ (r : Record). r.state)) (is i) ∙ by (p == i) (f i)
  where
    by : (b : Bool) (o : Option Record) → option_map (λ (r : Record). r.state) (if b then option_map h o else o) ≡ option_map (λ (r : Record). r.state) o
    by false o = refl
    by true None = refl
    by true (Some r) = ap Some (same r)

pub there_same : (p : ℕ) (h : Record → Record) → (f g : ℕ → Option Record) → ((q : ℕ) → g q ≡ changed p h f q) → (i : ℕ) → is_some (g i) ≡ is_some (f i)
there_same p h f g is i = ap is_some (is i) ∙ by (p == i) (f i)
  where
    by : (b : Bool) (o : Option Record) → is_some (if b then option_map h o else o) ≡ is_some o
    by false o = refl
    by true None = refl
    by true (Some r) = refl

-- ---- a parent is set

-- p has the parent k, and all siblings are unchanged
pub record IsParentSet (p k : ℕ) (f g : ℕ → Option Record) : Type 0 where
  pub parent : (i : ℕ) → parent_in g i ≡ cond (i == p) k (parent_in f i)
  pub behind : (n i : ℕ) → behind_in g n i ≡ behind_in f n i
  pub before : (i : ℕ) → before_in g i ≡ before_in f i

pub parent_set : (p k : ℕ) (h : Record → Record) → ((r : Record) → ((h r).parent ≡ k) × ((h r).before ≡ r.before) × ((h r).behind ≡ r.behind) × ((h r).first ≡ r.first)) → (old new : List (ℕ × Record)) → Become (changed p h) old new → is_some (record_in old p) ≡ true
    → IsParentSet p k (record_in old) (record_in new)
unfolding parent_in behind_in before_in
parent_set p k h is old new x there = record {
  parent = λ i. field_set (λ r. r.parent) p k h (λ r. (is r).0) (record_in old) (record_in new) x.is i (λ same some. there);
  behind = λ n i. rw (field_same (λ r. r.first) p h (λ r. (is r).3) (record_in old) (record_in new) x.is n, field_same (λ r. r.behind) p h (λ r. (is r).2) (record_in old) (record_in new) x.is i) refl;
  before = field_same (λ r. r.before) p h (λ r. (is r).1) (record_in old) (record_in new) x.is;
}

-- ---- a first child is set

-- b is the first child of k from now on, and nothing else changed
pub record IsFirstSet (k b : ℕ) (f g : ℕ → Option Record) : Type 0 where
  pub parent : (i : ℕ) → parent_in g i ≡ parent_in f i
  pub first : (n : ℕ) → behind_in g n 0 ≡ cond (n == k) b (behind_in f n 0)
  pub behind : (n i : ℕ) → i ≢ 0 → behind_in g n i ≡ behind_in f n i
  pub before : (i : ℕ) → before_in g i ≡ before_in f i
  pub state : (i : ℕ) → state_in g i ≡ state_in f i

pub first_set : (k b : ℕ) (old new : List (ℕ × Record)) → Become (changed k (linked (First b))) old new → (b ≢ 0 → is_some (record_in old k) ≡ true) → IsFirstSet k b (record_in old) (record_in new)
unfolding parent_in behind_in before_in
first_set k b old new h there = record {
  parent = field_same (λ r. r.parent) k (linked (First b)) (λ r. refl) (record_in old) (record_in new) h.is;
  first = λ n. field_set (λ r. r.first) k b (linked (First b)) (λ r. refl) (record_in old) (record_in new) h.is n (λ same. there);
  behind = λ n i some. rw (ne_eqb i 0 some) (field_same (λ r. r.behind) k (linked (First b)) (λ r. refl) (record_in old) (record_in new) h.is i);
  before = field_same (λ r. r.before) k (linked (First b)) (λ r. refl) (record_in old) (record_in new) h.is;
  state = state_same k (linked (First b)) (λ r. refl) (record_in old) (record_in new) h.is;
}

-- ---- two are joined

-- b comes right after a among the children of k, and nothing else changed
pub record AreJoined (k a b : ℕ) (f g : ℕ → Option Record) : Type 0 where
  pub parent : (i : ℕ) → parent_in g i ≡ parent_in f i
  pub behind : (n i : ℕ) → n ≡ k → behind_in g n i ≡ cond (i == a) b (behind_in f n i)
  pub else_behind : (n i : ℕ) → n ≢ k → (i ≡ a → a ≡ 0) → behind_in g n i ≡ behind_in f n i
  pub before : (i : ℕ) → i ≢ 0 → before_in g i ≡ cond (i == b) a (before_in f i)
  pub state : (i : ℕ) → state_in g i ≡ state_in f i

-- the first half: b is the first child, if a is 0, or comes after a
record IsHalf (none : Bool) (k a b : ℕ) (f g : ℕ → Option Record) : Type 0 where
  parent : (i : ℕ) → parent_in g i ≡ parent_in f i
  first : (i : ℕ) → first_of g i ≡ cond none (cond (i == k) b (first_of f i)) (first_of f i)
  behind : (i : ℕ) → behind_of g i ≡ cond none (behind_of f i) (cond (i == a) b (behind_of f i))
  before : (i : ℕ) → before_in g i ≡ before_in f i
  state : (i : ℕ) → state_in g i ≡ state_in f i
  there : (i : ℕ) → is_some (g i) ≡ is_some (f i)

half : (k a b : ℕ) (f : ℕ → Option Record) (none : Bool) → (none ≡ true → is_some (f k) ≡ true) → (none ≡ false → is_some (f a) ≡ true) → IsHalf none k a b f (if none then changed k (linked (First b)) f else changed a (linked (Behind b)) f)
unfolding parent_in before_in
half k a b f true first behind =
    let g : ℕ → Option Record = changed k (linked (First b)) f in
    record {
      parent = field_same (λ r. r.parent) k (linked (First b)) (λ r. refl) f g (λ q. refl);
      first = λ i. field_set (λ r. r.first) k b (linked (First b)) (λ r. refl) f g (λ q. refl) i (λ same some. first refl);
      behind = field_same (λ r. r.behind) k (linked (First b)) (λ r. refl) f g (λ q. refl);
      before = field_same (λ r. r.before) k (linked (First b)) (λ r. refl) f g (λ q. refl);
      state = state_same k (linked (First b)) (λ r. refl) f g (λ q. refl);
      there = there_same k (linked (First b)) f g (λ q. refl);
    }
half k a b f false first behind =
    let g : ℕ → Option Record = changed a (linked (Behind b)) f in
    record {
      parent = field_same (λ r. r.parent) a (linked (Behind b)) (λ r. refl) f g (λ q. refl);
      first = field_same (λ r. r.first) a (linked (Behind b)) (λ r. refl) f g (λ q. refl);
      behind = λ i. field_set (λ r. r.behind) a b (linked (Behind b)) (λ r. refl) f g (λ q. refl) i (λ same some. behind refl);
      before = field_same (λ r. r.before) a (linked (Behind b)) (λ r. refl) f g (λ q. refl);
      state = state_same a (linked (Behind b)) (λ r. refl) f g (λ q. refl);
      there = there_same a (linked (Behind b)) f g (λ q. refl);
    }

-- the next sibling of i, by the old one
behind_same : (k a b n i x y v w : ℕ) → n ≡ k → v ≡ cond (a == 0) (cond (n == k) b x) x → w ≡ cond (a == 0) y (cond (i == a) b y) → cond (i == 0) v w ≡ cond (i == a) b (cond (i == 0) x y)
behind_same k a b n i x y v w same first behind = grind (arith, nat_tests)

behind_other : (k a b n i x y v w : ℕ) → n ≢ k → (i ≡ a → a ≡ 0) → v ≡ cond (a == 0) (cond (n == k) b x) x → w ≡ cond (a == 0) y (cond (i == a) b y) → cond (i == 0) v w ≡ cond (i == 0) x y
behind_other k a b n i x y v w other apart first behind = grind (arith, nat_tests)

pub joins : (k a b : ℕ) (old new : List (ℕ × Record)) → Become (joined k a b) old new → (a ≡ 0 → is_some (record_in old k) ≡ true) → (a ≢ 0 → is_some (record_in old a) ≡ true) → (b ≢ 0 → is_some (record_in old b) ≡ true) → AreJoined k a b (record_in old) (record_in new)
unfolding parent_in behind_in before_in
joins k a b old new h first behind next =
    let f : ℕ → Option Record = record_in old in
    let g : ℕ → Option Record = record_in new in
    let m : ℕ → Option Record = put_behind k a b f in
    let j : IsHalf (a == 0) k a b f m = half k a b f (a == 0) (λ t. first (eqb-true a 0 t)) (λ t. behind (eqb-false a 0 t)) in
    let firsts : (i : ℕ) → first_of g i ≡ cond (a == 0) (cond (i == k) b (first_of f i)) (first_of f i) = (λ i. field_same (λ r. r.first) b (linked (Before a)) (λ r. refl) m g h.is i ∙ j.first i) in
    let behinds : (i : ℕ) → behind_of g i ≡ cond (a == 0) (behind_of f i) (cond (i == a) b (behind_of f i)) = (λ i. field_same (λ r. r.behind) b (linked (Before a)) (λ r. refl) m g h.is i ∙ j.behind i) in
    record {
      parent = λ i. field_same (λ r. r.parent) b (linked (Before a)) (λ r. refl) m g h.is i ∙ j.parent i;
      behind = λ n i same. behind_same k a b n i (first_of f n) (behind_of f i) (first_of g n) (behind_of g i) same (firsts n) (behinds i);
      else_behind = λ n i other apart. behind_other k a b n i (first_of f n) (behind_of f i) (first_of g n) (behind_of g i) other apart (firsts n) (behinds i);
      before = λ i some. field_set (λ r. r.before) b a (linked (Before a)) (λ r. refl) m g h.is i (λ same has. j.there b ∙ next (λ none. some (same ∙ none))) ∙ ap (cond (i == b) a) (j.before i);
      state = λ i. state_same b (linked (Before a)) (λ r. refl) m g h.is i ∙ j.state i;
    }

-- ---- one comes first

-- p comes before the first child b of k from now on, and nothing else changed
pub record IsFirstPut (k p b : ℕ) (f g : ℕ → Option Record) : Type 0 where
  pub parent : (i : ℕ) → parent_in g i ≡ cond (i == p) k (parent_in f i)
  pub behind : (n i : ℕ) → n ≡ k → behind_in g n i ≡ cond (i == p) b (cond (i == 0) p (behind_in f n i))
  pub else_behind : (n i : ℕ) → n ≢ k → i ≢ p → behind_in g n i ≡ behind_in f n i
  pub before : (i : ℕ) → i ≢ 0 → before_in g i ≡ cond (i == b) p (cond (i == p) 0 (before_in f i))
  pub state : (i : ℕ) → state_in g i ≡ state_in f i

put_same : (k p b n i x y v w : ℕ) → p ≢ 0 → n ≡ k → v ≡ cond (n == k) p x → w ≡ cond (i == p) b y → cond (i == 0) v w ≡ cond (i == p) b (cond (i == 0) p (cond (i == 0) x y))
put_same k p b n i x y v w some same first behind = grind (arith, nat_tests)

put_other : (k p b n i x y v w : ℕ) → n ≢ k → i ≢ p → v ≡ cond (n == k) p x → w ≡ cond (i == p) b y → cond (i == 0) v w ≡ cond (i == 0) x y
put_other k p b n i x y v w other apart first behind = grind (arith, nat_tests)

pub first_put : (k p b : ℕ) (old mid next new : List (ℕ × Record)) → p ≢ 0 → is_some (record_in old p) ≡ true → is_some (record_in old k) ≡ true → (b ≢ 0 → is_some (record_in old b) ≡ true)
    → Become (changed k (linked (First p))) old mid → Become (changed p (linked (Place k b))) mid next → Become (changed b (linked (Before p))) next new → IsFirstPut k p b (record_in old) (record_in new)
unfolding parent_in behind_in before_in
first_put k p b old mid next new some there parent behind x y z =
    let f : ℕ → Option Record = record_in old in
    let m : ℕ → Option Record = record_in mid in
    let o : ℕ → Option Record = record_in next in
    let g : ℕ → Option Record = record_in new in
    let still : (i : ℕ) → is_some (m i) ≡ is_some (f i) = there_same k (linked (First p)) f m x.is in
    let firsts : (i : ℕ) → first_of g i ≡ cond (i == k) p (first_of f i) = (λ i.
    field_same (λ r. r.first) b (linked (Before p)) (λ r. refl) o g z.is i ∙ field_same (λ r. r.first) p (linked (Place k b)) (λ r. refl) m o y.is i
    ∙ field_set (λ r. r.first) k p (linked (First p)) (λ r. refl) f m x.is i (λ same has. parent)) in
    let behinds : (i : ℕ) → behind_of g i ≡ cond (i == p) b (behind_of f i) = (λ i.
    field_same (λ r. r.behind) b (linked (Before p)) (λ r. refl) o g z.is i ∙ field_set (λ r. r.behind) p b (linked (Place k b)) (λ r. refl) m o y.is i (λ same has. still p ∙ there)
    ∙ ap (cond (i == p) b) (field_same (λ r. r.behind) k (linked (First p)) (λ r. refl) f m x.is i)) in
    let befores : (i : ℕ) → before_in o i ≡ cond (i == p) 0 (before_in f i) = (λ i.
    field_set (λ r. r.before) p 0 (linked (Place k b)) (λ r. refl) m o y.is i (λ same has. still p ∙ there) ∙ ap (cond (i == p) 0) (field_same (λ r. r.before) k (linked (First p)) (λ r. refl) f m x.is i)) in
    record {
      parent = λ i. field_same (λ r. r.parent) b (linked (Before p)) (λ r. refl) o g z.is i ∙ field_set (λ r. r.parent) p k (linked (Place k b)) (λ r. refl) m o y.is i (λ same has. still p ∙ there)
          ∙ ap (cond (i == p) k) (field_same (λ r. r.parent) k (linked (First p)) (λ r. refl) f m x.is i);
      behind = λ n i same. put_same k p b n i (first_of f n) (behind_of f i) (first_of g n) (behind_of g i) some same (firsts n) (behinds i);
      else_behind = λ n i other apart. put_other k p b n i (first_of f n) (behind_of f i) (first_of g n) (behind_of g i) other apart (firsts n) (behinds i);
      before = λ i far. field_set (λ r. r.before) b p (linked (Before p)) (λ r. refl) o g z.is i (λ same has. there_same p (linked (Place k b)) m o y.is b ∙ still b ∙ behind (λ none. far (same ∙ none))) ∙ ap (cond (i == b) p) (befores i);
      state = λ i. state_same b (linked (Before p)) (λ r. refl) o g z.is i ∙ state_same p (linked (Place k b)) (λ r. refl) m o y.is i ∙ state_same k (linked (First p)) (λ r. refl) f m x.is i;
    }

-- ---- a state is set

pub links_stay : (p : ℕ) (s : State) (old new : List (ℕ × Record)) → Become (changed p (in_state s)) old new → KeepLinks (record_in old) (record_in new)
unfolding parent_in behind_in before_in
links_stay p s old new h = record {
  parent = field_same (λ r. r.parent) p (in_state s) (λ r. refl) (record_in old) (record_in new) h.is;
  behind = λ n i. rw (field_same (λ r. r.first) p (in_state s) (λ r. refl) (record_in old) (record_in new) h.is n, field_same (λ r. r.behind) p (in_state s) (λ r. refl) (record_in old) (record_in new) h.is i) refl;
  before = field_same (λ r. r.before) p (in_state s) (λ r. refl) (record_in old) (record_in new) h.is;
}

-- what a record says that was read
pub read_was : (read : Record → ℕ) (f : ℕ → Option Record) (k b : ℕ) (o : Option Record) → b ≡ option_map_or read o 0 → o ≡ f k → b ≡ option_map_or read (f k) 0
read_was read f k b o is was = is ∙ ap (λ o. option_map_or read o 0) was

pub links_same : (f : ℕ → Option Record) → KeepLinks f f
links_same f = record { parent = λ i. refl; behind = λ k a. refl; before = λ b. refl }

-- where a life begins
pub state_set : (p : ℕ) (old new : List (ℕ × Record)) → Become (changed p (linked Begins)) old new → is_some (record_in old p) ≡ true → (i : ℕ) → state_in (record_in new) i ≡ cond (i == p) (Some newborn_state) (state_in (record_in old) i)
unfolding state_in
state_set p old new h there i = ap (option_map (λ (r : Record). r.state)) (h.is i) ∙ by (cases_eq p i)
  where
    here : (o : Option Record) → is_some o ≡ true → option_map (λ (r : Record). r.state) (option_map (linked Begins) o) ≡ Some newborn_state
    here None t = absurd (cc)
    here (Some r) t = refl

    by : (p ≡ i) ⊎ (p ≢ i) → option_map (λ (r : Record). r.state) (changed p (linked Begins) (record_in old) i) ≡ cond (i == p) (Some newborn_state) (option_map (λ (r : Record). r.state) (record_in old i))
    by (inl same) = rw (eq-eqb p i same, eq-eqb i p (sym same)) (here (record_in old i) (ap (λ q. is_some (record_in old q)) (sym same) ∙ there))
    by (inr apart) = rw (ne_eqb p i apart, ne_eqb i p (λ e. apart (sym e))) refl
