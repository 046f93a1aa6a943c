-- What keeps an index right, for any key.
use Rattle.std.proofs.Common.{◌≡◌, ◌≢◌, ℕ, ◌<◌, ◌≤◌, Bool, true, false, cond, not, ◌&&◌, ◌||◌, refl, ap, sym, ◌∙◌, arith, List, [], ◌∷◌, length, map, filter, Option, Some, None, IfSome, option_map, is_some, nat_lt, ◌==◌, inl, inr}
use Rattle.std.specs.List.{AllByRecursion, list_any}
use Rattle.std.specs.Option.{IsSome}
use Rattle.std.specs.Prelude.{option_and_then}
use Rattle.std.proofs.lemmas.Bool.{eqb-true, eq-eqb, ne_eqb, ltb-true, cases_order, and_parts, false_from_ne_true}
use Rattle.std.proofs.lemmas.Bool.Decides.{nat_tests}
use Rattle.std.proofs.lemmas.List.{length-map}
use Rattle.posix.specs.Common.{Process, IsRising, lookup, pids, members_in, above, first_pid, changed, inserted, removed, is_in}
use Rattle.posix.proofs.TableLemmas.{pid_looked, lookup_changed, rising_removed}
use Rattle.posix.proofs.MapLemmas.{lookup_map}
use Rattle.posix.proofs.MemberLemmas.{in_first, in_none}
use Rattle.posix.proofs.RegularLemmas.{lookup_inserted, lookup_kept, lookup_removed}
use Rattle.posix.proofs.PassingLemmas.{filter_at_most}
use Rattle.posix.proofs.WalkLemmas.{Passes, any_looked, some_looked, first_passes, none_passes_before, both_pass}
use Rattle.pidset.specs.declared.index.Pair.{Pair}
use Rattle.pidset.specs.Numbers.{Rises}
use Rattle.pidset.specs.Indexes.{ArePairsRekeyed, ArePairs, IndexView, IsNextPair, IsAt, IsMoved, IsKeyed, IsIndex, CanReplace, IsReplaced, IsRekeyed, IsIndexed, is_key, key_of, is_pair_in}
use Rattle.pidset.proofs.NumberLemmas.{AllAbove, in_above}
use Rattle.pidset.proofs.PairLemmas.{in_order, rises_in_order, key_in_order, length_in_order}

-- ---- one record

-- all records except that of p are the same
abbrev pub IsElsewhere : ℕ → List Process → List Process → Type 0
IsElsewhere p rs ts = (q : ℕ) → q ≢ p → lookup q ts ≡ lookup q rs

pub elsewhere_changed : (p : ℕ) (f : Process → Process) → ((r : Process) → (f r).pid ≡ r.pid) → (rs : List Process) → IsElsewhere p rs (changed p f rs)
elsewhere_changed p f k rs q ne = lookup_changed p q f k rs ∙ rw (ne_eqb q p ne) refl

pub elsewhere_inserted : (new : Process) (rs : List Process) → IsElsewhere new.pid rs (inserted new rs)
elsewhere_inserted new rs q ne = lookup_inserted new q rs ne

pub elsewhere_removed : (p : ℕ) (rs : List Process) → IsElsewhere p rs (removed p rs)
elsewhere_removed p rs q ne = lookup_kept p q rs ne

-- a removed process has no key
pub key_removed : (key : Process → Option ℕ) (p : ℕ) (rs : List Process) → key_of key p (removed p rs) ≡ None
key_removed key p rs = ap (option_and_then key) (lookup_removed p rs)

-- if all others keep their keys and p is moved to its key, the index stays right
pub keyed_moved : (p : ℕ) (keys now : ℕ → Option ℕ) (old new : List Pair) → ((q : ℕ) → q ≢ p → now q ≡ keys q) → IsKeyed keys old → IsMoved p (now p) old new → IsKeyed now new
keyed_moved p keys now old new same h moved q k = grind (arith, eqb-true, moved k q, h q k, same q)

-- the same if the record of p is changed, removed or inserted
pub index_moved : (key : Process → Option ℕ) (p : ℕ) (rs ts : List Process) (old new : List Pair) → IsElsewhere p rs ts → IsIndex key rs old → IsMoved p (key_of key p ts) old new → IsIndex key ts new
index_moved key p rs ts old new same h moved = keyed_moved p (λ q. key_of key q rs) (λ q. key_of key q ts) old new (λ q ne. ap (option_and_then key) (same q ne)) h moved

-- if the key of p stays, the pairs may stay
pub unmoved : (key : Process → Option ℕ) (p : ℕ) (rs : List Process) (pairs : List Pair) (k : Option ℕ) → IsIndex key rs pairs → k ≡ key_of key p rs → IsMoved p k pairs pairs
unmoved key p rs pairs o h same k q = grind (arith, eqb-true, h p k, same)

-- a process has at most one key
pub at_once : (p : ℕ) (a b : Option ℕ) (pairs : List Pair) → IsAt p a pairs → IsAt p b pairs → a ≡ b
at_once p None None pairs h i = refl
at_once p None (Some k) pairs h i = let no : false ≡ true = sym (h k) ∙ i k ∙ eq-eqb k k refl in absurd (cc)
at_once p (Some k) None pairs h i = let no : false ≡ true = sym (i k) ∙ h k ∙ eq-eqb k k refl in absurd (cc)
at_once p (Some k) (Some n) pairs h i = ap Some (sym (eqb-true n k (sym (i k) ∙ h k ∙ eq-eqb k k refl)))

-- ---- all records

-- if no key changes, the index stays right
pub index_same : (key : Process → Option ℕ) (rs ts : List Process) (pairs : List Pair) → ((q : ℕ) → key_of key q ts ≡ key_of key q rs) → IsIndex key rs pairs → IsIndex key ts pairs
index_same key rs ts pairs same h q k = h q k ∙ ap (is_key k) (sym (same q))

-- the same if each changed record has by one rule the key that it had by another
pub index_map : (key was : Process → Option ℕ) (g : Process → Process) → ((r : Process) → (g r).pid ≡ r.pid) → ((r : Process) → key (g r) ≡ was r) → (rs : List Process) (pairs : List Pair) → IsIndex was rs pairs → IsIndex key (map g rs) pairs
index_map key was g named is rs pairs h q k = h q k ∙ ap (is_key k) (sym (ap (option_and_then key) (lookup_map g named q rs) ∙ elim (lookup q rs) as (λ o. option_and_then key (option_map g o) ≡ option_and_then was o) [ None ↦ refl | Some r ↦ is r ]))

-- ---- a walk

-- the next process with a key in the index is the next one in the list that has it
pub next_pair : (key : Process → Option ℕ) (rs : List Process) (pairs : List Pair) (k n : ℕ) (next : Option ℕ) → IsRising rs → IsIndex key rs pairs → IsNextPair k n pairs next → next ≡ first_pid (above n (filter (λ r. is_key k (key r)) rs))
next_pair key rs pairs k n next up h i = same next (first_pid (filter passes rs)) i (first_passes passes rs up) (none_passes_before passes rs up) ∙ ap first_pid (sym (both_pass (λ r. is_key k (key r)) (λ r. nat_lt n r.pid) rs))
  where
    passes : Process → Bool
    passes r = is_key k (key r) && nat_lt n r.pid

    -- a process that passes is in the index
    inside : (p : ℕ) → Passes passes rs p → (n < p) × (is_pair_in k p pairs ≡ true)
    inside p t =
        let named = pid_looked p rs t.0 t.1 in
        let both = and_parts (is_key k (key t.0)) _ t.2 in
        let high = ltb-true _ _ both.1 in
        (omega (arith, named, high), h p k ∙ ap (λ (o : Option Process). is_key k (option_and_then key o)) t.1 ∙ both.0)

    -- a process above n in the index passes
    outside : (p : ℕ) → n < p → is_pair_in k p pairs ≡ true → Passes passes rs p
    outside p l e = elim (lookup p rs) as (λ o. lookup p rs ≡ o → Passes passes rs p) [
      | None ↦ λ t. let no : true ≡ false = sym e ∙ h p k ∙ ap (λ (o : Option Process). is_key k (option_and_then key o)) t in absurd (cc)
      | Some r ↦ λ t.
          let has : is_key k (key r) ≡ true = sym (h p k ∙ ap (λ (o : Option Process). is_key k (option_and_then key o)) t) ∙ e in
          let named = pid_looked p rs r t in
          let high : nat_lt n r.pid ≡ true = grind (arith, nat_tests, named, l) in
          (r, t, rw (has, high) refl)
    ] refl

    same : (a b : Option ℕ) → IsNextPair k n pairs a → IfSome b (Passes passes rs) → ((q : ℕ) (r : Process) → lookup q rs ≡ Some r → passes r ≡ true → IfSome b (λ m. q < m) → ⊥) → a ≡ b
    same None None i f g = refl
    same None (Some c) i f g = let t = inside c f in let no = i.least c t.1 t.0 in let both : None ≡ Some no.0 = no.1 in absurd (cc)
    same (Some m) None i f g = let t = i.there m refl in let k = outside m t.0 t.1 in absurd (g m k.0 k.1 k.2 tt)
    same (Some m) (Some c) i f g =
        let t = i.there m refl in
        let k = outside m t.0 t.1 in
        let j = inside c f in
        let l = i.least c j.1 j.0 in
        grind (arith, l.1, l.2, λ (low : m < c). g m k.0 k.1 k.2 low)

-- if the key is the group for those that pass a test, the processes with that key are the members that pass
pub members_passing : (t : Process → Bool) (key : Process → Option ℕ) → ((r : Process) → key r ≡ cond (t r) (Some r.group) None) → (group : ℕ) (rs : List Process) → filter (λ r. is_key group (key r)) rs ≡ filter t (members_in group rs)
unfolding members_in
members_passing t key is group [] = refl
members_passing t key is group (r ∷ rs) = rw (is r) (grind (arith, members_passing t key is group rs))

-- ---- how many there are

-- a rising list whose numbers are all in another rising list is no longer than that list
pub shorter : (ns ms : List ℕ) → Rises ns → Rises ms → ((q : ℕ) → is_in q ns ≡ true → is_in q ms ≡ true) → length ns ≤ length ms
unfolding Rises is_in
shorter [] ms a b h = omega arith
shorter (n ∷ ns) [] a b h = absurd (in_none n (h n (in_first n ns)))
shorter (n ∷ ns) (m ∷ ms) a b h = elim (cases_order n m) [
  | inl same ↦ let l = shorter ns ms a.1 b.1 (λ q e. grind (arith, eqb-true, in_above n q ns a.0 e, h q)) in omega (arith, l)
  | inr (inl low) ↦ absurd (grind (arith, eqb-true, in_above m n ms b.0, h n))
  | inr (inr high) ↦ let l = shorter (n ∷ ns) ms a b.1 (λ q e. grind (arith, eqb-true, in_above n q ns a.0, h q)) in omega (arith, l)
]

above_pids : (n : ℕ) (rs : List Process) → AllByRecursion (λ (r : Process). n < r.pid) rs → AllAbove n (pids rs)
above_pids n [] h = tt
above_pids n (r ∷ rs) h = (h.0, above_pids n rs h.1)

-- the IDs of processes in rising order rise
pub rises_pids : (rs : List Process) → IsRising rs → Rises (pids rs)
unfolding IsRising Rises
rises_pids [] u = tt
rises_pids (r ∷ rs) u = (above_pids r.pid rs u.0, rises_pids rs u.1)

-- the ID of an existing process is in the list of IDs
pub in_pids : (p : ℕ) (rs : List Process) (r : Process) → lookup p rs ≡ Some r → is_in p (pids rs) ≡ true
unfolding lookup is_in
in_pids p [] r e = absurd (cc)
in_pids p (x ∷ rs) r e = grind (arith, in_pids p rs r)

-- there are no more pairs than processes
pub few_pairs : (key : Process → Option ℕ) (rs : List Process) (pairs : List Pair) → IsRising rs → ArePairs pairs → IsIndex key rs pairs → length pairs ≤ length rs
few_pairs key rs pairs up once h =
    let long = length_in_order pairs once (λ k m p a b. one k m (key_of key p rs) (sym (h p k) ∙ a) (sym (h p m) ∙ b)) in
    let least = shorter (in_order pairs) (pids rs) (rises_in_order pairs) (rises_pids rs up) (λ p e. let k = key_in_order pairs p e in here p k.0 (lookup p rs) refl (sym (h p k.0) ∙ k.1)) in
    let all = length-map rs (λ (r : Process). r.pid) in
    omega (arith, long, least, all)
  where
    one : (k m : ℕ) (o : Option ℕ) → is_key k o ≡ true → is_key m o ≡ true → k ≡ m
    one k m None a b = absurd (cc)
    one k m (Some n) a b = sym (eqb-true n k a) ∙ eqb-true n m b

    here : (p k : ℕ) (o : Option Process) → lookup p rs ≡ o → is_key k (option_and_then key o) ≡ true → is_in p (pids rs) ≡ true
    here p k None e t = absurd (cc)
    here p k (Some r) e t = in_pids p rs r e

-- ---- an index with its room

-- a removal makes the list shorter
shorter_removed : (p : ℕ) (rs : List Process) → IsSome (lookup p rs) → length (removed p rs) < length rs
unfolding lookup removed
shorter_removed p [] h = absurd (cc)
shorter_removed p (r ∷ rs) h = grind (arith, shorter_removed p rs, filter_at_most (λ (r : Process). not (r.pid == p)) rs)

-- there are fewer pairs than processes if p has no key
few_without : (key : Process → Option ℕ) (p : ℕ) (rs : List Process) (pairs : List Pair) → IsRising rs → ArePairs pairs → IsIndex key rs pairs → key_of key p rs ≡ None → IsSome (lookup p rs) → length pairs < length rs
few_without key p rs pairs up once h none here =
    let same : (q : ℕ) → key_of key q (removed p rs) ≡ key_of key q rs = λ q. grind (arith, key_removed key p rs, elsewhere_removed p rs q, none) in
    let few = few_pairs key (removed p rs) pairs (rising_removed p rs up) once (index_same key rs (removed p rs) pairs same h) in
    let less = shorter_removed p rs here in
    omega (arith, few, less)

pub can_replace : (key : Process → Option ℕ) (p : ℕ) (rs : List Process) (set : IndexView) → IsRising rs → IsIndexed key rs set → (lookup p rs ≡ None → length rs < set.room) → CanReplace p (key_of key p rs) set
can_replace key p rs set up h free = record { at = h.index p; room = λ none. here none (lookup p rs) refl }
  where
    here : key_of key p rs ≡ None → (o : Option Process) → lookup p rs ≡ o → length set.pairs < set.room
    here none None e = let few = few_pairs key rs set.pairs up h.once h.index in let room = free e in omega (arith, few, room)
    here none (Some r) e = let few = few_without key p rs set.pairs up h.once h.index none (rw e refl) in let room = h.room in omega (arith, few, room)

pub indexed_moved : (key : Process → Option ℕ) (p : ℕ) (rs ts : List Process) (old new : IndexView) → IsElsewhere p rs ts → length ts ≤ old.room → IsIndexed key rs old → IsReplaced p (key_of key p ts) old new → IsIndexed key ts new
indexed_moved key p rs ts old new same fits h k = record { index = index_moved key p rs ts old.pairs new.pairs same h.index k.moved; once = k.once; room = let e = k.room in omega (arith, e, fits) }

pub indexed_map : (key was : Process → Option ℕ) (g : Process → Process) → ((r : Process) → (g r).pid ≡ r.pid) → ((r : Process) → key (g r) ≡ was r) → (rs : List Process) (set : IndexView) → IsIndexed was rs set → IsIndexed key (map g rs) set
indexed_map key was g named is rs set h = record { index = index_map key was g named is rs set.pairs h.index; once = h.once; room = let long = length-map rs g in let room = h.room in omega (arith, long, room) }

-- the new key after all processes with one key get another
abbrev pub rekeyed : ℕ → ℕ → Option ℕ → Option ℕ
rekeyed from to None = None
rekeyed from to (Some k) = cond (k == from) (Some to) (Some k)

pub index_rekeyed : (key : Process → Option ℕ) (from to : ℕ) → from ≢ to → (rs : List Process) (old new : List Pair) → IsIndex key rs old → ArePairsRekeyed from to old new → IsIndex (λ r. rekeyed from to (key r)) rs new
index_rekeyed key from to ne rs old new h is q k = is k q ∙ rw (h q k, h q from) (told k (key_of key q rs)) ∙ ap (is_key k) (elim (lookup q rs) as (λ o. rekeyed from to (option_and_then key o) ≡ option_and_then (λ r. rekeyed from to (key r)) o) [ None ↦ refl | Some r ↦ refl ])
  where
    told : (k : ℕ) (o : Option ℕ) → (not (k == from) && (is_key k o || k == to && is_key from o)) ≡ is_key k (rekeyed from to o)
    told k None = grind arith
    told k (Some n) = grind (arith, eqb-true, eq-eqb, ne_eqb, ne)

pub indexed_rekeyed : (key : Process → Option ℕ) (from to : ℕ) → from ≢ to → (rs : List Process) (old new : IndexView) → IsIndexed key rs old → IsRekeyed from to old new → IsIndexed (λ r. rekeyed from to (key r)) rs new
indexed_rekeyed key from to ne rs old new h is = record { index = index_rekeyed key from to ne rs old.pairs new.pairs h.index is.pairs; once = is.once; room = let room = h.room in let e = is.room in omega (arith, room, e) }

-- if no process has the old key, the index stays as it is
pub rekeyed_none : (from to : ℕ) (set : IndexView) → ArePairs set.pairs → ((p : ℕ) → is_pair_in from p set.pairs ≡ false) → IsRekeyed from to set set
rekeyed_none from to set once none = record {
  pairs = λ k p. grind (arith, eqb-true, none p);
  once = once;
  room = refl;
}

-- the index at the start
pub indexed_none : (key : Process → Option ℕ) (set : IndexView) → set.pairs ≡ [] → ArePairs set.pairs → IsIndexed key [] set
unfolding lookup is_pair_in
indexed_none key set none once = record { index = λ p k. ap (is_pair_in k p) none; once = once; room = omega arith }

-- the index is empty exactly if no process has a key
pub index_empty : (key : Process → Option ℕ) (t : Process → Bool) → ((r : Process) → is_some (key r) ≡ t r) → (rs : List Process) (pairs : List Pair) → IsRising rs → IsIndex key rs pairs → (length pairs == 0) ≡ not (list_any t rs)
unfolding is_pair_in
index_empty key t has rs [] up h = ap not (sym (false_from_ne_true _ (λ e. let i = some_looked t rs up e in none (key i.0) (has i.0 ∙ i.2) (λ k. sym (h i.0.pid k ∙ ap (λ (o : Option Process). is_key k (option_and_then key o)) i.1)))))
  where
    none : (o : Option ℕ) → is_some o ≡ true → ((k : ℕ) → is_key k o ≡ false) → ⊥
    none None e f = absurd (cc)
    none (Some k) e f = let no : true ≡ false = sym (eq-eqb k k refl) ∙ f k in absurd (cc)
index_empty key t has rs (x ∷ xs) up h =
    let here : is_key x.key (key_of key x.pid rs) ≡ true = sym (h x.pid x.key) ∙ rw (eq-eqb x.key x.key refl, eq-eqb x.pid x.pid refl) refl in
    ne_eqb (length (x ∷ xs)) 0 (λ e. omega (arith, e)) ∙ ap not (sym (there (lookup x.pid rs) refl here))
  where
    some : (k : ℕ) (o : Option ℕ) → is_key k o ≡ true → is_some o ≡ true
    some k None f = absurd (cc)
    some k (Some n) f = refl

    there : (o : Option Process) → lookup x.pid rs ≡ o → is_key x.key (option_and_then key o) ≡ true → list_any t rs ≡ true
    there None e f = absurd (cc)
    there (Some r) e f = any_looked t x.pid rs r e (sym (has r) ∙ some x.key (key r) f)
