-- The recheck list.
use Rattle.std.proofs.Common.{◌≡◌, ◌≢◌, ℕ, ◌+◌, ◌<◌, ◌≤◌, true, false, cond, not, ◌||◌, ◌&&◌, refl, ap, sym, ◌∙◌, arith, subst, List, [], ◌∷◌, ◌++◌, length, Option, Some, None, ◌==◌, slice_get, ◌⊎◌, ⊎_elim, inl, inr, Bool, map, rules}
use Rattle.std.specs.List.{AllByRecursion}
use Rattle.std.specs.Option.{IfSome, IsSome}
use Rattle.std.proofs.lemmas.Bool.{eq-eqb, or_left, or_right, or_cases, both_ways, false_from_ne_true}
use Rattle.std.proofs.lemmas.Option.{IfSome_then, same_Some}
use Rattle.std.proofs.lemmas.List.{length-map}
use Rattle.posix.specs.Common.{Process, Signals, first_process, IsNext, lookup, at, changed, inserted, removed, pids, World, State, boot, process, is_in, change, lose_place, without, IsRegular, Covers, can_act, wakes, refreshed, clear_foregrounds, is_reader, Console}
use Rattle.posix.proofs.TableLemmas.{pid_looked, length_inserted, length_removed}
use Rattle.posix.proofs.MapLemmas.{at_pid, some_map}
use Rattle.posix.proofs.RegularLemmas.{lookup_new, some_inserted, lookup_kept, lookup_removed}
use Rattle.posix.proofs.TouchLemmas.{Touches, goes_on, touches_born, touches_none, touches_unseen, touches_removed, Untouched}
use Rattle.posix.proofs.MemberLemmas.{each, in_append, in_none, in_one, is_other, others_stay}
use Rattle.posix.proofs.OrderLemmas.{without_absent}
use Rattle.posix.proofs.UnseenLemmas.{covers_none}
use Rattle.posix.proofs.WakeLemmas.{first_has_place}
use Rattle.pidset.specs.Indexes.{is_pair_in}
use Rattle.pidset.specs.Lists.{ListsView}
use Rattle.pidset.specs.Numbers.{PidSetView, Rises, with_number, numbers_above}
use Rattle.pidset.proofs.NumberLemmas.{IsLeastAbove, all_in, in_with, rises_with, rises_without, next_is, next_some}
use Rattle.pidset.proofs.IndexLemmas.{shorter, rises_pids, in_pids}
use Rattle.posix.proofs.ReaderLemmas.{touches_cleared}
use Rattle.life.specs.Machines.{IsListed, IsWatched, IsWaiting}
use Rattle.life.specs.Rechecks.{with_numbers, rechecking, rechecking_by_signals, without_gone}
use Rattle.life.proofs.SignalLemmas.{with_signals, unseen_signals, touches_signals}
use Rattle.jobs.specs.IndexedTables.{takes_signal}
use Rattle.posix.proofs.ResultLemmas.{there}
use Rattle.pidset.proofs.WalkLemmas.{above_rest, all_above}

-- what a set is, by its parts
pub pids_of : {a b : PidSetView} → a ≡ b → a.pids ≡ b.pids
pids_of e = ap (λ (v : PidSetView). v.pids) e

pub room_of : {a b : PidSetView} → a ≡ b → a.room ≡ b.room
room_of e = ap (λ (v : PidSetView). v.room) e

-- ---- numbers inserted

pub in_numbers : (q : ℕ) (ps ns : List ℕ) → is_in q (with_numbers ps ns) ≡ (is_in q ps || is_in q ns)
unfolding with_numbers is_in
in_numbers q [] ns = refl
in_numbers q (p ∷ ps) ns = grind (arith, in_with q p (with_numbers ps ns), in_numbers q ps ns)

rises_numbers : (ps ns : List ℕ) → Rises ns → Rises (with_numbers ps ns)
unfolding with_numbers
rises_numbers [] ns h = h
rises_numbers (p ∷ ps) ns h = rises_with p (with_numbers ps ns) (rises_numbers ps ns h)

-- ---- blocked readers

-- of a state that was changed: its world and its consoles stay, and no untouched process enters the run queue
abbrev pub IsBeside : State → State → List ℕ → Type 0
IsBeside s t touched = (t.world ≡ s.world) × (t.consoles ≡ s.consoles) × ((q : ℕ) → is_in q touched ≡ false → is_in q s.order ≡ false → is_in q t.order ≡ false)

-- a blocked reader that is not touched was one before
reads_still : (session : ℕ) (old new : Process) → new.blocked ≡ old.blocked → new.session ≡ old.session → new.life ≡ old.life → is_reader session new ≡ is_reader session old
reads_still session old new b n l = rw (b, n, l) refl

-- each of these that exists is on the recheck list, or in the run queue both before and after
abbrev pub AreAsked : State → State → List ℕ → List ℕ → Type 0
AreAsked s t touched to_recheck = (q : ℕ) → IsSome (process t q) → is_in q touched ≡ true → (is_in q to_recheck ≡ true) ⊎ ((is_in q s.order ≡ true) × (is_in q t.order ≡ true))

-- no process is touched
pub none_asked : (s t : State) (to_recheck : List ℕ) → AreAsked s t [] to_recheck
none_asked s t to_recheck q here e = absurd (in_none q e)

-- exactly the blocked readers stay known if those that are touched are rechecked
pub watched_on : {readers : ListsView} (s t : State) (before after touched : List ℕ) → IsWatched s before readers → Touches s t touched → IsBeside s t touched
    → AreAsked s t touched after
    → ((q : ℕ) → IsSome (process t q) → is_in q before ≡ true → is_in q after ≡ true)
    → ((q : ℕ) → is_in q before ≡ true → IsSome (process s q))
    → ((session q : ℕ) → is_pair_in session q readers.pairs ≡ true → IsSome (process s q) → IsSome (process t q)) → IsWatched t after readers
watched_on s t before after touched h touches same gets keeps theirs stay = record {
  known = λ session p r found visits out unasked.
      let u = others p r found unasked (λ was now. both_ways _ out now) in
      h.known session p u.old u.found (sym (reads_still session u.old r u.blocked u.session u.life) ∙ visits) (u.placed out) (unasked_before p (rw found refl) unasked);
  waits = λ session p on unasked. elim (is_in p before) as (λ b. is_in p before ≡ b → IsWaiting t session p) [
    | true ↦ λ e. absurd (both_ways _ (unasked_before p (stay session p on (theirs p e)) unasked) e)
    | false ↦ λ e.
        let w = h.waits session p on e in
        let r = there (process t p) (stay session p on (rw w.found refl)) in
        let u = others p r.what r.found unasked (λ was now. both_ways _ w.out was) in
        let was = ap (is_reader session) (same_Some _ _ (sym u.found ∙ w.found)) in
        let reads = reads_still session u.old r.what u.blocked u.session u.life ∙ was ∙ w.reads in
        let out = same.2 p (untouched p (rw r.found refl) unasked (λ was now. both_ways _ w.out was)) w.out in
        search (rules, arith)
  ] refl;
}
  where
    untouched : (p : ℕ) → IsSome (process t p) → is_in p after ≡ false → (is_in p s.order ≡ true → is_in p t.order ≡ true → ⊥) → is_in p touched ≡ false
    untouched p here unasked out = false_from_ne_true _ (λ e. ⊎_elim (both_ways _ unasked) (λ placed. out placed.0 placed.1) (gets p here e))

    others : (p : ℕ) (r : Process) → process t p ≡ Some r → is_in p after ≡ false → (is_in p s.order ≡ true → is_in p t.order ≡ true → ⊥) → Untouched s t p r
    others p r found unasked out = touches p r found (untouched p (rw found refl) unasked out)

    unasked_before : (p : ℕ) → IsSome (process t p) → is_in p after ≡ false → is_in p before ≡ false
    unasked_before p here unasked = false_from_ne_true _ (λ e. both_ways _ unasked (keeps p here e))

-- so if there is memory for more
pub watched_roomier : {readers sets : ListsView} (s : State) (to_recheck : List ℕ) → sets.pairs ≡ readers.pairs → IsWatched s to_recheck readers → IsWatched s to_recheck sets
watched_roomier s to_recheck same w = record {
  known = λ session p r found visits out unasked. ap (is_pair_in session p) same ∙ w.known session p r found visits out unasked;
  waits = λ session p on unasked. w.waits session p (sym (ap (is_pair_in session p) same) ∙ on) unasked;
}

-- and whatever the consoles are
pub watched_alike : {readers : ListsView} (s : State) (cs : List Console) (to_recheck : List ℕ) → IsWatched s to_recheck readers → IsWatched (record s { consoles = cs }) to_recheck readers
watched_alike s cs to_recheck w = record {
  known = w.known;
  waits = λ session p on unasked. let it = w.waits session p on unasked in record { reader = it.reader; found = it.found; reads = it.reads; out = it.out };
}

-- ---- there is room for each existing process

pub room_for : (s : State) (ns : List ℕ) (room : ℕ) → IsRegular s → Rises ns → ((q : ℕ) → is_in q ns ≡ true → IsSome (process s q)) → length s.processes < room → length ns < room
room_for s ns room i up theirs enough =
    let most = shorter ns (pids s.processes) up (rises_pids s.processes i.rising) (λ q e. let r = there (process s q) (theirs q e) in in_pids q s.processes r.what r.found) in
    omega (arith, most, length-map s.processes (λ (r : Process). r.pid), enough)

pub has_room : {readers : ListsView} (s : State) (l : PidSetView) → IsRegular s → IsListed s l readers → length l.pids < l.room
has_room s l i h = room_for s l.pids l.room i h.rising h.there h.room

-- a list with more existing processes is one, too
pub listed_more : {readers : ListsView} (s : State) (l m : PidSetView) (ps : List ℕ) → IsListed s l readers → AllByRecursion (λ q. IsSome (process s q)) ps → m.pids ≡ with_numbers ps l.pids → m.room ≡ l.room → IsListed s m readers
listed_more {readers = readers} s l m ps h theirs is same = record {
  covers = λ q r e w. ap (is_in q) is ∙ in_numbers q ps l.pids ∙ or_right _ _ (h.covers q r e w);
  rising = subst Rises (sym is) (rises_numbers ps l.pids h.rising);
  there = λ q e. ⊎_elim (each (λ q. IsSome (process s q)) ps theirs q) (h.there q) (or_cases _ _ (sym (ap (is_in q) is ∙ in_numbers q ps l.pids) ∙ e));
  room = let room = h.room in omega (arith, room, same);
  watched = watched_on s s l.pids m.pids [] h.watched (touches_none s s refl refl refl) (refl, refl, λ q u e. e) (none_asked s s m.pids) (λ q t e. ap (is_in q) is ∙ in_numbers q ps l.pids ∙ or_right _ _ e) h.there (λ k q on e. e);
}

-- it stays one if there is more room
pub listed_roomier : {readers sets : ListsView} (s : State) (l m : PidSetView) → IsListed s l readers → m.pids ≡ l.pids → l.room ≤ m.room → sets.pairs ≡ readers.pairs → IsListed s m sets
listed_roomier {sets = sets} s l m h is more same = record {
  covers = subst (Covers s) (sym is) h.covers;
  rising = subst Rises (sym is) h.rising;
  there = λ q e. h.there q (sym (ap (is_in q) is) ∙ e);
  room = omega (arith, h.room, more);
  watched = subst (λ ns. IsWatched s ns sets) (sym is) (watched_roomier s l.pids same h.watched);
}

-- so if one more is rechecked that may be runnable
pub listed_where : {readers : ListsView} (s : State) (l m : PidSetView) (p : ℕ) (acts : Bool) → IsListed s l readers → IsSome (process s p) → m.pids ≡ cond acts (rechecking p s.order l.pids) l.pids → m.room ≡ l.room → IsListed s m readers
unfolding with_numbers
listed_where {readers = readers} s l m p true h there is same = elim (is_in p s.order) as (λ b. m.pids ≡ cond b l.pids (with_number p l.pids) → IsListed s m readers) [ true ↦ λ e. listed_more s l m [] h tt e same | false ↦ λ e. listed_more s l m (p ∷ []) h (there, tt) e same ] is
listed_where s l m p false h there is same = listed_more s l m [] h tt is same

-- so there is room for one more after these
pub room_after : {readers : ListsView} (s : State) (l m : PidSetView) (ps : List ℕ) → IsRegular s → IsListed s l readers → AllByRecursion (λ q. IsSome (process s q)) ps → m.pids ≡ with_numbers ps l.pids → m.room ≡ l.room → length m.pids < m.room
room_after s l m ps i h theirs is same = has_room s m i (listed_more s l m ps h theirs is same)

-- a process that is rechecked if it is not in the run queue is then on the list, or in the run queue
asked_or_placed : (p : ℕ) (order ns : List ℕ) → (is_in p (rechecking p order ns) ≡ true) ⊎ (is_in p order ≡ true)
asked_or_placed p order ns = elim (is_in p order) as (λ b. is_in p order ≡ b → (is_in p (cond b ns (with_number p ns)) ≡ true) ⊎ (b ≡ true)) [ true ↦ λ e. inr refl | false ↦ λ e. inl (in_with p p ns ∙ or_left _ _ (eq-eqb p p refl)) ] refl

-- and others stay on it
asked_still : (q p : ℕ) (order ns : List ℕ) → is_in q ns ≡ true → is_in q (rechecking p order ns) ≡ true
asked_still q p order ns on = elim (is_in p order) as (λ b. is_in q (cond b ns (with_number p ns)) ≡ true) [ true ↦ on | false ↦ in_with q p ns ∙ or_right (p == q) _ on ]

-- ---- the list after a change of the state

-- a process that has to enter the run queue is not in it
awake_out : (s : State) (p : ℕ) (r : Process) → process s p ≡ Some r → wakes s r ≡ true → is_in p s.order ≡ true → ⊥
awake_out s p r found w placed =
    let has : is_in r.pid s.order ≡ true = ap (λ n. is_in n s.order) (pid_looked p s.processes r found) ∙ placed in
    let none : false ≡ true = sym (ap (λ b. not b && can_act s r) has) ∙ w in
    absurd (cc)

pub listed_on : {readers : ListsView} (s t : State) (before after : PidSetView) (touched : List ℕ) → IsListed s before readers → Touches s t touched → IsBeside s t touched → Rises after.pids → after.room ≡ before.room → length t.processes < before.room
    → ((q : ℕ) → is_in q after.pids ≡ true → IsSome (process t q))
    → AreAsked s t touched after.pids
    → ((q : ℕ) → IsSome (process t q) → is_in q before.pids ≡ true → is_in q after.pids ≡ true)
    → ((session q : ℕ) → is_pair_in session q readers.pairs ≡ true → IsSome (process s q) → IsSome (process t q)) → IsListed t after readers
listed_on {readers = readers} s t before after touched h touches most rises same fits theirs gets keeps stay = record {
  covers = λ q r found w. ⊎_elim (λ k. ⊎_elim (λ on. on) (λ placed. absurd (awake_out t q r found w placed.1)) (gets q (rw found refl) k)) (λ on. on) (or_cases _ _ (sym (in_append q touched after.pids) ∙ covers q r found w));
  rising = rises;
  there = theirs;
  room = omega (arith, fits, same);
  watched = watched_on s t before.pids after.pids touched h.watched touches most gets keeps h.there stay;
}
  where
    covers : Covers t (touched ++ after.pids)
    covers = goes_on s t before.pids (touched ++ after.pids) touched h.covers touches (λ q here e. in_append q touched after.pids ∙ or_left _ _ e) (λ q here e. in_append q touched after.pids ∙ or_right (is_in q touched) _ (keeps q here e))

-- if it is the same list
pub listed_same : {readers : ListsView} (s t : State) (l : PidSetView) (touched : List ℕ) → IsListed s l readers → Touches s t touched → IsBeside s t touched → length t.processes ≡ length s.processes → ((q : ℕ) → IsSome (process s q) → IsSome (process t q))
    → AreAsked s t touched l.pids → IsListed t l readers
listed_same s t l touched h touches most many stay gets =
    listed_on s t l l touched h touches most h.rising refl (omega (arith, many, h.room)) (λ q e. stay q (h.there q e)) gets (λ q theirs e. e) (λ k q on e. stay q e)

-- if these were inserted
pub listed_with : {readers : ListsView} (s t : State) (before after : PidSetView) (ps touched : List ℕ) → IsListed s before readers → Touches s t touched → IsBeside s t touched → length t.processes < before.room → ((q : ℕ) → IsSome (process s q) → IsSome (process t q))
    → AllByRecursion (λ q. IsSome (process t q)) ps → AreAsked s t touched ps → after.pids ≡ with_numbers ps before.pids → after.room ≡ before.room → IsListed t after readers
listed_with s t before after ps touched h touches most fits stay theirs among is same =
    listed_on s t before after touched h touches most (subst Rises (sym is) (rises_numbers ps before.pids h.rising)) same fits
    (λ q e. ⊎_elim (each (λ q. IsSome (process t q)) ps theirs q) (λ k. stay q (h.there q k)) (or_cases _ _ (sym (inside q) ∙ e)))
    (λ q there e. ⊎_elim (λ k. inl (inside q ∙ or_left _ _ k)) (λ placed. inr placed) (among q there e))
    (λ q there e. inside q ∙ or_right _ _ e) (λ k q on e. stay q e)
  where
    inside : (q : ℕ) → is_in q after.pids ≡ (is_in q ps || is_in q before.pids)
    inside q = ap (is_in q) is ∙ in_numbers q ps before.pids

-- one record that changed and keeps its number
pub listed_change : {readers : ListsView} (s : State) (p : ℕ) (f : Process → Process) (before after : PidSetView) → IsListed s before readers → ((r : Process) → (f r).pid ≡ r.pid) → Touches s (change s p f) (p ∷ []) → IsSome (process s p)
    → after.pids ≡ rechecking p s.order before.pids → after.room ≡ before.room → IsListed (change s p f) after readers
unfolding with_numbers changed
listed_change {readers = readers} s p f before after h keeps touches here is same =
    let stay = some_map (at p f) (at_pid p f keeps) in
    let fits : length (map (at p f) s.processes) < before.room = omega (arith, length-map s.processes (at p f), h.room) in
    elim (is_in p s.order) as (λ b. is_in p s.order ≡ b → after.pids ≡ cond b before.pids (with_number p before.pids) → IsListed (change s p f) after readers) [
      | true ↦ λ placed e. listed_with s (change s p f) before after [] (p ∷ []) h touches (refl, refl, λ q u e. e) fits (λ q k. stay q s.processes k) tt (λ q theirs k. let both = subst (λ n. is_in n s.order ≡ true) (sym (in_one q p k)) placed in inr (both, both)) e same
      | false ↦ λ out e. listed_with s (change s p f) before after (p ∷ []) (p ∷ []) h touches (refl, refl, λ q u e. e) fits (λ q k. stay q s.processes k) (stay p s.processes here, tt) (λ q theirs k. inl k) e same
    ] refl is

-- if the signals of a process changed, and its alarm
pub listed_signals : {readers : ListsView} (s : State) (p : ℕ) (g : Signals) (a : Option ℕ) (before after : PidSetView) → IsListed s before readers → IsSome (process s p)
    → after.pids ≡ rechecking_by_signals (process (change s p (with_signals g a)) p) s.order before.pids → after.room ≡ before.room → IsListed (change s p (with_signals g a)) after readers
unfolding with_numbers changed
listed_signals {readers = readers} s p g a before after h here is same =
    let t = change s p (with_signals g a) in
    let stay = some_map (at p (with_signals g a)) (at_pid p (with_signals g a) (λ r. refl)) in
    let it = there (process t p) (stay p s.processes here) in
    let named = pid_looked p t.processes it.what it.found in
    elim (takes_signal it.what) as (λ b. takes_signal it.what ≡ b → after.pids ≡ cond b (rechecking it.what.pid s.order before.pids) before.pids → IsListed t after readers) [
      | true ↦ λ k e. listed_change s p (with_signals g a) before after h (λ r. refl) (touches_unseen s p (with_signals g a) (unseen_signals g a)) here (e ∙ ap (λ n. rechecking n s.order before.pids) named) same
      | false ↦ λ k e. listed_with s t before after [] [] h (touches_signals s p g a (λ r found. ap takes_signal (same_Some _ _ (sym found ∙ it.found)) ∙ k)) (refl, refl, λ q u e. e) (omega (arith, length-map s.processes (at p (with_signals g a)), h.room)) (λ q k. stay q s.processes k) tt (none_asked s t []) e same
    ] refl (is ∙ ap (λ o. rechecking_by_signals o s.order before.pids) it.found)

-- ---- the process that is rechecked next

-- no number is between one and the next above it
pub none_between : (n q : ℕ) (ns : List ℕ) (next : Option ℕ) → Rises ns → next ≡ slice_get (numbers_above n ns) 0 → is_in q ns ≡ true → n < q → IfSome next (λ m. q < m) → ⊥
none_between n q ns next up is on low before = by next (subst (λ (o : Option ℕ). IfSome o (IsLeastAbove n ns)) (sym is) (next_is n ns up)) (subst IsSome (sym is) (next_some n q ns up on low)) before
  where
    by : (o : Option ℕ) → IfSome o (IsLeastAbove n ns) → IsSome o → IfSome o (λ m. q < m) → ⊥
    by None k some before = absurd (cc)
    by (Some m) k some before = let l = k.least q on low in omega (arith, l, before)

-- the next of those that are known, if all are known that pass the test
pub next_known : (test : Process → Bool) (rs : List Process) (ns : List ℕ) (n : ℕ) (next : Option ℕ) → Rises ns → ((q : ℕ) (r : Process) → lookup q rs ≡ Some r → test r ≡ true → is_in q ns ≡ true)
    → ((q : ℕ) → is_in q ns ≡ true → IsSome (lookup q rs)) → next ≡ slice_get (numbers_above n ns) 0 → IsNext test n rs next
next_known test rs ns n next up covers theirs is =
    let least : IfSome next (IsLeastAbove n ns) = subst (λ (o : Option ℕ). IfSome o (IsLeastAbove n ns)) (sym is) (next_is n ns up) in
    record {
      there = IfSome_then next least (λ m k. theirs m k.there);
      above = IfSome_then next least (λ m k. k.above);
      between = λ q r e low before. false_from_ne_true _ (λ w. none_between n q ns next up is (covers q r e w) low before);
    }

-- the first of all that are on the list
pub first_rechecked : {readers : ListsView} (s : State) (l : PidSetView) (next : Option ℕ) → IsRegular s → IsListed s l readers → next ≡ slice_get l.pids 0 → IsNext (wakes s) 0 s.processes next
first_rechecked s l next i h is =
    let numbered : (q : ℕ) → is_in q l.pids ≡ true → 0 < q = λ q e. let it = there _ (h.there q e) in omega (arith, (i.bounded q it.what it.found).least, pid_looked q s.processes it.what it.found) in
    next_known (wakes s) s.processes l.pids 0 next h.rising h.covers h.there (is ∙ ap (λ ns. slice_get ns 0) (sym (all_above 0 l.pids (all_in (λ q. 0 < q) l.pids numbered))))

-- the one after the first is the next above it
pub second_is : (ns : List ℕ) (p : ℕ) → Rises ns → slice_get ns 0 ≡ Some p → slice_get (numbers_above p ns) 0 ≡ slice_get ns 1
second_is [] p up first = refl
second_is (n ∷ ns) p up first =
    let same : n ≡ p = cc in
    ap (λ q. slice_get (numbers_above q (n ∷ ns)) 0) (sym same) ∙ ap (λ l. slice_get l 0) (above_rest [] n ns up)

-- a process that was rechecked, and need not enter the run queue, is taken off, if the blocked readers stay known
pub listed_rechecked : {readers : ListsView} (s : State) (p : ℕ) (before after : PidSetView) (sets : ListsView) → IsListed s before readers → ((r : Process) → process s p ≡ Some r → wakes s r ≡ false)
    → after.pids ≡ without p before.pids → after.room ≡ before.room → IsWatched s after.pids sets → IsListed s after sets
listed_rechecked s p before after sets h asleep is same watched = record {
  covers = λ q r e w. ap (is_in q) is ∙ others_stay p q before.pids (λ k. both_ways (wakes s r) (asleep r (subst (λ n. process s n ≡ Some r) k e)) w) ∙ h.covers q r e w;
  rising = subst Rises (sym is) (rises_without p before.pids h.rising);
  there = λ q e. h.there q (is_other p q before.pids (sym (ap (is_in q) is) ∙ e)).among;
  room = let room = h.room in omega (arith, room, same);
  watched = watched;
}

-- ---- a record that is removed

pub listed_removed : {readers : ListsView} (s : State) (c last dropped : ℕ) (it : Process) (before after : PidSetView) → IsRegular s → IsListed s before readers → lookup c s.processes ≡ Some it → IsSome (process s it.parent)
    → after.pids ≡ without_gone c it.parent s.order before.pids → after.room ≡ before.room → ((session : ℕ) → is_pair_in session c readers.pairs ≡ false) → IsListed (record s { processes = removed c s.processes; last_pid = last; dropped = dropped }) after readers
listed_removed {readers = readers} s c last dropped it before after i h found parent is same unread =
    let t = record s { processes = removed c s.processes; last_pid = last; dropped = dropped } in
    listed_on s t before after (it.parent ∷ []) h (touches_removed s c it.parent last dropped i.rising (rw found refl)) (refl, refl, λ q u e. e)
    (subst Rises (sym is) (rises_without c asked with.rising)) same (omega (arith, length_removed c it s.processes i.rising found, h.room))
    (λ q e. let k = is_other c q asked (sym (ap (is_in q) is) ∙ e) in rw (lookup_kept c q s.processes k.apart) (with.there q k.among))
    (λ q theirs e.
    let named = sym (in_one q it.parent e) in
    ⊎_elim (λ on. inl (stays q theirs (subst (λ n. is_in n asked ≡ true) named on))) (λ placed. let both = subst (λ n. is_in n s.order ≡ true) named placed in inr (both, both)) (asked_or_placed it.parent s.order before.pids))
    (λ q theirs e. stays q theirs (asked_still q it.parent s.order before.pids e))
    (λ k q on e. rw (lookup_kept c q s.processes (λ same. both_ways _ (unread k) (subst (λ n. is_pair_in k n readers.pairs ≡ true) same on))) e)
  where
    asked : List ℕ
    asked = rechecking it.parent s.order before.pids

    with : IsListed s (record before { pids = asked }) readers
    with = listed_where s before (record before { pids = asked }) it.parent true h parent refl refl

    apart : (q : ℕ) → IsSome (lookup q (removed c s.processes)) → q ≢ c
    apart q theirs e = let no : IsSome (lookup c (removed c s.processes)) = subst (λ n. IsSome (lookup n (removed c s.processes))) e theirs in let none = rw (lookup_removed c s.processes) at no in absurd (cc)

    stays : (q : ℕ) → IsSome (lookup q (removed c s.processes)) → is_in q asked ≡ true → is_in q after.pids ≡ true
    stays q theirs e = ap (is_in q) is ∙ others_stay c q asked (apart q theirs) ∙ e

-- ---- births

-- a birth touches the child and its parent
pub listed_born : {readers : ListsView} (s : State) (new : Process) (last births : ℕ) (before after : PidSetView) → IsListed s before readers → length s.processes + 1 < before.room → lookup new.pid s.processes ≡ None → IsSome (process s new.parent)
    → after.pids ≡ with_number new.pid (rechecking new.parent s.order before.pids) → after.room ≡ before.room → IsListed (record s { processes = inserted new s.processes; last_pid = last; births = births }) after readers
unfolding with_numbers is_in
listed_born {readers = readers} s new last births before after h fits fresh up put room =
    elim (is_in new.parent s.order) as (λ b. is_in new.parent s.order ≡ b → after.pids ≡ with_number new.pid (cond b before.pids (with_number new.parent before.pids)) → IsListed t after readers) [
      | true ↦ λ placed e. born (new.pid ∷ []) (child, tt)
          (λ q k. ⊎_elim (λ first. inl (or_left _ _ first)) (λ rest. let both = subst (λ n. is_in n s.order ≡ true) (sym (in_one q new.parent rest)) placed in inr (both, both)) (or_cases (new.pid == q) _ k)) e
      | false ↦ λ out e. born (new.pid ∷ new.parent ∷ []) (child, (some_inserted new new.parent s.processes up, tt)) (λ q k. inl k) e
    ] refl put
  where
    t : State
    t = record s { processes = inserted new s.processes; last_pid = last; births = births }

    child : IsSome (process t new.pid)
    child = rw (lookup_new new s.processes fresh) refl

    born : (ps : List ℕ) → AllByRecursion (λ q. IsSome (process t q)) ps → ((q : ℕ) → is_in q (new.pid ∷ new.parent ∷ []) ≡ true → (is_in q ps ≡ true) ⊎ ((is_in q s.order ≡ true) × (is_in q t.order ≡ true)))
        → after.pids ≡ with_numbers ps before.pids → IsListed t after readers
    born ps theirs asked is = listed_with s t before after ps (new.pid ∷ new.parent ∷ []) h (touches_born s new last births) (refl, refl, λ q u e. e) (omega (arith, length_inserted new s.processes, fits)) (λ q e. some_inserted new q s.processes e) theirs (λ q there k. asked q k) is room

nobody_reads : (session : ℕ) (b : Bool) (r : Process) → cond b (Some first_process) None ≡ Some r → is_reader session r ≡ true → ⊥
nobody_reads session true r found visits = absurd (cc)
nobody_reads session false r found visits = absurd (cc)

-- process 1 is in no call at the start
first_reads : (session : ℕ) (q : ℕ) (r : Process) → lookup q (first_process ∷ []) ≡ Some r → is_reader session r ≡ true → ⊥
unfolding lookup
first_reads session q r found visits = nobody_reads session (1 == q) r found visits

-- at the start the recheck list is empty
pub listed_first : {readers : ListsView} (s : State) (w : World) (l : PidSetView) → s ≡ boot w → l.pids ≡ [] → l.room ≡ 2 → readers.pairs ≡ [] → IsListed s l readers
unfolding Rises is_pair_in
listed_first {readers = readers} s w l first is room unread = subst (λ (s : State). IsListed s l readers) (sym first) (record {
  covers = λ q r e k. ap (is_in q) is ∙ covers_none (boot w) (first_has_place w) q r e k;
  rising = subst Rises (sym is) tt;
  there = λ q e. absurd (in_none q (sym (ap (is_in q) is) ∙ e));
  room = omega (arith, room);
  watched = record { known = λ session q r found visits out unasked. absurd (first_reads session q r found visits); waits = λ session q on unasked. absurd (both_ways _ (ap (is_pair_in session q) unread) on) };
})

-- ---- the run queue

-- a process that is not in the run queue doesn't leave it
pub loses_none : (s : State) (p : ℕ) → is_in p s.order ≡ false → s ≡ lose_place s p
loses_none s p e = ap (λ o. record s { order = o }) (sym (without_absent p s.order e))

-- ---- foregrounds that are cleared

-- they need no recheck, and no new reader
pub listed_cleared : {readers : ListsView} (s : State) (to_recheck : PidSetView) → IsRegular s → IsListed s to_recheck readers → IsListed (clear_foregrounds s) to_recheck readers
unfolding clear_foregrounds
listed_cleared {readers = readers} s to_recheck i h =
    let t = record s { consoles = map (refreshed s.processes) s.consoles } in
    record {
      covers = goes_on s t to_recheck.pids to_recheck.pids [] h.covers (touches_cleared s i) (λ q here e. absurd (in_none q e)) (λ q here e. e);
      rising = h.rising;
      there = h.there;
      room = h.room;
      watched = watched_alike s _ _ h.watched;
    }
