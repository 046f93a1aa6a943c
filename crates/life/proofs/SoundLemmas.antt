-- What keeps a machine sound.
use Rattle.std.proofs.Common.{rules, ◌≡◌, ◌≢◌, ℕ, ◌+◌, ◌≤◌, Bool, false, refl, ap, sym, ◌∙◌, arith, subst, List, [], ◌∷◌, length, map, replicate, Some, None, inl, inr}
use Rattle.std.specs.Option.{IsSome}
use Rattle.std.proofs.lemmas.Bool.{cases_eq}
use Rattle.std.proofs.lemmas.Option.{same_Some}
use Rattle.std.proofs.lemmas.List.{length-map, length-replicate}
use Rattle.posix.specs.Common.{Process, is_zombie, first_process, at, lookup, changed, inserted, adopted, reparented, pids, Console, unused_console, World, State, boot, process, next_pid, next_free, IsRegular, IsPlaced, CanInherit, made_zombie, leave_children_and_die}
use Rattle.posix.proofs.NextLemmas.{IsNew, new_number}
use Rattle.posix.proofs.RegularLemmas.{lookup_inserted, lookup_new, regular_as, regular_inserted, regular_first, regular_depart, heir_there}
use Rattle.posix.proofs.TableLemmas.{length_inserted, pid_looked}
use Rattle.posix.proofs.MapLemmas.{at_pid, lookup_back, lookup_on}
use Rattle.posix.proofs.WalkLemmas.{pid_found}
use Rattle.posix.proofs.ReportLemmas.{some_changed}
use Rattle.pidalloc.specs.Rows.{Pids, IsPids, is_free_in, unborne_table, born_in}
use Rattle.pidalloc.specs.Tallies.{IsTallied}
use Rattle.pidalloc.proofs.TallyLemmas.{CanBear, can_bear, next_same, tallied_unborne, tallied_born, tallied_map}
use Rattle.pidalloc.specs.Places.{Places}
use Rattle.life.specs.Machines.{AreWithin, IsKept, IsSound, state_of, IsOther}
use Rattle.posix.proofs.ResultLemmas.{is_there, there}
use Rattle.jobs.proofs.NumberLemmas.{nobody_there}
use Rattle.pidset.specs.Indexes.{is_pair_in}
use Rattle.pidset.specs.Lists.{ListsView}
use Rattle.pidset.specs.Rows.{Grows, HasRoom}
use Rattle.pidset.proofs.IndexLemmas.{rises_pids}
use Rattle.pidset.proofs.NumberLemmas.{few}
use Rattle.pidset.proofs.ParentLemmas.{parents_map, parents_adopted, parents_inserted}

-- what the value of a machine says of a process, its parts say
pub found_in : (s t : State) → s ≡ t → (p : ℕ) (r : Process) → process t p ≡ Some r → lookup p s.processes ≡ Some r
found_in s t same p r found = ap (λ (s : State). lookup p s.processes) same ∙ found

-- and that it is there
pub here_in : {s t : State} (p : ℕ) → s ≡ t → IsSome (process t p) → IsSome (process s p)
here_in p same h = subst (λ (s : State). IsSome (process s p)) (sym same) h

-- and of a new parent
pub heir_in : {s t : State} {p heir : ℕ} → s ≡ t → CanInherit t.processes p heir → CanInherit s.processes p heir
heir_in {p = p} {heir = heir} same h = subst (λ (s : State). CanInherit s.processes p heir) (sym same) h

-- there is room if there was
pub grows_same : {old new : List ℕ} → new ≡ old → Grows old new
grows_same same n here = subst (λ sizes. HasRoom sizes n) (sym same) here

-- ---- changes of records

-- a process that exists after a change of each record existed before
pub some_back : (g : Process → Process) → ((r : Process) → (g r).pid ≡ r.pid) → (q : ℕ) (rs : List Process) → IsSome (lookup q (map g rs)) → IsSome (lookup q rs)
some_back g keeps q rs here = let r = there (lookup q (map g rs)) here in rw (lookup_back g keeps q rs r.what r.found).found refl

-- there is memory for each if each record keeps its ID and its session's
pub within_map : {readers : ListsView} (g : Process → Process) (rs : List Process) → ((r : Process) → (g r).pid ≡ r.pid) → ((r : Process) → (g r).session ≡ r.session) → AreWithin readers rs → AreWithin readers (map g rs)
within_map {readers = readers} g rs keeps session h = record {
  room = λ q r e.
      let was = lookup_back g keeps q rs r e in
      let here = h.room q was.what was.found in
      (here.0, subst (λ n. HasRoom readers.sizes n) (sym (ap (λ (x : Process). x.session) was.is ∙ session was.what)) here.1);
  own = λ k q on. let it = h.own k q on in (g it.0, lookup_on g keeps q rs it.0 it.1, session it.0 ∙ it.2);
}

-- the counts and the room stay if each record keeps its IDs
pub kept_map : (g : Process → Process) → ((r : Process) → (g r).pid ≡ r.pid) → ((r : Process) → (g r).group ≡ r.group) → ((r : Process) → (g r).session ≡ r.session)
    → (m : ℕ) (rs : List Process) (p : Pids) (a b : Places) → Grows a.sizes b.sizes → IsKept m rs p a → IsKept m (map g rs) p b
kept_map g kp kg ks m rs p a b wider k = record {
  greatest = k.greatest;
  table = k.table;
  tallied = tallied_map p g kp kg ks rs k.tallied;
  room = λ q here. wider q (k.room q (some_back g kp q rs here));
}

-- for which numbers the rows have memory makes no difference
pub kept_roomier : (m : ℕ) (rs : List Process) (p : Pids) (sizes : List ℕ) (places : Places) → IsKept m rs p places → IsKept m rs (record p { sizes = sizes }) places
kept_roomier m rs p sizes places k = record {
  greatest = k.greatest;
  table = record { size = k.table.size; given = k.table.given; least = k.table.least; limit = k.table.limit };
  tallied = k.tallied;
  room = k.room;
}

-- a machine stays sound if the run queue changes but keeps its room
pub sound_order : (s : State) (order : List ℕ) (pids : Pids) (a b : Places) → Grows a.sizes b.sizes → IsRegular (record s { order = order }) → IsSound s pids a → IsSound (record s { order = order }) pids b
sound_order s order pids a b wider regular i = record {
  regular = regular;
  parents = i.parents;
  counted = i.counted;
  kept = record { greatest = i.kept.greatest; table = i.kept.table; tallied = i.kept.tallied; room = λ q here. wider q (i.kept.room q here) };
}

-- ---- terminations

-- a process that existed exists after one was made a zombie
pub there_made_zombie : (p w q : ℕ) (rs : List Process) → IsSome (lookup q rs) → IsSome (lookup q (changed p (made_zombie w) rs))
unfolding made_zombie
there_made_zombie p w q rs there = some_changed p q (made_zombie w) (λ r. refl) rs there

-- a process departs, and the machine stays sound
pub sound_departed : (p heir w : ℕ) (s : State) (pids : Pids) (a b : Places) → 1 ≤ p → p ≢ 1 → CanInherit s.processes p heir → Grows a.sizes b.sizes → IsSound s pids a → IsSound (leave_children_and_die s p heir w) pids b
unfolding changed adopted made_zombie
sound_departed p heir w s pids a b least other h room i =
    let dead = map (at p (made_zombie w)) s.processes in
    record {
      regular = regular_depart p heir w least other s i.regular h;
      parents = parents_adopted IsOther p heir dead (there_made_zombie p w heir s.processes (heir_there s p heir i.regular h)) (parents_map IsOther (at p (made_zombie w)) (at_pid p (made_zombie w) (λ r. refl)) (λ r. grind arith) (λ q r other. other) s.processes i.parents);
      counted = omega (arith, i.counted, length-map dead (reparented p heir), length-map s.processes (at p (made_zombie w)));
      kept = kept_map (reparented p heir) (λ r. grind arith) (λ r. grind arith) (λ r. grind arith) s.world.pidmax dead pids a b room
          (kept_map (at p (made_zombie w)) (λ r. grind arith) (λ r. grind arith) (λ r. grind arith) s.world.pidmax s.processes pids a a (λ n here. here) i.kept);
    }

-- and there is memory for each
pub within_departed : {readers : ListsView} (p heir w : ℕ) (rs : List Process) → AreWithin readers rs → AreWithin readers (adopted p heir (changed p (made_zombie w) rs))
unfolding changed adopted made_zombie
within_departed p heir w rs h = within_map (reparented p heir) _ (λ r. grind arith) (λ r. grind arith) (within_map (at p (made_zombie w)) rs (λ r. grind arith) (λ r. grind arith) h)

-- ---- numbers

-- the next ID of the rows is that of the state
pub next_is : (s : State) (p : Pids) (places : Places) → s.last_pid ≡ p.last → IsSound s p places → next_free (is_free_in p.rows) p.last p.pidmax ≡ next_pid s
next_is s p places last i = grind (arith, last, i, next_same)

-- ---- births

-- the number of the next child is free, and in the range of the rows
pub next_is_new : (s t : State) (p : Pids) (places : Places) (child : ℕ) → s ≡ t → IsSound s p places → next_pid t ≡ Some child → IsNew s.processes p.pidmax child
next_is_new s t p places child now i next =
    subst (λ m. IsNew s.processes m child) (sym i.kept.greatest) (new_number s child (ap (λ (s : State). next_pid s) now ∙ next))

-- there are no more processes than numbers, and so no more than 4,194,304
pub not_many : (s : State) (p : Pids) (places : Places) → IsSound s p places → length s.processes ≤ 4194304
not_many s p places i =
    let l = subst (λ n. n ≤ s.world.pidmax) (length-map s.processes (λ (r : Process). r.pid)) (few s.world.pidmax (pids s.processes) (rises_pids s.processes i.regular.rising)
    (λ q e. let r = pid_found q s.processes e in let b = i.regular.bounded q r.0 r.1 in subst (λ n. (1 ≤ n) × (n ≤ s.world.pidmax)) (pid_looked q s.processes r.0 r.1) (b.least, b.pid))) in
    omega (arith, l, i.kept.greatest, i.kept.table.limit)

-- the rows have room for one more process in the group and session of its parent
pub room_to_bear : (s t : State) (p : Pids) (places : Places) (rs : List Process) (child parent group session : ℕ) → s ≡ t → rs ≡ s.processes → IsSound s p places → next_pid t ≡ Some child → IsPlaced t.processes parent
    → ((me : Process) → lookup parent rs ≡ Some me → (group ≡ me.group) × (session ≡ me.session)) → CanBear p child group session
room_to_bear s t p places rs child parent group session now same i next me like =
    let fresh = next_is_new s t p places child now i next in
    let found = found_in s t now parent me.what me.found in
    let bounds = i.regular.bounded parent me.what found in
    let groups = like me.what (ap (lookup parent) same ∙ found) in
    can_bear p s.processes i.kept.tallied (omega (arith, not_many s p places i)) child group session fresh.greatest
    (omega (arith, bounds.group, i.kept.greatest, groups.0)) (omega (arith, bounds.session, i.kept.greatest, groups.1))

-- a birth
pub sound_born : (w : World) (rs : List Process) (cs : List Console) (p q : Pids) (a : Places) (births ticks dropped : ℕ) (h : Bool) (new me : Process)
    → IsSound (state_of w rs cs p a births ticks dropped h) p a → IsNew rs p.pidmax new.pid → lookup new.parent rs ≡ Some me → is_zombie me.life ≡ false
    → new.group ≡ me.group → new.session ≡ me.session → new.life ≡ me.life → new.alarm ≡ None
    → q ≡ born_in p new.pid new.group new.session → q.pidmax ≡ p.pidmax → IsPids q → HasRoom a.sizes new.pid
    → IsSound (state_of w (inserted new rs) cs q a (births + 1) ticks dropped h) q a
sound_born w rs cs p q a births ticks dropped h new me i fresh there up group session life silent bore same table fits =
    let s = state_of w rs cs p a births ticks dropped h in
    let number : IsNew rs w.pidmax new.pid = subst (λ m. IsNew rs m new.pid) i.kept.greatest fresh in
    let r = regular_inserted new q.last (births + 1) s i.regular number (ap is_zombie life ∙ up) silent me there up group session in
    let regular = regular_as _ (state_of w (inserted new rs) cs q a (births + 1) ticks dropped h) refl refl refl refl refl r in
    let parents = parents_inserted IsOther new rs fresh.fresh (λ other. is_there _ me there) i.parents in
    let many = length_inserted new rs in
    let tallied = subst (λ x. IsTallied x (inserted new rs)) (sym bore) (tallied_born p new rs i.kept.table.size i.kept.tallied) in
    let room : (k : ℕ) → IsSome (lookup k (inserted new rs)) → HasRoom a.sizes k = λ k here. elim (cases_eq k new.pid) [ inl mine ↦ subst (λ n. HasRoom a.sizes n) (sym mine) fits | inr other ↦ i.kept.room k (subst IsSome (lookup_inserted new k rs other) here) ] in
    record { regular = regular; parents = parents; counted = search (rules, arith); kept = record { greatest = same ∙ i.kept.greatest; table = table; tallied = tallied; room = room } }

-- if there is memory for one more
pub within_inserted : {readers : ListsView} (new : Process) (rs : List Process) → lookup new.pid rs ≡ None → HasRoom readers.sizes new.pid × HasRoom readers.sizes new.session → AreWithin readers rs → AreWithin readers (inserted new rs)
within_inserted {readers = readers} new rs fresh fits h = record {
  room = λ q r e. elim (cases_eq q new.pid) [
    | inl mine ↦
        let same : new ≡ r = same_Some _ _ (sym (ap (λ p. lookup p (inserted new rs)) mine ∙ lookup_new new rs fresh) ∙ e) in
        (subst (λ n. HasRoom readers.sizes n) (sym mine) fits.0, subst (λ (x : Process). HasRoom readers.sizes x.session) same fits.1)
    | inr other ↦ h.room q r (sym (lookup_inserted new q rs other) ∙ e)
  ];
  own = λ k q on.
      let it = h.own k q on in
      (it.0, lookup_inserted new q rs (λ mine. let no = sym fresh ∙ ap (λ n. lookup n rs) (sym mine) ∙ it.1 in absurd (cc)) ∙ it.1, it.2);
}

-- ---- the start

-- only process 1
first_alone : inserted first_process [] ≡ first_process ∷ []
unfolding inserted
first_alone = refl

-- a machine with only process 1
pub sound_first : (w : World) (cs : List Console) (q : Pids) (b : Places) → cs ≡ replicate w.consoles unused_console → 2 ≤ w.pidmax → q ≡ record (born_in (unborne_table w.pidmax) 1 1 1) { sizes = q.sizes } → q.pidmax ≡ w.pidmax → IsPids q → b.pids ≡ 1 ∷ [] → HasRoom b.sizes 1
    → IsSound (state_of w (inserted first_process []) cs q b 1 0 0 false) q b
sound_first w cs q b unused most bore same table order room = record {
  regular = regular_as (boot w) _ refl first_alone order refl unused (regular_first w (omega (arith, most)));
  parents = parents_inserted IsOther first_process [] (nobody_there 1) (λ other. absurd (other refl)) (λ p r other e. let no = sym (nobody_there p) ∙ e in absurd (cc));
  counted = rw first_alone (omega arith);
  kept =
      let tallied = subst (λ x. IsTallied x (inserted first_process [])) (sym bore) (tallied_born (unborne_table w.pidmax) first_process [] (length-replicate _ _) (tallied_unborne w.pidmax)) in
      record { greatest = same; table = table; tallied = tallied; room = λ k here. elim (cases_eq k 1) [ inl mine ↦ subst (λ n. HasRoom b.sizes n) (sym mine) room | inr other ↦ let no = subst IsSome (lookup_inserted first_process k [] other ∙ nobody_there k) here in absurd (cc) ] };
}

-- its number and that of its session are 1
pub within_first : {readers : ListsView} → readers.pairs ≡ [] → HasRoom readers.sizes 1 → AreWithin readers (inserted first_process [])
unfolding is_pair_in
within_first {readers = readers} nobody room = within_inserted first_process [] (nobody_there 1) (room, room) (record { room = λ q r e. let no = sym (nobody_there q) ∙ e in absurd (cc); own = λ k q on. let no = sym (ap (is_pair_in k q) nobody) ∙ on in absurd (cc) })

-- and it is the machine at boot
pub first_is_boot : (w : World) (cs : List Console) (q : Pids) (b : Places) → cs ≡ replicate w.consoles unused_console → q.last ≡ 1 → b.pids ≡ 1 ∷ [] → state_of w (inserted first_process []) cs q b 1 0 0 false ≡ boot w
first_is_boot w cs q b unused last order = rw (order, last, first_alone, unused) refl
