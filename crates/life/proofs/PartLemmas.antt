-- What a notice of a termination, and the removal of a record, change in the parts of a machine.
use Rattle.std.proofs.Common.{rules, eq-eqb, ◌≡◌, ◌≢◌, ℕ, ◌+◌, ◌≤◌, inl, inr, Bool, true, false, cond, refl, ap, sym, ◌∙◌, arith, subst, List, [], length, Option, Some, None, option_map}
use Rattle.std.specs.Option.{option_map_or, IsSome}
use Rattle.std.proofs.lemmas.Bool.{both_ways, cases_eq}
use Rattle.posix.specs.declared.process.PendingSignal.{PendingSignal}
use Rattle.posix.specs.Common.{Process, is_zombie, lookup, at, changed, removed, parent_of, State, drops_children, is_dropping, noticed}
use Rattle.posix.proofs.TableLemmas.{lookup_changed, pid_looked, length_removed}
use Rattle.posix.proofs.MapLemmas.{lookup_on, lookup_map}
use Rattle.posix.proofs.RegularLemmas.{keeps_at, keeps_noticed, lookup_kept, lookup_removed, regular_as, regular_removed}
use Rattle.pidalloc.specs.Rows.{Pids, gone_from}
use Rattle.pidalloc.specs.Tallies.{IsTallied}
use Rattle.pidalloc.proofs.TallyLemmas.{can_give_up, tallied_gone}
use Rattle.pidalloc.specs.Places.{Places}
use Rattle.life.specs.Machines.{AreWithin, IsSound, IsMachine, Terminals, CanGo, IsGone, IsOther}
use Rattle.life.proofs.RecheckLemmas.{listed_same}
use Rattle.pidset.specs.Indexes.{is_pair_in}
use Rattle.pidset.specs.Lists.{ListsView}
use Rattle.pidset.specs.Numbers.{PidSetView}
use Rattle.pidset.specs.Rows.{HasRoom}
use Rattle.posix.proofs.MemberLemmas.{in_none}
use Rattle.posix.proofs.TouchLemmas.{touches_none}
use Rattle.pidset.proofs.ParentLemmas.{no_child, parents_removed}

-- a zombie other than process 1 can go
pub can_go : (s : State) (p : Pids) (places : Places) (c : ℕ) (r : Process) → IsSound s p places → lookup c s.processes ≡ Some r → is_zombie r.life ≡ true → c ≢ 1 → CanGo s.processes p c
can_go s p places c r i found dead other =
    let bounds = i.regular.bounded c r found in
    let own : c ≤ p.pidmax = omega (arith, bounds.pid, i.kept.greatest, pid_looked c s.processes r found) in
    let group : r.group ≤ p.pidmax = omega (arith, bounds.group, i.kept.greatest) in
    let session : r.session ≤ p.pidmax = omega (arith, bounds.session, i.kept.greatest) in
    let counts = can_give_up p s.processes i.kept.tallied c r found own group session in
    let childless = i.regular.childless c r other found dead in
    search rules

-- ---- a sound machine

-- a zombie is removed, and the machine stays sound
pub sound_gone : (s : State) (p q : Pids) (a : Places) (c last dropped : ℕ) (r : Process) → IsSound s p a → lookup c s.processes ≡ Some r → is_zombie r.life ≡ true → c ≢ 1
    → IsGone p q c r → dropped ≤ s.dropped + 1 → IsSound (record s { processes = removed c s.processes; last_pid = last; dropped = dropped }) q a
sound_gone s p q a c last dropped r i found dead other g most =
    let regular = regular_as _ (record s { processes = removed c s.processes; last_pid = last; dropped = dropped }) refl refl refl refl refl (regular_removed c r s i.regular other found dead) in
    let parents = parents_removed IsOther c s.processes (no_child c s.processes (i.regular.childless c r other found dead)) i.parents in
    let many = length_removed c r s.processes i.regular.rising found in
    let tallied = subst (λ x. IsTallied x (removed c s.processes)) (sym g.rows) (tallied_gone p c r s.processes i.kept.table.size i.regular.rising i.kept.tallied found) in
    let room : (k : ℕ) → IsSome (lookup k (removed c s.processes)) → HasRoom a.sizes k = λ k here. elim (cases_eq k c) [ inl mine ↦ let no = subst IsSome (ap (λ n. lookup n (removed c s.processes)) mine ∙ lookup_removed c s.processes) here in absurd (cc) | inr other ↦ i.kept.room k (subst IsSome (lookup_kept c k s.processes other) here) ] in
    record { regular = regular; parents = parents; counted = omega (arith, i.counted, many, most); kept = record { greatest = g.greatest ∙ i.kept.greatest; table = g.table; tallied = tallied; room = room } }

-- there is memory for each after one was removed that is on no list
pub within_removed : {readers : ListsView} (c : ℕ) (rs : List Process) → ((session : ℕ) → is_pair_in session c readers.pairs ≡ false) → AreWithin readers rs → AreWithin readers (removed c rs)
within_removed {readers = readers} c rs none h = record {
  room = λ q r e. elim (cases_eq q c) [ inl mine ↦ let no = sym (ap (λ n. lookup n (removed c rs)) mine ∙ lookup_removed c rs) ∙ e in absurd (cc) | inr other ↦ h.room q r (sym (lookup_kept c q rs other) ∙ e) ];
  own = λ k q on.
      let it = h.own k q on in
      (it.0, lookup_kept c q rs (λ mine. absurd (both_ways _ (none k) (subst (λ n. is_pair_in k n readers.pairs ≡ true) mine on))) ∙ it.1, it.2);
}

-- it stays a machine if only the count of those dropped changes, and whether it has halted
pub machine_counted : {groups_at_risk : PidSetView} {terminals : Terminals} (s : State) (pids : Pids) (places : Places) (to_recheck : PidSetView) (dropped : ℕ) (halted : Bool) → dropped + length s.processes ≤ s.births
    → IsMachine s pids places to_recheck groups_at_risk terminals → IsMachine (record s { dropped = dropped; halted = halted }) pids places to_recheck groups_at_risk terminals
machine_counted s pids places to_recheck dropped halted few i =
    let t = record s { dropped = dropped; halted = halted } in
    let regular = regular_as s t refl refl refl refl refl i.sound.regular in
    let listed = listed_same s t to_recheck [] i.listed (touches_none s t refl refl refl) (refl, refl, λ q u e. e) refl (λ q e. e) (λ q there e. absurd (in_none q e)) in
    search rules

-- what was read of the parent says whether it drops the child
pub drops_is : (parent : ℕ) (rs : List Process) (drops : Bool) (me : Process) → lookup parent rs ≡ Some me → drops ≡ drops_children me.signals → drops ≡ is_dropping parent rs
drops_is parent rs drops me found value = value ∙ ap (λ (o : Option Process). option_map_or (λ r. drops_children r.signals) o false) (sym found)

-- a zombie is one after a notice to another process, or to it
pub zombie_noticed : (parent : ℕ) (signal : PendingSignal) (c : ℕ) (rs : List Process) (it : Process) → lookup c rs ≡ Some it → is_zombie it.life ≡ true → (x : Process) × (lookup c (changed parent (noticed signal) rs) ≡ Some x) × (is_zombie x.life ≡ true)
unfolding changed
zombie_noticed parent signal c rs it found dead =
    let k = keeps_at parent (noticed signal) (keeps_noticed {now = 0} signal) in
    (at parent (noticed signal) it, lookup_on (at parent (noticed signal)) k.pid c rs it found, k.zombie it ∙ dead)

-- the parent was notified
pub noticed_here : (parent : ℕ) (signal : PendingSignal) (rs : List Process) → lookup parent (changed parent (noticed signal) rs) ≡ option_map (noticed signal) (lookup parent rs)
noticed_here parent signal rs = lookup_changed parent parent (noticed signal) (keeps_noticed {now = 0} signal).pid rs ∙ ap (λ b. cond b (option_map (noticed signal) (lookup parent rs)) (lookup parent rs)) (eq-eqb parent parent refl)

-- and each process keeps its parent
pub parent_noticed : (parent : ℕ) (signal : PendingSignal) (c : ℕ) (rs : List Process) → parent_of c (changed parent (noticed signal) rs) ≡ parent_of c rs
unfolding changed
parent_noticed parent signal c rs =
    let k = keeps_at parent (noticed signal) (keeps_noticed {now = 0} signal) in
    ap (λ o. option_map_or (λ (r : Process). r.parent) o 0) (lookup_map (at parent (noticed signal)) k.pid c rs)
    ∙ elim (lookup c rs) as (λ o. option_map_or (λ (r : Process). r.parent) (option_map (at parent (noticed signal)) o) 0 ≡ option_map_or (λ (r : Process). r.parent) o 0) [ None ↦ refl | Some r ↦ k.parent r ]
