-- A change of one process, in the parts of a machine.
use Rattle.std.proofs.Common.{◌≡◌, ◌≢◌, ◌&&◌, ℕ, ◌<◌, length, Bool, true, false, cond, not, refl, ap, sym, ◌∙◌, arith, subst, List, [], ◌∷◌, Option, Some, None, option_map, ◌==◌, inl, inr, ◌⊎◌, ⊎_elim, ◌++◌, ◌||◌, rules}
use Rattle.std.specs.Option.{IsSome}
use Rattle.std.specs.List.{list_any}
use Rattle.std.specs.Borrow.{MutBor}
use Rattle.std.specs.Fn.{Once, FnOnceReturnsAtMut}
use Rattle.std.proofs.lemmas.Bool.{both_ways, eqb-true, eq-eqb, ne_eqb, and_parts, cases_eq, cond_both, or_left, or_right, or_parts}
use Rattle.std.proofs.lemmas.List.{length-map}
use Rattle.std.proofs.lemmas.Option.{same_Some}
use Rattle.std.proofs.Math.Nat.{le_trans}
use Rattle.posix.specs.declared.process.PendingSignal.{PendingSignal}
use Rattle.posix.specs.Common.{Process, is_zombie, signalled, effect_of, continued, told_of_change, noticed_of_change, child_signal, resumed, generated_for, ignores_stops, IsRising, lookup, at, changed, parent_of, is_member, State, process, change, is_in, change as change_of, IsRegular, IsPlaced}
use Rattle.posix.specs.declared.process.Effect.TheVariants as effect
use Rattle.posix.proofs.TableLemmas.{pid_looked, changed_absent, changed_same, lookup_changed, rising_changed}
use Rattle.posix.proofs.MapLemmas.{at_pid, at_keeps, lookup_back}
use Rattle.posix.proofs.MemberLemmas.{each}
use Rattle.posix.proofs.RegularLemmas.{Keeps, regular_change, lookup_other}
use Rattle.posix.proofs.ChangeLemmas.{regular_lives, lookup_signalled, continued_cont, generated_as, keeps_noticed_of_change, unseen_noticed_of_change}
use Rattle.posix.proofs.TouchLemmas.{Touches, touches_shown, touches_both, touches_unseen}
use Rattle.posix.proofs.ReportLemmas.{some_changed}
use Rattle.posix.proofs.WalkLemmas.{some_looked}
use Rattle.posix.proofs.FreshLemmas.{fresh_changed}
use Rattle.pidalloc.specs.Rows.{Pids, regrouped, is_free_in}
use Rattle.pidalloc.proofs.TallyLemmas.{AreBorne, are_borne}
use Rattle.pidalloc.proofs.MoveLemmas.{tallied_regrouped, pids_regrouped, greatest_regrouped, CanRegroup, can_regroup}
use Rattle.pidalloc.specs.Places.{Places}
use Rattle.pidset.specs.Lists.{ListsView}
use Rattle.pidset.specs.Indexes.{HaveParents, IsMoved, is_pair_in}
use Rattle.pidset.specs.Numbers.{PidSetView, with_number}
use Rattle.pidset.specs.Rows.{HasRoom}
use Rattle.pidset.proofs.NumberLemmas.{in_with}
use Rattle.posix.proofs.ResultLemmas.{mapped_is}
use Rattle.proctable.specs.declared.records.Record.{Record}
use Rattle.proctable.specs.Records.{process_of, give_record, with_record}
use Rattle.proctable.proofs.RecordLemmas.{changed_here}
use Rattle.jobs.specs.declared.indexes.IndexedFields.{IndexedFields}
use Rattle.jobs.specs.Indexes.{record_seen, seen_of, keeps_group_and_session}
use Rattle.jobs.specs.IndexedTables.{IsRun, IsGroupFor, StaysPut, takes_signal}
use Rattle.jobs.proofs.NumberLemmas.{absent_changed}
use Rattle.jobs.proofs.RunLemmas.{run_as, put_as, parent_is}
use Rattle.jobs.proofs.SnapshotLemmas.{differs, equals, Named, named_there}
use Rattle.jobs.proofs.KeptLemmas.{record_found, length_record}
use Rattle.life.specs.Machines.{with_processes, IsKept, IsSound, IsListed, IsNoted, IsMachine, Terminals, MachineView, Costs, Changes, IfThere, IsOther, AreWithin}
use Rattle.life.specs.Rechecks.{with_numbers, with_parent, rechecking, rechecking_by_signals, rechecking_effect, rechecking_generated, slots_of_signal, awaits, rechecking_told}
use Rattle.life.specs.declared.consoles.Unchecked.{Unchecked}
use Rattle.life.specs.Foregrounds.{AreFreshBut, also_in}
use Rattle.life.proofs.ForegroundLemmas.{fresh_but_one, fresh_still}
use Rattle.life.specs.Changes.{has_moved, CanMoveNumbers, StaysInSession, StaysRegular, lives}
use Rattle.pidset.proofs.ParentLemmas.{parents_map}
use Rattle.life.proofs.SoundLemmas.{found_in, kept_map, some_back, not_many, within_map}
use Rattle.life.proofs.ReaderLemmas.{listed_forgotten, none_marked, within_marked}
use Rattle.life.proofs.RecheckLemmas.{IsBeside, listed_with, listed_signals}
use Rattle.life.proofs.SignalLemmas.{with_signals, only_noticed_of_change, touches_signals}
use Rattle.posix.specs.declared.process.Life.{Life}
use Rattle.posix.specs.declared.process.News.{News}
use Rattle.life.proofs.NewsLemmas.{KeepsNumbers, touches_unawaited}

-- ---- the parent

-- no process has the number 0
pub nobody_0 : (s : State) → IsRegular s → lookup 0 s.processes ≡ None
nobody_0 s i = grind (arith, pid_looked 0 s.processes, λ (r : Process) (e : lookup 0 s.processes ≡ Some r). (i.bounded 0 r e).least)

-- a parent with another number is there
pub parent_there : (s : State) (pids : Pids) (places : Places) → IsSound s pids places → (p : ℕ) (me : Process) → lookup p s.processes ≡ Some me → me.parent ≢ 0 → IsSome (lookup me.parent s.processes)
parent_there s pids places i p me found some = i.parents p me (λ same. some (ap (λ (r : Process). r.parent) (same_Some _ _ (sym found ∙ ap (λ n. lookup n s.processes) same ∙ i.regular.first.found)) ∙ i.regular.first.parent)) found

-- ---- a change that keeps the numbers

sound_changed : (s : State) (pids : Pids) (places : Places) (p : ℕ) (f : Process → Process) → KeepsNumbers f → IsRegular (change s p f) → IsSound s pids places → IsSound (change s p f) pids places
unfolding changed
sound_changed s pids places p f k regular i = record {
  regular = regular;
  parents = parents_map IsOther (at p f) (at_pid p f k.pid) (at_keeps (λ r. r.parent) p f k.parent) (λ q r other. other) s.processes i.parents;
  counted = let c = i.counted in let l = length-map s.processes (at p f) in omega (arith, c, l);
  kept = kept_map (at p f) (at_pid p f k.pid) (at_keeps (λ r. r.group) p f k.group) (at_keeps (λ r. r.session) p f k.session) s.world.pidmax s.processes pids places places (λ n here. here) i.kept;
}

-- foregrounds have members as before
fresh_on : (u : Unchecked) (s : State) (p : ℕ) (f : Process → Process) → KeepsNumbers f → AreFreshBut u s.processes s.consoles → AreFreshBut u (changed p f s.processes) s.consoles
fresh_on u s p f k fresh = fresh_still u s.processes (changed p f s.processes) s.consoles (λ ds h. fresh_changed p f k.group k.session s.processes ds h) fresh

-- and there is memory for each
within_on : {readers : ListsView} (p : ℕ) (f : Process → Process) (rs : List Process) → KeepsNumbers f → AreWithin readers rs → AreWithin readers (changed p f rs)
unfolding changed
within_on p f rs k h = within_map (at p f) rs (at_pid p f k.pid) (at_keeps (λ r. r.session) p f k.session) h

pub machine_changed : {groups_at_risk : PidSetView} {terminals : Terminals} (s : State) (pids : Pids) (places : Places) (to_recheck after : PidSetView) (p : ℕ) (f : Process → Process) → KeepsNumbers f
    → IsRegular (change s p f) → IsMachine s pids places to_recheck groups_at_risk terminals → after.room ≡ to_recheck.room → IsListed (change s p f) after terminals.readers → IsMachine (change s p f) pids places after groups_at_risk terminals
machine_changed {groups_at_risk = groups_at_risk} {terminals = terminals} s pids places to_recheck after p f k regular i room listed = record { sound = sound_changed s pids places p f k regular i.sound; listed = listed; noted = subst (λ n. IsNoted n groups_at_risk) (sym room) i.noted; fresh = fresh_on terminals.foregrounds_unchecked s p f k i.fresh; indexed = i.indexed; within = within_on p f _ k i.within }

-- a record gets other signals, and another alarm
pub machine_run : {groups_at_risk : PidSetView} {terminals : Terminals} (s : State) (pids : Pids) (places : Places) (to_recheck after : PidSetView) (p : ℕ) (b c : Record) (ts : List Process)
    → lookup p s.processes ≡ Some (process_of p (parent_of p s.processes) b) → ts ≡ with_record s.processes p c → c ≡ record b { alarm = c.alarm; own = record (b.own) { signals = c.own.signals } } → IsRegular (record s { processes = with_record s.processes p c })
    → IsMachine s pids places to_recheck groups_at_risk terminals → after.pids ≡ rechecking_by_signals (lookup p ts) s.order to_recheck.pids → after.room ≡ to_recheck.room → IsMachine (record s { processes = ts }) pids places after groups_at_risk terminals
machine_run {groups_at_risk = groups_at_risk} {terminals = terminals} s pids places to_recheck after p b c ts found is same regular i put room =
    let f = with_signals c.own.signals c.alarm in
    let became = changed_here s.processes i.sound.regular.rising p b c (with_signals c.own.signals c.alarm) found (λ q. ap (process_of p q) same) in
    subst (λ rs. IsMachine (record s { processes = rs }) pids places after groups_at_risk terminals) (sym (is ∙ became))
    (machine_changed s pids places to_recheck after p f (record { pid = λ r. refl; parent = λ r. refl; group = λ r. refl; session = λ r. refl }) (subst (λ rs. IsRegular (record s { processes = rs })) became regular) i room
    (listed_signals s p c.own.signals c.alarm to_recheck after i.listed (rw found refl) (put ∙ ap (λ rs. rechecking_by_signals (lookup p rs) s.order to_recheck.pids) (is ∙ became)) room))

-- the process is rechecked if a signal is chosen for it
pub by_signals : (o : Option Process) (p : ℕ) (order ns : List ℕ) (b : Bool) → ((r : Process) → o ≡ Some r → r.pid ≡ p) → option_map takes_signal o ≡ Some b → cond b (rechecking p order ns) ns ≡ rechecking_by_signals o order ns
by_signals None p order ns b named takes = absurd (cc)
by_signals (Some r) p order ns b named takes = ap (λ w. cond w (rechecking p order ns) ns) (sym (same_Some _ _ takes)) ∙ ap (λ n. cond (takes_signal r) (rechecking n order ns) ns) (sym (named r refl))

-- ---- a change that its parent sees

-- another record, in the same group and session
abbrev keep_numbers : Record → Process → Process
keep_numbers c r = record (give_record c r) { group = r.group; session = r.session }

-- one that stays put hasn't moved
pub not_moved : (old new : IndexedFields) → keeps_group_and_session old new ≡ true → has_moved old new ≡ false
not_moved old new h = let both = and_parts (old.group == new.group && old.session == new.session) _ h in let each = and_parts (old.group == new.group) _ both.0 in rw (each.0, each.1) refl

-- and is in the session in which it was
pub put_session : {F T : Type 0} {g : Once F (MutBor Record × Unit {0}) (T × (MutBor Record × Unit {0}))} {change : F} (p : ℕ) (rs : List Process) → StaysPut g change rs p → StaysInSession g change rs p
put_session p rs h b c r found k =
    let both = and_parts (b.group == c.group && b.session == c.session) _ (h b c r found k) in
    let each = and_parts (b.group == c.group) _ both.0 in
    inl (sym (eqb-true b.session c.session each.1))

numbers_as : (rs : List Process) → IsRising rs → (p : ℕ) (b c : Record) → lookup p rs ≡ Some (process_of p (parent_of p rs) b) → has_moved (record_seen b) (record_seen c) ≡ false → with_record rs p c ≡ changed p (keep_numbers c) rs
unfolding give_record
numbers_as rs up p b c found still = grind (arith, up, found, still, changed_here, equals, or_parts)

-- the rows count the records with it, if the counts of its IDs move with it
numbers_kept : (m p : ℕ) (b c : Record) (rs : List Process) (pids now : Pids) (places : Places) → IsRising rs → lookup p rs ≡ Some (process_of p (parent_of p rs) b)
    → now ≡ cond (has_moved (record_seen b) (record_seen c)) (regrouped pids b.group b.session c.group c.session) pids → IsKept m rs pids places → IsKept m (with_record rs p c) now places
unfolding give_record changed
numbers_kept m p b c rs pids now places up found is k = by (has_moved (record_seen b) (record_seen c)) refl is
  where
    by : (t : Bool) → has_moved (record_seen b) (record_seen c) ≡ t → now ≡ cond t (regrouped pids b.group b.session c.group c.session) pids → IsKept m (with_record rs p c) now places
    by true e moved = subst (λ x. IsKept m (with_record rs p c) x places) (sym moved) (record {
      greatest = greatest_regrouped pids b.group b.session c.group c.session ∙ k.greatest;
      table = pids_regrouped pids b.group b.session c.group c.session k.table;
      tallied = tallied_regrouped pids p (give_record c) (λ r. refl) (process_of p (parent_of p rs) b) rs k.table up k.tallied found;
      room = λ q here. k.room q (some_back (at p (give_record c)) (at_pid p (give_record c) (λ r. refl)) q rs here);
    })
    by false e still = subst (λ x. IsKept m (with_record rs p c) x places) (sym still) (rw (numbers_as rs up p b c found e) (kept_map (at p (keep_numbers c)) (at_pid p (keep_numbers c) (λ r. refl)) (at_keeps (λ r. r.group) p (keep_numbers c) (λ r. refl)) (at_keeps (λ r. r.session) p (keep_numbers c) (λ r. refl)) m rs pids places places (λ n here. here) k))

-- the processes on the recheck list: the process, and its parent if it has an existing one
pub listed_changed : {readers : ListsView} (s t : State) (p parent : ℕ) (before after : PidSetView) (touched : List ℕ) → IsListed s before readers → Touches s t touched → IsBeside s t touched → t.order ≡ s.order → length t.processes ≡ length s.processes → ((q : ℕ) → IsSome (process s q) → IsSome (process t q))
    → IsSome (process t p) → (parent ≢ 0 → IsSome (process t parent)) → process t 0 ≡ None → ((q : ℕ) → is_in q touched ≡ true → (q ≡ p) ⊎ (q ≡ parent))
    → after.pids ≡ with_parent parent t.order (with_number p before.pids) → after.room ≡ before.room → IsListed t after readers
unfolding with_numbers is_in
listed_changed {readers = readers} s t p parent before after touched h touches most order many stay here up none among is same =
    let fits : length t.processes < before.room = omega (arith, many, h.room) in
    elim (cases_eq parent 0) [
      | inl root ↦ listed_with s t before after (p ∷ []) touched h touches most fits stay (here, tt)
          (λ q theirs e. ⊎_elim (mine q) (λ k. let no = subst (λ n. IsSome (process t n)) (k ∙ root) theirs in let nobody = rw none at no in absurd (cc)) (among q e))
          (is ∙ rw (eq-eqb parent 0 root) refl) same
      | inr some ↦ elim (is_in parent t.order) as (λ b. is_in parent t.order ≡ b → after.pids ≡ cond b (with_number p before.pids) (with_number parent (with_number p before.pids)) → IsListed t after readers) [
        | true ↦ λ placed e. listed_with s t before after (p ∷ []) touched h touches most fits stay (here, tt)
            (λ q theirs k. ⊎_elim (mine q) (λ same. let now = subst (λ n. is_in n t.order ≡ true) (sym same) placed in inr (ap (is_in q) (sym order) ∙ now, now)) (among q k)) e same
        | false ↦ λ out e. listed_with s t before after (parent ∷ p ∷ []) touched h touches most fits stay (up some, (here, tt))
            (λ q theirs k. inl (⊎_elim (λ same. or_right (parent == q) _ (or_left _ _ (eq-eqb p q (sym same)))) (λ same. or_left _ _ (eq-eqb parent q (sym same))) (among q k))) e same
      ] refl (is ∙ rw (ne_eqb parent 0 some) refl)
    ]
  where
    mine : (q : ℕ) → q ≡ p → (is_in q (p ∷ []) ≡ true) ⊎ ((is_in q s.order ≡ true) × (is_in q t.order ≡ true))
    mine q same = inl (or_left _ _ (eq-eqb p q (sym same)))

-- everybody else has the parent that it had
parents_record : (rs : List Process) (p : ℕ) (c : Record) → HaveParents IsOther rs → HaveParents IsOther (with_record rs p c)
unfolding give_record changed
parents_record rs p c h = parents_map IsOther (at p (give_record c)) (at_pid p (give_record c) (λ r. refl)) (at_keeps (λ r. r.parent) p (give_record c) (λ r. refl)) (λ q r other. other) rs h

-- and a process that existed exists
pub there_record : (rs : List Process) (p : ℕ) (c : Record) (q : ℕ) → IsSome (lookup q rs) → IsSome (lookup q (with_record rs p c))
unfolding give_record
there_record rs p c q there = some_changed p q (give_record c) (λ r. refl) rs there

-- it is in its session, or in one that it leads, and on no list of readers
within_shown : {readers : ListsView} (p : ℕ) (b c : Record) (rs : List Process) → lookup p rs ≡ Some (process_of p (parent_of p rs) b) → (c.session ≡ b.session) ⊎ (c.session ≡ p) → ((session : ℕ) → is_pair_in session p readers.pairs ≡ false) → AreWithin readers rs → AreWithin readers (with_record rs p c)
unfolding give_record changed
within_shown {readers = readers} p b c rs found session none h = record {
  room = λ q r e.
      let was = lookup_back (at p (give_record c)) (at_pid p (give_record c) (λ r. refl)) q rs r e in
      let here = h.room q was.what was.found in
      let mine = h.room p _ found in (
        here.0,
        elim (was.what.pid == p) as (λ t. (was.what.pid == p) ≡ t → HasRoom readers.sizes r.session) [
          | true ↦ λ t.
              let now : r.session ≡ c.session = ap (λ (x : Process). x.session) was.is ∙ ap (λ b. (cond b (give_record c was.what) was.what).session) t in
              ⊎_elim (λ same. subst (λ n. HasRoom readers.sizes n) (sym (now ∙ same)) mine.1) (λ own. subst (λ n. HasRoom readers.sizes n) (sym (now ∙ own)) mine.0) session
          | false ↦ λ t.
              let now : r.session ≡ was.what.session = ap (λ (x : Process). x.session) was.is ∙ ap (λ b. (cond b (give_record c was.what) was.what).session) t in
              subst (λ n. HasRoom readers.sizes n) (sym now) here.1
        ] refl,
      );
  own = λ k q on.
      let it = h.own k q on in
      (it.0, lookup_other p q (give_record c) (λ r. refl) (λ mine. absurd (both_ways _ (none k) (subst (λ n. is_pair_in k n readers.pairs ≡ true) mine on))) rs it.0 it.1, it.2);
}

-- a process on the recheck list stays on it with a parent
in_parent : (p parent : ℕ) (order ns : List ℕ) → is_in p ns ≡ true → is_in p (with_parent parent order ns) ≡ true
in_parent p parent order ns e = elim (parent == 0) as (λ b. is_in p (cond b ns (cond (is_in parent order) ns (with_number parent ns))) ≡ true) [
  | true ↦ e
  | false ↦ elim (is_in parent order) as (λ b. is_in p (cond b ns (with_number parent ns)) ≡ true) [ true ↦ e | false ↦ in_with p parent ns ∙ or_right _ _ e ]
]

pub machine_shown : {groups_at_risk : PidSetView} {terminals : Terminals} {sets : ListsView} (s : State) (pids now : Pids) (places : Places) (to_recheck after : PidSetView) (p parent : ℕ) (b c : Record) (ts : List Process) (foregrounds_unchecked : Unchecked)
    → lookup p s.processes ≡ Some (process_of p (parent_of p s.processes) b) → ts ≡ with_record s.processes p c → IsRegular (record s { processes = with_record s.processes p c }) → (c.session ≡ b.session) ⊎ (c.session ≡ p) → parent ≡ parent_of p s.processes
    → now ≡ cond (has_moved (record_seen b) (record_seen c)) (regrouped pids b.group b.session c.group c.session) pids → foregrounds_unchecked ≡ cond (has_moved (record_seen b) (record_seen c)) (also_in b.session terminals.foregrounds_unchecked) terminals.foregrounds_unchecked → s.last_pid ≡ now.last
    → IsMachine s pids places to_recheck groups_at_risk terminals → after.pids ≡ with_parent parent s.order (with_number p to_recheck.pids) → after.room ≡ to_recheck.room → IsMoved p None terminals.readers.pairs sets.pairs → sets.sizes ≡ terminals.readers.sizes
    → IsMachine (record s { processes = ts; last_pid = now.last }) now places after groups_at_risk (record terminals { readers = sets; foregrounds_unchecked = foregrounds_unchecked })
unfolding give_record
machine_shown {groups_at_risk = groups_at_risk} {terminals = terminals} {sets = sets} s pids now places to_recheck after p parent b c ts foregrounds_unchecked found is regular session its moved mark given i put room forgot sizes =
    let rs = s.processes in
    let f = give_record c in
    let up = i.sound.regular.rising in
    let me = process_of p (parent_of p rs) b in
    let t = change s p f in
    rw is (subst (λ n. IsMachine (record t { last_pid = n }) now places after groups_at_risk (record terminals { readers = sets; foregrounds_unchecked = foregrounds_unchecked })) given (record {
      sound = record {
        regular = regular;
        parents = parents_record rs p c i.sound.parents;
        counted = let n = i.sound.counted in let l = length_record rs p c in omega (arith, n, l);
        kept = numbers_kept s.world.pidmax p b c rs pids now places up found moved i.sound.kept;
      };
      listed = listed_forgotten t p after (listed_changed s t p (parent_of p rs) to_recheck after (p ∷ parent_of p rs ∷ []) i.listed (touches_shown s p f (λ r. refl) (λ r. refl) up me found) (refl, refl, λ q u e. e) refl (length_record rs p c)
          (λ q e. some_changed p q f (λ r. refl) rs e) (some_changed p p f (λ r. refl) rs (rw found refl)) (λ some. some_changed p (parent_of p rs) f (λ r. refl) rs (parent_there s pids places i.sound p me found some)) (absent_changed p f (λ r. refl) 0 rs (nobody_0 s i.sound.regular))
          (λ q e. each (λ q. (q ≡ p) ⊎ (q ≡ parent_of p rs)) (p ∷ parent_of p rs ∷ []) (inl refl, (inr refl, tt)) q e)
          (subst (λ q. after.pids ≡ with_parent q s.order (with_number p to_recheck.pids)) its put) room)
          (ap (is_in p) put ∙ in_parent p parent s.order _ (in_with p p to_recheck.pids ∙ or_left _ _ (eq-eqb p p refl))) forgot;
      noted = subst (λ n. IsNoted n groups_at_risk) (sym room) i.noted;
      fresh = subst (λ u. AreFreshBut u (with_record rs p c) s.consoles) (sym mark) (elim (has_moved (record_seen b) (record_seen c)) as (λ m. has_moved (record_seen b) (record_seen c) ≡ m → AreFreshBut (cond m (also_in b.session terminals.foregrounds_unchecked) terminals.foregrounds_unchecked) (with_record rs p c) s.consoles) [
        | true ↦ λ e. fresh_but_one terminals.foregrounds_unchecked p me rs (with_record rs p c) s.consoles up found (λ q r ne e. lookup_other p q f (λ r. refl) ne rs r e) i.fresh
        | false ↦ λ e. fresh_still terminals.foregrounds_unchecked rs (with_record rs p c) s.consoles (λ ds h. rw (numbers_as rs up p b c found e) (fresh_changed p (keep_numbers c) (λ r. refl) (λ r. refl) rs ds h)) i.fresh
      ] refl);
      indexed = i.indexed;
      within = within_shown p b c rs found session (none_marked p _ _ forgot) (within_marked p None forgot sizes (λ k e. absurd (cc)) i.within);
    }))

-- ---- a child that was stopped or continued

keeps_lives : (l : Life) (n : News) → KeepsNumbers (lives l n)
keeps_lives l n = record { pid = λ r. refl; parent = λ r. refl; group = λ r. refl; session = λ r. refl }

pub keeps_notice : (signal : PendingSignal) → KeepsNumbers (noticed_of_change signal)
keeps_notice signal =
    let only = only_noticed_of_change signal in
    record { pid = λ r. ap (λ (q : Process). q.pid) (only r); parent = λ r. ap (λ (q : Process). q.parent) (only r); group = λ r. ap (λ (q : Process). q.group) (only r); session = λ r. ap (λ (q : Process). q.session) (only r) }

-- whether a parent waits for a child doesn't depend on its signals
awaits_noticed : (signal : PendingSignal) (parent child : Process) → awaits (noticed_of_change signal parent) child ≡ awaits parent child
unfolding awaits noticed_of_change signalled
awaits_noticed signal parent child = cond_both (ignores_stops parent.signals) parent (signalled signal parent) (λ q. awaits q child ≡ awaits parent child) (λ e. refl) (λ e. refl)

-- which processes are then rechecked: the child, and its parent if that waits for the child, or has a chosen signal
listed_told : {readers : ListsView} (s : State) (pids : Pids) (places : Places) → IsSound s pids places → (p w : ℕ) (l : Life) (n : News) (me : Process) → process s p ≡ Some me → (before after : PidSetView) → IsListed s before readers
    → let t = record s { processes = told_of_change w me (changed p (lives l n) s.processes) } in after.pids ≡ rechecking_told (lives l n me) (process t me.parent) s.order before.pids → after.room ≡ before.room → IsListed t after readers
unfolding told_of_change with_numbers changed
listed_told {readers = readers} s pids places i p w l n me found before after h put room = by (process t q) refl put
  where
    q : ℕ
    q = me.parent

    f : Process → Process
    f = lives l n

    g : Process → Process
    g = noticed_of_change (child_signal me.pid w)

    mid : State
    mid = change s p f

    t : State
    t = change mid q g

    keeps : (r : Process) → (g r).pid ≡ r.pid
    keeps = (keeps_notice (child_signal me.pid w)).pid

    stay : (x : ℕ) → IsSome (process s x) → IsSome (process t x)
    stay x here = some_changed q x g keeps (changed p f s.processes) (some_changed p x f (λ r. refl) s.processes here)

    many : length t.processes ≡ length s.processes
    many = length-map (changed p f s.processes) (at q g) ∙ length-map s.processes (at p f)

    nobody : process t 0 ≡ None
    nobody = absent_changed q g keeps 0 (changed p f s.processes) (absent_changed p f (λ r. refl) 0 s.processes (nobody_0 s i.regular))

    both : after.pids ≡ with_parent q s.order (with_number p before.pids) → IsListed t after readers
    both is = listed_changed s t p q before after ((q ∷ []) ++ (p ∷ q ∷ [])) h
        (touches_both s mid t (p ∷ q ∷ []) (q ∷ []) (touches_shown s p f (λ r. refl) (λ r. refl) i.regular.rising me found) (touches_unseen mid q g (unseen_noticed_of_change (child_signal me.pid w)))) (refl, refl, λ x u e. e) refl many stay
        (stay p (rw found refl)) (λ some. stay q (parent_there s pids places i p me found some)) nobody (λ x e. each (λ x. (x ≡ p) ⊎ (x ≡ q)) (q ∷ p ∷ q ∷ []) (inr refl, (inl refl, (inr refl, tt))) x e) is room

    by : (o : Option Process) → process t q ≡ o → after.pids ≡ rechecking_told (f me) o s.order before.pids → IsListed t after readers
    by None none is = elim (cases_eq q 0) [
      | inl root ↦ both (is ∙ rw (eq-eqb q 0 root, pid_looked p s.processes me found) refl)
      | inr some ↦ let here = stay q (parent_there s pids places i p me found some) in let nobody = subst IsSome none here in absurd (cc)
    ]
    by (Some up) there is =
        let named = pid_looked q t.processes up there in
        let some : q ≢ 0 = λ root. let no = sym nobody ∙ ap (process t) (sym root) ∙ there in absurd (cc) in
        let mine = pid_looked p s.processes me found in
        elim (awaits up (f me) || takes_signal up) as (λ b. (awaits up (f me) || takes_signal up) ≡ b → after.pids ≡ cond b (rechecking up.pid s.order (with_number me.pid before.pids)) (with_number me.pid before.pids) → IsListed t after readers) [
          | true ↦ λ k e. both (e ∙ rw (ne_eqb q 0 some, named, mine) refl)
          | false ↦ λ k e.
              let none = or_parts (awaits up (f me)) (takes_signal up) k in
              let b = lookup_back (at q g) (at_pid q g keeps) q mid.processes up there in
              let its : up ≡ g b.what = b.is ∙ ap (λ x. cond x (g b.what) b.what) (eq-eqb b.what.pid q (pid_looked q mid.processes b.what b.found)) in
              let is_signals : t.processes ≡ changed q (with_signals (g b.what).signals (g b.what).alarm) mid.processes = changed_same q g (with_signals (g b.what).signals (g b.what).alarm) mid.processes (rising_changed p f (λ r. refl) s.processes i.regular.rising) b.what b.found (only_noticed_of_change (child_signal me.pid w) b.what) in
              listed_with s t before after (p ∷ []) (p ∷ []) h
              (touches_both s mid t (p ∷ []) []
              (touches_unawaited s p f (keeps_lives l n) i.regular.rising me found (λ parent ne here.
              let same : b.what ≡ parent = same_Some _ _ (sym b.found ∙ lookup_other p q f (λ r. refl) ne s.processes parent here) in
              sym (awaits_noticed (child_signal me.pid w) parent (f me)) ∙ ap (λ r. awaits (g r) (f me)) (sym same) ∙ ap (λ r. awaits r (f me)) (sym its) ∙ none.0))
              (subst (λ rs. Touches mid (record mid { processes = rs }) []) (sym is_signals) (touches_signals mid q (g b.what).signals (g b.what).alarm (λ r here.
              ap takes_signal (same_Some _ _ (sym here ∙ ap (lookup q) (sym is_signals) ∙ there)) ∙ none.1))))
              (refl, refl, λ x u e. e) (omega (arith, many, h.room)) stay (stay p (rw found refl), tt) (λ x theirs e. inl e) (e ∙ ap (λ m. with_number m before.pids) mine) room
        ] refl is

-- the IDs of an existing process are in use
pub borne_of : (s : State) (pids : Pids) (places : Places) → IsSound s pids places → (p : ℕ) (r : Process) → lookup p s.processes ≡ Some r → AreBorne pids p r
borne_of s pids places i p r found =
    let bounds = i.regular.bounded p r found in
    are_borne pids p r s.processes i.kept.tallied found (omega (arith, bounds.pid, i.kept.greatest, pid_looked p s.processes r found)) (omega (arith, bounds.group, i.kept.greatest)) (omega (arith, bounds.session, i.kept.greatest))

-- and so is that of a group that has a member
group_borne : (s : State) (pids : Pids) (places : Places) → IsSound s pids places → (g : ℕ) → list_any (is_member g) s.processes ≡ true → is_free_in pids.rows g ≡ false
group_borne s pids places i g member =
    let it = some_looked (is_member g) s.processes i.regular.rising member in
    ap (is_free_in pids.rows) (sym (eqb-true it.0.group g it.2)) ∙ (borne_of s pids places i it.0.pid it.0 it.1).group

-- what the rows need for it
pub can_move_numbers : (s : State) (pids : Pids) (places : Places) → IsSound s pids places → (p : ℕ) (b c : Record) → lookup p s.processes ≡ Some (process_of p (parent_of p s.processes) b) → IsRegular (record s { processes = with_record s.processes p c })
    → (c.group ≡ b.group) ⊎ IsGroupFor p c.group s.processes → (c.session ≡ b.session) ⊎ (c.session ≡ p)
    → CanMoveNumbers pids (record_seen b) (record_seen c)
can_move_numbers s pids places i p b c found regular group session =
    let most = i.kept.greatest in
    let old = i.regular.bounded p (process_of p (parent_of p s.processes) b) found in
    let new = regular.bounded p (process_of p (parent_of p s.processes) c) (record_found s.processes p b c found) in
    let many = not_many s pids places i in
    let r : CanRegroup pids b.group b.session c.group c.session = can_regroup pids p c.group c.session (process_of p (parent_of p s.processes) b) s.processes i.kept.tallied (omega (arith, many)) found (omega (arith, old.group, most)) (omega (arith, old.session, most)) (omega (arith, new.group, most)) (omega (arith, new.session, most)) in
    let mine = borne_of s pids places i p (process_of p (parent_of p s.processes) b) found in
    let to_group_borne = ⊎_elim (λ same. ap (is_free_in pids.rows) same ∙ mine.group) (⊎_elim (λ own. ap (is_free_in pids.rows) own ∙ mine.own) (λ member. group_borne s pids places i c.group member)) group in
    let to_session_borne = ⊎_elim (λ same. ap (is_free_in pids.rows) same ∙ mine.session) (λ own. ap (is_free_in pids.rows) own ∙ mine.own) session in
    search (rules, arith)

-- ---- by what the closure did

-- A change was what f does, and its result says this of the process before.
pub record HasRun {T : Type 0} (f : Process → Process) (P : Process → T → Type 0) (rs ts : List Process) (p : ℕ) (r : T) : Type 0 where
  pub me : Named p rs
  pub is : ts ≡ changed p f rs
  pub says : P (record (me.what) { pid = p }) r

pub has_run : {F T : Type 0} {g : Once F (MutBor Record × Unit {0}) (T × (MutBor Record × Unit {0}))} {change : F} {rs ts : List Process} {p : ℕ} {r : T} (f : Process → Process) (P : Process → T → Type 0) → IsRun g change rs ts p r → IsRising rs → IsSome (lookup p rs)
    → ((b c : Record) (r : T) → FnOnceReturnsAtMut g change b r c → (q : ℕ) → (process_of p q c ≡ f (process_of p q b)) × P (process_of p q b) r) → HasRun f P rs ts p r
has_run {rs = rs} {p = p} {r = r} f P k up here did =
    let me = named_there p rs here in
    let both : Some (process_of p (parent_of p rs) k.before) ≡ Some (record (me.what) { pid = p }) = sym k.found ∙ me.found in
    let same : process_of p (parent_of p rs) k.before ≡ record (me.what) { pid = p } = cc in
    record { me = me; is = run_as f k up (λ b c r ran q. (did b c r ran q).0); says = subst (λ m. P m r) same (did k.before k.after r k.ran (parent_of p rs)).1 }

-- a regular state stays regular if the process is changed so that it does
pub stays_so : {F T : Type 0} {g : Once F (MutBor Record × Unit {0}) (T × (MutBor Record × Unit {0}))} {change : F} (p : ℕ) (f : Process → Process) (s : State) → (IsRegular s → IsRegular (change_of s p f))
    → ((b c : Record) (r : T) → FnOnceReturnsAtMut g change b r c → (q : ℕ) → process_of p q c ≡ f (process_of p q b)) → StaysRegular g change s p
stays_so p f s k did i b c r found ran = subst (λ rs. IsRegular (record s { processes = rs })) (sym (changed_here s.processes i.rising p b c f found (did b c r ran))) (k i)

-- so if everything stays that regularity asks for
pub stays_regular : {F T : Type 0} {g : Once F (MutBor Record × Unit {0}) (T × (MutBor Record × Unit {0}))} {change : F} (p : ℕ) (f : Process → Process) (s : State) → Keeps s.ticks f
    → ((b c : Record) (r : T) → FnOnceReturnsAtMut g change b r c → (q : ℕ) → process_of p q c ≡ f (process_of p q b)) → StaysRegular g change s p
stays_regular p f s k did = stays_so p f s (regular_change p f s k) did

-- p, this process, which is no zombie, lives so in the table mid, and this is its parent
pub record HasLived (s : State) (p parent : ℕ) (l : Life) (n : News) (me : Process) (mid : List Process) : Type 0 where
  pub found : process s p ≡ Some me
  pub living : is_zombie me.life ≡ false
  pub up : parent ≡ me.parent
  pub is : mid ≡ changed p (lives l n) s.processes

pub has_lived : {F : Type 0} {g : Once F (MutBor Record × Unit {0}) (Unit {0} × (MutBor Record × Unit {0}))} {change : F} {mid : List Process} {r : Unit {0}} (s t : State) (p parent : ℕ) (l : Life) (n : News) → s ≡ t → IsRegular s → (me : IsPlaced t.processes p) → IsRun g change s.processes mid p r
    → ((b c : Record) (r : Unit {0}) → FnOnceReturnsAtMut g change b r c → (q : ℕ) → process_of p q c ≡ lives l n (process_of p q b)) → parent ≡ parent_of p s.processes → HasLived s p parent l n me.what mid
has_lived s t p parent l n same i me run did its =
    let found = found_in s t same p me.what me.found in
    record { found = found; living = me.living; up = parent_is p parent s.processes me.what its found; is = run_as (lives l n) run i.rising did }

-- it stays in its process group and its session, and isn't revived
pub lived_put : {F : Type 0} {g : Once F (MutBor Record × Unit {0}) (Unit {0} × (MutBor Record × Unit {0}))} {change : F} {s : State} {p parent : ℕ} {l : Life} {n : News} {me : Process} {mid : List Process} → HasLived s p parent l n me mid → is_zombie l ≡ false
    → ((b c : Record) (r : Unit {0}) → FnOnceReturnsAtMut g change b r c → (q : ℕ) → process_of p q c ≡ lives l n (process_of p q b)) → StaysPut g change s.processes p
lived_put {s = s} {p = p} {l = l} {n = n} k on did = put_as p s.processes (lives l n) (λ r found. let living = ap (λ (q : Process). is_zombie q.life) (same_Some _ _ (sym found ∙ k.found)) ∙ k.living in grind (arith, on, living)) did

-- the processes and the recheck list once the parent was notified
pub record IsTold (s : State) (p w : ℕ) (f : Process → Process) (me : Process) (ts : List Process) (before after : List ℕ) : Type 0 where
  pub processes : ts ≡ told_of_change w me (changed p f s.processes)
  pub list : after ≡ rechecking_told (f me) (lookup me.parent ts) s.order before

-- the parent that is notified exists
pub told_there : {s : State} {pids : Pids} {places : Places} {p parent : ℕ} {l : Life} {n : News} {me : Process} {mid : List Process} → IsSound s pids places → HasLived s p parent l n me mid → not (parent == 0) ≡ true → IsSome (lookup parent mid)
told_there {s = s} {pids = pids} {places = places} {p = p} {parent = parent} {l = l} {n = n} {me = me} i k other =
    rw k.is (some_changed p parent (lives l n) (λ r. refl) s.processes (rw k.up (parent_there s pids places i p me k.found (λ root. differs parent 0 other (k.up ∙ root)))))

pub told_parent : {s : State} {pids : Pids} {places : Places} {p parent w : ℕ} {l : Life} {n : News} {me : Process} {mid ts : List Process} {seen : IndexedFields} {acts : Bool} {before put after : List ℕ} → IsSound s pids places → HasLived s p parent l n me mid → not (parent == 0) ≡ true
    → ts ≡ changed parent (noticed_of_change (child_signal p w)) mid → option_map seen_of (lookup p mid) ≡ Some seen → ((up it : Process) → lookup parent ts ≡ Some up → it.pid ≡ p → seen ≡ seen_of it → acts ≡ (awaits up it || takes_signal up))
    → put ≡ with_number p before → after ≡ cond acts (rechecking parent s.order put) put → IsTold s p w (lives l n) me ts before after
unfolding told_of_change
told_parent {s = s} {p = p} {parent = parent} {w = w} {l = l} {n = n} {me = me} {mid = mid} {ts = ts} {seen = seen} {acts = acts} {before = before} i k other told sees does put is = record {
  processes = rw (told, named, ← k.up, ← k.is) refl;
  list = is ∙ ap (λ ns. cond acts (rechecking parent s.order ns) ns) put ∙ by (lookup me.parent ts) refl;
}
  where
    named : me.pid ≡ p
    named = pid_looked p s.processes me k.found

    here : lookup p mid ≡ Some (lives l n me)
    here = ap (lookup p) k.is ∙ lookup_changed p p (lives l n) (λ r. refl) s.processes ∙ rw (eq-eqb p p refl, k.found) refl

    by : (o : Option Process) → lookup me.parent ts ≡ o → cond acts (rechecking parent s.order (with_number p before)) (with_number p before) ≡ rechecking_told (lives l n me) o s.order before
    by None none = let stays = subst IsSome (ap (lookup parent) (sym told) ∙ ap (λ q. lookup q ts) k.up ∙ none) (some_changed parent parent (noticed_of_change (child_signal p w)) (keeps_notice (child_signal p w)).pid mid (told_there i k other)) in absurd (cc)
    by (Some up) e =
        let at_parent : lookup parent ts ≡ Some up = ap (λ q. lookup q ts) k.up ∙ e in
        rw (does up (lives l n me) at_parent named (mapped_is (lookup p mid) seen_of (lives l n me) seen (sym sees) here), named, pid_looked parent ts up at_parent) refl

-- without a parent no process is notified
pub told_nobody : {s : State} {p parent w : ℕ} {l : Life} {n : News} {me : Process} {mid : List Process} {before after : List ℕ} → IsRegular s → HasLived s p parent l n me mid → not (parent == 0) ≡ false → after ≡ with_number p before → IsTold s p w (lives l n) me mid before after
unfolding told_of_change
told_nobody {s = s} {p = p} {parent = parent} {w = w} {l = l} {n = n} {me = me} {mid = mid} {before = before} i k root put =
    let rs = changed p (lives l n) s.processes in
    let none : lookup me.parent rs ≡ None = ap (λ q. lookup q rs) (sym k.up ∙ equals parent 0 root) ∙ absent_changed p (lives l n) (λ r. refl) 0 s.processes (nobody_0 s i) in
    record {
      processes = k.is ∙ sym (changed_absent me.parent (noticed_of_change (child_signal me.pid w)) rs none);
      list = put ∙ ap (λ q. with_number q before) (sym (pid_looked p s.processes me k.found)) ∙ ap (λ o. rechecking_told (lives l n me) o s.order before) (sym (ap (lookup me.parent) k.is ∙ none));
    }

pub machine_told : {groups_at_risk : PidSetView} {terminals : Terminals} {s : State} {pids : Pids} {places : Places} {before after : PidSetView} {p parent w : ℕ} {l : Life} {n : News} {me : Process} {mid ts : List Process} → HasLived s p parent l n me mid → is_zombie l ≡ false
    → IsMachine s pids places before groups_at_risk terminals → IsTold s p w (lives l n) me ts before.pids after.pids → after.room ≡ before.room → IsMachine (record s { processes = ts }) pids places after groups_at_risk terminals
unfolding told_of_change
machine_told {groups_at_risk = groups_at_risk} {terminals = terminals} {s = s} {pids = pids} {places = places} {before = before} {after = after} {p = p} {w = w} {l = l} {n = n} {me = me} k lives_on i told room =
    let f = lives l n in
    let signal = child_signal me.pid w in
    let g = noticed_of_change signal in
    let regular = regular_lives p f (record { pid = λ r. refl; parent = λ r. refl; group = λ r. refl; session = λ r. refl; living = λ r. lives_on; alarm = λ r. refl }) s me k.found k.living i.sound.regular in
    let put = told.list ∙ ap (λ rs. rechecking_told (f me) (lookup me.parent rs) s.order before.pids) told.processes in
    subst (λ rs. IsMachine (record s { processes = rs }) pids places after groups_at_risk terminals) (sym told.processes) (record {
      sound = sound_changed (change s p f) pids places me.parent g (keeps_notice signal) (regular_change me.parent g (change s p f) (keeps_noticed_of_change signal) regular) (sound_changed s pids places p f (keeps_lives l n) regular i.sound);
      listed = listed_told s pids places i.sound p w l n me k.found before after i.listed put room;
      noted = subst (λ n. IsNoted n groups_at_risk) (sym room) i.noted;
      fresh = fresh_on terminals.foregrounds_unchecked (change s p f) me.parent g (keeps_notice signal) (fresh_on terminals.foregrounds_unchecked s p f (keeps_lives l n) i.fresh);
      indexed = i.indexed;
      within = within_on me.parent g _ (keeps_notice signal) (within_on p f _ (keeps_lives l n) i.within);
    })

pub told_changes : {was old new : MachineView} {p parent w : ℕ} {l : Life} {n : News} {me : Process} {mid ts : List Process} {after : List ℕ} → was ≡ old → HasLived was.state p parent l n me mid → IsTold was.state p w (lives l n) me ts was.to_recheck after → new.state ≡ with_processes was.state ts → new.to_recheck ≡ after
    → new.foregrounds_unchecked ≡ was.foregrounds_unchecked → Costs 2 was new → IfThere p old (λ r. Changes 2 old new (with_processes old.state (told_of_change w r (changed p (lives l n) old.state.processes))) (rechecking_told (lives l n r) (process new.state r.parent) old.state.order old.to_recheck))
told_changes {was = was} {new = new} {p = p} {w = w} {l = l} {n = n} {me = me} same k told state list still costs =
    subst (λ old. IfThere p old (λ r. Changes 2 old new (with_processes old.state (told_of_change w r (changed p (lives l n) old.state.processes))) (rechecking_told (lives l n r) (process new.state r.parent) old.state.order old.to_recheck))) same (λ r there.
    subst (λ r. Changes 2 was new (with_processes was.state (told_of_change w r (changed p (lives l n) was.state.processes))) (rechecking_told (lives l n r) (process new.state r.parent) was.state.order was.to_recheck)) (same_Some _ _ (sym k.found ∙ there)) (record {
      state = state ∙ ap (with_processes was.state) told.processes;
      to_recheck = list ∙ told.list ∙ ap (λ (t : State). rechecking_told (lives l n me) (process t me.parent) was.state.order was.to_recheck) (sym state);
      foregrounds_unchecked = still;
      costs = costs;
    }))

-- What became of the processes rs when a parent was notified, and whether that may make it runnable: it waits for the
-- child that is seen so, or has a chosen signal.
pub record IsNoticed (rs ts : List Process) (parent child w : ℕ) (seen : IndexedFields) (result : Bool) : Type 0 where
  pub processes : ts ≡ changed parent (noticed_of_change (child_signal child w)) rs
  pub acts : (me it : Process) → lookup parent ts ≡ Some me → it.pid ≡ child → seen ≡ seen_of it → result ≡ (awaits me it || takes_signal me)

pub is_noticed : {F : Type 0} {g : Once F (MutBor Record × Unit {0}) (Bool × (MutBor Record × Unit {0}))} {change : F} {rs ts : List Process} {p : ℕ} {b t : Bool} (child w : ℕ) (seen : IndexedFields) (acts : Bool) (signal : PendingSignal) → signal ≡ child_signal child w → IsRun g change rs ts p b → IsRising rs → IsSome (lookup p rs)
    → ((d e : Record) (r : Bool) → FnOnceReturnsAtMut g change d r e → (q : ℕ) → (process_of p q e ≡ noticed_of_change signal (process_of p q d)) × ((it : Process) → it.pid ≡ child → seen ≡ seen_of it → r ≡ awaits (noticed_of_change signal (process_of p q d)) it))
    → option_map takes_signal (lookup p ts) ≡ Some t → acts ≡ (b || t) → IsNoticed rs ts p child w seen acts
is_noticed {rs = rs} {p = p} child w seen acts signal is run up here did takes both =
    let f = noticed_of_change signal in
    let ran = has_run f (λ r b. (it : Process) → it.pid ≡ child → seen ≡ seen_of it → b ≡ awaits (f r) it) run up here did in
    let was = ap (lookup p) ran.is ∙ lookup_changed p p f (keeps_notice signal).pid rs ∙ rw (eq-eqb p p refl, ran.me.found) refl in
    record {
      processes = ran.is ∙ ap (λ (x : PendingSignal). changed p (noticed_of_change x) rs) is;
      acts = λ me it found named sees.
          let same : me ≡ f (record (ran.me.what) { pid = p }) = same_Some _ _ (sym found ∙ was) in
          let signal : takes_signal me ≡ _ = same_Some _ _ (ap (option_map takes_signal) (sym found) ∙ takes) in
          both ∙ rw (ran.says it named sees, sym signal) (ap (λ r. awaits r it || takes_signal me) (sym same));
    }

-- ---- the list of those to recheck

-- a number that is inserted twice is in once
pub with_twice : (n : ℕ) (ns : List ℕ) → with_number n (with_number n ns) ≡ with_number n ns
unfolding with_number
with_twice n [] = grind (arith)
with_twice n (m ∷ ns) = grind (arith, with_twice n ns)

-- even if it left the run queue
pub with_lost : (t : Bool) (p : ℕ) (ns : List ℕ) → with_number p (cond t (with_number p ns) ns) ≡ with_number p ns
with_lost true p ns = with_twice p ns
with_lost false p ns = refl

-- so for a child that was stopped
pub told_lost : (t : Bool) (p : ℕ) (child : Process) → child.pid ≡ p → (parent : Option Process) (order ns : List ℕ) → rechecking_told child parent order (cond t (with_number p ns) ns) ≡ rechecking_told child parent order ns
told_lost t p child named parent order ns = by parent (ap (λ q. with_number q (cond t (with_number p ns) ns)) named ∙ with_lost t p ns ∙ ap (λ q. with_number q ns) (sym named))
  where
    by : (parent : Option Process) → with_number child.pid (cond t (with_number p ns) ns) ≡ with_number child.pid ns → rechecking_told child parent order (cond t (with_number p ns) ns) ≡ rechecking_told child parent order ns
    by None e = e
    by (Some up) e = ap (λ l. cond (awaits up child || takes_signal up) (rechecking up.pid order l) l) e

-- a signal that was generated doesn't change which process is notified of a change
pub told_signalled : (w : ℕ) (signal : PendingSignal) (r : Process) (rs : List Process) → told_of_change w (signalled signal r) rs ≡ told_of_change w r rs
unfolding told_of_change signalled
told_signalled w signal r rs = refl

-- a signal was generated for p, which does nothing more
pub signal_ends : (signal : PendingSignal) (p : ℕ) (old new : MachineView) (r : Process) → process old.state p ≡ Some (record r { pid = p }) → effect.Nothing ≡ effect_of p r.life signal r.signals → new.state ≡ change old.state p (signalled signal)
    → new.to_recheck ≡ rechecking_by_signals (process new.state p) old.state.order old.to_recheck → new.foregrounds_unchecked ≡ old.foregrounds_unchecked → Costs 1 old new → Changes (slots_of_signal signal.sig) old new (record (old.state) { processes = generated_for signal (process old.state p) old.state.processes }) (rechecking_generated signal (process old.state p) old.state.processes old.state.order old.to_recheck)
signal_ends signal p old new r found does state list still costs = record {
  foregrounds_unchecked = still;
  state = state ∙ ap (λ rs. record (old.state) { processes = rs }) (sym (generated_as signal p old.state.processes (record r { pid = p }) effect.Nothing found (sym does)));
  to_recheck =
      let it = record r { pid = p } in
      list ∙ ap (λ o. rechecking_by_signals o old.state.order old.to_recheck) (ap (λ (t : State). process t p) state ∙ lookup_signalled signal it p old.state.processes found)
      ∙ ap (λ w. rechecking_effect w (signalled signal it) (generated_for signal (Some it) old.state.processes) old.state.order (rechecking_by_signals (Some (signalled signal it)) old.state.order old.to_recheck)) does
      ∙ ap (λ o. rechecking_generated signal o old.state.processes old.state.order old.to_recheck) (sym found);
  costs = record { visits = grind (arith, costs.visits); no_fewer = costs.no_fewer; groups_at_risk = costs.groups_at_risk; regular = costs.regular };
}

-- or continues it
pub signal_continues : (signal : PendingSignal) (p : ℕ) (old mid new : MachineView) (r : Process) → process old.state p ≡ Some (record r { pid = p }) → effect.Continued ≡ effect_of p r.life signal r.signals → mid.state ≡ change old.state p (signalled signal)
    → mid.to_recheck ≡ rechecking_by_signals (process mid.state p) old.state.order old.to_recheck → mid.foregrounds_unchecked ≡ old.foregrounds_unchecked → Costs 1 old mid
    → IfThere p mid (λ me. Changes 2 mid new (record (mid.state) { processes = told_of_change continued me (changed p resumed mid.state.processes) }) (rechecking_told (resumed me) (process new.state me.parent) mid.state.order mid.to_recheck))
    → Changes (slots_of_signal signal.sig) old new (record (old.state) { processes = generated_for signal (process old.state p) old.state.processes }) (rechecking_generated signal (process old.state p) old.state.processes old.state.order old.to_recheck)
signal_continues signal p old mid new r found does state list still costs continues =
    let s = old.state in
    let it = record r { pid = p } in
    let child = signalled signal it in
    let here = lookup_signalled signal it p s.processes found in
    let then = (rw (list, state) at (continues child)) here in
    let cont : (signal.sig == 18) ≡ true = continued_cont p signal it (sym does) in
    let told : new.state ≡ record s { processes = generated_for signal (process s p) s.processes } =
    then.state ∙ ap (λ rs. record s { processes = rs }) (told_signalled continued signal it (changed p resumed (changed p (signalled signal) s.processes)) ∙ sym (generated_as signal p s.processes it effect.Continued found (sym does))) in
    record {
      state = told;
      to_recheck =
          rw (told, here) at then.to_recheck
          ∙ ap (λ o. rechecking_told (resumed child) (lookup child.parent (generated_for signal o s.processes)) s.order (rechecking_by_signals (Some child) s.order old.to_recheck)) found
          ∙ ap (λ w. rechecking_effect w child (generated_for signal (Some it) s.processes) s.order (rechecking_by_signals (Some child) s.order old.to_recheck)) does
          ∙ ap (λ o. rechecking_generated signal o s.processes s.order old.to_recheck) (sym found);
      foregrounds_unchecked = then.foregrounds_unchecked ∙ still;
      costs = record { visits = rw cont (omega (arith, costs.visits, then.costs.visits)); no_fewer = le_trans costs.no_fewer then.costs.no_fewer; groups_at_risk = then.costs.groups_at_risk ∙ costs.groups_at_risk; regular = costs.regular };
    }
