-- A machine that gets another console at an index.
use Rattle.std.proofs.Common.{◌≡◌, ◌≢◌, ℕ, Bool, suc, ◌+◌, ◌*◌, ◌≤◌, ◌==◌, true, false, cond, not, ◌&&◌, ◌||◌, refl, ap, sym, ◌∙◌, arith, subst, List, [], ◌∷◌, Option, Some, None, is_some, length, slice_get, slice_set, slice_index_or, inl, inr, ⊎_elim, rules}
use Rattle.std.proofs.lemmas.Bool.{false_from_ne_true, true_from_ne_false, or_cases, eqb-true, eqb-false, and_parts, not-true, or_right, cond_both, both_ways}
use Rattle.std.proofs.lemmas.Option.{get_or_from_slice_get, same_Some}
use Rattle.std.specs.Borrow.{MutBor}
use Rattle.std.specs.Fn.{Once, FnOnceReturnsAtMut}
use Rattle.posix.specs.declared.process.Blocked.{Blocked}
use Rattle.posix.specs.declared.process.Blocked.TheVariants as blocked
use Rattle.posix.specs.Common.{HUP, Process, is_running, State, process, is_in, has_place, Console, console_of, changed_console, key_signal, signal_typed, keyed, edit, flushed, finish_line, session_told, disconnected, released, chosen, from_kernel, attempt_again, is_reader, is_in_read, waits_on, waits_to_read, signalled_group, hang_up, hung_up, generated_for, signalled_all, signalled_from, key, hangup, can_act, can_go_on, IsRegular, AreConsoles, members_in}
use Rattle.posix.proofs.TableLemmas.{pid_looked}
use Rattle.posix.proofs.SeeLemmas.{block_read, acts_reading}
use Rattle.posix.proofs.ConsoleLemmas.{consoles_set, consoles_freed, consoles_acquired, none_of, changed_at_place, regular_consoles, console_is, changed_none}
use Rattle.posix.proofs.ReaderLemmas.{IsOfOrFree, console_of_set, touches_unread}
use Rattle.posix.proofs.RealtimeLemmas.{key_standard}
use Rattle.pidalloc.specs.Rows.{Pids}
use Rattle.pidalloc.specs.Places.{Places}
use Rattle.pidset.specs.Lists.{ListsView}
use Rattle.pidset.specs.Numbers.{PidSetView}
use Rattle.life.specs.Machines.{AreTerminals, IsListed, IsMachine, MachineView}
use Rattle.life.proofs.TerminalLemmas.{terminals_put}
use Rattle.pidset.specs.declared.index.Pair.{Pair}
use Rattle.pidset.specs.Indexes.{IsMoved}
use Rattle.proctable.specs.Records.{snapshot_of}
use Rattle.life.specs.Consoles.{AreReaders, CanBecome, HasChanged, IsTerminalIndex, hangs_up, slots_of_key, slots_of_hangup}
use Rattle.life.specs.Rechecks.{slots_of_signal}
use Rattle.life.proofs.ForegroundLemmas.{fresh_alike, fresh_put}
use Rattle.life.proofs.RecheckLemmas.{watched_alike}
use Rattle.life.specs.declared.consoles.Unchecked.{Unchecked}
use Rattle.life.specs.Foregrounds.{AreFreshBut}

-- the state with another console at an index
abbrev pub put : State → ℕ → Console → State
put s k d = record s { consoles = slice_set s.consoles k d }

-- The console can become this one: a session has at most one console, and each process that this makes runnable is on
-- the recheck list or in the run queue.
pub record CanPut (s : State) (to_recheck : List ℕ) (k : ℕ) (d : Console) : Type 0 where
  pub apart : AreConsoles s.world.consoles (slice_set s.consoles k d)
  pub acts : (p : ℕ) (r : Process) → process s p ≡ Some r → has_place s p ≡ false → is_in p to_recheck ≡ false → can_act (put s k d) r ≡ true → can_act s r ≡ true

-- ---- the machine

-- a runnable process that is not in the run queue is on the list
on_list : {readers : ListsView} (s : State) (l : PidSetView) (p : ℕ) (r : Process) → IsListed s l readers → process s p ≡ Some r → has_place s p ≡ false → can_act s r ≡ true → is_in p l.pids ≡ true
on_list s l p r h found out acts =
    let unplaced : is_in r.pid s.order ≡ false = ap (λ n. is_in n s.order) (pid_looked p s.processes r found) ∙ out in
    h.covers p r found (rw (unplaced, acts) refl)

listed_put : {readers : ListsView} (s : State) (l : PidSetView) (k : ℕ) (d : Console) → IsListed s l readers → CanPut s l.pids k d → IsListed (put s k d) l readers
listed_put s l k d h can = record {
  covers = λ p r found w.
      let awake = and_parts (not (is_in r.pid s.order)) _ w in
      let out : is_in p s.order ≡ false = ap (λ n. is_in n s.order) (sym (pid_looked p s.processes r found)) ∙ not-true _ awake.0 in
      true_from_ne_false _ (λ e. both_ways _ e (on_list s l p r h found out (can.acts p r found out e awake.1)));
  rising = h.rising;
  there = h.there;
  room = h.room;
  watched = watched_alike s _ _ h.watched;
}

-- the machine stays one
pub machine_put : (s : State) (pids : Pids) (places : Places) (to_recheck : PidSetView) (groups_at_risk : PidSetView) (readers : ListsView) (before after : Unchecked) (was now : List Pair) (k : ℕ) (d : Console)
    → IsMachine s pids places to_recheck groups_at_risk (record { readers = readers; foregrounds_unchecked = before; terminals = was }) → CanPut s to_recheck.pids k d → AreFreshBut after s.processes (slice_set s.consoles k d) → AreTerminals (slice_set s.consoles k d) now
    → IsMachine (put s k d) pids places to_recheck groups_at_risk (record { readers = readers; foregrounds_unchecked = after; terminals = now })
machine_put s pids places to_recheck groups_at_risk readers before after was now k d h can fresh terminals =
    let regular = regular_consoles s _ h.sound.regular can.apart in
    let listed = listed_put s to_recheck k d h.listed can in
    search rules

-- ---- which consoles can be put

-- what a test of a reader says
pub record IsReading (session : ℕ) (r : Process) : Type 0 where
  pub runs : is_running r.life ≡ true
  pub visits : is_in_read r.blocked ≡ true
  pub own : r.session ≡ session

pub reader_is : (session : ℕ) (r : Process) → is_reader session r ≡ true → IsReading session r
reader_is session r h =
    let a = and_parts (is_running r.life) (is_in_read r.blocked && r.session == session) h in
    let b = and_parts (is_in_read r.blocked) (r.session == session) a.1 in
    record { runs = a.0; visits = b.0; own = eqb-true r.session session b.1 }

-- one with the same session and foreground process group, and no line if there was none
pub put_unread : {readers : ListsView} (s : State) (l : PidSetView) (k : ℕ) (c d : Console) → IsRegular s → IsListed s l readers → slice_get s.consoles k ≡ Some c
    → d.session ≡ c.session → d.foreground ≡ c.foreground → d.hung_up ≡ c.hung_up → (c.lines ≡ [] → d.lines ≡ []) → CanPut s l.pids k d
unfolding is_in
put_unread s l k c d i h at owner foreground hung lines = record {
  apart = consoles_set s.world.consoles s.consoles k c d at owner i.consoles;
  acts = λ p r found out unasked acts.
      let u = touches_unread s k c d at owner foreground hung lines p r found refl in
      let was = u.found in
      let same : u.old ≡ r = cc in
      ap (can_act s) (sym same) ∙ u.acts acts;
}

-- if its blocked readers are on the recheck list, it can become one with the same session, or with none
put_rechecked : {readers : ListsView} (s : State) (l : PidSetView) (k : ℕ) (c d : Console) → IsRegular s → IsListed s l readers → slice_get s.consoles k ≡ Some c
    → AreReaders s c.session l.pids → IsOfOrFree c.session d → CanPut s l.pids k d
unfolding waits_to_read
put_rechecked s l k c d i h at to_recheck kind = record {
  apart = ⊎_elim (λ same. consoles_set s.world.consoles s.consoles k c d at same i.consoles) (λ free. consoles_freed s.world.consoles s.consoles k d free i.consoles) kind;
  acts = λ p r found out unasked acts. acts_reading s (put s k d) r refl (λ runs visits w.
      elim (r.session == c.session) as (λ b. (r.session == c.session) ≡ b → waits_to_read (slice_set s.consoles k d) r ≡ true) [
        | true ↦ λ e. absurd (let reader : is_reader c.session r ≡ true = rw (runs, visits, e) refl in both_ways _ unasked (to_recheck p r found reader out))
        | false ↦ λ e. ap (waits_on r) (console_of_set r.session k c d s.consoles at (λ same. eqb-false _ _ e (sym same)) (others r d (i.bounded p r found).session_least (eqb-false _ _ e) kind)) ∙ w
      ] refl) acts;
}
  where
    others : (r : Process) (d : Console) → 1 ≤ r.session → r.session ≢ c.session → IsOfOrFree c.session d → d.session ≢ r.session
    others r d least ne (inl h) same = ne (sym same ∙ h)
    others r d least ne (inr h) same = omega (arith, h, same, least)

-- a reader that has no line to wait for is runnable
pub reads_on : (s : State) (r : Process) → is_running r.life ≡ true → is_in_read r.blocked ≡ true → waits_to_read s.consoles r ≡ false → can_act s r ≡ true
unfolding can_act attempt_again
reads_on s r runs visits none =
    let on : (is_running r.life && (can_go_on s r r.blocked || is_some (chosen r.life r.signals))) ≡ true = rw (runs, goes r.blocked visits) refl in
    or_right _ _ on
  where
    goes : (b : Option Blocked) → is_in_read b ≡ true → can_go_on s r b ≡ true
    goes (Some blocked.Read) e = ap not (block_read s r ∙ none)
    goes b e = absurd (cc)

-- a console of no session can become that of a session that had none, whose reads failed and needn't wait
put_acquired : {readers : ListsView} (s : State) (l : PidSetView) (k : ℕ) (c d : Console) → IsRegular s → IsListed s l readers → slice_get s.consoles k ≡ Some c
    → c.session ≡ 0 → console_of d.session s.consoles ≡ None → CanPut s l.pids k d
unfolding waits_to_read
put_acquired {readers = readers} s l k c d i h at free none = record {
  apart = consoles_acquired s.world.consoles s.consoles k d none i.consoles;
  acts = λ p r found out unasked acts. acts_reading s (put s k d) r refl (λ runs visits w.
      elim (r.session == d.session) as (λ b. (r.session == d.session) ≡ b → waits_to_read (slice_set s.consoles k d) r ≡ true) [
        | true ↦ λ e. absurd (both_ways _ (no_wait r (eqb-true _ _ e)) w)
        | false ↦ λ e. ap (waits_on r) (console_of_set r.session k c d s.consoles at (nobody r (i.bounded p r found).session_least) (λ same. eqb-false _ _ e (sym same))) ∙ w
      ] refl) acts;
}
  where
    no_wait : (r : Process) → r.session ≡ d.session → waits_to_read s.consoles r ≡ false
    no_wait r e = ap (λ n. waits_on r (console_of n s.consoles)) e ∙ ap (waits_on r) none

    nobody : (r : Process) → 1 ≤ r.session → c.session ≢ r.session
    nobody r least same = omega (arith, free, same, least)

-- ---- what a console can become

-- the machine stays one
pub machine_became : {pids : Pids} {places : Places} {groups_at_risk : PidSetView} {was now : List Pair} (m : MachineView) (to_recheck : PidSetView) (k : ℕ) (c d : Console) → to_recheck.pids ≡ m.to_recheck → slice_get m.state.consoles k ≡ Some c → CanBecome m k c d
    → IsMachine m.state pids places to_recheck groups_at_risk (record { readers = m.readers; foregrounds_unchecked = m.foregrounds_unchecked; terminals = was }) → IsMoved (k + 1) (Some d.session) was now
    → IsMachine (put m.state k d) pids places to_recheck groups_at_risk (record { readers = m.readers; foregrounds_unchecked = m.foregrounds_unchecked; terminals = now })
machine_became m to_recheck k c d list at h i moved = machine_put _ _ _ _ _ _ _ _ _ _ k d i
    (⊎_elim (λ quiet. put_unread _ _ k c d i.sound.regular i.listed at quiet.0.0 quiet.0.1 quiet.1 quiet.2) (λ those. rechecked (subst (AreReaders m.state c.session) (sym list) those)) h.readers)
    (⊎_elim (λ same. fresh_alike m.foregrounds_unchecked m.state.processes _ k c d at same.0 same.1 i.fresh) (fresh_put m.foregrounds_unchecked m.state.processes _ k d i.fresh) h.foreground)
    (terminals_put _ k c d _ _ at moved i.indexed)
  where
    rechecked : AreReaders m.state c.session to_recheck.pids → CanPut m.state to_recheck.pids k d
    rechecked theirs = ⊎_elim (λ same. put_rechecked _ _ k c d i.sound.regular i.listed at theirs (inl same))
        (λ other. ⊎_elim (λ free. put_rechecked _ _ k c d i.sound.regular i.listed at theirs (inr free)) (λ new. put_acquired _ _ k c d i.sound.regular i.listed at new.0 new.1) other) h.session

-- ---- the console at an index

-- what was read there is the one that was found
pub found_there : {cs ds : List Console} {c d : Console} (k : ℕ) (other : Console) → cs ≡ ds → slice_get cs k ≡ Some c → d ≡ slice_index_or ds k other → (slice_get ds k ≡ Some c) × (d ≡ c)
found_there {ds = ds} {c = c} k other all at read = let here = ap (λ cs. slice_get cs k) (sym all) ∙ at in (here, read ∙ get_or_from_slice_get ds k c other here)

-- ---- the console of a session

-- it is changed at its index
pub put_changed : (s : State) (k session : ℕ) (c : Console) (f : Console → Console) → IsRegular s → slice_get s.consoles k ≡ Some c → c.session ≡ session → session ≢ 0
    → put s k (f c) ≡ record s { consoles = changed_console session f s.consoles }
put_changed s k session c f i at own some = ap (λ cs. record s { consoles = cs }) (sym (changed_at_place s.world.consoles s.consoles k session c f i.consoles at own some))

-- by a closure that does so
pub terminal_changed : {F T : Type 0} {g : Once F (MutBor Console × Unit {0}) (T × (MutBor Console × Unit {0}))} {change : F} (s t : State) (k : ℕ) (o : Option T) (session : ℕ) (f : Console → Console) → IsRegular s
    → session ≢ 0 → IsTerminalIndex session s.consoles (Some k) → HasChanged g change s t k o → ((c d : Console) (r : T) → FnOnceReturnsAtMut g change c r d → d ≡ f c) → t ≡ record s { consoles = changed_console session f s.consoles }
terminal_changed s t k o session f i some it h did =
    let run = rw it.1 at h in
    run.4 ∙ ap (put s k) (did it.0 run.0 run.1 run.3) ∙ put_changed s k session it.0 f i it.1 it.3 some

-- and nothing is changed if it has none
pub none_changed : (t : State) (session : ℕ) (f : Console → Console) → console_of session t.consoles ≡ None → t ≡ record t { consoles = changed_console session f t.consoles }
unfolding changed_console
none_changed t session f none = ap (λ cs. record t { consoles = cs }) (sym (changed_none session f t.consoles (none_of session t.consoles none)))

-- ---- keys

-- a key leaves the foreground process group
pub foreground_keyed : (byte : ℕ) (c : Console) → (keyed byte c).foreground ≡ c.foreground
unfolding keyed edit finish_line flushed
foreground_keyed byte c = grind arith

-- and leaves whether the console is hung up
pub hung_up_keyed : (byte : ℕ) (c : Console) → (keyed byte c).hung_up ≡ c.hung_up
unfolding keyed edit finish_line flushed
hung_up_keyed byte c = grind arith

-- a signal that is typed is that of its key
pub typed_key : (byte n : ℕ) (c : Console) → Some n ≡ signal_typed byte c → Some n ≡ key_signal byte
unfolding signal_typed
typed_key byte n c = elim c.hung_up as (λ b. Some n ≡ cond b None (key_signal byte) → Some n ≡ key_signal byte) [ true ↦ λ e. absurd (cc) | false ↦ λ e. e ]

-- and finishes no line but by NL and EOF
pub lines_keyed : (byte : ℕ) (c : Console) → (byte == 10) ≡ false → (byte == 4) ≡ false → c.lines ≡ [] → (keyed byte c).lines ≡ []
unfolding keyed edit flushed
lines_keyed byte c newline eof none = grind (arith, newline, eof, none)

-- on a console that isn't there nothing happens
pub key_nowhere : (s : State) (console byte : ℕ) → console ≡ 0 → s ≡ key s console byte
unfolding key
key_nowhere s console byte none = rw none refl

pub key_past : (s : State) (console k byte : ℕ) → console ≡ suc k → slice_get s.consoles k ≡ None → s ≡ key s console byte
unfolding key
key_past s console k byte number none = rw (number, none) refl

-- on one that is, its input and the process group in its foreground
pub key_on_it : (s : State) (console k byte : ℕ) (c : Console) (signal : Option ℕ) (group : ℕ) → console ≡ suc k → slice_get s.consoles k ≡ Some c → signal ≡ signal_typed byte c → group ≡ c.foreground
    → record (put s k (keyed byte c)) { processes = signalled_from signal group s.processes } ≡ key s console byte
unfolding key
key_on_it s console k byte c signal group number found same foreground = rw (number, found, same, foreground) refl

-- ---- hangups

-- on a console that isn't there nothing happens
pub hangup_nowhere : (s : State) (console : ℕ) → console ≡ 0 → s ≡ hangup s console
unfolding hangup
hangup_nowhere s console none = rw none refl

pub hangup_past : (s : State) (console k : ℕ) → console ≡ suc k → slice_get s.consoles k ≡ None → s ≡ hangup s console
unfolding hangup
hangup_past s console k number none = rw (number, none) refl

-- on a console that isn't hung up: its input, and the leader of the session that is notified
pub hangup_told : (s : State) (console k : ℕ) (c : Console) (leader : ℕ) → console ≡ suc k → slice_get s.consoles k ≡ Some c → Some leader ≡ session_told c
    → record (put s k (disconnected c)) { processes = generated_for (record { sig = HUP; carried = from_kernel }) (process s leader) s.processes } ≡ hangup s console
unfolding hangup signalled_all
hangup_told s console k c leader number found told = rw (number, found) (by (not c.hung_up && not (c.session == 0)) told)
  where
    by : (b : Bool) → Some leader ≡ cond b (Some c.session) None
        → record (put s k (disconnected c)) { processes = generated_for (record { sig = HUP; carried = from_kernel }) (process s leader) s.processes }
        ≡ record (put s k (disconnected c)) { processes = cond b (signalled_all (record { sig = HUP; carried = from_kernel }) (c.session ∷ []) s.processes) s.processes }
    by true e = ap (λ n. record (put s k (disconnected c)) { processes = generated_for (record { sig = HUP; carried = from_kernel }) (process s n) s.processes }) (same_Some _ _ e)
    by false e = absurd (cc)

pub hangup_untold : (s : State) (console k : ℕ) (c : Console) → console ≡ suc k → slice_get s.consoles k ≡ Some c → None ≡ session_told c → put s k (disconnected c) ≡ hangup s console
unfolding hangup
hangup_untold s console k c number found told = rw (number, found) (by (not c.hung_up && not (c.session == 0)) told)
  where
    by : (b : Bool) → None ≡ cond b (Some c.session) None → put s k (disconnected c) ≡ record (put s k (disconnected c)) { processes = cond b (signalled_all (record { sig = HUP; carried = from_kernel }) (c.session ∷ []) s.processes) s.processes }
    by true e = absurd (cc)
    by false e = refl

-- a hangup leaves a console to its session, with its foreground process group
pub foreground_disconnected : (c : Console) → (disconnected c).foreground ≡ c.foreground
unfolding disconnected flushed
foreground_disconnected c = grind arith

-- process 1 hangs up nothing, nor does another that leads no session, or one without a terminal
pub others_stay : (s : State) (me : Process) → hangs_up (snapshot_of me) ≡ false → s ≡ hang_up s me
unfolding hang_up
others_stay s me e = ap (λ b. cond b (hung_up s me.session (console_of me.session s.consoles)) s) (sym e)

pub none_stays : (s : State) (me : Process) → console_of me.session s.consoles ≡ None → s ≡ hang_up s me
unfolding hang_up
none_stays s me none = rw none (sym (cond_both (not (me.pid == 1) && me.session == me.pid) s s (λ t. t ≡ s) (λ e. refl) (λ e. refl)))

-- a process that hangs up a terminal leads the session with its own ID
pub leads_own : (s : State) (p : ℕ) (me : Process) → process s p ≡ Some me → hangs_up (snapshot_of me) ≡ true → me.session ≡ p
leads_own s p me found leads = eqb-true me.session me.pid (and_parts (not (me.pid == 1)) _ leads).1 ∙ pid_looked p s.processes me found

-- nothing is hung up if no session with the process's ID has a terminal
pub unled_stays : (s : State) (p : ℕ) (me : Process) → process s p ≡ Some me → console_of p s.consoles ≡ None → s ≡ hang_up s me
unled_stays s p me found none = elim (hangs_up (snapshot_of me)) as (λ b. hangs_up (snapshot_of me) ≡ b → s ≡ hang_up s me) [
  | true ↦ λ e. none_stays s me (ap (λ n. console_of n s.consoles) (leads_own s p me found e) ∙ none)
  | false ↦ λ e. others_stay s me e
] refl

-- the leader of a session that has one
pub leader_hangs_up : (s : State) (k p : ℕ) (me : Process) (c : Console) → IsRegular s → process s p ≡ Some me → hangs_up (snapshot_of me) ≡ true → slice_get s.consoles k ≡ Some c → c.session ≡ me.session
    → put (record s { processes = signalled_group HUP c.foreground s.processes }) k (released c) ≡ hang_up s me
unfolding hang_up
leader_hangs_up s k p me c i found leads at own = grind (arith, i, found, leads, at, own, changed_at_place, console_is)

-- ---- how many slots are read

-- no key that generates a signal ends a line
pub key_is_no_end : (byte : ℕ) → key_signal byte ≢ None → (byte == 10 || byte == 4) ≡ false
unfolding key_signal
key_is_no_end byte some = false_from_ne_true _ (λ e. ⊎_elim (λ k. some (rw (eqb-true byte 10 k) refl)) (λ k. some (rw (eqb-true byte 4 k) refl)) (or_cases _ _ e))

-- if a key generates a signal
pub slots_of_signalled : (m : MachineView) (console k byte sig group : ℕ) (c : Console) (rs : List Process) → console ≡ suc k → slice_get m.state.consoles k ≡ Some c → Some sig ≡ signal_typed byte c → group ≡ c.foreground → rs ≡ m.state.processes
    → slots_of_signal sig * length (members_in group rs) ≤ slots_of_key console byte m
slots_of_signalled m console k byte sig group c rs number found typed foreground same =
    let signal = typed_key byte sig c typed in
    rw (number, found, ← signal, foreground, same, (key_standard byte sig (sym signal)).1) (omega arith)

-- if a session's terminal hangs up
pub slots_hung_up : (m : MachineView) (me : Process) (k group : ℕ) (c : Console) (rs : List Process) → hangs_up (snapshot_of me) ≡ true → rs ≡ m.state.processes → slice_get m.state.consoles k ≡ Some c
    → console_of me.session m.state.consoles ≡ Some c → group ≡ c.foreground → 1 + slots_of_signal HUP * length (members_in group rs) ≤ 1 + slots_of_hangup me m
slots_hung_up m me k group c rs leads same at is foreground = rw (leads, same, is, foreground) (omega arith)
