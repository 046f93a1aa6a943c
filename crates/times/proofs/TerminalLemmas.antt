-- Shows that terminals don't depend on the time: calls on them, keys and hangups.
use Rattle.std.proofs.Common.{◌≡◌, ℕ, Bool, true, false, cond, ◌||◌, ◌==◌, not, List, [], ◌∷◌, length, take, Option, Some, None, refl, ap, ◌∙◌}
use Rattle.std.specs.Prelude.{ℤ, pos, negsuc, Result, Ok, Err, slice_get, slice_set}
use Rattle.posix.specs.SignalNumbers.{HUP, TTIN, TTOU}
use Rattle.posix.specs.Processes.{Process, argument}
use Rattle.posix.specs.States.{State, change}
use Rattle.posix.specs.Choice.{from_kernel}
use Rattle.posix.specs.Notices.{signalled_all}
use Rattle.posix.specs.Groups.{is_orphaned}
use Rattle.posix.specs.GroupCalls.{is_group_of}
use Rattle.posix.specs.Consoles.{Console, console_at, with_console, acquired, with_foreground, with_tostop, line_taken, keyed, signal_typed, is_told, disconnected}
use Rattle.posix.specs.Transfers.{span_in, bytes_in}
use Rattle.posix.specs.Outcomes.{Attempted, Done, Again, finish_with, refused}
use Rattle.posix.specs.Terminals.{terminal, change_console, is_in_background, blocks_or_ignores, signal_own_group, if_allowed, console_named, may_acquire, setctty_of, setctty_at, setctty, foreground_told, tcgetpgrp_on, tcgetpgrp, put_foreground, tcsetpgrp_on, tcsetpgrp, is_nonzero, settostop_on, settostop, finish_moved, with_bytes, read_from, read_in, read_on, read, write_in, write_on, write}
use Rattle.posix.specs.Step.{signalled_from, key_on, key, with_leader_told, hangup_on, hangup}
use Rattle.posix.specs.declared.call.Call.{Call}
use Rattle.posix.specs.declared.call.Call.TheVariants.{Setctty, Tcgetpgrp, Tcsetpgrp, Settostop, Read, Write}
use Rattle.posix.specs.declared.entry.Entry.TheVariants.{Moved}
use Rattle.posix.specs.declared.errno.Errno.{Errno}
use Rattle.posix.specs.declared.errno.Errno.TheVariants.{EPERM, ENOENT, EIO, EINVAL, ENOTTY}
use Rattle.posix.specs.declared.process.PendingSignal.{PendingSignal}
use Rattle.posix.specs.declared.span.Span.{Span}
use Rattle.times.specs.Times.{later, all_later, state_later}
use Rattle.times.proofs.SignalLemmas.{signalled_all_later}
use Rattle.times.proofs.CallLemmas.{attempted_later}
use Rattle.times.proofs.GroupLemmas.{is_orphaned_later}
use Rattle.times.proofs.EndLemmas.{signalled_group_later}
use Rattle.times.proofs.OutcomeLemmas.{change_later, finish_later, finish_with_later, refused_later}
use Rattle.times.proofs.GroupCallLemmas.{either_later, is_group_of_later}

-- ---- background process groups

pub signal_own_group_later : (d : ℕ) (s : State) (me : Process) (n : ℕ) → signal_own_group (state_later d s) (later d me) n ≡ attempted_later d (signal_own_group s me n)
signal_own_group_later d s me n = ap (λ (rs : List Process). Again (record (state_later d s) { processes = rs })) (signalled_group_later d n me.group s.processes)

-- A call from the background fails in an orphaned process group, and signals any other group.
orphans_later : (d : ℕ) (s : State) (me : Process) (call : Call) (n : ℕ) → cond (is_orphaned me.group (all_later d s.processes)) (refused (state_later d s) me.pid call EIO) (signal_own_group (state_later d s) (later d me) n) ≡ attempted_later d (cond (is_orphaned me.group s.processes) (refused s me.pid call EIO) (signal_own_group s me n))
orphans_later d s me call n =
    either_later d (is_orphaned me.group (all_later d s.processes)) (is_orphaned me.group s.processes)
    (refused (state_later d s) me.pid call EIO) (signal_own_group (state_later d s) (later d me) n)
    (refused s me.pid call EIO) (signal_own_group s me n)
    (is_orphaned_later d me.group s.processes) (refused_later d s me.pid call EIO) (signal_own_group_later d s me n)

pub if_allowed_later : (d : ℕ) (s : State) (me : Process) (call : Call) (c : Console) (now then : Attempted) → now ≡ attempted_later d then → if_allowed (state_later d s) (later d me) call c now ≡ attempted_later d (if_allowed s me call c then)
if_allowed_later d s me call c now then h =
    either_later d (not (is_in_background me c) || blocks_or_ignores me TTOU) (not (is_in_background me c) || blocks_or_ignores me TTOU)
    now (cond (is_orphaned me.group (all_later d s.processes)) (refused (state_later d s) me.pid call EIO) (signal_own_group (state_later d s) (later d me) TTOU))
    then (cond (is_orphaned me.group s.processes) (refused s me.pid call EIO) (signal_own_group s me TTOU))
    refl h (orphans_later d s me call TTOU)

-- ---- setctty

pub setctty_of_later : (d : ℕ) (s : State) (me : Process) (k : ℕ) (c : Option Console) → setctty_of (state_later d s) (later d me) k c ≡ attempted_later d (setctty_of s me k c)
setctty_of_later d s me k None = refused_later d s me.pid Setctty ENOENT
setctty_of_later d s me k (Some c) =
    let t : State = record s { consoles = slice_set s.consoles k (acquired me.session me.group c) } in
    either_later d (may_acquire s me c) (may_acquire s me c)
    (finish_with (state_later d t) me.pid Setctty (pos 0)) (refused (state_later d s) me.pid Setctty EPERM)
    (finish_with t me.pid Setctty (pos 0)) (refused s me.pid Setctty EPERM)
    refl (finish_with_later d t me.pid Setctty (pos 0)) (refused_later d s me.pid Setctty EPERM)

pub setctty_at_later : (d : ℕ) (s : State) (me : Process) (k : Option ℕ) → setctty_at (state_later d s) (later d me) k ≡ attempted_later d (setctty_at s me k)
setctty_at_later d s me None = refused_later d s me.pid Setctty ENOENT
setctty_at_later d s me (Some k) = setctty_of_later d s me k (slice_get s.consoles k)

pub setctty_later : (d : ℕ) (s : State) (me : Process) → setctty (state_later d s) (later d me) ≡ attempted_later d (setctty s me)
unfolding setctty
setctty_later d s me = setctty_at_later d s me (console_named (argument me 1))

-- ---- tcgetpgrp, tcsetpgrp and settostop

pub tcgetpgrp_on_later : (d : ℕ) (s : State) (me : Process) (c : Option Console) → tcgetpgrp_on (state_later d s) (later d me) c ≡ attempted_later d (tcgetpgrp_on s me c)
tcgetpgrp_on_later d s me None = refused_later d s me.pid Tcgetpgrp ENOTTY
tcgetpgrp_on_later d s me (Some c) = finish_with_later d s me.pid Tcgetpgrp (pos (foreground_told s.world.pidmax c.foreground))

pub tcgetpgrp_later : (d : ℕ) (s : State) (me : Process) → tcgetpgrp (state_later d s) (later d me) ≡ attempted_later d (tcgetpgrp s me)
unfolding tcgetpgrp
tcgetpgrp_later d s me = tcgetpgrp_on_later d s me (terminal s me)

pub put_foreground_later : (d : ℕ) (s : State) (me : Process) (z : ℤ) → put_foreground (state_later d s) (later d me) z ≡ attempted_later d (put_foreground s me z)
put_foreground_later d s me (negsuc n) = refused_later d s me.pid Tcsetpgrp EINVAL
put_foreground_later d s me (pos g) =
    let t : State = change_console s me.session (with_foreground g) in
    either_later d (is_group_of me.session g (all_later d s.processes)) (is_group_of me.session g s.processes)
    (finish_with (state_later d t) me.pid Tcsetpgrp (pos 0)) (refused (state_later d s) me.pid Tcsetpgrp EPERM)
    (finish_with t me.pid Tcsetpgrp (pos 0)) (refused s me.pid Tcsetpgrp EPERM)
    (is_group_of_later d me.session g s.processes) (finish_with_later d t me.pid Tcsetpgrp (pos 0)) (refused_later d s me.pid Tcsetpgrp EPERM)

pub tcsetpgrp_on_later : (d : ℕ) (s : State) (me : Process) (c : Option Console) → tcsetpgrp_on (state_later d s) (later d me) c ≡ attempted_later d (tcsetpgrp_on s me c)
tcsetpgrp_on_later d s me None = refused_later d s me.pid Tcsetpgrp ENOTTY
tcsetpgrp_on_later d s me (Some c) = if_allowed_later d s me Tcsetpgrp c (put_foreground (state_later d s) (later d me) (argument me 1)) (put_foreground s me (argument me 1)) (put_foreground_later d s me (argument me 1))

pub tcsetpgrp_later : (d : ℕ) (s : State) (me : Process) → tcsetpgrp (state_later d s) (later d me) ≡ attempted_later d (tcsetpgrp s me)
unfolding tcsetpgrp
tcsetpgrp_later d s me = tcsetpgrp_on_later d s me (terminal s me)

pub settostop_on_later : (d : ℕ) (s : State) (me : Process) (c : Option Console) → settostop_on (state_later d s) (later d me) c ≡ attempted_later d (settostop_on s me c)
settostop_on_later d s me None = refused_later d s me.pid Settostop ENOTTY
settostop_on_later d s me (Some c) =
    let t : State = change_console s me.session (with_tostop (is_nonzero (argument me 1))) in
    if_allowed_later d s me Settostop c (finish_with (state_later d t) me.pid Settostop (pos 0)) (finish_with t me.pid Settostop (pos 0)) (finish_with_later d t me.pid Settostop (pos 0))

pub settostop_later : (d : ℕ) (s : State) (me : Process) → settostop (state_later d s) (later d me) ≡ attempted_later d (settostop s me)
unfolding settostop
settostop_later d s me = settostop_on_later d s me (terminal s me)

-- ---- read and write

pub finish_moved_later : (d : ℕ) (s : State) (p : ℕ) (call : Call) (bytes : List ℕ) → finish_moved (state_later d s) p call bytes ≡ attempted_later d (finish_moved s p call bytes)
finish_moved_later d s p call [] = finish_with_later d s p call (pos 0)
finish_moved_later d s p call (b ∷ bs) = ap (λ (t : State). Done (record { state = t; entries = Moved p call (b ∷ bs) ∷ [] })) (finish_later d s p ((0, pos (length (b ∷ bs))) ∷ []))

pub with_bytes_later : (d address : ℕ) (bytes : List ℕ) (r : Process) → with_bytes address bytes (later d r) ≡ later d (with_bytes address bytes r)
unfolding with_bytes
with_bytes_later d address bytes r = refl

pub read_from_later : (d : ℕ) (s : State) (me : Process) (span : Span) (lines : List (List ℕ)) → read_from (state_later d s) (later d me) span lines ≡ attempted_later d (read_from s me span lines)
read_from_later d s me span [] = refl
read_from_later d s me span (line ∷ rest) =
    let bytes : List ℕ = take span.count line in
    let t : State = change_console s me.session (line_taken span.count) in
    ap (λ (u : State). finish_moved u me.pid Read bytes) (change_later d t me.pid (with_bytes span.address bytes) (with_bytes span.address bytes) (with_bytes_later d span.address bytes))
    ∙ finish_moved_later d (change t me.pid (with_bytes span.address bytes)) me.pid Read bytes

-- A read from the background.
background_later : (d : ℕ) (s : State) (me : Process) → cond (blocks_or_ignores me TTIN || is_orphaned me.group (all_later d s.processes)) (refused (state_later d s) me.pid Read EIO) (signal_own_group (state_later d s) (later d me) TTIN) ≡ attempted_later d (cond (blocks_or_ignores me TTIN || is_orphaned me.group s.processes) (refused s me.pid Read EIO) (signal_own_group s me TTIN))
background_later d s me =
    either_later d (blocks_or_ignores me TTIN || is_orphaned me.group (all_later d s.processes)) (blocks_or_ignores me TTIN || is_orphaned me.group s.processes)
    (refused (state_later d s) me.pid Read EIO) (signal_own_group (state_later d s) (later d me) TTIN)
    (refused s me.pid Read EIO) (signal_own_group s me TTIN)
    (ap (λ (b : Bool). blocks_or_ignores me TTIN || b) (is_orphaned_later d me.group s.processes)) (refused_later d s me.pid Read EIO) (signal_own_group_later d s me TTIN)

-- A read from the foreground.
foreground_later : (d : ℕ) (s : State) (me : Process) (c : Console) (span : Span) → cond (span.count == 0) (finish_with (state_later d s) me.pid Read (pos 0)) (read_from (state_later d s) (later d me) span c.lines) ≡ attempted_later d (cond (span.count == 0) (finish_with s me.pid Read (pos 0)) (read_from s me span c.lines))
foreground_later d s me c span =
    either_later d (span.count == 0) (span.count == 0)
    (finish_with (state_later d s) me.pid Read (pos 0)) (read_from (state_later d s) (later d me) span c.lines)
    (finish_with s me.pid Read (pos 0)) (read_from s me span c.lines)
    refl (finish_with_later d s me.pid Read (pos 0)) (read_from_later d s me span c.lines)

pub read_in_later : (d : ℕ) (s : State) (me : Process) (c : Console) (span : Result Span Errno) → read_in (state_later d s) (later d me) c span ≡ attempted_later d (read_in s me c span)
read_in_later d s me c (Err why) = refused_later d s me.pid Read why
read_in_later d s me c (Ok span) =
    either_later d c.hung_up c.hung_up
    (finish_with (state_later d s) me.pid Read (pos 0)) (open_at (state_later d s) (later d me))
    (finish_with s me.pid Read (pos 0)) (open_at s me)
    refl (finish_with_later d s me.pid Read (pos 0)) opens
  where
    behind : State → Process → Attempted
    behind t r = cond (blocks_or_ignores r TTIN || is_orphaned r.group t.processes) (refused t r.pid Read EIO) (signal_own_group t r TTIN)

    front : State → Process → Attempted
    front t r = cond (span.count == 0) (finish_with t r.pid Read (pos 0)) (read_from t r span c.lines)

    open_at : State → Process → Attempted
    open_at t r = cond (is_in_background r c) (behind t r) (front t r)

    opens : open_at (state_later d s) (later d me) ≡ attempted_later d (open_at s me)
    opens =
        either_later d (is_in_background me c) (is_in_background me c)
        (behind (state_later d s) (later d me)) (front (state_later d s) (later d me)) (behind s me) (front s me)
        refl (background_later d s me) (foreground_later d s me c span)

pub read_on_later : (d : ℕ) (s : State) (me : Process) (c : Option Console) → read_on (state_later d s) (later d me) c ≡ attempted_later d (read_on s me c)
read_on_later d s me None = refused_later d s me.pid Read ENOTTY
read_on_later d s me (Some c) = read_in_later d s me c (span_in (argument me 1) (argument me 2))

pub read_later : (d : ℕ) (s : State) (me : Process) → read (state_later d s) (later d me) ≡ attempted_later d (read s me)
unfolding read
read_later d s me = read_on_later d s me (terminal s me)

pub write_in_later : (d : ℕ) (s : State) (me : Process) (c : Console) (span : Result Span Errno) → write_in (state_later d s) (later d me) c span ≡ attempted_later d (write_in s me c span)
write_in_later d s me c (Err why) = refused_later d s me.pid Write why
write_in_later d s me c (Ok span) =
    either_later d c.hung_up c.hung_up
    (refused (state_later d s) me.pid Write EIO) (open_at (state_later d s) (later d me))
    (refused s me.pid Write EIO) (open_at s me)
    refl (refused_later d s me.pid Write EIO)
    (either_later d c.tostop c.tostop
    (if_allowed (state_later d s) (later d me) Write c (written_at (state_later d s) (later d me))) (written_at (state_later d s) (later d me))
    (if_allowed s me Write c (written_at s me)) (written_at s me)
    refl (if_allowed_later d s me Write c (written_at (state_later d s) (later d me)) (written_at s me) writes) writes)
  where
    written_at : State → Process → Attempted
    written_at t r = finish_moved t r.pid Write (bytes_in span r.cpu.memory)

    open_at : State → Process → Attempted
    open_at t r = cond c.tostop (if_allowed t r Write c (written_at t r)) (written_at t r)

    writes : written_at (state_later d s) (later d me) ≡ attempted_later d (written_at s me)
    writes = finish_moved_later d s me.pid Write (bytes_in span me.cpu.memory)

pub write_on_later : (d : ℕ) (s : State) (me : Process) (c : Option Console) → write_on (state_later d s) (later d me) c ≡ attempted_later d (write_on s me c)
write_on_later d s me None = refused_later d s me.pid Write ENOTTY
write_on_later d s me (Some c) = write_in_later d s me c (span_in (argument me 1) (argument me 2))

pub write_later : (d : ℕ) (s : State) (me : Process) → write (state_later d s) (later d me) ≡ attempted_later d (write s me)
unfolding write
write_later d s me = write_on_later d s me (terminal s me)

-- ---- keys and hangups

pub signalled_from_later : (d : ℕ) (n : Option ℕ) (group : ℕ) (rs : List Process) → signalled_from n group (all_later d rs) ≡ all_later d (signalled_from n group rs)
signalled_from_later d None group rs = refl
signalled_from_later d (Some n) group rs = signalled_group_later d n group rs

pub key_on_later : (d : ℕ) (s : State) (console byte : ℕ) (c : Option Console) → key_on (state_later d s) console byte c ≡ state_later d (key_on s console byte c)
key_on_later d s console byte None = refl
key_on_later d s console byte (Some c) =
    ap (λ (rs : List Process). record (state_later d s) { processes = rs; consoles = with_console console (keyed byte c) s.consoles }) (signalled_from_later d (signal_typed byte c) c.foreground s.processes)

pub key_later : (d : ℕ) (s : State) (console byte : ℕ) → key (state_later d s) console byte ≡ state_later d (key s console byte)
unfolding key
key_later d s console byte = key_on_later d s console byte (console_at console s.consoles)

pub with_leader_told_later : (d : ℕ) (c : Console) (rs : List Process) → with_leader_told c (all_later d rs) ≡ all_later d (with_leader_told c rs)
with_leader_told_later d c rs = go (is_told c) where
  m : PendingSignal
  m = record { sig = HUP; carried = from_kernel }

  go : (b : Bool) → cond b (signalled_all m (c.session ∷ []) (all_later d rs)) (all_later d rs) ≡ all_later d (cond b (signalled_all m (c.session ∷ []) rs) rs)
  go true = signalled_all_later d m (c.session ∷ []) rs
  go false = refl

pub hangup_on_later : (d : ℕ) (s : State) (console : ℕ) (c : Option Console) → hangup_on (state_later d s) console c ≡ state_later d (hangup_on s console c)
hangup_on_later d s console None = refl
hangup_on_later d s console (Some c) =
    ap (λ (rs : List Process). record (state_later d s) { processes = rs; consoles = with_console console (disconnected c) s.consoles }) (with_leader_told_later d c s.processes)

pub hangup_later : (d : ℕ) (s : State) (console : ℕ) → hangup (state_later d s) console ≡ state_later d (hangup s console)
unfolding hangup
hangup_later d s console = hangup_on_later d s console (console_at console s.consoles)
