-- Worked runs, computed from a world and events to the lines of the trace.
use Rattle.std.specs.Prelude.{Some, ℕ, ◌≡◌, ◌==◌, if◌then◌else◌, ◌+◌, Bool, true, false, List, [], ◌∷◌, ◌++◌, replicate, Option, None, pos, negsuc, codes}
use Rattle.std.specs.Fmt.{digits}
use Rattle.posix.specs.declared.event.Event.{Event}
use Rattle.posix.specs.declared.event.Event.TheVariants.{Step, Tick, Key, Hangup}
use Rattle.posix.specs.declared.waits.WaitCall.TheVariants as wait
use Rattle.posix.specs.declared.entry.Entry.TheVariants.{Noted, Called, Moved, Reported, Looked, NoMemory, Marked, Handled, Discarded, Stopped, Returned, Ended, Halted}
use Rattle.posix.specs.declared.instr.Instr.{Instr}
use Rattle.posix.specs.declared.instr.Instr.TheVariants.{Set, Compute, Jump, JumpIf, Note, Sys}
use Rattle.posix.specs.declared.instr.Operator.TheVariants.{Div, Rem}
use Rattle.posix.specs.declared.instr.Condition.TheVariants.{Zero}
use Rattle.posix.specs.declared.call.Call.TheVariants.{Exit, Fork, Waitpid, Waitid, Pause, SchedYield, Getpid, Setuid, Kill, Sigqueue, Sigaction, Sigprocmask, Sigpending, Sigsuspend, Sigreturn, Alarm, Exec, Setpgid, Setsid, Geteuid, Getuid, Setctty, Tcgetpgrp, Tcsetpgrp, Read, Write, Subreaper}
use Rattle.posix.specs.Common.{nothing_pending, default_actions, zero_registers, zero_memory, with_number, lookup, changed, inserted, removed, children_in, adopted, members_in, is_free, next_free, waiting, has_room, finish_line, erased, with_byte, edit, key_signal, signal_typed, disconnected, flushed, keyed, line_taken, acquired, released, with_foreground, with_tostop, console_of, changed_console, stored, bytes_in, Program, World, State, boot, is_in, without, Line, line, numbered, exec_one, finished, written, setuid, seteuid, setgid, setegid, without_stops, generated, effect_of, signalled, noticed, noticed_of_change, told_of_change, stopped_by, resumed, signalled_all, is_anchor, is_orphaned, group_numbers, has_stopped, is_newly_orphaned, newly_orphaned, least_ready, chosen, first_carried, without_first, taken, discarded, entered, at_handler, handles, returned, set_action, set_mask, handle, stop_process, take_out, deliver, fault, return_from_handler, targets, permitted, sending, queuers, queuers_among, sending_granted, sent_among, sent, kill, sigqueue, give_credentials, give_signals, sigaction, sigprocmask, set_of, pending_set, sigpending, child_of, fork_as, ended, made_zombie, notice_of_end, zombies_of, tell_of_all, signalled_members, hup_and_cont_all, hang_up, end_process, report_of, report, news_told, asked, wait_by, nearest_marked, marked_as, subreaper, with_alarm, alarm, rung, ring_all, executed, exec, is_group_of, getpgid, getsid, in_group, setpgid, in_session, setsid, setctty, tcgetpgrp, tcsetpgrp, settostop, with_bytes, read, write, attempt, attempt_again, can_act, give_places, clear_foregrounds, settle, set_cpu, enter, after_trap, out_of_call, act_in, act, step, tick, key, hangup, happens, next, hex, print}

abbrev pub program : Option ℕ → Option ℕ → List Instr → Program
program setuid setgid instructions = record { setuid = setuid; setgid = setgid; instructions = instructions }

abbrev pub world : ℕ → ℕ → List Program → World
world pidmax consoles programs = record { pidmax = pidmax; consoles = consoles; programs = programs }

-- the lines of a run in which the k-th event, and those after it, are granted memory or not
abbrev pub trace_from : ℕ → State → (ℕ → Bool) → List Event → List Line
trace_from k s granted [] = []
trace_from k s granted (event ∷ events) =
    let done = next (granted k) s event in numbered k done.entries ++ trace_from (k + 1) done.state granted events

-- with ample memory
abbrev trace : World → List Event → List Line
trace w events = trace_from 1 (boot w) (λ k. true) events

-- opens every definition of an operation
unfoldable pub everything : Unit {0}
unfolding nothing_pending default_actions zero_registers zero_memory exec_one digits lookup changed inserted removed children_in adopted members_in is_free next_free is_in without finished written setuid seteuid setgid setegid without_stops generated effect_of signalled noticed_of_change told_of_change stopped_by resumed signalled_all with_number is_anchor is_orphaned group_numbers has_stopped is_newly_orphaned newly_orphaned least_ready chosen first_carried without_first taken discarded entered at_handler handles returned set_action set_mask child_of fork_as ended made_zombie noticed notice_of_end zombies_of tell_of_all signalled_members hup_and_cont_all hang_up end_process nearest_marked marked_as subreaper report_of report news_told asked wait_by handle stop_process take_out deliver fault return_from_handler targets permitted sending queuers queuers_among sending_granted sent_among sent kill sigqueue give_credentials give_signals sigaction sigprocmask set_of pending_set sigpending attempt attempt_again can_act give_places clear_foregrounds settle set_cpu enter after_trap out_of_call act_in act step with_alarm rung ring_all alarm executed exec is_group_of getpgid getsid in_group setpgid in_session setsid waiting has_room finish_line erased with_byte edit key_signal signal_typed disconnected flushed keyed line_taken acquired released with_foreground with_tostop console_of changed_console stored bytes_in setctty tcgetpgrp tcsetpgrp settostop with_bytes read write tick key hangup happens next hex
everything = tt

abbrev pub note_and_exit : World
note_and_exit = world 40 1 (program None None (Set 1 (pos 7) ∷ Note 1 ∷ Sys Exit ∷ []) ∷ [])

abbrev pub two_forks : World
two_forks = world 40 1 (program None None (Sys Fork ∷ Sys Fork ∷ []) ∷ [])

-- process 1 stops its child, sends it TERM and then this signal, and waits
abbrev pub stops_its_child : ℕ → World
stops_its_child n = world 40 1 (program None None (Sys Fork ∷ JumpIf Zero 0 33 ∷ Set 1 (pos 2) ∷ Set 2 (pos 19) ∷ Sys Kill ∷ Set 2 (pos 2) ∷ Sys Waitpid ∷ Set 1 (pos 2) ∷ Set 2 (pos 15) ∷ Sys Kill ∷ Set 2 (pos n) ∷ Sys Kill ∷ Set 2 (pos 8) ∷ Sys Waitpid ∷ Set 1 (pos 2) ∷ Set 2 (pos 0) ∷ Sys Waitpid ∷ Jump 33 ∷ []) ∷ [])

-- process 1 queues a signal for itself, and once more, and asks each time what is pending
abbrev queues_twice : World
queues_twice = world 40 1 (program None None (Set 1 (pos 35) ∷ Set 2 (pos 32) ∷ Sys Sigaction ∷ Set 1 (pos 2) ∷ Set 2 (negsuc 0) ∷ Sys Sigprocmask ∷ Set 1 (pos 1) ∷ Set 2 (pos 35) ∷ Set 3 (pos 9) ∷ Sys Sigqueue ∷ Sys Sigpending ∷ Note 1 ∷ Set 1 (pos 1) ∷ Sys Sigqueue ∷ Sys Sigpending ∷ Note 1 ∷ Sys Sigreturn ∷ []) ∷ [])

-- process 1 reads lines, 16 bytes at once
abbrev reads_lines : World
reads_lines = world 40 1 (program None None (Set 1 (pos 1) ∷ Sys Setctty ∷ Set 1 (pos 0) ∷ Set 2 (pos 16) ∷ Sys Read ∷ Jump 20 ∷ []) ∷ [])

abbrev line_edited : List Event
line_edited = replicate 5 Step ++ (Key 1 104 ∷ Key 1 105 ∷ Key 1 127 ∷ Key 1 106 ∷ Key 1 10 ∷ []) ++ replicate 3 Step ++ (Key 1 4 ∷ []) ++ replicate 3 Step ++ (Key 1 120 ∷ Key 1 3 ∷ Key 1 10 ∷ []) ++ replicate 1 Step

-- what worlds show in these runs
record WorkedRuns : Type 0 where
  row_note_and_exit : trace note_and_exit (replicate 3 Step)
      ≡ line 2 (Noted 1 (pos 7)) ∷ line 3 (Ended 1 1792) ∷ line 3 (Halted) ∷ []
  row_note_and_exit_printed : print (trace note_and_exit (replicate 3 Step)) ≡ codes "2 note 1 7\n3 end 1 1792\n3 halt\n"
  row_silent_after_halt : trace note_and_exit (replicate 5 Step)
      ≡ line 2 (Noted 1 (pos 7)) ∷ line 3 (Ended 1 1792) ∷ line 3 (Halted) ∷ []
  row_no_events : trace note_and_exit [] ≡ []
  row_runs_off_the_end : trace (world 40 1 (program None None (Set 1 (pos 7) ∷ []) ∷ [])) (replicate 2 Step)
      ≡ line 2 (Ended 1 11) ∷ line 2 (Halted) ∷ []
  -- a tick is an event, too, and changes nothing for a process alone
  row_ticks_count : trace note_and_exit (Step ∷ Tick ∷ Step ∷ Tick ∷ Step ∷ []) ≡ line 3 (Noted 1 (pos 7)) ∷ line 5 (Ended 1 1792) ∷ line 5 (Halted) ∷ []
  row_division : trace (world 40 1 (program None None (Set 1 (negsuc 6) ∷ Set 2 (pos 2) ∷ Compute Div 1 2 ∷ Note 1 ∷ Set 1 (negsuc 6) ∷ Compute Rem 1 2 ∷ Note 1 ∷ Sys Getpid ∷ Note 0 ∷ Set 2 (pos 0) ∷ Compute Div 1 2 ∷ []) ∷ [])) (replicate 11 Step)
      ≡ line 4 (Noted 1 (negsuc 2)) ∷ line 7 (Noted 1 (negsuc 0)) ∷ line 8 (Called 1 Getpid (pos 1)) ∷ line 9 (Noted 1 (pos 1)) ∷ line 11 (Ended 1 8) ∷ line 11 (Halted) ∷ []
  row_numbers_wrap_and_are_reused : trace (world 4 1 (program None None (Sys Fork ∷ JumpIf Zero 0 28 ∷ Sys Fork ∷ JumpIf Zero 0 29 ∷ Sys Fork ∷ JumpIf Zero 0 28 ∷ Set 1 (pos 3) ∷ Set 2 (pos 0) ∷ Sys Waitpid ∷ Sys Fork ∷ JumpIf Zero 0 28 ∷ Sys Fork ∷ Sys Pause ∷ Sys Exit ∷ []) ∷ [])) (replicate 19 Step)
      ≡ line 1 (Called 1 Fork (pos 2)) ∷ line 3 (Called 1 Fork (pos 3)) ∷ line 5 (Called 1 Fork (pos 4)) ∷ line 13 (Ended 3 0) ∷ line 16 (Reported 1 wait.Waitpid 3 0) ∷ line 17 (Called 1 Fork (pos 3)) ∷ line 19 (Called 1 Fork (negsuc 10)) ∷ []
  row_parent_dies_with_a_zombie_child : trace (world 40 1 (program None None (Sys Fork ∷ JumpIf Zero 0 21 ∷ Set 1 (negsuc 0) ∷ Sys Waitpid ∷ Jump 18 ∷ Sys Fork ∷ JumpIf Zero 0 26 ∷ Sys SchedYield ∷ Set 1 (pos 2) ∷ Sys Exit ∷ Set 1 (pos 5) ∷ Sys Exit ∷ []) ∷ [])) (replicate 20 Step)
      ≡ line 1 (Called 1 Fork (pos 2)) ∷ line 6 (Called 2 Fork (pos 3)) ∷ line 8 (Called 2 SchedYield (pos 0)) ∷ line 11 (Ended 3 1280) ∷ line 13 (Ended 2 512) ∷ line 14 (Reported 1 wait.Waitpid 2 512) ∷ line 17 (Reported 1 wait.Waitpid 3 1280) ∷ line 20 (Called 1 Waitpid (negsuc 9)) ∷ []
  row_turns : trace (world 40 1 (program None None (Sys Fork ∷ Note 0 ∷ Jump 17 ∷ []) ∷ [])) (replicate 3 Step ++ (Tick ∷ []) ++ replicate 2 Step)
      ≡ line 1 (Called 1 Fork (pos 2)) ∷ line 2 (Noted 1 (pos 2)) ∷ line 5 (Noted 2 (pos 0)) ∷ []
  row_fork_bomb : trace (world 8 1 (program None None (Sys Fork ∷ Jump 16 ∷ []) ∷ [])) (replicate 15 Step ++ (Tick ∷ []) ++ replicate 2 Step)
      ≡ line 1 (Called 1 Fork (pos 2)) ∷ line 3 (Called 1 Fork (pos 3)) ∷ line 5 (Called 1 Fork (pos 4)) ∷ line 7 (Called 1 Fork (pos 5)) ∷ line 9 (Called 1 Fork (pos 6)) ∷ line 11 (Called 1 Fork (pos 7)) ∷ line 13 (Called 1 Fork (pos 8)) ∷ line 15 (Called 1 Fork (negsuc 10)) ∷ line 18 (Called 2 Fork (negsuc 10)) ∷ []
  row_refused_fork : trace_from 1 (boot two_forks) (λ k. if k == 1 then false else true) (replicate 2 Step)
      ≡ line 1 (NoMemory 1 Fork) ∷ line 2 (Called 1 Fork (pos 2)) ∷ []
  row_refused_fork_printed : print (trace_from 1 (boot two_forks) (λ k. if k == 1 then false else true) (replicate 2 Step))
      ≡ codes "1 call 1 fork = -11 memory\n2 call 1 fork = 2\n"
  -- waitpid of the least i64 names no process group
  row_extreme_targets : trace (world 40 1 (program None None (Set 1 (negsuc 9223372036854775807) ∷ Sys Waitpid ∷ []) ∷ [])) (replicate 2 Step)
      ≡ line 2 (Called 1 Waitpid (negsuc 9)) ∷ []
  row_children_ignored : trace (world 40 1 (program None None (Set 1 (pos 17) ∷ Set 2 (pos 1) ∷ Sys Sigaction ∷ Sys Fork ∷ JumpIf Zero 0 26 ∷ Sys Fork ∷ JumpIf Zero 0 26 ∷ Set 1 (negsuc 0) ∷ Set 2 (pos 0) ∷ Sys Waitpid ∷ Sys Exit ∷ []) ∷ [])) (replicate 15 Step)
      ≡ line 3 (Called 1 Sigaction (pos 0)) ∷ line 4 (Called 1 Fork (pos 2)) ∷ line 6 (Called 1 Fork (pos 3)) ∷ line 12 (Ended 2 4352) ∷ line 14 (Ended 3 4352) ∷ line 15 (Called 1 Waitpid (negsuc 9)) ∷ []
  row_completed_call_goes_first : trace (world 40 1 (program None None (Set 1 (pos 17) ∷ Set 2 (pos 25) ∷ Sys Sigaction ∷ Sys Fork ∷ JumpIf Zero 0 24 ∷ Set 1 (negsuc 0) ∷ Sys Waitpid ∷ Note 1 ∷ Sys Exit ∷ Sys Sigreturn ∷ []) ∷ [])) (replicate 13 Step)
      ≡ line 3 (Called 1 Sigaction (pos 0)) ∷ line 4 (Called 1 Fork (pos 2)) ∷ line 9 (Ended 2 4352) ∷ line 10 (Reported 1 wait.Waitpid 2 4352) ∷ line 11 (Handled 1 17 (pos 4352) 2) ∷ line 12 (Returned 1) ∷ line 13 (Noted 1 (pos 4352)) ∷ []
  row_interrupted_wait : trace (world 40 1 (program None None (Set 1 (pos 10) ∷ Set 2 (pos 28) ∷ Sys Sigaction ∷ Sys Fork ∷ JumpIf Zero 0 24 ∷ Set 1 (negsuc 0) ∷ Sys Waitpid ∷ Sys Pause ∷ Set 1 (pos 1) ∷ Set 2 (pos 10) ∷ Sys Kill ∷ Sys Pause ∷ Sys Sigreturn ∷ []) ∷ [])) (replicate 15 Step)
      ≡ line 3 (Called 1 Sigaction (pos 0)) ∷ line 4 (Called 1 Fork (pos 2)) ∷ line 11 (Called 2 Kill (pos 0)) ∷ line 13 (Called 1 Waitpid (negsuc 3)) ∷ line 13 (Handled 1 10 (pos 0) 2) ∷ line 14 (Returned 1) ∷ []
  row_restarted_wait : trace (world 40 1 (program None None (Set 4 (pos 268435456) ∷ Set 1 (pos 10) ∷ Set 2 (pos 29) ∷ Sys Sigaction ∷ Sys Fork ∷ JumpIf Zero 0 25 ∷ Set 1 (negsuc 0) ∷ Sys Waitpid ∷ Sys Pause ∷ Set 1 (pos 1) ∷ Set 2 (pos 10) ∷ Sys Kill ∷ Sys Pause ∷ Sys Sigreturn ∷ []) ∷ [])) (replicate 16 Step)
      ≡ line 4 (Called 1 Sigaction (pos 0)) ∷ line 5 (Called 1 Fork (pos 2)) ∷ line 12 (Called 2 Kill (pos 0)) ∷ line 14 (Handled 1 10 (pos 0) 2) ∷ line 15 (Returned 1) ∷ []
  row_suspend_restores_the_mask : trace (world 40 1 (program None None (Set 1 (pos 10) ∷ Set 2 (pos 31) ∷ Sys Sigaction ∷ Set 1 (pos 2) ∷ Set 2 (pos 512) ∷ Sys Sigprocmask ∷ Set 1 (pos 1) ∷ Set 2 (pos 10) ∷ Sys Kill ∷ Set 1 (pos 0) ∷ Sys Sigsuspend ∷ Set 1 (pos 0) ∷ Set 2 (pos 0) ∷ Sys Sigprocmask ∷ Note 2 ∷ Sys Sigreturn ∷ []) ∷ [])) (replicate 17 Step)
      ≡ line 3 (Called 1 Sigaction (pos 0)) ∷ line 6 (Called 1 Sigprocmask (pos 0)) ∷ line 9 (Called 1 Kill (pos 0)) ∷ line 12 (Called 1 Sigsuspend (negsuc 3)) ∷ line 12 (Handled 1 10 (pos 0) 1) ∷ line 13 (Returned 1) ∷ line 16 (Called 1 Sigprocmask (pos 0)) ∷ line 17 (Noted 1 (pos 512)) ∷ []
  row_alarm : trace (world 40 1 (program None None (Set 1 (pos 14) ∷ Set 2 (pos 23) ∷ Sys Sigaction ∷ Set 1 (pos 2) ∷ Sys Alarm ∷ Sys Pause ∷ Sys Alarm ∷ Sys Sigreturn ∷ []) ∷ [])) (replicate 6 Step ++ replicate 2 Tick ++ replicate 3 Step)
      ≡ line 3 (Called 1 Sigaction (pos 0)) ∷ line 5 (Called 1 Alarm (pos 0)) ∷ line 9 (Called 1 Pause (negsuc 3)) ∷ line 9 (Handled 1 14 (pos 0) 0) ∷ line 10 (Returned 1) ∷ line 11 (Called 1 Alarm (pos 0)) ∷ []
  -- a look leaves what a report takes
  row_look_and_take : trace (world 40 1 (program None None (Sys Fork ∷ JumpIf Zero 0 28 ∷ Set 1 (pos 1) ∷ Set 2 (pos 2) ∷ Set 3 (pos 16777220) ∷ Sys Waitid ∷ Set 1 (negsuc 0) ∷ Set 2 (pos 0) ∷ Sys Waitpid ∷ Set 1 (pos 0) ∷ Set 3 (pos 4) ∷ Sys Waitid ∷ Set 1 (pos 3) ∷ Sys Exit ∷ []) ∷ [])) (replicate 16 Step)
      ≡ line 1 (Called 1 Fork (pos 2)) ∷ line 9 (Ended 2 768) ∷ line 10 (Looked 1 2 768) ∷ line 13 (Reported 1 wait.Waitpid 2 768) ∷ line 16 (Called 1 Waitid (negsuc 9)) ∷ []
  row_stop_and_continue : trace (stops_its_child 18) (replicate 21 Step)
      ≡ line 1 (Called 1 Fork (pos 2)) ∷ line 5 (Called 1 Kill (pos 0)) ∷ line 8 (Stopped 2 19) ∷ line 9 (Reported 1 wait.Waitpid 2 4991) ∷ line 12 (Called 1 Kill (pos 0)) ∷ line 14 (Called 1 Kill (pos 0)) ∷ line 16 (Reported 1 wait.Waitpid 2 65535) ∷ line 20 (Ended 2 15) ∷ line 21 (Reported 1 wait.Waitpid 2 15) ∷ []
  row_kill_while_stopped : trace (stops_its_child 9) (replicate 18 Step)
      ≡ line 1 (Called 1 Fork (pos 2)) ∷ line 5 (Called 1 Kill (pos 0)) ∷ line 8 (Stopped 2 19) ∷ line 9 (Reported 1 wait.Waitpid 2 4991) ∷ line 12 (Called 1 Kill (pos 0)) ∷ line 14 (Called 1 Kill (pos 0)) ∷ line 17 (Ended 2 9) ∷ line 18 (Reported 1 wait.Waitpid 2 9) ∷ []
  row_permission : trace (world 40 1 (program None None (Sys Fork ∷ JumpIf Zero 0 21 ∷ Sys Fork ∷ JumpIf Zero 0 34 ∷ Sys Pause ∷ Set 1 (pos 100) ∷ Sys Setuid ∷ Sys SchedYield ∷ Set 1 (pos 3) ∷ Set 2 (pos 15) ∷ Sys Kill ∷ Set 2 (pos 18) ∷ Sys Kill ∷ Set 1 (negsuc 0) ∷ Set 2 (pos 15) ∷ Sys Kill ∷ Set 1 (pos 0) ∷ Sys Kill ∷ Set 1 (pos 200) ∷ Sys Setuid ∷ Sys Pause ∷ []) ∷ [])) (replicate 24 Step)
      ≡ line 1 (Called 1 Fork (pos 2)) ∷ line 3 (Called 1 Fork (pos 3)) ∷ line 8 (Called 2 Setuid (pos 0)) ∷ line 9 (Called 2 SchedYield (pos 0)) ∷ line 12 (Called 3 Setuid (pos 0)) ∷ line 16 (Called 2 Kill (negsuc 0)) ∷ line 18 (Called 2 Kill (pos 0)) ∷ line 21 (Called 2 Kill (negsuc 0)) ∷ line 23 (Called 2 Kill (pos 0)) ∷ line 24 (Ended 2 15) ∷ []
  row_stop_without_effect : trace (world 40 1 (program None None (Sys Fork ∷ JumpIf Zero 0 22 ∷ Set 1 (pos 2) ∷ Set 2 (pos 20) ∷ Sys Kill ∷ Sys Pause ∷ Jump 22 ∷ []) ∷ [])) (replicate 8 Step)
      ≡ line 1 (Called 1 Fork (pos 2)) ∷ line 5 (Called 1 Kill (pos 0)) ∷ line 7 (Discarded 2 20) ∷ []

worked_runs : WorkedRuns
unfolding everything
worked_runs = search

-- ---- real-time signals

record WorkedSignals : Type 0 where
  -- standard signals first; of one real-time signal the first to come
  row_order_of_delivery : trace (world 40 1 (program None None (Set 1 (pos 10) ∷ Set 2 (pos 42) ∷ Set 3 (negsuc 0) ∷ Set 4 (pos 4) ∷ Sys Sigaction ∷ Set 1 (pos 35) ∷ Set 2 (pos 42) ∷ Set 3 (negsuc 0) ∷ Set 4 (pos 4) ∷ Sys Sigaction ∷ Set 1 (pos 2) ∷ Set 2 (negsuc 0) ∷ Sys Sigprocmask ∷ Set 1 (pos 1) ∷ Set 2 (pos 35) ∷ Set 3 (pos 1) ∷ Sys Sigqueue ∷ Set 3 (pos 2) ∷ Sys Sigqueue ∷ Set 2 (pos 10) ∷ Sys Kill ∷ Sys Kill ∷ Set 1 (pos 2) ∷ Set 2 (pos 0) ∷ Sys Sigprocmask ∷ Sys Pause ∷ Note 2 ∷ Sys Sigreturn ∷ []) ∷ [])) (replicate 34 Step)
      ≡ line 5 (Called 1 Sigaction (pos 0)) ∷ line 10 (Called 1 Sigaction (pos 0)) ∷ line 13 (Called 1 Sigprocmask (pos 0)) ∷ line 17 (Called 1 Sigqueue (pos 0)) ∷ line 19 (Called 1 Sigqueue (pos 0)) ∷ line 21 (Called 1 Kill (pos 0)) ∷ line 22 (Called 1 Kill (pos 0)) ∷ line 25 (Called 1 Sigprocmask (pos 0)) ∷ line 26 (Handled 1 10 (pos 0) 1) ∷ line 27 (Noted 1 (pos 0)) ∷ line 28 (Returned 1) ∷ line 29 (Handled 1 35 (pos 1) 1) ∷ line 30 (Noted 1 (pos 1)) ∷ line 31 (Returned 1) ∷ line 32 (Handled 1 35 (pos 2) 1) ∷ line 33 (Noted 1 (pos 2)) ∷ line 34 (Returned 1) ∷ []
  -- the queue of process 1 is full with 32
  row_full_queue : trace (world 40 1 (program None None (Set 1 (pos 35) ∷ Set 2 (pos 26) ∷ Sys Sigaction ∷ Set 1 (pos 2) ∷ Set 2 (negsuc 0) ∷ Sys Sigprocmask ∷ Set 1 (pos 1) ∷ Set 2 (pos 35) ∷ Sys Sigqueue ∷ Jump 24 ∷ Sys Sigreturn ∷ []) ∷ [])) (replicate 73 Step)
      ≡ line 3 (Called 1 Sigaction (pos 0)) ∷ line 6 (Called 1 Sigprocmask (pos 0)) ∷ line 9 (Called 1 Sigqueue (pos 0)) ∷ line 11 (Called 1 Sigqueue (pos 0)) ∷ line 13 (Called 1 Sigqueue (pos 0)) ∷ line 15 (Called 1 Sigqueue (pos 0)) ∷ line 17 (Called 1 Sigqueue (pos 0)) ∷ line 19 (Called 1 Sigqueue (pos 0)) ∷ line 21 (Called 1 Sigqueue (pos 0)) ∷ line 23 (Called 1 Sigqueue (pos 0)) ∷ line 25 (Called 1 Sigqueue (pos 0)) ∷ line 27 (Called 1 Sigqueue (pos 0)) ∷ line 29 (Called 1 Sigqueue (pos 0)) ∷ line 31 (Called 1 Sigqueue (pos 0)) ∷ line 33 (Called 1 Sigqueue (pos 0)) ∷ line 35 (Called 1 Sigqueue (pos 0)) ∷ line 37 (Called 1 Sigqueue (pos 0)) ∷ line 39 (Called 1 Sigqueue (pos 0)) ∷ line 41 (Called 1 Sigqueue (pos 0)) ∷ line 43 (Called 1 Sigqueue (pos 0)) ∷ line 45 (Called 1 Sigqueue (pos 0)) ∷ line 47 (Called 1 Sigqueue (pos 0)) ∷ line 49 (Called 1 Sigqueue (pos 0)) ∷ line 51 (Called 1 Sigqueue (pos 0)) ∷ line 53 (Called 1 Sigqueue (pos 0)) ∷ line 55 (Called 1 Sigqueue (pos 0)) ∷ line 57 (Called 1 Sigqueue (pos 0)) ∷ line 59 (Called 1 Sigqueue (pos 0)) ∷ line 61 (Called 1 Sigqueue (pos 0)) ∷ line 63 (Called 1 Sigqueue (pos 0)) ∷ line 65 (Called 1 Sigqueue (pos 0)) ∷ line 67 (Called 1 Sigqueue (pos 0)) ∷ line 69 (Called 1 Sigqueue (pos 0)) ∷ line 71 (Called 1 Sigqueue (pos 0)) ∷ line 73 (Called 1 Sigqueue (negsuc 10)) ∷ []
  -- the first time there is no memory
  row_refused_queuing : trace_from 1 (boot queues_twice) (λ k. if k == 10 then false else true) (replicate 16 Step)
      ≡ line 3 (Called 1 Sigaction (pos 0)) ∷ line 6 (Called 1 Sigprocmask (pos 0)) ∷ line 10 (NoMemory 1 Sigqueue) ∷ line 11 (Called 1 Sigpending (pos 0)) ∷ line 12 (Noted 1 (pos 0)) ∷ line 14 (Called 1 Sigqueue (pos 0)) ∷ line 15 (Called 1 Sigpending (pos 0)) ∷ line 16 (Noted 1 (pos 17179869184)) ∷ []
  row_refused_queuing_printed : print (trace_from 1 (boot queues_twice) (λ k. if k == 10 then false else true) (replicate 16 Step))
      ≡ codes "3 call 1 sigaction = 0\n6 call 1 sigprocmask = 0\n10 call 1 sigqueue = -11 memory\n11 call 1 sigpending = 0\n12 note 1 0\n14 call 1 sigqueue = 0\n15 call 1 sigpending = 0\n16 note 1 17179869184\n"

worked_signals : WorkedSignals
unfolding everything
worked_signals = search

-- ---- process groups, sessions and other programs

record WorkedGroups : Type 0 where
  row_wake_without_an_end : trace (world 40 1 (program None None (Sys Fork ∷ JumpIf Zero 0 21 ∷ Sys SchedYield ∷ Set 1 (negsuc 1) ∷ Sys Waitpid ∷ Sys Setpgid ∷ Sys SchedYield ∷ Set 2 (pos 1) ∷ Sys Setpgid ∷ Sys Pause ∷ []) ∷ [])) (replicate 12 Step)
      ≡ line 1 (Called 1 Fork (pos 2)) ∷ line 3 (Called 1 SchedYield (pos 0)) ∷ line 5 (Called 2 Setpgid (pos 0)) ∷ line 6 (Called 2 SchedYield (pos 0)) ∷ line 10 (Called 2 Setpgid (pos 0)) ∷ line 12 (Called 1 Waitpid (negsuc 9)) ∷ []
  row_new_session_refused_while_the_number_is_a_group : trace (world 40 1 (program None None (Sys Fork ∷ JumpIf Zero 0 19 ∷ Sys Pause ∷ Sys Setpgid ∷ Sys Fork ∷ JumpIf Zero 0 25 ∷ Set 2 (pos 1) ∷ Sys Setpgid ∷ Sys Setsid ∷ Sys Pause ∷ []) ∷ [])) (replicate 10 Step)
      ≡ line 1 (Called 1 Fork (pos 2)) ∷ line 5 (Called 2 Setpgid (pos 0)) ∷ line 6 (Called 2 Fork (pos 3)) ∷ line 9 (Called 2 Setpgid (pos 0)) ∷ line 10 (Called 2 Setsid (negsuc 0)) ∷ []
  row_exec_with_setuid : trace (world 40 1 (program None None (Set 1 (pos 100) ∷ Sys Setuid ∷ Set 1 (pos 1) ∷ Set 2 (pos 9) ∷ Sys Exec ∷ []) ∷ program (Some 7) None (Sys Geteuid ∷ Sys Getuid ∷ Note 1 ∷ []) ∷ [])) (replicate 8 Step)
      ≡ line 2 (Called 1 Setuid (pos 0)) ∷ line 5 (Called 1 Exec (pos 0)) ∷ line 6 (Called 1 Geteuid (pos 7)) ∷ line 7 (Called 1 Getuid (pos 100)) ∷ line 8 (Noted 1 (pos 9)) ∷ []
  row_group_change_after_exec : trace (world 40 1 (program None None (Sys Fork ∷ JumpIf Zero 0 22 ∷ Sys SchedYield ∷ Set 1 (pos 2) ∷ Set 2 (pos 2) ∷ Sys Setpgid ∷ Set 1 (pos 1) ∷ Sys Exec ∷ []) ∷ program None None (Jump 16 ∷ []) ∷ [])) (replicate 6 Step ++ (Tick ∷ []) ++ replicate 3 Step)
      ≡ line 1 (Called 1 Fork (pos 2)) ∷ line 3 (Called 1 SchedYield (pos 0)) ∷ line 6 (Called 2 Exec (pos 0)) ∷ line 10 (Called 1 Setpgid (negsuc 12)) ∷ []
  row_group_outlives_its_leader : trace (world 3 1 (program None None (Sys Fork ∷ JumpIf Zero 0 26 ∷ Sys SchedYield ∷ Sys Fork ∷ JumpIf Zero 0 30 ∷ Sys SchedYield ∷ Set 1 (pos 2) ∷ Set 2 (pos 0) ∷ Sys Waitpid ∷ Sys Fork ∷ Set 1 (pos 0) ∷ Set 2 (pos 0) ∷ Sys Setpgid ∷ Sys Exit ∷ Set 1 (pos 0) ∷ Set 2 (pos 2) ∷ Sys Setpgid ∷ Sys Pause ∷ []) ∷ [])) (replicate 20 Step)
      ≡ line 1 (Called 1 Fork (pos 2)) ∷ line 3 (Called 1 SchedYield (pos 0)) ∷ line 7 (Called 2 Setpgid (pos 0)) ∷ line 8 (Ended 2 0) ∷ line 9 (Called 1 Fork (pos 3)) ∷ line 11 (Called 1 SchedYield (pos 0)) ∷ line 15 (Called 3 Setpgid (pos 0)) ∷ line 19 (Reported 1 wait.Waitpid 2 0) ∷ line 20 (Called 1 Fork (negsuc 10)) ∷ []

worked_groups : WorkedGroups
unfolding everything
worked_groups = search

-- ---- consoles

record WorkedConsoles : Type 0 where
  row_subreaper : trace (world 40 1 (program None None (Sys Fork ∷ JumpIf Zero 0 19 ∷ Sys Pause ∷ Set 1 (pos 1) ∷ Sys Subreaper ∷ Sys Fork ∷ JumpIf Zero 0 26 ∷ Set 1 (negsuc 0) ∷ Sys Waitpid ∷ Jump 23 ∷ Sys Fork ∷ JumpIf Zero 0 30 ∷ Set 1 (pos 1) ∷ Sys Exit ∷ Set 1 (pos 2) ∷ Sys Exit ∷ []) ∷ [])) (replicate 25 Step)
      ≡ line 1 (Called 1 Fork (pos 2)) ∷ line 6 (Marked 2 true) ∷ line 7 (Called 2 Fork (pos 3)) ∷ line 12 (Called 3 Fork (pos 4)) ∷ line 15 (Ended 3 256) ∷ line 18 (Ended 4 512) ∷ line 19 (Reported 2 wait.Waitpid 3 256) ∷ line 22 (Reported 2 wait.Waitpid 4 512) ∷ line 25 (Called 2 Waitpid (negsuc 9)) ∷ []
  row_shell_ends_with_a_stopped_job : trace (world 40 1 (program None None (Sys Fork ∷ JumpIf Zero 0 21 ∷ Set 1 (negsuc 0) ∷ Sys Waitpid ∷ Jump 18 ∷ Sys Setsid ∷ Set 1 (pos 1) ∷ Sys Setctty ∷ Sys Fork ∷ JumpIf Zero 0 35 ∷ Set 1 (pos 3) ∷ Set 2 (pos 3) ∷ Sys Setpgid ∷ Sys Tcsetpgrp ∷ Set 1 (negsuc 0) ∷ Set 2 (pos 2) ∷ Sys Waitpid ∷ Set 1 (pos 0) ∷ Sys Exit ∷ Jump 35 ∷ []) ∷ [])) (replicate 18 Step ++ (Key 1 26 ∷ []) ++ replicate 10 Step)
      ≡ line 1 (Called 1 Fork (pos 2)) ∷ line 6 (Called 2 Setsid (pos 2)) ∷ line 8 (Called 2 Setctty (pos 0)) ∷ line 9 (Called 2 Fork (pos 3)) ∷ line 13 (Called 2 Setpgid (pos 0)) ∷ line 14 (Called 2 Tcsetpgrp (pos 0)) ∷ line 20 (Stopped 3 20) ∷ line 21 (Reported 2 wait.Waitpid 3 5247) ∷ line 23 (Ended 2 0) ∷ line 24 (Reported 1 wait.Waitpid 2 0) ∷ line 28 (Ended 3 1) ∷ line 29 (Reported 1 wait.Waitpid 3 1) ∷ []
  row_background_read : trace (world 40 1 (program None None (Sys Fork ∷ JumpIf Zero 0 19 ∷ Sys Pause ∷ Sys Setsid ∷ Set 1 (pos 1) ∷ Sys Setctty ∷ Sys Fork ∷ JumpIf Zero 0 31 ∷ Set 1 (pos 3) ∷ Set 2 (pos 3) ∷ Sys Setpgid ∷ Set 1 (negsuc 0) ∷ Set 2 (pos 2) ∷ Sys Waitpid ∷ Sys Pause ∷ Set 1 (pos 0) ∷ Set 2 (pos 16) ∷ Sys Read ∷ []) ∷ [])) (replicate 21 Step)
      ≡ line 1 (Called 1 Fork (pos 2)) ∷ line 5 (Called 2 Setsid (pos 2)) ∷ line 7 (Called 2 Setctty (pos 0)) ∷ line 8 (Called 2 Fork (pos 3)) ∷ line 12 (Called 2 Setpgid (pos 0)) ∷ line 20 (Stopped 3 21) ∷ line 21 (Reported 2 wait.Waitpid 3 5503) ∷ []
  row_background_read_orphaned : trace (world 40 1 (program None None (Sys Fork ∷ JumpIf Zero 0 19 ∷ Sys Pause ∷ Sys Setsid ∷ Set 1 (pos 1) ∷ Sys Setctty ∷ Sys Fork ∷ JumpIf Zero 0 30 ∷ Set 1 (pos 3) ∷ Set 2 (pos 3) ∷ Sys Setpgid ∷ Sys Tcsetpgrp ∷ Set 1 (pos 0) ∷ Sys Read ∷ Set 1 (pos 0) ∷ Set 2 (pos 16) ∷ Sys Read ∷ []) ∷ [])) (replicate 15 Step)
      ≡ line 1 (Called 1 Fork (pos 2)) ∷ line 5 (Called 2 Setsid (pos 2)) ∷ line 7 (Called 2 Setctty (pos 0)) ∷ line 8 (Called 2 Fork (pos 3)) ∷ line 12 (Called 2 Setpgid (pos 0)) ∷ line 13 (Called 2 Tcsetpgrp (pos 0)) ∷ line 15 (Called 2 Read (negsuc 4)) ∷ []
  row_line_editing : trace reads_lines line_edited
      ≡ line 2 (Called 1 Setctty (pos 0)) ∷ line 11 (Moved 1 Read (104 ∷ 106 ∷ 10 ∷ [])) ∷ line 15 (Called 1 Read (pos 0)) ∷ line 21 (Moved 1 Read (10 ∷ [])) ∷ []
  row_line_editing_printed : print (trace reads_lines line_edited) ≡ codes "2 call 1 setctty = 0\n11 call 1 read = 3 bytes 686a0a\n15 call 1 read = 0\n21 call 1 read = 1 bytes 0a\n"
  row_long_line : trace reads_lines (replicate 5 Step ++ replicate 256 (Key 1 97) ++ (Key 1 10 ∷ []) ++ replicate 31 Step)
      ≡ line 2 (Called 1 Setctty (pos 0)) ∷ line 263 (Moved 1 Read (replicate 16 97)) ∷ line 265 (Moved 1 Read (replicate 16 97)) ∷ line 267 (Moved 1 Read (replicate 16 97)) ∷ line 269 (Moved 1 Read (replicate 16 97)) ∷ line 271 (Moved 1 Read (replicate 16 97)) ∷ line 273 (Moved 1 Read (replicate 16 97)) ∷ line 275 (Moved 1 Read (replicate 16 97)) ∷ line 277 (Moved 1 Read (replicate 16 97)) ∷ line 279 (Moved 1 Read (replicate 16 97)) ∷ line 281 (Moved 1 Read (replicate 16 97)) ∷ line 283 (Moved 1 Read (replicate 16 97)) ∷ line 285 (Moved 1 Read (replicate 16 97)) ∷ line 287 (Moved 1 Read (replicate 16 97)) ∷ line 289 (Moved 1 Read (replicate 16 97)) ∷ line 291 (Moved 1 Read (replicate 16 97)) ∷ line 293 (Moved 1 Read (replicate 15 97 ++ 10 ∷ [])) ∷ []
  row_reused_number_is_not_the_old_foreground : trace (world 3 1 (program None None (Sys Fork ∷ JumpIf Zero 0 19 ∷ Sys Pause ∷ Sys Setsid ∷ Set 1 (pos 1) ∷ Sys Setctty ∷ Sys Fork ∷ JumpIf Zero 0 36 ∷ Set 1 (pos 3) ∷ Set 2 (pos 3) ∷ Sys Setpgid ∷ Sys Tcsetpgrp ∷ Set 2 (pos 0) ∷ Sys Waitpid ∷ Sys Fork ∷ JumpIf Zero 0 37 ∷ Set 1 (pos 3) ∷ Set 2 (pos 3) ∷ Sys Setpgid ∷ Sys Tcgetpgrp ∷ Sys Exit ∷ Jump 37 ∷ []) ∷ [])) (replicate 24 Step)
      ≡ line 1 (Called 1 Fork (pos 2)) ∷ line 5 (Called 2 Setsid (pos 2)) ∷ line 7 (Called 2 Setctty (pos 0)) ∷ line 8 (Called 2 Fork (pos 3)) ∷ line 12 (Called 2 Setpgid (pos 0)) ∷ line 13 (Called 2 Tcsetpgrp (pos 0)) ∷ line 17 (Ended 3 256) ∷ line 18 (Reported 2 wait.Waitpid 3 256) ∷ line 19 (Called 2 Fork (pos 3)) ∷ line 23 (Called 2 Setpgid (pos 0)) ∷ line 24 (Called 2 Tcgetpgrp (pos 4)) ∷ []
  -- a hangup wakes the reader, whose next read finds the end of file, and whose write is refused
  row_hangup : trace (world 40 1 (program None None (Sys Fork ∷ JumpIf Zero 0 20 ∷ Set 1 (negsuc 0) ∷ Sys Waitpid ∷ Sys Setsid ∷ Set 1 (pos 1) ∷ Sys Setctty ∷ Set 1 (pos 1) ∷ Set 2 (pos 32) ∷ Sys Sigaction ∷ Set 1 (pos 0) ∷ Set 2 (pos 16) ∷ Sys Read ∷ Sys Read ∷ Sys Write ∷ Sys Exit ∷ Sys Sigreturn ∷ []) ∷ [])) (replicate 14 Step ++ Hangup 1 ∷ [] ++ replicate 7 Step)
      ≡ line 1 (Called 1 Fork (pos 2)) ∷ line 6 (Called 2 Setsid (pos 2)) ∷ line 8 (Called 2 Setctty (pos 0)) ∷ line 11 (Called 2 Sigaction (pos 0)) ∷ line 16 (Called 2 Read (pos 0)) ∷ line 17 (Handled 2 1 (pos 0) 0) ∷ line 18 (Returned 2) ∷ line 19 (Called 2 Read (pos 0)) ∷ line 20 (Called 2 Write (negsuc 4)) ∷ line 21 (Ended 2 0) ∷ line 22 (Reported 1 wait.Waitpid 2 0) ∷ []

worked_consoles : WorkedConsoles
unfolding everything
worked_consoles = search
