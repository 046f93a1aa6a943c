-- Re-exports the names of the specification that other crates cite. Declares nothing of its own.
pub use Rattle.posix.specs.Alarms.{alarm_in, alarm_signal, due_in, has_alarms, is_due, most_ticks, pass_time, ring_at, ticks_in, ticks_left}
unfoldable pub use Rattle.posix.specs.Alarms.{alarm, ring_all, rung, with_alarm}
unfoldable pub use Rattle.posix.specs.Attempts.{attempt, attempt_again}
pub use Rattle.posix.specs.Births.{born}
unfoldable pub use Rattle.posix.specs.Births.{child_of, fork_as}
pub use Rattle.posix.specs.Calls.{asks_memory, call_named, call_of_wait, call_text, wait_in}
pub use Rattle.posix.specs.Choice.{all_signals, carried_by, from_kernel, is_ready}
unfoldable pub use Rattle.posix.specs.Choice.{chosen, discarded, first_carried, least_ready, taken, without_first}
pub use Rattle.posix.specs.Consoles.{Console, changed_at, console_at, is_of_session, is_told, keyed_by, lines_left, most_edited, most_lines, most_waiting, session_told, unused_console, with_console}
unfoldable pub use Rattle.posix.specs.Consoles.{acquired, changed_console, console_of, disconnected, edit, erased, finish_line, flushed, has_room, key_signal, keyed, line_taken, released, signal_typed, waiting, with_byte, with_foreground, with_tostop}
pub use Rattle.posix.specs.Credentials.{all_ids_set, effective_id_set, id_in, ids_on_exec, is_own, is_privileged, may, may_signal, on_exec, with_group, with_user}
unfoldable pub use Rattle.posix.specs.Credentials.{setegid, seteuid, setgid, setuid}
pub use Rattle.posix.specs.Decimals.{value_of}
unfoldable pub use Rattle.posix.specs.Decimals.{decimal_value}
pub use Rattle.posix.specs.Delivery.{act_by_default, act_on, call_of, discard, fault_with, interruption, return_to, stop_or_discard}
unfoldable pub use Rattle.posix.specs.Delivery.{deliver, fault, handle, return_from_handler, stop_process, take_out}
pub use Rattle.posix.specs.Ends.{drop_child, drops_children, end_with_heir, forgotten, halt, hung_up, hup_and_cont, hup_and_cont_orphans, is_dropping, leave_children_and_die, signalled_group, status_of}
unfoldable pub use Rattle.posix.specs.Ends.{end_process, ended, hang_up, hup_and_cont_all, made_zombie, notice_of_end, signalled_members, tell_of_all, zombies_of}
pub use Rattle.posix.specs.Entries.{Line, line, numbered, process_of, reported, reports_end}
pub use Rattle.posix.specs.Execute.{Executed, StaysUnlessRun, address_of, computed, execute, execute_fetched, faulted, fetched, is_zero, jump, load_from, move_on, passes, put_result, register, set_register, store_at}
unfoldable pub use Rattle.posix.specs.Execute.{exec_one}
pub use Rattle.posix.specs.Generation.{SA_RESETHAND, SA_SIGINFO, action, after_discards, does_nothing, gets_no_signals, has_flag, has_sig, is_caught, is_harmless, is_ignored, is_pending, keeps, make_pending, with_pending, with_queue}
unfoldable pub use Rattle.posix.specs.Generation.{effect_of, generated, signalled, without_stops}
pub use Rattle.posix.specs.GroupCalls.{can_join, can_move, group_meant, is_group_of_others, move_of, move_to, named, setpgid_with, tells}
unfoldable pub use Rattle.posix.specs.GroupCalls.{getpgid, getsid, in_group, in_session, is_group_of, setpgid, setsid}
pub use Rattle.posix.specs.Groups.{is_outside, some_stopped}
unfoldable pub use Rattle.posix.specs.Groups.{group_numbers, has_stopped, is_anchor, is_newly_orphaned, is_orphaned, loses_anchor, newly_orphaned}
pub use Rattle.posix.specs.Handlers.{after_entry, frame_of, give_action, give_mask, handler_arguments, handler_mask, is_full, is_interrupted, is_restarted, leave_call, left, mask_before, most_frames, newest_frame, restore}
unfoldable pub use Rattle.posix.specs.Handlers.{at_handler, entered, handles, returned, set_action, set_mask}
pub use Rattle.posix.specs.Heirs.{Forebear, forebear_of, forebears, heir_among, heir_in, most_processes}
unfoldable pub use Rattle.posix.specs.Heirs.{nearest_marked}
pub use Rattle.posix.specs.NextPid.{first_free}
unfoldable pub use Rattle.posix.specs.NextPid.{is_free, next_free}
pub use Rattle.posix.specs.Notices.{acted_upon, child_signal, generated_for, ignores_children, ignores_stops}
unfoldable pub use Rattle.posix.specs.Notices.{noticed, noticed_of_change, resumed, signalled_all, stopped_by, told_of_change}
unfoldable pub use Rattle.posix.specs.Numbers.{with_number}
pub use Rattle.posix.specs.Outcomes.{Again, Attempted, Block, Done, Outcome, Reply, finish, finish_call, finish_with, no_memory, plain, refusal, refused, silent, write_registers}
unfoldable pub use Rattle.posix.specs.Outcomes.{finished, written}
pub use Rattle.posix.specs.Printing.{bit, digit, print, print_line, printed, words_of}
unfoldable pub use Rattle.posix.specs.Printing.{hex}
pub use Rattle.posix.specs.Processes.{Cpu, Credentials, Process, Signals, argument, first_process, fresh_cpu, initial_action, initial_signals, is_living, is_running, is_stopped, is_zombie, no_flags, root}
unfoldable pub use Rattle.posix.specs.Processes.{default_actions, nothing_pending, zero_memory, zero_registers}
pub use Rattle.posix.specs.Programs.{action_on_exec, exec_as, exec_of, handler_on_exec, signals_on_exec}
unfoldable pub use Rattle.posix.specs.Programs.{exec, executed}
pub use Rattle.posix.specs.Ranges.{IsEvent, IsWorld, is_i64, is_id, is_instruction, is_own_id, is_program}
pub use Rattle.posix.specs.Regular.{AreConsoles, AreGrouped, CanInherit, IsAhead, IsBounded, IsPlaced, IsRegular}
unfoldable pub use Rattle.posix.specs.Regular.{IsDistinct}
pub use Rattle.posix.specs.Runs.{Runs, RunsFrom}
pub use Rattle.posix.specs.Sends.{has_full_queue, is_queuer, is_target, message, most_queued, number_of, queued_for, send, send_with, sending_found, sending_permitted, sent_by, signal_in, signal_or_none}
unfoldable pub use Rattle.posix.specs.Sends.{kill, permitted, queuers, queuers_among, sending, sending_granted, sent, sent_among, sigqueue, targets}
pub use Rattle.posix.specs.Settle.{AreFresh, Covers, IsSettled, NoWakeIsLost, can_go_on, is_block, is_fresh, refreshed, wakes, woken_if}
unfoldable pub use Rattle.posix.specs.Settle.{can_act, clear_foregrounds, give_places, settle, woken}
pub use Rattle.posix.specs.SignalCalls.{action_in, all_flags, are_flags, bit_of, gives_action, handler_in, handler_word, holding, how_in, is_question, set_credentials, sigaction_of, sigaction_with, sigprocmask_with}
unfoldable pub use Rattle.posix.specs.SignalCalls.{give_credentials, give_signals, pending_set, set_of, sigaction, sigpending, sigprocmask}
pub use Rattle.posix.specs.SignalNumbers.{CONT, HUP, KILL, SEGV, STOP, TSTP, TTIN, TTOU, default_action, is_realtime, is_signal, is_stop_signal}
pub use Rattle.posix.specs.SignalSets.{except, has, maskable, set_in, word_of}
pub use Rattle.posix.specs.States.{Program, State, World, boot, change, current, current_process, go_last, has_place, lose_place, next_pid, process}
unfoldable pub use Rattle.posix.specs.States.{is_in, without}
pub use Rattle.posix.specs.Statuses.{continued, exited, is_continued_word, is_end_word, is_stopped_word, killed, stopped, tells_end}
pub use Rattle.posix.specs.Step.{IsStep, begin_call, code_of, deliver_or, go_on, hangup_on, instructions, key_on, rotate, settled, signalled_from, waiting_signals, with_leader_told}
unfoldable pub use Rattle.posix.specs.Step.{act, act_in, after_trap, enter, hangup, happens, key, next, out_of_call, set_cpu, step, tick}
pub use Rattle.posix.specs.Subreapers.{finish_marked}
unfoldable pub use Rattle.posix.specs.Subreapers.{marked_as, subreaper}
pub use Rattle.posix.specs.Tables.{IsNext, above, at, bears, first_pid, has_pid, is_child, is_member, left_of, parent_of, pids, reparented}
unfoldable pub use Rattle.posix.specs.Tables.{IsRising, adopted, changed, children_in, inserted, lookup, members_in, next_above, removed}
pub use Rattle.posix.specs.Targets.{greatest_pid, process_in, target_in}
pub use Rattle.posix.specs.Terminals.{blocks_or_ignores, change_console, console_named, finish_moved, foreground_told, if_allowed, is_in_background, is_in_read, is_nonzero, is_reader, may_acquire, put_foreground, read_from, read_in, read_on, setctty_at, setctty_of, settostop_on, tcgetpgrp_on, tcsetpgrp_on, terminal, waits_in, waits_on, write_in, write_on}
unfoldable pub use Rattle.posix.specs.Terminals.{read, setctty, settostop, tcgetpgrp, tcsetpgrp, waits_to_read, with_bytes, write}
pub use Rattle.posix.specs.Transfers.{low_byte, span_in}
unfoldable pub use Rattle.posix.specs.Transfers.{bytes_in, stored}
pub use Rattle.posix.specs.Waits.{WCONTINUED, WEXITED, WNOHANG, WNOWAIT, WSTOPPED, asked_by, gives_nothing, gives_report, has_option, is_named, is_something, report_among, report_change, report_found, report_life, report_of_meant, reports, results_of, results_of_nothing, sorts, wait_for, wait_with, waitid_options, waitpid_options}
unfoldable pub use Rattle.posix.specs.Waits.{asked, news_told, report, report_of, wait_by, wanted_in}
