-- After each event of worked runs the lines so far agree with the state, computed.
use Rattle.std.specs.Prelude.{ℕ, ◌+◌, ◌≡◌, ◌==◌, ◌&&◌, ◌||◌, not, if◌then◌else◌, Bool, true, false, List, [], ◌∷◌, ◌++◌, replicate, Option, Some, None, pos, negsuc, nat_le, count_by}
use Rattle.std.specs.List.{list_all}
use Rattle.posix.specs.declared.event.Event.{Event}
use Rattle.posix.specs.declared.event.Event.TheVariants.{Step, Key}
use Rattle.posix.specs.declared.instr.Instr.TheVariants.{Set, Jump, JumpIf, Sys}
use Rattle.posix.specs.declared.instr.Condition.TheVariants.{Zero}
use Rattle.posix.specs.declared.call.Call.TheVariants.{Exit, Fork, Waitpid, Pause, SchedYield, Sigaction, Setpgid, Setsid, Setctty, Tcsetpgrp}
use Rattle.posix.specs.declared.process.Life.{Life}
use Rattle.posix.specs.declared.process.Life.TheVariants.{Zombie}
use Rattle.posix.specs.declared.process.News.{News}
use Rattle.posix.specs.declared.process.News.TheVariants as news
use Rattle.posix.specs.Common.{KILL, is_stop_signal, Process, is_zombie, is_stopped, World, State, boot, process, is_in, Line, numbered, reported, is_pending, next, is_end_word}
use Rattle.laws.specs.TraceLines.{is_line}
use Rattle.laws.specs.Lives.{is_just, newest_life, is_living, last_line, lawful, parents_from}
use Rattle.laws.specs.Keeping.{Alive, Kept, NeverBorn, Lives, Died, Phase, Going, FirstEnded, Over, kept_of, made_by, phase_of, last_number}
use Rattle.laws.specs.Agree.{is_birth, count_living, count_zombies}
use Rattle.laws.proofs.Rows.{program, world, everything, note_and_exit, stops_its_child}

abbrev news_agree : Alive → Bool → News → Bool
news_agree a stops news.Nothing = true
news_agree a stops (news.StoppedBy s) = is_just s a.stop && is_stop_signal s
news_agree a stops news.Continued = a.may_continue && not stops

abbrev is_nothing : News → Bool
is_nothing news.Nothing = true
is_nothing _ = false

abbrev has_status : ℕ → Life → Bool
has_status w (Zombie v) = v == w
has_status w _ = false

abbrev is_same : Bool → Bool → Bool
is_same a b = if a then b else not b

abbrev agree_on : Kept → Option Process → Bool
agree_on NeverBorn None = true
agree_on NeverBorn (Some r) = false
agree_on (Lives a) None = false
agree_on (Lives a) (Some r) = not (is_zombie r.life) && r.parent == a.parent && is_same r.is_subreaper a.is_marked && news_agree a (is_stopped r.life) r.news && (not (is_stopped r.life) || a.may_continue)
agree_on (Died d) None = true
agree_on (Died d) (Some r) = has_status d.status r.life && r.parent == d.parent && not d.reported && (r.pid == 1 || is_nothing r.news) && is_end_word d.status

abbrev is_phase : Bool → Phase → Bool
is_phase halted Going = not halted
is_phase halted FirstEnded = false
is_phase halted Over = halted

abbrev is_turn : State → Process → Bool
is_turn s r = not (is_in r.pid s.order && is_stopped r.life) || is_pending r.signals KILL

-- of the numbers 1 to 5
abbrev agrees : List Line → ℕ → State → Bool
agrees lines k s =
    nat_le (last_number (last_line lines)) k
    && list_all (λ p. agree_on (kept_of lines p) (process s p)) (1 ∷ 2 ∷ 3 ∷ 4 ∷ 5 ∷ [])
    && s.births == 1 + count_by is_birth lines
    && s.births == count_living s + count_zombies s + reported lines + s.dropped
    && is_phase s.halted (phase_of (last_line lines))
    && list_all (is_turn s) s.processes

-- after each event, and the laws at the end: they hold of beginnings
abbrev agree_from : ℕ → List Line → State → List Event → Bool
agree_from k lines s [] = agrees lines k s && lawful lines && list_all is_line lines
agree_from k lines s (event ∷ events) =
    agrees lines k s && (let done = next true s event in agree_from (k + 1) (lines ++ numbered (k + 1) done.entries) done.state events)

abbrev agree_always : World → List Event → Bool
agree_always w events = agree_from 0 [] (boot w) events

unfoldable lines_too : Unit {0}
unfolding everything kept_of made_by newest_life is_living parents_from
lines_too = tt

-- these runs agree
record AgreeingRuns : Type 0 where
  row_note_and_exit : agree_always note_and_exit (replicate 5 Step) ≡ true
  row_parent_dies_with_a_zombie_child : agree_always (world 40 1 (program None None (Sys Fork ∷ JumpIf Zero 0 21 ∷ Set 1 (negsuc 0) ∷ Sys Waitpid ∷ Jump 18 ∷ Sys Fork ∷ JumpIf Zero 0 26 ∷ Sys SchedYield ∷ Set 1 (pos 2) ∷ Sys Exit ∷ Set 1 (pos 5) ∷ Sys Exit ∷ []) ∷ [])) (replicate 20 Step) ≡ true
  row_children_ignored : agree_always (world 40 1 (program None None (Set 1 (pos 17) ∷ Set 2 (pos 1) ∷ Sys Sigaction ∷ Sys Fork ∷ JumpIf Zero 0 26 ∷ Sys Fork ∷ JumpIf Zero 0 26 ∷ Set 1 (negsuc 0) ∷ Set 2 (pos 0) ∷ Sys Waitpid ∷ Sys Exit ∷ []) ∷ [])) (replicate 15 Step) ≡ true
  row_numbers_wrap_and_are_reused : agree_always (world 4 1 (program None None (Sys Fork ∷ JumpIf Zero 0 28 ∷ Sys Fork ∷ JumpIf Zero 0 29 ∷ Sys Fork ∷ JumpIf Zero 0 28 ∷ Set 1 (pos 3) ∷ Set 2 (pos 0) ∷ Sys Waitpid ∷ Sys Fork ∷ JumpIf Zero 0 28 ∷ Sys Fork ∷ Sys Pause ∷ Sys Exit ∷ []) ∷ [])) (replicate 19 Step) ≡ true
  row_stop_and_continue : agree_always (stops_its_child 18) (replicate 21 Step) ≡ true
  row_kill_while_stopped : agree_always (stops_its_child 9) (replicate 18 Step) ≡ true
  row_shell_ends_with_a_stopped_job : agree_always (world 40 1 (program None None (Sys Fork ∷ JumpIf Zero 0 21 ∷ Set 1 (negsuc 0) ∷ Sys Waitpid ∷ Jump 18 ∷ Sys Setsid ∷ Set 1 (pos 1) ∷ Sys Setctty ∷ Sys Fork ∷ JumpIf Zero 0 35 ∷ Set 1 (pos 3) ∷ Set 2 (pos 3) ∷ Sys Setpgid ∷ Sys Tcsetpgrp ∷ Set 1 (negsuc 0) ∷ Set 2 (pos 2) ∷ Sys Waitpid ∷ Set 1 (pos 0) ∷ Sys Exit ∷ Jump 35 ∷ []) ∷ [])) (replicate 18 Step ++ (Key 1 26 ∷ []) ++ replicate 10 Step) ≡ true

agreeing_runs : AgreeingRuns
unfolding lines_too
agreeing_runs = search
