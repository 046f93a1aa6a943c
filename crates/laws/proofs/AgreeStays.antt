-- After each event the lines so far and those of the event agree with the state.
use Rattle.std.proofs.Common.{◌≡◌, ℕ, Bool, true, false, refl, sym, ◌∙◌, List, [], ◌∷◌, ◌++◌, take, length, Option, Some, None, ℤ, pos, negsuc}
use Rattle.std.proofs.lemmas.Bool.{cond_both}
use Rattle.posix.specs.declared.call.Call.{Call}
use Rattle.posix.specs.declared.call.Call.TheVariants.{Fork, SchedYield, Sigaction, Sigprocmask, Sigpending, Alarm, Exec, Setpgid, Setsid, Setctty, Tcsetpgrp, Settostop, Read, Write}
use Rattle.posix.specs.declared.errno.Errno.TheVariants.{EAGAIN, EINTR}
use Rattle.posix.specs.declared.entry.Entry.{Entry}
use Rattle.posix.specs.declared.entry.Entry.TheVariants.{Noted, Called, Moved, Reported, Looked, NoMemory}
use Rattle.posix.specs.declared.process.Action.{Action}
use Rattle.posix.specs.declared.process.Blocked.{Blocked}
use Rattle.posix.specs.declared.process.Blocked.TheVariants as blocked
use Rattle.posix.specs.declared.process.Life.{Life}
use Rattle.posix.specs.declared.process.Life.TheVariants.{Running, Stopped, Zombie}
use Rattle.posix.specs.declared.process.PendingSignal.{PendingSignal}
use Rattle.posix.specs.declared.process.Report.TheVariants as found
use Rattle.posix.specs.declared.target.Target.{Target}
use Rattle.posix.specs.Common.{KILL, word_of, set_in, exited, killed, Process, is_zombie, is_running, is_stopped, argument, IsRising, lookup, removed, pids, State, is_in, change, lose_place, go_last, exec_one, Outcome, silent, Attempted, Reply, finish_call, finish_with, finished, written, refusal, action, is_pending, handles, is_full, is_interrupted, returned, set_mask, born, call_of_wait, results_of, results_of_nothing, news_told, call_of, interruption, take_out, sent, sent_among, permitted, targets, message, give_credentials, give_signals, holding, pending_set, executed, in_group, in_session, with_alarm, due_in, act, enter, set_cpu, out_of_call, code_of, Console, acquired, with_foreground, with_tostop, line_taken, bytes_in, change_console, finish_moved, with_bytes}
use Rattle.posix.specs.declared.waits.WaitCall.{WaitCall}
use Rattle.posix.specs.declared.waits.WaitCall.TheVariants as wait
use Rattle.laws.specs.Agree.{AreTurns}
use Rattle.posix.proofs.NextLemmas.{new_number}
use Rattle.posix.proofs.ReportLemmas.{reporting}
use Rattle.posix.proofs.WaitLemmas.{IfTold}
use Rattle.laws.proofs.StatusLemmas.{killed_word, exited_word}
use Rattle.laws.proofs.NewsLemmas.{end_of, change_of}
use Rattle.laws.proofs.QuietLemmas.{Quiet, quiet_same, quiet_then, quiet_as, Untold, untold_cond, quiet_change, IsRunning, quiet_own, running_own}
use Rattle.laws.proofs.QuietOperations.{quiet_group, quiet_signalled, quiet_lose, quiet_last}
use Rattle.laws.proofs.ToldLines.{is_plain, IsLiving}
use Rattle.laws.proofs.ToldOutcomes.{IsTold, told_quiet, told_after, told_before, told_plain, told_line, told_end, told_stop, told_marked, told_born, told_reaped, told_news, told_looked_at_end, told_looked_at_news, running_living}
use Rattle.posix.proofs.AttemptLemmas.{Meets, Retries, Ways, Gives}
use Rattle.posix.proofs.DeliveryLemmas.{Deliveries, Turn, by_return, by_turn}

-- ---- changes of the caller

pub untold_handles : (signal : PendingSignal) (address : ℤ) → Untold (handles signal address)
unfolding handles
untold_handles signal address = untold_cond (λ r. is_full r.signals) _ _ (λ r. refl) (λ r. refl)

-- results that are written
quiet_finished : (s : State) (p : ℕ) (results : List (ℕ × ℤ)) → Quiet s (change s p (finished results))
unfolding finished
quiet_finished s p results = quiet_change s p (finished results) (λ r. refl) (λ r e. e)

-- ---- deliveries

-- a process that runs, in a state that isn't halted
record Runs (s : State) (p : ℕ) : Type 0 where
  up : IsRising s.processes
  me : IsRunning s p
  awake : s.halted ≡ false

-- it does after a change of its own
runs_own : (s : State) (p : ℕ) (f : Process → Process) → Untold f → Runs s p → Runs (change s p f) p
runs_own s p f u h = record { up = (quiet_own s p f u h.me).rising h.up; me = running_own s p f u h.me; awake = h.awake }

-- a call that is interrupted tells of nothing
told_interrupted : (s : State) (p : ℕ) (b : Option Blocked) (a : Action) (o : Outcome) → IsLiving s p → IsTold s o → IsTold s (record { state = o.state; entries = interruption p b a ++ o.entries })
told_interrupted s p None a o me h = h
told_interrupted s p (Some b) a o me h = cond_both (is_interrupted (Some b) a) (Called p (call_of b) (refusal EINTR) ∷ []) [] (λ (es : List Entry). IsTold s (record { state = o.state; entries = es ++ o.entries }))
    (λ t. told_plain s p (Called p (call_of b) (refusal EINTR)) o me refl (silent_call b) h) (λ t. h)
  where
    silent_call : (b : Blocked) → is_plain (Called p (call_of b) (refusal EINTR)) ≡ true
    silent_call (blocked.Wait wait.Waitpid) = refl
    silent_call b = refl

-- in such a state, to which a quiet change led
record IsActing (s : State) (r : Process) (t : State) : Type 0 where
  runs : Runs t r.pid
  quiet : Quiet s t

acts_own : (s : State) (r : Process) (t : State) (f : Process → Process) → Untold f → IsActing s r t → IsActing s r (change t r.pid f)
acts_own s r t f u b = record { runs = runs_own t r.pid f u b.runs; quiet = quiet_then s t _ b.quiet (quiet_own t r.pid f u b.runs.me) }

told_deliveries : (s : State) (r : Process) → Runs s r.pid → Deliveries (IsTold s) (IsActing s r) r
unfolding take_out returned
told_deliveries s r h =
    let lives = running_living s r.pid h.me in
    record {
      kills = λ t n b sig. told_after s t _ b.quiet (told_end t r (killed n) b.runs.awake b.runs.up (running_living t r.pid b.runs.me) (killed_word n sig));
      interrupts = λ a o told. told_interrupted s r.pid r.blocked a o lives told;
      enters = λ t signal address b comes. acts_own s r t (handles signal address) (untold_handles signal address) b;
      shows_handler = λ t signal address b comes. told_line s _ r.pid _ h.awake lives refl refl (acts_own s r t (handles signal address) (untold_handles signal address) b).quiet;
      discards = λ t n b sig. told_line s t r.pid _ h.awake lives refl refl b.quiet;
      stops = λ t n b sig stops. told_after s t _ b.quiet (told_stop t r n b.runs.awake (running_living t r.pid b.runs.me) stops);
      takes = λ t n b. acts_own s r t (take_out n) (λ q. refl) b;
      returns = λ t frame b is. told_line s _ r.pid _ h.awake lives refl refl (acts_own s r t (returned frame) (λ q. refl) b).quiet;
    }

-- ---- calls

-- a process that runs and has a place takes its turn
record IsTaking (s : State) (me : Process) : Type 0 where
  up : IsRising s.processes
  found : lookup me.pid s.processes ≡ Some me
  place : is_in me.pid s.order ≡ true
  runs : is_running me.life ≡ true
  awake : s.halted ≡ false

taking_running : (s : State) (me : Process) → IsTaking s me → IsRunning s me.pid
taking_running s me c = record { what = me; found = c.found; runs = c.runs }

taking_living : (s : State) (me : Process) → IsTaking s me → IsLiving s me.pid
taking_living s me c = running_living s me.pid (taking_running s me c)

runs_taking : (s : State) (me : Process) → IsTaking s me → Runs s me.pid
runs_taking s me c = record { up = c.up; me = taking_running s me c; awake = c.awake }

-- an attempt that is done shows what agrees with its state; one that begins again shows nothing
abbrev TellsIf : State → Attempted → Type 0
TellsIf s = Meets (IsTold s) (Quiet s)

-- a call that gives a value
tells_gives : (s t : State) (me : Process) (call : Call) (z : ℤ) → IsTaking s me → Quiet s t → is_plain (Called me.pid call z) ≡ true → TellsIf s (finish_with t me.pid call z)
tells_gives s t me call z c q silent =
    told_line s (change t me.pid (finished ((0, z) ∷ []))) me.pid (Called me.pid call z) c.awake (taking_living s me c) refl silent (quiet_then s t _ q (quiet_finished t me.pid ((0, z) ∷ [])))

-- a call that changes its process alone
tells_answers : (s : State) (me : Process) (call : Call) (reply : Reply) → IsTaking s me → Untold reply.changes → is_plain (Called me.pid call reply.value) ≡ true → TellsIf s (finish_call s me.pid call reply)
unfolding finished
tells_answers s me call reply c u silent =
    told_line s (change s me.pid (λ r. finished ((0, reply.value) ∷ []) (reply.changes r))) me.pid (Called me.pid call reply.value) c.awake (taking_living s me c) refl silent
    (quiet_own s me.pid (λ r. finished ((0, reply.value) ∷ []) (reply.changes r)) u (taking_running s me c))

-- consoles that change
quiet_consoles : (s : State) (cs : List Console) → Quiet s (record s { consoles = cs })
quiet_consoles s cs = quiet_as s _ refl refl refl refl refl

-- bytes that are moved
tells_moved : (s t : State) (me : Process) (call : Call) (bytes : List ℕ) → IsTaking s me → Quiet s t → is_plain (Called me.pid call (pos 0)) ≡ true → TellsIf s (finish_moved t me.pid call bytes)
tells_moved s t me call [] i q silent = tells_gives s t me call (pos 0) i q silent
tells_moved s t me call (b ∷ bs) i q silent =
    told_line s _ me.pid (Moved me.pid call (b ∷ bs)) i.awake (taking_living s me i) refl refl (quiet_then s t _ q (quiet_finished t me.pid ((0, pos (length (b ∷ bs))) ∷ [])))

-- a signal that is sent
quiet_sent : (s : State) (me : Process) (target : Target) (signal : Option PendingSignal) → Quiet s (record s { processes = sent me target signal s.processes })
unfolding sent sent_among
quiet_sent s me target None = quiet_same s
quiet_sent s me target (Some signal) = quiet_signalled signal (pids (permitted me (Some signal.sig) (targets me target s.processes))) s

-- no line of these tells of a birth
plain_negative : (p n : ℕ) (call : Call) → is_plain (Called p call (negsuc n)) ≡ true
plain_negative p n Fork = refl
plain_negative p n call = refl

plain_zero : (p : ℕ) (call : Call) → is_plain (Called p call (pos 0)) ≡ true
plain_zero p Fork = refl
plain_zero p call = refl

plain_given : (s : State) (me : Process) (call : Call) (n : ℕ) → Gives s me call n → is_plain (Called me.pid call (pos n)) ≡ true
plain_given s me Fork n is = absurd (is)
plain_given s me call n is = refl

tells_child : (s collected : State) (me : Process) (call : WaitCall) (child status : ℕ) → IsTold s (record { state = s; entries = Looked me.pid child status ∷ [] }) → IsTold s (record { state = collected; entries = Reported me.pid call child status ∷ [] })
    → IfTold (TellsIf s) s collected me.pid call child status
tells_child s collected me call child status looked taken =
    let results = results_of call child status in
    (told_before s s _ (Looked me.pid child status ∷ []) looked (quiet_finished s me.pid results), told_before s collected _ (Reported me.pid call child status ∷ []) taken (quiet_finished collected me.pid results))

tells_retries : (s : State) (me : Process) → IsTaking s me → Retries (IsTold s) (Quiet s) s me
unfolding line_taken with_bytes
tells_retries s me c =
    let lives = taking_living s me c in
    record {
      refuses = λ call n fails few. tells_gives s s me call (negsuc n) c (quiet_same s) (plain_negative me.pid n call);
      gives = λ call n is. tells_gives s s me call (pos n) c (quiet_same s) (plain_given s me call n is);
      finds_nothing = λ call. told_line s _ me.pid _ c.awake lives refl (plain_zero me.pid (call_of_wait call)) (quiet_finished s me.pid (results_of_nothing call));
      tells_end = λ call target options child status e.
          let h = reporting s.processes c.up me.pid me.group target options (found.End child status) child e refl in
          let life = end_of options h.what child status h.says in
          tells_child s (record s { processes = removed child s.processes }) me call child status (told_looked_at_end s me.pid child status h.what c.awake lives h.found h.parent life)
          (told_reaped s me.pid call child status h.what c.awake lives c.up h.found h.parent life);
      tells_change = λ call target options child status e.
          let h = reporting s.processes c.up me.pid me.group target options (found.Change child status) child e refl in
          let n = change_of options h.what child status h.says in
          tells_child s (change s child news_told) me call child status (told_looked_at_news s me.pid child status h.what c.awake lives h.found h.parent n.0 n.1)
          (told_news s me.pid call child status h.what c.awake lives h.found h.parent n.0 n.1);
      reads = λ console span line rest has fits is.
          let bytes = take span.count line in
          let left = change_console s me.session (line_taken span.count) in
          tells_moved s _ me Read bytes c (quiet_then s left _ (quiet_consoles s _) (quiet_change left me.pid (with_bytes span.address bytes) (λ r. refl) (λ r e. e))) refl;
      begins_again = λ n is. quiet_group n me.group s;
    }

tells_ways : (granted : Bool) (s : State) (me : Process) → IsTaking s me → Ways (IsTold s) (Quiet s) granted s me
unfolding acquired with_foreground with_tostop give_credentials give_signals written with_alarm executed in_group in_session
tells_ways granted s me c =
    let lives = taking_living s me c in
    record {
      retries = tells_retries s me c;
      wants_memory = λ call wants none. told_line s _ me.pid (NoMemory me.pid call) c.awake lives refl refl (quiet_finished s me.pid ((0, refusal EAGAIN) ∷ []));
      exits = told_end s me (exited (argument me 1)) c.awake c.up lives (exited_word (argument me 1));
      bears = λ n is.
          let new = new_number s n is in
          told_before s (born s me n) _ (Called me.pid Fork (pos n) ∷ []) (told_born s me n c.awake c.found c.runs new.least new.fresh) (quiet_finished (born s me n) me.pid ((0, pos n) ∷ []));
      yields = tells_gives s (go_last s me.pid) me SchedYield (pos 0) c (quiet_last s me.pid c.place) refl;
      sets_ids = λ call new is. let same : Untold (give_credentials new) = λ r. refl in tells_answers s me call _ c same (plain_zero me.pid call);
      sends = λ call target value n is permitted. tells_gives s _ me call (pos 0) c (quiet_sent s me target (message me.pid value n)) (plain_zero me.pid call);
      sets_action = λ n g is. let same : Untold (λ r. holding (action me.signals n) (give_signals g r)) = λ r. refl in tells_answers s me Sigaction _ c same refl;
      sets_mask = λ what. let same : Untold (λ r. written 2 (word_of me.signals.mask) (give_signals (set_mask what (set_in (argument me 2)) me.signals) r)) = λ r. refl in tells_answers s me Sigprocmask _ c same refl;
      tells_pending = let same : Untold (written 1 (word_of (pending_set me.signals))) = λ r. refl in tells_answers s me Sigpending _ c same refl;
      returns = by_return _ (IsActing s me) me (told_deliveries s me (runs_taking s me c)) s (record { runs = runs_taking s me c; quiet = quiet_same s });
      sets_alarm = λ n is. let same : Untold (with_alarm (due_in s.ticks n)) = λ r. refl in tells_answers s me Alarm _ c same refl;
      executes = λ n program is. told_line s _ me.pid (Called me.pid Exec (pos 0)) c.awake lives refl refl (quiet_own s me.pid (executed n program) (λ r. refl) (taking_running s me c));
      moves = λ r group h is goes. tells_gives s _ me Setpgid (pos 0) c (quiet_change s r.pid (in_group h) (λ q. refl) (λ q e. e)) refl;
      leads = λ alone. tells_gives s _ me Setsid (pos me.pid) c (quiet_change s me.pid in_session (λ r. refl) (λ r e. e)) refl;
      acquires = λ k console is may. tells_gives s _ me Setctty (pos 0) c (quiet_consoles s _) refl;
      sets_foreground = λ g is. tells_gives s _ me Tcsetpgrp (pos 0) c (quiet_consoles s _) refl;
      sets_tostop = λ b. tells_gives s _ me Settostop (pos 0) c (quiet_consoles s _) refl;
      writes = λ span fits. tells_moved s s me Write (bytes_in span me.cpu.memory) c (quiet_same s) refl;
      marks = λ mark. told_marked s me.pid mark c.awake (taking_running s me c);
    }

-- ---- a turn

-- who lives runs, where it isn't stopped
runs_or_stopped : (l : Life) → is_zombie l ≡ false → (is_stopped l ≡ true → false ≡ true) → is_running l ≡ true
runs_or_stopped Running z h = refl
runs_or_stopped Stopped z h = let no = h refl in absurd (cc)
runs_or_stopped (Zombie w) z h = absurd (cc)

told_turn : (granted : Bool) (s : State) (r : Process) → IsTaking s r → Turn (IsTold s) (Quiet s) (IsActing s r) granted s r
unfolding enter out_of_call set_cpu
told_turn granted s r c =
    let cpu = (exec_one (code_of s r) r.cpu).cpu in
    let moves_on = quiet_own s r.pid (set_cpu cpu) (λ q. refl) (taking_running s r c) in
    record {
      here = record { runs = runs_taking s r c; quiet = quiet_same s };
      deliveries = told_deliveries s r (runs_taking s r c);
      calls = tells_ways granted s r c;
      enters_call = λ b.
          let t = change s r.pid (enter b) in
          told_quiet s (lose_place t r.pid) c.awake (quiet_then s t _ (quiet_own s r.pid (enter b) (λ q. refl) (taking_running s r c)) (quiet_lose t r.pid));
      begins_again = λ t h. told_quiet s t c.awake h;
      leaves_call = λ t h. told_quiet s (change t r.pid out_of_call) c.awake (quiet_then s t _ h (quiet_change t r.pid out_of_call (λ q. refl) (λ q e. e)));
      waits = told_quiet s (lose_place s r.pid) c.awake (quiet_lose s r.pid);
      runs = told_quiet s _ c.awake moves_on;
      notes = λ z is. told_line s _ r.pid (Noted r.pid z) c.awake (taking_living s r c) refl refl moves_on;
    }

-- a turn
pub told_act : (granted : Bool) (s : State) (r : Process) → s.halted ≡ false → IsRising s.processes → lookup r.pid s.processes ≡ Some r → is_in r.pid s.order ≡ true → is_zombie r.life ≡ false → AreTurns s → IsTold s (act granted s r)
unfolding act
told_act granted s r awake up found place lives turns =
    cond_both (is_pending r.signals KILL) _ _ (IsTold s)
    (λ t. told_end s r (killed KILL) awake up (record { what = r; found = found; lives = lives }) (killed_word KILL refl))
    (λ t. by_turn (IsTold s) (Quiet s) (IsActing s r) granted s r (told_turn granted s r (record { up = up; found = found; place = place; runs = runs_or_stopped r.life lives (λ stops. sym t ∙ turns.turns r.pid r place found stops); awake = awake })))
