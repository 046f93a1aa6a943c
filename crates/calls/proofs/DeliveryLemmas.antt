-- The outcome of a delivery, by what was found on the way.
use Rattle.std.proofs.Common.{◌≡◌, ℕ, Bool, true, false, cond, not, ◌&&◌, refl, ap, sym, ◌∙◌, List, [], ◌∷◌, ◌++◌, Some, ◌==◌, ℤ, inl, inr, ◌⊎◌}
use Rattle.posix.specs.declared.sig.DefaultAction.{DefaultAction}
use Rattle.posix.specs.declared.sig.DefaultAction.TheVariants as default
use Rattle.posix.specs.declared.entry.Entry.{Entry}
use Rattle.posix.specs.declared.entry.Entry.TheVariants.{Handled, Discarded, Returned}
use Rattle.posix.specs.declared.process.Action.{Action}
use Rattle.posix.specs.declared.process.Carried.{Carried}
use Rattle.posix.specs.declared.process.Frame.{Frame}
use Rattle.posix.specs.declared.process.Handler.TheVariants as handler
use Rattle.posix.specs.declared.process.PendingSignal.{PendingSignal}
use Rattle.posix.specs.Common.{SEGV, STOP, default_action, killed, Process, State, process, change, Outcome, action, told_of_change, is_orphaned, carried_by, handles, is_full, newest_frame, returned, hang_up, end_process, interruption, handle, discard, stop_process, stop_or_discard, act_by_default, act_on, take_out, deliver, return_to, return_from_handler}
use Rattle.posix.proofs.RegularLemmas.{keeps_handles}
use Rattle.calls.proofs.CallLemmas.{outcome_of, same_outcome}
use Rattle.calls.proofs.ChosenLemmas.{handle_taken, end_taken, changed_there}

-- ---- a termination depends only on the ID, the parent and the session

pub end_same : (s : State) (r q : Process) (status : ℕ) → r.pid ≡ q.pid → r.parent ≡ q.parent → r.session ≡ q.session → end_process s r status ≡ end_process s q status
unfolding end_process hang_up
end_same s r q status e f g = rw (e, f, g) refl

-- ---- a handler

-- there is room for its frame
pub handle_room : (s : State) (me : Process) (signal : PendingSignal) (address : ℤ) (t : State) (es : List Entry) → is_full me.signals ≡ false → t ≡ change s me.pid (handles signal address)
    → es ≡ interruption me.pid me.blocked (action me.signals signal.sig) ++ Handled me.pid signal.sig signal.carried.value signal.carried.sender ∷ []
    → handle s me signal address ≡ outcome_of t es
unfolding handle
handle_room s me signal address t es room st en = rw room (same_outcome _ t _ es (sym st) (sym en))

-- there is none, and the process terminates
pub handle_full : (s : State) (me : Process) (signal : PendingSignal) (address : ℤ) (t u : State) (es : List Entry) → is_full me.signals ≡ true → t ≡ change s me.pid (handles signal address)
    → u ≡ (end_process t (handles signal address me) (killed SEGV)).state
    → es ≡ interruption me.pid me.blocked (action me.signals signal.sig) ++ (end_process t (handles signal address me) (killed SEGV)).entries
    → handle s me signal address ≡ outcome_of u es
unfolding handle
handle_full s me signal address t u es full st end en =
    let k = keeps_handles {now = 0} signal address in
    let same : end_process t (handles signal address me) (killed SEGV) ≡ end_process (change s me.pid (handles signal address)) me (killed SEGV) =
    end_same t (handles signal address me) me (killed SEGV) (k.pid me) (k.parent me) (k.session me) ∙ ap (λ x. end_process x me (killed SEGV)) st in
    rw full (same_outcome _ u _ es (sym (end ∙ ap (λ (o : Outcome). o.state) same))
    (sym (en ∙ ap (λ (o : Outcome). interruption me.pid me.blocked (action me.signals signal.sig) ++ o.entries) same)))

-- ---- a delivery

-- what was read of the signal is what the record says
pub record Reads (s : State) (me : Process) (n : ℕ) (t : State) (a : Action) : Type 0 where
  pub action_is : a ≡ action me.signals n
  pub state_is : t ≡ change s me.pid (take_out n)

-- into a handler
pub deliver_at : (s : State) (me : Process) (n : ℕ) (t : State) (a : Action) (address : ℤ) (c : Carried) → Reads s me n t a → a.handler ≡ handler.At address → c ≡ carried_by n me.signals
    → deliver s me n ≡ handle t (take_out n me) (record { sig = n; carried = c }) address
unfolding deliver
deliver_at s me n t a address c is at with =
    let given : PendingSignal = record { sig = n; carried = carried_by n me.signals } in
    ap (act_on (change s me.pid (take_out n)) me given) (ap (λ (x : Action). x.handler) (sym is.action_is) ∙ at)
    ∙ ap (λ x. handle (change s me.pid (take_out n)) me (record { sig = n; carried = x }) address) (sym with)
    ∙ ap (λ x. handle x me (record { sig = n; carried = c }) address) (sym is.state_is)
    ∙ sym (handle_taken t me n (record { sig = n; carried = c }) address)

-- of an ignored signal
pub deliver_ignored : (s : State) (me : Process) (n : ℕ) (t : State) (a : Action) → Reads s me n t a → a.handler ≡ handler.Ignore → deliver s me n ≡ outcome_of t (Discarded me.pid n ∷ [])
unfolding deliver
deliver_ignored s me n t a is ignored =
    let given : PendingSignal = record { sig = n; carried = carried_by n me.signals } in
    ap (act_on (change s me.pid (take_out n)) me given) (ap (λ (x : Action). x.handler) (sym is.action_is) ∙ ignored)
    ∙ ap (λ x. outcome_of x (Discarded me.pid n ∷ [])) (sym is.state_is)

-- the default action of a process
abbrev pub defaults : State → Process → ℕ → DefaultAction → Outcome
defaults s me n d = cond (me.pid == 1) (discard s me.pid n) (act_by_default s me n d)

-- the same, whether the signal was taken out or not
default_taken : (s : State) (me : Process) (n : ℕ) (d : DefaultAction) → defaults s (take_out n me) n d ≡ defaults s me n d
unfolding take_out stop_process told_of_change
default_taken s me n default.Terminate = ap (λ x. cond (me.pid == 1) (discard s me.pid n) x) (end_taken s me n (killed n))
default_taken s me n d = refl

-- by default
pub deliver_default : (s : State) (me : Process) (n : ℕ) (t : State) (a : Action) → Reads s me n t a → a.handler ≡ handler.Default → deliver s me n ≡ defaults t (take_out n me) n (default_action n)
unfolding deliver
deliver_default s me n t a is by_default =
    let given : PendingSignal = record { sig = n; carried = carried_by n me.signals } in
    ap (act_on (change s me.pid (take_out n)) me given) (ap (λ (x : Action). x.handler) (sym is.action_is) ∙ by_default)
    ∙ ap (λ x. defaults x me n (default_action n)) (sym is.state_is)
    ∙ sym (default_taken t me n (default_action n))

-- whether it is process 1 decides first
pub by_default_if : (s : State) (me : Process) (n : ℕ) (b : Bool) → (me.pid == 1) ≡ b → defaults s me n (default_action n) ≡ cond b (discard s me.pid n) (act_by_default s me n (default_action n))
by_default_if s me n b e = ap (λ b. cond b (discard s me.pid n) (act_by_default s me n (default_action n))) e

-- a termination by default
pub default_ends : (s : State) (me : Process) (n : ℕ) (u : State) (es : List Entry) → (me.pid == 1) ≡ false → default_action n ≡ default.Terminate
    → u ≡ (end_process s me (killed n)).state → es ≡ (end_process s me (killed n)).entries → defaults s me n (default_action n) ≡ outcome_of u es
default_ends s me n u es other ends st en =
    by_default_if s me n false other ∙ ap (act_by_default s me n) ends ∙ same_outcome (end_process s me (killed n)).state u (end_process s me (killed n)).entries es (sym st) (sym en)

-- if the group is orphaned, and the signal isn't SIGSTOP, it has no effect
pub stop_if : (s : State) (me : Process) (n : ℕ) (b : Bool) → (not (n == STOP) && is_orphaned me.group s.processes) ≡ b → stop_or_discard s me n ≡ cond b (discard s me.pid n) (stop_process s me n)
stop_if s me n b e = ap (λ b. cond b (discard s me.pid n) (stop_process s me n)) e

-- ---- a return

-- of the newest handler
pub return_is : (s : State) (me : Process) (frame : Frame) (t : State) → newest_frame me.signals ≡ Some frame → t ≡ change s me.pid (returned frame)
    → return_from_handler s me ≡ outcome_of t (Returned me.pid ∷ [])
unfolding return_from_handler
return_is s me frame t newest st = ap (return_to s me) newest ∙ ap (λ x. outcome_of x (Returned me.pid ∷ [])) (sym st)

-- ---- small steps

-- what was added to no entries is the only one
pub shown_alone : (old new : List Entry) (e : Entry) → old ≡ [] → new ≡ old ++ e ∷ [] → e ∷ [] ≡ new
shown_alone old new e none is = sym (is ∙ ap (λ (l : List Entry). l ++ e ∷ []) none)

-- a default action other than terminating and stopping has no effect
pub default_rests : (s : State) (me : Process) (n : ℕ) (d e : DefaultAction) → d ≡ e → (d ≡ default.Ignore) ⊎ (d ≡ default.Continue) → act_by_default s me n e ≡ discard s me.pid n
default_rests s me n d e same (inl is) = ap (act_by_default s me n) (sym same ∙ is)
default_rests s me n d e same (inr is) = ap (act_by_default s me n) (sym same ∙ is)

-- an existing process exists after a change
pub there_then : (s t : State) (p : ℕ) (f : Process → Process) → ((r : Process) → (f r).pid ≡ r.pid) → t ≡ change s p f → (me : Process) → process s p ≡ Some me → process t p ≡ Some (f me)
there_then s t p f k is me e = ap (λ (x : State). process x p) is ∙ changed_there p f k s.processes me e
