-- What a call that begins again changes.
use Rattle.std.proofs.Common.{rules, ◌≡◌, ℕ, Bool, ap, subst, List, [], ◌∷◌, take, inl, inr, ◌⊎◌}
use Rattle.posix.specs.declared.call.Call.{Call}
use Rattle.posix.specs.declared.call.Call.TheVariants.{Read}
use Rattle.posix.specs.declared.process.Blocked.{Blocked}
use Rattle.posix.specs.Common.{TTIN, TTOU, Process, State, change, Again, silent, signalled_group, finish_moved, attempt, attempt_again, begin_call, go_on, out_of_call}
use Rattle.posix.proofs.AttemptLemmas.{Meets, Retries, Ways, by_again, by_attempt}
use Rattle.laws.specs.Background.{HasSignalledItsGroup}

-- bytes that are moved
signalled_moved : (s t : State) (me : Process) (call : Call) (bytes : List ℕ) → Meets (λ o. Unit {0}) (HasSignalledItsGroup s me) (finish_moved t me.pid call bytes)
signalled_moved s t me call [] = tt
signalled_moved s t me call (b ∷ bs) = tt

-- an attempt that begins again has signalled the caller's process group
signalled_retries : (s : State) (me : Process) → Retries (λ o. Unit {0}) (HasSignalledItsGroup s me) s me
signalled_retries s me = record {
  refuses = λ call n fails few. tt;
  gives = λ call n is. tt;
  finds_nothing = λ call. tt;
  tells_end = λ call target options child status is. (tt, tt);
  tells_change = λ call target options child status is. (tt, tt);
  reads = λ c span line rest has fits is. signalled_moved s _ me Read (take span.count line);
  begins_again = by;
}
  where
    by : (n : ℕ) → (n ≡ TTIN) ⊎ (n ≡ TTOU) → HasSignalledItsGroup s me (record s { processes = signalled_group n me.group s.processes })
    by n (inl reads) = inl (ap (λ k. record s { processes = signalled_group k me.group s.processes }) reads)
    by n (inr writes) = inr (ap (λ k. record s { processes = signalled_group k me.group s.processes }) writes)

signalled_ways : (granted : Bool) (s : State) (me : Process) → Ways (λ o. Unit {0}) (HasSignalledItsGroup s me) granted s me
signalled_ways granted s me = search (rules, signalled_retries, signalled_moved)

-- a call that begins again shows nothing
pub begins_again : (granted : Bool) (s : State) (me : Process) (call : Call) (t : State) → attempt granted s me call ≡ Again t
    → (begin_call s me (attempt granted s me call) ≡ silent t) × HasSignalledItsGroup s me t
begins_again granted s me call t is = (ap (begin_call s me) is, subst (Meets (λ o. Unit {0}) (HasSignalledItsGroup s me)) is (by_attempt (λ o. Unit {0}) (HasSignalledItsGroup s me) granted s me (signalled_ways granted s me) call))

-- nor does one that its process was blocked in
pub again_begins_again : (s : State) (me : Process) (b : Blocked) (t : State) → attempt_again s me b ≡ Again t
    → (go_on s me (attempt_again s me b) ≡ silent (change t me.pid out_of_call)) × HasSignalledItsGroup s me t
again_begins_again s me b t is = (ap (go_on s me) is, subst (Meets (λ o. Unit {0}) (HasSignalledItsGroup s me)) is (by_again (λ o. Unit {0}) (HasSignalledItsGroup s me) s me (signalled_retries s me) b))
