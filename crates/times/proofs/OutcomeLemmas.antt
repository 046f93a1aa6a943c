-- Shows that the completion of a call doesn't depend on the time.
use Rattle.std.proofs.Common.{◌≡◌, ℕ, List, [], ◌∷◌, refl, ap, ◌∙◌}
use Rattle.std.specs.Prelude.{ℤ}
use Rattle.posix.specs.Processes.{Process}
use Rattle.posix.specs.States.{State, change}
use Rattle.posix.specs.Outcomes.{Reply, Done, finish, finished, plain, finish_call, finish_with, refusing, refused, refusal, no_memory}
use Rattle.posix.specs.declared.call.Call.{Call}
use Rattle.posix.specs.declared.errno.Errno.{Errno}
use Rattle.posix.specs.declared.entry.Entry.{Entry}
use Rattle.posix.specs.declared.entry.Entry.TheVariants.{Called}
use Rattle.times.specs.Times.{later, state_later}
use Rattle.times.proofs.TableLemmas.{changed_later}
use Rattle.times.proofs.CallLemmas.{attempted_later, AreLater}

pub change_later : (d : ℕ) (s : State) (p : ℕ) (f g : Process → Process) → ((r : Process) → f (later d r) ≡ later d (g r)) → change (state_later d s) p f ≡ state_later d (change s p g)
change_later d s p f g h = ap (λ (rs : List Process). record (state_later d s) { processes = rs }) (changed_later d p f g s.processes h)

pub finished_later : (d : ℕ) (results : List (ℕ × ℤ)) (r : Process) → finished results (later d r) ≡ later d (finished results r)
unfolding finished
finished_later d results r = refl

pub finish_later : (d : ℕ) (s : State) (p : ℕ) (results : List (ℕ × ℤ)) → finish (state_later d s) p results ≡ state_later d (finish s p results)
finish_later d s p results = change_later d s p (finished results) (finished results) (finished_later d results)

-- A completed call writes the same registers, and shows the same entries.
pub finish_done_later : (d : ℕ) (s : State) (p : ℕ) (results : List (ℕ × ℤ)) (es : List Entry) →
    Done (record { state = finish (state_later d s) p results; entries = es }) ≡ attempted_later d (Done (record { state = finish s p results; entries = es }))
finish_done_later d s p results es = ap (λ (t : State). Done (record { state = t; entries = es })) (finish_later d s p results)

pub finish_call_later : (d : ℕ) (s : State) (p : ℕ) (call : Call) (now then : Reply) → AreLater d now then → finish_call (state_later d s) p call now ≡ attempted_later d (finish_call s p call then)
finish_call_later d s p call now then h =
    ap (λ (t : State). Done (record { state = t; entries = Called p call now.value ∷ [] })) (change_later d s p (completed now) (completed then) each)
    ∙ ap (λ (z : ℤ). Done (record { state = state_later d (change s p (completed then)); entries = Called p call z ∷ [] })) h.0 where
      completed : Reply → Process → Process
      completed reply r = finished ((0, reply.value) ∷ []) (reply.changes r)

      each : (r : Process) → completed now (later d r) ≡ later d (completed then r)
      each r =
          ap (λ (z : ℤ). finished ((0, z) ∷ []) (now.changes (later d r))) h.0
          ∙ ap (finished ((0, then.value) ∷ [])) (h.1 r)
          ∙ finished_later d ((0, then.value) ∷ []) (then.changes r)

pub plain_later : (d : ℕ) (z : ℤ) → AreLater d (plain z) (plain z)
plain_later d z = (refl, λ r. refl)

pub refusing_later : (d : ℕ) (errno : Errno) → AreLater d (refusing errno) (refusing errno)
refusing_later d errno = plain_later d (refusal errno)

pub finish_with_later : (d : ℕ) (s : State) (p : ℕ) (call : Call) (z : ℤ) → finish_with (state_later d s) p call z ≡ attempted_later d (finish_with s p call z)
finish_with_later d s p call z = finish_call_later d s p call (plain z) (plain z) (plain_later d z)

pub refused_later : (d : ℕ) (s : State) (p : ℕ) (call : Call) (errno : Errno) → refused (state_later d s) p call errno ≡ attempted_later d (refused s p call errno)
refused_later d s p call errno = finish_with_later d s p call (refusal errno)

pub no_memory_later : (d : ℕ) (s : State) (p : ℕ) (call : Call) → no_memory (state_later d s) p call ≡ attempted_later d (no_memory s p call)
no_memory_later d s p call = finish_done_later d s p _ _
