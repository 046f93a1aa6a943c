-- What a closure that changes a record did.
use Rattle.std.proofs.Common.{◌≡◌, ℕ, inl, refl, ap, sym, ◌∙◌, List, Some, true}
use Rattle.std.specs.Borrow.{MutBor}
use Rattle.std.specs.Fn.{Once, FnOnceReturnsAtMut}
use Rattle.posix.specs.Common.{Process, IsRising, lookup, changed, parent_of}
use Rattle.proctable.specs.declared.records.Record.{Record}
use Rattle.proctable.specs.Records.{process_of, own_of}
use Rattle.proctable.proofs.RecordLemmas.{changed_here}
use Rattle.jobs.specs.IndexedTables.{IsRun, ChangesSignals, StaysGrouped, StaysPut}
use Rattle.jobs.specs.Indexes.{seen_of, record_seen, keeps_group_and_session}
use Rattle.jobs.proofs.AnchorLemmas.{stance_kept}

-- if a closure changes records as f changes processes, it changes that process by f
pub run_as : {F T : Type 0} {g : Once F (MutBor Record × Unit {0}) (T × (MutBor Record × Unit {0}))} {change : F} {rs ts : List Process} {p : ℕ} {r : T} (f : Process → Process) → IsRun g change rs ts p r → IsRising rs
    → ((b c : Record) (r : T) → FnOnceReturnsAtMut g change b r c → (q : ℕ) → process_of p q c ≡ f (process_of p q b)) → ts ≡ changed p f rs
run_as {rs = rs} {p = p} {r = r} f k up did = k.is ∙ changed_here rs up p k.before k.after f k.found (did k.before k.after r k.ran)

-- a change of only the signals and the alarm
abbrev pub OnlySignals : (Process → Process) → Type 0
OnlySignals f = (r : Process) → f r ≡ record r { signals = (f r).signals; alarm = (f r).alarm }

-- the record that a table keeps of a process
record_of : Process → Record
record_of r = record { own = own_of r; life = r.life; news = r.news; group = r.group; session = r.session; alarm = r.alarm; is_subreaper = r.is_subreaper; birth = r.birth }

pub signals_as : {F T : Type 0} {g : Once F (MutBor Record × Unit {0}) (T × (MutBor Record × Unit {0}))} {change : F} (p : ℕ) (f : Process → Process) → OnlySignals f
    → ((b c : Record) (r : T) → FnOnceReturnsAtMut g change b r c → (q : ℕ) → process_of p q c ≡ f (process_of p q b)) → ChangesSignals g change
unfolding record_of
signals_as p f only did b c r k =
    let is = did b c r k 0 in
    ap record_of (is ∙ only (process_of p 0 b))
    ∙ ap (λ (q : Process). record b { alarm = q.alarm; own = record (b.own) { signals = q.signals } }) (sym is)

-- a change that keeps the process group and the session of p
pub put_as : {F T : Type 0} {g : Once F (MutBor Record × Unit {0}) (T × (MutBor Record × Unit {0}))} {change : F} (p : ℕ) (rs : List Process) (f : Process → Process) → ((r : Process) → lookup p rs ≡ Some r → keeps_group_and_session (seen_of r) (seen_of (f r)) ≡ true)
    → ((b c : Record) (r : T) → FnOnceReturnsAtMut g change b r c → (q : ℕ) → process_of p q c ≡ f (process_of p q b)) → StaysPut g change rs p
put_as p rs f keeps did b c r found k = ap (λ (q : Process). keeps_group_and_session (record_seen b) (seen_of q)) (did b c r k (parent_of p rs)) ∙ keeps (process_of p (parent_of p rs) b) found

-- such a change leaves p in its process group
pub put_grouped : {F T : Type 0} {g : Once F (MutBor Record × Unit {0}) (T × (MutBor Record × Unit {0}))} {change : F} (p : ℕ) (rs : List Process) → StaysPut g change rs p → StaysGrouped g change rs p
put_grouped p rs h b c r found k = inl (stance_kept (record_seen b) (record_seen c) (h b c r found k)).0

-- the parent that was read is the one in the record
pub parent_is : (p q : ℕ) (rs : List Process) (me : Process) → q ≡ parent_of p rs → lookup p rs ≡ Some me → q ≡ me.parent
parent_is p q rs me e found = e ∙ rw found refl
