-- What an audit keeps is what its fields keep.
use Rattle.std.proofs.Common.{◌≡◌, ℕ, List, Option, Some, None, refl, ap, sym, ◌∙◌, subst, nat_eq, option_map}
use Rattle.std.specs.Option.{unwrap_or}
use Rattle.std.proofs.lemmas.Map.Made.{lookup-map_values}
use mathlib.Core.Path.{fun_ext}
use Rattle.posix.specs.Common.{Line}
use Rattle.laws.specs.Keeping.{Kept, NeverBorn, kept_after, phase_after, fault_of}
use Rattle.audit.specs.declared.fault.AuditFault.{AuditFault}
use Rattle.audit.specs.declared.records.Record.{Record}
use Rattle.audit.specs.declared.tests_of_lines.Phase.{Phase}
use Rattle.audit.specs.Phases.{phase_said}
use Rattle.audit.specs.Records.{kept_record, kept_by, kept_all, record_in}
use Rattle.audit.specs.Knowing.{AuditView, kept_at, Heard, StaysWith, IsNewBirth}

known_or : (o : Option Record) → unwrap_or (option_map (λ r. kept_record (Some r)) o) NeverBorn ≡ kept_record o
known_or None = refl
known_or (Some r) = refl

-- what is kept of c
pub all_at : (entries : List (ℕ × Record)) (c : ℕ) → kept_at (kept_all entries) c ≡ kept_by entries c
unfolding kept_at kept_all kept_by
all_at entries c =
    ap (λ (o : Option Kept). unwrap_or o NeverBorn) (lookup-map_values (λ r. kept_record (Some r)) (nat_eq c) entries)
    ∙ known_or (record_in entries c)

all_kept : (entries : List (ℕ × Record)) → kept_by entries ≡ kept_at (kept_all entries)
all_kept entries = sym (fun_ext (all_at entries))

-- ---- an audit by its fields

abbrev pub view_of : List (ℕ × Record) → ℕ → Phase → Option AuditFault → AuditView
view_of entries last phase fault = record { numbers = kept_all entries; last = last; phase = phase_said phase; fault = fault }

pub fault_seen : (entries : List (ℕ × Record)) (last : ℕ) (phase : Phase) (fault : Option AuditFault) (a : AuditView) (l : Line) → view_of entries last phase fault ≡ a
    → fault_of (kept_by entries) last (phase_said phase) l ≡ fault_of (kept_at a.numbers) a.last a.phase l
fault_seen entries last phase fault a l same =
    ap (λ (f : ℕ → Kept). fault_of f last (phase_said phase) l) (all_kept entries) ∙ ap (λ (v : AuditView). fault_of (kept_at v.numbers) v.last v.phase l) same

pub birth_seen : (entries : List (ℕ × Record)) (last : ℕ) (phase : Phase) (fault : Option AuditFault) (a : AuditView) (l : Line) → view_of entries last phase fault ≡ a
    → IsNewBirth (kept_by entries) l → IsNewBirth (kept_at a.numbers) l
birth_seen entries last phase fault a l same h = subst (λ v. IsNewBirth (kept_at v.numbers) l) same (subst (λ f. IsNewBirth f l) (all_kept entries) h)

pub stays_seen : (entries new : List (ℕ × Record)) (last : ℕ) (phase : Phase) (fault : Option AuditFault) (a : AuditView) → view_of entries last phase fault ≡ a
    → ((c : ℕ) → kept_by new c ≡ kept_by entries c) → StaysWith a.fault a (view_of new last phase fault)
stays_seen entries new last phase fault a same h =
    subst (λ v. StaysWith v.fault v (view_of new last phase fault)) same
    (record { kept = λ c. all_at new c ∙ h c ∙ sym (all_at entries c); last = refl; phase = refl; fault = refl })

pub heard_seen : (entries new : List (ℕ × Record)) (last : ℕ) (phase after : Phase) (fault : Option AuditFault) (a : AuditView) (l : Line) → view_of entries last phase fault ≡ a
    → ((c : ℕ) → kept_by new c ≡ kept_after (kept_by entries) l.entry c) → phase_said after ≡ phase_after l.entry → Heard l a (view_of new l.event after fault)
heard_seen entries new last phase after fault a l same h next =
    subst (λ v. Heard l v (view_of new l.event after fault)) same
    (record { kept = λ c. all_at new c ∙ h c ∙ ap (λ (f : ℕ → Kept). kept_after f l.entry c) (all_kept entries); last = refl; phase = next; fault = refl })
