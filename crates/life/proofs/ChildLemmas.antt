-- The walk over the children of a process, and what a wait learns from one child, or from each.
use Rattle.std.proofs.Common.{◌≡◌, ◌==◌, ◌<◌, ℕ, cond, filter, option_map, refl, ap, sym, ◌∙◌, arith, List, [], ◌∷◌, length, Option, Some, None, is_some, Bool, ◌&&◌}
use Rattle.posix.specs.declared.process.Report.TheVariants as found
use Rattle.posix.specs.declared.target.Target.{Target}
use Rattle.posix.specs.declared.target.Target.TheVariants as whom
use Rattle.posix.specs.Common.{Process, IsRising, above, is_child, lookup, children_in, first_pid, left_of, State, IsRegular, report, report_life, report_of, wanted_in, report_of_meant, is_named, reports}
use Rattle.std.specs.List.{list_any}
use Rattle.std.specs.Option.{IsSome, option_map_or}
use Rattle.posix.proofs.WalkLemmas.{AtChild, at_child, at_first, passing_above}
use Rattle.posix.proofs.TableLemmas.{pid_looked}
use Rattle.posix.proofs.ReportingLemmas.{wanted_some, report_one, report_nobody}
use Rattle.posix.proofs.ResultLemmas.{is_there, mapped_is}
use Rattle.proctable.specs.declared.snapshot.Snapshot.{Snapshot}
use Rattle.proctable.specs.Records.{snapshot_of}
use Rattle.std.proofs.lemmas.Option.{same_Some}
use Rattle.life.specs.Waits.{is_reported, is_meant}

-- the walk over the children of p is at the one that comes next
pub record IsAtChild (rs : List Process) (p : ℕ) (next : Option ℕ) : Type 0 where
  pub rising : IsRising rs
  pub here : first_pid (left_of next (children_in p rs)) ≡ next

-- no child has number 0
first_child : (s : State) → IsRegular s → (p : ℕ) → first_pid (above 0 (children_in p s.processes)) ≡ first_pid (children_in p s.processes)
unfolding children_in
first_child s i p = ap first_pid (passing_above (is_child p) s.processes i.rising (λ q r e. (i.bounded q r e).least))

-- it begins at the first child above 0, and all are left
pub first_todo : (s : State) → IsRegular s → (p : ℕ) (next : Option ℕ) → next ≡ first_pid (above 0 (children_in p s.processes)) → left_of next (children_in p s.processes) ≡ children_in p s.processes
first_todo s i p next e = rw (e ∙ first_child s i p) (at_first s.processes i.rising p)

-- so it knows where it is
pub first_here : (s : State) → IsRegular s → (p : ℕ) (next : Option ℕ) → next ≡ first_pid (above 0 (children_in p s.processes)) → IsAtChild s.processes p next
first_here s i p next e = record { rising = i.rising; here = ap first_pid (first_todo s i p next e) ∙ sym (e ∙ first_child s i p) }

-- what it knows of the child c
pub child_here : {rs : List Process} {p c : ℕ} {next : Option ℕ} → IsAtChild rs p next → next ≡ Some c → AtChild rs p c
child_here {rs = rs} {p = p} {c = c} w comes = at_child rs w.rising p c (ap (λ o. first_pid (left_of o (children_in p rs))) (sym comes) ∙ w.here ∙ comes)

-- that it is there
pub child_there : {rs : List Process} {p c : ℕ} {next : Option ℕ} → IsAtChild rs p next → next ≡ Some c → IsSome (lookup c rs)
child_there w comes = let r = child_here w comes in is_there _ r.what r.found

-- it goes on to the next child
pub next_here : {rs : List Process} {p c : ℕ} {next after : Option ℕ} → IsAtChild rs p next → next ≡ Some c → after ≡ first_pid (above c (children_in p rs)) → IsAtChild rs p after
next_here {rs = rs} {p = p} {c = c} w comes e = let at = child_here w comes in record { rising = w.rising; here = rw e at.next }

-- and one child less is left
pub child_less : {rs : List Process} {p c : ℕ} {next after : Option ℕ} → IsAtChild rs p next → next ≡ Some c → after ≡ first_pid (above c (children_in p rs)) → length (left_of after (children_in p rs)) < length (left_of next (children_in p rs))
child_less {rs = rs} {p = p} {c = c} w comes e = let at = child_here w comes in rw (comes, e) (omega (arith, ap length at.left))

-- ---- a wait

-- the lowest-numbered child that is selected and wanted exists
pub wanted_there : (rs : List Process) → IsRising rs → (p : ℕ) (means : Process → Bool) (options c : ℕ) → Some c ≡ first_pid (filter means (wanted_in options p rs)) → IsSome (lookup c rs)
wanted_there rs up p means options c e = let w = wanted_some rs up p means options c (sym e) in is_there _ w.what w.found

-- a wait for any child selects each child
pub any_child : (s : State) → IsRegular s → (p : ℕ) → is_some (first_pid (above 0 (children_in p s.processes))) ≡ list_any (is_meant None) (children_in p s.processes)
any_child s i p = ap is_some (first_child s i p) ∙ any (children_in p s.processes)
  where
    any : (rs : List Process) → is_some (first_pid rs) ≡ list_any (is_meant None) rs
    any [] = refl
    any (r ∷ rs) = refl

-- a wait for any child, and for those in a process group
pub report_any : (rs : List Process) (p own options : ℕ) → report rs p own whom.All options ≡ report_of_meant (is_meant None) options (children_in p rs)
unfolding report
report_any rs p own options = refl

pub report_in : (rs : List Process) (p own group options : ℕ) → report rs p own (whom.Group group) options ≡ report_of_meant (is_meant (Some group)) options (children_in p rs)
unfolding report
report_in rs p own group options = refl

-- ---- one process

-- what was read of a process is what it reports
pub read_report : (rs : List Process) (options c : ℕ) (f : Snapshot) (r : Process) → Some f ≡ option_map snapshot_of (lookup c rs) → lookup c rs ≡ Some r → report_life options c f.life f.news ≡ report_of options r
unfolding report_of
read_report rs options c f r read found = rw (mapped_is _ snapshot_of r f read found, pid_looked c rs r found) refl

-- and what a wait for it reports, where its parent waits
pub report_read : (s : State) (p own c options : ℕ) → IsRegular s → report s.processes p own (whom.Process c) options ≡ option_map_or (λ f. cond (f.parent == p) (report_life options c f.life f.news) found.NoChild) (option_map snapshot_of (lookup c s.processes)) found.NoChild
unfolding report_of
report_read s p own c options i =
    elim (lookup c s.processes) as (λ o. lookup c s.processes ≡ o → report s.processes p own (whom.Process c) options ≡ option_map_or (λ f. cond (f.parent == p) (report_life options c f.life f.news) found.NoChild) (option_map snapshot_of o) found.NoChild) [
      | None ↦ λ e. report_nobody s.processes p own c options e
      | Some r ↦ λ e. report_one s.processes i.rising p own c options r e ∙ ap (λ n. cond (r.parent == p) (report_life options n r.life r.news) found.NoChild) (pid_looked c s.processes r e)
    ] refl

-- what was read says whether a wait reports it
pub is_reported_read : (p group : ℕ) (target : Target) (options : ℕ) (o : Option Process) (it : Snapshot) → Some it ≡ option_map snapshot_of o → (b : Bool) → ((r : Process) → it ≡ snapshot_of r → (r.parent == p && (is_named group target r && reports options r)) ≡ b) → is_reported p group target options o ≡ b
is_reported_read p group target options None it e b h = absurd (cc)
is_reported_read p group target options (Some r) it e b h = h r (same_Some _ _ e)
