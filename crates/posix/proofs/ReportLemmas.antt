-- The child that a wait reports.
use Rattle.std.proofs.Common.{◌≡◌, ◌≢◌, ◌≤◌, ℕ, Bool, true, false, refl, ap, sym, ◌∙◌, arith, subst, List, [], ◌∷◌, filter, find, Option, Some, None}
use Rattle.std.specs.Option.{IsSome}
use Rattle.std.proofs.lemmas.Bool.{eqb-true, eq-eqb}
use Rattle.posix.specs.declared.process.Report.{Report}
use Rattle.posix.specs.declared.target.Target.{Target}
use Rattle.posix.specs.declared.process.Report.TheVariants as found
use Rattle.posix.specs.Common.{Process, is_zombie, IsRising, lookup, changed, removed, is_child, children_in, at, State, IsRegular, IsPlaced, is_named, report_of, reports, report_found, report_among, report}
use Rattle.posix.proofs.TableLemmas.{rising_filter}
use Rattle.posix.proofs.WaitLemmas.{by_report}
use Rattle.posix.proofs.WalkLemmas.{in_filter, found_above}
use Rattle.posix.proofs.MapLemmas.{at_pid, some_map}
use Rattle.posix.proofs.RegularLemmas.{lookup_kept}

-- the child that a report names, if it names one
abbrev pub child_named : Report → Option ℕ
child_named (found.End p status) = Some p
child_named (found.Change p status) = Some p
child_named _ = None

-- whether it reports an end
abbrev pub is_end : Report → Bool
is_end (found.End p status) = true
is_end _ = false

-- ---- what one child has to report

-- what is reported is an end where it is that of a zombie
of_zombie : (options : ℕ) (r : Process) (q : ℕ) → child_named (report_of options r) ≡ Some q → is_end (report_of options r) ≡ is_zombie r.life
of_zombie options r q = by_report (λ z o. child_named o ≡ Some q → is_end o ≡ z) options r (λ z e. absurd (cc)) (λ w e. refl) (λ w e. refl)

-- the child that is named is the one that reports
of_named : (options : ℕ) (r : Process) (q : ℕ) → child_named (report_of options r) ≡ Some q → r.pid ≡ q
of_named options r q = by_report (λ z o. child_named o ≡ Some q → r.pid ≡ q) options r (λ z e. absurd (cc)) (λ w e. cc) (λ w e. cc)

-- ---- what a wait finds

-- who is found is there
find_looked : (t : Process → Bool) (rs : List Process) → IsRising rs → (r : Process) → find t rs ≡ Some r → lookup r.pid rs ≡ Some r
unfolding lookup IsRising
find_looked t [] up r e = absurd (cc)
find_looked t (x ∷ xs) up r e = grind (arith, found_above x.pid r.pid xs r up.0, find_looked t xs up.1 r, eqb-true, eq-eqb)

-- a report that names a child is that of somebody there
in_found : (options : ℕ) (rs : List Process) → IsRising rs → (o : Report) (child : ℕ) → report_among options rs ≡ o → child_named o ≡ Some child → (r : Process) × (lookup r.pid rs ≡ Some r) × (report_of options r ≡ o)
in_found options [] up o child e named = let no : None ≡ Some child = ap child_named e ∙ named in absurd (cc)
in_found options (x ∷ xs) up o child e named =
    elim (find (reports options) (x ∷ xs)) as (λ f. find (reports options) (x ∷ xs) ≡ f → report_found options f ≡ o → (r : Process) × (lookup r.pid (x ∷ xs) ≡ Some r) × (report_of options r ≡ o)) [
      | None ↦ λ t k. let no : None ≡ Some child = ap child_named k ∙ named in absurd (cc)
      | Some r ↦ λ t k. (r, find_looked (reports options) (x ∷ xs) up r t, k)
    ] refl e

-- a child of the caller that reports this
pub record IsReporting (rs : List Process) (options caller child : ℕ) (o : Report) : Type 0 where
  pub what : Process
  pub found : lookup child rs ≡ Some what
  pub parent : what.parent ≡ caller
  pub says : report_of options what ≡ o

-- what a wait finds a child reports
pub reporting : (rs : List Process) → IsRising rs → (caller group : ℕ) (choice : Target) (options : ℕ) (o : Report) (child : ℕ)
    → report rs caller group choice options ≡ o → child_named o ≡ Some child → IsReporting rs options caller child o
unfolding report children_in
reporting rs up caller group choice options o child e named =
    let kids = filter (is_child caller) rs in
    let kids_up = rising_filter (is_child caller) rs up in
    let f = in_found options (filter (is_named group choice) kids) (rising_filter (is_named group choice) kids kids_up) o child e named in
    let a = in_filter (is_named group choice) kids kids_up f.0.pid f.0 f.1 in
    let b = in_filter (is_child caller) rs up f.0.pid f.0 a.found in
    let here : f.0.pid ≡ child = of_named options f.0 child (ap child_named f.2 ∙ named) in
    record { what = f.0; found = subst (λ n. lookup n rs ≡ Some f.0) here b.found; parent = eqb-true _ _ b.passes; says = f.2 }

-- a child of the caller, a zombie or not
pub record IsChild (rs : List Process) (caller child : ℕ) (ended : Bool) : Type 0 where
  pub what : Process
  pub found : lookup child rs ≡ Some what
  pub parent : what.parent ≡ caller
  pub dead : is_zombie what.life ≡ ended

-- an end is reported of a zombie
pub reported : (rs : List Process) → IsRising rs → (caller group : ℕ) (choice : Target) (options : ℕ) (o : Report) (child : ℕ)
    → report rs caller group choice options ≡ o → child_named o ≡ Some child → IsChild rs caller child (is_end o)
reported rs up caller group choice options o child e named =
    let r = reporting rs up caller group choice options o child e named in
    record { what = r.what; found = r.found; parent = r.parent; dead = sym (of_zombie options r.what child (ap child_named r.says ∙ named)) ∙ ap is_end r.says }

-- ---- the table afterwards

-- process 1 is not a child of any process
pub not_first : (s : State) → IsRegular s → (caller child : ℕ) (ended : Bool) → 1 ≤ caller → IsChild s.processes caller child ended → child ≢ 1
not_first s i caller child ended least h same =
    let one : i.first.what ≡ h.what = let both = sym i.first.found ∙ ap (λ n. lookup n s.processes) (sym same) ∙ h.found in cc in
    let parent : 0 ≡ caller = sym i.first.parent ∙ ap (λ (r : Process). r.parent) one ∙ h.parent in
    absurd (omega (arith, parent, least))

-- the caller is there after a zombie is gone
pub caller_stays : (rs : List Process) (caller child : ℕ) → IsPlaced rs caller → IsChild rs caller child true → IsSome (lookup caller (removed child rs))
caller_stays rs caller child me h =
    let apart : caller ≢ child = λ same. grind (arith, same, me.found, me.living, h.found, h.dead) in
    subst IsSome (sym (lookup_kept child caller rs apart ∙ me.found)) refl

-- an existing process exists after a change
pub some_changed : (p q : ℕ) (f : Process → Process) → ((r : Process) → (f r).pid ≡ r.pid) → (rs : List Process) → IsSome (lookup q rs) → IsSome (lookup q (changed p f rs))
unfolding changed
some_changed p q f keeps rs h = some_map (at p f) (at_pid p f keeps) q rs h
