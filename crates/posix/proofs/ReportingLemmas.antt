-- A wait that asks those children alone that it wants.
use Rattle.std.proofs.Common.{◌≡◌, ◌<◌, ◌≤◌, ℕ, Bool, true, false, cond, refl, ap, sym, ◌∙◌, arith, List, [], ◌∷◌, length, filter, find, Option, Some, None, is_some, nat_lt, ◌==◌}
use Rattle.std.specs.List.{list_any}
use Rattle.std.proofs.lemmas.Bool.{eq-eqb, ne_eqb}
use Rattle.posix.specs.declared.process.Report.{Report}
use Rattle.posix.specs.declared.process.Report.TheVariants as found
use Rattle.posix.specs.declared.target.Target.TheVariants as whom
use Rattle.posix.specs.Common.{Process, IsRising, lookup, has_pid, is_child, children_in, first_pid, above, left_of, is_named, wanted_in, report_of, reports, report_found, report_among, report, report_of_meant}
use Rattle.posix.proofs.TableLemmas.{pid_looked, rising_filter}
use Rattle.posix.proofs.WalkLemmas.{AtOne, one_here, one_less, passing_above, all_left, has_first, head_left_of, next_begins, in_filter, found_above, numbered_one, numbered_none, filters_commute}
use Rattle.posix.proofs.WaitLemmas.{one_among}

-- ---- a wait for one process

-- the process that the wait is for is there
pub report_one : (rs : List Process) → IsRising rs → (p group c options : ℕ) (r : Process) → lookup c rs ≡ Some r → report rs p group (whom.Process c) options ≡ cond (r.parent == p) (report_of options r) found.NoChild
unfolding report children_in
report_one rs up p group c options r e =
    ap (report_among options) (filters_commute (has_pid c) (is_child p) rs ∙ ap (filter (is_child p)) (numbered_one c rs up r e))
    ∙ elim (r.parent == p) as (λ b. report_among options (cond b (r ∷ []) []) ≡ cond b (report_of options r) found.NoChild) [ true ↦ one_among options r | false ↦ refl ]

-- or it isn't
pub report_nobody : (rs : List Process) (p group c options : ℕ) → lookup c rs ≡ None → report rs p group (whom.Process c) options ≡ found.NoChild
unfolding report children_in
report_nobody rs p group c options e = ap (report_among options) (filters_commute (has_pid c) (is_child p) rs ∙ ap (filter (is_child p)) (numbered_none c rs e))

-- ---- other targets

-- the caller's own process group is one by its number
pub report_own : (rs : List Process) (p group options : ℕ) → report rs p group whom.OwnGroup options ≡ report rs p group (whom.Group group) options
unfolding report
report_own rs p group options = refl

-- who can't be meant isn't there
pub report_none_meant : (rs : List Process) (p group options : ℕ) → report rs p group whom.Nobody options ≡ found.NoChild
unfolding report
report_none_meant rs p group options = ap (report_among options) (none_named (children_in p rs))
  where
    none_named : (rs : List Process) → filter (is_named group whom.Nobody) rs ≡ []
    none_named [] = refl
    none_named (x ∷ xs) = none_named xs

-- ---- those that it wants

-- the least that passes a test is there, and is found
first_found : (t : Process → Bool) (c : ℕ) (rs : List Process) → IsRising rs → first_pid (filter t rs) ≡ Some c → (r : Process) × (lookup c rs ≡ Some r) × (find t rs ≡ Some r)
unfolding lookup IsRising
first_found t c [] up e = absurd (cc)
first_found t c (x ∷ xs) up e = elim (t x) as (λ b. t x ≡ b → first_pid (cond b (x ∷ filter t xs) (filter t xs)) ≡ Some c → (r : Process) × (lookup c (x ∷ xs) ≡ Some r) × (find t (x ∷ xs) ≡ Some r)) [
  | true ↦ λ k e. let same : x.pid ≡ c = cc in (x, rw (eq-eqb x.pid c same) refl, rw k refl)
  | false ↦ λ k e.
      let h = first_found t c xs up.1 e in
      let low = found_above x.pid c xs h.0 up.0 h.1 in
      (h.0, rw (ne_eqb x.pid c (λ same. omega (arith, low, same))) h.1, rw k h.2)
] refl e

-- if there is no first process, none is found
none_first : (t : Process → Bool) (rs : List Process) → first_pid (filter t rs) ≡ None → find t rs ≡ None
none_first t [] e = refl
none_first t (x ∷ xs) e = grind (arith, e, none_first t xs)

-- the lowest of the selected and wanted children exists, and a wait reports it
pub record IsWanted (rs : List Process) (p : ℕ) (means : Process → Bool) (options c : ℕ) : Type 0 where
  pub what : Process
  pub found : lookup c rs ≡ Some what
  pub says : report_of_meant means options (children_in p rs) ≡ report_of options what

pub wanted_some : (rs : List Process) → IsRising rs → (p : ℕ) (means : Process → Bool) (options c : ℕ) → first_pid (filter means (wanted_in options p rs)) ≡ Some c → IsWanted rs p means options c
unfolding wanted_in children_in
wanted_some rs up p means options c e =
    let kids = filter (is_child p) rs in
    let kids_up = rising_filter (is_child p) rs up in
    let h = first_found (reports options) c (filter means kids) (rising_filter means kids kids_up) (ap first_pid (sym (filters_commute means (reports options) kids)) ∙ e) in
    let found = in_filter (is_child p) rs up c h.0 (in_filter means kids kids_up c h.0 h.1).found in
    record { what = h.0; found = found.found; says = among (filter means kids) h.0 h.2 }
  where
    among : (ks : List Process) (r : Process) → find (reports options) ks ≡ Some r → report_among options ks ≡ report_of options r
    among [] r e = absurd (cc)
    among (k ∷ ks) r e = ap (report_found options) e

-- the report if there is none: no selected child, or nothing to report
abbrev pub unreported : Bool → Report
unreported has_child = cond has_child found.Nothing found.NoChild

pub wanted_none : (rs : List Process) (p : ℕ) (means : Process → Bool) (options : ℕ) (has_child : Bool) → first_pid (filter means (wanted_in options p rs)) ≡ None → has_child ≡ list_any means (children_in p rs) → report_of_meant means options (children_in p rs) ≡ unreported has_child
unfolding wanted_in
wanted_none rs p means options has_child e h =
    let kids = children_in p rs in
    among (filter means kids) (none_first (reports options) (filter means kids) (ap first_pid (sym (filters_commute means (reports options) kids)) ∙ e)) ∙ ap unreported (has_first means kids ∙ sym h)
  where
    among : (ks : List Process) → find (reports options) ks ≡ None → report_among options ks ≡ unreported (is_some (first_pid ks))
    among [] e = refl
    among (k ∷ ks) e = ap (report_found options) e

-- ---- the walk over them

-- The next process is the lowest that is left, and the lowest selected one is left.
pub record IsWantedWalk (rs : List Process) (p : ℕ) (means : Process → Bool) (options : ℕ) (next : Option ℕ) : Type 0 where
  pub here : first_pid (left_of next (wanted_in options p rs)) ≡ next
  pub todo : first_pid (filter means (left_of next (wanted_in options p rs))) ≡ first_pid (filter means (wanted_in options p rs))

-- the walk begins with all of them
pub wanted_begins : (rs : List Process) → IsRising rs → ((q : ℕ) (r : Process) → lookup q rs ≡ Some r → 1 ≤ r.pid) → (p : ℕ) (means : Process → Bool) (options : ℕ) (next : Option ℕ) → next ≡ first_pid (above 0 (wanted_in options p rs)) → IsWantedWalk rs p means options next
unfolding wanted_in children_in
wanted_begins rs up least p means options next e =
    let kids = filter (is_child p) rs in
    let ws = filter (reports options) kids in
    let all : above 0 ws ≡ ws = filters_commute (λ r. nat_lt 0 r.pid) (reports options) kids ∙ ap (filter (reports options)) (passing_above (is_child p) rs up least) in
    record {
      here = rw e (head_left_of ws 0);
      todo = ap (λ l. first_pid (filter means l)) (all_left ws next (rising_filter (reports options) kids (rising_filter (is_child p) rs up)) all e);
    }

-- what the walk knows of the one that comes next
pub at_wanted : {rs : List Process} {p c options : ℕ} {means : Process → Bool} {next : Option ℕ} → IsRising rs → IsWantedWalk rs p means options next → next ≡ Some c → AtOne (reports options) c (children_in p rs)
unfolding wanted_in children_in
at_wanted {rs = rs} {p = p} {c = c} {options = options} {next = next} up w comes = one_here (reports options) c (filter (is_child p) rs) next (rising_filter (is_child p) rs up) comes w.here

-- that it is there
pub wanted_found : (rs : List Process) → IsRising rs → (p c options : ℕ) (h : AtOne (reports options) c (children_in p rs)) → lookup c rs ≡ Some h.what
unfolding children_in
wanted_found rs up p c options h = (in_filter (is_child p) rs up c h.what h.found).found

-- if it is selected, it is the lowest
pub wanted_here : {rs : List Process} {p c options : ℕ} {means : Process → Bool} {next : Option ℕ} (up : IsRising rs) (w : IsWantedWalk rs p means options next) (comes : next ≡ Some c) → means (at_wanted up w comes).what ≡ true → Some c ≡ first_pid (filter means (wanted_in options p rs))
unfolding wanted_in
wanted_here {rs = rs} {p = p} {c = c} {options = options} {means = means} up w comes is =
    let h = at_wanted up w comes in
    let named = pid_looked c (children_in p rs) h.what h.found in
    let first : first_pid (filter means (left_of (Some c) (wanted_in options p rs))) ≡ Some h.what.pid = ap (λ l. first_pid (filter means l)) h.left ∙ rw is refl in
    ap Some (sym named) ∙ sym first ∙ ap (λ o. first_pid (filter means (left_of o (wanted_in options p rs)))) (sym comes) ∙ w.todo

-- otherwise the lowest is after it
pub wanted_on : {rs : List Process} {p c options : ℕ} {means : Process → Bool} {next after : Option ℕ} (up : IsRising rs) (w : IsWantedWalk rs p means options next) (comes : next ≡ Some c) → means (at_wanted up w comes).what ≡ false → after ≡ first_pid (above c (wanted_in options p rs)) → IsWantedWalk rs p means options after
unfolding wanted_in
wanted_on {rs = rs} {p = p} {c = c} {options = options} {means = means} up w comes isnt e =
    let h = at_wanted up w comes in
    let ws = wanted_in options p rs in
    let rest : first_pid (filter means (left_of (Some c) ws)) ≡ first_pid (filter means (left_of (first_pid (above c ws)) ws)) = ap (λ l. first_pid (filter means l)) h.left ∙ rw isnt refl in
    record {
      here = next_begins c ws _ e;
      todo = ap (λ o. first_pid (filter means (left_of o ws))) e ∙ sym rest ∙ ap (λ o. first_pid (filter means (left_of o ws))) (sym comes) ∙ w.todo;
    }

-- if none is left, none is selected
pub wanted_over : {rs : List Process} {p options : ℕ} {means : Process → Bool} {next : Option ℕ} → IsWantedWalk rs p means options next → next ≡ None → None ≡ first_pid (filter means (wanted_in options p rs))
wanted_over {rs = rs} {p = p} {options = options} {means = means} w over = sym (ap (λ o. first_pid (filter means (left_of o (wanted_in options p rs)))) over) ∙ w.todo

-- fewer are left after it
pub wanted_less : {rs : List Process} {p c options : ℕ} {means : Process → Bool} {next after : Option ℕ} → IsRising rs → IsWantedWalk rs p means options next → next ≡ Some c → after ≡ first_pid (above c (wanted_in options p rs)) → length (left_of after (wanted_in options p rs)) < length (left_of next (wanted_in options p rs))
unfolding wanted_in
wanted_less {rs = rs} {p = p} {c = c} {options = options} {next = next} {after = after} up w comes e = let less = one_less (reports options) c (children_in p rs) next after (at_wanted up w comes) comes e in omega (arith, less)
