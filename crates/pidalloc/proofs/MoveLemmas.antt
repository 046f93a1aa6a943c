-- The rows of a table of IDs when a process moves to another process group, or another group and session.
use Rattle.std.proofs.Common.{◌≡◌, ℕ, ◌<◌, ◌≤◌, ◌^◌, Bool, refl, ap, ◌∙◌, arith, List, length, Some, ◌==◌, length-set}
use Rattle.std.proofs.lemmas.Bool.{eq-eqb}
use Rattle.posix.specs.Processes as records
use Rattle.posix.specs.Common.{IsRising, at, lookup, changed, removed}
use Rattle.posix.proofs.TableLemmas.{pid_looked, rising_changed}
use Rattle.posix.proofs.MapLemmas.{at_pid, lookup_on}
use Rattle.posix.proofs.PassingLemmas.{removed_changed}
use Rattle.pidalloc.specs.Rows.{Row, Pids, IsPids, Group, Session, row, with_row, one_more, one_less, borne, given_up, regrouped}
use Rattle.pidalloc.specs.Tallies.{tally, IsTallied}
use Rattle.pidalloc.proofs.RowLemmas.{row_with, row_with_three, same_row, when, more}
use Rattle.pidalloc.proofs.TallyLemmas.{tally_front, tally_found, tally_within}

-- ---- counts

-- the uses of a record that changed, and those of the others
tally_changed : (n p : ℕ) (f : records.Process → records.Process) → ((r : records.Process) → (f r).pid ≡ r.pid) → (r : records.Process) (rs : List records.Process) → IsRising rs → lookup p rs ≡ Some r
    → tally n (changed p f rs) ≡ more (r.pid == n) ((f r).group == n) ((f r).session == n) (tally n (removed p rs))
unfolding changed
tally_changed n p f keeps r rs up e =
    let named : at p f r ≡ f r = rw (eq-eqb r.pid p (pid_looked p rs r e)) refl in
    let others : removed p (changed p f rs) ≡ removed p rs = removed_changed p f keeps rs in
    tally_front n p (f r) (changed p f rs) (rising_changed p f keeps rs up) (lookup_on (at p f) (at_pid p f keeps) p rs r e ∙ ap Some named)
    ∙ ap (λ qs. more ((f r).pid == n) ((f r).group == n) ((f r).session == n) (tally n qs)) others
    ∙ ap (λ m. more (m == n) ((f r).group == n) ((f r).session == n) (tally n (removed p rs))) (keeps r)

-- ---- rows

-- another group and session in a row
other_numbers : (p g s d e : Bool) (r : Row) → when s (one_less Session) (when g (one_less Group) (when e (one_more Session) (when d (one_more Group) (more p g s r)))) ≡ more p d e r
other_numbers p g s d e r = same_row _ _ (grind arith) (grind arith) (grind arith)

-- ---- a process that moves to another group and session

row_regrouped : (p : Pids) (group session to_group to_session n : ℕ) → n < length p.rows
    → row (regrouped p group session to_group to_session).rows n ≡ when (session == n) (one_less Session) (when (group == n) (one_less Group) (when (to_session == n) (one_more Session) (when (to_group == n) (one_more Group) (row p.rows n))))
unfolding borne given_up regrouped
row_regrouped p group session to_group to_session n l =
    let one : length (with_row p.rows to_group (one_more Group)) ≡ length p.rows = length-set p.rows to_group _ in
    row_with_three (with_row p.rows to_group (one_more Group)) to_session group session n (one_more Session) (one_less Group) (one_less Session) (omega (arith, one, l))
    ∙ ap (λ x. when (session == n) (one_less Session) (when (group == n) (one_less Group) (when (to_session == n) (one_more Session) x))) (row_with p.rows to_group n (one_more Group) (λ e. l))

-- the rows count the records with the one that changed
pub tallied_regrouped : (p : Pids) (pid : ℕ) (f : records.Process → records.Process) → ((r : records.Process) → (f r).pid ≡ r.pid) → (r : records.Process) (rs : List records.Process) → IsPids p → IsRising rs → IsTallied p rs → lookup pid rs ≡ Some r
    → IsTallied (regrouped p r.group r.session (f r).group (f r).session) (changed pid f rs)
unfolding borne given_up regrouped
tallied_regrouped p pid f keeps r rs i up t e = λ n l.
    let size = i.size in
    rw (row_regrouped p r.group r.session (f r).group (f r).session n (omega (arith, size, l)), t n l, tally_changed n pid f keeps r rs up e, tally_front n pid r rs up e)
    (other_numbers (r.pid == n) (r.group == n) (r.session == n) ((f r).group == n) ((f r).session == n) (tally n (removed pid rs)))

-- everything else stays
pub pids_regrouped : (p : Pids) (group session to_group to_session : ℕ) → IsPids p → IsPids (regrouped p group session to_group to_session)
unfolding borne given_up regrouped
pids_regrouped p group session to_group to_session i =
    record { size = simp length-set i.size; given = i.given; least = i.least; limit = i.limit }

pub greatest_regrouped : (p : Pids) (group session to_group to_session : ℕ) → (regrouped p group session to_group to_session).pidmax ≡ p.pidmax
unfolding borne given_up regrouped
greatest_regrouped p group session to_group to_session = refl

-- what a table requires before the move
pub record CanRegroup (p : Pids) (group session to_group to_session : ℕ) : Type 0 where
  pub group_count : 1 ≤ (row p.rows group).group
  pub session_count : 1 ≤ (row p.rows session).session
  pub to_group_count : (row p.rows to_group).group < 4294967295
  pub to_session_count : (row p.rows to_session).session < 4294967295

-- a table that counts few enough records fulfils this
pub can_regroup : (p : Pids) (pid to_group to_session : ℕ) (r : records.Process) (rs : List records.Process) → IsTallied p rs → length rs < 2 ^ 31 → lookup pid rs ≡ Some r → r.group ≤ p.pidmax → r.session ≤ p.pidmax → to_group ≤ p.pidmax → to_session ≤ p.pidmax
    → CanRegroup p r.group r.session to_group to_session
can_regroup p pid to_group to_session r rs t few e group session group_range session_range =
    let found = tally_found pid r rs e in
    record {
      group_count = let w = found.group in let e = ap (λ (r : Row). r.group) (t r.group group) in omega (arith, w, e);
      session_count = let w = found.session in let e = ap (λ (r : Row). r.session) (t r.session session) in omega (arith, w, e);
      to_group_count = let w = (tally_within to_group rs).group in let e = ap (λ (r : Row). r.group) (t to_group group_range) in omega (arith, w, e, few);
      to_session_count = let w = (tally_within to_session rs).session in let e = ap (λ (r : Row). r.session) (t to_session session_range) in omega (arith, w, e, few);
    }
