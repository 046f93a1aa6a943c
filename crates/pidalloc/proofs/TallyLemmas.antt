-- The rows of a table of IDs and the records of the processes that use them.
use Rattle.std.proofs.Common.{◌≡◌, ℕ, ◌+◌, ◌<◌, ◌≤◌, ◌^◌, false, refl, ap, sym, ◌∙◌, arith, List, [], ◌∷◌, length, map, Some, ◌==◌}
use Rattle.std.proofs.lemmas.Bool.{eq-eqb}
use Rattle.std.proofs.lemmas.Bool.Decides.{nat_tests}
use Rattle.posix.specs.Common.{Process, IsRising, lookup, inserted, removed, is_free, next_free}
use Rattle.posix.proofs.TableLemmas.{pid_looked}
use Rattle.posix.proofs.PassingLemmas.{counted_inserted, counted_removed, counted_map, counted_found, filter_at_most}
use Rattle.pidalloc.specs.Rows.{Row, Pids, unborne_table, row, count_of, is_free_row, is_free_in, one_more, one_less, borne, given_up, born_in, gone_from}
use Rattle.pidalloc.specs.Rows as roles
use Rattle.pidalloc.specs.Tallies.{tally, IsTallied}
use Rattle.pidalloc.proofs.FreeLemmas.{next_free_same}
use Rattle.pidalloc.proofs.RowLemmas.{no_row, row_with_three, same_row, more, less, less_more, counted_borne}

-- ---- free IDs

-- a row that counts nothing is that of an ID that no record has
pub free_row : (rs : List Process) (n : ℕ) → is_free_row (tally n rs) ≡ is_free rs n
unfolding tally is_free
free_row [] n = refl
free_row (r ∷ rs) n = grind (arith, nat_tests, free_row rs n)

-- the next ID is the next one that no record has
pub next_same : (p : Pids) (rs : List Process) → IsTallied p rs → next_free (is_free_in p.rows) p.last p.pidmax ≡ next_free (is_free rs) p.last p.pidmax
unfolding is_free_in
next_same p rs t = next_free_same _ _ p.last p.pidmax (λ k l. ap is_free_row (t k l) ∙ free_row rs k)

-- ---- tallies

-- a record in front adds a use of each of its IDs
pub tally_more : (n : ℕ) (r : Process) (rs : List Process) → tally n (r ∷ rs) ≡ more (r.pid == n) (r.group == n) (r.session == n) (tally n rs)
unfolding tally
tally_more n r rs = same_row _ _ (grind arith) (grind arith) (grind arith)

-- a record that is inserted adds a use of each of its IDs
pub tally_inserted : (n : ℕ) (new : Process) (rs : List Process) → tally n (inserted new rs) ≡ more (new.pid == n) (new.group == n) (new.session == n) (tally n rs)
unfolding tally
tally_inserted n new rs =
    same_row _ _ (counted_inserted (λ r. r.pid == n) new rs) (counted_inserted (λ r. r.group == n) new rs) (counted_inserted (λ r. r.session == n) new rs) ∙ tally_more n new rs

-- the uses of an existing record, and those of the others
pub tally_front : (n p : ℕ) (r : Process) (rs : List Process) → IsRising rs → lookup p rs ≡ Some r → tally n rs ≡ more (r.pid == n) (r.group == n) (r.session == n) (tally n (removed p rs))
unfolding tally
tally_front n p r rs up e =
    same_row _ _ (counted_removed (λ r. r.pid == n) p r rs up e) (counted_removed (λ r. r.group == n) p r rs up e) (counted_removed (λ r. r.session == n) p r rs up e) ∙ tally_more n r (removed p rs)

-- a record that is removed removes a use of each of its IDs
tally_removed : (n p : ℕ) (r : Process) (rs : List Process) → IsRising rs → lookup p rs ≡ Some r → tally n (removed p rs) ≡ less (r.pid == n) (r.group == n) (r.session == n) (tally n rs)
tally_removed n p r rs up e = rw (tally_front n p r rs up e) (sym (less_more (r.pid == n) (r.group == n) (r.session == n) (tally n (removed p rs))))

-- other changes of records leave the tallies unchanged
pub tally_map : (n : ℕ) (g : Process → Process) → ((r : Process) → (g r).pid ≡ r.pid) → ((r : Process) → (g r).group ≡ r.group) → ((r : Process) → (g r).session ≡ r.session)
    → (rs : List Process) → tally n (map g rs) ≡ tally n rs
unfolding tally
tally_map n g pid group session rs = same_row _ _
    (counted_map (λ r. r.pid == n) g (λ r. ap (λ m. m == n) (pid r)) rs)
    (counted_map (λ r. r.group == n) g (λ r. ap (λ m. m == n) (group r)) rs)
    (counted_map (λ r. r.session == n) g (λ r. ap (λ m. m == n) (session r)) rs)

-- no count of a row is above k
pub record IsWithin (k : ℕ) (r : Row) : Type 0 where
  pub process : r.process ≤ k
  pub group : r.group ≤ k
  pub session : r.session ≤ k

-- no count is above the number of records
pub tally_within : (n : ℕ) (rs : List Process) → IsWithin (length rs) (tally n rs)
unfolding tally
tally_within n rs = record { process = filter_at_most (λ r. r.pid == n) rs; group = filter_at_most (λ r. r.group == n) rs; session = filter_at_most (λ r. r.session == n) rs }

-- the IDs of an existing record are in use
pub record IsCounted (rs : List Process) (pid : ℕ) (r : Process) : Type 0 where
  pub process : 1 ≤ (tally pid rs).process
  pub group : 1 ≤ (tally r.group rs).group
  pub session : 1 ≤ (tally r.session rs).session

-- the three IDs of a record that is found are counted
pub tally_found : (pid : ℕ) (r : Process) (rs : List Process) → lookup pid rs ≡ Some r → IsCounted rs pid r
unfolding tally
tally_found pid r rs e = record {
  process = counted_found (λ q. q.pid == pid) pid r rs (eq-eqb _ _ (pid_looked pid rs r e)) e;
  group = counted_found (λ q. q.group == r.group) pid r rs (eq-eqb _ _ refl) e;
  session = counted_found (λ q. q.session == r.session) pid r rs (eq-eqb _ _ refl) e;
}

-- ---- IDs in use

-- the IDs of an existing record, its group and its session are in use: a fork from it and a move to its group require
-- that
pub record AreBorne (p : Pids) (pid : ℕ) (r : Process) : Type 0 where
  pub own : is_free_in p.rows pid ≡ false
  pub group : is_free_in p.rows r.group ≡ false
  pub session : is_free_in p.rows r.session ≡ false

pub are_borne : (p : Pids) (pid : ℕ) (r : Process) (rs : List Process) → IsTallied p rs → lookup pid rs ≡ Some r → pid ≤ p.pidmax → r.group ≤ p.pidmax → r.session ≤ p.pidmax → AreBorne p pid r
unfolding is_free_in
are_borne p pid r rs t e a b c = let f = tally_found pid r rs e in record {
  own = counted_borne roles.Process (row p.rows pid) (let l = f.process in let g = ap (λ (r : Row). r.process) (t pid a) in omega (arith, l, g));
  group = counted_borne roles.Group (row p.rows r.group) (let l = f.group in let g = ap (λ (r : Row). r.group) (t r.group b) in omega (arith, l, g));
  session = counted_borne roles.Session (row p.rows r.session) (let l = f.session in let g = ap (λ (r : Row). r.session) (t r.session c) in omega (arith, l, g));
}

-- ---- a complete insertion, and a complete removal

-- what a table requires before three uses are added, and before they are removed
pub record CanBear (p : Pids) (n group session : ℕ) : Type 0 where
  pub group_range : group ≤ p.pidmax
  pub session_range : session ≤ p.pidmax
  pub pid_count : (row p.rows n).process < 4294967295
  pub group_count : (row p.rows group).group < 4294967295
  pub session_count : (row p.rows session).session < 4294967295

pub record CanGiveUp (p : Pids) (n group session : ℕ) : Type 0 where
  pub pid_count : 1 ≤ (row p.rows n).process
  pub group_count : 1 ≤ (row p.rows group).group
  pub session_count : 1 ≤ (row p.rows session).session

-- a table that counts few enough records can add three uses
pub can_bear : (p : Pids) (rs : List Process) → IsTallied p rs → length rs < 2 ^ 31 → (pid group session : ℕ) → pid ≤ p.pidmax → group ≤ p.pidmax → session ≤ p.pidmax → CanBear p pid group session
can_bear p rs t l pid group session a b c = record {
  group_range = b;
  session_range = c;
  pid_count = let w = (tally_within pid rs).process in let e = ap (λ (r : Row). r.process) (t pid a) in omega (arith, w, e, l);
  group_count = let w = (tally_within group rs).group in let e = ap (λ (r : Row). r.group) (t group b) in omega (arith, w, e, l);
  session_count = let w = (tally_within session rs).session in let e = ap (λ (r : Row). r.session) (t session c) in omega (arith, w, e, l);
}

-- the three uses of an existing record can be removed
pub can_give_up : (p : Pids) (rs : List Process) → IsTallied p rs → (pid : ℕ) (r : Process) → lookup pid rs ≡ Some r → pid ≤ p.pidmax → r.group ≤ p.pidmax → r.session ≤ p.pidmax
    → CanGiveUp p pid r.group r.session
can_give_up p rs t pid r e a b c = let f = tally_found pid r rs e in record {
  pid_count = let l = f.process in let g = ap (λ (r : Row). r.process) (t pid a) in omega (arith, l, g);
  group_count = let l = f.group in let g = ap (λ (r : Row). r.group) (t r.group b) in omega (arith, l, g);
  session_count = let l = f.session in let g = ap (λ (r : Row). r.session) (t r.session c) in omega (arith, l, g);
}

-- at the start the rows count no records
pub tallied_unborne : (pidmax : ℕ) → IsTallied (unborne_table pidmax) []
unfolding tally
tallied_unborne pidmax = λ n l. no_row (pidmax + 1) n

-- after an insertion, the rows count the records with the new one
pub tallied_born : (p : Pids) (new : Process) (rs : List Process) → length p.rows ≡ p.pidmax + 1 → IsTallied p rs → IsTallied (born_in p new.pid new.group new.session) (inserted new rs)
unfolding born_in borne
tallied_born p new rs size t = λ q l.
    row_with_three p.rows new.pid new.group new.session q (one_more roles.Process) (one_more roles.Group) (one_more roles.Session) (omega (arith, size, l))
    ∙ ap (more (new.pid == q) (new.group == q) (new.session == q)) (t q l) ∙ sym (tally_inserted q new rs)

-- after a removal, they count the others
pub tallied_gone : (p : Pids) (pid : ℕ) (r : Process) (rs : List Process) → length p.rows ≡ p.pidmax + 1 → IsRising rs → IsTallied p rs → lookup pid rs ≡ Some r
    → IsTallied (gone_from p pid r.group r.session) (removed pid rs)
unfolding gone_from given_up
tallied_gone p pid r rs size up t e = λ q l.
    rw (row_with_three p.rows pid r.group r.session q (one_less roles.Process) (one_less roles.Group) (one_less roles.Session) (omega (arith, size, l)), t q l, tally_removed q pid r rs up e, pid_looked pid rs r e) refl

-- other changes of records keep a table right that counts them
pub tallied_map : (p : Pids) (g : Process → Process) → ((r : Process) → (g r).pid ≡ r.pid) → ((r : Process) → (g r).group ≡ r.group) → ((r : Process) → (g r).session ≡ r.session)
    → (rs : List Process) → IsTallied p rs → IsTallied p (map g rs)
tallied_map p g pid group session rs t = λ n l. t n l ∙ sym (tally_map n g pid group session rs)
