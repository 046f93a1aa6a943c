-- What keeps the parent of each process with a parent in the list.
use Rattle.std.proofs.Common.{◌≡◌, ◌≢◌, ℕ, true, false, cond, ap, sym, ◌∙◌, subst, List, [], ◌∷◌, map, Some, None, ◌==◌, arith, inl, inr}
use Rattle.std.specs.Option.{IsSome}
use Rattle.std.proofs.lemmas.Bool.{cases_eq, eqb-false}
use Rattle.posix.specs.Common.{Process, lookup, children_in, inserted, removed, reparented, adopted}
use Rattle.posix.proofs.TableLemmas.{pid_reparented}
use Rattle.posix.proofs.MapLemmas.{lookup_back, some_map}
use Rattle.posix.proofs.RegularLemmas.{lookup_inserted, lookup_new, lookup_kept, lookup_left, some_inserted}
use Rattle.pidset.specs.Indexes.{HaveParents}

-- parents stay in the list if each record keeps its ID and its parent
pub parents_map : (has : ℕ → Process → Type 0) (g : Process → Process) → ((r : Process) → (g r).pid ≡ r.pid) → ((r : Process) → (g r).parent ≡ r.parent) → ((p : ℕ) (r : Process) → has p (g r) → has p r) → (rs : List Process) → HaveParents has rs → HaveParents has (map g rs)
parents_map has g kp kq kh rs h = λ p r must e.
    let b = lookup_back g kp p rs r e in
    let same : r.parent ≡ b.what.parent = ap (λ (r : Process). r.parent) b.is ∙ kq b.what in
    rw same (some_map g kp b.what.parent rs (h p b.what (kh p b.what (subst (has p) b.is must)) b.found))

-- and if the children of one process become those of another in the list
pub parents_adopted : (has : ℕ → Process → Type 0) (p heir : ℕ) (rs : List Process) → IsSome (lookup heir rs) → HaveParents has rs → HaveParents has (adopted p heir rs)
unfolding adopted
parents_adopted has p heir rs there h = λ q r must e.
    let b = lookup_back (reparented p heir) (pid_reparented p heir) q rs r e in
    rw b.is (elim (b.what.parent == p) as (λ t. has q (cond t (record b.what { parent = heir }) b.what) → IsSome (lookup (cond t (record b.what { parent = heir }) b.what).parent (map (reparented p heir) rs))) [
      | true ↦ λ k. some_map (reparented p heir) (pid_reparented p heir) heir rs there
      | false ↦ λ k. some_map (reparented p heir) (pid_reparented p heir) b.what.parent rs (h q b.what k b.found)
    ] (subst (has q) b.is must))

-- a process without children is the parent of no process
pub no_child : (p : ℕ) (rs : List Process) → children_in p rs ≡ [] → (q : ℕ) (r : Process) → lookup q rs ≡ Some r → r.parent ≢ p
unfolding children_in lookup
no_child p [] e q r l = absurd (cc)
no_child p (x ∷ xs) e q r l = grind (arith, no_child p xs, eqb-false)

-- and if a process without children is removed
pub parents_removed : (has : ℕ → Process → Type 0) (c : ℕ) (rs : List Process) → ((q : ℕ) (r : Process) → lookup q rs ≡ Some r → r.parent ≢ c) → HaveParents has rs → HaveParents has (removed c rs)
parents_removed has c rs apart h = λ q r must e.
    let was = lookup_left c q rs r e in
    rw (lookup_kept c r.parent rs (apart q r was)) (h q r must was)

-- and if a process is inserted whose parent is in the list, if it has one
pub parents_inserted : (has : ℕ → Process → Type 0) (new : Process) (rs : List Process) → lookup new.pid rs ≡ None → (has new.pid new → IsSome (lookup new.parent rs)) → HaveParents has rs → HaveParents has (inserted new rs)
parents_inserted has new rs fresh there h = λ q r must e. elim (cases_eq q new.pid) [
  | inl same ↦
      let one : r ≡ new = let both = sym (lookup_new new rs fresh) ∙ ap (λ n. lookup n (inserted new rs)) (sym same) ∙ e in cc in
      some_inserted new r.parent rs (subst (λ (q : Process). IsSome (lookup q.parent rs)) (sym one) (there (subst (λ n. has n new) same (subst (has q) one must))))
  | inr away ↦ some_inserted new r.parent rs (h q r must (sym (lookup_inserted new q rs away) ∙ e))
]
