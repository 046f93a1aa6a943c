-- What is done to each record of a table.
use Rattle.std.proofs.Common.{◌≡◌, ◌≢◌, ℕ, Bool, not, refl, ap, sym, ◌∙◌, arith, List, [], ◌∷◌, length, map, filter, Some, option_map, is_some, ◌==◌, inl, inr}
use Rattle.std.specs.Option.{IsSome}
use Rattle.std.proofs.lemmas.Bool.{eqb-true, eqb-false, cases_eq, cond_both}
use Rattle.std.proofs.lemmas.List.{length-map}
use Rattle.posix.specs.Common.{Process, lookup, at, changed, removed, is_child, children_in, reparented, adopted}
use Rattle.posix.proofs.ResultLemmas.{Back, back, some_mapped}

-- made to one process only, a change keeps what it keeps
pub at_keeps : {A : Type 0} (field : Process → A) (p : ℕ) (f : Process → Process) → ((r : Process) → field (f r) ≡ field r) → (r : Process) → field (at p f r) ≡ field r
at_keeps field p f keeps r = cond_both (r.pid == p) (f r) r (λ q. field q ≡ field r) (λ t. keeps r) (λ t. refl)

-- pids, say
pub at_pid : (p : ℕ) (f : Process → Process) → ((r : Process) → (f r).pid ≡ r.pid) → (r : Process) → (at p f r).pid ≡ r.pid
at_pid p f keeps r = at_keeps (λ q. q.pid) p f keeps r

-- after a change of each record, who is looked up is found changed
pub lookup_map : (g : Process → Process) → ((r : Process) → (g r).pid ≡ r.pid) → (q : ℕ) (rs : List Process) → lookup q (map g rs) ≡ option_map g (lookup q rs)
unfolding lookup
lookup_map g keeps q [] = refl
lookup_map g keeps q (r ∷ rs) = grind (arith, keeps r, lookup_map g keeps q rs)

-- who is found after a change of each record was there before it
pub lookup_back : (g : Process → Process) → ((r : Process) → (g r).pid ≡ r.pid) → (q : ℕ) (rs : List Process) (r : Process) → lookup q (map g rs) ≡ Some r → Back (lookup q rs) g r
lookup_back g keeps q rs r e = back (lookup q rs) g r (sym e ∙ lookup_map g keeps q rs)

-- who is found before a change of each record is found changed
pub lookup_on : (g : Process → Process) → ((r : Process) → (g r).pid ≡ r.pid) → (q : ℕ) (rs : List Process) (r : Process) → lookup q rs ≡ Some r → lookup q (map g rs) ≡ Some (g r)
lookup_on g keeps q rs r e = lookup_map g keeps q rs ∙ ap (option_map g) e

-- an existing process exists after a change of each record
pub some_map : (g : Process → Process) → ((r : Process) → (g r).pid ≡ r.pid) → (q : ℕ) (rs : List Process) → IsSome (lookup q rs) → IsSome (lookup q (map g rs))
some_map g keeps q rs h = ap is_some (lookup_map g keeps q rs) ∙ some_mapped (lookup q rs) g ∙ h

-- who passes a test still does after a change of each record that the test doesn't see
pub filter_map : (t : Process → Bool) (g : Process → Process) → ((r : Process) → t (g r) ≡ t r) → (rs : List Process) → filter t (map g rs) ≡ map g (filter t rs)
filter_map t g same [] = refl
filter_map t g same (r ∷ rs) = grind (arith, same r, filter_map t g same rs)

-- children, where parents stay
pub children_map : (g : Process → Process) → ((r : Process) → (g r).parent ≡ r.parent) → (p : ℕ) (rs : List Process) → children_in p (map g rs) ≡ map g (children_in p rs)
unfolding children_in
children_map g keeps p rs = filter_map (is_child p) g (λ r. ap (λ n. n == p) (keeps r)) rs

-- and as many of them, where the parent of one that is changed stays
pub length_children : (p : ℕ) (f : Process → Process) → ((r : Process) → (f r).parent ≡ r.parent) → (q : ℕ) (rs : List Process) → length (children_in q (changed p f rs)) ≡ length (children_in q rs)
unfolding changed
length_children p f keeps q rs = ap length (children_map (at p f) (at_keeps (λ r. r.parent) p f keeps) q rs) ∙ length-map (children_in q rs) (at p f)

-- as many records
pub length_changed : (p : ℕ) (f : Process → Process) (rs : List Process) → length (changed p f rs) ≡ length rs
unfolding changed
length_changed p f rs = length-map rs (at p f)

-- a removal and a change of each record may come in either order
pub removed_map : (c : ℕ) (g : Process → Process) → ((r : Process) → (g r).pid ≡ r.pid) → (rs : List Process) → removed c (map g rs) ≡ map g (removed c rs)
unfolding removed
removed_map c g keeps rs = filter_map (λ r. not (r.pid == c)) g (λ r. ap (λ n. not (n == c)) (keeps r)) rs

-- ---- orders that do not matter

-- changes of two processes may come in either order
pub changed_changed : (n m : ℕ) (f g : Process → Process) → ((r : Process) → (f r).pid ≡ r.pid) → ((r : Process) → (g r).pid ≡ r.pid) → n ≢ m
    → (rs : List Process) → changed n f (changed m g rs) ≡ changed m g (changed n f rs)
unfolding changed
changed_changed n m f g kf kg ne [] = refl
changed_changed n m f g kf kg ne (r ∷ rs) = grind (arith, ne, kf r, kg r, changed_changed n m f g kf kg ne rs, eqb-true, eqb-false)

-- an adoption and a change may come in either order, where they may for each record
pub adopted_changed : (p q n : ℕ) (f : Process → Process) → ((r : Process) → f (reparented p q r) ≡ reparented p q (f r))
    → (rs : List Process) → changed n f (adopted p q rs) ≡ adopted p q (changed n f rs)
unfolding changed adopted
adopted_changed p q n f c [] = refl
adopted_changed p q n f c (r ∷ rs) = grind (arith, c r, adopted_changed p q n f c rs)

-- no child is left
pub children_adopted : (p q : ℕ) → q ≢ p → (rs : List Process) → children_in p (adopted p q rs) ≡ []
unfolding children_in adopted
children_adopted p q ne [] = refl
children_adopted p q ne (r ∷ rs) = grind (arith, ne, children_adopted p q ne rs, eqb-true, eqb-false)

-- the others keep theirs
pub children_others : (p t q : ℕ) → q ≢ p → q ≢ t → (rs : List Process) → children_in q (adopted p t rs) ≡ children_in q rs
unfolding children_in adopted
children_others p t q a b [] = refl
children_others p t q a b (r ∷ rs) = grind (arith, a, b, children_others p t q a b rs, eqb-true, eqb-false)

-- other than the new parent, who has none gets none
pub children_elsewhere : (p q n : ℕ) → n ≢ q → (rs : List Process) → children_in n rs ≡ [] → children_in n (adopted p q rs) ≡ []
children_elsewhere p q n ne rs e = elim (cases_eq n p) [
  | inl same ↦ rw same (children_adopted p q (λ x. ne (same ∙ sym x)) rs)
  | inr other ↦ children_others p q n other ne rs ∙ e
]
