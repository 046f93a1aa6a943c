-- To ask the records one after another, from the least number on, is to give places; and who gets one lives.
use Rattle.std.proofs.Common.{◌≡◌, ℕ, ◌<◌, Bool, true, false, cond, not, ◌&&◌, ◌||◌, refl, ap, sym, ◌∙◌, arith, subst, List, [], ◌∷◌, ◌++◌, append-nil, append_assoc, filter, Option, Some, None, is_some}
use Rattle.std.proofs.Math.Bool.{or-false}
use Rattle.std.specs.List.{AllByRecursion}
use Rattle.std.proofs.lemmas.Bool.{eqb-true}
use Rattle.std.proofs.lemmas.Bool.Decides.{nat_tests}
use Rattle.std.proofs.lemmas.List.{map-append}
use Rattle.posix.specs.declared.process.Life.{Life}
use Rattle.posix.specs.declared.process.Life.TheVariants.{Zombie}
use Rattle.posix.specs.Common.{KILL, Process, is_running, is_zombie, IsRising, IsNext, lookup, pids, above, left_of, State, is_in, is_pending, chosen, woken, woken_if, give_places, wakes, can_act, can_go_on, IsRegular, IsPlaced}
use Rattle.posix.proofs.MemberLemmas.{in_append}
use Rattle.posix.proofs.TableLemmas.{pid_looked}
use Rattle.posix.proofs.SeeLemmas.{can_act_order}
use Rattle.posix.proofs.WalkLemmas.{numbered, numbered_one, numbered_none, rest_of_walk, walk_begins, walk_splits}

-- ---- who can act lives

-- a zombie can't act, whatever else
zombie_rests : (l : Life) (k g : Bool) → (not (is_zombie l) && k || is_running l && g) ≡ true → is_zombie l ≡ false
zombie_rests (Zombie status) k g e = absurd (cc)
zombie_rests _ k g e = refl

-- who can act is no zombie
pub can_act_lives : (s : State) (r : Process) → can_act s r ≡ true → is_zombie r.life ≡ false
unfolding can_act
can_act_lives s r e = zombie_rests r.life (is_pending r.signals KILL) (can_go_on s r r.blocked || is_some (chosen r.life r.signals)) e

-- ---- what one asking comes to

-- whether it has a place and whether it can act decide
pub woken_is : (s : State) (p : ℕ) (r : Process) (h a : Bool) → lookup p s.processes ≡ Some r → is_in p s.order ≡ h → can_act s r ≡ a
    → woken s p ≡ cond (not h && a) (record s { order = s.order ++ p ∷ [] }) s
unfolding woken
woken_is s p r h a e i c =
    let named : r.pid ≡ p = pid_looked p s.processes r e in
    ap (woken_if s) e
    ∙ ap (λ n. cond (not (is_in n s.order) && can_act s r) (record s { order = s.order ++ n ∷ [] }) s) named
    ∙ ap (λ b. cond (not b && can_act s r) (record s { order = s.order ++ p ∷ [] }) s) i
    ∙ ap (λ b. cond (not h && b) (record s { order = s.order ++ p ∷ [] }) s) c

-- ---- all asked, one after another

-- places of others change nothing
wakes_later : (s : State) (o : List ℕ) (r : Process) → is_in r.pid o ≡ false → wakes (record s { order = s.order ++ o }) r ≡ wakes s r
wakes_later s o r e = ap (λ b. not b && can_act (record s { order = s.order ++ o }) r) (in_append r.pid s.order o ∙ ap (λ b. is_in r.pid s.order || b) e ∙ or-false _) ∙ ap (λ b. not (is_in r.pid s.order) && b) (can_act_order s (s.order ++ o) r)

-- no process above p has the ID p
not_numbered : (t : Process → Bool) (p q : ℕ) (rs : List Process) → p < q → is_in q (pids (filter t (numbered p rs))) ≡ false
unfolding is_in
not_numbered t p q [] l = refl
not_numbered t p q (x ∷ xs) l = grind (arith, not_numbered t p q xs l, eqb-true)

-- above p the same pass two tests that agree there
same_above : (t u : Process → Bool) (p : ℕ) (rs : List Process) → ((r : Process) → p < r.pid → t r ≡ u r) → filter t (above p rs) ≡ filter u (above p rs)
same_above t u p [] h = refl
same_above t u p (x ∷ xs) h = grind (arith, nat_tests, h x, same_above t u p xs h)

-- one process asked
woken_one : (s : State) → IsRising s.processes → (p : ℕ) → woken s p ≡ record s { order = s.order ++ pids (filter (wakes s) (numbered p s.processes)) }
unfolding woken
woken_one s up p = elim (lookup p s.processes) as (λ o. lookup p s.processes ≡ o → woken_if s o ≡ record s { order = s.order ++ pids (filter (wakes s) (numbered p s.processes)) }) [
  | None ↦ λ e. rw (numbered_none p s.processes e) (ap (λ o. record s { order = o }) (sym (append-nil _)))
  | Some r ↦ λ e. rw (numbered_one p s.processes up r e) (elim (wakes s r) as (λ b. cond b (record s { order = s.order ++ r.pid ∷ [] }) s ≡ record s { order = s.order ++ pids (cond b (r ∷ []) []) }) [
    | true ↦ refl
    | false ↦ ap (λ o. record s { order = o }) (sym (append-nil _))
  ])
] refl

-- the places that are given to those that are left
unfoldable pub settled_from : Option ℕ → State → State
settled_from next s = record s { order = s.order ++ pids (filter (wakes s) (left_of next s.processes)) }

-- at the start all are left
pub asking_begins : (s : State) (next : Option ℕ) → IsRegular s → IsNext (wakes s) 0 s.processes next → settled_from next s ≡ give_places s
unfolding settled_from give_places
asking_begins s next i n = ap (λ rs. record s { order = s.order ++ pids rs }) (walk_begins (wakes s) s.processes next i.rising (λ p r e. (i.bounded p r e).least) n)

-- one is asked, and then the others
pub asking_goes_on : (s : State) → IsRising s.processes → (p : ℕ) (next : Option ℕ) → IsNext (wakes (woken s p)) p (woken s p).processes next → settled_from next (woken s p) ≡ settled_from (Some p) s
unfolding settled_from
asking_goes_on s up p next n =
    let rs = s.processes in
    let asked = pids (filter (wakes s) (numbered p rs)) in
    let t = record s { order = s.order ++ asked } in
    let one = woken_one s up p in
    let rest = rest_of_walk (wakes t) p rs next up (subst (λ (t : State). IsNext (wakes t) p t.processes next) one n) ∙ same_above (wakes t) (wakes s) p rs (λ r l. wakes_later s asked r (not_numbered (wakes s) p r.pid rs l)) in
    ap (settled_from next) one
    ∙ ap (λ l. record s { order = (s.order ++ asked) ++ pids l }) rest
    ∙ ap (λ o. record s { order = o }) (append_assoc s.order asked (pids (filter (wakes s) (above p rs))))
    ∙ ap (λ o. record s { order = s.order ++ o }) (sym (ap pids (walk_splits (wakes s) p rs up) ∙ map-append (λ r. r.pid) (filter (wakes s) (numbered p rs)) (filter (wakes s) (above p rs))))

-- at the end, no process is asked
pub asking_ends : (s : State) → settled_from None s ≡ s
unfolding settled_from
asking_ends s = ap (λ o. record s { order = o }) (append-nil _)

-- who wakes may be given a place
pub wakes_placed : (s : State) (p : ℕ) (r : Process) → lookup p s.processes ≡ Some r → can_act s r ≡ true → IsPlaced s.processes p
wakes_placed s p r e c = record { what = r; found = e; living = can_act_lives s r c }

-- if no process passes a test, the filter is empty
pub none_passes : (t : Process → Bool) (rs : List Process) → AllByRecursion (λ r. t r ≡ false) rs → filter t rs ≡ []
none_passes t [] h = refl
none_passes t (r ∷ rs) h = rw h.0 (none_passes t rs h.1)
