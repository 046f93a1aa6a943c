-- Where no process is stopped no process group gets HUP and CONT at an end.
use Rattle.std.proofs.Common.{◌≡◌, ℕ, Bool, true, false, cond, not, ◌&&◌, ◌==◌, refl, arith, List, [], ◌∷◌, map, filter}
use Rattle.std.proofs.lemmas.Bool.{cond_both}
use Rattle.posix.specs.Common.{Process, is_stopped, at, changed, removed, reparented, adopted, members_in, State, change, signalled, ignores_children, noticed, child_signal, some_stopped, has_stopped, is_newly_orphaned, newly_orphaned, group_numbers, made_zombie, leave_children_and_die, is_dropping, drop_child, notice_of_end, tell_of_all, status_of, zombies_of}
use Rattle.posix.proofs.OrphanLemmas.{after_departure}

-- if no process is stopped, none is in a part of the list
none_filter : (t : Process → Bool) (rs : List Process) → some_stopped rs ≡ false → some_stopped (filter t rs) ≡ false
none_filter t [] e = refl
none_filter t (r ∷ rs) e = grind (arith, e, none_filter t rs)

-- the change leaves a process as it was, or makes it run or terminate, so it stops no process
abbrev pub StopsNobody : (Process → Process) → Type 0
StopsNobody f = (r : Process) → (is_stopped (f r).life && not (is_stopped r.life)) ≡ false

stays_so : (b : Bool) → (b && not b) ≡ false
stays_so true = refl
stays_so false = refl

none_map : (f : Process → Process) → StopsNobody f → (rs : List Process) → some_stopped rs ≡ false → some_stopped (map f rs) ≡ false
none_map f stays [] e = refl
none_map f stays (r ∷ rs) e = let here = stays r in grind (arith, e, here, none_map f stays rs)

stops_at : (p : ℕ) (f : Process → Process) → StopsNobody f → StopsNobody (at p f)
stops_at p f k r = cond_both (r.pid == p) (f r) r (λ q. (is_stopped q.life && not (is_stopped r.life)) ≡ false) (λ e. k r) (λ e. stays_so (is_stopped r.life))

-- so SIGCHLD for a termination stops no process
none_noticed : (s : State) (parent child status : ℕ) → some_stopped s.processes ≡ false → some_stopped (notice_of_end s parent child status).processes ≡ false
unfolding notice_of_end changed removed noticed signalled
none_noticed s parent child status e =
    let signal = child_signal child status in
    let told = change s parent (noticed signal) in
    let notices : StopsNobody (noticed signal) = λ r. cond_both (ignores_children r.signals) r (signalled signal r) (λ q. (is_stopped q.life && not (is_stopped r.life)) ≡ false) (λ k. stays_so (is_stopped r.life)) (λ k. stays_so (is_stopped r.life)) in
    let nobody : some_stopped told.processes ≡ false = none_map (at parent (noticed signal)) (stops_at parent (noticed signal) notices) s.processes e in
    elim (is_dropping parent s.processes) as (λ b. some_stopped (cond {A = State} b (drop_child told child) told).processes ≡ false) [
      | true ↦ none_filter (λ r. not (r.pid == child)) told.processes nobody
      | false ↦ nobody
    ]

-- nor do several
none_told : (s : State) (heir : ℕ) (rs : List Process) → some_stopped s.processes ≡ false → some_stopped (tell_of_all s heir rs).processes ≡ false
unfolding tell_of_all
none_told s heir [] e = e
none_told s heir (r ∷ rs) e = none_told (notice_of_end s heir r.pid (status_of r.life)) heir rs (none_noticed s heir r.pid (status_of r.life) e)

-- nor does a departure
none_departed : (s : State) (p heir status : ℕ) → some_stopped s.processes ≡ false → some_stopped (after_departure s p heir status).processes ≡ false
unfolding adopted changed made_zombie
none_departed s p heir status e =
    let dead = none_map (at p (made_zombie status)) (stops_at p (made_zombie status) (λ r. refl)) s.processes e in
    let moved = none_map (reparented p heir) (λ r. cond_both (r.parent == p) (record r { parent = heir }) r (λ q. (is_stopped q.life && not (is_stopped r.life)) ≡ false) (λ k. stays_so (is_stopped r.life)) (λ k. stays_so (is_stopped r.life))) _ dead in
    none_told (leave_children_and_die s p heir status) heir (zombies_of p s.processes) moved

none_pass : (t : ℕ → Bool) → ((n : ℕ) → t n ≡ false) → (ns : List ℕ) → filter t ns ≡ []
none_pass t h [] = refl
none_pass t h (n ∷ ns) = rw (h n) (none_pass t h ns)

-- and no process group has a stopped member then
pub none_hup_and_cont : (s : State) (p heir status : ℕ) → some_stopped s.processes ≡ false → newly_orphaned s.processes (after_departure s p heir status).processes ≡ []
unfolding newly_orphaned is_newly_orphaned has_stopped members_in
none_hup_and_cont s p heir status e =
    let now = (after_departure s p heir status).processes in
    none_pass (is_newly_orphaned s.processes now) (λ g. let none = none_filter (λ r. r.group == g) now (none_departed s p heir status e) in grind (arith, none)) (group_numbers now)
