-- Foreground process groups with a member in their console's session: to settle leaves no other.
use Rattle.std.proofs.Common.{◌≡◌, ℕ, zero, suc, true, refl, ap, ◌∙◌, arith, List, [], ◌∷◌, map, replicate}
use Rattle.std.specs.List.{AllByRecursion}
use Rattle.posix.specs.Common.{Process, at, changed, inserted, State, World, boot, Console, with_foreground, unused_console, is_group_of, is_fresh, refreshed, clear_foregrounds, AreFresh}
use Rattle.posix.proofs.MapLemmas.{at_keeps}

-- ---- foregrounds are cleared

-- a foreground process group that is left has a member
all_refreshed : (rs : List Process) (cs : List Console) → AllByRecursion (λ c. is_fresh rs c ≡ true) (map (refreshed rs) cs)
unfolding with_foreground
all_refreshed rs [] = tt
all_refreshed rs (c ∷ cs) = (grind arith, all_refreshed rs cs)

-- so each has
pub fresh_cleared : (s : State) → AreFresh (clear_foregrounds s)
unfolding clear_foregrounds
fresh_cleared s = all_refreshed s.processes s.consoles

-- those that have one stay
none_refreshed : (rs : List Process) (cs : List Console) → AllByRecursion (λ c. is_fresh rs c ≡ true) cs → map (refreshed rs) cs ≡ cs
none_refreshed rs [] h = refl
none_refreshed rs (c ∷ cs) h = rw h.0 (ap (λ xs. c ∷ xs) (none_refreshed rs cs h.1))

-- where each has one, none is cleared
pub cleared_none : (s : State) → AreFresh s → clear_foregrounds s ≡ s
unfolding clear_foregrounds
cleared_none s fresh = ap (λ cs. record s { consoles = cs }) (none_refreshed s.processes s.consoles fresh)

-- ---- what keeps them

-- each of these consoles has a foreground process group with a member, or none
abbrev pub AllFresh : List Process → List Console → Type 0
AllFresh rs cs = AllByRecursion (λ c. is_fresh rs c ≡ true) cs

-- where each group that has a member in a session still has one
fresh_still : (rs ts : List Process) → ((session group : ℕ) → is_group_of session group rs ≡ true → is_group_of session group ts ≡ true) → (cs : List Console) → AllFresh rs cs → AllFresh ts cs
fresh_still rs ts still [] h = tt
fresh_still rs ts still (c ∷ cs) h = (grind (arith, h.0, still c.session c.foreground), fresh_still rs ts still cs h.1)

-- a change of each record that keeps both numbers keeps the groups of a session
group_mapped : (g : Process → Process) → ((r : Process) → (g r).group ≡ r.group) → ((r : Process) → (g r).session ≡ r.session)
    → (session group : ℕ) (rs : List Process) → is_group_of session group (map g rs) ≡ is_group_of session group rs
unfolding is_group_of
group_mapped g groups sessions session group [] = refl
group_mapped g groups sessions session group (r ∷ rs) = grind (arith, groups r, sessions r, group_mapped g groups sessions session group rs)

-- so a change of one keeps them
pub fresh_changed : (p : ℕ) (f : Process → Process) → ((r : Process) → (f r).group ≡ r.group) → ((r : Process) → (f r).session ≡ r.session)
    → (rs : List Process) (cs : List Console) → AllFresh rs cs → AllFresh (changed p f rs) cs
unfolding changed
fresh_changed p f groups sessions rs cs h =
    fresh_still rs (map (at p f) rs) (λ session group e. group_mapped (at p f) (at_keeps (λ r. r.group) p f groups) (at_keeps (λ r. r.session) p f sessions) session group rs ∙ e) cs h

group_inserted : (new : Process) (session group : ℕ) (rs : List Process) → is_group_of session group rs ≡ true → is_group_of session group (inserted new rs) ≡ true
unfolding is_group_of inserted
group_inserted new session group [] e = absurd (cc)
group_inserted new session group (r ∷ rs) e = grind (arith, e, group_inserted new session group rs)

-- they stay fresh with one more process
pub fresh_inserted : (new : Process) (rs : List Process) (cs : List Console) → AllFresh rs cs → AllFresh (inserted new rs) cs
fresh_inserted new rs cs h = fresh_still rs (inserted new rs) (λ session group e. group_inserted new session group rs e) cs h

-- ---- the start

-- an unused console has no foreground process group
unused_fresh : (n : ℕ) (rs : List Process) → AllByRecursion (λ c. is_fresh rs c ≡ true) (replicate n unused_console)
unused_fresh zero rs = tt
unused_fresh (suc n) rs = (refl, unused_fresh n rs)

-- nor has any at the start
pub first_fresh : (w : World) → AreFresh (boot w)
first_fresh w = unused_fresh w.consoles (boot w).processes
