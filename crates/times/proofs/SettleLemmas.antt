-- Shows that what follows an event doesn't depend on the time.
use Rattle.std.proofs.Common.{◌≡◌, ℕ, ◌==◌, cond, not, ◌&&◌, ◌||◌, List, [], ◌∷◌, ◌++◌, map, filter, Option, Some, None, is_some, refl, ap, ◌∙◌, arith}
use Rattle.posix.specs.declared.process.Blocked.{Blocked}
use Rattle.posix.specs.SignalNumbers.{KILL}
use Rattle.posix.specs.Processes.{Process, is_running, is_living}
use Rattle.posix.specs.Tables.{pids}
use Rattle.posix.specs.States.{State, is_in}
use Rattle.posix.specs.Consoles.{Console, with_foreground}
use Rattle.posix.specs.Outcomes.{Attempted, Done, Block, Again}
use Rattle.posix.specs.Generation.{is_pending}
use Rattle.posix.specs.Choice.{chosen}
use Rattle.posix.specs.Attempts.{attempt_again}
use Rattle.posix.specs.Settle.{is_block, can_go_on, can_act, wakes, give_places, is_fresh, refreshed, clear_foregrounds, settle}
use Rattle.times.specs.Times.{later, all_later, state_later}
use Rattle.times.proofs.SignalLemmas.{pids_later}
use Rattle.times.proofs.CallLemmas.{attempted_later}
use Rattle.times.proofs.GroupLemmas.{filter_later}
use Rattle.times.proofs.GroupCallLemmas.{is_group_of_later}
use Rattle.times.proofs.AttemptLemmas.{attempt_again_later}

-- ---- which processes are runnable

is_block_later : (d : ℕ) (a : Attempted) → is_block (attempted_later d a) ≡ is_block a
is_block_later d (Done o) = refl
is_block_later d (Block b) = refl
is_block_later d (Again s) = refl

pub can_go_on_later : (d : ℕ) (s : State) (r : Process) (b : Option Blocked) → can_go_on (state_later d s) (later d r) b ≡ can_go_on s r b
can_go_on_later d s r None = refl
can_go_on_later d s r (Some b) = ap (λ a. not (is_block a)) (attempt_again_later d s r b) ∙ ap not (is_block_later d (attempt_again s r b))

pub can_act_later : (d : ℕ) (s : State) (r : Process) → can_act (state_later d s) (later d r) ≡ can_act s r
unfolding can_act
can_act_later d s r = ap (λ b. is_living r && is_pending r.signals KILL || is_running r.life && (b || is_some (chosen r.life r.signals))) (can_go_on_later d s r r.blocked)

pub wakes_later : (d : ℕ) (s : State) (r : Process) → wakes (state_later d s) (later d r) ≡ wakes s r
wakes_later d s r = ap (λ b. not (is_in r.pid s.order) && b) (can_act_later d s r)

-- ---- the run queue

pub give_places_later : (d : ℕ) (s : State) → give_places (state_later d s) ≡ state_later d (give_places s)
unfolding give_places
give_places_later d s =
    let same : pids (filter (wakes (state_later d s)) (all_later d s.processes)) ≡ pids (filter (wakes s) s.processes) =
    ap pids (filter_later d (wakes (state_later d s)) (wakes s) s.processes (wakes_later d s)) ∙ pids_later d (filter (wakes s) s.processes) in
    ap (λ (ps : List ℕ). record (state_later d s) { order = s.order ++ ps }) same

-- ---- foreground process groups

pub is_fresh_later : (d : ℕ) (rs : List Process) (c : Console) → is_fresh (all_later d rs) c ≡ is_fresh rs c
is_fresh_later d rs c = ap (λ b. c.foreground == 0 || b) (is_group_of_later d c.session c.foreground rs)

refreshed_later : (d : ℕ) (rs : List Process) (c : Console) → refreshed (all_later d rs) c ≡ refreshed rs c
refreshed_later d rs c = ap (λ b. cond b c (with_foreground 0 c)) (is_fresh_later d rs c)

all_refreshed_later : (d : ℕ) (rs : List Process) (cs : List Console) → map (refreshed (all_later d rs)) cs ≡ map (refreshed rs) cs
all_refreshed_later d rs [] = refl
all_refreshed_later d rs (c ∷ cs) = grind (arith, refreshed_later d rs c, all_refreshed_later d rs cs)

pub clear_foregrounds_later : (d : ℕ) (s : State) → clear_foregrounds (state_later d s) ≡ state_later d (clear_foregrounds s)
unfolding clear_foregrounds
clear_foregrounds_later d s = ap (λ (cs : List Console). record (state_later d s) { consoles = cs }) (all_refreshed_later d s.processes s.consoles)

-- ---- all that follows an event

pub settle_later : (d : ℕ) (s : State) → settle (state_later d s) ≡ state_later d (settle s)
unfolding settle
settle_later d s = ap give_places (clear_foregrounds_later d s) ∙ give_places_later d (clear_foregrounds s)
