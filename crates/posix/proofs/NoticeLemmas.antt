-- Notices of ends, and what they are followed by, change the records, and the count of those dropped without a report, and nothing else of a state.
use Rattle.std.proofs.Common.{◌≡◌, ℕ, Bool, true, false, cond, not, ◌&&◌, refl, ap, ◌∙◌, List, [], ◌∷◌, ◌==◌, Option, None}
use Rattle.posix.specs.Common.{Process, State, change, Console, console_of, is_dropping, drop_child, notice_of_end, status_of, zombies_of, tell_of_all, hup_and_cont_orphans, halt, leave_children_and_die, end_with_heir, hung_up, hang_up, noticed, child_signal}

-- only the records, and the count of those dropped, may have changed
abbrev pub OnlyRecords : State → State → Type 0
OnlyRecords old new = new ≡ record old { processes = new.processes; dropped = new.dropped }

-- two such changes are one, too
only_after : (a b c : State) → OnlyRecords a b → OnlyRecords b c → OnlyRecords a c
only_after a b c h k = k ∙ ap (λ (s : State). record s { processes = c.processes; dropped = c.dropped }) h

-- a notice of an end changes no more
pub only_notice : (s : State) (parent child status : ℕ) → OnlyRecords s (notice_of_end s parent child status)
unfolding notice_of_end
only_notice s parent child status =
    let told = change s parent (noticed (child_signal child status)) in
    elim (is_dropping parent s.processes) as (λ b. OnlyRecords s (cond {A = State} b (drop_child told child) told)) [ true ↦ refl | false ↦ refl ]

-- nor do several
pub only_told : (s : State) (heir : ℕ) (rs : List Process) → OnlyRecords s (tell_of_all s heir rs)
unfolding tell_of_all
only_told s heir [] = refl
only_told s heir (r ∷ rs) =
    let one = notice_of_end s heir r.pid (status_of r.life) in
    only_after s one (tell_of_all one heir rs) (only_notice s heir r.pid (status_of r.life)) (only_told one heir rs)

-- Of who ends only the number and the parent count.
pub end_alike : (s : State) (r t : Process) (heir status : ℕ) → r.pid ≡ t.pid → r.parent ≡ t.parent → end_with_heir s r heir status ≡ end_with_heir s t heir status
end_alike s r t heir status p q = rw (p, q) refl

-- the end of process 1 halts the machine
pub end_first : (s : State) (r : Process) (heir status : ℕ) → (r.pid == 1) ≡ true → (end_with_heir s r heir status).state ≡ halt s status
end_first s r heir status t = rw t refl

-- the end of another is its departure, and then the notices
pub end_other : (s : State) (r : Process) (heir status : ℕ) → (r.pid == 1) ≡ false → OnlyRecords (leave_children_and_die s r.pid heir status) (end_with_heir s r heir status).state
end_other s r heir status t =
    let gone = leave_children_and_die s r.pid heir status in
    let told = tell_of_all gone heir (zombies_of r.pid s.processes) in
    let given = hup_and_cont_orphans s.processes told in
    let before = only_after gone told given (only_told gone heir (zombies_of r.pid s.processes)) refl in
    rw t (only_after gone given (notice_of_end given r.parent r.pid status) before (only_notice given r.parent r.pid status))

-- to hang up changes the records and the consoles, and nothing else of a state
pub only_hung_up : (s : State) (r : Process) → hang_up s r ≡ record s { processes = (hang_up s r).processes; consoles = (hang_up s r).consoles }
unfolding hang_up
only_hung_up s r = both (not (r.pid == 1) && r.session == r.pid) (console_of r.session s.consoles)
  where
    both : (b : Bool) (o : Option Console) → (λ (t : State). t ≡ record s { processes = t.processes; consoles = t.consoles }) (cond b (hung_up s r.session o) s)
    both true None = refl
    both _ _ = refl
