-- Which process setpgid moves, and which processes stay in its process group.
use Rattle.std.proofs.Common.{◌≡◌, ◌==◌, ◌||◌, true, ℕ, ℤ, pos, negsuc, inl, inr, arith, List, ap, sym, ◌∙◌, Option, Some, option_map, Ok, Result}
use Rattle.posix.specs.declared.errno.Errno.{Errno}
use Rattle.posix.specs.Common.{Process, IsRising, lookup, is_member, State, process, change, IsRegular, ended, made_zombie, news_told, named, move_to, in_group, is_group_of}
use Rattle.std.proofs.lemmas.Bool.{eqb-true, and_parts, or_cases}
use Rattle.posix.proofs.WalkLemmas.{some_looked, any_looked}
use Rattle.jobs.specs.IndexedTables.{IsGroupFor}
use Rattle.jobs.specs.Indexes.{keeps_group_and_session, seen_of}
use Rattle.posix.proofs.MoveLemmas.{regular_move_to, named_found}
use Rattle.proctable.specs.declared.snapshot.Snapshot.{Snapshot}
use Rattle.proctable.specs.Records.{snapshot_of}
use Rattle.life.proofs.SoundLemmas.{found_in}
use Rattle.posix.proofs.ResultLemmas.{back}

-- the group that it moves to has its number, or a member in the caller's session
joins : (me r : Process) (z : ℤ) (h : ℕ) (rs : List Process) → move_to me (Some r) z rs ≡ Ok h → (h == r.pid || is_group_of me.session h rs) ≡ true
joins me r (pos g) h rs e = grind (arith, e)
joins me r (negsuc g) h rs e = absurd (cc)

group_for : (me r : Process) (z : ℤ) (h : ℕ) (rs : List Process) → IsRising rs → move_to me (Some r) z rs ≡ Ok h → IsGroupFor r.pid h rs
unfolding is_group_of
group_for me r z h rs up e = elim (or_cases _ _ (joins me r z h rs e)) [
  | inl same ↦ inl (eqb-true h r.pid same)
  | inr some ↦ let it = some_looked _ rs up some in inr (any_looked (is_member h) it.0.pid rs it.0 it.1 (and_parts (it.0.session == me.session) (it.0.group == h) it.2).1)
]

-- the answer to the process p that asks to move the process of the snapshot target
abbrev pub Answers : List Process → ℕ → ℤ → Option Snapshot → Result ℕ Errno → Type 0
Answers rs p z target answer = (me : Process) (named : Option Process) → lookup p rs ≡ Some me → target ≡ option_map snapshot_of named → answer ≡ move_to me named z rs

-- the process that setpgid moves
pub record IsMoving (s : State) (me : Process) (word : ℤ) (group p : ℕ) : Type 0 where
  pub what : Process
  pub found : lookup p s.processes ≡ Some what
  pub regular : IsRegular (change s p (in_group group))
  pub joins : IsGroupFor p group s.processes

pub is_moving : (s t : State) → s ≡ t → IsRegular s → (p : ℕ) (me : Process) (word z : ℤ) (group : ℕ) (it : Snapshot) (target : Option Snapshot) (answer : Result ℕ Errno) → process t p ≡ Some me → target ≡ option_map snapshot_of (named me word t.processes)
    → Answers s.processes p z target answer → answer ≡ Ok group → target ≡ Some it → IsMoving s me word group it.pid
is_moving s t same i p me word z group it target answer here read value was is =
    let o = named me word s.processes in
    let here = found_in s t same p me here in
    let read = read ∙ ap (λ (t : State). option_map snapshot_of (named me word t.processes)) (sym same) in
    let r = back o snapshot_of it (sym is ∙ read) in
    let found = named_found p s.processes me word r.what here r.found in
    let moves = ap (λ o. move_to me o z s.processes) (sym r.found) ∙ sym (value me o here read) ∙ was in
    rw (ap (λ (f : Snapshot). f.pid) r.is)
    record { what = r.what; found = found; regular = regular_move_to s i me r.what z group found moves; joins = group_for me r.what z group s.processes i.rising moves }

-- ---- a process that stays in its process group and its session, and isn't revived

pub ended_put : (n : ℕ) (r : Process) → keeps_group_and_session (seen_of r) (seen_of (ended n r)) ≡ true
unfolding ended
ended_put n r = grind arith

pub zombie_put : (n : ℕ) (r : Process) → keeps_group_and_session (seen_of r) (seen_of (made_zombie n r)) ≡ true
unfolding made_zombie
zombie_put n r = grind arith

pub told_put : (r : Process) → keeps_group_and_session (seen_of r) (seen_of (news_told r)) ≡ true
unfolding news_told
told_put r = grind arith
