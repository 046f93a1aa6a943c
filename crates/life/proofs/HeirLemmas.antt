-- Child subreapers: what a mark changes, and the walk up to the new parent of a process's children.
use Rattle.std.proofs.Common.{◌≡◌, ◌≢◌, ℕ, ◌+◌, ◌-◌, ◌≤◌, zero, suc, Bool, true, false, cond, not, ◌&&◌, ◌==◌, refl, ap, sym, ◌∙◌, arith, List, Option, Some, None, option_map, option_and_then}
use Rattle.std.specs.List.{list_any}
use Rattle.std.specs.Option.{option_map_or}
use Rattle.std.proofs.lemmas.Bool.{ne_eqb, cond_both}
use Rattle.posix.specs.declared.process.Life.{Life}
use Rattle.posix.specs.declared.process.Life.TheVariants.{Running, Stopped, Zombie}
use Rattle.posix.specs.Common.{Process, is_zombie, lookup, State, process, Forebear, nearest_marked, most_processes, forebears, forebear_of, heir_in, IsRegular, finished, marked_as}
use Rattle.proctable.specs.declared.snapshot.Snapshot.{Snapshot}
use Rattle.proctable.specs.Records.{snapshot_of}
use Rattle.posix.proofs.RegularLemmas.{Keeps}
use Rattle.posix.proofs.TouchLemmas.{Unseen}
use Rattle.posix.proofs.HeirLemmas.{nearest_gone, nearest_here, nearest_none, nearest_on, nearest_first}
use Rattle.posix.proofs.TableLemmas.{pid_looked, none_found}
use Rattle.jobs.specs.Indexes.{is_living_subreaper, keeps_group_and_session, seen_of}
use Rattle.life.specs.Ends.{slots_of_walk}
use Rattle.life.proofs.NewsLemmas.{KeepsNumbers}
use Rattle.posix.proofs.ResultLemmas.{Back, back, none_mapped}

-- ---- a mark

pub keeps_marked : {now : ℕ} (mark : Bool) → Keeps now (marked_as mark)
unfolding marked_as finished
keeps_marked mark = record { pid = λ r. refl; parent = λ r. refl; group = λ r. refl; session = λ r. refl; zombie = λ r. refl; alarm = λ r h. h }

pub marked_numbers : (mark : Bool) → KeepsNumbers (marked_as mark)
unfolding marked_as finished
marked_numbers mark = record { pid = λ r. refl; parent = λ r. refl; group = λ r. refl; session = λ r. refl }

-- its parent sees nothing of it
pub unseen_marked : (mark : Bool) → Unseen (marked_as mark)
unfolding marked_as finished
unseen_marked mark = record { pid = λ r. refl; parent = λ r. refl; group = λ r. refl; life = λ r. refl; news = λ r. refl }

-- the process stays in its process group and its session, and isn't revived
pub marked_put : (mark : Bool) (r : Process) → keeps_group_and_session (seen_of r) (seen_of (marked_as mark r)) ≡ true
unfolding marked_as finished
marked_put mark r = grind arith

-- ---- the process at which a walk ends

-- the process at which it ends from q on, with so many steps left
abbrev pub walk_from : List Process → ℕ → ℕ → ℕ → ℕ
walk_from rs p left q = nearest_marked (forebears rs) p left q

-- ---- no live process is a child subreaper

-- so no ancestor is marked
unmarked : (rs : List Process) → list_any is_living_subreaper rs ≡ false → (q : ℕ) (f : Forebear) → forebears rs q ≡ Some f → f.is_marked ≡ false
unmarked rs none q f e = of (lookup q rs) refl e
  where
    mark : (dead m : Bool) (n : ℕ) → (m && not dead) ≡ false → cond {A = Option Forebear} dead None (Some (record { is_marked = m; parent = n })) ≡ Some f → f.is_marked ≡ false
    mark true m n out e = absurd (cc)
    mark false true n out e = absurd (cc)
    mark false false n out e = let is : record { is_marked = false; parent = n } ≡ f = cc in sym (ap (λ (g : Forebear). g.is_marked) is)

    of : (o : Option Process) → lookup q rs ≡ o → option_and_then forebear_of o ≡ Some f → f.is_marked ≡ false
    of None found e = absurd (cc)
    of (Some r) found e = mark (is_zombie r.life) r.is_subreaper r.parent (none_found is_living_subreaper rs none q r found) e

-- and process 1 is the new parent
pub heir_unmarked : (rs : List Process) (p : ℕ) → list_any is_living_subreaper rs ≡ false → 1 ≡ heir_in rs p
heir_unmarked rs p none = sym (cond_both (p == 1) 1 (walk_from rs p most_processes p) (λ h. h ≡ 1) (λ t. refl) (λ t. nearest_none (forebears rs) p most_processes p (unmarked rs none)))

-- ---- the walk

-- the slots of one step more
slots_next : (rs : List Process) (p left q : ℕ) → left ≢ 0 → q ≢ 1
    → slots_of_walk (forebears rs) p left q ≡ 1 + option_map_or (λ (f : Forebear). cond (f.is_marked && not (q == p)) 0 (slots_of_walk (forebears rs) p (left - 1) f.parent)) (forebears rs q) 0
unfolding slots_of_walk
slots_next rs p zero q some other = absurd (some refl)
slots_next rs p (suc n) q some other =
    let less : n ≡ suc n - 1 = omega arith in
    rw (ne_eqb q 1 other) (ap (λ m. 1 + option_map_or (λ (f : Forebear). cond (f.is_marked && not (q == p)) 0 (slots_of_walk (forebears rs) p m f.parent)) (forebears rs q) 0) less)

pub slots_least : (rs : List Process) (p left q : ℕ) → left ≢ 0 → q ≢ 1 → 1 ≤ slots_of_walk (forebears rs) p left q
slots_least rs p left q some other = let is = slots_next rs p left q some other in omega (arith, is)

pub slots_on : (rs : List Process) (p left q : ℕ) (f : Forebear) → left ≢ 0 → q ≢ 1 → forebears rs q ≡ Some f → (f.is_marked && not (q == p)) ≡ false
    → slots_of_walk (forebears rs) p left q ≡ 1 + slots_of_walk (forebears rs) p (left - 1) f.parent
slots_on rs p left q f some other there mark = slots_next rs p left q some other ∙ rw (there, mark) refl

-- process 1 ends it, because in a regular state it has no ancestor
pub walk_first : (rs : List Process) (p left : ℕ) → ((q : ℕ) (r : Process) → lookup q rs ≡ Some r → 1 ≤ r.pid) → ((r : Process) → lookup 1 rs ≡ Some r → r.parent ≡ 0) → walk_from rs p left 1 ≡ 1
walk_first rs p left least first = nearest_first (forebears rs) p left (nobody (lookup 0 rs) refl) (λ f e. above (lookup 1 rs) refl f e)
  where
    nobody : (o : Option Process) → lookup 0 rs ≡ o → option_and_then forebear_of o ≡ None
    nobody None e = refl
    nobody (Some r) e = let named : r.pid ≡ 0 = pid_looked 0 rs r e in let one = least 0 r e in absurd (omega (arith, named, one))

    parent : (b : Bool) (m : Bool) (n : ℕ) (f : Forebear) → n ≡ 0 → cond {A = Option Forebear} b None (Some (record { is_marked = m; parent = n })) ≡ Some f → f.parent ≡ 0
    parent true m n f none e = absurd (cc)
    parent false m n f none e = let is : record { is_marked = m; parent = n } ≡ f = cc in ap (λ (g : Forebear). g.parent) (sym is) ∙ none

    above : (o : Option Process) → lookup 1 rs ≡ o → (f : Forebear) → option_and_then forebear_of o ≡ Some f → f.parent ≡ 0
    above None is f e = absurd (cc)
    above (Some r) is f e = parent (is_zombie r.life) r.is_subreaper r.parent f (first r is) e

pub first_regular : (s : State) → IsRegular s → (p left : ℕ) → walk_from s.processes p left 1 ≡ 1
first_regular s i p left = walk_first s.processes p left (λ q r e. (i.bounded q r e).least) (λ r e. let same : i.first.what ≡ r = let both = sym i.first.found ∙ e in cc in ap (λ (q : Process). q.parent) (sym same) ∙ i.first.parent)

pub walk_over : (rs : List Process) (p left q : ℕ) → left ≡ 0 → walk_from rs p left q ≡ 1
unfolding nearest_marked
walk_over rs p left q h = ap (λ n. walk_from rs p n q) h

-- ---- the process that is looked at

-- no process
pub nobody_at : (s t : State) (q : ℕ) (o : Option Snapshot) → o ≡ option_map snapshot_of (process t q) → t ≡ s → o ≡ None → lookup q s.processes ≡ None
nobody_at s t q o value same none = none_mapped (lookup q s.processes) snapshot_of (sym none ∙ value ∙ ap (λ (u : State). option_map snapshot_of (process u q)) same)

-- some process, of which this is seen
pub looked_at : (s t : State) (q : ℕ) (o : Option Snapshot) (it : Snapshot) → o ≡ option_map snapshot_of (process t q) → t ≡ s → o ≡ Some it → Back (lookup q s.processes) snapshot_of it
looked_at s t q o it value same some = back (lookup q s.processes) snapshot_of it (sym some ∙ value ∙ ap (λ (u : State). option_map snapshot_of (process u q)) same)

-- ---- one step

pub step_gone : (s : State) (p left q : ℕ) → left ≢ 0 → lookup q s.processes ≡ None → walk_from s.processes p left q ≡ 1
step_gone s p left q some found = nearest_gone (forebears s.processes) p left q some (rw found refl)

pub step_dead : (s : State) (p left q status : ℕ) (it : Snapshot) → left ≢ 0 → Back (lookup q s.processes) snapshot_of it → it.life ≡ Zombie status → walk_from s.processes p left q ≡ 1
step_dead s p left q status it some k dead =
    let life : k.what.life ≡ Zombie status = ap (λ (f : Snapshot). f.life) (sym k.is) ∙ dead in
    nearest_gone (forebears s.processes) p left q some (rw (k.found, life) refl)

-- a living one
seen_living : (s : State) (q : ℕ) (it : Snapshot) → Back (lookup q s.processes) snapshot_of it → ((w : ℕ) → it.life ≡ Zombie w → ⊥) → forebears s.processes q ≡ Some (record { is_marked = it.is_subreaper; parent = it.parent })
seen_living s q it k lives =
    let living : is_zombie k.what.life ≡ false = by k.what.life (λ w e. lives w (ap (λ (f : Snapshot). f.life) k.is ∙ e)) in
    let mark = ap (λ (f : Snapshot). f.is_subreaper) (sym k.is) in
    let parent = ap (λ (f : Snapshot). f.parent) (sym k.is) in
    rw (k.found, living, mark, parent) refl
  where
    by : (l : Life) → ((w : ℕ) → l ≡ Zombie w → ⊥) → is_zombie l ≡ false
    by Running h = refl
    by Stopped h = refl
    by (Zombie w) h = absurd (h w refl)

pub step_here : (s : State) (p left q : ℕ) (it : Snapshot) → left ≢ 0 → Back (lookup q s.processes) snapshot_of it → ((w : ℕ) → it.life ≡ Zombie w → ⊥) → (it.is_subreaper && not (q == p)) ≡ true → walk_from s.processes p left q ≡ q
step_here s p left q it some k lives mark = nearest_here (forebears s.processes) p left q (record { is_marked = it.is_subreaper; parent = it.parent }) some (seen_living s q it k lives) mark

pub step_on : (s : State) (p left q : ℕ) (it : Snapshot) → left ≢ 0 → Back (lookup q s.processes) snapshot_of it → ((w : ℕ) → it.life ≡ Zombie w → ⊥) → (it.is_subreaper && not (q == p)) ≡ false
    → walk_from s.processes p left q ≡ walk_from s.processes p (left - 1) it.parent
step_on s p left q it some k lives mark = nearest_on (forebears s.processes) p left q (record { is_marked = it.is_subreaper; parent = it.parent }) some (seen_living s q it k lives) mark

pub step_read : (s : State) (p left q : ℕ) (it : Snapshot) → left ≢ 0 → q ≢ 1 → Back (lookup q s.processes) snapshot_of it → ((w : ℕ) → it.life ≡ Zombie w → ⊥) → (it.is_subreaper && not (q == p)) ≡ false
    → slots_of_walk (forebears s.processes) p left q ≡ 1 + slots_of_walk (forebears s.processes) p (left - 1) it.parent
step_read s p left q it some other k lives mark = slots_on s.processes p left q (record { is_marked = it.is_subreaper; parent = it.parent }) some other (seen_living s q it k lives) mark
