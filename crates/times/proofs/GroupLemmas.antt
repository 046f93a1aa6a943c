-- Shows that new parents, process groups and subreapers don't depend on the time.
use Rattle.std.proofs.Common.{◌≡◌, ℕ, Bool, false, List, [], ◌∷◌, Option, Some, None, refl, ap, ◌∙◌, not, ◌&&◌, ◌||◌}
use native.Mathlib.Omega.{arith}
use Rattle.std.specs.Prelude.{option_map, filter, option_and_then}
use Rattle.std.specs.List.{list_any}
use Rattle.std.specs.Option.{option_map_or}
use Rattle.posix.specs.Processes.{Process, is_living, is_stopped, argument}
use Rattle.posix.specs.Numbers.{with_number}
use Rattle.posix.specs.Tables.{lookup, members_in}
use Rattle.posix.specs.States.{State}
use Rattle.posix.specs.Outcomes.{Done, finished}
use Rattle.posix.specs.Terminals.{is_nonzero}
use Rattle.posix.specs.Heirs.{Forebear, forebear_of, forebears, heir_among, heir_in}
use Rattle.posix.specs.Subreapers.{marked_as, finish_marked, subreaper}
use Rattle.posix.specs.Groups.{is_outside, is_anchor, is_orphaned, group_numbers, some_stopped, has_stopped, is_newly_orphaned, newly_orphaned}
use Rattle.posix.specs.declared.entry.Entry.TheVariants.{Marked}
use Rattle.times.specs.Times.{later, all_later, state_later}
use Rattle.times.proofs.TableLemmas.{lookup_later, changed_later, members_later}
use Rattle.times.proofs.CallLemmas.{attempted_later}

-- ---- lists

pub list_any_later : (d : ℕ) (f g : Process → Bool) (rs : List Process) → ((r : Process) → f (later d r) ≡ g r) → list_any f (all_later d rs) ≡ list_any g rs
list_any_later d f g [] h = refl
list_any_later d f g (r ∷ rs) h = ap (λ (b : Bool). b || list_any f (all_later d rs)) (h r) ∙ ap (λ (b : Bool). g r || b) (list_any_later d f g rs h)

pub filter_later : (d : ℕ) (f g : Process → Bool) (rs : List Process) → ((r : Process) → f (later d r) ≡ g r) → filter f (all_later d rs) ≡ all_later d (filter g rs)
filter_later d f g [] h = refl
filter_later d f g (r ∷ rs) h = grind (arith, filter_later d f g rs h, h r)

pub filter_same : (f g : ℕ → Bool) (ns : List ℕ) → ((n : ℕ) → f n ≡ g n) → filter f ns ≡ filter g ns
filter_same f g [] h = refl
filter_same f g (n ∷ ns) h = grind (arith, filter_same f g ns h, h n)

-- ---- new parents

pub forebears_later : (d : ℕ) (rs : List Process) (p : ℕ) → forebears (all_later d rs) p ≡ forebears rs p
forebears_later d rs p = ap (option_and_then forebear_of) (lookup_later d p rs) ∙ go (lookup p rs) where
  go : (r : Option Process) → option_and_then forebear_of (option_map (later d) r) ≡ option_and_then forebear_of r
  go None = refl
  go (Some r) = refl

pub heir_in_later : (d : ℕ) (rs : List Process) (p : ℕ) → heir_in (all_later d rs) p ≡ heir_in rs p
heir_in_later d rs p = ap (λ (f : ℕ → Option Forebear). heir_among f p) (λ i q. forebears_later d rs q i)

-- ---- process groups

pub is_anchor_later : (d : ℕ) (rs : List Process) (r : Process) → is_anchor (all_later d rs) (later d r) ≡ is_anchor rs r
unfolding is_anchor
is_anchor_later d rs r = ap (λ (o : Option Process). is_living r && option_map_or (is_outside r) o false) (lookup_later d r.parent rs) ∙ go (lookup r.parent rs) where
  go : (o : Option Process) → (is_living r && option_map_or (is_outside r) (option_map (later d) o) false) ≡ (is_living r && option_map_or (is_outside r) o false)
  go None = refl
  go (Some parent) = refl

pub is_orphaned_later : (d group : ℕ) (rs : List Process) → is_orphaned group (all_later d rs) ≡ is_orphaned group rs
unfolding is_orphaned
is_orphaned_later d group rs =
    ap (λ (ms : List Process). not (list_any (is_anchor (all_later d rs)) ms)) (members_later d group rs)
    ∙ ap not (list_any_later d (is_anchor (all_later d rs)) (is_anchor rs) (members_in group rs) (is_anchor_later d rs))

pub group_numbers_later : (d : ℕ) (rs : List Process) → group_numbers (all_later d rs) ≡ group_numbers rs
unfolding group_numbers
group_numbers_later d [] = refl
group_numbers_later d (r ∷ rs) = ap (with_number r.group) (group_numbers_later d rs)

pub some_stopped_later : (d : ℕ) (rs : List Process) → some_stopped (all_later d rs) ≡ some_stopped rs
some_stopped_later d rs = list_any_later d (λ r. is_stopped r.life) (λ r. is_stopped r.life) rs (λ r. refl)

pub has_stopped_later : (d group : ℕ) (rs : List Process) → has_stopped group (all_later d rs) ≡ has_stopped group rs
unfolding has_stopped
has_stopped_later d group rs = ap some_stopped (members_later d group rs) ∙ some_stopped_later d (members_in group rs)

pub is_newly_orphaned_later : (d : ℕ) (before now : List Process) (group : ℕ) → is_newly_orphaned (all_later d before) (all_later d now) group ≡ is_newly_orphaned before now group
unfolding is_newly_orphaned
is_newly_orphaned_later d before now group =
    ap (λ (b : Bool). not b && (is_orphaned group (all_later d now) && has_stopped group (all_later d now))) (is_orphaned_later d group before)
    ∙ ap (λ (b : Bool). not (is_orphaned group before) && (b && has_stopped group (all_later d now))) (is_orphaned_later d group now)
    ∙ ap (λ (b : Bool). not (is_orphaned group before) && (is_orphaned group now && b)) (has_stopped_later d group now)

pub newly_orphaned_later : (d : ℕ) (before now : List Process) → newly_orphaned (all_later d before) (all_later d now) ≡ newly_orphaned before now
unfolding newly_orphaned
newly_orphaned_later d before now =
    ap (filter (is_newly_orphaned (all_later d before) (all_later d now))) (group_numbers_later d now)
    ∙ filter_same (is_newly_orphaned (all_later d before) (all_later d now)) (is_newly_orphaned before now) (group_numbers now) (is_newly_orphaned_later d before now)

-- ---- subreapers

pub marked_as_later : (d : ℕ) (mark : Bool) (r : Process) → marked_as mark (later d r) ≡ later d (marked_as mark r)
unfolding marked_as finished
marked_as_later d mark r = refl

pub finish_marked_later : (d : ℕ) (s : State) (me : Process) (mark : Bool) → finish_marked (state_later d s) (later d me) mark ≡ attempted_later d (finish_marked s me mark)
finish_marked_later d s me mark = ap (λ (rs : List Process). Done (record { state = record (state_later d s) { processes = rs }; entries = Marked me.pid mark ∷ [] })) (changed_later d me.pid (marked_as mark) (marked_as mark) s.processes (marked_as_later d mark))

pub subreaper_later : (d : ℕ) (s : State) (me : Process) → subreaper (state_later d s) (later d me) ≡ attempted_later d (subreaper s me)
unfolding subreaper
subreaper_later d s me = finish_marked_later d s me (is_nonzero (argument me 1))
