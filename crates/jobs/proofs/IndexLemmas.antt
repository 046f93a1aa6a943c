-- What keeps the indexes of a table right, with one line for each index.
use Rattle.std.proofs.Common.{◌≡◌, ◌≢◌, ℕ, ◌+◌, ◌<◌, ◌≤◌, Bool, true, false, cond, refl, ap, sym, ◌∙◌, arith, not, is_some, List, [], ◌∷◌, length, filter, Option, Some, None, IfSome, option_map, nat_lt, ◌==◌, ◌&&◌, ◌||◌, inl, inr}
use Rattle.std.specs.Prelude.{option_and_then}
use Rattle.std.specs.List.{list_any}
use Rattle.std.specs.Option.{option_map_or}
use Rattle.std.proofs.lemmas.Bool.{eq-eqb, ne_eqb, cases_eq}
use Rattle.std.proofs.lemmas.Bool.Decides.{nat_tests}
use Rattle.std.proofs.lemmas.List.Elements.{filter_agree}
use Rattle.posix.specs.declared.process.Life.{Life}
use Rattle.posix.specs.declared.process.Life.TheVariants.{Running, Stopped as Halted, Zombie}
use Rattle.posix.specs.declared.process.News.{News}
use Rattle.posix.specs.declared.process.News.TheVariants as news
use Rattle.std.proofs.lemmas.Option.{IfSome_then}
use Rattle.posix.specs.Common.{Process, is_stopped, IsRising, lookup, adopted, reparented, above, first_pid, is_child, children_in, is_member, members_in, WEXITED, WSTOPPED, WCONTINUED, has_option, is_something, report_life, report_of, reports, wanted_in, is_due}
use Rattle.pidset.specs.Indexes.{IndexView, IsRekeyed, IsNextPair, IsAt, has_within, is_key, is_pair_in, key_of}
use Rattle.pidset.specs.Lists.{ListsView}
use Rattle.pidset.proofs.IndexLemmas.{IsElsewhere, can_replace, unmoved, indexed_moved, indexed_map, indexed_rekeyed, rekeyed_none, index_moved, index_map, index_empty, rekeyed, next_pair}
use Rattle.pidset.proofs.PairLemmas.{none_within}
use Rattle.posix.proofs.TableLemmas.{pid_reparented, reparented_keeps, rising_filter}
use Rattle.posix.proofs.WalkLemmas.{Passes, both_pass, filters_commute, first_passes, found_above}
use Rattle.jobs.specs.declared.indexes.Indexes.{Indexes}
use Rattle.jobs.specs.declared.indexes.IndexedFields.{IndexedFields}
use Rattle.jobs.specs.declared.indexes.Sort.{Sort}
use Rattle.jobs.specs.declared.indexes.Sort.TheVariants.{End, Stop, Continue}
use Rattle.jobs.specs.Indexes.{AreIndexes, CanMove, AreMoved, lesser, room_in, seen_of, sort_of, is_living_subreaper, is_of_sort, rank, sorted, least, report_in, report_key, stopped_in, stopped_key, alarm_in, alarm_key, marked_in, marked_key, member_in, member_key}

-- ---- one process

-- p with this parent has these fields in the list
pub record Sees (p parent : ℕ) (it : Option IndexedFields) (rs : List Process) : Type 0 where
  pub members : key_of member_key p rs ≡ member_in it
  pub reporting : key_of report_key p rs ≡ report_in parent it
  pub stopped : key_of stopped_key p rs ≡ stopped_in it
  pub alarmed : key_of alarm_key p rs ≡ alarm_in it
  pub subreapers : key_of marked_key p rs ≡ marked_in it

pub sees : (p : ℕ) (r : Process) (rs : List Process) → lookup p rs ≡ Some r → Sees p r.parent (Some (seen_of r)) rs
sees p r rs e = record { members = ap (option_and_then member_key) e; reporting = ap (option_and_then report_key) e; stopped = ap (option_and_then stopped_key) e; alarmed = ap (option_and_then alarm_key) e; subreapers = ap (option_and_then marked_key) e }

pub sees_none : (p parent : ℕ) (rs : List Process) → lookup p rs ≡ None → Sees p parent None rs
sees_none p parent rs e = record { members = ap (option_and_then member_key) e; reporting = ap (option_and_then report_key) e; stopped = ap (option_and_then stopped_key) e; alarmed = ap (option_and_then alarm_key) e; subreapers = ap (option_and_then marked_key) e }

-- each index has room for this many processes
abbrev pub Fits : ℕ → Indexes → Type 0
Fits n b = (n ≤ b.reporting.room) × (n ≤ b.stopped.room) × (n ≤ b.alarmed.room) × (n ≤ b.subreapers.room)

pub can_move : (p parent : ℕ) (it : Option IndexedFields) (rs : List Process) (b : Indexes) → IsRising rs → AreIndexes rs b → Sees p parent it rs → (lookup p rs ≡ None → Fits (length rs + 1) b) → CanMove p parent it b
can_move p parent it rs b up h s free = record {
  reporting = rw (← s.reporting) (can_replace report_key p rs b.reporting up h.reporting (λ e. let k = (free e).0 in omega (arith, k)));
  stopped = rw (← s.stopped) (can_replace stopped_key p rs b.stopped up h.stopped (λ e. let k = (free e).1 in omega (arith, k)));
  alarmed = rw (← s.alarmed) (can_replace alarm_key p rs b.alarmed up h.alarmed (λ e. let k = (free e).2 in omega (arith, k)));
  subreapers = rw (← s.subreapers) (can_replace marked_key p rs b.subreapers up h.subreapers (λ e. let k = (free e).3 in omega (arith, k)));
}

pub fits : (rs : List Process) (n : ℕ) (b : Indexes) → AreIndexes rs b → n ≤ length rs → Fits n b
fits rs n b h e = (omega (arith, e, h.reporting.room), omega (arith, e, h.stopped.room), omega (arith, e, h.alarmed.room), omega (arith, e, h.subreapers.room))

-- if there is room for one more process, each index has it
pub fits_more : (k n : ℕ) (b : Indexes) → 0 < lesser k (room_in n b) → Fits (n + 1) b
fits_more k n b h = (grind (arith, nat_tests, h), grind (arith, nat_tests, h), grind (arith, nat_tests, h), grind (arith, nat_tests, h))

-- one more process takes the room of one
pub room_less : {p parent : ℕ} {it : Option IndexedFields} (k j n : ℕ) (old new : Indexes) → k ≤ j + 1 → AreMoved p parent it old new → lesser k (room_in n old) ≤ lesser j (room_in (n + 1) new) + 1
room_less k j n old new few m =
    let a = m.reporting.room in
    let b = m.stopped.room in
    let d = m.alarmed.room in
    let e = m.subreapers.room in
    grind (arith, nat_tests, few, a, b, d, e)

-- the record of p is changed, removed or inserted, and the keys of p change
pub indexes_moved : (p parent : ℕ) (it : Option IndexedFields) (rs ts : List Process) (old new : Indexes) (anchors children : ListsView) → IsElsewhere p rs ts → Fits (length ts) old → AreIndexes rs old → Sees p parent it ts → AreMoved p parent it old new → AreIndexes ts (record new { anchors = anchors; children = children })
indexes_moved p parent it rs ts old new anchors children same fits h s k = record {
  members = index_moved member_key p rs ts old.members.pairs new.members.pairs same h.members (rw s.members k.members);
  reporting = indexed_moved report_key p rs ts old.reporting new.reporting same fits.0 h.reporting (rw s.reporting k.reporting);
  stopped = indexed_moved stopped_key p rs ts old.stopped new.stopped same fits.1 h.stopped (rw s.stopped k.stopped);
  alarmed = indexed_moved alarm_key p rs ts old.alarmed new.alarmed same fits.2 h.alarmed (rw s.alarmed k.alarmed);
  subreapers = indexed_moved marked_key p rs ts old.subreapers new.subreapers same fits.3 h.subreapers (rw s.subreapers k.subreapers);
}

-- if the fields of p are as before, no key changes
pub indexes_unmoved : (p parent : ℕ) (it : Option IndexedFields) (rs : List Process) (b : Indexes) → AreIndexes rs b → Sees p parent it rs → AreMoved p parent it b b
indexes_unmoved p parent it rs b h s = record {
  members = unmoved member_key p rs b.members.pairs _ h.members (sym s.members);
  sizes = refl;
  reporting = record { moved = unmoved report_key p rs b.reporting.pairs _ h.reporting.index (sym s.reporting); once = h.reporting.once; room = refl };
  stopped = record { moved = unmoved stopped_key p rs b.stopped.pairs _ h.stopped.index (sym s.stopped); once = h.stopped.once; room = refl };
  alarmed = record { moved = unmoved alarm_key p rs b.alarmed.pairs _ h.alarmed.index (sym s.alarmed); once = h.alarmed.once; room = refl };
  subreapers = record { moved = unmoved marked_key p rs b.subreapers.pairs _ h.subreapers.index (sym s.subreapers); once = h.subreapers.once; room = refl };
}

-- ---- all processes

-- the children of a process become those of another, for one kind of status change
abbrev pub IsSortRekeyed : Sort → ℕ → ℕ → IndexView → IndexView → Type 0
IsSortRekeyed sort from to old new = IsRekeyed (sorted from sort) (sorted to sort) old new

pub indexes_adopted : (from to : ℕ) → from ≢ to → (rs : List Process) (old new : Indexes) (ended stopped : IndexView) → IsSortRekeyed End from to old.reporting ended → IsSortRekeyed Stop from to ended stopped → IsSortRekeyed Continue from to stopped new.reporting
    → new.members ≡ old.members → new.stopped ≡ old.stopped → new.alarmed ≡ old.alarmed → new.subreapers ≡ old.subreapers → AreIndexes rs old → AreIndexes (adopted from to rs) new
unfolding adopted
indexes_adopted from to ne rs old new ended stopped k0 k1 k2 m e g u h = record {
  members = rw m (index_map member_key member_key (reparented from to) (pid_reparented from to) (reparented_keeps member_key from to (λ r. refl)) rs old.members.pairs h.members);
  reporting = indexed_map report_key (λ r. moved Continue (moved Stop (moved End (report_key r)))) (reparented from to) (pid_reparented from to) reports rs new.reporting
      (indexed_rekeyed _ _ _ (apart Continue) rs stopped new.reporting (indexed_rekeyed _ _ _ (apart Stop) rs ended stopped (indexed_rekeyed report_key _ _ (apart End) rs old.reporting ended h.reporting k0) k1) k2);
  stopped = rw e (indexed_map stopped_key stopped_key (reparented from to) (pid_reparented from to) (reparented_keeps stopped_key from to (λ r. refl)) rs old.stopped h.stopped);
  alarmed = rw g (indexed_map alarm_key alarm_key (reparented from to) (pid_reparented from to) (reparented_keeps alarm_key from to (λ r. refl)) rs old.alarmed h.alarmed);
  subreapers = rw u (indexed_map marked_key marked_key (reparented from to) (pid_reparented from to) (reparented_keeps marked_key from to (λ r. refl)) rs old.subreapers h.subreapers);
}
  where
    moved : Sort → Option ℕ → Option ℕ
    moved sort o = rekeyed (sorted from sort) (sorted to sort) o

    apart : (sort : Sort) → sorted from sort ≢ sorted to sort
    apart sort same = absurd (ne (omega (arith, same)))

    reports : (r : Process) → report_key (reparented from to r) ≡ moved Continue (moved Stop (moved End (report_key r)))
    reports r = grind arith

-- if no child of a parent reports, no process has a key of that parent
silent : (parent : ℕ) (sort : Sort) (c : ℕ) (b : Indexes) → has_within (sorted parent End) (sorted parent Continue) b.reporting.pairs ≡ false → is_pair_in (sorted parent sort) c b.reporting.pairs ≡ false
silent parent sort c b none = let few = by sort in none_within _ _ (sorted parent sort) c b.reporting.pairs (omega arith) (omega (arith, few)) none
  where
    by : (s : Sort) → rank s ≤ 2
    by End = omega arith
    by Stop = omega arith
    by Continue = omega arith

-- and nothing changes if its children become those of another
pub indexes_silent : (from to : ℕ) → from ≢ to → (rs : List Process) (b : Indexes) → has_within (sorted from End) (sorted from Continue) b.reporting.pairs ≡ false → AreIndexes rs b → AreIndexes (adopted from to rs) b
indexes_silent from to ne rs b none h = indexes_adopted from to ne rs b b b.reporting b.reporting (still End) (still Stop) (still Continue) refl refl refl refl h
  where
    still : (sort : Sort) → IsSortRekeyed sort from to b.reporting b.reporting
    still sort = rekeyed_none (sorted from sort) (sorted to sort) b.reporting h.reporting.once (λ c. silent from sort c b none)

-- ---- reading

-- the next member of a process group
pub next_in_group : (group n : ℕ) (rs : List Process) (b : Indexes) (next : Option ℕ) → IsRising rs → AreIndexes rs b → IsNextPair group n b.members.pairs next → next ≡ first_pid (above n (members_in group rs))
unfolding members_in
next_in_group group n rs b next up h i = next_pair member_key rs b.members.pairs group n next up h.members i

-- the list that contains a process says whether it is a member of a process group
pub is_listed : (group p : ℕ) (rs : List Process) (b : Indexes) (list : Option ℕ) → AreIndexes rs b → IsAt p list b.members.pairs → is_key group list ≡ option_map_or (is_member group) (lookup p rs) false
is_listed group p rs b list h at = sym (at group) ∙ h.members p group ∙ elim (lookup p rs) as (λ o. is_key group (option_and_then member_key o) ≡ option_map_or (is_member group) o false) [ None ↦ refl | Some r ↦ refl ]

-- no process is stopped if the index of stopped processes is empty
pub none_stopped : (rs : List Process) (b : Indexes) → IsRising rs → AreIndexes rs b → (length b.stopped.pairs == 0) ≡ not (list_any (λ r. is_stopped r.life) rs)
none_stopped rs b up h = index_empty stopped_key (λ r. is_stopped r.life) (λ r. elim (is_stopped r.life) as (λ s. is_some (cond s (Some r.group) None) ≡ s) [ true ↦ refl | false ↦ refl ]) rs b.stopped.pairs up h.stopped.index

-- the same for living child subreapers
pub none_marked : (rs : List Process) (b : Indexes) → IsRising rs → AreIndexes rs b → (length b.subreapers.pairs == 0) ≡ not (list_any is_living_subreaper rs)
none_marked rs b up h = index_empty marked_key is_living_subreaper (λ r. elim (is_living_subreaper r) as (λ s. is_some (cond {A = Option ℕ} s (Some 0) None) ≡ s) [ true ↦ refl | false ↦ refl ]) rs b.subreapers.pairs up h.subreapers.index

-- the same for alarms
pub none_alarmed : (rs : List Process) (b : Indexes) → IsRising rs → AreIndexes rs b → (length b.alarmed.pairs == 0) ≡ not (list_any (λ r. is_some r.alarm) rs)
none_alarmed rs b up h = index_empty alarm_key (λ r. is_some r.alarm) (λ r. refl) rs b.alarmed.pairs up h.alarmed.index

-- the next child that reports a kind of status change
pub next_sorted : (parent : ℕ) (sort : Sort) (n : ℕ) (rs : List Process) (b : Indexes) (next : Option ℕ) (is_wanted : Bool) → is_wanted ≡ true → IsRising rs → AreIndexes rs b → IsNextPair (sorted parent sort) n b.reporting.pairs next → next ≡ first_pid (above n (filter (λ r. is_wanted && is_of_sort sort r) (children_in parent rs)))
unfolding children_in
next_sorted parent sort n rs b next is_wanted e up h i =
    rw e (next_pair report_key rs b.reporting.pairs (sorted parent sort) n next up h.reporting.index i
    ∙ ap (λ l. first_pid (above n l)) (filter_agree _ (λ r. is_child parent r && is_of_sort sort r) (λ r. by r.parent (sort_of r.life r.news)) rs ∙ sym (both_pass (is_child parent) (is_of_sort sort) rs)))
  where
    few : (s : Sort) → rank s < 256
    few End = omega arith
    few Stop = omega arith
    few Continue = omega arith

    by : (p : ℕ) (o : Option Sort) → is_key (sorted parent sort) (option_map (sorted p) o) ≡ (p == parent && is_key (rank sort) (option_map rank o))
    by p None = grind arith
    by p (Some s) = elim (cases_eq p parent) [
      | inl e ↦ elim (cases_eq (rank s) (rank sort)) [
        | inl same ↦ rw (e, same) (rw (eq-eqb parent parent refl, eq-eqb (rank sort) (rank sort) refl, eq-eqb (sorted parent sort) (sorted parent sort) refl) refl)
        | inr other ↦ rw (ne_eqb (sorted p s) (sorted parent sort) (λ k. other (omega (arith, k, e))), ne_eqb (rank s) (rank sort) other) (grind arith)
      ]
      | inr ne ↦ rw (ne_eqb (sorted p s) (sorted parent sort) (λ k. ne (omega (arith, k, few s, few sort))), ne_eqb p parent ne) refl
    ]

-- or none, if that kind isn't wanted
pub none_sorted : (sort : Sort) (n parent : ℕ) (rs : List Process) (is_wanted : Bool) → is_wanted ≡ false → None ≡ first_pid (above n (filter (λ r. is_wanted && is_of_sort sort r) (children_in parent rs)))
none_sorted sort n parent rs is_wanted e = rw e (none (children_in parent rs))
  where
    none : (ks : List Process) → None ≡ first_pid (above n (filter (λ r. false) ks))
    none [] = refl
    none (k ∷ ks) = none ks

-- the lowest process that passes either of two tests is the lower of the lowest for each test
least_first : (f g : Process → Bool) (rs : List Process) → IsRising rs → least (first_pid (filter f rs)) (first_pid (filter g rs)) ≡ first_pid (filter (λ r. f r || g r) rs)
unfolding IsRising
least_first f g [] up = refl
least_first f g (x ∷ xs) up = by (least_first f g xs up.1) (f x) (g x)
  where
    behind : (t : Process → Bool) → IfSome (first_pid (filter t xs)) (λ q. x.pid < q)
    behind t = IfSome_then _ {P = Passes t xs} (first_passes t xs up.1) (λ q i. found_above x.pid q xs i.0 up.0 i.1)

    first : (o : Option ℕ) → IfSome o (λ q. x.pid < q) → (least (Some x.pid) o ≡ Some x.pid) × (least o (Some x.pid) ≡ Some x.pid)
    first None l = (refl, refl)
    first (Some q) l = (grind (arith, nat_tests, l), grind (arith, nat_tests, l))

    by : least (first_pid (filter f xs)) (first_pid (filter g xs)) ≡ first_pid (filter (λ r. f r || g r) xs) → (a b : Bool) → least (first_pid (cond a (x ∷ filter f xs) (filter f xs))) (first_pid (cond b (x ∷ filter g xs) (filter g xs))) ≡ first_pid (cond (a || b) (x ∷ filter (λ r. f r || g r) xs) (filter (λ r. f r || g r) xs))
    by rest true true = grind (arith, nat_tests)
    by rest true false = (first _ (behind g)).0
    by rest false true = (first _ (behind f)).1
    by rest false false = rest

-- the same above n
least_above : (f g : Process → Bool) (n : ℕ) (rs : List Process) → IsRising rs → least (first_pid (above n (filter f rs))) (first_pid (above n (filter g rs))) ≡ first_pid (above n (filter (λ r. f r || g r) rs))
least_above f g n rs up =
    let high : Process → Bool = λ r. nat_lt n r.pid in
    rw (filters_commute high f rs, filters_commute high g rs, filters_commute high (λ r. f r || g r) rs) (least_first f g (filter high rs) (rising_filter high rs up))

-- a child with this kind of status change, if a wait with these options wants it
abbrev pub is_wanted_sort : ℕ → ℕ → Sort → Process → Bool
is_wanted_sort options option sort r = has_option options option && is_of_sort sort r

-- a child reports if it has one of the wanted kinds
wanted_sorts : (options : ℕ) (r : Process) → ((is_wanted_sort options WEXITED End r || is_wanted_sort options WSTOPPED Stop r) || is_wanted_sort options WCONTINUED Continue r) ≡ reports options r
unfolding report_of
wanted_sorts options r = by r.life r.news
  where
    ends : Bool
    ends = has_option options WEXITED

    reported : Sort → Life → News → Bool
    reported sort l n = is_key (rank sort) (option_map rank (sort_of l n))

    by : (l : Life) (n : News) → ((ends && reported End l n || has_option options WSTOPPED && reported Stop l n) || has_option options WCONTINUED && reported Continue l n) ≡ is_something (report_life options r.pid l n)
    by Running news.Nothing = grind arith
    by Running (news.StoppedBy s) = grind arith
    by Running news.Continued = grind arith
    by Halted news.Nothing = grind arith
    by Halted (news.StoppedBy s) = grind arith
    by Halted news.Continued = grind arith
    by (Zombie w) n = grind arith

-- the next child that a wait wants is the lowest of the next ones of each kind
pub next_wanted : (parent n options : ℕ) (rs : List Process) (ended stopped continued : Option ℕ) → IsRising rs → ended ≡ first_pid (above n (filter (is_wanted_sort options WEXITED End) (children_in parent rs))) → stopped ≡ first_pid (above n (filter (is_wanted_sort options WSTOPPED Stop) (children_in parent rs)))
    → continued ≡ first_pid (above n (filter (is_wanted_sort options WCONTINUED Continue) (children_in parent rs))) → least (least ended stopped) continued ≡ first_pid (above n (wanted_in options parent rs))
unfolding wanted_in children_in
next_wanted parent n options rs ended stopped continued up e s c =
    let kids = children_in parent rs in
    let kids_up = rising_filter (is_child parent) rs up in
    let two : least ended stopped ≡ first_pid (above n (filter (λ r. is_wanted_sort options WEXITED End r || is_wanted_sort options WSTOPPED Stop r) kids)) = rw (e, s) (least_above _ _ n kids kids_up) in
    let all : least (least ended stopped) continued ≡ first_pid (above n (filter (λ r. (is_wanted_sort options WEXITED End r || is_wanted_sort options WSTOPPED Stop r) || is_wanted_sort options WCONTINUED Continue r) kids)) = rw (two, c) (least_above _ _ n kids kids_up) in
    all ∙ ap (λ l. first_pid (above n l)) (filter_agree _ (reports options) (wanted_sorts options) kids)

-- there is none if no child reports
pub none_wanted : (parent n options : ℕ) (rs : List Process) (b : Indexes) → IsRising rs → AreIndexes rs b → has_within (sorted parent End) (sorted parent Continue) b.reporting.pairs ≡ false → None ≡ first_pid (above n (wanted_in options parent rs))
none_wanted parent n options rs b up h none = next_wanted parent n options rs None None None up (no WEXITED End) (no WSTOPPED Stop) (no WCONTINUED Continue)
  where
    no : (option : ℕ) (sort : Sort) → None ≡ first_pid (above n (filter (is_wanted_sort options option sort) (children_in parent rs)))
    no option sort = elim (has_option options option) as (λ t. has_option options option ≡ t → None ≡ first_pid (above n (filter (is_wanted_sort options option sort) (children_in parent rs)))) [
      | true ↦ λ e. next_sorted parent sort n rs b None (has_option options option) e up h (record { there = λ p k. absurd (cc); least = λ p k l. let out : false ≡ true = sym (silent parent sort p b none) ∙ k in absurd (cc) })
      | false ↦ λ e. none_sorted sort n parent rs (has_option options option) e
    ] refl

-- the next process whose alarm is due at a tick
pub next_due : (tick n : ℕ) (rs : List Process) (b : Indexes) (next : Option ℕ) → IsRising rs → AreIndexes rs b → IsNextPair tick n b.alarmed.pairs next → next ≡ first_pid (above n (filter (λ r. is_due tick r.alarm) rs))
next_due tick n rs b next up h i =
    next_pair alarm_key rs b.alarmed.pairs tick n next up h.alarmed.index i
    ∙ ap (λ l. first_pid (above n l)) (filter_agree _ (λ r. is_due tick r.alarm) (λ r. elim r.alarm as (λ o. is_key tick o ≡ is_due tick o) [ None ↦ refl | Some due ↦ refl ]) rs)
