-- A departure: which processes it makes runnable, so that they have to be rechecked.
use Rattle.std.proofs.Common.{◌≡◌, ◌≢◌, ℕ, Bool, true, false, cond, ◌||◌, not, ◌&&◌, is_some, option_map, Option, None, refl, ap, sym, ◌∙◌, subst, List, [], ◌∷◌, ◌++◌, map, Some, arith, ◌⊎◌, ⊎_elim, inl, inr}
use Rattle.std.specs.List.{AllByRecursion}
use Rattle.std.specs.Option.{IsSome}
use Rattle.std.proofs.lemmas.Bool.{cases_eq, eq-eqb, or_left, or_right, or_cases, both_ways, false_from_ne_true}
use Rattle.std.proofs.lemmas.List.{length-map}
use Rattle.posix.specs.Common.{Process, lookup, at, changed, first_pid, above, reparented, adopted, sorts, wanted_in, State, process, is_in, change, lose_place, IsRegular, made_zombie, leave_children_and_die}
use Rattle.posix.proofs.TableLemmas.{pid_looked, pid_reparented, lookup_changed, rising_changed}
use Rattle.posix.proofs.MapLemmas.{at_pid, some_map, lookup_back}
use Rattle.posix.proofs.RegularLemmas.{lookup_other}
use Rattle.posix.proofs.MemberLemmas.{each, in_append, others_stay, still_out}
use Rattle.posix.proofs.TouchLemmas.{Touches, touches_both, touches_shown, touches_lost, touches_adopted}
use Rattle.pidset.specs.Lists.{ListsView}
use Rattle.pidset.specs.Numbers.{PidSetView, with_number}
use Rattle.pidset.proofs.NumberLemmas.{in_with}
use Rattle.posix.proofs.ResultLemmas.{mapped_is}
use Rattle.jobs.specs.declared.indexes.IndexedFields.{IndexedFields}
use Rattle.jobs.specs.Indexes.{seen_of}
use Rattle.life.specs.Machines.{IsListed}
use Rattle.life.specs.Rechecks.{awaits, rechecking, with_numbers}
use Rattle.life.proofs.AdoptionLemmas.{AreQuiet, quiet_children, touches_quiet}
use Rattle.life.proofs.EndLemmas.{keeps_made_zombie}
use Rattle.life.proofs.NewsLemmas.{touches_unawaited}
use Rattle.life.proofs.RecheckLemmas.{listed_more, listed_same, listed_where}

-- p is on this list, or in the run queue
abbrev pub IsAsked : State → ℕ → List ℕ → Type 0
IsAsked s p ns = is_in p (ns ++ s.order) ≡ true

-- a process that is rechecked if a change may have made it runnable, and it is not in the run queue
asked_where : (s : State) (p : ℕ) (ns : List ℕ) (acts : Bool) → acts ≡ true → IsAsked s p (cond acts (rechecking p s.order ns) ns)
asked_where s p ns acts e = in_append p (cond acts (rechecking p s.order ns) ns) s.order ∙ grind (arith, e, in_with p p ns)

-- the others stay on the list
stays_where : (s : State) (p q : ℕ) (ns : List ℕ) (acts : Bool) → is_in q ns ≡ true → is_in q (cond acts (rechecking p s.order ns) ns) ≡ true
stays_where s p q ns acts e = grind (arith, e, in_with q p ns)

asked_still : (s : State) (p q : ℕ) (ns : List ℕ) (acts : Bool) → IsAsked s q ns → IsAsked s q (cond acts (rechecking p s.order ns) ns)
asked_still s p q ns acts e = in_append q (cond acts (rechecking p s.order ns) ns) s.order ∙ ⊎_elim (λ on. or_left _ _ (stays_where s p q ns acts on)) (λ placed. or_right (is_in q (cond acts (rechecking p s.order ns) ns)) _ placed) (or_cases _ _ (sym (in_append q ns s.order) ∙ e))

-- ---- what was read of the others, once the process is a zombie

-- if its parent was found not to wait for it
pub deaf_parent : (s : State) (p parent w : ℕ) (me : Process) (mid : List Process) (seen : IndexedFields) (awaited : Bool) → process s p ≡ Some me → parent ≡ me.parent → mid ≡ changed p (made_zombie w) s.processes → option_map seen_of (lookup p mid) ≡ Some seen
    → ((up it : Process) → lookup parent mid ≡ Some up → it.pid ≡ p → seen ≡ seen_of it → awaited ≡ (not (is_in parent s.order) && awaits up it)) → awaited ≡ false → is_in parent s.order ≡ false → (up : Process) → me.parent ≢ p → process s me.parent ≡ Some up → awaits up (made_zombie w me) ≡ false
deaf_parent s p parent w me mid seen awaited found its is sees does none out up ne there =
    let keeps = (keeps_made_zombie w).pid in
    let mine : lookup p mid ≡ Some (made_zombie w me) = ap (lookup p) is ∙ lookup_changed p p (made_zombie w) keeps s.processes ∙ rw (eq-eqb p p refl, found) refl in
    let theirs : lookup parent mid ≡ Some up = ap (λ q. lookup q mid) its ∙ ap (lookup me.parent) is ∙ lookup_other p me.parent (made_zombie w) keeps ne s.processes up there in
    sym (ap (λ b. not b && awaits up (made_zombie w me)) out) ∙ sym (does up (made_zombie w me) theirs (keeps me ∙ pid_looked p s.processes me found) (mapped_is (lookup p mid) seen_of (made_zombie w me) seen (sym sees) mine)) ∙ none

-- and if no child was found that has a status change
pub quiet_zombie : (s : State) (p w : ℕ) (mid : List Process) (next : Option ℕ) → IsRegular s → mid ≡ changed p (made_zombie w) s.processes → next ≡ first_pid (above 0 (wanted_in sorts p mid)) → is_some next ≡ false → AreQuiet p (changed p (made_zombie w) s.processes)
unfolding changed
quiet_zombie s p w mid None i is e none =
    let keeps = (keeps_made_zombie w).pid in
    quiet_children (changed p (made_zombie w) s.processes) (rising_changed p (made_zombie w) keeps s.processes i.rising) (λ q r here.
    let b = lookup_back (at p (made_zombie w)) (at_pid p (made_zombie w) keeps) q s.processes r here in
    omega (arith, (i.bounded q b.what b.found).least, pid_looked q s.processes b.what b.found, pid_looked q (changed p (made_zombie w) s.processes) r here)) p (e ∙ ap (λ rs. first_pid (above 0 (wanted_in sorts p rs))) is)
quiet_zombie s p w mid (Some c) i is e none = absurd (cc)

-- ---- the list

-- The departing process is on the list. So is its parent, unless it is in the run queue or doesn't wait for the
-- process. So is the new parent, unless it is in the run queue or no child has a status change.
listed_departed : {readers : ListsView} (s : State) (p heir w : ℕ) (me : Process) (l : PidSetView) → IsRegular s → IsListed s l readers → process s p ≡ Some me → is_in p l.pids ≡ true
    → ((up : Process) → me.parent ≢ p → process s me.parent ≡ Some up → awaits up (made_zombie w me) ≡ false) ⊎ IsAsked s me.parent l.pids → AreQuiet p (changed p (made_zombie w) s.processes) ⊎ IsAsked s heir l.pids → IsListed (leave_children_and_die s p heir w) l readers
unfolding changed adopted
listed_departed s p heir w me l i h found mine up its =
    listed_same s t l asked h (both s left t (both s zombie left dies loses) gives) (refl, refl, λ q u e. still_out p q s.order e)
    (length-map (map (at p (made_zombie w)) s.processes) (reparented p heir) ∙ length-map s.processes (at p (made_zombie w)))
    (λ q e. some_map (reparented p heir) (pid_reparented p heir) q _ (some_map (at p (made_zombie w)) (at_pid p (made_zombie w) (keeps_made_zombie w).pid) q s.processes e))
    (λ q theirs e. ⊎_elim inl (λ placed. elim (cases_eq q p) [
      | inl same ↦ inl (ap (λ n. is_in n l.pids) same ∙ mine)
      | inr other ↦ inr (placed, others_stay p q s.order other ∙ placed)
    ]) (or_cases _ _ (sym (in_append q l.pids s.order) ∙ e)))
  where
    zombie : State
    zombie = change s p (made_zombie w)

    left : State
    left = lose_place zombie p

    t : State
    t = leave_children_and_die s p heir w

    asked : List ℕ
    asked = l.pids ++ s.order

    here : IsAsked s p l.pids
    here = in_append p l.pids s.order ∙ or_left _ _ mine

    within : (a b : State) (ps : List ℕ) → AllByRecursion (λ q. IsAsked s q l.pids) ps → Touches a b ps → Touches a b asked
    within a b ps all touches q r e out = touches q r e (false_from_ne_true _ (λ k. both_ways _ out (each (λ q. IsAsked s q l.pids) ps all q k)))

    both : (a b c : State) → Touches a b asked → Touches b c asked → Touches a c asked
    both a b c x y q r e out = touches_both a b c asked asked x y q r e (in_append q asked asked ∙ ap (λ b. b || b) out)

    dies : Touches s zombie asked
    dies = ⊎_elim (λ deaf. within s zombie (p ∷ []) (here, tt) (touches_unawaited s p (made_zombie w) (keeps_made_zombie w) i.rising me found deaf))
        (λ k. within s zombie (p ∷ me.parent ∷ []) (here, (k, tt)) (touches_shown s p (made_zombie w) (keeps_made_zombie w).pid (keeps_made_zombie w).parent i.rising me found)) up

    loses : Touches zombie left asked
    loses = within zombie left (p ∷ []) (here, tt) (touches_lost zombie p)

    gives : Touches left t asked
    gives = ⊎_elim (λ silent. within left t (p ∷ []) (here, tt) (touches_quiet left p heir silent)) (λ k. within left t (p ∷ heir ∷ []) (here, (k, tt)) (touches_adopted left p heir)) its

-- if they were put on it so
pub listed_left : {readers : ListsView} (s : State) (p heir w parent : ℕ) (me : Process) (before put then after : PidSetView) (awaited told : Bool) → IsRegular s → IsListed s before readers → process s p ≡ Some me → parent ≡ me.parent → IsSome (process s parent) → IsSome (process s heir)
    → put.pids ≡ with_number p before.pids → put.room ≡ before.room → then ≡ record put { pids = cond awaited (rechecking parent s.order put.pids) put.pids } → after ≡ record then { pids = cond told (rechecking heir s.order then.pids) then.pids }
    → (awaited ≡ false → is_in parent s.order ≡ false → (up : Process) → me.parent ≢ p → process s me.parent ≡ Some up → awaits up (made_zombie w me) ≡ false) → (told ≡ false → AreQuiet p (changed p (made_zombie w) s.processes)) → IsListed (leave_children_and_die s p heir w) after readers
unfolding with_numbers
listed_left {readers = readers} s p heir w parent me before put then after awaited told i h found its up there is same second third deaf silent =
    let ns = cond awaited (rechecking parent s.order put.pids) put.pids in
    let l = record put { pids = ns } in
    let m = record l { pids = cond told (rechecking heir s.order ns) ns } in
    let whole : after ≡ m = third ∙ ap (λ (v : PidSetView). record v { pids = cond told (rechecking heir s.order v.pids) v.pids }) second in
    let mine : is_in p put.pids ≡ true = ap (is_in p) is ∙ in_with p p before.pids ∙ or_left _ _ (eq-eqb p p refl) in
    let first = listed_more s before put (p ∷ []) h (rw found refl, tt) is same in
    let all = listed_where s l m heir told (listed_where s put l parent awaited first up refl refl) there refl refl in
    subst (λ v. IsListed (leave_children_and_die s p heir w) v readers) (sym whole) (listed_departed s p heir w me m i all found (stays_where s heir p ns told (stays_where s parent p put.pids awaited mine))
    (elim awaited as (λ b. awaited ≡ b → ((up : Process) → me.parent ≢ p → process s me.parent ≡ Some up → awaits up (made_zombie w me) ≡ false) ⊎ IsAsked s me.parent m.pids) [
      | true ↦ λ e. inr (subst (λ q. IsAsked s q m.pids) its (asked_still s heir parent ns told (asked_where s parent put.pids awaited e)))
      | false ↦ λ e. elim (is_in parent s.order) as (λ b. is_in parent s.order ≡ b → ((up : Process) → me.parent ≢ p → process s me.parent ≡ Some up → awaits up (made_zombie w me) ≡ false) ⊎ IsAsked s me.parent m.pids) [
        | true ↦ λ placed. inr (subst (λ q. IsAsked s q m.pids) its (in_append parent m.pids s.order ∙ or_right _ _ placed))
        | false ↦ λ out. inl (deaf e out)
      ] refl
    ] refl)
    (elim told as (λ b. told ≡ b → AreQuiet p (changed p (made_zombie w) s.processes) ⊎ IsAsked s heir m.pids) [ true ↦ λ e. inr (asked_where s heir ns told e) | false ↦ λ e. inl (silent e) ] refl))
