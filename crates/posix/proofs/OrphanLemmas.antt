-- Which process groups an end can orphan: those that a process, or one of its children, keeps from being orphaned.
use Rattle.std.proofs.Common.{◌≡◌, ◌≢◌, ℕ, ◌==◌, ◌≤◌, ◌<◌, true, false, cond, not, ◌&&◌, ◌||◌, refl, ap, sym, ◌∙◌, arith, subst, List, [], ◌∷◌, filter, Option, Some, None, inl, inr}
use Rattle.std.specs.Option.{IfSome, option_map_or}
use Rattle.std.specs.List.{list_any}
use Rattle.std.proofs.lemmas.Bool.{eqb-true, eqb-false, eq-eqb, cond_both, and_parts, or_parts, not-true, not-false, false_from_ne_true, cases_eq}
use Rattle.posix.specs.declared.process.PendingSignal.{PendingSignal}
use Rattle.posix.specs.Common.{Process, is_zombie, IsRising, lookup, at, pids, changed, is_child, children_in, reparented, adopted, is_member, members_in, first_pid, State, process, is_in, change, signalled, child_signal, ignores_children, noticed, is_outside, is_anchor, is_orphaned, loses_anchor, made_zombie, leave_children_and_die, is_dropping, drop_child, notice_of_end, status_of, zombies_of, tell_of_all, IsRegular}
use Rattle.posix.proofs.MemberLemmas.{apart_first, apart_rest}
use Rattle.posix.proofs.TableLemmas.{pid_looked, pid_reparented, reparented_keeps, rising_filter}
use Rattle.posix.proofs.MapLemmas.{at_keeps, lookup_on}
use Rattle.posix.proofs.WalkLemmas.{in_filter, any_looked, some_looked, any_filter, pid_found, none_passes_before}
use Rattle.posix.proofs.RegularLemmas.{keeps_at, keeps_noticed, lookup_other, lookup_kept}
use Rattle.posix.proofs.HupAndContLemmas.{lasting, IsLasting, lasting_one}

-- ---- what an end leaves of another process

lasting_noticed : (signal : PendingSignal) (r : Process) → lasting (noticed signal r) ≡ lasting r
unfolding noticed signalled
lasting_noticed signal r = cond_both (ignores_children r.signals) r (signalled signal r) (λ q. lasting q ≡ lasting r) (λ e. refl) (λ e. refl)

-- a notice of the end of another leaves what lasts
pub lasting_notice : (s : State) (parent child status q : ℕ) (r : Process) → process s q ≡ Some r → q ≢ child → IsLasting (process (notice_of_end s parent child status) q) r
unfolding notice_of_end changed
lasting_notice s parent child status q r e ne =
    let signal = child_signal child status in
    let told = change s parent (noticed signal) in
    let new = at parent (noticed signal) r in
    let there : process told q ≡ Some new = lookup_on (at parent (noticed signal)) (keeps_at parent (noticed signal) (keeps_noticed {now = 0} signal)).pid q s.processes r e in
    let found : process (notice_of_end s parent child status) q ≡ Some new = elim (is_dropping parent s.processes) as (λ b. process (cond {A = State} b (drop_child told child) told) q ≡ Some new) [
      | true ↦ lookup_kept child q told.processes ne ∙ there
      | false ↦ there
    ] in
    lasting_one _ new r found (at_keeps lasting parent (noticed signal) (lasting_noticed signal) r)

-- so do notices of several ends
pub lasting_told : (s : State) (heir : ℕ) (zs : List Process) (q : ℕ) (r : Process) → process s q ≡ Some r → is_in q (pids zs) ≡ false → IsLasting (process (tell_of_all s heir zs) q) r
unfolding tell_of_all
lasting_told s heir [] q r e out = lasting_one _ r r e refl
lasting_told s heir (z ∷ zs) q r e out =
    let one = notice_of_end s heir z.pid (status_of z.life) in
    let i = lasting_notice s heir z.pid (status_of z.life) q r e (apart_first q z.pid (pids zs) out) in
    let k = lasting_told one heir zs q i.what i.found (apart_rest q z.pid (pids zs) out) in
    lasting_one _ k.what r k.found (k.same ∙ i.same)

-- a process that is not a zombie child of p is not among those whose termination is reported to the new parent
pub not_told : (s : State) → IsRising s.processes → (p q : ℕ) (r : Process) → process s q ≡ Some r → (is_zombie r.life ≡ true → r.parent ≢ p) → is_in q (pids (zombies_of p s.processes)) ≡ false
unfolding zombies_of children_in
not_told s up p q r e other = false_from_ne_true _ (λ k.
    let kids = filter (is_child p) s.processes in
    let z = pid_found q (filter (λ r. is_zombie r.life) kids) k in
    let a = in_filter (λ r. is_zombie r.life) kids (rising_filter (is_child p) s.processes up) q z.0 z.1 in
    let b = in_filter (is_child p) s.processes up q z.0 a.found in
    let same : z.0 ≡ r = let both = sym b.found ∙ e in cc in
    other (ap (λ (r : Process). is_zombie r.life) (sym same) ∙ a.passes) (ap (λ (r : Process). r.parent) (sym same) ∙ eqb-true _ _ b.passes))

-- the state after the process is a zombie, and its new parent is notified of its zombie children
abbrev pub after_departure : State → ℕ → ℕ → ℕ → State
after_departure s p heir status = tell_of_all (leave_children_and_die s p heir status) heir (zombies_of p s.processes)

-- r is there, with its group and its session, and with its parent unless that was p
pub record Remains (p : ℕ) (o : Option Process) (r : Process) : Type 0 where
  pub what : Process
  pub found : o ≡ Some what
  pub group : what.group ≡ r.group
  pub session : what.session ≡ r.session
  pub zombie : is_zombie what.life ≡ is_zombie r.life
  pub parent : r.parent ≢ p → what.parent ≡ r.parent

-- every other process that is not a zombie child of p remains, too
pub remains : (s : State) → IsRegular s → (p heir status q : ℕ) (r : Process) → process s q ≡ Some r → q ≢ p → (is_zombie r.life ≡ true → r.parent ≢ p) → Remains p (process (after_departure s p heir status) q) r
unfolding adopted made_zombie
remains s i p heir status q r e ne other =
    let given = reparented p heir r in
    let gone : process (leave_children_and_die s p heir status) q ≡ Some given =
    lookup_on (reparented p heir) (pid_reparented p heir) q (changed p (made_zombie status) s.processes) r (lookup_other p q (made_zombie status) (λ r. refl) ne s.processes r e) in
    let k = lasting_told (leave_children_and_die s p heir status) heir (zombies_of p s.processes) q given gone (not_told s i.rising p q r e other) in
    record {
      what = k.what;
      found = k.found;
      group = k.group ∙ reparented_keeps (λ r. r.group) p heir (λ r. refl) r;
      session = k.session ∙ reparented_keeps (λ r. r.session) p heir (λ r. refl) r;
      zombie = k.zombie ∙ reparented_keeps (λ r. is_zombie r.life) p heir (λ r. refl) r;
      parent = λ away. k.parent ∙ cond_both (r.parent == p) (record r { parent = heir }) r (λ q. q.parent ≡ r.parent) (λ e. absurd (away (eqb-true _ _ e))) (λ e. refl);
    }

-- ---- anchors

-- r lives, and has a parent in another group of its session
record HasOutside (rs : List Process) (r : Process) : Type 0 where
  parent : Process
  living : is_zombie r.life ≡ false
  found : lookup r.parent rs ≡ Some parent
  outside : is_outside r parent ≡ true

-- an anchor does
outside_of : (rs : List Process) (r : Process) → is_anchor rs r ≡ true → HasOutside rs r
unfolding is_anchor
outside_of rs r e =
    let k = and_parts (not (is_zombie r.life)) _ e in
    elim (lookup r.parent rs) as (λ o. lookup r.parent rs ≡ o → option_map_or (is_outside r) o false ≡ true → HasOutside rs r) [
      | None ↦ λ found t. absurd (cc)
      | Some parent ↦ λ found t. record { parent = parent; living = not-true _ k.0; found = found; outside = t }
    ] refl k.1

-- and who does is an anchor
anchor_is : (rs : List Process) (r : Process) → HasOutside rs r → is_anchor rs r ≡ true
unfolding is_anchor
anchor_is rs r h = rw (h.living, h.found) h.outside

-- a group with an anchor isn't orphaned
pub anchored : (rs : List Process) (p : ℕ) (r : Process) → lookup p rs ≡ Some r → is_anchor rs r ≡ true → is_orphaned r.group rs ≡ false
unfolding is_orphaned members_in
anchored rs p r e k =
    let here : (is_member r.group r && is_anchor rs r) ≡ true = rw (eq-eqb r.group r.group refl) k in
    ap not (any_filter (is_member r.group) (is_anchor rs) rs ∙ any_looked (λ q. is_member r.group q && is_anchor rs q) p rs r e here)

-- one that isn't orphaned has a member that is an anchor
anchor_of : (g : ℕ) (rs : List Process) → IsRising rs → is_orphaned g rs ≡ false → (r : Process) × (lookup r.pid rs ≡ Some r) × (r.group ≡ g) × (is_anchor rs r ≡ true)
unfolding is_orphaned members_in
anchor_of g rs up e =
    let some : list_any (is_anchor rs) (filter (is_member g) rs) ≡ true = not-false _ e in
    let i = some_looked (λ r. is_member g r && is_anchor rs r) rs up (sym (any_filter (is_member g) (is_anchor rs) rs) ∙ some) in
    let k = and_parts (is_member g i.0) _ i.2 in
    (i.0, i.1, eqb-true _ _ k.0, k.1)

-- ---- an end

-- a parent is no zombie among the children of p, since it has a child, or is process 1
no_dead_child : (s : State) → IsRegular s → (p : ℕ) → 1 ≤ p → (r : Process) → process s r.pid ≡ Some r → (parent : Process) → process s r.parent ≡ Some parent → is_zombie parent.life ≡ true → parent.parent ≢ p
unfolding children_in
no_dead_child s i p least r e parent there dead = elim (cases_eq r.parent 1) [
  | inl one ↦ λ same.
      let first : i.first.what ≡ parent = let both = sym i.first.found ∙ ap (λ n. lookup n s.processes) (sym one) ∙ there in cc in
      let none = ap (λ (r : Process). r.parent) first in
      omega (arith, least, same, none, i.first.parent)
  | inr other ↦ λ same.
      let childless : filter (is_child r.parent) s.processes ≡ [] = i.childless r.parent parent other there dead in
      absurd (none_passes_before (is_child r.parent) s.processes i.rising r.pid r e (eq-eqb r.parent r.parent refl) (subst (λ rs. IfSome (first_pid rs) (λ m. r.pid < m)) (sym childless) tt))
]

-- an anchor that is neither p nor its child stays one
still_anchor : (s : State) → IsRegular s → (p heir status : ℕ) → 1 ≤ p → (r : Process) → process s r.pid ≡ Some r → is_anchor s.processes r ≡ true → r.pid ≢ p → r.parent ≢ p
    → is_orphaned r.group (after_departure s p heir status).processes ≡ false
still_anchor s i p heir status least r e anchor apart away =
    let now = after_departure s p heir status in
    let h = outside_of s.processes r anchor in
    let mine = remains s i p heir status r.pid r e apart (λ z. away) in
    let up = remains s i p heir status r.parent h.parent h.found away (no_dead_child s i p least r e h.parent h.found) in
    let found : lookup mine.what.parent now.processes ≡ Some up.what = ap (λ n. lookup n now.processes) (mine.parent away) ∙ up.found in
    let outside : is_outside mine.what up.what ≡ true = let a = up.session in let b = up.group in let c = mine.session in let d = mine.group in let k = h.outside in cc in
    let still : is_anchor now.processes mine.what ≡ true = anchor_is now.processes mine.what (record { parent = up.what; living = mine.zombie ∙ h.living; found = found; outside = outside }) in
    subst (λ g. is_orphaned g now.processes ≡ false) mine.group (anchored now.processes r.pid mine.what mine.found still)

-- A group that an end orphans had an anchor in the process that ends, or in a child of it.
pub orphans_by_anchor : (s : State) → IsRegular s → (p heir status : ℕ) (me : Process) → process s p ≡ Some me → (g : ℕ) → is_orphaned g s.processes ≡ false → is_orphaned g (after_departure s p heir status).processes ≡ true
    → loses_anchor p s.processes g ≡ true
unfolding loses_anchor
orphans_by_anchor s i p heir status me there g before after =
    let a = anchor_of g s.processes i.rising before in
    let bounds = i.bounded p me there in
    let named = pid_looked p s.processes me there in
    let least : 1 ≤ p = let l = bounds.least in omega (arith, l, named) in
    elim (a.0.pid == p || a.0.parent == p) as (λ b. (a.0.pid == p || a.0.parent == p) ≡ b → loses_anchor p s.processes g ≡ true) [
      | true ↦ λ near.
          let here : ((a.0.pid == p || a.0.parent == p) && (is_anchor s.processes a.0 && a.0.group == g)) ≡ true = rw (near, a.3, eq-eqb a.0.group g a.2) refl in
          any_looked (λ r. (r.pid == p || r.parent == p) && (is_anchor s.processes r && r.group == g)) a.0.pid s.processes a.0 a.1 here
      | false ↦ λ far.
          let k = or_parts _ _ far in
          let still = still_anchor s i p heir status least a.0 a.1 a.3 (eqb-false _ _ k.0) (eqb-false _ _ k.1) in
          let both = sym (subst (λ g. is_orphaned g (after_departure s p heir status).processes ≡ false) a.2 still) ∙ after in
          absurd (cc)
    ] refl

-- A group with such an anchor isn't orphaned.
pub anchor_lost : (p : ℕ) (rs : List Process) → IsRising rs → (g : ℕ) → loses_anchor p rs g ≡ true → is_orphaned g rs ≡ false
unfolding loses_anchor
anchor_lost p rs up g e =
    let i = some_looked (λ r. (r.pid == p || r.parent == p) && (is_anchor rs r && r.group == g)) rs up e in
    let k = and_parts (is_anchor rs i.0) _ (and_parts (i.0.pid == p || i.0.parent == p) _ i.2).1 in
    subst (λ g. is_orphaned g rs ≡ false) (eqb-true i.0.group g k.1) (anchored rs i.0.pid i.0 i.1 k.0)
