-- The processes that a change of the state can make runnable.
use Rattle.std.proofs.Common.{◌≡◌, ◌≢◌, ℕ, true, false, not, refl, ap, sym, ◌∙◌, subst, List, [], ◌∷◌, ◌++◌, map, filter, Option, Some, None, arith}
use Rattle.std.specs.Option.{IfSome, IsSome}
use Rattle.std.proofs.lemmas.Bool.{eqb-true, ne_eqb, not-true, and_parts, or_parts}
use Rattle.posix.specs.declared.process.PendingSignal.{PendingSignal}
use Rattle.posix.specs.Common.{Process, Cpu, IsRising, lookup, at, changed, inserted, removed, is_child, children_in, reparented, adopted, State, process, is_in, change, lose_place, go_last, without, Covers, can_act, signalled, noticed, with_alarm, rung, ring_at, set_cpu}
use Rattle.posix.proofs.MemberLemmas.{in_append, others_stay, apart_first, apart_rest}
use Rattle.posix.proofs.TableLemmas.{Above, above_filter, lookup_above, changed_absent, remove_none, pid_looked, pid_reparented}
use Rattle.posix.proofs.MapLemmas.{at_keeps, lookup_back, children_map, children_others}
use Rattle.posix.proofs.RegularLemmas.{lookup_inserted, lookup_kept, lookup_removed, other_back, children_inserted}
use Rattle.posix.proofs.WalkLemmas.{children_removed}
use Rattle.posix.proofs.SeeLemmas.{seen, sees, Alike, reparented_alike, can_act_alike}

-- a process that the change of state didn't touch: it lost no place, is in the same call, session and life, and can't
-- act where it couldn't
pub record Untouched (s t : State) (q : ℕ) (new : Process) : Type 0 where
  pub placed : is_in q t.order ≡ false → is_in q s.order ≡ false
  pub old : Process
  pub found : lookup q s.processes ≡ Some old
  pub blocked : new.blocked ≡ old.blocked
  pub session : new.session ≡ old.session
  pub life : new.life ≡ old.life
  pub acts : can_act t new ≡ true → can_act s old ≡ true

-- one whose record is as it was, but for its parent
pub stands_alike : (s t : State) (q : ℕ) (old new : Process) → (is_in q t.order ≡ false → is_in q s.order ≡ false) → lookup q s.processes ≡ Some old → Alike old new → (can_act t new ≡ true → can_act s old ≡ true) → Untouched s t q new
stands_alike s t q old new placed found alike acts = record {
  placed = placed;
  old = old;
  found = found;
  blocked = ap (λ r. r.blocked) alike.is;
  session = ap (λ r. r.session) alike.is;
  life = ap (λ r. r.life) alike.is;
  acts = acts;
}

-- and one whose record is as it was
pub stands : (s t : State) (q : ℕ) (r : Process) → (is_in q t.order ≡ false → is_in q s.order ≡ false) → lookup q s.processes ≡ Some r → (can_act t r ≡ true → can_act s r ≡ true) → Untouched s t q r
stands s t q r placed found acts = stands_alike s t q r r placed found (record { parent = r.parent; is = refl }) acts

-- all but those of the list are untouched
abbrev pub Touches : State → State → List ℕ → Type 0
Touches s t ps = (q : ℕ) (r : Process) → lookup q t.processes ≡ Some r → is_in q ps ≡ false → Untouched s t q r

-- who sees the same of its children can act as before, whatever its parent is now
acts_alike : (s t : State) (q : ℕ) (old new : Process) → lookup q s.processes ≡ Some old → Alike old new → t.consoles ≡ s.consoles → sees q t.processes ≡ sees q s.processes → can_act t new ≡ true → can_act s old ≡ true
acts_alike s t q old new found alike consoles same acts =
    sym (can_act_alike s t old new alike consoles (subst (λ n. sees n t.processes ≡ sees n s.processes) (sym (pid_looked q s.processes old found)) same)) ∙ acts

-- and who is as it was, too
acts_same : (s t : State) (q : ℕ) (r : Process) → lookup q s.processes ≡ Some r → t.consoles ≡ s.consoles → sees q t.processes ≡ sees q s.processes → can_act t r ≡ true → can_act s r ≡ true
acts_same s t q r found consoles same acts = acts_alike s t q r r found (record { parent = r.parent; is = refl }) consoles same acts

-- a list still covers a state after a change if it keeps its existing processes and gets the touched ones
pub goes_on : (s t : State) (before after touched : List ℕ) → Covers s before → Touches s t touched
    → ((p : ℕ) → IsSome (process t p) → is_in p touched ≡ true → is_in p after ≡ true)
    → ((p : ℕ) → IsSome (process t p) → is_in p before ≡ true → is_in p after ≡ true) → Covers t after
goes_on s t before after touched covers touches gets keeps p r found w =
    let there : IsSome (process t p) = rw found refl in
    elim (is_in p touched) as (λ b. is_in p touched ≡ b → is_in p after ≡ true) [
      | true ↦ λ e. gets p there e
      | false ↦ λ e.
          let u = touches p r found e in
          let named : r.pid ≡ p = pid_looked p t.processes r found in
          let was : u.old.pid ≡ p = pid_looked p s.processes u.old u.found in
          let awake = and_parts (not (is_in r.pid t.order)) _ w in
          let before : is_in u.old.pid s.order ≡ false = ap (λ n. is_in n s.order) was ∙ u.placed (ap (λ n. is_in n t.order) (sym named) ∙ not-true _ awake.0) in
          let acted = u.acts awake.1 in
          keeps p there (covers p u.old u.found (rw (before, acted) refl))
    ] refl

-- ---- one change after another

-- one that changes neither processes nor order nor consoles
pub touches_none : (s t : State) → t.processes ≡ s.processes → t.order ≡ s.order → t.consoles ≡ s.consoles → Touches s t []
touches_none s t same order consoles q r e out =
    let found = ap (lookup q) (sym same) ∙ e in
    stands s t q r (λ h. sym (ap (is_in q) order) ∙ h) found (acts_same s t q r found consoles (ap (sees q) same))

pub touches_both : (s t u : State) (ps qs : List ℕ) → Touches s t ps → Touches t u qs → Touches s u (qs ++ ps)
touches_both s t u ps qs a b q r e out =
    let apart = or_parts _ _ (sym (in_append q qs ps) ∙ out) in
    let y = b q r e apart.0 in
    let x = a q y.old y.found apart.1 in
    record {
      placed = λ h. x.placed (y.placed h);
      old = x.old;
      found = x.found;
      blocked = y.blocked ∙ x.blocked;
      session = y.session ∙ x.session;
      life = y.life ∙ x.life;
      acts = λ h. x.acts (y.acts h);
    }

-- ---- a record changed

-- a change that a parent doesn't see
pub record Unseen (f : Process → Process) : Type 0 where
  pub pid : (r : Process) → (f r).pid ≡ r.pid
  pub parent : (r : Process) → (f r).parent ≡ r.parent
  pub group : (r : Process) → (f r).group ≡ r.group
  pub life : (r : Process) → (f r).life ≡ r.life
  pub news : (r : Process) → (f r).news ≡ r.news

-- a plain instruction is one
pub unseen_set_cpu : (c : Cpu) → Unseen (set_cpu c)
unfolding set_cpu
unseen_set_cpu c = record { pid = λ r. refl; parent = λ r. refl; group = λ r. refl; life = λ r. refl; news = λ r. refl }

-- so is a signal that is generated
pub unseen_signalled : (signal : PendingSignal) → Unseen (signalled signal)
unfolding signalled
unseen_signalled signal = record { pid = λ r. refl; parent = λ r. refl; group = λ r. refl; life = λ r. refl; news = λ r. refl }

-- and an alarm that rings
pub unseen_ring : (now : ℕ) → Unseen (ring_at now)
unfolding rung with_alarm signalled
unseen_ring now = record { pid = λ r. grind arith; parent = λ r. grind arith; group = λ r. grind arith; life = λ r. grind arith; news = λ r. grind arith }

-- or is set
pub unseen_with_alarm : (due : Option ℕ) → Unseen (with_alarm due)
unfolding with_alarm
unseen_with_alarm due = record { pid = λ r. refl; parent = λ r. refl; group = λ r. refl; life = λ r. refl; news = λ r. refl }

-- and a notice of an end
pub unseen_noticed : (signal : PendingSignal) → Unseen (noticed signal)
unfolding noticed signalled
unseen_noticed signal = record { pid = λ r. grind arith; parent = λ r. grind arith; group = λ r. grind arith; life = λ r. grind arith; news = λ r. grind arith }

seen_same : (f : Process → Process) → Unseen f → (r : Process) → seen (f r) ≡ seen r
seen_same f u r = rw (u.pid r, u.group r, u.life r, u.news r) refl

all_seen : (g : Process → Process) → ((r : Process) → seen (g r) ≡ seen r) → (rs : List Process) → map seen (map g rs) ≡ map seen rs
all_seen g k [] = refl
all_seen g k (r ∷ rs) = rw (k r) (ap (λ l. seen r ∷ l) (all_seen g k rs))

-- after one that its parent doesn't see everybody sees the same children
pub sees_unseen : (p q : ℕ) (f : Process → Process) → Unseen f → (rs : List Process) → sees q (changed p f rs) ≡ sees q rs
unfolding sees changed
sees_unseen p q f u rs = ap (map seen) (children_map (at p f) (at_keeps (λ r. r.parent) p f u.parent) q rs) ∙ all_seen (at p f) (at_keeps seen p f (seen_same f u)) (children_in q rs)

-- and it touches p alone
pub touches_unseen : (s : State) (p : ℕ) (f : Process → Process) → Unseen f → Touches s (change s p f) (p ∷ [])
touches_unseen s p f u q r e out =
    let found = other_back p q f u.pid (apart_first q p [] out) s.processes r e in
    stands s _ q r (λ h. h) found (acts_same s (change s p f) q r found refl (sees_unseen p q f u s.processes))

-- who isn't a child isn't found among the children
not_child : (p q : ℕ) (rs : List Process) → IsRising rs → IfSome (lookup p rs) (λ r. r.parent ≢ q) → lookup p (children_in q rs) ≡ None
unfolding lookup children_in IsRising
not_child p q [] up h = refl
not_child p q (r ∷ rs) up h = grind (arith, ne_eqb r.parent q, λ (i : r.pid ≡ p). lookup_above p (filter (is_child q) rs) (above_filter p (is_child q) rs (subst (λ n. Above n rs) i up.0)), not_child p q rs up.1, eqb-true r.pid p)

-- one that its parent sees touches p and its parent
pub touches_shown : (s : State) (p : ℕ) (f : Process → Process) → ((r : Process) → (f r).pid ≡ r.pid) → ((r : Process) → (f r).parent ≡ r.parent) → IsRising s.processes
    → (me : Process) → lookup p s.processes ≡ Some me → Touches s (change s p f) (p ∷ me.parent ∷ [])
unfolding sees changed
touches_shown s p f pid parent up me here q r e out =
    let rest = apart_rest q p (me.parent ∷ []) out in
    let found = other_back p q f pid (apart_first q p (me.parent ∷ []) out) s.processes r e in
    let same = ap (map seen) (children_map (at p f) (at_keeps (λ q. q.parent) p f parent) q s.processes ∙ changed_absent p f (children_in q s.processes) (not_child p q s.processes up (rw here (λ same. apart_first q me.parent [] rest (sym same))))) in
    stands s _ q r (λ h. h) found (acts_same s (change s p f) q r found refl same)

-- ---- places

-- who loses its place is touched
pub touches_lost : (s : State) (p : ℕ) → Touches s (lose_place s p) (p ∷ [])
touches_lost s p q r e out = stands s _ q r (λ h. sym (others_stay p q s.order (apart_first q p [] out)) ∙ h) e (acts_same s _ q r e refl refl)

-- who gets a place is not, nor is anyone else
pub touches_placed : (s : State) (p : ℕ) → Touches s (record s { order = s.order ++ p ∷ [] }) []
touches_placed s p q r e out = stands s _ q r (λ h. (or_parts _ _ (sym (in_append q s.order (p ∷ [])) ∙ h)).0) e (acts_same s _ q r e refl refl)

-- nor where one goes last
pub touches_last : (s : State) (p : ℕ) → Touches s (go_last s p) []
touches_last s p q r e out =
    stands s _ q r (λ h. let apart = or_parts _ _ (sym (in_append q (without p s.order) (p ∷ [])) ∙ h) in sym (others_stay p q s.order (apart_first q p [] apart.1)) ∙ apart.0) e
    (acts_same s (go_last s p) q r e refl refl)

-- ---- births and removals

-- a birth touches the child and its parent
pub touches_born : (s : State) (new : Process) (last births : ℕ) → Touches s (record s { processes = inserted new s.processes; last_pid = last; births = births }) (new.pid ∷ new.parent ∷ [])
unfolding sees
touches_born s new last births q r e out =
    let rest = apart_rest q new.pid (new.parent ∷ []) out in
    let found = sym (lookup_inserted new q s.processes (apart_first q new.pid (new.parent ∷ []) out)) ∙ e in
    let same = ap (map seen) (children_inserted new q s.processes (λ same. apart_first q new.parent [] rest (sym same))) in
    stands s _ q r (λ h. h) found (acts_same s _ q r found refl same)

-- a record that goes, if it is there, touches its parent
pub touches_removed : (s : State) (c parent last dropped : ℕ) → IsRising s.processes → IfSome (lookup c s.processes) (λ r. r.parent ≡ parent)
    → Touches s (record s { processes = removed c s.processes; last_pid = last; dropped = dropped }) (parent ∷ [])
unfolding sees children_in removed
touches_removed s c parent last dropped up its q r e out =
    let other : q ≢ c = λ same. let no = sym (lookup_removed c s.processes) ∙ ap (λ n. lookup n (removed c s.processes)) (sym same) ∙ e in absurd (cc) in
    let found = sym (lookup_kept c q s.processes other) ∙ e in
    let same = ap (map seen) (children_removed q c s.processes ∙ remove_none c (filter (is_child q) s.processes) (not_child c q s.processes up (another (lookup c s.processes) its (apart_first q parent [] out)))) in
    stands s _ q r (λ h. h) found (acts_same s _ q r found refl same)
  where
    another : (o : Option Process) → IfSome o (λ r. r.parent ≡ parent) → q ≢ parent → IfSome o (λ r. r.parent ≢ q)
    another None h ne = tt
    another (Some r) h ne = λ same. ne (sym same ∙ h)

-- ---- children that get another parent

-- an adoption touches both parents, and none of the children
pub touches_adopted : (s : State) (p t : ℕ) → Touches s (record s { processes = adopted p t s.processes }) (p ∷ t ∷ [])
unfolding sees adopted
touches_adopted s p t q r e out =
    let b = lookup_back (reparented p t) (pid_reparented p t) q s.processes r e in
    let same = ap (map seen) (children_others p t q (apart_first q p (t ∷ []) out) (apart_first q t [] (apart_rest q p (t ∷ []) out)) s.processes) in
    let alike : Alike b.what r = subst (Alike b.what) (sym b.is) (reparented_alike p t b.what) in
    stands_alike s _ q b.what r (λ h. h) b.found alike (acts_alike s _ q b.what r b.found alike refl same)
