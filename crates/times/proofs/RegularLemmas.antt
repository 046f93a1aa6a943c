-- Shows that what holds of every state that the machine reaches doesn't depend on the time.
use Rattle.std.proofs.Common.{◌≡◌, ℕ, ◌+◌, ◌<◌, true, List, [], ◌∷◌, Option, Some, None, option_map, refl, sym, ap, ◌∙◌, arith, subst}
use Rattle.std.specs.List.{AllByRecursion}
use Rattle.posix.specs.Processes.{Process, is_zombie}
use Rattle.posix.specs.Tables.{IsRising, lookup}
use Rattle.posix.specs.States.{State}
use Rattle.posix.specs.Consoles.{Console}
use Rattle.posix.specs.Regular.{IsBounded, HasFirst, IsPlaced, IsAhead, AreGrouped, IsRegular}
use Rattle.posix.specs.Settle.{can_act, is_fresh, IsSettled}
use Rattle.times.specs.Times.{later, all_later, state_later}
use Rattle.times.proofs.TableLemmas.{lookup_later}
use Rattle.times.proofs.SignalLemmas.{children_later}
use Rattle.times.proofs.SettleLemmas.{can_act_later, is_fresh_later}

-- ---- records

-- The process with ID p, of which t is the process d ticks later.
pub record Earlier (d p : ℕ) (rs : List Process) (t : Process) : Type 0 where
  pub what : Process
  pub found : lookup p rs ≡ Some what
  pub same : t ≡ later d what

pub found_earlier : (d p : ℕ) (rs : List Process) (t : Process) → lookup p (all_later d rs) ≡ Some t → Earlier d p rs t
found_earlier d p rs t e = go (lookup p rs) refl (sym (lookup_later d p rs) ∙ e) where
  go : (o : Option Process) → lookup p rs ≡ o → option_map (later d) o ≡ Some t → Earlier d p rs t
  go None found is = absurd (cc)
  go (Some r) found is = record { what = r; found = found; same = cc }

pub found_later : (d p : ℕ) (rs : List Process) (r : Process) → lookup p rs ≡ Some r → lookup p (all_later d rs) ≡ Some (later d r)
found_later d p rs r e = lookup_later d p rs ∙ ap (option_map (later d)) e

above_later : (d n : ℕ) (rs : List Process) → AllByRecursion (λ (q : Process). n < q.pid) rs → AllByRecursion (λ (q : Process). n < q.pid) (all_later d rs)
above_later d n [] h = h
above_later d n (r ∷ rs) h = (h.0, above_later d n rs h.1)

pub is_rising_later : (d : ℕ) (rs : List Process) → IsRising rs → IsRising (all_later d rs)
unfolding IsRising
is_rising_later d [] h = h
is_rising_later d (r ∷ rs) h = (above_later d r.pid rs h.0, is_rising_later d rs h.1)

pub is_bounded_later : (d pidmax : ℕ) (r : Process) → IsBounded pidmax r → IsBounded pidmax (later d r)
is_bounded_later d pidmax r h = record { least = h.least; pid = h.pid; group = h.group; session = h.session; group_least = h.group_least; session_least = h.session_least }

pub has_first_later : (d : ℕ) (rs : List Process) → HasFirst rs → HasFirst (all_later d rs)
has_first_later d rs h = record { what = later d h.what; found = found_later d 1 rs h.what h.found; parent = h.parent }

pub is_placed_later : (d : ℕ) (rs : List Process) (p : ℕ) → IsPlaced rs p → IsPlaced (all_later d rs) p
is_placed_later d rs p h = record { what = later d h.what; found = found_later d p rs h.what h.found; living = h.living }

pub is_ahead_later : (d now : ℕ) (alarm : Option ℕ) → IsAhead now alarm → IsAhead (now + d) (option_map (λ due. due + d) alarm)
is_ahead_later d now None h = h
is_ahead_later d now (Some due) h = (omega (arith, h.0), omega (arith, h.1))

pub are_grouped_later : (d : ℕ) (rs : List Process) → AreGrouped rs → AreGrouped (all_later d rs)
are_grouped_later d rs h = record {
  one = λ p q r t e f g.
      let a = found_earlier d p rs r e in
      let b = found_earlier d q rs t f in
      ap (λ (x : Process). x.session) a.same ∙ h.one p q a.what b.what a.found b.found (ap (λ (x : Process). x.group) (sym a.same) ∙ g ∙ ap (λ (x : Process). x.group) b.same) ∙ ap (λ (x : Process). x.session) (sym b.same);
  own = λ p q r t e f g.
      let a = found_earlier d p rs r e in
      let b = found_earlier d q rs t f in
      ap (λ (x : Process). x.session) b.same ∙ h.own p q a.what b.what a.found b.found (ap (λ (x : Process). x.group) (sym b.same) ∙ g) ∙ ap (λ (x : Process). x.session) (sym a.same);
}

-- ---- states

pub is_regular_later : (d : ℕ) (s : State) → IsRegular s → IsRegular (state_later d s)
is_regular_later d s h = record {
  rising = is_rising_later d s.processes h.rising;
  bounded = λ p r e.
      let a = found_earlier d p s.processes r e in
      subst (IsBounded s.world.pidmax) (sym a.same) (is_bounded_later d s.world.pidmax a.what (h.bounded p a.what a.found));
  first = has_first_later d s.processes h.first;
  placed = λ p e. is_placed_later d s.processes p (h.placed p e);
  distinct = h.distinct;
  childless = λ p r other e gone.
      let a = found_earlier d p s.processes r e in
      children_later d p s.processes ∙ ap (all_later d) (h.childless p a.what other a.found (ap (λ (x : Process). is_zombie x.life) (sym a.same) ∙ gone));
  alarms = λ p r e.
      let a = found_earlier d p s.processes r e in
      subst (λ (x : Process). IsAhead (s.ticks + d) x.alarm) (sym a.same) (is_ahead_later d s.ticks a.what.alarm (h.alarms p a.what a.found));
  grouped = are_grouped_later d s.processes h.grouped;
  consoles = h.consoles;
}

all_fresh_later : (d : ℕ) (rs : List Process) (cs : List Console) → AllByRecursion (λ (c : Console). is_fresh rs c ≡ true) cs → AllByRecursion (λ (c : Console). is_fresh (all_later d rs) c ≡ true) cs
all_fresh_later d rs [] h = h
all_fresh_later d rs (c ∷ cs) h = (is_fresh_later d rs c ∙ h.0, all_fresh_later d rs cs h.1)

pub is_settled_later : (d : ℕ) (s : State) → IsSettled s → IsSettled (state_later d s)
is_settled_later d s h = record {
  awake = λ p r e acts.
      let a = found_earlier d p s.processes r e in
      h.awake p a.what a.found (sym (can_act_later d s a.what) ∙ ap (can_act (state_later d s)) (sym a.same) ∙ acts);
  fresh = all_fresh_later d s.processes s.consoles h.fresh;
}
