-- Where nothing is left to settle, to settle does nothing; nor does it after a change of one process that others see nothing of.
use Rattle.std.proofs.Common.{◌≡◌, ℕ, true, false, not, ◌&&◌, ap, sym, ◌∙◌, [], ◌∷◌, ◌++◌, append-nil, Some}
use Rattle.std.proofs.lemmas.Bool.{not-true, and_parts, false_from_ne_true}
use Rattle.posix.specs.Common.{Process, IsRising, pids, State, process, is_in, change, give_places, settle, IsSettled, NoWakeIsLost, AreFresh, Covers, wakes, can_act}
use Rattle.posix.proofs.MemberLemmas.{in_none, in_one}
use Rattle.posix.proofs.FreshLemmas.{cleared_none, fresh_changed}
use Rattle.posix.proofs.SettleLemmas.{none_passes}
use Rattle.posix.proofs.TableLemmas.{pid_looked, rising_changed}
use Rattle.posix.proofs.WalkLemmas.{all_looked}
use Rattle.posix.proofs.TouchLemmas.{Unseen, touches_unseen, goes_on}

-- if each runnable process is in the run queue, no process has to enter it
pub covers_none : (s : State) → NoWakeIsLost s → Covers s []
covers_none s placed p r e w =
    let named : r.pid ≡ p = pid_looked p s.processes r e in
    let awake = and_parts (not (is_in r.pid s.order)) _ w in
    let no = sym (not-true _ awake.0) ∙ ap (λ n. is_in n s.order) named ∙ placed p r e awake.1 in absurd (cc)

-- if no process has to enter the run queue, none does
give_none : (s : State) → IsRising s.processes → Covers s [] → give_places s ≡ s
unfolding give_places
give_none s up covers =
    ap (λ rs. record s { order = s.order ++ pids rs }) (none_passes (wakes s) s.processes (all_looked _ s.processes up (λ p r e. false_from_ne_true _ (λ w. in_none p (covers p r e w)))))
    ∙ ap (λ o. record s { order = o }) (append-nil s.order)

-- and where each foreground process group has a member, to settle does nothing
pub settle_none : (s : State) → IsRising s.processes → AreFresh s → Covers s [] → settle s ≡ s
unfolding settle
settle_none s up fresh covers = ap give_places (cleared_none s fresh) ∙ give_none s up covers

-- nor does it after a change of who has a place, of which its parent sees nothing and which keeps its session
pub settle_unseen : (s : State) (p : ℕ) (f : Process → Process) → Unseen f → ((r : Process) → (f r).session ≡ r.session) → IsRising s.processes → IsSettled s → is_in p s.order ≡ true
    → settle (change s p f) ≡ change s p f
settle_unseen s p f u session up settled first =
    let t = change s p f in
    let covers = goes_on s t [] (p ∷ []) (p ∷ []) (covers_none s settled.awake) (touches_unseen s p f u) (λ q there e. e) (λ q there e. absurd (in_none q e)) in
    settle_none t (rising_changed p f u.pid s.processes up) (fresh_changed p f u.group session s.processes s.consoles settled.fresh) (λ q r e w. absurd (rests q r e w (in_one q p (covers q r e w))))
  where
    rests : (q : ℕ) (r : Process) → process (change s p f) q ≡ Some r → wakes (change s p f) r ≡ true → q ≡ p → ⊥
    rests q r e w same =
        let named : r.pid ≡ p = pid_looked q (change s p f).processes r e ∙ same in
        let no : wakes (change s p f) r ≡ false = ap (λ n. not (is_in n s.order) && can_act (change s p f) r) named ∙ ap (λ b. not b && can_act (change s p f) r) first in
        let both = sym no ∙ w in cc
