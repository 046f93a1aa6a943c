-- Who is given a place by an event, and how the order moves.
use Rattle.std.proofs.Common.{◌≡◌, ◌≢◌, ℕ, Bool, true, false, not, ◌&&◌, ◌||◌, is_some, Some, refl, ap, sym, ◌∙◌, subst, List, [], ◌∷◌, ◌++◌, map, append-nil, append_assoc, Option, ◌==◌, slice_get, inl, inr}
use Rattle.std.specs.Option.{IsSomeAnd}
use Rattle.std.proofs.lemmas.Bool.{ne_eqb, or_from, or_cases, or_right}
use Rattle.posix.specs.declared.event.Event.{Event}
use Rattle.posix.specs.declared.entry.Entry.{Entry}
use Rattle.posix.specs.declared.process.Blocked.TheVariants as blocked
use Rattle.posix.specs.Common.{Process, is_running, chosen, waits_to_read, attempt_again, State, process, is_in, without, has_place, current, IsRegular, IsDistinct, give_places, clear_foregrounds, settle, can_go_on, can_act, IsStep, happens}
use Rattle.posix.proofs.MemberLemmas.{in_append, in_first, in_last, in_rest, still_out}
use Rattle.posix.proofs.OrderLemmas.{first_in}
use Rattle.posix.proofs.ActLemmas.{Turned}
use Rattle.posix.proofs.WakeLemmas.{act_has_place}
use Rattle.posix.proofs.SeeLemmas.{can_act_order, block_read}
use Rattle.laws.specs.Stamps.{Move, Lose, GoLast, Place, Leads}
use Rattle.laws.proofs.TurnLemmas.{FirstTurned, turned_first}
use Rattle.laws.proofs.WokenLemmas.{by_event, given_places, order_settled, distinct_given, all_wake}
use Rattle.laws.proofs.RegularStays.{happens_regular}

-- ---- who is given a place can act

-- when p, which is in the run queue, is current, no process enters
none_by_turn : (p q : ℕ) (old new : List ℕ) → is_in p old ≡ true → Turned p old new → is_in q old ≡ false → is_in q new ≡ false
none_by_turn p q old new e (inl same) out = ap (is_in q) same ∙ out
none_by_turn p q old new e (inr (inl less)) out = ap (is_in q) less ∙ still_out p q old out
none_by_turn p q old new e (inr (inr last)) out =
    let apart : (p == q) ≡ false = ne_eqb p q (λ k. let no = sym e ∙ ap (λ n. is_in n old) k ∙ out in absurd (cc)) in
    ap (is_in q) last ∙ in_last q p (without p old) ∙ or_from _ _ (still_out p q old out) apart

-- before processes enter the run queue, an event adds none
none_before : (granted : Bool) (s : State) (event : Event) (q : ℕ) → is_in q s.order ≡ false → is_in q (happens granted s event).state.order ≡ false
none_before granted s event q out = elim (turned_first granted s event) [
  | inl same ↦ ap (is_in q) same ∙ out
  | inr first ↦ none_by_turn first.0 q s.order _ (first_in first.0 s.order first.1) first.2 out
]

-- the record of q is there and can act
abbrev CanAct : State → ℕ → Type 0
CanAct s q = IsSomeAnd (process s q) (λ r. can_act s r ≡ true)

-- to settle gives a place to who can act
acts_settled : (s : State) → IsRegular s → (q : ℕ) → is_in q s.order ≡ false → is_in q (settle s).order ≡ true → CanAct (settle s) q
unfolding settle give_places clear_foregrounds
acts_settled s i q out there =
    elim (or_cases _ _ (sym (in_append q s.order (given_places s)) ∙ there)) [
      | inl before ↦ let no = sym out ∙ before in absurd (cc)
      | inr new ↦
          let w = all_wake s i.rising q new in
          rw w.found (can_act_order (clear_foregrounds s) (s.order ++ given_places s) w.what ∙ w.acts)
    ]

-- who is given a place by an event can act after it
pub given_can_act : (old new : State) (event : Event) (entries : List Entry) → IsStep old event entries new → IsRegular old
    → (q : ℕ) → has_place old q ≡ false → has_place new q ≡ true → IsSomeAnd (process new q) (λ r. can_act new r ≡ true)
given_can_act old new event entries h i q out =
    by_event (λ o. is_in q o.state.order ≡ true → CanAct o.state q) old new event entries h (λ t there. let no = sym out ∙ there in absurd (cc))
    (λ t there. acts_settled (happens h.granted old event).state (happens_regular h.granted old event i t) q (none_before h.granted old event q out) there)

-- ---- readers

-- who runs, in a read that needn't wait, can act
reader_acts : (s : State) (r : Process) → is_running r.life ≡ true → r.blocked ≡ Some blocked.Read → waits_to_read s.consoles r ≡ false → can_act s r ≡ true
unfolding can_act attempt_again
reader_acts s r runs reads w =
    let goes : can_go_on s r r.blocked ≡ true = ap (can_go_on s r) reads ∙ ap not (block_read s r ∙ w) in
    let both : (is_running r.life && (can_go_on s r r.blocked || is_some (chosen r.life r.signals))) ≡ true = rw (runs, goes) refl in
    or_right _ _ both

-- and has a place after an event
pub reader_has_place : (old new : State) (event : Event) (entries : List Entry) → IsStep old event entries new → old.halted ≡ false
    → (p : ℕ) (r : Process) → process new p ≡ Some r → is_running r.life ≡ true → r.blocked ≡ Some blocked.Read → waits_to_read new.consoles r ≡ false → has_place new p ≡ true
reader_has_place old new event entries h awake p r found runs reads w = act_has_place old new event entries h awake p r found (reader_acts new r runs reads w)

-- ---- how the order moves

-- all of a list are given places one after another
leads_placed : (turn : Option ℕ) (order ps : List ℕ) → IsDistinct ps → ((q : ℕ) → is_in q ps ≡ true → is_in q order ≡ false) → Leads turn order (map Place ps) (order ++ ps)
unfolding IsDistinct
leads_placed turn order [] d out = append-nil order
leads_placed turn order (p ∷ ps) d out = (
  out p (in_first p ps),
  subst (Leads turn (order ++ p ∷ []) (map Place ps)) (append_assoc order (p ∷ []) ps)
      (leads_placed turn (order ++ p ∷ []) ps d.1 (λ q e.
      let apart : p ≢ q = λ k. let no = sym e ∙ ap (λ n. is_in n ps) (sym k) ∙ d.0 in absurd (cc) in
      in_last q p order ∙ or_from _ _ (out q (in_rest q p ps apart ∙ e)) (ne_eqb p q apart))),
)

-- to settle gives places
leads_settled : (turn : Option ℕ) (s : State) → IsRegular s → Leads turn s.order (map Place (given_places s)) (settle s).order
leads_settled turn s i =
    subst (Leads turn s.order (map Place (given_places s))) (sym (order_settled s))
    (leads_placed turn s.order (given_places s) (distinct_given s i.rising) (λ q e. (all_wake s i.rising q e).out))

-- before that the first may turn
leads_turned : (old mid new : List ℕ) (moves : List Move) → FirstTurned old mid → Leads (slice_get old 0) mid moves new → (all : List Move) × Leads (slice_get old 0) old all new
leads_turned old mid new moves (inl same) h = (moves, subst (λ o. Leads (slice_get old 0) o moves new) same h)
leads_turned old mid new moves (inr (p, first, inl same)) h = (moves, subst (λ o. Leads (slice_get old 0) o moves new) same h)
leads_turned old mid new moves (inr (p, first, inr (inl less))) h = (Lose p ∷ moves, (first, subst (λ o. Leads (slice_get old 0) o moves new) less h))
leads_turned old mid new moves (inr (p, first, inr (inr last))) h = (GoLast p ∷ moves, (first, subst (λ o. Leads (slice_get old 0) o moves new) last h))

-- moves lead from the order before an event to that after it
pub order_moves : (old new : State) (event : Event) (entries : List Entry) → IsStep old event entries new → IsRegular old → (moves : List Move) × Leads (current old) old.order moves new.order
order_moves old new event entries h i =
    by_event (λ o. (moves : List Move) × Leads (current old) old.order moves o.state.order) old new event entries h (λ t. ([], refl))
    (λ t. leads_turned old.order _ _ _ (turned_first h.granted old event) (leads_settled (current old) (happens h.granted old event).state (happens_regular h.granted old event i t)))
