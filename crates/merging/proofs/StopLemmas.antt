-- Why a search stops, and for which schedules.
use Rattle.std.proofs.Common.{◌≡◌, ◌∙◌, ℕ, ◌<◌, ◌≤◌, List, length, refl, ap, sym, subst}
use Rattle.std.specs.Prelude.{Result, Ok, Err, IfErr, IsErrAnd}
use Rattle.counting.specs.Tallies.{TallyView, both, no_schedules}
use Rattle.merging.specs.declared.node.Node.{Node}
use Rattle.merging.specs.declared.search.Search.{Search}
use Rattle.merging.specs.declared.search.Stop.{Stop}
use Rattle.merging.specs.declared.search.Stop.TheVariants as stop
use Rattle.merging.specs.Merging.{AreNodes, IsStop, Property, nodes_tally}
use Rattle.merging.proofs.TallyLemmas.{and_none, both_regrouped}

-- A reason to stop for some schedules is a reason to stop for more.
pub stop_among : (s : Search) (whole wider rest : Property → TallyView) (why : Stop) → ((has : Property) → wider has ≡ both (whole has) (rest has)) → IsStop s whole why → IsStop s wider why
stop_among s whole wider rest stop.Memory is h = tt
stop_among s whole wider rest (stop.States most place) is h = (
  h.0,
  h.1,
  h.2,
  record {
    stand = h.3.stand;
    more = h.3.more;
    some = λ has. (
      both (h.3.some has).0 (rest has),
      is has ∙ ap (λ t. both t (rest has)) (h.3.some has).1 ∙ both_regrouped (nodes_tally has s place h.2) (h.3.some has).0 (rest has),
    );
  },
)

-- It is a reason to stop for equal tallies.
pub stop_same : (s : Search) (whole wider : Property → TallyView) (why : Stop) → ((has : Property) → wider has ≡ whole has) → IsStop s whole why → IsStop s wider why
stop_same s whole wider why is = stop_among s whole wider (λ has. no_schedules) why (λ has. is has ∙ sym (and_none (whole has)))

-- An error that is passed on stays a reason to stop.
pub stops_too : {A : Type 0} (s : Search) (whole wider : Property → TallyView) (r : Result A Stop) (e : Stop) → IsErrAnd r (λ why. why ≡ e) → ((has : Property) → wider has ≡ whole has) → IsStop s whole e
    → IfErr r (IsStop s wider)
stops_too s whole wider (Ok a) e h is why = absurd h
stops_too s whole wider (Err f) e h is why = subst (IsStop s wider) (sym h) (stop_same s whole wider e is why)

-- Any search may stop if memory runs out.
pub stopped_by_memory : {A : Type 0} (s : Search) (whole : Property → TallyView) (r : Result A Stop) → IsErrAnd r (λ why. why ≡ stop.Memory) → IfErr r (IsStop s whole)
stopped_by_memory s whole (Ok a) h = absurd h
stopped_by_memory s whole (Err why) h = subst (IsStop s whole) (sym h) tt

-- A search stops if too many nodes are before one event.
pub too_many : (s : Search) (place : ℕ) (whole others : Property → TallyView) (nodes : List Node) → place ≤ s.family.now.upto → s.family.now.states < length nodes → AreNodes s place 0 nodes
    → ((has : Property) → whole has ≡ both (nodes_tally has s place nodes) (others has)) → IsStop s whole (stop.States s.family.now.states place)
too_many s place whole others nodes within more stand is = (refl, within, nodes, record { stand = stand; more = more; some = λ has. (others has, is has) })
