use Rattle.std.proofs.Common.{◌≡◌, ◌∙◌, List, [], ◌∷◌, length, map, refl, ap, arith, rules}
use Rattle.posix.specs.declared.process.Action.{Action}
use Rattle.posix.specs.Common.{action_on_exec}
use Rattle.signal.specs.declared.action_fields.Actions.{Actions}
use Rattle.signal.specs.ActionFields.{actions_of, blank_actions, actions_or_blank}
use Rattle.signal.specs.SignalTables.{TablesView, view_of, carried_or_blank, queue_in}
use Rattle.signal.proofs.tables.LazyTables.on_exec.Goals as goal

-- the default actions stay so after exec
blank_stays : (kept : List Actions) → length kept ≡ 0 → actions_of (actions_or_blank kept) ≡ map action_on_exec (actions_of (actions_or_blank kept))
unfolding actions_of blank_actions
blank_stays [] e = refl
blank_stays (a ∷ kept) e = absurd (omega (arith, e))

pub returns-else-not-is_empty : goal.returns-else-not-is_empty
returns-else-not-is_empty c =
    let t = c.self.inside in
    let none : length t.actions.items ≡ 0 = search rules in
    let carried = carried_or_blank t.carried.items in
    ap (view_of t.actions.items t.carried.items t.queue) c.clear.ensures.items
    ∙ ap (λ (actions : List Action). record { actions = actions; carried = carried; queue = queue_in t.queue; frames = [] }) (blank_stays t.actions.items none)
    ∙ ap (λ (v : TablesView). record v { actions = map action_on_exec v.actions; frames = [] }) c.self.view_is
