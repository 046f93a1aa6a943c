use Rattle.std.proofs.Common.{◌≡◌, ◌-◌, ◌∙◌, ℕ, List, [], ◌∷◌, length, get_or, ap, sym, arith, rules}
use Rattle.posix.specs.Common.{initial_action, default_actions}
use Rattle.signal.specs.declared.action_fields.Actions.{Actions}
use Rattle.signal.specs.ActionFields.{actions_of, actions_or_blank}
use Rattle.signal.specs.SignalTables.{TablesView}
use Rattle.signal.proofs.FieldLemmas.{blank_defaults, same_read}
use Rattle.signal.proofs.tables.LazyTables.action.Goals as goal

initial : (ts : List Actions) (i : ℕ) → length ts ≡ 0 → initial_action ≡ get_or (actions_of (actions_or_blank ts)) i initial_action
unfolding default_actions
initial [] i e = sym (ap (λ l. get_or l i initial_action) blank_defaults ∙ same_read 64 i initial_action)
initial (t ∷ ts) i e = absurd (omega (arith, e))

pub returns-then-is_empty : goal.returns-then-is_empty
returns-then-is_empty c =
    let none : length c.self.inside.actions.items ≡ 0 = search rules in
    c.default_action.ensures ∙ initial c.self.inside.actions.items (c.args.sig - 1) none ∙ ap (λ (v : TablesView). get_or v.actions (c.args.sig - 1) initial_action) c.self.view_is
