use Rattle.std.proofs.Common.{◌∙◌, ap, ℕ, List}
use Rattle.std.specs.Prelude.{replicate}
use Rattle.signal.specs.declared.action_fields.Disposition.{Disposition}
use Rattle.signal.specs.ActionFields.{actions_of, blank_actions}
use Rattle.signal.proofs.FieldLemmas.{actions_left}
use Rattle.signal.proofs.action_fields.Actions.on_exec.Goals as goal

pub returns-clause-actions : goal.returns-clause-actions
unfolding blank_actions
returns-clause-actions c =
    let a = c.args.self.now in
    ap (λ (n : ℕ). actions_of (record a { dispositions = c.reset_all.new.dispositions; masks = blank_actions.masks; flags = replicate 64 (record { 0 = n }) })) (c.empty-flags.ensures tt)
    ∙ ap (λ (ds : List Disposition). actions_of (record a { dispositions = ds; masks = blank_actions.masks; flags = blank_actions.flags })) c.reset_all.ensures
    ∙ actions_left a c.requires
