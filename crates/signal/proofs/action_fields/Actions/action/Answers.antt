use Rattle.std.proofs.Common.{◌≡◌, ◌∙◌, ap, rules, get_or, pos, to_z, of_z, w64}
use Rattle.posix.specs.Common.{initial_action, no_flags}
use Rattle.signal.specs.declared.action_fields.Disposition.TheVariants as disposition
use Rattle.signal.specs.ActionFields.{actions_of, handler_from}
use Rattle.signal.proofs.FieldLemmas.{action_read}
use Rattle.signal.proofs.action_fields.Actions.action.Goals as goal

pub returns : goal.returns
returns c =
    let a = c.args.self.now in
    let i = c.row_of-row.result in
    let address : to_z w64 (of_z w64 (get_or a.addresses i (pos 0))) ≡ get_or a.addresses i (pos 0) = search rules in
    action_read a i disposition.Default (pos 0) c.index-self-row.result no_flags c.handler.result c.requires c.row_of-row.ensures.within
    (c.handler.ensures ∙ ap (handler_from (get_or a.dispositions i disposition.Default)) address)
    ∙ ap (λ n. get_or (actions_of a) n initial_action) c.row_of-row.ensures.value
