use Rattle.std.proofs.Common.{◌≡◌, ◌∙◌, ℤ, ap, rules, set, to_z, of_z, w64}
use Rattle.signal.specs.ActionFields.{actions_of}
use Rattle.signal.proofs.FieldLemmas.{action_written}
use Rattle.signal.proofs.action_fields.Actions.set.Goals as goal

pub returns-clause-action : goal.returns-clause-action
returns-clause-action c =
    let a = c.args.self.now in
    let i = c.row_of-row.result in
    let x = c.args.action in
    let d = c.parts-disposition.result.0 in
    let address : to_z w64 (of_z w64 c.parts-disposition.result.1) ≡ c.parts-disposition.result.1 = search rules in
    ap (λ (t : ℤ). actions_of (record { dispositions = set a.dispositions i d; addresses = set a.addresses i t; masks = set a.masks i x.mask; flags = set a.flags i x.flags })) address
    ∙ action_written a i d c.parts-disposition.result.1 x c.requires c.row_of-row.ensures.within c.parts-disposition.ensures
    ∙ ap (λ n. set (actions_of a) n x) c.row_of-row.ensures.value
