use Rattle.std.proofs.Common.{◌∙◌, ap, nat_cmp}
use Rattle.std.specs.BTreeMap.{get}
use Rattle.text.specs.Names.{defined}
use Rattle.text.proofs.names.Definitions.number_of.Goals as goal

pub returns : goal.returns
returns c =
    c.copied.ensures ∙ c.get.ensures.value ∙ ap (get nat_cmp c.self.inside.numbers) c.key.ensures.value ∙ c.self.invariant c.args.name.now c.key.ensures.name
    ∙ ap (defined c.args.name.now) c.self.view_is
