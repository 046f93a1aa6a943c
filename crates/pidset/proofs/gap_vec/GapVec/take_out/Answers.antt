use Rattle.std.proofs.Common.{◌∙◌, sym, subst}
use Rattle.std.specs.Option.{IsSome}
use Rattle.pidset.proofs.ItemLemmas.{find_point, others_at, others_all}
use Rattle.pidset.proofs.gap_vec.GapVec.take_out.Goals as goal

pub returns-in-Ok-clause-items : goal.returns-in-Ok-clause-items
returns-in-Ok-clause-items g c =
    let at = rw c.as_slice.ensures at c.in-Ok.ensures.found in
    c.remove.ensures.items ∙ sym (others_at g.T.Numbered.number c.args.self.now.items c.requires (g.K.Numbered.number c.args.key.now) c.in-Ok.at at)

pub returns-in_default-clause-items : goal.returns-in_default-clause-items
returns-in_default-clause-items g c =
    let f = g.T.Numbered.number in
    let n = g.K.Numbered.number c.args.key.now in
    let point = rw c.as_slice.ensures at c.in_default.ensures.absent in
    sym (others_all f c.args.self.now.items n (find_point f c.args.self.now.items c.requires n c.in_default.field-0 point))

pub returns-in_default-clause-left : goal.returns-in_default-clause-left
returns-in_default-clause-left g c = λ there.
    let point = rw c.as_slice.ensures at c.in_default.ensures.absent in
    let no = subst IsSome (find_point g.T.Numbered.number c.args.self.now.items c.requires (g.K.Numbered.number c.args.key.now) c.in_default.field-0 point) there in
    absurd (cc)
