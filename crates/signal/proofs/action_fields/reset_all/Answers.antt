use Rattle.std.proofs.Common.{◌≡◌, ℕ, zero, suc, arith, List, [], ◌∷◌, get_or, refl}
use Rattle.std.proofs.lemmas.List.Edits.{map_over_more}
use Rattle.signal.specs.declared.action_fields.Disposition.{Disposition}
use Rattle.signal.specs.declared.action_fields.Disposition.TheVariants as disposition
use Rattle.signal.specs.ActionFields.{disposition_on_exec}
use Rattle.signal.proofs.action_fields.reset_all.Goals as goal

-- reading again, with the item that was read as the default, gives the same item
read_again : (ds : List Disposition) (i : ℕ) (d : Disposition) → get_or ds i d ≡ get_or ds i (get_or ds i d)
read_again [] i d = refl
read_again (x ∷ ds) zero d = refl
read_again (x ∷ ds) (suc i) d = read_again ds i d

pub loop-disposition-preserved : goal.loop-disposition-preserved
loop-disposition-preserved c =
    let l = c.loop-disposition in
    let d = get_or l.dispositions l.disposition-index disposition.Default in
    rw (c.on_exec.ensures) (map_over_more disposition_on_exec c.args.dispositions.now l.dispositions l.disposition-index d (omega arith) l.invariant (read_again l.dispositions l.disposition-index disposition.Default))
