use Rattle.std.proofs.Common.{◌≡◌, ◌∙◌, sym, rules, w64, to_z, of_z}
use Rattle.warning.proofs.WayLemmas.{never_leaves_at}
use Rattle.warning.proofs.ways.Ways.run_off.Goals as goal

pub returns-in-OffTheEnd : goal.returns-in-OffTheEnd
returns-in-OffTheEnd c =
    let kept : to_z w64 (of_z w64 c.args.address) ≡ c.args.address = search rules in
    λ yes place is. never_leaves_at c.args.program.now.instructions c.args.self.now.ways.items c.args.address c.in-Some.place place
    (c.are_known.ensures yes) (sym kept ∙ c.in-Some.ensures.place) (sym c.at.ensures ∙ c.in-OffTheEnd.is) is
