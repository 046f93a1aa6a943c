use Rattle.std.proofs.Common.{ℕ, List, ◌++◌, ◌∙◌, ap, get_or, sym}
use Rattle.std.specs.Prelude.{replicate}
use Rattle.merging.specs.declared.spot_list.SpotRun.{SpotRun}
use Rattle.merging.proofs.SpotLemmas.{spots_taken}
use Rattle.merging.proofs.spot_list.SpotList.to_vec.Goals as goal

pub loop-run-preserved : goal.loop-run-preserved
loop-run-preserved c =
    let runs = c.deref-run-items.result.now in
    let none : SpotRun = record { spot = 0; times = 0 } in
    let r = get_or runs c.loop-run.run-index none in
    c.in_ok-add_run.ensures
    ∙ ap (λ (ps : List ℕ). ps ++ replicate r.times r.spot) c.loop-run.invariant
    ∙ sym (spots_taken runs c.loop-run.run-index none c.loop-run-test.true)
