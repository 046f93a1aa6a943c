use Rattle.std.proofs.Common.{◌-◌, ◌<◌, ◌≤◌, ap, arith, length, refl, ◌∙◌, ◌++◌, ◌∷◌, []}
use Rattle.std.specs.Prelude.{vec_len}
use Rattle.merging.specs.SpotLists.{spots_of}
use Rattle.merging.proofs.SpotLemmas.{runs_grow, runs_push, spots_grow, times_within}
use Rattle.merging.proofs.spot_list.grow_last.Goals as goal

pub overflow_add-last : goal.overflow_add-last
overflow_add-last c =
    let rs = c.args.runs.now.items in
    let some = c.in-Some.ensures.variant.0 refl in
    let there : vec_len c.args.runs.now - 1 < length rs = omega (arith, some, c.args.runs.now.ok.0) in
    let within : c.in-Some.last.now.times ≤ length (spots_of rs) = times_within rs (vec_len c.args.runs.now - 1) c.in-Some.last.now there c.in-Some.ensures.value in
    omega (arith, within, c.requires.few)

pub returns-in-Some-clause-spots : goal.returns-in-Some-clause-spots
returns-in-Some-clause-spots c =
    let rs = c.args.runs.now.items in
    let some = c.in-Some.ensures.variant.0 refl in
    spots_grow rs (vec_len c.args.runs.now - 1) c.in-Some.last.now (omega (arith, some, c.args.runs.now.ok.0)) c.in-Some.ensures.value ∙ ap (λ q. spots_of rs ++ q ∷ []) c.if-last_mut-spot.true

pub returns-in-Some-clause-runs : goal.returns-in-Some-clause-runs
returns-in-Some-clause-runs c = runs_grow c.args.runs.now.items (vec_len c.args.runs.now - 1) c.in-Some.last.now c.in-Some.ensures.value c.requires.runs

pub returns-in_default-clause-other : goal.returns-in_default-clause-other
returns-in_default-clause-other c = λ no.
    let some = c.in-Some.ensures.variant.0 refl in
    runs_push c.args.runs.now.items (vec_len c.args.runs.now - 1) c.in-Some.last.now c.args.spot (omega (arith, some, c.args.runs.now.ok.0)) c.in-Some.ensures.value c.if-last_mut-spot.false c.requires.runs
