use Rattle.std.proofs.Common.{◌≡◌, ◌∙◌, ap₂, arith, subst, sym}
use Rattle.counting.specs.Tallies.{is_earlier}
use Rattle.merging.specs.SpotLists.{AreRuns, spots_of}
use Rattle.merging.proofs.SpotLemmas.{run_longer, run_shorter, runs_alike, runs_apart}
use Rattle.merging.proofs.spot_list.+is_earlier.Goals as goal

pub returns-then-run-other : goal.returns-then-run-other
returns-then-run-other t c =
    let b = c.in-Some-Some in
    let runs = b.ensures.cases.0 in
    let others = b.ensures'.cases.0 in
    sym
    (ap₂ (λ rs os. is_earlier (spots_of rs) (spots_of os)) runs others
    ∙ runs_apart b.run'.now b.other.now b.rest.now b.other_rest.now (subst AreRuns runs c.requires.runs) (subst AreRuns others c.requires.others) c.if-run-other.true)

pub returns-then-run-other-2 : goal.returns-then-run-other-2
returns-then-run-other-2 t c =
    let b = c.in-Some-Some in
    let runs = b.ensures.cases.0 in
    c.begins_below.ensures
    ∙ sym
    (ap₂ (λ rs os. is_earlier (spots_of rs) (spots_of os)) runs b.ensures'.cases.0
    ∙ run_shorter b.run'.now b.other.now b.rest.now b.other_rest.now (subst AreRuns runs c.requires.runs) c.if-run-other.false c.if-run-other-2.true)

pub returns-then-run-other-3 : goal.returns-then-run-other-3
returns-then-run-other-3 t c =
    let b = c.in-Some-Some in
    let others = b.ensures'.cases.0 in
    c.begins_above.ensures
    ∙ sym
    (ap₂ (λ rs os. is_earlier (spots_of rs) (spots_of os)) b.ensures.cases.0 others
    ∙ run_longer b.run'.now b.other.now b.rest.now b.other_rest.now (subst AreRuns others c.requires.others) c.if-run-other.false c.if-run-other-3.true)

pub returns : goal.returns
returns t c =
    let b = c.in-Some-Some in
    let as_many : b.run'.now.times ≡ b.other.now.times = omega (arith, c.if-run-other-2.false, c.if-run-other-3.false) in
    c.is_earlier.ensures
    ∙ sym
    (ap₂ (λ rs os. is_earlier (spots_of rs) (spots_of os)) b.ensures.cases.0 b.ensures'.cases.0
    ∙ runs_alike b.run'.now b.other.now b.rest.now b.other_rest.now c.if-run-other.false as_many)
