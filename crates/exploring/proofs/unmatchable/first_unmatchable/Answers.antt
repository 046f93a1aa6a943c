use Rattle.std.proofs.Common.{Bor, List, ℕ, ◌<◌, ◌≤◌, arith, length, sym, take}
use Rattle.std.proofs.lemmas.List.{take_all}
use Rattle.std.proofs.lemmas.List.Elements.{All-map, All-more, All-same}
use Rattle.counting.specs.Samples.{CanBeShown}
use Rattle.exploring.proofs.ServingLemmas.{unmatchable_here}
use Rattle.exploring.proofs.unmatchable.first_unmatchable.Goals as goal

pub loop-text-preserved : goal.loop-text-preserved
loop-text-preserved c =
    let within : c.loop-text.text-index < length c.args.texts.now = omega (arith, c.loop-text-test.true) in
    All-more (λ (t : Bor (List ℕ)). CanBeShown t.now) c.args.texts.now c.loop-text.text-index _ within c.loop-text.invariant (c.in_ok-can_be_shown.ensures.shown c.if-not-branch.false)

pub returns-clause-none : goal.returns-clause-none
returns-clause-none c = λ none.
    let texts = c.args.texts.now in
    let i = c.loop-text.text-index in
    let P : Bor (List ℕ) → Type 0 = λ t. CanBeShown t.now in
    let end : length texts ≤ i = omega (arith, c.loop-text-test.false) in
    All-map CanBeShown (λ (t : Bor (List ℕ)). t.now) texts (All-same P texts (take i texts) (sym (take_all i texts end)) c.loop-text.invariant)

pub returns-then-not-branch-clause-some : goal.returns-then-not-branch-clause-some
returns-then-not-branch-clause-some c =
    let within : c.loop-text.text-index < length c.args.texts.now = omega (arith, c.loop-text-test.true) in
    unmatchable_here c.args.texts.now c.loop-text.text-index _ within (c.in_ok-can_be_shown.ensures.without c.if-not-branch.true)
