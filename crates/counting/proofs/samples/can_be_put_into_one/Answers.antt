use Rattle.std.proofs.Common.{Bor, List, ℕ, ◌<◌, ◌≤◌, arith, length, map, sym, take}
use Rattle.std.proofs.lemmas.List.{take_all}
use Rattle.std.proofs.lemmas.List.Elements.{All-map, All-more, All-same}
use Rattle.counting.specs.Samples.{IsWithoutIn}
use Rattle.counting.proofs.samples.can_be_put_into_one.Goals as goal

pub loop-words-preserved : goal.loop-words-preserved
loop-words-preserved c =
    let within : c.loop-words.words-index < length c.args.samples.now = omega (arith, c.loop-words-test.true) in
    All-more (λ (s : Bor (List (Bor (List ℕ)))). IsWithoutIn c.args.pattern.now (map (λ (w : Bor (List ℕ)). w.now) s.now)) c.args.samples.now c.loop-words.words-index _ within c.loop-words.invariant
    (c.in_ok-can_be_put_into.ensures.without c.if-branch.false)

pub returns-clause-without : goal.returns-clause-without
returns-clause-without c = λ no.
    let samples = c.args.samples.now in
    let i = c.loop-words.words-index in
    let P : Bor (List (Bor (List ℕ))) → Type 0 = λ s. IsWithoutIn c.args.pattern.now (map (λ (w : Bor (List ℕ)). w.now) s.now) in
    let end : length samples ≤ i = omega (arith, c.loop-words-test.false) in
    All-map (IsWithoutIn c.args.pattern.now) (λ (s : Bor (List (Bor (List ℕ)))). map (λ (w : Bor (List ℕ)). w.now) s.now) samples (All-same P samples (take i samples) (sym (take_all i samples end)) c.loop-words.invariant)
