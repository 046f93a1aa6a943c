use Rattle.std.proofs.Common.{◌≡◌, ◌-◌, ◌∙◌, ◌++◌, ap, arith, ℤ, List, length, take, get_or, set, pos, rules, to_z, of_z, w64}
use Rattle.std.specs.Prelude.{map, replicate}
use Rattle.std.proofs.lemmas.List.{take_all}
use Rattle.posix.specs.Common.{low_byte}
use Rattle.umach.proofs.ByteLemmas.{fill_one}
use Rattle.umach.proofs.memory.low_bytes.Goals as goal

pub loop-place-preserved : goal.loop-place-preserved
loop-place-preserved c =
    let words = c.args.words.now in
    let i = c.loop-place.place in
    let kept : to_z w64 (of_z w64 (get_or words i (pos 0))) ≡ get_or words i (pos 0) = search rules in
    ap (set c.loop-place.bytes i) (c.low_byte.ensures ∙ ap low_byte kept) ∙ fill_one low_byte i c.loop-place.bytes words c.loop-place-test.true c.requires c.loop-place.invariant

pub returns : goal.returns
returns c =
    let words = c.args.words.now in
    let all : c.loop-place.place ≡ length words = omega arith in
    c.loop-place.invariant ∙ ap (λ n. map low_byte (take n words) ++ replicate (16 - n) 0) all ∙ ap (λ (ws : List ℤ). map low_byte ws ++ replicate (16 - length words) 0) (take_all (length words) words (omega arith))
