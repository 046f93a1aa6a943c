use Rattle.std.proofs.Common.{◌≡◌, ◌+◌, ◌∙◌, ap, sym, drop, get_or, set, pos, rules, to_z, of_z, w64}
use Rattle.posix.specs.Common.{stored}
use Rattle.umach.proofs.ByteLemmas.{put_one, put_all}
use Rattle.umach.proofs.memory.UserMem.store.Goals as goal

pub loop-place-preserved : goal.loop-place-preserved
loop-place-preserved c =
    let a = c.args.address in
    let i = c.loop-place.place in
    let bytes = c.args.bytes.now in
    let same : to_z w64 (of_z w64 c.from-in-loop-place.result) ≡ c.from-in-loop-place.result = search rules in
    let put : c.set.new.self ≡ set c.loop-place.self (a + i) (pos (get_or bytes i 0)) = cc in
    ap (stored (a + (i + 1)) (drop (i + 1) bytes)) put ∙ sym (put_one a i bytes c.loop-place.self c.loop-place-test.true) ∙ c.loop-place.invariant

pub returns : goal.returns
returns c = sym (put_all _ _ _ _ c.loop-place-test.false) ∙ c.loop-place.invariant
