use Rattle.std.proofs.Common.{◌≡◌, ◌+◌, ◌-◌, ◌*◌, ◌∙◌, ap, arith, length, take, drop, length-take, length-drop, ◌++◌}
use Rattle.std.proofs.lemmas.Slice.{take-put_mid}
use Rattle.posix.specs.Common.{hex}
use Rattle.trace.proofs.HexLemmas.{on_ok, same_digits}
use Rattle.trace.proofs.print.put_hex.Goals as goal

pub returns-clause-text : goal.returns-clause-text
returns-clause-text c =
    let a = c.args.at in
    let bytes = c.args.bytes.now in
    let m = a + 2 * length bytes - a in
    let room : length (take m (drop a c.args.room.now)) ≡ 2 * length bytes = omega (arith, length-take m (drop a c.args.room.now), length-drop a c.args.room.now, c.requires) in
    let digits : c.encode_to_slice.new.output ≡ hex bytes = on_ok c.encode_to_slice.result (c.encode_to_slice.ensures.fits.1 room) c.encode_to_slice.ensures.written ∙ same_digits bytes in
    take-put_mid a m c.args.room.now c.encode_to_slice.new.output (a + 2 * length bytes) (omega (arith, room, c.encode_to_slice.auto.output)) (omega (arith, c.requires))
    ∙ ap (λ ds. take a c.args.room.now ++ ds) digits
