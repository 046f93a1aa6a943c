use Rattle.std.proofs.Common.{[], append-nil}
use Rattle.std.proofs.Math.ListN.{drop_of_length-le}
use Rattle.commands.proofs.options.plain_options.Goals as goal

pub returns : goal.returns
returns c =
    let all = c.loop-word.invariant [] (rw (drop_of_length-le c.args.options.now c.loop-word-test.false) tt) in
    rw append-nil at all
