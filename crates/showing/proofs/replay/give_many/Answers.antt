use Rattle.std.proofs.Common.{arith}
use Rattle.showing.proofs.PastLemmas.{given_then}
use Rattle.showing.proofs.replay.give_many.Goals as goal

pub returns-in_err-give-clause-given : goal.returns-in_err-give-clause-given
returns-in_err-give-clause-given g c = given_then c.args.event c.args.replay.now.kernel c.loop.replay.kernel c.give.new.replay.kernel c.loop.invariant.0 c.give.ensures.given

pub loop-preserved : goal.loop-preserved
loop-preserved g c =
    let one = c.in_ok-give.ensures.at in
    let at = c.loop.invariant.1 in
    (given_then c.args.event c.args.replay.now.kernel c.loop.replay.kernel c.give.new.replay.kernel c.loop.invariant.0 c.give.ensures.given, omega (arith, one, at))
