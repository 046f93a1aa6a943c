use Rattle.std.proofs.Common.{◌≡◌}
use Rattle.showing.specs.Pasts.{AreGiven}
use Rattle.showing.proofs.replay.give_many.Given as goal

abbrev pub invariant-loop : goal.invariant-loop
invariant-loop g l = AreGiven l.event l.fn.replay.kernel l.replay.kernel × (l.replay.kernel.events ≡ l.counter)
