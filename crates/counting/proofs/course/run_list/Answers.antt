use Rattle.std.proofs.Common.{ap, ◌+◌}
use Rattle.counting.proofs.CourseLemmas.{adds_course}
use Rattle.counting.proofs.course.run_list.Goals as goal

pub returns : goal.returns
returns c =
    adds_course c.run_all-ending.result c.args.world.now (c.in_ok-kernel.kernel.events + 1) c.in_ok-kernel.kernel.state _ c.args.events.now _
    (ap (λ n. n + 1) c.in_ok-kernel.ensures.events) c.in_ok-kernel.ensures.state c.run_all-ending.ensures.adds c.run_all-ending.ensures.ending
