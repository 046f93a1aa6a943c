use Rattle.std.proofs.Common.{◌≡◌, ◌+◌, ◌-◌, ℕ, OnOk, arith, subst}
use Rattle.std.specs.Prelude.{replicate}
use Rattle.counting.specs.Courses.{Adds}
use Rattle.counting.proofs.course.run_one.Goals as goal

pub returns-clause-adds : goal.returns-clause-adds
returns-clause-adds c =
    let k = c.args.kernel.now in
    let one : c.events-last.result + 1 - k.events ≡ 1 = omega (arith, c.events-last.ensures) in
    subst (λ (n : ℕ). OnOk c.drive_to-done.result (Adds (k.events + 1) k.state (replicate n c.args.event) c.drive_to-done.new.kernel.state c.args.lines.now.items c.drive_to-done.new.to.items)) one c.drive_to-done.ensures.ok
