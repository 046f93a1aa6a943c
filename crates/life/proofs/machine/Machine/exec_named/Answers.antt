use Rattle.std.proofs.Common.{◌≡◌, ◌∙◌, ap, rules, to_z, of_z, w64, slice_get}
use Rattle.std.proofs.Math.IntN.{nat_abs}
use Rattle.posix.specs.Common.{change, executed}
use Rattle.life.proofs.machine.Machine.exec_named.Goals as goal

pub returns-clause-done : goal.returns-clause-done
returns-clause-done g c = λ n program is e.
    let word : to_z w64 (of_z w64 c.args.word) ≡ c.args.word = search rules in
    let same = ap nat_abs (word ∙ is) in
    let ran = c.exec.ensures.done program (ap (slice_get c.args.self.now.state.world.programs) same ∙ e) in
    (ran.0, ran.1 ∙ ap (λ m. change c.args.self.now.state c.args.pid (executed m program)) same)
