use Rattle.std.proofs.Common.{◌≡◌, ◌∙◌, ap, sym, true, List, [], ◌∷◌, ◌++◌, rules, to_z, of_z, w64}
use Rattle.posix.specs.declared.entry.Entry.{Entry}
use Rattle.posix.specs.declared.entry.Entry.TheVariants.{Noted}
use Rattle.posix.specs.Common.{change, exec_one, after_trap, code_of, set_cpu}
use Rattle.posix.proofs.TableLemmas.{pid_looked}
use Rattle.calls.proofs.CallLemmas.{same_outcome}
use Rattle.kernel.proofs.step.run_instruction.Goals as goal

pub returns-in-Next-clause-runs : goal.returns-in-Next-clause-runs
unfolding after_trap
returns-in-Next-clause-runs g c = λ me e.
    let s = c.args.machine.now.state in
    let named = pid_looked c.args.pid s.processes me e in
    let done = exec_one (code_of s me) me.cpu in
    let went = sym (c.exec_one.ensures.trap me e) ∙ c.in-Next.is in (
      true,
      ap (after_trap true s me done.cpu) went
          ∙ same_outcome (change s me.pid (set_cpu done.cpu)) c.exec_one.new.self.state [] c.args.entries.now.items
          (ap (λ n. change s n (set_cpu done.cpu)) named ∙ sym (c.exec_one.ensures.state me e)) (sym c.requires.none),
    )

pub returns-in-Note-clause-runs : goal.returns-in-Note-clause-runs
unfolding after_trap
returns-in-Note-clause-runs g c = λ me e.
    let s = c.args.machine.now.state in
    let named = pid_looked c.args.pid s.processes me e in
    let done = exec_one (code_of s me) me.cpu in
    let went = sym (c.exec_one.ensures.trap me e) ∙ c.in-Note.is in
    let kept : to_z w64 (of_z w64 c.in-Note.value) ≡ c.in-Note.value = search rules in
    let one = ap (λ n. Noted n c.in-Note.value ∷ []) named ∙ ap (λ z. Noted c.args.pid z ∷ []) (sym kept) in
    let pushed = c.push.ensures.items ∙ ap (λ (xs : List Entry). xs ++ Noted c.args.pid (to_z w64 (of_z w64 c.in-Note.value)) ∷ []) c.requires.none in (
      true,
      ap (after_trap true s me done.cpu) went
          ∙ same_outcome (change s me.pid (set_cpu done.cpu)) c.exec_one.new.self.state (Noted me.pid c.in-Note.value ∷ []) c.push.new.self.items
          (ap (λ n. change s n (set_cpu done.cpu)) named ∙ sym (c.exec_one.ensures.state me e))
          (one ∙ sym pushed),
    )
