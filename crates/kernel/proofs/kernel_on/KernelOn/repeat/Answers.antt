use Rattle.std.proofs.Common.{◌≡◌, ◌+◌, ◌-◌, ◌++◌, List, [], ap, ap₂, rules, subst, sym, true}
use Rattle.std.specs.Prelude.{replicate}
use Rattle.posix.specs.declared.entry.Entry.{Entry}
use Rattle.posix.specs.Common.{Line, numbered, silent, RunsFrom, State, next}
use Rattle.life.specs.declared.noted_bursts.Note.{Note}
use Rattle.kernel.specs.Steps.{noted_lines}
use Rattle.kernel.specs.Views.{KernelView}
use Rattle.kernel.proofs.EventLemmas.{runs_idle}
use Rattle.kernel.proofs.kernel_on.KernelOn.repeat.Goals as goal

pub returns-then-is_idle-clause-runs : goal.returns-then-is_idle-clause-runs
returns-then-is_idle-clause-runs g c =
    let k = c.args.self.now in
    let x = c.args.event in
    let n = c.args.last - k.events in
    let idle : next true k.state x ≡ silent k.state = search (rules, c.is_idle.ensures.idle) in
    let none : noted_lines 0 c.args.notes.now.items ++ numbered c.args.last c.args.entries.now.items ≡ [] =
    ap₂ (λ (ns : List Note) (es : List Entry). noted_lines 0 ns ++ numbered c.args.last es) c.requires.no_notes c.requires.none in
    subst (λ (s : State). RunsFrom (k.events + 1) k.state (replicate n x) (noted_lines 0 c.args.notes.now.items ++ numbered c.args.last c.args.entries.now.items) s) (sym (ap (λ (v : KernelView). v.state) c.self.view_is))
    (subst (λ (ls : List Line). RunsFrom (k.events + 1) k.state (replicate n x) ls k.state) (sym none) (runs_idle n (k.events + 1) k.state x idle))
