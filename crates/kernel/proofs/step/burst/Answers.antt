use Rattle.std.proofs.Common.{◌∙◌, arith, sym}
use Rattle.std.proofs.Math.Nat.{le_trans}
use Rattle.kernel.proofs.CountLemmas.{counts_one}
use Rattle.posix.specs.Common.{current_process}
use Rattle.kernel.proofs.BurstLemmas.{placed_now, read_of_current, readies, shows}
use Rattle.kernel.proofs.step.burst.Goals as goal

pub returns : goal.returns
returns g c =
    let s = c.args.machine.now.state in
    let p = c.in-Some.pid in
    let now = sym c.current.ensures ∙ c.in-Some.is in
    let ready = readies s p c.in-Some-snapshot.snapshot c.requires.going c.requires.settled c.snapshot.ensures.looks.regular now (sym c.in-Some-snapshot.is ∙ c.snapshot.ensures.value) (sym c.is_some.ensures ∙ c.if-is_some.false)
    (sym c.is_some-else-is_some.ensures ∙ c.if-is_some-2.false) in
    let r = c.run_with_notes-last in
    let e = r.ensures in
    let shown = shows s c.snapshot.new.self.state p ready c.snapshot.ensures.looks.same.state c.args.before c.args.last (record { last = r.result.0; notes = r.new.notes.items; trap = r.result.1 }) r.new.self.state e.taken e.state in
    record {
      runs = shown.runs;
      taken = shown.exact;
      whose = shown.whose;
      from = e.from;
      within = e.within;
      short = e.short;
      call = shown.call;
      held = tt;
      numbers = shown.numbers;
      state = shown.state;
      visits = omega (arith, c.snapshot.ensures.looks.visits, e.runs.costs.visits);
      no_fewer = le_trans c.snapshot.ensures.looks.no_fewer e.runs.costs.no_fewer;
      counts = counts_one (current_process s) (le_trans (rw c.in-Some-snapshot.is at c.snapshot.ensures.counts) e.runs.costs.no_fewer);
      to_recheck = e.runs.to_recheck (placed_now s _ p c.snapshot.ensures.looks.same.state now) ∙ c.snapshot.ensures.looks.same.to_recheck;
      foregrounds_unchecked = e.runs.foregrounds_unchecked ∙ c.snapshot.ensures.looks.same.foregrounds_unchecked;
      regular = e.regular;
    }

pub returns-then-is_some-clause-held : goal.returns-then-is_some-clause-held
returns-then-is_some-clause-held g c =
    let looks = c.snapshot.ensures.looks in
    read_of_current c.args.machine.now.state c.snapshot.new.self.state c.in-Some.pid c.in-Some-snapshot.snapshot looks.same.state looks.regular (sym c.current.ensures ∙ c.in-Some.is) (sym c.in-Some-snapshot.is ∙ c.snapshot.ensures.value)
