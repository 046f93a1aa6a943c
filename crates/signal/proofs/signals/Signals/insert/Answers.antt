use Rattle.std.proofs.Common.{◌≡◌, ◌-◌, ◌≤◌, ◌^◌, ◌∙◌, ap, sym, subst, arith, rules, bit_or, length, List, ℕ, Option, Some}
use Rattle.std.proofs.lemmas.List.{length-set}
use Rattle.std.proofs.lemmas.Nat.{or_lt, pow_below}
use Rattle.posix.specs.declared.process.Carried.{Carried}
use Rattle.posix.specs.Common.{with_pending}
use Rattle.signal.specs.SignalTables.{TablesView, MarksQueued, signals_of}
use Rattle.signal.proofs.SetLemmas.{more_other, one_more}
use Rattle.signal.proofs.QueueLemmas.{marks_stay}
use Rattle.signal.proofs.signals.Signals.insert.Goals as goal

pub invariant_of-self : goal.invariant_of-self
invariant_of-self c =
    let p = c.self.inside.pending in
    let q = c.self.inside.tables.queue in
    let standard : c.args.sig ≤ 31 = search rules in
    let both = or_lt 64 p (2 ^ (c.args.sig - 1)) c.self.invariant.0 (pow_below (c.args.sig - 1) 64 (omega (arith, standard))) in
    let more : c.union-self-inside.result ≡ bit_or p (2 ^ (c.args.sig - 1)) = c.union-self-inside.ensures ∙ ap (bit_or p) c.just.ensures in
    let marks = marks_stay p (bit_or p (2 ^ (c.args.sig - 1))) c.args.sig q c.self.invariant.2 standard (λ j ne. more_other p (c.args.sig - 1) j ne) in (
      omega (arith, more, both),
      ap (λ (t : TablesView). length t.carried) c.set_carried.ensures ∙ length-set c.self.inside.tables.carried (c.args.sig - 1) c.args.carried ∙ c.self.invariant.1,
      subst (λ (n : ℕ). MarksQueued n c.set_carried.new.self.queue) (sym more) (subst (λ (t : TablesView). MarksQueued (bit_or p (2 ^ (c.args.sig - 1))) t.queue) (sym c.set_carried.ensures) marks),
    )

pub returns : goal.returns
returns c =
    let p = c.self.inside.pending in
    let t = c.self.inside.tables in
    let standard : c.args.sig ≤ 31 = search rules in
    ap (λ n. signals_of c.self.inside.mask n c.set_carried.new.self) (c.union-self-inside.ensures ∙ ap (bit_or p) c.just.ensures)
    ∙ ap (signals_of c.self.inside.mask (bit_or p (2 ^ (c.args.sig - 1)))) c.set_carried.ensures
    ∙ ap (λ (xs : List (Option Carried)). record (signals_of c.self.inside.mask p t) { standard = xs }) (one_more p t.carried (c.args.sig - 1) c.args.carried (omega (arith, standard)) c.self.invariant.1)
    ∙ ap (with_pending c.args.sig (Some c.args.carried)) c.self.view_is
