use Rattle.std.proofs.Common.{◌≡◌, ◌-◌, ◌<◌, ◌^◌, ◌==◌, ◌∙◌, ap, sym, subst, arith, bit_and, List, ℕ, Option, None, filter, length}
use Rattle.std.specs.Prelude.{if◌then◌else◌}
use Rattle.std.proofs.lemmas.Nat.{and_le_l}
use Rattle.posix.specs.declared.process.Carried.{Carried}
use Rattle.posix.specs.Common.{discarded, with_queue, with_pending, Signals}
use Rattle.signal.specs.SignalTables.{TablesView, MarksQueued, signals_of}
use Rattle.signal.proofs.SetLemmas.{less_other, less_same, same_standard}
use Rattle.signal.proofs.QueueLemmas.{above_33, at_most_64, discarded_others, discarded_own, has_other, marks_change}
use Rattle.signal.proofs.signals.Signals.discard.Goals as goal

pub invariant_of-self : goal.invariant_of-self
invariant_of-self c =
    let p = c.self.inside.pending in
    let s = c.args.sig in
    let q = c.self.inside.tables.queue in
    let is = sym c.is_realtime.ensures ∙ c.if-is_realtime.true in
    let within : s - 1 < 64 = omega (arith, above_33 s is, at_most_64 s is) in
    let left : ℕ = bit_and p (2 ^ 64 - 1 - 2 ^ (s - 1)) in
    let less : c.except-self-inside.result ≡ left = c.except-self-inside.ensures ∙ ap (λ n. bit_and p (2 ^ 64 - 1 - n)) c.just.ensures in
    let marks = marks_change p left s q (filter (has_other s) q) c.self.invariant.2 is (ap (λ b. b == 1) (less_same p (s - 1) within) ∙ sym (discarded_own s q))
    (λ j ne. less_other p (s - 1) j c.self.invariant.0 within ne) (λ n ne. discarded_others s n q ne) in (
      omega (arith, c.self.invariant.0, c.except-self-inside.ensures, and_le_l p (2 ^ 64 - 1 - c.just.result)),
      ap (λ (t : TablesView). length t.carried) c.discard_queued.ensures ∙ c.self.invariant.1,
      subst (λ (n : ℕ). MarksQueued n c.discard_queued.new.self.queue) (sym less) (subst (λ (t : TablesView). MarksQueued left t.queue) (sym c.discard_queued.ensures) marks),
    )

pub returns-then-is_realtime : goal.returns-then-is_realtime
unfolding discarded
returns-then-is_realtime c =
    let p = c.self.inside.pending in
    let m = c.self.inside.mask in
    let t = c.self.inside.tables in
    let s = c.args.sig in
    let is = sym c.is_realtime.ensures ∙ c.if-is_realtime.true in
    let within : s - 1 < 64 = omega (arith, above_33 s is, at_most_64 s is) in
    let left : ℕ = bit_and p (2 ^ 64 - 1 - 2 ^ (s - 1)) in
    ap (λ n. signals_of m n c.discard_queued.new.self) (c.except-self-inside.ensures ∙ ap (λ n. bit_and p (2 ^ 64 - 1 - n)) c.just.ensures)
    ∙ ap (signals_of m left) c.discard_queued.ensures
    ∙ ap (λ (xs : List (Option Carried)). record (signals_of m p t) { standard = xs; queue = filter (has_other s) t.queue })
    (same_standard left p t.carried (λ i l. less_other p (s - 1) i c.self.invariant.0 within (λ e. omega (arith, l, e, above_33 s is))))
    ∙ ap (λ (g : Signals). with_queue (filter (has_other s) g.queue) g) c.self.view_is
    ∙ ap (λ b. if b then with_queue (filter (has_other s) c.args.self.now.queue) c.args.self.now else with_pending s None c.args.self.now) (sym is)
