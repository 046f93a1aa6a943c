use Rattle.std.proofs.Common.{◌≡◌, ◌-◌, ◌<◌, ◌^◌, ◌∙◌, ap, sym, subst, refl, arith, bit_and, ℕ, length}
use Rattle.std.specs.List.{list_any}
use Rattle.std.proofs.lemmas.Nat.{and_le_l}
use Rattle.posix.specs.Common.{taken, has_sig}
use Rattle.signal.specs.SignalTables.{TablesView, MarksQueued, signals_of}
use Rattle.signal.proofs.SetLemmas.{less_other}
use Rattle.signal.proofs.QueueLemmas.{above_33, at_most_64, marks_last_taken, marks_taken, taken_queued}
use Rattle.signal.proofs.signals.Signals.take_queued.Goals as goal
use Rattle.signal.proofs.signals.Signals.take_queued.Goals.{then-not-is_queued, else-not-is_queued}

pub invariant_of-self : goal.invariant_of-self
invariant_of-self c =
    let p = c.self.inside.pending in
    let s = c.args.sig in
    let rest = c.take_queued-carried.ensures.rest in
    let left : ℕ = bit_and p (2 ^ 64 - 1 - 2 ^ (s - 1)) in
    let less : c.except-self-inside.result ≡ left = c.except-self-inside.ensures ∙ ap (λ n. bit_and p (2 ^ 64 - 1 - n)) c.just.ensures in
    let last = sym (ap (λ (t : TablesView). list_any (has_sig s) t.queue) rest) ∙ sym c.is_queued.ensures ∙ c.if-not-is_queued.true in
    let marks = marks_last_taken p s c.self.inside.tables.queue c.self.invariant.2 c.self.invariant.0 c.requires last in (
      omega (arith, c.self.invariant.0, c.except-self-inside.ensures, and_le_l p (2 ^ 64 - 1 - c.just.result)),
      ap (λ (t : TablesView). length t.carried) rest ∙ c.self.invariant.1,
      subst (λ (n : ℕ). MarksQueued n c.take_queued-carried.new.self.queue) (sym less) (subst (λ (t : TablesView). MarksQueued left t.queue) (sym rest) marks),
    )

pub invariant_of-self-else-not-is_queued : goal.invariant_of-self-else-not-is_queued
invariant_of-self-else-not-is_queued c =
    let p = c.self.inside.pending in
    let s = c.args.sig in
    let rest = c.take_queued-carried.ensures.rest in
    let more = sym (ap (λ (t : TablesView). list_any (has_sig s) t.queue) rest) ∙ sym c.is_queued.ensures ∙ c.if-not-is_queued.false in (
      c.self.invariant.0,
      ap (λ (t : TablesView). length t.carried) rest ∙ c.self.invariant.1,
      subst (λ (t : TablesView). MarksQueued p t.queue) (sym rest) (marks_taken p s c.self.inside.tables.queue c.self.invariant.2 c.requires more),
    )

pub returns-clause-state : goal.returns-clause-state
returns-clause-state c =
    let p = c.self.inside.pending in
    let m = c.self.inside.mask in
    let s = c.args.sig in
    let rest = c.take_queued-carried.ensures.rest in
    let left : ℕ = bit_and p (2 ^ 64 - 1 - 2 ^ (s - 1)) in
    let within : s - 1 < 64 = omega (arith, above_33 s c.requires, at_most_64 s c.requires) in
    let then_is = taken_queued m p left s c.self.inside.tables c.requires (λ j l. less_other p (s - 1) j c.self.invariant.0 within (λ e. omega (arith, l, e, above_33 s c.requires))) in
    let else_is = taken_queued m p p s c.self.inside.tables c.requires (λ j l. refl) in
    elim c.if-not-is_queued.branch [
      | then-not-is_queued w ↦
          w.self-is
          ∙ ap (λ n. signals_of m n c.take_queued-carried.new.self) (w.except-self-inside.ensures ∙ ap (λ n. bit_and p (2 ^ 64 - 1 - n)) w.just.ensures)
          ∙ ap (signals_of m left) rest ∙ then_is
      | else-not-is_queued w ↦ w.self-is ∙ ap (signals_of m p) rest ∙ else_is
    ]
    ∙ ap (taken s) c.self.view_is
