use Rattle.std.proofs.Common.{◌≡◌, ◌-◌, ◌≤◌, ◌^◌, ◌∙◌, ap, sym, subst, arith, bit_and, rules, List, ℕ, Option, None}
use Rattle.std.proofs.lemmas.Nat.{and_le_l}
use Rattle.posix.specs.declared.process.Carried.{Carried}
use Rattle.posix.specs.Common.{with_pending}
use Rattle.signal.specs.SignalTables.{MarksQueued, signals_of}
use Rattle.signal.proofs.SetLemmas.{less_other, one_less}
use Rattle.signal.proofs.QueueLemmas.{marks_stay}
use Rattle.signal.proofs.signals.Signals.remove.Goals as goal

pub invariant_of-self : goal.invariant_of-self
invariant_of-self c =
    let p = c.self.inside.pending in
    let q = c.self.inside.tables.queue in
    let standard : c.args.sig ≤ 31 = search rules in
    let less : c.except-self-inside.result ≡ bit_and p (2 ^ 64 - 1 - 2 ^ (c.args.sig - 1)) = c.except-self-inside.ensures ∙ ap (λ n. bit_and p (2 ^ 64 - 1 - n)) c.just.ensures in
    let marks = marks_stay p (bit_and p (2 ^ 64 - 1 - 2 ^ (c.args.sig - 1))) c.args.sig q c.self.invariant.2 standard
    (λ j ne. less_other p (c.args.sig - 1) j c.self.invariant.0 (omega (arith, standard)) ne) in (
      omega (arith, c.self.invariant.0, c.except-self-inside.ensures, and_le_l p (2 ^ 64 - 1 - c.just.result)),
      c.self.invariant.1,
      subst (λ (n : ℕ). MarksQueued n q) (sym less) marks,
    )

pub returns : goal.returns
returns c =
    let p = c.self.inside.pending in
    let t = c.self.inside.tables in
    let standard : c.args.sig ≤ 31 = search rules in
    let less : c.except-self-inside.result ≡ bit_and p (2 ^ 64 - 1 - 2 ^ (c.args.sig - 1)) = c.except-self-inside.ensures ∙ ap (λ n. bit_and p (2 ^ 64 - 1 - n)) c.just.ensures in
    ap (λ n. signals_of c.self.inside.mask n t) less
    ∙ ap (λ (xs : List (Option Carried)). record (signals_of c.self.inside.mask p t) { standard = xs }) (one_less p t.carried (c.args.sig - 1) c.self.invariant.0 (omega (arith, standard)))
    ∙ ap (with_pending c.args.sig None) c.self.view_is
