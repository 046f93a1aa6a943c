use Rattle.std.proofs.Common.{◌≡◌, ◌-◌, ◌<◌, ◌^◌, ◌==◌, ◌∙◌, ◌∷◌, ◌++◌, [], ◌&&◌, not, true, ap, sym, subst, arith, bit_or, length, List, ℕ, Bool, Option, inl}
use Rattle.std.proofs.lemmas.Bool.{and_parts}
use Rattle.std.proofs.lemmas.Nat.{or_lt, pow_below}
use Rattle.posix.specs.declared.process.Carried.{Carried}
use Rattle.posix.specs.Common.{is_realtime, gets_no_signals, keeps, with_queue, Signals}
use Rattle.signal.specs.SignalTables.{TablesView, MarksQueued, signals_of}
use Rattle.signal.proofs.SetLemmas.{more_other, more_same, same_standard}
use Rattle.signal.proofs.QueueLemmas.{above_33, at_most_64, generated_queued, marks_change, queued_others, queued_own}
use Rattle.signal.proofs.signals.Signals.queue.Goals as goal

pub invariant_of-self : goal.invariant_of-self
invariant_of-self c =
    let p = c.self.inside.pending in
    let m = c.args.signal in
    let q = c.self.inside.tables.queue in
    let is = c.requires.realtime in
    let within : m.sig - 1 < 64 = omega (arith, above_33 m.sig is, at_most_64 m.sig is) in
    let both = or_lt 64 p (2 ^ (m.sig - 1)) c.self.invariant.0 (pow_below (m.sig - 1) 64 within) in
    let all : ℕ = bit_or p (2 ^ (m.sig - 1)) in
    let more : c.union-self-inside.result ≡ all = c.union-self-inside.ensures ∙ ap (bit_or p) c.just.ensures in
    let marks = marks_change p all m.sig q (q ++ m ∷ []) c.self.invariant.2 is (ap (λ b. b == 1) (more_same p (m.sig - 1)) ∙ sym (queued_own m q))
    (λ j ne. more_other p (m.sig - 1) j ne) (λ n ne. queued_others m q n ne) in (
      omega (arith, more, both),
      ap (λ (t : TablesView). length t.carried) c.push_queued.ensures ∙ c.self.invariant.1,
      subst (λ (n : ℕ). MarksQueued n c.push_queued.new.self.queue) (sym more) (subst (λ (t : TablesView). MarksQueued all t.queue) (sym c.push_queued.ensures) marks),
    )

pub returns-clause-state : goal.returns-clause-state
returns-clause-state c =
    let p = c.self.inside.pending in
    let mask = c.self.inside.mask in
    let t = c.self.inside.tables in
    let m = c.args.signal in
    let is = c.requires.realtime in
    let all : ℕ = bit_or p (2 ^ (m.sig - 1)) in
    let g = c.args.self.now in
    let keeps_it : Bool = not (gets_no_signals c.args.pid c.args.life g m.sig) && keeps g m.sig in
    let kept : keeps_it ≡ true = (and_parts (is_realtime m.sig) keeps_it (sym c.queues.ensures ∙ c.if-not-queues.false)).1 in
    let above : 33 < m.sig = above_33 m.sig is in
    ap (λ n. signals_of mask n c.push_queued.new.self) (c.union-self-inside.ensures ∙ ap (bit_or p) c.just.ensures)
    ∙ ap (signals_of mask all) c.push_queued.ensures
    ∙ ap (λ (xs : List (Option Carried)). record (signals_of mask p t) { standard = xs; queue = t.queue ++ m ∷ [] })
    (same_standard all p t.carried (λ i l. more_other p (m.sig - 1) i (λ e. omega (arith, l, e, above))))
    ∙ ap (λ (h : Signals). with_queue (h.queue ++ m ∷ []) h) c.self.view_is
    ∙ sym (generated_queued c.args.pid c.args.life m g is kept)

pub returns-clause-back : goal.returns-clause-back
returns-clause-back c = inl (and_parts (is_realtime c.args.signal.sig) (not (gets_no_signals c.args.pid c.args.life c.args.self.now c.args.signal.sig) && keeps c.args.self.now c.args.signal.sig) (sym c.queues.ensures ∙ c.if-not-queues.false)).1
