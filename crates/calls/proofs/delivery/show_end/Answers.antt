use Rattle.std.proofs.Common.{◌∙◌, ap, sym, cond, append_assoc, ◌++◌, ◌∷◌, [], List}
use Rattle.posix.specs.declared.entry.Entry.{Entry}
use Rattle.posix.specs.declared.entry.Entry.TheVariants.{Ended, Halted}
use Rattle.calls.proofs.delivery.show_end.Goals as goal

pub returns-then-eq : goal.returns-then-eq
returns-then-eq c =
    let old = c.args.entries.now.items in
    let one = Ended c.args.pid c.args.status ∷ [] in
    c.push-then-eq.ensures.items ∙ ap (λ (l : List Entry). l ++ Halted ∷ []) c.push.ensures.items ∙ append_assoc old one (Halted ∷ []) ∙ ap (λ b. old ++ cond b (Ended c.args.pid c.args.status ∷ Halted ∷ []) one) (sym c.if-eq.true ∙ c.eq.ensures)

pub returns-else-eq : goal.returns-else-eq
returns-else-eq c =
    let one = Ended c.args.pid c.args.status ∷ [] in
    c.push.ensures.items ∙ ap (λ b. c.args.entries.now.items ++ cond b (Ended c.args.pid c.args.status ∷ Halted ∷ []) one) (sym c.if-eq.false ∙ c.eq.ensures)
