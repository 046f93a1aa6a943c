use Rattle.std.proofs.Common.{◌≡◌, ◌++◌, ◌∙◌, List, ℕ, ap, arith, codes, decimal, take}
use Rattle.trace.proofs.DigitLemmas.{moved_there}
use Rattle.trace.proofs.notes.NoteWords.put.Goals as goal

pub returns-clause-text : goal.returns-clause-text
returns-clause-text c =
    let words : take c.self.inside.len c.copy_from_slice.new.self ≡ codes " note " ++ decimal c.args.self.now ++ codes " "
    = rw (c.copy_from_slice.ensures.after, ← c.self.view_is) c.self.invariant.1 in
    moved_there c.args.at c.self.inside.len c.args.room.now c.copy_from_slice.new.self _ (omega arith) (omega (arith, c.self.invariant))
    ∙ ap (λ (l : List ℕ). take c.args.at c.args.room.now ++ l) words
