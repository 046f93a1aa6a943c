use Rattle.std.proofs.Common.{◌≡◌, ◌∙◌, ◌++◌, ◌∷◌, [], sym, true}
use Rattle.std.proofs.lemmas.Bool.{cond-true}
use Rattle.posix.specs.Common.{has_room}
use Rattle.tty.specs.Lines.{AreLines, cut}
use Rattle.tty.proofs.LineLemmas.{cut_few, room_of, pushed}
use Rattle.tty.proofs.lines.LineQueue.push.Goals as goal

room : (c : goal.After-push_back) → has_room (c.args.line.now ++ c.args.end.now) c.args.self.now ≡ true
room c = sym (room_of c.args.self.now c.args.line.now c.args.end.now) ∙ sym c.has_room.ensures ∙ c.if-not-has_room.false

one_more : (c : goal.After-push_back) → AreLines c.push_back.new.self c.fill_from_slice-2.new.self
    × (cut c.push_back.new.self.items c.fill_from_slice-2.new.self.items ≡ c.args.self.now ++ (c.args.line.now ++ c.args.end.now) ∷ [])
one_more c =
    pushed c.self.inside.lengths c.self.inside.bytes _ _ _ c.args.self.now c.args.line.now c.args.end.now _ _ c.self.invariant c.self.view_is (room c) c.requires
    c.fill_from_slice.ensures.count c.fill_from_slice.ensures.items c.fill_from_slice-2.ensures.count c.fill_from_slice-2.ensures.items c.push_back.ensures.items

pub invariant_of-self : goal.invariant_of-self
invariant_of-self c = (one_more c).0

pub returns-clause-lines : goal.returns-clause-lines
returns-clause-lines c = (one_more c).1 ∙ sym (cond-true _ _ _ (room c))

pub returns-clause-limits : goal.returns-clause-limits
returns-clause-limits c = cut_few _ _ (one_more c).0
