use Rattle.std.proofs.Common.{inl}
use Rattle.merging.proofs.node.are_one.Goals as goal

pub returns-else-is_halted-2-clause-one : goal.returns-else-is_halted-2-clause-one
returns-else-is_halted-2-clause-one c = λ same. inl (c.is_moved.ensures.moved same)
