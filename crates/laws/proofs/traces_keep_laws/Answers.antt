-- The lemmas that these laws are.
use Rattle.std.proofs.Common.{rules}
use Rattle.laws.proofs.LawfulLemmas.{laws_more, laws_first, laws_at}
use Rattle.laws.proofs.LineLaws.{no_end_twice, reported_to_parent, looked_at_by_parent, no_stop_twice, no_continue_twice, stop_is_told, continue_is_told, status_is_told, stands_in_life, born_dead, nothing_after_end, lives_apart, halt_is_last, first_end_halts, numbers_never_fall}
use Rattle.laws.proofs.traces_keep_laws.Goals as goal

pub returns : goal.returns
returns c = search (rules, no_end_twice, reported_to_parent, looked_at_by_parent, no_stop_twice, no_continue_twice, stop_is_told, continue_is_told, status_is_told, stands_in_life, born_dead, nothing_after_end, lives_apart, halt_is_last, first_end_halts, numbers_never_fall, laws_more, laws_first, laws_at)
