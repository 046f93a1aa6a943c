use Rattle.std.proofs.Common.{◌≡◌, ◌∙◌, ap, rules, w64}
use Rattle.std.specs.Int.{cast_unsigned}
use Rattle.posix.specs.Common.{all_flags, are_flags}
use Rattle.bitflags.specs.Sets.{known_from}
use Rattle.posix.proofs.FlagLemmas.{some_bits}
use Rattle.calls.proofs.replies.flags_in.Goals as goal

pub returns-clause-known : goal.returns-clause-known
unfolding known_from
returns-clause-known c =
    let same : c.in_ok-bits.bits ≡ cast_unsigned w64 c.args.word = search rules in
    some_bits c.from_bits.result c.in_ok-bits.bits all_flags (c.from_bits.ensures.known tt) ∙ ap are_flags same
