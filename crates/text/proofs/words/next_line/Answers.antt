use Rattle.std.proofs.Common.{◌≡◌, ◌<◌, ◌∙◌, ap, length, take, arith}
use Rattle.std.specs.Prelude.{◌==◌}
use Rattle.std.specs.List.{before_first}
use Rattle.std.proofs.lemmas.Bool.Decides.{nat_tests}
use Rattle.std.proofs.lemmas.Grind.{common_steps}
use Rattle.text.specs.Lines.{behind_line}
use Rattle.text.proofs.LineLemmas.{lines_by_first}
use Rattle.text.proofs.words.next_line.Goals as goal

pub returns-clause-lines : goal.returns-clause-lines
returns-clause-lines c =
    let some : 0 < length c.args.text.now = grind (arith, nat_tests) in
    let front : c.split_at.result.0.now ≡ before_first (λ b. b == 10) c.args.text.now = c.split_at.ensures.front ∙ ap (λ n. take n c.args.text.now) c.len_before.ensures.len in
    let behind : c.split_at-2.result.1.now ≡ behind_line c.args.text.now = grind (arith, common_steps) in
    rw (front, behind) (lines_by_first c.args.text.now some)
