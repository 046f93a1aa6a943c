use Rattle.std.proofs.Common.{◌≡◌, false, ap, sym, ◌∙◌, arith}
use Rattle.std.specs.Prelude.{◌==◌}
use Rattle.std.specs.List.{list_any}
use Rattle.std.specs.String.{string_bytes}
use Rattle.schedules.proofs.SayLemmas.{comment_line, comment_says}
use Rattle.schedules.proofs.AddLemmas.{adds_nothing}
use Rattle.schedules.proofs.eventtext.write_comment.Goals as goal

pub returns-then-comment-gt-MOST_COMMENT : goal.returns-then-comment-gt-MOST_COMMENT
returns-then-comment-gt-MOST_COMMENT c = adds_nothing (string_bytes c.args.text.now)

pub returns : goal.returns
returns c =
    let comment = c.args.comment.now in
    let whole : list_any (λ b. b == 10) comment ≡ false = ap (list_any (λ b. b == 10)) (sym c.as_bytes.ensures.value) ∙ sym c.contains.ensures.value ∙ c.if-contains.false in
    (comment_line comment, c.in_ok-writeln.ensures.bytes, comment_says comment (omega arith) whole)
