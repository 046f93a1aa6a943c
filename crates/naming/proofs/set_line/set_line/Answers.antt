use Rattle.std.proofs.Common.{◌≡◌, ◌≢◌, ◌++◌, ◌-◌, ◌∙◌, ℕ, List, ap, drop, length, refl, subst, sym, take}
use Rattle.std.proofs.Math.Seq.{drop-append_seam}
use Rattle.std.proofs.lemmas.List.Elements.{All-take}
use Rattle.std.proofs.lemmas.Result.{IfOk-weaker}
use Rattle.text.specs.Words.{before_comment, from_word}
use Rattle.naming.specs.Lines.{IsOneLine}
use Rattle.naming.specs.Sets.{behind_second, form_of, set_as, set_named}
use Rattle.naming.proofs.LineLemmas.{behind_second_one_line, from_word_one_line, front_one_line, rest_one_line}
use Rattle.naming.proofs.set_line.set_line.Goals as goal

-- the line that replaces a line, by its parts
by_parts : (line code comment operand before : List ℕ) → code ≡ before_comment line → line ≡ code ++ comment → operand ≡ from_word (behind_second code) → before ≡ take (length code - length operand) code
    → set_named line ≡ set_as (form_of operand) line before comment operand
unfolding set_named
by_parts line code comment operand before code_is whole operand_is before_is =
    let rest : drop (length code) line ≡ comment = ap (drop (length code)) whole ∙ drop-append_seam code comment in
    rw (← code_is) (rw (← operand_is) (rw (← before_is) (rw rest refl)))

-- the part before the operand, the comment and the operand have no line feed if the line has none
parts : (line code comment before operand : List ℕ) (at : ℕ) → line ≡ code ++ comment → before ≡ take at code → operand ≡ from_word (behind_second code) → IsOneLine line
    → IsOneLine before × IsOneLine comment × IsOneLine operand
parts line code comment before operand at whole front back one =
    let code_one = front_one_line line code comment whole one in (
      subst IsOneLine (sym front) (All-take (λ b. b ≢ 10) at code code_one),
      rest_one_line line code comment whole one,
      subst IsOneLine (sym back) (from_word_one_line (behind_second code) (behind_second_one_line code code_one)),
    )

pub returns-in-Some-Set-clause-is : goal.returns-in-Some-Set-clause-is
returns-in-Some-Set-clause-is c =
    let operand = c.skip_separators-operand.result.now in
    let operand_is : operand ≡ from_word (behind_second c.split_comment.result.0.now) = c.skip_separators-operand.ensures.rest ∙ ap from_word c.behind_second.ensures in
    let all = by_parts c.args.line.now c.split_comment.result.0.now c.split_comment.result.1.now operand c.split_at.result.0.now c.split_comment.ensures.front c.split_comment.ensures.whole operand_is c.split_at.ensures.front in
    let form = rw c.in-Some-Set.field-0-is at c.in-Some-Set.ensures in
    IfOk-weaker c.set_in_braces.result _ _
    (λ o is. is c.args.line.now ∙ sym (all ∙ ap (λ f. set_as f c.args.line.now c.split_at.result.0.now c.split_comment.result.1.now operand) (sym form)))
    c.set_in_braces.ensures.is

pub returns-in-Some-Set-clause-one_line : goal.returns-in-Some-Set-clause-one_line
returns-in-Some-Set-clause-one_line c = λ one.
    let it = parts c.args.line.now c.split_comment.result.0.now c.split_comment.result.1.now c.split_at.result.0.now c.skip_separators-operand.result.now _ c.split_comment.ensures.whole c.split_at.ensures.front
    (c.skip_separators-operand.ensures.rest ∙ ap from_word c.behind_second.ensures) one in
    c.set_in_braces.ensures.one_line it.0 it.1 it.2

pub returns-in-Some-Joined-clause-is : goal.returns-in-Some-Joined-clause-is
returns-in-Some-Joined-clause-is c =
    let operand = c.skip_separators-operand.result.now in
    let operand_is : operand ≡ from_word (behind_second c.split_comment.result.0.now) = c.skip_separators-operand.ensures.rest ∙ ap from_word c.behind_second.ensures in
    let all = by_parts c.args.line.now c.split_comment.result.0.now c.split_comment.result.1.now operand c.split_at.result.0.now c.split_comment.ensures.front c.split_comment.ensures.whole operand_is c.split_at.ensures.front in
    let form = rw c.in-Some-Joined.field-0-is at c.in-Some-Joined.ensures in
    IfOk-weaker c.set_of_names.result _ _
    (λ o is. is c.args.line.now ∙ sym (all ∙ ap (λ f. set_as f c.args.line.now c.split_at.result.0.now c.split_comment.result.1.now operand) (sym form)))
    c.set_of_names.ensures.is

pub returns-in-Some-Joined-clause-one_line : goal.returns-in-Some-Joined-clause-one_line
returns-in-Some-Joined-clause-one_line c = λ one.
    let it = parts c.args.line.now c.split_comment.result.0.now c.split_comment.result.1.now c.split_at.result.0.now c.skip_separators-operand.result.now _ c.split_comment.ensures.whole c.split_at.ensures.front
    (c.skip_separators-operand.ensures.rest ∙ ap from_word c.behind_second.ensures) one in
    c.set_of_names.ensures.one_line it.0 it.1 it.2
