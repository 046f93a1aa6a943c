use Rattle.std.proofs.Common.{◌≡◌, ◌∙◌, ◌++◌, [], ap, append-nil, refl, subst, sym, w64}
use Rattle.std.proofs.Math.Facts.{to_z-of_z}
use Rattle.std.proofs.lemmas.Result.{IfOk-weaker}
use Rattle.std.specs.Fmt.{signed_decimal}
use Rattle.naming.specs.Lines.{IsOneLine}
use Rattle.naming.proofs.DigitLemmas.{signed_one_line}
use Rattle.naming.proofs.LineLemmas.{four_one_line}
use Rattle.naming.proofs.set_line.Around.with_number.Goals as goal

pub returns-clause-items : goal.returns-clause-items
returns-clause-items c =
    let is : c.as_bytes-digits.result.now ≡ signed_decimal c.args.number = c.as_bytes-digits.ensures.value ∙ c.format.ensures.text ∙ ap signed_decimal (to_z-of_z {w = w64} {z = c.args.number} c.ranges.number) in
    let before = c.args.self.before.now in
    let behind = c.args.behind.now in
    let comment = c.args.self.comment.now in
    let same : before ++ (c.as_bytes-digits.result.now ++ (behind ++ (comment ++ []))) ≡ before ++ (signed_decimal c.args.number ++ (behind ++ comment)) = rw (is, append-nil comment) refl in
    IfOk-weaker c.joined.result _ _ (λ v items. items ∙ same) c.joined.ensures.items

pub returns-clause-one_line : goal.returns-clause-one_line
returns-clause-one_line c = λ before comment behind.
    let is : c.as_bytes-digits.result.now ≡ signed_decimal c.args.number = c.as_bytes-digits.ensures.value ∙ c.format.ensures.text ∙ ap signed_decimal (to_z-of_z {w = w64} {z = c.args.number} c.ranges.number) in
    let number : IsOneLine c.as_bytes-digits.result.now = subst IsOneLine (sym is) (signed_one_line c.args.number c.ranges.number.sfits) in
    c.joined.ensures.one_line (four_one_line c.args.self.before c.as_bytes-digits.result c.args.behind c.args.self.comment before number behind comment)
