use Rattle.std.proofs.Common.{◌∙◌, List, ℕ, ap, subst, sym}
use Rattle.text.specs.Numbers.{two_digits}
use Rattle.naming.specs.Letters.{letters_from}
use Rattle.naming.specs.Letters.Begun.{Nothing}
use Rattle.naming.specs.Lines.{IsOneLine}
use Rattle.naming.proofs.DigitLemmas.{digits_one_line}
use Rattle.naming.proofs.LineLemmas.{both_one_line}
use Rattle.naming.proofs.type_line.push_letters.Goals as goal

pub loop-byte-preserved-in-Ok-Byte : goal.loop-byte-preserved-in-Ok-Byte
loop-byte-preserved-in-Ok-Byte c =
    let so_far = c.loop-byte.invariant in
    let is = c.in_ok-push_byte-in-Ok-Byte.ensures ∙ c.in_ok-push_blank-in-Ok-Byte.ensures.items (two_digits c.in-Ok-Byte.byte) in
    let letter = rw c.in-Ok-Byte.field-0-is at (c.in-Ok-Byte.ensures.letter c.loop-byte.bytes.items) in
    record {
      letters = ap (λ (x : List ℕ). letters_from x Nothing c.in-Ok-Byte.more.now) is ∙ sym letter ∙ so_far.letters;
      one_line = λ text bytes.
          let so = so_far.one_line text bytes in
          let pushed : IsOneLine c.push_blank.new.bytes.items = c.in_ok-push_blank-in-Ok-Byte.ensures.one_line so.1 in
          let more = rw c.in-Ok-Byte.field-0-is at (c.in-Ok-Byte.ensures.one_line so.0) in
          (more, subst IsOneLine (sym c.in_ok-push_byte-in-Ok-Byte.ensures) (both_one_line c.push_blank.new.bytes.items (two_digits c.in-Ok-Byte.byte) pushed (digits_one_line c.in-Ok-Byte.byte)));
    }
