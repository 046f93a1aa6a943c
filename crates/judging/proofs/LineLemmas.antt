-- The last line that has words.
use Rattle.std.proofs.Common.{◌≡◌, ℕ, ◌+◌, ◌-◌, ◌<◌, zero, suc, List, ◌∷◌, Option, Some, length, refl, arith}
use Rattle.std.specs.Prelude.{nat_lt, if◌then◌else◌}
use Rattle.text.specs.Words.{line_words}
use Rattle.judging.specs.Lines.{last_worded}

-- one more line is examined
pub one_more : (left number : ℕ) (found next : Option ℕ) (line : List ℕ) (lines all : List (List ℕ)) → 0 < left → all ≡ line ∷ lines
    → next ≡ (if nat_lt 0 (length (line_words line)) then Some number else found) → last_worded (left - 1) (number + 1) next lines ≡ last_worded left number found all
one_more zero number found next line lines all some is is_next = absurd (omega (arith, some))
one_more (suc left) number found next line lines all some is is_next = let less : suc left - 1 ≡ left = omega arith in rw (less, is, is_next) refl
