-- Facts about the limits of a console.
use Rattle.std.proofs.Common.{ℕ, List, [], ◌∷◌, length, drop, nat_le, arith, length-drop}
use Rattle.std.proofs.lemmas.Bool.{cond_both}
use Rattle.std.proofs.lemmas.List.Sums.{sum_by-cons}
use Rattle.posix.specs.Common.{waiting, lines_left}
use Rattle.tty.specs.Limits.{AreFew}

pub few_none : AreFew []
unfolding waiting
few_none = record { count = omega arith; bytes = omega arith; each = tt }

-- the limits hold after a read
pub few_left : (n : ℕ) (lines : List (List ℕ)) → AreFew lines → AreFew (lines_left n lines)
unfolding waiting
few_left n [] few = few
few_left n (line ∷ rest) few =
    let all = sum_by-cons length line rest in
    cond_both (nat_le (length line) n) _ _ AreFew
    (λ _. record { count = omega (arith, few.count); bytes = omega (arith, few.bytes, all); each = few.each.1 })
    (λ _. record {
      count = omega (arith, few.count);
      bytes = omega (arith, few.bytes, all, sum_by-cons length (drop n line) rest, length-drop n line);
      each = (omega (arith, few.each.0, length-drop n line), few.each.1);
    })
