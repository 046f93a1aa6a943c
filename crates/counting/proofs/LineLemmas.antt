-- A line without its event number.
use Rattle.std.proofs.Common.{◌≡◌, ℕ, ◌+◌, ◌-◌, ◌≤◌, List, [], ◌∷◌, ◌++◌, length, take, drop, ap, sym, ◌∙◌, arith, length-append}
use Rattle.std.specs.Prelude.{decimal}
use Rattle.std.proofs.lemmas.Fmt.{decimal_digit}
use Rattle.std.proofs.lemmas.List.{length-take-le, drop-take, take-take, take_all, take-append-le}
use Rattle.posix.specs.declared.entry.Entry.{Entry}
use Rattle.posix.specs.Common.{printed}
use Rattle.posix.proofs.PrintingLemmas.{number_and_words}
use Rattle.counting.specs.Patterns.{shown}

printed_0 : (e : Entry) → printed 0 e ≡ 48 ∷ 32 ∷ (shown e ++ 10 ∷ [])
printed_0 e = ap (λ (t : List ℕ). t ++ 10 ∷ []) (number_and_words (decimal 0) e ∙ ap (λ (d : List ℕ). d ++ 32 ∷ shown e) (decimal_digit 0 (omega arith)))

-- A line that is written with number 0.
pub behind_number : (room : List ℕ) (end : ℕ) (e : Entry) → take end room ≡ printed 0 e → end ≤ length room → take (end - 1 - 2) (drop 2 room) ≡ shown e
behind_number room end e text within =
    let whole = text ∙ printed_0 e in
    let n = length (shown e) in
    let long : end ≡ 3 + n = sym (length-take-le end room within) ∙ ap length whole ∙ omega (arith, length-append (shown e) (10 ∷ [])) in
    let cut : end - 1 - 2 ≡ n = omega (arith, long) in
    let end_is : 2 + (n + 1) ≡ end = omega (arith, long) in
    ap (λ m. take m (drop 2 room)) cut
    ∙ sym (take-take n (n + 1) (drop 2 room) (omega arith))
    ∙ ap (take n) (sym (drop-take 2 (n + 1) room) ∙ ap (λ m. drop 2 (take m room)) end_is ∙ ap (drop 2) whole)
    ∙ take-append-le n (shown e) (10 ∷ []) (omega arith)
    ∙ take_all n (shown e) (omega arith)
