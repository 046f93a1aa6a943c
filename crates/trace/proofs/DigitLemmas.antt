-- A number's digits, copied with the bytes after them.
use Rattle.std.proofs.Common.{◌≡◌, ℕ, ◌+◌, ◌-◌, ◌≤◌, List, ◌++◌, length, take, drop, ap, ◌∙◌, arith}
use Rattle.std.proofs.lemmas.List.{take-append-le, length-take-le}
use Rattle.std.proofs.lemmas.Grind.{common_steps}
use Rattle.std.proofs.Math.Seq.{take-append-add}

-- the first of the bytes that were moved to a place
pub moved_there : (a m : ℕ) (xs ys post : List ℕ) → a ≤ length xs → m ≤ length ys → take (a + m) (take a xs ++ (ys ++ post)) ≡ take a xs ++ take m ys
moved_there a m xs ys post le fits =
    let at : a + m ≡ length (take a xs) + m = omega (arith, length-take-le a xs le) in
    ap (λ n. take n (take a xs ++ (ys ++ post))) at ∙ take-append-add (take a xs) (ys ++ post) m ∙ ap (λ (l : List ℕ). take a xs ++ l) (take-append-le m ys post fits)

-- the digits come before the bytes that were copied with them
digits_first : (m k : ℕ) (ds rest : List ℕ) → m ≡ length ds → m ≤ k → take m (take k (ds ++ rest)) ≡ ds
digits_first m k ds rest is le = grind (arith, common_steps)

-- a number was put at a place
pub number_put : (a start k : ℕ) (room digits ds rest moved post : List ℕ) → a ≤ length room → start + length ds ≡ 20 → drop start digits ≡ ds ++ rest → k ≡ 20 → moved ≡ take k (drop start digits)
    → length moved ≡ 20 → take (a + (20 - start)) (take a room ++ (moved ++ post)) ≡ take a room ++ ds
number_put a start k room digits ds rest moved post le at written all is len =
    let m : 20 - start ≡ length ds = omega (arith, at) in
    let here : moved ≡ take k (ds ++ rest) = is ∙ ap (take k) written in
    moved_there a (20 - start) room moved post le (omega (arith, len))
    ∙ ap (λ (l : List ℕ). take a room ++ take (20 - start) l) here ∙ ap (λ (l : List ℕ). take a room ++ l) (digits_first (20 - start) k ds rest m (omega (arith, all)))
