-- Membership in a list of IDs, and how many distinct IDs are in it.
use Rattle.std.proofs.Common.{◌≡◌, ℕ, zero, suc, ◌<◌, ◌≤◌, true, arith, List, [], ◌∷◌, length, ◌==◌}
use Rattle.std.proofs.lemmas.Bool.{or_right}
use Rattle.posix.specs.Common.{is_in, without, IsDistinct}
use Rattle.posix.proofs.MemberLemmas.{in_first, is_other}
use Rattle.posix.proofs.OrderLemmas.{one_less_at_most}
use Rattle.posix.proofs.RegularLemmas.{distinct_without}

-- a member of a list is a member of a longer one
pub in_longer : (q x : ℕ) (xs : List ℕ) → is_in q xs ≡ true → is_in q (x ∷ xs) ≡ true
unfolding is_in
in_longer q x xs e = or_right (x == q) _ e

-- there are at most n distinct numbers below n
pub at_most : (n : ℕ) (xs : List ℕ) → IsDistinct xs → ((i : ℕ) → is_in i xs ≡ true → i < n) → length xs ≤ n
at_most n [] d h = omega arith
at_most zero (x ∷ xs) d h = let l = h x (in_first x xs) in absurd (omega (arith, l))
at_most (suc n) (x ∷ xs) d h =
    let l = at_most n (without n (x ∷ xs)) (distinct_without n (x ∷ xs) d) (λ i e.
    let o = is_other n i (x ∷ xs) e in let k = h i o.among in let ne = o.apart in omega (arith, k, ne)) in
    let k = one_less_at_most n (x ∷ xs) d in omega (arith, l, k)
