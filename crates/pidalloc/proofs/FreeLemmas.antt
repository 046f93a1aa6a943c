-- The search for a free ID.
use Rattle.std.proofs.Common.{◌≡◌, ℕ, zero, suc, ◌+◌, ◌-◌, ◌<◌, ◌≤◌, Bool, cond, refl, ap, ◌∙◌, arith, find, Some}
use Rattle.std.specs.Option.{option_or}
use Rattle.std.specs.List.{range_with_len}
use Rattle.posix.specs.Common.{first_free, next_free}

find_range_same : (f g : ℕ → Bool) (a n : ℕ) → ((k : ℕ) → a ≤ k → k < a + n → f k ≡ g k) → find f (range_with_len a n) ≡ find g (range_with_len a n)
find_range_same f g a zero h = refl
find_range_same f g a (suc n) h = rw (h a (omega arith) (omega arith)) (ap (λ o. cond (g a) (Some a) o) (find_range_same f g (a + 1) n (λ k lo hi. h k (omega arith) (omega arith))))

-- only the IDs up to pidmax count
pub next_free_same : (f g : ℕ → Bool) (last pidmax : ℕ) → ((k : ℕ) → k ≤ pidmax → f k ≡ g k) → next_free f last pidmax ≡ next_free g last pidmax
unfolding next_free
next_free_same f g last pidmax h =
    ap (λ o. option_or o (first_free f 2 (pidmax - 1))) (find_range_same f g (last + 1) (pidmax - last) (λ k lo hi. h k (omega (arith, lo, hi))))
    ∙ ap (λ o. option_or (first_free g (last + 1) (pidmax - last)) o) (find_range_same f g 2 (pidmax - 1) (λ k lo hi. h k (omega (arith, lo, hi))))
