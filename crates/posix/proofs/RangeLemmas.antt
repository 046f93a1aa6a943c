-- Searches through ranges of numbers.
use Rattle.std.proofs.Common.{◌≡◌, ℕ, zero, suc, ◌+◌, ◌<◌, ◌≤◌, Bool, true, false, cond, refl, ap, sym, ◌∙◌, arith, find, Option, Some, None, IsSome, IfSome, inl, inr}
use Rattle.std.specs.List.{range_with_len}
use Rattle.std.proofs.lemmas.Bool.{cases_eq}

-- who is found in a range passes, and is in it
pub find_range : (f : ℕ → Bool) (a n k : ℕ) → find f (range_with_len a n) ≡ Some k → (f k ≡ true) × (a ≤ k) × (k < a + n)
find_range f a zero k e = absurd (cc)
find_range f a (suc n) k e = elim (f a) as (λ b. f a ≡ b → cond b (Some a) (find f (range_with_len (a + 1) n)) ≡ Some k → (f k ≡ true) × (a ≤ k) × (k < a + suc n)) [
  | true ↦ λ t h. let same : a ≡ k = cc in (ap f (sym same) ∙ t, omega (arith, same), omega (arith, same))
  | false ↦ λ t h. let i = find_range f (a + 1) n k h in (i.0, omega (arith, i.1), omega (arith, i.2))
] refl e

-- where no number of a range passes none is found
pub find_range_none : (f : ℕ → Bool) (a n : ℕ) → ((k : ℕ) → a ≤ k → k < a + n → f k ≡ false) → find f (range_with_len a n) ≡ None
find_range_none f a zero h = refl
find_range_none f a (suc n) h = rw (h a (omega arith) (omega arith)) (find_range_none f (a + 1) n (λ k lo hi. h k (omega arith) (omega arith)))

-- the first number that passes is found
pub find_range_first : (f : ℕ → Bool) (a n s : ℕ) → a ≤ s → s < a + n → ((k : ℕ) → a ≤ k → k < s → f k ≡ false) → f s ≡ true → find f (range_with_len a n) ≡ Some s
find_range_first f a zero s lo hi h e = absurd (omega arith)
find_range_first f a (suc n) s lo hi h e = elim (cases_eq a s) [
  | inl same ↦ rw (same, e) refl
  | inr ne ↦ rw (h a (omega arith) (omega arith)) (find_range_first f (a + 1) n s (omega arith) (omega arith) (λ k l u. h k (omega arith) u) e)
]

-- a number that there is, and that can be n alone
pub is_that : (o : Option ℕ) (n : ℕ) → IsSome o → IfSome o (λ p. p ≡ n) → o ≡ Some n
is_that None n some e = absurd (cc)
is_that (Some p) n some e = ap Some e
