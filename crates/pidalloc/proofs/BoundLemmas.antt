-- Bounds on where a free ID is.
use Rattle.std.proofs.Common.{◌≡◌, ℕ, zero, suc, ◌+◌, ◌-◌, ◌<◌, ◌≤◌, Bool, true, false, cond, List, refl, sym, ap, ◌∙◌, arith, find, Some, None, inl, inr}
use Rattle.std.specs.List.{range_with_len}
use Rattle.std.proofs.lemmas.Bool.{cases_eq}
use Rattle.posix.specs.Common.{first_free}
use Rattle.posix.proofs.RangeLemmas.{find_range_none}
use Rattle.pidalloc.specs.Rows.{Row, is_free_row, is_free_in, row_in, rows_in, AreAllBorne}
use Rattle.pidalloc.proofs.TableLemmas.{row_of}

-- ---- searches

-- nothing before the number that is found passes, and that number is in the range
pub before_found : (f : ℕ → Bool) (a n s : ℕ) → find f (range_with_len a n) ≡ Some s → (s < a + n) × ((k : ℕ) → a ≤ k → k < s → f k ≡ false)
before_found f a zero s e = absurd (let none : None ≡ Some s = e in cc)
before_found f a (suc n) s e = elim (f a) as (λ b. f a ≡ b → cond b (Some a) (find f (range_with_len (a + 1) n)) ≡ Some s → (s < a + suc n) × ((k : ℕ) → a ≤ k → k < s → f k ≡ false)) [
  | true ↦ λ here e. let same : a ≡ s = cc in (omega (arith, same), λ k lo hi. absurd (omega (arith, same, lo, hi)))
  | false ↦ λ here e. let r = before_found f (a + 1) n s e in (let end = r.0 in omega (arith, end), λ k lo hi. grind (arith, here, r.1 k))
] refl e

-- if nothing is found, nothing passes
pub none_found : (f : ℕ → Bool) (a n : ℕ) → find f (range_with_len a n) ≡ None → (k : ℕ) → a ≤ k → k < a + n → f k ≡ false
none_found f a zero e k lo hi = absurd (omega (arith, lo, hi))
none_found f a (suc n) e k lo hi = grind (arith, e, λ (e : find f (range_with_len (a + 1) n) ≡ None). none_found f (a + 1) n e k)

-- numbers at the start that don't pass need not be searched
pub find_range_from : (f : ℕ → Bool) (a n b m : ℕ) → a ≤ b → b + m ≡ a + n → ((k : ℕ) → a ≤ k → k < b → f k ≡ false) → find f (range_with_len a n) ≡ find f (range_with_len b m)
find_range_from f a zero b m l e h =
    let k : b ≡ a = omega (arith, l, e) in
    let z : m ≡ 0 = omega (arith, l, e) in
    sym (ap (λ j. find f (range_with_len j m)) k ∙ ap (λ j. find f (range_with_len a j)) z)
find_range_from f a (suc n) b m l e h = elim (cases_eq a b) [
  | inl same ↦ ap (λ k. find f (range_with_len k (suc n))) same ∙ ap (λ k. find f (range_with_len b k)) (let k : suc n ≡ m = omega (arith, same, e) in k)
  | inr ne ↦ rw (h a (omega arith) (omega (arith, l, ne))) (find_range_from f (a + 1) n b m (omega (arith, l, ne)) (omega (arith, e)) (λ k lo hi. h k (omega (arith, lo)) hi))
]

-- ---- rows

pub free_of : (pidmax : ℕ) (pages : List (List Row)) (k : ℕ) → k ≤ pidmax → is_free_in (rows_in pidmax pages) k ≡ is_free_row (row_in pages k)
unfolding is_free_in
free_of pidmax pages k l = ap is_free_row (row_of pidmax pages k l)

-- ---- the searches of a table

-- all IDs above the last one given out are in use
pub none_above : (pidmax last from : ℕ) (pages : List (List Row)) → last ≤ pidmax → from ≤ last + 1 → AreAllBorne pages from (pidmax + 1) → first_free (is_free_in (rows_in pidmax pages)) (last + 1) (pidmax - last) ≡ None
none_above pidmax last from pages given l h = find_range_none _ _ _ (λ k lo hi. free_of pidmax pages k (omega (arith, hi, given)) ∙ h k (omega (arith, lo, l)) (omega (arith, hi, given)))

-- no free ID was found
pub borne_from_none : (pidmax from : ℕ) (pages : List (List Row)) → first_free (is_free_in (rows_in pidmax pages)) from (pidmax + 1 - from) ≡ None → AreAllBorne pages from (pidmax + 1)
borne_from_none pidmax from pages e k lo hi = sym (free_of pidmax pages k (omega (arith, hi))) ∙ none_found (is_free_in (rows_in pidmax pages)) from (pidmax + 1 - from) e k lo (omega (arith, lo, hi))

-- the search for the lowest free ID starts after IDs in use
pub first_from : (pidmax from : ℕ) (pages : List (List Row)) → 2 ≤ from → from ≤ pidmax + 1 → AreAllBorne pages 2 from → first_free (is_free_in (rows_in pidmax pages)) from (pidmax + 1 - from) ≡ first_free (is_free_in (rows_in pidmax pages)) 2 (pidmax - 1)
first_from pidmax from pages least top h = sym (find_range_from (is_free_in (rows_in pidmax pages)) 2 (pidmax - 1) from (pidmax + 1 - from) least (omega (arith, least, top)) (λ k lo hi. free_of pidmax pages k (omega (arith, hi, top)) ∙ h k lo hi))

-- and the IDs before the one that it finds are in use
pub borne_to_found : (pidmax s : ℕ) (pages : List (List Row)) → 2 ≤ pidmax → first_free (is_free_in (rows_in pidmax pages)) 2 (pidmax - 1) ≡ Some s → (s ≤ pidmax + 1) × AreAllBorne pages 2 s
borne_to_found pidmax s pages least e =
    let r = before_found (is_free_in (rows_in pidmax pages)) 2 (pidmax - 1) s e in
    let end = r.0 in
    (omega (arith, end, least), λ k lo hi. sym (free_of pidmax pages k (omega (arith, end, hi, least))) ∙ r.1 k lo hi)

pub borne_to_end : (pidmax : ℕ) (pages : List (List Row)) → 2 ≤ pidmax → first_free (is_free_in (rows_in pidmax pages)) 2 (pidmax - 1) ≡ None → AreAllBorne pages 2 (pidmax + 1)
borne_to_end pidmax pages least e k lo hi = sym (free_of pidmax pages k (omega (arith, hi))) ∙ none_found (is_free_in (rows_in pidmax pages)) 2 (pidmax - 1) e k lo (omega (arith, hi, least))
