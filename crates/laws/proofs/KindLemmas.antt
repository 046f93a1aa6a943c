-- What each change of a record keeps of its kinds.
use Rattle.std.proofs.Common.{◌≡◌, ℕ, zero, suc, ◌-◌, ◌≤◌, ◌<◌, Bool, true, false, refl, arith, subst, List, [], ◌∷◌, ◌++◌, ◌∙◌, map, take, drop, replicate, Some, ℤ, pos, negsuc, nat_lt}
use Rattle.std.specs.Prelude.{slice_set, slice_index_or, slice_get, int_rem, unsigned_abs}
use Rattle.std.specs.Int.{w64, cast_signed}
use Rattle.std.specs.List.{list_all}
use Rattle.std.proofs.lemmas.Bool.{and_parts, leb-true}
pub use Rattle.std.proofs.lemmas.Bool.{and_from as and_both}
use Rattle.std.proofs.lemmas.Bool.Decides.{nat_tests}
use Rattle.std.proofs.lemmas.List.Folds.{list_all-append}
use Rattle.std.proofs.lemmas.Int.{rem_below}
use mir.Val.{sel}
use Rattle.posix.specs.Common.{is_i64, is_id}

-- ---- lists

pub all_set : {A : Type 0} (t : A → Bool) (xs : List A) (i : ℕ) (x : A) → list_all t xs ≡ true → t x ≡ true → list_all t (slice_set xs i x) ≡ true
all_set t [] i x h k = h
all_set t (y ∷ ys) zero x h k = let p = and_parts (t y) (list_all t ys) h in and_both (t x) (list_all t ys) k p.1
all_set t (y ∷ ys) (suc i) x h k = let p = and_parts (t y) (list_all t ys) h in and_both (t y) (list_all t (slice_set ys i x)) p.0 (all_set t ys i x p.1 k)

pub all_get : {A : Type 0} (t : A → Bool) (xs : List A) (i : ℕ) (d : A) → list_all t xs ≡ true → t d ≡ true → t (slice_index_or xs i d) ≡ true
all_get t [] i d h k = k
all_get t (y ∷ ys) zero d h k = (and_parts (t y) (list_all t ys) h).0
all_get t (y ∷ ys) (suc i) d h k = all_get t ys i d (and_parts (t y) (list_all t ys) h).1 k

pub all_found : {A : Type 0} (t : A → Bool) (xs : List A) (i : ℕ) (x : A) → list_all t xs ≡ true → slice_get xs i ≡ Some x → t x ≡ true
all_found t [] i x h e = absurd (cc)
all_found t (y ∷ ys) zero x h e = let same : y ≡ x = cc in subst (λ z. t z ≡ true) same (and_parts (t y) (list_all t ys) h).0
all_found t (y ∷ ys) (suc i) x h e = all_found t ys i x (and_parts (t y) (list_all t ys) h).1 e

pub all_append : {A : Type 0} (t : A → Bool) (xs ys : List A) → list_all t xs ≡ true → list_all t ys ≡ true → list_all t (xs ++ ys) ≡ true
all_append t xs ys h k = list_all-append t xs ys ∙ and_both (list_all t xs) (list_all t ys) h k

pub all_take : {A : Type 0} (t : A → Bool) (n : ℕ) (xs : List A) → list_all t xs ≡ true → list_all t (take n xs) ≡ true
all_take t zero xs h = refl
all_take t (suc n) [] h = h
all_take t (suc n) (x ∷ xs) h = let p = and_parts (t x) (list_all t xs) h in and_both (t x) (list_all t (take n xs)) p.0 (all_take t n xs p.1)

pub all_drop : {A : Type 0} (t : A → Bool) (n : ℕ) (xs : List A) → list_all t xs ≡ true → list_all t (drop n xs) ≡ true
all_drop t zero xs h = h
all_drop t (suc n) [] h = h
all_drop t (suc n) (x ∷ xs) h = all_drop t n xs (and_parts (t x) (list_all t xs) h).1

pub all_map : {A B : Type 0} (t : A → Bool) (u : B → Bool) (f : A → B) → ((x : A) → t x ≡ true → u (f x) ≡ true) → (xs : List A) → list_all t xs ≡ true → list_all u (map f xs) ≡ true
all_map t u f keeps [] h = refl
all_map t u f keeps (x ∷ xs) h = let p = and_parts (t x) (list_all t xs) h in and_both (u (f x)) (list_all u (map f xs)) (keeps x p.0) (all_map t u f keeps xs p.1)

pub all_same : {A : Type 0} (t : A → Bool) (n : ℕ) (x : A) → t x ≡ true → list_all t (replicate n x) ≡ true
all_same t zero x h = refl
all_same t (suc n) x h = and_both (t x) (list_all t (replicate n x)) h (all_same t n x h)

-- ---- numbers

pub small_i64 : (n : ℕ) → n < 9223372036854775808 → is_i64 (pos n) ≡ true
small_i64 n h = grind (arith, nat_tests, h)

pub id_i64 : (n : ℕ) → is_id n ≡ true → is_i64 (pos n) ≡ true
id_i64 n h = let l = leb-true n 2147483647 h in small_i64 n (omega (arith, l))

-- whatever bits a word has, it is an i64
pub cast_i64 : (n : ℕ) → is_i64 (cast_signed w64 n) ≡ true
cast_i64 n = elim (nat_lt n 9223372036854775808) as (λ b. nat_lt n 9223372036854775808 ≡ b → is_i64 (sel b (pos n) (negsuc (18446744073709551616 - suc n))) ≡ true) [
  | true ↦ λ t. t
  | false ↦ λ t. let few : 18446744073709551616 - suc n < 9223372036854775808 = high t in grind (arith, nat_tests, few)
] refl
  where
    high : nat_lt n 9223372036854775808 ≡ false → 18446744073709551616 - suc n < 9223372036854775808
    high t = let most : 9223372036854775808 ≤ n = grind (arith, nat_tests, t) in omega (arith, most)

-- so is a remainder
pub rem_i64 : (x y : ℤ) → 0 < unsigned_abs y → is_i64 y ≡ true → is_i64 (int_rem x y) ≡ true
rem_i64 x y some h = small (int_rem x y) (unsigned_abs y) (rem_below x y some) (most y h)
  where
    most : (y : ℤ) → is_i64 y ≡ true → unsigned_abs y ≤ 9223372036854775808
    most (pos n) h = let l : n < 9223372036854775808 = grind (arith, nat_tests, h) in omega (arith, l)
    most (negsuc n) h = let l : n < 9223372036854775808 = grind (arith, nat_tests, h) in omega (arith, l)

    small : (z : ℤ) (m : ℕ) → unsigned_abs z < m → m ≤ 9223372036854775808 → is_i64 z ≡ true
    small (pos n) m l k = let few : n < 9223372036854775808 = omega (arith, l, k) in grind (arith, nat_tests, few)
    small (negsuc n) m l k = let few : n < 9223372036854775808 = omega (arith, l, k) in grind (arith, nat_tests, few)
