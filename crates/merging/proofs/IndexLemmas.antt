-- Elements of a list by their index, after one is replaced or added.
use Rattle.std.proofs.Common.{◌≡◌, ℕ, zero, suc, ◌<◌, inl, inr, ◌⊎◌, List, [], ◌∷◌, ◌++◌, length, map, Some, refl, ap, sym, ◌∙◌, arith, get_or, slice_get, slice_set, option_map}
use Rattle.std.proofs.Math.Seq.{map-set_same}
use Rattle.std.proofs.lemmas.Option.{get_or_from_slice_get, slice_get-map}

pub put_there : {X : Type 0} (xs : List X) (i : ℕ) (x : X) → i < length xs → slice_get (slice_set xs i x) i ≡ Some x
put_there [] i x l = absurd (omega arith)
put_there (y ∷ xs) zero x l = refl
put_there (y ∷ xs) (suc i) x l = put_there xs i x (omega arith)

-- One is replaced: this one is it, or is another one, which was there before.
pub put_cases : {X : Type 0} (xs : List X) (i j : ℕ) (x y : X) → slice_get (slice_set xs i x) j ≡ Some y → ((j ≡ i) × (x ≡ y)) ⊎ ((j ≡ i → ⊥) × (slice_get xs j ≡ Some y))
put_cases [] i j x y e = cc
put_cases (z ∷ xs) zero zero x y e = inl (refl, cc)
put_cases (z ∷ xs) zero (suc j) x y e = inr ((λ (h : suc j ≡ zero). omega (arith, h)), e)
put_cases (z ∷ xs) (suc i) zero x y e = inr ((λ (h : zero ≡ suc i). omega (arith, h)), e)
put_cases (z ∷ xs) (suc i) (suc j) x y e = by (put_cases xs i j x y e)
  where
    by : ((j ≡ i) × (x ≡ y)) ⊎ ((j ≡ i → ⊥) × (slice_get xs j ≡ Some y)) → ((suc j ≡ suc i) × (x ≡ y)) ⊎ ((suc j ≡ suc i → ⊥) × (slice_get xs j ≡ Some y))
    by (inl (at, is)) = inl (ap suc at, is)
    by (inr (apart, h)) = inr ((λ (s : suc j ≡ suc i). apart (omega (arith, s))), h)

-- One is added after the others.
pub push_cases : {X : Type 0} (xs : List X) (i : ℕ) (x y : X) → slice_get (xs ++ x ∷ []) i ≡ Some y → ((i ≡ length xs) × (x ≡ y)) ⊎ (slice_get xs i ≡ Some y)
push_cases [] zero x y e = inl (refl, cc)
push_cases [] (suc i) x y e = cc
push_cases (z ∷ xs) zero x y e = inr e
push_cases (z ∷ xs) (suc i) x y e = by (push_cases xs i x y e)
  where
    by : ((i ≡ length xs) × (x ≡ y)) ⊎ (slice_get xs i ≡ Some y) → ((suc i ≡ suc (length xs)) × (x ≡ y)) ⊎ (slice_get xs i ≡ Some y)
    by (inl (at, is)) = inl (ap suc at, is)
    by (inr h) = inr h

pub last_there : {X : Type 0} (xs : List X) (x : X) → slice_get (xs ++ x ∷ []) (length xs) ≡ Some x
last_there [] x = refl
last_there (y ∷ xs) x = last_there xs x

pub still_there : {X : Type 0} (xs ys : List X) (i : ℕ) (x : X) → slice_get xs i ≡ Some x → slice_get (xs ++ ys) i ≡ Some x
still_there [] ys i x e = cc
still_there (y ∷ xs) ys zero x e = e
still_there (y ∷ xs) ys (suc i) x e = still_there xs ys i x e

-- One is replaced by another of which the function gives the same.
pub map_put : {A B : Type 0} (f : A → B) (xs : List A) (i : ℕ) (x y : A) → slice_get xs i ≡ Some x → f y ≡ f x → map f (slice_set xs i y) ≡ map f xs
map_put f xs i x y e same = map-set_same f xs i y x (same ∙ ap f (sym (get_or_from_slice_get xs i x x e)))

pub map_there : {A B : Type 0} (f : A → B) (xs : List A) (i : ℕ) (x : A) → slice_get xs i ≡ Some x → slice_get (map f xs) i ≡ Some (f x)
map_there f xs i x e = slice_get-map f xs i ∙ ap (option_map f) e

-- The element that a mapped list has comes from one of the list.
pub map_from : {A B : Type 0} (f : A → B) (xs : List A) (i : ℕ) (y : B) → slice_get (map f xs) i ≡ Some y → (x : A) × (slice_get xs i ≡ Some x) × (f x ≡ y)
map_from f [] i y e = cc
map_from f (x ∷ xs) zero y e = (x, refl, cc)
map_from f (x ∷ xs) (suc i) y e = map_from f xs i y e

-- The element that is read there.
pub read_there : {X : Type 0} (xs : List X) (i : ℕ) (x y : X) → slice_get xs i ≡ Some x → y ≡ get_or xs i y → slice_get xs i ≡ Some y
read_there xs i x y e is = e ∙ ap (λ z. Some z) (sym (is ∙ get_or_from_slice_get xs i x y e))

pub same_there : {X : Type 0} (xs : List X) (i : ℕ) (x y : X) → slice_get xs i ≡ Some x → slice_get xs i ≡ Some y → x ≡ y
same_there xs i x y e f = cc
