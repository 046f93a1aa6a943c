-- The results of a function for the elements of a list, one after another.
use Rattle.std.proofs.Common.{◌≡◌, ◌∙◌, ◌+◌, ◌<◌, ◌≤◌, ℕ, List, [], ◌∷◌, ◌++◌, length, get_or, drop, drop-cons, Bool, true, refl, ap, append_assoc, append-nil, arith}
use Rattle.std.proofs.lemmas.Grind.{common_steps}
use Rattle.std.specs.Prelude.{Result, Ok, Err}
use Rattle.std.specs.List.{list_all}
use Rattle.std.proofs.lemmas.List.Folds.{list_all-append}
use Rattle.text.specs.Reading.{◌>>=◌, each}

-- the elements of one result, and then the element of another result
abbrev pub and_last : {B E : Type 0} → Result (List B) E → Result B E → Result (List B) E
and_last ys y = ys >>= λ front. (y >>= λ last. Ok (front ++ last ∷ []))

before-last : {B E : Type 0} (y : Result B E) (ys : Result (List B) E) (z : Result B E) →
    (y >>= λ b. (and_last ys z >>= λ bs. Ok (b ∷ bs))) ≡ and_last (y >>= λ b. (ys >>= λ bs. Ok (b ∷ bs))) z
before-last (Err e) ys z = refl
before-last (Ok b) (Err e) z = refl
before-last (Ok b) (Ok bs) (Err e) = refl
before-last (Ok b) (Ok bs) (Ok c) = refl

one : {B E : Type 0} (y : Result B E) → (y >>= λ b. Ok (b ∷ [])) ≡ and_last (Ok []) y
one (Ok b) = refl
one (Err e) = refl

-- an element at the end comes last
pub each-last : {A B E : Type 0} (f : A → Result B E) (xs : List A) (x : A) → each f (xs ++ x ∷ []) ≡ and_last (each f xs) (f x)
each-last f [] x = one (f x)
each-last f (a ∷ xs) x = rw (each-last f xs x) (before-last (f a) (each f xs) (f x))

-- if a function succeeds for all elements, and for one more, it succeeds for all of them
pub each-one_more : {A B E : Type 0} (f : A → Result B E) (xs : List A) (x : A) (ys : List B) (y : B) → each f xs ≡ Ok ys → f x ≡ Ok y → each f (xs ++ x ∷ []) ≡ Ok (ys ++ y ∷ [])
each-one_more f xs x ys y all one = each-last f xs x ∙ rw (all, one) refl

after-first : {B E : Type 0} (y : B) (front : List B) (r : Result (List B) E) →
    ((r >>= λ ys. Ok (y ∷ ys)) >>= λ rest. Ok (front ++ rest)) ≡ (r >>= λ rest. Ok ((front ++ y ∷ []) ++ rest))
after-first y front (Ok ys) = rw append_assoc refl
after-first y front (Err e) = refl

-- A loop at index `i`, where the result of the next element is `y`, reaches `i + 1`.
pub each-next : {A B E : Type 0} (f : A → Result B E) (xs : List A) (i : ℕ) (x : A) (y : B) (front : List B) (whole : Result (List B) E) →
    i < length xs → x ≡ get_or xs i x → f x ≡ Ok y → whole ≡ (each f (drop i xs) >>= λ rest. Ok (front ++ rest)) →
    whole ≡ (each f (drop (i + 1) xs) >>= λ rest. Ok ((front ++ y ∷ []) ++ rest))
each-next f xs i x y front whole below is gives so =
    let split : drop i xs ≡ x ∷ drop (i + 1) xs = grind (arith, drop-cons xs i x) in
    so ∙ (ap (λ l. each f l >>= λ rest. Ok (front ++ rest)) split ∙ (ap (λ r. (r >>= λ b. (each f (drop (i + 1) xs) >>= λ ys. Ok (b ∷ ys))) >>= λ rest. Ok (front ++ rest)) gives ∙ after-first y front (each f (drop (i + 1) xs))))

-- A loop at index `i`, where the next element is rejected, returns the error.
pub each-refused : {A B E : Type 0} (f : A → Result B E) (xs : List A) (i : ℕ) (x : A) (e : E) (front : List B) (whole : Result (List B) E) →
    i < length xs → x ≡ get_or xs i x → f x ≡ Err e → whole ≡ (each f (drop i xs) >>= λ rest. Ok (front ++ rest)) → whole ≡ Err e
each-refused f xs i x e front whole below is refused so =
    let split : drop i xs ≡ x ∷ drop (i + 1) xs = grind (arith, drop-cons xs i x) in
    so ∙ (ap (λ l. each f l >>= λ rest. Ok (front ++ rest)) split ∙ ap (λ r. (r >>= λ b. (each f (drop (i + 1) xs) >>= λ ys. Ok (b ∷ ys))) >>= λ rest. Ok (front ++ rest)) refused)

-- A loop at the end returns its elements.
pub each-ends : {A B E : Type 0} (f : A → Result B E) (xs : List A) (i : ℕ) (front : List B) (whole : Result (List B) E) →
    length xs ≤ i → whole ≡ (each f (drop i xs) >>= λ rest. Ok (front ++ rest)) → whole ≡ Ok front
each-ends f xs i front whole above so =
    let none : drop i xs ≡ [] = grind (arith, common_steps) in
    so ∙ (ap (λ l. each f l >>= λ rest. Ok (front ++ rest)) none ∙ ap Ok (append-nil front))

pub ruleset each_rules = (each-last)

-- if all elements pass a test, and one more passes it, all of them pass it
pub all_and_one : {A : Type 0} (t : A → Bool) (xs : List A) (x : A) → list_all t xs ≡ true → t x ≡ true → list_all t (xs ++ x ∷ []) ≡ true
all_and_one t xs x all one = rw (list_all-append t xs (x ∷ []), all, one) refl
