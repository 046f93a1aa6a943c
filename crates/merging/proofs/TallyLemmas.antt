-- Laws of tallies: which schedule comes first, the sum of two, and what follows a beginning.
use Rattle.std.proofs.Common.{◌≡◌, ℕ, suc, ◌+◌, ◌*◌, ◌==◌, Bool, true, false, ◌&&◌, ◌||◌, cond, Option, Some, None, [], ◌∷◌, ◌++◌, length, length-append, refl, ap, ap₂, sym, ◌∙◌, append_assoc, append-nil, arith}
use Rattle.std.specs.Prelude.{nat_lt, option_map}
use Rattle.std.proofs.lemmas.Bool.Decides.{nat_tests}
use Rattle.schedules.specs.Families.{Spots}
use Rattle.counting.specs.Tallies.{TallyView, both, first_of, first_of_two, is_before, is_earlier, no_schedules}
use Rattle.merging.specs.Merging.{behind, from_spot, one_if}

-- ---- which comes first

-- First by two numbers, and if these are equal, by more.

step_self : (p : ℕ) (a : Bool) → a ≡ false → (nat_lt p p || (p == p && a)) ≡ false
step_self p a e = grind (arith, nat_tests)

step_then : (p q r : ℕ) (a b c : Bool) → (a ≡ true → b ≡ true → c ≡ true) → (nat_lt p q || (p == q && a)) ≡ true → (nat_lt q r || (q == r && b)) ≡ true
    → (nat_lt p r || (p == r && c)) ≡ true
step_then p q r a b c more e f = grind (arith, nat_tests)

step_same : (p q : ℕ) (a b : Bool) → (nat_lt p q || (p == q && a)) ≡ false → (nat_lt q p || (q == p && b)) ≡ false → (p ≡ q) × (a ≡ false) × (b ≡ false)
step_same p q a b e f = grind (arith, nat_tests)

step_more : (p q : ℕ) (a : Bool) → (nat_lt (suc p) (suc q) || (suc p == suc q && a)) ≡ (nat_lt p q || (p == q && a))
step_more p q a = grind (arith, nat_tests)

pub step_equal : (p q : ℕ) (a : Bool) → p ≡ q → (nat_lt p q || (p == q && a)) ≡ a
step_equal p q a e = grind (arith, nat_tests)

-- Of equally long lists of spots.

earlier_self : (ps : Spots) → is_earlier ps ps ≡ false
earlier_self [] = refl
earlier_self (p ∷ ps) = step_self p (is_earlier ps ps) (earlier_self ps)

earlier_then : (ps qs rs : Spots) → is_earlier ps qs ≡ true → is_earlier qs rs ≡ true → is_earlier ps rs ≡ true
earlier_then [] qs rs e f = cc
earlier_then (p ∷ ps) [] rs e f = cc
earlier_then (p ∷ ps) (q ∷ qs) [] e f = cc
earlier_then (p ∷ ps) (q ∷ qs) (r ∷ rs) e f = step_then p q r (is_earlier ps qs) (is_earlier qs rs) (is_earlier ps rs) (earlier_then ps qs rs) e f

earlier_same : (ps qs : Spots) → length ps ≡ length qs → is_earlier ps qs ≡ false → is_earlier qs ps ≡ false → ps ≡ qs
earlier_same [] [] l e f = refl
earlier_same [] (q ∷ qs) l e f = absurd (omega (arith, l))
earlier_same (p ∷ ps) [] l e f = absurd (omega (arith, l))
earlier_same (p ∷ ps) (q ∷ qs) l e f =
    let s = step_same p q (is_earlier ps qs) (is_earlier qs ps) e f in
    ap₂ (λ x xs. x ∷ xs) s.0 (earlier_same ps qs (omega (arith, l)) s.1 s.2)

earlier_behind : (ps qs rs : Spots) → length ps ≡ length qs → is_earlier (ps ++ rs) (qs ++ rs) ≡ is_earlier ps qs
earlier_behind [] [] rs l = earlier_self rs
earlier_behind [] (q ∷ qs) rs l = absurd (omega (arith, l))
earlier_behind (p ∷ ps) [] rs l = absurd (omega (arith, l))
earlier_behind (p ∷ ps) (q ∷ qs) rs l = ap (λ b. nat_lt p q || (p == q && b)) (earlier_behind ps qs rs (omega (arith, l)))

-- Of all lists.

pub before_self : (ps : Spots) → is_before ps ps ≡ false
before_self ps = step_self (length ps) (is_earlier ps ps) (earlier_self ps)

pub before_then : (ps qs rs : Spots) → is_before ps qs ≡ true → is_before qs rs ≡ true → is_before ps rs ≡ true
before_then ps qs rs e f = step_then (length ps) (length qs) (length rs) (is_earlier ps qs) (is_earlier qs rs) (is_earlier ps rs) (earlier_then ps qs rs) e f

pub before_same : (ps qs : Spots) → is_before ps qs ≡ false → is_before qs ps ≡ false → ps ≡ qs
before_same ps qs e f =
    let s = step_same (length ps) (length qs) (is_earlier ps qs) (is_earlier qs ps) e f in
    earlier_same ps qs s.0 s.1 s.2

pub before_one_way : (ps qs : Spots) → is_before ps qs ≡ true → is_before qs ps ≡ false
before_one_way ps qs e = by (is_before qs ps) refl
  where
    by : (b : Bool) → is_before qs ps ≡ b → b ≡ false
    by false f = refl
    by true f = let no = sym (before_self ps) ∙ before_then ps qs ps e f in cc

-- With the same spot in front of both, or the same spots.
before_spot : (p : ℕ) (ps qs : Spots) → is_before (p ∷ ps) (p ∷ qs) ≡ is_before ps qs
before_spot p ps qs =
    step_more (length ps) (length qs) (nat_lt p p || (p == p && is_earlier ps qs))
    ∙ ap (λ b. nat_lt (length ps) (length qs) || (length ps == length qs && b)) (step_equal p p (is_earlier ps qs) refl)

before_begun : (begun ps qs : Spots) → is_before (begun ++ ps) (begun ++ qs) ≡ is_before ps qs
before_begun [] ps qs = refl
before_begun (p ∷ begun) ps qs = before_spot p (begun ++ ps) (begun ++ qs) ∙ before_begun begun ps qs

-- With the same spots after two equally long lists.
before_behind : (ps qs rs : Spots) → length ps ≡ length qs → is_before (ps ++ rs) (qs ++ rs) ≡ is_before ps qs
before_behind ps qs rs l =
    step_equal (length (ps ++ rs)) (length (qs ++ rs)) (is_earlier (ps ++ rs) (qs ++ rs)) (omega (arith, l, length-append ps rs, length-append qs rs))
    ∙ earlier_behind ps qs rs l
    ∙ sym (step_equal (length ps) (length qs) (is_earlier ps qs) l)

-- ---- the first of two

pub first_if_before : (ps qs : Spots) → is_before ps qs ≡ true → first_of_two ps qs ≡ ps
first_if_before ps qs e = ap (λ b. cond b qs ps) (before_one_way ps qs e)

two_swapped : (ps qs : Spots) → first_of_two ps qs ≡ first_of_two qs ps
two_swapped ps qs = by (is_before qs ps) (is_before ps qs) refl refl
  where
    by : (b c : Bool) → is_before qs ps ≡ b → is_before ps qs ≡ c → cond b qs ps ≡ cond c ps qs
    by true true e f = let no = sym (before_one_way qs ps e) ∙ f in cc
    by true false e f = refl
    by false true e f = refl
    by false false e f = before_same ps qs f e

-- If a schedule is not before another, it isn't before one that comes no later.
not_before_then : (ps qs rs : Spots) → is_before qs ps ≡ false → is_before rs qs ≡ false → is_before rs ps ≡ false
not_before_then ps qs rs e f = by (is_before rs ps) (is_before qs rs) refl refl
  where
    by : (b c : Bool) → is_before rs ps ≡ b → is_before qs rs ≡ c → b ≡ false
    by false c g h = refl
    by true true g h = let no = sym e ∙ before_then qs rs ps h g in cc
    by true false g h = let no = sym e ∙ ap (λ xs. is_before xs ps) (before_same qs rs h f) ∙ g in cc

two_regrouped : (ps qs rs : Spots) → first_of_two (first_of_two ps qs) rs ≡ first_of_two ps (first_of_two qs rs)
two_regrouped ps qs rs = by (is_before qs ps) (is_before rs qs) refl refl
  where
    by : (b c : Bool) → is_before qs ps ≡ b → is_before rs qs ≡ c → first_of_two (cond b qs ps) rs ≡ first_of_two ps (cond c rs qs)
    by true true e f = ap (λ d. cond d rs qs) f ∙ sym (ap (λ d. cond d rs ps) (before_then rs qs ps f e))
    by true false e f = ap (λ d. cond d rs qs) f ∙ sym (ap (λ d. cond d qs ps) e)
    by false true e f = refl
    by false false e f = ap (λ d. cond d rs ps) (not_before_then ps qs rs e f) ∙ sym (ap (λ d. cond d qs ps) e)

first_swapped : (a b : Option Spots) → first_of a b ≡ first_of b a
first_swapped None None = refl
first_swapped None (Some qs) = refl
first_swapped (Some ps) None = refl
first_swapped (Some ps) (Some qs) = ap (λ xs. Some xs) (two_swapped ps qs)

first_regrouped : (a b c : Option Spots) → first_of (first_of a b) c ≡ first_of a (first_of b c)
first_regrouped None b c = refl
first_regrouped (Some ps) None c = refl
first_regrouped (Some ps) (Some qs) None = refl
first_regrouped (Some ps) (Some qs) (Some rs) = ap (λ xs. Some xs) (two_regrouped ps qs rs)

pub first_begun : (begun : Spots) (a b : Option Spots) → option_map (λ ps. begun ++ ps) (first_of a b) ≡ first_of (option_map (λ ps. begun ++ ps) a) (option_map (λ ps. begun ++ ps) b)
first_begun begun None b = refl
first_begun begun (Some ps) None = refl
first_begun begun (Some ps) (Some qs) = ap (λ xs. Some xs) (by (is_before qs ps) ∙ ap (λ b. cond b (begun ++ qs) (begun ++ ps)) (sym (before_begun begun qs ps)))
  where
    by : (b : Bool) → begun ++ cond b qs ps ≡ cond b (begun ++ qs) (begun ++ ps)
    by true = refl
    by false = refl

first_meets : (q r : Spots) (o : Option Spots) → length q ≡ length r
    → first_of (option_map (λ ps. q ++ ps) o) (option_map (λ ps. r ++ ps) o) ≡ option_map (λ ps. first_of_two q r ++ ps) o
first_meets q r None l = refl
first_meets q r (Some ps) l = ap (λ xs. Some xs) (ap (λ b. cond b (r ++ ps) (q ++ ps)) (before_behind r q ps (sym l)) ∙ by (is_before r q))
  where
    by : (b : Bool) → cond b (r ++ ps) (q ++ ps) ≡ cond b r q ++ ps
    by true = refl
    by false = refl

-- ---- of both

pub both_swapped : (a b : TallyView) → both a b ≡ both b a
both_swapped a b = ap₂ (λ c o. record { count = c; first = o }) (omega arith) (first_swapped a.first b.first)

pub both_regrouped : (a b c : TallyView) → both (both a b) c ≡ both a (both b c)
both_regrouped a b c = ap₂ (λ n o. record { count = n; first = o }) (omega arith) (first_regrouped a.first b.first c.first)

pub none_and : (a : TallyView) → both no_schedules a ≡ a
none_and a = ap₂ (λ n o. record { count = n; first = o }) (omega arith) refl

pub and_none : (a : TallyView) → both a no_schedules ≡ a
and_none a = both_swapped a no_schedules ∙ none_and a

-- The first two are exchanged.
pub exchanged : (a b c : TallyView) → both a (both b c) ≡ both b (both a c)
exchanged a b c = sym (both_regrouped a b c) ∙ ap (λ t. both t c) (both_swapped a b) ∙ both_regrouped b a c

pub swapped_last : (a b c : TallyView) → both (both a b) c ≡ both (both a c) b
swapped_last a b c = both_regrouped a b c ∙ ap (both a) (both_swapped b c) ∙ sym (both_regrouped a c b)

pub two_by_two : (a b c d : TallyView) → both (both a b) (both c d) ≡ both (both a c) (both b d)
two_by_two a b c d = both_regrouped a b (both c d) ∙ ap (both a) (exchanged b c d) ∙ sym (both_regrouped a c (both b d))

-- ---- after a beginning

pub behind_both : (c : ℕ) (q : Spots) (a b : TallyView) → behind c q (both a b) ≡ both (behind c q a) (behind c q b)
behind_both c q a b = ap₂ (λ n o. record { count = n; first = o }) (omega arith) (first_begun q a.first b.first)

pub behind_none : (c : ℕ) (q : Spots) → behind c q no_schedules ≡ no_schedules
behind_none c q = ap₂ (λ n o. record { count = n; first = o }) (omega arith) refl

pub behind_place : (c : ℕ) (q : Spots) (p : ℕ) (t : TallyView) → behind c q (from_spot p t) ≡ behind c (q ++ p ∷ []) t
behind_place c q p t = ap (λ o. record { count = c * t.count; first = o }) (by t.first)
  where
    by : (o : Option Spots) → option_map (λ ps. q ++ ps) (option_map (λ ps. p ∷ ps) o) ≡ option_map (λ ps. (q ++ p ∷ []) ++ ps) o
    by None = refl
    by (Some ps) = ap (λ xs. Some xs) (sym (append_assoc q (p ∷ []) ps))

-- Two beginnings of equally many spots are joined.
pub behind_meets : (c d : ℕ) (q r : Spots) (t : TallyView) → length q ≡ length r → both (behind c q t) (behind d r t) ≡ behind (c + d) (first_of_two q r) t
behind_meets c d q r t l = ap₂ (λ n o. record { count = n; first = o }) (omega arith) (first_meets q r t.first l)

pub behind_nothing : (t : TallyView) → behind 1 [] t ≡ t
behind_nothing t = ap₂ (λ n o. record { count = n; first = o }) (omega arith) (by t.first)
  where
    by : (o : Option Spots) → option_map (λ ps. [] ++ ps) o ≡ o
    by None = refl
    by (Some ps) = refl

pub behind_true : (c : ℕ) (q : Spots) → behind c q (one_if true) ≡ record { count = c; first = Some q }
behind_true c q = ap₂ (λ n (xs : Spots). record { count = n; first = Some xs }) (omega arith) (append-nil q)

pub behind_false : (c : ℕ) (q : Spots) → behind c q (one_if false) ≡ no_schedules
behind_false c q = behind_none c q
