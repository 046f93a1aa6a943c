-- A walk over numbers in rising order, some of which may be removed.
use Rattle.std.proofs.Common.{◌≡◌, ℕ, ◌<◌, ◌==◌, true, false, cond, refl, ap, sym, ◌∙◌, arith, subst, List, [], ◌∷◌, ◌++◌, filter, Bool, Option, Some, None, slice_get, append_assoc}
use Rattle.std.specs.Option.{IfSome}
use Rattle.std.proofs.lemmas.Bool.{or_right}
use Rattle.std.proofs.lemmas.Bool.Decides.{nat_tests}
use Rattle.std.proofs.lemmas.Option.{IfSome_then}
use Rattle.posix.specs.Common.{is_in, without}
use Rattle.posix.proofs.MemberLemmas.{in_first}
use Rattle.pidset.specs.Numbers.{Rises, numbers_above}
use Rattle.pidset.proofs.NumberLemmas.{AllAbove, IsLeastAbove, in_above, next_is, rises_without}

-- ---- the numbers after one of them

-- if all are above n, they are the numbers above n
pub all_above : (n : ℕ) (ns : List ℕ) → AllAbove n ns → numbers_above n ns ≡ ns
all_above n [] a = refl
all_above n (m ∷ ms) a = let less = a.0 in let rest = all_above n ms a.1 in grind (arith, less, rest)

-- n is none of them
none_out : (n : ℕ) (ns : List ℕ) → AllAbove n ns → without n ns ≡ ns
unfolding without
none_out n [] a = refl
none_out n (m ∷ ms) a = grind (arith, a.0, none_out n ms a.1)

in_middle : (before : List ℕ) (g : ℕ) (rest : List ℕ) → is_in g (before ++ g ∷ rest) ≡ true
unfolding is_in
in_middle [] g rest = in_first g rest
in_middle (b ∷ before) g rest = or_right (b == g) _ (in_middle before g rest)

-- in rising numbers, those above one are those after it
pub above_rest : (before : List ℕ) (g : ℕ) (rest : List ℕ) → Rises (before ++ g ∷ rest) → numbers_above g (before ++ g ∷ rest) ≡ rest
unfolding Rises
above_rest [] g rest up = let all = all_above g rest up.0 in grind (arith, all)
above_rest (b ∷ before) g rest up = grind (arith, in_above b g (before ++ g ∷ rest) up.0 (in_middle before g rest), above_rest before g rest up.1)

-- and so they are after it is removed
above_without : (g : ℕ) (ns : List ℕ) → numbers_above g (without g ns) ≡ numbers_above g ns
unfolding without
above_without g [] = refl
above_without g (n ∷ ns) = grind (arith, nat_tests, above_without g ns)

-- the others stay when one is removed
pub without_one : (before : List ℕ) (g : ℕ) (rest : List ℕ) → Rises (before ++ g ∷ rest) → without g (before ++ g ∷ rest) ≡ before ++ rest
unfolding Rises without
without_one [] g rest up = grind (arith, none_out g rest up.0)
without_one (b ∷ before) g rest up = grind (arith, in_above b g (before ++ g ∷ rest) up.0 (in_middle before g rest), without_one before g rest up.1)

-- ---- a walk over them

-- the state of a walk: the numbers done, and those left, the first of which comes next
pub record IsWalking (ns done left : List ℕ) (next : Option ℕ) : Type 0 where
  pub rising : Rises ns
  pub parts : done ++ left ≡ ns
  pub comes : next ≡ slice_get left 0

-- the next number is the first of those left
pub record AtNumber (left : List ℕ) (g : ℕ) : Type 0 where
  pub rest : List ℕ
  pub is : left ≡ g ∷ rest

at_number : (left : List ℕ) (g : ℕ) → slice_get left 0 ≡ Some g → AtNumber left g
at_number [] g e = absurd (cc)
at_number (n ∷ ns) g e = record { rest = ns; is = let same : n ≡ g = cc in ap (λ k. k ∷ ns) same }

-- the walk goes on after the next number, while all numbers stay
pub record WalksOn (ns done left : List ℕ) (g : ℕ) (after : Option ℕ) : Type 0 where
  pub rest : List ℕ
  pub is : left ≡ g ∷ rest
  pub walk : IsWalking ns (done ++ g ∷ []) rest after

pub walk_on : (ns done left : List ℕ) (next after : Option ℕ) (g : ℕ) → IsWalking ns done left next → next ≡ Some g → after ≡ slice_get (numbers_above g ns) 0 → WalksOn ns done left g after
walk_on ns done left next after g w comes e =
    let at = at_number left g (sym w.comes ∙ comes) in
    let parts : done ++ g ∷ at.rest ≡ ns = ap (λ left. done ++ left) (sym at.is) ∙ w.parts in
    record {
      rest = at.rest;
      is = at.is;
      walk = record { rising = w.rising; parts = append_assoc done (g ∷ []) at.rest ∙ parts; comes = e ∙ ap (λ ms. slice_get ms 0) (ap (numbers_above g) (sym parts) ∙ above_rest done g at.rest (subst Rises (sym parts) w.rising)) };
    }

-- nothing is left if there is no next number
pub none_left : (left : List ℕ) → slice_get left 0 ≡ None → left ≡ []
none_left [] e = refl
none_left (n ∷ ns) e = absurd (cc)

-- the next number is above
pub lies_above : (g : ℕ) (ns : List ℕ) (after : Option ℕ) → Rises ns → after ≡ slice_get (numbers_above g ns) 0 → IfSome after (λ q. g < q)
lies_above g ns after up e = rw e (IfSome_then _ {P = IsLeastAbove g ns} (next_is g ns up) (λ q h. h.above))

-- ---- a walk that keeps the numbers that pass a test

-- of the first numbers, those left have still to be tested
pub record IsKeeping (t : ℕ → Bool) (first ns : List ℕ) (next : Option ℕ) : Type 0 where
  pub done : List ℕ
  pub left : List ℕ
  pub walk : IsWalking ns done left next
  pub kept : done ++ filter t left ≡ filter t first

-- a number that passes stays
keeping_stays : (t : ℕ → Bool) (first ns : List ℕ) (next after : Option ℕ) (g : ℕ) → IsKeeping t first ns next → next ≡ Some g → t g ≡ true → after ≡ slice_get (numbers_above g ns) 0 → IsKeeping t first ns after
keeping_stays t first ns next after g k comes pass e =
    let on = walk_on ns k.done k.left next after g k.walk comes e in
    let kept = rw (on.is, pass) at k.kept in
    record { done = k.done ++ g ∷ []; left = on.rest; walk = on.walk; kept = append_assoc k.done (g ∷ []) (filter t on.rest) ∙ kept }

-- a number that fails is removed
keeping_goes : (t : ℕ → Bool) (first ns now : List ℕ) (next after : Option ℕ) (g : ℕ) → IsKeeping t first ns next → next ≡ Some g → t g ≡ false → now ≡ without g ns → after ≡ slice_get (numbers_above g now) 0 → IsKeeping t first now after
keeping_goes t first ns now next after g k comes fail gone e =
    let at = at_number k.left g (sym k.walk.comes ∙ comes) in
    let parts : k.done ++ g ∷ at.rest ≡ ns = ap (λ left. k.done ++ left) (sym at.is) ∙ k.walk.parts in
    let up = subst Rises (sym parts) k.walk.rising in
    let others : now ≡ k.done ++ at.rest = gone ∙ ap (without g) (sym parts) ∙ without_one k.done g at.rest up in
    let behind : numbers_above g now ≡ at.rest = ap (numbers_above g) gone ∙ above_without g ns ∙ ap (numbers_above g) (sym parts) ∙ above_rest k.done g at.rest up in
    let kept = rw (at.is, fail) at k.kept in
    record {
      done = k.done;
      left = at.rest;
      walk = record { rising = subst Rises (sym gone) (rises_without g ns k.walk.rising); parts = sym others; comes = e ∙ ap (λ ms. slice_get ms 0) behind };
      kept = kept;
    }

-- so the walk goes on
pub keeping_goes_on : (t : ℕ → Bool) (first ns now : List ℕ) (next after : Option ℕ) (g : ℕ) → IsKeeping t first ns next → next ≡ Some g → now ≡ cond (t g) ns (without g ns) → after ≡ slice_get (numbers_above g now) 0 → IsKeeping t first now after
keeping_goes_on t first ns now next after g k comes is e = elim (t g) as (λ b. t g ≡ b → now ≡ cond b ns (without g ns) → IsKeeping t first now after) [
  | true ↦ λ pass same. subst (λ ms. IsKeeping t first ms after) (sym same) (keeping_stays t first ns next after g k comes pass (e ∙ ap (λ ms. slice_get (numbers_above g ms) 0) same))
  | false ↦ λ fail gone. keeping_goes t first ns now next after g k comes fail gone e
] refl is

-- at the end, the numbers that pass are left
pub keeping_ends : (t : ℕ → Bool) (first ns : List ℕ) (next : Option ℕ) → IsKeeping t first ns next → next ≡ None → ns ≡ filter t first
keeping_ends t first ns next k comes =
    let none = none_left k.left (sym k.walk.comes ∙ comes) in
    sym k.walk.parts ∙ ap (λ left. k.done ++ left) none ∙ sym (ap (λ left. k.done ++ filter t left) none) ∙ k.kept
