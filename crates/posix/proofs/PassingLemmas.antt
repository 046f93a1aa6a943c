-- How many records of a list pass a test.
use Rattle.std.proofs.Common.{◌≡◌, ℕ, ◌≤◌, Bool, true, refl, ap, ◌∙◌, arith, subst, List, [], ◌∷◌, length, map, filter, Some, Option, None, nat_le}
use Rattle.std.proofs.lemmas.Bool.{eqb-true}
use Rattle.std.proofs.lemmas.List.{length-map}
use Rattle.std.proofs.lemmas.List.Sums.{length-filter, count_by-le-length}
use Rattle.posix.specs.Common.{Process, IsRising, lookup, changed, inserted, removed, left_of}
use Rattle.posix.proofs.MapLemmas.{filter_map}
use Rattle.posix.proofs.TableLemmas.{Above, remove_above}

-- no more are counted than there are
pub filter_at_most : (t : Process → Bool) (rs : List Process) → length (filter t rs) ≤ length rs
filter_at_most t rs = rw (length-filter t rs) (count_by-le-length t rs)

-- nor are more left than there are
pub left_at_most : (o : Option ℕ) (rs : List Process) → length (left_of o rs) ≤ length rs
left_at_most None rs = omega arith
left_at_most (Some n) rs = filter_at_most (λ r. nat_le n r.pid) rs

-- a record that is found and passes the test is counted
pub counted_found : (t : Process → Bool) (p : ℕ) (r : Process) (rs : List Process) → t r ≡ true → lookup p rs ≡ Some r → 1 ≤ length (filter t rs)
unfolding lookup
counted_found t p r [] h e = absurd (cc)
counted_found t p r (x ∷ xs) h e = grind (arith, h, counted_found t p r xs h)

-- a record that comes in counts as if it came in front
pub counted_inserted : (t : Process → Bool) (new : Process) (rs : List Process) → length (filter t (inserted new rs)) ≡ length (filter t (new ∷ rs))
unfolding inserted
counted_inserted t new [] = refl
counted_inserted t new (r ∷ rs) = grind (arith, counted_inserted t new rs)

-- a record that goes counted as if it went from the front
pub counted_removed : (t : Process → Bool) (p : ℕ) (r : Process) (rs : List Process) → IsRising rs → lookup p rs ≡ Some r → length (filter t rs) ≡ length (filter t (r ∷ removed p rs))
unfolding lookup removed IsRising
counted_removed t p r [] up e = absurd (cc)
counted_removed t p r (x ∷ xs) up e = grind (arith, λ (i : x.pid ≡ p). remove_above p xs (subst (λ n. Above n xs) i up.0), counted_removed t p r xs up.1, eqb-true x.pid p)

-- changes that leave the test leave the count
pub counted_map : (t : Process → Bool) (g : Process → Process) → ((r : Process) → t (g r) ≡ t r) → (rs : List Process) → length (filter t (map g rs)) ≡ length (filter t rs)
counted_map t g keeps rs = ap length (filter_map t g keeps rs) ∙ length-map (filter t rs) g

pub removed_changed : (c : ℕ) (f : Process → Process) → ((r : Process) → (f r).pid ≡ r.pid) → (rs : List Process) → removed c (changed c f rs) ≡ removed c rs
unfolding removed changed
removed_changed c f keeps [] = refl
removed_changed c f keeps (r ∷ rs) = grind (arith, keeps r, removed_changed c f keeps rs)
