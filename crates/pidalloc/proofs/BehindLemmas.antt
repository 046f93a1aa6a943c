-- The process after another in a ring.
use Rattle.std.proofs.Common.{◌≡◌, ℕ, zero, suc, true, false, cond, refl, ap, List, [], ◌∷◌, Some, None, slice_get, take, ◌==◌, arith}
use Rattle.std.proofs.lemmas.Bool.{eqb-true, eq-eqb}
use Rattle.posix.specs.Common.{is_in, IsDistinct}
use Rattle.posix.proofs.MemberLemmas.{in_none}
use Rattle.pidalloc.specs.Rings.{Nodes, next_of, IsLinked, IsRing, IsKept}
use Rattle.pidalloc.specs.Places.{next_behind}
use Rattle.pidalloc.proofs.MemberLemmas.{in_longer}

-- an absent process has none after it
pub behind_absent : (p : ℕ) (ps : List ℕ) → is_in p ps ≡ false → next_behind p ps ≡ None
unfolding next_behind is_in
behind_absent p [] out = refl
behind_absent p (q ∷ qs) out = grind (arith, eqb-true, eq-eqb q q refl, out, behind_absent p qs)

-- the one after a process in the list, if the nodes lead to a
behind_linked : (ns : Nodes) (b : ℕ) (ps : List ℕ) (a p : ℕ) → IsLinked ns b ps a → is_in p (b ∷ ps) ≡ true → is_in a ps ≡ false → next_behind p (b ∷ ps) ≡ cond (next_of ns p == a) None (Some (next_of ns p))
unfolding IsLinked next_behind is_in
behind_linked ns b [] a p l there out = grind (arith, eqb-true, eq-eqb, there, l.0)
behind_linked ns b (q ∷ qs) a p l there out = grind (arith, eqb-true, eq-eqb, there, out, l.0, behind_linked ns q qs a p l.2)

pub behind_kept : (ns : Nodes) (f p : ℕ) (ps : List ℕ) → IsKept ns f ps → is_in p ps ≡ true → next_behind p ps ≡ cond (next_of ns p == f) None (Some (next_of ns p))
unfolding IsRing IsDistinct
behind_kept ns f p [] k there = absurd (in_none p there)
behind_kept ns f p (x ∷ xs) k there = rw k.ring.0 (behind_linked ns x xs x p k.ring.1 there k.distinct.0)

-- ---- one after another

-- an ID at an index of a list is in it
in_at : (i p : ℕ) (ps : List ℕ) → slice_get ps i ≡ Some p → is_in p ps ≡ true
unfolding is_in
in_at i p [] e = absurd (cc)
in_at zero p (q ∷ qs) e = grind (arith, eq-eqb, e)
in_at (suc i) p (q ∷ qs) e = in_longer p q qs (in_at i p qs e)

-- after the ID at an index comes the one at the next index
pub behind_at : (i p : ℕ) (ps : List ℕ) → IsDistinct ps → slice_get ps i ≡ Some p → next_behind p ps ≡ slice_get ps (suc i)
unfolding next_behind IsDistinct
behind_at i p [] d e = absurd (cc)
behind_at zero p (q ∷ qs) d e = grind (arith, eq-eqb, e)
behind_at (suc i) p (q ∷ qs) d e = grind (arith, eqb-true, in_at i p qs e, d.0, behind_at i p qs d.1 e)

-- two lists that are the same up to an index, and at it, are the same up to the next index
pub same_longer : (i p : ℕ) (ps qs : List ℕ) → take i ps ≡ take i qs → slice_get ps i ≡ Some p → slice_get qs i ≡ Some p → take (suc i) ps ≡ take (suc i) qs
same_longer i p [] qs e h k = absurd (cc)
same_longer i p (x ∷ xs) [] e h k = absurd (cc)
same_longer zero p (x ∷ xs) (y ∷ ys) e h k = let first : x ≡ y = cc in ap (λ n. n ∷ []) first
same_longer (suc i) p (x ∷ xs) (y ∷ ys) e h k =
    let first : x ≡ y = cc in
    let rest : take i xs ≡ take i ys = cc in
    (λ j. first j ∷ same_longer i p xs ys rest h k j)
