use Rattle.std.proofs.Common.{◌≡◌, ◌+◌, ◌<◌, ◌∙◌, ℕ, zero, suc, arith, refl, ap, add-one, List, [], ◌∷◌, drop, remove, length, length-drop}
use Rattle.pidset.proofs.gap_vec.GapVec.remove.Goals as goal

-- an item removed after a gap
behind_gap : {X : Type 0} (gap i k : ℕ) (xs : List X) → k ≡ gap + i → k < length xs → drop gap (remove xs k) ≡ remove (drop gap xs) i
behind_gap zero i k xs e l = let same : k ≡ i = omega (arith, e) in ap (remove xs) same
behind_gap (suc gap) i zero xs e l = absurd (omega (arith, e))
behind_gap (suc gap) i (suc k) [] e l = absurd (omega (arith, l))
behind_gap (suc gap) i (suc k) (y ∷ ys) e l = behind_gap gap i k ys (omega (arith, e)) (omega (arith, l))

-- a longer gap
longer : {X : Type 0} (gap : ℕ) (xs : List X) → drop (gap + 1) xs ≡ remove (drop gap xs) 0
longer {X} gap xs = rw add-one (one_more gap xs)
  where
    one_more : (gap : ℕ) (xs : List X) → drop (suc gap) xs ≡ drop 1 (drop gap xs)
    one_more zero xs = refl
    one_more (suc gap) [] = refl
    one_more (suc gap) (y ∷ ys) = one_more gap ys

pub returns-then-at-gt0-clause-items : goal.returns-then-at-gt0-clause-items
returns-then-at-gt0-clause-items g c =
    let gap = c.self.inside.gap in
    let xs = c.self.inside.items.items in
    let inside = rw (← c.self.view_is) at c.requires in
    rw (← c.self.view_is) (ap (drop gap) c.remove.ensures.items ∙ behind_gap gap c.args.at _ xs refl (omega (arith, inside, length-drop gap xs)))

pub returns-else-self-len-clause-items : goal.returns-else-self-len-clause-items
returns-else-self-len-clause-items g c =
    let zero : c.args.at ≡ 0 = omega (arith, c.if-at-gt0.false) in
    rw (zero, ← c.self.view_is) (longer c.self.inside.gap c.self.inside.items.items)
