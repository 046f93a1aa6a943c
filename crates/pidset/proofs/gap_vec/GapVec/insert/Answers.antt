use Rattle.std.proofs.Common.{◌≡◌, ◌+◌, ◌≤◌, ◌∙◌, ℕ, zero, suc, arith, refl, ap, List, [], ◌∷◌, drop, insert, length}
use Rattle.pidset.proofs.gap_vec.GapVec.insert.Goals as goal

-- an item inserted after a gap
behind_gap : {X : Type 0} (gap i k : ℕ) (xs : List X) (x : X) → k ≡ gap + i → gap ≤ length xs → drop gap (insert xs k x) ≡ insert (drop gap xs) i x
behind_gap zero i k xs x e l = let same : k ≡ i = omega (arith, e) in ap (λ j. insert xs j x) same
behind_gap (suc gap) i zero xs x e l = absurd (omega (arith, e))
behind_gap (suc gap) i (suc k) [] x e l = absurd (omega (arith, l))
behind_gap (suc gap) i (suc k) (y ∷ ys) x e l = behind_gap gap i k ys x (omega (arith, e)) (omega (arith, l))

pub returns-then-len-capacity-clause-items : goal.returns-then-len-capacity-clause-items
returns-then-len-capacity-clause-items g c =
    let gap = c.self.inside.gap in
    rw (← c.self.view_is) (ap (drop gap) c.insert_at.ensures.items ∙ behind_gap gap c.args.at _ c.self.inside.items.items c.args.item refl (omega (arith, c.self.invariant, c.self.inside.items.ok.0)))

pub returns-clause-items : goal.returns-clause-items
returns-clause-items g c =
    rw (← c.self.view_is) (c.insert_at-2.ensures.items ∙ ap (λ xs. insert xs c.args.at c.args.item) (c.drop.ensures.items ∙ c.drain.ensures.kept))
