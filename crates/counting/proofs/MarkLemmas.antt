-- Texts that are marked, one by one.
use Rattle.std.proofs.Common.{◌≡◌, ℕ, zero, suc, ◌+◌, ◌<◌, ◌≤◌, Bool, true, false, cond, List, [], ◌∷◌, length, take, slice_index_or, refl, ap, ap₂, sym, ◌∙◌, add-one, arith}
use Rattle.std.specs.Prelude.{slice_set}
use Rattle.counting.specs.Tallies.{TallyView}
use Rattle.counting.specs.Texts.{FindView, with_many, with_marked}

-- Before the first mark.
pub none_marked : (t : TallyView) (marks : List Bool) (finds : List FindView) → finds ≡ with_marked t (take 0 marks) finds
none_marked t marks [] = refl
none_marked t [] (f ∷ fs) = refl
none_marked t (m ∷ marks) (f ∷ fs) = refl

-- The texts after the last mark are unchanged.
pub behind_marks : (t : TallyView) (marks : List Bool) (finds : List FindView) (i : ℕ) (d : FindView) → slice_index_or (with_marked t (take i marks) finds) i d ≡ slice_index_or finds i d
behind_marks t marks [] i d = refl
behind_marks t [] (f ∷ fs) zero d = refl
behind_marks t [] (f ∷ fs) (suc i) d = refl
behind_marks t (m ∷ marks) (f ∷ fs) zero d = refl
behind_marks t (m ∷ marks) (f ∷ fs) (suc i) d = behind_marks t marks fs i d

marked_next : (t : TallyView) (marks : List Bool) (finds : List FindView) (i : ℕ) (f : FindView) → i < length finds → slice_index_or marks i false ≡ true → f ≡ slice_index_or finds i f
    → slice_set (with_marked t (take i marks) finds) i (with_many t f) ≡ with_marked t (take (suc i) marks) finds
marked_next t marks [] i f l m e = absurd (omega (arith, l))
marked_next t [] (g ∷ fs) zero f l m e = cc
marked_next t [] (g ∷ fs) (suc i) f l m e = cc
marked_next t (n ∷ marks) (g ∷ fs) zero f l m e =
    rest marks ∙ ap (λ b. cond b (with_many t g) g ∷ with_marked t (take 0 marks) fs) (sym m)
  where
    rest : (ms : List Bool) → with_many t f ∷ fs ≡ with_many t g ∷ with_marked t (take 0 ms) fs
    rest ms = ap₂ (λ x xs. with_many t x ∷ xs) e (none_marked t ms fs)
marked_next t (n ∷ marks) (g ∷ fs) (suc i) f l m e = ap (λ xs. cond n (with_many t g) g ∷ xs) (marked_next t marks fs i f (omega (arith, l)) m e)

-- The text is marked.
pub marked_more : (t : TallyView) (marks : List Bool) (finds : List FindView) (i : ℕ) (f : FindView) → i < length finds → slice_index_or marks i false ≡ true → f ≡ slice_index_or finds i f
    → slice_set (with_marked t (take i marks) finds) i (with_many t f) ≡ with_marked t (take (i + 1) marks) finds
marked_more t marks finds i f l m e = marked_next t marks finds i f l m e ∙ ap (λ n. with_marked t (take n marks) finds) (sym (add-one i))

unmarked_next : (t : TallyView) (marks : List Bool) (finds : List FindView) (i : ℕ) → slice_index_or marks i false ≡ false
    → with_marked t (take i marks) finds ≡ with_marked t (take (suc i) marks) finds
unmarked_next t marks [] i m = refl
unmarked_next t [] (g ∷ fs) zero m = refl
unmarked_next t [] (g ∷ fs) (suc i) m = refl
unmarked_next t (n ∷ marks) (g ∷ fs) zero m =
    ap (λ xs. g ∷ xs) (none_marked t marks fs) ∙ ap (λ b. cond b (with_many t g) g ∷ with_marked t (take 0 marks) fs) (sym m)
unmarked_next t (n ∷ marks) (g ∷ fs) (suc i) m = ap (λ xs. cond n (with_many t g) g ∷ xs) (unmarked_next t marks fs i m)

-- The text is not marked.
pub unmarked_more : (t : TallyView) (marks : List Bool) (finds : List FindView) (i : ℕ) → slice_index_or marks i false ≡ false
    → with_marked t (take i marks) finds ≡ with_marked t (take (i + 1) marks) finds
unmarked_more t marks finds i m = unmarked_next t marks finds i m ∙ ap (λ n. with_marked t (take n marks) finds) (sym (add-one i))

past_next : (t : TallyView) (marks : List Bool) (finds : List FindView) (i : ℕ) → length finds ≤ i → with_marked t (take i marks) finds ≡ with_marked t (take (suc i) marks) finds
past_next t marks [] i l = refl
past_next t [] (g ∷ fs) zero l = refl
past_next t [] (g ∷ fs) (suc i) l = refl
past_next t (n ∷ marks) (g ∷ fs) zero l = absurd (omega (arith, l))
past_next t (n ∷ marks) (g ∷ fs) (suc i) l = ap (λ xs. cond n (with_many t g) g ∷ xs) (past_next t marks fs i (omega (arith, l)))

-- There is no text for the mark.
pub past_more : (t : TallyView) (marks : List Bool) (finds : List FindView) (i : ℕ) → length finds ≤ i → with_marked t (take i marks) finds ≡ with_marked t (take (i + 1) marks) finds
past_more t marks finds i l = past_next t marks finds i l ∙ ap (λ n. with_marked t (take n marks) finds) (sym (add-one i))
