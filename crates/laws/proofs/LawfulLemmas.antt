-- The laws of a trace that is one line longer.
use Rattle.std.proofs.Common.{rules, ◌≡◌, zero, suc, Bool, true, ◌&&◌, List, [], ◌∷◌, ◌++◌, refl}
use Rattle.std.proofs.lemmas.Bool.{and_parts}
use Rattle.posix.specs.Common.{Line}
use Rattle.laws.specs.Lives.{Everywhere, Laws, laws, numbers_rise, within_life, begins_apart, reports_due, halts_last}

-- a law of each line of a longer list
everywhere_more : (law : List Line → Line → Bool) (lines : List Line) (l : Line) → Everywhere law lines → law lines l ≡ true → Everywhere law (lines ++ l ∷ [])
everywhere_more law [] l h t zero x e = cc
everywhere_more law [] l h t (suc i) x e = cc
everywhere_more law (y ∷ ys) l h t zero x e = h zero x e
everywhere_more law (y ∷ ys) l h t (suc i) x e = everywhere_more (λ before. law (y ∷ before)) ys l (λ j z f. h (suc j) z f) t i x e

-- of the first lines of a list
everywhere_first : (law : List Line → Line → Bool) (lines rest : List Line) → Everywhere law (lines ++ rest) → Everywhere law lines
everywhere_first law [] rest h i x e = cc
everywhere_first law (y ∷ ys) rest h zero x e = h zero x e
everywhere_first law (y ∷ ys) rest h (suc i) x e = everywhere_first (λ before. law (y ∷ before)) ys rest (λ j z f. h (suc j) z f) i x e

-- of one of its lines
pub everywhere_at : (law : List Line → Line → Bool) (before : List Line) (l : Line) (after : List Line) → Everywhere law (before ++ l ∷ after) → law before l ≡ true
everywhere_at law [] l after h = h zero l refl
everywhere_at law (y ∷ ys) l after h = everywhere_at (λ before. law (y ∷ before)) ys l after (λ j z f. h (suc j) z f)

-- the laws hold of a trace that is one line longer where they hold of that line
pub laws_more : (lines : List Line) (l : Line) → Laws lines → laws lines l ≡ true → Laws (lines ++ l ∷ [])
laws_more lines l h t =
    let p = and_parts (numbers_rise lines l && within_life lines l && begins_apart lines l && reports_due lines l) (halts_last lines l) t in
    let q = and_parts (numbers_rise lines l && within_life lines l && begins_apart lines l) (reports_due lines l) p.0 in
    let r = and_parts (numbers_rise lines l && within_life lines l) (begins_apart lines l) q.0 in
    let s = and_parts (numbers_rise lines l) (within_life lines l) r.0 in
    search (rules, everywhere_more, s.0, s.1, r.1, q.1, p.1)

-- the laws hold of the first lines of a trace
pub laws_first : (lines rest : List Line) → Laws (lines ++ rest) → Laws lines
laws_first lines rest h = search (rules, everywhere_first)

-- the laws hold of each line
pub laws_at : (before : List Line) (l : Line) (after : List Line) → Laws (before ++ l ∷ after) → laws before l ≡ true
laws_at before l after h =
    rw (
      everywhere_at numbers_rise before l after h.numbers,
      everywhere_at within_life before l after h.lives,
      everywhere_at begins_apart before l after h.births,
      everywhere_at reports_due before l after h.reports,
      everywhere_at halts_last before l after h.halts,
    ) refl

-- no line breaks a law
no_law : (law : List Line → Line → Bool) → Everywhere law []
no_law law i l e = cc

pub laws_none : Laws []
laws_none = search (rules, no_law)
