-- Names with dividers between them.
use Rattle.std.proofs.Common.{◌≡◌, ◌-◌, ◌≤◌, length, ℕ, suc, Bool, true, false, List, [], ◌∷◌, ◌++◌, drop, take, refl, ap, sym, ◌∙◌, append_assoc, append-nil, arith}
use Rattle.std.proofs.lemmas.Grind.{common_steps}
use Rattle.std.specs.List.{position_or_len}
use Rattle.naming.specs.Names.{divides, names_from, names_in}
use Rattle.naming.specs.declared.number.Form.{Form}

-- a name, and the names after its divider, if a divider follows it
abbrev pub cut : Form → List ℕ → List ℕ → List (List ℕ)
cut form name [] = name ∷ []
cut form name (b ∷ bs) = name ∷ names_from form [] bs

one_more : (form : Form) (begun : List ℕ) (b : ℕ) (bs : List ℕ) (t : Bool) → divides form b ≡ t
    → names_from form (begun ++ b ∷ []) bs ≡ cut form ((begun ++ b ∷ []) ++ take (position_or_len (divides form) bs) bs) (drop (position_or_len (divides form) bs) bs)
    → names_from form begun (b ∷ bs) ≡ cut form (begun ++ take (position_or_len (divides form) (b ∷ bs)) (b ∷ bs)) (drop (position_or_len (divides form) (b ∷ bs)) (b ∷ bs))
one_more form begun b bs true e h = rw (e, append-nil begun) refl
one_more form begun b bs false e h =
    let next : position_or_len (divides form) (b ∷ bs) ≡ suc (position_or_len (divides form) bs) = rw e (omega arith) in
    let step : names_from form begun (b ∷ bs) ≡ names_from form (begun ++ b ∷ []) bs = rw e refl in
    step ∙ h ∙ ap (λ (w : List ℕ). cut form w (drop (position_or_len (divides form) bs) bs)) (append_assoc begun (b ∷ []) (take (position_or_len (divides form) bs) bs))
    ∙ ap (λ n. cut form (begun ++ take n (b ∷ bs)) (drop n (b ∷ bs))) (sym next)

from_cut : (form : Form) (begun text : List ℕ) → names_from form begun text ≡ cut form (begun ++ take (position_or_len (divides form) text) text) (drop (position_or_len (divides form) text) text)
from_cut form begun [] = rw (append-nil begun) refl
from_cut form begun (b ∷ bs) = one_more form begun b bs (divides form b) refl (from_cut form (begun ++ b ∷ []) bs)

-- The first name ends at the first divider.
pub names_cut : (form : Form) (text : List ℕ) → names_in form text ≡ cut form (take (position_or_len (divides form) text) text) (drop (position_or_len (divides form) text) text)
names_cut form text = from_cut form [] text

pub cut_more : (form : Form) (name behind : List ℕ) → 1 ≤ length behind → cut form name behind ≡ name ∷ names_in form (take (length behind - 1) (drop 1 behind))
cut_more form name [] some = absurd (omega (arith, some))
cut_more form name (b ∷ bs) some =
    let same : take (length (b ∷ bs) - 1) (drop 1 (b ∷ bs)) ≡ bs = grind (arith, common_steps) in
    ap (λ (rest : List ℕ). name ∷ names_from form [] rest) (sym same)

pub cut_last : (form : Form) (name behind : List ℕ) → length behind ≡ 0 → cut form name behind ≡ name ∷ []
cut_last form name [] none = refl
cut_last form name (b ∷ bs) none = absurd (omega (arith, none))
