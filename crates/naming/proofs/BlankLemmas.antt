-- Names without the blanks around each `|`.
use Rattle.std.proofs.Common.{◌≡◌, ℕ, ◌-◌, suc, true, false, List, [], ◌∷◌, ◌++◌, length, refl, ap, sym, ◌∙◌, append-nil, arith, get_or}
use Rattle.std.specs.Prelude.{Option, None, Some}
use Rattle.std.specs.Option.{option_to_list}
use Rattle.std.proofs.lemmas.Grind.{common_steps}
use Rattle.naming.specs.Sets.{and_trimmed, is_blank, trimmed}

trimmed_blank : (xs : List ℕ) (b : ℕ) → is_blank b ≡ true → trimmed (xs ++ b ∷ []) ≡ trimmed xs
trimmed_blank [] b h = rw h refl
trimmed_blank (x ∷ xs) b h = ap (and_trimmed x) (trimmed_blank xs b h)

last_is : (xs : List ℕ) (b : ℕ) → get_or (xs ++ b ∷ []) (length (xs ++ b ∷ []) - 1) 0 ≡ b
last_is xs b = grind (arith, common_steps)

-- One blank at the end was removed.
pub popped : (old new : List ℕ) (last : Option ℕ) → old ≡ new ++ option_to_list last → is_blank (get_or old (length old - 1) 0) ≡ true → trimmed new ≡ trimmed old
popped old new None e h = ap trimmed (sym (e ∙ append-nil new))
popped old new (Some b) e h =
    let blank : is_blank b ≡ true = rw (last_is new b) at (rw e at h) in
    sym (ap trimmed e ∙ trimmed_blank new b blank)

-- A text that doesn't end with a blank stays.
pub trimmed_all : (xs : List ℕ) → is_blank (get_or xs (length xs - 1) 0) ≡ false → trimmed xs ≡ xs
trimmed_all [] h = refl
trimmed_all (b ∷ []) h = rw h refl
trimmed_all (b ∷ c ∷ cs) h =
    let next : length (b ∷ c ∷ cs) - 1 ≡ suc (length (c ∷ cs) - 1) = omega arith in
    ap (and_trimmed b) (trimmed_all (c ∷ cs) (rw next at h))
