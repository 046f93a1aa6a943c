-- The digits to base 16 of the library are those of the definitions.
use Rattle.std.proofs.Common.{◌≡◌, ℕ, ◌/◌, ◌%◌, List, [], ◌∷◌, ap, refl, Result, Ok, Err, IsOk, OnOk}
use Rattle.posix.specs.Common.{digit, hex}
use Rattle.hex.specs.Hex.{encode_with, encode_lower}

-- what holds where there is a value, as there is one
pub on_ok : {T E P : Type 0} → (r : Result T E) → IsOk r → OnOk r P → P
on_ok (Ok x) ok p = p
on_ok (Err e) ok p = absurd (cc)

pub same_digits : (bytes : List ℕ) → encode_lower bytes ≡ hex bytes
unfolding encode_with hex
same_digits [] = refl
same_digits (b ∷ bs) = ap (λ ds. digit (b / 16) ∷ digit (b % 16) ∷ ds) (same_digits bs)
