-- How the bytes of a line of keys are read, one after another.
use Rattle.std.proofs.Common.{◌≡◌, ℕ, ◌-◌, ◌<◌, true, List, [], ◌∷◌, ◌++◌, length, refl, ap, sym, ◌∙◌, append_assoc, arith, length-append}
use Rattle.std.specs.Prelude.{Result, Ok, Err, nat_lt}
use Rattle.std.proofs.lemmas.Bool.Decides.{nat_tests}
use Rattle.text.specs.declared.fault.Reason.{Reason}
use Rattle.text.specs.Numbers.{byte_in}
use Rattle.text.specs.EventTexts.{bytes_within}
use Rattle.text.specs.Reading.{◌>>=◌}

-- a byte is written with two digits
pub byte_len : (w : List ℕ) (byte : ℕ) → byte_in w ≡ Ok byte → length w ≡ 2
byte_len [] byte h = cc
byte_len (a ∷ []) byte h = cc
byte_len (a ∷ b ∷ []) byte h = refl
byte_len (a ∷ b ∷ c ∷ w) byte h = cc

-- bytes, another byte, and more bytes
joined : (done : List ℕ) (byte : ℕ) (more : Result (List ℕ) Reason) →
    ((more >>= λ bytes. Ok (byte ∷ bytes)) >>= λ bytes. Ok (done ++ bytes)) ≡ (more >>= λ bytes. Ok ((done ++ byte ∷ []) ++ bytes))
joined done byte (Ok bytes) = ap Ok (sym (append_assoc done (byte ∷ []) bytes))
joined done byte (Err reason) = refl

-- if there is room, the bytes of a word and the words after it begin with the byte of this word
here : (room : ℕ) (w : List ℕ) (ws : List (List ℕ)) (byte : ℕ) → byte_in w ≡ Ok byte → 0 < room →
    bytes_within room (w ∷ ws) ≡ (bytes_within (room - 1) ws >>= λ bytes. Ok (byte ∷ bytes))
here room w ws byte h lt =
    let fits : nat_lt 0 room ≡ true = grind (arith, nat_tests) in
    rw (h, fits) refl

-- one more byte is read
pub bytes_more : (room : ℕ) (done w : List ℕ) (ws : List (List ℕ)) (byte : ℕ) → byte_in w ≡ Ok byte → length done < room →
    (bytes_within (room - length done) (w ∷ ws) >>= λ bytes. Ok (done ++ bytes))
    ≡ (bytes_within (room - length (done ++ byte ∷ [])) ws >>= λ bytes. Ok ((done ++ byte ∷ []) ++ bytes))
bytes_more room done w ws byte h lt =
    let less : room - length done - 1 ≡ room - length (done ++ byte ∷ []) = omega (arith, length-append done (byte ∷ [])) in
    ap (λ (r : Result (List ℕ) Reason). r >>= λ bytes. Ok (done ++ bytes)) (here (room - length done) w ws byte h (omega arith))
    ∙ joined done byte (bytes_within (room - length done - 1) ws)
    ∙ ap (λ (n : ℕ). bytes_within n ws >>= λ bytes. Ok ((done ++ byte ∷ []) ++ bytes)) less
