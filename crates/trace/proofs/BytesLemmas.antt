-- Bytes are read back from their digits to base 16.
use Rattle.std.proofs.Common.{◌≡◌, ℕ, zero, suc, ◌*◌, ◌/◌, ◌≤◌, true, List, [], ◌∷◌, length, Some, ap, sym, ◌∙◌, arith}
use Rattle.std.specs.Prelude.{nat_le}
use Rattle.std.specs.List.{list_all}
use Rattle.std.proofs.lemmas.Bool.{and_parts, ltb-true}
use Rattle.std.proofs.lemmas.Bool.Decides.{nat_tests}
use Rattle.posix.specs.Common.{hex}
use Rattle.laws.specs.Kinds.{is_byte}
use Rattle.hex.specs.Hex.{IsBytes, lower_digits, decode_of}
use Rattle.hex.proofs.HexLemmas.{decode_of-encode_lower, length-encode_with}
use Rattle.trace.proofs.HexLemmas.{same_digits}
use Rattle.trace.specs.Words.{bytes_in, decoded}

are_bytes : (bytes : List ℕ) → list_all is_byte bytes ≡ true → IsBytes bytes
are_bytes [] h i = omega arith
are_bytes (b ∷ bs) h zero = ltb-true b 256 (and_parts (is_byte b) (list_all is_byte bs) h).0
are_bytes (b ∷ bs) h (suc i) = are_bytes bs (and_parts (is_byte b) (list_all is_byte bs) h).1 i

pub hex_len : (bytes : List ℕ) → length (hex bytes) ≡ 2 * length bytes
hex_len bytes = ap (λ (l : List ℕ). length l) (sym (same_digits bytes)) ∙ length-encode_with lower_digits bytes

pub bytes_back : (bytes : List ℕ) → length bytes ≤ 16 → list_all is_byte bytes ≡ true → bytes_in (hex bytes) ≡ Some bytes
unfolding bytes_in
bytes_back bytes few h =
    let fits : nat_le (length (hex bytes) / 2) 16 ≡ true = grind (arith, nat_tests, hex_len bytes) in
    rw fits (ap decoded (ap decode_of (sym (same_digits bytes)) ∙ decode_of-encode_lower bytes (are_bytes bytes h)))
