-- A text and a printed line, compared.
use Rattle.std.proofs.Common.{◌≡◌, ℕ, ◌-◌, Bool, true, false, List, [], ◌∷◌, ◌++◌, length, take, ap, sym, subst, ◌∙◌, arith, length-append}
use Rattle.std.specs.Prelude.{◌↔◌, bytes_eq, decimal}
use Rattle.std.specs.List.{join_with_byte}
use Rattle.posix.specs.Common.{printed, words_of}
use Rattle.posix.specs.declared.entry.Entry.{Entry}
use Rattle.std.proofs.lemmas.List.{append_cancel_right}
use Rattle.std.proofs.lemmas.Slice.Eq.{bytes_eq-Decides}
use Rattle.std.proofs.Math.Seq.{take-append_seam}

-- the bytes before the last one
before_last : (line : List ℕ) (b : ℕ) → take (length (line ++ b ∷ []) - 1) (line ++ b ∷ []) ≡ line
before_last line b =
    let n : length (line ++ b ∷ []) - 1 ≡ length line = omega (arith, length-append line (b ∷ [])) in
    ap (λ k. take k (line ++ b ∷ [])) n ∙ take-append_seam line (b ∷ [])

-- a text with a line feed is a printed line where the bytes before its last one are the text
compared_with : (text line : List ℕ) → (bytes_eq (take (length (line ++ 10 ∷ []) - 1) (line ++ 10 ∷ [])) text ≡ true) ↔ (text ++ 10 ∷ [] ≡ line ++ 10 ∷ [])
compared_with text line =
    let same = ap (λ (l : List ℕ). bytes_eq l text) (before_last line 10) in
    let decides = bytes_eq-Decides line text in (
      λ is. ap (λ (l : List ℕ). l ++ 10 ∷ []) (sym (decides.0 (sym same ∙ is))),
      λ e. same ∙ decides.1 (sym (append_cancel_right text line (10 ∷ []) e)),
    )

pub compared : (text line : List ℕ) (k : ℕ) (e : Entry) → line ≡ printed k e → (bytes_eq (take (length line - 1) line) text ≡ true) ↔ (text ++ 10 ∷ [] ≡ printed k e)
compared text line k e is =
    subst (λ l. (bytes_eq (take (length l - 1) l) text ≡ true) ↔ (text ++ 10 ∷ [] ≡ printed k e)) (sym is) (compared_with text (join_with_byte 32 (decimal k ∷ words_of e)))

-- no answer is yes and no
pub both : {r : Bool} → r ≡ true → r ≡ false → ⊥
both is differs = absurd (cc)
