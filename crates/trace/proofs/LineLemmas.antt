-- A text, cut at its first line feed.
use Rattle.std.proofs.Common.{◌≡◌, ℕ, suc, ◌+◌, ◌-◌, ◌<◌, ◌≤◌, ◌==◌, ◌⊎◌, Some, None, take, drop, get_or, true, false, List, [], ◌∷◌, ◌++◌, length, length-drop, inl, inr, refl, ap, sym, ◌∙◌, arith}
use Rattle.std.specs.List.{position_or_len, before_first, after_first}
use Rattle.std.proofs.lemmas.List.{take_all}
use Rattle.std.proofs.lemmas.List.Sums.{split_at_first, passes_at_first, fails_before_first}
use Rattle.std.proofs.lemmas.Bool.{cases_Bool, cases_lt, cases_order, eqb-true, false≢true}
use Rattle.memchr.specs.Find.{IsFirstByte, is_byte}
use Rattle.trace.specs.Lines.{is_one_line, IsCut}

-- what comes before the first line feed is one line
before_one : (text : List ℕ) → is_one_line (before_first (λ b. b == 10) text) ≡ true
before_one [] = refl
before_one (b ∷ bs) = elim (cases_Bool (b == 10)) [
  | inl h ↦ rw h refl
  | inr h ↦
      let later : position_or_len (λ b. b == 10) (b ∷ bs) ≡ 1 + position_or_len (λ b. b == 10) bs = rw h refl in
      ap (λ i. is_one_line (take i (b ∷ bs))) later ∙ longer (position_or_len (λ b. b == 10) bs) b bs h (before_one bs)
]
  where
    longer : (n b : ℕ) (bs : List ℕ) → (b == 10) ≡ false → is_one_line (take n bs) ≡ true → is_one_line (take (1 + n) (b ∷ bs)) ≡ true
    longer n b bs h k =
        let next : 1 + n ≡ suc n = omega arith in
        ap (λ i. is_one_line (take i (b ∷ bs))) next ∙ rw (h, k) refl

pub cut_at : (text : List ℕ) (end : ℕ) → IsFirstByte (is_byte 10) text (Some end) → IsCut text (take end text) (take (length text - (end + 1)) (drop (end + 1) text))
cut_at text end h =
    let same : end ≡ position_or_len (λ b. b == 10) text = elim (cases_order end (position_or_len (λ b. b == 10) text)) [
      | inl is ↦ is
      | inr (inl low) ↦ absurd (false≢true (sym (fails_before_first (λ b. b == 10) text end 0 low) ∙ h.1))
      | inr (inr high) ↦ absurd (h.0.before (position_or_len (λ b. b == 10) text) (omega arith) high (passes_at_first (λ b. b == 10) text 0 (omega (arith, high, h.0.high))))
    ] in
    let within : position_or_len (λ b. b == 10) text < length text = rw (← same) h.0.high in
    let feed : get_or text (position_or_len (λ b. b == 10) text) 0 ≡ 10 = eqb-true _ 10 (passes_at_first (λ b. b == 10) text 0 within) in
    let rest = take_all (length text - (end + 1)) (drop (end + 1) text) (omega (arith, length-drop (end + 1) text)) in
    record {
      is = split_at_first (λ b. b == 10) text 0 within
          ∙ ap (λ (b : ℕ). before_first (λ b. b == 10) text ++ b ∷ after_first (λ b. b == 10) text) feed
          ∙ ap (λ (i : ℕ). take i text ++ 10 ∷ drop (i + 1) text) (sym same) ∙ ap (λ (x : List ℕ). take end text ++ 10 ∷ x) (sym rest);
      one = ap (λ (i : ℕ). is_one_line (take i text)) same ∙ before_one text;
    }

pub cut_nowhere : (text : List ℕ) → IsFirstByte (is_byte 10) text None → is_one_line text ≡ true
cut_nowhere text h = ap is_one_line (sym (take_all _ text (by (cases_lt (position_or_len (λ b. b == 10) text) (length text))))) ∙ before_one text
  where
    by : (position_or_len (λ b. b == 10) text < length text) ⊎ (length text ≤ position_or_len (λ b. b == 10) text) → length text ≤ position_or_len (λ b. b == 10) text
    by (inl within) = absurd (h (position_or_len (λ b. b == 10) text) (omega arith) within (passes_at_first (λ b. b == 10) text 0 within))
    by (inr all) = all
