-- How the first line of a text is found.
use Rattle.std.proofs.Common.{◌≡◌, ℕ, ◌+◌, ◌<◌, suc, Bool, true, false, List, [], ◌∷◌, ◌++◌, length, drop, take, refl, ap, sym, ◌∙◌, append_assoc, append-nil, length-append, arith}
use Rattle.std.specs.Prelude.{◌==◌}
use Rattle.std.specs.List.{after_first, before_first, position_or_len}
use Rattle.text.specs.Lines.{lines_from, all_lines, closed, behind_line}

abbrev is_feed : ℕ → Bool
is_feed b = b == 10

-- all lines of a text; `begun` is the part of its first line that was read
abbrev pub all_from : List ℕ → List ℕ → List (List ℕ)
all_from begun bs = (lines_from begun bs).whole ++ closed (lines_from begun bs).rest

-- a line feed ends the first line
pub all_from-end : (begun : List ℕ) (c : ℕ) (bs : List ℕ) → (c == 10) ≡ true → all_from begun (c ∷ bs) ≡ begun ∷ all_lines bs
all_from-end begun c bs h = rw h refl

-- another byte belongs to the first line
pub all_from-more : (begun : List ℕ) (c : ℕ) (bs : List ℕ) → (c == 10) ≡ false → all_from begun (c ∷ bs) ≡ all_from (begun ++ c ∷ []) bs
all_from-more begun c bs h = rw h refl

-- a last line that lacks its line feed, or a last word
pub closed_some : (bs : List ℕ) → 0 < length bs → closed bs ≡ bs ∷ []
closed_some [] h = absurd (omega arith)
closed_some (b ∷ bs) h = refl

by_byte : (begun : List ℕ) (b : ℕ) (bs : List ℕ) (t : Bool) → is_feed b ≡ t
    → (all_from (begun ++ b ∷ []) bs ≡ ((begun ++ b ∷ []) ++ before_first is_feed bs) ∷ all_lines (after_first is_feed bs))
    → all_from begun (b ∷ bs) ≡ (begun ++ before_first is_feed (b ∷ bs)) ∷ all_lines (after_first is_feed (b ∷ bs))
by_byte begun b bs true e h = rw e (ap (λ (l : List ℕ). l ∷ all_lines bs) (sym (append-nil begun)))
by_byte begun b bs false e h =
    let next : position_or_len is_feed (b ∷ bs) ≡ suc (position_or_len is_feed bs) = rw e (omega arith) in
    let behind : suc (position_or_len is_feed bs + 1) ≡ position_or_len is_feed (b ∷ bs) + 1 = omega (arith, next) in
    all_from-more begun b bs e ∙ h
    ∙ ap (λ (l : List ℕ). l ∷ all_lines (after_first is_feed bs)) (append_assoc begun (b ∷ []) (before_first is_feed bs) ∙ ap (λ n. begun ++ take n (b ∷ bs)) (sym next))
    ∙ ap (λ n. (begun ++ before_first is_feed (b ∷ bs)) ∷ all_lines (drop n (b ∷ bs))) behind

all_from_first : (begun bs : List ℕ) → 0 < length begun → all_from begun bs ≡ (begun ++ before_first is_feed bs) ∷ all_lines (after_first is_feed bs)
all_from_first begun [] some = closed_some begun some ∙ ap (λ (l : List ℕ). l ∷ []) (sym (append-nil begun))
all_from_first begun (b ∷ bs) some =
    by_byte begun b bs (is_feed b) refl (all_from_first (begun ++ b ∷ []) bs (omega (arith, length-append begun (b ∷ []))))

-- the lines of a text that is not empty are its first line and the lines after it
pub lines_by_first : (text : List ℕ) → 0 < length text → all_lines text ≡ before_first is_feed text ∷ all_lines (behind_line text)
lines_by_first [] some = absurd (omega arith)
lines_by_first (b ∷ bs) some = by_byte [] b bs (is_feed b) refl (all_from_first (b ∷ []) bs (omega arith))
