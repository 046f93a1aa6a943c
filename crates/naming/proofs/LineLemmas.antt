-- Lines without a line feed, and what replaces them.
use Rattle.std.proofs.Common.{◌≡◌, ◌≢◌, ℕ, List, [], ◌∷◌, ◌++◌, ◌==◌, Bor, length, not, take, drop, refl, ap, subst, sym, true, ◌∙◌}
use Rattle.std.specs.Prelude.{All}
use Rattle.std.proofs.Math.Seq.{take-append_seam, drop-append_seam}
use Rattle.std.proofs.lemmas.List.Elements.{All-append, All-cons, All-drop, All-nil, All-take}
use Rattle.std.proofs.lemmas.Bool.{false≢true}
use Rattle.std.proofs.lemmas.List.Folds.{list_all_at}
use Rattle.std.specs.List.{position_or_len}
use Rattle.text.specs.Words.{behind_word, from_word, is_separator}
use Rattle.trace.specs.Lines.{is_one_line}
use Rattle.naming.specs.Lines.{IsOneLine}
use Rattle.naming.specs.Sets.{behind_second}

-- for all bytes, and for each
pub each_of_one : (line : List ℕ) → is_one_line line ≡ true → IsOneLine line
each_of_one line one = λ i d within is. false≢true (sym (list_all_at (λ b. not (b == 10)) line i d within (rw is refl)) ∙ one)

-- one line before another is one line
pub both_one_line : (xs ys : List ℕ) → IsOneLine xs → IsOneLine ys → IsOneLine (xs ++ ys)
both_one_line xs ys h k = All-append (λ b. b ≢ 10) xs ys h k

-- a part of one line is one line
pub front_one_line : (whole xs ys : List ℕ) → whole ≡ xs ++ ys → IsOneLine whole → IsOneLine xs
front_one_line whole xs ys e h =
    let same : take (length xs) whole ≡ xs = ap (take (length xs)) e ∙ take-append_seam xs ys in
    subst IsOneLine same (All-take (λ b. b ≢ 10) (length xs) whole h)

pub rest_one_line : (whole xs ys : List ℕ) → whole ≡ xs ++ ys → IsOneLine whole → IsOneLine ys
rest_one_line whole xs ys e h =
    let same : drop (length xs) whole ≡ ys = ap (drop (length xs)) e ∙ drop-append_seam xs ys in
    subst IsOneLine same (All-drop (λ b. b ≢ 10) (length xs) whole h)

pub parts_one_line : (whole xs ys zs : List ℕ) → whole ≡ xs ++ (ys ++ zs) → IsOneLine whole → IsOneLine xs × IsOneLine ys × IsOneLine zs
parts_one_line whole xs ys zs e h =
    let more = rest_one_line whole xs (ys ++ zs) e h in
    (front_one_line whole xs (ys ++ zs) e h, front_one_line (ys ++ zs) ys zs refl more, rest_one_line (ys ++ zs) ys zs refl more)

pub range_one_line : (xs : List ℕ) (n k : ℕ) → IsOneLine xs → IsOneLine (take n (drop k xs))
range_one_line xs n k h = All-take (λ b. b ≢ 10) n (drop k xs) (All-drop (λ b. b ≢ 10) k xs h)

pub two_one_line : (a b : ℕ) → a ≢ 10 → b ≢ 10 → IsOneLine (a ∷ b ∷ [])
two_one_line a b h k = All-cons (λ b. b ≢ 10) a (b ∷ []) h (All-cons (λ b. b ≢ 10) b [] k (All-nil (λ b. b ≢ 10)))

pub from_word_one_line : (text : List ℕ) → IsOneLine text → IsOneLine (from_word text)
from_word_one_line text h = All-drop (λ b. b ≢ 10) (position_or_len (λ b. not (is_separator b)) text) text h

behind_word_one_line : (text : List ℕ) → IsOneLine text → IsOneLine (behind_word text)
behind_word_one_line text h = All-drop (λ b. b ≢ 10) (position_or_len is_separator (from_word text)) (from_word text) (from_word_one_line text h)

pub behind_second_one_line : (text : List ℕ) → IsOneLine text → IsOneLine (behind_second text)
behind_second_one_line text h = behind_word_one_line (behind_word text) (behind_word_one_line text h)

-- four texts that are one line each
pub four_one_line : (a b c d : Bor (List ℕ)) → IsOneLine a.now → IsOneLine b.now → IsOneLine c.now → IsOneLine d.now → All (λ (t : Bor (List ℕ)). IsOneLine t.now) (a ∷ b ∷ c ∷ d ∷ [])
four_one_line a b c d ha hb hc hd =
    let P : Bor (List ℕ) → Type 0 = λ t. IsOneLine t.now in
    All-cons P a (b ∷ c ∷ d ∷ []) ha (All-cons P b (c ∷ d ∷ []) hb (All-cons P c (d ∷ []) hc (All-cons P d [] hd (All-nil P))))
