-- Lines of words are read back.
use Rattle.std.proofs.Common.{◌≡◌, ℕ, ◌≤◌, ◌==◌, Bool, true, false, not, List, [], ◌∷◌, ◌++◌, length, refl, ap, sym, ◌∙◌, append_assoc, append-nil, arith, Ok}
use Rattle.std.specs.Prelude.{◌&&◌, ◌||◌, nat_le, nat_lt, codes, flat_map}
use Rattle.std.specs.List.{list_all, list_any, prefix_len}
use Rattle.std.proofs.lemmas.Bool.{and_parts, ltb-true}
use Rattle.std.proofs.lemmas.Bool.Decides.{nat_tests}
use Rattle.std.proofs.lemmas.List.{take_all}
use Rattle.std.proofs.lemmas.List.Folds.{list_all-append}
use Rattle.text.specs.Lines.{all_lines, closed}
use Rattle.text.specs.Words.{words, words_from, is_separator, before_comment}
use Rattle.text.specs.Reading.{words_within}
use Rattle.text.proofs.LineLemmas.{closed_some, all_from, all_from-end, all_from-more}
use Rattle.text.proofs.WordLemmas.{words_from-more}

-- Each word after a space.
abbrev pub spaced : List (List ℕ) → List ℕ
spaced ws = flat_map (λ w. 32 ∷ w) ws

-- A line of words after four spaces.
abbrev pub line : List (List ℕ) → List ℕ
line ws = codes "   " ++ spaced ws ++ 10 ∷ []

-- Digits and letters, and some bytes between them.
abbrev pub is_plain : ℕ → Bool
is_plain b = nat_le 48 b && nat_le b 122

-- A word of such bytes.
abbrev pub is_plain_word : List ℕ → Bool
is_plain_word w = nat_lt 0 (length w) && list_all is_plain w

-- Such a byte, or a space.
abbrev is_blank_or_plain : ℕ → Bool
is_blank_or_plain b = (b == 32) || is_plain b

-- ---- bytes

all_weaker : (p q : ℕ → Bool) → ((b : ℕ) → p b ≡ true → q b ≡ true) → (bs : List ℕ) → list_all p bs ≡ true → list_all q bs ≡ true
all_weaker p q k [] h = refl
all_weaker p q k (b ∷ bs) h = let both = and_parts (p b) (list_all p bs) h in rw (k b both.0, all_weaker p q k bs both.1) refl

prefix_all : (p : ℕ → Bool) (bs : List ℕ) → list_all p bs ≡ true → prefix_len p bs ≡ length bs
prefix_all p [] h = refl
prefix_all p (b ∷ bs) h = let both = and_parts (p b) (list_all p bs) h in rw both.0 (omega (arith, prefix_all p bs both.1))

blank_or_plain : (b : ℕ) → is_plain b ≡ true → is_blank_or_plain b ≡ true
blank_or_plain b h = grind (arith, nat_tests)

no_feed : (b : ℕ) → is_blank_or_plain b ≡ true → not (b == 10) ≡ true
no_feed b h = grind (arith, nat_tests)

no_mark : (b : ℕ) → is_blank_or_plain b ≡ true → not (b == 35) ≡ true
no_mark b h = grind (arith, nat_tests)

no_separator : (b : ℕ) → is_plain b ≡ true → is_separator b ≡ false
no_separator b h = grind (arith, nat_tests)

spaced_bytes : (ws : List (List ℕ)) → list_all is_plain_word ws ≡ true → list_all is_blank_or_plain (spaced ws) ≡ true
spaced_bytes [] h = refl
spaced_bytes (w ∷ ws) h =
    let both = and_parts (is_plain_word w) (list_all is_plain_word ws) h in
    let word = and_parts (nat_lt 0 (length w)) (list_all is_plain w) both.0 in
    list_all-append is_blank_or_plain w (spaced ws) ∙ rw (all_weaker is_plain is_blank_or_plain blank_or_plain w word.1, spaced_bytes ws both.1) refl

-- ---- the first line

pub no_feeds : (bs : List ℕ) → list_any (λ b. b == 10) bs ≡ false → list_all (λ b. not (b == 10)) bs ≡ true
no_feeds [] h = refl
no_feeds (b ∷ bs) h = grind (arith, nat_tests, no_feeds bs)

pub first_line : (begun bs rest : List ℕ) → list_all (λ b. not (b == 10)) bs ≡ true → all_from begun (bs ++ 10 ∷ rest) ≡ (begun ++ bs) ∷ all_lines rest
first_line begun [] rest h = all_from-end begun 10 rest refl ∙ ap (λ (l : List ℕ). l ∷ all_lines rest) (sym (append-nil begun))
first_line begun (b ∷ bs) rest h =
    let both = and_parts (not (b == 10)) (list_all (λ c. not (c == 10)) bs) h in
    let more : (b == 10) ≡ false = grind (arith, nat_tests, both.0) in
    all_from-more begun b (bs ++ 10 ∷ rest) more
    ∙ first_line (begun ++ b ∷ []) bs rest both.1
    ∙ ap (λ (l : List ℕ). l ∷ all_lines rest) (append_assoc begun (b ∷ []) bs)

pub line_first : (ws : List (List ℕ)) (rest : List ℕ) → list_all is_plain_word ws ≡ true → all_lines (line ws ++ rest) ≡ (codes "   " ++ spaced ws) ∷ all_lines rest
line_first ws rest h =
    let bytes = all_weaker is_blank_or_plain (λ b. not (b == 10)) no_feed (spaced ws) (spaced_bytes ws h) in
    let shape : line ws ++ rest ≡ (codes "   " ++ spaced ws) ++ 10 ∷ rest = ap (λ (l : List ℕ). codes "   " ++ l) (append_assoc (spaced ws) (10 ∷ []) rest) in
    ap all_lines shape ∙ first_line [] (codes "   " ++ spaced ws) rest bytes

-- ---- its words

word_taken : (begun w rest : List ℕ) → list_all is_plain w ≡ true → words_from begun (w ++ rest) ≡ words_from (begun ++ w) rest
word_taken begun [] rest h = ap (λ (l : List ℕ). words_from l rest) (sym (append-nil begun))
word_taken begun (b ∷ bs) rest h =
    let both = and_parts (is_plain b) (list_all is_plain bs) h in
    words_from-more begun b (bs ++ rest) (no_separator b both.0)
    ∙ word_taken (begun ++ b ∷ []) bs rest both.1
    ∙ ap (λ (l : List ℕ). words_from l rest) (append_assoc begun (b ∷ []) bs)

spaced_words : (begun : List ℕ) (ws : List (List ℕ)) → list_all is_plain_word ws ≡ true → words_from begun (spaced ws) ≡ closed begun ++ ws
spaced_words begun [] h = sym (append-nil (closed begun))
spaced_words begun (w ∷ ws) h =
    let both = and_parts (is_plain_word w) (list_all is_plain_word ws) h in
    let word = and_parts (nat_lt 0 (length w)) (list_all is_plain w) both.0 in
    ap (λ (l : List (List ℕ)). closed begun ++ l) (
    word_taken [] w (spaced ws) word.1
    ∙ spaced_words w ws both.1
    ∙ ap (λ (l : List (List ℕ)). l ++ ws) (closed_some w (ltb-true 0 (length w) word.0))
    )

pub words_back : (ws : List (List ℕ)) → list_all is_plain_word ws ≡ true → length (spaced ws) ≤ 197 → words_within (codes "   " ++ spaced ws) ≡ Ok ws
words_back ws h short =
    let bytes = all_weaker is_blank_or_plain (λ b. not (b == 35)) no_mark (spaced ws) (spaced_bytes ws h) in
    let whole : before_comment (codes "   " ++ spaced ws) ≡ codes "   " ++ spaced ws =
    take_all (prefix_len (λ b. not (b == 35)) (codes "   " ++ spaced ws)) (codes "   " ++ spaced ws) (omega (arith, prefix_all (λ b. not (b == 35)) (codes "   " ++ spaced ws) bytes)) in
    let fits : nat_lt 200 (length (codes "   " ++ spaced ws)) ≡ false = grind (arith, nat_tests, short) in
    rw fits (ap Ok (ap words whole ∙ spaced_words [] ws h))
