-- How the first word of a line is found.
use Rattle.std.proofs.Common.{◌≡◌, ℕ, ◌<◌, suc, Bool, true, false, List, [], ◌∷◌, ◌++◌, length, drop, take, refl, ap, sym, ◌∙◌, append_assoc, append-nil, subst, arith, length-take}
use Rattle.std.specs.Prelude.{nat_lt, not, unwrap_or}
use Rattle.std.specs.List.{before_first, position, position_or_len}
use Rattle.std.proofs.lemmas.Bool.{ltb-false}
use Rattle.std.proofs.lemmas.List.{nil_from_length}
use Rattle.std.proofs.lemmas.List.Sums.{prefix_len-le-length}
use Rattle.text.specs.Lines.{closed}
use Rattle.text.specs.Words.{behind_word, first_word, from_word, is_separator, words, words_from}
use Rattle.text.proofs.LineLemmas.{closed_some}

by_test : (p : ℕ → Bool) (xs : List ℕ) (b : Bool) → nat_lt (position_or_len p xs) (length xs) ≡ b → unwrap_or (position p xs) (length xs) ≡ position_or_len p xs
by_test p xs true e = rw e refl
by_test p xs false e =
    let ge = ltb-false (position_or_len p xs) (length xs) e in
    let le = prefix_len-le-length (λ x. not (p x)) xs in
    let same : length xs ≡ position_or_len p xs = omega (arith, ge, le) in
    rw e same

-- the first index, or the end
pub first_or_end : (p : ℕ → Bool) (xs : List ℕ) → unwrap_or (position p xs) (length xs) ≡ position_or_len p xs
first_or_end p xs = by_test p xs (nat_lt (position_or_len p xs) (length xs)) refl

-- ---- words

-- a separator at the start is skipped, and no other byte is
skipped : (b : ℕ) (bs : List ℕ) → is_separator b ≡ true → from_word (b ∷ bs) ≡ from_word bs
skipped b bs e =
    let next : position_or_len (λ b. not (is_separator b)) (b ∷ bs) ≡ suc (position_or_len (λ b. not (is_separator b)) bs) = rw e (omega arith) in
    ap (λ n. drop n (b ∷ bs)) next

kept : (b : ℕ) (bs : List ℕ) → is_separator b ≡ false → from_word (b ∷ bs) ≡ b ∷ bs
kept b bs e = rw e refl

skip : (b : ℕ) (bs : List ℕ) (t : Bool) → is_separator b ≡ t → words bs ≡ words (from_word bs) → words (b ∷ bs) ≡ words (from_word (b ∷ bs))
skip b bs true e h = let step : words (b ∷ bs) ≡ words bs = rw e refl in step ∙ h ∙ ap words (sym (skipped b bs e))
skip b bs false e h = ap words (sym (kept b bs e))

words_skip : (text : List ℕ) → words text ≡ words (from_word text)
words_skip [] = refl
words_skip (b ∷ bs) = skip b bs (is_separator b) refl (words_skip bs)

pub words_from-more : (begun : List ℕ) (b : ℕ) (bs : List ℕ) → is_separator b ≡ false → words_from begun (b ∷ bs) ≡ words_from (begun ++ b ∷ []) bs
words_from-more begun b bs h = rw h refl

-- the bytes up to the next separator belong to the word that has begun
take_word : (begun : List ℕ) (b : ℕ) (bs : List ℕ) (t : Bool) → is_separator b ≡ t
    → words_from (begun ++ b ∷ []) bs ≡ closed ((begun ++ b ∷ []) ++ before_first is_separator bs) ++ words (drop (position_or_len is_separator bs) bs)
    → words_from begun (b ∷ bs) ≡ closed (begun ++ before_first is_separator (b ∷ bs)) ++ words (drop (position_or_len is_separator (b ∷ bs)) (b ∷ bs))
take_word begun b bs true e h = rw (e, append-nil begun, e) refl
take_word begun b bs false e h =
    let next : position_or_len is_separator (b ∷ bs) ≡ suc (position_or_len is_separator bs) = rw e (omega arith) in
    words_from-more begun b bs e ∙ h
    ∙ ap (λ (w : List ℕ). closed w ++ words (drop (position_or_len is_separator bs) bs)) (append_assoc begun (b ∷ []) (before_first is_separator bs))
    ∙ ap (λ n. closed (begun ++ take n (b ∷ bs)) ++ words (drop n (b ∷ bs))) (sym next)

words_take : (begun text : List ℕ) → words_from begun text ≡ closed (begun ++ before_first is_separator text) ++ words (drop (position_or_len is_separator text) text)
words_take begun [] = rw (append-nil begun) (sym (append-nil (closed begun)))
words_take begun (b ∷ bs) = take_word begun b bs (is_separator b) refl (words_take (begun ++ b ∷ []) bs)

abbrev WordHasBytes : List ℕ → Type 0
WordHasBytes rest = 0 < length rest → 0 < position_or_len is_separator rest

has_bytes : (b : ℕ) (bs : List ℕ) (t : Bool) → is_separator b ≡ t → WordHasBytes (from_word bs) → WordHasBytes (from_word (b ∷ bs))
has_bytes b bs true e h = subst WordHasBytes (sym (skipped b bs e)) h
has_bytes b bs false e h =
    let next : position_or_len is_separator (b ∷ bs) ≡ suc (position_or_len is_separator bs) = rw e (omega arith) in
    subst WordHasBytes (sym (kept b bs e)) (λ some. omega (arith, next))

-- a word has a byte
pub word_has_bytes : (text : List ℕ) → 0 < length (from_word text) → 0 < position_or_len is_separator (from_word text)
word_has_bytes [] some = absurd (omega (arith, some))
word_has_bytes (b ∷ bs) some = has_bytes b bs (is_separator b) refl (word_has_bytes bs) some

-- the words of a text are its first word and the words after it, if there is a first word
pub words_by_first : (text : List ℕ) → 0 < length (from_word text) → words text ≡ first_word text ∷ words (behind_word text)
words_by_first text some =
    let has = word_has_bytes text some in
    words_skip text ∙ words_take [] (from_word text)
    ∙ ap (λ ws. ws ++ words (behind_word text)) (closed_some (first_word text) (simp length-take (omega (arith, has, some))))

pub no_words : (text : List ℕ) → length (from_word text) ≡ 0 → words text ≡ []
no_words text none = words_skip text ∙ ap words (nil_from_length (from_word text) none)

pub ruleset word_rules = (word_has_bytes, words_by_first, no_words)
