-- Proofs about texts of words, which are cut at their zero bytes.
use Rattle.std.proofs.Common.{◌≡◌, ◌≢◌, ◌∙◌, ℕ, zero, suc, ◌+◌, ◌-◌, ◌<◌, ◌==◌, true, false, List, [], ◌∷◌, ◌++◌, Option, None, Some, length, take, drop, get_or, refl, ap, arith, length-drop, IfSome, IsUtf8}
use Rattle.std.specs.List.{AllByRecursion}
use Rattle.std.proofs.lemmas.List.{take_all}
use Rattle.std.proofs.lemmas.Bool.{false_from_ne_true}
use Rattle.memchr.specs.Find.{IsFirstByte, is_byte}
use Rattle.inputs.specs.Reads.{Text}
use Rattle.page.specs.Words.{IsNoText, behind, with_byte_if, with_word, words_of}

ends : (b : ℕ) (words : Option (List Text)) → (b == 0) ≡ true → with_byte_if b words ≡ with_word [] words
ends b None h = refl
ends b (Some words) h = rw h refl

begins : (b : ℕ) (word : Text) (words : Option (List Text)) → (b == 0) ≡ false → with_byte_if b (with_word word words) ≡ with_word (b ∷ word) words
begins b word None h = refl
begins b word (Some words) h = rw h refl

-- a text is its first word and the words after its zero byte
cut_at : (text : List ℕ) (end : ℕ) → end < length text → (get_or text end 0 == 0) ≡ true → ((k : ℕ) → k < end → (get_or text k 0 == 0) ≡ false)
    → words_of text ≡ with_word (take end text) (words_of (drop (suc end) text))
cut_at [] end within is before = absurd (omega (arith, within))
cut_at (b ∷ text) zero within is before = ends b (words_of text) is
cut_at (b ∷ text) (suc end) within is before =
    ap (with_byte_if b) (cut_at text end (omega (arith, within)) is (λ k h. before (suc k) (omega (arith, h))))
    ∙ begins b (take end text) (words_of (drop (suc end) text)) (before 0 (omega arith))

-- no word has a zero byte at its end
nowhere_ended : (text : List ℕ) → text ≢ [] → ((k : ℕ) → k < length text → (get_or text k 0 == 0) ≡ false) → words_of text ≡ None
nowhere_ended [] some none = absurd (some refl)
nowhere_ended (b ∷ []) some none = let h : (b == 0) ≡ false = none 0 (omega arith) in rw h refl
nowhere_ended (b ∷ (next ∷ text)) some none =
    ap (with_byte_if b) (nowhere_ended (next ∷ text) (λ e. cc) (λ k h. none (suc k) (omega (arith, h))))

pub first_cut : (text word rest : List ℕ) (end : ℕ) → IsFirstByte (is_byte 0) text (Some end) → word ≡ take end text → rest ≡ take (length text - (end + 1)) (drop (end + 1) text)
    → words_of text ≡ with_word word (words_of rest)
first_cut text word rest end h is_word is_rest =
    let cut = cut_at text end h.0.high h.1 (λ k low. false_from_ne_true _ (h.0.before k (omega arith) low)) in
    let next : end + 1 ≡ suc end = omega arith in
    let whole : rest ≡ drop (suc end) text = is_rest ∙ take_all (length text - (end + 1)) (drop (end + 1) text) (omega (arith, length-drop (end + 1) text)) ∙ ap (λ n. drop n text) next in
    rw (is_word, whole) cut

-- ---- texts that are not lists of UTF-8 words

pub not_ended : (text : List ℕ) → IsFirstByte (is_byte 0) text None → text ≢ [] → IsNoText text
not_ended text h some =
    let none = nowhere_ended text some (λ k low. false_from_ne_true _ (h k (omega arith) low)) in
    rw none tt

pub no_first_text : (text word rest : List ℕ) → words_of text ≡ with_word word (words_of rest) → (IsUtf8 word → ⊥) → IsNoText text
no_first_text text word rest cut other = rw cut (by (words_of rest))
  where
    by : (words : Option (List Text)) → IfSome (with_word word words) (λ ws. AllByRecursion IsUtf8 ws → ⊥)
    by None = tt
    by (Some words) = λ all. other all.0

pub no_text_behind : (text rest : List ℕ) (first : List Text) → words_of text ≡ behind first (words_of rest) → IsNoText rest → IsNoText text
no_text_behind text rest first cut h = rw cut (by (words_of rest) h)
  where
    all_behind : (first more : List Text) → AllByRecursion IsUtf8 (first ++ more) → AllByRecursion IsUtf8 more
    all_behind [] more all = all
    all_behind (word ∷ first) more all = all_behind first more all.1

    by : (words : Option (List Text)) → IfSome words (λ ws. AllByRecursion IsUtf8 ws → ⊥) → IfSome (behind first words) (λ ws. AllByRecursion IsUtf8 ws → ⊥)
    by None h = tt
    by (Some words) h = λ all. h (all_behind first words all)
