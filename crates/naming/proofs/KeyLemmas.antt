-- The words of a line, in which a byte replaces each key.
use Rattle.std.proofs.Common.{◌≡◌, ℕ, ◌-◌, suc, Bool, true, false, List, [], ◌∷◌, ◌++◌, drop, length, take, refl, ap, sym, ◌∙◌, append_assoc, append-nil, length-append, arith}
use Rattle.std.specs.Prelude.{not}
use Rattle.std.specs.List.{position_or_len}
use Rattle.std.proofs.Math.Seq.{drop-append_seam, take-append_seam}
use Rattle.std.proofs.lemmas.List.{append_cancel_right, nil_from_length, take-append-drop}
use Rattle.text.specs.Words.{before_comment, behind_word, first_word, from_word, is_separator}
use Rattle.naming.specs.Keys.{key_named, keys_from, keys_named}
use Rattle.naming.specs.Sets.{behind_second}

-- ---- what is before the first word

-- The separators at the front of a text are all that is before its first word.
pub before_word : (text seps : List ℕ) → text ≡ seps ++ (first_word text ++ behind_word text) → seps ≡ take (length text - length (from_word text)) text
before_word text seps e =
    let whole : first_word text ++ behind_word text ≡ from_word text = take-append-drop (position_or_len is_separator (from_word text)) (from_word text) in
    let is : text ≡ seps ++ from_word text = e ∙ ap (λ (x : List ℕ). seps ++ x) whole in
    let len : length seps ≡ length text - length (from_word text) = omega (arith, ap length is, length-append seps (from_word text)) in
    sym (ap (λ n. take n text) (sym len) ∙ ap (take (length seps)) is ∙ take-append_seam seps (from_word text))

skipped : (b : ℕ) (bs : List ℕ) → is_separator b ≡ true → from_word (b ∷ bs) ≡ from_word bs
skipped b bs e =
    let next : position_or_len (λ b. not (is_separator b)) (b ∷ bs) ≡ suc (position_or_len (λ b. not (is_separator b)) bs) = rw e (omega arith) in
    ap (λ n. drop n (b ∷ bs)) next

-- ---- keys

record IsSkipped (text : List ℕ) : Type 0 where
  pub front : List ℕ
  pub is : text ≡ front ++ from_word text
  pub keys : keys_from [] text ≡ front ++ keys_from [] (from_word text)

skip_more : (b : ℕ) (bs : List ℕ) (t : Bool) → is_separator b ≡ t → IsSkipped bs → IsSkipped (b ∷ bs)
unfolding key_named
skip_more b bs true e h = record {
  front = b ∷ h.front;
  is = ap (λ (x : List ℕ). b ∷ x) h.is ∙ sym (ap (λ (x : List ℕ). (b ∷ h.front) ++ x) (skipped b bs e));
  keys = keys_are ∙ ap (λ (x : List ℕ). b ∷ x) h.keys ∙ sym (ap (λ (x : List ℕ). (b ∷ h.front) ++ keys_from [] x) (skipped b bs e));
}
  where
    keys_are : keys_from [] (b ∷ bs) ≡ b ∷ keys_from [] bs
    keys_are = rw e refl
skip_more b bs false e h = let same : from_word (b ∷ bs) ≡ b ∷ bs = rw e refl in
    record { front = []; is = sym same; keys = ap (keys_from []) (sym same) }

is_skipped : (text : List ℕ) → IsSkipped text
unfolding key_named
is_skipped [] = record { front = []; is = refl; keys = refl }
is_skipped (b ∷ bs) = skip_more b bs (is_separator b) refl (is_skipped bs)

take_more : (begun : List ℕ) (b : ℕ) (bs : List ℕ) (t : Bool) → is_separator b ≡ t
    → keys_from (begun ++ b ∷ []) bs ≡ key_named ((begun ++ b ∷ []) ++ take (position_or_len is_separator bs) bs) ++ keys_from [] (drop (position_or_len is_separator bs) bs)
    → keys_from begun (b ∷ bs) ≡ key_named (begun ++ take (position_or_len is_separator (b ∷ bs)) (b ∷ bs)) ++ keys_from [] (drop (position_or_len is_separator (b ∷ bs)) (b ∷ bs))
unfolding key_named
take_more begun b bs true e h = rw (e, append-nil begun, e) refl
take_more begun b bs false e h =
    let next : position_or_len is_separator (b ∷ bs) ≡ suc (position_or_len is_separator bs) = rw e (omega arith) in
    let step : keys_from begun (b ∷ bs) ≡ keys_from (begun ++ b ∷ []) bs = rw e refl in
    step ∙ h ∙ ap (λ (w : List ℕ). key_named w ++ keys_from [] (drop (position_or_len is_separator bs) bs)) (append_assoc begun (b ∷ []) (take (position_or_len is_separator bs) bs))
    ∙ ap (λ n. key_named (begun ++ take n (b ∷ bs)) ++ keys_from [] (drop n (b ∷ bs))) (sym next)

taken : (begun text : List ℕ) → keys_from begun text ≡ key_named (begun ++ take (position_or_len is_separator text) text) ++ keys_from [] (drop (position_or_len is_separator text) text)
unfolding key_named
taken begun [] = rw (append-nil begun) (sym (append-nil (key_named begun)))
taken begun (b ∷ bs) = take_more begun b bs (is_separator b) refl (taken (begun ++ b ∷ []) bs)

-- separators, a word and what follows it
pub keys_step : (text seps : List ℕ) → text ≡ seps ++ (first_word text ++ behind_word text) → keys_from [] text ≡ seps ++ (key_named (first_word text) ++ keys_from [] (behind_word text))
keys_step text seps e =
    let h = is_skipped text in
    let whole : first_word text ++ behind_word text ≡ from_word text = take-append-drop (position_or_len is_separator (from_word text)) (from_word text) in
    let same : h.front ≡ seps = append_cancel_right h.front seps (from_word text) (sym h.is ∙ e ∙ ap (λ (x : List ℕ). seps ++ x) whole) in
    h.keys ∙ ap (λ (x : List ℕ). x ++ keys_from [] (from_word text)) same ∙ ap (λ (x : List ℕ). seps ++ x) (taken [] (from_word text))

-- only separators
pub keys_none : (text : List ℕ) → length (from_word text) ≡ 0 → keys_from [] text ≡ text
unfolding key_named
keys_none text none =
    let h = is_skipped text in
    let empty : from_word text ≡ [] = nil_from_length (from_word text) none in
    h.keys ∙ ap (λ (x : List ℕ). h.front ++ keys_from [] x) empty ∙ sym (h.is ∙ ap (λ (x : List ℕ). h.front ++ x) empty)

-- ---- a whole line

-- the line before its keys
abbrev pub front_of : List ℕ → List ℕ
front_of line = take (length (before_comment line) - length (behind_second (before_comment line))) (before_comment line)

abbrev pub keys_of : List ℕ → List ℕ
keys_of line = behind_second (before_comment line)

pub keys_all : (line code text rest comment out : List ℕ) → text ++ keys_from [] rest ≡ front_of line ++ keys_from [] (keys_of line) → length (from_word rest) ≡ 0
    → code ≡ before_comment line → line ≡ code ++ comment → out ≡ (text ++ rest) ++ comment → out ≡ (keys_named line).text
unfolding keys_named
keys_all line code text rest comment out so_far none code_is whole out_is =
    let seam : drop (length code) line ≡ comment = ap (drop (length code)) whole ∙ drop-append_seam code comment in
    let comment_is : comment ≡ drop (length (before_comment line)) line = rw code_is at (sym seam) in
    out_is ∙ ap (λ (x : List ℕ). x ++ comment) (ap (λ (x : List ℕ). text ++ x) (sym (keys_none rest none)) ∙ so_far)
    ∙ append_assoc (front_of line) (keys_from [] (keys_of line)) comment ∙ ap (λ (x : List ℕ). front_of line ++ (keys_from [] (keys_of line) ++ x)) comment_is

-- one more word
pub keys_more : (text rest seps word more front out : List ℕ) → rest ≡ seps ++ (word ++ more) → word ≡ first_word rest → more ≡ behind_word rest → out ≡ (text ++ seps) ++ key_named word
    → text ++ keys_from [] rest ≡ front → out ++ keys_from [] more ≡ front
keys_more text rest seps word more front out whole word_is more_is out_is so_far =
    let step : keys_from [] rest ≡ seps ++ (key_named word ++ keys_from [] more) = rw (word_is, more_is) (keys_step rest seps (rw (← word_is) (rw (← more_is) whole))) in
    ap (λ (x : List ℕ). x ++ keys_from [] more) out_is ∙ append_assoc (text ++ seps) (key_named word) (keys_from [] more) ∙ append_assoc text seps (key_named word ++ keys_from [] more)
    ∙ ap (λ (x : List ℕ). text ++ x) (sym step) ∙ so_far
