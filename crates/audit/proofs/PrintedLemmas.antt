-- What is printed before the line feed of a line has no line feed.
use Rattle.std.proofs.Common.{◌≡◌, ℕ, zero, suc, ◌/◌, ◌%◌, ◌==◌, true, false, not, List, [], ◌∷◌, refl, ◌∙◌, arith}
use Rattle.std.specs.Prelude.{codes, decimal, slice_index_or, ℤ, pos, negsuc}
use Rattle.std.specs.Fmt.{digit_glyph, digits_onto, digits, signed_decimal}
use Rattle.std.specs.List.{list_all, join_with_byte}
use Rattle.std.proofs.lemmas.List.Folds.{list_all-append}
use Rattle.std.proofs.lemmas.Bool.{and_parts, cond_both}
use Rattle.std.proofs.lemmas.Bool.Decides.{nat_tests}
use Rattle.posix.specs.Common.{digit, hex, words_of, call_text, Line}
use Rattle.posix.specs.declared.call.Call.{Call}
use Rattle.posix.specs.declared.call.Call.TheVariants.{Exit}
use Rattle.posix.specs.declared.entry.Entry.{Entry}
use Rattle.posix.specs.declared.waits.WaitCall.TheVariants as wait
use Rattle.posix.specs.declared.entry.Entry.TheVariants.{Noted, Called, Moved, Reported, NoMemory, Marked, Handled, Halted}
use Rattle.trace.specs.Lines.{is_one_line}

-- ---- words

digit_one : (n : ℕ) → not (digit_glyph false n == 10) ≡ true
digit_one n = grind (arith, nat_tests)

digits_one : (k n : ℕ) (more : List ℕ) → is_one_line more ≡ true → is_one_line (digits_onto k 10 false n more) ≡ true
digits_one zero n more h = h
digits_one (suc k) n more h =
    let one : is_one_line (digit_glyph false (n % 10) ∷ more) ≡ true = rw (digit_one (n % 10), h) refl in
    cond_both (n / 10 == 0) _ _ (λ text. is_one_line text ≡ true) (λ last. one) (λ next. digits_one k (n / 10) (digit_glyph false (n % 10) ∷ more) one)

decimal_one : (n : ℕ) → is_one_line (decimal n) ≡ true
unfolding digits
decimal_one n = digits_one 64 n [] refl

signed_one : (z : ℤ) → is_one_line (signed_decimal z) ≡ true
signed_one (pos n) = decimal_one n
signed_one (negsuc n) = decimal_one (suc n)

name_one : (c : Call) → is_one_line (call_text c) ≡ true
name_one Exit = refl
name_one c = refl

item_one : (bs : List ℕ) (n : ℕ) → is_one_line bs ≡ true → not (slice_index_or bs n 0 == 10) ≡ true
item_one [] n h = refl
item_one (b ∷ bs) zero h = (and_parts (not (b == 10)) (is_one_line bs) h).0
item_one (b ∷ bs) (suc n) h = item_one bs n (and_parts (not (b == 10)) (is_one_line bs) h).1

hex_digit_one : (n : ℕ) → not (digit n == 10) ≡ true
hex_digit_one n = item_one (codes "0123456789abcdef") n refl

hex_one : (bytes : List ℕ) → is_one_line (hex bytes) ≡ true
unfolding hex
hex_one [] = refl
hex_one (b ∷ bs) = rw (hex_digit_one (b / 16), hex_digit_one (b % 16), hex_one bs) refl

-- ---- lines

joined_one : (words : List (List ℕ)) → list_all is_one_line words ≡ true → is_one_line (join_with_byte 32 words) ≡ true
joined_one [] h = refl
joined_one (w ∷ []) h = (and_parts (is_one_line w) true h).0
joined_one (w ∷ v ∷ ws) h =
    let p = and_parts (is_one_line w) (list_all is_one_line (v ∷ ws)) h in
    list_all-append (λ b. not (b == 10)) w (32 ∷ join_with_byte 32 (v ∷ ws)) ∙ rw (p.0, joined_one (v ∷ ws) p.1) refl

words_one : (e : Entry) → list_all is_one_line (words_of e) ≡ true
words_one Halted = refl
words_one (Noted p z) = simp (decimal_one, signed_one)
words_one (Called p call z) = simp (decimal_one, name_one, signed_one)
words_one (Moved p call bytes) = simp (decimal_one, name_one, hex_one)
words_one (NoMemory p call) = simp (decimal_one, name_one)
words_one (Handled p s z q) = simp (decimal_one, signed_one)
words_one (Reported p wait.Waitpid c w) = simp decimal_one
words_one (Marked p true) = simp decimal_one
words_one e = simp decimal_one

-- the text of a line, without its line feed
abbrev pub text_of : Line → List ℕ
text_of l = join_with_byte 32 (decimal l.event ∷ words_of l.entry)

pub text_one : (l : Line) → is_one_line (text_of l) ≡ true
text_one l = joined_one (decimal l.event ∷ words_of l.entry) (rw (decimal_one l.event, words_one l.entry) refl)
