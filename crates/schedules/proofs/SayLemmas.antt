-- What lines are read as, one after another.
use Rattle.std.proofs.Common.{◌≡◌, ℕ, ◌+◌, ◌-◌, ◌*◌, ◌<◌, ◌≤◌, ◌==◌, true, false, List, [], ◌∷◌, ◌++◌, length, map, refl, ap, sym, ◌∙◌, append_assoc, append-nil, arith, length-append, Ok}
use Rattle.std.specs.Prelude.{◌&&◌, nat_le, nat_lt, codes, decimal, replicate}
use Rattle.std.specs.List.{list_all, list_any}
use Rattle.std.proofs.lemmas.Bool.{and_parts, leb-true}
use Rattle.std.proofs.lemmas.Bool.Decides.{nat_tests}
use Rattle.std.proofs.lemmas.Fmt.{length-decimal-le}
use Rattle.std.proofs.lemmas.List.{length-replicate, length-map}
use Rattle.std.proofs.lemmas.List.Folds.{list_all-append}
use Rattle.posix.specs.declared.event.Event.{Event}
use Rattle.posix.specs.declared.event.Event.TheVariants.{Step, Tick, Key, Hangup}
use Rattle.text.specs.Lines.{all_lines}
use Rattle.text.specs.Reading.{◌>>=◌}
use Rattle.text.specs.EventTexts.{read_lines, start, answer, event_text, event_words, judged, judged_line, counted, keys, hangup, most_events}
use Rattle.text.specs.Numbers.{two_digits}
use Rattle.schedules.specs.EventLines.{Says, StandsFor, IsWordOf, read_well, is_possible}
use Rattle.schedules.proofs.LineLemmas.{is_plain_word, spaced, line, first_line, line_first, no_feeds, words_back}
use Rattle.schedules.proofs.NumberLemmas.{decimal_plain, number_back, bytes_plain, bytes_back}

-- ---- of any lines

pub says_nothing : Says [] []
says_nothing consoles lines before rest fine room = (lines, ap (λ (es : List Event). read_lines consoles (read_well lines es) (all_lines rest)) (sym (append-nil before)))

pub says_joined : (t u : List ℕ) (es fs : List Event) → Says t es → Says u fs → Says (t ++ u) (es ++ fs)
says_joined t u es fs p q consoles lines before rest fine room =
    let both = and_parts (list_all (is_possible consoles) es) (list_all (is_possible consoles) fs) (sym (list_all-append (is_possible consoles) es fs) ∙ fine) in
    let one = p consoles lines before (u ++ rest) both.0 (omega (arith, length-append es fs)) in
    let two = q consoles one.0 (before ++ es) rest both.1 (omega (arith, length-append es fs, length-append before es)) in (
      two.0,
      ap (λ (l : List ℕ). read_lines consoles (read_well lines before) (all_lines l)) (append_assoc t u rest)
          ∙ one.1
          ∙ two.1
          ∙ ap (λ (ds : List Event). read_lines consoles (read_well two.0 ds) (all_lines rest)) (append_assoc before es fs),
    )

-- Whole lines are a text.
pub stands : (text : List ℕ) (events : List Event) → Says text events → length events ≤ most_events → StandsFor text events
unfolding event_text
stands text events says few consoles fine =
    let all = says consoles 0 [] [] fine (omega arith) in
    ap answer (ap (λ (l : List ℕ). read_lines consoles start (all_lines l)) (sym (append-nil text)) ∙ all.1)

-- ---- of one line

line_says : (ws : List (List ℕ)) (events : List Event) → list_all is_plain_word ws ≡ true → length (spaced ws) ≤ 197
    → ((consoles room : ℕ) → list_all (is_possible consoles) events ≡ true → length events ≤ room → event_words consoles room ws ≡ Ok events) → Says (line ws) events
line_says ws events plain short said consoles lines before rest fine room =
    let judges : judged_line consoles (read_well lines before) (codes "   " ++ spaced ws) ≡ read_well (lines + 1) (before ++ events) =
    ap (judged (read_well lines before)) (
    ap (λ r. r >>= event_words consoles (most_events - length before)) (words_back ws plain short)
    ∙ said consoles (most_events - length before) fine (omega arith)
    )
    in (
      lines + 1,
      ap (read_lines consoles (read_well lines before)) (line_first ws rest plain)
          ∙ ap (λ r. read_lines consoles r (all_lines rest)) judges,
    )

-- ---- of a comment

-- A comment after four spaces.
abbrev pub comment_line : List ℕ → List ℕ
comment_line comment = codes "    # " ++ (comment ++ 10 ∷ [])

pub comment_says : (comment : List ℕ) → length comment ≤ 194 → list_any (λ b. b == 10) comment ≡ false → Says (comment_line comment) []
comment_says comment short whole consoles lines before rest fine room =
    let fits : nat_lt 200 (length (codes "    # " ++ comment)) ≡ false = grind (arith, nat_tests, short) in
    let judges : judged_line consoles (read_well lines before) (codes "    # " ++ comment) ≡ read_well (lines + 1) (before ++ []) = rw fits refl in
    let shape : comment_line comment ++ rest ≡ (codes "    # " ++ comment) ++ 10 ∷ rest = ap (λ (l : List ℕ). codes "    # " ++ l) (append_assoc comment (10 ∷ []) rest) in (
      lines + 1,
      ap (λ (l : List ℕ). read_lines consoles (read_well lines before) (all_lines l)) shape
          ∙ ap (read_lines consoles (read_well lines before)) (first_line [] (codes "    # " ++ comment) rest (no_feeds comment whole))
          ∙ ap (λ r. read_lines consoles r (all_lines rest)) judges,
    )

-- ---- of steps and ticks

counted_back : (room n : ℕ) (event : Event) → 1 ≤ n → n ≤ 1000000 → n ≤ room → counted room event (decimal n ∷ []) ≡ Ok (replicate n event)
unfolding counted
counted_back room n event least most fits =
    let there : nat_le n room ≡ true = grind (arith, nat_tests, fits) in
    rw (number_back 1 1000000 n (omega arith) least most, there) refl

counted_len : (word : List ℕ) (n : ℕ) → length word ≡ 4 → n ≤ 1000000 → length (spaced (word ∷ decimal n ∷ [])) ≤ 197
counted_len word n four most =
    let digits : length (decimal n) ≤ 7 = length-decimal-le 7 n (omega arith) (omega arith) (omega arith) in
    omega (arith, length-append word (32 ∷ (decimal n ++ [])), length-append (decimal n) [], four, digits)

pub counted_says : (word : List ℕ) (event : Event) (n : ℕ) → IsWordOf event word → 1 ≤ n → n ≤ 1000000 → Says (line (word ∷ decimal n ∷ [])) (replicate n event)
counted_says word Step n is least most = rw is (
    let plain : list_all is_plain_word (codes "step" ∷ decimal n ∷ []) ≡ true = rw (decimal_plain n (omega arith)) refl in
    line_says (codes "step" ∷ decimal n ∷ []) (replicate n Step) plain (counted_len (codes "step") n refl most)
    (λ consoles room fine fits. counted_back room n Step least most (omega (arith, length-replicate n Step)))
    )
counted_says word Tick n is least most = rw is (
    let plain : list_all is_plain_word (codes "tick" ∷ decimal n ∷ []) ≡ true = rw (decimal_plain n (omega arith)) refl in
    line_says (codes "tick" ∷ decimal n ∷ []) (replicate n Tick) plain (counted_len (codes "tick") n refl most)
    (λ consoles room fine fits. counted_back room n Tick least most (omega (arith, length-replicate n Tick)))
    )
counted_says word (Key console byte) n is least most = absurd is
counted_says word (Hangup console) n is least most = absurd is

-- ---- of hangups

hangup_back : (consoles room console : ℕ) → console < 256 → is_possible consoles (Hangup console) ≡ true → 1 ≤ room → hangup consoles room (decimal console ∷ []) ≡ Ok (Hangup console ∷ [])
unfolding hangup
hangup_back consoles room console small fine fits =
    let both = and_parts (nat_le 1 console) (nat_le console consoles) fine in
    let there : nat_le 1 room ≡ true = grind (arith, nat_tests, fits) in
    rw (number_back 1 consoles console (omega arith) (leb-true 1 console both.0) (leb-true console consoles both.1), there) refl

pub hangup_says : (console : ℕ) → console < 256 → Says (line (codes "hangup" ∷ decimal console ∷ [])) (Hangup console ∷ [])
hangup_says console small =
    let plain : list_all is_plain_word (codes "hangup" ∷ decimal console ∷ []) ≡ true = rw (decimal_plain console (omega arith)) refl in
    let digits : length (decimal console) ≤ 3 = length-decimal-le 3 console (omega arith) (omega arith) (omega arith) in
    let short : length (spaced (codes "hangup" ∷ decimal console ∷ [])) ≤ 197 = omega (arith, length-append (decimal console) [], digits) in
    line_says (codes "hangup" ∷ decimal console ∷ []) (Hangup console ∷ []) plain short
    (λ consoles room fine fits. hangup_back consoles room console small (and_parts (is_possible consoles (Hangup console)) true fine).0 fits)

-- ---- of keys

-- The words of a line of keys.
abbrev pub key_words : ℕ → List ℕ → List (List ℕ)
key_words console bytes = codes "key" ∷ decimal console ∷ map two_digits bytes

keys_back : (consoles room console : ℕ) (b : ℕ) (bs : List ℕ) → console < 256 → list_all (λ c. nat_lt c 256) (b ∷ bs) ≡ true
    → list_all (is_possible consoles) (map (Key console) (b ∷ bs)) ≡ true → length (b ∷ bs) ≤ room → keys consoles room (decimal console ∷ map two_digits (b ∷ bs)) ≡ Ok (map (Key console) (b ∷ bs))
unfolding keys
keys_back consoles room console b bs small bytes fine fits =
    let here = and_parts (nat_le 1 console && nat_le console consoles) (list_all (is_possible consoles) (map (Key console) bs)) fine in
    let both = and_parts (nat_le 1 console) (nat_le console consoles) here.0 in
    rw (number_back 1 consoles console (omega arith) (leb-true 1 console both.0) (leb-true console consoles both.1), bytes_back room (b ∷ bs) bytes fits) refl

bytes_len : (bytes : List ℕ) → length (spaced (map two_digits bytes)) ≡ 3 * length bytes
bytes_len [] = refl
bytes_len (b ∷ bs) = omega (arith, bytes_len bs)

pub keys_say : (console : ℕ) (bytes : List ℕ) → console < 256 → 0 < length bytes → length bytes ≤ 16 → list_all (λ b. nat_lt b 256) bytes ≡ true → Says (line (key_words console bytes)) (map (Key console) bytes)
keys_say console [] small some few h = absurd (omega arith)
keys_say console (b ∷ bs) small some few h =
    let plain : list_all is_plain_word (key_words console (b ∷ bs)) ≡ true = rw (decimal_plain console (omega arith), bytes_plain (b ∷ bs) h) refl in
    let digits : length (decimal console) ≤ 3 = length-decimal-le 3 console (omega arith) (omega arith) (omega arith) in
    let short : length (spaced (key_words console (b ∷ bs))) ≤ 197 = omega (arith, length-append (decimal console) (spaced (map two_digits (b ∷ bs))), bytes_len (b ∷ bs), digits, few) in
    line_says (key_words console (b ∷ bs)) (map (Key console) (b ∷ bs)) plain short (λ consoles room fine fits.
    keys_back consoles room console b bs small h fine (omega (arith, length-map (b ∷ bs) (Key console))))
