-- A printed line is guessed as itself, and is at most 127 bytes.
use Rattle.std.proofs.Common.{◌≡◌, ℕ, ◌^◌, ◌<◌, ◌≤◌, ◌&&◌, Bool, true, false, List, [], ◌∷◌, ◌++◌, length, Some, refl, ap, sym, subst, ◌∙◌, arith}
use Rattle.std.specs.Prelude.{codes, decimal, nat_le, MatchOption}
use Rattle.std.specs.Fmt.{signed_decimal}
use Rattle.std.specs.List.{join_with_byte, list_all}
use Rattle.std.proofs.lemmas.Bool.{and_parts, leb-true}
use Rattle.std.proofs.lemmas.Bool.Decides.{nat_tests}
use Rattle.std.proofs.lemmas.List.{append_cancel_right}
use Rattle.posix.specs.Common.{is_signal, is_stop_signal, bit, hex, words_of, printed, asks_memory, call_text, Line, line, is_i64, is_end_word}
use Rattle.posix.proofs.PrintingLemmas.{number_and_words}
use Rattle.posix.specs.declared.call.Call.{Call}
use Rattle.posix.specs.declared.call.Call.TheVariants.{Waitpid, Subreaper, Waitid}
use Rattle.posix.specs.declared.waits.WaitCall.TheVariants as wait
use Rattle.posix.specs.declared.entry.Entry.{Entry}
use Rattle.posix.specs.declared.entry.Entry.TheVariants.{Noted, Called, Moved, Reported, Looked, NoMemory, Marked, Handled, Discarded, Stopped, Returned, Ended, Halted}
use Rattle.laws.specs.Kinds.{is_byte}
use Rattle.laws.specs.TraceLines.{is_number, is_result, moves_bytes, is_entry, is_line, Says}
use Rattle.trace.specs.Guesses.{form_named, guess, guess_entry}
use Rattle.trace.specs.declared.guesses.Form.TheVariants as form
use Rattle.trace.proofs.WordLemmas.{joined_len, behind_back, word_back}
use Rattle.posix.proofs.DecimalLemmas.{decimal_back}
use Rattle.trace.proofs.NumberLemmas.{decimal_clean, decimal_len, signed_len, sig_size, pid_back}
use Rattle.trace.proofs.BytesLemmas.{hex_len}
use Rattle.trace.proofs.CallLemmas.{name_back}
use Rattle.trace.proofs.FormLemmas.{formed_back, note_back, handler_back, discard_back, stop_back, end_back, call_back, value_back, moved_back, told_words, report_back, take_back, look_back, memory_back, mark_back}

number_size : (p : ℕ) → is_number p ≡ true → p ≤ 2147483647
number_size p h = leb-true p 2147483647 (and_parts (nat_le 1 p) (nat_le p 2147483647) h).1

stop_is_signal : (s : ℕ) → is_stop_signal s ≡ true → is_signal s ≡ true
stop_is_signal s h = grind (arith, nat_tests)

end_size : (w : ℕ) → is_end_word w ≡ true → w ≤ 65535
end_size w h = grind (arith, nat_tests)

-- the words of an entry, after an event number, are guessed as the entry, and are at most 106 bytes
abbrev Back : Entry → Type 0
Back e = ((k : ℕ) → k < 2 ^ 64 → guess (decimal k ++ 32 ∷ join_with_byte 32 (words_of e)) ≡ Some (k, e)) × (length (join_with_byte 32 (words_of e)) ≤ 106)

-- from what follows the name of a call
call_back_with : (p : ℕ) (call : Call) (e : Entry) (rest : List ℕ) → p ≤ 2147483647 → (guess_entry form.Call (decimal p ++ 32 ∷ (call_text call ++ 32 ∷ (codes "=" ++ 32 ∷ rest))) ≡ Some e) → length rest ≤ 59
    → ((k : ℕ) → k < 2 ^ 64 → guess (decimal k ++ 32 ∷ (codes "call" ++ 32 ∷ (decimal p ++ 32 ∷ (call_text call ++ 32 ∷ (codes "=" ++ 32 ∷ rest))))) ≡ Some (k, e))
    × (length (codes "call" ++ 32 ∷ (decimal p ++ 32 ∷ (call_text call ++ 32 ∷ (codes "=" ++ 32 ∷ rest)))) ≤ 106)
unfolding form_named
call_back_with p call e rest hp is few = (
  formed_back (codes "call") _ form.Call e refl refl is,
  omega (
    arith,
    joined_len (decimal p) (call_text call ++ 32 ∷ (codes "=" ++ 32 ∷ rest)),
    joined_len (call_text call) (codes "=" ++ 32 ∷ rest),
    decimal_len p (omega arith),
    leb-true (length (call_text call)) 16 (name_back call).2,
  ),
)

halt_back : (k : ℕ) → k < 2 ^ 64 → guess (decimal k ++ 32 ∷ codes "halt") ≡ Some (k, Halted)
unfolding guess form_named
halt_back k h =
    rw (behind_back (decimal k) (codes "halt") (decimal_clean k h), word_back (decimal k) (codes "halt") (decimal_clean k h), decimal_back k h) refl

-- the sizes of what is reported of a child
told_sizes : (p c w : ℕ) → (is_number p && is_number c && nat_le w 65535) ≡ true → (p ≤ 2147483647) × (c ≤ 2147483647) × (w ≤ 65535) × (length (told_words c w) ≤ 48)
told_sizes p c w h =
    let a = and_parts (is_number p && is_number c) (nat_le w 65535) h in
    let b = and_parts (is_number p) (is_number c) a.0 in
    let hc = number_size c b.1 in
    let hw = leb-true w 65535 a.1 in
    (number_size p b.0, hc, hw, omega (arith, joined_len (decimal c) (codes "status" ++ 32 ∷ decimal w), decimal_len c (omega arith), decimal_len w (omega arith)))

entry_back : (e : Entry) → is_entry e ≡ true → Back e
unfolding form_named
entry_back (Noted p z) h =
    let a = and_parts (is_number p) (is_i64 z) h in
    let hp = number_size p a.0 in (
      formed_back (codes "note") _ form.Note (Noted p z) refl refl (note_back p z hp a.1),
      omega (arith, joined_len (decimal p) (signed_decimal z), decimal_len p (omega arith), signed_len z a.1),
    )
entry_back (Called p call z) h =
    let a = and_parts (is_number p && is_i64 z) (is_result call z) h in
    let b = and_parts (is_number p) (is_i64 z) a.0 in
    let hp = number_size p b.0 in
    call_back_with p call (Called p call z) (signed_decimal z) hp (call_back p call (signed_decimal z) hp ∙ value_back p call z b.1) (omega (arith, signed_len z b.1))
entry_back (Moved p call bytes) h =
    let a = and_parts (is_number p && moves_bytes call && nat_le 1 (length bytes) && nat_le (length bytes) 16) (list_all is_byte bytes) h in
    let b = and_parts (is_number p && moves_bytes call && nat_le 1 (length bytes)) (nat_le (length bytes) 16) a.0 in
    let d = and_parts (is_number p && moves_bytes call) (nat_le 1 (length bytes)) b.0 in
    let hp = number_size p (and_parts (is_number p) (moves_bytes call) d.0).0 in
    let few = leb-true (length bytes) 16 b.1 in
    let rest = decimal (length bytes) ++ 32 ∷ (codes "bytes" ++ 32 ∷ hex bytes) in
    call_back_with p call (Moved p call bytes) rest hp (call_back p call rest hp ∙ moved_back p call bytes few a.1)
    (omega (arith, joined_len (decimal (length bytes)) (codes "bytes" ++ 32 ∷ hex bytes), decimal_len (length bytes) (omega arith), hex_len bytes))
entry_back (Reported p wait.Waitpid c w) h =
    let few = told_sizes p c w h in
    let rest = told_words c w in
    call_back_with p Waitpid (Reported p wait.Waitpid c w) rest few.0 (call_back p Waitpid rest few.0 ∙ report_back p c w few.1 few.2) (omega (arith, few.3))
entry_back (Reported p wait.Waitid c w) h =
    let few = told_sizes p c w h in
    let rest = codes "0" ++ 32 ∷ (codes "take" ++ 32 ∷ told_words c w) in
    call_back_with p Waitid (Reported p wait.Waitid c w) rest few.0 (call_back p Waitid rest few.0 ∙ take_back p c w (told_words c w) refl few.1 few.2) (omega (arith, few.3))
entry_back (Looked p c w) h =
    let few = told_sizes p c w h in
    let rest = codes "0" ++ 32 ∷ (codes "look" ++ 32 ∷ told_words c w) in
    call_back_with p Waitid (Looked p c w) rest few.0 (call_back p Waitid rest few.0 ∙ look_back p c w (told_words c w) refl few.1 few.2) (omega (arith, few.3))
entry_back (NoMemory p call) h =
    let hp = number_size p (and_parts (is_number p) (asks_memory call) h).0 in
    let rest = codes "-11" ++ 32 ∷ codes "memory" in
    call_back_with p call (NoMemory p call) rest hp (call_back p call rest hp ∙ memory_back p call) (omega arith)
entry_back (Marked p mark) h =
    let hp = number_size p h in
    let rest = codes "0" ++ 32 ∷ (codes "mark" ++ 32 ∷ bit mark) in
    call_back_with p Subreaper (Marked p mark) rest hp (call_back p Subreaper rest hp ∙ mark_back p mark) (few mark)
  where
    few : (mark : Bool) → length (codes "0" ++ 32 ∷ (codes "mark" ++ 32 ∷ bit mark)) ≤ 59
    few true = omega arith
    few false = omega arith
entry_back (Handled p s z q) h =
    let a = and_parts (is_number p && is_signal s && is_i64 z) (nat_le q 2147483647) h in
    let b = and_parts (is_number p && is_signal s) (is_i64 z) a.0 in
    let d = and_parts (is_number p) (is_signal s) b.0 in
    let hp = number_size p d.0 in
    let hq = leb-true q 2147483647 a.1 in (
      formed_back (codes "handle") _ form.Handler (Handled p s z q) refl refl (handler_back p s z q hp d.1 b.1 hq),
      omega (
        arith,
        joined_len (decimal p) (decimal s ++ 32 ∷ (signed_decimal z ++ 32 ∷ decimal q)),
        joined_len (decimal s) (signed_decimal z ++ 32 ∷ decimal q),
        joined_len (signed_decimal z) (decimal q),
        decimal_len p (omega arith),
        decimal_len s (sig_size s d.1),
        signed_len z b.1,
        decimal_len q (omega arith),
      ),
    )
entry_back (Discarded p s) h =
    let a = and_parts (is_number p) (is_signal s) h in
    let hp = number_size p a.0 in (
      formed_back (codes "discard") _ form.Discard (Discarded p s) refl refl (discard_back p s hp a.1),
      omega (arith, joined_len (decimal p) (decimal s), decimal_len p (omega arith), decimal_len s (sig_size s a.1)),
    )
entry_back (Stopped p s) h =
    let a = and_parts (is_number p) (is_stop_signal s) h in
    let hp = number_size p a.0 in
    let hs = stop_is_signal s a.1 in (
      formed_back (codes "stop") _ form.Stop (Stopped p s) refl refl (stop_back p s hp hs),
      omega (arith, joined_len (decimal p) (decimal s), decimal_len p (omega arith), decimal_len s (sig_size s hs)),
    )
entry_back (Returned p) h =
    let hp = number_size p h in
    (formed_back (codes "return") (decimal p) form.Return (Returned p) refl refl (rw (pid_back p hp) refl), omega (arith, decimal_len p (omega arith)))
entry_back (Ended p w) h =
    let a = and_parts (is_number p) (is_end_word w) h in
    let hp = number_size p a.0 in
    let hw = end_size w a.1 in (
      formed_back (codes "end") _ form.End (Ended p w) refl refl (end_back p w hp hw),
      omega (arith, joined_len (decimal p) (decimal w), decimal_len p (omega arith), decimal_len w (omega arith)),
    )
entry_back Halted h = (halt_back, omega arith)

-- ---- a line

-- the text of a line, without its line feed
line_text : (text : List ℕ) (l : Line) → Says text l → text ≡ decimal l.event ++ 32 ∷ join_with_byte 32 (words_of l.entry)
line_text text l says = append_cancel_right text (join_with_byte 32 (decimal l.event ∷ words_of l.entry)) (10 ∷ []) says.0 ∙ number_and_words (decimal l.event) l.entry

event_size : (l : Line) → is_line l ≡ true → l.event < 2 ^ 64
event_size l h =
    let a = and_parts (nat_le 1 l.event && nat_le l.event 1000000000000) (is_entry l.entry) h in
    omega (arith, leb-true l.event 1000000000000 (and_parts (nat_le 1 l.event) (nat_le l.event 1000000000000) a.0).1)

formed : (l : Line) → is_line l ≡ true → Back l.entry
formed l h = entry_back l.entry (and_parts (nat_le 1 l.event && nat_le l.event 1000000000000) (is_entry l.entry) h).1

-- what a text says is guessed from it
pub says_guess : (text : List ℕ) (l : Line) → Says text l → guess text ≡ Some (l.event, l.entry)
says_guess text l says = ap guess (line_text text l says) ∙ (formed l says.1).0 l.event (event_size l says.1)

-- a longer text says no line
pub says_few : (text : List ℕ) (l : Line) → Says text l → length text ≤ 127
says_few text l says =
    let len = ap (λ (t : List ℕ). length t) (line_text text l says) in
    omega (arith, len, joined_len (decimal l.event) (join_with_byte 32 (words_of l.entry)), decimal_len l.event (event_size l says.1), (formed l says.1).1)

-- what was guessed of a text that says a line is that line
pub said_of_guess : (text : List ℕ) (k : ℕ) (e : Entry) → Some (k, e) ≡ guess text → (l : Line) → Says text l → (text ++ 10 ∷ [] ≡ printed k e) × (is_line (line k e) ≡ true)
said_of_guess text k e guessed l says =
    subst (λ o. MatchOption o ⊥ (λ x. (text ++ 10 ∷ [] ≡ printed x.0 x.1) × (is_line (line x.0 x.1) ≡ true))) (sym (says_guess text l says) ∙ sym guessed) says

-- a text says at most one line
pub says_one : (text : List ℕ) (l m : Line) → Says text l → Says text m → l ≡ m
says_one text l m says also =
    subst (λ o. MatchOption o ⊥ (λ x. l ≡ line x.0 x.1)) (sym (says_guess text l says) ∙ says_guess text m also) refl
