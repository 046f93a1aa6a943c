-- An entry is guessed from its printed words.
use Rattle.std.proofs.Common.{◌≡◌, ℕ, ◌^◌, ◌<◌, ◌≤◌, Bool, true, false, List, ◌∷◌, ◌++◌, length, Some, refl, arith}
use Rattle.std.specs.Prelude.{codes, decimal, ℤ}
use Rattle.std.specs.Fmt.{signed_decimal}
use Rattle.posix.specs.Common.{is_signal, hex, bit, call_text, is_i64}
use Rattle.posix.specs.declared.call.Call.{Call}
use Rattle.posix.specs.declared.call.Call.TheVariants.{Waitpid, Subreaper, Waitid}
use Rattle.posix.specs.declared.waits.WaitCall.TheVariants as wait
use Rattle.posix.specs.declared.entry.Entry.{Entry}
use Rattle.posix.specs.declared.entry.Entry.TheVariants.{Noted, Called, Moved, Reported, Looked, NoMemory, Marked, Handled, Discarded, Stopped, Ended}
use Rattle.std.specs.List.{list_all}
use Rattle.laws.specs.Kinds.{is_byte}
use Rattle.trace.specs.Words.{word, behind}
use Rattle.trace.specs.Guesses.{form_named, shown_by, child_and_status, guess, guess_entry, guess_note, guess_call, guess_result, guess_handler, guess_discard, guess_stop, guess_end}
use Rattle.trace.specs.declared.guesses.Form.{Form}
use Rattle.trace.proofs.WordLemmas.{is_clean, word_back, behind_back, last_word, last_behind}
use Rattle.posix.proofs.DecimalLemmas.{decimal_back}
use Rattle.trace.proofs.NumberLemmas.{decimal_clean, signed_clean, pid_back, sig_back, sig_size, status_back, integer_back}
use Rattle.trace.proofs.BytesLemmas.{bytes_back}
use Rattle.trace.proofs.CallLemmas.{name_back}

-- ---- forms of more than one word

pub formed_back : (name rest : List ℕ) (form : Form) (e : Entry) → is_clean name ≡ true → form_named name ≡ Some form → guess_entry form rest ≡ Some e
    → (k : ℕ) → k < 2 ^ 64 → guess (decimal k ++ 32 ∷ (name ++ 32 ∷ rest)) ≡ Some (k, e)
unfolding guess
formed_back name rest form e clean named entry k h =
    rw (
      behind_back (decimal k) (name ++ 32 ∷ rest) (decimal_clean k h),
      word_back (decimal k) (name ++ 32 ∷ rest) (decimal_clean k h),
      word_back name rest clean,
      behind_back name rest clean,
      named,
      entry,
      decimal_back k h,
    ) refl

pub note_back : (p : ℕ) (z : ℤ) → p ≤ 2147483647 → is_i64 z ≡ true → guess_note (decimal p ++ 32 ∷ signed_decimal z) ≡ Some (Noted p z)
unfolding guess_note
note_back p z hp hz =
    let clean = decimal_clean p (omega arith) in
    rw (word_back (decimal p) (signed_decimal z) clean, behind_back (decimal p) (signed_decimal z) clean, pid_back p hp, integer_back z hz) refl

pub handler_back : (p s : ℕ) (z : ℤ) (q : ℕ) → p ≤ 2147483647 → is_signal s ≡ true → is_i64 z ≡ true → q ≤ 2147483647
    → guess_handler (decimal p ++ 32 ∷ (decimal s ++ 32 ∷ (signed_decimal z ++ 32 ∷ decimal q))) ≡ Some (Handled p s z q)
unfolding guess_handler
handler_back p s z q hp hs hz hq =
    let clean = decimal_clean p (omega arith) in
    let sig = decimal_clean s (sig_size s hs) in
    let value = signed_clean z hz in
    rw (
      word_back (decimal p) (decimal s ++ 32 ∷ (signed_decimal z ++ 32 ∷ decimal q)) clean,
      behind_back (decimal p) (decimal s ++ 32 ∷ (signed_decimal z ++ 32 ∷ decimal q)) clean,
      word_back (decimal s) (signed_decimal z ++ 32 ∷ decimal q) sig,
      behind_back (decimal s) (signed_decimal z ++ 32 ∷ decimal q) sig,
      word_back (signed_decimal z) (decimal q) value,
      behind_back (signed_decimal z) (decimal q) value,
      pid_back p hp,
      sig_back s hs,
      integer_back z hz,
      pid_back q hq,
    ) refl

pub discard_back : (p s : ℕ) → p ≤ 2147483647 → is_signal s ≡ true → guess_discard (decimal p ++ 32 ∷ decimal s) ≡ Some (Discarded p s)
unfolding guess_discard
discard_back p s hp hs =
    let clean = decimal_clean p (omega arith) in
    rw (word_back (decimal p) (decimal s) clean, behind_back (decimal p) (decimal s) clean, pid_back p hp, sig_back s hs) refl

pub stop_back : (p s : ℕ) → p ≤ 2147483647 → is_signal s ≡ true → guess_stop (decimal p ++ 32 ∷ decimal s) ≡ Some (Stopped p s)
unfolding guess_stop
stop_back p s hp hs =
    let clean = decimal_clean p (omega arith) in
    rw (word_back (decimal p) (decimal s) clean, behind_back (decimal p) (decimal s) clean, pid_back p hp, sig_back s hs) refl

pub end_back : (p w : ℕ) → p ≤ 2147483647 → w ≤ 65535 → guess_end (decimal p ++ 32 ∷ decimal w) ≡ Some (Ended p w)
unfolding guess_end
end_back p w hp hw =
    let clean = decimal_clean p (omega arith) in
    rw (word_back (decimal p) (decimal w) clean, behind_back (decimal p) (decimal w) clean, pid_back p hp, status_back w hw) refl

-- ---- calls

-- up to the result
pub call_back : (p : ℕ) (call : Call) (rest : List ℕ) → p ≤ 2147483647
    → guess_call (decimal p ++ 32 ∷ (call_text call ++ 32 ∷ (codes "=" ++ 32 ∷ rest))) ≡ guess_result p call (word rest) (behind rest)
unfolding guess_call
call_back p call rest hp =
    let clean = decimal_clean p (omega arith) in
    let name = name_back call in
    rw (
      word_back (decimal p) (call_text call ++ 32 ∷ (codes "=" ++ 32 ∷ rest)) clean,
      behind_back (decimal p) (call_text call ++ 32 ∷ (codes "=" ++ 32 ∷ rest)) clean,
      word_back (call_text call) (codes "=" ++ 32 ∷ rest) name.1,
      behind_back (call_text call) (codes "=" ++ 32 ∷ rest) name.1,
      behind_back (codes "=") rest refl,
      pid_back p hp,
      name.0,
    ) refl

pub value_back : (p : ℕ) (call : Call) (z : ℤ) → is_i64 z ≡ true → guess_result p call (word (signed_decimal z)) (behind (signed_decimal z)) ≡ Some (Called p call z)
unfolding guess_result shown_by
value_back p call z hz = rw (last_word (signed_decimal z) (signed_clean z hz), last_behind (signed_decimal z) (signed_clean z hz), integer_back z hz) refl

pub moved_back : (p : ℕ) (call : Call) (bytes : List ℕ) → length bytes ≤ 16 → list_all is_byte bytes ≡ true
    → guess_result p call (word (decimal (length bytes) ++ 32 ∷ (codes "bytes" ++ 32 ∷ hex bytes))) (behind (decimal (length bytes) ++ 32 ∷ (codes "bytes" ++ 32 ∷ hex bytes))) ≡ Some (Moved p call bytes)
unfolding guess_result shown_by
moved_back p call bytes few h =
    let clean = decimal_clean (length bytes) (omega arith) in
    rw (behind_back (decimal (length bytes)) (codes "bytes" ++ 32 ∷ hex bytes) clean, bytes_back bytes few h) refl

-- a child and its status
abbrev pub told_words : ℕ → ℕ → List ℕ
told_words c w = decimal c ++ 32 ∷ (codes "status" ++ 32 ∷ decimal w)

pub report_back : (p c w : ℕ) → c ≤ 2147483647 → w ≤ 65535
    → guess_result p Waitpid (word (told_words c w)) (behind (told_words c w)) ≡ Some (Reported p wait.Waitpid c w)
unfolding guess_result shown_by
report_back p c w hc hw =
    let clean = decimal_clean c (omega arith) in
    rw (
      word_back (decimal c) (codes "status" ++ 32 ∷ decimal w) clean,
      behind_back (decimal c) (codes "status" ++ 32 ∷ decimal w) clean,
      pid_back c hc,
      status_back w hw,
    ) refl

-- what a waitid did with a child, and which
child_back : (c w : ℕ) → c ≤ 2147483647 → w ≤ 65535 → child_and_status (told_words c w) ≡ Some (c, w)
unfolding child_and_status
child_back c w hc hw =
    let clean = decimal_clean c (omega arith) in
    rw (
      word_back (decimal c) (codes "status" ++ 32 ∷ decimal w) clean,
      behind_back (decimal c) (codes "status" ++ 32 ∷ decimal w) clean,
      behind_back (codes "status") (decimal w) refl,
      pid_back c hc,
      status_back w hw,
    ) refl

pub take_back : (p c w : ℕ) (rest : List ℕ) → rest ≡ told_words c w → c ≤ 2147483647 → w ≤ 65535
    → guess_result p Waitid (word (codes "0" ++ 32 ∷ (codes "take" ++ 32 ∷ rest))) (behind (codes "0" ++ 32 ∷ (codes "take" ++ 32 ∷ rest))) ≡ Some (Reported p wait.Waitid c w)
unfolding guess_result shown_by
take_back p c w rest is hc hw = rw (is, child_back c w hc hw) refl

pub look_back : (p c w : ℕ) (rest : List ℕ) → rest ≡ told_words c w → c ≤ 2147483647 → w ≤ 65535
    → guess_result p Waitid (word (codes "0" ++ 32 ∷ (codes "look" ++ 32 ∷ rest))) (behind (codes "0" ++ 32 ∷ (codes "look" ++ 32 ∷ rest))) ≡ Some (Looked p c w)
unfolding guess_result shown_by
look_back p c w rest is hc hw = rw (is, child_back c w hc hw) refl

pub memory_back : (p : ℕ) (call : Call)
    → guess_result p call (word (codes "-11" ++ 32 ∷ codes "memory")) (behind (codes "-11" ++ 32 ∷ codes "memory")) ≡ Some (NoMemory p call)
unfolding guess_result shown_by
memory_back p call = refl

pub mark_back : (p : ℕ) (mark : Bool)
    → guess_result p Subreaper (word (codes "0" ++ 32 ∷ (codes "mark" ++ 32 ∷ bit mark))) (behind (codes "0" ++ 32 ∷ (codes "mark" ++ 32 ∷ bit mark))) ≡ Some (Marked p mark)
unfolding guess_result shown_by
mark_back p true = refl
mark_back p false = refl
