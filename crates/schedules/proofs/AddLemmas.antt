-- Lines that are added, one after another, while some keys are not yet written.
use Rattle.std.proofs.Common.{◌≡◌, ℕ, ◌+◌, ◌-◌, ◌<◌, ◌≤◌, true, List, [], ◌∷◌, ◌++◌, length, length-append, take, drop, get_or, map, ap, sym, ◌∙◌, refl, subst, append_assoc, append-nil, arith}
use Rattle.std.specs.Prelude.{codes, decimal, replicate, nat_lt, Result, Ok, Err, OnOk}
use Rattle.std.specs.List.{list_all}
use Rattle.std.proofs.lemmas.Grind.{common_steps}
use Rattle.std.proofs.lemmas.List.{length-replicate, replicate-append-replicate, take-append-drop, take_all, take_more}
use Rattle.std.proofs.lemmas.List.Concat.{flat_map-append}
use Rattle.posix.specs.declared.event.Event.{Event}
use Rattle.posix.specs.declared.event.Event.TheVariants.{Key, Hangup}
use Rattle.text.specs.EventLists.{CountedEvent, expanded, run_events}
use Rattle.text.specs.EventTexts.{most_events}
use Rattle.text.proofs.EventLemmas.{expanded_push}
use Rattle.text.specs.Numbers.{two_digits}
use Rattle.schedules.specs.EventLines.{AddsLines, AddsFirst, AddsText, IsWordOf}
use Rattle.schedules.proofs.LineLemmas.{line, spaced}
use Rattle.schedules.proofs.SayLemmas.{says_nothing, says_joined, stands, counted_says, key_words, keys_say, hangup_says}

pub adds_nothing : (a : List ℕ) → AddsLines a [] a
adds_nothing a = ([], sym (append-nil a), says_nothing)

pub adds_joined : (a b c : List ℕ) (es fs : List Event) → AddsLines a es b → AddsLines b fs c → AddsLines a (es ++ fs) c
adds_joined a b c es fs (x, e, p) (y, f, q) = (x ++ y, f ∙ ap (λ (l : List ℕ). l ++ y) e ∙ append_assoc a x y, says_joined x y es fs p q)

-- New events may be left unwritten.
pub first_waits : (a : List ℕ) (waited es : List Event) → AddsFirst a waited es a (waited ++ es)
first_waits a waited es = ([], adds_nothing a, refl)

pub first_nothing : (a : List ℕ) (waited : List Event) → AddsFirst a waited [] a waited
first_nothing a waited = ([], adds_nothing a, sym (append-nil waited))

-- The unwritten events may be written.
pub first_ended : (a b : List ℕ) (waited : List Event) → AddsLines a waited b → AddsFirst a waited [] b []
first_ended a b waited p = (waited, p, refl)

-- If no event is unwritten, the new ones may be written.
pub first_said : (a b : List ℕ) (es : List Event) → AddsLines a es b → AddsFirst a [] es b []
first_said a b es p = (es, p, append-nil es)

pub first_joined : (a b c : List ℕ) (u v w es fs : List Event) → AddsFirst a u es b v → AddsFirst b v fs c w → AddsFirst a u (es ++ fs) c w
first_joined a b c u v w es fs (s, p, e) (t, q, f) = (
  s ++ t,
  adds_joined a b c s t p q,
  append_assoc s t w
      ∙ ap (λ (l : List Event). s ++ l) f
      ∙ sym (append_assoc s v fs)
      ∙ ap (λ (l : List Event). l ++ fs) e
      ∙ append_assoc u es fs,
)

-- If no event is unwritten in the end, the lines are a text.
pub first_text : (a b : List ℕ) (es : List Event) → length es ≤ most_events → AddsFirst a [] es b [] → AddsText a es b
first_text a b es few (s, (x, e, p), f) =
    let all : s ≡ es = sym (append-nil s) ∙ f in
    (x, e, stands x es (rw (← all) p) few)

-- ---- of a run

-- One more line of steps or ticks.
pub counted_more : (old mid new word : List ℕ) (event : Event) (count left here : ℕ) → IsWordOf event word → left ≤ count → here ≤ left → 1 ≤ here → here ≤ 1000000
    → AddsLines old (replicate (count - left) event) mid → new ≡ mid ++ line (word ∷ decimal here ∷ []) → AddsLines old (replicate (count - (left - here)) event) new
counted_more old mid new word event count left here is within some least most done more =
    let sum : count - left + here ≡ count - (left - here) = omega arith in
    subst (λ (es : List Event). AddsLines old es new) (replicate-append-replicate (count - left) here event ∙ ap (λ n. replicate n event) sum)
    (adds_joined old mid new (replicate (count - left) event) (replicate here event) done (line (word ∷ decimal here ∷ []), more, counted_says word event here is least most))

-- No keys.
pub no_keys_added : (a : List ℕ) (console : ℕ) (bytes : List ℕ) → length bytes ≡ 0 → AddsLines a (map (Key console) bytes) a
no_keys_added a console [] h = adds_nothing a
no_keys_added a console (b ∷ bs) h = absurd (omega arith)

-- A line of keys so far.
abbrev pub keys_begun : ℕ → List ℕ → List ℕ
keys_begun console bytes = codes "    key " ++ (decimal console ++ spaced (map two_digits bytes))

-- One more key.
pub keys_more : (console : ℕ) (bytes : List ℕ) (i : ℕ) → i < length bytes → keys_begun console (take i bytes) ++ 32 ∷ two_digits (get_or bytes i 0) ≡ keys_begun console (take (i + 1) bytes)
keys_more console bytes i lt = grind (arith, common_steps)

pub keys_added : (old new : List ℕ) (console : ℕ) (bytes : List ℕ) → console < 256 → 0 < length bytes → length bytes ≤ 16 → list_all (λ b. nat_lt b 256) bytes ≡ true
    → new ≡ old ++ (keys_begun console bytes ++ 10 ∷ []) → AddsLines old (map (Key console) bytes) new
keys_added old new console bytes small some few fit h = (line (key_words console bytes), h, keys_say console bytes small some few fit)

-- What a formatted line is.
pub counted_line : (word : List ℕ) (n : ℕ) → codes "    " ++ (word ++ (codes " " ++ (decimal n ++ codes "\n"))) ≡ line (word ∷ decimal n ∷ [])
counted_line word n =
    ap (λ (l : List ℕ). 32 ∷ 32 ∷ 32 ∷ 32 ∷ l) (
    ap (λ (l : List ℕ). word ++ 32 ∷ (l ++ 10 ∷ [])) (sym (append-nil (decimal n)))
    ∙ sym (append_assoc word (32 ∷ (decimal n ++ [])) (10 ∷ []))
    )

-- ---- of unwritten keys

pub end_added : (a b : List ℕ) (console console_then : ℕ) (bytes now rest : List ℕ) → now ≡ bytes → rest ≡ [] → AddsLines a (map (Key console) now) b
    → AddsFirst a (map (Key console) bytes) [] b (map (Key console_then) rest)
end_added a b console console_then bytes now rest same none h =
    subst (λ (l : List ℕ). AddsFirst a (map (Key console) bytes) [] b (map (Key console_then) l)) (sym none)
    (first_ended a b (map (Key console) bytes) (subst (λ (l : List ℕ). AddsLines a (map (Key console) l) b) same h))

pub key_put : (a b c : List ℕ) (u v : List Event) (i console console_then byte : ℕ) (bytes bytes_then : List ℕ) → AddsFirst a u (replicate i (Key console byte)) b v
    → AddsFirst b v [] c (map (Key console_then) bytes) → console_then ≡ console → bytes_then ≡ bytes ++ byte ∷ [] → AddsFirst a u (replicate (i + 1) (Key console byte)) c (map (Key console_then) bytes_then)
key_put a b c u v i console console_then byte bytes bytes_then h k same more =
    let key : List Event = Key console byte ∷ [] in
    let wait = map (Key console_then) bytes in
    let done : AddsFirst a u (replicate i (Key console byte) ++ ([] ++ key)) c (wait ++ key) =
    first_joined a b c u v (wait ++ key) (replicate i (Key console byte)) ([] ++ key) h (first_joined b c c v wait (wait ++ key) [] key k (first_waits c wait key)) in
    let waits : wait ++ key ≡ map (Key console_then) bytes_then = rw (more, same) (grind (arith, common_steps)) in
    subst (λ (l : List Event). AddsFirst a u (replicate (i + 1) (Key console byte)) c l) waits
    (subst (λ (es : List Event). AddsFirst a u es c (wait ++ key)) (replicate-append-replicate i 1 (Key console byte)) done)

-- Lines after those of the unwritten keys.
pub ended_put : {T E : Type 0} (r : Result T E) (a b c : List ℕ) (u es : List Event) (console : ℕ) (bytes : List ℕ) → AddsFirst a u [] b (map (Key console) bytes) → bytes ≡ []
    → OnOk r (AddsLines b es c) → OnOk r (AddsFirst a u es c (map (Key console) bytes))
ended_put (Ok x) a b c u es console [] h none k = first_joined a b c u [] [] [] es h (first_said b c es k)
ended_put (Ok x) a b c u es console (y ∷ ys) h none k = cc
ended_put (Err e) a b c u es console bytes h none k = k

-- One more hangup.
pub hangups_more : (a b c : List ℕ) (console i : ℕ) → console < 256 → AddsLines a (replicate i (Hangup console)) b → c ≡ b ++ line (codes "hangup" ∷ decimal console ∷ [])
    → AddsLines a (replicate (i + 1) (Hangup console)) c
hangups_more a b c console i small p more =
    subst (λ (es : List Event). AddsLines a es c) (replicate-append-replicate i 1 (Hangup console))
    (adds_joined a b c (replicate i (Hangup console)) (Hangup console ∷ []) p (line (codes "hangup" ∷ decimal console ∷ []), more, hangup_says console small))

-- One more run.
pub run_put : (a b c : List ℕ) (u v : List Event) (runs : List CountedEvent) (i : ℕ) (d : CountedEvent) → i < length runs → AddsFirst a [] (expanded (take i runs)) b u
    → AddsFirst b u (replicate (get_or runs i d).count (get_or runs i d).event) c v → AddsFirst a [] (expanded (take (i + 1) runs)) c v
run_put a b c u v runs i d lt h k =
    subst (λ (es : List Event). AddsFirst a [] es c v) (sym (ap expanded (take_more runs i d lt) ∙ expanded_push (take i runs) (get_or runs i d)))
    (first_joined a b c [] u v (expanded (take i runs)) (replicate (get_or runs i d).count (get_or runs i d).event) h k)

-- `count` more events.
pub many_put : (a b c : List ℕ) (u v w : List Event) (event : Event) (m n k : ℕ) → m + n ≡ k → AddsFirst a u (replicate m event) b v → AddsFirst b v (replicate n event) c w → AddsFirst a u (replicate k event) c w
many_put a b c u v w event m n k sum h more =
    subst (λ (es : List Event). AddsFirst a u es c w) (replicate-append-replicate m n event ∙ ap (λ i. replicate i event) sum)
    (first_joined a b c u v w (replicate m event) (replicate n event) h more)

-- After a comment, too.
pub remarked_put : (a b c d : List ℕ) (u v w : List Event) (event : Event) (n : ℕ) → AddsFirst a u [] b v → AddsLines b [] c → AddsFirst c v (replicate n event) d w → AddsFirst a u (replicate n event) d w
remarked_put a b c d u v w event n ended comment h = first_joined a b d u v w [] (replicate n event) ended (first_joined b c d v v w [] (replicate n event) ([], comment, sym (append-nil v)) h)

-- The place where a run ends, and the next one begins, is within the list.
pub run_ends : (runs : List CountedEvent) (i start : ℕ) (r : CountedEvent) (events : List Event) → i < length runs → r ≡ get_or runs i r → expanded runs ≡ events → start ≡ length (expanded (take i runs))
    → (start + r.count ≡ length (expanded (take (i + 1) runs))) × (start + r.count ≤ length events)
run_ends runs i start r events lt is same at =
    let before = expanded (take i runs) in
    let more : expanded (take (i + 1) runs) ≡ before ++ replicate r.count r.event = ap expanded (take_more runs i r lt ∙ ap (λ q. take i runs ++ q ∷ []) (sym is)) ∙ expanded_push (take i runs) r in
    let one : start + r.count ≡ length (expanded (take (i + 1) runs)) = omega (arith, at, ap length more, length-append before (replicate r.count r.event), length-replicate r.count r.event) in
    let all : expanded (take (i + 1) runs) ++ expanded (drop (i + 1) runs) ≡ events = sym (flat_map-append run_events (take (i + 1) runs) (drop (i + 1) runs)) ∙ ap expanded (take-append-drop (i + 1) runs) ∙ same in
    (one, omega (arith, one, ap length all, length-append (expanded (take (i + 1) runs)) (expanded (drop (i + 1) runs))))

pub nothing_yet : (a : List ℕ) (console : ℕ) (bytes : List ℕ) → bytes ≡ [] → AddsFirst a [] [] a (map (Key console) bytes)
nothing_yet a console [] none = first_nothing a []
nothing_yet a console (b ∷ bs) none = cc

pub all_put : (a b c : List ℕ) (u : List Event) (console : ℕ) (bytes : List ℕ) (runs : List CountedEvent) (i : ℕ) (events : List Event) → length runs ≤ i → AddsFirst a [] (expanded (take i runs)) b u
    → AddsFirst b u [] c (map (Key console) bytes) → bytes ≡ [] → expanded runs ≡ events → length events ≤ most_events → AddsText a events c
all_put a b c u console [] runs i events end h k none same few =
    let all : expanded (take i runs) ++ [] ≡ events = append-nil (expanded (take i runs)) ∙ ap expanded (take_all i runs end) ∙ same in
    first_text a c events few (subst (λ (es : List Event). AddsFirst a [] es c []) all (first_joined a b c [] u [] (expanded (take i runs)) [] h k))
all_put a b c u console (x ∷ xs) runs i events end h k none same few = cc
