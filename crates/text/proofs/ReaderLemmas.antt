-- How the meaning of an event text changes with one more byte, and at its end.
use Rattle.std.proofs.Common.{◌≡◌, ℕ, ◌+◌, ◌-◌, ◌<◌, ◌≤◌, Bool, true, false, cond, List, [], ◌∷◌, ◌++◌, length, take, refl, ap, sym, ◌∙◌, append_assoc, arith, length-append, append-nil, length-take, ltb, Option, Some, None, inl, inr, subst}
use Rattle.std.specs.Prelude.{◌==◌, ◌⊎◌, Ok, Err, is_some}
use Rattle.std.proofs.lemmas.List.Sums.{fold_push}
use Rattle.std.proofs.lemmas.List.{nil_from_length, take_all, take-append-le}
use Rattle.std.proofs.lemmas.Bool.{cases_lt}
use Rattle.std.proofs.lemmas.Bool.Decides.{nat_tests}
use Rattle.posix.specs.declared.event.Event.{Event}
use Rattle.text.proofs.LineLemmas.{closed_some}
use Rattle.text.specs.declared.fault.Reason.{Reason}
use Rattle.text.specs.declared.fault.Reason.TheVariants.{Memory}
use Rattle.text.specs.declared.fault.TextFault.{TextFault}
use Rattle.text.specs.Lines.{Lines, lines_from, lines_of, after_line, all_lines, closed}
use Rattle.text.specs.Reading.{IsFaultOf}
use Rattle.text.specs.EventTexts.{Reading, next_line, read_lines, read_whole, start, judged_line, event_line, EndsLine, EndsLineTo, Meets, MeetsTo, answer, event_text, HasRead, HasReadTo, Progress, most_events}

-- ---- lines

-- the last line ends, and an empty one begins
abbrev ended : Lines → Lines
ended ls = record { whole = ls.whole ++ ls.rest ∷ []; rest = [] }

-- the last line has one more byte
abbrev extended : ℕ → Lines → Lines
extended c ls = record { whole = ls.whole; rest = ls.rest ++ c ∷ [] }

-- if both branches of a test end their last line, the whole test ends it
ended_if : (t : Bool) (begun : List ℕ) (X A Y B : Lines) → X ≡ ended A → Y ≡ ended B → cond t (after_line begun X) Y ≡ ended (cond t (after_line begun A) B)
ended_if true begun X A Y B e f = ap (after_line begun) e
ended_if false begun X A Y B e f = f

-- if both branches of a test have one more byte, the whole test has it
extended_if : (c : ℕ) (t : Bool) (begun : List ℕ) (X A Y B : Lines) → X ≡ extended c A → Y ≡ extended c B → cond t (after_line begun X) Y ≡ extended c (cond t (after_line begun A) B)
extended_if c true begun X A Y B e f = ap (after_line begun) e
extended_if c false begun X A Y B e f = f

-- a line feed ends the line
lines_end : (begun bs : List ℕ) (c : ℕ) → (c == 10) ≡ true → lines_from begun (bs ++ c ∷ []) ≡ ended (lines_from begun bs)
lines_end begun [] c h = rw h refl
lines_end begun (b ∷ bs) c h = ended_if (b == 10) begun (lines_from [] (bs ++ c ∷ [])) (lines_from [] bs) (lines_from (begun ++ b ∷ []) (bs ++ c ∷ [])) (lines_from (begun ++ b ∷ []) bs) (lines_end [] bs c h) (lines_end (begun ++ b ∷ []) bs c h)

-- another byte belongs to the last line
lines_more : (begun bs : List ℕ) (c : ℕ) → (c == 10) ≡ false → lines_from begun (bs ++ c ∷ []) ≡ extended c (lines_from begun bs)
lines_more begun [] c h = rw h refl
lines_more begun (b ∷ bs) c h = extended_if c (b == 10) begun (lines_from [] (bs ++ c ∷ [])) (lines_from [] bs) (lines_from (begun ++ b ∷ []) (bs ++ c ∷ [])) (lines_from (begun ++ b ∷ []) bs) (lines_more [] bs c h) (lines_more (begun ++ b ∷ []) bs c h)

-- ---- the beginning of a line, up to a byte above the limit

-- the first n + 1 bytes show that a line is longer than n
long_taken : (n : ℕ) (line : List ℕ) → n < length line → ltb n (length (take (n + 1) line)) ≡ ltb n (length line)
long_taken n line long = rw length-take (grind (arith, nat_tests))

-- a line longer than the limit is checked by its first 201 bytes
event_line_taken : (n room : ℕ) (line : List ℕ) → event_line n room (take 201 line) ≡ event_line n room line
event_line_taken n room line = elim (cases_lt 200 (length line)) [
  | inl long ↦
      let b : ltb 200 (length line) ≡ true = grind (arith, nat_tests) in
      let a : ltb 200 (length (take 201 line)) ≡ true = long_taken 200 line long ∙ b in
      rw (a, b) refl
  | inr short ↦ ap (event_line n room) (take_all 201 line (omega arith))
]

-- if n bytes are taken, one more changes nothing
pub take_full : (n : ℕ) (xs : List ℕ) (c : ℕ) → length (take n xs) ≡ n → take n (xs ++ c ∷ []) ≡ take n xs
take_full n xs c h = let le : n ≤ length xs = omega (arith, length-take n xs) in take-append-le n xs (c ∷ []) le

-- if fewer than n bytes are taken, one more is taken after them
pub take_room : (n : ℕ) (xs : List ℕ) (c : ℕ) → length (take n xs) < n → take n (xs ++ c ∷ []) ≡ take n xs ++ c ∷ []
take_room n xs c h =
    let le : length xs < n = omega (arith, length-take n xs) in
    take_all n (xs ++ c ∷ []) (omega (arith, length-append xs (c ∷ []))) ∙ ap (λ (ys : List ℕ). ys ++ c ∷ []) (sym (take_all n xs (omega arith)))

-- if no byte is taken, there is none
empty_taken : (n : ℕ) (rest : List ℕ) → 0 < n → length (take n rest) ≡ 0 → length rest ≡ 0
empty_taken n rest some h = omega (arith, length-take n rest)

-- if bytes are taken, there are some
rest_some : (n : ℕ) (rest : List ℕ) → 0 < length (take n rest) → 0 < length rest
rest_some n rest h = omega (arith, length-take n rest)

-- ---- lines, read

-- lines and one more are read as the lines, and then the one
read_more : (n : ℕ) (r : Reading) (ls : List (List ℕ)) (l : List ℕ) → read_lines n r (ls ++ l ∷ []) ≡ next_line (read_lines n r ls).fault n (read_lines n r ls) l
read_more n r ls l = fold_push (λ a line. next_line a.fault n a line) r ls l

-- without a fault, the next line is checked by its first 201 bytes
next_at : (n : ℕ) (r : Reading) (rest : List ℕ) → r.fault ≡ None → next_line r.fault n r rest ≡ judged_line n r (take 201 rest)
next_at n r rest h = rw (h, event_line_taken) refl

-- a fault stays
fault_kept : (o : Option TextFault) (n : ℕ) (r : Reading) (l : List ℕ) (f : TextFault) → o ≡ r.fault → r.fault ≡ Some f → (next_line o n r l).fault ≡ Some f
fault_kept (Some g) n r l f e h = h
fault_kept None n r l f e h = cc

-- a fault stays if one more line is read
fault_stays : (n : ℕ) (r : Reading) (ls : List (List ℕ)) (l : List ℕ) (f : TextFault) → (read_lines n r ls).fault ≡ Some f → (read_lines n r (ls ++ l ∷ [])).fault ≡ Some f
fault_stays n r ls l f h = rw (read_more n r ls l) (fault_kept (read_lines n r ls).fault n (read_lines n r ls) l f refl h)

-- a fault stays if one more byte is read
whole_stays : (t : Bool) (n : ℕ) (text : List ℕ) (c : ℕ) (f : TextFault) → (c == 10) ≡ t → (read_whole n text).fault ≡ Some f → (read_whole n (text ++ c ∷ [])).fault ≡ Some f
whole_stays true n text c f e h = rw (lines_end [] text c e) (fault_stays n start (lines_of text).whole (lines_of text).rest f h)
whole_stays false n text c f e h = rw (lines_more [] text c e) h

-- a fault stays at the end of the text, whatever its last line is
fault_at_end : (n : ℕ) (text rest : List ℕ) (f : TextFault) → (read_whole n text).fault ≡ Some f → (read_lines n start ((lines_of text).whole ++ closed rest)).fault ≡ Some f
fault_at_end n text [] f h = rw append-nil h
fault_at_end n text (b ∷ rest) f h = fault_stays n start (lines_of text).whole (b ∷ rest) f h

-- if there is a fault, it is the result
answer_fault : (r : Reading) (f : TextFault) → r.fault ≡ Some f → answer r ≡ Err f
answer_fault r f h = rw h refl

-- if there is no fault, the events are the result
answer_fine : (r : Reading) → r.fault ≡ None → answer r ≡ Ok r.events
answer_fine r h = rw h refl

-- ---- after a fault

-- with a fault, one more byte changes nothing, by that fault
kept_at : (o : Option TextFault) (text : List ℕ) (c : ℕ) (p : Progress) → is_some o ≡ true → HasReadTo o text p → HasReadTo o (text ++ c ∷ []) p
kept_at None text c p e h = cc
kept_at (Some g) text c p e h = elim h [ inl m ↦ inl m | inr q ↦ inr (whole_stays (c == 10) p.consoles text c g refl q) ]

-- with a fault, one more byte changes nothing
pub kept : (text : List ℕ) (c : ℕ) (p : Progress) → is_some p.reading.fault ≡ true → HasRead text p → HasRead (text ++ c ∷ []) p
kept text c p e h = kept_at p.reading.fault text c p e h

-- with a fault, no more bytes change anything
kept_all : (more text : List ℕ) (p : Progress) → is_some p.reading.fault ≡ true → HasRead text p → HasRead (text ++ more) p
kept_all [] text p e h = rw append-nil h
kept_all (c ∷ more) text p e h = let k = kept_all more (text ++ c ∷ []) p e (kept text c p e h) in rw append_assoc at k

-- the fault of a reader is the fault of the text
read_fault : (text : List ℕ) (p : Progress) (f : TextFault) → p.reading.fault ≡ Some f → HasRead text p → IsFaultOf (event_text p.consoles text) f
unfolding event_text
read_fault text p f e h =
    let was : HasReadTo (Some f) text p = subst (λ o. HasReadTo o text p) e h in
    elim was [
      | inl m ↦ inl m
      | inr q ↦ inr (answer_fault (read_lines p.consoles start (all_lines text)) f (fault_at_end p.consoles text (lines_of text).rest f q))
    ]

-- the fault of a reader is the fault of each text that begins with the text so far
pub fault_answers : (text more : List ℕ) (n : ℕ) (p : Progress) (f : TextFault) → p.reading.fault ≡ Some f → p.consoles ≡ n → HasRead text p → IsFaultOf (event_text n (text ++ more)) f
fault_answers text more n p f e same h = rw (← same) (read_fault (text ++ more) p f e (kept_all more text p (ap is_some e) h))

-- ---- a line, checked

-- its events are added
pub line_added : (old : Progress) (events : List Event) (partial line : List ℕ) → line ≡ old.partial → partial ≡ [] → old.reading.fault ≡ None →
    ((more : List Event) × (event_line old.consoles (most_events - length old.reading.events) line ≡ Ok more) × (events ≡ old.reading.events ++ more)) →
    EndsLine old (record { consoles = old.consoles; reading = record { lines = old.reading.lines + 1; events = events; fault = old.reading.fault }; partial = partial })
line_added old events partial line same empty fine adds = rw (fine, ← same) (rw (adds.1, adds.2) refl, empty)

-- it is rejected
pub line_refused : (m : ℕ) (r : Reading) (partial : List ℕ) (events : List Event) (line : List ℕ) (reason : Reason) → line ≡ partial →
    (events ≡ r.events) × ((reason ≡ Memory) ⊎ (event_line m (most_events - length r.events) line ≡ Err reason)) →
    (reason ≡ Memory) ⊎ ((judged_line m r partial).fault ≡ Some (record { line = r.lines + 1; reason = reason }))
line_refused m r partial events line reason same adds = elim adds.1 [
  | inl e ↦ inl e
  | inr q ↦ inr (rw (← same, q) refl)
]

-- ---- the end of a line

-- at a line feed, the line so far is checked
whole_ended : (text : List ℕ) (c : ℕ) (old : Progress) → (c == 10) ≡ true → old.reading.fault ≡ None → HasReadTo None text old →
    read_whole old.consoles (text ++ c ∷ []) ≡ judged_line old.consoles old.reading old.partial
whole_ended text c old e fine h =
    rw (lines_end [] text c e, read_more old.consoles start (lines_of text).whole (lines_of text).rest, ← h.0, h.1) (next_at old.consoles old.reading (lines_of text).rest fine)

-- after the end of a line, the reader stores what it should, by its fault then
ended_to : (o : Option TextFault) (text : List ℕ) (c : ℕ) (old new : Progress) → (c == 10) ≡ true → old.reading.fault ≡ None → new.consoles ≡ old.consoles →
    HasReadTo None text old → EndsLineTo o old new → HasReadTo o (text ++ c ∷ []) new
ended_to None text c old new e fine same f (reads, empty) =
    rw same (reads ∙ sym (whole_ended text c old e fine f), empty ∙ sym (ap (λ (ls : Lines). take 201 ls.rest) (lines_end [] text c e)))
ended_to (Some fault) text c old new e fine same f why = rw same (elim why [ inl m ↦ inl m | inr q ↦ inr (rw (whole_ended text c old e fine f) q) ])

-- after the end of a line, the reader stores what it should
pub line_ended : (text : List ℕ) (c : ℕ) (old new : Progress) → (c == 10) ≡ true → old.reading.fault ≡ None → new.consoles ≡ old.consoles →
    HasRead text old → EndsLine old new → HasRead (text ++ c ∷ []) new
line_ended text c old new e fine same h ends = ended_to new.reading.fault text c old new e fine same (subst (λ o. HasReadTo o text old) fine h) ends

-- ---- another byte of a line

-- after another byte of a line, the reader stores what it should
pub byte_kept : (text : List ℕ) (c : ℕ) (old : Progress) (more : List ℕ) → (c == 10) ≡ false → old.reading.fault ≡ None → HasRead text old →
    ((xs : List ℕ) → old.partial ≡ take 201 xs → more ≡ take 201 (xs ++ c ∷ [])) → HasRead (text ++ c ∷ []) (record old { partial = more })
byte_kept text c old more e fine h taken =
    let f : HasReadTo None text old = subst (λ o. HasReadTo o text old) fine h in
    let same : lines_of (text ++ c ∷ []) ≡ extended c (lines_of text) = lines_more [] text c e in
    subst (λ o. HasReadTo o (text ++ c ∷ []) (record old { partial = more })) (sym fine)
    (f.0 ∙ sym (ap (λ (ls : Lines). read_lines old.consoles start ls.whole) same), taken (lines_of text).rest f.1 ∙ sym (ap (λ (ls : Lines). take 201 ls.rest) same))

-- ---- the end of a text

-- with a fault, what was read is what the text means, by that fault
meets_to : (o : Option TextFault) (text : List ℕ) (p : Progress) → o ≡ p.reading.fault → is_some o ≡ true → HasRead text p → MeetsTo o p.reading.events (event_text p.consoles text)
meets_to None text p same e h = cc
meets_to (Some f) text p same e h = read_fault text p f (sym same) h

-- with a fault, what was read is what the text means
pub meets_fault : (text : List ℕ) (p : Progress) → is_some p.reading.fault ≡ true → HasRead text p → Meets p.reading (event_text p.consoles text)
meets_fault text p e h = meets_to p.reading.fault text p refl e h

-- without a fault, and without an incomplete last line, what was read is what the text means
pub meets_no_last : (text : List ℕ) (p : Progress) → p.reading.fault ≡ None → length p.partial ≡ 0 → HasRead text p → Meets p.reading (event_text p.consoles text)
unfolding event_text
meets_no_last text p e none h =
    let f : HasReadTo None text p = subst (λ o. HasReadTo o text p) e h in
    let rest : length (lines_of text).rest ≡ 0 = empty_taken 201 (lines_of text).rest (omega arith) (ap length (sym f.1) ∙ none) in
    let lines : all_lines text ≡ (lines_of text).whole = ap (λ (l : List ℕ). (lines_of text).whole ++ closed l) (nil_from_length (lines_of text).rest rest) ∙ append-nil (lines_of text).whole in
    subst (λ o. MeetsTo o p.reading.events (event_text p.consoles text)) (sym e)
    (ap (λ (ls : List (List ℕ)). answer (read_lines p.consoles start ls)) lines ∙ ap answer (sym f.0) ∙ answer_fine p.reading e)

-- if an incomplete last line is checked, all lines are read
all_read : (text : List ℕ) (old : Progress) → old.reading.fault ≡ None → 0 < length old.partial → HasReadTo None text old →
    read_lines old.consoles start (all_lines text) ≡ judged_line old.consoles old.reading old.partial
all_read text old e some f =
    let rest : 0 < length (lines_of text).rest = rest_some 201 (lines_of text).rest (subst (λ (l : List ℕ). 0 < length l) f.1 some) in
    rw (closed_some (lines_of text).rest rest, read_more old.consoles start (lines_of text).whole (lines_of text).rest, ← f.0, f.1) (next_at old.consoles old.reading (lines_of text).rest e)

-- after an incomplete last line was checked, what was read is what the text means, by its fault then
meets_ends : (o : Option TextFault) (text : List ℕ) (old new : Progress) → o ≡ new.reading.fault → old.reading.fault ≡ None → 0 < length old.partial →
    EndsLineTo o old new → HasReadTo None text old → MeetsTo o new.reading.events (event_text old.consoles text)
unfolding event_text
meets_ends None text old new same e some (reads, empty) f = ap answer (all_read text old e some f ∙ sym reads) ∙ answer_fine new.reading (sym same)
meets_ends (Some g) text old new same e some why f = elim why [
  | inl m ↦ inl m
  | inr q ↦ inr (ap answer (all_read text old e some f) ∙ answer_fault (judged_line old.consoles old.reading old.partial) g q)
]

-- after an incomplete last line was checked, what was read is what the text means
pub meets_last : (text : List ℕ) (old new : Progress) → old.reading.fault ≡ None → 0 < length old.partial → EndsLine old new → HasRead text old → Meets new.reading (event_text old.consoles text)
meets_last text old new e some ends h = meets_ends new.reading.fault text old new refl e some ends (subst (λ o. HasReadTo o text old) e h)
