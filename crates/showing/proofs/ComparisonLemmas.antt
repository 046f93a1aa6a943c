-- Proofs about what is put while it is compared with a text.
use Rattle.std.proofs.Common.{◌≡◌, ◌≢◌, ℕ, ◌+◌, ◌-◌, ◌<◌, ◌≤◌, List, [], ◌∷◌, ◌++◌, Option, Some, None, length, get_or, take, drop, ap, sym, subst, refl, ◌∙◌, append_assoc, append-nil, arith, true}
use Rattle.std.specs.Prelude.{Result, Ok, Err}
use Rattle.std.proofs.lemmas.Grind.{common_steps}
use Rattle.std.specs.Io.KnownBytes.{Appends}
use Rattle.inputs.specs.Reads.{AreRead, Contents, Text}
use Rattle.kernel.specs.Headline.{CutsShort, Headline, RunsTexts, Traces}
use Rattle.kernel.specs.declared.texts.RunError.{RunError}
use Rattle.kernel.specs.declared.texts.RunError.TheVariants as error
use Rattle.kernel.specs.declared.summary.Summary.{Summary}
use Rattle.posix.specs.declared.event.Event.{Event}
use Rattle.posix.specs.Common.{Line, print, State, World}
use Rattle.trace.proofs.SinkLemmas.{put_fits, slice_more}
use Rattle.trace.specs.Sinks.{Seen}
use Rattle.text.specs.EventTexts.{event_text}
use Rattle.showing.specs.Comparisons.{Compares, OfRun, held, taken_beside}
use Rattle.showing.specs.declared.comparing_sink.ComparingSink.{ComparingSink}

-- ---- what a put takes

-- bytes that are the next ones of the text
take_more : (text bytes : List ℕ) (same n : ℕ) → same ≤ length text → n ≤ length (take (length text - same) (drop same text))
    → take n (take (length text - same) (drop same text)) ≡ take n bytes → take (same + n) text ≡ take same text ++ take n bytes
take_more text bytes same n h fits is = sym (slice_more text same n (put_fits text same n fits h)) ∙ ap (λ x. take same text ++ x) is

pub took_same : (text bytes : List ℕ) (same n : ℕ) (other : Option ℕ) → other ≡ None → same ≤ length text → n ≤ length (take (length text - same) (drop same text))
    → take n (take (length text - same) (drop same text)) ≡ take n bytes → held text (same + n) other ≡ held text same other ++ take n bytes
took_same text bytes same n (Some b) none h fits is = absurd (cc)
took_same text bytes same n None none h fits is =
    let taken : take (same + n) text ++ [] ≡ (take same text ++ []) ++ take n bytes =
    append-nil (take (same + n) text) ∙ take_more text bytes same n h fits is ∙ ap (λ x. x ++ take n bytes) (sym (append-nil (take same text))) in
    ap (λ x. length text ∷ x) (ap (λ x. text ++ x) taken ∙ sym (append_assoc text (take same text ++ []) (take n bytes)))

take_next : (xs : List ℕ) (n b : ℕ) → n < length xs → b ≡ get_or xs n b → take (n + 1) xs ≡ take n xs ++ b ∷ []
take_next xs n b h is = grind (arith, common_steps)

-- another byte after them
pub took_other : (text bytes : List ℕ) (same n b : ℕ) (other : Option ℕ) → other ≡ None → same ≤ length text → n ≤ length (take (length text - same) (drop same text))
    → take n (take (length text - same) (drop same text)) ≡ take n bytes → n < length bytes → b ≡ get_or bytes n b → held text (same + n) (Some b) ≡ held text same other ++ take (n + 1) bytes
took_other text bytes same n b (Some c) none h fits is within next = absurd (cc)
took_other text bytes same n b None none h fits is within next =
    let taken : take (same + n) text ++ b ∷ [] ≡ (take same text ++ []) ++ take (n + 1) bytes =
    ap (λ x. x ++ b ∷ []) (take_more text bytes same n h fits is)
    ∙ append_assoc (take same text) (take n bytes) (b ∷ [])
    ∙ ap (λ x. take same text ++ x) (sym (take_next bytes n b within next))
    ∙ ap (λ x. x ++ take (n + 1) bytes) (sym (append-nil (take same text))) in
    ap (λ x. length text ∷ x) (ap (λ x. text ++ x) taken ∙ sym (append_assoc text (take same text ++ []) (take (n + 1) bytes)))

-- ---- what a run put

same_front : (a b x y : List ℕ) → length a ≡ length b → a ++ x ≡ b ++ y → (a ≡ b) × (x ≡ y)
same_front [] [] x y h e = (refl, e)
same_front [] (b ∷ bs) x y h e = absurd (omega (arith, h))
same_front (a ∷ more) [] x y h e = absurd (omega (arith, h))
same_front (a ∷ more) (b ∷ bs) x y h e =
    let tails : more ++ x ≡ bs ++ y = cc in
    let r = same_front more bs x y (omega (arith, h)) tails in
    let is = r.0 in (cc, r.1)

-- The compared text is the one of before, and what was taken is known.
taken_is : (old new : Option (List ℕ)) (before text : List ℕ) (same : ℕ) (other : Option ℕ) (bytes : List ℕ) → old ≡ Some (held before 0 None) → new ≡ Some (held text same other)
    → Appends old new bytes → (text ≡ before) × (taken_beside text same other ≡ bytes)
taken_is old new before text same other bytes is_old is_new appends =
    let appended : held text same other ≡ held before 0 None ++ bytes =
    subst (λ o. Appends o (Some (held text same other)) bytes) is_old (subst (λ n. Appends old n bytes) is_new appends) in
    let lengths : length text ≡ length before = cc in
    let rests : text ++ taken_beside text same other ≡ (before ++ []) ++ bytes = cc in
    same_front text before (taken_beside text same other) bytes lengths (rests ∙ ap (λ x. x ++ bytes) (append-nil before))

begun : (text trace : List ℕ) (same : ℕ) (other : Option ℕ) → text ≡ trace → same ≡ 0 → other ≡ None → Some (held text same other) ≡ Some (held trace 0 None)
begun text trace same other is none nothing = rw (is, none, nothing) refl

-- the sink's view of it
abbrev pub seen : ComparingSink → Seen
seen b = record { taken = Some (held b.text.now b.same b.other); failures = b.failures; last_failed = b.last_failed }

-- The comparison with a run holds of the trace, because it holds of an equal text.
of_run_with : (contents : Contents) (names : Text × Text) (world : World) (events : List Event) (read : AreRead contents names world events) (text trace : List ℕ) (number : Option ℕ)
    (given : List Event) (lines : List Line) (last : State) → RunsTexts read.world_bytes read.event_bytes given lines last → text ≡ trace → Compares text (print lines) number
    → OfRun contents names (λ printed. Compares trace printed number)
of_run_with contents names world events read text trace number given lines last run same compares = record {
  world_bytes = read.world_bytes;
  event_bytes = read.event_bytes;
  in_files = read.in_files;
  events = given;
  lines = lines;
  last = last;
  run = run;
  of_trace = subst (λ t. Compares t (print lines) number) same compares;
}

-- The comparison of a trace with the printed trace of a run, if all of the printed trace was put.
beside_all : (contents : Contents) (names : Text × Text) (world : World) (events : List Event) (read : AreRead contents names world events) (first beside : ComparingSink) (summary : Summary)
    (trace : List ℕ) (number : Option ℕ) → first.text.now ≡ trace → first.same ≡ 0 → first.other ≡ None → Traces read.world_bytes read.event_bytes (seen first) (seen beside) summary
    → Compares beside.text.now (taken_beside beside.text.now beside.same beside.other) number → OfRun contents names (λ printed. Compares trace printed number)
beside_all contents names world events read first beside summary trace number is none nothing h whole =
    let same = taken_is _ _ trace beside.text.now beside.same beside.other (print h.lines) (begun _ _ _ _ is none nothing) refl h.taken.taken in
    of_run_with contents names world events read beside.text.now trace number h.events h.lines h.last h.run same.0 (subst (λ x. Compares beside.text.now x number) same.1 whole)

-- The same comparison, if only a beginning of the printed trace was put.
beside_some : (contents : Contents) (names : Text × Text) (world : World) (events : List Event) (read : AreRead contents names world events) (first beside : ComparingSink)
    (trace : List ℕ) (number : Option ℕ) → first.text.now ≡ trace → first.same ≡ 0 → first.other ≡ None → CutsShort read.world_bytes read.event_bytes (seen first) (seen beside)
    → (beside.last_failed ≡ true → (rest : List ℕ) → Compares beside.text.now (taken_beside beside.text.now beside.same beside.other ++ rest) number)
    → OfRun contents names (λ printed. Compares trace printed number)
beside_some contents names world events read first beside trace number is none nothing h more =
    let broken = h.broken in
    let same = taken_is _ _ trace beside.text.now beside.same beside.other broken.front (begun _ _ _ _ is none nothing) refl broken.taken in
    of_run_with contents names world events read beside.text.now trace number h.events h.lines h.last h.run same.0
    (subst (λ x. Compares beside.text.now x number) (ap (λ x. x ++ broken.rest) same.1 ∙ sym broken.split) (more broken.last broken.rest))

-- The comparison for every run that began: it put all of its trace, or a beginning.
pub of_run : {S : Type 0} (contents : Contents) (names : Text × Text) (world : World) (events : List Event) (read : AreRead contents names world events) (so sn : S) (first beside : ComparingSink)
    (done : Result Summary RunError) (trace : List ℕ) (number : Option ℕ) → first.text.now ≡ trace → first.same ≡ 0 → first.other ≡ None → done ≢ Err error.Memory
    → Headline read.world_bytes read.event_bytes so sn (seen first) (seen beside) done
    → Compares beside.text.now (taken_beside beside.text.now beside.same beside.other) number
    → (beside.last_failed ≡ true → (rest : List ℕ) → Compares beside.text.now (taken_beside beside.text.now beside.same beside.other ++ rest) number)
    → OfRun contents names (λ printed. Compares trace printed number)
of_run contents names world events read so sn first beside (Ok summary) trace number is none nothing began h whole more = beside_all contents names world events read first beside summary trace number is none nothing h whole
of_run contents names world events read so sn first beside (Err error.Write) trace number is none nothing began h whole more = beside_some contents names world events read first beside trace number is none nothing h more
of_run contents names world events read so sn first beside (Err error.Memory) trace number is none nothing began h whole more = absurd (began refl)
of_run contents names world events read so sn first beside (Err (error.World fault)) trace number is none nothing began h whole more =
    absurd (let accepted = read.world_is in let refused = h.0 in cc)
of_run contents names world events read so sn first beside (Err (error.Events fault)) trace number is none nothing began h whole more =
    let accepted = read.world_is in
    let other = h.0.1 in
    let same : h.0.0 ≡ world = cc in
    let refused : event_text world.consoles read.event_bytes ≡ Err fault = subst (λ w. event_text w.consoles read.event_bytes ≡ Err fault) same h.0.2 in
    absurd (let are = read.events_are in cc)
