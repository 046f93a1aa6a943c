-- Proofs about the answers to a page.
use Rattle.std.proofs.Common.{◌≡◌, ◌⊎◌, ◌∙◌, ℕ, false, ◌≤◌, List, [], ◌∷◌, ◌++◌, Option, None, Some, map, length, take, drop, refl, ap, sym, subst, arith, append-nil, inl, inr, codes, Ok, Err, IsUtf8}
use Rattle.std.specs.Io.KnownBytes.{Appends}
use Rattle.std.specs.List.{AllByRecursion}
use Rattle.std.specs.Option.{IsSomeAnd}
use Rattle.std.proofs.Math.Seq.{take-append_seam}
use Rattle.clap.proofs.OnLiterals.{clap_on_literals}
use Rattle.kernel.specs.Headline.{CutsShort}
use Rattle.trace.specs.Sinks.{Seen}
use Rattle.inputs.specs.declared.command_line.WordsFault.TheVariants.{NotText, Memory}
use Rattle.inputs.proofs.MeaningLemmas.{means_along}
use Rattle.inputs.specs.Reads.{Contents, Text}
use Rattle.commands.specs.Running.{AskFor, AskForAudit, IsAccepted, IsFaulty, IsRefused, IsTraced, OfTexts, OfTrace, fault_answer}
use Rattle.commands.specs.Words.{audit_asked, run_asked}
use Rattle.exploring.specs.Serving.{Means as MeansOfExploring}
use Rattle.exploring.specs.Words.{Asked as AskedOfExploring}
use Rattle.explaining.specs.Serving.{IsRefused as IsOtherTrace}
use Rattle.explaining.specs.Words.{Asked as AskedOfExplaining, OfTrace as OfTraceAlone, OfRun}
use Rattle.commands.specs.Commands.{Audits, AuditsInWords, Draws, Explains, Explores, Helps, AsksNothing, Names, Purpose, Runs, RunsStored, ServesAs, Shows, TellsVersion, purpose_of}
use Rattle.commands.specs.Named.{Place, ServesNamed, named_in, place_in}
use Rattle.commands.specs.Serving.{Serves, ServesWords, Words}
use Rattle.page.specs.Answers.{AreServed, BeginsTrace, IsAnswered, IsAudited, IsGiven, IsRun, IsTrace}
use Rattle.page.specs.Files.{files_of}
use Rattle.page.specs.Words.{AreWordsOf, text_of, words_of, words_to_audit, words_to_run}

-- ---- the contracts depend only on what is seen of a sink

exploring_along : {S T : Type 0} (f : S → T) (contents : Contents) (asked : Option AskedOfExploring) (old new : S) (before after : Seen) (status : ℕ)
    → MeansOfExploring contents asked old new before after status → MeansOfExploring contents asked (f old) (f new) before after status
exploring_along f contents asked old new before after status h = record {
  done = h.done;
  told = h.told;
  refused = λ e. let r = h.refused e in (r.0, ap f r.1);
  other_words = λ e. let r = h.other_words e in (r.0, ap f r.1);
  cut_short = λ e. elim (h.cut_short e) [ inl same ↦ inl (ap f same) | inr r ↦ inr r ];
}

refusal_along : {S T : Type 0} (f : S → T) (contents : Contents) (old new : S) (asked : Option AskedOfExplaining)
    → IsSomeAnd asked (IsOtherTrace contents old new) → IsSomeAnd asked (IsOtherTrace contents (f old) (f new))
refusal_along f contents old new None h = absurd h
refusal_along f contents old new (Some (OfTraceAlone name)) h = absurd h
refusal_along f contents old new (Some (OfRun names)) h = (h.0, ap f h.1)

still_refused : {S T : Type 0} (f : S → T) (A : Type 0) (old new : S) → A × (new ≡ old) → A × (f new ≡ f old)
still_refused f A old new h = (h.0, ap f h.1)

as_along : {S T : Type 0} (f : S → T) (contents : Contents) (old new : S) (before after : Seen) (status : ℕ) (purpose : Purpose)
    → ServesAs contents old new before after status purpose → ServesAs contents (f old) (f new) before after status purpose
as_along f contents old new before after status Helps h = h
as_along f contents old new before after status TellsVersion h = h
as_along f contents old new before after status RunsStored h = (means_along f _ _ _ _ _ old new status (still_refused f _ old new) h.0, h.1)
as_along f contents old new before after status (Runs more) h = (means_along f _ _ _ _ _ old new status (still_refused f _ old new) h.0, h.1)
as_along f contents old new before after status (Audits more) h = (means_along f _ _ _ _ _ old new status (λ r. r) h.0, h.1)
as_along f contents old new before after status (Explores more) h = (exploring_along f contents _ old new before after status h.0, h.1)
as_along f contents old new before after status (Shows more) h = h
as_along f contents old new before after status (Explains more) h = (means_along f _ _ _ _ _ old new status (refusal_along f contents old new _) h.0, h.1)
as_along f contents old new before after status (AuditsInWords more) h = (means_along f _ _ _ _ _ old new status (λ r. r) h.0, h.1)
as_along f contents old new before after status (Draws more) h = (means_along f _ _ _ _ _ old new status (λ r. r) h.0, h.1)
as_along f contents old new before after status (Names more) h = (means_along f _ _ _ _ _ old new status (λ r. r) h.0, h.1)
as_along f contents old new before after status AsksNothing h = (h.0, ap f h.1)

named_along : {S T : Type 0} (f : S → T) (contents : Contents) (command : Text) (place : Option Place) (old new : S) (before after : Seen) (status : ℕ)
    → ServesNamed contents command place old new before after status → ServesNamed contents command place (f old) (f new) before after status
named_along f contents command None old new before after status h = (h.0, ap f h.1)
named_along f contents command (Some place) old new before after status (inr h) = inr (h.0, ap f h.1)
named_along f contents command (Some place) old new before after status (inl h) = inl (record {
  world = h.world;
  events = h.events;
  world_name = h.world_name;
  events_name = h.events_name;
  of_world = h.of_world;
  of_events = h.of_events;
  served = record { plain = h.served.plain; are_plain = h.served.are_plain; serves = as_along f _ old new before after status _ h.served.serves };
})

words_along : {S T : Type 0} (f : S → T) (contents : Contents) (words : List Text) (old new : S) (before after : Seen) (status : ℕ) (named : Option (Text × List Text))
    → ServesWords contents words old new before after status named → ServesWords contents words (f old) (f new) before after status named
words_along f contents words old new before after status None h = as_along f contents old new before after status _ h
words_along f contents words old new before after status (Some named) h = named_along f contents named.0 (place_in named.1) old new before after status h

serves_along : {S T : Type 0} (f : S → T) (contents : Contents) (words : Words) (old new : S) (before after : Seen) (status : ℕ)
    → Serves contents words old new before after status → Serves contents words (f old) (f new) before after status
serves_along f contents (Ok words) old new before after status h =
    let texts = map (λ w. w.now) words.now in
    words_along f contents texts old new before after status (named_in texts) h
serves_along f contents (Err NotText) old new before after status h = (h.0, ap f h.1)
serves_along f contents (Err Memory) old new before after status h = (h.0, ap f h.1)

pub are_served : {S : Type 0} (old new : S) (f : S → List ℕ) (seen : S → Seen) (contents : Contents) (words : Words) (status : ℕ)
    → f old ≡ [] → ((s : S) → (seen s).taken ≡ Some (f s)) → Serves contents words old new (seen old) (seen new) status → AreServed contents words (f new) status
are_served old new f seen contents words status none tells h = record {
  before = seen old;
  after = seen new;
  began = tells old ∙ ap Some none;
  taken = tells new;
  serves = subst (λ bytes. Serves contents words bytes (f new) (seen old) (seen new) status) none (serves_along f contents words old new (seen old) (seen new) status h);
}

-- ---- statuses

as_most : {S : Type 0} (contents : Contents) (old new : S) (before after : Seen) (status : ℕ) (purpose : Purpose) → ServesAs contents old new before after status purpose → status ≤ 4
as_most contents old new before after status Helps (inl h) = omega (arith, h.0)
as_most contents old new before after status Helps (inr h) = omega (arith, h.0)
as_most contents old new before after status TellsVersion (inl h) = omega (arith, h.0)
as_most contents old new before after status TellsVersion (inr h) = omega (arith, h.0)
as_most contents old new before after status RunsStored h = omega (arith, h.1)
as_most contents old new before after status (Runs more) h = omega (arith, h.1)
as_most contents old new before after status (Audits more) h = omega (arith, h.1)
as_most contents old new before after status (Explores more) h = h.1
as_most contents old new before after status (Shows more) h = omega (arith, h)
as_most contents old new before after status (Explains more) h = omega (arith, h.1)
as_most contents old new before after status (AuditsInWords more) h = omega (arith, h.1)
as_most contents old new before after status (Draws more) h = omega (arith, h.1)
as_most contents old new before after status (Names more) h = omega (arith, h.1)
as_most contents old new before after status AsksNothing h = omega (arith, h.0)

named_most : {S : Type 0} (contents : Contents) (command : Text) (place : Option Place) (old new : S) (before after : Seen) (status : ℕ)
    → ServesNamed contents command place old new before after status → status ≤ 4
named_most contents command None old new before after status h = omega (arith, h.0)
named_most contents command (Some place) old new before after status (inl h) = as_most _ old new before after status _ h.served.serves
named_most contents command (Some place) old new before after status (inr h) = omega (arith, h.0)

words_most : {S : Type 0} (contents : Contents) (words : List Text) (old new : S) (before after : Seen) (status : ℕ) (named : Option (Text × List Text))
    → ServesWords contents words old new before after status named → status ≤ 4
words_most contents words old new before after status None h = as_most contents old new before after status _ h
words_most contents words old new before after status (Some named) h = named_most contents named.0 (place_in named.1) old new before after status h

serves_most : {S : Type 0} (contents : Contents) (words : Words) (old new : S) (before after : Seen) (status : ℕ)
    → Serves contents words old new before after status → status ≤ 4
serves_most contents (Ok words) old new before after status h =
    let texts = map (λ w. w.now) words.now in
    words_most contents texts old new before after status (named_in texts) h
serves_most contents (Err NotText) old new before after status h = omega (arith, h.0)
serves_most contents (Err Memory) old new before after status h = omega (arith, h.0)

pub most_answered : (words trace world events put : List ℕ) (status : ℕ) → IsAnswered words trace world events put status → status ≤ 4
most_answered words trace world events put status h = serves_most _ h.said _ _ _ _ status h.served.serves

-- ---- the commands of words

-- Words that are UTF-8 are served as their command, unless there is no memory for them.
served : (contents : Contents) (text : List ℕ) (said : Words) (words : List Text) (put : List ℕ) (before after : Seen) (status : ℕ) → AreWordsOf text said
    → words_of text ≡ Some words → AllByRecursion IsUtf8 words → named_in words ≡ None → Serves contents said [] put before after status
    → ServesAs contents [] put before after status (purpose_of words) ⊎ ((status ≡ 3) × (put ≡ []))
served contents text (Ok said) words put before after status are is texts plain h =
    let same : map (λ w. w.now) said.now ≡ words = cc in
    let of_words = subst (λ ws. ServesWords contents ws [] put before after status (named_in ws)) same h in
    inl (subst (λ named. ServesWords contents words [] put before after status named) plain of_words)
served contents text (Err NotText) words put before after status are is texts plain h =
    let none : (AllByRecursion IsUtf8 words → ⊥) = rw is at (are refl) in absurd (none texts)
served contents text (Err Memory) words put before after status are is texts plain h = inr h

-- ---- the words `run world events` and `audit trace`

text_to_run : words_of (text_of words_to_run) ≡ Some words_to_run
text_to_run = refl

text_to_audit : words_of (text_of words_to_audit) ≡ Some words_to_audit
text_to_audit = refl

texts_to_run : AllByRecursion IsUtf8 words_to_run
unfolding clap_on_literals
texts_to_run = ((codes "run", (refl, refl)), ((codes "world", (refl, refl)), ((codes "events", (refl, refl)), tt)))

texts_to_audit : AllByRecursion IsUtf8 words_to_audit
unfolding clap_on_literals
texts_to_audit = ((codes "audit", (refl, refl)), ((codes "trace", (refl, refl)), tt))

asked_to_run : run_asked (codes "world" ∷ codes "events" ∷ []) ≡ Some (codes "world", codes "events")
unfolding clap_on_literals
asked_to_run = refl

asked_to_audit : audit_asked (codes "trace" ∷ []) ≡ Some (codes "trace")
unfolding clap_on_literals
asked_to_audit = refl

something : {A : Type 0} (asked : Option A) (a : A) → asked ≡ Some a → asked ≡ None → ⊥
something asked a is none = let e : Some a ≡ None = sym is ∙ none in cc

-- what was put
put_all : (before after : Option (List ℕ)) (put bytes : List ℕ) → before ≡ Some [] → after ≡ Some put → Appends before after bytes → put ≡ bytes
put_all before after put bytes began taken h = rw (began, taken) at h

begun : (before after : Seen) (world events put : List ℕ) → before.taken ≡ Some [] → after.taken ≡ Some put → CutsShort world events before after
    → (rest : List ℕ) × BeginsTrace world events put rest
begun before after world events put began taken h =
    let front = put_all before.taken after.taken put h.broken.front began taken h.broken.taken in
    (h.broken.rest, record { happened = h.events; lines = h.lines; last = h.last; run = h.run; printed = h.broken.split ∙ ap (λ bytes. bytes ++ h.broken.rest) (sym front) })

traced : (before after : Seen) (world events put : List ℕ) → before.taken ≡ Some [] → after.taken ≡ Some put → IsTraced before after world events → IsTrace world events put
traced before after world events put began taken h =
    let whole = put_all before.taken after.taken put _ began taken h.1.taken.taken in
    record { happened = h.1.events; lines = h.1.lines; last = h.1.last; run = h.1.run; printed = sym whole ∙ sym (append-nil put) }

-- the requested files are the world and the events of the page
of_run : (trace world events : List ℕ) (P : List ℕ → List ℕ → Type 0)
    → OfTexts (AskFor (files_of trace world events) (run_asked (codes "world" ∷ codes "events" ∷ []))) P → P world events
of_run trace world events P h =
    let same : (h.0 ≡ world) × (h.1 ≡ events) = subst (λ asked. AskFor (files_of trace world events) asked h.0 h.1) asked_to_run h.2 in
    let Q : List ℕ → Type 0 = λ e. P world e in
    let R : List ℕ → Type 0 = λ w. P w h.1 in
    subst Q same.1 (subst R same.0 h.3)

of_audit : (trace world events : List ℕ) (P : List ℕ → Type 0) → OfTrace (AskForAudit (files_of trace world events) (audit_asked (codes "trace" ∷ []))) P → P trace
of_audit trace world events P h =
    let same : h.0 ≡ trace = subst (λ asked. AskForAudit (files_of trace world events) asked h.0) asked_to_audit h.1 in
    subst P same h.2

pub is_run : (words trace world events put : List ℕ) (status : ℕ) → words ≡ text_of words_to_run → IsAnswered words trace world events put status → IsRun world events put status
is_run words trace world events put status is h =
    let s = h.served in
    let are : AreWordsOf (text_of words_to_run) h.said = subst (λ text. AreWordsOf text h.said) is h.are in
    elim (served (files_of trace world events) (text_of words_to_run) h.said words_to_run put s.before s.after status are text_to_run texts_to_run refl s.serves) [
      | inl m ↦ record {
        most = m.1;
        traced = λ e. traced s.before s.after world events put s.began s.taken (of_run trace world events (IsTraced s.before s.after) (m.0.done e));
        refused = λ e. let r = m.0.refused e in (of_run trace world events IsRefused r.0, r.1);
        known = λ e. something _ _ asked_to_run (m.0.other_words e).0;
        cut_short = λ e. elim (m.0.cut_short e) [
          | inl none ↦ inl none
          | inr cut ↦ inr (begun s.before s.after world events put s.began s.taken (of_run trace world events (λ w e. CutsShort w e s.before s.after) cut))
        ];
      }
      | inr none ↦ record {
        most = omega (arith, none.0);
        traced = λ e. absurd (omega (arith, e, none.0));
        refused = λ e. absurd (omega (arith, e, none.0));
        known = λ e. omega (arith, e, none.0);
        cut_short = λ e. inl none.1;
      }
    ]

pub is_audited : (words trace world events put : List ℕ) (status : ℕ) → words ≡ text_of words_to_audit → IsAnswered words trace world events put status → IsAudited trace put status
is_audited words trace world events put status is h =
    let s = h.served in
    let are : AreWordsOf (text_of words_to_audit) h.said = subst (λ text. AreWordsOf text h.said) is h.are in
    elim (served (files_of trace world events) (text_of words_to_audit) h.said words_to_audit put s.before s.after status are text_to_audit texts_to_audit refl s.serves) [
      | inl m ↦ record {
        most = m.1;
        lawful = λ e. let accepted = of_audit trace world events (IsAccepted s.before s.after) (m.0.done e) in
            (accepted.0, put_all s.before.taken s.after.taken put _ s.began s.taken accepted.1.taken);
        faulty = λ e. let faulty = of_audit trace world events (IsFaulty false s.before s.after) (m.0.refused e) in
            let why = faulty.1.0 in
            (faulty.0, (why, faulty.1.1, put_all s.before.taken s.after.taken put _ s.began s.taken faulty.1.2.taken ∙ append-nil (fault_answer why)));
        known = λ e. something _ _ asked_to_audit (m.0.other_words e).0;
      }
      | inr none ↦ record {
        most = omega (arith, none.0);
        lawful = λ e. absurd (omega (arith, e, none.0));
        faulty = λ e. absurd (omega (arith, e, none.0));
        known = λ e. omega (arith, e, none.0);
      }
    ]

-- what is in the buffer
pub trace_given : (world events put old new : List ℕ) (count status : ℕ) → IsRun world events put status → IsGiven put old new count → status ≡ 0 → count ≤ length old → IsTrace world events (take count new)
trace_given world events put old new count status h given is within =
    let same : take count new ≡ put = ap (λ bytes. take count bytes) (given.given within) ∙ ap (λ n. take n (put ++ drop count old)) given.counted ∙ take-append_seam put (drop count old) in
    subst (λ bytes. IsTrace world events bytes) (sym same) (h.traced is)
