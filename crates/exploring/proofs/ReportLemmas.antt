-- The report on counts, and on first schedules.
use Rattle.std.proofs.Common.{◌+◌, ◌<◌, codes, get_or, take, subst, Option, Some, None, ◌≡◌, ◌∙◌, ℕ, List, [], ◌∷◌, ◌++◌, length, false, refl, ap, sym, append_assoc, append-nil}
use Rattle.std.specs.Fmt.{decimal}
use Rattle.std.specs.List.{concat}
use Rattle.std.specs.Prelude.{◌==◌, if◌then◌else◌, OnOk, Result, Ok, Err}
use Rattle.posix.specs.declared.event.Event.{Event}
use Rattle.schedules.specs.Families.{Spots}
use Rattle.schedules.specs.Schedules.{scheduled}
use Rattle.schedules.specs.EventLines.{AddsText}
use Rattle.std.proofs.lemmas.List.{take_more}
use Rattle.std.proofs.lemmas.List.Folds.{concat-append}
use Rattle.counting.specs.Books.{BookView}
use Rattle.counting.specs.Numbers.{in_decimal}
use Rattle.counting.specs.declared.ending.Endings.{Endings}
use Rattle.exploring.specs.Reports.{Adds, Reports, at_rest_lines, ending_line, first_lines, first_that, ShowsFind, ShowsFinds, ShowsFirst, find_line, first_that_has_it, size_line, states_line}
use Rattle.counting.specs.Texts.{FindView}
use Rattle.wording.specs.Counted.{plural}

four : (old a b c d s1 s2 s3 s4 : List ℕ) → s1 ≡ old ++ a → s2 ≡ s1 ++ b → s3 ≡ s2 ++ c → s4 ≡ s3 ++ d → s4 ≡ old ++ (a ++ (b ++ (c ++ d)))
four old a b c d s1 s2 s3 s4 is1 is2 is3 is4 = is4 ∙ ap (λ s. s ++ d) (is3 ∙ ap (λ s. s ++ c) (is2 ∙ ap (λ s. s ++ b) is1)) ∙ simp append_assoc

-- Four texts were added.
pub four_lines : {E : Type 0} (old a b c d s1 s2 s3 s4 : List ℕ) (r : Result (Unit {0}) E) → s1 ≡ old ++ a → s2 ≡ s1 ++ b → s3 ≡ s2 ++ c → OnOk r (s4 ≡ s3 ++ d) → OnOk r (s4 ≡ old ++ (a ++ (b ++ (c ++ d))))
four_lines old a b c d s1 s2 s3 s4 (Ok x) is1 is2 is3 is4 = four old a b c d s1 s2 s3 s4 is1 is2 is3 is4
four_lines old a b c d s1 s2 s3 s4 (Err e) is1 is2 is3 is4 = tt

-- The number of schedules was added, without loose events.
pub size_alone : {E : Type 0} (old new : List ℕ) (size upto ticks loose : ℕ) (d s t e : List ℕ) (r : Result (Unit {0}) E) → loose ≡ 0 → d ≡ in_decimal size → s ≡ plural size → t ≡ plural ticks → e ≡ plural upto
    → OnOk r (new ≡ old ++ concat (d ∷ codes " schedule" ∷ s ∷ codes ": at most " ∷ decimal ticks ∷ codes " tick" ∷ t ∷ codes ", each before one of the first " ∷ decimal upto ∷ codes " event" ∷ e ∷ codes "\n" ∷ []))
    → OnOk r (new ≡ old ++ size_line size upto ticks loose)
size_alone old new size upto ticks loose d s t e r none is_d is_s is_t is_e h = rw (none, sym is_d, sym is_s, sym is_t, sym is_e) h

-- The number of schedules was added, with loose events.
pub size_with : {E : Type 0} (old mid new : List ℕ) (size upto ticks loose : ℕ) (d s t l e : List ℕ) (r : Result (Unit {0}) E) → (loose == 0) ≡ false → d ≡ in_decimal size → s ≡ plural size → t ≡ plural ticks → l ≡ plural loose
    → e ≡ plural upto → mid ≡ old ++ concat (d ∷ codes " schedule" ∷ s ∷ codes ": at most " ∷ decimal ticks ∷ codes " tick" ∷ t ∷ codes " and " ∷ [])
    → OnOk r (new ≡ mid ++ concat (decimal loose ∷ codes " event" ∷ l ∷ codes " anywhere, each before one of the first " ∷ decimal upto ∷ codes " event" ∷ e ∷ codes "\n" ∷ []))
    → OnOk r (new ≡ old ++ size_line size upto ticks loose)
size_with old mid new size upto ticks loose d s t l e (Ok x) some is_d is_s is_t is_l is_e first last =
    let head : List (List ℕ) = d ∷ codes " schedule" ∷ s ∷ codes ": at most " ∷ decimal ticks ∷ codes " tick" ∷ t ∷ codes " and " ∷ [] in
    let tail : List (List ℕ) = decimal loose ∷ codes " event" ∷ l ∷ codes " anywhere, each before one of the first " ∷ decimal upto ∷ codes " event" ∷ e ∷ codes "\n" ∷ [] in
    let whole : new ≡ old ++ concat (head ++ tail) = last ∙ ap (λ m. m ++ concat tail) first ∙ append_assoc old (concat head) (concat tail) ∙ ap (λ m. old ++ m) (sym (concat-append head tail)) in
    rw (some, sym is_d, sym is_s, sym is_t, sym is_l, sym is_e) whole
size_with old mid new size upto ticks loose d s t l e (Err why) some is_d is_s is_t is_l is_e first last = tt

-- The number of schedules at rest was added, of which some wait for an alarm.
pub at_rest_added : {E : Type 0} (old s1 s2 : List ℕ) (e : Endings) (r : Result (Unit {0}) E) → (e.alarmed.count == 0) ≡ false → s1 ≡ old ++ ending_line e.at_rest.count (codes "come to rest: no process is runnable")
    → OnOk r (s2 ≡ s1 ++ ending_line e.alarmed.count (codes "of these wait for an alarm: try more ticks")) → OnOk r (s2 ≡ old ++ at_rest_lines e)
at_rest_added old s1 s2 e (Ok x) some is1 is2 =
    let resting = ending_line e.at_rest.count (codes "come to rest: no process is runnable") in
    let waiting = ending_line e.alarmed.count (codes "of these wait for an alarm: try more ticks") in
    is2 ∙ ap (λ s. s ++ waiting) is1 ∙ append_assoc old resting waiting ∙ ap (λ b. old ++ (resting ++ (if b then [] else waiting))) (sym some)
at_rest_added old s1 s2 e (Err why) some is1 is2 = tt

-- ---- first schedules

-- A heading was added, and the events of the first schedule.
first_behind : (old mid new heading : List ℕ) (loose events : List Event) (ps : Spots) → mid ≡ old ++ heading → AddsText mid (scheduled loose events ps) new → Adds old (ShowsFirst loose events heading (Some ps)) new
first_behind old mid new heading loose events ps is h = (heading ++ h.0, h.1 ∙ ap (λ s. s ++ h.0) is ∙ append_assoc old heading h.0, (h.0, refl, h.2))

first_here : (old mid new heading : List ℕ) (loose events : List Event) (first : Option Spots) (ps : Spots) → Some ps ≡ first → mid ≡ old ++ heading → AddsText mid (scheduled loose events ps) new
    → Adds old (ShowsFirst loose events heading first) new
first_here old mid new heading loose events first ps some is h = subst (λ f. Adds old (ShowsFirst loose events heading f) new) some (first_behind old mid new heading loose events ps is h)

pub first_added : {E : Type 0} (old mid new heading : List ℕ) (loose events : List Event) (first : Option Spots) (ps : Spots) (r : Result (Unit {0}) E) → Some ps ≡ first → mid ≡ old ++ heading
    → OnOk r (AddsText mid (scheduled loose events ps) new) → OnOk r (Adds old (ShowsFirst loose events heading first) new)
first_added old mid new heading loose events first ps (Ok x) some is h = first_here old mid new heading loose events first ps some is h
first_added old mid new heading loose events first ps (Err e) some is h = tt

-- The report on a text of `--find`, with the first schedule that has it.
find_added : (old mid new : List ℕ) (loose events : List Event) (f : FindView) → mid ≡ old ++ find_line f.text f.tally.count → Adds mid (ShowsFirst loose events first_that_has_it f.tally.first) new
    → Adds old (ShowsFind loose events f) new
find_added old mid new loose events f is h =
    let line = find_line f.text f.tally.count in
    (line ++ h.0, h.1 ∙ ap (λ s. s ++ h.0) is ∙ append_assoc old line h.0, record { first = h.0; whole = refl; shows = h.2 })

pub find_with_first : {E : Type 0} (old mid headed new : List ℕ) (loose events : List Event) (f : FindView) (ps : Spots) (r : Result (Unit {0}) E) → Some ps ≡ f.tally.first → mid ≡ old ++ find_line f.text f.tally.count
    → headed ≡ mid ++ first_that_has_it → OnOk r (AddsText headed (scheduled loose events ps) new) → OnOk r (Adds old (ShowsFind loose events f) new)
find_with_first old mid headed new loose events f ps (Ok x) some is heading h =
    find_added old mid new loose events f is (first_here mid headed new first_that_has_it loose events f.tally.first ps some heading h)
find_with_first old mid headed new loose events f ps (Err e) some is heading h = tt

pub find_alone : (old new : List ℕ) (loose events : List Event) (f : FindView) → f.tally.first ≡ None → new ≡ old ++ find_line f.text f.tally.count → Adds old (ShowsFind loose events f) new
find_alone old new loose events f none is =
    find_added old new new loose events f is ([], sym (append-nil new), subst (λ first. ShowsFirst loose events first_that_has_it first []) (sym none) refl)

-- The report on one more text was added.
pub finds_more : (loose events : List Event) (fs : List FindView) (f : FindView) (told this : List ℕ) → ShowsFinds loose events fs told → ShowsFind loose events f this → ShowsFinds loose events (fs ++ f ∷ []) (told ++ this)
finds_more loose events [] f told this none h = (this, [], ap (λ t. t ++ this) none ∙ sym (append-nil this), h, refl)
finds_more loose events (g ∷ gs) f told this h one =
    let more = finds_more loose events gs f h.1 this h.4 one in
    (h.0, h.1 ++ this, ap (λ t. t ++ this) h.2 ∙ append_assoc h.0 h.1 this, h.3, more)

pub finds_added : (old mid new : List ℕ) (loose events : List Event) (finds : List FindView) (i : ℕ) (f : FindView) → i < length finds → f ≡ get_or finds i f → Adds old (ShowsFinds loose events (take i finds)) mid
    → Adds mid (ShowsFind loose events f) new → Adds old (ShowsFinds loose events (take (i + 1) finds)) new
finds_added old mid new loose events finds i f within is h one =
    let grown : take i finds ++ f ∷ [] ≡ take (i + 1) finds = sym (take_more finds i f within ∙ ap (λ g. take i finds ++ g ∷ []) (sym is)) in (
      h.0 ++ one.0,
      one.1 ∙ ap (λ s. s ++ one.0) h.1 ∙ append_assoc old h.0 one.0,
      subst (λ fs. ShowsFinds loose events fs (h.0 ++ one.0)) grown (finds_more loose events (take i finds) f h.0 one.0 h.2 one.2),
    )

-- All parts were added to an empty text.
pub reported : (loose events : List Event) (upto ticks : ℕ) (b : BookView) (states : ℕ) (s0 s1 s2 s3 s4 s5 s6 outcomes : List ℕ) → s0 ≡ [] → s1 ≡ s0 ++ first_lines b.total upto ticks (length loose) b.endings
    → s2 ≡ s1 ++ states_line states → Adds s2 (ShowsFirst loose events (first_that (codes "comes to rest")) b.endings.at_rest.first) s3
    → Adds s3 (ShowsFirst loose events (first_that (codes "is still going")) b.endings.going.first) s4 → Adds s4 (ShowsFinds loose events b.finds) s5 → s6 ≡ s5 ++ outcomes → Reports loose events upto ticks b s6
reported loose events upto ticks b states s0 s1 s2 s3 s4 s5 s6 outcomes is0 is1 is2 h3 h4 h5 is6 = record {
  states = states;
  at_rest = h3.0;
  going = h4.0;
  finds = h5.0;
  outcomes = outcomes;
  whole = is6 ∙ ap (λ s. s ++ outcomes) (h5.1 ∙ ap (λ s. s ++ h5.0) (h4.1 ∙ ap (λ s. s ++ h4.0) (h3.1 ∙ ap (λ s. s ++ h3.0) (is2 ∙ ap (λ s. s ++ states_line states)
      (is1 ∙ ap (λ s. s ++ first_lines b.total upto ticks (length loose) b.endings) is0))))) ∙ simp append_assoc;
  shows_at_rest = h3.2;
  shows_going = h4.2;
  shows_finds = h5.2;
}
