-- The counts with one more schedule, and properties of the first schedule that has a property.
use Rattle.std.proofs.Common.{◌≡◌, ℕ, suc, ◌+◌, Bool, true, false, Option, Some, None, cond, List, [], ◌∷◌, ◌++◌, map, find, get_or, refl, ap, ap₂, sym, ◌∙◌, arith, length-append, add-zero, zero-add}
use Rattle.std.specs.Prelude.{IfSome, count_by}
use Rattle.std.specs.List.{All}
use Rattle.std.specs.Option.{option_or}
use Rattle.std.proofs.lemmas.List.{get_or_default}
use Rattle.std.proofs.lemmas.List.Sums.{sum_by-append}
use Rattle.std.proofs.lemmas.List.Folds.{find-append}
use Rattle.posix.specs.declared.event.Event.{Event}
use Rattle.posix.specs.Common.{World, Line}
use Rattle.schedules.specs.Families.{IsSchedule, Spots, family}
use Rattle.schedules.proofs.FamilyLemmas.{schedule_of}
use Rattle.schedules.specs.Schedules.{scheduled}
use Rattle.counting.specs.declared.ending.Ending.{Ending}
use Rattle.counting.specs.declared.ending.Ending.TheVariants.{Halted, AtRest, AwaitsAlarm, Going}
use Rattle.counting.specs.declared.ending.Endings.{Endings}
use Rattle.counting.specs.Tallies.{with_schedule_if}
use Rattle.counting.specs.Texts.{have_text, saw, after_run}
use Rattle.counting.specs.Endings.{ending_of, is_halted, is_at_rest, is_alarmed, is_going, with_ending}
use Rattle.counting.specs.Courses.{IsCourse, course_of}
use Rattle.counting.specs.Books.{with_run}
use Rattle.counting.specs.Counts.{tally_over, ends_so, shows, endings_over, find_over, book_over}
use Rattle.counting.proofs.CourseLemmas.{is_course}

-- ---- the first that has a property

-- A property of all schedules is one of the schedule that is found.
pub first_found : (P : Spots → Type 0) (p : Spots → Bool) (xs : List Spots) → All P xs → IfSome (find p xs) P
first_found P p [] h = tt
first_found P p (x ∷ xs) h = by (p x) (h 0 x (omega arith)) (first_found P p xs (λ k d l. h (suc k) d (omega (arith, l))))
  where
    by : (b : Bool) → P x → IfSome (find p xs) P → IfSome (cond b (Some x) (find p xs)) P
    by true here later = here
    by false here later = later

-- Each schedule of a family is one.
pub members : (upto ticks loose : ℕ) → All (IsSchedule upto ticks loose) (family upto ticks loose)
members upto ticks loose = λ k d l.
    schedule_of upto ticks loose (get_or (family upto ticks loose) k d) (k, l, get_or_default (family upto ticks loose) k (get_or (family upto ticks loose) k d) d l)

-- ---- one property

one_counts : (has : Spots → Bool) (ps : Spots) (b : Bool) → has ps ≡ b → count_by has (ps ∷ []) ≡ cond b 1 0
one_counts has ps b is = ap (λ c. 0 + cond c 1 0) is ∙ zero-add (cond b 1 0)

one_found : (has : Spots → Bool) (ps : Spots) (b : Bool) → has ps ≡ b → find has (ps ∷ []) ≡ cond b (Some ps) None
one_found has ps b is = ap (λ c. cond c (Some ps) None) is

first_more : (o : Option Spots) (b : Bool) (ps : Spots) (n : ℕ) → record { count = n + cond b 1 0; first = option_or o (cond b (Some ps) None) } ≡ with_schedule_if b ps (record { count = n; first = o })
first_more (Some p) true ps n = refl
first_more None true ps n = refl
first_more (Some p) false ps n = ap (λ m. record { count = m; first = Some p }) (add-zero n)
first_more None false ps n = ap (λ m. record { count = m; first = None }) (add-zero n)

pub tally_more : (has : Spots → Bool) (done : List Spots) (ps : Spots) (b : Bool) → has ps ≡ b → tally_over has (done ++ ps ∷ []) ≡ with_schedule_if b ps (tally_over has done)
tally_more has done ps b is =
    ap₂ (λ n o. record { count = n; first = o })
    (sum_by-append (λ (qs : Spots). cond (has qs) 1 0) done (ps ∷ []) ∙ ap (λ n. count_by has done + n) (one_counts has ps b is))
    (find-append has done (ps ∷ []) ∙ ap (λ o. option_or (find has done) o) (one_found has ps b is))
    ∙ first_more (find has done) b ps (count_by has done)

-- ---- all

endings_more : (world : World) (loose events : List Event) (done : List Spots) (ps : Spots) (e : Ending) → e ≡ ending_of (course_of world loose events ps).last
    → endings_over world loose events (done ++ ps ∷ []) ≡ with_ending e ps (endings_over world loose events done)
endings_more world loose events done ps e is =
    let halted = tally_more (ends_so is_halted world loose events) done ps (is_halted e) (ap is_halted (sym is)) in
    let at_rest = tally_more (ends_so is_at_rest world loose events) done ps (is_at_rest e) (ap is_at_rest (sym is)) in
    let alarmed = tally_more (ends_so is_alarmed world loose events) done ps (is_alarmed e) (ap is_alarmed (sym is)) in
    let going = tally_more (ends_so is_going world loose events) done ps (is_going e) (ap is_going (sym is)) in
    rw (halted, at_rest, alarmed, going) (counted e (endings_over world loose events done))
  where
    counted : (e : Ending) (o : Endings) → record { halted = with_schedule_if (is_halted e) ps o.halted; at_rest = with_schedule_if (is_at_rest e) ps o.at_rest; alarmed = with_schedule_if (is_alarmed e) ps o.alarmed; going = with_schedule_if (is_going e) ps o.going } ≡ with_ending e ps o
    counted Halted o = refl
    counted AtRest o = refl
    counted AwaitsAlarm o = refl
    counted Going o = refl

finds_more : (world : World) (loose events : List Event) (done : List Spots) (ps : Spots) (lines : List Line) → lines ≡ (course_of world loose events ps).lines → (texts : List (List ℕ))
    → map (find_over world loose events (done ++ ps ∷ [])) texts ≡ map (after_run ps) (map (saw lines) (map (find_over world loose events done) texts))
finds_more world loose events done ps lines is [] = refl
finds_more world loose events done ps lines is (text ∷ texts) =
    ap₂ (λ f fs. f ∷ fs)
    (ap (λ t. record { text = text; is_there = false; tally = t }) (tally_more (shows text world loose events) done ps (have_text text lines) (ap (have_text text) (sym is))))
    (finds_more world loose events done ps lines is texts)

pub book_more : (world : World) (loose events : List Event) (texts : List (List ℕ)) (done : List Spots) (ps : Spots) (lines : List Line) (e : Ending) → IsCourse world (scheduled loose events ps) lines e
    → book_over world loose events texts (done ++ ps ∷ []) ≡ with_run lines e ps (book_over world loose events texts done)
book_more world loose events texts done ps lines e c =
    let same = is_course world loose events ps lines e c in
    rw (endings_more world loose events done ps e same.1, finds_more world loose events done ps lines same.0 texts, length-append done (ps ∷ [])) refl
