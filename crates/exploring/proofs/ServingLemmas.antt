-- What a status means.
use Rattle.std.proofs.Common.{Bor, ◌≡◌, ◌⊎◌, ◌∙◌, ℕ, zero, suc, ◌+◌, ◌<◌, [], ◌∷◌, map, get_or, slice_get, Bool, true, false, Option, Some, None, List, length, refl, ap, sym, subst, arith, inl, inr, Result, Ok, Err}
use Rattle.std.specs.Prelude.{◌||◌, All, IsErrAnd, IsSomeAnd}
use Rattle.posix.specs.declared.event.Event.{Event}
use Rattle.posix.specs.Common.{World}
use Rattle.inputs.specs.Reads.{AreRead, Contents}
use Rattle.exploring.specs.declared.serving.Failure.{Failure}
use Rattle.exploring.specs.declared.serving.Failure.TheVariants as failure
use Rattle.counting.specs.Books.{BookView}
use Rattle.counting.specs.Samples.{CanBeShown, IsShownByNone}
use Rattle.trace.specs.Sinks.{BreaksOff, Seen, TakesAll}
use Rattle.exploring.specs.declared.words.Written.{Written}
use Rattle.exploring.specs.Reports.{IsAsFor}
use Rattle.exploring.specs.Serving.{IsExplored, OneIsUnmatchable, Means, answer_of, book_asked, is_told, schedules_of, status_of}
use Rattle.exploring.specs.Words.{Asked, Parted, Put, are_run, asked_by_parts, can_be_put, family_asked, loose_asked, states_asked, ticks_asked, upto_asked, written_asked}

pub means_explored : {S : Type 0} (contents : Contents) (a : Asked) (old new : S) (before after : Seen) (told : Bool) → IsExplored contents a told (TakesAll before after)
    → Means contents (Some a) old new before after (answer_of (Ok told))
means_explored contents a old new before after false h = record { done = λ e. h; told = λ e. absurd (omega (arith, e)); refused = λ e. absurd (omega (arith, e)); other_words = λ e. absurd (omega (arith, e)); cut_short = λ e. absurd (omega (arith, e)) }
means_explored contents a old new before after true h = record { done = λ e. absurd (omega (arith, e)); told = λ e. h; refused = λ e. absurd (omega (arith, e)); other_words = λ e. absurd (omega (arith, e)); cut_short = λ e. absurd (omega (arith, e)) }

means_cut_short : {S : Type 0} (contents : Contents) (asked : Option Asked) (old new : S) (before after : Seen) (status : ℕ) → status ≡ 3
    → (new ≡ old) ⊎ IsSomeAnd asked (λ a. (told : Bool) × IsExplored contents a told (BreaksOff before after)) → Means contents asked old new before after status
means_cut_short contents asked old new before after status is h = record { done = λ e. absurd (omega (arith, e, is)); told = λ e. absurd (omega (arith, e, is)); refused = λ e. absurd (omega (arith, e, is)); other_words = λ e. absurd (omega (arith, e, is)); cut_short = λ e. h }

-- Memory ran out.
pub means_memory : {S : Type 0} (contents : Contents) (asked : Option Asked) (old : S) (before after : Seen) (r : Result Bool Failure) → IsErrAnd r (λ why. why ≡ failure.Memory)
    → Means contents asked old old before after (answer_of r)
means_memory contents asked old before after (Ok told) h = absurd h
means_memory contents asked old before after (Err why) h = rw h (means_cut_short contents asked old old before after 3 refl (inl refl))

-- Writing failed after all runs.
pub means_unwritten : {S : Type 0} (contents : Contents) (a : Asked) (old new : S) (before after : Seen) (told : Bool) (r : Result Bool Failure) → IsErrAnd r (λ why. why ≡ failure.Write)
    → IsExplored contents a told (BreaksOff before after) → Means contents (Some a) old new before after (answer_of r)
means_unwritten contents a old new before after told (Ok other) h explored = absurd h
means_unwritten contents a old new before after told (Err why) h explored = rw h (means_cut_short contents (Some a) old new before after 3 refl (inr (told, explored)))

-- The separated arguments and the status are known.
pub means_alike : {S : Type 0} (contents : Contents) (p q : Parted) (old new : S) (before after : Seen) (status known : ℕ) → p ≡ q → status ≡ known
    → Means contents (asked_by_parts p) old new before after known → Means contents (asked_by_parts q) old new before after status
means_alike contents p q old new before after status known same is h =
    subst (λ n. Means contents (asked_by_parts q) old new before after n) (sym is) (subst (λ x. Means contents (asked_by_parts x) old new before after known) same h)

-- ---- what is inserted

pub in_range : (a : Asked) (consoles n : ℕ) (p : Put) (states : ℕ) → ticks_asked a.ticks ≡ Some p.ticks → upto_asked n a.upto ≡ Some p.upto → states_asked a.states ≡ Some states
    → loose_asked consoles a.anywhere ≡ Some p.loose → can_be_put (a.all || a.outcomes) p.upto (length p.loose) ≡ true
    → are_run a.all a.outcomes (length (schedules_of p)) (n + (p.ticks + length p.loose)) ≡ true → family_asked a consoles n ≡ Some p
in_range a consoles n p states ticks_are upto_is states_are loose_are put run = rw (ticks_are, upto_is, states_are, loose_are, put, run) refl

-- A word isn't an event.
pub no_event : (a : Asked) (consoles n ticks upto states : ℕ) → ticks_asked a.ticks ≡ Some ticks → upto_asked n a.upto ≡ Some upto → states_asked a.states ≡ Some states
    → loose_asked consoles a.anywhere ≡ None → family_asked a consoles n ≡ None
no_event a consoles n ticks upto states ticks_are upto_is states_are none = rw (ticks_are, upto_is, states_are, none) refl

-- The loose events can't be inserted.
pub no_place : (a : Asked) (consoles n : ℕ) (p : Put) (states : ℕ) → ticks_asked a.ticks ≡ Some p.ticks → upto_asked n a.upto ≡ Some p.upto → states_asked a.states ≡ Some states
    → loose_asked consoles a.anywhere ≡ Some p.loose → can_be_put (a.all || a.outcomes) p.upto (length p.loose) ≡ false → family_asked a consoles n ≡ None
no_place a consoles n p states ticks_are upto_is states_are loose_are put = rw (ticks_are, upto_is, states_are, loose_are, put) refl

-- There are too many schedules.
pub too_many : (a : Asked) (consoles n : ℕ) (p : Put) (states : ℕ) → ticks_asked a.ticks ≡ Some p.ticks → upto_asked n a.upto ≡ Some p.upto → states_asked a.states ≡ Some states
    → loose_asked consoles a.anywhere ≡ Some p.loose → can_be_put (a.all || a.outcomes) p.upto (length p.loose) ≡ true
    → are_run a.all a.outcomes (length (schedules_of p)) (n + (p.ticks + length p.loose)) ≡ false → family_asked a consoles n ≡ None
too_many a consoles n p states ticks_are upto_is states_are loose_are put run = rw (ticks_are, upto_is, states_are, loose_are, put, run) refl

-- A value is out of range, or memory ran out.
pub means_refused : {S : Type 0} (contents : Contents) (a : Asked) (old : S) (before after : Seen) (world : World) (events : List Event) (r : Result Bool Failure) (e : Failure) (A : Type 0)
    → IsErrAnd r (λ why. why ≡ e) → AreRead contents (a.world, a.events) world events → (A → family_asked a world.consoles (length events) ≡ None) → (status_of e ≡ 3) ⊎ ((status_of e ≡ 2) × A)
    → Means contents (Some a) old old before after (answer_of r)
means_refused contents a old before after world events (Ok told) e A h read none why = absurd h
means_refused contents a old before after world events (Err f) e A h read none (inl three) = means_cut_short contents (Some a) old old before after (status_of f) (ap status_of h ∙ three) (inl refl)
means_refused contents a old before after world events (Err f) e A h read none (inr two) = by (status_of f) (ap status_of h ∙ two.0)
  where
    by : (status : ℕ) → status ≡ 2 → Means contents (Some a) old old before after status
    by status is = record {
      done = λ e. absurd (omega (arith, e, is));
      told = λ e. absurd (omega (arith, e, is));
      refused = λ e. absurd (omega (arith, e, is));
      other_words = λ e. (inr (inr (inr (world, events, read, none two.1))), refl);
      cut_short = λ e. absurd (omega (arith, e, is));
    }

-- ---- texts that no line can match

is_there : (texts : List (Bor (List ℕ))) (i : ℕ) (d : Bor (List ℕ)) → i < length texts → slice_get (map (λ t. t.now) texts) i ≡ Some (get_or texts i d).now
is_there [] i d l = absurd (omega (arith, l))
is_there (t ∷ texts) zero d l = refl
is_there (t ∷ texts) (suc i) d l = is_there texts i d (omega (arith, l))

pub unmatchable_here : (texts : List (Bor (List ℕ))) (i : ℕ) (d : Bor (List ℕ)) → i < length texts → IsShownByNone (get_or texts i d).now → OneIsUnmatchable (map (λ t. t.now) texts)
unmatchable_here texts i d l none = (i, (get_or texts i d).now, is_there texts i d l, none)

-- One of the texts was rejected, or memory ran out.
pub means_unmatchable : {S : Type 0} (contents : Contents) (a : Asked) (old : S) (before after : Seen) (r : Result Bool Failure) (e : Failure) → IsErrAnd r (λ why. why ≡ e)
    → (status_of e ≡ 3) ⊎ ((status_of e ≡ 2) × OneIsUnmatchable a.finds) → Means contents (Some a) old old before after (answer_of r)
means_unmatchable contents a old before after (Ok told) e h why = absurd h
means_unmatchable contents a old before after (Err f) e h (inl three) = means_cut_short contents (Some a) old old before after (status_of f) (ap status_of h ∙ three) (inl refl)
means_unmatchable contents a old before after (Err f) e h (inr two) = by (status_of f) (ap status_of h ∙ two.0)
  where
    by : (status : ℕ) → status ≡ 2 → Means contents (Some a) old old before after status
    by status is = record {
      done = λ e. absurd (omega (arith, e, is));
      told = λ e. absurd (omega (arith, e, is));
      refused = λ e. absurd (omega (arith, e, is));
      other_words = λ e. (inr (inr (inl two.1)), refl);
      cut_short = λ e. absurd (omega (arith, e, is));
    }

-- All schedules of the family were run, and the text that is asked for was written.
pub explored : (contents : Contents) (a : Asked) (world : World) (events : List Event) (p : Put) (states : ℕ) (written : Written) (book : BookView) (told : Bool) (text : List ℕ) (IsPut : List ℕ → Type 0)
    → AreRead contents (a.world, a.events) world events → All CanBeShown a.finds → ticks_asked a.ticks ≡ Some p.ticks → upto_asked (length events) a.upto ≡ Some p.upto → states_asked a.states ≡ Some states
    → loose_asked world.consoles a.anywhere ≡ Some p.loose → can_be_put (a.all || a.outcomes) p.upto (length p.loose) ≡ true
    → are_run a.all a.outcomes (length (schedules_of p)) (length events + (p.ticks + length p.loose)) ≡ true → book ≡ book_asked world events a.finds p
    → told ≡ is_told a.must_halt book → written_asked a.write ≡ Some written → IsAsFor written p.loose events p.upto p.ticks book text → IsPut text → IsExplored contents a told IsPut
explored contents a world events p states written book told text IsPut read finds ticks_are upto_is states_are loose_are put_in run is answer asked is_as_asked put = record {
  world = world;
  events = events;
  put_in = p;
  written = written;
  read = read;
  finds = finds;
  in_range = in_range a world.consoles (length events) p states ticks_are upto_is states_are loose_are put_in run;
  answer = answer ∙ ap (is_told a.must_halt) is;
  asked = asked;
  text = text;
  is_as_asked = subst (λ b. IsAsFor written p.loose events p.upto p.ticks b text) is is_as_asked;
  put = put;
}
