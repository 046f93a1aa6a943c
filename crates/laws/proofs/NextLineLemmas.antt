-- Lines that agree with a state, and one line more.
use Rattle.std.proofs.Common.{◌≡◌, ℕ, ◌+◌, ◌≤◌, Bool, true, false, cond, List, [], ◌∷◌, ◌++◌, length, Option, Some, None, is_some, is_none, refl, ap, sym, ◌∙◌, arith, subst}
use Rattle.std.specs.Prelude.{count_by}
use Rattle.std.proofs.lemmas.List.Sums.{length-filter, sum_by-append}
use Rattle.std.proofs.lemmas.List.Filters.{length-filter_both}
use Rattle.std.proofs.lemmas.Bool.{cases_Bool}
use Rattle.std.proofs.lemmas.Bool.Decides.{nat_tests}
use Rattle.posix.specs.declared.entry.Entry.{Entry}
use Rattle.posix.specs.Common.{Process, is_zombie, is_living, State, process, Line, line, reports_end}
use Rattle.laws.specs.Lives.{LastOf, last_line, born_by}
use Rattle.laws.specs.Keeping.{Alive, Dead, Kept, NeverBorn, Lives, Died, Phase, kept_of, kept_after, lives_now, fault_of, unless_fault, number_fault, place_fault, birth_fault, report_fault, last_number, phase_of, phase_after}
use Rattle.laws.specs.Agree.{AgreeOn, is_birth, AgreeIn}
use Rattle.laws.proofs.KeptLemmas.{last_where_more, kept_more}
use Rattle.laws.proofs.TestLemmas.{tests_are_laws}
use Rattle.laws.proofs.LawfulLemmas.{laws_more}

-- ---- counts

-- the living and the zombies are all
pub counted_all : (rs : List Process) → count_by is_living rs + count_by (λ r. is_zombie r.life) rs ≡ length rs
counted_all rs =
    let two = length-filter_both is_living (λ (r : Process). is_zombie r.life) (λ r. grind (arith, cases_Bool)) rs in
    let one = length-filter is_living rs in
    let other = length-filter (λ (r : Process). is_zombie r.life) rs in
    omega (arith, one, other, two)

-- one more is counted by itself
pub counted_more : {A : Type 0} (t : A → Bool) (xs : List A) (x : A) → count_by t (xs ++ x ∷ []) ≡ count_by t xs + count_by t (x ∷ [])
counted_more t xs x = sum_by-append (λ y. cond (t y) 1 0) xs (x ∷ [])

-- ---- a record and what is kept

-- who lives is in a life
pub lives_kept : (k : Kept) (r : Process) → AgreeOn k (Some r) → is_zombie r.life ≡ false → lives_now k ≡ true
lives_kept NeverBorn r h living = absurd (h)
lives_kept (Lives a) r h living = refl
lives_kept (Died d) r h living = let no : true ≡ false = sym (ap is_zombie h.life) ∙ living in absurd (cc)

-- an ID that no process has is in no life
pub free_kept : (k : Kept) → AgreeOn k None → lives_now k ≡ false
free_kept NeverBorn h = refl
free_kept (Lives a) h = absurd (h)
free_kept (Died d) h = refl

-- a zombie is a life that ended
pub dead_kept : (k : Kept) (r : Process) → AgreeOn k (Some r) → is_zombie r.life ≡ true → (d : Dead) × (k ≡ Died d)
dead_kept NeverBorn r h dead = absurd (h)
dead_kept (Lives a) r h dead = let no : true ≡ false = sym dead ∙ h.living in absurd (cc)
dead_kept (Died d) r h dead = (d, refl)

-- and a living one a life that didn't
pub living_kept_as : (k : Kept) (r : Process) → AgreeOn k (Some r) → is_zombie r.life ≡ false → (a : Alive) × (k ≡ Lives a)
living_kept_as NeverBorn r h living = absurd (h)
living_kept_as (Lives a) r h living = (a, refl)
living_kept_as (Died d) r h living = let no : true ≡ false = sym (ap is_zombie h.life) ∙ living in absurd (cc)

-- ---- one line more

unless_none : (a b : Option ℕ) → a ≡ None → b ≡ None → unless_fault a b ≡ None
unless_none a b h k = rw (h, k) refl

number_rises : (n last k : ℕ) → last ≤ k → n ≡ k → number_fault last n ≡ None
number_rises n last k h e = grind (arith, nat_tests, h, e)

-- What one line more has to come with, so that the lines agree with the next state.
pub record Says (phase : Phase) (lines : List Line) (entry : Entry) (s t : State) : Type 0 where
  pub place : place_fault (kept_of lines) phase entry ≡ None
  pub birth : birth_fault (kept_of lines) (born_by entry) ≡ None
  pub report : report_fault (kept_of lines) entry ≡ None
  pub records : (p : ℕ) → AgreeOn (kept_after (kept_of lines) entry p) (process t p)
  pub births : t.births ≡ s.births + count_by (λ e. is_some (born_by e)) (entry ∷ [])
  pub total : length t.processes + t.dropped + count_by reports_end (entry ∷ []) ≡ length s.processes + s.dropped + count_by (λ e. is_some (born_by e)) (entry ∷ [])

no_fault : (phase : Phase) (lines : List Line) (k : ℕ) (entry : Entry) (s t : State) → AgreeIn phase lines k s → Says phase lines entry s t
    → fault_of (kept_of lines) (last_number (last_line lines)) (phase_of (last_line lines)) (line k entry) ≡ None
unfolding fault_of
no_fault phase lines k entry s t h e = rw h.phase (unless_none _ _ (number_rises k (last_number (last_line lines)) k h.number refl) (unless_none _ _ e.place (unless_none _ _ e.birth e.report)))

-- so that they do
pub agree_says : (phase : Phase) (lines : List Line) (k : ℕ) (entry : Entry) (s t : State) → AgreeIn phase lines k s → Says phase lines entry s t
    → AgreeIn (phase_after entry) (lines ++ line k entry ∷ []) k t
agree_says phase lines k entry s t h e =
    let l = line k entry in
    let none : fault_of (kept_of lines) (last_number (last_line lines)) (phase_of (last_line lines)) l ≡ None = no_fault phase lines k entry s t h e in
    let last : last_line (lines ++ l ∷ []) ≡ Some (record { it = l; after = [] }) = last_where_more (λ x. true) lines l in
    let births = counted_more is_birth lines l in
    let reports = counted_more (λ (l : Line). reports_end l.entry) lines l in
    let before = counted_all s.processes in
    let now = counted_all t.processes in
    record {
      laws = laws_more lines l h.laws (sym (tests_are_laws lines l) ∙ ap is_none none);
      number = subst (λ (o : Option (LastOf Line)). last_number o ≤ k) (sym last) (omega arith);
      records = λ p. subst (λ (m : Kept). AgreeOn m (process t p)) (sym (kept_more lines l p)) (e.records p);
      born = omega (arith, births, h.born, e.births);
      counts = omega (arith, reports, before, now, h.counts, e.births, e.total);
      phase = ap phase_of last;
    }
