-- Runs with all memory granted, and the lines that they add.
use Rattle.std.proofs.Common.{Result, Ok, Err, OnOk, ◌≡◌, ℕ, ◌+◌, Bool, true, false, ◌||◌, List, [], ◌∷◌, ◌++◌, refl, ap, ap₂, sym, subst, ◌∙◌}
use Rattle.std.specs.List.{list_any}
use Rattle.std.specs.Result.{IfOk}
use Rattle.std.proofs.lemmas.List.Folds.{list_any-append, list_any_at}
use Rattle.posix.specs.declared.event.Event.{Event}
use Rattle.posix.specs.declared.entry.Entry.{Entry}
use Rattle.posix.specs.declared.entry.Entry.TheVariants.{NoMemory}
use Rattle.posix.specs.Common.{Line, numbered, State, World, boot, next, RunsFrom}
use Rattle.laws.specs.Memory.{EntriesGrantAll}
use Rattle.laws.proofs.MemoryLemmas.{step_determined, true_grants}
use Rattle.schedules.specs.Families.{Spots}
use Rattle.schedules.specs.Schedules.{scheduled}
use Rattle.counting.specs.declared.ending.Ending.{Ending}
use Rattle.life.specs.declared.noted_bursts.Note.{Note}
use Rattle.kernel.specs.Steps.{noted_lines}
use Rattle.counting.specs.Endings.{ending_of}
use Rattle.counting.specs.AddLaws.{added_then}
use Rattle.counting.specs.Courses.{Adds, AddsGranted, Course, IsCourse, course_from, course_of, denies_memory, one_denies_memory}

-- ---- with all memory granted

-- Then the run is that of the definitions.

pub denies_by_entries : (k : ℕ) (entries : List Entry) → one_denies_memory (numbered k entries) ≡ list_any denies_memory entries
denies_by_entries k [] = refl
denies_by_entries k (e ∷ es) = ap (λ b. denies_memory e || b) (denies_by_entries k es)

parts_grant : (ls ms : List Line) → one_denies_memory (ls ++ ms) ≡ false → (one_denies_memory ls ≡ false) × (one_denies_memory ms ≡ false)
parts_grant ls ms none = both (one_denies_memory ls) (one_denies_memory ms) (sym (list_any-append (λ (l : Line). denies_memory l.entry) ls ms) ∙ none)
  where
    both : (a b : Bool) → (a || b) ≡ false → (a ≡ false) × (b ≡ false)
    both false b p = (refl, p)
    both true b p = cc

entries_grant : (k : ℕ) (entries : List Entry) → one_denies_memory (numbered k entries) ≡ false → EntriesGrantAll entries
entries_grant k entries none p call c =
    let no = sym none ∙ denies_by_entries k entries ∙ list_any_at denies_memory entries c.0 (NoMemory p call) c.1 (ap denies_memory c.2) in absurd (cc)

pub granted_course : (k : ℕ) (s last : State) (events : List Event) (lines : List Line) → RunsFrom k s events lines last → one_denies_memory lines ≡ false → course_from k s events ≡ record { lines = lines; last = last }
granted_course k s last [] lines (none, same) all = ap₂ (λ ls (t : State). record { lines = ls; last = t }) (sym none) (sym same)
granted_course k s last (x ∷ xs) lines (mid, entries, rest, step, is, p) all =
    let o = next true s x in
    let parts = parts_grant (numbered k entries) rest (ap one_denies_memory (sym is) ∙ all) in
    let one = step_determined s mid o.state x entries o.entries step (record { granted = true; comes = refl }) (entries_grant k entries parts.0) (true_grants s x) in
    ap₂ (λ (es : List Entry) (t : State). let c = course_from (k + 1) t xs in record { lines = numbered k es ++ c.lines; last = c.last }) (sym one.0) (sym one.1)
    ∙ ap (λ (c : Course). record { lines = numbered k entries ++ c.lines; last = c.last }) (granted_course (k + 1) mid last xs rest p parts.1)
    ∙ ap (λ (ls : List Line). record { lines = ls; last = last }) (sym is)

pub is_course : (world : World) (loose events : List Event) (spots : Spots) (lines : List Line) (ending : Ending) → IsCourse world (scheduled loose events spots) lines ending
    → (lines ≡ (course_of world loose events spots).lines) × (ending ≡ ending_of (course_of world loose events spots).last)
unfolding course_of
is_course world loose events spots lines ending c =
    let same = granted_course 1 (boot world) c.last (scheduled loose events spots) c.adds.lines c.adds.run c.adds.holds.1 in
    (c.adds.holds.0 ∙ ap (λ (x : Course). x.lines) (sym same), c.ends ∙ ap (λ (x : Course). ending_of x.last) (sym same))

-- ---- lines that are added

notes_grant : (p : ℕ) (notes : List Note) → one_denies_memory (noted_lines p notes) ≡ false
notes_grant p [] = refl
notes_grant p (x ∷ xs) = notes_grant p xs

-- The notes are added, and then the entries.
pub both_added : (p : ℕ) (notes : List Note) (before mid after ls : List Line) → mid ≡ before ++ noted_lines p notes → after ≡ mid ++ ls → one_denies_memory ls ≡ false → AddsGranted before after (noted_lines p notes ++ ls)
both_added p notes before mid after ls first last granted = added_then before mid after (noted_lines p notes) ls (first, notes_grant p notes) (last, granted)

-- What is added to no lines from the start of a world is its course.
pub adds_course : {E : Type 0} (r : Result Ending E) (world : World) (k : ℕ) (old last : State) (events : List Event) (lines : List Line) → k ≡ 1 → old ≡ boot world →
    OnOk r (Adds k old events last [] lines) → IfOk r (λ ending. ending ≡ ending_of last) → IfOk r (λ ending. IsCourse world events lines ending)
adds_course (Ok ending) world k old last events lines first booted adds ends = record {
  last = last;
  adds = subst (λ (s : State). Adds 1 s events last [] lines) booted (subst (λ (n : ℕ). Adds n old events last [] lines) first adds);
  ends = ends;
}
adds_course (Err e) world k old last events lines first booted adds ends = tt

-- From two facts about a success follows a third.
pub on_ok_both : {T E : Type 0} (r : Result T E) (A B C : Type 0) → OnOk r A → OnOk r B → (A → B → C) → OnOk r C
on_ok_both (Ok x) A B C a b f = f a b
on_ok_both (Err x) A B C a b f = tt
