-- The schedules of nodes are counted, node by node.
use Rattle.std.proofs.Common.{◌≡◌, ℕ, Bool, Option, List, [], ◌∷◌, ◌++◌, map, ap, ap₂, sym, ◌∙◌}
use Rattle.posix.specs.declared.event.Event.{Event}
use Rattle.posix.specs.Common.{Line, State}
use Rattle.counting.specs.declared.ending.Ending.{Ending}
use Rattle.counting.specs.Books.{BookView}
use Rattle.counting.specs.Courses.{Adds, Course, course_from}
use Rattle.counting.specs.Endings.{ending_of}
use Rattle.counting.specs.Texts.{marked}
use Rattle.counting.proofs.CourseLemmas.{granted_course}
use Rattle.merging.specs.declared.begun.Begun.{Begun}
use Rattle.merging.specs.Merging.{Point, counted_slots, with_slots}
use Rattle.merging.proofs.MergeLemmas.{entries_alike, last_alike, marked_by_entries}

-- ---- beginnings are counted

-- By how the run from their point ends, and the texts that its lines have.
pub counted_is : (texts : List (List ℕ)) (k : ℕ) (p : Point) (begun : List (Option Begun)) (events : List Event) (last : State) (lines : List Line) (ending : Ending) (marks : List Bool) (old new : BookView)
    → Adds k p.state events last [] lines → ending ≡ ending_of last → marks ≡ marked texts lines p.marks
    → new ≡ with_slots ending marks begun old → new ≡ counted_slots texts events p begun old
counted_is texts k p begun events last lines ending marks old new adds ends are is =
    let s = p.state in
    let same = granted_course k s last events adds.lines adds.run adds.holds.1 in
    let lasts : last ≡ (course_from 1 s events).last = sym (last_alike 1 k s events ∙ ap (λ (c : Course). c.last) same) in
    let entries : map (λ (l : Line). l.entry) lines ≡ map (λ (l : Line). l.entry) (course_from 1 s events).lines =
    ap (map (λ (l : Line). l.entry)) adds.holds.0 ∙ sym (entries_alike 1 k s events ∙ ap (λ (c : Course). map (λ (l : Line). l.entry) c.lines) same) in
    is
    ∙ ap₂ (λ (e : Ending) (ms : List Bool). with_slots e ms begun old)
    (ends ∙ ap ending_of lasts)
    (are ∙ marked_by_entries texts lines (course_from 1 s events).lines p.marks entries)

-- ---- all are counted, the last one first

counted_last : {X : Type 0} (one : X → BookView → BookView) (all : List X → BookView → BookView) → ((b : BookView) → all [] b ≡ b) → ((x : X) (xs : List X) (b : BookView) → all (x ∷ xs) b ≡ one x (all xs b))
    → (xs : List X) (x : X) (b : BookView) → all (xs ++ x ∷ []) b ≡ all xs (one x b)
counted_last one all none more [] x b = more x [] b ∙ ap (one x) (none b) ∙ sym (none (one x b))
counted_last one all none more (y ∷ xs) x b = more y (xs ++ x ∷ []) b ∙ ap (one y) (counted_last one all none more xs x b) ∙ sym (more y xs (one x b))

-- One more is counted, and removed.
pub counted_more : {X : Type 0} (one : X → BookView → BookView) (all : List X → BookView → BookView) → ((b : BookView) → all [] b ≡ b) → ((x : X) (xs : List X) (b : BookView) → all (x ∷ xs) b ≡ one x (all xs b))
    → (before rest : List X) (x : X) (old new whole : BookView) → before ≡ rest ++ x ∷ [] → new ≡ one x old → all before old ≡ whole → all rest new ≡ whole
counted_more one all none more before rest x old new whole is counted same =
    ap (all rest) counted ∙ sym (counted_last one all none more rest x old) ∙ ap (λ xs. all xs old) (sym is) ∙ same
