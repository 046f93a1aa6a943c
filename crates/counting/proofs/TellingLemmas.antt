-- A walk through a family, and the book of the schedules so far.
use Rattle.std.proofs.Common.{◌≡◌, ℕ, ◌+◌, ◌<◌, Bool, true, false, List, [], ◌∷◌, ◌++◌, length, ap, sym, ◌∙◌, arith, length-append, append_assoc}
use Rattle.posix.specs.declared.event.Event.{Event}
use Rattle.posix.specs.Common.{World, Line}
use Rattle.schedules.specs.Families.{Spots}
use Rattle.schedules.specs.Schedules.{scheduled}
use Rattle.schedules.specs.Walks.{Comes}
use Rattle.counting.specs.declared.ending.Ending.{Ending}
use Rattle.counting.specs.Books.{BookView, empty_book, with_run}
use Rattle.counting.specs.Counts.{book_over}
use Rattle.counting.specs.Courses.{IsCourse}
use Rattle.counting.proofs.CountLemmas.{book_more}

-- The walk is at a schedule of the list, and the book counts those before it.
pub record HasCome (all : List Spots) (spots : Spots) (told : List Spots → BookView) (book : BookView) : Type 0 where
  pub done : List Spots
  pub late : List Spots
  pub whole : all ≡ done ++ spots ∷ late
  pub tells : book ≡ told done

-- The walk is at a schedule, or the book counts all of them.
abbrev pub IsOnItsWay : Bool → List Spots → Spots → (List Spots → BookView) → BookView → Type 0
IsOnItsWay true all spots told book = HasCome all spots told book
IsOnItsWay false all spots told book = book ≡ told all

pub has_come : (b : Bool) (all : List Spots) (ps : Spots) (told : List Spots → BookView) (book : BookView) → b ≡ true → IsOnItsWay b all ps told book → HasCome all ps told book
has_come true all ps told book e h = h
has_come false all ps told book e h = cc

-- Before the last schedule, fewer are counted than there are.
pub fewer_told : (world : World) (loose events : List Event) (texts : List (List ℕ)) (all : List Spots) (ps : Spots) (book : BookView) → HasCome all ps (book_over world loose events texts) book → book.total < length all
fewer_told world loose events texts all ps book h =
    let told : book.total ≡ length h.done = ap (λ (b : BookView). b.total) h.tells in
    let size : length all ≡ length h.done + length (ps ∷ h.late) = ap length h.whole ∙ length-append h.done (ps ∷ h.late) in
    omega (arith, told, size)

pub first_come : (world : World) (loose events : List Event) (texts : List (List ℕ)) (all : List Spots) (ps : Spots) (book : BookView) → (rest : List Spots) × (all ≡ ps ∷ rest) → book ≡ empty_book texts
    → HasCome all ps (book_over world loose events texts) book
first_come world loose events texts all ps book begins is = record { done = []; late = begins.0; whole = begins.1; tells = is }

comes_on : (more : Bool) (all : List Spots) (ps next : Spots) (told : List Spots → BookView) (new : BookView) (done late : List Spots) → all ≡ done ++ ps ∷ late → new ≡ told (done ++ ps ∷ []) → Comes more next late
    → IsOnItsWay more all next told new
comes_on true all ps next told new done late whole is comes = record {
  done = done ++ ps ∷ [];
  late = comes.0;
  whole = whole ∙ ap (λ xs. done ++ ps ∷ xs) comes.1 ∙ sym (append_assoc done (ps ∷ []) (next ∷ comes.0));
  tells = is;
}
comes_on false all ps next told new done late whole is none = is ∙ ap told (sym (whole ∙ ap (λ xs. done ++ ps ∷ xs) none))

-- To the next schedule, after one was run.
pub goes_on : (world : World) (loose events : List Event) (texts : List (List ℕ)) (all : List Spots) (ps next : Spots) (book new : BookView) (lines : List Line) (ending : Ending) (more : Bool)
    → HasCome all ps (book_over world loose events texts) book → IsCourse world (scheduled loose events ps) lines ending → new ≡ with_run lines ending ps book
    → ((done late : List Spots) → all ≡ done ++ ps ∷ late → Comes more next late) → IsOnItsWay more all next (book_over world loose events texts) new
goes_on world loose events texts all ps next book new lines ending more h course is comes =
    comes_on more all ps next (book_over world loose events texts) new h.done h.late h.whole
    (is ∙ ap (with_run lines ending ps) h.tells ∙ sym (book_more world loose events texts h.done ps lines ending course))
    (comes h.done h.late h.whole)
