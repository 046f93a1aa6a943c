-- The first schedules of tallies are schedules of the family.
use Rattle.std.proofs.Common.{◌≡◌, ℕ, List, length, sym, subst, get_or}
use Rattle.std.proofs.lemmas.List.Elements.{All-map}
use Rattle.posix.specs.declared.event.Event.{Event}
use Rattle.posix.specs.Common.{World}
use Rattle.schedules.specs.Families.{IsSchedule, family}
use Rattle.counting.specs.Books.{BookView}
use Rattle.counting.specs.Counts.{book_over, ends_so, find_over, shows}
use Rattle.counting.specs.Endings.{is_at_rest, is_going}
use Rattle.counting.proofs.CountLemmas.{first_found, members}
use Rattle.exploring.specs.Reports.{AreOfFamily, IsFirstOf}

pub of_family : (world : World) (loose events : List Event) (texts : List (List ℕ)) (upto ticks : ℕ) (book : BookView) → book ≡ book_over world loose events texts (family upto ticks (length loose))
    → AreOfFamily upto ticks (length loose) book
of_family world loose events texts upto ticks book is =
    let all = family upto ticks (length loose) in
    let each = members upto ticks (length loose) in
    subst (AreOfFamily upto ticks (length loose)) (sym is) (record {
      at_rest = first_found (IsSchedule upto ticks (length loose)) (ends_so is_at_rest world loose events) all each;
      going = first_found (IsSchedule upto ticks (length loose)) (ends_so is_going world loose events) all each;
      finds = All-map (λ f. IsFirstOf upto ticks (length loose) f.tally) (find_over world loose events all) texts
          (λ k d l. first_found (IsSchedule upto ticks (length loose)) (shows (get_or texts k d) world loose events) all each);
    })
