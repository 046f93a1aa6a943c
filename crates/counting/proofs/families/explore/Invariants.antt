use Rattle.std.proofs.Common.{◌≡◌, ◌+◌, ◌-◌, cond, map}
use Rattle.schedules.specs.Families.{family}
use Rattle.counting.specs.Counts.{book_over}
use Rattle.counting.proofs.TellingLemmas.{IsOnItsWay}
use Rattle.counting.proofs.families.explore.Given as goal

abbrev pub invariant-loop-is_more : goal.invariant-loop-is_more
invariant-loop-is_more g l = record {
  way : IsOnItsWay l.is_more (family l.family.upto l.family.ticks 0) l.schedule.places (book_over l.family.world.now l.family.loose.now l.family.events.now (map (λ t. t.now) l.texts)) l.book;
  upto : l.schedule.upto ≡ l.family.upto;
  ticks : l.schedule.ticks ≡ l.family.ticks;
}

abbrev pub decreases-loop-is_more : goal.decreases-loop-is_more
decreases-loop-is_more g l = cond l.is_more (l.size - l.book.total + 1) 0
