use Rattle.std.proofs.Common.{rules, arith, ◌≡◌, length, map, ap, ◌∙◌}
use Rattle.schedules.specs.Families.{family}
use Rattle.counting.specs.Counts.{book_over}
use Rattle.counting.proofs.TellingLemmas.{fewer_told, first_come, goes_on, has_come}
use Rattle.counting.proofs.families.explore.Goals as goal

pub loop-is_more-init : goal.loop-is_more-init
loop-is_more-init g c =
    let f = c.args.family.now in
    record {
      way = first_come f.world.now f.loose.now f.events.now (map (λ t. t.now) c.args.texts.now) (family f.upto f.ticks 0) c.first-schedule.result.places c.in_ok-book.book c.first-schedule.ensures.begins (search rules);
      upto = c.first-schedule.ensures.upto;
      ticks = c.first-schedule.ensures.ticks;
    }

pub run_schedule-requires : goal.run_schedule-requires
run_schedule-requires g c =
    let l = c.loop-is_more in
    let none : length c.args.family.now.loose.now ≡ 0 = ap length c.requires.none in
    rw (none, ← l.invariant.upto, ← l.invariant.ticks) c.places.ensures.are_of_family

pub add-requires : goal.add-requires
add-requires g c =
    let f = c.args.family.now in
    let l = c.loop-is_more in
    let none : length f.loose.now ≡ 0 = ap length c.requires.none in
    let size : c.args.size ≡ length (family f.upto f.ticks 0) = c.requires.size ∙ ap (λ n. length (family f.upto f.ticks n)) none in
    let texts = map (λ t. t.now) c.args.texts.now in
    let come = has_come l.is_more (family f.upto f.ticks 0) l.schedule.places (book_over f.world.now f.loose.now f.events.now texts) l.book (search rules) l.invariant.way in
    let fewer = fewer_told f.world.now f.loose.now f.events.now texts (family f.upto f.ticks 0) l.schedule.places l.book come in
    omega (arith, fewer, size)

pub loop-is_more-preserved : goal.loop-is_more-preserved
loop-is_more-preserved g c =
    let f = c.args.family.now in
    let l = c.loop-is_more in
    let texts = map (λ t. t.now) c.args.texts.now in
    let come = has_come l.is_more (family f.upto f.ticks 0) l.schedule.places (book_over f.world.now f.loose.now f.events.now texts) l.book (search rules) l.invariant.way in
    record {
      way = goes_on f.world.now f.loose.now f.events.now texts (family f.upto f.ticks 0) l.schedule.places c.next.new.self.places l.book c.add.new.self c.run_schedule.new.lines.items c.in_ok-ending.ending c.in_ok-is_more.is_more
          come
          (rw c.places.ensures.value at c.in_ok-ending.ensures)
          (rw c.places-in-loop-is_more.ensures.value at c.in_ok-add.ensures)
          (λ done late whole. c.in_ok-is_more.ensures.comes done late (rw (l.invariant.upto, l.invariant.ticks) whole));
      upto = c.in_ok-is_more.ensures.upto ∙ l.invariant.upto;
      ticks = c.in_ok-is_more.ensures.ticks ∙ l.invariant.ticks;
    }

pub returns : goal.returns
returns g c =
    let none : length c.args.family.now.loose.now ≡ 0 = ap length c.requires.none in
    rw none (search rules)
