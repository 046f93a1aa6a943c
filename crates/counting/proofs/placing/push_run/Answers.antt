use Rattle.std.proofs.Common.{ℕ, arith, rules, refl, ap, subst, sym, ◌≡◌, ◌≤◌, ◌+◌, ◌-◌, ◌++◌, length, replicate}
use Rattle.schedules.specs.Families.{RisesFrom, place_of}
use Rattle.schedules.specs.Schedules.{from_front}
use Rattle.counting.proofs.PlacingLemmas.{put_length, rest_put, spot_put}
use Rattle.counting.proofs.placing.push_run.Goals as goal

pub loop-spot-init : goal.loop-spot-init
loop-spot-init c =
    let all : c.args.run.count ≡ c.args.start + c.args.run.count - c.args.start = omega arith in
    record {
      rising = λ high r. r;
      from = omega arith;
      within = omega arith;
      len = omega arith;
      list = λ behind. ap (λ n. c.args.list.now ++ from_front c.args.loose.now c.args.start (replicate n c.args.run.event ++ behind) c.args.spots.now) (sym all);
    }

pub loop-spot-preserved : goal.loop-spot-preserved
loop-spot-preserved c =
    let l = c.loop-spot in
    let loose = length c.args.loose.now in
    let spot = c.in-Some.spot in
    let later = c.in-Some.later.now in
    let place = c.place_of-place.result in
    let first = c.in-Some.ensures.some in
    let at : place ≡ place_of loose spot = c.place_of-place.ensures in
    let parts = λ (high : ℕ) (rising : RisesFrom loose c.args.start high c.args.spots.now). subst (RisesFrom loose l.done high) first.0 (l.invariant.rising high rising) in
    let from : l.done ≤ place = let known = (parts c.requires.rising.0 c.requires.rising.1).0 in omega (arith, known, at) in
    let within : place ≤ c.args.start + c.args.run.count = omega (arith, at, first.1, c.count.ensures) in
    let longer = put_length (place - l.done) c.args.run.event c.put_at.result l.list c.push.new.list c.push-in-Some.new.list (search rules) (search rules) in
    record {
      rising = λ high rising. subst (λ p. RisesFrom loose p high later) (sym at) (parts high rising).2;
      from = omega (arith, l.invariant.from, from);
      within = within;
      len = omega (arith, longer, ap length first.0, l.invariant.len, from);
      list = λ behind.
          spot_put c.args.loose.now l.done (c.args.start + c.args.run.count) place c.args.run.event c.put_at.result l.list c.push.new.list c.push-in-Some.new.list _ behind spot later l.rest.now
          first.0 at from within c.put_at.ensures (search rules) (search rules) (l.invariant.list behind);
    }

pub returns-clause-rising : goal.returns-clause-rising
returns-clause-rising c = λ high rising.
    let l = c.loop-spot in
    rw c.count.ensures at (c.in_default.ensures.none refl l.done high (l.invariant.rising high rising))

pub returns-clause-list : goal.returns-clause-list
returns-clause-list c = λ behind.
    let l = c.loop-spot in
    let high = c.requires.rising.0 in
    rest_put c.args.loose.now l.done (c.args.start + c.args.run.count) high c.args.run.event l.list c.push-2.new.list _ behind l.rest.now l.invariant.within
    (rw c.count.ensures at (c.in_default.ensures.none refl l.done high (l.invariant.rising high c.requires.rising.1))) (search rules) (l.invariant.list behind)
