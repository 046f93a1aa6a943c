use Rattle.std.proofs.Common.{◌≡◌, ◌≢◌, ◌-◌, ◌<◌, ◌∙◌, ◌==◌, ◌&&◌, ◌||◌, ℕ, refl, sym, ap, arith, subst, true, false, not, List, Option, Some, None, inl, inr}
use Rattle.std.specs.Option.{option_map_or}
use Rattle.std.proofs.lemmas.Bool.{eqb-true, eq-eqb, ne_eqb, cases_eq}
use Rattle.pidset.specs.declared.index.Pair.{Pair}
use Rattle.pidset.specs.Indexes.{ArePairsRekeyed, IsNextPair, is_pair_in}
use Rattle.pidset.proofs.PairLemmas.{child_range, none_left}
use Rattle.pidset.proofs.index.Index.rekey.Goals as goal

-- the process d was moved
record IsMoved (from to d : ℕ) (now new : List Pair) : Type 0 where
  left : (p : ℕ) → is_pair_in from p new ≡ (not (p == d) && is_pair_in from p now)
  others : (k p : ℕ) → k ≢ from → is_pair_in k p new ≡ (k == to && p == d || is_pair_in k p now)

moved : (from to d : ℕ) (now mid new : List Pair) → from ≢ to → ((k p : ℕ) → is_pair_in k p mid ≡ (not (k == from && p == d) && is_pair_in k p now)) → ((k p : ℕ) → is_pair_in k p new ≡ (k == to && p == d || is_pair_in k p mid)) → IsMoved from to d now new
moved from to d now mid new ne gone came = record {
  left = λ p. rw (came from p, ne_eqb from to ne, gone from p, eq-eqb from from refl) refl;
  others = λ k p other. rw (came k p, gone k p, ne_eqb k from other) refl;
}

moved_more : (from to d k p : ℕ) (old now new : List Pair) → IsMoved from to d now new → is_pair_in from d old ≡ true → k ≢ from → is_pair_in k p now ≡ (is_pair_in k p old || k == to && is_pair_in from p old && not (is_pair_in from p now))
    → is_pair_in k p new ≡ (is_pair_in k p old || k == to && is_pair_in from p old && not (is_pair_in from p new))
moved_more from to d k p old now new m here ne i = grind (arith, eqb-true, m.left p, m.others k p ne)

moved_all : (from to : ℕ) (old now : List Pair) → ((p : ℕ) → is_pair_in from p now ≡ false) → ((k p : ℕ) → k ≢ from → is_pair_in k p now ≡ (is_pair_in k p old || k == to && is_pair_in from p old && not (is_pair_in from p now))) → ArePairsRekeyed from to old now
moved_all from to old now none i k p = elim (cases_eq k from) [
  | inl e ↦ rw (eq-eqb k from e) (ap (λ n. is_pair_in n p now) e ∙ none p)
  | inr ne ↦ rw (ne_eqb k from ne) (grind (arith, i k p ne, none p))
]

-- the walk goes up
goes_up : (p n : ℕ) (pairs : List Pair) (next : Option ℕ) → IsNextPair p n pairs next → n < 4294967296 → option_map_or (λ c. 4294967296 - c) next 0 < 4294967296 - n
goes_up p n pairs None i l = omega (arith, l)
goes_up p n pairs (Some c) i l = let k = (i.there c refl).0 in omega (arith, k, l)

pub loop-next-init : goal.loop-next-init
loop-next-init c = record { room = refl; once = c.next-next.ensures.rising; among = λ p e. e; moved = λ k p ne. grind arith; next = c.next-next.ensures.next }

pub insert-requires-clause-room : goal.insert-requires-clause-room
insert-requires-clause-room c = λ out. c.remove.ensures.left (c.loop-next.invariant.next.there c.in-Some.pid c.in-Some.is).1

pub insert-requires-clause-pid : goal.insert-requires-clause-pid
insert-requires-clause-pid c = let l = (c.loop-next.invariant.next.there c.in-Some.pid c.in-Some.is).0 in omega (arith, l)

pub loop-next-smaller : goal.loop-next-smaller
loop-next-smaller c =
    let i = c.loop-next.invariant in
    let range = child_range c.loop-next.self.pairs i.once.within c.args.from c.in-Some.pid (i.next.there c.in-Some.pid c.in-Some.is).1 in
    rw c.in-Some.is (goes_up c.args.from c.in-Some.pid _ _ c.next-next-in-Some.ensures.next range.1)

pub loop-next-preserved : goal.loop-next-preserved
loop-next-preserved c =
    let i = c.loop-next.invariant in
    let here = (i.next.there c.in-Some.pid c.in-Some.is).1 in
    let m = moved c.args.from c.args.to c.in-Some.pid c.loop-next.self.pairs _ _ c.requires c.remove.ensures.pairs c.insert.ensures.pairs in
    let next = c.next-next-in-Some.ensures in
    record {
      room = c.insert.ensures.room ∙ c.remove.ensures.room ∙ i.room;
      once = next.rising;
      among = λ p e. i.among p (grind (arith, m.left p, e));
      moved = λ k p ne. moved_more c.args.from c.args.to c.in-Some.pid k p c.args.self.now.pairs c.loop-next.self.pairs _ m (i.among c.in-Some.pid here) ne (i.moved k p ne);
      next = record {
        there = λ p e. let j = next.next.there p e in (let l = j.0 in omega (arith, l), j.1);
        least = λ p e l.
            let k = i.next.least p (grind (arith, m.left p, e)) l in
            let first : Some c.in-Some.pid ≡ Some k.0 = sym c.in-Some.is ∙ k.1 in
            let same : c.in-Some.pid ≡ k.0 = cc in
            let low = k.2 in
            next.next.least p e (grind (arith, same, low, eq-eqb p c.in-Some.pid, m.left p, e));
      };
    }

pub returns : goal.returns
returns c =
    let i = c.loop-next.invariant in
    record {
      pairs = moved_all c.args.from c.args.to c.args.self.now.pairs _ (none_left c.args.from _ i.once (subst (IsNextPair c.args.from 0 _) c.in_default.is i.next)) i.moved;
      once = i.once;
      room = i.room;
    }
