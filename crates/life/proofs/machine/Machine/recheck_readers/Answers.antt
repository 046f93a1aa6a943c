use Rattle.std.proofs.Common.{◌≡◌, ⊎_elim, ◌∙◌, ap, sym, subst, refl, arith, ◌<◌, Option, Some, None, ℕ, List, true}
use Rattle.std.specs.Option.{IfSome}
use Rattle.std.proofs.lemmas.Bool.{or_left, or_right, or_cases, eqb-true}
use Rattle.posix.specs.Common.{is_in}
use Rattle.pidset.specs.declared.index.Pair.{Pair}
use Rattle.pidset.specs.Indexes.{IsNextPair, is_pair_in}
use Rattle.pidset.specs.Numbers.{with_number}
use Rattle.pidset.proofs.NumberLemmas.{in_with}
use Rattle.life.specs.Machines.{MachineView}
use Rattle.life.proofs.ReaderLemmas.{next_left, still_known, none_waits}
use Rattle.life.proofs.machine.Machine.recheck_readers.Goals as goal
use Rattle.jobs.proofs.ReadLemmas.{fewer_after}

above : {k : ℕ} {pairs : List Pair} (n : ℕ) (next : Option ℕ) → IsNextPair k n pairs next → IfSome next (λ q. n < q)
above n None h = tt
above n (Some q) h = (h.there q refl).0

pub loop-next-init : goal.loop-next-init
loop-next-init g c = record {
  rest = refl;
  those = λ q e. or_left _ _ e;
  fewer = λ q e. e;
  first = c.next_reader-next.ensures.is;
  watched = c.next_reader-next.ensures.watched;
  regular = c.next_reader-next.ensures.regular;
}

pub loop-next-smaller : goal.loop-next-smaller
loop-next-smaller g c = fewer_after c.in-Some.pid (omega arith) _ _ c.in-Some.is (above c.in-Some.pid _ c.next_reader-next-in-Some.ensures.is)

pub recheck_reader-requires : goal.recheck_reader-requires
recheck_reader-requires g c = (c.loop-next.invariant.first.there c.in-Some.pid c.in-Some.is).1

pub loop-next-preserved : goal.loop-next-preserved
loop-next-preserved g c =
    let i = c.loop-next.invariant in
    let did = c.recheck_reader.ensures in
    let on = (i.first.there c.in-Some.pid c.in-Some.is).1 in
    record {
      rest = did.rest ∙ ap (λ (m : MachineView). record m { to_recheck = with_number c.in-Some.pid c.loop-next.self.to_recheck; readers = c.recheck_reader.new.self.readers }) i.rest
          ∙ ap (λ ns. record (c.args.self.now) { to_recheck = ns; readers = c.recheck_reader.new.self.readers }) (sym (ap (λ (m : MachineView). m.to_recheck) did.rest));
      those = λ q e. ⊎_elim
          (λ mine. or_right _ _ (i.fewer q (subst (λ n. is_pair_in c.args.session n c.loop-next.self.readers.pairs ≡ true) (eqb-true c.in-Some.pid q mine) on)))
          (λ was. i.those q was)
          (or_cases _ _ (sym (ap (λ (m : MachineView). is_in q m.to_recheck) did.rest ∙ in_with q c.in-Some.pid _) ∙ e));
      fewer = λ q e. i.fewer q (still_known c.args.session c.in-Some.pid q _ _ did.forgotten e).1;
      first = next_left c.args.session c.in-Some.pid _ (subst (IsNextPair c.args.session 0 c.loop-next.self.readers.pairs) c.in-Some.is i.first) did.forgotten c.next_reader-next-in-Some.ensures.is;
      watched = c.next_reader-next-in-Some.ensures.watched;
      regular = c.next_reader-next-in-Some.ensures.regular;
    }

pub returns-clause-to_recheck : goal.returns-clause-to_recheck
returns-clause-to_recheck g c = none_waits _ c.args.session _ c.loop-next.invariant.regular c.loop-next.invariant.watched (subst (IsNextPair c.args.session 0 c.loop-next.self.readers.pairs) c.in_default.is c.loop-next.invariant.first)
