use Rattle.std.proofs.Common.{rules, ◌≡◌, ◌+◌, ◌<◌, ◌≤◌, ap, sym, ◌∙◌, arith, subst, cond, not, List, length, Option, Some, ℕ, Bool, true, false}
use Rattle.std.specs.Option.{IfSome, IsSome}
use Rattle.std.specs.Prelude.{count_by}
use Rattle.std.proofs.lemmas.List.Sums.{length-filter}
use Rattle.posix.specs.Common.{Process, is_living, is_zombie, State, IsRising, IsNext, left_of, next_above, lookup}
use Rattle.posix.proofs.WalkLemmas.{least_is_next, walk_at, walk_begins}
use Rattle.posix.proofs.PassingLemmas.{left_at_most}
use Rattle.posix.proofs.ResultLemmas.{there}
use Rattle.jobs.proofs.ReadLemmas.{fewer_after, left_less}
use Rattle.life.proofs.machine.Machine.census.Goals as goal
use Rattle.life.proofs.machine.Machine.census.Goals.{then-is_zombie, else-is_zombie}

-- counting begins with nothing counted
none_counted : (t : Process → Bool) (rs : List Process) (next : Option ℕ) → IsRising rs → ((p : ℕ) (r : Process) → lookup p rs ≡ Some r → 1 ≤ r.pid) → IsNext t 0 rs next → 0 + count_by t (left_of next rs) ≡ count_by t rs
none_counted t rs next up least i = omega (arith, length-filter t (left_of next rs), ap length (walk_begins t rs next up least i), length-filter t rs)

-- and goes on: the existing process p is counted if it passes, and then those left from the next one on
counted : (t : Process → Bool) (p : ℕ) (rs : List Process) → IsRising rs → (r : Process) → lookup p rs ≡ Some r → (now next : Option ℕ) → now ≡ Some p → IsNext t p rs next → (n total : ℕ) (b : Bool) → t r ≡ b
    → n + count_by t (left_of now rs) ≡ total → cond b (n + 1) n + count_by t (left_of next rs) ≡ total
counted t p rs up r e now next f i n total b h k =
    let all = ap (λ (o : Option ℕ). count_by t (left_of o rs)) f ∙ sym (length-filter t (left_of (Some p) rs)) ∙ ap length (walk_at t p rs up r e next i) in
    let rest = length-filter t (left_of next rs) in
    elim b as (λ b. t r ≡ b → cond b (n + 1) n + count_by t (left_of next rs) ≡ total) [
      | true ↦ λ h. let here = rw h at all in omega (arith, here, rest, k)
      | false ↦ λ h. let here = rw h at all in omega (arith, here, rest, k)
    ] h

pub loop-next-init : goal.loop-next-init
loop-next-init g c =
    let rs = c.args.self.now.state.processes in
    let i = c.next_after-next.ensures.looks.regular in
    let first : (t : Process → Bool) → IsNext t 0 rs c.next_after-next.result = λ t. subst (IsNext t 0 rs) (sym c.next_after-next.ensures.value) (least_is_next t 0 rs i.rising) in
    let few = left_at_most c.next_after-next.result rs in
    let there = (first is_living).there in
    let living = none_counted is_living rs _ i.rising (λ p r e. (i.bounded p r e).least) (first is_living) in
    let zombies = none_counted (λ r. is_zombie r.life) rs _ i.rising (λ p r e. (i.bounded p r e).least) (first (λ r. is_zombie r.life)) in
    search (rules, arith)

pub loop-next-smaller : goal.loop-next-smaller
loop-next-smaller g c =
    let above = least_is_next is_living c.in-Some.pid _ c.next_after-next-in-Some.ensures.looks.regular.rising in
    let after = subst (λ (o : Option ℕ). IfSome o (λ q. c.in-Some.pid < q)) (sym c.next_after-next-in-Some.ensures.value) above.above in
    fewer_after c.in-Some.pid (omega arith) _ _ c.in-Some.is after

pub loop-next-preserved : goal.loop-next-preserved
loop-next-preserved g c =
    let rs = c.args.self.now.state.processes in
    let p = c.in-Some.pid in
    let up = c.next_after-next.ensures.looks.regular.rising in
    let it = there (lookup p rs) (subst (λ (o : Option ℕ). IfSome o (λ q. IsSome (lookup q rs))) c.in-Some.is c.loop-next.invariant.there) in
    let value = c.next_after-next-in-Some.ensures.value ∙ ap (λ (s : State). next_above p s.processes) (c.is_zombie.ensures.finds.looks.same.state ∙ c.loop-next.invariant.same.state) in
    let after : (t : Process → Bool) → IsNext t p rs c.next_after-next-in-Some.result = λ t. subst (IsNext t p rs) (sym value) (least_is_next t p rs up) in
    let dead = sym (c.is_zombie.ensures.finds.value it.what (ap (λ (s : State). lookup p s.processes) c.loop-next.invariant.same.state ∙ it.found)) in
    let living = counted is_living p rs up it.what it.found c.loop-next.next c.next_after-next-in-Some.result c.in-Some.is (after is_living) c.loop-next.living in
    let zombies = counted (λ r. is_zombie r.life) p rs up it.what it.found c.loop-next.next c.next_after-next-in-Some.result c.in-Some.is (after (λ r. is_zombie r.life)) c.loop-next.zombies in
    let less = left_less p rs it.what c.next_after-next-in-Some.result it.found (after is_living).above in
    let left = ap (λ (o : Option ℕ). length (left_of o rs)) c.in-Some.is in
    let there = (after is_living).there in
    elim c.if-is_zombie.branch [
      | then-is_zombie w ↦
          let living = living _ false (ap not (dead ∙ w.if-is_zombie.true)) c.loop-next.invariant.living in
          let zombies = zombies _ true (dead ∙ w.if-is_zombie.true) c.loop-next.invariant.zombies in
          rw (w.living-is, w.zombies-is) (search (rules, arith))
      | else-is_zombie w ↦
          let living = living _ true (ap not (dead ∙ w.if-is_zombie.false)) c.loop-next.invariant.living in
          let zombies = zombies _ false (dead ∙ w.if-is_zombie.false) c.loop-next.invariant.zombies in
          rw (w.living-is, w.zombies-is) (search (rules, arith))
    ]
