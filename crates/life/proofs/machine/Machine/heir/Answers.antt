use Rattle.std.proofs.Common.{rules, ◌≡◌, ◌∙◌, ◌&&◌, ◌==◌, ◌-◌, not, ap, sym, arith, subst, refl, false}
use Rattle.posix.specs.Common.{IsRegular}
use Rattle.std.proofs.lemmas.Bool.{and_from, and_left, and_right, not-true}
use Rattle.jobs.proofs.SnapshotLemmas.{differs, equals}
use Rattle.life.proofs.HeirLemmas.{heir_unmarked, walk_from, walk_over, first_regular, slots_least, nobody_at, looked_at, step_gone, step_dead, step_here, step_on, step_read}
use Rattle.life.proofs.machine.Machine.heir.Goals as goal
use Rattle.life.proofs.machine.Machine.heir.Goals.{then-eq-via-then-eq, then-eq-via-else-eq+then-nobody_marked, else-it-via-then-it+else-ne-2, else-it-via-else-it, then-loop-left-test+else-ne, else-loop-left-test}

pub returns-then-eq-clause-heir : goal.returns-then-eq-clause-heir
returns-then-eq-clause-heir g c = elim c.then-eq.branch [
  | then-eq-via-then-eq w ↦ rw (sym c.eq.ensures ∙ w.if-eq.true) refl
  | then-eq-via-else-eq+then-nobody_marked w ↦ heir_unmarked c.args.self.now.state.processes c.args.pid (not-true _ (sym w.nobody_marked.ensures ∙ w.if-nobody_marked.true))
]

pub returns-in_default-clause-heir : goal.returns-in_default-clause-heir
returns-in_default-clause-heir g c =
    let l = c.loop-left in
    let s = c.args.self.now.state in
    sym (step_gone s c.args.pid l.left l.forebear c.loop-left-test.true (nobody_at s l.self.state l.forebear c.snapshot.result c.snapshot.ensures.value l.invariant.same.state c.in_default.is)) ∙ l.invariant.walk

pub returns-in_default-clause-visits : goal.returns-in_default-clause-visits
returns-in_default-clause-visits g c =
    let l = c.loop-left in
    omega (arith, c.snapshot.ensures.looks.visits, l.invariant.read, slots_least c.args.self.now.state.processes c.args.pid l.left l.forebear c.loop-left-test.true (differs l.forebear 1 (sym c.ne.ensures ∙ c.if-ne.true)))

pub returns-in-Zombie-clause-heir : goal.returns-in-Zombie-clause-heir
returns-in-Zombie-clause-heir g c =
    let l = c.loop-left in
    let s = c.args.self.now.state in
    sym (step_dead s c.args.pid l.left l.forebear c.in-Zombie.field-0 c.in-Some.it c.loop-left-test.true (looked_at s l.self.state l.forebear c.snapshot.result c.in-Some.it c.snapshot.ensures.value l.invariant.same.state c.in-Some.is) c.in-Zombie.is) ∙ l.invariant.walk

pub returns-in-Zombie-clause-visits : goal.returns-in-Zombie-clause-visits
returns-in-Zombie-clause-visits g c =
    let l = c.loop-left in
    omega (arith, c.snapshot.ensures.looks.visits, l.invariant.read, slots_least c.args.self.now.state.processes c.args.pid l.left l.forebear c.loop-left-test.true (differs l.forebear 1 (sym c.ne.ensures ∙ c.if-ne.true)))

pub returns-then-ne-2 : goal.returns-then-ne-2
returns-then-ne-2 g c =
    let l = c.loop-left in
    let s = c.args.self.now.state in
    let looked = looked_at s l.self.state l.forebear c.snapshot.result c.in-Some.it c.snapshot.ensures.value l.invariant.same.state c.in-Some.is in
    let heir = sym (step_here s c.args.pid l.left l.forebear c.in-Some.it c.loop-left-test.true looked c.in_default-life.not-Zombie (and_from c.in-Some.it.is_subreaper (not (l.forebear == c.args.pid)) c.if-it.true (sym c.ne-then-it.ensures ∙ c.if-ne-2.true))) ∙ l.invariant.walk in
    let read = slots_least s.processes c.args.pid l.left l.forebear c.loop-left-test.true (differs l.forebear 1 (sym c.ne.ensures ∙ c.if-ne.true)) in
    search (rules, arith)

pub loop-left-preserved : goal.loop-left-preserved
loop-left-preserved g c =
    let l = c.loop-left in
    let s = c.args.self.now.state in
    let it = c.in-Some.it in
    let looked = looked_at s l.self.state l.forebear c.snapshot.result it c.snapshot.ensures.value l.invariant.same.state c.in-Some.is in
    let unmarked : (it.is_subreaper && not (l.forebear == c.args.pid)) ≡ false = elim c.else-it.branch [
      | else-it-via-then-it+else-ne-2 w ↦ and_right it.is_subreaper (not (l.forebear == c.args.pid)) (sym w.ne-then-it.ensures ∙ w.if-ne-2.false)
      | else-it-via-else-it w ↦ and_left it.is_subreaper (not (l.forebear == c.args.pid)) w.if-it.false
    ] in
    let walk = sym (step_on s c.args.pid l.left l.forebear it c.loop-left-test.true looked c.in_default-life.not-Zombie unmarked) ∙ l.invariant.walk in
    let regular = subst IsRegular l.invariant.same.state c.snapshot.ensures.looks.regular in
    let first : it.parent ≡ 1 → walk_from s.processes c.args.pid (l.left - 1) 1 ≡ 1 = λ e. first_regular s regular c.args.pid (l.left - 1) in
    let more = step_read s c.args.pid l.left l.forebear it c.loop-left-test.true (differs l.forebear 1 (sym c.ne.ensures ∙ c.if-ne.true)) looked c.in_default-life.not-Zombie unmarked in
    search (rules, arith)

pub returns-clause-heir : goal.returns-clause-heir
returns-clause-heir g c =
    let l = c.loop-left in
    let rs = c.args.self.now.state.processes in
    elim c.loop-left-test.branch [
      | then-loop-left-test+else-ne w ↦ let one = equals l.forebear 1 (sym w.ne.ensures ∙ w.if-ne.false) in sym (l.invariant.first one) ∙ ap (walk_from rs c.args.pid l.left) (sym one) ∙ l.invariant.walk
      | else-loop-left-test w ↦ sym (walk_over rs c.args.pid l.left l.forebear w.loop-left-test.false) ∙ l.invariant.walk
    ]
