use Rattle.std.proofs.Common.{◌≡◌, ◌==◌, ◌&&◌, not, false, Some, None, refl, sym, ◌∙◌}
use Rattle.audit.specs.Records.{kept_by, record_in}
use Rattle.audit.proofs.HeirLemmas.{living_by, walk_begins, walk_gone, lives_at, walk_over}
use Rattle.posix.proofs.HeirLemmas.{nearest_here, nearest_on}
use Rattle.std.proofs.lemmas.Bool.{and_from, and_left, and_right}
use Rattle.audit.proofs.known.nearest_marked.Goals as goal
use Rattle.audit.proofs.known.nearest_marked.Goals.{else-life-via-then-life+else-ne, else-life-via-else-life}

pub loop-left-init : goal.loop-left-init
loop-left-init c = walk_begins c.args.records.now.entries c.args.pid c.requires

pub returns-in_default : goal.returns-in_default
returns-in_default c =
    let found : record_in c.args.records.now.entries c.number.result ≡ None = sym c.get.ensures.value ∙ sym c.copied.ensures ∙ c.in_default.is in
    sym (walk_gone c.args.records.now.entries c.args.pid c.loop-left.left c.loop-left.forebear c.number.result None c.loop-left-test.true c.number.ensures.value found refl) ∙ c.loop-left.invariant

pub returns-in_default-state : goal.returns-in_default-state
returns-in_default-state c =
    let found : record_in c.args.records.now.entries c.number.result ≡ Some c.in-Some.record = sym c.get.ensures.value ∙ sym c.copied.ensures ∙ c.in-Some.is in
    sym (walk_gone c.args.records.now.entries c.args.pid c.loop-left.left c.loop-left.forebear c.number.result (Some c.in-Some.record) c.loop-left-test.true c.number.ensures.value found (rw c.in_default-state.is refl)) ∙ c.loop-left.invariant

pub returns-then-ne : goal.returns-then-ne
returns-then-ne c =
    let f = c.args.records.now.entries in
    let life = c.in-Living.life in
    let found : record_in f c.number.result ≡ Some c.in-Some.record = sym c.get.ensures.value ∙ sym c.copied.ensures ∙ c.in-Some.is in
    sym (nearest_here (living_by (kept_by f)) c.args.pid c.loop-left.left c.loop-left.forebear (record { is_marked = life.is_marked; parent = c.in-Some.record.parent }) c.loop-left-test.true
    (lives_at f c.loop-left.forebear c.number.result c.in-Some.record life c.number.ensures.value found c.in-Living.is) (and_from life.is_marked (not (c.loop-left.forebear == c.args.pid)) c.if-life.true (sym c.ne.ensures ∙ c.if-ne.true)))
    ∙ c.loop-left.invariant

pub loop-left-preserved : goal.loop-left-preserved
loop-left-preserved c =
    let f = c.args.records.now.entries in
    let life = c.in-Living.life in
    let found : record_in f c.number.result ≡ Some c.in-Some.record = sym c.get.ensures.value ∙ sym c.copied.ensures ∙ c.in-Some.is in
    let unmarked : (life.is_marked && not (c.loop-left.forebear == c.args.pid)) ≡ false = elim c.else-life.branch [
      | else-life-via-then-life+else-ne w ↦ and_right life.is_marked (not (c.loop-left.forebear == c.args.pid)) (sym w.ne.ensures ∙ w.if-ne.false)
      | else-life-via-else-life w ↦ and_left life.is_marked (not (c.loop-left.forebear == c.args.pid)) w.if-life.false
    ] in
    sym (nearest_on (living_by (kept_by f)) c.args.pid c.loop-left.left c.loop-left.forebear (record { is_marked = life.is_marked; parent = c.in-Some.record.parent }) c.loop-left-test.true
    (lives_at f c.loop-left.forebear c.number.result c.in-Some.record life c.number.ensures.value found c.in-Living.is) unmarked)
    ∙ c.loop-left.invariant

pub returns : goal.returns
returns c = sym (walk_over c.args.records.now.entries c.args.pid c.loop-left.left c.loop-left.forebear c.loop-left-test.false) ∙ c.loop-left.invariant
