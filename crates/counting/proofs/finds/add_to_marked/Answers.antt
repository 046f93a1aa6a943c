use Rattle.std.proofs.Common.{◌<◌, ◌≤◌, ◌∙◌, Some, ap, ap₂, arith, length, slice_index_or, slice_set, sym}
use Rattle.counting.specs.Texts.{with_many}
use Rattle.counting.specs.Tallies.{TallyView}
use Rattle.counting.proofs.MarkLemmas.{behind_marks, marked_more, none_marked, past_more, unmarked_more}
use Rattle.counting.proofs.finds.add_to_marked.Goals as goal
use Rattle.counting.proofs.finds.add_to_marked.Goals.{then-mark+then-number-finds+in_ok-add_many, else-mark, else-mark-via-then-mark+else-number-finds, else-mark-via-else-mark}

pub loop-number-init : goal.loop-number-init
loop-number-init c = none_marked _ c.args.marks.now c.args.finds.now

pub loop-number-preserved : goal.loop-number-preserved
loop-number-preserved c =
    let t : TallyView = record { count = c.args.count.now; first = Some c.args.spots.now } in
    let i = c.loop-number.number in
    let marks = c.args.marks.now in
    let finds = c.args.finds.now in
    elim c.if-mark.branch [
      | then-mark+then-number-finds+in_ok-add_many w ↦
          let within : i < length finds = omega (arith, w.if-number-finds.true, c.loop-number.auto.finds) in
          let f = w.index-finds-number.result in
          let same = w.index-finds-number.is ∙ ap (λ fs. slice_index_or fs i f) c.loop-number.invariant ∙ behind_marks t marks finds i f in
          w.finds-is ∙ ap₂ (λ fs x. slice_set fs i x) c.loop-number.invariant (w.in_ok-add_many.ensures ∙ ap (λ x. with_many t x) (sym w.index-finds-number.is)) ∙ marked_more t marks finds i f within w.if-mark.true same
      | else-mark w ↦ elim w.else-mark.branch [
        | else-mark-via-then-mark+else-number-finds v ↦
            let past : length finds ≤ i = omega (arith, v.if-number-finds.false, c.loop-number.auto.finds) in
            w.finds-is ∙ c.loop-number.invariant ∙ past_more t marks finds i past
        | else-mark-via-else-mark v ↦ w.finds-is ∙ c.loop-number.invariant ∙ unmarked_more t marks finds i v.if-mark.false
      ]
    ]
