use Rattle.std.proofs.Common.{◌≡◌, None, Some, ap, map, sym}
use Rattle.exploring.specs.Words.{loose_asked}
use Rattle.exploring.proofs.LooseLemmas.{loose_more, no_loose, told_word}
use Rattle.exploring.proofs.serving.events_of_words.Goals as goal

pub loop-word-init : goal.loop-word-init
loop-word-init c = ap Some (sym c.new-loose.ensures.items)

pub returns-in_err-event : goal.returns-in_err-event
returns-in_err-event c =
    told_word c.from_residual.result _ _ (loose_asked c.args.consoles (map (λ w. w.now) c.args.words.now) ≡ None) c.in_err-event.field-0.0 c.from_residual.ensures.1
    (no_loose c.args.consoles c.args.words.now c.loop-word.word-index _ c.loop-word-test.true) c.in_err-event.ensures

pub loop-word-preserved : goal.loop-word-preserved
loop-word-preserved c =
    loose_more c.args.consoles c.args.words.now c.loop-word.word-index _ c.loop-word.loose.items c.push.new.self.items c.in_ok-event.event _ c.loop-word-test.true c.if-is_err.ensures.negation
    c.loop-word.invariant c.in_ok-event.ensures c.push.ensures.items
