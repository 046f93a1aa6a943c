use Rattle.std.proofs.Common.{◌∙◌, sym}
use Rattle.merging.proofs.StopLemmas.{stops_too}
use Rattle.merging.proofs.spreading.layer_after.Goals as goal

pub returns-in_err-give_all-clause-stop : goal.returns-in_err-give_all-clause-stop
returns-in_err-give_all-clause-stop c =
    stops_too c.args.search.now _ _ c.from_residual-in_err-give_all.result c.in_err-give_all.field-0.0 c.from_residual-in_err-give_all.ensures.1 (λ has. sym (c.in_ok-insert_all.ensures.tally has)) c.in_err-give_all.ensures.stop

pub returns-clause-tally : goal.returns-clause-tally
returns-clause-tally c = λ has. c.in_ok-give_all.ensures.tally has ∙ c.in_ok-insert_all.ensures.tally has
