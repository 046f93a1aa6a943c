use Rattle.std.proofs.Common.{◌∙◌, ap, rules, filter}
use Rattle.std.proofs.lemmas.Fn.{filter_same}
use Rattle.signal.proofs.QueueLemmas.{has_other}
use Rattle.signal.proofs.realtime_pool.RealtimePool.discard.Goals as goal

pub returns : goal.returns
returns c = filter_same _ (has_other c.args.sig) _ (λ x b f' k. search rules) _ _ c.retain.ensures.filtered ∙ ap (filter (has_other c.args.sig)) c.self.view_is
