use Rattle.showing.proofs.replay.Replay.restart.Goals as goal

pub returns-clause-reached : goal.returns-clause-reached
returns-clause-reached c = λ events. rw c.replace.ensures.after (c.in_ok-boot.ensures.reached events)
