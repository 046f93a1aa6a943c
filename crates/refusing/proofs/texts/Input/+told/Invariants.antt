use Rattle.refusing.proofs.texts.Input.+told.Given as goal

abbrev pub decreases-told : goal.decreases-told
decreases-told l = l.others
