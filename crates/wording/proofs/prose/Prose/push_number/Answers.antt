use Rattle.wording.proofs.prose.Prose.push_number.Goals as goal

pub returns : goal.returns
returns g c = rw c.format.ensures.text at c.push_str.ensures
