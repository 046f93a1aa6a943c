use Rattle.wording.proofs.prose.Prose.push_str.Goals as goal

pub returns : goal.returns
returns c = rw c.as_bytes.ensures.value at c.push_bytes.ensures
