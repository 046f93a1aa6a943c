use Rattle.wording.proofs.ProseLemmas.{adds_if}
use Rattle.wording.proofs.prose.Prose.push_bytes.Goals as goal

pub returns-then-self : goal.returns-then-self
returns-then-self c = rw (← c.self.view_is)
    (adds_if _ c.args.bytes.now (record { text = c.self.inside.text.items; is_whole = c.self.inside.is_whole })
    (record { text = c.extend_from_slice.new.self.items; is_whole = c.is_ok-self-inside.result }) c.if-self.true c.extend_from_slice.ensures.items c.is_ok-self-inside.ensures.value)
