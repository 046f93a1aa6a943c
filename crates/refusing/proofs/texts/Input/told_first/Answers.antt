use Rattle.std.proofs.Common.{rules}
use Rattle.refusing.specs.Telling.{IsShownOf}
use Rattle.refusing.proofs.texts.Input.told_first.Goals as goal

pub returns : goal.returns
returns c =
    let told = c.match-consoles.told in
    let shown : IsShownOf c.args.fault c.args.self.now.given.items c.args.self.now.named.text.items told.shown = search rules in
    (told.shown, (told.why.items, told.note.items, told.section, shown, c.in_ok-printed.ensures), c.left_out.ensures)
