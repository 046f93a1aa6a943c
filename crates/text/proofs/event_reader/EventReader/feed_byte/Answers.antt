use Rattle.std.proofs.Common.{◌≡◌, arith, length, ℕ, List, take, ◌∷◌, [], ◌++◌, sym, ap, ◌∙◌, ◌<◌}
use Rattle.std.proofs.lemmas.Bool.Decides.{nat_tests}
use Rattle.text.specs.EventTexts.{Progress}
use Rattle.text.proofs.ReaderLemmas.{kept, line_ended, byte_kept, take_full, take_room}
use Rattle.posix.proofs.ResultLemmas.{none_from}
use Rattle.text.proofs.event_reader.EventReader.feed_byte.Goals as goal

pub returns-then-is_some-clause-read : goal.returns-then-is_some-clause-read
returns-then-is_some-clause-read c = rw (← c.self.view_is) (λ text h. kept text c.args.byte _ (sym c.is_some.ensures ∙ c.if-is_some.true) h)

pub returns-then-byte-eq10-clause-read : goal.returns-then-byte-eq10-clause-read
returns-then-byte-eq10-clause-read c = λ text h.
    let fine = ap (λ (p : Progress). p.reading.fault) (sym c.self.view_is) ∙ none_from c.self.inside.fault (sym c.is_some.ensures ∙ c.if-is_some.false) in
    line_ended text c.args.byte c.args.self.now c.end_line.new.self (grind (arith, nat_tests)) fine c.end_line.ensures.consoles h c.end_line.ensures.ends

pub returns-then-is_full-clause-read : goal.returns-then-is_full-clause-read
returns-then-is_full-clause-read c =
    let fine = none_from c.self.inside.fault (sym c.is_some.ensures ∙ c.if-is_some.false) in
    rw (← c.self.view_is) (λ text h.
    byte_kept text c.args.byte _ c.self.inside.partial.items (grind (arith, nat_tests)) fine h
    (λ xs e. let full : length c.self.inside.partial.items ≡ 201 = grind (arith, nat_tests) in
    e ∙ sym (take_full 201 xs c.args.byte (ap length (sym e) ∙ full))))

pub returns-clause-read : goal.returns-clause-read
returns-clause-read c =
    let fine = none_from c.self.inside.fault (sym c.is_some.ensures ∙ c.if-is_some.false) in
    rw (← c.self.view_is) (λ text h.
    byte_kept text c.args.byte _ c.push.new.self.items (grind (arith, nat_tests)) fine h
    (λ xs e. let room : length c.self.inside.partial.items < 201 = grind (arith, nat_tests, c.is_full.ensures.fits) in
    let short : length (take 201 xs) < 201 = rw (← e) room in
    c.push.ensures.items ∙ ap (λ (ys : List ℕ). ys ++ c.args.byte ∷ []) e ∙ sym (take_room 201 xs c.args.byte short)))
