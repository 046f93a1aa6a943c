use Rattle.std.proofs.Common.{◌≡◌, arith, false, length}
use Rattle.std.specs.Prelude.{◌==◌}
use Rattle.std.proofs.lemmas.Bool.Decides.{nat_tests}
use Rattle.exploring.proofs.ReportLemmas.{size_alone, size_with}
use Rattle.exploring.proofs.report.write_size.Goals as goal

pub returns-then-loose-eq0 : goal.returns-then-loose-eq0
returns-then-loose-eq0 c =
    let f = c.args.family.now in
    size_alone _ _ c.args.size.now f.upto f.ticks (length f.loose.now) _ _ _ _ c.writeln.result c.if-loose-eq0.true c.in_ok-size.ensures c.plural_behind-s.ensures c.plural-t.ensures c.plural-e.ensures c.writeln.ensures.bytes

pub returns : goal.returns
returns c =
    let f = c.args.family.now in
    let some : (length f.loose.now == 0) ≡ false = grind (arith, nat_tests, c.if-loose-eq0.false) in
    size_with _ _ _ c.args.size.now f.upto f.ticks (length f.loose.now) _ _ _ _ _ c.writeln-2.result some c.in_ok-size.ensures c.plural_behind-s.ensures c.plural-t.ensures c.plural-l.ensures c.plural-e.ensures
    c.in_ok-write.ensures.bytes c.writeln-2.ensures.bytes
