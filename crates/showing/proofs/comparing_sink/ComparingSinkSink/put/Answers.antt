use Rattle.std.proofs.Common.{rules, ◌≡◌, ◌<◌, None, length, ltb-true, sym}
use Rattle.showing.proofs.ComparisonLemmas.{took_other, took_same}
use Rattle.showing.proofs.comparing_sink.ComparingSinkSink.put.Goals as goal

pub returns-in-Some-clause-taken : goal.returns-in-Some-clause-taken
returns-in-Some-clause-taken c =
    let none : c.args.self.now.other ≡ None = search rules in
    let same = c.count_same-same in
    let within : same.result < length c.args.bytes.now = ltb-true _ _ (sym c.in-Some.ensures.lookup.0) in
    took_other c.args.self.now.text.now c.args.bytes.now c.args.self.now.same same.result c.in-Some.byte.now c.args.self.now.other none c.args.self.now.within same.ensures.of_one
    same.ensures.same within c.in-Some.ensures.lookup.1

pub returns-in-None-clause-taken : goal.returns-in-None-clause-taken
returns-in-None-clause-taken c =
    let none : c.args.self.now.other ≡ None = search rules in
    let same = c.count_same-same in
    took_same c.args.self.now.text.now c.args.bytes.now c.args.self.now.same same.result c.args.self.now.other none c.args.self.now.within same.ensures.of_one same.ensures.same
