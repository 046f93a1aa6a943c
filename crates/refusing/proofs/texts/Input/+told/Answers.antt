use Rattle.std.proofs.Common.{◌<◌, arith, rules}
use Rattle.refusing.specs.Telling.{ShowsLine}
use Rattle.refusing.proofs.FaultLemmas.{alone, behind}
use Rattle.refusing.proofs.texts.Input.+told.Goals as goal

pub returns-in_default : goal.returns-in_default
returns-in_default t c = let told = c.in_ok-out.ensures in alone _ _ _ _ _ _ told.0 _ told.1

pub returns-then-others-eq0 : goal.returns-then-others-eq0
returns-then-others-eq0 t c = let told = c.in_ok-out.ensures in alone _ _ _ _ _ _ told.0 _ told.1

pub returns-in_default-2 : goal.returns-in_default-2
returns-in_default-2 t c = let told = c.in_ok-out.ensures in alone _ _ _ _ _ _ told.0 _ told.1

pub returns : goal.returns
returns t c =
    let some : 0 < c.args.others = omega (arith, c.if-others-eq0.false) in
    let left = c.in_ok-left.left in
    let told = c.in_ok-out.ensures in
    let shows : ShowsLine told.0 c.in-Some.number = search rules in
    behind c.args.others c.args.consoles c.args.self.now.name.now c.args.self.now.given.items c.args.self.now.named.text.items c.args.fault told.0 _ c.in-Some.number
    left.name.now left.given.items left.named.text.items left.named.told.items c.in-Some-2.next c.in_ok-out.out.items c.in_ok-more.more.items c.as_slice-2.result.now
    some told.1 shows c.in_ok-left.ensures.name c.in_ok-left.ensures.given c.in_ok-left.ensures.named
    (search rules) c.in_ok-more.ensures c.in_ok-extend_from_slice.ensures.items c.as_slice-2.ensures.value
