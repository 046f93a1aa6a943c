use Rattle.std.proofs.Common.{◌≡◌, ◌∙◌, sym, subst, arith, refl}
use Rattle.pidset.specs.Indexes.{ArePairs}
use Rattle.life.proofs.TerminalLemmas.{AreNobodys, few_nobodys, nobodys_none, nobodys_more, terminals_first}
use Rattle.life.proofs.consoles.nobodys.Goals as goal

pub loop-console_index-init : goal.loop-console_index-init
loop-console_index-init c =
    let none = c.in_ok-reserve.ensures.pairs ∙ c.new-terminals.ensures.pairs in
    record { nobodys = nobodys_none _ none (subst ArePairs (sym c.in_ok-reserve.ensures.pairs) c.new-terminals.ensures.rising); room = let room = c.in_ok-reserve.ensures.room in omega (arith, room, c.from.ensures) }

pub insert-requires-clause-room : goal.insert-requires-clause-room
insert-requires-clause-room c = λ out.
    let few = few_nobodys _ _ c.loop-console_index.invariant.nobodys in
    let room = c.loop-console_index.invariant.room in
    omega (arith, few, room, c.loop-console_index-test.true, c.from-console_index-end.ensures)

pub loop-console_index-preserved : goal.loop-console_index-preserved
loop-console_index-preserved c = record {
  nobodys = nobodys_more _ _ _ _ _ c.loop-console_index.invariant.nobodys refl c.number_of.ensures c.insert.ensures.pairs c.insert.ensures.rising;
  room = let room = c.loop-console_index.invariant.room in omega (arith, room, c.insert.ensures.room);
}

pub returns : goal.returns
returns c =
    let all : c.loop-console_index.console_index ≡ c.args.count = omega (arith, c.loop-console_index-test.false, c.loop-console_index.auto.console_index-end, c.from-console_index-end.ensures) in
    terminals_first c.args.count _ c.requires (subst (λ n. AreNobodys n c.loop-console_index.terminals.pairs) all c.loop-console_index.invariant.nobodys)
