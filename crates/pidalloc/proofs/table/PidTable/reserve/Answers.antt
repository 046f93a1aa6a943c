use Rattle.std.proofs.Common.{arith, refl}
use Rattle.std.proofs.lemmas.Result.{on_ok_weaker}
use Rattle.pidalloc.proofs.TableLemmas.{pids_rest, room_grows, room_where, rows_kept, table_kept}
use Rattle.pidalloc.proofs.table.PidTable.reserve.Goals as goal

pub invariant_of-self : goal.invariant_of-self
invariant_of-self c = table_kept _ _ _ _ _ _ _ _ c.self.invariant (λ n. refl) c.make_counts.ensures.same

pub invariant_of-self-2 : goal.invariant_of-self-2
invariant_of-self-2 c = table_kept _ _ _ _ _ _ _ _ c.self.invariant (rows_kept _ _ c.reserve.ensures.rows) c.make_counts.ensures.same

pub returns-in_err-make_counts-clause-grows : goal.returns-in_err-make_counts-clause-grows
returns-in_err-make_counts-clause-grows c = rw (← c.self.view_is) (room_grows c.self.inside.pidmax c.self.inside.rows c.self.inside.rows _ _ c.make_counts.ensures.grows (λ n here. here))

pub returns-in_err-make_counts-clause-rest : goal.returns-in_err-make_counts-clause-rest
returns-in_err-make_counts-clause-rest c = pids_rest _ _ _ _ _ _ _ c.self.view_is (λ n. refl)

pub returns-clause-room : goal.returns-clause-room
returns-clause-room c =
    let enough = c.in_ok-make_counts.ensures.enough in
    let page = c.page_of.ensures in
    on_ok_weaker c.reserve.result (room_where c.self.inside.pidmax c.args.pid c.reserve.new.self c.make_counts.new.counts.items (omega (arith, enough, page))) c.reserve.ensures.room

pub returns-clause-grows : goal.returns-clause-grows
returns-clause-grows c = rw (← c.self.view_is) (room_grows c.self.inside.pidmax c.self.inside.rows _ _ _ c.make_counts.ensures.grows c.reserve.ensures.grows)

pub returns-clause-rest : goal.returns-clause-rest
returns-clause-rest c = pids_rest _ _ _ _ _ _ _ c.self.view_is (rows_kept _ _ c.reserve.ensures.rows)
