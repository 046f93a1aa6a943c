use Rattle.std.proofs.Common.{rules, refl, []}
use Rattle.posix.specs.Common.{news_told}
use Rattle.posix.proofs.RegularLemmas.{keeps_news_told, regular_change}
use Rattle.posix.proofs.MapLemmas.{length_changed}
use Rattle.posix.proofs.MemberLemmas.{in_none}
use Rattle.posix.proofs.ReportLemmas.{some_changed}
use Rattle.jobs.proofs.RunLemmas.{run_as, put_as, put_grouped}
use Rattle.life.proofs.FunnelLemmas.{machine_changed}
use Rattle.life.proofs.MoveLemmas.{told_put}
use Rattle.life.proofs.NewsLemmas.{touches_told, keeps_told}
use Rattle.life.proofs.RecheckLemmas.{listed_same}
use Rattle.life.proofs.machine.Machine.clear_news.Goals as goal

pub change_seen-requires-clause-grouped : goal.change_seen-requires-clause-grouped
change_seen-requires-clause-grouped g c = put_grouped _ _ (put_as c.args.pid _ news_told (λ r e. told_put r) (λ b d r k q. search rules))

pub invariant_of-self : goal.invariant_of-self
invariant_of-self g c =
    let i = c.self.invariant in
    rw (run_as news_told c.change_seen.ensures.run i.sound.regular.rising (λ b d r k q. search rules))
    (machine_changed _ _ _ _ _ c.args.pid news_told keeps_told (regular_change c.args.pid news_told _ keeps_news_told i.sound.regular) i refl
    (listed_same _ _ _ [] i.listed (touches_told _ c.args.pid i.sound.regular.rising) (refl, refl, λ q u e. e) (length_changed c.args.pid news_told _) (λ q e. some_changed c.args.pid q news_told keeps_told.pid _ e) (λ q t e. absurd (in_none q e))))

pub returns : goal.returns
returns g c = record {
  state = rw (run_as news_told c.change_seen.ensures.run c.self.invariant.sound.regular.rising (λ b d r k q. search rules), ← c.self.view_is) refl;
  to_recheck = search rules;
  foregrounds_unchecked = search rules;
  costs = let put = c.change_seen.ensures.put (put_as c.args.pid _ news_told (λ r e. told_put r) (λ b d r k q. search rules)) in search rules;
}
