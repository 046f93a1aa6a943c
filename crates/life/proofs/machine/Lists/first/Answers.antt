use Rattle.std.proofs.Common.{◌≡◌, ℕ, ap, sym, subst, ◌∙◌}
use Rattle.pidalloc.specs.Rows.{Pids, unborne_table, born_in, borne}
use Rattle.life.proofs.machine.Lists.first.Goals as goal

first_pids : (m : ℕ) (a b d : Pids) → a ≡ unborne_table m → b ≡ record a { sizes = b.sizes } → d ≡ born_in b 1 1 1 → d ≡ record (born_in (unborne_table m) 1 1 1) { sizes = d.sizes }
unfolding born_in borne
first_pids m a b d new rest bore =
    bore ∙ ap (λ (x : Pids). born_in x 1 1 1) (rest ∙ ap (λ (x : Pids). record x { sizes = b.sizes }) new)
    ∙ ap (λ sizes. record (born_in (unborne_table m) 1 1 1) { sizes = sizes }) (sym (ap (λ (x : Pids). x.sizes) bore))

pub returns-clause-pids : goal.returns-clause-pids
returns-clause-pids c = subst (λ (x : Pids). x ≡ record (born_in (unborne_table c.args.pidmax) 1 1 1) { sizes = x.sizes }) (sym c.pids-2.view_is) (first_pids _ _ _ _ c.new-pids.ensures.value c.in_ok-reserve.ensures.rest c.bear_all.ensures.value)
