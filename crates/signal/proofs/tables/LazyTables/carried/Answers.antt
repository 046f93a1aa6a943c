use Rattle.std.proofs.Common.{◌≡◌, ◌-◌, ◌∙◌, ℕ, List, [], ◌∷◌, length, get_or, ap, sym, arith, rules}
use Rattle.posix.specs.Common.{from_kernel}
use Rattle.posix.specs.declared.process.Carried.{Carried}
use Rattle.signal.specs.SignalTables.{TablesView, nothing_carried, carried_or_blank}
use Rattle.signal.proofs.FieldLemmas.{same_read}
use Rattle.signal.proofs.tables.LazyTables.carried.Goals as goal

none : (ts : List (List Carried)) (i : ℕ) → length ts ≡ 0 → from_kernel ≡ get_or (carried_or_blank ts) i from_kernel
unfolding nothing_carried
none [] i e = sym (same_read 31 i from_kernel)
none (t ∷ ts) i e = absurd (omega (arith, e))

pub returns-then-is_empty : goal.returns-then-is_empty
returns-then-is_empty c =
    let blank : length c.self.inside.carried.items ≡ 0 = search rules in
    none c.self.inside.carried.items (c.args.sig - 1) blank ∙ ap (λ (v : TablesView). get_or v.carried (c.args.sig - 1) from_kernel) c.self.view_is
