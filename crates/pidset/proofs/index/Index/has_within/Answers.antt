use Rattle.std.proofs.Common.{◌≡◌, ◌≤◌, ◌∙◌, ℕ, false, sym, ap, List, Option, Some, None, filter, slice_get, nat_le, nat_lt}
use Rattle.std.specs.Option.{option_copied, option_map_or}
use Rattle.pidset.specs.declared.index.Pair.{Pair}
use Rattle.pidset.specs.Indexes.{ArePairs, IndexView, has_within, pair_number}
use Rattle.pidset.proofs.PairLemmas.{within_first}
use Rattle.pidset.proofs.index.Index.has_within.Goals as goal

-- what follows from the first pair whose key isn't above
told : (low high : ℕ) (from : Pair) (items pairs seen : List Pair) (first : Option Pair) → high ≤ 18446744073709551615 → ArePairs pairs → from ≡ record { key = high; pid = 0 } → items ≡ pairs → seen ≡ pairs
    → first ≡ slice_get (filter (λ y. nat_lt (pair_number from) (pair_number y)) items) 0 → option_map_or (λ (x : Pair). nat_le low x.key) first false ≡ has_within low high seen
told low high from items pairs seen first most are is same view read = rw (read, is, same, view) (sym (within_first low high pairs most are))

pub returns-in-Some : goal.returns-in-Some
returns-in-Some c =
    told c.args.low c.args.high c.keyed.result c.as_slice.result.now c.self.inside.pairs.items _ (Some c.in-Some.pair.now) c.keyed.ensures.range.1 c.self.invariant c.keyed.ensures.is c.as_slice.ensures (sym (ap (λ (s : IndexView). s.pairs) c.self.view_is)) (sym (ap option_copied c.in-Some.is) ∙ c.next_above.ensures)

pub returns-in-None : goal.returns-in-None
returns-in-None c =
    told c.args.low c.args.high c.keyed.result c.as_slice.result.now c.self.inside.pairs.items _ None c.keyed.ensures.range.1 c.self.invariant c.keyed.ensures.is c.as_slice.ensures (sym (ap (λ (s : IndexView). s.pairs) c.self.view_is)) (sym (ap option_copied c.in-None.is) ∙ c.next_above.ensures)
