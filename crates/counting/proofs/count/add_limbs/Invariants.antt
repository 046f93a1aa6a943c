use Rattle.std.proofs.Common.{◌≡◌, ◌+◌, ◌-◌, ◌*◌, ◌^◌, ◌<◌, ◌≤◌, ℕ, drop, length, slice_index}
use Rattle.counting.specs.Numbers.{AreBelowBase, base, number_of}
use Rattle.counting.proofs.count.add_limbs.Given as goal

-- The sum up to this place, and the carry into it.
abbrev pub invariant-loop-place : goal.invariant-loop-place
invariant-loop-place l = record {
  sum : number_of l.limbs.items + base ^ l.place * (l.carry + number_of (drop l.place l.others)) ≡ number_of l.fn.limbs.items + number_of l.others + l.fn.carry;
  len : length l.limbs.items ≡ l.len;
  below : AreBelowBase l.limbs.items;
  rest : (k : ℕ) → l.place ≤ k → slice_index l.limbs.items k ≡ slice_index l.initial.limbs.items k;
  top : 0 < l.place → slice_index l.initial.limbs.items (l.place - 1) + slice_index l.others (l.place - 1) ≤ slice_index l.limbs.items (l.place - 1) + base * l.carry;
  carry : l.carry ≤ 1;
}
