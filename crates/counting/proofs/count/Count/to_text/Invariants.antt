use Rattle.std.proofs.Common.{◌≡◌, ◌+◌, ◌*◌, ◌^◌, ◌<◌, ℕ, length}
use Rattle.std.specs.String.{string_bytes}
use Rattle.counting.specs.Numbers.{AreBelowBase, base, in_decimal, number_of}
use Rattle.counting.proofs.count.Count.to_text.Given as goal

-- The text is the part of the number above the limbs that are left.
abbrev pub invariant-loop-limb : goal.invariant-loop-limb
invariant-loop-limb l =
    let rest = l.limb-iterator.iter.rest.now in
    record {
      part : ℕ;
      some : 0 < part;
      text : string_bytes l.text ≡ in_decimal part;
      left : AreBelowBase rest;
      whole : l.self ≡ l.low + base * (number_of rest + base ^ length rest * part);
    }
