use Rattle.std.proofs.Common.{◌≡◌, List, ℕ, Bor, take}
use Rattle.std.specs.Prelude.{All, flat_map}
use Rattle.naming.specs.Lines.{IsOneLine}
use Rattle.naming.proofs.line.joined.Given as goal

abbrev pub invariant-loop-text : goal.invariant-loop-text
invariant-loop-text l = record {
  items : l.all.items ≡ flat_map (λ (t : Bor (List ℕ)). t.now) (take l.text-index l.texts);
  one_line : All (λ (t : Bor (List ℕ)). IsOneLine t.now) l.texts → IsOneLine l.all.items;
}
