use Rattle.std.proofs.Common.{◌≡◌, ◌++◌, [], Bool, length}
use Rattle.std.specs.Prelude.{◌||◌}
use Rattle.std.specs.List.{list_any}
use Rattle.text.specs.Words.{words}
use Rattle.naming.specs.Keys.{is_no_key, keys_from}
use Rattle.naming.specs.Lines.{IsOneLine, IsToldIf}
use Rattle.naming.proofs.KeyLemmas.{front_of, keys_of}
use Rattle.naming.proofs.key_line.key_line.Given as goal

abbrev pub invariant-loop-separators : goal.invariant-loop-separators
invariant-loop-separators l = record {
  items : l.text.items ++ keys_from [] l.rest ≡ front_of l.fn.line ++ keys_from [] (keys_of l.fn.line);
  text : IsOneLine l.fn.line → IsOneLine l.text.items;
  rest : IsOneLine l.fn.line → IsOneLine l.rest;
  -- `refused` is true if a word so far is rejected.
  told : (refused : Bool) × IsToldIf refused l.fn.told l.told × ((refused || list_any is_no_key (words l.rest)) ≡ list_any is_no_key (words (keys_of l.fn.line)));
}

abbrev pub decreases-loop-separators : goal.decreases-loop-separators
decreases-loop-separators l = length l.rest
