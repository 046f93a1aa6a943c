use Rattle.std.proofs.Common.{◌≡◌, ◌++◌, List, ℕ, take}
use Rattle.std.specs.Prelude.{IsSome}
use Rattle.text.specs.EventTexts.{HasRead}
use Rattle.text.proofs.event_reader.EventReader.feed.Given as goal

abbrev pub invariant-loop-byte : goal.invariant-loop-byte
invariant-loop-byte l = record {
  read : (text : List ℕ) → HasRead text l.fn.self → HasRead (text ++ take l.byte-index l.piece) l.self;
  consoles : l.self.consoles ≡ l.fn.self.consoles;
  stays : IsSome l.fn.self.reading.fault → l.self ≡ l.fn.self;
}
