-- Plurals of counted nouns.
use Rattle.std.specs.Prelude.{ℕ, ◌==◌, List, [], codes, if◌then◌else◌}

-- the plural ending `s`; nothing for a count of 1
abbrev pub plural : ℕ → List ℕ
plural count = if count == 1 then [] else codes "s"
