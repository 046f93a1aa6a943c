-- The memory of a process.
use Rattle.std.specs.Prelude.{◌-◌, ◌++◌, List, length, ℤ, pos, replicate}

-- Returns all 256 words; those that are not stored are 0.
abbrev pub words_of : List ℤ → List ℤ
words_of kept = kept ++ replicate (256 - length kept) (pos 0)
