-- The files of a page.
use Rattle.std.specs.Prelude.{ℕ, List, None, Some, codes, if◌then◌else◌}
use Rattle.std.specs.Str.{bytes_eq}
use Rattle.inputs.specs.Reads.{Contents}

-- the files `trace`, `world` and `events`; there is no other file
abbrev pub files_of : List ℕ → List ℕ → List ℕ → Contents
files_of trace world events name = if bytes_eq name (codes "trace") then Some trace
    else if bytes_eq name (codes "world") then Some world
    else if bytes_eq name (codes "events") then Some events
    else None
