-- The exit statuses of programs whose world and events cannot be read.
use Rattle.std.specs.Prelude.{ℕ}
use Rattle.inputs.specs.declared.InputFault.{InputFault}
use Rattle.inputs.specs.declared.InputFault.TheVariants.{Unread, World, Events, Memory}

-- 1 for a rejected text, 3 for an I/O error or if there is no memory
abbrev pub status_of : InputFault → ℕ
status_of (World fault) = 1
status_of (Events fault) = 1
status_of (Unread why) = 3
status_of Memory = 3
