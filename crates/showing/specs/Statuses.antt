-- The exit statuses of `show`.
use Rattle.std.specs.Prelude.{ℕ}
use Rattle.inputs.specs.Statuses.{status_of as status_of_input}
use Rattle.showing.specs.declared.serving.Failure.{Failure}
use Rattle.showing.specs.declared.serving.Failure.TheVariants.{Usage, At, AtAbove, Process, Step, Input, Unread, Memory, Write}

-- 1 if an input is rejected, 2 for a usage error, 3 if a device fails or memory runs out
abbrev pub status_of : Failure → ℕ
status_of (Input why) = status_of_input why
status_of Usage = 2
status_of At = 2
status_of (AtAbove at events) = 2
status_of Process = 2
status_of Step = 2
status_of (Unread why) = 3
status_of Memory = 3
status_of Write = 3
