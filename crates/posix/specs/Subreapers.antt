-- The call that sets or clears the child subreaper mark of a process, PR_SET_CHILD_SUBREAPER in prctl(2).
use Rattle.std.specs.Prelude.{Bool, [], ◌∷◌, pos}
use Rattle.posix.specs.declared.entry.Entry.TheVariants.{Marked}
use Rattle.posix.specs.Processes.{Process, argument}
use Rattle.posix.specs.States.{State, change}
use Rattle.posix.specs.Outcomes.{Attempted, Done, finished}
use Rattle.posix.specs.Terminals.{is_nonzero}

-- Sets or clears the mark, and returns 0 from the call.
-- The mark of process 1 is kept and printed although it changes nothing, so that the call has no exception: process 1
-- is the last choice for a new parent anyway.
unfoldable pub marked_as : Bool → Process → Process
marked_as mark r = finished ((0, pos 0) ∷ []) (record r { is_subreaper = mark })

abbrev pub finish_marked : State → Process → Bool → Attempted
finish_marked s me mark = Done (record { state = change s me.pid (marked_as mark); entries = Marked me.pid mark ∷ [] })

-- Attempts subreaper: sets the mark if r1 isn't 0, and otherwise clears it.
unfoldable pub subreaper : State → Process → Attempted
subreaper s me = finish_marked s me (is_nonzero (argument me 1))
