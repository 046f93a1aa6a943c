-- Fault numbers, and the laws that lines break.
use Rattle.std.specs.Prelude.{ℕ, ◌==◌, if◌then◌else◌, List, codes, Option, Some, None, Result, Ok, Err}
use Rattle.audit.specs.declared.fault.AuditFault.{AuditFault}
use Rattle.audit.specs.declared.fault.AuditFault.TheVariants.{NoLine, BornWhileLiving, NotHappened, ReportedBefore, NotTheParent, OtherStatus, OutOfPlace, Memory}

abbrev pub number_of : AuditFault → ℕ
number_of NoLine = 1
number_of BornWhileLiving = 2
number_of NotHappened = 3
number_of ReportedBefore = 4
number_of NotTheParent = 5
number_of OtherStatus = 6
number_of OutOfPlace = 7
number_of Memory = 8

-- Returns the law that the line breaks, in words, or that there was no memory.
abbrev pub law_of : AuditFault → List ℕ
law_of NoLine = codes "not a trace line, or its event number decreases"
law_of BornWhileLiving = codes "fork returned the process ID of a living process"
law_of NotHappened = codes "wait reports a status change that has not happened"
law_of ReportedBefore = codes "wait reports the same status change twice"
law_of NotTheParent = codes "wait by a process that is not the parent"
law_of OtherStatus = codes "wait status does not match the status change"
law_of OutOfPlace = codes "process is not alive, or line misplaced near halt"
law_of Memory = codes "out of memory"

-- Returns the test that a line fails, by the result; None for fault 8.
abbrev pub fault_tested : {A : Type 0} → Result A AuditFault → Option ℕ
fault_tested (Ok x) = None
fault_tested (Err fault) = if number_of fault == 8 then None else Some (number_of fault)

-- Returns the fault number of a result, if it is an error.
abbrev pub fault_number : {A : Type 0} → Result A AuditFault → Option ℕ
fault_number (Ok x) = None
fault_number (Err fault) = Some (number_of fault)
