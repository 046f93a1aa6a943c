-- A process as a table keeps it.
use Rattle.std.specs.Prelude.{ℕ, Bool, false, ◌&&◌, not, if◌then◌else◌, [], List, None, pos}
use Rattle.std.specs.Borrow.{RattleType}
use Rattle.posix.specs.declared.process.PendingSignal.{PendingSignal}
use Rattle.posix.specs.Common.{Process, first_process, nothing_pending, signalled, has_full_queue, set_register, move_on, chosen, changed}
use Rattle.proctable.specs.declared.records.Record.{Record}
use Rattle.proctable.specs.declared.snapshot.Snapshot.{Snapshot}
use Rattle.proctable.specs.declared.own_part.OwnPart.{OwnPart}
use Rattle.proctable.specs.contracts.records.Record.{the_row}
use Rattle.proctable.specs.contracts.own_part.OwnPart.{the_row as the_own_row}

abbrev pub record_row : RattleType
record_row = the_row

abbrev pub own_row : RattleType
own_row = the_own_row

-- the part of a process that it may change itself
abbrev pub own_of : Process → OwnPart
own_of r = record { creds = r.credentials; signals = r.signals; ran_exec = r.ran_exec; blocked = r.blocked; program = r.program; cpu = r.cpu }

-- the process with this own part
abbrev pub give_own : OwnPart → Process → Process
give_own o r = record r { credentials = o.creds; signals = o.signals; ran_exec = o.ran_exec; blocked = o.blocked; program = o.program; cpu = o.cpu }

-- the own part of a child of fork, whose call has returned 0
abbrev pub forked : OwnPart → OwnPart
forked o = record o { signals = record (o.signals) { standard = nothing_pending; queue = [] }; ran_exec = false; blocked = None; cpu = move_on (set_register o.cpu 0 (pos 0)) }

-- the process with this ID, this parent and this record; all other fields are as at boot
abbrev pub process_of : ℕ → ℕ → Record → Process
process_of p q b = record first_process {
  pid = p;
  birth = b.birth;
  parent = q;
  group = b.group;
  session = b.session;
  credentials = b.own.creds;
  signals = b.own.signals;
  life = b.life;
  news = b.news;
  ran_exec = b.own.ran_exec;
  is_subreaper = b.is_subreaper;
  alarm = b.alarm;
  blocked = b.own.blocked;
  program = b.own.program;
  cpu = b.own.cpu;
}

-- a real-time signal is generated if there is a pool for it and room in the queue; otherwise it is lost
unfoldable pub queued : Bool → PendingSignal → Process → Process
queued pool signal r = if pool && not (has_full_queue r) then signalled signal r else r

-- the process with another parent
abbrev pub with_parent : ℕ → Process → Process
with_parent q r = record r { parent = q }

-- the process with another record
unfoldable pub give_record : Record → Process → Process
give_record b r = process_of r.pid r.parent b

-- the processes with another record for p
abbrev pub with_record : List Process → ℕ → Record → List Process
with_record rs p b = changed p (give_record b) rs

abbrev pub snapshot_of : Process → Snapshot
snapshot_of r = record {
  pid = r.pid;
  parent = r.parent;
  group = r.group;
  session = r.session;
  creds = r.credentials;
  chosen = chosen r.life r.signals;
  life = r.life;
  news = r.news;
  alarm = r.alarm;
  ran_exec = r.ran_exec;
  is_subreaper = r.is_subreaper;
  blocked = r.blocked;
  program = r.program;
}
