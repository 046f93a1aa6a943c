-- The caller of a system call.
use Rattle.std.specs.Prelude.{[], ◌∷◌, pos}
use Rattle.posix.specs.Common.{Process, argument, first_process, fresh_cpu}
use Rattle.life.specs.declared.caller.Caller.{Caller}

abbrev pub caller_of : Process → Caller
caller_of r = record {
  pid = r.pid;
  group = r.group;
  session = r.session;
  creds = r.credentials;
  r1 = argument r 1;
  r2 = argument r 2;
  r3 = argument r 3;
}

-- a caller as a process, which is otherwise as at boot
abbrev pub process_like : Caller → Process
process_like c = record first_process {
  pid = c.pid;
  group = c.group;
  session = c.session;
  credentials = c.creds;
  cpu = record fresh_cpu { registers = pos 0 ∷ c.r1 ∷ c.r2 ∷ c.r3 ∷ [] };
}
