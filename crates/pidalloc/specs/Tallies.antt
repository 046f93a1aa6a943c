-- Rows that count the records of processes.
use Rattle.std.specs.Prelude.{◌≡◌, ℕ, ◌≤◌, ◌==◌, List, length, filter}
use Rattle.posix.specs.Common.{Process}
use Rattle.pidalloc.specs.Rows.{Row, Pids, row}

-- how often n is the ID of a process, of its process group and of its session
unfoldable pub tally : ℕ → List Process → Row
tally n rs = record {
  process = length (filter (λ r. r.pid == n) rs);
  group = length (filter (λ r. r.group == n) rs);
  session = length (filter (λ r. r.session == n) rs);
}

-- each row counts the records
abbrev pub IsTallied : Pids → List Process → Type 0
IsTallied p rs = (n : ℕ) → n ≤ p.pidmax → row p.rows n ≡ tally n rs
