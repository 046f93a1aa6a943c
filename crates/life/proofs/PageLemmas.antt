-- A machine without the memory for a page of IDs that are not in use.
use Rattle.std.proofs.Common.{◌≡◌, ℕ, ◌/◌, true, refl, ap, sym, ◌∙◌, arith, List, Some}
use Rattle.std.proofs.lemmas.Bool.{both_ways}
use Rattle.posix.specs.Common.{Process, lookup, State}
use Rattle.pidalloc.specs.Rows.{Pids, is_free_in}
use Rattle.pidalloc.specs.Places.{Places}
use Rattle.pidset.specs.Lists.{ListsView, without_page_of}
use Rattle.pidset.specs.Numbers.{PidSetView}
use Rattle.pidset.specs.Rows.{IsOnAnotherPage, sizes_without}
use Rattle.pidset.proofs.RowLemmas.{room_stays}
use Rattle.life.specs.Machines.{IsMachine, IsSound, Terminals}
use Rattle.life.proofs.FunnelLemmas.{borne_of}
use Rattle.life.proofs.RoomLemmas.{machine_with_room}
use Rattle.life.proofs.SoundLemmas.{grows_same}
use Rattle.posix.proofs.ResultLemmas.{there}

-- no ID on the page of n is in use
abbrev pub IsUnborne : ℕ → Pids → Type 0
IsUnborne n pids = (q : ℕ) → q / 1024 ≡ n / 1024 → is_free_in pids.rows q ≡ true

-- so the number of each process is on another one, and those of its group and session
pub apart : {s : State} {pids : Pids} {places : Places} (n : ℕ) → IsSound s pids places → IsUnborne n pids → (p : ℕ) (r : Process) → lookup p s.processes ≡ Some r → IsOnAnotherPage p n × IsOnAnotherPage r.group n × IsOnAnotherPage r.session n
apart {s = s} {pids = pids} {places = places} n i free p r found =
    let borne = borne_of s pids places i p r found in
    (λ e. absurd (both_ways _ borne.own (free p e)), λ e. absurd (both_ways _ borne.group (free r.group e)), λ e. absurd (both_ways _ borne.session (free r.session e)))

-- the rows are the same
pub same_rows : (old new : Pids) (sizes : List ℕ) → new ≡ record old { sizes = sizes } → new ≡ record old { sizes = new.sizes }
same_rows old new sizes e = e ∙ ap (λ (l : List ℕ). record old { sizes = l }) (sym (ap (λ (p : Pids). p.sizes) e))

-- it stays one
pub machine_left : {s t : State} {pids now : Pids} {places order : Places} {l groups : PidSetView} {terminals : Terminals} {sets : ListsView} (n : ℕ)
    → IsMachine s pids places l groups terminals → IsUnborne n pids → t ≡ s → now ≡ record pids { sizes = now.sizes } → order.sizes ≡ sizes_without places.sizes n → sets ≡ without_page_of n terminals.readers → IsMachine t now order l groups (record terminals { readers = sets })
machine_left {s = s} {places = places} {terminals = terminals} n i free same rest ordered left =
    let sizes = ap (λ (v : ListsView). v.sizes) left in
    machine_with_room i same rest
    (λ q here. let it = there (lookup q s.processes) here in grows_same ordered q (room_stays places.sizes n q (apart n i.sound free q it.what it.found).0 (i.sound.kept.room q here)))
    refl (omega arith) refl i.noted.room (ap (λ (v : ListsView). v.pairs) left)
    (λ q r e. let here = i.within.room q r e in let off = apart n i.sound free q r e in (grows_same sizes q (room_stays terminals.readers.sizes n q off.0 here.0), grows_same sizes r.session (room_stays terminals.readers.sizes n r.session off.2 here.1)))
