-- A machine in which there is room for more, or whose run queue changes.
use Rattle.std.proofs.Common.{◌≡◌, ℕ, ◌<◌, ◌≤◌, Bool, true, false, refl, ap, sym, ◌∙◌, subst, List, Some, IsSome}
use Rattle.std.proofs.lemmas.Bool.{both_ways}
use Rattle.posix.specs.Common.{Process, lookup, Console, World, State, IsRegular}
use Rattle.pidalloc.specs.Rows.{Pids, row, is_free_in}
use Rattle.pidalloc.proofs.TallyLemmas.{CanBear}
use Rattle.pidalloc.specs.Places.{Places}
use Rattle.pidset.specs.Indexes.{is_pair_in}
use Rattle.pidset.specs.Lists.{ListsView}
use Rattle.pidset.specs.Rows.{Grows, HasRoom}
use Rattle.pidset.specs.Numbers.{PidSetView, Rises}
use Rattle.life.specs.Machines.{state_of, MachineView, AreSame, AreSameButRoom, IsKept, IsListed, IsMachine, IsNoted, Terminals}
use Rattle.life.proofs.RecheckLemmas.{listed_roomier}
use Rattle.life.proofs.SoundLemmas.{grows_same, kept_roomier, sound_order}

-- it stays one with other room, if there is room for each process in the run queue, and among the blocked readers
pub machine_with_room : {s t : State} {pids now : Pids} {places order : Places} {l m groups after : PidSetView} {terminals : Terminals} {sets : ListsView}
    → IsMachine s pids places l groups terminals → t ≡ s → now ≡ record pids { sizes = now.sizes } → ((q : ℕ) → IsSome (lookup q s.processes) → HasRoom order.sizes q) → m.pids ≡ l.pids → l.room ≤ m.room → after.pids ≡ groups.pids → m.room ≤ after.room
    → sets.pairs ≡ terminals.readers.pairs → ((q : ℕ) (r : Process) → lookup q s.processes ≡ Some r → HasRoom sets.sizes q × HasRoom sets.sizes r.session) → IsMachine t now order m after (record terminals { readers = sets })
machine_with_room {s = s} {pids = pids} {now = now} {order = order} {l = l} {m = m} {after = after} {terminals = terminals} {sets = sets} i same rest ordered is more groups_same groups_more alike waiting =
    subst (λ x. IsMachine x now order m after (record terminals { readers = sets })) (sym same) (record {
      sound = record {
        regular = i.sound.regular;
        parents = i.sound.parents;
        counted = i.sound.counted;
        kept = subst (λ x. IsKept s.world.pidmax s.processes x order) (sym rest) (kept_roomier s.world.pidmax s.processes pids now.sizes order (record {
          greatest = i.sound.kept.greatest;
          table = i.sound.kept.table;
          tallied = i.sound.kept.tallied;
          room = ordered;
        }));
      };
      listed = listed_roomier s l m i.listed is more alike;
      noted = record { rising = subst Rises (sym groups_same) i.noted.rising; room = groups_more };
      fresh = i.fresh;
      indexed = i.indexed;
      within = record { room = waiting; own = λ k q on. i.within.own k q (sym (ap (is_pair_in k q) alike) ∙ on) };
    })

-- it holds with more room
pub machine_roomier : {s t : State} {pids now : Pids} {places order : Places} {l m groups after : PidSetView} {terminals : Terminals} {sets : ListsView}
    → IsMachine s pids places l groups terminals → t ≡ s → now ≡ record pids { sizes = now.sizes } → Grows places.sizes order.sizes → m.pids ≡ l.pids → l.room ≤ m.room → after.pids ≡ groups.pids → m.room ≤ after.room
    → sets.pairs ≡ terminals.readers.pairs → Grows terminals.readers.sizes sets.sizes → IsMachine t now order m after (record terminals { readers = sets })
machine_roomier i same rest wider is more groups_same groups_more alike longer =
    machine_with_room i same rest (λ q here. wider q (i.sound.kept.room q here)) is more groups_same groups_more alike (λ q r e. let here = i.within.room q r e in (longer q here.0, longer r.session here.1))

-- its state is the same
pub state_roomier : (w : World) (rs ts : List Process) (cs : List Console) (pids now : Pids) (places order : Places) (births ticks dropped : ℕ) (halted : Bool) → ts ≡ rs → now ≡ record pids { sizes = now.sizes } → order.pids ≡ places.pids
    → state_of w ts cs now order births ticks dropped halted ≡ state_of w rs cs pids places births ticks dropped halted
state_roomier w rs ts cs pids now places order births ticks dropped halted same rest alike = let last : now.last ≡ pids.last = ap (λ (p : Pids). p.last) rest in rw (same, last, alike) refl

-- what is the same is so but for room
pub same_but_room : {old new : MachineView} → AreSame old new → AreSameButRoom old new
same_but_room a = record { state = a.state; to_recheck = a.to_recheck; groups_at_risk = a.groups_at_risk; foregrounds_unchecked = a.foregrounds_unchecked; readers = ap (λ (l : ListsView). l.pairs) a.readers }

-- it stays one with another order, in which there is room as before
pub machine_ordered : {s : State} {order : List ℕ} {pids : Pids} {a b : Places} {l after groups : PidSetView} {terminals : Terminals} → IsMachine s pids a l groups terminals → b.sizes ≡ a.sizes
    → IsRegular (record s { order = order }) → IsListed (record s { order = order }) after terminals.readers → after.room ≡ l.room → IsMachine (record s { order = order }) pids b after groups terminals
machine_ordered {s = s} {order = order} {pids = pids} {a = a} {b = b} {groups = groups} i same regular listed room =
    record { sound = sound_order s order pids a b (grows_same same) regular i.sound; listed = listed; noted = subst (λ n. IsNoted n groups) (sym room) i.noted; fresh = i.fresh; indexed = i.indexed; within = i.within }

-- what the rows need before three IDs are counted, of which two are already in use
pub record CanBearAll (p : Pids) (n group session : ℕ) : Type 0 where
  pub pid_range : n ≤ p.pidmax
  pub group_range : group ≤ p.pidmax
  pub session_range : session ≤ p.pidmax
  pub pid_count : (row p.rows n).process < 4294967295
  pub group_count : (row p.rows group).group < 4294967295
  pub session_count : (row p.rows session).session < 4294967295
  pub room : HasRoom p.sizes n
  pub group_borne : is_free_in p.rows group ≡ true → group ≡ n
  pub session_borne : is_free_in p.rows session ≡ true → session ≡ n

-- it has it once there is room for the number
pub can_bear_all : (p now : Pids) (n group session : ℕ) → now ≡ record p { sizes = now.sizes } → HasRoom now.sizes n → n ≤ p.pidmax → CanBear p n group session → is_free_in p.rows group ≡ false → is_free_in p.rows session ≡ false → CanBearAll now n group session
can_bear_all p now n group session same room low can group_borne session_borne = record {
  pid_range = subst (λ (x : Pids). n ≤ x.pidmax) (sym same) low;
  group_range = subst (λ (x : Pids). group ≤ x.pidmax) (sym same) can.group_range;
  session_range = subst (λ (x : Pids). session ≤ x.pidmax) (sym same) can.session_range;
  pid_count = subst (λ (x : Pids). (row x.rows n).process < 4294967295) (sym same) can.pid_count;
  group_count = subst (λ (x : Pids). (row x.rows group).group < 4294967295) (sym same) can.group_count;
  session_count = subst (λ (x : Pids). (row x.rows session).session < 4294967295) (sym same) can.session_count;
  room = room;
  group_borne = λ free. absurd (both_ways (is_free_in now.rows group) (subst (λ (x : Pids). is_free_in x.rows group ≡ false) (sym same) group_borne) free);
  session_borne = λ free. absurd (both_ways (is_free_in now.rows session) (subst (λ (x : Pids). is_free_in x.rows session ≡ false) (sym same) session_borne) free);
}
