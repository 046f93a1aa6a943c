-- The indexes that a table of jobs keeps of its processes.
use Rattle.std.specs.Prelude.{◌≡◌, ◌≤◌, IfSome, ℕ, ◌-◌, ◌*◌, ◌+◌, Bool, false, not, ◌==◌, ◌&&◌, ◌||◌, if◌then◌else◌, nat_le, nat_lt, List, [], ◌∷◌, Option, Some, None, option_map}
use Rattle.std.specs.Option.{option_map_or}
use Rattle.posix.specs.Common.{Process, is_living, is_zombie, is_stopped, greatest_pid}
use Rattle.posix.specs.declared.process.Life.{Life}
use Rattle.posix.specs.declared.process.Life.TheVariants.{Running, Stopped, Zombie}
use Rattle.posix.specs.declared.process.News.{News}
use Rattle.posix.specs.declared.process.News.TheVariants as news
use Rattle.pidset.specs.Rows.{HasRoom}
use Rattle.pidset.specs.Indexes.{is_key, CanReplace, IsMoved, IsReplaced, IsIndex, IsIndexed}
use Rattle.proctable.specs.declared.records.Record.{Record}
use Rattle.proctable.specs.declared.snapshot.Snapshot.{Snapshot}
use Rattle.jobs.specs.declared.indexes.Indexes.{Indexes}
use Rattle.jobs.specs.declared.indexes.IndexedFields.{IndexedFields}
use Rattle.jobs.specs.declared.indexes.Sort.{Sort}
use Rattle.jobs.specs.declared.indexes.Sort.TheVariants.{End, Stop, Continue}

-- the indexed fields of a process, except its parent: from the process, its record and its snapshot
abbrev pub seen_of : Process → IndexedFields
seen_of r = record { group = r.group; session = r.session; life = r.life; news = r.news; alarm = r.alarm; is_subreaper = r.is_subreaper }

abbrev pub record_seen : Record → IndexedFields
record_seen b = record { group = b.group; session = b.session; life = b.life; news = b.news; alarm = b.alarm; is_subreaper = b.is_subreaper }

abbrev pub snapshot_seen : Snapshot → IndexedFields
snapshot_seen f = record { group = f.group; session = f.session; life = f.life; news = f.news; alarm = f.alarm; is_subreaper = f.is_subreaper }

-- ---- keys

-- the key of a process is its process group
abbrev pub member_in : Option IndexedFields → Option ℕ
member_in None = None
member_in (Some w) = Some w.group

abbrev pub member_key : Process → Option ℕ
member_key r = member_in (Some (seen_of r))

-- the key of a process is its parent, if it has one
abbrev pub list_of_parent : ℕ → Option ℕ
list_of_parent parent = if parent == 0 then None else Some parent

abbrev pub parent_key : Process → Option ℕ
parent_key r = list_of_parent r.parent

-- the key of a process that keeps its process group from being orphaned is that group; the state of its parent decides
abbrev pub is_outside : IndexedFields → IndexedFields → Bool
is_outside w up = up.session == w.session && not (up.group == w.group)

abbrev pub anchor_in : IndexedFields → Option IndexedFields → Option ℕ
anchor_in w up = if not (is_zombie w.life) && option_map_or (is_outside w) up false then Some w.group else None

-- the key of a child whose parent has these fields
abbrev pub child_key : IndexedFields → Process → Option ℕ
child_key up r = anchor_in (seen_of r) (Some up)

-- With the same parent, the process has the same key as before or is a zombie, and the keys of its children are the
-- same.
abbrev pub keeps_group_and_session : IndexedFields → IndexedFields → Bool
keeps_group_and_session old new = old.group == new.group && old.session == new.session && (is_zombie new.life || not (is_zombie old.life))

-- the kind of status change that a child has to report
abbrev pub sort_of_news : News → Option Sort
sort_of_news news.Nothing = None
sort_of_news (news.StoppedBy s) = Some Stop
sort_of_news news.Continued = Some Continue

abbrev pub sort_of : Life → News → Option Sort
sort_of Running n = sort_of_news n
sort_of Stopped n = sort_of_news n
sort_of (Zombie w) n = Some End

-- the rank of a kind among the keys of a parent
abbrev pub rank : Sort → ℕ
rank End = 0
rank Stop = 1
rank Continue = 2

abbrev pub is_of_sort : Sort → Process → Bool
is_of_sort sort r = is_key (rank sort) (option_map rank (sort_of r.life r.news))

-- the key of a process with a status change to report is made of its parent and the kind
abbrev pub sorted : ℕ → Sort → ℕ
sorted parent sort = parent * 256 + rank sort

abbrev pub report_in : ℕ → Option IndexedFields → Option ℕ
report_in parent None = None
report_in parent (Some w) = option_map (sorted parent) (sort_of w.life w.news)

abbrev pub report_key : Process → Option ℕ
report_key r = report_in r.parent (Some (seen_of r))

-- the key of a stopped process is its process group
abbrev pub stopped_in : Option IndexedFields → Option ℕ
stopped_in None = None
stopped_in (Some w) = if is_stopped w.life then Some w.group else None

abbrev pub stopped_key : Process → Option ℕ
stopped_key r = stopped_in (Some (seen_of r))

-- the key of a process whose alarm is set is the tick at which it is due
abbrev pub alarm_in : Option IndexedFields → Option ℕ
alarm_in None = None
alarm_in (Some w) = w.alarm

abbrev pub alarm_key : Process → Option ℕ
alarm_key r = alarm_in (Some (seen_of r))

-- a living child subreaper; all of them have the same key
abbrev pub is_living_subreaper : Process → Bool
is_living_subreaper r = r.is_subreaper && is_living r

abbrev pub marked_in : Option IndexedFields → Option ℕ
marked_in None = None
marked_in (Some w) = if w.is_subreaper && not (is_zombie w.life) then Some 0 else None

abbrev pub marked_key : Process → Option ℕ
marked_key r = marked_in (Some (seen_of r))

-- ---- the indexes

-- the indexes are right for these processes
pub record AreIndexes (rs : List Process) (b : Indexes) : Type 0 where
  pub members : IsIndex member_key rs b.members.pairs
  pub reporting : IsIndexed report_key rs b.reporting
  pub stopped : IsIndexed stopped_key rs b.stopped
  pub alarmed : IsIndexed alarm_key rs b.alarmed
  pub subreapers : IsIndexed marked_key rs b.subreapers

-- each index has the key that p has with this parent and these fields
pub record CanMove (p parent : ℕ) (it : Option IndexedFields) (b : Indexes) : Type 0 where
  pub reporting : CanReplace p (report_in parent it) b.reporting
  pub stopped : CanReplace p (stopped_in it) b.stopped
  pub alarmed : CanReplace p (alarm_in it) b.alarmed
  pub subreapers : CanReplace p (marked_in it) b.subreapers

abbrev pub lesser : ℕ → ℕ → ℕ
lesser a b = if nat_le a b then a else b

-- how many rows of each page both have
unfoldable pub common : List ℕ → List ℕ → List ℕ
common [] ns = []
common (m ∷ ms) [] = []
common (m ∷ ms) (n ∷ ns) = lesser m n ∷ common ms ns

-- for how many IDs of each page all lists have room
abbrev pub sizes_in : Indexes → List ℕ
sizes_in b = common (common b.members.sizes b.anchors.sizes) b.children.sizes

-- a process group may have the ID g
abbrev pub IsNumber : ℕ → Type 0
IsNumber g = (1 ≤ g) × (g ≤ greatest_pid)

-- there is room for the ID p, and for that of its process group
abbrev pub IsInside : ℕ → Option IndexedFields → Indexes → Type 0
IsInside p it b = HasRoom (sizes_in b) p × IfSome (member_in it) (λ k. IsNumber k × HasRoom (sizes_in b) k)

-- each index has the new key of p, and all other keys as before
pub record AreMoved (p parent : ℕ) (it : Option IndexedFields) (old new : Indexes) : Type 0 where
  pub members : IsMoved p (member_in it) old.members.pairs new.members.pairs
  pub sizes : new.members.sizes ≡ old.members.sizes
  pub reporting : IsReplaced p (report_in parent it) old.reporting new.reporting
  pub stopped : IsReplaced p (stopped_in it) old.stopped new.stopped
  pub alarmed : IsReplaced p (alarm_in it) old.alarmed new.alarmed
  pub subreapers : IsReplaced p (marked_in it) old.subreapers new.subreapers

-- for how many more processes the indexes have room, if there are `count`
abbrev pub room_in : ℕ → Indexes → ℕ
room_in count b = lesser (lesser (lesser b.reporting.room b.stopped.room) b.alarmed.room) b.subreapers.room - count

-- the lower of two numbers, or the only one
abbrev pub least : Option ℕ → Option ℕ → Option ℕ
least None b = b
least (Some a) None = Some a
least (Some a) (Some b) = if nat_lt b a then Some b else Some a
