-- States whose parts are of their kinds: what their lines print is within its range.
use Rattle.std.specs.Prelude.{◌≡◌, ℕ, ◌&&◌, Bool, true, Option, Some, None, length, nat_le, nat_lt}
use Rattle.std.specs.List.{list_all}
use Rattle.posix.specs.declared.ids.Ids.{Ids}
use Rattle.posix.specs.declared.process.Action.{Action}
use Rattle.posix.specs.declared.process.Carried.{Carried}
use Rattle.posix.specs.declared.process.Frame.{Frame}
use Rattle.posix.specs.declared.process.Handler.{Handler}
use Rattle.posix.specs.declared.process.Handler.TheVariants as handler
use Rattle.posix.specs.declared.process.Life.{Life}
use Rattle.posix.specs.declared.process.Life.TheVariants.{Running, Stopped, Zombie}
use Rattle.posix.specs.declared.process.News.{News}
use Rattle.posix.specs.declared.process.News.TheVariants as news
use Rattle.posix.specs.declared.process.PendingSignal.{PendingSignal}
use Rattle.posix.specs.Common.{is_realtime, is_stop_signal, Process, Signals, Credentials, Cpu, lookup, Console, State, most_queued, is_id, is_i64, IsWorld, is_end_word}

abbrev pub is_byte : ℕ → Bool
is_byte b = nat_lt b 256

abbrev pub are_ids : Ids ℕ → Bool
are_ids i = is_id i.real && (is_id i.effective && is_id i.saved)

abbrev pub is_carried : Carried → Bool
is_carried c = is_i64 c.value && is_id c.sender

abbrev pub is_pending_kind : Option Carried → Bool
is_pending_kind None = true
is_pending_kind (Some c) = is_carried c

-- Returns true if a queued signal is a real-time signal, with its value and sender in range.
abbrev pub is_queued_kind : PendingSignal → Bool
is_queued_kind m = is_realtime m.sig && is_carried m.carried

abbrev pub is_handler : Handler → Bool
is_handler handler.Default = true
is_handler handler.Ignore = true
is_handler (handler.At address) = is_i64 address

abbrev pub is_action : Action → Bool
is_action a = is_handler a.handler

abbrev pub is_frame : Frame → Bool
is_frame f = list_all is_i64 f.registers

abbrev pub is_life : Life → Bool
is_life Running = true
is_life Stopped = true
is_life (Zombie w) = is_end_word w

abbrev pub is_news_kind : News → Bool
is_news_kind news.Nothing = true
is_news_kind (news.StoppedBy s) = is_stop_signal s
is_news_kind news.Continued = true

-- The queue holds only real-time signals, and no more of them than may be queued.
pub record AreSignals (g : Signals) : Type 0 where
  pub pending : list_all is_pending_kind g.standard ≡ true
  pub queue : list_all is_queued_kind g.queue ≡ true
  pub few : nat_le (length g.queue) most_queued ≡ true
  pub actions : list_all is_action g.actions ≡ true
  pub frames : list_all is_frame g.frames ≡ true

pub record IsCpu (c : Cpu) : Type 0 where
  pub registers : list_all is_i64 c.registers ≡ true
  pub memory : list_all is_i64 c.memory ≡ true

pub record AreCredentials (c : Credentials) : Type 0 where
  pub user : are_ids c.user ≡ true
  pub group : are_ids c.group ≡ true

pub record IsKind (r : Process) : Type 0 where
  pub pid : is_id r.pid ≡ true
  pub parent : is_id r.parent ≡ true
  pub credentials : AreCredentials r.credentials
  pub signals : AreSignals r.signals
  pub life : is_life r.life ≡ true
  pub news : is_news_kind r.news ≡ true
  pub cpu : IsCpu r.cpu

abbrev pub is_console : Console → Bool
is_console c = is_id c.foreground && (list_all (list_all is_byte) c.lines && list_all is_byte c.edited)

pub record AreKinds (s : State) : Type 0 where
  pub world : IsWorld s.world
  pub records : (p : ℕ) (r : Process) → lookup p s.processes ≡ Some r → IsKind r
  pub consoles : list_all is_console s.consoles ≡ true
