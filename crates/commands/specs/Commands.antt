-- The commands of the program: what arguments ask for, and what an exit status means.
use Rattle.std.specs.Prelude.{◌≡◌, ◌≤◌, ◌||◌, ℕ, Bool, true, false, List, [], ◌∷◌, Some, codes, if◌then◌else◌, map}
use Rattle.std.specs.Str.{bytes_eq}
use Rattle.explaining.specs.Drawings.{MeansOfDrawing, drawing_asked}
use Rattle.explaining.specs.Serving.{Means as MeansOfExplaining}
use Rattle.explaining.specs.Words.{asked_in_words as explaining_asked}
use Rattle.exploring.specs.Serving.{Means as MeansOfExploring}
use Rattle.exploring.specs.Words.{request_of_words as exploring_asked}
use Rattle.inputs.specs.Reads.{Contents}
use Rattle.naming.specs.Serving.{Means as MeansOfNaming, text_in_words}
use Rattle.trace.specs.Sinks.{Seen}
use Rattle.commands.specs.Running.{AreStored, AskFor, AskForAudit, IsToldAs, MeansOfAudit, MeansOfRun}
use Rattle.commands.specs.Words.{audit_asked, run_asked}
use Rattle.commands.specs.declared.help.TheConstants.{HELP, VERSION}
use Rattle.commands.specs.declared.running.TheConstants.{STORED_WORLD}
use Rattle.commands.specs.declared.serving.Command.{Command}
use Rattle.commands.specs.declared.serving.Command.TheVariants as command

-- what arguments ask for
pub data Purpose : Type 0 where
  Helps : Purpose
  TellsVersion : Purpose
  RunsStored : Purpose  -- no arguments
  Runs : List (List ℕ) → Purpose  -- by the arguments after `run`
  Audits : List (List ℕ) → Purpose
  Explores : List (List ℕ) → Purpose
  Shows : List (List ℕ) → Purpose
  Explains : List (List ℕ) → Purpose
  AuditsInWords : List (List ℕ) → Purpose  -- by the arguments after `explain --audit`
  Draws : List (List ℕ) → Purpose  -- by the arguments after `lanes`
  Names : List (List ℕ) → Purpose
  AsksNothing : Purpose  -- a usage error

abbrev pub is_help : List ℕ → Bool
is_help word = bytes_eq word (codes "--help") || bytes_eq word (codes "-h")

abbrev pub is_version : List ℕ → Bool
is_version word = bytes_eq word (codes "--version") || bytes_eq word (codes "-V")

-- what the arguments after `explain` ask for
abbrev pub explained : List (List ℕ) → Purpose
explained [] = Explains []
explained (option ∷ more) = if bytes_eq option (codes "--audit") then AuditsInWords more else Explains (option ∷ more)

-- what arguments ask for, by the first one and the second one, which may be empty
abbrev pub purpose : List ℕ → List ℕ → List (List ℕ) → Purpose
purpose first second more = if is_help first || is_help second then Helps
    else if is_version first || is_version second then TellsVersion
    else if bytes_eq first (codes "run") then Runs more
    else if bytes_eq first (codes "audit") then Audits more
    else if bytes_eq first (codes "explore") then Explores more
    else if bytes_eq first (codes "show") then Shows more
    else if bytes_eq first (codes "explain") then explained more
    else if bytes_eq first (codes "lanes") then Draws more
    else if bytes_eq first (codes "names") then Names more
    else AsksNothing

abbrev pub first_or_empty : List (List ℕ) → List ℕ
first_or_empty [] = []
first_or_empty (word ∷ more) = word

abbrev pub purpose_of : List (List ℕ) → Purpose
purpose_of [] = RunsStored
purpose_of (first ∷ more) = purpose first (first_or_empty more) more

abbrev pub said : Command → Purpose
said command.Help = Helps
said command.Version = TellsVersion
said command.Stored = RunsStored
said (command.Run more) = Runs (map (λ w. w.now) more.now)
said (command.Audit more) = Audits (map (λ w. w.now) more.now)
said (command.Explore more) = Explores (map (λ w. w.now) more.now)
said (command.Show more) = Shows (map (λ w. w.now) more.now)
said (command.Explain more) = Explains (map (λ w. w.now) more.now)
said (command.AuditInWords more) = AuditsInWords (map (λ w. w.now) more.now)
said (command.Lanes more) = Draws (map (λ w. w.now) more.now)
said (command.Names more) = Names (map (λ w. w.now) more.now)
said command.Other = AsksNothing

-- What an exit status means for arguments with this purpose, by the files, and the output before and after. For `show`,
-- only the largest status is known.
abbrev pub ServesAs : {S : Type 0} → Contents → S → S → Seen → Seen → ℕ → Purpose → Type 0
ServesAs contents old new before after status Helps = IsToldAs HELP.now before after status
ServesAs contents old new before after status TellsVersion = IsToldAs VERSION.now before after status
ServesAs contents old new before after status RunsStored = MeansOfRun AreStored (Some STORED_WORLD.now) old new before after status × (status ≤ 3)
ServesAs contents old new before after status (Runs more) = MeansOfRun (AskFor contents (run_asked more)) (run_asked more) old new before after status × (status ≤ 3)
ServesAs contents old new before after status (Audits more) = MeansOfAudit false (AskForAudit contents (audit_asked more)) (audit_asked more) old new before after status × (status ≤ 3)
ServesAs contents old new before after status (Explores more) = MeansOfExploring contents (exploring_asked more) old new before after status × (status ≤ 4)
ServesAs contents old new before after status (Shows more) = status ≤ 3
ServesAs contents old new before after status (Explains more) = MeansOfExplaining contents (explaining_asked more) old new before after status × (status ≤ 3)
ServesAs contents old new before after status (AuditsInWords more) = MeansOfAudit true (AskForAudit contents (audit_asked more)) (audit_asked more) old new before after status × (status ≤ 3)
ServesAs contents old new before after status (Draws more) = MeansOfDrawing contents (drawing_asked more) old new status × (status ≤ 3)
ServesAs contents old new before after status (Names more) = MeansOfNaming contents (text_in_words more) old new before after status × (status ≤ 3)
ServesAs contents old new before after status AsksNothing = (status ≡ 2) × (new ≡ old)
