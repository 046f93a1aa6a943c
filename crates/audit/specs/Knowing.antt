-- What an audit knows of the texts that it has read.
use Rattle.std.specs.Prelude.{ℕ, nat_eq, unwrap_or, IsSomeAnd, ◌≡◌, ◌⊎◌, List, [], ◌∷◌, Option, None, Result, Err, OnOk, OnErr}
use Rattle.std.specs.Map.{lookup}
use Rattle.posix.specs.Common.{Line}
use Rattle.laws.specs.TraceLines.{Says}
use Rattle.laws.specs.Lives.{Laws, last_line, born_by}
use Rattle.laws.specs.Keeping.{Kept, NeverBorn, Phase, kept_of, kept_after, last_number, phase_of, phase_after, fault_of}
use Rattle.audit.specs.declared.fault.AuditFault.{AuditFault}
use Rattle.audit.specs.declared.fault.AuditFault.TheVariants.{NoLine, Memory}
use Rattle.audit.specs.Faults.{fault_tested}

-- What an audit keeps: what the lines say of each process ID that a process ever had, the event number of the last
-- line, what may come next, and the final fault, if any.
pub record AuditView : Type 0 where
  pub numbers : List (ℕ × Kept)
  pub last : ℕ
  pub phase : Phase
  pub fault : Option AuditFault

-- Returns what is kept of c.
unfoldable pub kept_at : List (ℕ × Kept) → ℕ → Kept
kept_at numbers c = unwrap_or (lookup (nat_eq c) numbers) NeverBorn

-- Each text says the line at its index.
abbrev pub AllSay : List (List ℕ) → List Line → Type 0
AllSay [] [] = Unit {0}
AllSay [] (l ∷ ls) = ⊥
AllSay (text ∷ texts) [] = ⊥
AllSay (text ∷ texts) (l ∷ ls) = Says text l × AllSay texts ls

-- The texts say lines of which the laws of a trace hold.
pub record AreLawful (texts : List (List ℕ)) : Type 0 where
  pub lines : List Line
  pub say : AllSay texts lines
  pub laws : Laws lines

-- An audit that has read these lawful texts, and no others: it keeps what their lines say of each process ID.
pub record Knows (texts : List (List ℕ)) (audit : AuditView) : Type 0 where
  pub lines : List Line
  pub say : AllSay texts lines
  pub laws : Laws lines
  pub kept : (c : ℕ) → kept_at audit.numbers c ≡ kept_of lines c
  pub last : audit.last ≡ last_number (last_line lines)
  pub phase : audit.phase ≡ phase_of (last_line lines)
  pub fault : audit.fault ≡ None

-- ---- one line

-- An audit has read one more line.
pub record Heard (l : Line) (old new : AuditView) : Type 0 where
  pub kept : (c : ℕ) → kept_at new.numbers c ≡ kept_after (kept_at old.numbers) l.entry c
  pub last : new.last ≡ l.event
  pub phase : new.phase ≡ phase_after l.entry
  pub fault : new.fault ≡ old.fault

-- An audit knows what it knew before, and has this final fault, if any.
pub record StaysWith (remembered : Option AuditFault) (old new : AuditView) : Type 0 where
  pub kept : (c : ℕ) → kept_at new.numbers c ≡ kept_at old.numbers c
  pub last : new.last ≡ old.last
  pub phase : new.phase ≡ old.phase
  pub fault : new.fault ≡ remembered

-- The result for a text, given the lines before it: no fault if the text's line fails no test, and fault 1 if the
-- text says no line. Fault 8 may be returned instead of no fault.
pub record IsAnswer (lines : List Line) (text : List ℕ) (answer : Result (Unit {0}) AuditFault) : Type 0 where
  pub said : (l : Line) → Says text l → fault_tested answer ≡ fault_of (kept_of lines) (last_number (last_line lines)) (phase_of (last_line lines)) l
  pub unsaid : ((l : Line) → Says text l → ⊥) → answer ≡ Err NoLine

-- In the line, a fork returns a process ID that no process had before.
abbrev pub IsNewBirth : (ℕ → Kept) → Line → Type 0
IsNewBirth kept l = IsSomeAnd (born_by l.entry) (λ n. kept n ≡ NeverBorn)

-- A text says a line, which was tested, and taken in if no test failed.
abbrev pub IsTested : List ℕ → Result (Unit {0}) AuditFault → AuditView → AuditView → Type 0
IsTested text answer old new = (l : Line) × Says text l × (fault_tested answer ≡ fault_of (kept_at old.numbers) old.last old.phase l) × OnOk answer (Heard l old new) × (answer ≡ Err Memory → IsNewBirth (kept_at old.numbers) l)

-- A text says no line, and the result is fault 1.
abbrev pub IsNoLine : List ℕ → Result (Unit {0}) AuditFault → Type 0
IsNoLine text answer = ((l : Line) → Says text l → ⊥) × (answer ≡ Err NoLine)

-- An audit has read a text; an error leaves the audit unchanged.
pub record IsRead (text : List ℕ) (answer : Result (Unit {0}) AuditFault) (old new : AuditView) : Type 0 where
  pub read : IsTested text answer old new ⊎ IsNoLine text answer
  pub stays : OnErr answer (StaysWith old.fault old new)
