-- What the lines of several steps say of the states between which they lead.
use Rattle.std.proofs.Common.{◌≡◌, ℕ, zero, suc, ◌+◌, ◌-◌, ◌<◌, ◌≤◌, List, [], ◌++◌, append-nil, length, arith, ap, sym, subst, ◌∙◌}
use Rattle.std.proofs.Math.Nat.{le_trans}
use Rattle.std.specs.Prelude.{replicate}
use Rattle.std.specs.List.{AllByRecursion}
use Rattle.std.proofs.lemmas.List.{length-replicate}
use Rattle.posix.specs.declared.event.Event.TheVariants.{Step}
use Rattle.posix.specs.declared.entry.Entry.{Entry}
use Rattle.posix.specs.Common.{Line, numbered, IsStep, State, RunsFrom, IsRegular, IsEvent}
use Rattle.life.specs.declared.noted_bursts.Note.{Note}
use Rattle.kernel.specs.Accounts.{LinesTell}
use Rattle.kernel.specs.Steps.{Bursts, noted_lines}
use Rattle.laws.specs.Agree.{Agree, IsOrderly}
use Rattle.text.specs.EventTexts.{most_events}
use Rattle.laws.proofs.AgreeRuns.{runs_turns, runs_agree, runs_formed}
use Rattle.kernel.proofs.RunLemmas.{step_after}

-- a step is an event of its kind
steps_are_events : (n : ℕ) → AllByRecursion IsEvent (replicate n Step)
steps_are_events zero = tt
steps_are_events (suc n) = (tt, steps_are_events n)

-- the lines of the steps after number before, up to number last
steps_tell : (before last : ℕ) (old new : State) (lines : List Line) → RunsFrom (before + 1) old (replicate (last - before) Step) lines new → before ≤ last → last ≤ most_events → IsRegular old → IsOrderly old → LinesTell before last old new lines
steps_tell before last old new lines run on few i o =
    let steps = replicate (last - before) Step in
    let count = length-replicate (last - before) Step in
    let many : before + length steps ≡ last = omega (arith, count, on) in
    let within : last ≤ 1000000000000 = few in
    let formed = runs_formed before old new steps lines run (steps_are_events (last - before)) (omega (arith, many, within)) i o.kinds in
    record {
      orderly = record { turns = runs_turns (before + 1) old new steps lines run i o.turns; kinds = formed.kinds };
      forms = formed.forms;
      agrees = λ earlier a. subst (λ n. Agree (earlier ++ lines) n new) many (runs_agree before old new steps lines earlier run i o.turns a);
    }

-- those of a burst, if nothing is shown besides
pub burst_tells : {before n p last : ℕ} {s m : State} {ns : List Note} (es : List Entry) → Bursts s before n p ns m → before ≤ n → n ≤ last → last ≤ most_events → es ≡ [] → IsRegular s → IsOrderly s
    → LinesTell before n s m (noted_lines p ns ++ numbered n es)
burst_tells {before = before} {n = n} {p = p} {s = s} {m = m} {ns = ns} es b on to few none i o =
    let lines : noted_lines p ns ++ numbered n es ≡ noted_lines p ns = ap (λ (es : List Entry). noted_lines p ns ++ numbered n es) none ∙ append-nil (noted_lines p ns) in
    subst (LinesTell before n s m) (sym lines) (steps_tell before n s m (noted_lines p ns) b.runs on (le_trans to few) i o)

-- and with the step after it
pub step_tells : {before n p last : ℕ} {s m t : State} {ns : List Note} {es : List Entry} → Bursts s before n p ns m → before ≤ n → IsStep m Step es t → n < last → last ≤ most_events → IsRegular s → IsOrderly s
    → LinesTell before (n + 1) s t (noted_lines p ns ++ numbered (n + 1) es)
step_tells {before = before} {n = n} {p = p} {s = s} {t = t} {ns = ns} {es = es} b on step to few i o =
    steps_tell before (n + 1) s t (noted_lines p ns ++ numbered (n + 1) es) (step_after b on step) (omega (arith, on)) (le_trans (omega (arith, to)) few) i o

-- after a burst there are no more births and ticks than events, and the state is orderly
pub burst_keeps : {before n p last : ℕ} {s m : State} {ns : List Note} → Bursts s before n p ns m → before ≤ n → n ≤ last → last ≤ most_events → s.births ≤ before + 1 → s.ticks ≤ before → IsRegular s → IsOrderly s → (m.births ≤ n + 1) × (m.ticks ≤ n) × IsOrderly m
burst_keeps b on to few births ticks i o = (omega (arith, births, b.births, on), omega (arith, ticks, b.ticks, on), (steps_tell _ _ _ _ _ b.runs on (le_trans to few) i o).orderly)
