-- What a child has to report.
use Rattle.std.proofs.lemmas.Bool.{cases_Bool}
use Rattle.std.proofs.Common.{◌≡◌, ℕ, false, arith, refl, inl, inr, ◌⊎◌}
use Rattle.posix.specs.declared.process.Life.{Life}
use Rattle.posix.specs.declared.process.Life.TheVariants.{Running, Stopped, Zombie}
use Rattle.posix.specs.declared.process.News.{News}
use Rattle.posix.specs.declared.process.News.TheVariants as news
use Rattle.posix.specs.declared.process.Report.TheVariants as found
use Rattle.posix.specs.Common.{stopped, continued, Process, is_zombie, report_of, report_life, report_change}

-- ---- what a child has to report

-- an end is that of a zombie, with its status
pub end_of : (options : ℕ) (r : Process) (c w : ℕ) → report_of options r ≡ found.End c w → r.life ≡ Zombie w
unfolding report_of
end_of options r c w e = by r.life r.news e
  where
    none : (n : News) → report_change options r.pid n ≡ found.End c w → ⊥
    none news.Nothing e = cc
    none n e = grind (arith, cases_Bool, e)

    by : (l : Life) (n : News) → report_life options r.pid l n ≡ found.End c w → l ≡ Zombie w
    by Running n e = absurd (none n e)
    by Stopped n e = absurd (none n e)
    by (Zombie v) n e = grind (arith, cases_Bool, e)

-- news of a stop or of a continue, with its word
abbrev pub IsNewsOf : Process → ℕ → Type 0
IsNewsOf r w = ((s : ℕ) × (r.news ≡ news.StoppedBy s) × (w ≡ stopped s)) ⊎ ((r.news ≡ news.Continued) × (w ≡ continued))

-- a change is reported of a living process
pub change_of : (options : ℕ) (r : Process) (c w : ℕ) → report_of options r ≡ found.Change c w → (is_zombie r.life ≡ false) × IsNewsOf r w
unfolding report_of
change_of options r c w e = by r.life r.news refl e
  where
    some : (n : News) → r.news ≡ n → report_change options r.pid n ≡ found.Change c w → IsNewsOf r w
    some news.Nothing is e = absurd (cc)
    some (news.StoppedBy s) is e = inl (s, is, grind (arith, cases_Bool, e))
    some news.Continued is e = inr (is, grind (arith, cases_Bool, e))

    by : (l : Life) (n : News) → r.news ≡ n → report_life options r.pid l n ≡ found.Change c w → (is_zombie l ≡ false) × IsNewsOf r w
    by Running n is e = (refl, some n is e)
    by Stopped n is e = (refl, some n is e)
    by (Zombie v) n is e = absurd (grind (arith, cases_Bool, e))
