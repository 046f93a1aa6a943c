use Rattle.std.proofs.Common.{◌≡◌, ℕ, Bool, ◌&&◌, ap, sym, ◌∙◌}
use Rattle.posix.specs.Common.{Process, is_something, report_life, report_of, reports}
use Rattle.jobs.specs.declared.indexes.IndexedFields.{IndexedFields}
use Rattle.jobs.specs.Indexes.{seen_of}
use Rattle.life.specs.Rechecks.{awaits, awaits_asked}
use Rattle.life.proofs.waits.awaits.Goals as goal

-- what is seen of a child says whether it has something to report
says : (options child : ℕ) (e : IndexedFields) (it : Process) (told : Bool) → it.pid ≡ child → e ≡ seen_of it → told ≡ is_something (report_life options child e.life e.news) → told ≡ reports options it
unfolding report_of
says options child e it told here sees t = t ∙ ap (λ (s : IndexedFields). is_something (report_life options child s.life s.news)) sees ∙ ap (λ n. is_something (report_life options n it.life it.news)) (sym here)

pub returns-then-is_named : goal.returns-then-is_named
unfolding awaits
returns-then-is_named c = λ p q it here sees.
    let a = c.in-Some.asked in
    let group = c.args.me.now.group in
    let named = c.is_named.ensures it here (sym (ap (λ (s : IndexedFields). s.group) sees)) in
    let told = says a.options.0 c.args.child c.args.seen.now it _ here sees c.reports.ensures in
    told ∙ ap (λ b. b && reports a.options.0 it) (sym c.if-is_named.true ∙ named) ∙ ap (λ o. awaits_asked group o it) (sym c.in-Some.is ∙ c.asked_in.ensures p q)

pub returns-else-is_named : goal.returns-else-is_named
unfolding awaits
returns-else-is_named c = λ p q it here sees.
    let a = c.in-Some.asked in
    let group = c.args.me.now.group in
    let named = c.is_named.ensures it here (sym (ap (λ (s : IndexedFields). s.group) sees)) in
    c.if-is_named.false ∙ ap (λ b. b && reports a.options.0 it) (sym c.if-is_named.false ∙ named) ∙ ap (λ o. awaits_asked group o it) (sym c.in-Some.is ∙ c.asked_in.ensures p q)

pub returns-in-None : goal.returns-in-None
unfolding awaits
returns-in-None c = λ p q it here sees. ap (λ o. awaits_asked c.args.me.now.group o it) (sym c.in-None.is ∙ c.asked_in.ensures p q)
