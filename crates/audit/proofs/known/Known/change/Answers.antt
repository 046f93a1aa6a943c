use Rattle.std.proofs.Common.{◌≡◌, ap, sym, ◌∙◌, subst}
use Rattle.std.proofs.lemmas.Bool.{false≢true}
use Rattle.audit.specs.Children.{AreLinked, AreSound}
use Rattle.audit.specs.Records.{after, kept_by, record_in, IsAfter}
use Rattle.audit.proofs.ChildLemmas.{same_links}
use Rattle.audit.proofs.KeptLemmas.{change_keeps, unmarked_after}
use Rattle.audit.proofs.known.Known.change.Goals.{in-Marked, in_default}
use Rattle.audit.proofs.known.Known.change.Goals as goal

pub invariant_of-self : goal.invariant_of-self
invariant_of-self c =
    let old = c.match-change.self-inside.records.entries in
    let new = c.apply.new.records.entries in
    elim c.match-change.branch [
      | in-Marked w ↦ (same_links (record_in old) (record_in new) c.apply.ensures.links (subst (λ i. AreLinked (record_in i.records.entries)) (sym w.self-inside-is) c.self.invariant.0), λ none. absurd (false≢true (sym none ∙ ap (λ i. i.may_be_marked) w.self-inside-is)))
      | in_default w ↦
          let sound = subst (λ i. AreSound i.may_be_marked i.records.entries) (sym w.self-inside-is) c.self.invariant in (
            same_links (record_in old) (record_in new) c.apply.ensures.links sound.0,
            λ none. unmarked_after c.args.pid (after c.args.change) (kept_by old) (kept_by new) (λ k. change_keeps c.args.change k w.in_default.not-Marked) c.apply.ensures.kept (sound.1 none),
          )
    ]

pub returns : goal.returns
returns c =
    let same : c.match-change.self-inside.records.entries ≡ c.args.self.now = elim c.match-change.branch [ in-Marked w ↦ ap (λ i. i.records.entries) w.self-inside-is ∙ c.self.view_is | in_default w ↦ ap (λ i. i.records.entries) w.self-inside-is ∙ c.self.view_is ] in
    subst (λ es. IsAfter c.args.change c.args.pid es c.apply.new.records.entries) same c.apply.ensures.kept
