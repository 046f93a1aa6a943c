-- Messages that were added, one after another.
use Rattle.std.proofs.Common.{ℕ, Bool, true, false, List, ◌∷◌, ◌++◌, ap, append_assoc, sym, ◌∙◌}
use Rattle.std.specs.Prelude.{◌||◌}
use Rattle.wording.specs.Proses.{ProseView}
use Rattle.wording.proofs.ProseLemmas.{grows_then}
use Rattle.naming.specs.Lines.{AddsMore, IsToldIf}

more_then : (a b c : ProseView) → AddsMore a b → AddsMore b c → AddsMore a c
more_then a b c (one, grown) (two, again) = (
  λ now.
      let second = two now in
      let first = one second.0 in
      let (byte, more, is) = first.1 in
      let (other, others, then) = second.1 in
      (first.0, (byte, more ++ other ∷ others, then ∙ ap (λ (l : List ℕ). l ++ other ∷ others) is ∙ append_assoc a.text (byte ∷ more) (other ∷ others))),
  grows_then a.text b.text c.text grown again,
)

-- one part of a line, and another
pub told_then : (first second : Bool) (a b c : ProseView) → IsToldIf first a b → IsToldIf second b c → IsToldIf (first || second) a c
told_then false second a b c h k = rw h at k
told_then true false a b c h k = rw (sym k) at h
told_then true true a b c h k = more_then a b c h k
