-- Pieces that are added to a text, one after another.
use Rattle.std.proofs.Common.{◌≡◌, ℕ, Bool, true, false, List, [], ◌++◌, ap, sym, ◌∙◌, append_assoc, append-nil}
use Rattle.std.specs.Prelude.{if◌then◌else◌}
use Rattle.std.proofs.lemmas.Bool.{false≢true}
use Rattle.wording.specs.Proses.{Adds, Grows, ProseView}

-- a piece, if there is memory for it
pub adds_if : (is_there : Bool) (piece : List ℕ) (old new : ProseView) → old.is_whole ≡ true → new.text ≡ (if is_there then old.text ++ piece else old.text)
    → new.is_whole ≡ is_there → Adds piece old new
adds_if true piece old new before is now = (λ _. (before, is), (piece, is))
adds_if false piece old new before is now = (λ whole. absurd (false≢true (sym now ∙ whole)), ([], is ∙ sym (append-nil old.text)))

-- more, and more again
pub grows_then : (a b c : List ℕ) → Grows a b → Grows b c → Grows a c
grows_then a b c (xs, g) (ys, h) = (xs ++ ys, h ∙ ap (λ (l : List ℕ). l ++ ys) g ∙ append_assoc a xs ys)

-- a piece, and another
pub adds_then : (first second : List ℕ) (a b c : ProseView) → Adds first a b → Adds second b c → Adds (first ++ second) a c
adds_then first second a b c (one, more) (two, again) = (
  λ whole. let both = two whole in let before = one both.0 in
      (before.0, both.1 ∙ ap (λ (l : List ℕ). l ++ second) before.1 ∙ append_assoc a.text first second),
  grows_then a.text b.text c.text more again,
)
