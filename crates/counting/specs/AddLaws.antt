-- Laws of lines that are added to others in several steps.
use Rattle.std.proofs.Common.{◌≡◌, false, List, [], ◌++◌, refl, ap, sym, ◌∙◌, append_assoc, append-nil}
use Rattle.std.proofs.lemmas.Bool.{or_from}
use Rattle.std.proofs.lemmas.List.Folds.{list_any-append}
use Rattle.posix.specs.Common.{Line}
use Rattle.counting.specs.Courses.{AddsGranted, denies_memory, one_denies_memory}

pub both_grant : (ls ms : List Line) → one_denies_memory ls ≡ false → one_denies_memory ms ≡ false → one_denies_memory (ls ++ ms) ≡ false
both_grant ls ms p q = list_any-append (λ (l : Line). denies_memory l.entry) ls ms ∙ or_from (one_denies_memory ls) (one_denies_memory ms) p q

pub added_none : (lines : List Line) → AddsGranted lines lines []
added_none lines = (sym (append-nil lines), refl)

pub added_then : (a b c ls ms : List Line) → AddsGranted a b ls → AddsGranted b c ms → AddsGranted a c (ls ++ ms)
added_then a b c ls ms p q = (q.0 ∙ ap (λ xs. xs ++ ms) p.0 ∙ append_assoc a ls ms, both_grant ls ms p.1 q.1)
