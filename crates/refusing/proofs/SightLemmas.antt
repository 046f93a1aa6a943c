-- Words of a line.
use Rattle.std.proofs.Common.{◌≡◌, ℕ, ◌<◌, zero, suc, List, [], length, refl, ap, ◌∙◌, arith}
use Rattle.std.proofs.lemmas.List.{nil_from_length}
use Rattle.text.specs.Words.{behind_word, from_word}
use Rattle.refusing.specs.Sights.{behind_words}

-- nothing follows any number of words of an empty text
pub behind_nothing : (count : ℕ) → behind_words count [] ≡ []
behind_nothing zero = refl
behind_nothing (suc count) = behind_nothing count

no_word : (text : List ℕ) → length (from_word text) ≡ 0 → behind_word text ≡ []
no_word text e = let none = nil_from_length (from_word text) e in rw none refl

pub behind_no_word : (count : ℕ) (text : List ℕ) → 0 < count → length (from_word text) ≡ 0 → behind_words count text ≡ []
behind_no_word zero text some e = absurd (omega (arith, some))
behind_no_word (suc count) text some e = ap (behind_words count) (no_word text e) ∙ behind_nothing count
