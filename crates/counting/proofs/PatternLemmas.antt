-- Words of a pattern that match words of a line.
use Rattle.std.proofs.Common.{◌≡◌, ℕ, ◌==◌, ◌||◌, ◌&&◌, true, List, [], ◌∷◌, Option, length, ap, sym}
use Rattle.wording.specs.declared.table.Kind.{Kind}
use Rattle.trace.specs.Words.{behind, word}
use Rattle.counting.specs.Patterns.{matches_front, matches_word, matches_from}

-- A pattern without words matches.
pub none_matches : (pattern : List ℕ) (kinds : List (Option Kind)) (line : List ℕ) → (length pattern == 0) ≡ true → true ≡ matches_front pattern kinds line
unfolding matches_front
none_matches pattern [] line none = sym none
none_matches pattern (kind ∷ kinds) line none = sym (ap (λ b. b || (matches_word (word pattern) kind (word line) && matches_front (behind pattern) kinds (behind line))) none)

-- A pattern that matches the first words matches the line.
pub front_matches : (pattern : List ℕ) (kinds : List (Option Kind)) (line : List ℕ) → matches_front pattern kinds line ≡ true → true ≡ matches_from pattern kinds line
unfolding matches_from
front_matches pattern [] line here = sym here
front_matches pattern (kind ∷ kinds) line here = sym (ap (λ b. b || matches_from pattern kinds (behind line)) here)
