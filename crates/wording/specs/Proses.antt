-- Texts that grow.
use Rattle.std.specs.Prelude.{◌≡◌, ℕ, Bool, true, List, [], ◌++◌, Option, None, Some, codes}

-- the bytes of a text, and whether it has all its pieces
pub record ProseView : Type 0 where
  pub text : List ℕ
  pub is_whole : Bool

-- Bytes were added, possibly none.
abbrev pub Grows : List ℕ → List ℕ → Type 0
Grows old new = (more : List ℕ) × (new ≡ old ++ more)

-- A piece was added, unless the text lacks a piece now. The old bytes stay in any case.
abbrev pub Adds : List ℕ → ProseView → ProseView → Type 0
Adds piece old new = (new.is_whole ≡ true → (old.is_whole ≡ true) × (new.text ≡ old.text ++ piece)) × Grows old.text new.text

-- the question whether a close name is intended, if there is such a name
abbrev pub meant : Option (List ℕ) → List ℕ
meant None = []
meant (Some name) = (codes "; did you mean " ++ name) ++ codes "?"
