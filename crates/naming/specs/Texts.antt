-- The text that replaces a text.
use Rattle.std.specs.Prelude.{◌≡◌, ℕ, ◌==◌, ◌||◌, Bool, false, List, [], ◌∷◌, ◌++◌, All, flat_map, if◌then◌else◌}
use Rattle.naming.specs.Keys.{keys_named}
use Rattle.naming.specs.Letters.{type_named}
use Rattle.naming.specs.Lines.{IsOneLine, IsToldIf, Renamed, is_plain, kept, refused, sort_of}
use Rattle.naming.specs.Sets.{set_named}
use Rattle.wording.specs.Proses.{ProseView}
use Rattle.naming.specs.declared.line.Sort.{Sort}
use Rattle.naming.specs.declared.line.Sort.TheVariants.{Set, Key, Typed, Other}

-- ---- a line

-- A line `type` without a text is rejected. Other lines without names stay.
abbrev pub plain_renamed : Sort → List ℕ → Renamed
plain_renamed Set line = kept line
plain_renamed Key line = kept line
plain_renamed Typed line = refused line
plain_renamed Other line = kept line

abbrev pub renamed_by : Sort → List ℕ → Renamed
renamed_by Set line = set_named line
renamed_by Key line = keys_named line
renamed_by Typed line = type_named line
renamed_by Other line = kept line

-- the line that replaces a line
unfoldable pub renamed : List ℕ → Renamed
renamed line = if is_plain line then plain_renamed (sort_of line) line else renamed_by (sort_of line) line

-- ---- a text

-- a text in which lines replace lines; `begun` is the part of its first line that was read
abbrev pub named_from : List ℕ → List ℕ → List ℕ
named_from begun [] = (renamed begun).text
named_from begun (b ∷ bs) = if b == 10 then (renamed begun).text ++ b ∷ named_from [] bs else named_from (begun ++ b ∷ []) bs

-- the text with a number in place of each name, and bytes in place of keys and typed texts
unfoldable pub named_text : List ℕ → List ℕ
named_text text = named_from [] text

-- True if something in the text is rejected.
abbrev pub refused_from : List ℕ → List ℕ → Bool
refused_from begun [] = (renamed begun).is_refused
refused_from begun (b ∷ bs) = if b == 10 then (renamed begun).is_refused || refused_from [] bs else refused_from (begun ++ b ∷ []) bs

unfoldable pub is_refused : List ℕ → Bool
is_refused text = refused_from [] text

-- ---- the lines of a text

-- a line, the line that replaces it, and the messages about it
pub record NamedLine : Type 0 where
  pub line : List ℕ
  pub named : List ℕ
  pub told : List ℕ

-- One line replaces one line. There are no messages about it exactly if nothing in it is rejected.
pub record IsNamedLine (l : NamedLine) : Type 0 where
  pub given : IsOneLine l.line
  pub one_line : IsOneLine l.named
  pub is : l.named ≡ (renamed l.line).text
  pub quiet : (renamed l.line).is_refused ≡ false → l.told ≡ []
  pub loud : l.told ≡ [] → (renamed l.line).is_refused ≡ false

-- The line that replaces a line was added; and bytes were added to the messages exactly if something in it is rejected.
pub record AddsLine (line text text_then : List ℕ) (told told_then : ProseView) : Type 0 where
  pub given : IsOneLine line
  pub one_line : IsOneLine (renamed line).text
  pub text_is : text_then ≡ text ++ (renamed line).text
  pub told_is : IsToldIf (renamed line).is_refused told told_then

-- The text that replaces a text, by its lines: a line feed ends each but the last. There are no messages exactly if
-- nothing is rejected.
pub record IsNamed (text named told : List ℕ) : Type 0 where
  pub is : named ≡ named_text text
  pub quiet : is_refused text ≡ false → told ≡ []
  pub loud : told ≡ [] → is_refused text ≡ false
  pub lines : List NamedLine
  pub last : NamedLine
  pub each : All IsNamedLine lines
  pub last_line : IsNamedLine last
  pub text_is : text ≡ flat_map (λ l. l.line ++ 10 ∷ []) lines ++ last.line
  pub named_is : named ≡ flat_map (λ l. l.named ++ 10 ∷ []) lines ++ last.named
  pub told_is : told ≡ flat_map (λ l. l.told) lines ++ last.told
