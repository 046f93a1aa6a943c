-- Words of a line, and what they stand for where printing made them.
use native.Mathlib.Omega.{arith}
use Rattle.std.proofs.Common.{◌≡◌, ℕ, suc, ◌+◌, ◌-◌, ◌≤◌, ◌==◌, Bool, true, List, [], ◌∷◌, ◌++◌, length, take, drop, Some, None, refl, ap, ◌∙◌, length-append, length-drop, not}
use Rattle.std.specs.List.{position, position_or_len, list_all}
use Rattle.std.proofs.lemmas.Bool.{and_parts}
use Rattle.std.proofs.lemmas.List.{take_all}
use Rattle.std.proofs.Math.Seq.{take-append_seam}
use Rattle.std.proofs.lemmas.Grind.{common_steps}
use Rattle.std.proofs.lemmas.Bool.Decides.{nat_tests}
use Rattle.trace.specs.Words.{word, behind}

-- the index of the first space
abbrev place : List ℕ → ℕ
place text = position_or_len (λ b. b == 32) text

-- what comes before the first space, and after it
space_at : (text : List ℕ) (at : ℕ) → position (λ b. b == 32) text ≡ Some at → (take at text ≡ word text) × (take (length text - (at + 1)) (drop (at + 1) text) ≡ behind text)
space_at text at h =
    let same : at ≡ place text = grind (arith, h) in (
      ap (λ i. take i text) same,
      take_all (length text - (at + 1)) (drop (at + 1) text) (omega (arith, length-drop (at + 1) text)) ∙ ap (λ i. drop (i + 1) text) same,
    )

pub before_space : (text : List ℕ) (at : ℕ) → position (λ b. b == 32) text ≡ Some at → take at text ≡ word text
before_space text at h = (space_at text at h).0

pub behind_space : (text : List ℕ) (at : ℕ) → position (λ b. b == 32) text ≡ Some at → take (length text - (at + 1)) (drop (at + 1) text) ≡ behind text
behind_space text at h = (space_at text at h).1

-- without a space the text is one word
pub one_word : (text : List ℕ) → position (λ b. b == 32) text ≡ None → text ≡ word text
one_word text h =
    let all : length text ≤ place text = grind (arith, nat_tests, h) in
    grind (arith, common_steps)

pub none_behind : (text : List ℕ) → position (λ b. b == 32) text ≡ None → [] ≡ behind text
none_behind text h =
    let all : length text ≤ place text = grind (arith, nat_tests, h) in
    grind (arith, common_steps)

pub ruleset space_rules = (before_space, behind_space, one_word, none_behind)

-- ---- words that were printed

-- it has no space
abbrev pub is_clean : List ℕ → Bool
is_clean w = list_all (λ b. not (b == 32)) w

place_space : (w rest : List ℕ) → is_clean w ≡ true → place (w ++ 32 ∷ rest) ≡ length w
place_space [] rest h = refl
place_space (b ∷ bs) rest h =
    let p = and_parts (not (b == 32)) (is_clean bs) h in
    rw p.0 (omega (arith, place_space bs rest p.1))

place_none : (w : List ℕ) → is_clean w ≡ true → place w ≡ length w
place_none [] h = refl
place_none (b ∷ bs) h =
    let p = and_parts (not (b == 32)) (is_clean bs) h in
    rw p.0 (omega (arith, place_none bs p.1))

drop_after : (w : List ℕ) (b : ℕ) (rest : List ℕ) → drop (length w + 1) (w ++ b ∷ rest) ≡ rest
drop_after [] b rest = refl
drop_after (c ∷ cs) b rest =
    let next : length (c ∷ cs) + 1 ≡ suc (length cs + 1) = omega arith in
    ap (λ n. drop n (c ∷ cs ++ b ∷ rest)) next ∙ drop_after cs b rest

-- a word and what follows its space
pub word_back : (w rest : List ℕ) → is_clean w ≡ true → word (w ++ 32 ∷ rest) ≡ w
word_back w rest h = ap (λ i. take i (w ++ 32 ∷ rest)) (place_space w rest h) ∙ take-append_seam w (32 ∷ rest)

pub behind_back : (w rest : List ℕ) → is_clean w ≡ true → behind (w ++ 32 ∷ rest) ≡ rest
behind_back w rest h = ap (λ i. drop (i + 1) (w ++ 32 ∷ rest)) (place_space w rest h) ∙ drop_after w 32 rest

-- the last word
pub last_word : (w : List ℕ) → is_clean w ≡ true → word w ≡ w
last_word w h = ap (λ i. take i w) (place_none w h) ∙ take_all (length w) w (omega arith)

pub last_behind : (w : List ℕ) → is_clean w ≡ true → behind w ≡ []
last_behind w h = ap (λ i. drop (i + 1) w) (place_none w h) ∙ grind (arith, common_steps)

-- how long two words are with their space
pub joined_len : (w rest : List ℕ) → length (w ++ 32 ∷ rest) ≡ length w + 1 + length rest
joined_len w rest = omega (arith, length-append w (32 ∷ rest))
