-- The words of a memory of which some are kept.
use Rattle.std.proofs.Common.{◌≡◌, ℕ, ◌+◌, ◌-◌, ◌<◌, ◌≤◌, ◌∙◌, List, ◌++◌, length, length-set, take, drop, get_or, set, sym, ap, subst, arith, ℤ, pos}
use Rattle.std.specs.Prelude.{EachIndex, replicate}
use Rattle.std.proofs.lemmas.List.{set-append_left, replicate-append-replicate, append_assoc, take-append-drop, take_all, ext_get_or, get_or-replicate, length-append, length-replicate, length-take-le, length-drop}
use Rattle.umach.specs.Memories.{words_of}

-- a word that is kept
pub set_words : (xs : List ℤ) (i : ℕ) (v : ℤ) → i < length xs → words_of (set xs i v) ≡ set (words_of xs) i v
set_words xs i v l =
    ap (λ n. set xs i v ++ replicate (256 - n) (pos 0)) (length-set xs i v) ∙ sym (set-append_left xs (replicate (256 - length xs) (pos 0)) i v l)

-- more words are kept
pub more_words : (xs : List ℤ) (n : ℕ) → length xs ≤ n → n ≤ 256 → words_of (xs ++ replicate (n - length xs) (pos 0)) ≡ words_of xs
more_words xs n lo hi =
    let now : length (xs ++ replicate (n - length xs) (pos 0)) ≡ n = length-append xs _ ∙ ap (λ k. length xs + k) (length-replicate (n - length xs) (pos 0)) ∙ omega (arith, lo) in
    let joined : n - length xs + (256 - n) ≡ 256 - length xs = omega (arith, lo, hi) in
    ap (λ k. (xs ++ replicate (n - length xs) (pos 0)) ++ replicate (256 - k) (pos 0)) now
    ∙ append_assoc xs (replicate (n - length xs) (pos 0)) (replicate (256 - n) (pos 0))
    ∙ ap (λ ys. xs ++ ys) (replicate-append-replicate (n - length xs) (256 - n) (pos 0) ∙ ap (λ k. replicate k (pos 0)) joined)

-- a part that holds zeros alone
zeros : (xs : List ℤ) → EachIndex xs (λ k. get_or xs k (pos 0) ≡ pos 0) → xs ≡ replicate (length xs) (pos 0)
zeros xs each =
    ext_get_or (pos 0) xs (replicate (length xs) (pos 0)) (sym (length-replicate (length xs) (pos 0)))
    (λ i lt. each i lt ∙ sym (get_or-replicate (length xs) i (pos 0) (pos 0) lt))

-- all words after the first ones
tail : (xs : List ℤ) (n : ℕ) → take (length xs - n) (drop n xs) ≡ drop n xs
tail xs n = take_all (length xs - n) (drop n xs) (omega (arith, length-drop n xs))

-- the words after some of the stored ones are 0
fewer_words : (xs : List ℤ) (n : ℕ) → n ≤ length xs → length xs ≤ 256 → EachIndex (drop n xs) (λ k. get_or (drop n xs) k (pos 0) ≡ pos 0) → words_of xs ≡ words_of (take n xs)
fewer_words xs n few most each =
    let kept : length (take n xs) ≡ n = length-take-le n xs few in
    let rest : drop n xs ≡ replicate (length xs - length (take n xs)) (pos 0) =
    zeros (drop n xs) each ∙ ap (λ k. replicate k (pos 0)) (length-drop n xs ∙ ap (λ k. length xs - k) (sym kept)) in
    let whole : xs ≡ take n xs ++ replicate (length xs - length (take n xs)) (pos 0) = sym (take-append-drop n xs) ∙ ap (λ ys. take n xs ++ ys) rest in
    ap words_of whole ∙ more_words (take n xs) (length xs) (omega (arith, kept)) most

-- two memories of which the first words are the same, and the rest is 0
pub same_words : (xs ys : List ℤ) (n : ℕ) → n ≤ length xs → n ≤ length ys → length xs ≤ 256 → length ys ≤ 256 → take n xs ≡ take n ys
    → EachIndex (take (length xs - n) (drop n xs)) (λ k. get_or (take (length xs - n) (drop n xs)) k (pos 0) ≡ pos 0)
    → EachIndex (take (length ys - n) (drop n ys)) (λ k. get_or (take (length ys - n) (drop n ys)) k (pos 0) ≡ pos 0) → words_of xs ≡ words_of ys
same_words xs ys n lx ly mx my e zx zy =
    fewer_words xs n lx mx (subst (λ (ws : List ℤ). EachIndex ws (λ k. get_or ws k (pos 0) ≡ pos 0)) (tail xs n) zx)
    ∙ ap words_of e
    ∙ sym (fewer_words ys n ly my (subst (λ (ws : List ℤ). EachIndex ws (λ k. get_or ws k (pos 0) ≡ pos 0)) (tail ys n) zy))
