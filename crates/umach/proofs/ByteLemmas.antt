-- Bytes put into the words of a memory, and read from them.
use Rattle.std.proofs.Common.{◌≡◌, ℕ, zero, suc, ◌+◌, ◌-◌, ◌<◌, ◌≤◌, ◌∙◌, min, List, [], ◌∷◌, ◌++◌, length, length-take, length-drop, get_or, set, take, drop, drop_of_length-le, drop-cons, refl, sym, ap, arith, add-one, ℤ, pos}
use Rattle.std.specs.Prelude.{map, replicate}
use Rattle.std.proofs.lemmas.List.{append_assoc, map-append, length-map, length-take-le, set-append_right, take-replicate, drop-replicate, take_more, take_min, drop_min}
use Rattle.posix.specs.Common.{stored}
use Rattle.umach.specs.Memories.{words_of}

-- one of them is put, and the rest after it
pub put_one : (address i : ℕ) (bytes : List ℕ) (memory : List ℤ) → i < length bytes
    → stored (address + i) (drop i bytes) memory ≡ stored (address + (i + 1)) (drop (i + 1) bytes) (set memory (address + i) (pos (get_or bytes i 0)))
unfolding stored
put_one address i bytes memory within =
    let left : drop i bytes ≡ get_or bytes i 0 ∷ drop (i + 1) bytes = rw add-one (drop-cons bytes i 0 within) in
    let next : (address + i) + 1 ≡ address + (i + 1) = omega arith in
    ap (λ bs. stored (address + i) bs memory) left ∙ ap (λ n. stored n (drop (i + 1) bytes) (set memory (address + i) (pos (get_or bytes i 0)))) next

-- all were put
pub put_all : (address i : ℕ) (bytes : List ℕ) (memory : List ℤ) → length bytes ≤ i → stored (address + i) (drop i bytes) memory ≡ memory
unfolding stored
put_all address i bytes memory over = ap (λ bs. stored (address + i) bs memory) (drop_of_length-le bytes over)

-- one more byte was filled in, before the zeros
pub fill_one : (f : ℤ → ℕ) (i : ℕ) (bytes : List ℕ) (words : List ℤ) → i < length words → length words ≤ 16 → bytes ≡ map f (take i words) ++ replicate (16 - i) 0
    → set bytes i (f (get_or words i (pos 0))) ≡ map f (take (i + 1) words) ++ replicate (16 - (i + 1)) 0
fill_one f i bytes words there few so_far =
    let b = f (get_or words i (pos 0)) in
    let len : length (map f (take i words)) ≡ i = length-map (take i words) f ∙ length-take-le i words (omega (arith, there)) in
    let zeros : 16 - i ≡ suc (16 - (i + 1)) = omega (arith, there, few) in
    let none : i - i ≡ 0 = omega arith in
    ap (λ bs. set bs i b) (so_far ∙ ap (λ n. map f (take i words) ++ replicate n 0) zeros)
    ∙ set-append_right (map f (take i words)) (0 ∷ replicate (16 - (i + 1)) 0) i i b len (omega arith)
    ∙ ap (λ n. map f (take i words) ++ set (0 ∷ replicate (16 - (i + 1)) 0) n b) none
    ∙ sym (append_assoc (map f (take i words)) (b ∷ []) (replicate (16 - (i + 1)) 0))
    ∙ ap (λ bs. bs ++ replicate (16 - (i + 1)) 0) (sym (ap (map f) (take_more words i (pos 0) there) ∙ map-append f (take i words) (get_or words i (pos 0) ∷ [])))

-- the bytes of zeros are zeros
zero_bytes : (f : ℤ → ℕ) (c : ℕ) → f (pos 0) ≡ 0 → replicate c 0 ≡ map f (replicate c (pos 0))
zero_bytes f zero none = refl
zero_bytes f (suc c) none = ap (λ b. b ∷ replicate c 0) (sym none) ∙ ap (λ bs. f (pos 0) ∷ bs) (zero_bytes f c none)

-- the first words, followed by zeros, give the bytes of the stored words, followed by zeros
first_bytes : (f : ℤ → ℕ) (c m n : ℕ) (words : List ℤ) → f (pos 0) ≡ 0 → c ≤ length words + m → c ≤ length words + n
    → take c (map f (take c words) ++ replicate m 0) ≡ map f (take c (words ++ replicate n (pos 0)))
first_bytes f zero m n words none more most = refl
first_bytes f (suc c) m n [] none more most =
    take-replicate (suc c) m 0 (omega (arith, more)) ∙ zero_bytes f (suc c) none ∙ ap (map f) (sym (take-replicate (suc c) n (pos 0) (omega (arith, most))))
first_bytes f (suc c) m n (w ∷ words) none more most = ap (λ bs. f w ∷ bs) (first_bytes f c m n words none (omega (arith, more)) (omega (arith, most)))

-- the words from an address on
drop_kept : (a n : ℕ) (words : List ℤ) → drop a (words ++ replicate n (pos 0)) ≡ drop a words ++ replicate (n - (a - length words)) (pos 0)
drop_kept zero n words = ap (λ k. words ++ replicate k (pos 0)) (omega arith)
drop_kept (suc a) n [] = drop-replicate (suc a) n (pos 0) ∙ ap (λ k. replicate k (pos 0)) (omega arith)
drop_kept (suc a) n (w ∷ words) = drop_kept a n words ∙ ap (λ k. drop a words ++ replicate k (pos 0)) (omega arith)

-- the kept words of a span
pub kept_span : (a c : ℕ) (words : List ℤ) → take (min (a + c) (length words) - min a (length words)) (drop (min a (length words)) words) ≡ take c (drop a words)
kept_span a c words =
    let count : min (a + c) (length words) - min a (length words) ≡ min c (length (drop a words)) = omega (arith, length-drop a words) in
    ap (λ n. take n (drop (min a (length words)) words)) count ∙ ap (take (min c (length (drop a words)))) (drop_min a words) ∙ take_min c (drop a words)

-- the bytes of a span are those of its stored words, followed by zeros
pub span_bytes : (f : ℤ → ℕ) (a c : ℕ) (words : List ℤ) → f (pos 0) ≡ 0 → c ≤ 16 → a + c ≤ 256 → length words ≤ 256
    → take c (map f (take c (drop a words)) ++ replicate (16 - length (take c (drop a words))) 0) ≡ map f (take c (drop a (words_of words)))
span_bytes f a c words none few within kept =
    let n = 256 - length words in
    first_bytes f c (16 - length (take c (drop a words))) (n - (a - length words)) (drop a words) none (omega (arith, few, length-take c (drop a words), length-drop a words)) (omega (arith, within, kept, length-drop a words))
    ∙ ap (λ ws. map f (take c ws)) (sym (drop_kept a n words))
