-- Names that are found by a number.
use Rattle.std.proofs.Common.{◌≡◌, ◌≢◌, ℕ, ◌<◌, ◌≤◌, ◌^◌, Bool, true, false, cond, ◌&&◌, nat_le, nat_lt, ◌==◌, List, [], ◌∷◌, ◌++◌, length, Option, Some, None, is_some, option_map, Decides, Bor, refl, ap, sym, ◌∙◌, arith, nat_cmp, Less, Equal, Greater}
use Rattle.std.specs.Prelude.{bytes_eq, find}
use Rattle.std.specs.Option.{option_or, option_copied}
use Rattle.std.specs.Ordering.{is_eq}
use Rattle.std.specs.BTreeMap.{is_at}
use Rattle.std.specs.List.{list_all}
use Rattle.std.proofs.lemmas.Bool.{and_parts, cases_Bool, ne_eqb}
use Rattle.std.proofs.lemmas.Bool.Decides.{nat_tests}
use Rattle.std.proofs.Math.Nat.{pow-le-pow_right}
use Rattle.std.proofs.lemmas.List.Folds.{find-append}
use Rattle.std.proofs.lemmas.Slice.Eq.{bytes_eq-Decides}
use Rattle.text.specs.declared.names.Definition.{Definition}
use Rattle.text.specs.Words.{is_letter, is_name, is_name_byte}
use Rattle.text.specs.Names.{defined, key_of}

-- a number of fewer bytes than all
pub key_below : (all : List ℕ) (b : ℕ) (rest : List ℕ) (k : ℕ) → all ≡ b ∷ rest → length all ≤ 16 → k < 256 ^ length rest → k < 256 ^ 15
key_below all b rest k is few small =
    let l = ap length is in
    let most : 256 ^ length rest ≤ 256 ^ 15 = let n : length rest ≤ 15 = omega (arith, l, few) in pow-le-pow_right (omega arith) n in
    omega (arith, most, small)

-- a byte of a name is a letter, a digit or `_`
name_byte : (b : ℕ) → is_name_byte b ≡ true → (48 ≤ b) × (b ≤ 122)
name_byte b h = (grind (arith, nat_tests, cases_Bool, h), grind (arith, nat_tests, cases_Bool, h))

letter_byte : (b : ℕ) → is_letter b ≡ true → is_name_byte b ≡ true
letter_byte b h = rw h refl

-- all bytes of a name are letters, digits or `_`
name_bytes : (n : List ℕ) → is_name n ≡ true → list_all is_name_byte n ≡ true
name_bytes [] h = absurd (cc)
name_bytes (b ∷ bs) h = by (is_letter b) (nat_le (length bs) 15) (list_all is_name_byte bs) (letter_byte b) h
  where
    by : (l s r : Bool) → (l ≡ true → is_name_byte b ≡ true) → (l && s && r) ≡ true → (is_name_byte b && r) ≡ true
    by true true true byte h = rw (byte refl) refl
    by true true false byte h = absurd (cc)
    by true false r byte h = absurd (cc)
    by false s r byte h = absurd (cc)

-- names with the same number are equal
key_same : (a b : List ℕ) → list_all is_name_byte a ≡ true → list_all is_name_byte b ≡ true → key_of a ≡ key_of b → a ≡ b
key_same [] [] h k e = refl
key_same [] (y ∷ ys) h k e =
    let at = name_byte y (and_parts (is_name_byte y) (list_all is_name_byte ys) k).0 in
    absurd (omega (arith, e, at.0))
key_same (x ∷ xs) [] h k e =
    let at = name_byte x (and_parts (is_name_byte x) (list_all is_name_byte xs) h).0 in
    absurd (omega (arith, e, at.0))
key_same (x ∷ xs) (y ∷ ys) h k e =
    let hs = and_parts (is_name_byte x) (list_all is_name_byte xs) h in
    let ks = and_parts (is_name_byte y) (list_all is_name_byte ys) k in
    let bx = name_byte x hs.0 in
    let by = name_byte y ks.0 in
    let first : x ≡ y = omega (arith, e, bx.0, bx.1, by.0, by.1) in
    let rest : key_of xs ≡ key_of ys = omega (arith, e, first) in
    ap (λ b. b ∷ xs) first ∙ ap (λ bs. y ∷ bs) (key_same xs ys hs.1 ks.1 rest)

-- a number finds no other name
at_other : (n q : ℕ) → n ≢ q → is_at (nat_cmp n) q ≡ false
at_other n q apart = by (nat_lt n q) (n == q) (ne_eqb n q apart)
  where
    by : (less same : Bool) → same ≡ false → is_eq (cond less Less (cond same Equal Greater)) ≡ false
    by true same h = refl
    by false false h = refl
    by false true h = h

-- ---- one more name

defined_more : (n : List ℕ) (ds : List Definition) (d : Definition) → defined n (ds ++ d ∷ []) ≡ option_or (defined n ds) (cond (bytes_eq d.name n) (Some d.number) None)
unfolding defined
defined_more n ds d = ap (option_map (λ (x : Definition). x.number)) (find-append (λ (x : Definition). bytes_eq x.name n) ds (d ∷ [])) ∙ by (find (λ (x : Definition). bytes_eq x.name n) ds) (bytes_eq d.name n)
  where
    by : (o : Option Definition) (b : Bool) → option_map (λ (x : Definition). x.number) (option_or o (cond b (Some d) None)) ≡ option_or (option_map (λ (x : Definition). x.number) o) (cond b (Some d.number) None)
    by None true = refl
    by None false = refl
    by (Some x) b = refl

-- a copy exists if the original exists
pub copied_some : (x : Option (Bor ℕ)) → is_some (option_copied x) ≡ is_some x
copied_some None = refl
copied_some (Some b) = refl

-- the number of a name stays if another name is added
none_more : (x : Option ℕ) → x ≡ option_or x None
none_more None = refl
none_more (Some k) = refl

-- a name that has a number keeps it
pub stood : (name n : List ℕ) (number : ℕ) (f : ℕ → Option ℕ) → is_some (f (key_of name)) ≡ true → f (key_of n) ≡ option_or (f (key_of n)) (cond (bytes_eq name n) (Some number) None)
stood name n number f found = by (bytes_eq name n) (bytes_eq-Decides name n)
  where
    some_more : (x y : Option ℕ) → is_some x ≡ true → x ≡ option_or x y
    some_more None y h = absurd (cc)
    some_more (Some k) y h = refl

    by : (b : Bool) → Decides b (name ≡ n) → f (key_of n) ≡ option_or (f (key_of n)) (cond b (Some number) None)
    by true d = some_more (f (key_of n)) (Some number) (ap (λ l. is_some (f (key_of l))) (sym (d.0 refl)) ∙ found)
    by false d = none_more (f (key_of n))

-- a name that has no number gets one
pub stands : (name n : List ℕ) (key number : ℕ) (f f' : ℕ → Option ℕ) → is_name name ≡ true → is_name n ≡ true → key ≡ key_of name → f key ≡ None → f' key ≡ Some number
    → ((q : ℕ) → is_at (nat_cmp key) q ≡ false → f' q ≡ f q) → f' (key_of n) ≡ option_or (f (key_of n)) (cond (bytes_eq name n) (Some number) None)
stands name n key number f f' is h key_is none here new = by (bytes_eq name n) (bytes_eq-Decides name n)
  where
    apart : (name ≡ n → false ≡ true) → key ≢ key_of n
    apart d e = absurd (let t = d (key_same name n (name_bytes name is) (name_bytes n h) (sym key_is ∙ e)) in cc)

    by : (b : Bool) → Decides b (name ≡ n) → f' (key_of n) ≡ option_or (f (key_of n)) (cond b (Some number) None)
    by true d =
        let same : key ≡ key_of n = key_is ∙ ap key_of (d.0 refl) in
        let was : f (key_of n) ≡ None = ap f (sym same) ∙ none in
        ap f' (sym same) ∙ here ∙ ap (λ x. option_or x (Some number)) (sym was)
    by false d = new (key_of n) (at_other key (key_of n) (apart d.1)) ∙ none_more (f (key_of n))

-- the number of a name after one more definition
pub defined_with : (n : List ℕ) (ds : List Definition) (d : Definition) (was : Option ℕ) → was ≡ defined n ds → option_or was (cond (bytes_eq d.name n) (Some d.number) None) ≡ defined n (ds ++ d ∷ [])
defined_with n ds d was e = ap (λ x. option_or x (cond (bytes_eq d.name n) (Some d.number) None)) e ∙ sym (defined_more n ds d)
