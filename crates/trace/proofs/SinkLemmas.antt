-- Laws of what a sink took.
use Rattle.std.proofs.Common.{◌≡◌, ℕ, ◌+◌, ◌-◌, ◌%◌, ◌^◌, ◌<◌, ◌≤◌, true, List, [], ◌++◌, length, take, drop, subst, ap, sym, ◌∙◌, append_assoc, append-nil, length-take, length-drop, arith, Ok}
use Rattle.std.proofs.lemmas.List.{take_all, take-append-drop, drop-take}
use Rattle.std.proofs.lemmas.Grind.{common_steps}
use Rattle.std.proofs.lemmas.Bool.Decides.{nat_tests}
use Rattle.std.specs.Io.KnownBytes.{Appends}
use Rattle.std.proofs.KnownBytes.{Appends-trans}
use Rattle.trace.specs.Sinks.{Seen, TakesAll, BreaksOff, Gathers, failures_after, is_failure}

-- ---- puts of the rest of a slice

-- the first i bytes, and n of the rest, are the first i + n
pub slice_more : (bs : List ℕ) (i n : ℕ) → i + n ≤ length bs → take i bs ++ take n (take (length bs - i) (drop i bs)) ≡ take (i + n) bs
slice_more bs i n h =
    let all : take (length bs - i) (drop i bs) ≡ drop i bs = take_all (length bs - i) (drop i bs) (omega (arith, length-drop i bs)) in
    let front : take i (take (i + n) bs) ≡ take i bs = grind (arith, common_steps) in
    rw (all, ← drop-take, ← front) (take-append-drop i (take (i + n) bs))

-- a put takes no more than is left of the slice
pub put_fits : (bs : List ℕ) (i n : ℕ) → n ≤ length (take (length bs - i) (drop i bs)) → i ≤ length bs → i + n ≤ length bs
put_fits bs i n h le = omega (arith, length-take (length bs - i) (drop i bs), length-drop i bs)

-- a put that took something didn't fail
pub some_taken : (old n : ℕ) (bs : List ℕ) → (n ≡ 0 → ⊥) → failures_after {E = ℕ} old (Ok n) bs ≡ old
some_taken old n bs h = grind (arith, nat_tests)

-- a put that took nothing of something failed
pub none_counted : (old n : ℕ) (bs : List ℕ) (i : ℕ) → n ≡ 0 → i < length bs → failures_after {E = ℕ} old (Ok n) (take (length bs - i) (drop i bs)) ≡ (old + 1) % 2 ^ 64
none_counted old n bs i h lt =
    let some : 0 < length (take (length bs - i) (drop i bs)) = omega (arith, length-take (length bs - i) (drop i bs), length-drop i bs) in
    grind (arith, nat_tests)

-- such a put is a failure
pub none_fails : (n : ℕ) (bs : List ℕ) (i : ℕ) → n ≡ 0 → i < length bs → is_failure {E = ℕ} (Ok n) (take (length bs - i) (drop i bs)) ≡ true
none_fails n bs i h lt =
    let some : 0 < length (take (length bs - i) (drop i bs)) = omega (arith, length-take (length bs - i) (drop i bs), length-drop i bs) in
    grind (arith, nat_tests)

-- puts that didn't fail, of i bytes, and then one that did
pub failed_at : (a b c : Seen) (bs : List ℕ) (i : ℕ) → b.failures ≡ a.failures → c.failures ≡ (b.failures + 1) % 2 ^ 64 → c.last_failed ≡ true →
    Appends a.taken c.taken (take i bs) → BreaksOff a c bs
failed_at a b c bs i no_failure counted last p = record {
  front = take i bs;
  rest = drop i bs;
  split = grind (arith, common_steps);
  taken = p;
  counted = counted ∙ ap (λ (n : ℕ). (n + 1) % 2 ^ 64) no_failure;
  last = last;
}

-- ---- bytes that wait

-- bytes gathered, and then more, are gathered one after the other
pub gathers_then : (a b c : Seen) (p q r xs ys : List ℕ) → Gathers a p b q xs → Gathers b q c r ys → Gathers a p c r (xs ++ ys)
gathers_then a b c p q r xs ys g h = record {
  front = g.front ++ h.front;
  split = sym (append_assoc p xs ys) ∙ ap (λ (l : List ℕ). l ++ ys) g.split ∙ append_assoc g.front q ys
      ∙ ap (λ (l : List ℕ). g.front ++ l) h.split ∙ sym (append_assoc g.front h.front r);
  taken = Appends-trans a.taken b.taken c.taken g.front h.front g.taken h.taken;
  no_failure = h.no_failure ∙ g.no_failure;
}

-- where bytes are gathered, and those after them break off, all break off
pub gathers_break : (a b c : Seen) (p q xs ys : List ℕ) → Gathers a p b q xs → BreaksOff b c (q ++ ys) → BreaksOff a c (p ++ (xs ++ ys))
gathers_break a b c p q xs ys g h = record {
  front = g.front ++ h.front;
  rest = h.rest;
  split = sym (append_assoc p xs ys) ∙ ap (λ (l : List ℕ). l ++ ys) g.split ∙ append_assoc g.front q ys
      ∙ ap (λ (l : List ℕ). g.front ++ l) h.split ∙ sym (append_assoc g.front h.front h.rest);
  taken = Appends-trans a.taken b.taken c.taken g.front h.front g.taken h.taken;
  counted = h.counted ∙ ap (λ (n : ℕ). (n + 1) % 2 ^ 64) g.no_failure;
  last = h.last;
}

-- what follows the bytes that were cut short doesn't matter
pub break_on : (a b : Seen) (xs ys : List ℕ) → BreaksOff a b xs → BreaksOff a b (xs ++ ys)
break_on a b xs ys g = record {
  front = g.front;
  rest = g.rest ++ ys;
  split = ap (λ (l : List ℕ). l ++ ys) g.split ∙ append_assoc g.front g.rest ys;
  taken = g.taken;
  counted = g.counted;
  last = g.last;
}

-- all that waited is put
pub flush_takes : (a b c : Seen) (q xs : List ℕ) → Gathers a [] b q xs → TakesAll b c q → TakesAll a c xs
flush_takes a b c q xs g h = record {
  taken = subst (Appends a.taken c.taken) (sym g.split) (Appends-trans a.taken b.taken c.taken g.front q g.taken h.taken);
  no_failure = h.no_failure ∙ g.no_failure;
}

-- or what waited breaks off
pub flush_breaks : (a b c : Seen) (q xs : List ℕ) → Gathers a [] b q xs → BreaksOff b c q → BreaksOff a c xs
flush_breaks a b c q xs g h =
    subst (BreaksOff a c) (append-nil xs) (gathers_break a b c [] q xs [] g (subst (BreaksOff b c) (sym (append-nil q)) h))
