-- Bytes that are written after others.
use Rattle.std.proofs.Common.{ℕ, ◌+◌, ◌%◌, ◌^◌, List, ◌++◌, ap, sym, ◌∙◌, append_assoc, Result, Ok, Err}
use Rattle.std.specs.Prelude.{OnErr, OnOk}
use Rattle.std.proofs.KnownBytes.{Appends-trans}
use Rattle.trace.specs.Sinks.{BreaksOff, Seen, TakesAll}

takes_then_breaks : (a b c : Seen) (xs ys : List ℕ) → TakesAll a b xs → BreaksOff b c ys → BreaksOff a c (xs ++ ys)
takes_then_breaks a b c xs ys t u = record {
  front = xs ++ u.front;
  rest = u.rest;
  split = ap (λ (l : List ℕ). xs ++ l) u.split ∙ sym (append_assoc xs u.front u.rest);
  taken = Appends-trans a.taken b.taken c.taken xs u.front t.taken u.taken;
  counted = u.counted ∙ ap (λ (n : ℕ). (n + 1) % 2 ^ 64) t.no_failure;
  last = u.last;
}

-- if some bytes were written, and the bytes after them break off, all break off
pub break_behind : {T E : Type 0} (r : Result T E) (a b c : Seen) (xs ys : List ℕ) → TakesAll a b xs → OnErr r (BreaksOff b c ys) → OnErr r (BreaksOff a c (xs ++ ys))
break_behind (Ok done) a b c xs ys t u = tt
break_behind (Err e) a b c xs ys t u = takes_then_breaks a b c xs ys t u

-- if these are written, too, all are written
pub take_behind : {T E : Type 0} (r : Result T E) (a b c : Seen) (xs ys : List ℕ) → TakesAll a b xs → OnOk r (TakesAll b c ys) → OnOk r (TakesAll a c (xs ++ ys))
take_behind (Ok done) a b c xs ys t u = record { taken = Appends-trans a.taken b.taken c.taken xs ys t.taken u.taken; no_failure = u.no_failure ∙ t.no_failure }
take_behind (Err e) a b c xs ys t u = tt
