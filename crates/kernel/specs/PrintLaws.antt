-- What lines print, and lines with others after them.
use Rattle.std.proofs.Common.{◌≡◌, ℕ, ◌+◌, List, [], ◌++◌, append-nil, refl, cond, arith}
use Rattle.std.proofs.KnownBytes.{Appends-nil}
use Rattle.std.proofs.lemmas.List.Concat.{flat_map-append}
use Rattle.std.proofs.lemmas.List.Sums.{sum_by-append}
use Rattle.posix.specs.Common.{Line, reported, reports_end, print, print_line}
use Rattle.trace.specs.Sinks.{Seen, Gathers, BreaksOff}
use Rattle.trace.proofs.SinkLemmas.{gathers_then, gathers_break}
use Rattle.kernel.specs.Progress.{Prints}

-- lines and those after them print as the one text and then the other
pub print_then : (ls ms : List Line) → print (ls ++ ms) ≡ print ls ++ print ms
print_then ls ms = flat_map-append print_line ls ms

-- lines and those after them report the terminations of both
pub reported_then : (ls ms : List Line) → reported (ls ++ ms) ≡ reported ls + reported ms
reported_then ls ms = sum_by-append (λ (l : Line). cond (reports_end l.entry) 1 0) ls ms

-- no lines are printed
pub prints_none : (a : Seen) (p : List ℕ) (n : ℕ) → Prints a p n a p n []
prints_none a p n = record { gathered = record { front = []; split = append-nil p; taken = Appends-nil a.taken; no_failure = refl }; counted = λ small. omega arith }

-- lines are printed, and then those after them
pub prints_then : (a b c : Seen) (p q r : List ℕ) (f g h : ℕ) (ls ms : List Line) → Prints a p f b q g ls → Prints b q g c r h ms → Prints a p f c r h (ls ++ ms)
prints_then a b c p q r f g h ls ms w v = record {
  gathered = rw print_then (gathers_then a b c p q r (print ls) (print ms) w.gathered v.gathered);
  counted = λ small.
      let both = reported_then ls ms in
      let first = w.counted (omega (arith, small, both)) in
      omega (arith, both, first, v.counted (omega (arith, small, both, first)));
}

-- or those after them break off
pub lines_break : (a b c : Seen) (p q : List ℕ) (ls ms : List Line) → Gathers a p b q (print ls) → BreaksOff b c (q ++ print ms) → BreaksOff a c (p ++ print (ls ++ ms))
lines_break a b c p q ls ms w v = rw print_then (gathers_break a b c p q (print ls) (print ms) w v)
