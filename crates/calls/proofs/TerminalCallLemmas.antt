-- Calls on the controlling terminal.
use Rattle.std.proofs.Common.{◌≡◌, ◌≢◌, ℕ, Bool, true, false, cond, not, ◌&&◌, ◌==◌, is_some, refl, ap, sym, ◌∙◌, arith, Some, None, ℤ, pos, negsuc, ◌≤◌, zero, suc, length-take, List, [], ◌∷◌, ◌++◌, length, take, slice_get, slice_set}
use Rattle.std.specs.Option.{IsSome}
use Rattle.std.proofs.lemmas.Bool.{eqb-true}
use Rattle.posix.specs.declared.call.Call.TheVariants.{Tcsetpgrp, Read}
use Rattle.posix.specs.declared.errno.Errno.TheVariants.{EPERM}
use Rattle.posix.specs.Common.{Process, Console, console_of, with_foreground, changed_console, lines_left, line_taken, State, process, change, IsRegular, AreConsoles, Attempted, finish_with, refused, is_group_of, change_console, may_acquire, put_foreground, finish_moved, with_bytes, read_from}
use Rattle.life.specs.declared.caller.Caller.{Caller}
use Rattle.life.specs.Callers.{caller_of}
use Rattle.posix.proofs.ResultLemmas.{there}
use Rattle.calls.specs.Terminals.{natural_in, first_bytes}
use Rattle.posix.specs.declared.call.Call.{Call}
use Rattle.posix.specs.declared.entry.Entry.{Entry}
use Rattle.posix.specs.declared.entry.Entry.TheVariants.{Moved}
use Rattle.posix.specs.declared.process.Blocked.TheVariants as blocked
use Rattle.posix.specs.declared.span.Span.{Span}
use Rattle.posix.specs.Outcomes as outcome
use Rattle.posix.proofs.ConsoleLemmas.{place_of, changed_at_place}
use Rattle.tty.specs.Lines.{TakesLine}
use Rattle.calls.specs.declared.outcome.Attempt.{Attempt}
use Rattle.calls.specs.declared.outcome.Attempt.TheVariants as came
use Rattle.calls.specs.Outcomes.{Comes}

-- a caller is in a session
pub in_session : (s : State) (p : ℕ) (me : Caller) → IsRegular s → IsSome (process s p) → ((r : Process) → process s p ≡ Some r → me ≡ caller_of r) → me.session ≢ 0
in_session s p me i here is = λ none.
    let it = there (process s p) here in
    let least = (i.bounded p it.what it.found).session_least in
    let same : it.what.session ≡ 0 = ap (λ (c : Caller). c.session) (sym (is it.what it.found)) ∙ none in
    omega (arith, least, same)

-- ---- setctty

-- a console that may be acquired is no session's terminal, and the session has none
pub acquirable : (s : State) (r : Process) (c : Console) → may_acquire s r c ≡ true → (console_of r.session s.consoles ≡ None) × (c.session ≡ 0)
acquirable s r c e = elim (console_of r.session s.consoles) as (λ o. (r.session == r.pid && (not (is_some o) && c.session == 0)) ≡ true → (o ≡ None) × (c.session ≡ 0)) [
  | None ↦ λ k. (refl, eqb-true c.session 0 (last (r.session == r.pid) (c.session == 0) k))
  | Some d ↦ λ k. absurd (never (r.session == r.pid) k)
] e
  where
    last : (a b : Bool) → (a && b) ≡ true → b ≡ true
    last true b k = k
    last false b k = absurd (cc)

    never : (a : Bool) → (a && false) ≡ true → ⊥
    never true k = absurd (cc)
    never false k = absurd (cc)

-- ---- tcsetpgrp

-- which process group becomes the foreground one if a register names one
abbrev pub foreground_or : State → Process → ℕ → Bool → Attempted
foreground_or s r g b = cond b (finish_with (change_console s r.session (with_foreground g)) r.pid Tcsetpgrp (pos 0)) (refused s r.pid Tcsetpgrp EPERM)

-- a number that is not negative is that of a group, which may have a member in the session
pub names_group : (s : State) (r : Process) (z : ℤ) (g : ℕ) (b : Bool) → natural_in z ≡ Some g → is_group_of r.session g s.processes ≡ b → put_foreground s r z ≡ foreground_or s r g b
names_group s r (pos n) g b e is = let same : n ≡ g = cc in rw (same, is) refl
names_group s r (negsuc n) g b e is = absurd (cc)

-- what was found of it
pub none_found : (b : Bool) (g : ℕ) → cond b (Some g) None ≡ None → b ≡ false
none_found true g e = absurd (cc)
none_found false g e = refl

-- ---- bytes between a process and its terminal

-- ---- bytes moved

-- at least one was moved, and shown
pub moved_is : (s n : State) (p : ℕ) (call : Call) (bytes : List ℕ) (z : ℤ) (xs ys : List Entry) (r : Attempt) → length bytes ≢ 0 → z ≡ pos (length bytes) → r ≡ came.Done → n ≡ outcome.finish s p ((0, z) ∷ [])
    → ys ≡ xs ++ Moved p call bytes ∷ [] → Comes s (finish_moved s p call bytes) r xs ys n
moved_is s n p call [] z xs ys r some value done state shown = absurd (some refl)
moved_is s n p call (b ∷ bs) z xs ys r some value done state shown = rw done (shown, state ∙ ap (λ x. outcome.finish s p ((0, x) ∷ [])) value)

-- it is done, whatever state that began in
pub moved_since : (s t u : State) (p : ℕ) (call : Call) (bytes : List ℕ) (r : Attempt) (xs ys : List Entry) (n : State) → Comes t (finish_moved u p call bytes) r xs ys n → Comes s (finish_moved u p call bytes) r xs ys n
moved_since s t u p call [] came.Done xs ys n h = h
moved_since s t u p call (x ∷ bs) came.Done xs ys n h = h
moved_since s t u p call bytes r xs ys n h = absurd h

-- ---- a read

-- without a line it has to wait
pub read_none : (s : State) (r : Process) (span : Span) (lines : List (List ℕ)) → first_bytes span.count lines ≡ None → read_from s r span lines ≡ outcome.Block blocked.Read
read_none s r span [] e = refl
read_none s r span (line ∷ rest) e = absurd (cc)

pub none_first : (n : ℕ) (lines : List (List ℕ)) → first_bytes n lines ≡ None → lines ≡ []
none_first n [] e = refl
none_first n (line ∷ rest) e = absurd (cc)

-- no more are read than it asks for
pub few_first : (n : ℕ) (lines : List (List ℕ)) (bytes : List ℕ) → first_bytes n lines ≡ Some bytes → length bytes ≤ n
few_first n [] bytes e = absurd (cc)
few_first n (line ∷ rest) bytes e = let same : take n line ≡ bytes = cc in let many : length (take n line) ≡ length bytes = ap length same in omega (arith, simp length-take at many)

-- the state after bytes of a line were read
abbrev pub after_read : State → Process → Span → List ℕ → State
after_read s r span bytes = change (change_console s r.session (line_taken span.count)) r.pid (with_bytes span.address bytes)

-- otherwise it moves bytes of the first
pub read_some : (s : State) (r : Process) (span : Span) (lines : List (List ℕ)) (bytes : List ℕ) → first_bytes span.count lines ≡ Some bytes
    → read_from s r span lines ≡ finish_moved (after_read s r span bytes) r.pid Read bytes
read_some s r span [] bytes e = absurd (cc)
read_some s r span (line ∷ rest) bytes e = let same : take span.count line ≡ bytes = cc in rw same refl

-- without a line nothing is taken
pub none_taken : (many n session : ℕ) (cs : List Console) (c : Console) → AreConsoles many cs → session ≢ 0 → console_of session cs ≡ Some c → c.lines ≡ [] → changed_console session (line_taken n) cs ≡ cs
unfolding line_taken
none_taken many n session cs c apart some e empty =
    let at = place_of session cs c e in
    changed_at_place many cs at.place session c (line_taken n) apart at.found at.own some
    ∙ ap (λ (d : Console). slice_set cs at.place d) (same c empty) ∙ put_same cs at.place c at.found
  where
    same : (d : Console) → d.lines ≡ [] → line_taken n d ≡ d
    same d k = ap (λ (ls : List (List ℕ)). record d { lines = lines_left n ls }) k ∙ sym (ap (λ (ls : List (List ℕ)). record d { lines = ls }) k)

    put_same : (ds : List Console) (k : ℕ) (d : Console) → slice_get ds k ≡ Some d → slice_set ds k d ≡ ds
    put_same [] k d f = absurd (cc)
    put_same (x ∷ xs) zero d f = let is : x ≡ d = cc in ap (λ (y : Console). y ∷ xs) (sym is)
    put_same (x ∷ xs) (suc k) d f = ap (λ ys. x ∷ ys) (put_same xs k d f)

-- ---- bytes of a line in the front of a slice

-- they are as many as the call says
pub as_many : (lines : List (List ℕ)) (before after : List ℕ) (count : ℕ) → TakesLine lines before after count → length after ≡ length before → count ≡ length (take count after)
as_many lines before after count h same =
    let number = h.number in
    simp length-take (omega (arith, number, same))

-- they are the first bytes of the first line
pub are_first : (lines : List (List ℕ)) (before after : List ℕ) (count most : ℕ) → TakesLine lines before after count → length before ≡ most → Some (take count after) ≡ first_bytes most lines
are_first lines before after count most h size =
    ap Some (h.bytes ∙ ap (λ n. take n h.line) size) ∙ sym (ap (first_bytes most) h.is)

-- a process keeps its number as bytes are put into its words
pub pid_with_bytes : (address : ℕ) (bytes : List ℕ) (r : Process) → (with_bytes address bytes r).pid ≡ r.pid
unfolding with_bytes
pid_with_bytes address bytes r = refl
