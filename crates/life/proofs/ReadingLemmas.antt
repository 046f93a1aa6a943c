-- How many wait to read from a console: no more than are in its foreground process group.
use Rattle.std.proofs.Common.{◌≡◌, ℕ, ◌≤◌, ◌==◌, true, false, cond, not, ◌&&◌, ◌||◌, Option, None, refl, ap, sym, ◌∙◌, arith, List, [], ◌∷◌, length, Some, slice_get, Result, Ok, Err}
use Rattle.std.proofs.lemmas.Bool.{eq-eqb, ne_eqb, or_right, and_parts, not-true, not-false, false_from_ne_true, true_from_ne_false, both_ways}
use Rattle.std.proofs.lemmas.Option.{same_Some}
use Rattle.posix.specs.declared.errno.Errno.{Errno}
use Rattle.posix.specs.declared.span.Span.{Span}
use Rattle.posix.specs.declared.process.Blocked.{Blocked}
use Rattle.posix.specs.declared.process.Blocked.TheVariants as blocked
use Rattle.posix.specs.Common.{Process, argument, lookup, is_member, members_in, State, is_in, without, Console, span_in, is_in_read, waits_in, waits_on, waits_to_read, IsRegular, IsDistinct, NoWakeIsLost}
use Rattle.life.specs.Rechecks.{NeedNoChild, WaitForNoChild, is_in_wait}
use Rattle.posix.proofs.MemberLemmas.{in_first, is_other}
use Rattle.posix.proofs.OrderLemmas.{without_absent, one_less_at_most}
use Rattle.posix.proofs.ConsoleLemmas.{console_is}
use Rattle.pidset.specs.Indexes.{is_pair_in}
use Rattle.pidset.specs.Lists.{ListsView}
use Rattle.pidset.specs.Numbers.{Rises}
use Rattle.pidset.proofs.NumberLemmas.{not_in_above, rises_without}
use Rattle.life.specs.Machines.{IsWatched}
use Rattle.life.proofs.ConsoleLemmas.{reader_is, reads_on}

-- ---- members of a process group

-- p is the number of a member
pub record IsMember (group : ℕ) (rs : List Process) (p : ℕ) : Type 0 where
  pub what : Process
  pub found : lookup p rs ≡ Some what
  pub member : is_member group what ≡ true

rises_distinct : (ns : List ℕ) → Rises ns → IsDistinct ns
unfolding Rises IsDistinct
rises_distinct [] up = tt
rises_distinct (n ∷ ns) up = (not_in_above n n ns (omega arith) up.0, rises_distinct ns up.1)

-- a rising list of numbers of members is no longer than the list of members
pub few_members : (group : ℕ) (rs : List Process) (ns : List ℕ) → Rises ns → ((q : ℕ) → is_in q ns ≡ true → IsMember group rs q) → length ns ≤ length (members_in group rs)
unfolding lookup members_in
few_members group [] [] up h = omega arith
few_members group [] (n ∷ ns) up h = absurd (let nobody = (h n (in_first n ns)).found in cc)
few_members group (r ∷ rs) ns up h =
    let rest = few_members group rs (without r.pid ns) (rises_without r.pid ns up) behind in
    grind (arith, rest, one_less_at_most r.pid ns (rises_distinct ns up), λ (e : is_member group r ≡ false). ap length (without_absent r.pid ns (false_from_ne_true _ (λ on. both_ways _ e (first on)))))
  where
    behind : (q : ℕ) → is_in q (without r.pid ns) ≡ true → IsMember group rs q
    behind q e =
        let k = is_other r.pid q ns e in
        let it = h q k.among in
        record { what = it.what; found = ap (λ b. cond b (Some r) (lookup q rs)) (sym (ne_eqb r.pid q (λ same. k.apart (sym same)))) ∙ it.found; member = it.member }

    first : is_in r.pid ns ≡ true → is_member group r ≡ true
    first on =
        let it = h r.pid on in
        ap (is_member group) (same_Some _ _ (ap (λ b. cond b (Some r) (lookup r.pid rs)) (sym (eq-eqb r.pid r.pid refl)) ∙ it.found)) ∙ it.member

-- ---- readers

-- a process that waits for a line is in the foreground
in_foreground : (me : Process) (c : Console) (span : Result Span Errno) → waits_in me c span ≡ true → (me.group == c.foreground) ≡ true
in_foreground me c (Err why) w = absurd (cc)
in_foreground me c (Ok span) w = not-false _ (not-true _ (and_parts (not (not (me.group == c.foreground))) (not (span.count == 0) && (not c.hung_up && length c.lines == 0)) w).0)

-- If each runnable process is in the run queue, a known reader of a session's terminal that need not be rechecked is a
-- member of its foreground process group: a read in the background doesn't block.
reader_member : {readers : ListsView} (s : State) (to_recheck : List ℕ) (k p : ℕ) (c : Console) → IsRegular s → IsWatched s to_recheck readers → NoWakeIsLost s → slice_get s.consoles k ≡ Some c
    → is_pair_in c.session p readers.pairs ≡ true → is_in p to_recheck ≡ false → IsMember c.foreground s.processes p
unfolding waits_to_read
reader_member s to_recheck k p c i h awake at on off =
    let w = h.waits c.session p on off in
    let it = reader_is c.session w.reader w.reads in
    let some = (i.bounded p w.reader w.found).session_least in
    let own = console_is s.world.consoles s.consoles k w.reader.session c i.consoles at (sym it.own) (λ none. omega (arith, none, some)) in
    let waits : waits_to_read s.consoles w.reader ≡ true = true_from_ne_false _ (λ e. both_ways _ w.out (awake p w.reader w.found (reads_on s w.reader it.runs it.visits e))) in
    let here = in_foreground w.reader c (span_in (argument w.reader 1) (argument w.reader 2)) (ap (waits_on w.reader) (sym own) ∙ waits) in
    record { what = w.reader; found = w.found; member = here }

-- if the recheck list was empty, it then has exactly the processes known to read from the console
pub readers_wait : {readers : ListsView} (s : State) (before ns : List ℕ) (k : ℕ) (c : Console) → IsRegular s → IsWatched s before readers → NoWakeIsLost s → before ≡ [] → slice_get s.consoles k ≡ Some c
    → Rises ns → ((p : ℕ) → is_in p ns ≡ true → (is_in p before || is_pair_in c.session p readers.pairs) ≡ true) → WaitForNoChild s.processes ns × (length ns ≤ length (members_in c.foreground s.processes))
unfolding is_in
readers_wait {readers = readers} s before ns k c i h awake none at up those = (
  λ p e.
      let w = h.waits c.session p (known p e) (off p) in
      let it = reader_is c.session w.reader w.reads in
      (w.reader, w.found, reading w.reader.blocked it.visits),
  few_members c.foreground s.processes ns up (λ p e. reader_member s before k p c i h awake at (known p e) (off p)),
)
  where
    off : (p : ℕ) → is_in p before ≡ false
    off p = ap (is_in p) none

    known : (p : ℕ) → is_in p ns ≡ true → is_pair_in c.session p readers.pairs ≡ true
    known p e = sym (ap (λ b. b || is_pair_in c.session p readers.pairs) (off p)) ∙ those p e

    reading : (b : Option Blocked) → is_in_read b ≡ true → is_in_wait b ≡ false
    reading None e = absurd (cc)
    reading (Some (blocked.Wait call)) e = absurd (cc)
    reading b e = refl

-- for a process that waits for no child, none has to be looked at
pub need_no_child : (rs : List Process) (ns : List ℕ) → WaitForNoChild rs ns → NeedNoChild rs ns
need_no_child rs ns h = λ p e. let it = h p e in (it.0, it.1, or_right _ _ (ap not it.2))
