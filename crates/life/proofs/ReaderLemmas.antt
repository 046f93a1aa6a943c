-- Who waits to read, and each console refreshed.
use Rattle.std.proofs.Common.{◌≡◌, ◌≢◌, ℕ, ◌+◌, ◌<◌, ◌≤◌, zero, suc, true, false, cond, refl, ap, sym, ◌∙◌, arith, subst, List, [], ◌∷◌, ◌++◌, ⊎_elim, length, take, Option, Some, None, ◌==◌, slice_get, slice_set, ◌&&◌, ◌||◌, Bool, map, drop, get_or, rules}
use Rattle.std.specs.Option.{IsSome, IfSome}
use Rattle.std.proofs.lemmas.Bool.{and_parts, cases_eq, eqb-true, eqb-false, eq-eqb, ne_eqb, or_left, both_ways, true_from_ne_false}
use Rattle.std.proofs.lemmas.Option.{slice_get_read, same_Some}
use Rattle.posix.specs.declared.process.Life.{Life}
use Rattle.posix.specs.declared.process.Life.TheVariants.{Running}
use Rattle.posix.specs.Common.{Process, is_running, is_zombie, Console, can_act, State, process, is_in, has_place, lose_place, without, IsRegular, lookup, is_reader, is_in_read}
use Rattle.posix.proofs.MemberLemmas.{others_stay, still_out}
use Rattle.posix.proofs.SeeLemmas.{can_act_order}
use Rattle.posix.proofs.TableLemmas.{pid_looked}
use Rattle.pidset.specs.declared.index.Pair.{Pair}
use Rattle.pidset.specs.Indexes.{IsMoved, IsNextPair, is_key, is_pair_in}
use Rattle.pidset.specs.Lists.{ListsView}
use Rattle.pidset.specs.Numbers.{PidSetView, with_number}
use Rattle.pidset.specs.Rows.{HasRoom}
use Rattle.pidset.proofs.NumberLemmas.{in_with}
use Rattle.life.specs.Machines.{AreWithin, IsInSession, IsListed, IsWaiting, IsWatched}
use Rattle.life.specs.Consoles.{reads, reads_in, AreReaders}
use Rattle.life.proofs.ConsoleLemmas.{reader_is}
use Rattle.life.proofs.SoundLemmas.{grows_same}
use Rattle.posix.proofs.ResultLemmas.{there}

-- ---- a process that was rechecked

-- a blocked reader reads from the terminal of its session
reads_waiting : (s : State) (p session : ℕ) → is_key session (reads s p) ≡ true → IsWaiting s session p
reads_waiting s p session e = by (has_place s p) (process s p) refl refl e
  where
    by : (b : Bool) (o : Option Process) → has_place s p ≡ b → process s p ≡ o → is_key session (cond b None (reads_in o)) ≡ true → IsWaiting s session p
    by false (Some r) out found e = record { reader = r; found = found; reads = visits (is_running r.life) (is_in_read r.blocked) e; out = out }
      where
        visits : (a b : Bool) → is_key session (cond (a && b) (Some r.session) None) ≡ true → (a && (b && r.session == session)) ≡ true
        visits true true e = e
        visits true false e = absurd (cc)
        visits false b e = absurd (cc)
    by b o out found e = absurd (cc)

-- and is in that session
pub reads_within : (s : State) (p session : ℕ) → is_key session (reads s p) ≡ true → IsInSession session p s.processes
reads_within s p session e = let it = reads_waiting s p session e in (it.reader, it.found, (reader_is session it.reader it.reads).own)

-- and each one is found to
reads_found : (s : State) (p session : ℕ) (r : Process) → process s p ≡ Some r → is_reader session r ≡ true → has_place s p ≡ false → is_key session (reads s p) ≡ true
reads_found s p session r found visits out =
    let it = reader_is session r visits in
    rw (out, found, it.runs, it.visits) (eq-eqb r.session session it.own)

-- If p is known exactly if it is a blocked reader, it need not be rechecked.
pub watched_marked : {readers sets : ListsView} (s : State) (p : ℕ) (key : Option ℕ) (before after : List ℕ) → IsWatched s before readers → IsMoved p key readers.pairs sets.pairs
    → ((q : ℕ) → q ≢ p → is_in q after ≡ is_in q before) → ((session : ℕ) → is_key session key ≡ true → IsWaiting s session p)
    → ((session : ℕ) (r : Process) → process s p ≡ Some r → is_reader session r ≡ true → has_place s p ≡ false → is_in p after ≡ false → is_key session key ≡ true) → IsWatched s after sets
watched_marked {readers = readers} {sets = sets} s p key before after h put others sound complete = record {
  known = λ session q r found visits out unasked. elim (q == p) as (λ b. (q == p) ≡ b → is_pair_in session q sets.pairs ≡ true) [
    | true ↦ λ e.
        let same = eqb-true q p e in
        put session q ∙ ap (λ b. cond b (is_key session key) (is_pair_in session q readers.pairs)) e ∙ complete session r (subst (λ n. process s n ≡ Some r) same found) visits (ap (has_place s) (sym same) ∙ out) (ap (λ n. is_in n after) (sym same) ∙ unasked)
    | false ↦ λ e. other session q e ∙ h.known session q r found visits out (sym (others q (eqb-false q p e)) ∙ unasked)
  ] refl;
  waits = λ session q on unasked. elim (q == p) as (λ b. (q == p) ≡ b → IsWaiting s session q) [
    | true ↦ λ e. subst (IsWaiting s session) (sym (eqb-true q p e)) (sound session (sym (put session q ∙ ap (λ b. cond b (is_key session key) (is_pair_in session q readers.pairs)) e) ∙ on))
    | false ↦ λ e. h.waits session q (sym (other session q e) ∙ on) (sym (others q (eqb-false q p e)) ∙ unasked)
  ] refl;
}
  where
    other : (session q : ℕ) → (q == p) ≡ false → is_pair_in session q sets.pairs ≡ is_pair_in session q readers.pairs
    other session q e = put session q ∙ ap (λ b. cond b (is_key session key) (is_pair_in session q readers.pairs)) e

-- so is a process that was rechecked
pub watched_rechecked : {readers sets : ListsView} (s : State) (p : ℕ) (key : Option ℕ) (before after : List ℕ) → IsWatched s before readers → after ≡ without p before → key ≡ reads s p → IsMoved p key readers.pairs sets.pairs → IsWatched s after sets
watched_rechecked s p key before after h is reading put =
    watched_marked s p key before after h put (λ q ne. ap (is_in q) is ∙ others_stay p q before ne) (λ session e. reads_waiting s p session (sym (ap (is_key session) reading) ∙ e))
    (λ session r found visits out unasked. ap (is_key session) reading ∙ reads_found s p session r found visits out)

-- and one that is on the recheck list, and isn't known any more
pub watched_forgotten : {readers sets : ListsView} (s : State) (p : ℕ) (before after : List ℕ) → IsWatched s before readers → after ≡ with_number p before → IsMoved p None readers.pairs sets.pairs → IsWatched s after sets
watched_forgotten s p before after h is put =
    watched_marked s p None before after h put (λ q ne. ap (is_in q) is ∙ in_with q p before ∙ ap (λ b. b || is_in q before) (ne_eqb p q (λ e. ne (sym e)))) (λ session e. absurd (cc))
    (λ session r found visits out unasked. absurd (both_ways _ unasked (ap (is_in p) is ∙ in_with p p before ∙ or_left _ _ (eq-eqb p p refl))))

-- and a zombie, which isn't known
pub listed_zombie : {readers sets : ListsView} (s : State) (p : ℕ) (it : Process) (l : PidSetView) → IsListed s l readers → process s p ≡ Some it → is_zombie it.life ≡ true → IsMoved p None readers.pairs sets.pairs → IsListed s l sets
listed_zombie {sets = sets} s p it l h found zombie put =
    let watched = watched_marked {sets = sets} s p None l.pids l.pids h.watched put (λ q ne. refl) (λ session e. absurd (cc)) (λ session r mine visits out unasked. absurd (both_ways _ (not_running it.life zombie) (ap (λ (r : Process). is_running r.life) (same_Some _ _ (sym found ∙ mine)) ∙ (reader_is session r visits).runs))) in
    search (rules, arith)
  where
    not_running : (life : Life) → is_zombie life ≡ true → is_running life ≡ false
    not_running Running z = absurd (cc)
    not_running life z = refl

-- and one that is on the recheck list anyway
pub listed_forgotten : {readers sets : ListsView} (s : State) (p : ℕ) (l : PidSetView) → IsListed s l readers → is_in p l.pids ≡ true → IsMoved p None readers.pairs sets.pairs → IsListed s l sets
listed_forgotten {sets = sets} s p l h asked put =
    let watched = watched_marked {sets = sets} s p None l.pids l.pids h.watched put (λ q ne. refl) (λ session e. absurd (cc)) (λ session r mine visits out unasked. absurd (both_ways _ unasked asked)) in
    search (rules, arith)

pub none_marked : (p : ℕ) (old new : List Pair) → IsMoved p None old new → (session : ℕ) → is_pair_in session p new ≡ false
none_marked p old new put session = put session p ∙ ap (λ b. cond b false (is_pair_in session p old)) (eq-eqb p p refl)

-- there is memory for each if p moves to another list, that of its session
pub within_marked : {readers sets : ListsView} {rs : List Process} (p : ℕ) (key : Option ℕ) → IsMoved p key readers.pairs sets.pairs → sets.sizes ≡ readers.sizes → ((session : ℕ) → is_key session key ≡ true → IsInSession session p rs) → AreWithin readers rs → AreWithin sets rs
within_marked {readers = readers} {sets = sets} {rs = rs} p key put same its h = record {
  room = λ q r e. let here = h.room q r e in (grows_same same q here.0, grows_same same r.session here.1);
  own = λ k q on. elim (q == p) as (λ b. (q == p) ≡ b → IsInSession k q rs) [
    | true ↦ λ e.
        let it = its k (sym (put k q ∙ ap (λ b. cond b (is_key k key) (is_pair_in k q readers.pairs)) e) ∙ on) in
        (it.0, ap (λ n. lookup n rs) (eqb-true q p e) ∙ it.1, it.2)
    | false ↦ λ e. h.own k q (sym (put k q ∙ ap (λ b. cond b (is_key k key) (is_pair_in k q readers.pairs)) e) ∙ on)
  ] refl;
}

-- a process that isn't runnable, and not in a read, need not be rechecked when it leaves the run queue
pub listed_asleep : {readers : ListsView} (s : State) (p : ℕ) (l : PidSetView) → IsListed s l readers → ((r : Process) → process s p ≡ Some r → can_act s r ≡ false) → ((r : Process) → process s p ≡ Some r → is_in_read r.blocked ≡ false) → IsListed (lose_place s p) l readers
listed_asleep s p l h rests unread = record {
  covers = λ q r found w.
      let named = pid_looked q s.processes r found in
      let acts = can_act_order s (without p s.order) r in
      let other = λ (ne : q ≢ p). h.covers q r found (sym (rw (acts, others_stay p r.pid s.order (λ e. ne (sym named ∙ e))) refl) ∙ w) in
      ⊎_elim (λ e. absurd (both_ways _ (acts ∙ rests r (subst (λ n. process s n ≡ Some r) e found)) (and_parts _ _ w).1)) other (cases_eq q p);
  rising = h.rising;
  there = h.there;
  room = h.room;
  watched = record {
    known = λ session q r found visits out unasked.
        let other = λ (ne : q ≢ p). h.watched.known session q r found visits (sym (others_stay p q s.order ne) ∙ out) unasked in
        ⊎_elim (λ e. absurd (both_ways _ (unread r (subst (λ n. process s n ≡ Some r) e found)) (reader_is session r visits).visits)) other (cases_eq q p);
    waits = λ session q on unasked. let it = h.watched.waits session q on unasked in record { reader = it.reader; found = it.found; reads = it.reads; out = still_out p q s.order it.out };
  };
}

-- ---- all are rechecked that may be blocked reading from a terminal

-- a known reader exists
pub reader_there : {readers : ListsView} (s : State) (l : PidSetView) (session p : ℕ) → IsListed s l readers → is_pair_in session p readers.pairs ≡ true → IsSome (process s p)
reader_there s l session p h on = elim (is_in p l.pids) as (λ b. is_in p l.pids ≡ b → IsSome (process s p)) [ true ↦ λ e. h.there p e | false ↦ λ e. rw (h.watched.waits session p on e).found refl ] refl

-- there is memory for an existing process, and for the list of its session
pub readable : {readers : ListsView} (s : State) (p : ℕ) → IsRegular s → AreWithin readers s.processes → IsSome (process s p) → (1 ≤ p) × HasRoom readers.sizes p
readable s p i within here =
    let it = there (process s p) here in
    (omega (arith, (i.bounded p it.what it.found).least, pid_looked p s.processes it.what it.found), (within.room p it.what it.found).0)

pub session_readable : {readers : ListsView} (s : State) (p : ℕ) → IsRegular s → AreWithin readers s.processes → IfSome (reads s p) (λ session. (1 ≤ session) × HasRoom readers.sizes session)
session_readable {readers = readers} s p i within = by (has_place s p) (process s p) refl
  where
    by : (b : Bool) (o : Option Process) → process s p ≡ o → IfSome (cond b None (reads_in o)) (λ session. (1 ≤ session) × HasRoom readers.sizes session)
    by true o found = tt
    by false None found = tt
    by false (Some r) found = elim (is_running r.life && is_in_read r.blocked) as (λ b. IfSome (cond b (Some r.session) None) (λ session. (1 ≤ session) × HasRoom readers.sizes session)) [ true ↦ ((i.bounded p r found).session_least, (within.room p r found).1) | false ↦ tt ]

-- if one isn't known any more, the others are known as before
pub still_known : (session p q : ℕ) (old new : List Pair) → IsMoved p None old new → is_pair_in session q new ≡ true → (q ≢ p) × (is_pair_in session q old ≡ true)
still_known session p q old new put on = elim (q == p) as (λ b. (q == p) ≡ b → (q ≢ p) × (is_pair_in session q old ≡ true)) [
  | true ↦ λ e. absurd (both_ways _ (put session q ∙ ap (λ b. cond b false (is_pair_in session q old)) e) on)
  | false ↦ λ e. (eqb-false q p e, sym (put session q ∙ ap (λ b. cond b false (is_pair_in session q old)) e) ∙ on)
] refl

-- and the next one above it is the first of them
pub next_left : {old new : List Pair} (session p : ℕ) (next : Option ℕ) → IsNextPair session 0 old (Some p) → IsMoved p None old new → IsNextPair session p new next → IsNextPair session 0 new next
next_left session p next first put is = record {
  there = λ q e. let k = is.there q e in (omega (arith, k.0), k.1);
  least = λ q on some.
      let kept = still_known session p q _ _ put on in
      let low = first.least q kept.1 some in
      is.least q on (omega (arith, low.2, same_Some _ _ low.1, kept.0));
}

-- if none is left, all are on the recheck list
pub none_waits : {readers : ListsView} (s : State) (session : ℕ) (to_recheck : List ℕ) → IsRegular s → IsWatched s to_recheck readers → IsNextPair session 0 readers.pairs None → AreReaders s session to_recheck
none_waits s session to_recheck i w none p r found visits out = true_from_ne_false _ (λ unasked.
    let least = (i.bounded p r found).least in
    let low = none.least p (w.known session p r found visits out unasked) (omega (arith, least, pid_looked p s.processes r found)) in
    let no = low.1 in
    absurd (cc))

-- no process is in session 0
pub nobody_reads : (s : State) (session : ℕ) (to_recheck : List ℕ) → IsRegular s → session ≡ 0 → AreReaders s session to_recheck
nobody_reads s session to_recheck i none p r found visits out =
    let own = (reader_is session r visits).own in
    absurd (omega (arith, own, none, (i.bounded p r found).session_least))

-- ---- each console refreshed

-- what the first k are refreshed to, and the rest as they were
abbrev pub refreshed_to : (Console → Console) → ℕ → List Console → List Console
refreshed_to f k cs = map f (take k cs) ++ drop k cs

refreshed_suc : (f : Console → Console) (k : ℕ) (c : Console) (cs : List Console) → slice_get cs k ≡ Some c → slice_set (refreshed_to f k cs) k (f c) ≡ refreshed_to f (suc k) cs
refreshed_suc f k c [] e = absurd (cc)
refreshed_suc f zero c (d ∷ ds) e = ap (λ x. f x ∷ ds) (sym (same_Some _ _ e))
refreshed_suc f (suc k) c (d ∷ ds) e = ap (λ x. f d ∷ x) (refreshed_suc f k c ds e)

-- the next one is as it was
pub not_refreshed : (f : Console → Console) (k : ℕ) (cs : List Console) → slice_get (refreshed_to f k cs) k ≡ slice_get cs k
not_refreshed f (suc k) (d ∷ ds) = not_refreshed f k ds
not_refreshed f k cs = refl

refreshed_length : (f : Console → Console) (k : ℕ) (cs : List Console) → length (refreshed_to f k cs) ≡ length cs
refreshed_length f (suc k) (d ∷ ds) = ap suc (refreshed_length f k ds)
refreshed_length f k cs = refl

-- what the next one is was there at first
was_at : (f : Console → Console) (k : ℕ) (x : Console) (cs now : List Console) → now ≡ refreshed_to f k cs → k < length cs → x ≡ get_or now k x → slice_get cs k ≡ Some x
was_at f k x cs now so_far fits is = grind (arith, so_far, fits, is, not_refreshed, refreshed_length, slice_get_read)

-- one more
pub refreshed_step : (f : Console → Console) (k : ℕ) (x : Console) (cs now : List Console) → now ≡ refreshed_to f k cs → k < length cs → x ≡ get_or now k x → slice_set now k (f x) ≡ refreshed_to f (k + 1) cs
refreshed_step f k x cs now so_far fits is =
    let next : suc k ≡ k + 1 = omega arith in
    ap (λ (l : List Console). slice_set l k (f x)) so_far ∙ refreshed_suc f k x cs (was_at f k x cs now so_far fits is) ∙ ap (λ n. refreshed_to f n cs) next
