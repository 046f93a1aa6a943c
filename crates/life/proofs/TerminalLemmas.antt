-- Which console is a session's terminal.
use Rattle.std.proofs.Common.{◌≡◌, ◌≢◌, ℕ, ◌+◌, ◌-◌, ◌<◌, ◌≤◌, zero, suc, Bool, true, false, cond, refl, ap, sym, ◌∙◌, arith, subst, List, [], ◌∷◌, length, map, find, replicate, Option, Some, None, ◌==◌, ◌&&◌, ◌||◌, nat_le, option_map, slice_get, slice_set, inl, inr}
use Rattle.std.proofs.lemmas.Bool.{and_parts, cases_eq, eq-eqb, ne_eqb, eqb-true, leb-true, false_from_ne_true}
use Rattle.std.proofs.lemmas.List.{length-map, length-set, length-replicate}
use Rattle.std.proofs.lemmas.Option.{same_Some, slice_get-map}
use Rattle.posix.specs.Common.{Console, console_at, console_of, is_of_session, unused_console, with_foreground, Process, is_fresh, refreshed}
use Rattle.pidset.specs.declared.index.Pair.{Pair}
use Rattle.pidset.specs.Indexes.{ArePairs, CanReplace, IndexView, IsMoved, IsNextPair, is_key, is_pair_in}
use Rattle.pidset.proofs.IndexLemmas.{keyed_moved}
use Rattle.pidset.proofs.NumberLemmas.{few}
use Rattle.pidset.proofs.PairLemmas.{in_order, rises_in_order, key_in_order, length_in_order}
use Rattle.life.specs.Consoles.{IsTerminalIndex}
use Rattle.life.specs.Machines.{AreTerminals}

-- the session of the console with a number
abbrev pub session_of : List Console → ℕ → Option ℕ
session_of cs n = option_map (λ (c : Console). c.session) (console_at n cs)

-- ---- the first in a list

find_none : {X : Type 0} (test : X → Bool) (xs : List X) → ((k : ℕ) (x : X) → slice_get xs k ≡ Some x → test x ≡ false) → find test xs ≡ None
find_none test [] h = refl
find_none test (x ∷ xs) h = rw (h zero x refl) (find_none test xs (λ k y e. h (suc k) y e))

find_at : {X : Type 0} (test : X → Bool) (xs : List X) (k : ℕ) (x : X) → slice_get xs k ≡ Some x → test x ≡ true → ((j : ℕ) (y : X) → j < k → slice_get xs j ≡ Some y → test y ≡ false) → find test xs ≡ Some x
find_at test [] k x at t h = absurd (cc)
find_at test (y ∷ ys) zero x at t h = let same = same_Some _ _ at in rw (ap test same ∙ t) at
find_at test (y ∷ ys) (suc k) x at t h = rw (h zero y (omega arith) refl) (find_at test ys k x at t (λ j z low e. h (suc j) z (omega (arith, low)) e))

-- the lowest number under a session is that of its terminal
under : (cs : List Console) (pairs : List Pair) (session k : ℕ) (c : Console) → AreTerminals cs pairs → slice_get cs k ≡ Some c → is_pair_in session (k + 1) pairs ≡ (c.session == session)
under cs pairs session k c h at = h.index (k + 1) session ∙ ap (λ n. is_key session (session_of cs n)) number ∙ ap (λ o. is_key session (option_map (λ (c : Console). c.session) o)) at
  where
    number : k + 1 ≡ suc k
    number = omega arith

pub terminal_found : (cs : List Console) (pairs : List Pair) (session n : ℕ) → AreTerminals cs pairs → IsNextPair session 0 pairs (Some n) → (1 ≤ n) × IsTerminalIndex session cs (Some (n - 1))
unfolding console_of
terminal_found cs pairs session zero h next = absurd (let low = (next.there zero refl).0 in omega (arith, low))
terminal_found cs pairs session (suc k) h next = (omega arith, subst (λ i. IsTerminalIndex session cs (Some i)) (omega arith) (by (slice_get cs k) refl (sym (h.index (suc k) session) ∙ (next.there (suc k) refl).1)))
  where
    by : (o : Option Console) → slice_get cs k ≡ o → is_key session (option_map (λ (c : Console). c.session) o) ≡ true → IsTerminalIndex session cs (Some k)
    by None at e = absurd (cc)
    by (Some c) at e = (
      c,
      at,
      find_at (is_of_session session) cs k c at e (λ j d low before. false_from_ne_true _ (λ own.
          let least = next.least (j + 1) (under cs pairs session j d h before ∙ own) (omega arith) in
          let first = same_Some _ _ least.1 in
          omega (arith, first, least.2, low))),
      eqb-true _ _ e,
    )

pub terminal_missing : (cs : List Console) (pairs : List Pair) (session : ℕ) → AreTerminals cs pairs → IsNextPair session 0 pairs None → IsTerminalIndex session cs None
unfolding console_of
terminal_missing cs pairs session h next = find_none (is_of_session session) cs (λ k c at. false_from_ne_true _ (λ own.
    let least = next.least (k + 1) (under cs pairs session k c h at ∙ own) (omega arith) in
    let no = least.1 in
    absurd (cc)))

-- ---- a console that becomes another

-- it is listed under its session, and can be moved
pub terminal_moves : (cs : List Console) (terminals : IndexView) (k : ℕ) (c : Console) → AreTerminals cs terminals.pairs → slice_get cs k ≡ Some c → CanReplace (k + 1) (Some c.session) terminals
terminal_moves cs terminals k c h at = record { at = λ session. under cs terminals.pairs session k c h at; room = λ none. absurd (cc) }

pub terminals_put : (cs : List Console) (k : ℕ) (c d : Console) (old new : List Pair) → slice_get cs k ≡ Some c → IsMoved (k + 1) (Some d.session) old new → AreTerminals cs old → AreTerminals (slice_set cs k d) new
terminals_put cs k c d old new at moved h = record {
  index = keyed_moved (k + 1) (session_of cs) (session_of (slice_set cs k d)) old new others h.index (subst (λ o. IsMoved (k + 1) o old new) (sym here) moved);
  few = subst (λ n. n ≤ 64) (sym (length-set cs k d)) h.few;
}
  where
    set_same : (xs : List Console) (i : ℕ) → slice_get xs i ≡ Some c → slice_get (slice_set xs i d) i ≡ Some d
    set_same [] i e = absurd (cc)
    set_same (x ∷ xs) zero e = refl
    set_same (x ∷ xs) (suc i) e = set_same xs i e

    set_other : (xs : List Console) (i j : ℕ) → j ≢ i → slice_get (slice_set xs i d) j ≡ slice_get xs j
    set_other (x ∷ xs) zero zero ne = absurd (ne refl)
    set_other (x ∷ xs) (suc i) (suc j) ne = set_other xs i j (λ e. ne (ap suc e))
    set_other xs i j ne = refl

    here : session_of (slice_set cs k d) (k + 1) ≡ Some d.session
    here =
        let number : k + 1 ≡ suc k = omega arith in
        ap (session_of (slice_set cs k d)) number ∙ ap (option_map (λ (c : Console). c.session)) (set_same cs k at)

    others : (n : ℕ) → n ≢ k + 1 → session_of (slice_set cs k d) n ≡ session_of cs n
    others zero ne = refl
    others (suc j) ne = ap (option_map (λ (c : Console). c.session)) (set_other cs k j (λ e. ne (omega (arith, e))))

pub terminals_kept : (cs : List Console) (k : ℕ) (c d : Console) (terminals : List Pair) → slice_get cs k ≡ Some c → d.session ≡ c.session → AreTerminals cs terminals → AreTerminals (slice_set cs k d) terminals
terminals_kept cs k c d terminals at same h = terminals_put cs k c d terminals terminals at (λ session n. elim (cases_eq n (k + 1)) [
  | inl e ↦ rw (eq-eqb n (k + 1) e, same) (ap (λ m. is_pair_in session m terminals) e ∙ under cs terminals session k c h at)
  | inr ne ↦ rw (ne_eqb n (k + 1) ne) refl
]) h

-- if none gets another session, all are listed as before
pub terminals_same : (cs ds : List Console) (terminals : List Pair) → length ds ≡ length cs → ((k : ℕ) → option_map (λ (c : Console). c.session) (slice_get ds k) ≡ option_map (λ (c : Console). c.session) (slice_get cs k)) → AreTerminals cs terminals → AreTerminals ds terminals
terminals_same cs ds terminals many same h = record { index = λ n session. h.index n session ∙ ap (is_key session) (sym (each n)); few = subst (λ n. n ≤ 64) (sym many) h.few }
  where
    each : (n : ℕ) → session_of ds n ≡ session_of cs n
    each zero = refl
    each (suc k) = same k

pub terminals_cleared : (rs : List Process) (cs : List Console) (terminals : List Pair) → AreTerminals cs terminals → AreTerminals (map (refreshed rs) cs) terminals
unfolding with_foreground
terminals_cleared rs cs terminals h = terminals_same cs (map (refreshed rs) cs) terminals (length-map cs (refreshed rs)) (λ k. ap (option_map (λ (c : Console). c.session)) (slice_get-map (refreshed rs) cs k) ∙ kept (slice_get cs k)) h
  where
    stays : (b : Bool) (c : Console) → (cond b c (with_foreground 0 c)).session ≡ c.session
    stays true c = refl
    stays false c = refl

    kept : (o : Option Console) → option_map (λ (c : Console). c.session) (option_map (refreshed rs) o) ≡ option_map (λ (c : Console). c.session) o
    kept None = refl
    kept (Some c) = ap Some (stays (is_fresh rs c) c)

-- ---- at the start

-- the first n consoles are listed under 0
pub record AreNobodys (n : ℕ) (pairs : List Pair) : Type 0 where
  pub pairs_are : (k p : ℕ) → is_pair_in k p pairs ≡ (k == 0 && (nat_le 1 p && nat_le p n))
  pub once : ArePairs pairs

pub few_nobodys : (n : ℕ) (pairs : List Pair) → AreNobodys n pairs → length pairs ≤ n
few_nobodys n pairs h =
    let long = length_in_order pairs h.once (λ p q c a b. let one = range p c a in let other = range q c b in omega (arith, one.0, other.0)) in
    let most = few n (in_order pairs) (rises_in_order pairs) (λ c e. let k = key_in_order pairs c e in (range k.0 c k.1).1) in
    omega (arith, long, most)
  where
    range : (k p : ℕ) → is_pair_in k p pairs ≡ true → (k ≡ 0) × ((1 ≤ p) × (p ≤ n))
    range k p e =
        let a = and_parts (k == 0) _ (sym (h.pairs_are k p) ∙ e) in
        let b = and_parts (nat_le 1 p) _ a.1 in
        (eqb-true k 0 a.0, (leb-true _ _ b.0, leb-true _ _ b.1))

-- none at first
pub nobodys_none : (pairs : List Pair) → pairs ≡ [] → ArePairs pairs → AreNobodys 0 pairs
unfolding is_pair_in
nobodys_none pairs none once = record { pairs_are = λ k p. ap (is_pair_in k p) none ∙ by (k == 0) p; once = once }
  where
    by : (b : Bool) (p : ℕ) → false ≡ (b && (nat_le 1 p && nat_le p 0))
    by b p = grind arith

-- and one more
pub nobodys_more : (n key number : ℕ) (pairs now : List Pair) → AreNobodys n pairs → key ≡ 0 → number ≡ n + 1 → ((k p : ℕ) → is_pair_in k p now ≡ (k == key && p == number || is_pair_in k p pairs)) → ArePairs now → AreNobodys (n + 1) now
nobodys_more n key number pairs now h none next put once = record {
  pairs_are = λ k p. put k p ∙ ap (λ m. k == m && p == number || is_pair_in k p pairs) none ∙ ap (λ m. k == 0 && p == m || is_pair_in k p pairs) next ∙ ap (λ b. k == 0 && p == n + 1 || b) (h.pairs_are k p) ∙ by (k == 0) p;
  once = once;
}
  where
    by : (b : Bool) (p : ℕ) → (b && p == n + 1 || (b && (nat_le 1 p && nat_le p n))) ≡ (b && (nat_le 1 p && nat_le p (n + 1)))
    by b p = grind arith

nobody_at : (n j k : ℕ) → is_key k (option_map (λ (c : Console). c.session) (slice_get (replicate n unused_console) j)) ≡ (k == 0 && nat_le (suc j) n)
nobody_at zero j k = grind arith
nobody_at (suc n) zero k = grind arith
nobody_at (suc n) (suc j) k = grind (arith, nobody_at n j k)

pub terminals_first : (n : ℕ) (pairs : List Pair) → n ≤ 64 → AreNobodys n pairs → AreTerminals (replicate n unused_console) pairs
terminals_first n pairs most h = record { index = each; few = subst (λ m. m ≤ 64) (sym (length-replicate n unused_console)) most }
  where
    each : (p k : ℕ) → is_pair_in k p pairs ≡ is_key k (session_of (replicate n unused_console) p)
    each zero k = h.pairs_are k zero ∙ grind arith
    each (suc j) k = h.pairs_are k (suc j) ∙ sym (nobody_at n j k ∙ grind arith)
