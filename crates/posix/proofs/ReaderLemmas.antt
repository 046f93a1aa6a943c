-- The processes that a change of consoles can make runnable: the readers of one of them.
use Rattle.std.proofs.Common.{◌≡◌, ◌≢◌, ℕ, zero, suc, ◌≤◌, Bool, true, false, cond, not, ◌&&◌, refl, ap, sym, ◌∙◌, arith, List, [], ◌∷◌, length, map, find, slice_get, slice_set, Some, ◌==◌, Result, Ok, Err, ◌⊎◌}
use Rattle.std.proofs.lemmas.Bool.{eqb-true, eq-eqb, ne_eqb, or_parts}
use Rattle.posix.specs.declared.errno.Errno.{Errno}
use Rattle.posix.specs.declared.span.Span.{Span}
use Rattle.posix.specs.Common.{Process, argument, lookup, State, is_in, Console, console_of, is_of_session, with_foreground, span_in, is_group_of, waits_in, waits_on, waits_to_read, is_fresh, refreshed, clear_foregrounds, IsRegular}
use Rattle.posix.proofs.TableLemmas.{none_found}
use Rattle.posix.proofs.ConsoleLemmas.{session_refreshed}
use Rattle.posix.proofs.SeeLemmas.{acts_reading}
use Rattle.posix.proofs.TouchLemmas.{Touches, stands}

-- ---- consoles change, and nothing else does

-- if each read that waited still waits, no process is touched
pub touches_waiting : (s t : State) → t.processes ≡ s.processes → t.order ≡ s.order
    → ((p : ℕ) (r : Process) → lookup p s.processes ≡ Some r → waits_to_read s.consoles r ≡ true → waits_to_read t.consoles r ≡ true)
    → Touches s t []
touches_waiting s t same order keeps q r e out =
    let found = ap (lookup q) (sym same) ∙ e in
    stands s t q r (λ h. sym (ap (is_in q) order) ∙ h) found (acts_reading s t r same (λ runs reads w. keeps q r found w))

-- ---- another console comes in the place of one

-- a session that has neither keeps its terminal
pub console_of_set : (session k : ℕ) (c d : Console) (cs : List Console) → slice_get cs k ≡ Some c → c.session ≢ session → d.session ≢ session → console_of session (slice_set cs k d) ≡ console_of session cs
unfolding console_of
console_of_set session k c d [] e a b = absurd (cc)
console_of_set session zero c d (x ∷ xs) e a b = grind (arith, e, ne_eqb)
console_of_set session (suc k) c d (x ∷ xs) e a b = grind (arith, console_of_set session k c d xs e a b)

-- a console of this session, or of none
abbrev pub IsOfOrFree : ℕ → Console → Type 0
IsOfOrFree session c = (c.session ≡ session) ⊎ (c.session ≡ 0)

-- who waits for a line waits for one still, where none has come
waits_still : (me : Process) (c d : Console) (span : Result Span Errno) → d.foreground ≡ c.foreground → d.hung_up ≡ c.hung_up → (c.lines ≡ [] → d.lines ≡ []) → waits_in me c span ≡ true → waits_in me d span ≡ true
waits_still me c d (Err why) foreground hung lines w = w
waits_still me c d (Ok span) foreground hung lines w = rw (foreground, hung) (none c.lines d.lines _ (not (span.count == 0)) (not c.hung_up) lines w)
  where
    none : (xs ys : List (List ℕ)) (a b l : Bool) → (xs ≡ [] → ys ≡ []) → (a && (b && (l && length xs == 0))) ≡ true → (a && (b && (l && length ys == 0))) ≡ true
    none [] ys a b l h w = rw (h refl) w
    none (x ∷ xs) ys a b l h w = grind (arith, w, ne_eqb)

-- so on the consoles of a machine
waits_set : (me : Process) (session k : ℕ) (c d : Console) (cs : List Console) → slice_get cs k ≡ Some c → d.session ≡ c.session → d.foreground ≡ c.foreground → d.hung_up ≡ c.hung_up → (c.lines ≡ [] → d.lines ≡ [])
    → waits_on me (console_of session cs) ≡ true → waits_on me (console_of session (slice_set cs k d)) ≡ true
unfolding console_of
waits_set me session k c d [] e owner foreground hung lines w = absurd (cc)
waits_set me session zero c d (x ∷ xs) e owner foreground hung lines w = grind (arith, e, owner, w, waits_still me c d (span_in (argument me 1) (argument me 2)) foreground hung lines)
waits_set me session (suc k) c d (x ∷ xs) e owner foreground hung lines w = grind (arith, w, waits_set me session k c d xs e owner foreground hung lines)

-- if d has the same session and foreground process group, and no line if c had none, no process is touched
pub touches_unread : (s : State) (k : ℕ) (c d : Console) → slice_get s.consoles k ≡ Some c → d.session ≡ c.session → d.foreground ≡ c.foreground → d.hung_up ≡ c.hung_up → (c.lines ≡ [] → d.lines ≡ [])
    → Touches s (record s { consoles = slice_set s.consoles k d }) []
unfolding waits_to_read
touches_unread s k c d e owner foreground hung lines =
    touches_waiting s (record s { consoles = slice_set s.consoles k d }) refl refl (λ p r found w. waits_set r r.session k c d s.consoles e owner foreground hung lines w)

-- ---- foregrounds that are cleared

-- no process in the background waits for a line
background : (r : Process) (c : Console) (span : Result Span Errno) → (r.group == c.foreground) ≡ false → waits_in r c span ≡ false
background r c (Err why) h = refl
background r c (Ok span) h = rw h refl

-- a process group that isn't there has no member who waits
waits_fresh : (rs : List Process) (p : ℕ) (r : Process) (c : Console) → lookup p rs ≡ Some r → 1 ≤ r.group → c.session ≡ r.session → waits_on r (Some (refreshed rs c)) ≡ waits_on r (Some c)
unfolding is_group_of with_foreground
waits_fresh rs p r c e least owner = elim (is_fresh rs c) as (λ b. is_fresh rs c ≡ b → waits_on r (Some (cond b c (with_foreground 0 c))) ≡ waits_on r (Some c)) [
  | true ↦ λ k. refl
  | false ↦ λ k.
      let span = span_in (argument r 1) (argument r 2) in
      let none : (r.group == 0) ≡ false = ne_eqb r.group 0 (λ same. omega (arith, least, same)) in
      let other : (r.group == c.foreground) ≡ false = sym (ap (λ b. b && r.group == c.foreground) (eq-eqb r.session c.session (sym owner))) ∙ none_found (λ r. r.session == c.session && r.group == c.foreground) rs (or_parts _ _ k).1 p r e in
      background r (with_foreground 0 c) span none ∙ sym (background r c span other)
] refl

-- who waits for a line of any console waits as before
waits_cleared : (rs : List Process) (p : ℕ) (r : Process) (cs : List Console) → lookup p rs ≡ Some r → 1 ≤ r.group → waits_to_read (map (refreshed rs) cs) r ≡ waits_to_read cs r
unfolding waits_to_read console_of
waits_cleared rs p r [] e least = refl
waits_cleared rs p r (x ∷ xs) e least =
    let rest = find (is_of_session r.session) (map (refreshed rs) xs) in
    ap (λ n. waits_on r (cond (n == r.session) (Some (refreshed rs x)) rest)) (session_refreshed rs x)
    ∙ elim (x.session == r.session) as (λ b. (x.session == r.session) ≡ b → waits_on r (cond b (Some (refreshed rs x)) rest) ≡ waits_on r (cond b (Some x) (find (is_of_session r.session) xs))) [
      | true ↦ λ k. waits_fresh rs p r x e least (eqb-true _ _ k)
      | false ↦ λ k. waits_cleared rs p r xs e least
    ] refl

-- so no process is touched
pub touches_cleared : (s : State) → IsRegular s → Touches s (clear_foregrounds s) []
unfolding clear_foregrounds
touches_cleared s i = touches_waiting s (clear_foregrounds s) refl refl (λ p r e w. waits_cleared s.processes p r s.consoles e (i.bounded p r e).group_least ∙ w)
