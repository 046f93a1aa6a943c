-- Consoles of a regular state: there are so many, and a session has one at most.
use Rattle.std.proofs.Common.{◌≡◌, ◌≢◌, ◌⊎◌, ℕ, zero, suc, ◌==◌, true, false, cond, not, ◌&&◌, refl, ap, sym, ◌∙◌, arith, List, [], ◌∷◌, map, find, Option, Some, None, option_map, slice_get, slice_set, inl, inr, ⊎_elim}
use Rattle.std.proofs.lemmas.Bool.{eqb-true, eq-eqb, ne_eqb, cond_both}
use Rattle.std.proofs.lemmas.List.{length-map, length-set}
use Rattle.std.proofs.lemmas.Option.{slice_get-map}
use Rattle.posix.specs.Common.{HUP, Process, Console, edit, finish_line, key_signal, signal_typed, is_told, disconnected, flushed, keyed_by, keyed, released, with_foreground, is_of_session, console_of, changed_at, changed_console, State, IsRegular, AreConsoles, from_kernel, signalled_all, signalled_members, signalled_group, hung_up, hang_up, is_fresh, refreshed, clear_foregrounds, change_console, signalled_from, key_on, key, with_leader_told, hangup_on, hangup}
use Rattle.posix.proofs.RegularLemmas.{regular_with}
use Rattle.posix.proofs.ChangeLemmas.{regular_signalled}

-- ---- one console in the place of another

-- what is found where d was put in the place k: d there, or else what was there
pub found_put : (cs : List Console) (k j : ℕ) (d c : Console) → slice_get (slice_set cs k d) j ≡ Some c → ((j ≡ k) × (d ≡ c)) ⊎ ((j ≢ k) × (slice_get cs j ≡ Some c))
found_put [] k j d c e = absurd (cc)
found_put (x ∷ xs) zero zero d c e = inl (refl, cc)
found_put (x ∷ xs) zero (suc j) d c e = inr (λ q. absurd (omega (arith, q)), e)
found_put (x ∷ xs) (suc k) zero d c e = inr (λ q. absurd (omega (arith, q)), e)
found_put (x ∷ xs) (suc k) (suc j) d c e = ⊎_elim (λ h. inl (ap suc h.0, h.1)) (λ h. inr (λ q. h.0 (omega (arith, q)), h.1)) (found_put xs k j d c e)

-- a session goes on to have one console at most where d, whose session no other console has, is put in a place
consoles_with : (n : ℕ) (cs : List Console) (k : ℕ) (d : Console) → ((j : ℕ) (c : Console) → j ≢ k → slice_get cs j ≡ Some c → d.session ≢ 0 → c.session ≢ d.session)
    → AreConsoles n cs → AreConsoles n (slice_set cs k d)
consoles_with n cs k d other h = record {
  count = length-set cs k d ∙ h.count;
  apart = λ i j b c e f some same. ⊎_elim
      (λ p.
      let mine : d.session ≡ b.session = ap (λ (c : Console). c.session) p.1 in
      ⊎_elim (λ q. p.0 ∙ sym q.0) (λ q. absurd (other j c q.0 q.1 (λ z. some (sym mine ∙ z)) (sym same ∙ sym mine))) (found_put cs k j d c f))
      (λ p. ⊎_elim
      (λ q.
      let mine : d.session ≡ c.session = ap (λ (c : Console). c.session) q.1 in
      absurd (other i b p.0 p.1 (λ z. some (same ∙ sym mine ∙ z)) (same ∙ sym mine)))
      (λ q. h.apart i j b c p.1 q.1 some same)
      (found_put cs k j d c f))
      (found_put cs k i d b e);
}

-- this holds if d has the session of the console before
pub consoles_set : (n : ℕ) (cs : List Console) (k : ℕ) (c d : Console) → slice_get cs k ≡ Some c → d.session ≡ c.session → AreConsoles n cs → AreConsoles n (slice_set cs k d)
consoles_set n cs k c d found keeps h = consoles_with n cs k d (λ j b away e some same. away (h.apart j k b c e found (λ z. some (sym same ∙ z)) (same ∙ keeps))) h

-- this holds if d has no session
pub consoles_freed : (n : ℕ) (cs : List Console) (k : ℕ) (d : Console) → d.session ≡ 0 → AreConsoles n cs → AreConsoles n (slice_set cs k d)
consoles_freed n cs k d free h = consoles_with n cs k d (λ j b away e some same. some free) h

-- where a session has no console, none is its own
pub none_of : (session : ℕ) (cs : List Console) → console_of session cs ≡ None → (j : ℕ) (c : Console) → slice_get cs j ≡ Some c → c.session ≢ session
unfolding console_of
none_of session [] e j c f = absurd (cc)
none_of session (x ∷ xs) e zero c f = λ same. grind (arith, e, f, same, eq-eqb x.session session)
none_of session (x ∷ xs) e (suc j) c f = none_of session xs (grind (arith, e)) j c f

-- and where d is that of a session that had none
pub consoles_acquired : (n : ℕ) (cs : List Console) (k : ℕ) (d : Console) → console_of d.session cs ≡ None → AreConsoles n cs → AreConsoles n (slice_set cs k d)
consoles_acquired n cs k d none h = consoles_with n cs k d (λ j b away e some same. none_of d.session cs none j b e same) h

-- ---- all consoles

-- who is somebody's after such a change was so before it
before : (f : Console → Console) → ((c : Console) → ((f c).session ≡ c.session) ⊎ ((f c).session ≡ 0)) → (cs : List Console) (i : ℕ) (c : Console) → slice_get (map f cs) i ≡ Some c → c.session ≢ 0 → (d : Console) × (slice_get cs i ≡ Some d) × (c.session ≡ d.session)
before f keeps cs i c e some = from (slice_get cs i) refl (sym (slice_get-map f cs i) ∙ e)
  where
    from : (o : Option Console) → slice_get cs i ≡ o → option_map f o ≡ Some c → (d : Console) × (slice_get cs i ≡ Some d) × (c.session ≡ d.session)
    from None t k = absurd (cc)
    from (Some d) t k =
        let is : f d ≡ c = cc in
        let own : (f d).session ≡ c.session = ap (λ (c : Console). c.session) is in
        (d, t, ⊎_elim (λ same. sym own ∙ same) (λ free. absurd (some (sym own ∙ free))) (keeps d))

-- a session has at most one console after each is changed, if each keeps its session or has none
pub consoles_map : (n : ℕ) (f : Console → Console) (cs : List Console) → ((c : Console) → ((f c).session ≡ c.session) ⊎ ((f c).session ≡ 0)) → AreConsoles n cs → AreConsoles n (map f cs)
consoles_map n f cs keeps h = record {
  count = length-map cs f ∙ h.count;
  apart = λ i j b c e g some same.
      let p = before f keeps cs i b e some in
      let q = before f keeps cs j c g (λ z. some (same ∙ z)) in
      h.apart i j p.0 q.0 p.1 q.1 (λ z. some (p.2 ∙ z)) (sym p.2 ∙ same ∙ q.2);
}

-- foregrounds that are cleared leave a console to its session
pub session_refreshed : (rs : List Process) (c : Console) → (refreshed rs c).session ≡ c.session
unfolding with_foreground
session_refreshed rs c = cond_both (is_fresh rs c) c (with_foreground 0 c) (λ d. d.session ≡ c.session) (λ e. refl) (λ e. refl)

-- ---- the console of a session

-- its place
pub record IsAt (session : ℕ) (cs : List Console) (c : Console) : Type 0 where
  pub place : ℕ
  pub found : slice_get cs place ≡ Some c
  pub own : c.session ≡ session

-- it has one
pub place_of : (session : ℕ) (cs : List Console) (c : Console) → console_of session cs ≡ Some c → IsAt session cs c
unfolding console_of
place_of session [] c e = absurd (cc)
place_of session (x ∷ xs) c e = elim (x.session == session) as (λ b. (x.session == session) ≡ b → cond b (Some x) (find (is_of_session session) xs) ≡ Some c → IsAt session (x ∷ xs) c) [
  | true ↦ λ t k. let is : x ≡ c = cc in record { place = 0; found = k; own = ap (λ (c : Console). c.session) (sym is) ∙ eqb-true x.session session t }
  | false ↦ λ t k. let o = place_of session xs c k in record { place = suc o.place; found = o.found; own = o.own }
] refl e

-- Of a session other than 0 there is no other.
pub console_is : (n : ℕ) (cs : List Console) (k session : ℕ) (c : Console) → AreConsoles n cs → slice_get cs k ≡ Some c → c.session ≡ session → session ≢ 0 → console_of session cs ≡ Some c
console_is n cs k session c h found own some = from (console_of session cs) refl
  where
    from : (o : Option Console) → console_of session cs ≡ o → o ≡ Some c
    from None e = absurd (none_of session cs e k c found own)
    from (Some d) e =
        let at = place_of session cs d e in
        let same : k ≡ at.place = h.apart k at.place c d found at.found (λ z. some (sym own ∙ z)) (own ∙ sym at.own) in
        sym at.found ∙ ap (λ i. slice_get cs i) (sym same) ∙ found

-- where no console is that of a session, nothing is changed
pub changed_none : (session : ℕ) (f : Console → Console) (cs : List Console) → ((j : ℕ) (d : Console) → slice_get cs j ≡ Some d → d.session ≢ session) → map (changed_at session f) cs ≡ cs
changed_none session f [] none = refl
changed_none session f (x ∷ xs) none = rw (ne_eqb _ _ (none 0 x refl)) (ap (λ ds. x ∷ ds) (changed_none session f xs (λ j d e. none (suc j) d e)))

-- where one console is, that one is
changed_only : (session : ℕ) (f : Console → Console) (cs : List Console) (k : ℕ) (c : Console) → slice_get cs k ≡ Some c → c.session ≡ session
    → ((j : ℕ) (d : Console) → slice_get cs j ≡ Some d → d.session ≡ session → j ≡ k) → map (changed_at session f) cs ≡ slice_set cs k (f c)
changed_only session f [] k c e own only = absurd (cc)
changed_only session f (x ∷ xs) zero c e own only =
    let is : x ≡ c = cc in
    let here : (x.session == session) ≡ true = eq-eqb x.session session (ap (λ (c : Console). c.session) is ∙ own) in
    let rest = changed_none session f xs (λ j d e same. let no = only (suc j) d e same in absurd (omega (arith, no))) in
    rw (here, rest) (ap (λ d. f d ∷ xs) is)
changed_only session f (x ∷ xs) (suc k) c e own only =
    let away : (x.session == session) ≡ false = ne_eqb _ _ (λ same. let no = only 0 x refl same in absurd (omega (arith, no))) in
    let rest = changed_only session f xs k c e own (λ j d e same. let it = only (suc j) d e same in omega (arith, it)) in
    rw away (ap (λ ds. x ∷ ds) rest)

-- A session has one console at most: that one is changed in its place.
pub changed_at_place : (n : ℕ) (cs : List Console) (k session : ℕ) (c : Console) (f : Console → Console) → AreConsoles n cs → slice_get cs k ≡ Some c → c.session ≡ session → session ≢ 0
    → changed_console session f cs ≡ slice_set cs k (f c)
unfolding changed_console
changed_at_place n cs k session c f h found own some =
    changed_only session f cs k c found own (λ j d e same. h.apart j k d c e found (λ z. some (sym same ∙ z)) (same ∙ sym own))

-- ---- a regular state

-- a state stays regular with other consoles of that kind
pub regular_consoles : (s : State) (cs : List Console) → IsRegular s → AreConsoles s.world.consoles cs → IsRegular (record s { consoles = cs })
regular_consoles s cs i h = regular_with s.order cs s i.placed i.distinct h i

-- where that of a session is changed, and keeps its session
pub regular_change_console : (session : ℕ) (f : Console → Console) (s : State) → ((c : Console) → (f c).session ≡ c.session) → IsRegular s → IsRegular (change_console s session f)
unfolding changed_console
regular_change_console session f s keeps i =
    regular_consoles s _ i (consoles_map s.world.consoles (changed_at session f) s.consoles (λ c. inl (cond_both (c.session == session) (f c) c (λ d. d.session ≡ c.session) (λ e. keeps c) (λ e. refl))) i.consoles)

-- where foregrounds are cleared
pub regular_cleared : (s : State) → IsRegular s → IsRegular (clear_foregrounds s)
unfolding clear_foregrounds
regular_cleared s i = regular_consoles s _ i (consoles_map s.world.consoles (refreshed s.processes) s.consoles (λ c. inl (session_refreshed s.processes c)) i.consoles)

-- where the members of a process group get a signal of the kernel
pub regular_signalled_group : (n group : ℕ) (s : State) → IsRegular s → IsRegular (record s { processes = signalled_group n group s.processes })
unfolding signalled_members
regular_signalled_group n group s i =
    cond_both (group == 0) s.processes (signalled_members (record { sig = n; carried = from_kernel }) group s.processes) (λ rs. IsRegular (record s { processes = rs }))
    (λ e. i) (λ e. regular_signalled (record { sig = n; carried = from_kernel }) _ s i)

-- where the terminal of a session is hung up
regular_hung : (session : ℕ) (o : Option Console) (s : State) → IsRegular s → IsRegular (hung_up s session o)
unfolding changed_console released
regular_hung session None s i = i
regular_hung session (Some c) s i =
    regular_consoles (record s { processes = signalled_group HUP c.foreground s.processes }) _ (regular_signalled_group HUP c.foreground s i)
    (consoles_map s.world.consoles (changed_at session released) s.consoles (λ d. cond_both (d.session == session) (released d) d (λ e. (e.session ≡ d.session) ⊎ (e.session ≡ 0)) (λ t. inr refl) (λ t. inl refl)) i.consoles)

-- where that of a session is whose leader ends
pub regular_hung_up : (s : State) (r : Process) → IsRegular s → IsRegular (hang_up s r)
unfolding hang_up
regular_hung_up s r i = cond_both (not (r.pid == 1) && r.session == r.pid) (hung_up s r.session (console_of r.session s.consoles)) s IsRegular (λ e. regular_hung r.session _ s i) (λ e. i)

-- a key leaves a console to its session
pub session_keyed : (byte : ℕ) (c : Console) → (keyed byte c).session ≡ c.session
unfolding keyed edit finish_line flushed
session_keyed byte c = cond_both c.hung_up c (keyed_by (key_signal byte) byte c) (λ d. d.session ≡ c.session) (λ e. refl) (λ e. elim (key_signal byte) as (λ o. (keyed_by o byte c).session ≡ c.session) [
  | None ↦ grind arith
  | Some n ↦ refl
])

-- a lost line too
pub session_disconnected : (c : Console) → (disconnected c).session ≡ c.session
unfolding disconnected flushed
session_disconnected c = cond_both c.hung_up c (record (flushed c) { hung_up = not (c.session == 0) }) (λ d. d.session ≡ c.session) (λ e. refl) (λ e. refl)

-- where a key comes
pub regular_key : (s : State) (console byte : ℕ) → IsRegular s → IsRegular (key s console byte)
unfolding key
regular_key s zero byte i = i
regular_key s (suc k) byte i = elim (slice_get s.consoles k) as (λ o. slice_get s.consoles k ≡ o → IsRegular (key_on s (suc k) byte o)) [
  | None ↦ λ e. i
  | Some c ↦ λ e.
      regular_consoles (record s { processes = signalled_from (signal_typed byte c) c.foreground s.processes }) _ (signalled (signal_typed byte c) c.foreground)
      (consoles_set s.world.consoles s.consoles k c (keyed byte c) e (session_keyed byte c) i.consoles)
] refl
  where
    signalled : (o : Option ℕ) (group : ℕ) → IsRegular (record s { processes = signalled_from o group s.processes })
    signalled None group = i
    signalled (Some n) group = regular_signalled_group n group s i

-- where a line is lost
pub regular_hangup : (s : State) (console : ℕ) → IsRegular s → IsRegular (hangup s console)
unfolding hangup signalled_all
regular_hangup s zero i = i
regular_hangup s (suc k) i = elim (slice_get s.consoles k) as (λ o. slice_get s.consoles k ≡ o → IsRegular (hangup_on s (suc k) o)) [
  | None ↦ λ e. i
  | Some c ↦ λ e.
      regular_consoles (record s { processes = with_leader_told c s.processes }) _
      (cond_both (is_told c) (signalled_all (record { sig = HUP; carried = from_kernel }) (c.session ∷ []) s.processes) s.processes (λ rs. IsRegular (record s { processes = rs })) (λ t. regular_signalled (record { sig = HUP; carried = from_kernel }) (c.session ∷ []) s i) (λ t. i))
      (consoles_set s.world.consoles s.consoles k c (disconnected c) e (session_disconnected c) i.consoles)
] refl
