-- Foreground process groups that have a member in their console's session, but for those that are unchecked.
use Rattle.std.proofs.Common.{◌≡◌, ◌≢◌, ℕ, zero, suc, ◌≤◌, Bool, true, false, cond, ◌&&◌, ◌||◌, refl, ap, sym, ◌∙◌, arith, subst, List, [], ◌∷◌, length, count_by, filter, map, ◌==◌, Some, None, slice_get, slice_set}
use Rattle.std.specs.List.{AllByRecursion}
use Rattle.std.proofs.lemmas.Bool.{eqb-true, eqb-false, eq-eqb, ne_eqb, and_parts, or_right}
use Rattle.std.proofs.lemmas.List.{map-id}
use Rattle.std.proofs.lemmas.List.Sums.{length-filter}
use Rattle.std.proofs.lemmas.Option.{same_Some}
use Rattle.posix.specs.Common.{Process, IsRising, lookup, changed, adopted, made_zombie, Console, changed_at, changed_console, console_of, AreConsoles, is_group_of, is_fresh, refreshed}
use Rattle.posix.proofs.ConsoleLemmas.{changed_at_place, changed_none, none_of}
use Rattle.posix.proofs.FreshLemmas.{AllFresh, fresh_changed}
use Rattle.posix.proofs.WalkLemmas.{any_looked, some_looked}
use Rattle.life.specs.declared.consoles.Unchecked.{Unchecked}
use Rattle.life.specs.declared.consoles.Unchecked.TheVariants.{Nothing, In, All}
use Rattle.life.specs.Foregrounds.{is_unchecked, also_in, AreFreshBut}

-- each console that is then checked was checked, and its group has a member if it had one
fresh_by : (u v : Unchecked) (rs ts : List Process) → ((c : Console) → is_unchecked v c ≡ false → is_unchecked u c ≡ false) → ((c : Console) → is_unchecked v c ≡ false → is_fresh rs c ≡ true → is_fresh ts c ≡ true)
    → (cs : List Console) → AreFreshBut u rs cs → AreFreshBut v ts cs
fresh_by u v rs ts fewer still [] h = tt
fresh_by u v rs ts fewer still (c ∷ cs) h = (one (is_unchecked v c) (is_unchecked u c) (fewer c) (still c) h.0, fresh_by u v rs ts fewer still cs h.1)
  where
    one : (a b : Bool) → (a ≡ false → b ≡ false) → (a ≡ false → is_fresh rs c ≡ true → is_fresh ts c ≡ true) → (b || is_fresh rs c) ≡ true → (a || is_fresh ts c) ≡ true
    one true b k m e = refl
    one false b k m e = m refl (ap (λ x. x || is_fresh rs c) (sym (k refl)) ∙ e)

-- if those that were checked keep a member
pub fresh_still : (u : Unchecked) (rs ts : List Process) (cs : List Console) → ((ds : List Console) → AllFresh rs ds → AllFresh ts ds) → AreFreshBut u rs cs → AreFreshBut u ts cs
fresh_still u rs ts cs still h = fresh_by u u rs ts (λ c e. e) (λ c e fresh. (still (c ∷ []) (fresh, tt)).0) cs h

-- if each group has a member in the sessions in which it had one
fresh_same : (u : Unchecked) (rs ts : List Process) (cs : List Console) → ((session group : ℕ) → is_group_of session group ts ≡ is_group_of session group rs) → AreFreshBut u rs cs → AreFreshBut u ts cs
fresh_same u rs ts cs same h = fresh_by u u rs ts (λ c e. e) (λ c e fresh. ap (λ b. c.foreground == 0 || b) (same c.session c.foreground) ∙ fresh) cs h

-- so at a termination, because a zombie is a member, and so are the new parent's children
pub fresh_departed : (u : Unchecked) (p heir w : ℕ) (rs : List Process) (cs : List Console) → AreFreshBut u rs cs → AreFreshBut u (adopted p heir (changed p (made_zombie w) rs)) cs
unfolding made_zombie is_group_of adopted
fresh_departed u p heir w rs cs h = fresh_same u dead (adopted p heir dead) cs (λ session group. kept session group dead) (fresh_still u rs dead cs (λ ds all. fresh_changed p (made_zombie w) (λ r. refl) (λ r. refl) rs ds all) h)
  where
    dead : List Process
    dead = changed p (made_zombie w) rs

    kept : (session group : ℕ) (rs : List Process) → is_group_of session group (adopted p heir rs) ≡ is_group_of session group rs
    kept session group [] = refl
    kept session group (r ∷ rs) = grind (arith, kept session group rs)

-- ---- a member leaves its session

-- if the groups in all other sessions keep a member
fresh_beside : (u : Unchecked) (session : ℕ) (rs ts : List Process) (cs : List Console) → ((other group : ℕ) → other ≢ session → is_group_of other group rs ≡ true → is_group_of other group ts ≡ true) → AreFreshBut u rs cs → AreFreshBut (also_in session u) ts cs
fresh_beside u session rs ts cs still h = fresh_by u (also_in session u) rs ts (fewer u) (λ c e fresh. kept c (apart u c e) fresh) cs h
  where
    fewer : (u : Unchecked) (c : Console) → is_unchecked (also_in session u) c ≡ false → is_unchecked u c ≡ false
    fewer Nothing c e = refl
    fewer (In other) c e = among (other == session) refl e
      where
        among : (b : Bool) → (other == session) ≡ b → is_unchecked (cond b (In session) All) c ≡ false → is_unchecked (In other) c ≡ false
        among true same e = ap (λ n. is_unchecked (In n) c) (eqb-true other session same) ∙ e
        among false same e = absurd (cc)
    fewer All c e = e

    apart : (u : Unchecked) (c : Console) → is_unchecked (also_in session u) c ≡ false → (c.session == session) ≡ false
    apart Nothing c e = grind (arith, e)
    apart (In other) c e = grind (arith, e)
    apart All c e = absurd (cc)

    kept : (c : Console) → (c.session == session) ≡ false → is_fresh rs c ≡ true → is_fresh ts c ≡ true
    kept c other e = grind (arith, e, still c.session c.foreground (eqb-false c.session session other))

-- one record is removed, or changes in whatever way
pub fresh_but_one : (u : Unchecked) (p : ℕ) (it : Process) (rs ts : List Process) (cs : List Console) → IsRising rs → lookup p rs ≡ Some it → ((q : ℕ) (r : Process) → q ≢ p → lookup q rs ≡ Some r → lookup q ts ≡ Some r) → AreFreshBut u rs cs → AreFreshBut (also_in it.session u) ts cs
unfolding is_group_of
fresh_but_one u p it rs ts cs up found others h = fresh_beside u it.session rs ts cs (λ session group ne some.
    let w = some_looked (λ r. r.session == session && r.group == group) rs up some in
    let own : w.0.session ≡ session = eqb-true w.0.session session (and_parts (w.0.session == session) (w.0.group == group) w.2).0 in
    let other : w.0.pid ≢ p = λ same. ne (sym own ∙ ap (λ (r : Process). r.session) (same_Some _ _ (sym w.1 ∙ ap (λ q. lookup q rs) same ∙ found))) in
    any_looked (λ r. r.session == session && r.group == group) w.0.pid ts w.0 (others w.0.pid w.0 other w.1) w.2) h

-- ---- a console at an index

pub fresh_put : (u : Unchecked) (rs : List Process) (cs : List Console) (k : ℕ) (d : Console) → AreFreshBut u rs cs → (is_unchecked u d || is_fresh rs d) ≡ true → AreFreshBut u rs (slice_set cs k d)
fresh_put u rs [] k d h e = tt
fresh_put u rs (x ∷ xs) zero d h e = (e, h.1)
fresh_put u rs (x ∷ xs) (suc k) d h e = (h.0, fresh_put u rs xs k d h.1 e)

fresh_at : (u : Unchecked) (rs : List Process) (cs : List Console) (k : ℕ) (c : Console) → AreFreshBut u rs cs → slice_get cs k ≡ Some c → (is_unchecked u c || is_fresh rs c) ≡ true
fresh_at u rs [] k c h e = absurd (cc)
fresh_at u rs (x ∷ xs) zero c h e = let same : x ≡ c = cc in ap (λ c. is_unchecked u c || is_fresh rs c) (sym same) ∙ h.0
fresh_at u rs (x ∷ xs) (suc k) c h e = fresh_at u rs xs k c h.1 e

-- one with the same session and foreground process group
pub fresh_alike : (u : Unchecked) (rs : List Process) (cs : List Console) (k : ℕ) (c d : Console) → slice_get cs k ≡ Some c → d.session ≡ c.session → d.foreground ≡ c.foreground → AreFreshBut u rs cs → AreFreshBut u rs (slice_set cs k d)
fresh_alike u rs cs k c d at owner foreground h = fresh_put u rs cs k d h (by u ∙ fresh_at u rs cs k c h at)
  where
    by : (u : Unchecked) → (is_unchecked u d || is_fresh rs d) ≡ (is_unchecked u c || is_fresh rs c)
    by All = refl
    by u = rw (owner, foreground) refl

-- ---- a foreground is set

pub own_unchecked : (session : ℕ) (u : Unchecked) (c : Console) → c.session ≡ session → is_unchecked (also_in session u) c ≡ true
own_unchecked session Nothing c own = or_right (session == 0) _ (eq-eqb c.session session own)
own_unchecked session (In other) c own = elim (other == session) as (λ b. is_unchecked (cond b (In session) All) c ≡ true) [ true ↦ or_right (session == 0) _ (eq-eqb c.session session own) | false ↦ refl ]
own_unchecked session All c own = refl

-- ---- foregrounds are cleared

-- if the others are fresh, it is enough to refresh those that aren't known to be
refreshed_enough : (test : Console → Bool) (rs : List Process) (cs : List Console) → AllByRecursion (λ c. (test c || is_fresh rs c) ≡ true) cs → map (λ c. cond (test c) (refreshed rs c) c) cs ≡ map (refreshed rs) cs
refreshed_enough test rs [] h = refl
refreshed_enough test rs (c ∷ cs) h = rw (refreshed_enough test rs cs h.1) (ap (λ d. d ∷ map (refreshed rs) cs) (one (test c) h.0))
  where
    one : (b : Bool) → (b || is_fresh rs c) ≡ true → cond b (refreshed rs c) c ≡ refreshed rs c
    one true e = refl
    one false e = rw e refl

-- so nothing, if all are known to be
pub refreshed_fresh : (rs : List Process) (cs : List Console) → AreFreshBut Nothing rs cs → cs ≡ map (refreshed rs) cs
refreshed_fresh rs cs h = sym (map-id cs) ∙ refreshed_enough (λ c. false) rs cs h

-- the terminal of one session, which is one console at most
in_session : (session : ℕ) (rs : List Process) (cs : List Console) → session ≢ 0 → AreFreshBut (In session) rs cs → map (changed_at session (refreshed rs)) cs ≡ map (refreshed rs) cs
in_session session rs cs some h = refreshed_enough (λ c. c.session == session) rs cs (subst (λ b. AllByRecursion (λ c. ((b || c.session == session) || is_fresh rs c) ≡ true) cs) (ne_eqb session 0 some) h)

pub refreshed_one : {n : ℕ} (session k : ℕ) (c : Console) (rs : List Process) (cs : List Console) → session ≢ 0 → AreConsoles n cs → AreFreshBut (In session) rs cs → slice_get cs k ≡ Some c → c.session ≡ session → slice_set cs k (refreshed rs c) ≡ map (refreshed rs) cs
unfolding changed_console
refreshed_one {n = n} session k c rs cs some apart h found own = sym (changed_at_place n cs k session c (refreshed rs) apart found own some) ∙ in_session session rs cs some h

pub refreshed_none : (session : ℕ) (rs : List Process) (cs : List Console) → session ≢ 0 → AreFreshBut (In session) rs cs → console_of session cs ≡ None → cs ≡ map (refreshed rs) cs
refreshed_none session rs cs some h none = sym (changed_none session (refreshed rs) cs (none_of session cs none)) ∙ in_session session rs cs some h

-- ---- how many are unchecked

pub counts_own : (session k : ℕ) (c : Console) (cs : List Console) → slice_get cs k ≡ Some c → c.session ≡ session → 1 ≤ count_by (is_unchecked (In session)) cs
counts_own session k c cs at own = rw (← length-filter) (some k cs at)
  where
    some : (k : ℕ) (cs : List Console) → slice_get cs k ≡ Some c → 1 ≤ length (filter (is_unchecked (In session)) cs)
    some k [] at = absurd (cc)
    some zero (d ∷ ds) at = rw (or_right (session == 0) _ (eq-eqb d.session session (ap (λ (c : Console). c.session) (same_Some _ _ at) ∙ own))) (omega arith)
    some (suc k) (d ∷ ds) at = let more = some k ds at in elim (is_unchecked (In session) d) as (λ b. 1 ≤ length (cond b (d ∷ filter (is_unchecked (In session)) ds) (filter (is_unchecked (In session)) ds))) [ true ↦ omega arith | false ↦ more ]

-- all, if no session is named
pub counts_all : (u : Unchecked) (cs : List Console) → ((c : Console) → is_unchecked u c ≡ true) → count_by (is_unchecked u) cs ≡ length cs
counts_all u cs all = sym (length-filter (is_unchecked u) cs) ∙ each cs
  where
    each : (cs : List Console) → length (filter (is_unchecked u) cs) ≡ length cs
    each [] = refl
    each (c ∷ cs) = rw all (ap suc (each cs))
