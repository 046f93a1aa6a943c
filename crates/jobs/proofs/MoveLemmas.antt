-- Moves between process groups: which groups exist.
use Rattle.std.proofs.Common.{◌≡◌, ℕ, ◌<◌, true, false, not, ◌&&◌, ◌||◌, ◌==◌, refl, sym, ◌∙◌, arith, subst, List, [], ◌∷◌, Some, None, is_some, filter}
use Rattle.std.specs.List.{list_any}
use Rattle.std.specs.Option.{IfSome, option_map_or}
use Rattle.std.proofs.lemmas.Bool.{eqb-true, and_parts, false_from_ne_true}
use Rattle.std.proofs.lemmas.Bool.Decides.{nat_tests}
use Rattle.posix.specs.Common.{Process, IsRising, lookup, is_member, members_in, first_pid, above, is_group_of, is_group_of_others, AreGrouped}
use Rattle.posix.proofs.ResultLemmas.{mapped_is}
use Rattle.posix.proofs.TableLemmas.{pid_looked, rising_filter}
use Rattle.posix.proofs.WalkLemmas.{Passes, any_filter, first_passes, any_looked, some_looked}
use Rattle.jobs.specs.IndexedTables.{AreWithin}

-- ---- whether a group exists

-- a group without members is in no session
pub no_first : (session g : ℕ) (rs : List Process) → first_pid (members_in g rs) ≡ None → is_group_of session g rs ≡ false
unfolding is_group_of members_in
no_first session g [] e = refl
no_first session g (x ∷ xs) e = grind (arith, e, no_first session g xs)

-- a group is not in a session if no member is
no_member : (session g : ℕ) (rs : List Process) → IsRising rs → ((q : ℕ) (r : Process) → lookup q rs ≡ Some r → r.group ≡ g → (r.session == session) ≡ false) → is_group_of session g rs ≡ false
unfolding is_group_of
no_member session g rs up h = false_from_ne_true _ (λ e.
    let i = some_looked _ rs up e in
    let both = and_parts (i.0.session == session) (i.0.group == g) i.2 in
    let no : true ≡ false = sym both.0 ∙ h i.0.pid i.0 i.1 (eqb-true _ _ both.1) in
    cc)

-- nor if its ID is out of range
pub no_number : (session g : ℕ) (sizes : List ℕ) (rs : List Process) → IsRising rs → AreWithin sizes rs → 2147483647 < g → is_group_of session g rs ≡ false
no_number session g sizes rs up within high = no_member session g rs up (λ q r f e. let most = (within q r f).1.1 in absurd (omega (arith, e, most, high)))

pub ruleset group_rules = (no_first, no_number)

-- the first member of a group exists, and its session is that of the group
pub by_first : (session g p : ℕ) (rs : List Process) → IsRising rs → AreGrouped rs → first_pid (members_in g rs) ≡ Some p → (it : Process) × (lookup p rs ≡ Some it) × (is_group_of session g rs ≡ (it.session == session && it.group == g))
unfolding is_group_of members_in
by_first session g p rs up k first =
    let at : Passes (is_member g) rs p = subst (λ o. IfSome o (Passes (is_member g) rs)) first (first_passes (is_member g) rs up) in
    let here : (at.0.group == g) ≡ true = at.2 in (
      at.0,
      at.1,
      rw here (elim (at.0.session == session) as (λ b. (at.0.session == session) ≡ b → is_group_of session g rs ≡ (b && true)) [
        | true ↦ λ e. any_looked _ p rs at.0 at.1 (rw (e, here) refl)
        | false ↦ λ e. no_member session g rs up (λ q r f same. rw (k.one q p r at.0 f at.1 (same ∙ sym (eqb-true _ _ here)), e) refl)
      ] refl),
    )

-- ---- other processes in the process group with the ID of one

-- the first member is another process, or one is after it
other_among : (p : ℕ) (ms : List Process) → IsRising ms → list_any (λ r. not (r.pid == p)) ms ≡ option_map_or (λ q. not (q == p) || is_some (first_pid (above p ms))) (first_pid ms) false
unfolding IsRising
other_among p [] up = refl
other_among p (x ∷ []) up = grind (arith, nat_tests)
other_among p (x ∷ y ∷ ys) up = grind (arith, nat_tests, up.0.0)

-- the same for an existing process with the ID p
pub others_of : (p : ℕ) (rs : List Process) (me : Process) → IsRising rs → lookup p rs ≡ Some me → is_group_of_others me rs ≡ option_map_or (λ q. not (q == p) || is_some (first_pid (above p (members_in p rs)))) (first_pid (members_in p rs)) false
unfolding members_in
others_of p rs me up found = rw (pid_looked p rs me found) (sym (any_filter (is_member p) (λ r. not (r.pid == p)) rs) ∙ other_among p (filter (is_member p) rs) (rising_filter (is_member p) rs up))

-- whether a process leads a process group, from its snapshot
pub ruleset lead_rules = (mapped_is, pid_looked)
