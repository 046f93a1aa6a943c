-- A table after many changes.
use Rattle.std.proofs.Common.{◌≡◌, ℕ, ◌+◌, refl, ap, ◌∙◌, arith, List, [], ◌∷◌, length, filter_map, None, Some, unwrap_or, ◌==◌, length-set}
use Rattle.std.specs.List.{last_or}
use Rattle.std.proofs.lemmas.Bool.{eqb-true}
use Rattle.std.proofs.lemmas.Bool.Decides.{nat_tests}
use Rattle.std.proofs.lemmas.List.{length-replicate}
use Rattle.posix.specs.Common.{next_free}
use Rattle.pidalloc.specs.Rows.{Role, Process, Group, Session, Pids, row, count_of, one_more, one_less, borne, given_up, unborne, unborne_table, is_free_in}
use Rattle.pidalloc.specs.Bags.{Change, Bear, GiveUp, after, AreAllowed, times_borne, times_given_up, is_free_after, number_of_process, last_borne}
use Rattle.pidalloc.proofs.RowLemmas.{row_with, no_row}
use Rattle.pidalloc.proofs.FreeLemmas.{next_free_same}

-- what a row counts after any changes
bag : (p : Pids) (cs : List Change) → length p.rows ≡ p.pidmax + 1 → AreAllowed p cs → (role : Role) (n : ℕ)
    → count_of role (row (after p cs).rows n) + times_given_up role n cs ≡ count_of role (row p.rows n) + times_borne role n cs
unfolding after AreAllowed times_borne times_given_up borne given_up
bag p [] size ok role n = refl
bag p (Bear m other ∷ cs) size ok role n =
    let rest = bag (borne p m other) cs (length-set p.rows m (one_more other (row p.rows m)) ∙ size) ok.1 role n in
    grind (arith, eqb-true, rest, row_with p.rows m n (one_more other) (λ e. omega (arith, e, size, ok.0)))
bag p (GiveUp m other ∷ cs) size ok role n =
    let rest = bag (given_up p m other) cs (length-set p.rows m (one_less other (row p.rows m)) ∙ size) ok.1 role n in
    grind (arith, eqb-true, rest, ok.0.1, row_with p.rows m n (one_less other) (λ e. omega (arith, e, size, ok.0.0)))

-- the row of an unused ID counts nothing
no_count : (role : Role) → count_of role unborne ≡ 0
no_count role = grind arith

-- from the start on, the count of a row is the uses added less the uses removed
pub counts : (pidmax : ℕ) (cs : List Change) → AreAllowed (unborne_table pidmax) cs → (role : Role) (n : ℕ)
    → count_of role (row (after (unborne_table pidmax) cs).rows n) + times_given_up role n cs ≡ times_borne role n cs
counts pidmax cs ok role n =
    let b = bag (unborne_table pidmax) cs (length-replicate (pidmax + 1) unborne) ok role n in
    let z = ap (count_of role) (no_row (pidmax + 1) n) ∙ no_count role in
    omega (arith, b, z)

-- a count is 0 if as many uses were removed as added
even : (count given borne : ℕ) → count + given ≡ borne → (count == 0) ≡ (borne == given)
even count given borne e = grind (arith, nat_tests, e)

-- the next free ID by the rows is the next free one by the changes
pub next_after : (pidmax last : ℕ) (cs : List Change) → AreAllowed (unborne_table pidmax) cs
    → next_free (is_free_in (after (unborne_table pidmax) cs).rows) last pidmax ≡ next_free (is_free_after cs) last pidmax
unfolding is_free_in is_free_after
next_after pidmax last cs ok = next_free_same _ _ last pidmax (λ n l.
    rw (even _ _ _ (counts pidmax cs ok Process n), even _ _ _ (counts pidmax cs ok Group n), even _ _ _ (counts pidmax cs ok Session n)) refl)

-- ---- the last ID given out

-- the last ID given out is the last process ID used by the changes, or the last one before them
last_from : (p : Pids) (cs : List Change) (d : ℕ) → (after p cs).last ≡ unwrap_or (last_or (Some p.last) (filter_map number_of_process cs)) d
unfolding after borne given_up
last_from p [] d = refl
last_from p (Bear n Process ∷ cs) d = last_from (borne p n Process) cs d
last_from p (Bear n Group ∷ cs) d = last_from (borne p n Group) cs d
last_from p (Bear n Session ∷ cs) d = last_from (borne p n Session) cs d
last_from p (GiveUp n role ∷ cs) d = last_from (given_up p n role) cs d

-- the last of a list, or n
last_else : (n : ℕ) (ns : List ℕ) → unwrap_or (last_or (Some n) ns) n ≡ unwrap_or (last_or None ns) n
last_else n [] = refl
last_else n (m ∷ ns) = refl

-- from the start on, the last ID given out is the last process ID used
pub last_after : (pidmax : ℕ) (cs : List Change) → (after (unborne_table pidmax) cs).last ≡ last_borne cs
unfolding last_borne
last_after pidmax cs = last_from (unborne_table pidmax) cs 1 ∙ last_else 1 (filter_map number_of_process cs)
