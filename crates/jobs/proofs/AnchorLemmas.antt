-- What keeps the index of anchors right, by the indexed fields of processes.
use Rattle.std.proofs.Common.{◌≡◌, ℕ, ◌≤◌, ◌==◌, ◌&&◌, ◌||◌, true, false, not, cond, refl, ap, sym, subst, ◌∙◌, arith, List, Option, Some, None, option_map}
use Rattle.std.specs.Option.{IfSome, IsSome, option_map_or}
use Rattle.std.specs.Prelude.{option_and_then}
use Rattle.std.proofs.lemmas.Bool.{and_parts, cond_both, eqb-true, not-true}
use Rattle.posix.specs.Common.{Process, is_living, is_zombie, is_anchor, is_outside as is_outside_of, lookup, parent_of}
use Rattle.posix.proofs.TableLemmas.{pid_looked}
use Rattle.pidset.specs.declared.index.Pair.{Pair}
use Rattle.pidset.specs.Rows.{HasRoom}
use Rattle.pidset.specs.Indexes.{IsMoved, IsAnchorIndex, anchor_key, key_of}
use Rattle.pidset.proofs.IndexLemmas.{IsElsewhere, unmoved}
use Rattle.pidset.proofs.AnchorLemmas.{Stance, stance, stance_of, same_anchor, stance_stays, anchors_moved}
use Rattle.jobs.specs.declared.indexes.IndexedFields.{IndexedFields}
use Rattle.jobs.specs.Indexes.{seen_of, anchor_in, child_key, keeps_group_and_session}
use Rattle.jobs.specs.IndexedTables.{AreWithin}
use Rattle.jobs.proofs.NumberLemmas.{least_number}
use Rattle.posix.proofs.ResultLemmas.{there as there_is}

-- ---- by the indexed fields

abbrev pub seen_at : ℕ → List Process → Option IndexedFields
seen_at p rs = option_map seen_of (lookup p rs)

-- the fields seen are those of an existing process
pub seen_found : (p : ℕ) (rs : List Process) (w : IndexedFields) → seen_at p rs ≡ Some w → (r : Process) × (lookup p rs ≡ Some r) × (seen_of r ≡ w)
seen_found p rs w e = elim (lookup p rs) as (λ o. option_map seen_of o ≡ Some w → (r : Process) × (o ≡ Some r) × (seen_of r ≡ w)) [ None ↦ λ k. absurd (cc) | Some r ↦ λ k. (r, refl, cc) ] e

-- the anchor key of a process follows from its fields and its parent's
key_is : (rs : List Process) (r : Process) → anchor_key rs r ≡ anchor_in (seen_of r) (seen_at r.parent rs)
unfolding is_anchor
key_is rs r = elim (lookup r.parent rs) as (λ o. cond (is_living r && option_map_or (is_outside_of r) o false) (Some r.group) None ≡ anchor_in (seen_of r) (option_map seen_of o)) [ None ↦ refl | Some q ↦ refl ]

-- the same for an existing process
pub key_at : (p : ℕ) (rs : List Process) (w : IndexedFields) → seen_at p rs ≡ Some w → key_of (anchor_key rs) p rs ≡ anchor_in w (seen_at (parent_of p rs) rs)
key_at p rs w e = let r = seen_found p rs w e in rw r.1 (key_is rs r.0 ∙ ap (λ w. anchor_in w (seen_at r.0.parent rs)) r.2)

-- and for a child of an existing process
pub child_is : (p : ℕ) (rs : List Process) (up : IndexedFields) → seen_at p rs ≡ Some up → (r : Process) → r.parent ≡ p → child_key up r ≡ anchor_key rs r
child_is p rs up e r its = sym (key_is rs r ∙ ap (λ n. anchor_in (seen_of r) (seen_at n rs)) its ∙ ap (anchor_in (seen_of r)) e)

-- ---- one process is changed, and stays in its process group and its session

-- the stance that its children see
abbrev pub stance_in : IndexedFields → Stance
stance_in w = record { group = w.group; session = w.session }

-- if a process keeps its group and its session, its children see the same, and it isn't revived
pub stance_kept : (old new : IndexedFields) → keeps_group_and_session old new ≡ true → (new.group ≡ old.group) × (stance_in new ≡ stance_in old) × (is_zombie new.life ≡ false → is_zombie old.life ≡ false)
stance_kept old new e =
    let both = and_parts (old.group == new.group && old.session == new.session) _ e in
    let each = and_parts (old.group == new.group) _ both.0 in
    (sym (eqb-true _ _ each.0), rw (eqb-true _ _ each.0, eqb-true _ _ each.1) refl, λ alive. not-true _ (ap (λ b. b || not (is_zombie old.life)) (sym alive) ∙ both.1))

-- the stance of an existing process follows from its fields
stance_at : (p : ℕ) (rs : List Process) (w : IndexedFields) → seen_at p rs ≡ Some w → stance_of p rs ≡ Some (stance_in w)
stance_at p rs w e = let r = seen_found p rs w e in ap (option_map stance) r.1 ∙ ap (λ w. Some (stance_in w)) r.2

-- only its own key changes
pub anchors_put : (p : ℕ) (rs ts : List Process) (before after : IndexedFields) (old new : List Pair) → IsElsewhere p rs ts → seen_at p rs ≡ Some before → seen_at p ts ≡ Some after → stance_in after ≡ stance_in before
    → IsMoved p (anchor_in after (seen_at (parent_of p ts) ts)) old new → IsAnchorIndex rs old → IsAnchorIndex ts new
anchors_put p rs ts before after old new same was is stays moved h = anchors_moved p rs ts old new same (stance_at p ts after is ∙ ap Some stays ∙ sym (stance_at p rs before was)) h (rw (key_at p ts after is) moved)

-- and its key stays if its parent is the same, and it is a zombie exactly if it was one
pub anchors_same : (p : ℕ) (rs ts : List Process) (before after : IndexedFields) (pairs : List Pair) → IsElsewhere p rs ts → seen_at p rs ≡ Some before → seen_at p ts ≡ Some after → parent_of p ts ≡ parent_of p rs → stance_in after ≡ stance_in before
    → is_zombie after.life ≡ is_zombie before.life → IsAnchorIndex rs pairs → IsAnchorIndex ts pairs
anchors_same p rs ts before after pairs same was is parent stays life h = anchors_put p rs ts before after pairs pairs same was is stays (unmoved (anchor_key rs) p rs pairs _ h key) h
  where
    key : anchor_in after (seen_at (parent_of p ts) ts) ≡ key_of (anchor_key rs) p rs
    key =
        let now = seen_found p ts after is in
        sym (key_at p ts after is) ∙ ap (option_and_then (anchor_key ts)) now.1 ∙ same_anchor rs ts now.0 (stance_stays p rs ts same (stance_at p ts after is ∙ ap Some stays ∙ sym (stance_at p rs before was)) now.0.parent)
        ∙ key_is rs now.0 ∙ ap (λ w. anchor_in w (seen_at now.0.parent rs)) now.2 ∙ ap (λ n. anchor_in after (seen_at n rs)) (rw now.1 at parent)
        ∙ rw (ap (λ (s : Stance). s.group) stays, ap (λ (s : Stance). s.session) stays, life) refl ∙ sym (key_at p rs before was)

-- an existing process has an ID other than 0, and there is room for it
pub number_within : (sizes : List ℕ) (p : ℕ) (rs : List Process) → AreWithin sizes rs → lookup 0 rs ≡ None → IsSome (lookup p rs) → (1 ≤ p) × HasRoom sizes p
number_within sizes p rs h none there =
    let r = there_is (lookup p rs) there in
    let named = pid_looked p rs r.what r.found in
    let low = least_number rs none p r.what r.found in
    let high = (h p r.what r.found).0 in
    (omega (arith, named, low), rw named at high)

-- there is room for the list of an anchor if there is room for that of its process group
pub anchor_inside : (sizes : List ℕ) (w : IndexedFields) (up : Option IndexedFields) → (1 ≤ w.group) × HasRoom sizes w.group → IfSome (anchor_in w up) (λ k. (1 ≤ k) × HasRoom sizes k)
anchor_inside sizes w up h = cond_both _ (Some w.group) None (λ o. IfSome o (λ k. (1 ≤ k) × HasRoom sizes k)) (λ e. h) (λ e. tt)

-- and so there is for an existing process
pub anchor_within : (sizes : List ℕ) (p : ℕ) (rs : List Process) (w : IndexedFields) (up : Option IndexedFields) → AreWithin sizes rs → seen_at p rs ≡ Some w → IfSome (anchor_in w up) (λ k. (1 ≤ k) × HasRoom sizes k)
anchor_within sizes p rs w up h e =
    let r = seen_found p rs w e in
    let inside = h p r.0 r.1 in
    anchor_inside sizes w up (subst (λ (w : IndexedFields). (1 ≤ w.group) × HasRoom sizes w.group) r.2 (inside.1.0, inside.2))
