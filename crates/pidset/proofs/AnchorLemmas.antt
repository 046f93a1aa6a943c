-- The index of anchors, which keep their process groups from being orphaned: whose key changes when one record is
-- changed, removed or inserted. It is the key of the process itself. If its group, its session or its existence
-- changes, the keys of its children change, too.
use Rattle.std.proofs.Common.{◌≡◌, ◌≢◌, ℕ, ◌&&◌, Bool, false, not, cond, map, refl, ap, sym, ◌∙◌, List, Option, Some, None, option_map, ◌==◌, inl, inr, arith}
use Rattle.std.specs.Option.{option_map_or}
use Rattle.std.specs.List.{list_any}
use Rattle.std.specs.Prelude.{option_and_then}
use Rattle.std.proofs.lemmas.Bool.{cases_eq, eq-eqb, ne_eqb}
use Rattle.posix.specs.Common.{Process, is_living, lookup, has_pid, is_child, children_in, left_of, first_pid, above, reparented, adopted, is_anchor, is_outside}
use Rattle.posix.proofs.TableLemmas.{pid_looked, pid_reparented, reparented_keeps}
use Rattle.posix.proofs.MapLemmas.{lookup_map}
use Rattle.posix.proofs.WalkLemmas.{AtChild, any_filter, any_looked}
use Rattle.pidset.specs.declared.index.Pair.{Pair}
use Rattle.pidset.specs.Indexes.{AreTurned, IsKeyed, IsMoved, IsAnchorIndex, anchor_key, is_key, is_pair_in, is_turned, key_of}
use Rattle.pidset.proofs.IndexLemmas.{IsElsewhere, keyed_moved}

-- what a child sees of its parent
pub record Stance : Type 0 where
  pub group : ℕ
  pub session : ℕ

abbrev pub stance : Process → Stance
stance r = record { group = r.group; session = r.session }

abbrev pub stance_of : ℕ → List Process → Option Stance
stance_of p rs = option_map stance (lookup p rs)

-- an anchor stays an anchor if its parent's stance is the same
pub same_anchor : (rs ts : List Process) (r : Process) → stance_of r.parent ts ≡ stance_of r.parent rs → anchor_key ts r ≡ anchor_key rs r
unfolding is_anchor
same_anchor rs ts r same = ap (λ (b : Bool). cond (is_living r && b) (Some r.group) None) (outside (lookup r.parent ts) ∙ ap (λ (o : Option Stance). option_map_or there o false) same ∙ sym (outside (lookup r.parent rs)))
  where
    there : Stance → Bool
    there t = t.session == r.session && not (t.group == r.group)

    outside : (o : Option Process) → option_map_or (is_outside r) o false ≡ option_map_or there (option_map stance o) false
    outside None = refl
    outside (Some q) = refl

-- when the record of p is changed, removed or inserted, another process keeps its key if its parent's stance is the
-- same
pub same_elsewhere : (p q : ℕ) (rs ts : List Process) → IsElsewhere p rs ts → q ≢ p → ((r : Process) → lookup q rs ≡ Some r → stance_of r.parent ts ≡ stance_of r.parent rs) → key_of (anchor_key ts) q ts ≡ key_of (anchor_key rs) q rs
same_elsewhere p q rs ts same ne stays = ap (option_and_then (anchor_key ts)) (same q ne) ∙ elim (lookup q rs) as (λ o. lookup q rs ≡ o → option_and_then (anchor_key ts) o ≡ option_and_then (anchor_key rs) o) [
  | None ↦ λ e. refl
  | Some r ↦ λ e. same_anchor rs ts r (stays r e)
] refl

-- if the stance of p is the same, so is that of every process
pub stance_stays : (p : ℕ) (rs ts : List Process) → IsElsewhere p rs ts → stance_of p ts ≡ stance_of p rs → (q : ℕ) → stance_of q ts ≡ stance_of q rs
stance_stays p rs ts same stays q = grind (arith, same q, stays)

-- if the stance of p is the same, only the key of p changes: for example, when its life changes
pub anchors_moved : (p : ℕ) (rs ts : List Process) (old new : List Pair) → IsElsewhere p rs ts → stance_of p ts ≡ stance_of p rs → IsAnchorIndex rs old → IsMoved p (key_of (anchor_key ts) p ts) old new → IsAnchorIndex ts new
anchors_moved p rs ts old new same stays h moved =
    keyed_moved p (λ q. key_of (anchor_key rs) q rs) (λ q. key_of (anchor_key ts) q ts) old new (λ q ne. same_elsewhere p q rs ts same ne (λ r e. stance_stays p rs ts same stays r.parent)) h moved

-- the same if p is the parent of no process, and is inserted or removed
pub anchors_apart : (p : ℕ) (rs ts : List Process) (old new : List Pair) → IsElsewhere p rs ts → ((q : ℕ) (r : Process) → lookup q rs ≡ Some r → r.parent ≢ p) → IsMoved p (key_of (anchor_key ts) p ts) old new → IsAnchorIndex rs old → IsAnchorIndex ts new
anchors_apart p rs ts old new same apart moved h =
    keyed_moved p (λ q. key_of (anchor_key rs) q rs) (λ q. key_of (anchor_key ts) q ts) old new (λ q ne. same_elsewhere p q rs ts same ne (λ r e. ap (option_map stance) (same r.parent (apart q r e)))) h moved

-- ---- children

-- the children of p get these keys
keyed_turned : (p : ℕ) (key : Process → Option ℕ) (rs : List Process) (keys now : ℕ → Option ℕ) (old new : List Pair) → AreTurned p key rs old new → IsKeyed keys old → ((q : ℕ) (r : Process) → lookup q rs ≡ Some r → r.parent ≡ p → key r ≡ now q)
    → ((q : ℕ) → ((r : Process) → lookup q rs ≡ Some r → r.parent ≢ p) → keys q ≡ now q) → IsKeyed now new
keyed_turned p key rs keys now old new turned h children others q k = turned k q ∙ at (lookup q rs) refl
  where
    at : (o : Option Process) → lookup q rs ≡ o → option_map_or (λ r. cond (r.parent == p) (is_key k (key r)) (is_pair_in k q old)) o (is_pair_in k q old) ≡ is_key k (now q)
    at None e = h q k ∙ ap (is_key k) (others q (λ r f. let no : None ≡ Some r = sym e ∙ f in absurd (cc)))
    at (Some r) e = grind (arith, h q k, children q r e, λ (ne : r.parent ≢ p). others q (λ x f. let one : Some x ≡ Some r = sym f ∙ e in let is : x ≡ r = cc in rw is ne))

-- the key of p changes, and then those of its children, which see p
pub anchors_turned : (p : ℕ) (key : Process → Option ℕ) (rs ts : List Process) (old mid new : List Pair) → IsElsewhere p rs ts → IsMoved p (key_of (anchor_key ts) p ts) old mid → AreTurned p key ts mid new → ((r : Process) → r.parent ≡ p → key r ≡ anchor_key ts r)
    → IsAnchorIndex rs old → IsAnchorIndex ts new
anchors_turned p key rs ts old mid new same moved turned keys h = keyed_turned p key ts between now mid new turned (keyed_moved p was between old mid (λ q ne. rw (ne_eqb q p ne) refl) h (rw (eq-eqb p p refl) moved))
    (λ q r e child. keys r child ∙ sym (ap (option_and_then (anchor_key ts)) e)) (λ q apart. elim (cases_eq q p) [
      | inl here ↦ rw (eq-eqb q p here) (ap now (sym here))
      | inr ne ↦ rw (ne_eqb q p ne) (sym (same_elsewhere p q rs ts same ne (λ r e. ap (option_map stance) (same r.parent (apart r (same q ne ∙ e))))))
    ])
  where
    was : ℕ → Option ℕ
    was q = key_of (anchor_key rs) q rs

    now : ℕ → Option ℕ
    now q = key_of (anchor_key ts) q ts

    between : ℕ → Option ℕ
    between q = cond (q == p) (now p) (was q)

-- the keys of the children of one process change, and then they become children of another
pub anchors_adopted : (from to : ℕ) (key : Process → Option ℕ) (rs : List Process) (old new : List Pair) → AreTurned from key rs old new → ((r : Process) → key r ≡ anchor_key rs (record r { parent = to })) → IsAnchorIndex rs old → IsAnchorIndex (adopted from to rs) new
unfolding adopted
anchors_adopted from to key rs old new turned keys h = keyed_turned from key rs (λ q. key_of (anchor_key rs) q rs) (λ q. key_of (anchor_key ts) q ts) old new turned h
    (λ q r e child.
    let is : lookup q ts ≡ Some (record r { parent = to }) = found q (Some r) e ∙ rw (eq-eqb r.parent from child) refl in
    keys r ∙ sym (same_anchor rs ts (record r { parent = to }) (stays to)) ∙ sym (ap (option_and_then (anchor_key ts)) is))
    (λ q apart. elim (lookup q rs) as (λ o. lookup q rs ≡ o → option_and_then (anchor_key rs) o ≡ key_of (anchor_key ts) q ts) [
      | None ↦ λ e. ap (option_and_then (anchor_key ts)) (sym (found q None e))
      | Some r ↦ λ e.
          let is : lookup q ts ≡ Some r = found q (Some r) e ∙ rw (ne_eqb r.parent from (apart r e)) refl in
          sym (same_anchor rs ts r (stays r.parent)) ∙ sym (ap (option_and_then (anchor_key ts)) is)
    ] refl)
  where
    ts : List Process
    ts = map (reparented from to) rs

    found : (q : ℕ) (o : Option Process) → lookup q rs ≡ o → lookup q ts ≡ option_map (reparented from to) o
    found q o e = lookup_map (reparented from to) (pid_reparented from to) q rs ∙ ap (option_map (reparented from to)) e

    stays : (q : ℕ) → stance_of q ts ≡ stance_of q rs
    stays q = ap (option_map stance) (found q (lookup q rs) refl) ∙ elim (lookup q rs) as (λ o. option_map stance (option_map (reparented from to) o) ≡ option_map stance o) [
      | None ↦ refl
      | Some r ↦ ap Some (reparented_keeps stance from to (λ r. refl) r)
    ]

-- ---- a walk over the children

-- a process that isn't a child keeps its key
pub turned_none : (p : ℕ) (key : Process → Option ℕ) (rs : List Process) (old : List Pair) (q : ℕ) → list_any (has_pid q) (children_in p rs) ≡ false → (k : ℕ) → is_pair_in k q old ≡ is_turned p key rs old k q
unfolding children_in
turned_none p key rs old q none k = at (lookup q rs) refl
  where
    at : (o : Option Process) → lookup q rs ≡ o → is_pair_in k q old ≡ option_map_or (λ r. cond (r.parent == p) (is_key k (key r)) (is_pair_in k q old)) o (is_pair_in k q old)
    at None e = refl
    at (Some r) e = grind (arith, λ (child : r.parent ≡ p). any_looked (λ r. is_child p r && has_pid q r) q rs r e (rw (eq-eqb r.parent p child) (eq-eqb r.pid q (pid_looked q rs r e))), none, any_filter (is_child p) (has_pid q) rs)

-- after the child c has got its key, all processes except the children that are left have theirs
pub turned_one : (p c : ℕ) (key : Process → Option ℕ) (rs : List Process) (old mid new : List Pair) (next : Option ℕ) → (i : AtChild rs p c) → next ≡ Some c → IsMoved c (key i.what) mid new
    → ((q : ℕ) → list_any (has_pid q) (left_of next (children_in p rs)) ≡ false → (k : ℕ) → is_pair_in k q mid ≡ is_turned p key rs old k q)
    → (q : ℕ) → list_any (has_pid q) (left_of (first_pid (above c (children_in p rs))) (children_in p rs)) ≡ false → (k : ℕ) → is_pair_in k q new ≡ is_turned p key rs old k q
turned_one p c key rs old mid new next i comes moved h q none k = moved k q ∙ elim (cases_eq q c) [
  | inl here ↦ rw (eq-eqb q c here) (sym (ap (λ n. is_turned p key rs old k n) here ∙ rw (i.found, eq-eqb i.what.parent p i.parent) refl))
  | inr ne ↦ rw (ne_eqb q c ne) (h q (rw (comes, i.left, none) (rw (ne_eqb i.what.pid q (λ e. ne (sym e ∙ i.named))) refl)) k)
]
