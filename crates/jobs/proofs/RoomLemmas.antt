-- For which IDs the lists of a table have room, and what is freed with a page.
use Rattle.std.proofs.Common.{◌≡◌, ℕ, ◌/◌, refl, ap, sym, ◌∙◌, arith, true, List, [], ◌∷◌, Option, Some, None, slice_index_or, slice_set, ◌≤◌, ◌==◌, zero, suc}
use Rattle.std.specs.Prelude.{option_and_then}
use Rattle.std.specs.Option.{IfSome}
use Rattle.std.proofs.lemmas.Bool.{cond_both, eqb-false, eqb-true}
use Rattle.std.proofs.lemmas.Bool.Decides.{nat_tests}
use Rattle.posix.specs.Common.{Process, is_anchor, lookup}
use Rattle.posix.proofs.TableLemmas.{pid_looked}
use Rattle.pidset.specs.declared.index.Pair.{Pair}
use Rattle.pidset.specs.Indexes.{IsIndex, anchor_key, is_key}
use Rattle.pidset.specs.Lists.{IsPageUnused, without_page_of}
use Rattle.pidset.specs.Rows.{Grows, HasRoom, IsOnAnotherPage, sizes_without}
use Rattle.pidset.proofs.RowLemmas.{room_stays}
use Rattle.jobs.specs.declared.indexes.Indexes.{Indexes}
use Rattle.jobs.specs.declared.indexes.IndexedFields.{IndexedFields}
use Rattle.jobs.specs.Indexes.{IsInside, common, lesser, member_in, member_key, parent_key, sizes_in}
use Rattle.jobs.specs.IndexedTables.{AreOnOtherPages, IsKept}
use Rattle.posix.proofs.ResultLemmas.{there}

-- ---- the room that all lists have

common_at : (ms ns : List ℕ) (i : ℕ) → slice_index_or (common ms ns) i 0 ≡ lesser (slice_index_or ms i 0) (slice_index_or ns i 0)
unfolding common
common_at [] ns i = grind (arith, nat_tests)
common_at (m ∷ ms) [] i = grind (arith, nat_tests)
common_at (m ∷ ms) (n ∷ ns) zero = refl
common_at (m ∷ ms) (n ∷ ns) (suc i) = common_at ms ns i

both_room : (ms ns : List ℕ) (p : ℕ) → HasRoom (common ms ns) p → HasRoom ms p × HasRoom ns p
both_room ms ns p room = let both = rw (common_at ms ns (p / 1024)) at room in (grind (arith, nat_tests, both), grind (arith, nat_tests, both))

common_room : (ms ns : List ℕ) (p : ℕ) → HasRoom ms p → HasRoom ns p → HasRoom (common ms ns) p
common_room ms ns p room also = rw (common_at ms ns (p / 1024)) (grind (arith, nat_tests, room, also))

pub members_room : (b : Indexes) → Grows (sizes_in b) b.members.sizes
members_room b p room = (both_room _ _ p (both_room _ _ p room).0).0

pub anchors_room : (b : Indexes) → Grows (sizes_in b) b.anchors.sizes
anchors_room b p room = (both_room _ _ p (both_room _ _ p room).0).1

pub children_room : (b : Indexes) → Grows (sizes_in b) b.children.sizes
children_room b p room = (both_room _ _ p room).1

pub all_room : (b : Indexes) (p : ℕ) → HasRoom b.members.sizes p → HasRoom b.anchors.sizes p → HasRoom b.children.sizes p → HasRoom (sizes_in b) p
all_room b p members anchors children = common_room _ _ p (common_room _ _ p members anchors) children

-- the list of members has room for p
pub inside_members : (p : ℕ) (it : Option IndexedFields) (b : Indexes) → IsInside p it b → HasRoom b.members.sizes p × IfSome (member_in it) (λ k. (1 ≤ k) × HasRoom b.members.sizes k)
inside_members p None b h = (members_room b p h.0, tt)
inside_members p (Some w) b h = (members_room b p h.0, (h.1.0.0, members_room b w.group h.1.1))

-- there is more room in common if each list has more
pub grown : (old new : Indexes) → Grows old.members.sizes new.members.sizes → Grows old.anchors.sizes new.anchors.sizes → Grows old.children.sizes new.children.sizes → Grows (sizes_in old) (sizes_in new)
grown old new members anchors children p room = all_room new p (members p (members_room old p room)) (anchors p (anchors_room old p room)) (children p (children_room old p room))

-- ---- a page is freed

-- if no process and no key is on the page of n, this index doesn't use the page
stays_apart : (key : Process → Option ℕ) (n : ℕ) (rs : List Process) (pairs : List Pair) → AreOnOtherPages n rs → ((p : ℕ) (r : Process) → lookup p rs ≡ Some r → IfSome (key r) (λ k. IsOnAnotherPage k n)) → IsIndex key rs pairs → IsPageUnused n pairs
stays_apart key n rs pairs apart keyed index k p e = by (lookup p rs) refl (sym (index p k) ∙ e)
  where
    under : (o : Option ℕ) → IfSome o (λ k. IsOnAnotherPage k n) → is_key k o ≡ true → IsOnAnotherPage k n
    under None a h = absurd (cc)
    under (Some m) a h = rw (eqb-true m k h) at a

    by : (o : Option Process) → lookup p rs ≡ o → is_key k (option_and_then key o) ≡ true → IsOnAnotherPage k n × IsOnAnotherPage p n
    by None f h = absurd (cc)
    by (Some r) f h = (under (key r) (keyed p r f) h, rw (pid_looked p rs r f) at (apart p r f).0)

-- and neither does an index of the table
pub members_unused : {m : ℕ} (n : ℕ) (rs : List Process) (b : Indexes) → AreOnOtherPages n rs → IsKept m b rs → IsPageUnused n b.members.pairs
members_unused n rs b apart k = stays_apart member_key n rs b.members.pairs apart (λ p r f. (apart p r f).1) k.indexes.members

pub anchors_unused : {m : ℕ} (n : ℕ) (rs : List Process) (b : Indexes) → AreOnOtherPages n rs → IsKept m b rs → IsPageUnused n b.anchors.pairs
anchors_unused n rs b apart k = stays_apart (anchor_key rs) n rs b.anchors.pairs apart (λ p r f. cond_both (is_anchor rs r) (Some r.group) None (λ o. IfSome o (λ k. IsOnAnotherPage k n)) (λ _. (apart p r f).1) (λ _. tt)) k.anchors.index

pub children_unused : {m : ℕ} (n : ℕ) (rs : List Process) (b : Indexes) → AreOnOtherPages n rs → IsKept m b rs → IsPageUnused n b.children.pairs
children_unused n rs b apart k = stays_apart parent_key n rs b.children.pairs apart (λ p r f. cond_both (r.parent == 0) None (Some r.parent) (λ o. IfSome o (λ k. IsOnAnotherPage k n)) (λ _. tt) (λ some.
    let up = there _ (k.anchors.parents p r (eqb-false r.parent 0 some) f) in
    rw (pid_looked r.parent rs up.what up.found) at (apart r.parent up.what up.found).0)) k.children

-- ---- the room that is left

-- if a size becomes 0 in both, it becomes 0 in common
common_set : (ms ns : List ℕ) (i : ℕ) → common (slice_set ms i 0) (slice_set ns i 0) ≡ slice_set (common ms ns) i 0
unfolding common
common_set [] ns i = refl
common_set (m ∷ ms) [] zero = refl
common_set (m ∷ ms) [] (suc i) = refl
common_set (m ∷ ms) (n ∷ ns) zero = refl
common_set (m ∷ ms) (n ∷ ns) (suc i) = ap (λ rest. lesser m n ∷ rest) (common_set ms ns i)

abbrev pub indexes_left : ℕ → Indexes → Indexes
indexes_left n b = record b { members = without_page_of n b.members; anchors = without_page_of n b.anchors; children = without_page_of n b.children }

pub sizes_left : (n : ℕ) (b : Indexes) → sizes_in (indexes_left n b) ≡ sizes_without (sizes_in b) n
sizes_left n b = ap (λ ms. common ms (sizes_without b.children.sizes n)) (common_set b.members.sizes b.anchors.sizes (n / 1024)) ∙ common_set (common b.members.sizes b.anchors.sizes) b.children.sizes (n / 1024)

-- the invariant holds without the room for that page
pub kept_left : (m n : ℕ) (rs : List Process) (b : Indexes) → AreOnOtherPages n rs → IsKept m b rs → IsKept m (indexes_left n b) rs
kept_left m n rs b apart k = record {
  rising = k.rising;
  numbers = k.numbers;
  within = rw (sizes_left n b) (λ p r f. let a = apart p r f in let w = k.within p r f in (room_stays (sizes_in b) n r.pid a.0 w.0, w.1, room_stays (sizes_in b) n r.group a.1 w.2));
  count = k.count;
  indexes = record { members = k.indexes.members; reporting = k.indexes.reporting; stopped = k.indexes.stopped; alarmed = k.indexes.alarmed; subreapers = k.indexes.subreapers };
  anchors = record { index = k.anchors.index; parents = k.anchors.parents };
  children = k.children;
}
