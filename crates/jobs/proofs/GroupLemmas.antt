-- Members of a process group.
use Rattle.std.proofs.Common.{◌≡◌, ℕ, ◌+◌, ◌<◌, ◌^◌, cond, Bool, inl, refl, ap, ◌∙◌, arith, List, [], ◌∷◌, filter, length, Option, Some, None, is_some}
use Rattle.std.specs.List.{list_any}
use Rattle.posix.specs.Common.{Process, is_stopped, IsRising, above, first_pid, left_of, members_in, is_anchor}
use Rattle.posix.proofs.PassingLemmas.{filter_at_most}
use Rattle.posix.proofs.TableLemmas.{rising_filter}
use Rattle.posix.proofs.WalkLemmas.{all_left, has_first, next_begins, one_here, one_less, passing_above as all_passing}
use Rattle.pidset.specs.declared.index.Pair.{Pair}
use Rattle.pidset.specs.Indexes.{IsIndex, IsNextPair, anchor_key, is_key}
use Rattle.pidset.proofs.IndexLemmas.{next_pair, members_passing}
use Rattle.jobs.specs.declared.indexes.Indexes.{Indexes}
use Rattle.jobs.specs.Indexes.{AreIndexes, stopped_key}
use Rattle.jobs.specs.IndexedTables.{AreAnchors, AreNumbers}
use Rattle.jobs.proofs.KeptLemmas.{size_of}
use Rattle.jobs.proofs.NumberLemmas.{least_number}

-- all processes that pass have an ID above 0
pub passing_above : (t : Process → Bool) (rs : List Process) → IsRising rs → AreNumbers rs → above 0 (filter t rs) ≡ filter t rs
passing_above t rs up numbers = all_passing t rs up (least_number rs (numbers 0 (inl refl)))

-- an index of the members that pass a test has a first one for a process group exactly if a member passes
some_member : (t : Process → Bool) (key : Process → Option ℕ) → ((r : Process) → key r ≡ cond (t r) (Some r.group) None) → (group : ℕ) (rs : List Process) (pairs : List Pair) (next : Option ℕ) → IsRising rs → AreNumbers rs → IsIndex key rs pairs → IsNextPair group 0 pairs next
    → is_some next ≡ list_any t (members_in group rs)
some_member t key is group rs pairs next up numbers h i = ap is_some (next_pair key rs pairs group 0 next up h i ∙ ap first_pid (passing_above _ rs up numbers ∙ members_passing t key is group rs)) ∙ has_first t (members_in group rs)

-- such as the anchors
pub some_anchor : (group : ℕ) (rs : List Process) (b : Indexes) (next : Option ℕ) → IsRising rs → AreNumbers rs → AreAnchors rs b → IsNextPair group 0 b.anchors.pairs next → is_some next ≡ list_any (is_anchor rs) (members_in group rs)
some_anchor group rs b next up numbers h i = some_member (is_anchor rs) (anchor_key rs) (λ r. refl) group rs b.anchors.pairs next up numbers h.index i

-- or the stopped members
pub some_stopped : (group : ℕ) (rs : List Process) (b : Indexes) (next : Option ℕ) → IsRising rs → AreNumbers rs → AreIndexes rs b → IsNextPair group 0 b.stopped.pairs next → is_some next ≡ list_any (λ r. is_stopped r.life) (members_in group rs)
some_stopped group rs b next up numbers h i = some_member (λ r. is_stopped r.life) stopped_key (λ r. refl) group rs b.stopped.pairs next up numbers h.stopped.index i

-- ---- how many members there are

-- the processes with this key
abbrev pub under : (Process → Option ℕ) → ℕ → List Process → List Process
under key k rs = filter (λ r. is_key k (key r)) rs

-- A walk over the processes with this key has counted all but those that are left, of which this is the next.
pub record IsCount (key : Process → Option ℕ) (k : ℕ) (rs : List Process) (count : ℕ) (next : Option ℕ) : Type 0 where
  pub begins : first_pid (left_of next (under key k rs)) ≡ next
  pub counted : count + length (left_of next (under key k rs)) ≡ length (under key k rs)

-- at the start no process is counted
pub count_begins : (key : Process → Option ℕ) (k : ℕ) (rs : List Process) (pairs : List Pair) (next : Option ℕ) → IsRising rs → AreNumbers rs → IsIndex key rs pairs → IsNextPair k 0 pairs next → IsCount key k rs 0 next
count_begins key k rs pairs next up numbers h i =
    let is = next_pair key rs pairs k 0 next up h i in
    record {
      begins = next_begins 0 (under key k rs) next is;
      counted = let all = ap length (all_left (under key k rs) next (rising_filter _ rs up) (passing_above _ rs up numbers) is) in omega (arith, all);
    }

-- after p, which is next, one more is counted, and fewer are left
pub count_goes_on : (key : Process → Option ℕ) (k p : ℕ) (rs : List Process) (pairs : List Pair) (count : ℕ) (next after : Option ℕ) → IsRising rs → IsIndex key rs pairs → next ≡ Some p → IsNextPair k p pairs after → IsCount key k rs count next
    → IsCount key k rs (count + 1) after × (length (left_of after (under key k rs)) < length (left_of next (under key k rs)))
count_goes_on key k p rs pairs count next after up h comes i c =
    let is = next_pair key rs pairs k p after up h i in
    let passes = λ (r : Process). is_key k (key r) in
    let less = one_less passes p rs next after (one_here passes p rs next up comes c.begins) comes is in
    let all = c.counted in
    (record { begins = next_begins p (under key k rs) after is; counted = omega (arith, less, all) }, omega (arith, less))

-- the count doesn't overflow
pub few_counted : (key : Process → Option ℕ) (k : ℕ) (rs : List Process) (count : ℕ) (next : Option ℕ) → IsRising rs → AreNumbers rs → IsCount key k rs count next → count + 1 < 2 ^ 64
few_counted key k rs count next up numbers c = let all = c.counted in omega (arith, all, filter_at_most (λ r. is_key k (key r)) rs, size_of rs up numbers)

-- when none is left, all members of the process group that pass the test are counted
pub all_counted : (t : Process → Bool) (key : Process → Option ℕ) → ((r : Process) → key r ≡ cond (t r) (Some r.group) None) → (group : ℕ) (rs : List Process) (count : ℕ) (next : Option ℕ) → next ≡ None → IsCount key group rs count next → count ≡ length (filter t (members_in group rs))
all_counted t key is group rs count next none c =
    let all = c.counted in
    let left : length (left_of next (under key group rs)) ≡ 0 = rw none (ap length (none_left (under key group rs))) in
    let same = ap length (members_passing t key is group rs) in
    omega (arith, all, left, same)
  where
    none_left : (rs : List Process) → left_of None rs ≡ []
    none_left [] = refl
    none_left (r ∷ rs) = none_left rs
