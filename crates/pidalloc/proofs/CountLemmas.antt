-- How many IDs of a page are in use.
use Rattle.std.proofs.Common.{◌≡◌, ◌≢◌, ℕ, ◌+◌, ◌-◌, ◌*◌, ◌/◌, ◌<◌, ◌≤◌, ◌==◌, Bool, true, false, cond, not, ◌&&◌, List, [], length, map, count_by, length-set, refl, ap, sym, ◌∙◌, arith, inl, inr}
use Rattle.std.specs.Prelude.{slice_set, slice_index_or}
use Rattle.std.specs.List.{range_with_len, position_or_len}
use Rattle.std.proofs.lemmas.Bool.{cases_eq, cases_lt, eq-eqb, ne_eqb, not-true, false_from_ne_true, true_from_ne_false}
use Rattle.std.proofs.lemmas.List.{get_or-set_same, get_or-set_other, get_or_default}
use Rattle.std.proofs.lemmas.List.FromFn.{get_or-map-range_with_len, length-map-range_with_len}
use Rattle.std.proofs.lemmas.List.Sums.{count_by-le-length, sum_by-set, sum_by-le, fails_before_first, passes_at_first}
use Rattle.pidalloc.specs.Rows.{Row, unborne, is_free_row, is_borne, row_in, one, borne_on, IsRowChanged}
use Rattle.pidalloc.proofs.RowLemmas.{map_same, map_set}

-- ---- the IDs of a range

-- how many of n IDs from a on are in use, by their rows
abbrev borne_in : (ℕ → Row) → ℕ → ℕ → ℕ
borne_in f a n = count_by is_borne (map f (range_with_len a n))

place_in : (f : ℕ → Row) (a n q : ℕ) → a ≤ q → q < a + n → q - a < length (map f (range_with_len a n))
place_in f a n q lo hi = let size = length-map-range_with_len f a n in omega (arith, size, lo, hi)

row_at : (f : ℕ → Row) (a n q : ℕ) → a ≤ q → q < a + n → slice_index_or (map f (range_with_len a n)) (q - a) unborne ≡ f q
row_at f a n q lo hi = get_or-map-range_with_len f a n (q - a) q unborne (omega (arith, lo, hi)) (omega (arith, lo))

-- the count follows when a row is set
set_in : (f : ℕ → Row) (a n q : ℕ) (r : Row) → a ≤ q → q < a + n → count_by is_borne (slice_set (map f (range_with_len a n)) (q - a) r) + one (is_borne (f q)) ≡ borne_in f a n + one (is_borne r)
set_in f a n q r lo hi = rw (← row_at f a n q lo hi) (sum_by-set (λ x. one (is_borne x)) (map f (range_with_len a n)) (q - a) r unborne (place_in f a n q lo hi))

-- and when one ID gets another row
moved_in : (f g : ℕ → Row) (a n q : ℕ) → a ≤ q → q < a + n → ((k : ℕ) → k ≢ q → g k ≡ f k) → borne_in g a n + one (is_borne (f q)) ≡ borne_in f a n + one (is_borne (g q))
moved_in f g a n q lo hi h = rw (map_set f g a n (q - a) q (omega (arith, lo, hi)) (omega (arith, lo)) h) (set_in f a n q (g q) lo hi)

few_in : (f : ℕ → Row) (a n : ℕ) → borne_in f a n ≤ n
few_in f a n = let size = length-map-range_with_len f a n in let few = count_by-le-length is_borne (map f (range_with_len a n)) in omega (arith, size, few)

-- if none is counted, each is free
none_in : (f : ℕ → Row) (a n : ℕ) → borne_in f a n ≡ 0 → (q : ℕ) → a ≤ q → q < a + n → is_free_row (f q) ≡ true
none_in f a n e q lo hi = true_from_ne_false (is_free_row (f q)) (λ it. let set = rw it at (set_in f a n q unborne lo hi) in omega (arith, set, e))

-- if n are counted, each is in use: otherwise a used row in place of its row would make the count more than n
all_in : (f : ℕ → Row) (a n : ℕ) → borne_in f a n ≡ n → (q : ℕ) → a ≤ q → q < a + n → is_free_row (f q) ≡ false
all_in f a n e q lo hi =
    let r : Row = record unborne { process = 1 } in
    let size = length-set (map f (range_with_len a n)) (q - a) r ∙ length-map-range_with_len f a n in
    let few = count_by-le-length is_borne (slice_set (map f (range_with_len a n)) (q - a) r) in
    false_from_ne_true (is_free_row (f q)) (λ free. let set = rw free at (set_in f a n q r lo hi) in omega (arith, set, size, few, e))

-- if some are counted, the first one in use
some_in : (f : ℕ → Row) (a n : ℕ) → borne_in f a n ≢ 0 → (q : ℕ) × (a ≤ q) × (q < a + n) × (is_free_row (f q) ≡ false)
some_in f a n some =
    let rows = map f (range_with_len a n) in
    let i = position_or_len is_borne rows in
    let size = length-map-range_with_len f a n in
    elim (cases_lt i (length rows)) [
      | inl l ↦ (a + i, omega arith, omega (arith, l, size), not-true _ (rw (← get_or-map-range_with_len f a n i (a + i) unborne (omega (arith, l, size)) refl) (passes_at_first is_borne rows unborne l)))
      | inr none ↦ absurd (some (let all = sum_by-le (λ x. one (is_borne x)) 0 rows (λ k d l. rw (fails_before_first is_borne rows k d (omega (arith, l, none))) (omega arith)) in omega (arith, all)))
    ]

-- ---- the IDs of a page

in_page : (k q : ℕ) → q / 1024 ≡ k → (k * 1024 ≤ q) × (q < k * 1024 + 1024)
in_page k q same = (omega (arith, same), omega (arith, same))

on_page : (k q : ℕ) → k * 1024 ≤ q → q < k * 1024 + 1024 → q / 1024 ≡ k
on_page k q lo hi = omega (arith, lo, hi)

pub few_on : (pages : List (List Row)) (k : ℕ) → borne_on pages k ≤ 1024
unfolding borne_on
few_on pages k = few_in (row_in pages) (k * 1024) 1024

pub none_on : (pages : List (List Row)) (k : ℕ) → borne_on pages k ≡ 0 → (q : ℕ) → q / 1024 ≡ k → is_free_row (row_in pages q) ≡ true
unfolding borne_on
none_on pages k e q same = let at = in_page k q same in none_in (row_in pages) (k * 1024) 1024 e q at.0 at.1

pub some_on : (pages : List (List Row)) (k : ℕ) → borne_on pages k ≢ 0 → (q : ℕ) × (q / 1024 ≡ k) × (is_free_row (row_in pages q) ≡ false)
unfolding borne_on
some_on pages k some = let it = some_in (row_in pages) (k * 1024) 1024 some in (it.0, on_page k it.0 it.1 it.2, it.3)

pub all_on : (pages : List (List Row)) (k : ℕ) → borne_on pages k ≡ 1024 → (q : ℕ) → q / 1024 ≡ k → is_free_row (row_in pages q) ≡ false
unfolding borne_on
all_on pages k e q same = let at = in_page k q same in all_in (row_in pages) (k * 1024) 1024 e q at.0 at.1

-- none is in use at the start
pub none_counted : (k : ℕ) → borne_on [] k ≡ 0
none_counted k = elim (cases_eq (borne_on [] k) 0) [ inl e ↦ e | inr some ↦ absurd (let it = some_on [] k some in let f : true ≡ false = unfold row_in in it.2 in cc) ]

-- the counts are the same if all rows are
pub count_kept : (old new : List (List Row)) → ((n : ℕ) → row_in new n ≡ row_in old n) → (k : ℕ) → borne_on new k ≡ borne_on old k
unfolding borne_on
count_kept old new same k = ap (count_by is_borne) (map_same (row_in old) (row_in new) (k * 1024) 1024 (λ q lo hi. same q))

-- the row that changed is the new one, and the others stay
pub own_changed : (n : ℕ) (f : Row → Row) (old new : List (List Row)) → IsRowChanged n f old new → row_in new n ≡ f (row_in old n)
own_changed n f old new change = change n ∙ ap (λ b. cond b (f (row_in old n)) (row_in old n)) (eq-eqb n n refl)

pub others_same : (n : ℕ) (f : Row → Row) (old new : List (List Row)) → IsRowChanged n f old new → (q : ℕ) → q ≢ n → row_in new q ≡ row_in old q
others_same n f old new change q other = change q ∙ ap (λ b. cond b (f (row_in old n)) (row_in old q)) (ne_eqb n q (λ e. other (sym e)))

-- so the count of its page follows, and no other count
moved_on : (n : ℕ) (f : Row → Row) (old new : List (List Row)) → IsRowChanged n f old new → borne_on new (n / 1024) + one (is_borne (row_in old n)) ≡ borne_on old (n / 1024) + one (is_borne (row_in new n))
unfolding borne_on
moved_on n f old new change = let at = in_page (n / 1024) n refl in moved_in (row_in old) (row_in new) (n / 1024 * 1024) 1024 n at.0 at.1 (others_same n f old new change)

stays_on : (n k : ℕ) (f : Row → Row) (old new : List (List Row)) → IsRowChanged n f old new → k ≢ n / 1024 → borne_on new k ≡ borne_on old k
unfolding borne_on
stays_on n k f old new change other = ap (count_by is_borne) (map_same (row_in old) (row_in new) (k * 1024) 1024 (λ q lo hi. others_same n f old new change q (λ e. other (sym (on_page k q lo hi) ∙ ap (λ m. m / 1024) e))))

-- the count of the page of n follows, and the others stay
pub record Follows (n : ℕ) (old new : List (List Row)) (before after : List ℕ) : Type 0 where
  pub other : (k : ℕ) → k ≢ n / 1024 → slice_index_or after k 0 ≡ slice_index_or before k 0
  pub own : slice_index_or after (n / 1024) 0 + one (is_borne (row_in old n)) ≡ slice_index_or before (n / 1024) 0 + one (is_borne (row_in new n))

-- the count stays if n is in use before and after
pub follows_still : (n : ℕ) (old new : List (List Row)) (counts : List ℕ) → is_free_row (row_in old n) ≡ false → is_free_row (row_in new n) ≡ false → Follows n old new counts counts
follows_still n old new counts was is = record { other = λ k ne. refl; own = rw (was, is) refl }

-- it is one more if n was free
pub follows_more : (n page : ℕ) (old new : List (List Row)) (before after : List ℕ) (was_free : Bool) → page ≡ n / 1024 → was_free ≡ is_free_row (row_in old n) → is_free_row (row_in new n) ≡ false
    → ((k : ℕ) → slice_index_or after k 0 ≡ slice_index_or before k 0 + one (was_free && (k == page))) → Follows n old new before after
follows_more n page old new before after was_free at was is count = record {
  other = λ k ne. count k ∙ ap (λ b. slice_index_or before k 0 + one (was_free && b)) (ne_eqb k page (λ e. ne (e ∙ at))) ∙ by (slice_index_or before k 0) was_free;
  own = rw (is, ← was, count (n / 1024), eq-eqb (n / 1024) page (sym at)) (here (slice_index_or before (n / 1024) 0) was_free);
}
  where
    by : (m : ℕ) (b : Bool) → m + one (b && false) ≡ m
    by m true = omega arith
    by m false = omega arith

    here : (m : ℕ) (b : Bool) → m + one (b && true) + one (not b) ≡ m + 1
    here m true = omega arith
    here m false = omega arith

-- and one less if n is free now
pub follows_less : (n page v : ℕ) (old new : List (List Row)) (before : List ℕ) → page ≡ n / 1024 → page < length before → v ≡ slice_index_or before page v → 1 ≤ v → is_free_row (row_in old n) ≡ false → is_free_row (row_in new n) ≡ true
    → Follows n old new before (slice_set before page (v - 1))
follows_less n page v old new before at l read some was is = record {
  other = λ k ne. get_or-set_other before page k (v - 1) 0 (λ e. ne (e ∙ at));
  own = rw (was, is, ← at, get_or-set_same before page (v - 1) 0 l) (let here = read ∙ get_or_default before page v 0 l in omega (arith, here, some));
}

-- the counts of the pages stay right if the count of the page of n follows
pub counted_so : (n : ℕ) (f : Row → Row) (old new : List (List Row)) (before after : List ℕ) → IsRowChanged n f old new → ((k : ℕ) → slice_index_or before k 0 ≡ borne_on old k) → Follows n old new before after → (k : ℕ) → slice_index_or after k 0 ≡ borne_on new k
counted_so n f old new before after change counted follows k = elim (cases_eq k (n / 1024)) [
  | inl same ↦ rw same (let moved = moved_on n f old new change in let was = counted (n / 1024) in let own = follows.own in omega (arith, moved, was, own))
  | inr ne ↦ follows.other k ne ∙ counted k ∙ sym (stays_on n k f old new change ne)
]
