-- The rows of a table, in pages.
use Rattle.std.proofs.Common.{◌≡◌, ◌≢◌, ℕ, zero, suc, ◌+◌, ◌/◌, ◌%◌, ◌<◌, ◌≤◌, Bool, true, false, cond, List, [], ◌∷◌, length, map, replicate, refl, ap, sym, ◌∙◌, arith, inl, inr, ◌⊎◌}
use Rattle.std.specs.Prelude.{slice_set, slice_index_or, nat_lt}
use Rattle.std.specs.List.{range_with_len}
use Rattle.std.proofs.lemmas.Bool.{eqb-true, eq-eqb, cases_eq, cases_lt, lt-ltb, ltb-true}
use Rattle.std.proofs.lemmas.Bool.Decides.{nat_tests}
use Rattle.std.proofs.lemmas.List.{get_or_past}
use Rattle.std.proofs.lemmas.List.FromFn.{get_or-map-range_with_len, length-map-range_with_len}
use Rattle.pidset.specs.Rows.{Grows, HasRoom, HasRow, row_or, sizes_of, sizes_without, with_row, without_page}
use Rattle.pidset.proofs.RowLemmas.{room_is, row_gone, row_is, row_left, row_or_none, row_set, sizes_left}
use Rattle.pidalloc.specs.Rows.{Row, Role, Pids, IsPids, IsTable, unborne, unborne_table, row, is_free_row, is_free_in, row_in, rows_in, sizes_in, borne_on, IsRowChanged, AreUnborneAbove, one_more, one_less, borne, given_up, last_given}
use Rattle.pidalloc.proofs.CountLemmas.{Follows, count_kept, counted_so, few_on, all_on, none_counted, none_on, some_on, others_same, own_changed}
use Rattle.pidalloc.proofs.RowLemmas.{same_row, counted_borne, map_same, map_set}

-- the row of a free ID
pub free_row_is : (r : Row) → is_free_row r ≡ true → r ≡ unborne
free_row_is r e = same_row r unborne (grind (arith, eqb-true, e)) (grind (arith, eqb-true, e)) (grind (arith, eqb-true, e))

-- ---- rows by ID

-- the rows are the same
abbrev pub AreSame : List (List Row) → List (List Row) → Type 0
AreSame old new = (n : ℕ) → row_in new n ≡ row_in old n

-- the row of an ID up to the largest
pub row_of : (pidmax : ℕ) (pages : List (List Row)) (n : ℕ) → n ≤ pidmax → row (rows_in pidmax pages) n ≡ row_in pages n
unfolding rows_in
row_of pidmax pages n l = get_or-map-range_with_len (row_in pages) 0 (pidmax + 1) n n unborne (omega arith) (omega arith)

pub rows_same : (pidmax : ℕ) (old new : List (List Row)) → AreSame old new → rows_in pidmax new ≡ rows_in pidmax old
unfolding rows_in
rows_same pidmax old new same = map_same (row_in old) (row_in new) 0 (pidmax + 1) (λ k lo hi. same k)

pub rows_changed : (pidmax n : ℕ) (f : Row → Row) (old new : List (List Row)) → n ≤ pidmax → IsRowChanged n f old new → rows_in pidmax new ≡ slice_set (rows_in pidmax old) n (f (row (rows_in pidmax old) n))
rows_changed pidmax n f old new l change = unfold rows_in in map_set (row_in old) (row_in new) 0 (pidmax + 1) n n (omega (arith, l)) (omega arith) (others_same n f old new change) ∙ ap (slice_set (map (row_in old) (range_with_len 0 (pidmax + 1))) n) (own_changed n f old new change ∙ ap f (sym (row_of pidmax old n l)))

-- no ID is in use at the start
none_in : (a n : ℕ) → map (row_in []) (range_with_len a n) ≡ replicate n unborne
unfolding row_in
none_in a zero = refl
none_in a (suc n) = ap (λ xs. unborne ∷ xs) (none_in (a + 1) n)

pub rows_unborne : (pidmax : ℕ) → rows_in pidmax [] ≡ replicate (pidmax + 1) unborne
unfolding rows_in
rows_unborne pidmax = none_in 0 (pidmax + 1)

-- one row is replaced by another
pub row_changed : (pages : List (List Row)) (n : ℕ) (f : Row → Row) (was : Row) → HasRow pages n → ((other : Row) → row_or other pages n ≡ was) → IsRowChanged n f pages (with_row pages n (f was))
unfolding row_in
row_changed pages n f was here is q = row_set pages n q (f was) unborne here ∙ grind (arith, nat_tests, is unborne)

pub row_read : (pages : List (List Row)) (n : ℕ) (r : Row) → ((other : Row) → row_or other pages n ≡ r) → r ≡ row_in pages n
unfolding row_in
row_read pages n r is = sym (is unborne)

pub row_set_read : (pages new : List (List Row)) (n : ℕ) (r : Row) → new ≡ with_row pages n r → HasRow pages n → row_in new n ≡ r
unfolding row_in
row_set_read pages new n r is here = rw is (row_set pages n n r unborne here ∙ ap (λ b. cond b r (row_or unborne pages n)) (eq-eqb n n refl))

-- an ID in use has a row
pub row_there : (pages : List (List Row)) (n : ℕ) → is_free_row (row_in pages n) ≡ false → HasRow pages n
unfolding row_in
row_there pages n e = elim (row_or_none pages n unborne) [ inl here ↦ here | inr none ↦ absurd (let f : true ≡ false = sym (ap is_free_row none) ∙ e in cc) ]

-- and an ID without a row is free
pub absent : (pages : List (List Row)) (n : ℕ) → nat_lt (n % 1024) (length (slice_index_or pages (n / 1024) [])) ≡ false → is_free_row (row_in pages n) ≡ true
unfolding row_in
absent pages n e = elim (row_or_none pages n unborne) [ inl here ↦ absurd (grind (arith, nat_tests, here, e)) | inr none ↦ ap is_free_row none ]

-- ---- the table

pub rows_size : (pidmax : ℕ) (pages : List (List Row)) → length (rows_in pidmax pages) ≡ pidmax + 1
unfolding rows_in
rows_size pidmax pages = length-map-range_with_len (row_in pages) 0 (pidmax + 1)

-- the model of a table
abbrev pub pids_in : ℕ → ℕ → List (List Row) → List ℕ → Pids
pids_in pidmax last pages counts = record { pidmax = pidmax; last = last; rows = rows_in pidmax pages; sizes = sizes_in pidmax counts pages }

pub pids_of : (pidmax last : ℕ) (pages : List (List Row)) (counts : List ℕ) (borne_below borne_from : ℕ) → IsTable pidmax last pages counts borne_below borne_from → IsPids (pids_in pidmax last pages counts)
pids_of pidmax last pages counts borne_below borne_from t = record { size = rows_size pidmax pages; given = t.given; least = t.least; limit = t.limit }

-- a table stays valid with the same rows and counts
pub table_kept : (pidmax last : ℕ) (old new : List (List Row)) (before after : List ℕ) (borne_below borne_from : ℕ) → IsTable pidmax last old before borne_below borne_from
    → AreSame old new → ((k : ℕ) → slice_index_or after k 0 ≡ slice_index_or before k 0) → IsTable pidmax last new after borne_below borne_from
table_kept pidmax last old new before after borne_below borne_from t same counts = record {
  given = t.given;
  least = t.least;
  limit = t.limit;
  counted = λ k. counts k ∙ t.counted k ∙ sym (count_kept old new same k);
  bound = t.bound;
  low = λ k lo hi. rw (same k) (t.low k lo hi);
  high = λ k lo hi. rw (same k) (t.high k lo hi);
  beyond = λ k past. rw (same k) (t.beyond k past);
}

pub rows_kept : (old new : List (List Row)) → ((n : ℕ) → row_or unborne new n ≡ row_or unborne old n) → AreSame old new
unfolding row_in
rows_kept old new same = same

-- ---- free IDs

-- an ID is free if its page has no ID in use
pub free_on : (pidmax k : ℕ) (pages : List (List Row)) → borne_on pages k ≡ 0 → (q : ℕ) → q / 1024 ≡ k → is_free_in (rows_in pidmax pages) q ≡ true
unfolding is_free_in
free_on pidmax k pages none q same = elim (cases_lt pidmax q) [
  | inl past ↦ let size = rows_size pidmax pages in ap is_free_row (get_or_past (rows_in pidmax pages) q unborne (omega (arith, size, past)))
  | inr l ↦ ap is_free_row (row_of pidmax pages q l) ∙ none_on pages k none q same
]

-- a page with a count has an ID in use
pub borne_one : (pidmax k : ℕ) (pages : List (List Row)) → AreUnborneAbove pidmax pages → borne_on pages k ≢ 0 → (q : ℕ) × (q / 1024 ≡ k) × (is_free_in (rows_in pidmax pages) q ≡ false)
unfolding is_free_in
borne_one pidmax k pages beyond some =
    let it = some_on pages k some in
    (it.0, it.1, elim (cases_lt pidmax it.0) [ inl past ↦ absurd (let f : false ≡ true = sym it.2 ∙ beyond it.0 past in cc) | inr l ↦ ap is_free_row (row_of pidmax pages it.0 l) ∙ it.2 ])

-- all its IDs are in use if it counts them all
pub all_borne : (pidmax k : ℕ) (pages : List (List Row)) → borne_on pages k ≡ 1024 → (q : ℕ) → q / 1024 ≡ k → q ≤ pidmax → is_free_in (rows_in pidmax pages) q ≡ false
unfolding is_free_in
all_borne pidmax k pages full q same l = ap is_free_row (row_of pidmax pages q l) ∙ all_on pages k full q same

-- an ID in use is at most the largest
pub within : (pidmax q : ℕ) (pages : List (List Row)) → is_free_in (rows_in pidmax pages) q ≡ false → q ≤ pidmax
unfolding is_free_in
within pidmax q pages e = elim (cases_lt pidmax q) [
  | inl past ↦ absurd (let size = rows_size pidmax pages in let z = ap is_free_row (get_or_past (rows_in pidmax pages) q unborne (omega (arith, size, past))) in let f : true ≡ false = sym z ∙ e in cc)
  | inr l ↦ l
]

-- a free ID has an unused row
pub unborne_is : (pidmax q : ℕ) (pages : List (List Row)) → AreUnborneAbove pidmax pages → is_free_in (rows_in pidmax pages) q ≡ true → row_in pages q ≡ unborne
unfolding is_free_in
unborne_is pidmax q pages beyond free = elim (cases_lt pidmax q) [ inl past ↦ free_row_is _ (beyond q past) | inr l ↦ free_row_is _ (ap is_free_row (sym (row_of pidmax pages q l)) ∙ free) ]

-- ---- a use is added or removed

-- no ID above the largest is in use after the row of an ID up to it has changed
pub beyond_changed : (pidmax n : ℕ) (f : Row → Row) (old new : List (List Row)) → n ≤ pidmax → IsRowChanged n f old new → AreUnborneAbove pidmax old → AreUnborneAbove pidmax new
beyond_changed pidmax n f old new top change beyond k past = ap is_free_row (others_same n f old new change k (λ e. omega (arith, e, past, top))) ∙ beyond k past

pub beyond_none : (pidmax : ℕ) → AreUnborneAbove pidmax []
unfolding row_in
beyond_none pidmax k past = refl

pub given_within : (role : Role) (n last pidmax : ℕ) → n ≤ pidmax → last ≤ pidmax → last_given role n last ≤ pidmax
given_within role n last pidmax a b = grind (arith, a, b)

pub never_free : (role : Role) (r : Row) → is_free_row (one_more role r) ≡ false
never_free role r = counted_borne role (one_more role r) (grind arith)

pub newly_borne : (role : Role) (n : ℕ) (old new : List (List Row)) → IsRowChanged n (one_more role) old new → is_free_row (row_in new n) ≡ false
newly_borne role n old new change = ap is_free_row (own_changed n (one_more role) old new change) ∙ never_free role (row_in old n)

pub borne_rows : (pidmax n : ℕ) (role : Role) (old new : List (List Row)) → n ≤ pidmax → IsRowChanged n (one_more role) old new → is_free_in (rows_in pidmax new) n ≡ false
unfolding is_free_in
borne_rows pidmax n role old new l change = ap is_free_row (row_of pidmax new n l) ∙ newly_borne role n old new change

-- an ID in use stays in use
pub still_rows : (pidmax n q : ℕ) (role : Role) (old new : List (List Row)) → n ≤ pidmax → IsRowChanged n (one_more role) old new → is_free_in (rows_in pidmax old) q ≡ false → is_free_in (rows_in pidmax new) q ≡ false
unfolding is_free_in
still_rows pidmax n q role old new l change e =
    let m = within pidmax q old e in
    rw (row_of pidmax new q m, change q) (grind (arith, never_free role (row_in old n), row_of pidmax old q m, e))

-- a table stays valid when a row changes, with what is known about where the free IDs are
pub table_changed : (pidmax last given n : ℕ) (f : Row → Row) (old new : List (List Row)) (before after : List ℕ) (borne_below borne_from below from : ℕ) → IsTable pidmax last old before borne_below borne_from → n ≤ pidmax → IsRowChanged n f old new
    → Follows n old new before after → given ≤ pidmax → below ≤ borne_below → borne_from ≤ from → (is_free_row (row_in new n) ≡ false) ⊎ ((below ≤ n) × (n < from)) → IsTable pidmax given new after below from
table_changed pidmax last given n f old new before after borne_below borne_from below from t top change follows g lower higher is = record {
  given = g;
  least = t.least;
  limit = t.limit;
  counted = counted_so n f old new before after change t.counted follows;
  bound = let b = t.bound in omega (arith, b, lower);
  low = λ k lo hi. borne_still k (λ b. omega (arith, b, hi)) (t.low k lo (omega (arith, hi, lower)));
  high = λ k lo hi. borne_still k (λ b. omega (arith, b, lo)) (t.high k (omega (arith, lo, higher)) hi);
  beyond = beyond_changed pidmax n f old new top change t.beyond;
}
  where
    borne_still : (k : ℕ) → ((below ≤ k) × (k < from) → ⊥) → is_free_row (row_in old k) ≡ false → is_free_row (row_in new k) ≡ false
    borne_still k out was = elim (cases_eq n k) [
      | inl e ↦ rw (← e) (elim is [ inl some ↦ some | inr free ↦ absurd (out (rw (← e) free)) ])
      | inr ne ↦ ap is_free_row (others_same n f old new change k (λ e. ne (sym e))) ∙ was
    ]

-- a page counts no more IDs than it has
pub count_small : (pidmax last page : ℕ) (pages : List (List Row)) (counts : List ℕ) (borne_below borne_from : ℕ) → IsTable pidmax last pages counts borne_below borne_from → slice_index_or counts page 0 ≤ 1024
count_small pidmax last page pages counts borne_below borne_from t = rw (t.counted page) (few_on pages page)

-- and it counts the IDs in use
pub count_some : (pidmax last n page : ℕ) (pages : List (List Row)) (counts : List ℕ) (borne_below borne_from : ℕ) → IsTable pidmax last pages counts borne_below borne_from → page ≡ n / 1024 → is_free_row (row_in pages n) ≡ false → (page < length counts) × (1 ≤ slice_index_or counts page 0)
count_some pidmax last n page pages counts borne_below borne_from t at borne =
    let some : 1 ≤ slice_index_or counts page 0 = elim (cases_eq (slice_index_or counts page 0) 0) [
      | inl none ↦ absurd (let f : true ≡ false = sym (none_on pages page (sym (t.counted page) ∙ none) n (sym at)) ∙ borne in cc)
      | inr s ↦ omega (arith, s)
    ] in
    (elim (cases_lt page (length counts)) [ inl l ↦ l | inr past ↦ absurd (let none = get_or_past counts page 0 past in omega (arith, none, some)) ], some)

pub new_pids : (pidmax : ℕ) → pids_in pidmax 1 [] [] ≡ unborne_table pidmax
new_pids pidmax = ap (λ rows. let p : Pids = record { pidmax = pidmax; last = 1; rows = rows; sizes = sizes_in pidmax [] [] } in p) (rows_unborne pidmax) ∙ ap (λ sizes. let p : Pids = record { pidmax = pidmax; last = 1; rows = replicate (pidmax + 1) unborne; sizes = sizes } in p) (no_sizes (nat_lt (pidmax / 1024) 0))
  where
    no_sizes : (b : Bool) → cond {A = List ℕ} b [] [] ≡ []
    no_sizes true = refl
    no_sizes false = refl

pub new_table : (pidmax : ℕ) → 2 ≤ pidmax → pidmax ≤ 4194304 → IsTable pidmax 1 [] [] 2 (pidmax + 1)
new_table pidmax least limit = record {
  given = omega (arith, least);
  least = least;
  limit = limit;
  counted = λ k. sym (none_counted k);
  bound = omega (arith, least);
  low = λ k lo hi. absurd (omega (arith, lo, hi));
  high = λ k lo hi. absurd (omega (arith, lo, hi));
  beyond = beyond_none pidmax;
}

-- ---- the memory for IDs

pub room_in : (pidmax n : ℕ) (pages : List (List Row)) (counts : List ℕ) → HasRoom (sizes_in pidmax counts pages) n → (pidmax / 1024 < length counts) × HasRow pages n
room_in pidmax n pages counts h = elim (nat_lt (pidmax / 1024) (length counts)) as (λ b. nat_lt (pidmax / 1024) (length counts) ≡ b → HasRoom (cond b (sizes_of pages) []) n → (pidmax / 1024 < length counts) × HasRow pages n) [
  | true ↦ λ e here. (ltb-true _ _ e, row_is pages (sizes_of pages) n refl here)
  | false ↦ λ e here. absurd (omega (arith, here))
] refl h

pub room_where : (pidmax n : ℕ) (pages : List (List Row)) (counts : List ℕ) → pidmax / 1024 < length counts → HasRow pages n → HasRoom (sizes_in pidmax counts pages) n
room_where pidmax n pages counts l here = rw (lt-ltb _ _ l) (room_is pages n here)

-- the memory grows with the rows
pub room_grows : (pidmax : ℕ) (old new : List (List Row)) (before after : List ℕ) → length before ≤ length after → ((n : ℕ) → HasRow old n → HasRow new n) → Grows (sizes_in pidmax before old) (sizes_in pidmax after new)
room_grows pidmax old new before after longer grows n h = let it = room_in pidmax n old before h in let l = it.0 in room_where pidmax n new after (omega (arith, l, longer)) (grows n it.1)

pub sizes_same : (pidmax : ℕ) (old new : List (List Row)) (before after : List ℕ) → length after ≡ length before → sizes_of new ≡ sizes_of old → sizes_in pidmax after new ≡ sizes_in pidmax before old
sizes_same pidmax old new before after length_is sizes = rw (length_is, sizes) refl

-- there is a row for an ID whose use may be added
pub row_ready : (pidmax n : ℕ) (pages : List (List Row)) (counts : List ℕ) → n ≤ pidmax → (is_free_in (rows_in pidmax pages) n ≡ true → HasRoom (sizes_in pidmax counts pages) n) → HasRow pages n
unfolding is_free_in
row_ready pidmax n pages counts l room = elim (is_free_row (row_in pages n)) as (λ b. is_free_row (row_in pages n) ≡ b → HasRow pages n) [
  | true ↦ λ e. (room_in pidmax n pages counts (room (ap is_free_row (row_of pidmax pages n l) ∙ e))).1
  | false ↦ λ e. row_there pages n e
] refl

-- there is a count for its page
pub count_ready : (pidmax n page : ℕ) (pages : List (List Row)) (counts : List ℕ) → n ≤ pidmax → (is_free_in (rows_in pidmax pages) n ≡ true → HasRoom (sizes_in pidmax counts pages) n) → page ≡ n / 1024 → is_free_row (row_in pages n) ≡ true → page < length counts
unfolding is_free_in
count_ready pidmax n page pages counts l room at free = let it = (room_in pidmax n pages counts (room (ap is_free_row (row_of pidmax pages n l) ∙ free))).0 in omega (arith, it, l, at)

-- ---- a page is freed

page_same : (pidmax n : ℕ) (pages : List (List Row)) → AreUnborneAbove pidmax pages → ((q : ℕ) → q / 1024 ≡ n / 1024 → is_free_in (rows_in pidmax pages) q ≡ true) → AreSame pages (without_page pages n)
unfolding row_in
page_same pidmax n pages beyond free q = elim (cases_eq (q / 1024) (n / 1024)) [
  | inl same ↦ row_gone pages n q unborne same ∙ sym (unborne_is pidmax q pages beyond (free q same))
  | inr other ↦ row_left pages n q unborne other
]

sizes_gone : (pidmax n : ℕ) (pages : List (List Row)) (counts : List ℕ) → sizes_in pidmax counts (without_page pages n) ≡ sizes_without (sizes_in pidmax counts pages) n
sizes_gone pidmax n pages counts = elim (nat_lt (pidmax / 1024) (length counts)) as (λ b. cond b (sizes_of (without_page pages n)) [] ≡ sizes_without (cond b (sizes_of pages) []) n) [ true ↦ sizes_left pages n | false ↦ refl ]

pub page_given_up : (pidmax last n : ℕ) (pages new : List (List Row)) (counts : List ℕ) (borne_below borne_from : ℕ) (p : Pids) → pids_in pidmax last pages counts ≡ p → new ≡ without_page pages n → IsTable pidmax last pages counts borne_below borne_from
    → ((q : ℕ) → q / 1024 ≡ n / 1024 → is_free_in p.rows q ≡ true) → IsTable pidmax last new counts borne_below borne_from × (pids_in pidmax last new counts ≡ record p { sizes = sizes_without p.sizes n })
page_given_up pidmax last n pages new counts borne_below borne_from p is e t free =
    let same = page_same pidmax n pages t.beyond (rw (← is) at free) in
    rw (e, ← is) (table_kept pidmax last pages (without_page pages n) counts counts borne_below borne_from t same (λ k. refl), rw (rows_same pidmax pages (without_page pages n) same, sizes_gone pidmax n pages counts) refl)

-- ---- the model of a table after a change

-- with more room
pub pids_rest : (pidmax last : ℕ) (old new : List (List Row)) (before after : List ℕ) (p : Pids) → pids_in pidmax last old before ≡ p → AreSame old new → pids_in pidmax last new after ≡ record p { sizes = sizes_in pidmax after new }
pids_rest pidmax last old new before after p e same = rw (rows_same pidmax old new same, ← e) refl

pub pids_borne : (pidmax last n : ℕ) (role : Role) (old new : List (List Row)) (before after : List ℕ) (p : Pids) → pids_in pidmax last old before ≡ p → n ≤ pidmax → IsRowChanged n (one_more role) old new → sizes_of new ≡ sizes_of old → length after ≡ length before
    → pids_in pidmax (last_given role n last) new after ≡ borne p n role
unfolding borne
pids_borne pidmax last n role old new before after p e l change sizes counts = rw (rows_changed pidmax n (one_more role) old new l change, sizes_same pidmax old new before after counts sizes, ← e) refl

pub pids_given_up : (pidmax last n : ℕ) (role : Role) (old new : List (List Row)) (before after : List ℕ) (p : Pids) → pids_in pidmax last old before ≡ p → n ≤ pidmax → IsRowChanged n (one_less role) old new → sizes_of new ≡ sizes_of old → length after ≡ length before
    → pids_in pidmax last new after ≡ given_up p n role
unfolding given_up
pids_given_up pidmax last n role old new before after p e l change sizes counts = rw (rows_changed pidmax n (one_less role) old new l change, sizes_same pidmax old new before after counts sizes, ← e) refl
