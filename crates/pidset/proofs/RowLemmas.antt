-- Rows in pages.
use Rattle.std.proofs.Common.{◌≡◌, ℕ, zero, suc, ◌%◌, ◌/◌, ◌<◌, ◌≤◌, ◌==◌, false, cond, refl, ap, sym, ◌∙◌, subst, arith, inl, inr, ◌⊎◌, List, [], ◌∷◌, length, length-set, map, get_or, get_or-set_same, get_or-set_other}
use Rattle.std.specs.Prelude.{slice_set, slice_index_or, nat_lt}
use Rattle.std.proofs.lemmas.Bool.{eq-eqb, ne_eqb, ltb-false, cases_eq, cases_lt}
use Rattle.std.proofs.Math.ListN.{get_or-map as map_at}
use Rattle.std.proofs.lemmas.List.{map-set, set-get_or, set_past, get_or_past, get_or-map, length-map}
use Rattle.pidset.specs.Rows.{HasRoom, IsOnAnotherPage, HasRow, page_at, sizes_of, sizes_without, row_or, with_row, without_page}

-- ---- the sizes

size_at : {T : Type 0} (pages : List (List T)) (k : ℕ) → slice_index_or (sizes_of pages) k 0 ≡ length (page_at pages k)
size_at pages k = map_at length pages k []

-- the sizes say which rows exist
pub room_is : {T : Type 0} (pages : List (List T)) (n : ℕ) → HasRow pages n → HasRoom (sizes_of pages) n
room_is pages n h = subst (λ s. n % 1024 < s) (sym (size_at pages (n / 1024))) h

pub row_is : {T : Type 0} (pages : List (List T)) (sizes : List ℕ) (n : ℕ) → sizes ≡ sizes_of pages → HasRoom sizes n → HasRow pages n
row_is pages sizes n e h = subst (λ s. n % 1024 < s) (size_at pages (n / 1024)) (subst (λ s. HasRoom s n) e h)

pub row_kept : {T : Type 0} (old new : List (List T)) (n : ℕ) → sizes_of new ≡ sizes_of old → HasRow old n → HasRow new n
row_kept old new n e h = row_is new (sizes_of old) n (sym e) (room_is old n h)

pub row_or_none : {T : Type 0} (pages : List (List T)) (n : ℕ) (other : T) → HasRow pages n ⊎ (row_or other pages n ≡ other)
row_or_none pages n other = elim (cases_lt (n % 1024) (length (page_at pages (n / 1024)))) [ inl h ↦ inl h | inr past ↦ inr (get_or_past (page_at pages (n / 1024)) (n % 1024) other past) ]

-- the page of a row exists
pub page_there : {T : Type 0} (pages : List (List T)) (n : ℕ) → HasRow pages n → n / 1024 < length pages
page_there pages n h = elim (cases_lt (n / 1024) (length pages)) [ inl l ↦ l | inr past ↦ let none = ap length (get_or_past pages (n / 1024) [] past) in absurd (omega (arith, h, none)) ]

-- ---- a row is set

pub row_set : {T : Type 0} (pages : List (List T)) (n m : ℕ) (row other : T) → HasRow pages n → row_or other (with_row pages n row) m ≡ cond (m == n) row (row_or other pages m)
unfolding with_row
row_set pages n m row other h =
    let page = slice_set (page_at pages (n / 1024)) (n % 1024) row in
    let there = get_or-set_same pages (n / 1024) page [] (page_there pages n h) in
    elim (cases_eq m n) [
      | inl e ↦ rw (e, eq-eqb n n refl) (ap (λ p. get_or p (n % 1024) other) there ∙ get_or-set_same (page_at pages (n / 1024)) (n % 1024) row other h)
      | inr ne ↦ rw (ne_eqb m n ne) (elim (cases_eq (m / 1024) (n / 1024)) [
        | inl e ↦ rw e (ap (λ p. get_or p (m % 1024) other) there ∙ get_or-set_other (page_at pages (n / 1024)) (n % 1024) (m % 1024) row other (λ s. ne (omega (arith, e, s))))
        | inr d ↦ ap (λ p. get_or p (m % 1024) other) (get_or-set_other pages (n / 1024) (m / 1024) page [] d)
      ])
    ]

pub sizes_kept : {T : Type 0} (pages : List (List T)) (n : ℕ) (row : T) → sizes_of (with_row pages n row) ≡ sizes_of pages
unfolding with_row
sizes_kept pages n row =
    let page = page_at pages (n / 1024) in
    map-set length pages (n / 1024) (slice_set page (n % 1024) row) ∙ ap (slice_set (sizes_of pages) (n / 1024)) (length-set page (n % 1024) row) ∙ sym (map-set length pages (n / 1024) page) ∙ ap sizes_of (set-get_or pages (n / 1024) [])

inside : {T V : Type 0} (rows : V → List T) (pages : List V) (k : ℕ) → k < length (map rows pages) → k < length pages
inside rows pages k l = subst (λ n. k < n) (length-map pages rows) l

read_in : {T V : Type 0} (rows : V → List T) (pages : List V) (k : ℕ) (page : V) → page ≡ get_or pages k page → k < length pages → rows page ≡ page_at (map rows pages) k
read_in rows pages k page is l = ap rows is ∙ sym (get_or-map rows pages k page [] l)

-- the same for pages of another form
pub set_in : {T V : Type 0} (rows : V → List T) (pages : List V) (view : List (List T)) (n k i : ℕ) (old new : V) (row : T) → map rows pages ≡ view → HasRow view n → k ≡ n / 1024 → i ≡ n % 1024 → old ≡ get_or pages k old → rows new ≡ slice_set (rows old) i row → map rows (slice_set pages k new) ≡ with_row view n row
unfolding with_row
set_in rows pages view n k i old new row v h a b is e =
    let l : k < length pages = inside rows pages k (rw (a, v) (page_there view n h)) in
    rw (← a, ← b, ← v) (map-set rows pages k new ∙ ap (slice_set (map rows pages) k) (e ∙ ap (λ page. slice_set page i row) (read_in rows pages k old is l)))

-- ---- a page is freed

pub sizes_left : {T : Type 0} (pages : List (List T)) (n : ℕ) → sizes_of (without_page pages n) ≡ sizes_without (sizes_of pages) n
unfolding without_page
sizes_left pages n = map-set length pages (n / 1024) []

-- the IDs of other pages keep their room
pub room_stays : (sizes : List ℕ) (n m : ℕ) → IsOnAnotherPage m n → HasRoom sizes m → HasRoom (sizes_without sizes n) m
room_stays sizes n m apart room = rw (get_or-set_other sizes (n / 1024) (m / 1024) 0 0 apart) room

pub row_left : {T : Type 0} (pages : List (List T)) (n m : ℕ) (other : T) → IsOnAnotherPage m n → row_or other (without_page pages n) m ≡ row_or other pages m
unfolding without_page
row_left pages n m other apart = ap (λ p. get_or p (m % 1024) other) (get_or-set_other pages (n / 1024) (m / 1024) [] [] apart)

-- the same for pages of another form
pub left_in : {T V : Type 0} (rows : V → List T) (pages : List V) (view : List (List T)) (n k : ℕ) (new : V) → map rows pages ≡ view → k ≡ n / 1024 → rows new ≡ [] → map rows (slice_set pages k new) ≡ without_page view n
unfolding without_page
left_in rows pages view n k new v a e = rw (← a, ← v) (map-set rows pages k new ∙ ap (slice_set (map rows pages) k) e)

-- if there is no such page, none is freed
pub left_none : {T V : Type 0} (rows : V → List T) (pages : List V) (view : List (List T)) (n k : ℕ) → map rows pages ≡ view → k ≡ n / 1024 → nat_lt k (length pages) ≡ false → map rows pages ≡ without_page view n
unfolding without_page
left_none rows pages view n k v a e = rw (← a, ← v) (sym (set_past (map rows pages) k [] (subst (λ m. m ≤ k) (sym (length-map pages rows)) (ltb-false k (length pages) e))))

page_gone : {T : Type 0} (pages : List (List T)) (k : ℕ) → page_at (slice_set pages k []) k ≡ []
page_gone [] k = refl
page_gone (x ∷ xs) zero = refl
page_gone (x ∷ xs) (suc k) = page_gone xs k

pub row_gone : {T : Type 0} (pages : List (List T)) (n m : ℕ) (other : T) → m / 1024 ≡ n / 1024 → row_or other (without_page pages n) m ≡ other
unfolding without_page
row_gone pages n m other same = ap (λ k. get_or (page_at (slice_set pages (n / 1024) []) k) (m % 1024) other) same ∙ ap (λ p. get_or p (m % 1024) other) (page_gone pages (n / 1024))

-- ---- room is made

-- the same rows, and maybe more
pub record IsGrown {T : Type 0} (row : T) (old new : List (List T)) : Type 0 where
  pub grows : (n : ℕ) → HasRow old n → HasRow new n
  pub rows : (n : ℕ) → row_or row new n ≡ row_or row old n

page_set : {T : Type 0} (pages : List (List T)) (k : ℕ) (page : List T) (q : ℕ) → k < length pages → page_at (slice_set pages k page) q ≡ cond (q == k) page (page_at pages q)
page_set pages k page q l = elim (cases_eq q k) [ inl e ↦ rw (e, eq-eqb k k refl) (get_or-set_same pages k page [] l) | inr ne ↦ rw (ne_eqb q k ne) (get_or-set_other pages k q page [] ne) ]

pub grown : {T V : Type 0} (rows : V → List T) (row : T) (old : List (List T)) (pages : List V) (k : ℕ) (was page : V) → ((q : ℕ) → page_at (map rows pages) q ≡ page_at old q) → was ≡ get_or pages k was → k < length pages
    → length (rows was) ≤ length (rows page) → ((i : ℕ) → get_or (rows page) i row ≡ get_or (rows was) i row) → IsGrown row old (map rows (slice_set pages k page))
grown rows row old pages k was page same is l size more =
    let there : rows was ≡ page_at old k = read_in rows pages k was is l ∙ same k in
    let low : k < length (map rows pages) = subst (λ n. k < n) (sym (length-map pages rows)) l in
    let page_is : (q : ℕ) → page_at (map rows (slice_set pages k page)) q ≡ cond (q == k) (rows page) (page_at old q) = λ q. ap (λ ps. page_at ps q) (map-set rows pages k page) ∙ page_set (map rows pages) k (rows page) q low ∙ ap (cond (q == k) (rows page)) (same q) in
    record {
      grows = λ n h. rw (page_is (n / 1024)) (elim (cases_eq (n / 1024) k) [
        | inl e ↦ rw (eq-eqb (n / 1024) k e) (let m = ap length (there ∙ ap (page_at old) (sym e)) in omega (arith, h, m, size))
        | inr ne ↦ rw (ne_eqb (n / 1024) k ne) h
      ]);
      rows = λ n. rw (page_is (n / 1024)) (elim (cases_eq (n / 1024) k) [
        | inl e ↦ rw (eq-eqb (n / 1024) k e) (more (n % 1024) ∙ ap (λ p. get_or p (n % 1024) row) (there ∙ ap (page_at old) (sym e)))
        | inr ne ↦ rw (ne_eqb (n / 1024) k ne) refl
      ]);
    }

-- there is a row if the page has one
pub room_made : {T V : Type 0} (rows : V → List T) (pages : List V) (n k i : ℕ) (page : V) → k ≡ n / 1024 → i ≡ n % 1024 → k < length pages → i < length (rows page) → HasRow (map rows (slice_set pages k page)) n
room_made rows pages n k i page a b l h =
    let low : k < length (map rows pages) = subst (λ n. k < n) (sym (length-map pages rows)) l in
    let there : page_at (map rows (slice_set pages k page)) k ≡ rows page = ap (λ ps. page_at ps k) (map-set rows pages k page) ∙ get_or-set_same (map rows pages) k (rows page) [] low in
    rw (← a, ← b, there) h
