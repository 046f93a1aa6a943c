-- Pages of values.
use Rattle.std.proofs.Common.{◌≡◌, ◌≢◌, ℕ, zero, suc, ◌+◌, ◌*◌, ◌/◌, ◌%◌, ◌<◌, ◌≤◌, ◌==◌, nat_lt, true, false, cond, not, refl, ap, sym, ◌∙◌, subst, arith, List, [], ◌∷◌, ◌++◌, length, filter, find, count_by, insert, remove, get_or, slice_get, slice_set, Option, Some, None, option_map, is_some, inl, inr}
use Rattle.std.specs.List.{AllByRecursion}
use Rattle.std.specs.Option.{IsSome, IfSome, option_and_then, option_or}
use Rattle.std.proofs.lemmas.Bool.{eqb-true, eq-eqb, ne_eqb, ltb-true, cases_eq}
use Rattle.std.proofs.lemmas.Bool.Decides.{nat_tests}
use Rattle.std.proofs.lemmas.List.{get_or-set_same, get_or-set_other, length-map}
use Rattle.std.proofs.lemmas.List.Folds.{find-append}
use Rattle.std.proofs.lemmas.List.Sums.{sum_by-cons}
use Rattle.pidset.specs.declared.page.Page.{Page}
use Rattle.pidset.specs.Numbers.{Rises, inserted_in_order, IsNumberAt, IsInsertionPoint}
use Rattle.pidset.specs.Pages.{Entry, entry, entry_of, pids_of, value_at, entries_from, entries_in, entries_of, numbers_of, IsPage, IsUsed, IsUnused, ArePages, page_of, value_in, value_of, IsChanged, AreChanged, first_above}
use Rattle.pidset.proofs.NumberLemmas.{AllAbove, all_filter, above_less, not_in_above, few_up_to}
use Rattle.pidset.proofs.ItemLemmas.{find_none, find_at, find_point, read_at, find_set, numbers_set, insert_point, others_at, find_other, find_gone, find_inserted, all_inserted, rises_inserted, rises_passing}

module _ {T : Type 0} where
  -- ---- the numbers of a page

  -- if no ID above n has a value, there is no first one
  pub above_none : (n k : ℕ) (vs : List (Option T)) → ((i : ℕ) → i < length vs → n < k + i → value_at vs i ≡ None) → first_above n (entries_from k vs) ≡ None
  unfolding entries_from
  above_none n k [] h = refl
  above_none n k (None ∷ vs) h = above_none n (k + 1) vs (λ i l m. h (suc i) (omega (arith, l)) (omega (arith, m)))
  above_none n k (Some v ∷ vs) h = grind (arith, nat_tests, above_none n (k + 1) vs (λ i l m. h (suc i) (omega (arith, l)) (omega (arith, m))), λ (m : n < k). h 0 (omega arith) (omega (arith, m)))

  -- the first ID above n that has a value is the next one
  pub above_some : (n k i : ℕ) (vs : List (Option T)) → ((j : ℕ) → j < i → n < k + j → value_at vs j ≡ None) → n < k + i → is_some (value_at vs i) ≡ true → first_above n (entries_from k vs) ≡ Some (k + i)
  unfolding entries_from
  above_some n k i [] h l e = absurd (cc)
  above_some n k zero (None ∷ vs) h l e = absurd (cc)
  above_some n k zero (Some w ∷ vs) h l e = grind (arith, nat_tests)
  above_some n k (suc i) (None ∷ vs) h l e = let is : k + 1 + i ≡ k + suc i = omega arith in above_some n (k + 1) i vs (λ j less m. h (suc j) (omega (arith, less)) (omega (arith, m))) (omega (arith, l)) e ∙ ap Some is
  above_some n k (suc i) (Some w ∷ vs) h l e =
      let is : k + 1 + i ≡ k + suc i = omega arith in
      grind (arith, nat_tests, above_some n (k + 1) i vs (λ j less m. h (suc j) (omega (arith, less)) (omega (arith, m))) (omega (arith, l)) e, λ (m : n < k). h 0 (omega arith) (omega (arith, m)))

  -- a page with a value has a first one
  first_used : (n k : ℕ) (vs : List (Option T)) → n < k → 1 ≤ count_by is_some vs → IsSome (first_above n (entries_from k vs))
  unfolding entries_from
  first_used n k [] l u = absurd (omega (arith, u))
  first_used n k (None ∷ vs) l u = let c = sum_by-cons (λ (o : Option T). cond (is_some o) 1 0) None vs in first_used n (k + 1) vs (omega (arith, l)) (omega (arith, u, c))
  first_used n k (Some v ∷ vs) l u = grind (arith, nat_tests)

  -- a property of the IDs of all places is one of all IDs with values
  all_from : (P : ℕ → Type 0) (k : ℕ) (vs : List (Option T)) → ((m : ℕ) → k ≤ m → m < k + length vs → P m) → AllByRecursion P (pids_of (entries_from k vs))
  unfolding entries_from
  all_from P k [] h = tt
  all_from P k (None ∷ vs) h = all_from P (k + 1) vs (λ m lo hi. h m (omega (arith, lo)) (omega (arith, hi)))
  all_from P k (Some v ∷ vs) h = (h k (omega arith) (omega arith), all_from P (k + 1) vs (λ m lo hi. h m (omega (arith, lo)) (omega (arith, hi))))

  from_above : (n k : ℕ) (vs : List (Option T)) → n < k → AllAbove n (pids_of (entries_from k vs))
  from_above n k vs l = all_from _ k vs (λ m lo hi. omega (arith, l, lo))

  rises_from : (k : ℕ) (vs : List (Option T)) → Rises (pids_of (entries_from k vs))
  unfolding entries_from Rises
  rises_from k [] = tt
  rises_from k (None ∷ vs) = rises_from (k + 1) vs
  rises_from k (Some v ∷ vs) = (from_above k (k + 1) vs (omega arith), rises_from (k + 1) vs)

  -- ---- entries looked up

  entry_above : (n : ℕ) (es : List (Entry T)) → AllAbove n (pids_of es) → entry_of n es ≡ None
  entry_above n es a = find_none (λ (e : Entry T). e.pid) es n (not_in_above n n (pids_of es) (omega arith) a)

  entry_below : (n b : ℕ) (es : List (Entry T)) → b < n → AllByRecursion (λ m. m ≤ b) (pids_of es) → entry_of n es ≡ None
  entry_below n b [] l a = refl
  entry_below n b (e ∷ es) l a = grind (arith, eqb-true, entry_below n b es l a.1, a.0)

  entry_from : (k i : ℕ) (vs : List (Option T)) → entry_of (k + i) (entries_from k vs) ≡ option_map (entry (k + i)) (value_at vs i)
  unfolding entries_from
  entry_from k i [] = refl
  entry_from k zero (None ∷ vs) = entry_above (k + 0) _ (from_above (k + 0) (k + 1) vs (omega arith))
  entry_from k zero (Some v ∷ vs) = let is : k ≡ k + 0 = omega arith in rw (eq-eqb k (k + 0) is) (ap (λ n. Some (entry n v)) is)
  entry_from k (suc i) (None ∷ vs) = let is : k + 1 + i ≡ k + suc i = omega arith in subst (λ n. entry_of n (entries_from (k + 1) vs) ≡ option_map (entry n) (value_at vs i)) is (entry_from (k + 1) i vs)
  entry_from k (suc i) (Some v ∷ vs) = let is : k + 1 + i ≡ k + suc i = omega arith in rw (ne_eqb k (k + suc i) (λ x. omega (arith, x))) (subst (λ n. entry_of n (entries_from (k + 1) vs) ≡ option_map (entry n) (value_at vs i)) is (entry_from (k + 1) i vs))

  -- ---- all pages

  all_both : (P : ℕ → Type 0) (xs ys : List (Entry T)) → AllByRecursion P (pids_of xs) → AllByRecursion P (pids_of ys) → AllByRecursion P (pids_of (xs ++ ys))
  all_both P [] ys a b = b
  all_both P (x ∷ xs) ys a b = (a.0, all_both P xs ys a.1 b)

  rises_both : (b : ℕ) (xs ys : List (Entry T)) → Rises (pids_of xs) → AllByRecursion (λ m. m ≤ b) (pids_of xs) → Rises (pids_of ys) → AllAbove b (pids_of ys) → Rises (pids_of (xs ++ ys))
  unfolding Rises
  rises_both b [] ys u l v h = v
  rises_both b (x ∷ xs) ys u l v h = (all_both _ xs ys u.0 (above_less x.pid b (pids_of ys) l.0 h), rises_both b xs ys u.1 l.1 v h)

  first_both : (n : ℕ) (xs ys : List (Entry T)) → first_above n (xs ++ ys) ≡ option_or (first_above n xs) (first_above n ys)
  first_both n [] ys = refl
  first_both n (x ∷ xs) ys = grind (arith, first_both n xs ys)

  last_of : (p : Page T) → IsUsed p → AllByRecursion (λ m. m ≤ p.number * 64 + 63) (pids_of (entries_in p))
  last_of p u = all_from _ (p.number * 64) p.values.items (λ m lo hi. let size = u.page.size in omega (arith, hi, size))

  -- the IDs of later pages are higher
  pages_above : (n k : ℕ) (ps : List (Page T)) → n < k * 64 + 64 → AllAbove k (numbers_of ps) → AllAbove n (pids_of (entries_of ps))
  unfolding entries_of
  pages_above n k [] l a = tt
  pages_above n k (p ∷ ps) l a = all_both _ (entries_in p) (entries_of ps) (from_above n (p.number * 64) p.values.items (omega (arith, l, a.0))) (pages_above n k ps l a.1)

  pub rises_pages : (ps : List (Page T)) → AllByRecursion IsUsed ps → Rises (numbers_of ps) → Rises (pids_of (entries_of ps))
  unfolding entries_of Rises
  rises_pages [] u up = tt
  rises_pages (p ∷ ps) u up = rises_both (p.number * 64 + 63) (entries_in p) (entries_of ps) (rises_from (p.number * 64) p.values.items) (last_of p u.0) (rises_pages ps u.1 up.1) (pages_above (p.number * 64 + 63) p.number ps (omega arith) up.0)

  no_page : (k j : ℕ) (ps : List (Page T)) → k ≤ j → AllAbove j (numbers_of ps) → page_of k ps ≡ None
  no_page k j ps l a = find_none (λ (p : Page T). p.number) ps k (not_in_above j k (numbers_of ps) l a)

  pub entry_pages : (ps : List (Page T)) → AllByRecursion IsUsed ps → Rises (numbers_of ps) → (n : ℕ) → entry_of n (entries_of ps) ≡ option_map (entry n) (value_of n ps)
  unfolding entries_of Rises
  entry_pages [] u up n = refl
  entry_pages (p ∷ ps) u up n =
      let size = u.0.page.size in
      let here : p.number ≡ n / 64 → entry_of n (entries_in p) ≡ option_map (entry n) (value_at p.values.items (n % 64)) =
      λ same. let is : p.number * 64 + n % 64 ≡ n = omega (arith, same) in subst (λ m. entry_of m (entries_in p) ≡ option_map (entry m) (value_at p.values.items (n % 64))) is (entry_from (p.number * 64) (n % 64) p.values.items) in
      grind (
        arith,
        nat_tests,
        find-append (λ (e : Entry T). e.pid == n) (entries_in p) (entries_of ps),
        entry_pages ps u.1 up.1 n,
        here,
        λ (l : n / 64 ≤ p.number). entry_above n (entries_of ps) (pages_above n p.number ps (omega (arith, l)) up.0),
        λ (l : p.number < n / 64). entry_below n (p.number * 64 + 63) (entries_in p) (omega (arith, l)) (last_of p u.0),
        λ (l : n / 64 < p.number). entry_above n (entries_in p) (from_above n (p.number * 64) p.values.items (omega (arith, l))),
      )

  -- the lowest ID above n is on its own page, or is the first of the next page
  pub first_pages : (ps : List (Page T)) → AllByRecursion IsUsed ps → Rises (numbers_of ps) → (n : ℕ)
      → first_above n (entries_of ps) ≡ option_or (option_and_then (λ (p : Page T). first_above n (entries_in p)) (page_of (n / 64) ps)) (option_and_then (λ (p : Page T). first_above n (entries_in p)) (slice_get (filter (λ (p : Page T). nat_lt (n / 64) p.number) ps) 0))
  unfolding entries_of Rises
  first_pages [] u up n = refl
  first_pages (p ∷ ps) u up n =
      let size = u.0.page.size in
      let count = u.0.page.count in
      grind (
        arith,
        nat_tests,
        first_both n (entries_in p) (entries_of ps),
        first_pages ps u.1 up.1 n,
        λ (l : n / 64 ≤ p.number). no_page (n / 64) p.number ps l up.0,
        λ (l : p.number < n / 64). above_none n (p.number * 64) p.values.items (λ i j m. absurd (omega (arith, l, j, m, size))),
        λ (l : n / 64 < p.number). first_used n (p.number * 64) p.values.items (omega (arith, l)) (omega (arith, count, u.0.used)),
      )

  -- ---- entries that are the same

  first_same : (x : Entry T) (xs : List (Entry T)) (y : Entry T) (ys : List (Entry T)) → AllAbove x.pid (pids_of xs) → AllAbove y.pid (pids_of ys) → entry_of x.pid (x ∷ xs) ≡ entry_of x.pid (y ∷ ys) → entry_of y.pid (x ∷ xs) ≡ entry_of y.pid (y ∷ ys) → x ≡ y
  first_same x xs y ys a b h k = grind (arith, nat_tests, λ (l : x.pid ≤ y.pid). entry_above x.pid ys (above_less x.pid y.pid (pids_of ys) l b), λ (l : y.pid ≤ x.pid). entry_above y.pid xs (above_less y.pid x.pid (pids_of xs) l a))

  rest_same : (x : Entry T) (xs : List (Entry T)) (y : Entry T) (ys : List (Entry T)) → AllAbove x.pid (pids_of xs) → AllAbove y.pid (pids_of ys) → x ≡ y → ((q : ℕ) → entry_of q (x ∷ xs) ≡ entry_of q (y ∷ ys)) → (q : ℕ) → entry_of q xs ≡ entry_of q ys
  rest_same x xs y ys a b same h q = grind (arith, eqb-true, h q, entry_above x.pid xs a, entry_above y.pid ys b)

  -- rising entries with the same value for each ID are the same
  same_entries : (xs ys : List (Entry T)) → Rises (pids_of xs) → Rises (pids_of ys) → ((q : ℕ) → entry_of q xs ≡ entry_of q ys) → xs ≡ ys
  unfolding Rises
  same_entries [] [] up high h = refl
  same_entries [] (y ∷ ys) up high h = let k = h y.pid in absurd (let e = rw (eq-eqb y.pid y.pid refl) at k in cc)
  same_entries (x ∷ xs) [] up high h = let k = h x.pid in absurd (let e = rw (eq-eqb x.pid x.pid refl) at k in cc)
  same_entries (x ∷ xs) (y ∷ ys) up high h =
      let same = first_same x xs y ys up.0 high.0 (h x.pid) (h y.pid) in
      let rest = same_entries xs ys up.1 high.1 (rest_same x xs y ys up.0 high.0 same h) in
      ap (λ z. z ∷ xs) same ∙ ap (λ zs. y ∷ zs) rest

  -- ---- a value inserted or removed

  pub entries_put : (old new : List (Page T)) (n : ℕ) (v : T) → ArePages old → entry_of n (entries_of old) ≡ None → AreChanged n (Some v) old new → entries_of new ≡ inserted_in_order (λ e. e.pid) (entry n v) (entries_of old)
  entries_put old new n v s none change =
      let f : Entry T → ℕ = λ e. e.pid in
      let t = change.pages in
      same_entries (entries_of new) _ (rises_pages new t.used t.rising) (rises_inserted f (entries_of old) (entry n v) (rises_pages old s.used s.rising) none) (λ q.
      grind (arith, eqb-true, entry_pages new t.used t.rising q, change.changed q, entry_pages old s.used s.rising q, find_inserted f (entries_of old) (entry n v) none q))

  pub entries_taken : (old new : List (Page T)) (n : ℕ) → ArePages old → AreChanged n None old new → entries_of new ≡ filter (λ (e : Entry T). not (e.pid == n)) (entries_of old)
  entries_taken old new n s change =
      let f : Entry T → ℕ = λ e. e.pid in
      let t = change.pages in
      same_entries (entries_of new) _ (rises_pages new t.used t.rising) (rises_passing f (λ m. not (m == n)) (entries_of old) (rises_pages old s.used s.rising)) (λ q.
      grind (arith, eqb-true, entry_pages new t.used t.rising q, change.changed q, entry_pages old s.used s.rising q, find_gone f (entries_of old) n, λ (ne : q ≢ n). find_other f (entries_of old) n q ne))

  -- one page was replaced by one with another value for n; before, it had these values
  pub page_changed : (old new : List (Page T)) (p : Page T) (n : ℕ) (vs : List (Option T)) (o : Option T) → ((k : ℕ) → page_of k new ≡ cond (p.number == k) (Some p) (page_of k old)) → p.number ≡ n / 64
      → ((i : ℕ) → value_at vs i ≡ option_and_then (λ (p : Page T). value_at p.values.items i) (page_of (n / 64) old)) → length vs ≡ 64 → p.values.items ≡ slice_set vs (n % 64) o → IsChanged n o old new
  page_changed old new p n vs o pages number was size is q = grind (arith, nat_tests, pages (q / 64), was (q % 64), get_or-set_same vs (n % 64) o None (omega (arith, size)), get_or-set_other vs (n % 64) (q % 64) o None)

  -- a page without values has none at any place
  pub no_value : (vs : List (Option T)) → count_by is_some vs ≡ 0 → (i : ℕ) → value_at vs i ≡ None
  no_value [] e i = refl
  no_value (None ∷ vs) e zero = refl
  no_value (None ∷ vs) e (suc i) = no_value vs (omega (arith, e, sum_by-cons (λ (o : Option T). cond (is_some o) 1 0) None vs)) i
  no_value (Some v ∷ vs) e i = absurd (omega (arith, e, sum_by-cons (λ (o : Option T). cond (is_some o) 1 0) (Some v) vs))

  -- a page without values may be removed
  pub page_gone : (n : ℕ) (o : Option T) (old new last : List (Page T)) (p : Page T) → page_of p.number new ≡ Some p → count_by is_some p.values.items ≡ 0 → last ≡ filter (λ (r : Page T). not (r.number == p.number)) new → IsChanged n o old new → IsChanged n o old last
  page_gone n o old new last p at none is change q = rw is ((elim (cases_eq p.number (q / 64)) [
    | inl e ↦
        let f : Page T → ℕ = λ r. r.number in
        let gone : value_in q (find (λ (r : Page T). r.number == p.number) (filter (λ (r : Page T). not (r.number == p.number)) new)) ≡ value_in q (page_of p.number new) = ap (value_in q) (find_gone f new p.number) ∙ sym (ap (value_in q) at ∙ no_value p.values.items none (q % 64)) in
        subst (λ k. value_in q (page_of k (filter (λ (r : Page T). not (r.number == p.number)) new)) ≡ value_in q (page_of k new)) e gone
    | inr ne ↦ ap (value_in q) (find_other (λ (r : Page T). r.number) new p.number (q / 64) (λ x. ne (sym x)))
  ]) ∙ change q)

  -- ---- what is read

  pub page_used : (k : ℕ) (ps : List (Page T)) (p : Page T) → AllByRecursion IsUsed ps → page_of k ps ≡ Some p → IsUsed p × (p.number ≡ k)
  page_used k [] p u e = absurd (cc)
  page_used k (x ∷ ps) p u e = elim (cases_eq x.number k) [
    | inl same ↦ let s = rw (eq-eqb x.number k same) at e in let is : x ≡ p = cc in subst (λ (p : Page T). IsUsed p × (p.number ≡ k)) is (u.0, same)
    | inr ne ↦ page_used k ps p u.1 (rw (ne_eqb x.number k ne) at e)
  ]

  pub value_pages : (ps : List (Page T)) (n : ℕ) → ArePages ps → option_map (λ (e : Entry T). e.value) (entry_of n (entries_of ps)) ≡ value_of n ps
  value_pages ps n s = ap (option_map (λ (e : Entry T). e.value)) (entry_pages ps s.used s.rising n) ∙ elim (value_of n ps) as (λ o. option_map (λ (e : Entry T). e.value) (option_map (entry n) o) ≡ o) [ None ↦ refl | Some v ↦ refl ]

  -- an ID without an entry has no value
  pub no_entry : (ps : List (Page T)) (n : ℕ) → ArePages ps → entry_of n (entries_of ps) ≡ None → value_of n ps ≡ None
  no_entry ps n s e = sym (value_pages ps n s) ∙ ap (option_map (λ (e : Entry T). e.value)) e

  -- ---- what is written

  -- the page that was found
  pub page_there : (ps : List (Page T)) (k i : ℕ) (p : Page T) → ArePages ps → IsNumberAt (numbers_of ps) k i → p ≡ get_or ps i p → page_of k ps ≡ Some p
  page_there ps k i p s at is = find_at (λ (p : Page T). p.number) ps s.rising k i at ∙ read_at (λ (p : Page T). p.number) ps k i p at is

  -- a property of all pages, and of a page that replaces one, is one of all after that
  all_set : (P : Page T → Type 0) (ps : List (Page T)) (i : ℕ) (p : Page T) → AllByRecursion P ps → P p → AllByRecursion P (slice_set ps i p)
  all_set P [] i p a h = tt
  all_set P (x ∷ ps) zero p a h = (h, a.1)
  all_set P (x ∷ ps) (suc i) p a h = (a.0, all_set P ps i p a.1 h)

  -- a page with another value for n replaces that of n
  pub record IsSet (ps : List (Page T)) (n i k : ℕ) (p new : Page T) (o : Option T) : Type 0 where
    pub was : value_at p.values.items k ≡ value_of n ps
    pub number : new.number ≡ n / 64
    pub found : page_of (n / 64) (slice_set ps i new) ≡ Some new
    pub rising : Rises (numbers_of (slice_set ps i new))
    pub changed : IsChanged n o ps (slice_set ps i new)

  pub page_set : (ps : List (Page T)) (n i k : ℕ) (p new : Page T) (o : Option T) → ArePages ps → IsNumberAt (numbers_of ps) (n / 64) i → p ≡ get_or ps i p → k ≡ n % 64 → new.number ≡ p.number → new.values.items ≡ slice_set p.values.items k o → IsSet ps n i k p new o
  page_set ps n i k p new o s at is place same values =
      let f : Page T → ℕ = λ p. p.number in
      let there = page_there ps (n / 64) i p s at is in
      let used = page_used (n / 64) ps p s.used there in
      let number : new.number ≡ n / 64 = same ∙ used.1 in
      let here : IsNumberAt (numbers_of ps) (f new) i = subst (λ k. IsNumberAt (numbers_of ps) k i) (sym number) at in
      let pages = find_set f ps i new s.rising here in
      record {
        was = ap (value_at p.values.items) place ∙ sym (ap (value_in n) there);
        number = number;
        found = pages (n / 64) ∙ ap (λ b. cond b (Some new) (page_of (n / 64) ps)) (eq-eqb new.number (n / 64) number);
        rising = subst Rises (sym (numbers_set f ps i new here)) s.rising;
        changed = page_changed ps (slice_set ps i new) new n p.values.items o pages number (λ j. sym (ap (option_and_then (λ (p : Page T). value_at p.values.items j)) there)) used.0.page.size (values ∙ ap (λ k. slice_set p.values.items k o) place);
      }

  -- the new page stays if it has a value
  pub page_stays : (ps : List (Page T)) (n i k : ℕ) (p new : Page T) (o : Option T) → ArePages ps → IsSet ps n i k p new o → IsUsed new → AreChanged n o ps (slice_set ps i new)
  page_stays ps n i k p new o s h u = record { pages = record { rising = h.rising; used = all_set IsUsed ps i new s.used u }; changed = h.changed }

  -- and it is removed if it has none
  gone_set : (ps : List (Page T)) (i : ℕ) (p : Page T) → remove (slice_set ps i p) i ≡ remove ps i
  gone_set [] i p = refl
  gone_set (x ∷ ps) zero p = refl
  gone_set (x ∷ ps) (suc i) p = ap (λ qs. x ∷ qs) (gone_set ps i p)

  pub page_goes : (ps : List (Page T)) (n i k : ℕ) (p new : Page T) → ArePages ps → IsNumberAt (numbers_of ps) (n / 64) i → IsSet ps n i k p new None → IsUnused new → AreChanged n None ps (remove (slice_set ps i new) i)
  page_goes ps n i k p new s at h free =
      let f : Page T → ℕ = λ p. p.number in
      let later = slice_set ps i new in
      let here : IsNumberAt (numbers_of ps) (f new) i = subst (λ k. IsNumberAt (numbers_of ps) k i) (sym h.number) at in
      let still : IsNumberAt (numbers_of later) new.number i = subst (λ ns. IsNumberAt ns new.number i) (sym (numbers_set f ps i new here)) here in
      let left : remove later i ≡ filter (λ (r : Page T). not (r.number == new.number)) ps = gone_set ps i new ∙ sym (others_at f ps s.rising new.number i here) in
      record {
        pages = subst ArePages (sym left) (record { rising = rises_passing f (λ m. not (m == new.number)) ps s.rising; used = all_filter IsUsed _ ps s.used });
        changed = page_gone n None ps later (remove later i) new (ap (λ k. page_of k later) h.number ∙ h.found) (sym free.page.count ∙ free.unused) (sym (others_at f later h.rising new.number i still)) h.changed;
      }

  -- a page is inserted where there was none
  pub page_laid : (ps : List (Page T)) (n i k : ℕ) (old new : Page T) (v : T) → ArePages ps → IsInsertionPoint (numbers_of ps) (n / 64) i → IsUnused old → IsUsed new → k ≡ n % 64 → new.number ≡ n / 64 → new.values.items ≡ slice_set old.values.items k (Some v) → AreChanged n (Some v) ps (insert ps i new)
  page_laid ps n i k old new v s point free used place number values =
      let f : Page T → ℕ = λ p. p.number in
      let vs = old.values.items in
      let here : IsInsertionPoint (numbers_of ps) (f new) i = subst (λ k. IsInsertionPoint (numbers_of ps) k i) (sym number) point in
      let absent = find_point f ps s.rising (f new) i here in
      let is = insert_point f ps i new here in
      let was : (j : ℕ) → value_at vs j ≡ option_and_then (λ (p : Page T). value_at p.values.items j) (page_of (n / 64) ps) = λ j. no_value vs (sym free.page.count ∙ free.unused) j ∙ sym (ap (option_and_then (λ (p : Page T). value_at p.values.items j)) (ap (λ k. page_of k ps) (sym number) ∙ absent)) in
      record {
        pages = subst ArePages is (record { rising = rises_inserted f ps new s.rising absent; used = all_inserted IsUsed f new ps used s.used });
        changed = subst (IsChanged n (Some v) ps) is (page_changed ps (inserted_in_order f new ps) new n vs (Some v) (find_inserted f ps new absent) number was free.page.size (values ∙ ap (λ k. slice_set vs k (Some v)) place));
      }

  -- the first page after k
  pub later_page : (k : ℕ) (ps : List (Page T)) → AllByRecursion IsUsed ps → IfSome (slice_get (filter (λ (r : Page T). nat_lt k r.number) ps) 0) (λ p. IsPage p × (k < p.number))
  later_page k [] u = tt
  later_page k (x ∷ ps) u = elim (nat_lt k x.number) as (λ b. nat_lt k x.number ≡ b → IfSome (slice_get (cond b (x ∷ filter (λ (r : Page T). nat_lt k r.number) ps) (filter (λ (r : Page T). nat_lt k r.number) ps)) 0) (λ p. IsPage p × (k < p.number))) [
    | true ↦ λ t. (u.0.page, ltb-true _ _ t)
    | false ↦ λ t. later_page k ps u.1
  ] refl

  -- ---- how many there are

  pages_below : (ps : List (Page T)) → AllByRecursion IsUsed ps → AllByRecursion (λ n. n ≤ 2147483647) (pids_of (entries_of ps))
  unfolding entries_of
  pages_below [] u = tt
  pages_below (p ∷ ps) u = let size = u.0.page.size in let number = u.0.page.number in all_both _ (entries_in p) (entries_of ps) (all_from _ (p.number * 64) p.values.items (λ m lo hi. omega (arith, hi, size, number))) (pages_below ps u.1)

  pub few_pages : (ps : List (Page T)) → ArePages ps → length (entries_of ps) ≤ 2147483648
  few_pages ps s = few_up_to 2147483647 (pids_of (entries_of ps)) (rises_pages ps s.used s.rising) (pages_below ps s.used) (length (entries_of ps)) (length-map (entries_of ps) (λ (e : Entry T). e.pid))
