-- Values by process ID, in pages of 64 IDs.
use Rattle.std.specs.Prelude.{◌≡◌, ℕ, ◌+◌, ◌*◌, ◌/◌, ◌%◌, ◌≤◌, ◌==◌, if◌then◌else◌, Bool, List, [], ◌∷◌, ◌++◌, length, map, find, count_by, Option, Some, None, is_some, slice_get, slice_index_or, refl}
use Rattle.std.specs.Coded.{Coded, code_by, coded×, coded_ℕ, coded_bool, coded_list}
use Rattle.std.specs.List.{AllByRecursion}
use Rattle.std.specs.Option.{option_and_then}
use Rattle.pidset.specs.declared.page.Page.{Page}
use Rattle.pidset.specs.Numbers.{Rises, numbers_above}

-- an ID and its value
pub record Entry (T : Type 0) : Type 0 where
  pub pid : ℕ
  pub value : T

-- the entries in rising order of their IDs, and whether there is room for one more
pub record PagesView (T : Type 0) : Type 0 where
  pub entries : List (Entry T)
  pub ready : Bool

abbrev pub entry_code : {T : Type 0} → Coded T → Coded (Entry T)
entry_code {T} code = code_by (ℕ × T) (coded× coded_ℕ code) (λ e. (e.pid, e.value)) (λ p. record { pid = p.0; value = p.1 }) (λ _. refl)

abbrev pub pages_code : {T : Type 0} → Coded T → Coded (PagesView T)
pages_code {T} code =
    code_by (List (Entry T) × Bool) (coded× (coded_list (entry_code code)) coded_bool) (λ v. (v.entries, v.ready)) (λ p. record { entries = p.0; ready = p.1 }) (λ _. refl)

module _ {T : Type 0} where
  abbrev pub entry : ℕ → T → Entry T
  entry n v = record { pid = n; value = v }

  abbrev pub entry_of : ℕ → List (Entry T) → Option (Entry T)
  entry_of n es = find (λ e. e.pid == n) es

  abbrev pub pids_of : List (Entry T) → List ℕ
  pids_of es = map (λ e. e.pid) es

  -- the value at a place of a page, if there is one
  abbrev pub value_at : List (Option T) → ℕ → Option T
  value_at vs i = slice_index_or vs i None

  -- the values of the IDs from n on
  unfoldable pub entries_from : ℕ → List (Option T) → List (Entry T)
  entries_from n [] = []
  entries_from n (None ∷ vs) = entries_from (n + 1) vs
  entries_from n (Some v ∷ vs) = entry n v ∷ entries_from (n + 1) vs

  abbrev pub entries_in : Page T → List (Entry T)
  entries_in p = entries_from (p.number * 64) p.values.items

  unfoldable pub entries_of : List (Page T) → List (Entry T)
  entries_of [] = []
  entries_of (p ∷ ps) = entries_in p ++ entries_of ps

  -- a page has 64 places and counts its values, none of which is at its end or after it
  pub record IsPage (p : Page T) : Type 0 where
    pub size : length p.values.items ≡ 64
    pub count : p.used ≡ count_by is_some p.values.items
    pub number : p.number ≤ 33554431
    pub end : p.end ≤ 64
    pub none : (i : ℕ) → p.end ≤ i → value_at p.values.items i ≡ None

  pub record IsUsed (p : Page T) : Type 0 where
    pub page : IsPage p
    pub used : 1 ≤ p.used

  pub record IsUnused (p : Page T) : Type 0 where
    pub page : IsPage p
    pub unused : p.used ≡ 0

  abbrev pub numbers_of : List (Page T) → List ℕ
  numbers_of ps = map (λ p. p.number) ps

  -- the page numbers rise, and each page has a value
  pub record ArePages (ps : List (Page T)) : Type 0 where
    pub rising : Rises (numbers_of ps)
    pub used : AllByRecursion IsUsed ps

  abbrev pub page_of : ℕ → List (Page T) → Option (Page T)
  page_of k ps = find (λ p. p.number == k) ps

  abbrev pub value_in : ℕ → Option (Page T) → Option T
  value_in n o = option_and_then (λ p. value_at p.values.items (n % 64)) o

  -- the value of an ID
  abbrev pub value_of : ℕ → List (Page T) → Option T
  value_of n ps = value_in n (page_of (n / 64) ps)

  -- n has another value, or none, and all other IDs keep theirs
  abbrev pub IsChanged : ℕ → Option T → List (Page T) → List (Page T) → Type 0
  IsChanged n o old new = (q : ℕ) → value_of q new ≡ if n == q then o else value_of q old

  -- the value of n has changed, and the pages are valid
  pub record AreChanged (n : ℕ) (o : Option T) (old new : List (Page T)) : Type 0 where
    pub pages : ArePages new
    pub changed : IsChanged n o old new

  -- the lowest ID above n
  abbrev pub first_above : ℕ → List (Entry T) → Option ℕ
  first_above n es = slice_get (numbers_above n (pids_of es)) 0
