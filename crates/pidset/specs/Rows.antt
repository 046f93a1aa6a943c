-- Rows by process ID, in pages of 1,024 IDs.
use Rattle.std.specs.Prelude.{◌≢◌, ℕ, ◌/◌, ◌%◌, ◌<◌, List, [], length, map, slice_index_or, slice_set}

-- there is room for n, if the pages have these sizes
abbrev pub HasRoom : List ℕ → ℕ → Type 0
HasRoom sizes n = n % 1024 < slice_index_or sizes (n / 1024) 0

-- all room stays, and there may be more
abbrev pub Grows : List ℕ → List ℕ → Type 0
Grows old new = (n : ℕ) → HasRoom old n → HasRoom new n

-- the sizes without the page of n
abbrev pub sizes_without : List ℕ → ℕ → List ℕ
sizes_without sizes n = slice_set sizes (n / 1024) 0

-- n and m are on different pages
abbrev pub IsOnAnotherPage : ℕ → ℕ → Type 0
IsOnAnotherPage n m = n / 1024 ≢ m / 1024

module _ {T : Type 0} where
  abbrev pub page_at : List (List T) → ℕ → List T
  page_at pages k = slice_index_or pages k []

  abbrev pub sizes_of : List (List T) → List ℕ
  sizes_of pages = map length pages

  -- n has a row
  abbrev pub HasRow : List (List T) → ℕ → Type 0
  HasRow pages n = n % 1024 < length (page_at pages (n / 1024))

  -- the row of n, or another if it has none
  abbrev pub row_or : T → List (List T) → ℕ → T
  row_or other pages n = slice_index_or (page_at pages (n / 1024)) (n % 1024) other

  -- the rows after n gets another
  unfoldable pub with_row : List (List T) → ℕ → T → List (List T)
  with_row pages n row = slice_set pages (n / 1024) (slice_set (page_at pages (n / 1024)) (n % 1024) row)

  -- the rows without the page of n
  unfoldable pub without_page : List (List T) → ℕ → List (List T)
  without_page pages n = slice_set pages (n / 1024) []
