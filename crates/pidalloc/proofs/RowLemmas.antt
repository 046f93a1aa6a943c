-- Rows of a table some of which are changed.
use Rattle.std.proofs.Common.{◌≡◌, ◌≢◌, ℕ, zero, suc, ◌+◌, ◌<◌, ◌≤◌, ◌==◌, Bool, false, cond, List, ◌∷◌, length, map, refl, ap, ◌∙◌, arith, replicate, length-set}
use Rattle.std.specs.Prelude.{slice_set}
use Rattle.std.specs.List.{range_with_len}
use Rattle.std.proofs.lemmas.Bool.{eqb-true}
use Rattle.std.proofs.lemmas.Bool.Decides.{nat_tests}
use Rattle.std.proofs.lemmas.List.{get_or-set_same, get_or-set_other}
use Rattle.pidalloc.specs.Rows.{Row, Role, count_of, is_free_row, unborne, row, with_row, one_more, one_less, Process, Group, Session}

abbrev pub when : Bool → (Row → Row) → Row → Row
when b f r = cond b (f r) r

-- the row q after the row n is changed
pub row_with : (rows : List Row) (n q : ℕ) (f : Row → Row) → (n ≡ q → q < length rows) → row (with_row rows n f) q ≡ when (n == q) f (row rows q)
row_with rows n q f within = grind (arith, eqb-true, λ (e : n ≡ q). get_or-set_same rows q (f (row rows q)) unborne (within e), get_or-set_other rows n q (f (row rows n)) unborne)

-- the row q after three rows are changed, one after another
pub row_with_three : (rows : List Row) (a b c q : ℕ) (f g h : Row → Row) → q < length rows
    → row (with_row (with_row (with_row rows a f) b g) c h) q ≡ when (c == q) h (when (b == q) g (when (a == q) f (row rows q)))
row_with_three rows a b c q f g h l =
    let one : length (with_row rows a f) ≡ length rows = length-set rows a _ in
    let two : length (with_row (with_row rows a f) b g) ≡ length (with_row rows a f) = length-set (with_row rows a f) b _ in
    rw (row_with (with_row (with_row rows a f) b g) c q h (λ e. omega (arith, l, one, two)), row_with (with_row rows a f) b q g (λ e. omega (arith, l, one)), row_with rows a q f (λ e. l)) refl

pub same_row : (a b : Row) → a.process ≡ b.process → a.group ≡ b.group → a.session ≡ b.session → a ≡ b
same_row a b p g s =
    let of = λ (process : ℕ) (group : ℕ) (session : ℕ). let r : Row = record { process = process; group = group; session = session } in r in
    ap (λ n. of n a.group a.session) p ∙ ap (λ n. of b.process n a.session) g ∙ ap (λ n. of b.process b.group n) s

-- a row with one more use in each role whose flag is set
abbrev pub more : Bool → Bool → Bool → Row → Row
more p g s r = when s (one_more Session) (when g (one_more Group) (when p (one_more Process) r))

abbrev pub less : Bool → Bool → Bool → Row → Row
less p g s r = when s (one_less Session) (when g (one_less Group) (when p (one_less Process) r))

pub less_more : (p g s : Bool) (r : Row) → less p g s (more p g s r) ≡ r
less_more p g s r = same_row _ _ (grind arith) (grind arith) (grind arith)

-- a row that counts something is that of an ID in use
pub counted_borne : (role : Role) (r : Row) → 1 ≤ count_of role r → is_free_row r ≡ false
counted_borne role r l = grind (arith, nat_tests, l)

-- at the start no ID is in use
pub no_row : (k n : ℕ) → row (replicate k unborne) n ≡ unborne
no_row zero n = refl
no_row (suc k) zero = refl
no_row (suc k) (suc n) = no_row k n

-- ---- rows of a range of IDs

-- two functions that agree on the IDs of a range give the same rows
pub map_same : (f g : ℕ → Row) (a n : ℕ) → ((k : ℕ) → a ≤ k → k < a + n → g k ≡ f k) → map g (range_with_len a n) ≡ map f (range_with_len a n)
map_same f g a zero h = refl
map_same f g a (suc n) h = rw (h a (omega arith) (omega arith)) (ap (λ rs. f a ∷ rs) (map_same f g (a + 1) n (λ k lo hi. h k (omega arith) (omega arith))))

-- if they differ at one ID, one row is set
pub map_set : (f g : ℕ → Row) (a n i q : ℕ) → i < n → a + i ≡ q → ((k : ℕ) → k ≢ q → g k ≡ f k) → map g (range_with_len a n) ≡ slice_set (map f (range_with_len a n)) i (g q)
map_set f g a zero i q l at h = absurd (omega (arith, l))
map_set f g a (suc n) zero q l at h = let e : q ≡ a = omega (arith, at) in rw e (ap (λ rs. g a ∷ rs) (map_same f g (a + 1) n (λ k lo hi. h k (λ same. omega (arith, lo, same, at)))))
map_set f g a (suc n) (suc i) q l at h = rw (h a (λ e. omega (arith, e, at))) (ap (λ rs. f a ∷ rs) (map_set f g (a + 1) n i q (omega (arith, l)) (omega (arith, at)) h))
