-- Heirs by the records: the walk up the parents.
use Rattle.std.proofs.Common.{◌≡◌, ◌≢◌, ℕ, true, false, ◌==◌, List, Option, Some, None, refl, ap, sym, ◌∙◌, arith, ◌≤◌, inl, inr, is_some}
use Rattle.std.proofs.lemmas.Bool.{cond_both, ne_eqb, cases_eq}
use Rattle.posix.specs.Common.{Forebear, nearest_marked, heir_among, most_processes}
use Rattle.posix.proofs.HeirLemmas.{IsFound, heir_found, nearest_gone, nearest_none}
use Rattle.laws.specs.Keeping.{Kept, NeverBorn, Lives, Died, forebear_kept, heir_of, lives_now}
use Rattle.audit.specs.declared.records.Record.{Record}
use Rattle.audit.specs.declared.records.Life.{Life}
use Rattle.audit.specs.declared.records.State.TheVariants.{Living}
use Rattle.audit.specs.declared.records.Change.TheVariants as change
use Rattle.audit.specs.Records.{kept_record, kept_by, record_in, has_mark_now, IsAfter, NobodyMarked}
use Rattle.audit.proofs.KeptLemmas.{there_by_life}

-- a living process as an ancestor, by what is kept
abbrev pub living_by : (ℕ → Kept) → ℕ → Option Forebear
living_by kept q = forebear_kept (kept q)

-- the result of the walk from q on
abbrev pub walk_from : List (ℕ × Record) → ℕ → ℕ → ℕ → ℕ
walk_from entries p left q = nearest_marked (living_by (kept_by entries)) p left q

pub walk_begins : (entries : List (ℕ × Record)) (p : ℕ) → p ≢ 1 → walk_from entries p 2147483647 p ≡ heir_of (kept_by entries) p
walk_begins entries p other = rw (ne_eqb p 1 other) refl

-- the walk ends at a process that is not an ancestor
pub walk_gone : (entries : List (ℕ × Record)) (p left q n : ℕ) (o : Option Record) → left ≢ 0 → n ≡ q → record_in entries n ≡ o → forebear_kept (kept_record o) ≡ None → walk_from entries p left q ≡ 1
unfolding kept_by
walk_gone entries p left q n o some same found none = nearest_gone (living_by (kept_by entries)) p left q some (rw (ap (record_in entries) (sym same) ∙ found) none)

-- who lives is one
pub lives_at : (entries : List (ℕ × Record)) (q n : ℕ) (r : Record) (life : Life) → n ≡ q → record_in entries n ≡ Some r → r.state ≡ Living life → living_by (kept_by entries) q ≡ Some (record { is_marked = life.is_marked; parent = r.parent })
unfolding kept_by
lives_at entries q n r life same found is = rw (ap (record_in entries) (sym same) ∙ found, is) refl

pub walk_over : (entries : List (ℕ × Record)) (p left q : ℕ) → left ≡ 0 → walk_from entries p left q ≡ 1
unfolding nearest_marked
walk_over entries p left q h = ap (λ n. walk_from entries p n q) h

-- ---- who is found

pub heir_first : (kept : ℕ → Kept) (p : ℕ) → p ≡ 1 → heir_of kept p ≡ 1
heir_first kept p first = ap (heir_among (living_by kept)) first

-- another one than p that lives, or process 1
pub heir_lives : (kept : ℕ → Kept) (p : ℕ) → heir_of kept p ≢ 1 → (heir_of kept p ≢ p) × (lives_now (kept (heir_of kept p)) ≡ true)
heir_lives kept p other = of (heir_found (living_by kept) p) other
  where
    lives : (k : Kept) (g : Forebear) → forebear_kept k ≡ Some g → lives_now k ≡ true
    lives NeverBorn g e = absurd (cc)
    lives (Lives a) g e = refl
    lives (Died d) g e = absurd (cc)

    of : {h : ℕ} → IsFound (living_by kept) p h → h ≢ 1 → (h ≢ p) × (lives_now (kept h) ≡ true)
    of (inl first) other = absurd (other first)
    of {h} (inr k) other = (k.0, lives (kept h) k.1.0 k.1.1)

-- the new parent is process 1 if no process is marked
pub heir_unmarked : (kept : ℕ → Kept) (p : ℕ) → NobodyMarked kept → heir_of kept p ≡ 1
heir_unmarked kept p none = cond_both (p == 1) 1 (nearest_marked (living_by kept) p most_processes p) (λ h. h ≡ 1) (λ t. refl) (λ t. nearest_none (living_by kept) p most_processes p (λ q f e. by (kept q) f (none q) e))
  where
    by : (k : Kept) (f : Forebear) → has_mark_now k ≡ false → forebear_kept k ≡ Some f → f.is_marked ≡ false
    by NeverBorn f h e = absurd (cc)
    by (Lives a) f h e = let is : a.is_marked ≡ f.is_marked = let same : Some (record { is_marked = a.is_marked; parent = a.parent }) ≡ Some f = e in cc in sym is ∙ h
    by (Died d) f h e = absurd (cc)

-- ---- what is asked of an heir

pub heir_other : (kept : ℕ → Kept) (p h : ℕ) → h ≡ heir_of kept p → p ≢ 1 → h ≢ p
heir_other kept p h is other = elim (cases_eq h 1) [
  | inl first ↦ λ e. other (sym e ∙ first)
  | inr apart ↦ λ e. (heir_lives kept p (λ first. apart (is ∙ first))).0 (sym is ∙ e)
]

-- the heir lives on
pub heir_still : (p h w : ℕ) (now old mid : List (ℕ × Record)) → old ≡ now → IsAfter (change.Ended w) p old mid → h ≡ heir_of (kept_by now) p → 2 ≤ h → is_some (record_in mid h) ≡ true
heir_still p h w now old mid same told is two =
    let k = heir_lives (kept_by now) p (λ first. let e : h ≡ 1 = is ∙ first in omega (arith, e, two)) in
    let apart : p ≢ h = (λ e. k.0 (sym is ∙ sym e)) in
    there_by_life mid h (ap lives_now (told h ∙ rw (ne_eqb p h apart) (ap (λ es. kept_by es h) same)) ∙ ap (λ n. lives_now (kept_by now n)) is ∙ k.1)
