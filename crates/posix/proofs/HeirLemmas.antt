-- Heirs: who is found is process 1, or another process that lives; and the walk, step by step.
use Rattle.std.proofs.Common.{◌≡◌, ◌≢◌, ◌⊎◌, inl, inr, ℕ, zero, suc, ◌-◌, true, false, cond, not, ◌&&◌, refl, ap, ◌∙◌, arith, List, Option, Some, None, ◌==◌, option_and_then}
use Rattle.std.specs.Option.{option_map_or}
use Rattle.std.proofs.lemmas.Bool.{and_parts, not-true, eqb-false, cond_both}
use Rattle.posix.specs.Common.{Process, lookup, Forebear, nearest_marked, most_processes, heir_among, forebear_of, forebears, heir_in, IsPlaced, CanInherit}

-- process 1, or another one than p that lives
abbrev pub IsFound : (ℕ → Option Forebear) → ℕ → ℕ → Type 0
IsFound living p h = (h ≡ 1) ⊎ ((h ≢ p) × ((f : Forebear) × (living h ≡ Some f)))

nearest_found : (living : ℕ → Option Forebear) (p n q : ℕ) → IsFound living p (nearest_marked living p n q)
unfolding nearest_marked
nearest_found living p zero q = inl refl
nearest_found living p (suc n) q = by (λ k. nearest_found living p n k) (living q) refl
  where
    by : ((k : ℕ) → IsFound living p (nearest_marked living p n k)) → (o : Option Forebear) → living q ≡ o
        → IsFound living p (option_map_or (λ (f : Forebear). cond (f.is_marked && not (q == p)) q (nearest_marked living p n f.parent)) o 1)
    by rest None e = inl refl
    by rest (Some f) e = cond_both (f.is_marked && not (q == p)) q (nearest_marked living p n f.parent) (IsFound living p) (λ m. inr (eqb-false q p (not-true _ (and_parts f.is_marked (not (q == p)) m).1), (f, e))) (λ m. rest f.parent)

pub heir_found : (living : ℕ → Option Forebear) (p : ℕ) → IsFound living p (heir_among living p)
heir_found living p = cond_both (p == 1) 1 (nearest_marked living p most_processes p) (IsFound living p) (λ t. inl refl) (λ t. nearest_found living p most_processes p)

-- an ancestor exists, and is not a zombie
forebear_placed : (rs : List Process) (p : ℕ) (f : Forebear) → forebears rs p ≡ Some f → IsPlaced rs p
forebear_placed rs p f e = of (lookup p rs) refl e
  where
    of : (o : Option Process) → lookup p rs ≡ o → option_and_then forebear_of o ≡ Some f → IsPlaced rs p
    of None found e = absurd (cc)
    of (Some r) found e = record { what = r; found = found; living = grind (arith, e) }

-- So the heir of a process may inherit.
pub heir_inherits : (rs : List Process) (p : ℕ) → CanInherit rs p (heir_in rs p)
heir_inherits rs p = of (heir_found (forebears rs) p)
  where
    of : {h : ℕ} → IsFound (forebears rs) p h → CanInherit rs p h
    of (inl first) = inl first
    of {h} (inr k) = inr (k.0, forebear_placed rs h k.1.0 k.1.1)

-- ---- one step of the walk

nearest_next : (living : ℕ → Option Forebear) (p n q : ℕ) → n ≢ 0
    → nearest_marked living p n q ≡ option_map_or (λ (f : Forebear). cond (f.is_marked && not (q == p)) q (nearest_marked living p (n - 1) f.parent)) (living q) 1
unfolding nearest_marked
nearest_next living p zero q some = absurd (some refl)
nearest_next living p (suc n) q some =
    let less : n ≡ suc n - 1 = omega arith in
    ap (λ m. option_map_or (λ (f : Forebear). cond (f.is_marked && not (q == p)) q (nearest_marked living p m f.parent)) (living q) 1) less

-- the walk ends at an ID that no living process has
pub nearest_gone : (living : ℕ → Option Forebear) (p n q : ℕ) → n ≢ 0 → living q ≡ None → nearest_marked living p n q ≡ 1
nearest_gone living p n q some gone = nearest_next living p n q some ∙ rw gone refl

-- or at one that is marked
pub nearest_here : (living : ℕ → Option Forebear) (p n q : ℕ) (f : Forebear) → n ≢ 0 → living q ≡ Some f → (f.is_marked && not (q == p)) ≡ true → nearest_marked living p n q ≡ q
nearest_here living p n q f some there mark = nearest_next living p n q some ∙ rw (there, mark) refl

-- and goes on to the parent of one that isn't
pub nearest_on : (living : ℕ → Option Forebear) (p n q : ℕ) (f : Forebear) → n ≢ 0 → living q ≡ Some f → (f.is_marked && not (q == p)) ≡ false
    → nearest_marked living p n q ≡ nearest_marked living p (n - 1) f.parent
nearest_on living p n q f some there mark = nearest_next living p n q some ∙ rw (there, mark) refl

-- The walk ends at process 1, too, which has no parent.
pub nearest_first : (living : ℕ → Option Forebear) (p n : ℕ) → living 0 ≡ None → ((f : Forebear) → living 1 ≡ Some f → f.parent ≡ 0) → nearest_marked living p n 1 ≡ 1
unfolding nearest_marked
nearest_first living p zero nobody first = refl
nearest_first living p (suc n) nobody first = by (living 1) refl
  where
    above : (m : ℕ) → nearest_marked living p m 0 ≡ 1
    above zero = refl
    above (suc m) = rw nobody refl

    by : (o : Option Forebear) → living 1 ≡ o → option_map_or (λ (f : Forebear). cond (f.is_marked && not (1 == p)) 1 (nearest_marked living p n f.parent)) o 1 ≡ 1
    by None is = refl
    by (Some f) is = cond_both (f.is_marked && not (1 == p)) 1 (nearest_marked living p n f.parent) (λ h. h ≡ 1) (λ t. refl) (λ t. ap (nearest_marked living p n) (first f is) ∙ above n)

-- The result is process 1 if no process is marked.
pub nearest_none : (living : ℕ → Option Forebear) (p n q : ℕ) → ((i : ℕ) (f : Forebear) → living i ≡ Some f → f.is_marked ≡ false) → nearest_marked living p n q ≡ 1
unfolding nearest_marked
nearest_none living p zero q none = refl
nearest_none living p (suc n) q none = by (λ k. nearest_none living p n k none) (living q) refl
  where
    by : ((k : ℕ) → nearest_marked living p n k ≡ 1) → (o : Option Forebear) → living q ≡ o → option_map_or (λ (f : Forebear). cond (f.is_marked && not (q == p)) q (nearest_marked living p n f.parent)) o 1 ≡ 1
    by rest None is = refl
    by rest (Some f) is = rw (none q f is) (rest f.parent)
