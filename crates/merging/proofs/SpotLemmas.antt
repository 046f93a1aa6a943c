-- Laws of spots that are kept as runs.
use Rattle.std.proofs.Common.{◌≡◌, ℕ, zero, suc, ◌+◌, ◌-◌, ◌<◌, ◌≤◌, ◌==◌, ◌&&◌, ◌||◌, Bool, false, List, [], ◌∷◌, ◌++◌, length, length-append, get_or, take, refl, ap, sym, subst, ◌∙◌, append_assoc, append-nil, arith}
use Rattle.std.specs.Prelude.{nat_lt, replicate}
use Rattle.std.proofs.Math.ListN.{set}
use Rattle.std.proofs.lemmas.Bool.Decides.{nat_tests}
use Rattle.std.proofs.lemmas.List.{length-replicate, replicate-append-replicate}
use Rattle.counting.specs.Tallies.{is_earlier}
use Rattle.merging.specs.declared.spot_list.SpotRun.{SpotRun}
use Rattle.merging.proofs.TallyLemmas.{step_equal}
use Rattle.merging.specs.SpotLists.{AreRuns, BeginOtherwise, begin_above, begin_below, spots_of}

-- ---- one more spot

abbrev one : ℕ → SpotRun
one q = record { spot = q; times = 1 }

abbrev once_more : SpotRun → SpotRun
once_more r = record { spot = r.spot; times = r.times + 1 }

-- By a run of its own.
pub spots_push : (rs : List SpotRun) (q : ℕ) → spots_of (rs ++ one q ∷ []) ≡ spots_of rs ++ q ∷ []
spots_push [] q = refl
spots_push (r ∷ rs) q = ap (λ (ps : List ℕ). replicate r.times r.spot ++ ps) (spots_push rs q) ∙ sym (append_assoc (replicate r.times r.spot) (spots_of rs) (q ∷ []))

pub runs_push : (rs : List SpotRun) (i : ℕ) (r : SpotRun) (q : ℕ) → i + 1 ≡ length rs → r ≡ get_or rs i r → (r.spot ≡ q → ⊥) → AreRuns rs → AreRuns (rs ++ one q ∷ [])
runs_push [] i r q last is apart are = absurd (omega arith)
runs_push (p ∷ []) zero r q last is apart are = (are.0, (λ (e : p.spot ≡ q). apart (ap (λ (x : SpotRun). x.spot) is ∙ e)), (omega arith, tt, tt))
runs_push (p ∷ []) (suc i) r q last is apart are = absurd (omega arith)
runs_push (p ∷ k ∷ rs) zero r q last is apart are = absurd (omega arith)
runs_push (p ∷ k ∷ rs) (suc i) r q last is apart are = (are.0, are.1, runs_push (k ∷ rs) i r q (omega arith) is apart are.2)

-- By the last run.
one_more : (q : SpotRun) → spots_of (once_more q ∷ []) ≡ spots_of (q ∷ []) ++ q.spot ∷ []
one_more q =
    append-nil (replicate (q.times + 1) q.spot)
    ∙ sym (replicate-append-replicate q.times 1 q.spot)
    ∙ ap (λ (ps : List ℕ). ps ++ q.spot ∷ []) (sym (append-nil (replicate q.times q.spot)))

pub spots_grow : (rs : List SpotRun) (i : ℕ) (r : SpotRun) → i + 1 ≡ length rs → r ≡ get_or rs i r → spots_of (set rs i (once_more r)) ≡ spots_of rs ++ r.spot ∷ []
spots_grow [] i r last is = absurd (omega arith)
spots_grow (p ∷ []) zero r last is = subst (λ (x : SpotRun). spots_of (once_more x ∷ []) ≡ spots_of (p ∷ []) ++ x.spot ∷ []) (sym is) (one_more p)
spots_grow (p ∷ []) (suc i) r last is = absurd (omega arith)
spots_grow (p ∷ k ∷ rs) zero r last is = absurd (omega arith)
spots_grow (p ∷ k ∷ rs) (suc i) r last is =
    ap (λ (ps : List ℕ). replicate p.times p.spot ++ ps) (spots_grow (k ∷ rs) i r (omega arith) is)
    ∙ sym (append_assoc (replicate p.times p.spot) (spots_of (k ∷ rs)) (r.spot ∷ []))

begin_still : (q : ℕ) (rs : List SpotRun) (i : ℕ) (r : SpotRun) → r ≡ get_or rs i r → BeginOtherwise q rs → BeginOtherwise q (set rs i (once_more r))
begin_still q [] i r is other = other
begin_still q (p ∷ rs) zero r is other = λ (e : q ≡ r.spot). other (e ∙ ap (λ (x : SpotRun). x.spot) is)
begin_still q (p ∷ rs) (suc i) r is other = other

pub runs_grow : (rs : List SpotRun) (i : ℕ) (r : SpotRun) → r ≡ get_or rs i r → AreRuns rs → AreRuns (set rs i (once_more r))
runs_grow [] i r is are = are
runs_grow (p ∷ rs) zero r is are = (omega arith, subst (λ (x : SpotRun). BeginOtherwise x.spot rs) (sym is) are.1, are.2)
runs_grow (p ∷ rs) (suc i) r is are = (are.0, begin_still p.spot rs i r is are.1, runs_grow rs i r is are.2)

-- A run has no more spots than all runs.
pub times_within : (rs : List SpotRun) (i : ℕ) (r : SpotRun) → i < length rs → r ≡ get_or rs i r → r.times ≤ length (spots_of rs)
times_within [] i r there is = absurd (omega arith)
times_within (p ∷ rs) zero r there is =
    let same = ap (λ (x : SpotRun). x.times) is in
    omega (arith, same, length-append (replicate p.times p.spot) (spots_of rs), length-replicate p.times p.spot)
times_within (p ∷ rs) (suc i) r there is =
    let within = times_within rs i r (omega arith) is in
    omega (arith, within, length-append (replicate p.times p.spot) (spots_of rs))

-- ---- the spots of the first runs

pub spots_taken : (rs : List SpotRun) (i : ℕ) (d : SpotRun) → i < length rs → spots_of (take (i + 1) rs) ≡ spots_of (take i rs) ++ replicate (get_or rs i d).times (get_or rs i d).spot
spots_taken [] i d there = absurd (omega arith)
spots_taken (p ∷ rs) zero d there = append-nil (replicate p.times p.spot)
spots_taken (p ∷ rs) (suc i) d there =
    let more : suc i + 1 ≡ suc (i + 1) = omega arith in
    ap (λ n. spots_of (take n (p ∷ rs))) more
    ∙ ap (λ (ps : List ℕ). replicate p.times p.spot ++ ps) (spots_taken rs i d (omega arith))
    ∙ sym (append_assoc (replicate p.times p.spot) (spots_of (take i rs)) (replicate (get_or rs i d).times (get_or rs i d).spot))

-- ---- which spots come earlier

earlier_apart : (p q : ℕ) (a : Bool) → (p ≡ q → ⊥) → (nat_lt p q || (p == q && a)) ≡ nat_lt p q
earlier_apart p q a apart = grind (arith, nat_tests)

-- Two runs of different spots.
two_apart : (p q t u : ℕ) (ps qs : List ℕ) → 0 < t → 0 < u → (p ≡ q → ⊥) → is_earlier (replicate t p ++ ps) (replicate u q ++ qs) ≡ nat_lt p q
two_apart p q zero u ps qs some others apart = absurd (omega arith)
two_apart p q (suc t) zero ps qs some others apart = absurd (omega arith)
two_apart p q (suc t) (suc u) ps qs some others apart = earlier_apart p q (is_earlier (replicate t p ++ ps) (replicate u q ++ qs)) apart

pub runs_apart : (r o : SpotRun) (rs os : List SpotRun) → AreRuns (r ∷ rs) → AreRuns (o ∷ os) → (r.spot ≡ o.spot → ⊥) → is_earlier (spots_of (r ∷ rs)) (spots_of (o ∷ os)) ≡ nat_lt r.spot o.spot
runs_apart r o rs os are others apart = two_apart r.spot o.spot r.times o.times (spots_of rs) (spots_of os) are.0 others.0 apart

-- Two that begin with the same spots.
two_alike : (p q t : ℕ) (ps qs : List ℕ) → p ≡ q → is_earlier (replicate t p ++ ps) (replicate t q ++ qs) ≡ is_earlier ps qs
two_alike p q zero ps qs same = refl
two_alike p q (suc t) ps qs same = step_equal p q (is_earlier (replicate t p ++ ps) (replicate t q ++ qs)) same ∙ two_alike p q t ps qs same

pub runs_alike : (r o : SpotRun) (rs os : List SpotRun) → r.spot ≡ o.spot → r.times ≡ o.times → is_earlier (spots_of (r ∷ rs)) (spots_of (o ∷ os)) ≡ is_earlier (spots_of rs) (spots_of os)
runs_alike r o rs os same as_many =
    ap (λ n. is_earlier (replicate n r.spot ++ spots_of rs) (spots_of (o ∷ os))) as_many
    ∙ two_alike r.spot o.spot o.times (spots_of rs) (spots_of os) same

parted : (n t u q : ℕ) (ps : List ℕ) → n ≡ t + u → replicate n q ++ ps ≡ replicate t q ++ (replicate u q ++ ps)
parted n t u q ps sum = ap (λ m. replicate m q ++ ps) sum ∙ ap (λ (qs : List ℕ). qs ++ ps) (sym (replicate-append-replicate t u q)) ∙ append_assoc (replicate t q) (replicate u q) ps

none_earlier : (ps : List ℕ) → is_earlier ps [] ≡ false
none_earlier [] = refl
none_earlier (p ∷ ps) = refl

-- The first run is shorter.
pub run_shorter : (r o : SpotRun) (rs os : List SpotRun) → AreRuns (r ∷ rs) → r.spot ≡ o.spot → r.times < o.times → is_earlier (spots_of (r ∷ rs)) (spots_of (o ∷ os)) ≡ begin_below rs o.spot
run_shorter r o rs os are same shorter =
    ap (is_earlier (spots_of (r ∷ rs))) (parted o.times r.times (o.times - r.times) o.spot (spots_of os) (omega arith))
    ∙ two_alike r.spot o.spot r.times (spots_of rs) (replicate (o.times - r.times) o.spot ++ spots_of os) same
    ∙ by rs are.1 are.2
  where
    by : (ks : List SpotRun) → BeginOtherwise r.spot ks → AreRuns ks → is_earlier (spots_of ks) (replicate (o.times - r.times) o.spot ++ spots_of os) ≡ begin_below ks o.spot
    by [] other rest = refl
    by (k ∷ ks) other rest = two_apart k.spot o.spot k.times (o.times - r.times) (spots_of ks) (spots_of os) rest.0 (omega arith) (λ (e : k.spot ≡ o.spot). other (same ∙ sym e))

-- The first run is longer.
pub run_longer : (r o : SpotRun) (rs os : List SpotRun) → AreRuns (o ∷ os) → r.spot ≡ o.spot → o.times < r.times → is_earlier (spots_of (r ∷ rs)) (spots_of (o ∷ os)) ≡ begin_above os r.spot
run_longer r o rs os are same longer =
    ap (λ (ps : List ℕ). is_earlier ps (spots_of (o ∷ os))) (parted r.times o.times (r.times - o.times) r.spot (spots_of rs) (omega arith))
    ∙ two_alike r.spot o.spot o.times (replicate (r.times - o.times) r.spot ++ spots_of rs) (spots_of os) same
    ∙ by os are.1 are.2
  where
    by : (ks : List SpotRun) → BeginOtherwise o.spot ks → AreRuns ks → is_earlier (replicate (r.times - o.times) r.spot ++ spots_of rs) (spots_of ks) ≡ begin_above ks r.spot
    by [] other rest = none_earlier (replicate (r.times - o.times) r.spot ++ spots_of rs)
    by (k ∷ ks) other rest = two_apart r.spot k.spot (r.times - o.times) k.times (spots_of rs) (spots_of ks) (omega arith) rest.0 (λ (e : r.spot ≡ k.spot). other (sym same ∙ e))
