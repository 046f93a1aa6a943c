-- If a process can reach a call that leaves a handler from a place, the way from this place is `Out`.
use Rattle.std.proofs.Common.{◌≡◌, ◌≢◌, ◌+◌, ◌<◌, ℕ, zero, suc, Bool, true, false, ℤ, pos, List, Some, None, length, slice_get, subst, refl, sym, ⊎_elim, arith}
use Rattle.std.proofs.lemmas.Bool.{cases_lt}
use Rattle.std.proofs.lemmas.Option.{slice_get_past}
use Rattle.posix.specs.declared.instr.Instr.{Instr}
use Rattle.warning.specs.declared.way.Way.{Way}
use Rattle.warning.specs.declared.way.Way.TheVariants.{OffTheEnd, Out}
use Rattle.warning.specs.Ways.{leaves_by, Follows, Reached, NeverLeaves, way_at, IsKnownAt, AreKnown}

-- ---- at a place

pub known_out : (program : List Instr) (ways : List Way) (place : ℕ) → way_at ways place ≡ Out → IsKnownAt program ways place
known_out program ways place out = record { leaves = λ instr is l. out; follows = λ instr next is f n. out }

pub known_past : (program : List Instr) (ways : List Way) (place : ℕ) → slice_get program place ≡ None → IsKnownAt program ways place
known_past program ways place none = record {
  leaves = λ instr is l. absurd (cc (is, none));
  follows = λ instr next is f n. absurd (cc (is, none));
}

-- the way from the instruction there is not `Out`
pub known_by : (program : List Instr) (ways : List Way) (place : ℕ) (instr : Instr) (way : Way) → slice_get program place ≡ Some instr → (leaves_by instr ≡ true → way ≡ Out) → ((next : ℕ) → Follows instr place next → way_at ways next ≡ Out → way ≡ Out) → way ≢ Out → IsKnownAt program ways place
known_by program ways place instr way at leaves follows differs = record {
  leaves = λ i is l.
      let same : instr ≡ i = cc (is, at) in
      absurd (differs (leaves (subst (λ (j : Instr). leaves_by j ≡ true) (sym same) l)));
  follows = λ i next is f n.
      let same : instr ≡ i = cc (is, at) in
      absurd (differs (follows next (subst (λ (j : Instr). Follows j place next) (sym same) f) n));
}

-- ---- at all places

pub known_more : (program : List Instr) (ways : List Way) (k : ℕ) → ((p : ℕ) → p < k → IsKnownAt program ways p) → IsKnownAt program ways k → (p : ℕ) → p < k + 1 → IsKnownAt program ways p
known_more program ways k below here p within = ⊎_elim
    (λ less. below p less)
    (λ past. let e : k ≡ p = omega (arith, past, within) in subst (λ (q : ℕ). IsKnownAt program ways q) e here)
    (cases_lt p k)

pub known_all : (program : List Instr) (ways : List Way) → ((p : ℕ) → p < length program → IsKnownAt program ways p) → AreKnown program ways
known_all program ways below p = ⊎_elim (λ less. below p less) (λ past. known_past program ways p (slice_get_past program p past)) (cases_lt p (length program))

-- ---- after a place

comes_out : (program : List Instr) (ways : List Way) → AreKnown program ways → (steps from to : ℕ) (instr : Instr) → Reached steps program from to → slice_get program to ≡ Some instr → leaves_by instr ≡ true → way_at ways from ≡ Out
comes_out program ways known zero from to instr is at leaves = (known from).leaves instr (subst (λ (p : ℕ). slice_get program p ≡ Some instr) (sym is) at) leaves
comes_out program ways known (suc steps) from to instr (next, (goes, rest)) at leaves =
    (known from).follows goes.instr next goes.is goes.follows (comes_out program ways known steps next to instr rest at leaves)

-- a place whose way is `OffTheEnd`
pub never_leaves : (program : List Instr) (ways : List Way) (from : ℕ) → AreKnown program ways → way_at ways from ≡ OffTheEnd → NeverLeaves program from
never_leaves program ways from known off = λ steps to instr reached at. elim (leaves_by instr) as (λ (b : Bool). leaves_by instr ≡ b → b ≡ false) [
  | true ↦ λ leaves. absurd (cc (off, comes_out program ways known steps from to instr reached at leaves))
  | false ↦ λ never. refl
] refl

-- a code address whose place has the way `OffTheEnd`
pub never_leaves_at : (program : List Instr) (ways : List Way) (address : ℤ) (from place : ℕ) → AreKnown program ways → address ≡ pos (from + 16) → way_at ways from ≡ OffTheEnd → address ≡ pos (place + 16) → NeverLeaves program place
never_leaves_at program ways address from place known is off also =
    let both : from + 16 ≡ place + 16 = cc (is, also) in
    let same : from ≡ place = omega (arith, both) in
    subst (λ (p : ℕ). NeverLeaves program p) same (never_leaves program ways from known off)
