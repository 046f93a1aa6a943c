-- Going from each schedule to the next visits the whole family.
use Rattle.std.proofs.Common.{◌≡◌, ℕ, zero, suc, ◌+◌, ◌<◌, ◌≤◌, Bool, true, false, refl, ap, sym, ◌∙◌, arith, List, [], ◌∷◌, ◌++◌, length, map, replicate, Option, Some, None, Result, Ok, Err, IfOk, OnErr, append_assoc, get_or}
use Rattle.std.proofs.lemmas.List.{get_or_at, length-append, append-nil}
use Rattle.schedules.specs.Families.{Spots, spot, with_spot, from_each, of_spots, of_at_most, family, IsSchedule}
use Rattle.schedules.proofs.FamilyLemmas.{schedule_of}
use Rattle.schedules.specs.Walks.{IsAmong, Goes, put_before, all_at, next_of_ticks, or_one_more, next_schedule, Comes}

-- ---- the schedules without loose events

-- p before each of those that f has from p on.
abbrev before_each : (ℕ → ℕ → List Spots) → ℕ → ℕ → List Spots
before_each f p places = map (λ ps. p ∷ ps) (f p places)

-- The schedules of k ticks at this many places from p on.
abbrev pub of_ticks : ℕ → ℕ → ℕ → List Spots
of_ticks zero p places = [] ∷ []
of_ticks (suc k) p places = from_each (before_each (of_ticks k)) p places

-- Those of at most k ticks.
pub by_ticks : ℕ → ℕ → List Spots
by_ticks upto zero = of_ticks zero 0 upto
by_ticks upto (suc k) = by_ticks upto k ++ of_ticks (suc k) 0 upto

same_each : (f g : ℕ → ℕ → List Spots) → ((q more : ℕ) → f q more ≡ g q more) → (p places : ℕ) → from_each f p places ≡ from_each g p places
same_each f g h p zero = refl
same_each f g h p (suc more) = rw (h p (suc more), same_each f g h (p + 1) more) refl

-- A spot is a place then.
only_places : (n q more : ℕ) (xs : List Spots) → of_spots 0 n [] q more ≡ xs → with_spot (spot 0 q 0) (of_spots 0 n [] q more) ++ [] ≡ map (λ ps. q ∷ ps) xs
only_places n q more xs e =
    let place : spot 0 q 0 ≡ q = omega arith in
    append-nil (with_spot (spot 0 q 0) (of_spots 0 n [] q more)) ∙ ap (λ r. with_spot r (of_spots 0 n [] q more)) place ∙ ap (with_spot q) e

only_ticks : (n p places : ℕ) → of_spots 0 n [] p places ≡ of_ticks n p places
only_ticks zero p places = refl
only_ticks (suc n) p places =
    same_each (λ q more. with_spot (spot 0 q 0) (of_spots 0 n [] q more) ++ []) (before_each (of_ticks n)) (λ q more. only_places n q more (of_ticks n q more) (only_ticks n q more)) p places

at_most_ticks : (n upto : ℕ) → of_at_most 0 n [] 0 upto ≡ by_ticks upto n
unfolding of_at_most by_ticks
at_most_ticks zero upto = refl
at_most_ticks (suc n) upto = rw (at_most_ticks n upto, only_ticks (suc n) 0 upto) refl

pub without_loose : (upto ticks : ℕ) → family upto ticks 0 ≡ by_ticks upto ticks
without_loose upto ticks = let all : ticks + 0 ≡ ticks = omega arith in ap (λ n. of_at_most 0 n [] 0 upto) all ∙ at_most_ticks ticks upto

-- ---- from each to the next

-- From a the list leads to b, each by f of the one before.
abbrev pub Leads : (Spots → Option Spots) → Option Spots → List Spots → Option Spots → Type 0
Leads f a [] b = a ≡ b
Leads f a (x ∷ xs) b = (a ≡ Some x) × Leads f (f x) xs b

-- All have k ticks.
abbrev pub HaveTicks : ℕ → List Spots → Type 0
HaveTicks k [] = Unit {0}
HaveTicks k (x ∷ xs) = (length x ≡ k) × HaveTicks k xs

leads_from : (f : Spots → Option Spots) (a b : Option Spots) (xs : List Spots) (c : Option Spots) → a ≡ b → Leads f b xs c → Leads f a xs c
leads_from f a b xs c e l = rw e l

leads_append : (f : Spots → Option Spots) (a b c : Option Spots) (xs ys : List Spots) → Leads f a xs b → Leads f b ys c → Leads f a (xs ++ ys) c
leads_append f a b c [] ys l m = rw l m
leads_append f a b c (x ∷ xs) ys l m = (l.0, leads_append f (f x) b c xs ys l.1 m)

ticks_append : (k : ℕ) (xs ys : List Spots) → HaveTicks k xs → HaveTicks k ys → HaveTicks k (xs ++ ys)
ticks_append k [] ys h i = i
ticks_append k (x ∷ xs) ys h i = (h.0, ticks_append k xs ys h.1 i)

ticks_before : (k p : ℕ) (xs : List Spots) → HaveTicks k xs → HaveTicks (suc k) (map (λ ps. p ∷ ps) xs)
ticks_before k p [] h = tt
ticks_before k p (x ∷ xs) h = (ap suc h.0, ticks_before k p xs h.1)

ticks_each : (k : ℕ) (f : ℕ → ℕ → List Spots) → ((p places : ℕ) → HaveTicks k (f p places)) → (p places : ℕ) → HaveTicks (suc k) (from_each (before_each f) p places)
ticks_each k f h p zero = tt
ticks_each k f h p (suc more) = ticks_append (suc k) (map (λ ps. p ∷ ps) (f p (suc more))) (from_each (before_each f) (p + 1) more) (ticks_before k p (f p (suc more)) (h p (suc more))) (ticks_each k f h (p + 1) more)

pub ticks_level : (k p places : ℕ) → HaveTicks k (of_ticks k p places)
ticks_level zero p places = (refl, tt)
ticks_level (suc k) p places = ticks_each k (of_ticks k) (ticks_level k) p places

-- With a place before each.
leads_before : (upto k p : ℕ) (a : Option Spots) (xs : List Spots) → HaveTicks k xs → Leads (next_of_ticks upto) a xs None
    → Leads (next_of_ticks upto) (put_before p (all_at upto (suc k) (p + 1)) a) (map (λ ps. p ∷ ps) xs) (all_at upto (suc k) (p + 1))
leads_before upto k p a [] h l = rw l refl
leads_before upto k p a (x ∷ xs) h l = (
  rw l.0 refl,
  leads_from (next_of_ticks upto) (next_of_ticks upto (p ∷ x)) (put_before p (all_at upto (suc k) (p + 1)) (next_of_ticks upto x)) (map (λ ps. p ∷ ps) xs) (all_at upto (suc k) (p + 1))
      (ap (λ n. put_before p (all_at upto (suc n) (p + 1)) (next_of_ticks upto x)) h.0)
      (leads_before upto k p (next_of_ticks upto x) xs h.1 l.1),
)

-- The first schedule of k ticks from p on.
abbrev starts : ℕ → ℕ → ℕ → Option Spots
starts upto zero p = Some []
starts upto (suc k) p = all_at upto (suc k) p

all_there : (upto k p : ℕ) → p < upto → all_at upto k p ≡ Some (replicate k p)
all_there upto k p l = grind arith

none_there : (upto k p : ℕ) → upto ≤ p → all_at upto k p ≡ None
none_there upto k p l = grind arith

starts_there : (upto k p : ℕ) → p < upto → starts upto k p ≡ Some (replicate k p)
starts_there upto zero p l = refl
starts_there upto (suc k) p l = all_there upto (suc k) p l

starts_before : (upto k p : ℕ) (o : Option Spots) → p < upto → all_at upto (suc k) p ≡ put_before p o (starts upto k p)
starts_before upto k p o l = all_there upto (suc k) p l ∙ ap (put_before p o) (sym (starts_there upto k p l))

leads_each : (upto k : ℕ) → ((p places : ℕ) → p + places ≡ upto → Leads (next_of_ticks upto) (starts upto k p) (of_ticks k p places) None)
    → (p places : ℕ) → p + places ≡ upto → Leads (next_of_ticks upto) (all_at upto (suc k) p) (from_each (before_each (of_ticks k)) p places) None
leads_each upto k h p zero e = none_there upto (suc k) p (omega (arith, e))
leads_each upto k h p (suc more) e =
    leads_append (next_of_ticks upto) (all_at upto (suc k) p) (all_at upto (suc k) (p + 1)) None (map (λ ps. p ∷ ps) (of_ticks k p (suc more))) (from_each (before_each (of_ticks k)) (p + 1) more)
    (leads_from (next_of_ticks upto) (all_at upto (suc k) p) (put_before p (all_at upto (suc k) (p + 1)) (starts upto k p)) (map (λ ps. p ∷ ps) (of_ticks k p (suc more))) (all_at upto (suc k) (p + 1))
    (starts_before upto k p (all_at upto (suc k) (p + 1)) (omega (arith, e)))
    (leads_before upto k p (starts upto k p) (of_ticks k p (suc more)) (ticks_level k p (suc more)) (h p (suc more) e)))
    (leads_each upto k h (p + 1) more (omega (arith, e)))

leads_level : (upto k p places : ℕ) → p + places ≡ upto → Leads (next_of_ticks upto) (starts upto k p) (of_ticks k p places) None
leads_level upto zero p places e = (refl, refl)
leads_level upto (suc k) p places e = leads_each upto k (leads_level upto k) p places e

-- Within the family.
leads_more : (upto ticks k : ℕ) (a : Option Spots) (xs : List Spots) → HaveTicks k xs → Leads (next_of_ticks upto) a xs None
    → Leads (next_schedule upto ticks) (or_one_more upto ticks k a) xs (or_one_more upto ticks k None)
leads_more upto ticks k a [] h l = rw l refl
leads_more upto ticks k a (x ∷ xs) h l = (
  rw l.0 refl,
  leads_from (next_schedule upto ticks) (next_schedule upto ticks x) (or_one_more upto ticks k (next_of_ticks upto x)) xs (or_one_more upto ticks k None)
      (ap (λ n. or_one_more upto ticks n (next_of_ticks upto x)) h.0)
      (leads_more upto ticks k (next_of_ticks upto x) xs h.1 l.1),
)

goes_on : (upto ticks k : ℕ) → k < ticks → or_one_more upto ticks k None ≡ or_one_more upto ticks (suc k) (all_at upto (suc k) 0)
goes_on upto ticks k l =
    let here : or_one_more upto ticks k None ≡ all_at upto (k + 1) 0 = grind arith in
    let one : all_at upto (k + 1) 0 ≡ all_at upto (suc k) 0 = let n : k + 1 ≡ suc k = omega arith in ap (λ n. all_at upto n 0) n in
    here ∙ one ∙ first upto
  where
    first : (n : ℕ) → all_at n (suc k) 0 ≡ or_one_more n ticks (suc k) (all_at n (suc k) 0)
    first zero = grind arith
    first (suc n) = rw (all_there (suc n) (suc k) 0 (omega arith)) refl

leads_family : (upto ticks k : ℕ) → k ≤ ticks → Leads (next_schedule upto ticks) (Some []) (by_ticks upto k) (or_one_more upto ticks k None)
unfolding by_ticks
leads_family upto ticks zero l = leads_more upto ticks 0 (Some []) ([] ∷ []) (refl, tt) (refl, refl)
leads_family upto ticks (suc k) l =
    leads_append (next_schedule upto ticks) (Some []) (or_one_more upto ticks k None) (or_one_more upto ticks (suc k) None) (by_ticks upto k) (of_ticks (suc k) 0 upto)
    (leads_family upto ticks k (omega arith))
    (leads_from (next_schedule upto ticks) (or_one_more upto ticks k None) (or_one_more upto ticks (suc k) (all_at upto (suc k) 0)) (of_ticks (suc k) 0 upto) (or_one_more upto ticks (suc k) None)
    (goes_on upto ticks k (omega arith))
    (leads_more upto ticks (suc k) (all_at upto (suc k) 0) (of_ticks (suc k) 0 upto) (ticks_level (suc k) 0 upto) (leads_level upto (suc k) 0 upto (omega arith))))

over : (upto ticks : ℕ) → or_one_more upto ticks ticks None ≡ None
over upto ticks = grind arith

-- ---- the results of a walk

leads_behind : (f : Spots → Option Spots) (a : Option Spots) (done : List Spots) (s : Spots) (late : List Spots) (b : Option Spots)
    → Leads f a (done ++ s ∷ late) b → Leads f (f s) late b
leads_behind f a [] s late b l = l.1
leads_behind f a (x ∷ done) s late b l = leads_behind f (f x) done s late b l.1

pub behind : (upto ticks : ℕ) (done : List Spots) (s : Spots) (late : List Spots) → family upto ticks 0 ≡ done ++ s ∷ late
    → Leads (next_schedule upto ticks) (next_schedule upto ticks s) late None
behind upto ticks done s late e =
    let whole = leads_family upto ticks ticks (omega arith) in
    let l = rw (sym (without_loose upto ticks) ∙ e, over upto ticks) at whole in
    leads_behind (next_schedule upto ticks) (Some []) done s late None l

pub comes : (upto ticks : ℕ) (done : List Spots) (s : Spots) (late : List Spots) (new : Spots) → family upto ticks 0 ≡ done ++ s ∷ late
    → next_schedule upto ticks s ≡ Some new → Comes true new late
comes upto ticks done s [] new e n =
    let l = behind upto ticks done s [] e in
    let none : Some new ≡ None = sym n ∙ l in grind (arith, none)
comes upto ticks done s (y ∷ rest) new e n =
    let l = behind upto ticks done s (y ∷ rest) e in
    let some : Some y ≡ Some new = sym l.0 ∙ n in
    let same : y ≡ new = grind (arith, some) in
    (rest, ap (λ x. x ∷ rest) same)

pub ends : (upto ticks : ℕ) (done : List Spots) (s : Spots) (late : List Spots) → family upto ticks 0 ≡ done ++ s ∷ late
    → next_schedule upto ticks s ≡ None → late ≡ []
ends upto ticks done s [] e n = refl
ends upto ticks done s (y ∷ rest) e n =
    let l = behind upto ticks done s (y ∷ rest) e in
    let none : Some y ≡ None = sym l.0 ∙ n in grind (arith, none)

-- One schedule is done, and the next one follows.
pub walked_on : (all done late : List Spots) (s new : Spots) → all ≡ done ++ s ∷ late → Comes true new late → (rest : List Spots) × (all ≡ (done ++ s ∷ []) ++ new ∷ rest)
walked_on all done late s new e c = (c.0, e ∙ ap (λ xs. done ++ s ∷ xs) c.1 ∙ sym (append_assoc done (s ∷ []) (new ∷ c.0)))

-- The first schedule has no ticks.
ticks_begin : (upto k : ℕ) → (rest : List Spots) × (by_ticks upto k ≡ [] ∷ rest)
unfolding by_ticks
ticks_begin upto zero = ([], refl)
ticks_begin upto (suc k) = let b = ticks_begin upto k in (b.0 ++ of_ticks (suc k) 0 upto, ap (λ xs. xs ++ of_ticks (suc k) 0 upto) b.1)

pub begins : (upto k : ℕ) → (rest : List Spots) × (family upto k 0 ≡ [] ∷ rest)
begins upto k = let b = ticks_begin upto k in (b.0, without_loose upto k ∙ b.1)

pub first_among : (upto k : ℕ) → IsAmong (family upto k 0) []
first_among upto k = let b = begins upto k in record { done = []; late = b.0; whole = b.1 }

pub next_among : (upto ticks : ℕ) (s new : Spots) → IsAmong (family upto ticks 0) s → next_schedule upto ticks s ≡ Some new → IsAmong (family upto ticks 0) new
next_among upto ticks s new a n =
    let c = comes upto ticks a.done s a.late new a.whole n in
    let whole = walked_on (family upto ticks 0) a.done a.late s new a.whole c in
    record { done = a.done ++ s ∷ []; late = whole.0; whole = whole.1 }

-- By the result of the step. If memory runs out, all stays unchanged.
pub gone : {E : Type 0} (upto ticks : ℕ) (result : Result Bool E) (old new : Spots) → IfOk result (λ is_more. Goes is_more upto ticks old new)
    → (done late : List Spots) → family upto ticks 0 ≡ done ++ old ∷ late → IfOk result (λ is_more. Comes is_more new late)
gone upto ticks (Ok true) old new g done late e = comes upto ticks done old late new e g.0
gone upto ticks (Ok false) old new g done late e = ends upto ticks done old late e g.0
gone upto ticks (Err error) old new g done late e = tt

-- A schedule, with those before and after it, is in the family.
pub gone_among : {E : Type 0} (upto ticks : ℕ) (result : Result Bool E) (old new : Spots) → IfOk result (λ is_more. Goes is_more upto ticks old new)
    → OnErr result (new ≡ old) → IsAmong (family upto ticks 0) old → IsAmong (family upto ticks 0) new
gone_among upto ticks (Ok true) old new g same a = next_among upto ticks old new a g.0
gone_among upto ticks (Ok false) old new g same a = rw g.1 a
gone_among upto ticks (Err error) old new g same a = rw same a

pub gone_within : {E : Type 0} (upto ticks : ℕ) (result : Result Bool E) (old new : Spots) → IfOk result (λ is_more. Goes is_more upto ticks old new)
    → OnErr result (new ≡ old) → length old ≤ ticks → length new ≤ ticks
gone_within upto ticks (Ok true) old new g same l = g.1
gone_within upto ticks (Ok false) old new g same l = rw g.1 l
gone_within upto ticks (Err error) old new g same l = rw same l

-- ---- each step of a walk finds a schedule

pub schedule_of_walk : (upto ticks : ℕ) (s : Spots) → IsAmong (family upto ticks 0) s → IsSchedule upto ticks 0 s
schedule_of_walk upto ticks s a =
    let here : get_or (a.done ++ s ∷ a.late) (length a.done) s ≡ s = get_or_at a.done s a.late s (length a.done) refl in
    let within : length a.done < length (a.done ++ s ∷ a.late) = omega (arith, length-append a.done (s ∷ a.late)) in
    schedule_of upto ticks 0 s (rw a.whole (length a.done, within, here))
