-- Slots of beginnings: one is set, added or removed, and beginnings with equally many spots are joined.
use Rattle.std.proofs.Common.{◌≡◌, ◌≢◌, ℕ, zero, suc, ◌+◌, ◌-◌, ◌<◌, ◌≤◌, true, false, cond, inl, inr, ◌⊎◌, List, [], ◌∷◌, ◌++◌, length, map, Option, Some, None, refl, ap, ap₂, sym, subst, ◌∙◌, add-one, arith, get_or, slice_get, set}
use Rattle.std.specs.Prelude.{IfSome, IsNone, IsSome}
use Rattle.std.proofs.lemmas.List.{set-get_or}
use Rattle.std.proofs.lemmas.Option.{get_or_from_slice_get, same_Some, slice_get_read, slice_get_within}
use Rattle.posix.specs.declared.event.Event.{Event}
use Rattle.schedules.specs.Families.{Spots}
use Rattle.counting.specs.Tallies.{TallyView, both, is_before, no_schedules}
use Rattle.merging.specs.declared.begun.Begun.{Begun}
use Rattle.merging.specs.declared.search.Search.{Search}
use Rattle.merging.specs.Merging.{AllBegun, AreBegun, HasSome, Outlook, Point, begun_tally, behind, slot_tally, slots_tally}
use Rattle.merging.specs.Slots.{AreInSlots, given_slot}
use Rattle.merging.proofs.IndexLemmas.{push_cases, put_cases, put_there, still_there}
use Rattle.merging.proofs.TallyLemmas.{and_none, behind_meets, both_regrouped, both_swapped, swapped_last}

-- ---- beginnings with equally many spots

-- The spots of the one of the two that comes first.
joined_before : (c d : ℕ) (q r : Spots) (t : TallyView) → length q ≡ length r → is_before r q ≡ true → behind (c + d) r t ≡ both (behind c q t) (behind d r t)
joined_before c d q r t l first = ap (λ b. behind (c + d) (cond b r q) t) (sym first) ∙ sym (behind_meets c d q r t l)

joined_behind : (c d : ℕ) (q r : Spots) (t : TallyView) → length q ≡ length r → is_before r q ≡ false → behind (c + d) q t ≡ both (behind c q t) (behind d r t)
joined_behind c d q r t l first = ap (λ b. behind (c + d) (cond b r q) t) (sym first) ∙ sym (behind_meets c d q r t l)

-- The one of the two that comes first.
abbrev pub IsFirstOf : Begun → Begun → Begun → Type 0
IsFirstOf old other mid =
    ((mid ≡ other) × (is_before other.spots old.spots ≡ true)) ⊎ ((mid ≡ old) × (is_before other.spots old.spots ≡ false))

abbrev with_count : ℕ → Begun → Begun
with_count n b = record b { count = n }

pub joined_tally : (old other mid : Begun) (n : ℕ) → length old.spots ≡ length other.spots → IsFirstOf old other mid → n ≡ old.count + other.count → (go_on : Outlook) (most : ℕ) (p : Point)
    → begun_tally go_on most p (with_count n mid) ≡ both (begun_tally go_on most p old) (begun_tally go_on most p other)
joined_tally old other mid n l (inl (same, first)) sum go_on most p =
    let goes = λ (k : ℕ). go_on (most - k) p.left p.state p.marks in
    ap₂ (λ (k : ℕ) (b : Begun). begun_tally go_on most p (with_count k b)) sum same
    ∙ joined_before old.count other.count old.spots other.spots (goes (length other.spots)) l first
    ∙ ap (λ k. both (behind old.count old.spots (goes k)) (begun_tally go_on most p other)) (sym l)
joined_tally old other mid n l (inr (same, first)) sum go_on most p =
    let goes = λ (k : ℕ). go_on (most - k) p.left p.state p.marks in
    ap₂ (λ (k : ℕ) (b : Begun). begun_tally go_on most p (with_count k b)) sum same
    ∙ joined_behind old.count other.count old.spots other.spots (goes (length old.spots)) l first
    ∙ ap (λ k. both (begun_tally go_on most p old) (behind other.count other.spots (goes k))) l

pub joined_spots : (old other mid : Begun) → length old.spots ≡ length other.spots → IsFirstOf old other mid → length mid.spots ≡ length old.spots
joined_spots old other mid l (inl (same, first)) = ap (λ (b : Begun). length b.spots) same ∙ sym l
joined_spots old other mid l (inr (same, first)) = ap (λ (b : Begun). length b.spots) same

-- With a larger count.
counted_begun : (s : Search) (place count : ℕ) (p : Point) (b : Begun) → 1 ≤ count → AreBegun s place p b → AreBegun s place p (with_count count b)
counted_begun s place count p b some is = record { reached = is.reached; given = is.given; few = is.few; some = some }

pub joined_begun : (old other mid : Begun) (n : ℕ) → IsFirstOf old other mid → n ≡ old.count + other.count → (s : Search) (place : ℕ) (p : Point) → AreBegun s place p old → AreBegun s place p other
    → AreBegun s place p (with_count n mid)
joined_begun old other mid n which sum s place p is too =
    let some = is.some in
    counted_begun s place n p mid (omega (arith, sum, some)) (by which)
  where
    by : IsFirstOf old other mid → AreBegun s place p mid
    by (inl (same, first)) = subst (AreBegun s place p) (sym same) too
    by (inr (same, first)) = subst (AreBegun s place p) (sym same) is

-- ---- what holds of the beginnings in each slot

-- It holds of the beginnings with each index.
abbrev pub EachSlot : (ℕ → Begun → Type 0) → List (Option Begun) → Type 0
EachSlot P bs = (k : ℕ) (b : Begun) → slice_get bs k ≡ Some (Some b) → P k b

-- One slot is set.
pub each_set : (P : ℕ → Begun → Type 0) (bs : List (Option Begun)) (i : ℕ) (o : Option Begun) → ((b : Begun) → o ≡ Some b → P i b)
    → ((k : ℕ) (b : Begun) → k ≢ i → slice_get bs k ≡ Some (Some b) → P k b) → EachSlot P (set bs i o)
each_set P bs i o here others k b e = by (put_cases bs i k o (Some b) e)
  where
    by : ((k ≡ i) × (o ≡ Some b)) ⊎ ((k ≡ i → ⊥) × (slice_get bs k ≡ Some (Some b))) → P k b
    by (inl (at, is)) = subst (λ j. P j b) (sym at) (here b is)
    by (inr (apart, was)) = others k b apart was

pub each_push : (P : ℕ → Begun → Type 0) (bs : List (Option Begun)) → EachSlot P bs → EachSlot P (bs ++ None ∷ [])
each_push P bs all k b e = by (push_cases bs k None (Some b) e)
  where
    by : ((k ≡ length bs) × (None ≡ Some b)) ⊎ (slice_get bs k ≡ Some (Some b)) → P k b
    by (inl (at, is)) = cc
    by (inr was) = all k b was

-- The slots before the last.
pub each_pop : (P : ℕ → Begun → Type 0) (bs : List (Option Begun)) (o : Option Begun) → EachSlot P (bs ++ o ∷ []) → EachSlot P bs
each_pop P bs o all k b e = all k b (still_there bs (o ∷ []) k (Some b) e)

pub if_some : {P : Begun → Type 0} (o : Option Begun) → ((b : Begun) → o ≡ Some b → P b) → IfSome o P
if_some None all = tt
if_some (Some b) all = all b refl

some_in : (P : Begun → Type 0) (o : Option Begun) (b : Begun) → IfSome o P → o ≡ Some b → P b
some_in P o b is e = subst (λ c. IfSome c P) e is

-- ---- slots that hold beginnings

pub some_put : (bs : List (Option Begun)) (i : ℕ) (o : Option Begun) → i < length bs → IsSome o → HasSome (set bs i o)
some_put bs i None l is = cc
some_put bs i (Some b) l is = (i, b, put_there bs i (Some b) l)

some_pop : (bs : List (Option Begun)) → HasSome (bs ++ None ∷ []) → HasSome bs
some_pop [] (zero, b, e) = cc
some_pop [] (suc k, b, e) = cc
some_pop (c ∷ bs) (zero, b, e) = (0, b, e)
some_pop (c ∷ bs) (suc k, b, e) = let rest = some_pop bs (k, b, e) in (suc rest.0, rest.1, rest.2)

-- An empty slot is removed.
pub some_left : {X : Type 0} (bs all : List (Option Begun)) → all ≡ bs ++ None ∷ [] → X ⊎ HasSome all → X ⊎ HasSome bs
some_left bs all is (inl x) = inl x
some_left bs all is (inr some) = inr (some_pop bs (subst HasSome is some))

-- A slot is set to what it is.
pub same_set : (bs : List (Option Begun)) (i : ℕ) (o : Option Begun) → slice_get bs i ≡ Some o → set bs i o ≡ bs
same_set bs i o at = ap (set bs i) (sym (get_or_from_slice_get bs i o o at)) ∙ set-get_or bs i o

pub none_there : (bs : List (Option Begun)) (i : ℕ) (o : Option Begun) → slice_get bs i ≡ Some o → IsNone o → set bs i None ≡ bs
none_there bs i None at none = same_set bs i None at
none_there bs i (Some b) at none = cc

-- ---- the tally of all slots

-- One slot is set, and other schedules make up the difference.
slots_set : (go_on : Outlook) (most : ℕ) (p : Point) (bs : List (Option Begun)) (i : ℕ) (old new : Option Begun) (x y : TallyView) → slice_get bs i ≡ Some old
    → both (slot_tally go_on most p new) x ≡ both (slot_tally go_on most p old) y → both (slots_tally go_on most p (set bs i new)) x ≡ both (slots_tally go_on most p bs) y
slots_set go_on most p [] i old new x y e same = cc
slots_set go_on most p (c ∷ bs) zero old new x y e same =
    let rest = slots_tally go_on most p bs in
    swapped_last (slot_tally go_on most p new) rest x
    ∙ ap (λ t. both t rest) same
    ∙ swapped_last (slot_tally go_on most p old) y rest
    ∙ ap (λ (o : Option Begun). both (both (slot_tally go_on most p o) rest) y) (sym (same_Some c old e))
slots_set go_on most p (c ∷ bs) (suc i) old new x y e same =
    let first = slot_tally go_on most p c in
    both_regrouped first (slots_tally go_on most p (set bs i new)) x
    ∙ ap (both first) (slots_set go_on most p bs i old new x y e same)
    ∙ sym (both_regrouped first (slots_tally go_on most p bs) y)

-- A slot has more beginnings.
pub slots_put : (go_on : Outlook) (most : ℕ) (p : Point) (bs : List (Option Begun)) (i : ℕ) (old new : Option Begun) (more : TallyView) → slice_get bs i ≡ Some old
    → slot_tally go_on most p new ≡ both (slot_tally go_on most p old) more → slots_tally go_on most p (set bs i new) ≡ both (slots_tally go_on most p bs) more
slots_put go_on most p bs i old new more e joined =
    sym (and_none (slots_tally go_on most p (set bs i new))) ∙ slots_set go_on most p bs i old new no_schedules more e (and_none (slot_tally go_on most p new) ∙ joined)

-- The beginnings of a slot are removed.
slots_emptied : (go_on : Outlook) (most : ℕ) (p : Point) (bs : List (Option Begun)) (i : ℕ) (b : Begun) → slice_get bs i ≡ Some (Some b)
    → slots_tally go_on most p bs ≡ both (slots_tally go_on most p (set bs i None)) (begun_tally go_on most p b)
slots_emptied go_on most p bs i b e =
    let here = begun_tally go_on most p b in
    sym (and_none (slots_tally go_on most p bs)) ∙ sym (slots_set go_on most p bs i (Some b) None here no_schedules e (both_swapped no_schedules here))

pub slots_push : (go_on : Outlook) (most : ℕ) (p : Point) (bs : List (Option Begun)) (o : Option Begun)
    → slots_tally go_on most p (bs ++ o ∷ []) ≡ both (slots_tally go_on most p bs) (slot_tally go_on most p o)
slots_push go_on most p [] o = both_swapped (slot_tally go_on most p o) no_schedules
slots_push go_on most p (c ∷ bs) o =
    ap (both (slot_tally go_on most p c)) (slots_push go_on most p bs o)
    ∙ sym (both_regrouped (slot_tally go_on most p c) (slots_tally go_on most p bs) (slot_tally go_on most p o))

-- The last slot of other beginnings is added.
pub popped_tally : (go_on : Outlook) (most : ℕ) (p : Point) (bs all : List (Option Begun)) (o : Option Begun) (x y : TallyView) → all ≡ bs ++ o ∷ [] → y ≡ both x (slot_tally go_on most p o)
    → both y (slots_tally go_on most p bs) ≡ both x (slots_tally go_on most p all)
popped_tally go_on most p bs all o x y is added =
    let rest = slots_tally go_on most p bs in
    let last = slot_tally go_on most p o in
    ap (λ t. both t rest) added
    ∙ both_regrouped x last rest
    ∙ ap (both x) (both_swapped last rest ∙ sym (slots_push go_on most p bs o) ∙ ap (slots_tally go_on most p) (sym is))

pub slot_spots : (bs : List (Option Begun)) (i : ℕ) (o : Option Begun) → AreInSlots bs → slice_get bs i ≡ Some o → IfSome o (λ b. length b.spots ≡ i)
slot_spots bs i o are at = if_some o (λ b e. are i b (at ∙ ap (λ (c : Option Begun). Some c) e))

-- ---- the beginnings of one slot are removed

pub taken_tally : (go_on : Outlook) (most : ℕ) (p : Point) (bs : List (Option Begun)) (i : ℕ) (o : Option Begun) → slice_get bs i ≡ Some o
    → IfSome o (λ b. slots_tally go_on most p bs ≡ both (slots_tally go_on most p (set bs i None)) (begun_tally go_on most p b))
taken_tally go_on most p bs i o at = if_some o (λ b e. slots_emptied go_on most p bs i b (at ∙ ap (λ (c : Option Begun). Some c) e))

-- The others have more spots.
pub taken_all : (s : Search) (place : ℕ) (p : Point) (bs : List (Option Begun)) (i : ℕ) (o : Option Begun) → AreInSlots bs → slice_get bs i ≡ Some o → AllBegun s place i p bs
    → AllBegun s place (i + 1) p (set bs i None) × IfSome o (AreBegun s place p)
taken_all s place p bs i o are at all = (
  each_set (λ k b. (i + 1 ≤ length b.spots) × AreBegun s place p b) bs i None (λ b no. cc)
      (λ k b not e. let it = all k b e in (let least = it.0 in omega (arith, least, are k b e, not), it.1)),
  if_some o (λ b e. (all i b (at ∙ ap (λ (c : Option Begun). Some c) e)).1),
)

-- No slot has this many spots or fewer.
pub none_taken : (s : Search) (place : ℕ) (p : Point) (bs : List (Option Begun)) (i : ℕ) → AreInSlots bs → length bs ≤ i → AllBegun s place i p bs → AllBegun s place (i + 1) p bs
none_taken s place p bs i are past all k b e =
    let it = all k b e in
    let least = it.0 in
    absurd (omega (arith, past, least, are k b e, slice_get_within bs k (Some b) e))

-- ---- beginnings are added to a slot

pub added_all : (s : Search) (place fewest : ℕ) (p : Point) (bs : List (Option Begun)) (i : ℕ) (o : Option Begun) → fewest ≤ i → IfSome o (λ b. length b.spots ≡ i) → IfSome o (AreBegun s place p)
    → AllBegun s place fewest p bs → AllBegun s place fewest p (set bs i o)
added_all s place fewest p bs i o few spots is all =
    each_set (λ k b. (fewest ≤ length b.spots) × AreBegun s place p b) bs i o
    (λ b e. (omega (arith, few, some_in (λ c. length c.spots ≡ i) o b spots e), some_in (AreBegun s place p) o b is e)) (λ k b not. all k b)

pub added_slots : (bs : List (Option Begun)) (i : ℕ) (o : Option Begun) → IfSome o (λ b. length b.spots ≡ i) → AreInSlots bs → AreInSlots (set bs i o)
added_slots bs i o spots are = each_set (λ k b. length b.spots ≡ k) bs i o (λ b. some_in (λ c. length c.spots ≡ i) o b spots) (λ k b not. are k b)

-- ---- one more event after the beginnings

-- It has run after those in the first n slots.
abbrev pub given_to : Event → ℕ → List (Option Begun) → List (Option Begun)
given_to x zero bs = bs
given_to x (suc n) [] = []
given_to x (suc n) (b ∷ bs) = given_slot x b ∷ given_to x n bs

length_given : (x : Event) (n : ℕ) (bs : List (Option Begun)) → length (given_to x n bs) ≡ length bs
length_given x zero bs = refl
length_given x (suc n) [] = refl
length_given x (suc n) (b ∷ bs) = ap suc (length_given x n bs)

given_was : (x : Event) (n : ℕ) (bs : List (Option Begun)) → slice_get (given_to x n bs) n ≡ slice_get bs n
given_was x zero bs = refl
given_was x (suc n) [] = refl
given_was x (suc n) (b ∷ bs) = given_was x n bs

-- The next slot, before and now.
pub given_next : (x : Event) (n : ℕ) (bs cs : List (Option Begun)) (o : Option Begun) → cs ≡ given_to x n bs → n < length bs → o ≡ get_or cs n o → (slice_get cs n ≡ Some o) × (slice_get bs n ≡ Some o)
given_next x n bs cs o is l read =
    let at = slice_get_read cs (length cs) n o refl (omega (arith, l, ap length is, length_given x n bs)) read in
    (at, sym (given_was x n bs) ∙ ap (λ ds. slice_get ds n) (sym is) ∙ at)

given_set : (x : Event) (n : ℕ) (bs : List (Option Begun)) (o : Option Begun) → slice_get bs n ≡ Some o → set (given_to x n bs) n (given_slot x o) ≡ given_to x (suc n) bs
given_set x n [] o e = cc
given_set x zero (b ∷ bs) o e = ap (λ (c : Option Begun). given_slot x c ∷ bs) (sym (same_Some b o e))
given_set x (suc n) (b ∷ bs) o e = ap (λ cs. given_slot x b ∷ cs) (given_set x n bs o e)

pub given_more : (x : Event) (n : ℕ) (bs cs : List (Option Begun)) (b c : Begun) → cs ≡ given_to x n bs → slice_get bs n ≡ Some (Some b) → c.count ≡ b.count → c.spots ≡ b.spots → c.given ≡ b.given ++ x ∷ []
    → set cs n (Some c) ≡ given_to x (n + 1) bs
given_more x n bs cs b c is at count spots given =
    ap₂ (λ (ds : List (Option Begun)) (d : Begun). set ds n (Some d)) is
    (ap₂ (λ (k : ℕ) (ps : Spots). record { count = k; spots = ps; given = c.given }) count spots ∙ ap (λ xs. record { count = b.count; spots = b.spots; given = xs }) given)
    ∙ given_set x n bs (Some b) at
    ∙ ap (λ k. given_to x k bs) (sym (add-one n))

pub given_none : (x : Event) (n : ℕ) (bs cs : List (Option Begun)) (o : Option Begun) → cs ≡ given_to x n bs → slice_get bs n ≡ Some o → o ≡ None → set cs n o ≡ given_to x (n + 1) bs
given_none x n bs cs o is at none =
    ap₂ (λ (ds : List (Option Begun)) (d : Option Begun). set ds n d) is none
    ∙ given_set x n bs None (at ∙ ap (λ (d : Option Begun). Some d) none)
    ∙ ap (λ k. given_to x k bs) (sym (add-one n))

pub given_all : (x : Event) (n : ℕ) (bs : List (Option Begun)) → length bs ≤ n → given_to x n bs ≡ map (given_slot x) bs
given_all x zero [] l = refl
given_all x zero (b ∷ bs) l = absurd (omega (arith, l))
given_all x (suc n) [] l = refl
given_all x (suc n) (b ∷ bs) l = ap (λ cs. given_slot x b ∷ cs) (given_all x n bs (omega (arith, l)))

-- The beginnings of a slot have as many spots as before.
pub still_in_slots : (bs : List (Option Begun)) (i : ℕ) (b c : Begun) → slice_get bs i ≡ Some (Some b) → c.spots ≡ b.spots → AreInSlots bs → AreInSlots (set bs i (Some c))
still_in_slots bs i b c at same are = added_slots bs i (Some c) (ap length same ∙ are i b at) are
