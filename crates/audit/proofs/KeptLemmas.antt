-- What is kept of each number, as it is born, as its parent is another and as its children are given on.
use Rattle.std.proofs.Common.{◌≡◌, inl, inr, ℕ, Bool, true, false, if◌then◌else◌, refl, ap, sym, ◌∙◌, List, [], ◌==◌, Option, Some, None, option_map, is_some}
use Rattle.std.proofs.lemmas.Bool.{cases_eq, eq-eqb, ne_eqb}
use Rattle.std.specs.Option.{option_map_or}
use Rattle.posix.proofs.ResultLemmas.{some_mapped}
use Rattle.laws.specs.Keeping.{Kept, NeverBorn, Lives, lives_now, kept_of, moved_from, given_on, newborn, ended_with}
use Rattle.laws.specs.Lives.{newest_life, parents_from}
use Rattle.audit.specs.declared.records.Record.{Record}
use Rattle.audit.specs.declared.records.State.{State}
use Rattle.audit.specs.declared.records.State.TheVariants.{Living, Ended}
use Rattle.audit.specs.declared.records.Change.{Change}
use Rattle.audit.specs.declared.records.Change.TheVariants.{Marked}
use Rattle.audit.specs.declared.records.Change.TheVariants as change
use Rattle.audit.specs.Records.{newborn_state, after, kept_as, kept_record, kept_by, record_in, has_mark_now, IsAfter, NobodyMarked}
use Rattle.audit.specs.Children.{parent_in, first_of, state_in, AreSound, KeepLinks, IsGiven, AreGivenOn, IsBegun}
use Rattle.audit.proofs.ChildLemmas.{behind_first}

-- ---- by its parts

abbrev kept_parts : ℕ → Option State → Kept
kept_parts parent None = NeverBorn
kept_parts parent (Some s) = kept_as parent s

kept_is : (f : ℕ → Option Record) (c : ℕ) → kept_record (f c) ≡ kept_parts (parent_in f c) (state_in f c)
unfolding parent_in state_in
kept_is f c = by (f c)
  where
    by : (o : Option Record) → kept_record o ≡ kept_parts (option_map_or (λ (r : Record). r.parent) o 0) (option_map (λ (r : Record). r.state) o)
    by None = refl
    by (Some r) = refl

-- an existing process has a state
pub there_by_state : (f g : ℕ → Option Record) (i : ℕ) → state_in g i ≡ state_in f i → is_some (f i) ≡ true → is_some (g i) ≡ true
unfolding state_in
there_by_state f g i same there = sym (some_mapped (g i) (λ (r : Record). r.state)) ∙ ap is_some same ∙ some_mapped (f i) (λ (r : Record). r.state) ∙ there

-- who lives is there
pub there_by_life : (entries : List (ℕ × Record)) (p : ℕ) → lives_now (kept_by entries p) ≡ true → is_some (record_in entries p) ≡ true
unfolding kept_by
there_by_life entries p lives = by (record_in entries p) lives
  where
    by : (o : Option Record) → lives_now (kept_record o) ≡ true → is_some o ≡ true
    by None h = absurd (cc)
    by (Some r) h = refl

-- ---- children that are given on

pub given_kept : (p heir : ℕ) (old new : List (ℕ × Record)) → AreGivenOn p heir old new → (c : ℕ) → kept_by new c ≡ given_on p heir (kept_by old c)
unfolding kept_by
given_kept p heir old new h c =
    kept_is (record_in new) c ∙ rw (h.parent c, h.state c) (by (parent_in (record_in old) c) (state_in (record_in old) c)) ∙ ap (given_on p heir) (sym (kept_is (record_in old) c))
  where
    by : (n : ℕ) (o : Option State) → kept_parts (moved_from p heir n) o ≡ given_on p heir (kept_parts n o)
    by n None = refl
    by n (Some (Living life)) = refl
    by n (Some (Ended status reported)) = refl

-- ---- a life that begins

pub begun_apart : (p : ℕ) (old new : List (ℕ × Record)) → IsBegun p old new → parent_in (record_in new) p ≡ 0
begun_apart p old new h = h.parent p ∙ rw (eq-eqb p p refl) refl

pub begun_there : (p : ℕ) (old new : List (ℕ × Record)) → IsBegun p old new → is_some (record_in new p) ≡ true
unfolding state_in
begun_there p old new h =
    let state : state_in (record_in new) p ≡ Some newborn_state = h.state p ∙ rw (eq-eqb p p refl) refl in
    sym (some_mapped (record_in new p) (λ (r : Record). r.state)) ∙ ap is_some state

pub begun_others : (p q : ℕ) (old new : List (ℕ × Record)) → IsBegun p old new → is_some (record_in old q) ≡ true → is_some (record_in new q) ≡ true
unfolding state_in
begun_others p q old new h there = elim (cases_eq q p) [
  | inl same ↦ rw same (begun_there p old new h)
  | inr apart ↦ there_by_state (record_in old) (record_in new) q (h.state q ∙ rw (ne_eqb q p apart) refl) there
]

pub born_kept : (p parent : ℕ) (old mid new : List (ℕ × Record)) → IsBegun p old mid → IsGiven p parent mid new
    → (c : ℕ) → kept_by new c ≡ (if p == c then newborn parent else kept_by old c)
unfolding kept_by
born_kept p parent old mid new b h c =
    kept_is (record_in new) c ∙ rw (h.parent c, b.parent c, h.state c, b.state c) elim (cases_eq c p) [
      | inl same ↦ rw (eq-eqb c p same, eq-eqb p c (sym same)) refl
      | inr apart ↦ rw (ne_eqb c p apart, ne_eqb p c (λ e. apart (sym e))) (sym (kept_is (record_in old) c))
    ]

-- the first life of process 1 is what no lines say
pub first_kept : (old new : List (ℕ × Record)) → old ≡ [] → IsBegun 1 old new → (c : ℕ) → kept_by new c ≡ kept_of [] c
unfolding kept_by parent_in state_in kept_of newest_life parents_from
first_kept old new none b c =
    kept_is (record_in new) c ∙ rw (b.parent c, b.state c, none) elim (cases_eq c 1) [
      | inl same ↦ rw (eq-eqb c 1 same) refl
      | inr apart ↦ rw (ne_eqb c 1 apart) refl
    ]

pub first_unmarked : (c : ℕ) → has_mark_now (kept_of [] c) ≡ false
unfolding kept_of newest_life
first_unmarked c = elim (cases_eq c 1) [
  | inl same ↦ rw (eq-eqb c 1 same) refl
  | inr apart ↦ rw (ne_eqb c 1 apart) refl
]

-- ---- marks

pub unmarked_after : (p : ℕ) (x : Kept → Kept) (old new : ℕ → Kept) → ((k : Kept) → has_mark_now k ≡ false → has_mark_now (x k) ≡ false) → ((c : ℕ) → new c ≡ (if p == c then x (old c) else old c)) → NobodyMarked old → NobodyMarked new
unmarked_after p x old new keeps is none c = ap has_mark_now (is c) ∙ by (p == c)
  where
    by : (b : Bool) → has_mark_now (if b then x (old c) else old c) ≡ false
    by true = keeps (old c) (none c)
    by false = none c

-- no change but that of a mark sets one
pub change_keeps : (x : Change) (k : Kept) → ((mark : Bool) → x ≡ Marked mark → ⊥) → has_mark_now k ≡ false → has_mark_now (after x k) ≡ false
change_keeps (Marked mark) (Lives a) other h = absurd (other mark refl)
change_keeps (change.Ended w) (Lives a) other h = refl
change_keeps x (Lives a) other h = h
change_keeps x k other h = refl

pub end_keeps : (w p heir : ℕ) (b : Bool) (k : Kept) → has_mark_now k ≡ false → has_mark_now (if b then ended_with w (given_on p heir k) else given_on p heir k) ≡ false
end_keeps w p heir true NeverBorn h = refl
end_keeps w p heir false (Lives a) h = h
end_keeps w p heir b k h = refl

-- ---- an end

pub end_kept : (p heir w : ℕ) (old mid new : List (ℕ × Record)) → IsAfter (change.Ended w) p old mid → AreGivenOn p heir mid new
    → (c : ℕ) → kept_by new c ≡ (if p == c then ended_with w (given_on p heir (kept_by old c)) else given_on p heir (kept_by old c))
end_kept p heir w old mid new told h c = given_kept p heir mid new h c ∙ ap (given_on p heir) (told c) ∙ by (p == c) (kept_by old c)
  where
    by : (b : Bool) (k : Kept) → given_on p heir (if b then ended_with w k else k) ≡ (if b then ended_with w (given_on p heir k) else given_on p heir k)
    by true NeverBorn = refl
    by b k = refl

pub sound_end : (p heir w : ℕ) (may : Bool) (old mid new : List (ℕ × Record)) → IsAfter (change.Ended w) p old mid → AreGivenOn p heir mid new → AreSound may old → AreSound may new
sound_end p heir w may old mid new told h sound = (h.linked, λ none c. ap has_mark_now (end_kept p heir w old mid new told h c) ∙ end_keeps w p heir (p == c) (kept_by old c) (sound.1 none c))

pub first_still : (p : ℕ) (r : Record) (f g : ℕ → Option Record) → f p ≡ Some r → KeepLinks f g → r.first ≡ first_of g p
first_still p r f g found k = (rw found refl) ∙ sym (behind_first f p) ∙ sym (k.behind p 0) ∙ behind_first g p

-- ---- a birth

pub sound_birth : (p parent : ℕ) (may : Bool) (old mid new : List (ℕ × Record)) → IsBegun p old mid → IsGiven p parent mid new → AreSound may old → AreSound may new
sound_birth p parent may old mid new b h sound = (h.linked, λ none c. ap has_mark_now (born_kept p parent old mid new b h c) ∙ by (p == c) (kept_by old c) (sound.1 none c))
  where
    by : (b : Bool) (k : Kept) → has_mark_now k ≡ false → has_mark_now (if b then newborn parent else k) ≡ false
    by true k h = refl
    by false k h = h

-- where no record is of p, it was never born
pub unborn_there : (p : ℕ) (now old : List (ℕ × Record)) → old ≡ now → record_in old p ≡ None → kept_by now p ≡ NeverBorn
unfolding kept_by
unborn_there p now old same none = ap kept_record (ap (λ es. record_in es p) (sym same) ∙ none)
