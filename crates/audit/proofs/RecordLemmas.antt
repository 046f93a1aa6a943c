-- What records keep when one of them changes.
use Rattle.std.proofs.Common.{◌≡◌, ℕ, true, false, cond, ◌==◌, List, Some, None, refl, ap, sym, ◌∙◌, inl, inr}
use Rattle.std.proofs.lemmas.Bool.{cases_eq, eq-eqb, ne_eqb}
use Rattle.laws.specs.Keeping.{NeverBorn, lives_now}
use Rattle.audit.specs.declared.records.Record.{Record}
use Rattle.audit.specs.declared.records.State.{State}
use Rattle.audit.specs.declared.records.Change.{Change}
use Rattle.audit.specs.declared.records.Change.TheVariants.{Stopped}
use Rattle.audit.specs.Records.{after, kept_as, kept_record, kept_by, record_in, changed, IsAfter, Become}
use Rattle.audit.specs.Children.{in_state}
use Rattle.std.specs.Map.{keys_of}

-- ---- one record is written

pub written : (p n : ℕ) (f : Record → Record) (old new : List (ℕ × Record)) (r : Record) → n ≡ p → record_in old n ≡ Some r
    → ((q : ℕ) → record_in new q ≡ cond (n == q) (Some (f r)) (record_in old q)) → keys_of new ≡ keys_of old → Become (changed p f) old new
written p n f old new r same found is keys = record {
  is = λ q. is q ∙ elim (cases_eq n q) [
    | inl here ↦ rw (eq-eqb n q here, eq-eqb p q (sym same ∙ here), ap (record_in old) (sym here) ∙ found) refl
    | inr apart ↦ rw (ne_eqb n q apart, ne_eqb p q (λ k. apart (same ∙ k))) refl
  ];
  keys = keys;
}

pub unwritten : (p n : ℕ) (f : Record → Record) (old new : List (ℕ × Record)) → n ≡ p → record_in old n ≡ None → new ≡ old → Become (changed p f) old new
unwritten p n f old new same none is = record {
  is = λ q. ap (λ es. record_in es q) is ∙ elim (cases_eq n q) [
    | inl here ↦ rw (eq-eqb p q (sym same ∙ here), ap (record_in old) (sym here) ∙ none) refl
    | inr apart ↦ rw (ne_eqb p q (λ k. apart (same ∙ k))) refl
  ];
  keys = ap keys_of is;
}

-- ---- a state of a life

pub life_changed : (x : Change) (p : ℕ) (s : State) (old new : List (ℕ × Record)) (r : Record) → record_in old p ≡ Some r → Become (changed p (in_state s)) old new → ((n : ℕ) → kept_as n s ≡ after x (kept_as n r.state)) → IsAfter x p old new
unfolding kept_by
life_changed x p s old new r found h told c = ap kept_record (h.is c) ∙ elim (cases_eq p c) [
  | inl here ↦ rw (eq-eqb p c here, ap (record_in old) (sym here) ∙ found) (told r.parent)
  | inr apart ↦ rw (ne_eqb p c apart) refl
]

-- who was never born stays so
never_after : (x : Change) → after x NeverBorn ≡ NeverBorn
never_after (Stopped s) = refl
never_after x = refl

pub unborn_changed : (x : Change) (p : ℕ) (old : List (ℕ × Record)) → record_in old p ≡ None → IsAfter x p old old
unfolding kept_by
unborn_changed x p old none c = elim (cases_eq p c) [
  | inl same ↦ let is : record_in old c ≡ None = ap (record_in old) (sym same) ∙ none in rw (is, eq-eqb p c same, never_after x) refl
  | inr apart ↦ rw (ne_eqb p c apart) refl
]

-- who lives has a record
pub not_living : (p : ℕ) (entries : List (ℕ × Record)) → lives_now (kept_by entries p) ≡ true → record_in entries p ≡ None → ⊥
unfolding kept_by
not_living p entries lives none = let no : false ≡ true = ap (λ o. lives_now (kept_record o)) (sym none) ∙ lives in cc
