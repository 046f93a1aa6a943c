-- The members of a process group stay in one session.
use Rattle.std.proofs.Common.{◌≡◌, ◌≢◌, ℕ, refl, ap, sym, ◌∙◌, List, map, Some, inl, inr}
use Rattle.std.proofs.lemmas.Bool.{cases_eq}
use Rattle.posix.specs.Common.{Process, lookup, AreGrouped}
use Rattle.posix.proofs.MapLemmas.{lookup_back}

-- ---- groups and sessions that stay

-- who had the number p, and the group and session of t
pub record Was (rs : List Process) (p : ℕ) (t : Process) : Type 0 where
  pub what : Process
  pub found : lookup p rs ≡ Some what
  pub group : t.group ≡ what.group
  pub session : t.session ≡ what.session

-- members stay in one session where all who are found were there, in the same group and session
pub grouped_by : (rs ts : List Process) → ((p : ℕ) (t : Process) → lookup p ts ≡ Some t → Was rs p t) → AreGrouped rs → AreGrouped ts
grouped_by rs ts was h = record {
  one = λ p q r t e f same.
      let a = was p r e in
      let b = was q t f in
      a.session ∙ h.one p q a.what b.what a.found b.found (sym a.group ∙ same ∙ b.group) ∙ sym b.session;
  own = λ p q r t e f same.
      let a = was p r e in
      let b = was q t f in
      b.session ∙ h.own p q a.what b.what a.found b.found (sym b.group ∙ same) ∙ sym a.session;
}

-- where some of them are left, say
pub grouped_left : (rs ts : List Process) → ((p : ℕ) (t : Process) → lookup p ts ≡ Some t → lookup p rs ≡ Some t) → AreGrouped rs → AreGrouped ts
grouped_left rs ts was h = grouped_by rs ts (λ p t e. record { what = t; found = was p t e; group = refl; session = refl }) h

-- or where each record changes and keeps its number, group and session
pub grouped_map : (g : Process → Process) → ((r : Process) → (g r).pid ≡ r.pid) → ((r : Process) → (g r).group ≡ r.group) → ((r : Process) → (g r).session ≡ r.session)
    → (rs : List Process) → AreGrouped rs → AreGrouped (map g rs)
grouped_map g kp kg ks rs h = grouped_by rs (map g rs) (λ p t e.
    let b = lookup_back g kp p rs t e in
    record { what = b.what; found = b.found; group = ap (λ (r : Process). r.group) b.is ∙ kg b.what; session = ap (λ (r : Process). r.session) b.is ∙ ks b.what }) h

-- ---- one process that is new, or in another group

-- new, with the number p, is in one session with the others of its group, and with those of a group p; and a process
-- with the number of its group is in its session.
pub record FitsIn (rs : List Process) (p : ℕ) (new : Process) : Type 0 where
  pub one : (q : ℕ) (t : Process) → q ≢ p → lookup q rs ≡ Some t → t.group ≡ new.group → t.session ≡ new.session
  pub own : (q : ℕ) (t : Process) → q ≢ p → lookup q rs ≡ Some t → t.group ≡ p → t.session ≡ new.session
  pub leader : (q : ℕ) (t : Process) → q ≢ p → lookup q rs ≡ Some t → new.group ≡ q → new.session ≡ t.session

-- members stay in one session where such a one is found, and the others were there
pub grouped_with : (rs ts : List Process) (p : ℕ) (new : Process) → lookup p ts ≡ Some new → ((q : ℕ) (t : Process) → q ≢ p → lookup q ts ≡ Some t → lookup q rs ≡ Some t)
    → FitsIn rs p new → AreGrouped rs → AreGrouped ts
grouped_with rs ts p new here others fits h = record {
  one = λ a b r t e f same. elim (cases_eq a p) [
    | inl x ↦ elim (cases_eq b p) [
      | inl y ↦ ap (λ (r : Process). r.session) (is a r x e ∙ sym (is b t y f))
      | inr y ↦ session a r x e ∙ sym (fits.one b t y (others b t y f) (sym same ∙ group a r x e))
    ]
    | inr x ↦ elim (cases_eq b p) [
      | inl y ↦ fits.one a r x (others a r x e) (same ∙ group b t y f) ∙ sym (session b t y f)
      | inr y ↦ h.one a b r t (others a r x e) (others b t y f) same
    ]
  ];
  own = λ a b r t e f same. elim (cases_eq a p) [
    | inl x ↦ elim (cases_eq b p) [
      | inl y ↦ ap (λ (r : Process). r.session) (is b t y f ∙ sym (is a r x e))
      | inr y ↦ fits.own b t y (others b t y f) (same ∙ x) ∙ sym (session a r x e)
    ]
    | inr x ↦ elim (cases_eq b p) [
      | inl y ↦ session b t y f ∙ fits.leader a r x (others a r x e) (sym (group b t y f) ∙ same)
      | inr y ↦ h.own a b r t (others a r x e) (others b t y f) same
    ]
  ];
}
  where
    is : (q : ℕ) (t : Process) → q ≡ p → lookup q ts ≡ Some t → t ≡ new
    is q t x e = let both = sym e ∙ ap (λ n. lookup n ts) x ∙ here in cc

    group : (q : ℕ) (t : Process) → q ≡ p → lookup q ts ≡ Some t → t.group ≡ new.group
    group q t x e = ap (λ (r : Process). r.group) (is q t x e)

    session : (q : ℕ) (t : Process) → q ≡ p → lookup q ts ≡ Some t → t.session ≡ new.session
    session q t x e = ap (λ (r : Process). r.session) (is q t x e)
