-- Actions that are read and written field by field.
use Rattle.std.proofs.Common.{◌≡◌, ◌≢◌, ℕ, ℤ, ◌<◌, ◌∙◌, refl, sym, ap, arith, map, get_or, set, pos, inl, inr}
use Rattle.std.specs.Prelude.{replicate}
use Rattle.std.specs.List.{range_with_len}
use Rattle.std.proofs.lemmas.Bool.{cases_eq, cases_lt}
use Rattle.std.proofs.lemmas.List.{get_or-map, get_or-replicate, get_or_default, get_or_past, get_or-set_same, get_or-set_other, length-map, length-replicate, length-set}
use Rattle.std.proofs.lemmas.List.FromFn.{length-map-range_with_len, get_or-map-range_with_len, fill_by_all}
use Rattle.posix.specs.declared.process.Action.{Action}
use Rattle.posix.specs.declared.process.Handler.{Handler}
use Rattle.posix.specs.declared.sa_flags.SaFlags.{SaFlags}
use Rattle.posix.specs.Common.{initial_action, no_flags, default_actions, handler_on_exec, action_on_exec}
use Rattle.signal.specs.declared.action_fields.Actions.{Actions}
use Rattle.signal.specs.declared.action_fields.Disposition.{Disposition}
use Rattle.signal.specs.declared.action_fields.Disposition.TheVariants as disposition
use Rattle.signal.specs.ActionFields.{AreFields, action_from, action_at, actions_of, blank_actions, handler_from, disposition_on_exec}

-- ---- a list computed by index

module _ {X : Type 0} where
  pub same_read : (n i : ℕ) (x : X) → get_or (replicate n x) i x ≡ x
  same_read n i x = elim (cases_lt i n) [
    | inl l ↦ get_or-replicate n i x x l
    | inr past ↦ get_or_past (replicate n x) i x (omega (arith, past, length-replicate n x))
  ]

  pub made_at : (f : ℕ → X) (n i : ℕ) (d : X) → i < n → get_or (map f (range_with_len 0 n)) i d ≡ f i
  made_at f n i d l = get_or-map-range_with_len f 0 n i i d l (omega arith)

  -- one item changes
  pub set_made : (f g : ℕ → X) (n i : ℕ) (d : X) → ((j : ℕ) → j < n → j ≢ i → f j ≡ g j) → set (map f (range_with_len 0 n)) i (g i) ≡ map g (range_with_len 0 n)
  set_made f g n i d others = fill_by_all g (set (map f (range_with_len 0 n)) i (g i)) n d (length-set _ i (g i) ∙ length-map-range_with_len f 0 n) (λ k low. elim (cases_eq k i) [
    | inl e ↦ ap (λ j. get_or (set (map f (range_with_len 0 n)) i (g i)) j d) e ∙ get_or-set_same _ i (g i) d (omega (arith, low, e, length-map-range_with_len f 0 n)) ∙ ap g (sym e)
    | inr ne ↦ get_or-set_other _ i k (g i) d ne ∙ made_at f n k d low ∙ others k low ne
  ])

  -- the same item is computed at each index
  pub made_same : (f g : ℕ → X) (n : ℕ) (d : X) → ((k : ℕ) → k < n → f k ≡ g k) → map f (range_with_len 0 n) ≡ map g (range_with_len 0 n)
  made_same f g n d same = fill_by_all g (map f (range_with_len 0 n)) n d (length-map-range_with_len f 0 n) (λ k l. made_at f n k d l ∙ same k l)

-- ---- actions

-- all actions are the same, row by row
pub actions_same : (a b : Actions) → ((k : ℕ) → k < 64 → action_at a k ≡ action_at b k) → actions_of a ≡ actions_of b
unfolding actions_of
actions_same a b same = made_same (action_at a) (action_at b) 64 initial_action same

pub blank_defaults : actions_of blank_actions ≡ default_actions
unfolding actions_of blank_actions default_actions
blank_defaults = refl

pub action_there : (a : Actions) (i : ℕ) → i < 64 → get_or (actions_of a) i initial_action ≡ action_at a i
unfolding actions_of
action_there a i l = made_at (action_at a) 64 i initial_action l

same_fields : (h k : Handler) (m n : ℕ) (f g : SaFlags) → h ≡ k → m ≡ n → f ≡ g → action_from h m f ≡ action_from k n g
same_fields h k m n f g e e2 e3 = cc

-- the action that the fields at an index make
pub action_read : (a : Actions) (i : ℕ) (d : Disposition) (t : ℤ) (m : ℕ) (f : SaFlags) (h : Handler) → AreFields a → i < 64 → h ≡ handler_from (get_or a.dispositions i d) (get_or a.addresses i t)
    → action_from h (get_or a.masks i m) (get_or a.flags i f) ≡ get_or (actions_of a) i initial_action
action_read a i d t m f h are l e =
    let handlers : handler_from (get_or a.dispositions i d) (get_or a.addresses i t) ≡ (action_at a i).handler =
    ap (λ x. handler_from x (get_or a.addresses i t)) (get_or_default a.dispositions i d disposition.Default (omega (arith, l, are.0)))
    ∙ ap (handler_from (get_or a.dispositions i disposition.Default)) (get_or_default a.addresses i t (pos 0) (omega (arith, l, are.1))) in
    same_fields _ _ _ _ _ _ (e ∙ handlers) (get_or_default a.masks i m 0 (omega (arith, l, are.2))) (get_or_default a.flags i f no_flags (omega (arith, l, are.3)))
    ∙ sym (action_there a i l)

-- an action is written field by field
pub action_written : (a : Actions) (i : ℕ) (d : Disposition) (t : ℤ) (x : Action) → AreFields a → i < 64 → handler_from d t ≡ x.handler
    → actions_of (record { dispositions = set a.dispositions i d; addresses = set a.addresses i t; masks = set a.masks i x.mask; flags = set a.flags i x.flags }) ≡ set (actions_of a) i x
unfolding actions_of
action_written a i d t x are l e =
    let b : Actions = record { dispositions = set a.dispositions i d; addresses = set a.addresses i t; masks = set a.masks i x.mask; flags = set a.flags i x.flags } in
    let is : action_at b i ≡ x =
    same_fields _ _ _ _ _ _
    (ap (λ y. handler_from y (get_or (set a.addresses i t) i (pos 0))) (get_or-set_same a.dispositions i d disposition.Default (omega (arith, l, are.0))) ∙ ap (handler_from d) (get_or-set_same a.addresses i t (pos 0) (omega (arith, l, are.1))) ∙ e)
    (get_or-set_same a.masks i x.mask 0 (omega (arith, l, are.2)))
    (get_or-set_same a.flags i x.flags no_flags (omega (arith, l, are.3))) in
    sym (ap (set (actions_of a) i) (sym is) ∙ set_made (action_at a) (action_at b) 64 i initial_action (λ j low ne.
    same_fields _ _ _ _ _ _
    (sym (ap (λ y. handler_from y (get_or (set a.addresses i t) j (pos 0))) (get_or-set_other a.dispositions i j d disposition.Default ne) ∙ ap (handler_from (get_or a.dispositions j disposition.Default)) (get_or-set_other a.addresses i j t (pos 0) ne)))
    (sym (get_or-set_other a.masks i j x.mask 0 ne))
    (sym (get_or-set_other a.flags i j x.flags no_flags ne))))

handler_dropped : (d : Disposition) (t : ℤ) → handler_from (disposition_on_exec d) t ≡ handler_on_exec (handler_from d t)
handler_dropped disposition.Default t = refl
handler_dropped disposition.Ignore t = refl
handler_dropped disposition.Catch t = refl

-- all actions after exec
pub actions_left : (a : Actions) → AreFields a
    → actions_of (record a { dispositions = map disposition_on_exec a.dispositions; masks = replicate 64 0; flags = replicate 64 no_flags }) ≡ map action_on_exec (actions_of a)
unfolding actions_of
actions_left a are =
    let b : Actions = record a { dispositions = map disposition_on_exec a.dispositions; masks = replicate 64 0; flags = replicate 64 no_flags } in
    sym (fill_by_all (action_at b) (map action_on_exec (actions_of a)) 64 initial_action (length-map (actions_of a) action_on_exec ∙ length-map-range_with_len (action_at a) 0 64) (λ k l.
    get_or-map action_on_exec (actions_of a) k initial_action initial_action (omega (arith, l, length-map-range_with_len (action_at a) 0 64))
    ∙ ap action_on_exec (action_there a k l)
    ∙ same_fields _ _ _ _ _ _
    (sym (handler_dropped (get_or a.dispositions k disposition.Default) (get_or a.addresses k (pos 0))) ∙ ap (λ y. handler_from y (get_or a.addresses k (pos 0))) (sym (get_or-map disposition_on_exec a.dispositions k disposition.Default disposition.Default (omega (arith, l, are.0)))))
    (sym (get_or-replicate 64 k 0 0 l))
    (sym (get_or-replicate 64 k no_flags no_flags l))))
