-- Shows that moves in time add up, and that a move loses nothing.
use Rattle.std.proofs.Common.{◌≡◌, ◌⊎◌, inl, inr, ◌<◌, ◌≤◌, ℕ, ◌+◌, ◌-◌, ◌||◌, List, [], ◌∷◌, Option, Some, None, option_map, refl, sym, ap, ap₂, subst, ◌∙◌, arith}
use Rattle.std.specs.Prelude.{is_some}
use Rattle.std.specs.List.{list_any}
use Rattle.std.proofs.lemmas.Bool.{cases_lt}
use Rattle.posix.specs.Alarms.{has_alarms}
use Rattle.posix.specs.Processes.{Process}
use Rattle.posix.specs.States.{State}
use Rattle.times.specs.Times.{AreMoved, later, all_later, state_later}

-- ---- by no ticks

alarm_unmoved : (a : Option ℕ) → option_map (λ due. due + 0) a ≡ a
alarm_unmoved None = refl
alarm_unmoved (Some due) = ap (λ (n : ℕ). Some n) (omega arith)

all_unmoved : (rs : List Process) → all_later 0 rs ≡ rs
all_unmoved [] = refl
all_unmoved (r ∷ rs) = ap₂ (λ (a : Option ℕ) ts. record r { alarm = a } ∷ ts) (alarm_unmoved r.alarm) (all_unmoved rs)

pub state_unmoved : (s : State) → state_later 0 s ≡ s
state_unmoved s = ap₂ (λ (n : ℕ) rs. record s { ticks = n; processes = rs }) (omega arith) (all_unmoved s.processes)

-- ---- one move after another

alarm_moved_on : (d e : ℕ) (a : Option ℕ) → option_map (λ due. due + d) (option_map (λ due. due + e) a) ≡ option_map (λ due. due + (d + e)) a
alarm_moved_on d e None = refl
alarm_moved_on d e (Some due) = ap (λ (n : ℕ). Some n) (omega arith)

all_moved_on : (d e : ℕ) (rs : List Process) → all_later d (all_later e rs) ≡ all_later (d + e) rs
all_moved_on d e [] = refl
all_moved_on d e (r ∷ rs) = ap₂ (λ (a : Option ℕ) ts. record r { alarm = a } ∷ ts) (alarm_moved_on d e r.alarm) (all_moved_on d e rs)

pub state_moved_on : (d e : ℕ) (s : State) → state_later d (state_later e s) ≡ state_later (d + e) s
state_moved_on d e s = ap₂ (λ (n : ℕ) rs. record s { ticks = n; processes = rs }) (omega arith) (all_moved_on d e s.processes)

-- ---- what is equal after a move was equal before

alarm_moved_back : (d : ℕ) (a b : Option ℕ) → option_map (λ due. due + d) a ≡ option_map (λ due. due + d) b → a ≡ b
alarm_moved_back d None None e = refl
alarm_moved_back d None (Some n) e = absurd (cc)
alarm_moved_back d (Some m) None e = absurd (cc)
alarm_moved_back d (Some m) (Some n) e = let same : m + d ≡ n + d = cc in ap (λ (k : ℕ). Some k) (omega (arith, same))

process_moved_back : (d : ℕ) (r t : Process) → later d r ≡ later d t → r ≡ t
process_moved_back d r t e =
    ap₂ (λ (x : Process) (a : Option ℕ). record x { alarm = a }) e (alarm_moved_back d r.alarm t.alarm (ap (λ (x : Process). x.alarm) e))

all_moved_back : (d : ℕ) (rs ts : List Process) → all_later d rs ≡ all_later d ts → rs ≡ ts
all_moved_back d [] [] e = refl
all_moved_back d [] (t ∷ ts) e = absurd (cc)
all_moved_back d (r ∷ rs) [] e = absurd (cc)
all_moved_back d (r ∷ rs) (t ∷ ts) e =
    let first : later d r ≡ later d t = cc in
    let rest : all_later d rs ≡ all_later d ts = cc in
    ap₂ (λ (x : Process) xs. x ∷ xs) (process_moved_back d r t first) (all_moved_back d rs ts rest)

pub state_moved_back : (d : ℕ) (s t : State) → state_later d s ≡ state_later d t → s ≡ t
state_moved_back d s t e =
    let ticks : s.ticks + d ≡ t.ticks + d = ap (λ (x : State). x.ticks) e in
    let processes = all_moved_back d s.processes t.processes (ap (λ (x : State). x.processes) e) in
    ap₂ (λ (x : State) (n : ℕ). record x { ticks = n; processes = s.processes }) e (omega (arith, ticks))
    ∙ ap (λ rs. record t { processes = rs }) processes

-- ---- what a move keeps

alarm_kept : (d : ℕ) (a : Option ℕ) → is_some (option_map (λ due. due + d) a) ≡ is_some a
alarm_kept d None = refl
alarm_kept d (Some due) = refl

all_kept : (d : ℕ) (rs : List Process) → list_any (λ (r : Process). is_some r.alarm) (all_later d rs) ≡ list_any (λ (r : Process). is_some r.alarm) rs
all_kept d [] = refl
all_kept d (r ∷ rs) = ap₂ (λ a b. a || b) (alarm_kept d r.alarm) (all_kept d rs)

pub alarms_kept : (d : ℕ) (s : State) → has_alarms (state_later d s) ≡ has_alarms s
alarms_kept d s = all_kept d s.processes

-- ---- states that are one moved in time

pub moved_refl : (s : State) → AreMoved s s
moved_refl s = (0, inl (sym (state_unmoved s)))

pub moved_swapped : (s t : State) → AreMoved s t → AreMoved t s
moved_swapped s t (d, inl later) = (d, inr later)
moved_swapped s t (d, inr earlier) = (d, inl earlier)

-- Of two states that come to one by moves, one is the other moved.
meet : (d e : ℕ) (s t : State) → state_later d s ≡ state_later e t → AreMoved s t
meet d e s t same = by (cases_lt d e)
  where
    by : (d < e) ⊎ (e ≤ d) → AreMoved s t
    by (inl less) =
        let rest : d + (e - d) ≡ e = omega (arith, less) in
        (e - d, inr (state_moved_back d s (state_later (e - d) t) (same ∙ ap (λ n. state_later n t) (sym rest) ∙ sym (state_moved_on d (e - d) t))))
    by (inr more) =
        let rest : e + (d - e) ≡ d = omega (arith, more) in
        (d - e, inl (sym (state_moved_back e (state_later (d - e) s) t (state_moved_on e (d - e) s ∙ ap (λ n. state_later n s) rest ∙ same))))

-- Of two moves of a state, one is the other moved.
part : (d e : ℕ) (s : State) → AreMoved (state_later d s) (state_later e s)
part d e s = by (cases_lt d e)
  where
    by : (d < e) ⊎ (e ≤ d) → AreMoved (state_later d s) (state_later e s)
    by (inl less) =
        let rest : e - d + d ≡ e = omega (arith, less) in
        (e - d, inl (ap (λ n. state_later n s) (sym rest) ∙ sym (state_moved_on (e - d) d s)))
    by (inr more) =
        let rest : d - e + e ≡ d = omega (arith, more) in
        (d - e, inr (ap (λ n. state_later n s) (sym rest) ∙ sym (state_moved_on (d - e) e s)))

pub moved_then : (s t u : State) → AreMoved s t → AreMoved t u → AreMoved s u
moved_then s t u (d, inl is) (e, inl then) = (e + d, inl (then ∙ ap (state_later e) is ∙ state_moved_on e d s))
moved_then s t u (d, inl is) (e, inr then) = meet d e s u (sym is ∙ then)
moved_then s t u (d, inr is) (e, inl then) = subst (λ x. AreMoved x u) (sym is) (subst (AreMoved (state_later d t)) (sym then) (part d e t))
moved_then s t u (d, inr is) (e, inr then) = (d + e, inr (is ∙ ap (state_later d) then ∙ state_moved_on d e u))
