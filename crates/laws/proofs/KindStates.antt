-- States keep the kinds of their parts.
use Rattle.std.proofs.Common.{◌≡◌, ◌≢◌, ℕ, zero, suc, ◌+◌, ◌-◌, ◌≤◌, ◌<◌, true, false, cond, not, ◌&&◌, ◌==◌, refl, ap, sym, ◌∙◌, arith, subst, List, [], ◌∷◌, ◌++◌, map, length, Option, Some, None, pos, nat_le, nat_lt, inl, inr}
use Rattle.std.specs.List.{list_all, AllByRecursion}
use Rattle.std.proofs.lemmas.Bool.{cases_Bool, cond_both, and_parts, eqb-true, ne_eqb, cases_eq}
use Rattle.std.proofs.lemmas.Bool.Decides.{nat_tests}
use Rattle.posix.specs.declared.process.Effect.{Effect}
use Rattle.posix.specs.declared.process.Effect.TheVariants as effect
use Rattle.posix.specs.declared.process.Life.{Life}
use Rattle.posix.specs.declared.process.Life.TheVariants.{Running, Stopped, Zombie}
use Rattle.posix.specs.declared.process.PendingSignal.{PendingSignal}
use Rattle.posix.specs.Common.{CONT, HUP, is_realtime, continued, is_end_word, Process, IsRising, lookup, at, changed, inserted, removed, reparented, adopted, pids, members_in, Outcome, State, change, current, Console, console_of, console_at, with_console, changed_at, changed_console, edit, finish_line, erased, with_byte, key_signal, signal_typed, is_told, disconnected, keyed_by, keyed, flushed, has_room, lines_left, line_taken, released, with_foreground, most_edited, effect_of, signalled, from_kernel, child_signal, noticed, noticed_of_change, told_of_change, resumed, acted_upon, generated_for, signalled_all, newly_orphaned, heir_in, CanInherit, ended, made_zombie, halt, leave_children_and_die, zombies_of, tell_of_all, status_of, is_dropping, drop_child, notice_of_end, signalled_members, signalled_group, hup_and_cont, hup_and_cont_all, hup_and_cont_orphans, hung_up, hang_up, end_process, ring_at, ring_all, pass_time, is_fresh, refreshed, give_places, clear_foregrounds, settle, signalled_from, key_on, key, hangup_on, hangup, rotate, tick, terminal, is_i64, is_id, IsWorld}
use Rattle.posix.proofs.NoticeLemmas.{only_notice, only_told}
use Rattle.laws.proofs.QuietOperations.{quiet_hung_up, each_zombie}
use Rattle.posix.proofs.HeirLemmas.{heir_inherits}
use Rattle.laws.specs.Kinds.{is_byte, is_carried, is_console, IsKind, AreKinds}
use Rattle.posix.proofs.TableLemmas.{pid_looked, pid_reparented, lookup_changed}
use Rattle.posix.proofs.MapLemmas.{at_pid, lookup_back}
use Rattle.posix.proofs.RegularLemmas.{lookup_left, lookup_inserted, lookup_new}
use Rattle.posix.proofs.TouchLemmas.{unseen_signalled, unseen_noticed, unseen_ring}
use Rattle.posix.proofs.ChangeLemmas.{unseen_noticed_of_change}
use Rattle.posix.proofs.RealtimeLemmas.{generated_alone, key_standard}
use Rattle.posix.proofs.ConsoleLemmas.{place_of}
use Rattle.laws.proofs.KindLemmas.{and_both, all_set, all_found, all_append, all_take, all_drop, all_map, small_i64}
use Rattle.laws.proofs.KindChanges.{KeepsKind, HasRoom, standard_room, kind_signalled, kind_noticed, kind_noticed_of_change, kind_resumed, kind_ring, kind_made_zombie, kind_ended, kind_reparented}

abbrev pub AllKind : List Process → Type 0
AllKind rs = (p : ℕ) (r : Process) → lookup p rs ≡ Some r → IsKind r

-- ---- lists

pub kinds_map : (g : Process → Process) → ((r : Process) → (g r).pid ≡ r.pid) → KeepsKind g → (rs : List Process) → AllKind rs → AllKind (map g rs)
kinds_map g pid keeps rs h p r e = let b = lookup_back g pid p rs r e in subst IsKind (sym b.is) (keeps b.what (h p b.what b.found))

pub kinds_changed : (p : ℕ) (f : Process → Process) → ((r : Process) → (f r).pid ≡ r.pid) → KeepsKind f → (rs : List Process) → AllKind rs → AllKind (changed p f rs)
unfolding changed
kinds_changed p f pid keeps rs h = kinds_map (at p f) (at_pid p f pid) (λ r k. cond_both (r.pid == p) (f r) r IsKind (λ t. keeps r k) (λ t. k)) rs h

-- it is enough that the change keeps the kind of the record that is found
kinds_changed_at : (p : ℕ) (f : Process → Process) → ((r : Process) → (f r).pid ≡ r.pid) → (rs : List Process) → ((r : Process) → lookup p rs ≡ Some r → IsKind r → IsKind (f r)) → AllKind rs → AllKind (changed p f rs)
unfolding changed
kinds_changed_at p f pid rs keeps h q r e =
    let b = lookup_back (at p f) (at_pid p f pid) q rs r e in
    subst IsKind (sym b.is)
    (cond_both (b.what.pid == p) (f b.what) b.what IsKind
    (λ t. keeps b.what (ap (λ n. lookup n rs) (sym (eqb-true b.what.pid p t) ∙ pid_looked q rs b.what b.found) ∙ b.found) (h q b.what b.found)) (λ t. h q b.what b.found))

pub kinds_removed : (c : ℕ) (rs : List Process) → AllKind rs → AllKind (removed c rs)
kinds_removed c rs h p r e = h p r (lookup_left c p rs r e)

pub kinds_inserted : (new : Process) (rs : List Process) → lookup new.pid rs ≡ None → IsKind new → AllKind rs → AllKind (inserted new rs)
kinds_inserted new rs fresh k h p r e = elim (cases_eq p new.pid) [
  | inl same ↦ let it = lookup_new new rs fresh in let is : new ≡ r = let both = sym it ∙ ap (λ n. lookup n (inserted new rs)) (sym same) ∙ e in cc in subst IsKind is k
  | inr other ↦ h p r (sym (lookup_inserted new p rs other) ∙ e)
]

-- ---- signals

-- a child's signal
pub carried_child : (child status : ℕ) → is_id child ≡ true → status < 9223372036854775808 → is_carried (child_signal child status).carried ≡ true
carried_child child status k l = and_both (is_i64 (pos status)) (is_id child) (small_i64 status l) k

pub kinds_told_of_change : (status : ℕ) (r : Process) (rs : List Process) → status < 9223372036854775808 → IsKind r → AllKind rs → AllKind (told_of_change status r rs)
unfolding told_of_change
kinds_told_of_change status r rs l k h =
    let signal = child_signal r.pid status in
    kinds_changed r.parent (noticed_of_change signal) (unseen_noticed_of_change signal).pid (kind_noticed_of_change signal (carried_child r.pid status k.pid l) refl) rs h

-- for one, where there is room
kinds_generated : (signal : PendingSignal) → is_carried signal.carried ≡ true → (p : ℕ) (rs : List Process) → ((r : Process) → lookup p rs ≡ Some r → HasRoom signal.sig r) → AllKind rs → AllKind (generated_for signal (lookup p rs) rs)
unfolding resumed
kinds_generated signal c p rs room h = by (lookup p rs) refl
  where
    told : (r : Process) → lookup p rs ≡ Some r → AllKind (changed r.pid (signalled signal) rs)
    told r e =
        kinds_changed_at r.pid (signalled signal) (unseen_signalled signal).pid rs
        (λ q f k. kind_signalled signal c q (room q (ap (λ n. lookup n rs) (sym (pid_looked p rs r e)) ∙ f)) k) h

    acts : (r : Process) → lookup p rs ≡ Some r → (w : Effect) → AllKind (acted_upon w r (changed r.pid (signalled signal) rs))
    acts r e effect.Nothing = told r e
    acts r e effect.Continued = kinds_told_of_change continued r _ (omega arith) (h p r e) (kinds_changed r.pid resumed (λ r. refl) kind_resumed _ (told r e))

    by : (o : Option Process) → lookup p rs ≡ o → AllKind (generated_for signal o rs)
    by None e = h
    by (Some r) e = acts r e (effect_of r.pid r.life signal r.signals)

-- a standard signal, for several
pub kinds_signalled : (signal : PendingSignal) → is_carried signal.carried ≡ true → is_realtime signal.sig ≡ false → (ps : List ℕ) (rs : List Process) → AllKind rs → AllKind (signalled_all signal ps rs)
unfolding signalled_all
kinds_signalled signal c standard [] rs h = h
kinds_signalled signal c standard (p ∷ ps) rs h =
    kinds_signalled signal c standard ps (generated_for signal (lookup p rs) rs) (kinds_generated signal c p rs (λ r e. standard_room signal.sig r standard) h)

-- a real-time signal that is generated for one process leaves the others
others_stay : (signal : PendingSignal) (p q : ℕ) (rs : List Process) → is_realtime signal.sig ≡ true → q ≢ p → lookup q (generated_for signal (lookup p rs) rs) ≡ lookup q rs
others_stay signal p q rs real other = ap (lookup q) (generated_alone signal p (lookup p rs) rs real refl) ∙ lookup_changed p q (signalled signal) (unseen_signalled signal).pid rs ∙ rw (ne_eqb q p other) refl

-- the process is there, and where the signal would be queued for it there is room
abbrev pub IsThereWithRoom : List Process → ℕ → Process → Type 0
IsThereWithRoom rs n q = (lookup q.pid rs ≡ Some q) × HasRoom n q

-- a real-time signal for several existing processes with room, each once, in ascending order
pub kinds_queued : (signal : PendingSignal) → is_carried signal.carried ≡ true → is_realtime signal.sig ≡ true → (qs rs : List Process) → IsRising qs
    → AllByRecursion (IsThereWithRoom rs signal.sig) qs → AllKind rs → AllKind (signalled_all signal (pids qs) rs)
unfolding signalled_all IsRising
kinds_queued signal c real [] rs up there h = h
kinds_queued signal c real (q ∷ qs) rs up there h =
    kinds_queued signal c real qs (generated_for signal (lookup q.pid rs) rs) up.1 (later qs up.0 there.1) (kinds_generated signal c q.pid rs (λ r e. let same : q ≡ r = let both = sym there.0.0 ∙ e in cc in subst (HasRoom signal.sig) same there.0.1) h)
  where
    later : (xs : List Process) → AllByRecursion (λ x. q.pid < x.pid) xs → AllByRecursion (IsThereWithRoom rs signal.sig) xs
        → AllByRecursion (IsThereWithRoom (generated_for signal (lookup q.pid rs) rs) signal.sig) xs
    later [] above t = tt
    later (x ∷ xs) above t = let l = above.0 in ((others_stay signal q.pid x.pid rs real (λ e. absurd (omega (arith, l, e))) ∙ t.0.0, t.0.1), later xs above.1 t.1)

kinds_members : (n group : ℕ) (rs : List Process) → is_realtime n ≡ false → AllKind rs → AllKind (signalled_members (record { sig = n; carried = from_kernel }) group rs)
unfolding signalled_members
kinds_members n group rs standard h = kinds_signalled (record { sig = n; carried = from_kernel }) refl standard (pids (members_in group rs)) rs h

pub kinds_group : (n group : ℕ) (rs : List Process) → is_realtime n ≡ false → AllKind rs → AllKind (signalled_group n group rs)
kinds_group n group rs standard h = cond_both (group == 0) rs _ AllKind (λ t. h) (λ t. kinds_members n group rs standard h)

kinds_hup_and_cont : (gs : List ℕ) (rs : List Process) → AllKind rs → AllKind (hup_and_cont_all gs rs)
unfolding hup_and_cont_all
kinds_hup_and_cont [] rs h = h
kinds_hup_and_cont (g ∷ gs) rs h = kinds_hup_and_cont gs (hup_and_cont g rs) (kinds_members CONT g _ refl (kinds_members HUP g rs refl h))

-- ---- ends

-- the word of an end is small
pub end_small : (w : ℕ) → is_end_word w ≡ true → w ≤ 65280
end_small w h = grind (arith, nat_tests, cases_Bool, h)

kinds_notice : (s : State) (parent child status : ℕ) → is_id child ≡ true → status < 9223372036854775808 → AllKind s.processes → AllKind (notice_of_end s parent child status).processes
unfolding notice_of_end
kinds_notice s parent child status k l h =
    let signal = child_signal child status in
    let told = change s parent (noticed signal) in
    let one = kinds_changed parent (noticed signal) (unseen_noticed signal).pid (kind_noticed signal (carried_child child status k l) refl) s.processes h in
    cond_both (is_dropping parent s.processes) (drop_child told child) told (λ (t : State). AllKind t.processes) (λ t. kinds_removed child told.processes one) (λ t. one)

status_kind : (r : Process) → IsKind r → status_of r.life < 9223372036854775808
status_kind r k = by r.life k.life
  where
    by : (l : Life) → Rattle.laws.specs.Kinds.is_life l ≡ true → status_of l < 9223372036854775808
    by Running h = omega arith
    by Stopped h = omega arith
    by (Zombie w) h = let l = end_small w h in omega (arith, l)

kinds_told : (s : State) (heir : ℕ) (zs : List Process) → AllByRecursion IsKind zs → AllKind s.processes → AllKind (tell_of_all s heir zs).processes
unfolding tell_of_all
kinds_told s heir [] ks h = h
kinds_told s heir (z ∷ zs) ks h = kinds_told (notice_of_end s heir z.pid (status_of z.life)) heir zs ks.1 (kinds_notice s heir z.pid (status_of z.life) ks.0.pid (status_kind z ks.0) h)

kinds_departed : (s : State) (p heir w : ℕ) → is_id heir ≡ true → is_end_word w ≡ true → AllKind s.processes → AllKind (leave_children_and_die s p heir w).processes
unfolding adopted made_zombie
kinds_departed s p heir w k word h = kinds_map (reparented p heir) (pid_reparented p heir) (kind_reparented p heir k) _ (kinds_changed p (made_zombie w) (λ r. refl) (kind_made_zombie w word) s.processes h)

-- ---- states

pub kinds_as : (s t : State) → t.world ≡ s.world → t.consoles ≡ s.consoles → AllKind t.processes → AreKinds s → AreKinds t
kinds_as s t w c ks h = record { world = subst IsWorld (sym w) h.world; records = ks; consoles = rw c h.consoles }

pub kinds_change : (s : State) (p : ℕ) (f : Process → Process) → ((r : Process) → (f r).pid ≡ r.pid) → KeepsKind f → AreKinds s → AreKinds (change s p f)
kinds_change s p f pid keeps h = kinds_as s (change s p f) refl refl (kinds_changed p f pid keeps s.processes h.records) h

-- consoles
pub kind_terminal : (s : State) (me : Process) (c : Console) → AreKinds s → terminal s me ≡ Some c → is_console c ≡ true
kind_terminal s me c h e = let o = place_of me.session s.consoles c e in all_found is_console s.consoles o.place c h.consoles o.found

pub kind_consoles : (session : ℕ) (f : Console → Console) → ((c : Console) → is_console c ≡ true → is_console (f c) ≡ true) → (cs : List Console) → list_all is_console cs ≡ true → list_all is_console (changed_console session f cs) ≡ true
unfolding changed_console
kind_consoles session f keeps cs h = all_map is_console is_console (changed_at session f) (λ c k. cond_both (c.session == session) (f c) c (λ d. is_console d ≡ true) (λ t. keeps c k) (λ t. k)) cs h

pub kind_foreground : (g : ℕ) (c : Console) → is_id g ≡ true → is_console c ≡ true → is_console (with_foreground g c) ≡ true
unfolding with_foreground
kind_foreground g c k h = and_both (is_id g) _ k (and_parts (is_id c.foreground) _ h).1

kind_released : (c : Console) → is_console c ≡ true → is_console (released c) ≡ true
unfolding released
kind_released c h = (and_parts (is_id c.foreground) _ h).1

kinds_hung_up : (s : State) (r : Process) → AreKinds s → AreKinds (hang_up s r)
unfolding hang_up released
kinds_hung_up s r h = cond_both (not (r.pid == 1) && r.session == r.pid) _ _ AreKinds (λ e. of (console_of r.session s.consoles)) (λ e. h)
  where
    of : (c : Option Console) → AreKinds (hung_up s r.session c)
    of None = h
    of (Some c) = record { world = h.world; records = kinds_group HUP c.foreground s.processes refl h.records; consoles = kind_consoles r.session released kind_released s.consoles h.consoles }

-- an heir is process 1 or there
kind_heir : (s : State) (p : ℕ) → AllKind s.processes → is_id (heir_in s.processes p) ≡ true
kind_heir s p h = of (heir_inherits s.processes p)
  where
    of : {n : ℕ} → CanInherit s.processes p n → is_id n ≡ true
    of (inl first) = rw first refl
    of {n} (inr k) = subst (λ m. is_id m ≡ true) (pid_looked n s.processes k.1.what k.1.found) (h n k.1.what k.1.found).pid

-- an end
pub kinds_end : (s : State) (r : Process) (w : ℕ) → IsRising s.processes → is_id r.pid ≡ true → is_end_word w ≡ true → AreKinds s → AreKinds (end_process s r w).state
unfolding end_process ended
kinds_end s r w up k word h =
    let t = hang_up s r in
    let kt = kinds_hung_up s r h in
    cond_both (r.pid == 1) _ _ (λ (o : Outcome). AreKinds o.state) (λ e. kinds_as t (halt t w) refl refl (kinds_changed 1 (ended w) (λ r. refl) (kind_ended w word) t.processes kt.records) kt)
    (λ e. kinds_gone_state t ((quiet_hung_up s r).rising up) kt)
  where
    kinds_gone_state : (t : State) → IsRising t.processes → AreKinds t → AreKinds (notice_of_end (hup_and_cont_orphans t.processes (tell_of_all (leave_children_and_die t r.pid (heir_in t.processes r.pid) w) (heir_in t.processes r.pid) (zombies_of r.pid t.processes))) r.parent r.pid w)
    kinds_gone_state t up kt =
        let heir = heir_in t.processes r.pid in
        let gone = leave_children_and_die t r.pid heir w in
        let told = tell_of_all gone heir (zombies_of r.pid t.processes) in
        let given = hup_and_cont_orphans t.processes told in
        let small = end_small w word in
        let departed = kinds_departed t r.pid heir w (kind_heir t r.pid kt.records) word kt.records in
        let notices = kinds_told gone heir (zombies_of r.pid t.processes) (each_zombie IsKind r.pid t.processes up (λ c z found child dead. kt.records c z found)) departed in
        let only_a = only_told gone heir (zombies_of r.pid t.processes) in
        let only_b = only_notice given r.parent r.pid w in
        kinds_as t _ (ap (λ (u : State). u.world) only_b ∙ ap (λ (u : State). u.world) only_a) (ap (λ (u : State). u.consoles) only_b ∙ ap (λ (u : State). u.consoles) only_a)
        (kinds_notice given r.parent r.pid w k (omega (arith, small)) (kinds_hup_and_cont (newly_orphaned t.processes told.processes) told.processes notices)) kt

-- ---- consoles and keys

bytes_with : (byte : ℕ) (bytes : List ℕ) → is_byte byte ≡ true → list_all is_byte bytes ≡ true → list_all is_byte (with_byte byte bytes) ≡ true
unfolding with_byte
bytes_with byte bytes k h = cond_both (nat_lt (length bytes) most_edited) _ _ (λ bs. list_all is_byte bs ≡ true) (λ t. all_append is_byte bytes (byte ∷ []) h (and_both _ _ k refl)) (λ t. h)

kind_line : (line : List ℕ) (c : Console) → list_all is_byte line ≡ true → is_console c ≡ true → is_console (finish_line line c) ≡ true
unfolding finish_line
kind_line line c k h =
    let p = and_parts (is_id c.foreground) (list_all (list_all is_byte) c.lines && list_all is_byte c.edited) h in
    let q = and_parts (list_all (list_all is_byte) c.lines) (list_all is_byte c.edited) p.1 in
    let lines : list_all (list_all is_byte) (cond (has_room line c.lines) (c.lines ++ line ∷ []) c.lines) ≡ true =
    cond_both (has_room line c.lines) _ _ (λ ls. list_all (list_all is_byte) ls ≡ true) (λ t. all_append (list_all is_byte) c.lines (line ∷ []) q.0 (and_both _ _ k refl)) (λ t. q.0) in
    and_both (is_id c.foreground) _ p.0 (and_both _ _ lines refl)

kind_edited : (c : Console) (bytes : List ℕ) → list_all is_byte bytes ≡ true → is_console c ≡ true → is_console (record c { edited = bytes }) ≡ true
kind_edited c bytes k h = grind (arith, cases_Bool, k, h)

kind_edit : (byte : ℕ) (c : Console) → is_byte byte ≡ true → is_console c ≡ true → is_console (edit byte c) ≡ true
unfolding edit erased
kind_edit byte c k h =
    let p = and_parts (is_id c.foreground) (list_all (list_all is_byte) c.lines && list_all is_byte c.edited) h in
    let q = and_parts (list_all (list_all is_byte) c.lines) (list_all is_byte c.edited) p.1 in
    cond_both (byte == 127) _ _ (λ c. is_console c ≡ true) (λ t. kind_edited c (erased c.edited) (all_take is_byte (length c.edited - 1) c.edited q.1) h)
    (λ t. cond_both (byte == 21) _ _ (λ c. is_console c ≡ true) (λ u. kind_edited c [] refl h)
    (λ u. cond_both (byte == 10) _ _ (λ c. is_console c ≡ true) (λ v. kind_line (c.edited ++ 10 ∷ []) c (all_append is_byte c.edited (10 ∷ []) q.1 refl) h)
    (λ v. cond_both (byte == 4) _ _ (λ c. is_console c ≡ true) (λ x. kind_line c.edited c q.1 h) (λ x. kind_edited c (with_byte byte c.edited) (bytes_with byte c.edited k q.1) h))))

kind_keyed : (byte : ℕ) (c : Console) → is_byte byte ≡ true → is_console c ≡ true → is_console (keyed byte c) ≡ true
unfolding keyed flushed
kind_keyed byte c k h = cond_both c.hung_up c (keyed_by (key_signal byte) byte c) (λ d. is_console d ≡ true) (λ e. h) (λ e. by (key_signal byte))
  where
    by : (o : Option ℕ) → is_console (keyed_by o byte c) ≡ true
    by None = kind_edit byte c k h
    by (Some n) = and_both (is_id c.foreground) _ (and_parts (is_id c.foreground) _ h).0 refl

pub kind_taken : (n : ℕ) (c : Console) → is_console c ≡ true → is_console (line_taken n c) ≡ true
unfolding line_taken
kind_taken n c h =
    let p = and_parts (is_id c.foreground) (list_all (list_all is_byte) c.lines && list_all is_byte c.edited) h in
    let q = and_parts (list_all (list_all is_byte) c.lines) (list_all is_byte c.edited) p.1 in
    and_both (is_id c.foreground) _ p.0 (and_both _ (list_all is_byte c.edited) (by c.lines q.0) q.1)
  where
    by : (ls : List (List ℕ)) → list_all (list_all is_byte) ls ≡ true → list_all (list_all is_byte) (lines_left n ls) ≡ true
    by [] h = h
    by (line ∷ rest) h =
        let p = and_parts (list_all is_byte line) (list_all (list_all is_byte) rest) h in
        cond_both (nat_le (length line) n) _ _ (λ ls. list_all (list_all is_byte) ls ≡ true) (λ t. p.1) (λ t. and_both _ (list_all (list_all is_byte) rest) (all_drop is_byte n line p.0) p.1)

kinds_from : (o : Option ℕ) (group : ℕ) (rs : List Process) → ((n : ℕ) → o ≡ Some n → is_realtime n ≡ false) → AllKind rs → AllKind (signalled_from o group rs)
kinds_from None group rs standard h = h
kinds_from (Some n) group rs standard h = kinds_group n group rs (standard n refl) h

standard_typed : (byte : ℕ) (c : Console) (n : ℕ) → signal_typed byte c ≡ Some n → is_realtime n ≡ false
unfolding signal_typed
standard_typed byte c n e = elim c.hung_up as (λ b. cond b None (key_signal byte) ≡ Some n → is_realtime n ≡ false) [ true ↦ λ e. absurd (cc) | false ↦ λ e. (key_standard byte n e).0 ] e

kind_disconnected : (c : Console) → is_console c ≡ true → is_console (disconnected c) ≡ true
unfolding disconnected flushed
kind_disconnected c h = cond_both c.hung_up c (record (flushed c) { hung_up = not (c.session == 0) }) (λ d. is_console d ≡ true) (λ e. h) (λ e. and_both (is_id c.foreground) _ (and_parts (is_id c.foreground) _ h).0 refl)

-- one console changes
kinds_put : (f : Console → Console) → ((c : Console) → is_console c ≡ true → is_console (f c) ≡ true) → (n : ℕ) (c : Console) (cs : List Console) → console_at n cs ≡ Some c → list_all is_console cs ≡ true → list_all is_console (with_console n (f c) cs) ≡ true
kinds_put f keeps zero c cs e h = absurd (cc)
kinds_put f keeps (suc i) c cs e h = all_set is_console cs i (f c) h (keeps c (all_found is_console cs i c h e))

pub kinds_hangup : (s : State) (console : ℕ) → AreKinds s → AreKinds (hangup s console)
unfolding hangup
kinds_hangup s console h = on (console_at console s.consoles) refl
  where
    on : (o : Option Console) → console_at console s.consoles ≡ o → AreKinds (hangup_on s console o)
    on None e = h
    on (Some c) e = record {
      world = h.world;
      records = cond_both (is_told c) (signalled_all (record { sig = HUP; carried = from_kernel }) (c.session ∷ []) s.processes) s.processes AllKind (λ t. kinds_signalled (record { sig = HUP; carried = from_kernel }) refl refl (c.session ∷ []) s.processes h.records) (λ t. h.records);
      consoles = kinds_put disconnected kind_disconnected console c s.consoles e h.consoles;
    }

pub kinds_key : (s : State) (console byte : ℕ) → byte < 256 → AreKinds s → AreKinds (key s console byte)
unfolding key
kinds_key s console byte small h = on (console_at console s.consoles) refl
  where
    k : is_byte byte ≡ true
    k = grind (arith, nat_tests, small)

    on : (o : Option Console) → console_at console s.consoles ≡ o → AreKinds (key_on s console byte o)
    on None e = h
    on (Some c) e = record { world = h.world; records = kinds_from (signal_typed byte c) c.foreground s.processes (standard_typed byte c) h.records; consoles = kinds_put (keyed byte) (λ d. kind_keyed byte d k) console c s.consoles e h.consoles }

-- ---- ticks, and to settle

pub kinds_pass : (s : State) → AreKinds s → AreKinds (pass_time s)
unfolding ring_all
kinds_pass s h = kinds_as s (pass_time s) refl refl (kinds_map (ring_at (s.ticks + 1)) (unseen_ring (s.ticks + 1)).pid (kind_ring (s.ticks + 1)) s.processes h.records) h

pub kinds_tick : (s : State) → AreKinds s → AreKinds (tick s)
unfolding tick
kinds_tick s h = let k = kinds_pass s h in elim (current s) as (λ c. AreKinds (rotate (pass_time s) c)) [ None ↦ k | Some p ↦ kinds_as (pass_time s) _ refl refl k.records k ]

pub kinds_settled : (s : State) → AreKinds s → AreKinds (settle s)
unfolding settle give_places clear_foregrounds
kinds_settled s h = record {
  world = h.world;
  records = h.records;
  consoles = all_map is_console is_console (refreshed s.processes) (λ c k. cond_both (is_fresh s.processes c) c (with_foreground 0 c) (λ d. is_console d ≡ true) (λ t. k) (λ t. kind_foreground 0 c refl k)) s.consoles h.consoles;
}
