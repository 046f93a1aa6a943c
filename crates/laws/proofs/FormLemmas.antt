-- What serves the forms of what calls show: their results, and bytes that are moved.
use Rattle.std.proofs.Common.{◌≡◌, ℕ, ◌+◌, ◌≤◌, ◌<◌, true, ◌&&◌, ◌==◌, refl, arith, subst, List, [], ◌∷◌, map, take, drop, length, Some, ℤ, pos, negsuc, Ok}
use Rattle.std.specs.Prelude.{slice_set}
use Rattle.std.specs.List.{list_all}
use Rattle.std.proofs.lemmas.Bool.{cases_Bool, and_parts, eqb-true}
use Rattle.std.proofs.lemmas.List.{length-map, length-take}
use Rattle.std.proofs.lemmas.Bool.Decides.{nat_tests}
use Rattle.posix.specs.declared.call.Call.{Call}
use Rattle.posix.specs.declared.entry.Entry.TheVariants.{Called, Moved}
use Rattle.posix.specs.declared.span.Span.{Span}
use Rattle.posix.specs.Common.{Process, lookup, State, change, Console, span_in, bytes_in, stored, low_byte, Outcome, Attempted, Reply, finish_call, finish_with, finished, is_group_of, IsRegular, finish_moved, with_bytes, is_i64, is_id}
use Rattle.laws.specs.TraceLines.{is_number, is_result, is_entry, moves_bytes}
use Rattle.laws.specs.Kinds.{is_byte, is_console, IsKind, AreKinds}
use Rattle.posix.proofs.WalkLemmas.{some_looked}
use Rattle.posix.proofs.AttemptLemmas.{Meets}
use Rattle.laws.proofs.KindLemmas.{and_both, all_set, small_i64}
use Rattle.laws.proofs.KindChanges.{KeepsKind, are_results, kind_finished}
use Rattle.laws.proofs.KindStates.{kinds_change}

-- what an outcome shows has a form, and its state is of its kinds
pub record IsFormed (o : Outcome) : Type 0 where
  pub entries : list_all is_entry o.entries ≡ true
  pub kinds : AreKinds o.state

abbrev pub FormsIf : Attempted → Type 0
FormsIf = Meets IsFormed AreKinds

-- a process of a state that is of its kinds
pub record IsSaying (s : State) (me : Process) : Type 0 where
  pub regular : IsRegular s
  pub kinds : AreKinds s
  pub found : lookup me.pid s.processes ≡ Some me

pub saying_kind : (s : State) (me : Process) → IsSaying s me → IsKind me
saying_kind s me c = c.kinds.records me.pid me c.found

-- the IDs of existing processes
pub number_there : (s : State) (p : ℕ) (r : Process) → IsRegular s → AreKinds s → lookup p s.processes ≡ Some r → is_number r.pid ≡ true
number_there s p r i k e =
    let b = i.bounded p r e in
    let low = b.least in
    let high : r.pid ≤ 2147483647 = omega (arith, b.pid, k.world.pidmax) in
    grind (arith, nat_tests, cases_Bool, low, high)

pub saying_number : (s : State) (me : Process) → IsSaying s me → is_number me.pid ≡ true
saying_number s me c = number_there s me.pid me c.regular c.kinds c.found

-- the ID of an existing group
pub group_there : (s : State) (p : ℕ) (r : Process) → IsRegular s → AreKinds s → lookup p s.processes ≡ Some r → is_id r.group ≡ true
group_there s p r i k e = let b = i.bounded p r e in let l : r.group ≤ 2147483647 = omega (arith, b.group, k.world.pidmax) in grind (arith, nat_tests, l)

-- ---- a call that is answered

pub form_called : (p : ℕ) (call : Call) (z : ℤ) → is_number p ≡ true → is_i64 z ≡ true → is_result call z ≡ true → list_all is_entry (Called p call z ∷ []) ≡ true
form_called p call z n k r = and_both (is_entry (Called p call z)) true (and_both (is_number p && is_i64 z) (is_result call z) (and_both (is_number p) (is_i64 z) n k) r) refl

pub kinds_finished : (s : State) (p : ℕ) (ws : List (ℕ × ℤ)) → are_results ws ≡ true → AreKinds s → AreKinds (change s p (finished ws))
unfolding finished
kinds_finished s p ws k h = kinds_change s p (finished ws) (λ r. refl) (kind_finished ws k) h

-- of a call from a state in which p is there to another
pub form_gives : (s t : State) (me : Process) (call : Call) (z : ℤ) → IsSaying s me → AreKinds t → is_i64 z ≡ true → is_result call z ≡ true → FormsIf (finish_with t me.pid call z)
form_gives s t me call z c h k r = record { entries = form_called me.pid call z (saying_number s me c) k r; kinds = kinds_finished t me.pid ((0, z) ∷ []) (and_both (is_i64 z) true k refl) h }

pub form_answers : (s : State) (me : Process) (call : Call) (reply : Reply) → IsSaying s me → KeepsKind reply.changes → ((r : Process) → (reply.changes r).pid ≡ r.pid) → is_i64 reply.value ≡ true → is_result call reply.value ≡ true → FormsIf (finish_call s me.pid call reply)
unfolding finished
form_answers s me call reply c keeps pid k r = record {
  entries = form_called me.pid call reply.value (saying_number s me c) k r;
  kinds = kinds_change s me.pid (λ r. finished ((0, reply.value) ∷ []) (reply.changes r)) pid
      (λ r h. kind_finished ((0, reply.value) ∷ []) (and_both (is_i64 reply.value) true k refl) (reply.changes r) (keeps r h)) c.kinds;
}

-- ---- groups and consoles

pub with_consoles : (s : State) (cs : List Console) → list_all is_console cs ≡ true → AreKinds s → AreKinds (record s { consoles = cs })
with_consoles s cs k h = record { world = h.world; records = h.records; consoles = k }

-- a group of a session has a member
pub group_kind : (s : State) (session g : ℕ) → IsRegular s → AreKinds s → is_group_of session g s.processes ≡ true → is_id g ≡ true
unfolding is_group_of
group_kind s session g i k e =
    let f = some_looked (λ (r : Process). r.session == session && r.group == g) s.processes i.rising e in
    let same = eqb-true f.0.group g (and_parts (f.0.session == session) (f.0.group == g) f.2).1 in
    subst (λ n. is_id n ≡ true) same (group_there s f.0.pid f.0 i k f.1)

-- ---- read and write

-- at most 16 bytes are moved
pub span_few : (a z : ℤ) (span : Span) → span_in a z ≡ Ok span → span.count ≤ 16
span_few a (negsuc n) span e = absurd (cc)
span_few (negsuc m) (pos n) span e = grind (arith, nat_tests, e)
span_few (pos m) (pos n) span e = grind (arith, nat_tests, cases_Bool, e)

form_bytes : (p : ℕ) (call : Call) (bytes : List ℕ) → is_number p ≡ true → moves_bytes call ≡ true → 1 ≤ length bytes → length bytes ≤ 16 → list_all is_byte bytes ≡ true → list_all is_entry (Moved p call bytes ∷ []) ≡ true
form_bytes p call bytes n m low high all = grind (arith, nat_tests, cases_Bool, n, m, low, high, all)

pub form_moved : (s t : State) (me : Process) (call : Call) (bytes : List ℕ) → IsSaying s me → AreKinds t → moves_bytes call ≡ true → is_result call (pos 0) ≡ true → length bytes ≤ 16 → list_all is_byte bytes ≡ true → FormsIf (finish_moved t me.pid call bytes)
form_moved s t me call [] i h m r few all = form_gives s t me call (pos 0) i h refl r
form_moved s t me call (b ∷ bs) i h m r few all = record {
  entries = form_bytes me.pid call (b ∷ bs) (saying_number s me i) m (omega arith) few all;
  kinds = kinds_finished t me.pid ((0, pos (length (b ∷ bs))) ∷ []) (and_both (is_i64 (pos (length (b ∷ bs)))) true (small_i64 (length (b ∷ bs)) (omega (arith, few))) refl) h;
}

stored_kind : (address : ℕ) (bytes : List ℕ) (memory : List ℤ) → list_all is_byte bytes ≡ true → list_all is_i64 memory ≡ true → list_all is_i64 (stored address bytes memory) ≡ true
unfolding stored
stored_kind address [] memory k h = h
stored_kind address (b ∷ bs) memory k h =
    let p = and_parts (is_byte b) (list_all is_byte bs) k in
    let small : b < 256 = let x = p.0 in grind (arith, nat_tests, x) in
    stored_kind (address + 1) bs (slice_set memory address (pos b)) p.1 (all_set is_i64 memory address (pos b) h (small_i64 b (omega (arith, small))))

pub kind_bytes : (address : ℕ) (bytes : List ℕ) → list_all is_byte bytes ≡ true → KeepsKind (with_bytes address bytes)
unfolding with_bytes
kind_bytes address bytes k r h = record { pid = h.pid; parent = h.parent; credentials = h.credentials; signals = h.signals; life = h.life; news = h.news; cpu = record { registers = h.cpu.registers; memory = stored_kind address bytes r.cpu.memory k h.cpu.memory } }

pub take_at_most : {A : Type 0} (n : ℕ) (xs : List A) → length (take n xs) ≤ n
take_at_most n xs = let l = length-take n xs in omega (arith, l)

low_bytes : (zs : List ℤ) → list_all is_byte (map low_byte zs) ≡ true
low_bytes [] = refl
low_bytes (z ∷ zs) = and_both (is_byte (low_byte z)) (list_all is_byte (map low_byte zs)) (one z) (low_bytes zs)
  where
    one : (z : ℤ) → is_byte (low_byte z) ≡ true
    one z = let l : low_byte z < 256 = omega arith in grind (arith, nat_tests, l)

pub bytes_kind : (span : Span) (memory : List ℤ) → list_all is_byte (bytes_in span memory) ≡ true
unfolding bytes_in
bytes_kind span memory = low_bytes (take span.count (drop span.address memory))

pub bytes_few : (span : Span) (memory : List ℤ) → length (bytes_in span memory) ≤ span.count
unfolding bytes_in
bytes_few span memory =
    let l = length-map (take span.count (drop span.address memory)) low_byte in
    let t = take_at_most span.count (drop span.address memory) in
    omega (arith, l, t)
