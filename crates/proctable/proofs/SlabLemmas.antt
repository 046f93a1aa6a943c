-- The processes of an index and slots.
use Rattle.std.proofs.Common.{◌≡◌, ◌≢◌, ℕ, zero, suc, ◌<◌, true, false, cond, not, refl, ap, sym, ◌∙◌, arith, subst, List, [], ◌∷◌, length, filter, Option, Some, None, option_map, ◌==◌, nat_lt, slice_get, slice_index_or, slice_set}
use Rattle.std.specs.List.{AllByRecursion}
use Rattle.std.specs.Prelude.{count_by}
use Rattle.std.specs.Option.{is_some, option_and_then}
use Rattle.std.proofs.lemmas.Bool.{eqb-true, eqb-false}
use Rattle.std.proofs.lemmas.Bool.Decides.{nat_tests}
use Rattle.std.proofs.lemmas.Grind.{common_steps}
use Rattle.slab.specs.Slab.{ContainsKey, Slab, get, with_value, slab_len}
use Rattle.posix.specs.Common.{Process, IsRising, lookup, at, changed, inserted, removed, next_above, parent_of}
use Rattle.posix.proofs.TableLemmas.{pid_looked}
use Rattle.proctable.specs.declared.records.Record.{Record}
use Rattle.proctable.specs.Records.{process_of, give_record}
use Rattle.pidset.specs.Pages.{Entry, entry_of, pids_of}
use Rattle.pidset.specs.Numbers.{Rises, numbers_above, inserted_in_order}
use Rattle.pidset.proofs.NumberLemmas.{AllAbove, not_in_above}
use Rattle.pidset.proofs.ItemLemmas.{others_all, find_none}
use Rattle.proctable.specs.Tables.{processes_in, Stands, IsIndexed}

abbrev pub AllStand : Slab Process → List (Entry ℕ) → Type 0
AllStand slab es = AllByRecursion (Stands slab) es

-- ---- reading

process_found : (p : ℕ) (es : List (Entry ℕ)) (slab : Slab Process) → AllStand slab es → lookup p (processes_in es slab) ≡ option_and_then (get slab) (option_map (λ (e : Entry ℕ). e.value) (entry_of p es))
unfolding lookup processes_in
process_found p [] slab a = refl
process_found p (e ∷ es) slab a = grind (arith, a.0.at, a.0.named, process_found p es slab a.1)

-- the next process above an ID, from the index
next_of : (p : ℕ) (es : List (Entry ℕ)) (slab : Slab Process) → AllStand slab es → next_above p (processes_in es slab) ≡ slice_get (numbers_above p (pids_of es)) 0
unfolding next_above processes_in
next_of p [] slab a = refl
next_of p (e ∷ es) slab a = grind (arith, nat_tests, a.0.at, a.0.named, next_of p es slab a.1)

all_above : (n : ℕ) (es : List (Entry ℕ)) (slab : Slab Process) → AllStand slab es → AllAbove n (pids_of es) → AllByRecursion (λ (q : Process). n < q.pid) (processes_in es slab)
unfolding processes_in
all_above n [] slab a h = tt
all_above n (e ∷ es) slab a h = let s = a.0 in let rest = all_above n es slab a.1 h.1 in rw s.at (rw s.named h.0, rest)

rising_processes : (es : List (Entry ℕ)) (slab : Slab Process) → AllStand slab es → Rises (pids_of es) → IsRising (processes_in es slab)
unfolding IsRising Rises processes_in
rising_processes [] slab a up = tt
rising_processes (e ∷ es) slab a up = let s = a.0 in let rest = rising_processes es slab a.1 up.1 in let low = all_above e.pid es slab a.1 up.0 in rw (s.at, s.named) (low, rest)

as_many : (es : List (Entry ℕ)) (slab : Slab Process) → AllStand slab es → length (processes_in es slab) ≡ length es
unfolding processes_in
as_many [] slab a = refl
as_many (e ∷ es) slab a = let s = a.0 in let rest = as_many es slab a.1 in rw s.at (ap suc rest)

-- ---- the slot of a process

pub standing : (es : List (Entry ℕ)) (slab : Slab Process) (p slot : ℕ) → AllStand slab es → option_map (λ (e : Entry ℕ). e.value) (entry_of p es) ≡ Some slot → (n : Process) × (get slab slot ≡ Some n) × (n.pid ≡ p)
standing [] slab p slot a h = absurd (cc)
standing (x ∷ es) slab p slot a h = elim (x.pid == p) as (λ b. (x.pid == p) ≡ b → option_map (λ (e : Entry ℕ). e.value) (cond b (Some x) (entry_of p es)) ≡ Some slot → (n : Process) × (get slab slot ≡ Some n) × (n.pid ≡ p)) [
  | true ↦ λ t k. let same : x.value ≡ slot = cc in (a.0.what, ap (get slab) (sym same) ∙ a.0.at, a.0.named ∙ eqb-true _ _ t)
  | false ↦ λ t k. standing es slab p slot a.1 k
] refl h

unindexed : (es : List (Entry ℕ)) (slab : Slab Process) (p : ℕ) → AllStand slab es → lookup p (processes_in es slab) ≡ None → entry_of p es ≡ None
unfolding lookup processes_in
unindexed [] slab p a h = refl
unindexed (e ∷ es) slab p a h = grind (arith, a.0.at, a.0.named, h, unindexed es slab p a.1)

-- what the calls require of an index and slots
pub rising_in : (es : List (Entry ℕ)) (slab : Slab Process) → IsIndexed es slab → IsRising (processes_in es slab)
rising_in es slab i = rising_processes es slab i.standing i.rising

pub size_in : (es : List (Entry ℕ)) (slab : Slab Process) → IsIndexed es slab → length (processes_in es slab) ≡ length es
size_in es slab i = as_many es slab i.standing

pub next_in : (p : ℕ) (es : List (Entry ℕ)) (slab : Slab Process) → IsIndexed es slab → next_above p (processes_in es slab) ≡ slice_get (numbers_above p (pids_of es)) 0
next_in p es slab i = next_of p es slab i.standing

pub found_in : (p : ℕ) (es : List (Entry ℕ)) (slab : Slab Process) → IsIndexed es slab → lookup p (processes_in es slab) ≡ option_and_then (get slab) (option_map (λ (e : Entry ℕ). e.value) (entry_of p es))
found_in p es slab i = process_found p es slab i.standing

pub absent_in : (p : ℕ) (es : List (Entry ℕ)) (slab : Slab Process) → IsIndexed es slab → lookup p (processes_in es slab) ≡ None → entry_of p es ≡ None
absent_in p es slab i h = unindexed es slab p i.standing h

pub slot_in : (es : List (Entry ℕ)) (slab : Slab Process) (p slot : ℕ) → IsIndexed es slab → option_map (λ (e : Entry ℕ). e.value) (entry_of p es) ≡ Some slot → ContainsKey slab slot
slot_in es slab p slot i h = rw (standing es slab p slot i.standing h).1 refl

pub ruleset insert_rules = (rising_in, absent_in)

pub ruleset get_rules = (rising_in, size_in, found_in, slot_in)

pub ruleset slot_rules = (rising_in, found_in, slot_in)

pub ruleset remove_rules = (rising_in, slot_in)

pub ruleset next_rules = (rising_in, next_in)

-- ---- a slot is written

here : (slab : Slab Process) (slot : ℕ) (n v : Process) → get slab slot ≡ Some n → get (with_value slab slot v) slot ≡ Some v
here slab slot n v g = grind (arith, common_steps)

elsewhere : (slab : Slab Process) (slot other : ℕ) (v : Process) → other ≢ slot → get (with_value slab slot v) other ≡ get slab other
elsewhere slab slot other v d = grind (arith, common_steps)

-- each entry of p has this slot
abbrev pub Only : ℕ → ℕ → List (Entry ℕ) → Type 0
Only p slot es = AllByRecursion (λ (x : Entry ℕ). x.pid ≡ p → x.value ≡ slot) es

only_above : (p slot : ℕ) (es : List (Entry ℕ)) → AllAbove p (pids_of es) → Only p slot es
only_above p slot [] h = tt
only_above p slot (x ∷ es) h = (λ e. absurd (omega (arith, h.0, e)), only_above p slot es h.1)

-- the one entry of a process
only_slot : (es : List (Entry ℕ)) (p slot : ℕ) → Rises (pids_of es) → option_map (λ (e : Entry ℕ). e.value) (entry_of p es) ≡ Some slot → Only p slot es
unfolding Rises
only_slot [] p slot up h = tt
only_slot (x ∷ es) p slot up h = elim (x.pid == p) as (λ b. (x.pid == p) ≡ b → option_map (λ (e : Entry ℕ). e.value) (cond b (Some x) (entry_of p es)) ≡ Some slot → (x.pid ≡ p → x.value ≡ slot) × Only p slot es) [
  | true ↦ λ t k. (λ i. cc, only_above p slot es (subst (λ n. AllAbove n (pids_of es)) (eqb-true _ _ t) up.0))
  | false ↦ λ t k. (λ i. absurd (eqb-false _ _ t i), only_slot es p slot up.1 k)
] refl h

-- what one entry finds after a slot was written
point : (slab : Slab Process) (p slot : ℕ) (f : Process → Process) (n : Process) (x : Entry ℕ) → Stands slab x → (x.pid ≡ p → x.value ≡ slot) → get slab slot ≡ Some n → n.pid ≡ p
    → get (with_value slab slot (f n)) x.value ≡ option_map (at p f) (get slab x.value)
point slab p slot f n x s one g named = grind (arith, s.at, s.named, one, g, named, here slab slot n (f n) g, elsewhere slab slot x.value (f n), eqb-true x.pid p)

processes_put : (es : List (Entry ℕ)) (slab : Slab Process) (p slot : ℕ) (f : Process → Process) (n : Process) → AllStand slab es → Only p slot es → get slab slot ≡ Some n → n.pid ≡ p
    → processes_in es (with_value slab slot (f n)) ≡ changed p f (processes_in es slab)
unfolding processes_in changed
processes_put [] slab p slot f n a o g named = refl
processes_put (x ∷ es) slab p slot f n a o g named =
    let rest = processes_put es slab p slot f n a.1 o.1 g named in
    let s = a.0 in
    rw (point slab p slot f n x s o.0 g named, s.at) (ap (λ l. at p f s.what ∷ l) rest)

stand_put : (es : List (Entry ℕ)) (slab : Slab Process) (p slot : ℕ) (f : Process → Process) (n : Process) → ((n : Process) → (f n).pid ≡ n.pid) → AllStand slab es → Only p slot es → get slab slot ≡ Some n → n.pid ≡ p
    → AllStand (with_value slab slot (f n)) es
stand_put [] slab p slot f n keeps a o g named = tt
stand_put (x ∷ es) slab p slot f n keeps a o g named =
    let s = a.0 in
    let pid : (at p f s.what).pid ≡ x.pid = grind (arith, keeps s.what, s.named) in
    (record { what = at p f s.what; at = point slab p slot f n x s o.0 g named ∙ ap (option_map (at p f)) s.at; named = pid }, stand_put es slab p slot f n keeps a.1 o.1 g named)

-- ---- a slot is filled

abbrev pub Others : Slab Process → Slab Process → ℕ → Type 0
Others old new slot = (other : ℕ) → other ≢ slot → get new other ≡ get old other

-- an entry for another slot keeps its process
stays : (old new : Slab Process) (slot : ℕ) (x : Entry ℕ) → Others old new slot → get old slot ≡ None → Stands old x → get new x.value ≡ get old x.value
stays old new slot x others vacant s = others x.value (λ i. let k : get old slot ≡ Some s.what = ap (get old) (sym i) ∙ s.at in let no = sym vacant ∙ k in cc)

-- if each entry keeps its process, each has its process in the new slots, too
stand_as : (es : List (Entry ℕ)) (old new : Slab Process) → ((x : Entry ℕ) → Stands old x → get new x.value ≡ get old x.value) → AllStand old es → AllStand new es
stand_as [] old new same a = tt
stand_as (x ∷ es) old new same a = let s = a.0 in (record { what = s.what; at = same x s ∙ s.at; named = s.named }, stand_as es old new same a.1)

processes_as : (es : List (Entry ℕ)) (old new : Slab Process) → ((x : Entry ℕ) → Stands old x → get new x.value ≡ get old x.value) → AllStand old es → processes_in es new ≡ processes_in es old
unfolding processes_in
processes_as [] old new same a = refl
processes_as (x ∷ es) old new same a = rw (same x a.0, processes_as es old new same a.1) refl

pub processes_inserted : (es : List (Entry ℕ)) (old new : Slab Process) (e : Entry ℕ) (n : Process) → Others old new e.value → get old e.value ≡ None → get new e.value ≡ Some n → n.pid ≡ e.pid → AllStand old es
    → processes_in (inserted_in_order (λ (e : Entry ℕ). e.pid) e es) new ≡ inserted n (processes_in es old)
unfolding processes_in inserted_in_order inserted
processes_inserted [] old new e n others vacant g named a = rw g refl
processes_inserted (x ∷ es) old new e n others vacant g named a =
    grind (arith, nat_tests, a.0.at, a.0.named, named, g, stays old new e.value x others vacant a.0, processes_as es old new (λ x s. stays old new e.value x others vacant s) a.1, processes_inserted es old new e n others vacant g named a.1)

pub stand_inserted : (es : List (Entry ℕ)) (old new : Slab Process) (e : Entry ℕ) (n : Process) → Others old new e.value → get old e.value ≡ None → get new e.value ≡ Some n → n.pid ≡ e.pid → AllStand old es
    → AllStand new (inserted_in_order (λ (e : Entry ℕ). e.pid) e es)
unfolding inserted_in_order
stand_inserted [] old new e n others vacant g named a = (record { what = n; at = g; named = named }, tt)
stand_inserted (x ∷ es) old new e n others vacant g named a =
    let all = stand_as (x ∷ es) old new (λ x s. stays old new e.value x others vacant s) a in
    elim (nat_lt e.pid x.pid) as (λ b. AllStand new (cond b (e ∷ x ∷ es) (x ∷ inserted_in_order (λ (e : Entry ℕ). e.pid) e es))) [
      | true ↦ (record { what = n; at = g; named = named }, all)
      | false ↦ (all.0, stand_inserted es old new e n others vacant g named a.1)
    ]

-- ---- a slot is vacated

gone : (old new : Slab Process) (p slot : ℕ) (n : Process) (x : Entry ℕ) → Others old new slot → get old slot ≡ Some n → n.pid ≡ p → Stands old x → (x.pid == p) ≡ false → get new x.value ≡ get old x.value
gone old new p slot n x others g named s t = others x.value (λ i.
    let k : Some s.what ≡ Some n = sym s.at ∙ ap (get old) i ∙ g in
    let w : s.what ≡ n = cc in
    eqb-false _ _ t (sym s.named ∙ ap (λ (n : Process). n.pid) w ∙ named))

pub processes_removed : (es : List (Entry ℕ)) (old new : Slab Process) (p slot : ℕ) (n : Process) → Others old new slot → get old slot ≡ Some n → n.pid ≡ p → AllStand old es
    → processes_in (filter (λ (r : Entry ℕ). not (r.pid == p)) es) new ≡ removed p (processes_in es old)
unfolding processes_in removed
processes_removed [] old new p slot n others g named a = refl
processes_removed (x ∷ es) old new p slot n others g named a = grind (arith, a.0.at, a.0.named, gone old new p slot n x others g named a.0, processes_removed es old new p slot n others g named a.1)

pub stand_removed : (es : List (Entry ℕ)) (old new : Slab Process) (p slot : ℕ) (n : Process) → Others old new slot → get old slot ≡ Some n → n.pid ≡ p → AllStand old es → AllStand new (filter (λ (r : Entry ℕ). not (r.pid == p)) es)
stand_removed [] old new p slot n others g named a = tt
stand_removed (x ∷ es) old new p slot n others g named a =
    let s = a.0 in
    let rest = stand_removed es old new p slot n others g named a.1 in
    elim (x.pid == p) as (λ b. (x.pid == p) ≡ b → AllStand new (cond (not b) (x ∷ filter (λ (r : Entry ℕ). not (r.pid == p)) es) (filter (λ (r : Entry ℕ). not (r.pid == p)) es))) [
      | true ↦ λ t. rest
      | false ↦ λ t. (record { what = s.what; at = gone old new p slot n x others g named s t ∙ s.at; named = s.named }, rest)
    ] refl

pub processes_kept : (es : List (Entry ℕ)) (old new : Slab Process) → new.slots ≡ old.slots → processes_in es new ≡ processes_in es old
unfolding processes_in
processes_kept es old new e = rw e refl

pub kept_index : (es xs : List (Entry ℕ)) (old new : Slab Process) → xs ≡ es → new.slots ≡ old.slots → IsIndexed es old → IsIndexed xs new
kept_index es xs old new e k i = rw e (record { rising = i.rising; standing = stand_as es old new (λ x s. ap (λ xs. slice_index_or xs x.value None) k) i.standing; counted = ap (count_by is_some) k ∙ i.counted })

-- ---- in the form of the calls

pub length_left : (es : List (Entry ℕ)) (p slot : ℕ) → Rises (pids_of es) → option_map (λ (e : Entry ℕ). e.value) (entry_of p es) ≡ Some slot → suc (length (filter (λ (r : Entry ℕ). not (r.pid == p)) es)) ≡ length es
unfolding Rises
length_left [] p slot up h = absurd (cc)
length_left (x ∷ es) p slot up h = grind (arith, h, length_left es p slot up.1, λ (i : x.pid ≡ p). others_all (λ (e : Entry ℕ). e.pid) es p (find_none (λ (e : Entry ℕ). e.pid) es p (not_in_above x.pid p (pids_of es) (omega (arith, i)) up.0)))

-- one more entry
pub length_put : (e : Entry ℕ) (es : List (Entry ℕ)) → length (inserted_in_order (λ (e : Entry ℕ). e.pid) e es) ≡ suc (length es)
unfolding inserted_in_order
length_put e [] = refl
length_put e (x ∷ es) = grind (arith, length_put e es)

-- writing to a slot keeps the number of slots in use
count_set : (xs : List (Option Process)) (i : ℕ) (v n : Process) → slice_index_or xs i None ≡ Some n → count_by is_some (slice_set xs i (Some v)) ≡ count_by is_some xs
count_set [] i v n e = refl
count_set (x ∷ xs) zero v n e = let same : x ≡ Some n = e in rw same refl
count_set (x ∷ xs) (suc i) v n e = let rest = count_set xs i v n e in grind (arith, common_steps)

pub len_put : (slab : Slab Process) (slot : ℕ) (n v : Process) → get slab slot ≡ Some n → slab_len (with_value slab slot v) ≡ slab_len slab
len_put slab slot n v g = count_set slab.slots slot v n g

-- f changes the process p, which is n in its slot
pub record IsWritten (es : List (Entry ℕ)) (slab : Slab Process) (p slot : ℕ) (f : Process → Process) (n : Process) : Type 0 where
  pub index : IsIndexed es (with_value slab slot (f n))
  pub processes : processes_in es (with_value slab slot (f n)) ≡ changed p f (processes_in es slab)

pub written : (es : List (Entry ℕ)) (slab : Slab Process) (p slot : ℕ) (f : Process → Process) (n : Process) → ((n : Process) → (f n).pid ≡ n.pid) → IsIndexed es slab → option_map (λ (e : Entry ℕ). e.value) (entry_of p es) ≡ Some slot → get slab slot ≡ Some n → IsWritten es slab p slot f n
written es slab p slot f n keeps i is g =
    let s = standing es slab p slot i.standing is in
    let one = only_slot es p slot i.rising is in
    let named : n.pid ≡ p = let k = sym g ∙ s.1 in let it : n ≡ s.0 = cc in ap (λ (n : Process). n.pid) it ∙ s.2 in
    record {
      index = record { rising = i.rising; standing = stand_put es slab p slot f n keeps i.standing one g named; counted = len_put slab slot n (f n) g ∙ i.counted };
      processes = processes_put es slab p slot f n i.standing one g named;
    }

-- if p isn't in the table, nothing is removed
pub nobody_goes : (p : ℕ) (es : List (Entry ℕ)) (slab : Slab Process) → option_map (λ (e : Entry ℕ). e.value) (entry_of p es) ≡ None → IsIndexed es slab → processes_in (filter (λ (e : Entry ℕ). not (e.pid == p)) es) slab ≡ removed p (processes_in es slab)
unfolding lookup removed
nobody_goes p es slab none i =
    ap (λ l. processes_in l slab) (others_all (λ (e : Entry ℕ). e.pid) es p (grind (arith, none)))
    ∙ sym (others_all (λ (n : Process). n.pid) (processes_in es slab) p (found_in p es slab i ∙ ap (option_and_then (get slab)) none))

pub index_stays : (p : ℕ) (es : List (Entry ℕ)) (slab : Slab Process) → option_map (λ (e : Entry ℕ). e.value) (entry_of p es) ≡ None → IsIndexed es slab → IsIndexed (filter (λ (e : Entry ℕ). not (e.pid == p)) es) slab
index_stays p es slab none i = subst (λ l. IsIndexed l slab) (sym (others_all (λ (e : Entry ℕ). e.pid) es p (grind (arith, none)))) i

-- ---- a record in its slot

-- another record keeps the ID
pub kept_pid : (b : Record) (r : Process) → (give_record b r).pid ≡ r.pid
unfolding give_record
kept_pid b r = refl

-- a process consists of its ID, its parent and the record that was read
pub read_process : (rs : List Process) (p : ℕ) (r : Process) (b : Record) → lookup p rs ≡ Some r → r ≡ process_of r.pid r.parent b → lookup p rs ≡ Some (process_of p (parent_of p rs) b)
read_process rs p r b e is =
    let parent : parent_of p rs ≡ r.parent = rw e refl in
    e ∙ ap Some (is ∙ ap (λ n. process_of n r.parent b) (pid_looked p rs r e) ∙ ap (λ q. process_of p q b) (sym parent))
