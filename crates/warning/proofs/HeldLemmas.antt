-- What is known after a register was written.
use Rattle.std.proofs.Common.{◌≡◌, ◌≢◌, ◌<◌, ◌<ℤ◌, ◌⊎◌, ⊎_elim, ap, ℕ, zero, suc, ℤ, pos, negsuc, List, [], ◌∷◌, Option, Some, None, length, slice_set, slice_index_or, refl, sym, ◌∙◌, subst, arith}
use Rattle.posix.specs.Common.{Cpu, put_result, load_from, store_at, address_of, register, execute, faulted, SEGV}
use Rattle.posix.specs.declared.call.Call.{Call}
use Rattle.posix.specs.declared.call.Call.TheVariants.{Waitpid, Waitid, Sigaction, Sigprocmask, Sigpending}
use Rattle.posix.specs.declared.instr.Instr.{Instr}
use Rattle.posix.specs.declared.instr.Instr.TheVariants.{Store}
use Rattle.warning.specs.declared.held.Held.{Held}
use Rattle.warning.specs.declared.held.Held.TheVariants.{Unknown, Constant}
use Rattle.warning.specs.Holds.{held, Holds, Keeps, IsBehindCall}

-- a register gets a value, and what is known of the register afterwards is true of this value
put_at : (known : List Held) (registers : List ℤ) (a r : ℕ) (h : Held) (z v : ℤ) → a < length registers → (h ≡ Constant v → z ≡ v) → (held known r ≡ Constant v → slice_index_or registers r (pos 0) ≡ v) → held (slice_set known a h) r ≡ Constant v → slice_index_or (slice_set registers a z) r (pos 0) ≡ v
put_at [] registers a r h z v within is was e = absurd (cc)
put_at (k ∷ ks) [] a r h z v within is was e = absurd (omega arith)
put_at (k ∷ ks) (x ∷ xs) zero zero h z v within is was e = is e
put_at (k ∷ ks) (x ∷ xs) zero (suc r) h z v within is was e = was e
put_at (k ∷ ks) (x ∷ xs) (suc a) zero h z v within is was e = was e
put_at (k ∷ ks) (x ∷ xs) (suc a) (suc r) h z v within is was e = put_at ks xs a r h z v (omega arith) is was e

pub holds_put : (known : List Held) (registers : List ℤ) (a : ℕ) (h : Held) (z : ℤ) → a < length registers → ((v : ℤ) → h ≡ Constant v → z ≡ v) → Holds known registers → Holds (slice_set known a h) (slice_set registers a z)
holds_put known registers a h z within is holds = λ r v e. put_at known registers a r h z v within (is v) (holds r v) e

-- a register of which no constant is known any more
pub gone : (known : List Held) (a r : ℕ) (h : Held) (v : ℤ) → (h ≡ Constant v → ⊥) → held (slice_set known a h) r ≡ Constant v → (r ≢ a) × (held known r ≡ Constant v)
gone [] a r h v never e = absurd (cc)
gone (k ∷ ks) zero zero h v never e = absurd (never e)
gone (k ∷ ks) zero (suc r) h v never e = (omega arith, e)
gone (k ∷ ks) (suc a) zero h v never e = (omega arith, e)
gone (k ∷ ks) (suc a) (suc r) h v never e =
    let rest = gone ks a r h v never e in
    let differ : r ≢ a = rest.0 in
    (omega arith, rest.1)

holds_less : (known : List Held) (registers : List ℤ) (a : ℕ) (h : Held) → ((v : ℤ) → h ≡ Constant v → ⊥) → Holds known registers → Holds (slice_set known a h) registers
holds_less known registers a h never holds = λ r v e. holds r v (gone known a r h v (never v) e).1

-- ---- calls

pub keeps_most : (call : Call) (r : ℕ) → call ≢ Waitpid → call ≢ Waitid → call ≢ Sigaction → call ≢ Sigprocmask → call ≢ Sigpending → r ≢ 0 → Keeps call r
keeps_most Waitpid r a b d e f never = absurd (a refl)
keeps_most Waitid r a b d e f never = absurd (b refl)
keeps_most Sigaction r a b d e f never = absurd (d refl)
keeps_most Sigprocmask r a b d e f never = absurd (e refl)
keeps_most Sigpending r a b d e f never = absurd (f refl)
keeps_most call r a b d e f never = never

-- only registers that the call keeps are still known
pub behind_call : (call : Call) (known less : List Held) (old new : List ℤ) → ((r : ℕ) (z : ℤ) → held less r ≡ Constant z → Keeps call r × (held known r ≡ Constant z)) → IsBehindCall call old new → Holds known old → Holds less new
behind_call call known less old new kept behind holds = λ r z e. let both = kept r z e in behind r both.0 ∙ holds r z both.1

unknown : (z : ℤ) → Unknown ≡ Constant z → ⊥
unknown z e = cc

-- nothing is known of r0 any more
pub without_result : (known : List Held) (r : ℕ) (z : ℤ) → held (slice_set known 0 Unknown) r ≡ Constant z → (r ≢ 0) × (held known r ≡ Constant z)
without_result known r z e = gone known 0 r Unknown z (unknown z) e

-- nothing is known any more of a register with another result
pub without_two : (known : List Held) (a r : ℕ) (h : Held) (z : ℤ) → (h ≡ Constant z → ⊥) → held (slice_set (slice_set known 0 Unknown) a h) r ≡ Constant z → ((r ≢ 0) × (r ≢ a)) × (held known r ≡ Constant z)
without_two known a r h z never e =
    let last = gone (slice_set known 0 Unknown) a r h z never e in
    let first = without_result known r z last.1 in
    ((first.0, last.0), first.1)

pub without_three : (known : List Held) (a b r : ℕ) (h : Held) (z : ℤ) → (h ≡ Constant z → ⊥) → held (slice_set (slice_set (slice_set known 0 Unknown) a h) b Unknown) r ≡ Constant z → ((r ≢ 0) × ((r ≢ a) × (r ≢ b))) × (held known r ≡ Constant z)
without_three known a b r h z never e =
    let last = gone (slice_set (slice_set known 0 Unknown) a h) b r Unknown z (unknown z) e in
    let first = without_two known a r h z never last.1 in
    ((first.0.0, (first.0.1, last.0)), first.1)

pub without_four : (known : List Held) (a b d r : ℕ) (h : Held) (z : ℤ) → (h ≡ Constant z → ⊥) → held (slice_set (slice_set (slice_set (slice_set known 0 Unknown) a h) b Unknown) d Unknown) r ≡ Constant z → ((r ≢ 0) × ((r ≢ a) × ((r ≢ b) × (r ≢ d)))) × (held known r ≡ Constant z)
without_four known a b d r h z never e =
    let last = gone (slice_set (slice_set (slice_set known 0 Unknown) a h) b Unknown) d r Unknown z (unknown z) e in
    let first = without_three known a b r h z never last.1 in
    ((first.0.0, (first.0.1.0, (first.0.1.1, last.0))), first.1)

-- ---- other instructions

-- a register gets a known value
pub behind_put : (known : List Held) (registers new : List ℤ) (a : ℕ) (x y : ℤ) → a < length registers → x ≡ y → new ≡ slice_set registers a x → Holds known registers → Holds (slice_set known a (Constant y)) new
behind_put known registers new a x y within same is holds =
    subst (λ (l : List ℤ). Holds (slice_set known a (Constant y)) l) (sym is) (holds_put known registers a (Constant y) x within (λ v e. cc (same, e)) holds)

-- a register gets an unknown value
pub behind_forget : (known : List Held) (registers new : List ℤ) (a : ℕ) (x : ℤ) → a < length registers → new ≡ slice_set registers a x → Holds known registers → Holds (slice_set known a Unknown) new
behind_forget known registers new a x within is holds =
    subst (λ (l : List ℤ). Holds (slice_set known a Unknown) l) (sym is) (holds_put known registers a Unknown x within (λ v e. absurd (unknown v e)) holds)

behind_fault : (known : List Held) (registers new : List ℤ) (a : ℕ) → new ≡ registers → Holds known registers → Holds (slice_set known a Unknown) new
behind_fault known registers new a is holds = subst (λ (l : List ℤ). Holds (slice_set known a Unknown) l) (sym is) (holds_less known registers a Unknown (λ v e. unknown v e) holds)

pub behind_compute : (known : List Held) (c : Cpu) (new : List ℤ) (a : ℕ) (z : Option ℤ) → a < length c.registers → new ≡ (put_result c a z).cpu.registers → Holds known c.registers → Holds (slice_set known a Unknown) new
behind_compute known c new a None within is holds = behind_fault known c.registers new a is holds
behind_compute known c new a (Some x) within is holds = behind_forget known c.registers new a x within is holds

pub behind_load : (known : List Held) (c : Cpu) (new : List ℤ) (a : ℕ) (address : Option ℕ) → a < length c.registers → new ≡ (load_from c a address).cpu.registers → Holds known c.registers → Holds (slice_set known a Unknown) new
behind_load known c new a None within is holds = behind_fault known c.registers new a is holds
behind_load known c new a (Some k) within is holds = behind_forget known c.registers new a (slice_index_or c.memory k (pos 0)) within is holds

-- ---- stores

above : (n : ℕ) → pos 256 <ℤ pos n → address_of (pos n) ≡ None
above n more = grind (arith, more)

pub outside : (z : ℤ) → (z <ℤ negsuc 0) ⊎ (pos 256 <ℤ z) → address_of z ≡ None
outside (pos n) far = ⊎_elim (λ less. absurd (omega (arith, less))) (λ more. above n more) far
outside (negsuc n) far = refl

-- a store at a register that is known to be no address
pub faults : (known : List Held) (instr : Instr) (value address : ℕ) (z : ℤ) → instr ≡ Store value address → held known address ≡ Constant z → address_of z ≡ None → (c : Cpu) → Holds known c.registers → execute c instr ≡ faulted c SEGV
faults known instr value address z is known_as none c holds =
    subst (λ (i : Instr). execute c i ≡ faulted c SEGV) (sym is)
    (ap (λ (o : Option ℕ). store_at c (register c value) o) (ap address_of (holds address z known_as) ∙ none))
