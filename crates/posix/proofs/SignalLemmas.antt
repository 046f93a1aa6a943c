-- Signals that are chosen, that a fault raises and that stop are such signals.
use Rattle.std.proofs.Common.{◌≡◌, ℕ, Bool, true, false, cond, refl, arith, find, List, [], ◌∷◌, ◌++◌, Some, None, inl, inr, ◌⊎◌}
use Rattle.std.specs.List.{range_with_len}
use Rattle.std.proofs.lemmas.Bool.Decides.{nat_tests}
use Rattle.posix.specs.declared.instr.Instr.{Instr}
use Rattle.posix.specs.declared.instr.Instr.TheVariants.{Compute, Load, Store}
use Rattle.posix.specs.declared.instr.Trap.{Trap}
use Rattle.posix.specs.declared.instr.Trap.TheVariants as trap
use Rattle.posix.specs.declared.process.Life.{Life}
use Rattle.posix.specs.declared.sig.DefaultAction.TheVariants as default
use Rattle.posix.specs.Common.{is_signal, is_stop_signal, default_action, Cpu, Signals, is_ready, all_signals, least_ready, chosen, execute, execute_fetched, exec_one, fetched, computed, register, put_result, load_from, store_at, address_of}
use Rattle.posix.proofs.RangeLemmas.{find_range}

-- ---- the signal that is chosen

-- what is found in two lists joined is found in one of them
found_in : (t : ℕ → Bool) (xs ys : List ℕ) (k : ℕ) → find t (xs ++ ys) ≡ Some k → (find t xs ≡ Some k) ⊎ (find t ys ≡ Some k)
found_in t [] ys k e = inr e
found_in t (x ∷ xs) ys k e = elim (t x) as (λ b. cond b (Some x) (find t (xs ++ ys)) ≡ Some k → (cond b (Some x) (find t xs) ≡ Some k) ⊎ (find t ys ≡ Some k)) [
  | true ↦ λ h. inl h
  | false ↦ λ h. found_in t xs ys k h
] e

ready_signal : (g : Signals) (n : ℕ) → find (is_ready g) all_signals ≡ Some n → is_signal n ≡ true
ready_signal g n e = elim (found_in (is_ready g) (range_with_len 1 31) (range_with_len 34 31) n e) [
  | inl one ↦ let i = find_range (is_ready g) 1 31 n one in grind (arith, nat_tests, i.1, i.2)
  | inr one ↦ let i = find_range (is_ready g) 34 31 n one in grind (arith, nat_tests, i.1, i.2)
]

pub chosen_signal : (life : Life) (g : Signals) (n : ℕ) → chosen life g ≡ Some n → is_signal n ≡ true
unfolding chosen least_ready
chosen_signal life g n e = grind (arith, e, ready_signal g n)

-- one whose default is to stop is a stop signal
pub default_stop : (s : ℕ) → default_action s ≡ default.Stop → is_stop_signal s ≡ true
default_stop s e = grind (arith, e)

-- ---- the signal of a fault

abbrev pub IsSignalled : Trap → Type 0
IsSignalled (trap.Fault sig) = is_signal sig ≡ true
IsSignalled _ = Unit {0}

execute_signalled : (c : Cpu) (i : Instr) → IsSignalled (execute c i).trap
execute_signalled c (Compute operator a b) = elim (computed operator (register c a) (register c b)) as (λ o. IsSignalled (put_result c a o).trap) [ None ↦ refl | Some z ↦ tt ]
execute_signalled c (Load a b) = elim (address_of (register c b)) as (λ o. IsSignalled (load_from c a o).trap) [ None ↦ refl | Some i ↦ tt ]
execute_signalled c (Store a b) = elim (address_of (register c b)) as (λ o. IsSignalled (store_at c (register c a) o).trap) [ None ↦ refl | Some i ↦ tt ]
execute_signalled c _ = tt

pub trap_signalled : (program : List Instr) (c : Cpu) → IsSignalled (exec_one program c).trap
unfolding exec_one
trap_signalled program c = elim (fetched program c.pc) as (λ o. IsSignalled (execute_fetched c o).trap) [ None ↦ refl | Some i ↦ execute_signalled c i ]
