use Rattle.std.proofs.Common.{◌≡◌, ◌<◌, ◌∙◌, ℤ, List, length, slice_set, ap, subst, sym, refl, arith, rules, w64, to_z, of_z}
use Rattle.posix.specs.declared.instr.Instr.{Instr}
use Rattle.warning.specs.declared.held.Held.{Held}
use Rattle.warning.specs.declared.held.Held.TheVariants.{Constant}
use Rattle.warning.specs.Holds.{Holds, IsBehind}
use Rattle.posix.specs.Common.{register}
use Rattle.warning.proofs.HeldLemmas.{behind_put, behind_compute, behind_load}
use Rattle.warning.proofs.known.Known.run.Goals as goal

pub returns-in-Set : goal.returns-in-Set
returns-in-Set c = λ cpu new len behind holds.
    let at = subst (λ (i : Instr). IsBehind i cpu new) c.in-Set.is behind in
    let within : c.in-Set.to < length cpu.registers = omega (arith, c.put.ensures.within, len) in
    let kept : to_z w64 (of_z w64 c.in-Set.value) ≡ c.in-Set.value = search rules in
    subst (λ (k : List Held). Holds k new) (sym (c.put.ensures.value ∙ ap (λ (z : ℤ). slice_set c.args.self.now c.in-Set.to (Constant z)) kept))
    (behind_put c.args.self.now cpu.registers new c.in-Set.to c.in-Set.value c.in-Set.value within refl at holds)

pub returns-in-Some : goal.returns-in-Some
returns-in-Some c = λ cpu new len behind holds.
    let at = subst (λ (i : Instr). IsBehind i cpu new) c.in-Move.is behind in
    let within : c.in-Move.to < length cpu.registers = omega (arith, c.put-in-Some.ensures.within, len) in
    let kept : to_z w64 (of_z w64 c.in-Some.value) ≡ c.in-Some.value = search rules in
    subst (λ (k : List Held). Holds k new) (sym (c.put-in-Some.ensures.value ∙ ap (λ (z : ℤ). slice_set c.args.self.now c.in-Move.to (Constant z)) kept))
    (behind_put c.args.self.now cpu.registers new c.in-Move.to (register cpu c.in-Move.from) c.in-Some.value within (holds c.in-Move.from c.in-Some.value c.in-Some.ensures) at holds)

pub returns-in-Sys : goal.returns-in-Sys
returns-in-Sys c = λ cpu new len behind holds.
    c.call.ensures cpu.registers new (subst (λ (i : Instr). IsBehind i cpu new) c.in-Sys.is behind) holds

pub returns-in-Compute : goal.returns-in-Compute
returns-in-Compute c = λ cpu new len behind holds.
    let at = subst (λ (i : Instr). IsBehind i cpu new) c.in-Compute.is behind in
    let within : c.in-Compute.to < length cpu.registers = omega (arith, c.forget-in-Compute.ensures.within, len) in
    subst (λ (k : List Held). Holds k new) (sym c.forget-in-Compute.ensures.value)
    (behind_compute c.args.self.now cpu new c.in-Compute.to _ within at holds)

pub returns-in-Load : goal.returns-in-Load
returns-in-Load c = λ cpu new len behind holds.
    let at = subst (λ (i : Instr). IsBehind i cpu new) c.in-Load.is behind in
    let within : c.in-Load.to < length cpu.registers = omega (arith, c.forget-in-Load.ensures.within, len) in
    subst (λ (k : List Held). Holds k new) (sym c.forget-in-Load.ensures.value)
    (behind_load c.args.self.now cpu new c.in-Load.to _ within at holds)
