use Rattle.std.proofs.Common.{◌≡◌, suc, ap, sym, ◌∙◌, arith, Some, None, slice_get, ℕ, List, length, nat_lt, slice_index_or, true}
use Rattle.posix.specs.Common.{Console, State, signalled_from}
use Rattle.life.specs.Machines.{MachineView}
use Rattle.life.proofs.TakingLemmas.{brief_none, brief_group}
use Rattle.life.proofs.ConsoleLemmas.{key_nowhere, key_past, key_on_it, slots_of_signalled, typed_key}
use Rattle.posix.proofs.RealtimeLemmas.{key_standard}
use Rattle.life.proofs.ViewLemmas.{state_is, costs_then, cost_more}
use Rattle.life.proofs.machine.Machine.key.Goals as goal
use Rattle.life.proofs.CodeLemmas.{get_some, past_none}

-- the console that was read is the one at its index
there : {m n : MachineView} {cs : List Console} → m ≡ n → cs ≡ m.state.consoles → (k : ℕ) (c : Console) → true ≡ nat_lt k (length cs) → c ≡ slice_index_or cs k c → slice_get n.state.consoles k ≡ Some c
there same all k c within is = ap (λ cs. slice_get cs k) (sym (all ∙ ap (λ (s : State). s.consoles) (state_is same))) ∙ get_some _ k c (within, is)

pub signal_group-requires : goal.signal_group-requires
signal_group-requires g c =
    let it = c.in-Some-get.console.now in
    let found = there c.self.view_is c.deref.ensures.value c.in-Some.console_index it c.in-Some-get.ensures.lookup.0 c.in-Some-get.ensures.lookup.1 in
    (key_standard c.args.byte c.in-Some-type_byte.sig (sym (typed_key c.args.byte c.in-Some-type_byte.sig it (sym c.in-Some-type_byte.is ∙ c.type_byte.ensures.signal it found)))).0

pub returns-in_default-clause-state : goal.returns-in_default-clause-state
returns-in_default-clause-state g c =
    key_nowhere c.args.self.now.state c.args.console c.args.byte (omega (arith, c.in_default.ensures, c.from.ensures))

pub returns-in_default-get-clause-state : goal.returns-in_default-get-clause-state
returns-in_default-get-clause-state g c =
    let console_index = c.in-Some.console_index in
    let consoles = sym (c.deref.ensures.value ∙ ap (λ (s : State). s.consoles) (state_is c.self.view_is)) in
    let none = ap (λ cs. slice_get cs console_index) consoles ∙ past_none c.deref.result.now console_index c.in_default-get.ensures.lookup.0 in
    key_past c.args.self.now.state c.args.console console_index c.args.byte (omega (arith, c.in-Some.ensures, c.from.ensures)) none

pub returns-in-Some-type_byte-clause-state : goal.returns-in-Some-type_byte-clause-state
returns-in-Some-type_byte-clause-state g c =
    let it = c.in-Some-get.console.now in
    let found = there c.self.view_is c.deref.ensures.value c.in-Some.console_index it c.in-Some-get.ensures.lookup.0 c.in-Some-get.ensures.lookup.1 in
    let signal = sym c.in-Some-type_byte.is ∙ c.type_byte.ensures.signal it found in
    c.signal_group.ensures.state ∙ ap (λ (s : State). record s { processes = signalled_from (Some c.in-Some-type_byte.sig) c.foreground-foreground.result s.processes }) (c.type_byte.ensures.state it found)
    ∙ key_on_it c.args.self.now.state c.args.console c.in-Some.console_index c.args.byte it (Some c.in-Some-type_byte.sig) c.foreground-foreground.result (omega (arith, c.in-Some.ensures, c.from.ensures)) found signal c.foreground-foreground.ensures.is

pub returns-in_default-type_byte-clause-state : goal.returns-in_default-type_byte-clause-state
returns-in_default-type_byte-clause-state g c =
    let it = c.in-Some-get.console.now in
    let found = there c.self.view_is c.deref.ensures.value c.in-Some.console_index it c.in-Some-get.ensures.lookup.0 c.in-Some-get.ensures.lookup.1 in
    let signal = sym c.in_default-type_byte.is ∙ c.type_byte.ensures.signal it found in
    c.type_byte.ensures.state it found ∙ key_on_it c.args.self.now.state c.args.console c.in-Some.console_index c.args.byte it None c.foreground-foreground.result (omega (arith, c.in-Some.ensures, c.from.ensures)) found signal c.foreground-foreground.ensures.is

pub returns-in-Some-type_byte-clause-costs : goal.returns-in-Some-type_byte-clause-costs
returns-in-Some-type_byte-clause-costs g c =
    let console_index = c.in-Some.console_index in
    let it = c.in-Some-get.console.now in
    let found = there c.self.view_is c.deref.ensures.value console_index it c.in-Some-get.ensures.lookup.0 c.in-Some-get.ensures.lookup.1 in
    let signal = sym c.in-Some-type_byte.is ∙ c.type_byte.ensures.signal it found in
    cost_more (costs_then c.type_byte.ensures.costs c.signal_group.ensures.costs)
    (let all = slots_of_signalled c.args.self.now c.args.console console_index c.args.byte c.in-Some-type_byte.sig c.foreground-foreground.result it _ (omega (arith, c.in-Some.ensures, c.from.ensures)) found signal c.foreground-foreground.ensures.is (ap (λ (s : State). s.processes) (c.type_byte.ensures.state it found)) in omega (arith, all))

pub returns-in_default-clause-brief : goal.returns-in_default-clause-brief
returns-in_default-clause-brief g c = λ none awake. brief_none _ _ _ none

pub returns-in_default-get-clause-brief : goal.returns-in_default-get-clause-brief
returns-in_default-get-clause-brief g c = λ none awake. brief_none _ _ _ none

pub returns-in-Some-type_byte-clause-brief : goal.returns-in-Some-type_byte-clause-brief
returns-in-Some-type_byte-clause-brief g c = λ none awake.
    let console_index = c.in-Some.console_index in
    let number : c.args.console ≡ suc console_index = omega (arith, c.in-Some.ensures, c.from.ensures) in
    let it = c.in-Some-get.console.now in
    let found = there c.self.view_is c.deref.ensures.value console_index it c.in-Some-get.ensures.lookup.0 c.in-Some-get.ensures.lookup.1 in
    let signal = typed_key c.args.byte c.in-Some-type_byte.sig it (sym c.in-Some-type_byte.is ∙ c.type_byte.ensures.signal it found) in
    let typed = ap (λ (s : State). s.processes) (c.type_byte.ensures.state c.in-Some-get.console.now found) in
    let quiet = c.type_byte.ensures.quiet (λ e. let no = signal ∙ e in absurd (cc)) in
    rw (number, found, ← c.foreground-foreground.ensures.is, ← typed)
    (brief_group c.in-Some-type_byte.sig c.foreground-foreground.result _ _ _ _ _ (key_standard c.args.byte c.in-Some-type_byte.sig (sym signal)).1 c.signal_group.ensures.costs.regular.rising (quiet ∙ none) (ap (λ (s : State). s.processes) c.signal_group.ensures.state) c.signal_group.ensures.to_recheck)

pub returns-in_default-type_byte-clause-brief : goal.returns-in_default-type_byte-clause-brief
returns-in_default-type_byte-clause-brief g c = λ none awake.
    let console_index = c.in-Some.console_index in
    let number : c.args.console ≡ suc console_index = omega (arith, c.in-Some.ensures, c.from.ensures) in
    let found = there c.self.view_is c.deref.ensures.value console_index c.in-Some-get.console.now c.in-Some-get.ensures.lookup.0 c.in-Some-get.ensures.lookup.1 in
    rw (number, found) (c.type_byte.ensures.readers none awake c.in-Some-get.console.now found)
