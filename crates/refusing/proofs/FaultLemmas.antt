-- The faults of a text, one after another.
use Rattle.std.proofs.Common.{◌≡◌, ℕ, ◌-◌, ◌<◌, zero, suc, List, ◌++◌, Option, inl, inr, arith}
use Rattle.inputs.specs.Reads.{Text}
use Rattle.naming.specs.Texts.{IsNamed}
use Rattle.text.specs.declared.fault.TextFault.{TextFault}
use Rattle.refusing.specs.Faults.{HasFault, Tells, without_line}
use Rattle.refusing.specs.Telling.{IsToldOf, ShowsLine}
use Rattle.refusing.specs.declared.telling.Shown.{Shown}

-- only the first fault is reported
pub alone : (others : ℕ) (consoles : Option ℕ) (name : Text) (given named : List ℕ) (why : TextFault) (shown : Shown) (out : List ℕ) → IsToldOf name given named why shown out
    → Tells others consoles name given named why out
unfolding Tells
alone zero consoles name given named why shown out h = (shown, h)
alone (suc others) consoles name given named why shown out h = inl (shown, h)

-- other faults are reported after the first
pub behind : (others : ℕ) (consoles : Option ℕ) (name : Text) (given of_given : List ℕ) (why : TextFault) (shown : Shown) (out : List ℕ) (number : ℕ) (left_name : Text)
    (left named told : List ℕ) (next : TextFault) (first rest bytes : List ℕ) → 0 < others → IsToldOf name given of_given why shown first → ShowsLine shown number → left_name ≡ name
    → left ≡ without_line number given → IsNamed left named told → HasFault consoles named next → Tells (others - 1) consoles left_name left named next rest → out ≡ first ++ bytes
    → bytes ≡ rest → Tells others consoles name given of_given why out
unfolding Tells
behind zero consoles name given of_given why shown out number left_name left named told next first rest bytes some h shows same is is_named has more put are = absurd (omega (arith, some))
behind (suc others) consoles name given of_given why shown out number left_name left named told next first rest bytes some h shows same is is_named has more put are =
    let less : suc others - 1 ≡ others = omega arith in
    inr (number, named, told, next, shown, first, rest, h, shows, rw is at is_named, has, rw (same, is, less) at more, rw are at put)
