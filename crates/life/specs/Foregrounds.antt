-- Which foreground process groups may have lost their members.
use Rattle.std.specs.Prelude.{◌≡◌, ℕ, ◌==◌, ◌||◌, Bool, true, false, if◌then◌else◌, List}
use Rattle.std.specs.List.{AllByRecursion}
use Rattle.posix.specs.Common.{Process, Console, is_fresh}
use Rattle.life.specs.declared.consoles.Unchecked.{Unchecked}
use Rattle.life.specs.declared.consoles.Unchecked.TheVariants.{Nothing, In, All}

-- a console whose foreground process group isn't known to have a member; number 0 is no session
abbrev pub is_unchecked : Unchecked → Console → Bool
is_unchecked Nothing c = false
is_unchecked (In session) c = session == 0 || c.session == session
is_unchecked All c = true

-- the same once the terminal of a session is unchecked, too
abbrev pub also_in : ℕ → Unchecked → Unchecked
also_in session Nothing = In session
also_in session (In other) = if other == session then In session else All
also_in session All = All

-- each other console has no foreground process group, or one with a member in its session
abbrev pub AreFreshBut : Unchecked → List Process → List Console → Type 0
AreFreshBut u rs cs = AllByRecursion (λ c. (is_unchecked u c || is_fresh rs c) ≡ true) cs
