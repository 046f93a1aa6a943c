-- The actions for signals, field by field.
use Rattle.std.specs.Prelude.{ℕ, ℤ, ◌≡◌, List, map, length, pos, replicate, slice_index_or}
use Rattle.std.specs.List.{range_with_len}
use Rattle.posix.specs.declared.process.Action.{Action}
use Rattle.posix.specs.declared.process.Handler.{Handler}
use Rattle.posix.specs.declared.process.Handler.TheVariants as handler
use Rattle.posix.specs.declared.sa_flags.SaFlags.{SaFlags}
use Rattle.posix.specs.Common.{no_flags}
use Rattle.signal.specs.declared.action_fields.Actions.{Actions}
use Rattle.signal.specs.declared.action_fields.Disposition.{Disposition}
use Rattle.signal.specs.declared.action_fields.Disposition.TheVariants as disposition

-- the address is used only if the signal is caught
abbrev pub handler_from : Disposition → ℤ → Handler
handler_from disposition.Default address = handler.Default
handler_from disposition.Ignore address = handler.Ignore
handler_from disposition.Catch address = handler.At address

-- a handler of the old program is gone
abbrev pub disposition_on_exec : Disposition → Disposition
disposition_on_exec disposition.Default = disposition.Default
disposition_on_exec disposition.Ignore = disposition.Ignore
disposition_on_exec disposition.Catch = disposition.Default

abbrev pub action_from : Handler → ℕ → SaFlags → Action
action_from handler mask flags = record { handler = handler; mask = mask; flags = flags }

-- the action for signal i + 1
abbrev pub action_at : Actions → ℕ → Action
action_at a i =
    let handler = handler_from (slice_index_or a.dispositions i disposition.Default) (slice_index_or a.addresses i (pos 0)) in
    action_from handler (slice_index_or a.masks i 0) (slice_index_or a.flags i no_flags)

-- the model of the fields
unfoldable pub actions_of : Actions → List Action
actions_of a = map (action_at a) (range_with_len 0 64)

-- each field has 64 places
abbrev pub AreFields : Actions → Type 0
AreFields a = (length a.dispositions ≡ 64) × (length a.addresses ≡ 64) × (length a.masks ≡ 64) × (length a.flags ≡ 64)

-- the fields of process 1 at boot
unfoldable pub blank_actions : Actions
blank_actions = record { dispositions = replicate 64 disposition.Default; addresses = replicate 64 (pos 0); masks = replicate 64 0; flags = replicate 64 no_flags }

-- the fields that are kept, or the default ones
abbrev pub actions_or_blank : List Actions → Actions
actions_or_blank kept = slice_index_or kept 0 blank_actions
