-- Which line is shown.
use Rattle.std.proofs.Common.{◌⊎◌, ℕ, List, inl, inr, refl}
use Rattle.text.specs.declared.fault.Reason.{Reason}
use Rattle.text.specs.declared.fault.Reason.TheVariants.{UnknownWord, BadNumber, OutOfRange, NameUnknown, NameTwice, LineTooLong, EndMissing, NoProgram, Memory}
use Rattle.refusing.specs.Telling.{EndsEarly, IsNumber}

-- it is the line of the fault, unless the text ends too early
pub own_line : (reason : Reason) (line : ℕ) (named : List ℕ) → EndsEarly reason ⊎ IsNumber reason line named line
own_line UnknownWord line named = inr refl
own_line BadNumber line named = inr refl
own_line OutOfRange line named = inr refl
own_line NameUnknown line named = inr tt
own_line NameTwice line named = inr refl
own_line LineTooLong line named = inr refl
own_line EndMissing line named = inl (inl refl)
own_line NoProgram line named = inl (inr refl)
own_line Memory line named = inr refl
