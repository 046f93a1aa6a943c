-- The part of a process that a table lends.
use Rattle.std.proofs.Common.{◌≡◌, ℕ, refl, ◌∙◌, sym, subst, Option, Some, None, List}
use Rattle.std.specs.Option.{IfSome}
use Rattle.posix.specs.Common.{Process, IsRising, lookup, changed}
use Rattle.posix.proofs.TableLemmas.{changed_absent}
use Rattle.proctable.specs.declared.own_part.OwnPart.{OwnPart}
use Rattle.proctable.specs.Records.{own_of, give_own}
use Rattle.proctable.proofs.RecordLemmas.{lent, unchanged}

-- the value of a loan, for an existing record
pub own_found : (rs : List Process) (p : ℕ) (o : OwnPart) (me : Process) → IfSome (lookup p rs) (λ r. o ≡ own_of r) → lookup p rs ≡ Some me → o ≡ own_of me
own_found rs p o me h e = subst (λ x. IfSome x (λ r. o ≡ own_of r)) e h

-- a loan through which nothing was written
pub read_at : (rs : List Process) (up : IsRising rs) (p : ℕ) (o : OwnPart) (found : Option Process) → lookup p rs ≡ found → IfSome found (λ r. o ≡ own_of r) → changed p (give_own o) rs ≡ rs
read_at rs up p o None e h = changed_absent p (give_own o) rs e
read_at rs up p o (Some me) e h = unchanged rs up p me o o e h refl

-- a loan through which the change f was written
pub written_at : (rs : List Process) (up : IsRising rs) (p : ℕ) (o w : OwnPart) (f : Process → Process) (found : Option Process) → lookup p rs ≡ found → IfSome found (λ r. o ≡ own_of r)
    → ((r : Process) → give_own w r ≡ f (give_own o r)) → changed p (give_own w) rs ≡ changed p f rs
written_at rs up p o w f None e h did = changed_absent p (give_own w) rs e ∙ sym (changed_absent p f rs e)
written_at rs up p o w f (Some me) e h did = lent rs up p me o w f e h (did me)
