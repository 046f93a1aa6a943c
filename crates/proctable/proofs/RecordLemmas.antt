-- What another record for a process changes.
use Rattle.std.proofs.Common.{◌≡◌, ℕ, refl, ap, ◌∙◌, List, Some}
use Rattle.posix.specs.Common.{Process, child_of, finished, IsRising, lookup, changed, parent_of}
use Rattle.posix.proofs.TableLemmas.{changed_same, changed_id, rising_changed}
use Rattle.proctable.specs.declared.own_part.OwnPart.{OwnPart}
use Rattle.proctable.specs.declared.records.Record.{Record}
use Rattle.proctable.specs.Records.{process_of, with_record, give_record, give_own, own_of}

-- a record that was changed by f, if the ID is p
pub changed_here : (rs : List Process) → IsRising rs → (p : ℕ) (b b' : Record) (f : Process → Process) → lookup p rs ≡ Some (process_of p (parent_of p rs) b)
    → ((q : ℕ) → process_of p q b' ≡ f (process_of p q b)) → with_record rs p b' ≡ changed p f rs
unfolding give_record
changed_here rs up p b b' f e same = changed_same p (give_record b') f rs up (process_of p (parent_of p rs) b) e (same (parent_of p rs))

-- a record that was only read
pub same_record : (rs : List Process) → IsRising rs → (p : ℕ) (b : Record) → lookup p rs ≡ Some (process_of p (parent_of p rs) b) → with_record rs p b ≡ rs
unfolding give_record
same_record rs up p b e = changed_id p (give_record b) rs up (process_of p (parent_of p rs) b) e refl

-- another record keeps the order
pub record_rises : (rs : List Process) → IsRising rs → (p : ℕ) (b : Record) → IsRising (with_record rs p b)
unfolding give_record
record_rises rs up p b = rising_changed p (give_record b) (λ r. refl) rs up

-- ---- a loan

-- another own part in the record is another own part of the process
pub own_record : (rs : List Process) → IsRising rs → (p : ℕ) (b : Record) (o : OwnPart) → lookup p rs ≡ Some (process_of p (parent_of p rs) b)
    → with_record rs p (record b { own = o }) ≡ changed p (give_own o) rs
own_record rs up p b o e = changed_here rs up p b (record b { own = o }) (give_own o) e (λ q. refl)

-- If the part that was lent is returned changed by f, the process is changed by f.
pub lent : (rs : List Process) → IsRising rs → (p : ℕ) (me : Process) (o w : OwnPart) (f : Process → Process) → lookup p rs ≡ Some me → o ≡ own_of me
    → give_own w me ≡ f (give_own o me) → changed p (give_own w) rs ≡ changed p f rs
lent rs up p me o w f e is did = changed_same p (give_own w) f rs up me e (did ∙ ap (λ x. f (give_own x me)) is)

-- If the part that was lent is returned as it was, nothing changes.
pub unchanged : (rs : List Process) → IsRising rs → (p : ℕ) (me : Process) (o w : OwnPart) → lookup p rs ≡ Some me → o ≡ own_of me → w ≡ o → changed p (give_own w) rs ≡ rs
unchanged rs up p me o w e is same = changed_id p (give_own w) rs up me e (ap (λ x. give_own x me) (same ∙ is))

-- ---- a new process

-- a child is in the process group and session of its parent
pub child_groups : (rs : List Process) (p birth : ℕ) (mine b : Record) → lookup p rs ≡ Some (process_of p (parent_of p rs) mine)
    → ((q r n : ℕ) → process_of n q b ≡ child_of birth (process_of q r mine) n)
    → (me : Process) → lookup p rs ≡ Some me → (b.group ≡ me.group) × (b.session ≡ me.session)
unfolding child_of finished
child_groups rs p birth mine b e child me here =
    let same : process_of p (parent_of p rs) mine ≡ me = cc in
    let born = child p (parent_of p rs) 0 in
    (ap (λ (r : Process). r.group) born ∙ ap (λ (r : Process). r.group) same, ap (λ (r : Process). r.session) born ∙ ap (λ (r : Process). r.session) same)
