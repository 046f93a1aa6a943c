-- `Shared::lent` at a call. Assumes `Logic`.
--     Lends, at_lent, lent_goes, lent_Gives      its contract, what it is handed, and the allocator that it shows
use Rattle.std.proofs.Common.{◌≡◌, List, [], ◌∷◌, refl, ap, Bor}
use seplogic.Ra.Ura.{Ura}
use mir.Syntax.{Callee, a_type, named}
use mir.Val.{Val, vptr}
use base.Logic.{SProp, ent, sep, ex, guard, emp, id⊢}
use base.Fml.{Lft, Share, ftrue, fsep}
use prog.Memory.{Memory}
use prog.Routine.{Routine}
use types.Logic.{Logic, sem}
use contract.BorrowLft.{◌⊑◌}
use contract.Monad.{Fun, fact, fact_i}
use types.Kit.{‵, raw, ◌⊛◌, some, later, given, ◌$◌, ◌∵◌, !, qed, move, keep, use0, use1, split, join, pick, learn, fsplit, fjoin, feq_l, feq_i, check, show, await, updating, now as at_once, done}
use denote.Memory.{hidden_shr}
use denote.Param.{layouts, param}
use denote.Ref.{ShrRef, shr_vals}
use denote.Steps.{only, nothing}
use denote.Triple.Statement.{Contract}
use denote.Triple.Spec.{triple_of}
use Rattle.std.proofs.alloc.Calls.{Al, seen}
use Rattle.arena.specs.contracts.Shared as S
use Rattle.arena.specs.contracts.Shared.lent as F
use Rattle.arena.specs.contracts.Shared.lent.Key as key

module _ (Z : Al) where
  abbrev pub lent_key : Callee
  lent_key = key.name (layouts (a_type ∷ []) (Z.row, tt))

  abbrev pub Handle : Type 0
  Handle = (S.the_row Z.row).Denot

module _ (Z : Al) {M : Type 1} {𝓤 : Ura M} (𝓛 : Logic 𝓤) (at_mem : Memory → SProp 𝓤) (run : Routine → Fun 𝓤) where
  open 𝓛 use {H, A}

  abbrev pub Lends : Contract 𝓤
  Lends = triple_of 𝓛 (F.signature Z.row) (F.spec Z.row 𝓛 at_mem run)

  module _ (κ ρ : Lft) (q s : Share) (out : κ ⊑ ρ) (r : Bor (Handle Z)) where
    abbrev pub at_lent : Lends.Ghost
    at_lent = (((κ, (ρ, tt)), (q, (s, tt)), (out, tt), (r, tt), (shr_vals r, tt)), tt)

    abbrev Tokens : SProp 𝓤
    Tokens = sep 𝓤 (A.lft κ q) (sep 𝓤 (A.lft ρ s) (emp 𝓤))

    abbrev pub Told : Bor Z.row.Denot → Type 0
    Told b = b.now ≡ r.now

    pub lent_goes : ρ ⊑ Z.row.lives → ent 𝓤 (sep 𝓤 (sem 𝓛 (hidden_shr (S.the_row (param 0 Z.row)) κ r.now r.ref_ptr.0 r.ref_ptr.1)) Tokens) (Lends.pre at_lent)
    lent_goes le = qed 𝓛 (‵ (hidden_shr (S.the_row (param 0 Z.row)) κ r.now r.ref_ptr.0 r.ref_ptr.1) ∷ raw Tokens ∷ []) ∵
        feq_i ! (List Val) (shr_vals r) (shr_vals r) refl $ fjoin ! $ nothing ! $ move ! (1 ∷ 0 ∷ []) $ fjoin ! $ move ! (1 ∷ 0 ∷ []) $ join ! $
        nothing ! $ use0 𝓛 (raw (fact 𝓤 (ρ ⊑ Z.row.lives))) (fact_i 𝓤 (ρ ⊑ Z.row.lives) (emp 𝓤) le) $ join ! $ move ! (1 ∷ 0 ∷ []) $ done !

    abbrev pub Found : Val → Bor Z.row.Denot → SProp 𝓤
    Found v b = guard 𝓤 ((v ≡ vptr b.ref_ptr.0 b.ref_ptr.1) × Told b) (sep 𝓤 (sem 𝓛 (seen Z κ b.ref_ptr b.now)) Tokens)

    pub lent_Gives : (v : Val) → ent 𝓤 (Lends.post at_lent v) (H.⇛ (ex 𝓤 (Found v)))
    lent_Gives v = qed 𝓛 (raw (Lends.post at_lent v) ∷ []) ∵ updating ! $
        use1 𝓛 (later (some (λ (b : Bor Z.row.Denot). (raw Tokens ⊛ ‵ ((ShrRef (named 0) κ (param 0 Z.row)).own_val b (v ∷ []))) ⊛ some (λ (ws : Unit {0} × Unit {0}). ‵ (fsep ftrue ftrue) ⊛ given (Told b) (‵ ftrue))))) (id⊢ 𝓤 _) $ await ! tt $ pick ! (λ b.
        split ! $ split ! $ move ! (1 ∷ []) $ fsplit ! $ feq_l ! (λ e. move ! (2 ∷ []) $ pick ! (λ ws. split ! $ move ! (1 ∷ []) $ learn ! (λ k.
        at_once ! $ show ! (Found v) b $ check ! (ap only e, k) $ keep ! (2 ∷ 3 ∷ []) $ done !))))
