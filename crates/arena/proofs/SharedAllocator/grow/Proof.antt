-- It answers what the shared allocator answers. Assumes `Logic`.
use Rattle.std.proofs.Common.{◌≡◌, ℕ, ◌^◌, ◌<◌, Bool, List, [], ◌∷◌, refl, sym, w64, Bor}
use seplogic.Ra.Ura.{Ura}
use mir.Syntax.{Args, Fn, a_type, dnil, dcons}
use mir.Val.{Val, vint, vptr}
use mir.MapTy.{inst_fn}
use base.Logic.{SProp, ent, never_e}
use base.Fml.{Lft, Share, Fml, ftrue, flft}
use prog.Memory.{Memory}
use prog.Routine.{Routine}
use prog.Wp.{WpFn, Tables}
use types.Logic.{Logic}
use contract.BorrowLft.{◌⊑◌, ⊑_trans}
use contract.Monad.{Fun}
use contract.Running.{tables, tables_of}
use sound.WpLaws.{fm_of, WpFn-mono}
use types.Run.{no_more, and_then, returns, enter}
use denote.Exit.{yes}
use denote.RattleType.{RattleType, owns}
use denote.Ref.{shr_vals}
use denote.Param.{bounded, param}
use denote.Plain.{uint_vals, uint_Tells}
use denote.Signature.{Slot, plain, types_at}
use denote.Steps.{nothing}
use denote.Triple.Clauses.{Ended, Clauses}
use denote.Triple.Spec.{triple_of}
use denote.Triple.Statement.{Triple, Contract}
use denote.Triple.Table.{entered}
use denote.Triple.Walked.{Stays, stay_dropped, walk_of, ends_at, walked, Goes-dropped, walk_Meets}
use types.Kit.{Item, ‵, raw, ◌⊛◌, some, later, given, ◌$◌, ◌∵◌, !, qed, by, move, keep, use0, use1, use2, pick, learn, rewrite, split, split3, join, fsplit, fjoin, suffices, await, done}
use types.ByLocal.{alloc_all, pass_all, free_all, look_at, get, lands_as}
use denote.RawPtr.{Ptr, block_ptr, null_ptr, ptr_val, rawptr_vals, rawptr_Tells}
use denote.Builtin.{usize, RawPtr, RefOf}
use denote.Triple.Call.{calls_at}
use Rattle.std.specs.Allocator.{block_with_items}
use Rattle.std.proofs.alloc.Calls.{Al, seen, token, Answer, answer_val, Answer-typed}
use Rattle.std.proofs.alloc.Resizes.{Grows, resize_key, Resizes, at_resizes, left_by, Resizes-goes, Resizes-gives, result_of, result_own, asked, heard_all}
use Rattle.arena.specs.contracts.Shared as wrapper
use Rattle.arena.specs.contracts.SharedAllocator.grow as F
use Rattle.arena.specs.contracts.SharedAllocator.grow.Key as key
use Rattle.arena.proofs.SharedAllocator.grow.Statement as stated
use Rattle.arena.proofs.SharedAllocator.grow.Code as code
use Rattle.arena.proofs.Shared.lent.Met as lent_met
use Rattle.arena.proofs.Lends.{lent_key, Lends, at_lent, Told, lent_goes, lent_Gives}

module _ (Z : Al) (X : RattleType) where
  abbrev args : Args
  args = bounded (a_type ∷ a_type ∷ []) (Z.row, (X, tt)) (dcons Z.d (dcons Z.drops dnil))

  abbrev here : Fn
  here = inst_fn args code.function

  abbrev self : Slot 3
  self = RefOf (0 ∷ []) tt (plain (λ _. wrapper.the_row (param 0 Z.row))) (λ _. tt)

  abbrev ended : Ended
  ended = F.ended Z.row X Z.g Z.d Z.drops

  abbrev stayed : Stays ended.signature.params ended.kept
  stayed = (stay_dropped self yes, (stay_dropped (plain (λ _. RawPtr)) yes, (stay_dropped (plain (λ _. usize)) yes, (stay_dropped (plain (λ _. usize)) yes, (stay_dropped (plain (λ _. usize)) yes, tt)))))

module _ (Z : Al) (X : RattleType) {M : Type 1} {𝓤 : Ura M} (𝓛 : Logic 𝓤) (at_mem : Memory → SProp 𝓤) (run : Routine → Fun 𝓤) (𝓣 : Tables 𝓤 𝓛.H)
    (re : Triple 𝓤 (𝓣.C (resize_key Z X 2)) (Resizes Z X (Grows X) 𝓛 at_mem run)) (ln : Triple 𝓤 (𝓣.C (lent_key Z)) (Lends Z 𝓛 at_mem run)) where
  open 𝓛 use {H}

  abbrev held : Clauses 𝓤 (ended Z X)
  held = F.clauses Z.row X Z.g Z.d Z.drops 𝓛 at_mem run

  abbrev Called : Contract 𝓤
  Called = Resizes Z X (Grows X) 𝓛 at_mem run

  module _ (κ₁ κ₂ κT : Lft) (q₁ q₂ qT : Share) (inn : κ₁ ⊑ κ₂) (r : Bor (wrapper.the_row Z.row).Denot) (len old new : ℕ) (xs : List X.Denot) where
    abbrev bound : Ptr → (walk_of 𝓛 (ended Z X) (stayed Z X) held).Ghost
    bound x = (((κ₁, (κ₂, (κT, tt))), (q₁, (q₂, (qT, tt))), (inn, tt), (r, (x, (len, (old, (new, tt))))), (shr_vals r, (rawptr_vals x, (vint w64 len ∷ [], (vint w64 old ∷ [], (vint w64 new ∷ [], tt)))))), xs)

    abbrev vs : Ptr → List Val
    vs x = vptr r.ref_ptr.0 r.ref_ptr.1 ∷ ptr_val x ∷ vint w64 len ∷ vint w64 old ∷ vint w64 new ∷ []

    abbrev Post : Ptr → Val → SProp 𝓤
    Post x = (walk_of 𝓛 (ended Z X) (stayed Z X) held).post (bound x)

    abbrev entry : Ptr → Item 𝓤
    entry x = (‵ (flft κ₁ q₁) ⊛ ‵ (flft κ₂ q₂) ⊛ ‵ (flft κT qT) ⊛ ‵ ftrue) ⊛ ‵ (owns (types_at (ended Z X).signature.params (bound x).0.0) (bound x).0.3 (bound x).0.4)

    abbrev block : Ptr → Fml
    block x = block_with_items (token Z r.now) (param 1 X) x len old xs

    walk : len < 2 ^ 64 → old < 2 ^ 64 → new < 2 ^ 64 → (x : Ptr) → ent 𝓤 ((walk_of 𝓛 (ended Z X) (stayed Z X) held).pre (bound x)) (WpFn 𝓤 H 𝓣.C 𝓣.Λ (here Z X) (vs x) (Post x))
    walk fl fo fn null_ptr =
        qed 𝓛 (entry null_ptr ∷ raw (asked 𝓛 (κ₂ ⊑ Z.row.lives) (κT ⊑ X.lives) (Grows X len old new) (block null_ptr)) ∷ []) ∵ move ! (1 ∷ []) $
        heard_all ! (κ₂ ⊑ Z.row.lives) (κT ⊑ X.lives) (Grows X len old new) (block null_ptr) (λ _ _ _. fsplit ! $ keep ! (0 ∷ []) $ by ! (never_e 𝓤 _))
    walk fl fo fn (block_ptr b o) =
        let x : Ptr = block_ptr b o in
        qed 𝓛 (entry x ∷ raw (asked 𝓛 (κ₂ ⊑ Z.row.lives) (κT ⊑ X.lives) (Grows X len old new) (block x)) ∷ []) ∵
        move ! (1 ∷ []) $ heard_all ! (κ₂ ⊑ Z.row.lives) (κT ⊑ X.lives) (Grows X len old new) (block x) (λ le leT said. move ! (1 ∷ []) $
        split ! $ split3 ! $ move ! (2 ∷ []) $ split ! $ move ! (3 ∷ 1 ∷ []) $ join ! $ move ! (2 ∷ 0 ∷ []) $ join ! $ move ! (2 ∷ []) $ fsplit ! $ fsplit ! $ keep ! (1 ∷ 3 ∷ 4 ∷ 5 ∷ []) $
        -- [the `&` to the handle; κ₁'s and κ₂'s tokens; κT's; the block]
        enter ! 𝓣.C 𝓣.Λ (here Z X) (vs x) _ $ alloc_all ! (λ l. pass_all ! refl ((tt, tt), ((tt, tt), ((tt, record { fits = fl }), ((tt, record { fits = fo }), ((tt, record { fits = fn }), tt))))) $
        use2 𝓛 (raw ((Lends Z 𝓛 at_mem run).pre (at_lent Z 𝓛 at_mem run κ₁ κ₂ q₁ q₂ inn r))) (lent_goes Z 𝓛 at_mem run κ₁ κ₂ q₁ q₂ inn r le) $
        calls_at ! (fm_of 𝓤 H 𝓛.laws 𝓣) (Lends Z 𝓛 at_mem run) ln (at_lent Z 𝓛 at_mem run κ₁ κ₂ q₁ q₂ inn r) (and_then ! (get ! refl) (no_more !)) (λ u.
        use1 𝓛 (later (some (λ (g : Bor Z.row.Denot). given ((u ≡ vptr g.ref_ptr.0 g.ref_ptr.1) × Told Z 𝓛 at_mem run κ₁ κ₂ q₁ q₂ inn r g) (‵ (seen Z κ₁ g.ref_ptr g.now) ⊛ ‵ (flft κ₁ q₁) ⊛ ‵ (flft κ₂ q₂) ⊛ ‵ ftrue))))
        (lent_Gives Z 𝓛 at_mem run κ₁ κ₂ q₁ q₂ inn r u) $ await ! tt $ pick ! (λ inner. learn ! (λ is. split3 ! $ lands_as ! is.0 refl (tt, tt) $
        -- [the `&` to the allocator; its token; the other token; κT's; the block]
        let h : Z.row.Denot = inner.now in
        let p : ℕ × ℕ = inner.ref_ptr in
        let y : Called.Ghost = at_resizes Z X (Grows X) 𝓛 at_mem run κ₁ κT q₁ qT p h b o len old new xs in
        let left : Z.row.Denot → Answer.Denot → Fml = λ z. left_by Z X (Grows X) 𝓛 at_mem run κ₁ κT q₁ qT p z b o len old new xs in
        rewrite ! 4 (λ (z : Z.row.Denot). ‵ (block_with_items (token Z z) (param 1 X) x len old xs)) (sym is.1) refl $
        move ! (1 ∷ 3 ∷ []) $ join ! $ move ! (1 ∷ 0 ∷ []) $ join ! $ move ! (2 ∷ 0 ∷ []) $ join ! $
        use1 𝓛 (raw (Called.pre y)) (Resizes-goes Z X (Grows X) 𝓛 at_mem run κ₁ κT q₁ qT p h b o len old new xs (⊑_trans κ₁ κ₂ Z.row.lives inn le) leT said fl fo fn) $
        calls_at ! (fm_of 𝓤 H 𝓛.laws 𝓣) Called re y (and_then ! (get ! refl) (and_then ! (get ! refl) (and_then ! (get ! refl) (and_then ! (get ! refl) (and_then ! (get ! refl) (no_more !)))))) (λ v.
        use1 𝓛 (later (some (λ (c : Bool × (ℕ × ℕ)). given (v ≡ answer_val c.0 c.1.0 c.1.1) (‵ (left h (result_of c.0 c.1.0 c.1.1)))) ⊛ ‵ (flft κ₁ q₁) ⊛ ‵ (flft κT qT)))
        (Resizes-gives Z X (Grows X) 𝓛 at_mem run κ₁ κT q₁ qT p h b o len old new xs v) $ await ! tt $ split3 ! $ pick ! (λ c. learn ! (λ e.
        let res : Answer.Denot = result_of c.0 c.1.0 c.1.1 in
        rewrite ! 0 (λ (z : Z.row.Denot). ‵ (left z res)) is.1 refl $
        lands_as ! e refl (Answer-typed c.0 c.1.0 c.1.1) $ returns ! (look_at ! 0 refl) $ free_all ! refl $
        suffices ! _ (ends_at 𝓛 (ended Z X) (stayed Z X) held (bound x) (answer_val c.0 c.1.0 c.1.1) res (tt, (tt, (tt, (tt, (tt, tt))))) (tt, (tt, (tt, (tt, (tt, tt)))))) $
        use0 𝓛 (‵ (Answer.own_val res (answer_val c.0 c.1.0 c.1.1 ∷ []))) (result_own 𝓛 c.0 c.1.0 c.1.1) $
        nothing ! $ nothing ! $ fjoin ! $ nothing ! $ fjoin ! $ nothing ! $ fjoin ! $ nothing ! $ fjoin ! $ nothing ! $ fjoin ! $ join ! $
        -- [the result; the block; κ₁'s, κT's and κ₂'s]
        move ! (4 ∷ []) $ split ! $ move ! (5 ∷ 1 ∷ []) $ join ! $ move ! (1 ∷ 0 ∷ []) $ join ! $ move ! (3 ∷ 0 ∷ []) $ join ! $ join ! $ done !))))))))

pub grow_spec : {M : Type 1} → stated.statement M
unfolding tables_of
grow_spec 𝓤 𝓛 𝓜 𝓡 wired Y X LY L g d d' met _ =
    let Z : Al = record { row = Y; laws = LY; g = g; d = d; drops = d' } in
    let A = 𝓛.A in
    let 𝓣 : Tables 𝓤 𝓛.H = tables_of 𝓤 𝓛.H 𝓜 (tables 𝓤 𝓛.H 𝓜 𝓡 𝓡.env) in
    let c = F.clauses Y X g d d' 𝓛 𝓜.mem 𝓡.returns in
    let gone = λ (V : RattleType). Goes-dropped 𝓛 3 (plain (λ _. V)) yes in
    entered 𝓤 𝓛.H (triple_of 𝓛 (F.signature Y X) (F.spec Y X g d d' 𝓛 𝓜.mem 𝓡.returns)) 𝓣.C 𝓣.Λ (key.name (args Z X)) (here Z X) (code.unfolded 𝓤 𝓛.H 𝓜 𝓡 wired (Y, (X, tt)) d d')
    (walk_Meets 𝓛 (ended Z X) (stayed Z X) (Goes-dropped 𝓛 3 (self Z X) yes (λ κs x f. refl), (gone RawPtr (λ κs x f. refl), (gone usize (λ κs x f. refl), (gone usize (λ κs x f. refl), (gone usize (λ κs x f. refl), tt))))) c (WpFn 𝓤 𝓛.H 𝓣.C 𝓣.Λ (here Z X)) (WpFn-mono 𝓤 𝓛.H 𝓛.laws 𝓣 (here Z X))
    (walked 𝓛 (ended Z X) (stayed Z X) c (WpFn 𝓤 𝓛.H 𝓣.C 𝓣.Λ (here Z X)) (λ κs. (shr_vals, (rawptr_vals, (uint_vals w64, (uint_vals w64, (uint_vals w64, tt)))))) (λ κs. ((λ r vs s. s.0), (rawptr_Tells, (uint_Tells w64, (uint_Tells w64, (uint_Tells w64, tt))))))
    (λ κs qs bounds a xs are. walk Z X 𝓛 𝓜.mem 𝓡.returns 𝓣 (met.grow d' X L) (lent_met.met 𝓤 𝓛 𝓜 𝓡 (code.calls-arena::Shared::lent 𝓡.env wired) Y LY) κs.0 κs.1.0 κs.1.1.0 qs.0 qs.1.0 qs.1.1.0 bounds.0 a.0 a.1.1.0 a.1.1.1.0 a.1.1.1.1.0 xs are.1.1.0.1 are.1.1.1.0.1 are.1.1.1.1.0.1 a.1.0)))
