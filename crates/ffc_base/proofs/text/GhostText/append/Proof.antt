-- An empty body: the borrow is opened, and closed at the list with the piece after it.
use Rattle.std.proofs.Common.{List, [], ◌∷◌, ◌++◌, refl}
use Rattle.std.proofs.raw_atomic.Walks.{proved}
use mir.Syntax.{named}
use mir.Val.{Val, vunit, vptr}
use base.Logic.{id⊢}
use base.Fml.{ftrue, flft}
use types.Kit.{‵, raw, ◌⊛◌, ◌$◌, ◌∵◌, !, qed, move, keep, drop, use1, split, join, fsplit, fsplit3, fjoin, fjoin3, feq_i, suffices, frame, done}
use types.Run.{unit_lit, of_opd, returns, enter}
use types.ByLocal.{alloc_all, pass_all, free_all, look_at, sets}
use denote.RattleType.{owns}
use denote.Builtin.{u8}
use denote.Exit.{yes}
use denote.Ref.{MutRef, mut_vals, mut_Tells}
use denote.Signature.{plain}
use denote.Slice.{ShrSlice, shr_slice_vals, shr_slice_Tells}
use denote.Steps.{opens, closes}
use denote.Triple.Walked.{says, Stays, stay_ref, stay_none_slice, Goes-ref, Goes-none_slice, ends_at}
use Rattle.ffc_base.specs.declared.text.GhostText.{GhostText}
use Rattle.ffc_base.specs.contracts.text.GhostText.{the_row as R}
use Rattle.ffc_base.specs.contracts.text.GhostText.append as f
use Rattle.ffc_base.proofs.text.GhostText.append.Statement.{statement}
use Rattle.ffc_base.proofs.text.GhostText.append.Code as code

abbrev stayed : Stays f.ended.signature.params f.ended.kept
stayed = (stay_ref (0 ∷ []) tt (plain (λ _. R)), (stay_none_slice (1 ∷ []) tt (plain (λ _. u8)) yes, tt))

pub append_spec : {M : Type 1} → statement M
append_spec 𝓤 𝓛 𝓜 𝓡 wired =
    let c = f.clauses 𝓛 𝓜.mem 𝓡.returns in
    proved 𝓛 f.ended stayed c 𝓜 𝓡 (Goes-ref 𝓛 2 0 tt (plain (λ _. R)), (Goes-none_slice 𝓛 2 (1 ∷ []) tt (plain (λ _. u8)) yes, tt))
    f.Key.name code.function (code.unfolded 𝓤 𝓛.H 𝓜 𝓡 wired)
    (λ κs. (mut_vals, (shr_slice_vals, tt))) (λ κs. (mut_Tells (named 0) κs.0 R, (shr_slice_Tells (named 1) κs.1.0 u8, tt))) (λ κs qs bounds a g are.
    let b = a.0.ref_ptr.0 in let o = a.0.ref_ptr.1 in let so_far = a.0.now in let piece = a.1.0 in
    let vs = mut_vals a.0 in let ps = shr_slice_vals piece in
    let more : GhostText = record { bytes = so_far.bytes ++ piece.now } in
    qed 𝓛 (((‵ (flft κs.0 qs.0) ⊛ (‵ (flft κs.1.0 qs.1.0) ⊛ ‵ ftrue)) ⊛ ‵ (owns (MutRef (named 0) κs.0 R ∷ ShrSlice (named 1) κs.1.0 u8 ∷ []) a (vs, (ps, tt)))) ∷ raw ((c κs a).requires g) ∷ []) ∵
    keep ! (0 ∷ []) $ split ! $ split ! $ move ! (2 ∷ []) $ fsplit ! $ fsplit3 ! $ drop ! $ move ! (0 ∷ 1 ∷ 3 ∷ []) $
    enter ! _ _ _ _ _ $ alloc_all ! (λ l. pass_all ! refl ((tt, tt), ((tt, (tt, (record { fits = are.1.0.0.1.0 }, tt))), tt)) $
    move ! (0 ∷ 1 ∷ 2 ∷ []) $ opens ! tt R {h = so_far} b o (λ us.
    sets ! (of_opd ! (unit_lit !)) refl (tt, tt) $
    move ! (1 ∷ []) $ use1 𝓛 (‵ (R.own_val more us)) (id⊢ 𝓤 _) $ move ! (1 ∷ 0 ∷ []) $ closes ! tt R more us b o $
    returns ! (look_at ! 0 refl) $ free_all ! refl $
    keep ! (0 ∷ 1 ∷ 2 ∷ 3 ∷ 4 ∷ []) $
    suffices ! _ (ends_at 𝓛 f.ended stayed c ((κs, qs, bounds, a, (vs, (ps, tt))), g) vunit tt (more, (tt, tt)) (tt, (tt, tt))) $ says ! refl $
    move ! (2 ∷ 4 ∷ []) $ join ! $ frame ! $ feq_i ! (List Val) (vptr b o ∷ []) (vptr b o ∷ []) refl $ fjoin3 ! $ fjoin ! $
    feq_i ! (List Val) (vunit ∷ []) (vunit ∷ []) refl $ move ! (1 ∷ 0 ∷ []) $ done !)))
