-- The MIR of `match self.in_place(..) { Ok(()) => Ok(self), Err(error) => Err(error) }`, and its run. Assumes `Logic`.
use mathlib.Core.Path.{◌≡◌, refl, sym, subst}
use Prim.Native.Nat.{ℕ, ◌+◌}
use mathlib.Core.List.{List, [], ◌∷◌, ◌++◌}
use native.Mathlib.Nat.{suc-ne-zero}
use base.Fraction.{full_share}
use lib.Dec.{T, lit<}
use seplogic.Ra.Ura.{Ura}
use mir.Syntax.{Ty, ty_ref, ty_unit, ty_enum, tcons, tnil, ttcons, ttnil, Lifetime, named, erased, mut, Local, local, value_local, Fn, Callee, Body, Step as PStep, Opd as Operand, Rv as RValue, assign, seq, call, switch, arm, no_default, return, place, deref, variant, field, addr_of, aggregate, rv_opd, copy, int, w8}
use mir.Val.{Val, vptr, has_ty, WT}
use base.Logic.{SProp, ent}
use base.Fml.{fat, froom}
use prog.Wp.{Env, Spot, spot_of, Calls, Loops, WpFn}
use types.Logic.{Logic}
use sound.WpLaws.{FmC}
use types.Kit.{Item, ‵, raw, some, later, Post, at_ret, prop, runs, lands, frees, Seq, Sq, Go, Step, step, ◌$◌, ◌∵◌, !, qed, move, pick, await, done}
use types.Run.{Writes, Walks, Finds, Rv, look, init, forget, from, hop, load, assigns, assigns_last, land, calls, stop, fld, addr, lit, of_opd, and_then, no_more, first, exec, returns, enter}
use types.Part.{whole, agg, look_in}
use types.Match.{vrt, in_variant, look_tag, by_variants}
use types.ByLocal.{at, alloc_all, pass_all, free_all, get, through, sets}
use denote.Builtin.{unit}
use denote.Memory.{lone}
use denote.RattleType.{RattleType}
use denote.Ref.{MutRef}
use Rattle.std.specs.contracts.result.Result as RS
use Rattle.jsonpath_select.specs.plan.lending.Lending.{and_true}
use Rattle.jsonpath_select.specs.plan.lending.LentForCall.{OkOrErr, answered_value, Answered, by_ok_or_err}

-- a `Result` of these types
abbrev like : Ty → Ty → Ty → Ty
like (ty_enum ν τss) τ ε = ty_enum ν (ttcons (tcons τ tnil) (ttcons (tcons ε tnil) ttnil))
like _ τ ε = ty_unit

abbrev referent : Ty → Ty
referent (ty_ref ℓ m τ) = τ
referent τ = τ

abbrev outcome : Ty → Ty → Ty
outcome = like (lone (RS.the_row unit unit).mir)

-- a type as it is named behind_call a reference
abbrev named_as : RattleType → Ty
named_as R = referent (lone (MutRef erased [] R).mir)

module _ {M : Type 1} {𝓤 : Ura M} {𝓛 : Logic 𝓤} {K : Type 0} {Γ : List (Item 𝓤)} {E : Env 𝓤 𝓛.H} {i : ℕ} {sp : Spot 𝓤 𝓛.H} where
  -- a place in a local whose spot is known
  found : K → {st : List PStep} {sp' : Spot 𝓤 𝓛.H} → spot_of 𝓤 𝓛.H E i ≡ sp → Walks K 𝓛 Γ E sp st sp' → Finds K 𝓛 Γ E (place i st) sp'
  found t {st} {sp'} is w = from t (subst (λ (s : Spot 𝓤 𝓛.H). Walks K 𝓛 Γ E s st sp') (sym is) w)

  -- a call's result, which is known to be v', is stored there
  stores : K → {C : Calls 𝓤 𝓛.H} {Λ : Loops 𝓤 𝓛.H} {q : Post 𝓤 𝓛.H} {rest : Body} {v v' : Val} {Γ' : List (Item 𝓤)} → v ≡ v' → spot_of 𝓤 𝓛.H E i ≡ sp → Writes K 𝓛 Γ sp.0 sp.1 sp.2 v' Γ'
      → Step K 𝓛 Γ' (runs C Λ E rest q) Γ (lands C Λ E (place i []) v rest q)
  stores t {C} {Λ} {q} {rest} same is w = step (λ s. subst (λ (z : Val). Seq K 𝓛 Γ (lands C Λ E (place i []) z rest q)) (sym same) (land t (found t is (stop t)) w $ s))

-- the lender's type as the signature and as the body name it, the types of the parameters beside it, and the error's
module _ (n : ℕ) (os : List (ℕ × ℕ)) (key : Callee) (R R' : RattleType) (α ε : Ty) where
  abbrev ref : Lifetime → Ty → Ty
  ref ℓ τ = ty_ref ℓ mut τ

  abbrev value : Ty → Local
  value τ = local τ value_local

  -- the local numbered `out` holds the outcome, which goes by the others to the result
  abbrev match_on : ℕ → ℕ → ℕ → ℕ → ℕ → Body
  match_on out error answer again moved =
      switch (copy (place out (variant 0 ∷ field 0 ∷ [])))
      (arm (0 ∷ []) (seq (assign (place again []) (addr_of (place 1 (deref (lone R'.mir) ∷ [])))) (assign (place answer []) (aggregate (int w8 0 ∷ copy (place again []) ∷ []))))
      (arm (1 ∷ []) (seq (assign (place error []) (rv_opd (copy (place out (variant 1 ∷ field 1 ∷ []))))) (seq (assign (place moved []) (rv_opd (copy (place error [])))) (assign (place answer []) (aggregate (int w8 1 ∷ copy (place moved []) ∷ [])))))
      no_default))

  abbrev return_answer : ℕ → Body
  return_answer answer = seq (assign (place 0 []) (rv_opd (copy (place answer [])))) return

  -- The body: `k` parameters beside these two, and `h` locals for what is made of them before the call.
  abbrev of_call : (k h : ℕ) → List Local → List Local → (Body → Body) → List Operand → Fn
  of_call k h more made before handed = record {
    lifetimes = n;
    outlives = os;
    ty_params = [];
    givens = 0;
    params = 2 + k;
    locals = value (outcome (ref (named 0) (named_as R)) ε) ∷ value (ref (named 0) (named_as R)) ∷ value α ∷ (more ++ (value ε ∷ value (outcome ty_unit ε) ∷ value (ref erased (named_as R')) ∷ (made ++ (value (outcome (ref erased (named_as R')) ε) ∷ value (ref erased (named_as R')) ∷ value ε ∷ []))));
    body = seq (assign (place (5 + k) []) (addr_of (place 1 (deref (lone R'.mir) ∷ [])))) (before (seq (call key (copy (place (5 + k) []) ∷ copy (place 2 []) ∷ handed) (place (4 + k) [])) (seq (match_on (4 + k) (3 + k) (6 + k + h) (7 + k + h) (8 + k + h)) (return_answer (6 + k + h)))));
  }

  abbrev pub of_one : Fn
  of_one = of_call 0 0 [] [] (λ rest. rest) []

  -- with one more parameter, which is handed on as it came
  abbrev pub of_two : Ty → Fn
  of_two β = of_call 1 0 (value β ∷ []) [] (λ rest. rest) (copy (place 3 []) ∷ [])

  -- where the call is handed what is made of it
  abbrev of_made : Ty → Ty → RValue → Fn
  of_made β β' rv = of_call 1 1 (value β ∷ []) (value β' ∷ []) (seq (assign (place 7 []) rv)) (copy (place 7 []) ∷ [])

  -- it is moved into a local whose type names no lifetime
  abbrev pub of_moved : Ty → Ty → Fn
  of_moved β β' = of_made β β' (rv_opd (copy (place 3 [])))

  -- it is a reference, which is lent on
  abbrev pub of_lent : Lifetime → RattleType → Fn
  of_lent ℓ F = of_made (ref ℓ (named_as F)) (ref erased (named_as F)) (addr_of (place 3 (deref (lone F.mir) ∷ [])))

  module _ {M : Type 1} {𝓤 : Ura M} (𝓛 : Logic 𝓤) (C : Calls 𝓤 𝓛.H) (Λ : Loops 𝓤 𝓛.H) (fm : FmC 𝓤 𝓛.H 𝓛.laws C) where
    open 𝓛 use {H}

    -- What stands behind_call the call, wherever the locals have their cells: first those that it uses, as they are before it and again at the end.
    module _ (b o : ℕ) (Q : Val → SProp 𝓤) (further : Env 𝓤 H) (out error answer again moved : ℕ) (l : ℕ → ℕ) (others : List (Item 𝓤)) where
      abbrev En : Env 𝓤 H
      En = (outcome (ref (named 0) (named_as R)) ε, l 0) ∷ (ref (named 0) (named_as R), l 1) ∷ further

      abbrev Stands : ℕ → Ty → Type 0
      Stands i τ = spot_of 𝓤 H En i ≡ (τ, l i, 0)

      abbrev empty : Ty → ℕ → Item 𝓤
      empty τ i = ‵ (froom τ (l i) 0)

      abbrev full : Ty → ℕ → Val → Item 𝓤
      full τ i v = ‵ (fat full_share τ (l i) 0 v)

      abbrev behind_answer : List (Item 𝓤)
      behind_answer = empty (ref erased (named_as R')) again ∷ empty ε moved ∷ empty (outcome (ref (named 0) (named_as R)) ε) 0 ∷ full (ref (named 0) (named_as R)) 1 (vptr b o) ∷ others

      abbrev cells : List (Item 𝓤)
      cells = empty (outcome ty_unit ε) out ∷ empty ε error ∷ empty (outcome (ref erased (named_as R')) ε) answer ∷ behind_answer

      module _ (is_out : Stands out (outcome ty_unit ε)) (is_error : Stands error ε) (is_answer : Stands answer (outcome (ref erased (named_as R')) ε)) (is_again : Stands again (ref erased (named_as R'))) (is_moved : Stands moved ε)
          (frees_all : (P : SProp 𝓤) → Sq 𝓛 (raw P ∷ cells) (frees En (prop P))) where
        answered : (v w : Val) → T (has_ty (outcome (ref (named 0) (named_as R)) ε) w) × WT w
            → Sq 𝓛 (raw (Q w) ∷ full (outcome ty_unit ε) out v ∷ empty ε error ∷ full (outcome (ref erased (named_as R')) ε) answer w ∷ behind_answer) (runs C Λ En (return_answer answer) (at_ret En Q))
        answered v w tw =
            assigns ! (of_opd ! (load ! (found ! is_answer (stop !)) (look ! 3 refl))) (from ! (stop !)) (init ! 6 refl tw) $
            returns ! (look ! 6 refl) $ forget ! 1 refl $ forget ! 3 refl $ forget ! 6 refl $ frees_all (Q w)

        pub behind_call : (v : Val) → Sq 𝓛 (some (λ (x : OkOrErr ε v). raw (Q (answered_value ε b o v x))) ∷ cells) (lands C Λ En (place out []) v (seq (match_on out error answer again moved) (return_answer answer)) (at_ret En Q))
        behind_call v = pick ! (by_ok_or_err ! ε b o v Q
            (λ at. stores ! at is_out (init ! 1 refl (tt, (record { fits = lit< tt }, (tt, tt)))) $
            first ! $ by_variants ! 1 (whole !) (load ! (found ! is_out (vrt ! refl (fld ! refl (stop !)))) (look_tag ! 1 (whole !))) tt (
              (λ _. assigns ! (addr ! (from ! (hop ! (look ! 7 refl) (stop !)))) (found ! is_again (stop !)) (init ! 4 refl (tt, tt)) $
                  assigns_last ! (agg ! (and_then ! (lit ! tt) (and_then ! (load ! (found ! is_again (stop !)) (look ! 4 refl)) (no_more !)))) (found ! is_answer (stop !)) (init ! 3 refl (tt, (record { fits = lit< tt }, (tt, tt)))) $
                  exec ! C Λ En (return_answer answer) (at_ret En Q) $ forget ! 4 refl $ answered _ _ (tt, (record { fits = lit< tt }, (tt, tt)))),
              ((λ e. absurd (suc-ne-zero 0 (sym e))), tt),
            ))
            (λ w at tw. stores ! at is_out (init ! 1 refl (and_true _ tw.0, (record { fits = lit< tt }, (tw.1, tt)))) $
            first ! $ by_variants ! 1 (whole !) (load ! (found ! is_out (vrt ! refl (fld ! refl (stop !)))) (look_tag ! 1 (whole !))) tt (
              (λ e. absurd (suc-ne-zero 0 e)),
              (
                (λ _. assigns ! (of_opd ! (load ! (found ! is_out (vrt ! refl (fld ! refl (stop !)))) (look_in ! 1 (in_variant ! 1 0 refl refl (whole !))))) (found ! is_error (stop !)) (init ! 2 refl tw) $
                    assigns ! (of_opd ! (load ! (found ! is_error (stop !)) (look ! 2 refl))) (found ! is_moved (stop !)) (init ! 5 refl tw) $
                    assigns_last ! (agg ! (and_then ! (lit ! tt) (and_then ! (load ! (found ! is_moved (stop !)) (look ! 5 refl)) (no_more !)))) (found ! is_answer (stop !)) (init ! 3 refl (and_true _ tw.0, (record { fits = lit< tt }, (tw.1, tt)))) $
                    exec ! C Λ En (return_answer answer) (at_ret En Q) $ forget ! 2 refl $ forget ! 5 refl $ answered _ _ (and_true _ tw.0, (record { fits = lit< tt }, (tw.1, tt)))),
                tt,
              ),
            )))

    -- Each run moves those cells to the front and back. A local has two entries, its cell and its end, the last local's first.
    pub runs_one : (b o : ℕ) (h : Val) → T (has_ty α h) × WT h → (Q : Val → SProp 𝓤)
        → ent 𝓤 (H.⇛ (C key (vptr b o ∷ h ∷ []) (λ v. H.⇛ (Answered 𝓤 ε b o Q v)))) (WpFn 𝓤 H C Λ of_one (vptr b o ∷ h ∷ []) Q)
    runs_one b o h th Q =
        qed 𝓛 (later (raw (C key (vptr b o ∷ h ∷ []) (λ v. H.⇛ (Answered 𝓤 ε b o Q v)))) ∷ []) ∵ enter ! C Λ of_one (vptr b o ∷ h ∷ []) _ $
        alloc_all ! (λ l. pass_all ! refl ((tt, tt), (th, tt)) $ sets ! (addr ! (through ! refl (stop !))) refl (tt, tt) $ await ! tt $
        calls ! fm (λ v. later (some (λ (x : OkOrErr ε v). raw (Q (answered_value ε b o v x))))) (and_then ! (get ! refl) (and_then ! (get ! refl) (no_more !))) (λ v. await ! tt $ move ! (0 ∷ 9 ∷ 11 ∷ 5 ∷ 3 ∷ 1 ∷ 17 ∷ 15 ∷ []) $
        behind_call b o Q _ 4 3 6 7 8 l _ refl refl refl refl refl (λ P. move ! (0 ∷ 5 ∷ 8 ∷ 4 ∷ 9 ∷ 3 ∷ 10 ∷ 11 ∷ 12 ∷ 1 ∷ 13 ∷ 2 ∷ 14 ∷ 15 ∷ 16 ∷ 7 ∷ 17 ∷ 6 ∷ 18 ∷ []) $ free_all ! refl $ done !) v))

    pub runs_two : (β : Ty) (b o : ℕ) (h p : Val) → T (has_ty α h) × WT h → T (has_ty β p) × WT p → (Q : Val → SProp 𝓤)
        → ent 𝓤 (H.⇛ (C key (vptr b o ∷ h ∷ p ∷ []) (λ v. H.⇛ (Answered 𝓤 ε b o Q v)))) (WpFn 𝓤 H C Λ (of_two β) (vptr b o ∷ h ∷ p ∷ []) Q)
    runs_two β b o h p th tp Q =
        qed 𝓛 (later (raw (C key (vptr b o ∷ h ∷ p ∷ []) (λ v. H.⇛ (Answered 𝓤 ε b o Q v)))) ∷ []) ∵ enter ! C Λ (of_two β) (vptr b o ∷ h ∷ p ∷ []) _ $
        alloc_all ! (λ l. pass_all ! refl ((tt, tt), (th, (tp, tt))) $ sets ! (addr ! (through ! refl (stop !))) refl (tt, tt) $ await ! tt $
        calls ! fm (λ v. later (some (λ (x : OkOrErr ε v). raw (Q (answered_value ε b o v x))))) (and_then ! (get ! refl) (and_then ! (get ! refl) (and_then ! (get ! refl) (no_more !)))) (λ v. await ! tt $ move ! (0 ∷ 9 ∷ 11 ∷ 5 ∷ 3 ∷ 1 ∷ 19 ∷ 17 ∷ []) $
        behind_call b o Q _ 5 4 7 8 9 l _ refl refl refl refl refl (λ P. move ! (0 ∷ 5 ∷ 8 ∷ 4 ∷ 9 ∷ 3 ∷ 10 ∷ 11 ∷ 12 ∷ 1 ∷ 13 ∷ 2 ∷ 14 ∷ 15 ∷ 16 ∷ 17 ∷ 18 ∷ 7 ∷ 19 ∷ 6 ∷ 20 ∷ []) $ free_all ! refl $ done !) v))

    runs_made : (β β' : Ty) (rv : RValue) (b o : ℕ) (h p p' : Val) → T (has_ty α h) × WT h → T (has_ty β p) × WT p → T (has_ty β' p') × WT p'
        → ((E : Env 𝓤 H) (Γ : List (Item 𝓤)) → at 𝓛 3 Γ ≡ ‵ (fat full_share (spot_of 𝓤 H E 3).0 (spot_of 𝓤 H E 3).1 0 p) → Rv (Go {0}) 𝓛 Γ E rv p') → (Q : Val → SProp 𝓤)
        → ent 𝓤 (H.⇛ (C key (vptr b o ∷ h ∷ p' ∷ []) (λ v. H.⇛ (Answered 𝓤 ε b o Q v)))) (WpFn 𝓤 H C Λ (of_made β β' rv) (vptr b o ∷ h ∷ p ∷ []) Q)
    runs_made β β' rv b o h p p' th tp tp' made Q =
        qed 𝓛 (later (raw (C key (vptr b o ∷ h ∷ p' ∷ []) (λ v. H.⇛ (Answered 𝓤 ε b o Q v)))) ∷ []) ∵ enter ! C Λ (of_made β β' rv) (vptr b o ∷ h ∷ p ∷ []) _ $
        alloc_all ! (λ l. pass_all ! refl ((tt, tt), (th, (tp, tt))) $ sets ! (addr ! (through ! refl (stop !))) refl (tt, tt) $ sets ! (made _ _ refl) refl tp' $ await ! tt $
        calls ! fm (λ v. later (some (λ (x : OkOrErr ε v). raw (Q (answered_value ε b o v x))))) (and_then ! (get ! refl) (and_then ! (get ! refl) (and_then ! (get ! refl) (no_more !)))) (λ v. await ! tt $ move ! (0 ∷ 11 ∷ 13 ∷ 5 ∷ 3 ∷ 1 ∷ 21 ∷ 19 ∷ []) $
        behind_call b o Q _ 5 4 8 9 10 l _ refl refl refl refl refl (λ P. move ! (0 ∷ 5 ∷ 8 ∷ 4 ∷ 9 ∷ 3 ∷ 10 ∷ 11 ∷ 12 ∷ 13 ∷ 14 ∷ 1 ∷ 15 ∷ 2 ∷ 16 ∷ 17 ∷ 18 ∷ 19 ∷ 20 ∷ 7 ∷ 21 ∷ 6 ∷ 22 ∷ []) $ free_all ! refl $ done !) v))

    pub runs_moved : (β β' : Ty) → ((p : Val) → T (has_ty β p) → T (has_ty β' p)) → (b o : ℕ) (h p : Val) → T (has_ty α h) × WT h → T (has_ty β p) × WT p → (Q : Val → SProp 𝓤)
        → ent 𝓤 (H.⇛ (C key (vptr b o ∷ h ∷ p ∷ []) (λ v. H.⇛ (Answered 𝓤 ε b o Q v)))) (WpFn 𝓤 H C Λ (of_moved β β') (vptr b o ∷ h ∷ p ∷ []) Q)
    runs_moved β β' holds b o h p th tp Q = runs_made β β' (rv_opd (copy (place 3 []))) b o h p p th tp (holds p tp.0, tp.1) (λ E Γ e. of_opd ! (get ! e)) Q

    runs_lent_at : (ℓ : Lifetime) (F : RattleType) (b o : ℕ) (h : Val) (b' o' : ℕ) → T (has_ty α h) × WT h → (Q : Val → SProp 𝓤)
        → ent 𝓤 (H.⇛ (C key (vptr b o ∷ h ∷ vptr b' o' ∷ []) (λ v. H.⇛ (Answered 𝓤 ε b o Q v)))) (WpFn 𝓤 H C Λ (of_lent ℓ F) (vptr b o ∷ h ∷ vptr b' o' ∷ []) Q)
    runs_lent_at ℓ F b o h b' o' th Q =
        runs_made (ref ℓ (named_as F)) (ref erased (named_as F)) (addr_of (place 3 (deref (lone F.mir) ∷ []))) b o h (vptr b' o') (vptr b' o') th (tt, tt) (tt, tt) (λ E Γ e. addr ! (through ! e (stop !))) Q

    pub runs_lent : (ℓ : Lifetime) (F : RattleType) (b o : ℕ) (h p : Val) → T (has_ty α h) × WT h → (at : ℕ × ℕ) × (p ≡ vptr at.0 at.1) → (Q : Val → SProp 𝓤)
        → ent 𝓤 (H.⇛ (C key (vptr b o ∷ h ∷ p ∷ []) (λ v. H.⇛ (Answered 𝓤 ε b o Q v)))) (WpFn 𝓤 H C Λ (of_lent ℓ F) (vptr b o ∷ h ∷ p ∷ []) Q)
    runs_lent ℓ F b o h p th at Q =
        subst (λ (v : Val). ent 𝓤 (H.⇛ (C key (vptr b o ∷ h ∷ v ∷ []) (λ v. H.⇛ (Answered 𝓤 ε b o Q v)))) (WpFn 𝓤 H C Λ (of_lent ℓ F) (vptr b o ∷ h ∷ v ∷ []) Q)) (sym at.1) (runs_lent_at ℓ F b o h at.0.0 at.0.1 th Q)
