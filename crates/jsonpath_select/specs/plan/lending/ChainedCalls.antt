-- A call that lends itself to one in place, and gives itself back at `Ok`, by what it takes beside. Assumes `Logic`.
use mathlib.Core.Path.{◌≡◌, refl, sym, subst}
use Prim.Native.Nat.{ℕ, suc}
use mathlib.Core.List.{List, [], ◌∷◌, ◌++◌}
use seplogic.Ra.Ura.{Ura}
use mir.Syntax.{Fn, Callee, named}
use lib.Dec.{T}
use mir.Val.{Val, vptr, has_ty, WT}
use base.Logic.{SProp, ent, sep, emp, id⊢, via}
use base.Fml.{Lft, GName, Share, Incl-trans, flft, fobs}
use contract.BorrowLft.{◌⊑◌, meet_⊑_right}
use contract.Lifetimes.{Lfts, Shares, Outlives, AllOutlive, toks}
use contract.Monad.{fact, fact_i}
use prog.Wp.{WpFn, Tables}
use sound.WpLaws.{FmC, WpFn-mono}
use types.Logic.{Logic, sem}
use types.Kit.{‵, ◌⊛◌, raw, frame, use0, ◌$◌, ◌∵◌, !, qed, done, by, move, drop, join, split, fsplit, fsplit3, fjoin, fjoin3, feq_i, feq_l, use1, rewrite}
use denote.Exit.{yes}
use denote.Laws.{Typed, Is, shows}
use denote.Memory.{lone}
use denote.RattleType.{RattleType, owns}
use denote.Ref.{MutBor, MutRef}
use denote.Signature.{Slot, plain}
use denote.Steps.{nothing, peeks, heard}
use denote.Triple.Clauses.{Clauses, Ended, AtExit, at_exit, closing}
use denote.Triple.End.{Kepts, Fins, lasts_of}
use denote.Triple.Entry.{Args, Res, on_entry}
use denote.Triple.Spec.{Meets}
use denote.Triple.Statement.{Triple}
use denote.Triple.Walked.{Stays, stay_dropped, walk_of, Goes-spent_ref, walk_Meets}
use Rattle.std.specs.Borrow.{LendsIfOk}
use Rattle.std.specs.declared.result.Result.TheVariants.{Ok, Err}
use Rattle.std.specs.contracts.alloc.Global as global
use Rattle.std.proofs.alloc.Calls.{Goes-blank}
use Rattle.std.proofs.alloc.Global.TheLaws as global_laws
use Rattle.jsonpath_select.specs.plan.lending.Lending.{alone, lends_err}
use Rattle.jsonpath_select.specs.plan.lending.LentForCall.{lent_at, left_at}
use Rattle.jsonpath_select.specs.plan.lending.Chained.{chains, in_place, stayed, G, chained}
use Rattle.jsonpath_select.specs.plan.lending.ChainedCode.{of_one, runs_one}

abbrev pub Alloc : RattleType
Alloc = global.the_row

-- what outlives a lifetime outlives one within it
pub still_outlives : (κ κ' : Lft) (α : ℕ) → κ ⊑ κ' → (α ∷ κ) ⊑ κ'
still_outlives κ κ' α bound = Incl-trans (meet_⊑_right (α ∷ []) κ) bound

-- what a call promises
abbrev pub Said : {M : Type 1} (𝓤 : Ura M) → Ended → Type 2
Said 𝓤 T = (κs : Lfts T.signature.lifetimes) → Args T.signature κs → Res T.signature κs → AtExit T κs → SProp 𝓤

-- a promise that asks for nothing but a fact of the lifetimes
abbrev pub asks_long : {M : Type 1} (𝓤 : Ura M) (T : Ended) → (Lfts T.signature.lifetimes → Type 0) → Said 𝓤 T → Clauses 𝓤 T
asks_long 𝓤 T Long said κs a = record { ghost = Unit {0}; requires = λ _. sep 𝓤 (fact 𝓤 (Long κs)) (emp 𝓤); ensures = λ _. said κs a }

module _ {M : Type 1} {𝓤 : Ura M} (𝓛 : Logic 𝓤) (Long : Type 0) where
  pub asked : Long → ent 𝓤 (emp 𝓤) (sep 𝓤 (fact 𝓤 Long) (emp 𝓤))
  asked long = qed 𝓛 [] ∵ use0 𝓛 (raw (emp 𝓤)) (id⊢ 𝓤 (emp 𝓤)) $ use0 𝓛 (raw (fact 𝓤 Long)) (fact_i 𝓤 Long (emp 𝓤) long) $ join ! $ done !

  pub heard_long : (A B : SProp 𝓤) → (Long → ent 𝓤 A B) → ent 𝓤 (sep 𝓤 A (sep 𝓤 (fact 𝓤 Long) (emp 𝓤))) B
  heard_long A B holds = qed 𝓛 (raw A ∷ (raw (fact 𝓤 Long) ⊛ raw (emp 𝓤)) ∷ []) ∵ move ! (1 ∷ []) $ split ! $ heard ! _ (λ long. drop ! $ by ! (holds long))

-- what an update in place says is passed on: what stays, what it did, how it is refused, and that then all is as before
module _ {M : Type 1} {𝓤 : Ura M} (𝓛 : Logic 𝓤) {stays does refused kept : Type 0} where
  open 𝓛 use {A}

  pub passed_on : (R : RattleType) (place : MutBor R.Denot) (E : Type 0) (y : R.Denot) {same : Type 0} → same
      → ent 𝓤 (sep 𝓤 (sem 𝓛 (LendsIfOk R R place {E = E} (Ok (left_at place y)) (λ z. z) place.now)) (sep 𝓤 (fact 𝓤 stays) (sep 𝓤 (fact 𝓤 does) (sep 𝓤 (fact 𝓤 refused) (fact 𝓤 kept)))))
      (sep 𝓤 (sem 𝓛 (LendsIfOk R R place {E = E} (Ok (left_at place y)) (λ z. z) place.now)) (sep 𝓤 (fact 𝓤 same) (sep 𝓤 (fact 𝓤 stays) (sep 𝓤 (fact 𝓤 does) (fact 𝓤 (Unit {0}))))))
  passed_on R place E y {same} is =
      qed 𝓛 (‵ (LendsIfOk R R place {E = E} (Ok (left_at place y)) (λ z. z) place.now) ∷ (raw (fact 𝓤 stays) ⊛ raw (fact 𝓤 does) ⊛ raw (fact 𝓤 refused) ⊛ raw (fact 𝓤 kept)) ∷ []) ∵ frame ! $
      split ! $ heard ! _ (λ stay. split ! $ heard ! _ (λ did. drop ! $
      use0 𝓛 (raw (fact 𝓤 (Unit {0}))) (fact_i 𝓤 (Unit {0}) (emp 𝓤) tt) $ use0 𝓛 (raw (fact 𝓤 does)) (fact_i 𝓤 does (emp 𝓤) did) $ join ! $
      use0 𝓛 (raw (fact 𝓤 stays)) (fact_i 𝓤 stays (emp 𝓤) stay) $ join ! $ use0 𝓛 (raw (fact 𝓤 same)) (fact_i 𝓤 same (emp 𝓤) is) $ join ! $ done !))

  pub refused_on : (R : RattleType) (place : MutBor R.Denot) (E : Type 0) (e : E) (y : R.Denot) → (kept → y ≡ place.now)
      → ent 𝓤 (sep 𝓤 (A.obs place.ghost_name (R.coded.code y)) (sep 𝓤 (fact 𝓤 stays) (sep 𝓤 (fact 𝓤 does) (sep 𝓤 (fact 𝓤 refused) (fact 𝓤 kept)))))
      (sep 𝓤 (sem 𝓛 (LendsIfOk R R place {E = E} (Err e) (λ z. z) place.now)) (sep 𝓤 (fact 𝓤 (Unit {0})) (sep 𝓤 (fact 𝓤 (Unit {0})) (sep 𝓤 (fact 𝓤 (Unit {0})) (fact 𝓤 refused)))))
  refused_on R place E e y as_before =
      let none : ent 𝓤 (emp 𝓤) (fact 𝓤 (Unit {0})) = fact_i 𝓤 (Unit {0}) (emp 𝓤) tt in
      qed 𝓛 (‵ (fobs place.ghost_name (R.coded.code y)) ∷ (raw (fact 𝓤 stays) ⊛ raw (fact 𝓤 does) ⊛ raw (fact 𝓤 refused) ⊛ raw (fact 𝓤 kept)) ∷ []) ∵
      move ! (1 ∷ []) $ split ! $ drop ! $ split ! $ drop ! $ split ! $ heard ! _ (λ may. heard ! _ (λ still.
      rewrite ! 0 (λ (z : R.Denot). ‵ (fobs place.ghost_name (R.coded.code z))) (as_before still) refl $
      use1 𝓛 (‵ (LendsIfOk R R place {E = E} (Err e) (λ z. z) place.now)) (lends_err 𝓛 R place E e) $ frame ! $
      use0 𝓛 (raw (fact 𝓤 refused)) (fact_i 𝓤 refused (emp 𝓤) may) $ use0 𝓛 (raw (fact 𝓤 (Unit {0}))) none $ join ! $
      use0 𝓛 (raw (fact 𝓤 (Unit {0}))) none $ join ! $ use0 𝓛 (raw (fact 𝓤 (Unit {0}))) none $ join ! $ done !))

-- what an update in place says is passed on, where nothing is said to stay
module _ {M : Type 1} {𝓤 : Ura M} (𝓛 : Logic 𝓤) {does refused kept : Type 0} (R : RattleType) (place : MutBor R.Denot) (E : Type 0) where
  open 𝓛 use {A}

  pub passed_on_two : (y : R.Denot) {same : Type 0} → same
      → ent 𝓤 (sep 𝓤 (sem 𝓛 (LendsIfOk R R place {E = E} (Ok (left_at place y)) (λ z. z) place.now)) (sep 𝓤 (fact 𝓤 does) (sep 𝓤 (fact 𝓤 refused) (fact 𝓤 kept))))
      (sep 𝓤 (sem 𝓛 (LendsIfOk R R place {E = E} (Ok (left_at place y)) (λ z. z) place.now)) (sep 𝓤 (fact 𝓤 same) (sep 𝓤 (fact 𝓤 does) (fact 𝓤 (Unit {0})))))
  passed_on_two y {same} is =
      qed 𝓛 (‵ (LendsIfOk R R place {E = E} (Ok (left_at place y)) (λ z. z) place.now) ∷ (raw (fact 𝓤 does) ⊛ raw (fact 𝓤 refused) ⊛ raw (fact 𝓤 kept)) ∷ []) ∵ frame ! $
      split ! $ heard ! _ (λ did. drop ! $
      use0 𝓛 (raw (fact 𝓤 (Unit {0}))) (fact_i 𝓤 (Unit {0}) (emp 𝓤) tt) $ use0 𝓛 (raw (fact 𝓤 does)) (fact_i 𝓤 does (emp 𝓤) did) $ join ! $ use0 𝓛 (raw (fact 𝓤 same)) (fact_i 𝓤 same (emp 𝓤) is) $ join ! $ done !)

  pub refused_on_two : (e : E) (y : R.Denot) → (kept → y ≡ place.now)
      → ent 𝓤 (sep 𝓤 (A.obs place.ghost_name (R.coded.code y)) (sep 𝓤 (fact 𝓤 does) (sep 𝓤 (fact 𝓤 refused) (fact 𝓤 kept))))
      (sep 𝓤 (sem 𝓛 (LendsIfOk R R place {E = E} (Err e) (λ z. z) place.now)) (sep 𝓤 (fact 𝓤 (Unit {0})) (sep 𝓤 (fact 𝓤 (Unit {0})) (fact 𝓤 refused))))
  refused_on_two e y as_before =
      let none : ent 𝓤 (emp 𝓤) (fact 𝓤 (Unit {0})) = fact_i 𝓤 (Unit {0}) (emp 𝓤) tt in
      qed 𝓛 (‵ (fobs place.ghost_name (R.coded.code y)) ∷ (raw (fact 𝓤 does) ⊛ raw (fact 𝓤 refused) ⊛ raw (fact 𝓤 kept)) ∷ []) ∵
      move ! (1 ∷ []) $ split ! $ drop ! $ split ! $ heard ! _ (λ may. heard ! _ (λ still.
      rewrite ! 0 (λ (z : R.Denot). ‵ (fobs place.ghost_name (R.coded.code z))) (as_before still) refl $
      use1 𝓛 (‵ (LendsIfOk R R place {E = E} (Err e) (λ z. z) place.now)) (lends_err 𝓛 R place E e) $ frame ! $
      use0 𝓛 (raw (fact 𝓤 refused)) (fact_i 𝓤 refused (emp 𝓤) may) $ use0 𝓛 (raw (fact 𝓤 (Unit {0}))) none $ join ! $ use0 𝓛 (raw (fact 𝓤 (Unit {0}))) none $ join ! $ done !))

-- what an update in place says is passed on, with what becomes of a closure: it was not asked where the call is refused, and it
-- may be called
module _ {M : Type 1} {𝓤 : Ura M} (𝓛 : Logic 𝓤) {stays does refused kept unasked callable : Type 0} (R : RattleType) (place : MutBor R.Denot) (E : Type 0) where
  open 𝓛 use {A}

  pub passed_on_called : (y : R.Denot) {same : Type 0} → same
      → ent 𝓤 (sep 𝓤 (sem 𝓛 (LendsIfOk R R place {E = E} (Ok (left_at place y)) (λ z. z) place.now)) (sep 𝓤 (fact 𝓤 stays) (sep 𝓤 (fact 𝓤 does) (sep 𝓤 (fact 𝓤 refused) (sep 𝓤 (fact 𝓤 kept) (sep 𝓤 (fact 𝓤 unasked) (fact 𝓤 callable)))))))
      (sep 𝓤 (sem 𝓛 (LendsIfOk R R place {E = E} (Ok (left_at place y)) (λ z. z) place.now)) (sep 𝓤 (fact 𝓤 same) (sep 𝓤 (fact 𝓤 stays) (sep 𝓤 (fact 𝓤 does) (sep 𝓤 (fact 𝓤 (Unit {0})) (sep 𝓤 (fact 𝓤 (Unit {0})) (fact 𝓤 callable)))))))
  passed_on_called y {same} is =
      let none : ent 𝓤 (emp 𝓤) (fact 𝓤 (Unit {0})) = fact_i 𝓤 (Unit {0}) (emp 𝓤) tt in
      qed 𝓛 (‵ (LendsIfOk R R place {E = E} (Ok (left_at place y)) (λ z. z) place.now) ∷ (raw (fact 𝓤 stays) ⊛ raw (fact 𝓤 does) ⊛ raw (fact 𝓤 refused) ⊛ raw (fact 𝓤 kept) ⊛ raw (fact 𝓤 unasked) ⊛ raw (fact 𝓤 callable)) ∷ []) ∵ frame ! $
      split ! $ heard ! _ (λ stay. split ! $ heard ! _ (λ did. split ! $ drop ! $ split ! $ drop ! $ split ! $ drop ! $ heard ! _ (λ may.
      use0 𝓛 (raw (fact 𝓤 callable)) (fact_i 𝓤 callable (emp 𝓤) may) $ use0 𝓛 (raw (fact 𝓤 (Unit {0}))) none $ join ! $ use0 𝓛 (raw (fact 𝓤 (Unit {0}))) none $ join ! $
      use0 𝓛 (raw (fact 𝓤 does)) (fact_i 𝓤 does (emp 𝓤) did) $ join ! $ use0 𝓛 (raw (fact 𝓤 stays)) (fact_i 𝓤 stays (emp 𝓤) stay) $ join ! $
      use0 𝓛 (raw (fact 𝓤 same)) (fact_i 𝓤 same (emp 𝓤) is) $ join ! $ done !)))

  pub refused_on_called : (e : E) (y : R.Denot) → (kept → y ≡ place.now)
      → ent 𝓤 (sep 𝓤 (A.obs place.ghost_name (R.coded.code y)) (sep 𝓤 (fact 𝓤 stays) (sep 𝓤 (fact 𝓤 does) (sep 𝓤 (fact 𝓤 refused) (sep 𝓤 (fact 𝓤 kept) (sep 𝓤 (fact 𝓤 unasked) (fact 𝓤 callable)))))))
      (sep 𝓤 (sem 𝓛 (LendsIfOk R R place {E = E} (Err e) (λ z. z) place.now)) (sep 𝓤 (fact 𝓤 (Unit {0})) (sep 𝓤 (fact 𝓤 (Unit {0})) (sep 𝓤 (fact 𝓤 (Unit {0})) (sep 𝓤 (fact 𝓤 refused) (sep 𝓤 (fact 𝓤 unasked) (fact 𝓤 callable)))))))
  refused_on_called e y as_before =
      let none : ent 𝓤 (emp 𝓤) (fact 𝓤 (Unit {0})) = fact_i 𝓤 (Unit {0}) (emp 𝓤) tt in
      qed 𝓛 (‵ (fobs place.ghost_name (R.coded.code y)) ∷ (raw (fact 𝓤 stays) ⊛ raw (fact 𝓤 does) ⊛ raw (fact 𝓤 refused) ⊛ raw (fact 𝓤 kept) ⊛ raw (fact 𝓤 unasked) ⊛ raw (fact 𝓤 callable)) ∷ []) ∵
      move ! (1 ∷ []) $ split ! $ drop ! $ split ! $ drop ! $ split ! $ heard ! _ (λ why. split ! $ heard ! _ (λ still. split ! $ heard ! _ (λ asked. heard ! _ (λ may.
      rewrite ! 0 (λ (z : R.Denot). ‵ (fobs place.ghost_name (R.coded.code z))) (as_before still) refl $
      use1 𝓛 (‵ (LendsIfOk R R place {E = E} (Err e) (λ z. z) place.now)) (lends_err 𝓛 R place E e) $ frame ! $
      use0 𝓛 (raw (fact 𝓤 callable)) (fact_i 𝓤 callable (emp 𝓤) may) $ use0 𝓛 (raw (fact 𝓤 unasked)) (fact_i 𝓤 unasked (emp 𝓤) asked) $ join ! $ use0 𝓛 (raw (fact 𝓤 refused)) (fact_i 𝓤 refused (emp 𝓤) why) $ join ! $
      use0 𝓛 (raw (fact 𝓤 (Unit {0}))) none $ join ! $ use0 𝓛 (raw (fact 𝓤 (Unit {0}))) none $ join ! $ use0 𝓛 (raw (fact 𝓤 (Unit {0}))) none $ join ! $ done !))))

-- ---- the allocator alone
module _ (m : ℕ) (os : List (Outlives (suc m))) (S : Lfts m → RattleType) (E : RattleType) where
  abbrev Ps : List (Slot (suc m))
  Ps = plain (λ _. Alloc) ∷ []

  abbrev ks : Kepts Ps
  ks = (yes, tt)

  abbrev hs : Stays Ps ks
  hs = (stay_dropped (plain (λ _. Alloc)) yes, tt)

  module _ {M : Type 1} {𝓤 : Ura M} (𝓛 : Logic 𝓤) (typed : (e : E.Denot) (vs : List Val) → Is E e vs → Typed (lone E.mir ∷ []) vs)
      (Long : Lfts m → Type 0) (shorter : (κs : Lfts (suc m)) (α : ℕ) → AllOutlive (suc m) os κs → AllOutlive (suc m) os (α ∷ κs.0, κs.1)) (gives : Said 𝓤 (chains m os S E Ps ks)) (says : Said 𝓤 (in_place m os S E Ps ks)) where
    open 𝓛 use {H, A}

    abbrev c : Clauses 𝓤 (chains m os S E Ps ks)
    c = asks_long 𝓤 (chains m os S E Ps ks) (λ κs. Long κs.1) gives

    abbrev g : Clauses 𝓤 (in_place m os S E Ps ks)
    g = asks_long 𝓤 (in_place m os S E Ps ks) (λ κs. Long κs.1) says

    module _ (at_ok : (κs : Lfts (suc m)) (place : MutBor (S κs.1).Denot) (heap : Alloc.Denot) (l : ℕ × GName × Share) (y : (S κs.1).Denot) (w : Fins κs Ps ks (heap, tt))
        → ent 𝓤 (sep 𝓤 (sem 𝓛 (LendsIfOk (S κs.1) (S κs.1) place {E = E.Denot} (Ok (left_at place y)) (λ z. z) place.now)) (says (l.0 ∷ κs.0, κs.1) (lent_at place l, (heap, tt)) (Ok tt) (at_exit (in_place m os S E Ps ks) (l.0 ∷ κs.0, κs.1) (lent_at place l, (heap, tt)) (y, w))))
        (gives κs (place, (heap, tt)) (Ok (left_at place y)) (at_exit (chains m os S E Ps ks) κs (place, (heap, tt)) (tt, w))))
        (at_err : (κs : Lfts (suc m)) (place : MutBor (S κs.1).Denot) (heap : Alloc.Denot) (l : ℕ × GName × Share) (e : E.Denot) (y : (S κs.1).Denot) (w : Fins κs Ps ks (heap, tt))
        → ent 𝓤 (sep 𝓤 (A.obs place.ghost_name ((S κs.1).coded.code y)) (says (l.0 ∷ κs.0, κs.1) (lent_at place l, (heap, tt)) (Err e) (at_exit (in_place m os S E Ps ks) (l.0 ∷ κs.0, κs.1) (lent_at place l, (heap, tt)) (y, w))))
        (gives κs (place, (heap, tt)) (Err e) (at_exit (chains m os S E Ps ks) κs (place, (heap, tt)) (tt, w)))) where
      module _ (lifetimes : ℕ) (outlives : List (ℕ × ℕ)) (key : Callee) (R R' : RattleType) (𝓣 : Tables 𝓤 H) (fm : FmC 𝓤 H 𝓛.laws 𝓣.C) (holds : Triple 𝓤 (𝓣.C key) (G m os S E Ps ks 𝓛 (lone E.mir) typed hs c g)) where
        abbrev fn : Fn
        fn = of_one lifetimes outlives key R R' (lone Alloc.mir) (lone E.mir)

        abbrev AtEnd : (κs : Lfts (suc m)) → Shares (suc m) → AllOutlive (suc m) os κs → MutBor (S κs.1).Denot → Alloc.Denot → List Val → List Val → Val → SProp 𝓤
        AtEnd κs qs bd place heap us vs = (walk_of 𝓛 (chains m os S E Ps ks) (stayed m os S E Ps ks hs) c).post ((κs, qs, bd, (place, (heap, tt)), (us, (vs, tt))), tt)

        entry : (κs : Lfts (suc m)) (qs : Shares (suc m)) (bd : AllOutlive (suc m) os κs) (place : MutBor (S κs.1).Denot) (heap : Alloc.Denot) (us vs : List Val) → Long κs.1
            → ent 𝓤 (on_entry 𝓛 (chains m os S E Ps ks).signature κs qs (place, (heap, tt)) (us, (vs, tt))) (WpFn 𝓤 H 𝓣.C 𝓣.Λ fn (us ++ (vs ++ [])) (AtEnd κs qs bd place heap us vs))
        entry κs qs bd place heap us vs long =
            let b : ℕ = place.ref_ptr.0 in let o : ℕ = place.ref_ptr.1 in
            let Ref : RattleType = MutRef (named 0) κs.0 (S κs.1) in
            let Had : Val → SProp 𝓤 = λ h. sep 𝓤 (sem 𝓛 (Ref.own_val place (vptr b o ∷ []))) (sep 𝓤 (A.lft κs.0 qs.0) (sep 𝓤 (sem 𝓛 (owns (Alloc ∷ []) (heap, tt) (h ∷ [], tt))) (toks 𝓛 m κs.1 qs.1))) in
            let walk : (h : Val) → T (has_ty (lone Alloc.mir) h) × WT h → ent 𝓤 (Had h) (WpFn 𝓤 H 𝓣.C 𝓣.Λ fn (vptr b o ∷ h ∷ []) (AtEnd κs qs bd place heap (vptr b o ∷ []) (h ∷ []))) = λ h th.
            via 𝓤 _ (chained m os S E Ps ks 𝓛 (lone E.mir) typed hs c g κs qs bd place (heap, tt) (vptr b o ∷ []) (h ∷ [], tt) (λ l. (heap, tt)) (λ l. (h ∷ [], tt)) (h ∷ []) (λ l. refl) (λ l. shorter κs l.0 bd) (λ l. tt) (λ l. asked 𝓛 (Long κs.1) long) (λ l. id⊢ 𝓤 _) (λ l w. w) (λ w. (tt, tt))
            (λ l w. qed 𝓛 (‵ (lasts_of (l.0 ∷ κs.0, κs.1) Ps ks (heap, tt) w) ∷ []) ∵ drop ! $ nothing ! $ nothing ! $ fjoin ! $ done !) tt (at_ok κs place heap) (at_err κs place heap) 𝓣.C fm key holds)
            (runs_one lifetimes outlives key R R' (lone Alloc.mir) (lone E.mir) 𝓛 𝓣.C 𝓣.Λ fm b o h th (AtEnd κs qs bd place heap (vptr b o ∷ []) (h ∷ []))) in
            qed 𝓛 (((‵ (flft κs.0 qs.0) ⊛ raw (toks 𝓛 m κs.1 qs.1)) ⊛ ‵ (owns (Ref ∷ Alloc ∷ []) (place, (heap, tt)) (us, (vs, tt)))) ∷ []) ∵
            split ! $ split ! $ move ! (2 ∷ []) $ fsplit ! $ move ! (1 ∷ []) $ fsplit ! $
            -- [the allocator; nothing; self; its token; the other tokens]
            peeks ! Alloc (Is Alloc) (shows 𝓛 Alloc) heap vs (λ shown.
            let h = alone (lone Alloc.mir) vs (((global_laws.the_row_laws).lawful 𝓛).typed heap vs shown) in
            rewrite ! 0 (λ (ws : List Val). ‵ (Alloc.own_val heap ws)) h.1 refl $ fjoin ! $ move ! (1 ∷ []) $
            fsplit3 ! $ feq_l ! (λ s. feq_i ! (List Val) (vptr b o ∷ []) (vptr b o ∷ []) refl $ fjoin3 ! $ move ! (0 ∷ 2 ∷ 1 ∷ []) $
            by ! (subst (λ (ws : List Val × List Val). ent 𝓤 (Had h.0) (WpFn 𝓤 H 𝓣.C 𝓣.Λ fn (ws.0 ++ (ws.1 ++ [])) (AtEnd κs qs bd place heap ws.0 ws.1))) (λ i. (sym s i, sym h.1 i)) (walk h.0 h.2))))

        pub with_alloc : Meets 𝓛 (chains m os S E Ps ks).signature (WpFn 𝓤 H 𝓣.C 𝓣.Λ fn) (closing 𝓛 (chains m os S E Ps ks) c)
        with_alloc =
            walk_Meets 𝓛 (chains m os S E Ps ks) (stayed m os S E Ps ks hs) (Goes-spent_ref 𝓛 (suc m) (0 ∷ []) tt (plain (λ κs. S κs.1)), (Goes-blank 𝓛 (suc m) (plain (λ _. Alloc)) yes (λ κs x f. tt), tt)) c
            (WpFn 𝓤 H 𝓣.C 𝓣.Λ fn) (WpFn-mono 𝓤 H 𝓛.laws 𝓣 fn) (λ z. heard_long 𝓛 (Long z.0.0.1) _ _ (entry z.0.0 z.0.1 z.0.2 z.0.3.0 z.0.3.1.0 z.0.4.0 z.0.4.1.0))
