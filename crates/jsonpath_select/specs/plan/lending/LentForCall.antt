-- A call that lends itself to one in place, and gives itself back at `Ok`. Assumes `Logic`.
use mathlib.Core.Path.{◌≡◌, refl}
use mathlib.Core.Logic.{◌⊎◌, inl, inr}
use Prim.Native.Nat.{ℕ}
use mathlib.Core.List.{List, [], ◌∷◌}
use lib.Dec.{T}
use seplogic.Ra.Ura.{Ura}
use mir.Syntax.{Ty, named}
use mir.Val.{Val, vptr, vunit, has_ty, WT, of_list}
use base.Logic.{SProp, ent, sep, ex, all, all_e, apply∗, id⊢}
use base.Fml.{Lft, GName, Share, flft, fres}
use contract.Monad.{Fm}
use types.Logic.{Logic, sem}
use types.Kit.{Goal, Item, Seq, ‵, ◌⊛◌, raw, some, later, ◌$◌, ◌∵◌, !, qed, done, move, join, split, split3, use1, use2, pick, await, updating, now, show, rewrite}
use types.Match.{live}
use denote.Builtin.{unit}
use denote.Laws.{Typed, Is}
use denote.RattleType.{RattleType}
use denote.Ref.{MutBor}
use Rattle.std.specs.declared.result.Result.TheVariants.{Ok, Err}
use Rattle.std.specs.contracts.result.Result as RS
use Rattle.jsonpath_select.specs.plan.lending.Lending.{RefAt, Back, lends_for_call, outcome_cases}

-- an outcome is `Ok`, or `Err` with an error of this type
abbrev pub OkOrErr : Ty → Val → Type 0
OkOrErr ε v = (v ≡ live 0 (of_list (vunit ∷ []))) ⊎ ((w : Val) × (v ≡ live 1 (of_list (w ∷ []))) × (T (has_ty ε w) × WT w))

-- what is answered then: the reference, or the error
abbrev pub answered_value : (ε : Ty) (b o : ℕ) (v : Val) → OkOrErr ε v → Val
answered_value ε b o v (inl is) = live 0 (of_list (vptr b o ∷ []))
answered_value ε b o v (inr err) = live 1 (of_list (err.0 ∷ []))

abbrev pub Answered : {M : Type 1} (𝓤 : Ura M) → Ty → ℕ → ℕ → (Val → SProp 𝓤) → Val → SProp 𝓤
Answered 𝓤 ε b o Q v = ex 𝓤 (λ (x : OkOrErr ε v). Q (answered_value ε b o v x))

-- the loan for a call: its lifetime, name and share
abbrev pub Loan : Type 0
Loan = ℕ × GName × Share

-- the reference that the call is lent, and the one that it leaves at this last value
abbrev pub lent_at : {X : Type 0} → MutBor X → Loan → MutBor X
lent_at place l = record { ref_ptr = place.ref_ptr; ghost_name = l.1; now = place.now }

abbrev pub left_at : {X : Type 0} → MutBor X → X → MutBor X
left_at place y = record { ref_ptr = place.ref_ptr; ghost_name = place.ghost_name; now = y }

module _ {M : Type 1} {𝓤 : Ura M} (𝓛 : Logic 𝓤) (R E : RattleType) (ε : Ty) (typed : (e : E.Denot) (vs : List Val) → Is E e vs → Typed (ε ∷ []) vs)
    (κ : Lft) (q : Share) (place : MutBor R.Denot) where
  open 𝓛 use {H, A}

  abbrev b : ℕ
  b = place.ref_ptr.0

  abbrev o : ℕ
  o = place.ref_ptr.1

  abbrev γ : GName
  γ = place.ghost_name

  abbrev pub Out : RattleType
  Out = RS.the_row unit E

  -- the reference at this value
  abbrev pub HeldAt : R.Denot → SProp 𝓤
  HeldAt y = sem 𝓛 (RefAt 𝓛 R (named 0) (named 0) κ q γ b o (named 0) κ γ y)

  abbrev pub Lent : Loan → SProp 𝓤 → SProp 𝓤
  Lent c Rest = sep 𝓤 (sem 𝓛 (RefAt 𝓛 R (named 0) (named 0) κ q γ b o (named 0) (c.0 ∷ κ) c.1 place.now)) (sep 𝓤 (A.lft (c.0 ∷ κ) c.2) Rest)

  -- what the call in place gives
  abbrev pub CallGives : (Loan → Out.Denot → R.Denot → SProp 𝓤) → Loan → Val → SProp 𝓤
  CallGives Says c v = H.⇛ (ex 𝓤 (λ (r : Out.Denot). ex 𝓤 (λ (y : R.Denot). sep 𝓤 (sem 𝓛 (Out.own_val r (v ∷ []))) (sep 𝓤 (A.lft (c.0 ∷ κ) c.2) (sep 𝓤 (A.res c.1 (R.coded.code y)) (Says c r y))))))

  module _ (Run : (Val → SProp 𝓤) → SProp 𝓤) (fm : Fm 𝓤 Run) (Rest : SProp 𝓤) (Says : Loan → Out.Denot → R.Denot → SProp 𝓤) (Q : Val → SProp 𝓤)
      (call : (c : Loan) → ent 𝓤 (Lent c Rest) (Run (CallGives Says c)))
      (at_ok : (c : Loan) (y : R.Denot) → ent 𝓤 (sep 𝓤 (HeldAt y) (sep 𝓤 (A.lft κ q) (Says c (Ok tt) y))) (Q (live 0 (of_list (vptr b o ∷ [])))))
      (at_err : (c : Loan) (e : E.Denot) (w : Val) (y : R.Denot) → ent 𝓤 (sep 𝓤 (sem 𝓛 (E.own_val e (w ∷ []))) (sep 𝓤 (HeldAt y) (sep 𝓤 (A.lft κ q) (Says c (Err e) y)))) (Q (live 1 (of_list (w ∷ []))))) where
    back : (c : Loan) (v : Val) → ent 𝓤 (sep 𝓤 (CallGives Says c v) (all 𝓤 (Back 𝓛 R (named 0) (named 0) κ q γ b o c))) (H.⇛ (Answered 𝓤 ε b o Q v))
    back c v =
        qed 𝓛 (raw (CallGives Says c v) ∷ raw (all 𝓤 (Back 𝓛 R (named 0) (named 0) κ q γ b o c)) ∷ []) ∵ updating ! $
        use1 𝓛 (later (some (λ (r : Out.Denot). some (λ (y : R.Denot). ‵ (Out.own_val r (v ∷ [])) ⊛ ‵ (flft (c.0 ∷ κ) c.2) ⊛ ‵ (fres c.1 (R.coded.code y)) ⊛ raw (Says c r y))))) (id⊢ 𝓤 _) $
        await ! tt $ pick ! (λ r. pick ! (λ y. split3 ! $ move ! (2 ∷ []) $ split ! $
        -- [the last value; what is said; the outcome; the token; the way back]
        move ! (4 ∷ []) $ use1 𝓛 (raw (Back 𝓛 R (named 0) (named 0) κ q γ b o c y)) (all_e 𝓤 (Back 𝓛 R (named 0) (named 0) κ q γ b o c) y) $
        move ! (4 ∷ 1 ∷ []) $ join ! $
        use2 𝓛 (later (raw (HeldAt y) ⊛ ‵ (flft κ q))) (apply∗ 𝓤 (sep 𝓤 (A.lft (c.0 ∷ κ) c.2) (A.res c.1 (R.coded.code y))) (H.⇛ (sep 𝓤 (HeldAt y) (A.lft κ q)))) $ await ! tt $ split ! $
        -- [self; its token; what is said; the outcome]
        move ! (3 ∷ []) $ outcome_cases ! E ε typed r v
        (λ u is at. rewrite ! 2 (λ (x : Out.Denot). raw (Says c x y)) is refl $ now ! $ show ! (λ (x : OkOrErr ε v). Q (answered_value ε b o v x)) (inl at) $
        move ! (1 ∷ 2 ∷ []) $ join ! $ move ! (1 ∷ 0 ∷ []) $ join ! $ use1 𝓛 (raw (Q (live 0 (of_list (vptr b o ∷ []))))) (at_ok c y) $ done !)
        (λ e w is at tw. rewrite ! 3 (λ (x : Out.Denot). raw (Says c x y)) is refl $ now ! $ show ! (λ (x : OkOrErr ε v). Q (answered_value ε b o v x)) (inr (w, at, tw)) $
        move ! (2 ∷ 3 ∷ []) $ join ! $ move ! (2 ∷ 0 ∷ []) $ join ! $ move ! (1 ∷ 0 ∷ []) $ join ! $ use1 𝓛 (raw (Q (live 1 (of_list (w ∷ []))))) (at_err c e w y) $ done !)))

    pub lends : ent 𝓤 (sep 𝓤 (HeldAt place.now) (sep 𝓤 (A.lft κ q) Rest)) (H.⇛ (Run (λ v. H.⇛ (Answered 𝓤 ε b o Q v))))
    lends =
        qed 𝓛 (raw (HeldAt place.now) ∷ ‵ (flft κ q) ∷ raw Rest ∷ []) ∵ updating ! $
        use2 𝓛 (later (some (λ (c : Loan). ‵ (RefAt 𝓛 R (named 0) (named 0) κ q γ b o (named 0) (c.0 ∷ κ) c.1 place.now) ⊛ ‵ (flft (c.0 ∷ κ) c.2) ⊛ raw (all 𝓤 (Back 𝓛 R (named 0) (named 0) κ q γ b o c)))))
        (lends_for_call 𝓛 R (named 0) (named 0) κ q γ b o place.now) $ await ! tt $ pick ! (λ c. split3 ! $ now ! $
        -- [the loan; its token; the way back; the rest]
        move ! (1 ∷ 3 ∷ []) $ join ! $ move ! (1 ∷ 0 ∷ []) $ join ! $ use1 𝓛 (raw (Run (CallGives Says c))) (call c) $
        use2 𝓛 (raw (Run (λ v. H.⇛ (Answered 𝓤 ε b o Q v)))) (fm (CallGives Says c) (λ v. H.⇛ (Answered 𝓤 ε b o Q v)) (all 𝓤 (Back 𝓛 R (named 0) (named 0) κ q γ b o c)) (back c)) $ done !)

module _ {M : Type 1} {𝓤 : Ura M} {𝓛 : Logic 𝓤} {K : Type 0} {Γ : List (Item 𝓤)} {G : Goal 𝓤 𝓛.H} where
  pub by_ok_or_err : K → (ε : Ty) (b o : ℕ) (v : Val) (Q : Val → SProp 𝓤)
      → (v ≡ live 0 (of_list (vunit ∷ [])) → Seq K 𝓛 (raw (Q (live 0 (of_list (vptr b o ∷ [])))) ∷ Γ) G)
      → ((w : Val) → v ≡ live 1 (of_list (w ∷ [])) → T (has_ty ε w) × WT w → Seq K 𝓛 (raw (Q (live 1 (of_list (w ∷ [])))) ∷ Γ) G)
      → (x : OkOrErr ε v) → Seq K 𝓛 (raw (Q (answered_value ε b o v x)) ∷ Γ) G
  by_ok_or_err t ε b o v Q ok err (inl is) = ok is
  by_ok_or_err t ε b o v Q ok err (inr x) = err x.0 x.1 x.2
