-- What the proofs of the calls share that give the lender back at `Ok`. Assumes `Logic`.
--     follows_itself     a name follows itself
--     lends_for_call     a `&mut` is lent for a call, at a lifetime within its own, and comes back at the last value that the call says
--     lends_ok, lends_err     what the clause `LendsIfOk` asks of one that gives itself back, at `Ok` and at `Err`
--     outcome_cases      a `Result<(), E>` by value is `Ok`, or `Err` with what the error owns
use mathlib.Core.Path.{◌≡◌, refl, ap, ◌∙◌}
use mathlib.Core.Bool.{Bool, true, false, ◌&&◌}
use Prim.Native.Nat.{ℕ}
use mathlib.Core.List.{List, [], ◌∷◌, ◌++◌}
use lib.Dec.{T}
use seplogic.Ra.Ura.{Ura}
use mir.Syntax.{Ty, Lifetime}
use mir.Val.{Val, vptr, vunit, has_ty, WT, of_list}
use base.Fraction.{full_share}
use base.Share
use base.Share.{halves}
use base.FractionLaws.{common}
use base.Logic.{SProp, ent, sep, wand, ex, all, apply∗}
use base.Fml.{Fml, Lft, GName, Share as Part, ftrue, fex, feq, fsep, fres, fauth, flft, fdead}
use contract.BorrowLft.{meet_⊑_left}
use types.Logic.{Logic, sem}
use types.Kit.{Goal, Item, Seq, ‵, ◌⊛◌, raw, some, later, ◌$◌, ◌∵◌, !, qed, move, keep, drop, each, assume, split, fsplit, fjoin, fpick, fpack, feq_i, feq_l, use1, use2, use3, pick, await, updating, now, show, frame, rewrite, done}
use types.Match.{live}
use types.Tokens.{lft_new, lft_end, lft-common}
use denote.Builtin.{unit}
use denote.Follow.{follows, follows_by}
use denote.Laws.{Typed, Is, shows}
use denote.Lend.{lends_again, comes_back, LentAgain}
use denote.RattleType.{RattleType}
use denote.Ref.{MutBor, MutRef}
use denote.Steps.{peeks, only}
use Rattle.std.specs.Borrow.{LendsIfOk}
use Rattle.std.specs.declared.result.Result.TheVariants.{Ok, Err}
use Rattle.std.specs.contracts.result.Result as RS

pub and_true : (b : Bool) → T b → T (b && true)
and_true true t = tt
and_true false t = absurd t

pub alone : (τ : Ty) (vs : List Val) → Typed (τ ∷ []) vs → (v : Val) × (vs ≡ v ∷ []) × (T (has_ty τ v) × WT v)
alone τ [] t = absurd t
alone τ (v ∷ []) t = (v, refl, t.0)
alone τ (v ∷ u ∷ us) t = absurd t.1

module _ {M : Type 1} {𝓤 : Ura M} (𝓛 : Logic 𝓤) (R : RattleType) where
  open 𝓛 use {H, A}

  pub follows_itself : (γ : GName) → ent 𝓤 (sem 𝓛 ftrue) (sem 𝓛 (follows R R γ γ (λ w. w)))
  follows_itself γ =
      let From : R.Denot → R.Denot → Fml = λ z w. fsep (feq R.Denot z w) (fauth γ (R.coded.code w)) in
      let said = qed 𝓛 (‵ ftrue ∷ []) ∵ each ! (λ (w : R.Denot). wand 𝓤 (A.res γ (R.coded.code w)) (A.res γ (R.coded.code w))) (λ w. assume ! (‵ (fres γ (R.coded.code w))) $ keep ! (0 ∷ []) $ done !) in
      let back = qed 𝓛 (‵ ftrue ∷ []) ∵ each ! (λ (z : R.Denot). wand 𝓤 (A.auth γ (R.coded.code z)) (sem 𝓛 (fex R.Denot (From z)))) (λ z. assume ! (‵ (fauth γ (R.coded.code z))) $
      keep ! (0 ∷ []) $ feq_i ! R.Denot z z refl $ fjoin ! $ fpack ! R.Denot (From z) z $ done !) in
      record { apply = λ a p. (said.apply a p, back.apply a p) }

  module _ (ℓ ℓ' : Lifetime) (κ : Lft) (q : Part) (γ : GName) (b o : ℕ) where
    abbrev pub RefAt : Lifetime → Lft → GName → R.Denot → Fml
    RefAt l κ' δ y = (MutRef l κ' R).own_val (record { ref_ptr = (b, o); ghost_name = δ; now = y }) (vptr b o ∷ [])

    abbrev pub Back : ℕ × GName × Part → R.Denot → SProp 𝓤
    Back c y = wand 𝓤 (sep 𝓤 (A.lft (c.0 ∷ κ) c.2) (A.res c.1 (R.coded.code y))) (H.⇛ (sep 𝓤 (sem 𝓛 (RefAt ℓ κ γ y)) (A.lft κ q)))

    abbrev pub Away : R.Denot → ℕ × GName × Part → SProp 𝓤
    Away x c = sep 𝓤 (sem 𝓛 (RefAt ℓ' (c.0 ∷ κ) c.1 x)) (sep 𝓤 (A.lft (c.0 ∷ κ) c.2) (all 𝓤 (Back c)))

    pub lends_for_call : (x : R.Denot) → ent 𝓤 (sep 𝓤 (sem 𝓛 (RefAt ℓ κ γ x)) (A.lft κ q)) (H.⇛ (ex 𝓤 (Away x)))
    lends_for_call x =
        let l : Part = Share.left q in let r : Part = Share.right q in
        qed 𝓛 (‵ (RefAt ℓ κ γ x) ∷ ‵ (flft κ q) ∷ []) ∵ updating ! $ lft_new ! tt (λ α. move ! (2 ∷ []) $
        use1 𝓛 (‵ (flft κ l) ⊛ ‵ (flft κ r)) (𝓛.lfts.lft_cut κ q l r (halves q)) $ split ! $ move ! (3 ∷ 0 ∷ []) $
        use2 𝓛 (later (some (λ (δ : GName). ‵ (RefAt ℓ' (α ∷ κ) δ x) ⊛ ‵ (LentAgain R κ (α ∷ κ) l γ b o δ x)))) (lends_again 𝓛 R ℓ κ (α ∷ κ) l γ b o ℓ' x) $ await ! tt $ pick ! (λ δ. split ! $
        move ! (3 ∷ 2 ∷ []) $
        let s : Part = (common full_share r).0 in let Both : SProp 𝓤 = sep 𝓤 (A.lft (α ∷ []) full_share) (A.lft κ r) in
        use2 𝓛 (‵ (flft (α ∷ κ) s) ⊛ raw (wand 𝓤 (A.lft (α ∷ κ) s) Both)) (lft-common 𝓛 (α ∷ []) κ full_share r) $ split ! $
        now ! $ show ! (Away x) (α, δ, s) $ move ! (2 ∷ 0 ∷ []) $ frame ! $ frame ! $
        each ! (Back (α, δ, s)) (λ y. assume {P = H.⇛ (sep 𝓤 (sem 𝓛 (RefAt ℓ κ γ y)) (A.lft κ q))} ! (‵ (flft (α ∷ κ) s) ⊛ ‵ (fres δ (R.coded.code y))) $ updating ! $ split ! $ move ! (0 ∷ 2 ∷ []) $
        use2 𝓛 (‵ (flft (α ∷ []) full_share) ⊛ ‵ (flft κ r)) (apply∗ 𝓤 (A.lft (α ∷ κ) s) Both) $ split ! $ lft_end ! tt $
        use1 𝓛 (‵ (fdead (α ∷ κ))) (𝓛.lfts.dead-incl (α ∷ κ) (α ∷ []) (meet_⊑_left (α ∷ []) κ)) $ move ! (0 ∷ 3 ∷ 2 ∷ []) $
        use3 𝓛 (later (‵ (RefAt ℓ κ γ y) ⊛ ‵ (flft κ l))) (comes_back 𝓛 R ℓ κ (α ∷ κ) l γ b o δ x y) $ await ! tt $ split ! $ move ! (1 ∷ 2 ∷ []) $
        use2 𝓛 (‵ (flft κ q)) (𝓛.lfts.lft_glue κ q l r (halves q)) $ now ! $ move ! (1 ∷ 0 ∷ []) $ done !)))

module _ {M : Type 1} {𝓤 : Ura M} (𝓛 : Logic 𝓤) (R : RattleType) (s : MutBor R.Denot) (E : Type 0) where
  open 𝓛 use {A}

  pub lends_ok : (y : R.Denot) → ent 𝓤 (sem 𝓛 ftrue) (sem 𝓛 (LendsIfOk R R s {E = E} (Ok (record { ref_ptr = s.ref_ptr; ghost_name = s.ghost_name; now = y })) (λ w. w) s.now))
  unfolding follows_by
  lends_ok y = follows_itself 𝓛 R s.ghost_name

  pub lends_err : (e : E) → ent 𝓤 (A.obs s.ghost_name (R.coded.code s.now)) (sem 𝓛 (LendsIfOk R R s {E = E} (Err e) (λ w. w) s.now))
  unfolding follows_by
  lends_err e = 𝓛.names.obs-res s.ghost_name (R.coded.code s.now)

module _ {M : Type 1} {𝓤 : Ura M} {𝓛 : Logic 𝓤} {K : Type 0} {Γ : List (Item 𝓤)} {G : Goal 𝓤 𝓛.H} where
  pub outcome_cases : K → (E : RattleType) (τ : Ty) → ((e : E.Denot) (vs : List Val) → Is E e vs → Typed (τ ∷ []) vs) → (r : (RS.the_row unit E).Denot) (v : Val)
      → ((u : Unit {0}) → r ≡ Ok u → v ≡ live 0 (of_list (vunit ∷ [])) → Seq K 𝓛 Γ G)
      → ((e : E.Denot) (w : Val) → r ≡ Err e → v ≡ live 1 (of_list (w ∷ [])) → T (has_ty τ w) × WT w → Seq K 𝓛 (‵ (E.own_val e (w ∷ [])) ∷ Γ) G)
      → Seq K 𝓛 (‵ ((RS.the_row unit E).own_val r (v ∷ [])) ∷ Γ) G
  outcome_cases t E τ typed (Ok u) v ok err =
      fpick t (λ ps. fsplit t $ feq_l t (λ e. fpick t (λ vss. fsplit t $ feq_l t (λ f. fsplit t $ feq_l t (λ g. drop t $
      ok u refl (ap only e ∙ ap (λ (xs : List Val). live 0 (of_list xs)) (f ∙ ap (λ (ws : List Val). ws ++ []) g)))))))
  outcome_cases t E τ typed (Err x) v ok err =
      fpick t (λ ps. fsplit t $ feq_l t (λ e. fpick t (λ vss. fsplit t $ feq_l t (λ f. fsplit t $
      peeks t E (Is E) (shows 𝓛 E) x vss.0 (λ shown.
      let one = alone τ vss.0 (typed x vss.0 shown) in
      rewrite t 0 (λ (ws : List Val). ‵ (E.own_val x ws)) one.1 refl $ move t (1 ∷ []) $ drop t $
      err x one.0 refl (ap only e ∙ ap (λ (xs : List Val). live 1 (of_list xs)) (f ∙ ap (λ (ws : List Val). ws ++ []) one.1)) one.2)))))
