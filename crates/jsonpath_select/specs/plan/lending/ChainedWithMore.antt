-- A call that lends itself to one in place and takes one more parameter, which it hands on. Assumes `Logic`.
use mathlib.Core.Path.{◌≡◌, refl, sym, subst}
use Prim.Native.Nat.{ℕ, suc}
use mathlib.Core.List.{List, [], ◌∷◌, ◌++◌}
use seplogic.Ra.Ura.{Ura}
use mir.Syntax.{Ty, Fn, Callee, named}
use lib.Dec.{T}
use mir.Val.{Val, vptr, has_ty, WT}
use base.Logic.{SProp, ent, sep, emp, id⊢, via, fst∗}
use base.Fml.{Lft, GName, Share, flft}
use contract.Lifetimes.{Lfts, Shares, Outlives, AllOutlive, toks}
use contract.Monad.{fact, fact_i}
use prog.Wp.{WpFn, Tables}
use sound.WpLaws.{FmC, WpFn-mono}
use types.Logic.{Logic, sem}
use types.Kit.{‵, ◌⊛◌, raw, ◌$◌, ◌∵◌, !, qed, done, by, move, join, split, fsplit, fsplit3, fjoin3, feq_i, feq_l, use0, rewrite}
use denote.Exit.{yes, left}
use denote.Laws.{Typed, Is, shows}
use denote.Memory.{lone}
use denote.RattleType.{RattleType, owns}
use denote.Ref.{MutBor, MutRef}
use denote.Signature.{Slot, plain}
use denote.Steps.{peeks, heard}
use denote.Triple.Clauses.{Clauses, at_exit, closing}
use denote.Triple.End.{Kepts, Fins}
use denote.Triple.Entry.{on_entry}
use denote.Triple.Spec.{Meets}
use denote.Triple.Statement.{Triple}
use denote.Triple.Walked.{Stay, Stays, walk_of, Goes-spent_ref, walk_Meets}
use Rattle.std.specs.Borrow.{LendsIfOk}
use Rattle.std.specs.declared.result.Result.TheVariants.{Ok, Err}
use Rattle.std.proofs.alloc.Global.TheLaws as global_laws
use Rattle.jsonpath_select.specs.plan.lending.Lending.{alone}
use Rattle.jsonpath_select.specs.plan.lending.Chained.{chains, in_place, stayed, G, chained}
use Rattle.jsonpath_select.specs.plan.lending.ChainedCalls.{Alloc, Said}
use Rattle.jsonpath_select.specs.plan.lending.LentForCall.{Answered, lent_at, left_at}

-- of a parameter that is handed on, what is said of what it leaves is had
abbrev handed : {n : ℕ} (s : Slot n) → Stay s yes
handed s = record { fit = λ κs x f. Unit {0}; has = λ κs x f vs. left ((s.row κs).exit yes) x f }

-- how it is handed on: what is known of its one machine value, and what is asked of it
pub record HandsOn {M : Type 1} (𝓤 : Ura M) (m : ℕ) (P : Lfts m → RattleType) : Type 2 where
  pub Shown : Val → Type 0
  pub one : (λs : Lfts m) (x : (P λs).Denot) (vs : List Val) → Is (P λs) x vs → (p : Val) × (vs ≡ p ∷ []) × Shown p
  pub Known : (λs : Lfts m) → (P λs).Denot → Type 0
  pub asks : (λs : Lfts m) → (P λs).Denot → SProp 𝓤
  pub hears : (λs : Lfts m) (x : (P λs).Denot) (A B : SProp 𝓤) → (Known λs x → ent 𝓤 A B) → ent 𝓤 (sep 𝓤 A (asks λs x)) B
  pub tells : (λs : Lfts m) (x : (P λs).Denot) → Known λs x → ent 𝓤 (emp 𝓤) (asks λs x)

-- these facts alone
abbrev pub facts : {M : Type 1} (𝓤 : Ura M) → List (Type 0) → SProp 𝓤
facts 𝓤 [] = emp 𝓤
facts 𝓤 (Long ∷ more) = sep 𝓤 (fact 𝓤 Long) (facts 𝓤 more)

abbrev pub AreAll : List (Type 0) → Type 0
AreAll [] = Unit {0}
AreAll (Long ∷ more) = Long × AreAll more

module _ {M : Type 1} {𝓤 : Ura M} (𝓛 : Logic 𝓤) where
  pub hear : (Longs : List (Type 0)) (A B : SProp 𝓤) → (AreAll Longs → ent 𝓤 A B) → ent 𝓤 (sep 𝓤 A (facts 𝓤 Longs)) B
  hear [] A B holds = via 𝓤 A (fst∗ 𝓤 A (emp 𝓤)) (holds tt)
  hear (Long ∷ more) A B holds = qed 𝓛 (raw A ∷ (raw (fact 𝓤 Long) ⊛ raw (facts 𝓤 more)) ∷ []) ∵ move ! (1 ∷ []) $ split ! $ heard ! _ (λ long. move ! (1 ∷ 0 ∷ []) $ join ! $ by ! (hear more A B (λ rest. holds (long, rest))))

  pub tell : (Longs : List (Type 0)) → AreAll Longs → ent 𝓤 (emp 𝓤) (facts 𝓤 Longs)
  tell [] known = id⊢ 𝓤 (emp 𝓤)
  tell (Long ∷ more) known = qed 𝓛 [] ∵ use0 𝓛 (raw (facts 𝓤 more)) (tell more known.1) $ use0 𝓛 (raw (fact 𝓤 Long)) (fact_i 𝓤 Long (emp 𝓤) known.0) $ join ! $ done !

-- a value of this type, beside facts of the lifetimes
abbrev pub as_typed : {M : Type 1} {𝓤 : Ura M} (𝓛 : Logic 𝓤) (m : ℕ) (P : Lfts m → RattleType) (β : Ty) → ((λs : Lfts m) (x : (P λs).Denot) (vs : List Val) → Is (P λs) x vs → Typed (β ∷ []) vs) → (Lfts m → List (Type 0)) → HandsOn 𝓤 m P
as_typed {𝓤 = 𝓤} 𝓛 m P β typed Longs = record {
  Shown = λ p. T (has_ty β p) × WT p;
  one = λ λs x vs is. alone β vs (typed λs x vs is);
  Known = λ λs x. AreAll (Longs λs);
  asks = λ λs x. facts 𝓤 (Longs λs);
  hears = λ λs x. hear 𝓛 (Longs λs);
  tells = λ λs x. tell 𝓛 (Longs λs);
}

-- a reference to a value of which this is asked, beside two facts of the lifetimes
abbrev pub as_lent : {M : Type 1} {𝓤 : Ura M} (𝓛 : Logic 𝓤) (m j : ℕ) (κ : Lfts m → Lft) (R : RattleType) (Long Long' : Lfts m → Type 0) (May : R.Denot → Type 0) → HandsOn 𝓤 m (λ λs. MutRef (named j) (κ λs) R)
as_lent {𝓤 = 𝓤} 𝓛 m j κ R Long Long' May = record {
  Shown = λ p. (at : ℕ × ℕ) × (p ≡ vptr at.0 at.1);
  one = λ λs x vs is. (vptr x.ref_ptr.0 x.ref_ptr.1, is.0, (x.ref_ptr, refl));
  Known = λ λs x. Long λs × Long' λs × May x.now;
  asks = λ λs x. sep 𝓤 (fact 𝓤 (Long λs)) (sep 𝓤 (fact 𝓤 (Long' λs)) (fact 𝓤 (May x.now)));
  hears = λ λs x A B holds. qed 𝓛 (raw A ∷ (raw (fact 𝓤 (Long λs)) ⊛ raw (fact 𝓤 (Long' λs)) ⊛ raw (fact 𝓤 (May x.now))) ∷ []) ∵ move ! (1 ∷ []) $ split ! $ heard ! _ (λ long. split ! $ heard ! _ (λ long'. heard ! _ (λ may. by ! (holds (long, long', may)))));
  tells = λ λs x known. qed 𝓛 [] ∵ use0 𝓛 (raw (fact 𝓤 (May x.now))) (fact_i 𝓤 (May x.now) (emp 𝓤) known.2) $ use0 𝓛 (raw (fact 𝓤 (Long' λs))) (fact_i 𝓤 (Long' λs) (emp 𝓤) known.1) $ join ! $ use0 𝓛 (raw (fact 𝓤 (Long λs))) (fact_i 𝓤 (Long λs) (emp 𝓤) known.0) $ join ! $ done !;
}

module _ (m : ℕ) (os : List (Outlives (suc m))) (S : Lfts m → RattleType) (E : RattleType) (P : Lfts m → RattleType) where
  abbrev Ps : List (Slot (suc m))
  Ps = plain (λ _. Alloc) ∷ plain (λ κs. P κs.1) ∷ []

  abbrev ks : Kepts Ps
  ks = (yes, (yes, tt))

  abbrev hs : Stays Ps ks
  hs = (handed (plain (λ _. Alloc)), (handed (plain (λ κs. P κs.1)), tt))

  module _ {M : Type 1} {𝓤 : Ura M} (𝓛 : Logic 𝓤) (typed : (e : E.Denot) (vs : List Val) → Is E e vs → Typed (lone E.mir ∷ []) vs) (on : HandsOn 𝓤 m P)
      (shorter : (κs : Lfts (suc m)) (α : ℕ) → AllOutlive (suc m) os κs → AllOutlive (suc m) os (α ∷ κs.0, κs.1)) (gives : Said 𝓤 (chains m os S E Ps ks)) (says : Said 𝓤 (in_place m os S E Ps ks)) where
    open 𝓛 use {H, A}

    abbrev c : Clauses 𝓤 (chains m os S E Ps ks)
    c κs a = record { ghost = Unit {0}; requires = λ _. on.asks κs.1 a.1.1.0; ensures = λ _. gives κs a }

    abbrev g : Clauses 𝓤 (in_place m os S E Ps ks)
    g κs a = record { ghost = Unit {0}; requires = λ _. on.asks κs.1 a.1.1.0; ensures = λ _. says κs a }

    module _ (at_ok : (κs : Lfts (suc m)) (place : MutBor (S κs.1).Denot) (heap : Alloc.Denot) (x : (P κs.1).Denot) (l : ℕ × GName × Share) (y : (S κs.1).Denot) (w : Fins κs Ps ks (heap, (x, tt)))
        → ent 𝓤 (sep 𝓤 (sem 𝓛 (LendsIfOk (S κs.1) (S κs.1) place {E = E.Denot} (Ok (left_at place y)) (λ z. z) place.now)) (says (l.0 ∷ κs.0, κs.1) (lent_at place l, (heap, (x, tt))) (Ok tt) (at_exit (in_place m os S E Ps ks) (l.0 ∷ κs.0, κs.1) (lent_at place l, (heap, (x, tt))) (y, w))))
        (gives κs (place, (heap, (x, tt))) (Ok (left_at place y)) (at_exit (chains m os S E Ps ks) κs (place, (heap, (x, tt))) (tt, w))))
        (at_err : (κs : Lfts (suc m)) (place : MutBor (S κs.1).Denot) (heap : Alloc.Denot) (x : (P κs.1).Denot) (l : ℕ × GName × Share) (e : E.Denot) (y : (S κs.1).Denot) (w : Fins κs Ps ks (heap, (x, tt)))
        → ent 𝓤 (sep 𝓤 (A.obs place.ghost_name ((S κs.1).coded.code y)) (says (l.0 ∷ κs.0, κs.1) (lent_at place l, (heap, (x, tt))) (Err e) (at_exit (in_place m os S E Ps ks) (l.0 ∷ κs.0, κs.1) (lent_at place l, (heap, (x, tt))) (y, w))))
        (gives κs (place, (heap, (x, tt))) (Err e) (at_exit (chains m os S E Ps ks) κs (place, (heap, (x, tt))) (tt, w)))) (key : Callee) (fn : Fn) (𝓣 : Tables 𝓤 H) (fm : FmC 𝓤 H 𝓛.laws 𝓣.C) (holds : Triple 𝓤 (𝓣.C key) (G m os S E Ps ks 𝓛 (lone E.mir) typed hs c g))
        (runs : (b o : ℕ) (h p : Val) → T (has_ty (lone Alloc.mir) h) × WT h → on.Shown p → (Q : Val → SProp 𝓤)
        → ent 𝓤 (H.⇛ (𝓣.C key (vptr b o ∷ h ∷ p ∷ []) (λ v. H.⇛ (Answered 𝓤 (lone E.mir) b o Q v)))) (WpFn 𝓤 H 𝓣.C 𝓣.Λ fn (vptr b o ∷ h ∷ p ∷ []) Q)) where
      abbrev AtEnd : (κs : Lfts (suc m)) → Shares (suc m) → AllOutlive (suc m) os κs → MutBor (S κs.1).Denot → Alloc.Denot → (P κs.1).Denot → List Val → List Val → List Val → Val → SProp 𝓤
      AtEnd κs qs bd place heap x us vs ps = (walk_of 𝓛 (chains m os S E Ps ks) (stayed m os S E Ps ks hs) c).post ((κs, qs, bd, (place, (heap, (x, tt))), (us, (vs, (ps, tt)))), tt)

      entry : (κs : Lfts (suc m)) (qs : Shares (suc m)) (bd : AllOutlive (suc m) os κs) (place : MutBor (S κs.1).Denot) (heap : Alloc.Denot) (x : (P κs.1).Denot) (us vs ps : List Val) → on.Known κs.1 x
          → ent 𝓤 (on_entry 𝓛 (chains m os S E Ps ks).signature κs qs (place, (heap, (x, tt))) (us, (vs, (ps, tt)))) (WpFn 𝓤 H 𝓣.C 𝓣.Λ fn (us ++ (vs ++ (ps ++ []))) (AtEnd κs qs bd place heap x us vs ps))
      entry κs qs bd place heap x us vs ps known =
          let b : ℕ = place.ref_ptr.0 in let o : ℕ = place.ref_ptr.1 in
          let Ref : RattleType = MutRef (named 0) κs.0 (S κs.1) in
          let Had : Val → Val → SProp 𝓤 = λ h p. sep 𝓤 (sem 𝓛 (Ref.own_val place (vptr b o ∷ []))) (sep 𝓤 (A.lft κs.0 qs.0) (sep 𝓤 (sem 𝓛 (owns (Alloc ∷ P κs.1 ∷ []) (heap, (x, tt)) (h ∷ [], (p ∷ [], tt)))) (toks 𝓛 m κs.1 qs.1))) in
          let walk : (h p : Val) → T (has_ty (lone Alloc.mir) h) × WT h → on.Shown p → ent 𝓤 (Had h p) (WpFn 𝓤 H 𝓣.C 𝓣.Λ fn (vptr b o ∷ h ∷ p ∷ []) (AtEnd κs qs bd place heap x (vptr b o ∷ []) (h ∷ []) (p ∷ []))) = λ h p th tp.
          via 𝓤 _ (chained m os S E Ps ks 𝓛 (lone E.mir) typed hs c g κs qs bd place (heap, (x, tt)) (vptr b o ∷ []) (h ∷ [], (p ∷ [], tt)) (λ l. (heap, (x, tt))) (λ l. (h ∷ [], (p ∷ [], tt))) (h ∷ p ∷ []) (λ l. refl) (λ l. shorter κs l.0 bd) (λ l. tt) (λ l. on.tells κs.1 x known) (λ l. id⊢ 𝓤 _) (λ l w. w) (λ w. (tt, (tt, tt)))
          (λ l w. id⊢ 𝓤 _) tt (at_ok κs place heap x) (at_err κs place heap x) 𝓣.C fm key holds)
          (runs b o h p th tp (AtEnd κs qs bd place heap x (vptr b o ∷ []) (h ∷ []) (p ∷ []))) in
          qed 𝓛 (((‵ (flft κs.0 qs.0) ⊛ raw (toks 𝓛 m κs.1 qs.1)) ⊛ ‵ (owns (Ref ∷ Alloc ∷ P κs.1 ∷ []) (place, (heap, (x, tt))) (us, (vs, (ps, tt))))) ∷ []) ∵
          split ! $ split ! $ move ! (2 ∷ []) $ fsplit ! $ move ! (1 ∷ []) $ fsplit3 ! $
          -- [the allocator; the other; nothing; self; its token; the other tokens]
          peeks ! Alloc (Is Alloc) (shows 𝓛 Alloc) heap vs (λ shown. move ! (1 ∷ []) $ peeks ! (P κs.1) (Is (P κs.1)) (shows 𝓛 (P κs.1)) x ps (λ shown_x.
          let h = alone (lone Alloc.mir) vs (((global_laws.the_row_laws).lawful 𝓛).typed heap vs shown) in
          let p = on.one κs.1 x ps shown_x in
          rewrite ! 0 (λ (ws : List Val). ‵ ((P κs.1).own_val x ws)) p.1 refl $ rewrite ! 1 (λ (ws : List Val). ‵ (Alloc.own_val heap ws)) h.1 refl $ move ! (1 ∷ 0 ∷ []) $ fjoin3 ! $ move ! (1 ∷ []) $
          fsplit3 ! $ feq_l ! (λ s. feq_i ! (List Val) (vptr b o ∷ []) (vptr b o ∷ []) refl $ fjoin3 ! $ move ! (0 ∷ 2 ∷ 1 ∷ []) $
          by ! (subst (λ (ws : List Val × List Val × List Val). ent 𝓤 (Had h.0 p.0) (WpFn 𝓤 H 𝓣.C 𝓣.Λ fn (ws.0 ++ (ws.1 ++ (ws.2 ++ []))) (AtEnd κs qs bd place heap x ws.0 ws.1 ws.2))) (λ i. (sym s i, sym h.1 i, sym p.1 i)) (walk h.0 p.0 h.2 p.2)))))

      pub with_one_more : Meets 𝓛 (chains m os S E Ps ks).signature (WpFn 𝓤 H 𝓣.C 𝓣.Λ fn) (closing 𝓛 (chains m os S E Ps ks) c)
      with_one_more =
          walk_Meets 𝓛 (chains m os S E Ps ks) (stayed m os S E Ps ks hs) (Goes-spent_ref 𝓛 (suc m) (0 ∷ []) tt (plain (λ κs. S κs.1)), (λ κs heap f vs fits. 𝓛.laws.⇛_intro _, (λ κs x f vs fits. 𝓛.laws.⇛_intro _, tt))) c
          (WpFn 𝓤 H 𝓣.C 𝓣.Λ fn) (WpFn-mono 𝓤 H 𝓛.laws 𝓣 fn) (λ z. on.hears z.0.0.1 z.0.3.1.1.0 _ _ (λ known. entry z.0.0 z.0.1 z.0.2 z.0.3.0 z.0.3.1.0 z.0.3.1.1.0 z.0.4.0 z.0.4.1.0 z.0.4.1.1.0 known))
