-- A call that lends itself to one in place, and gives itself back at `Ok`. Assumes `Logic`.
use mathlib.Core.Path.{◌≡◌, subst}
use Prim.Native.Nat.{ℕ, suc}
use mathlib.Core.List.{List, [], ◌∷◌}
use seplogic.Ra.Ura.{Ura}
use mir.Syntax.{Ty, Callee, named}
use mir.Val.{Val, vptr, of_list}
use base.Logic.{SProp, ent, sep, emp, ex, id⊢, via}
use base.Fml.{Fml, flft}
use contract.Lifetimes.{Lfts, Shares, Outlives, AllOutlive, toks}
use contract.Monad.{fm→mono}
use prog.Wp.{Calls}
use sound.WpLaws.{FmC}
use types.Logic.{Logic, sem}
use types.Kit.{‵, ◌⊛◌, raw, some, later, ◌$◌, ◌∵◌, !, qed, done, move, keep, drop, join, frame, fsplit, fsplit3, fjoin, suffices, split, use0, use1, use2, pick, await, updating, now, show}
use types.Match.{live}
use denote.Builtin.{unit}
use denote.Exit.{no, yes}
use denote.Laws.{Typed, Is}
use denote.RattleType.{RattleType, Denots, Valss, flat, owns}
use denote.Ref.{MutBor, MutRef}
use denote.Signature.{Slot, plain, mut_ref_to, type_at, types_at}
use denote.Steps.{nothing}
use denote.Triple.Clauses.{Clauses, Ended, Lasts, at_exit, lasts, closing}
use denote.Triple.End.{Kepts, Fins, lasts_of}
use denote.Triple.Spec.{triple_of}
use denote.Triple.Statement.{Triple, Contract}
use denote.Triple.Walked.{Stays, stay_dropped, fits_of, has_of, walk_of, ends_at}
use Rattle.std.specs.declared.result.Result.TheVariants.{Ok, Err}
use Rattle.std.specs.Borrow.{LendsIfOk}
use Rattle.std.specs.contracts.result.Result as RS
use Rattle.std.proofs.result.Made.{Ok-of, Err-of}
use Rattle.jsonpath_select.specs.plan.lending.Lending.{RefAt, lends_ok}
use Rattle.jsonpath_select.specs.plan.lending.LentForCall.{Answered, CallGives, Lent, lends, Loan, lent_at, left_at}

module _ (m : ℕ) (os : List (Outlives (suc m))) (S : Lfts m → RattleType) (E : RattleType) (Ps : List (Slot (suc m))) (ks : Kepts Ps) where
  -- `&mut self`, at the first lifetime, which the type behind it does not name
  abbrev pub self_slot : Slot (suc m)
  self_slot = mut_ref_to (0 ∷ []) tt (plain (λ κs. S κs.1))

  -- the call that gives itself back, and the one in place
  abbrev pub chains : Ended
  chains = record { signature = record { lifetimes = suc m; outlives = os; params = self_slot ∷ Ps; result = plain (λ κs. RS.the_row (type_at self_slot κs) E) }; kept = (no, ks) }

  abbrev pub in_place : Ended
  in_place = record { signature = record { lifetimes = suc m; outlives = os; params = self_slot ∷ Ps; result = plain (λ κs. RS.the_row unit E) }; kept = (yes, ks) }

  module _ (hs : Stays Ps ks) where
    abbrev pub stayed : Stays chains.signature.params chains.kept
    stayed = (stay_dropped self_slot no, hs)

  module _ {M : Type 1} {𝓤 : Ura M} (𝓛 : Logic 𝓤) (ε : Ty) (typed : (e : E.Denot) (vs : List Val) → Is E e vs → Typed (ε ∷ []) vs) (hs : Stays Ps ks) (c : Clauses 𝓤 chains) (g : Clauses 𝓤 in_place) where
    open 𝓛 use {H, A}

    abbrev pub G : Contract 𝓤
    G = triple_of 𝓛 in_place.signature (closing 𝓛 in_place g)

    module _ (κs : Lfts (suc m)) (qs : Shares (suc m)) (bd : AllOutlive (suc m) os κs) (place : MutBor (S κs.1).Denot) (xs : Denots (types_at Ps κs)) (us : List Val) (vss : Valss (types_at Ps κs)) where
      abbrev b : ℕ
      b = place.ref_ptr.0

      abbrev o : ℕ
      o = place.ref_ptr.1

      abbrev pub meanwhile : Loan → Lfts (suc m)
      meanwhile l = (l.0 ∷ κs.0, κs.1)

      abbrev Ref : RattleType
      Ref = MutRef (named 0) κs.0 (S κs.1)

      abbrev Out : RattleType
      Out = RS.the_row unit E

      -- the tokens of the other lifetimes
      abbrev pub Others : SProp 𝓤
      Others = toks 𝓛 m κs.1 qs.1

      -- what the other parameters are at the loan's lifetime, and what they leave
      module _ (xs' : (l : Loan) → Denots (types_at Ps (meanwhile l))) (vss' : (l : Loan) → Valss (types_at Ps (meanwhile l))) (vs : List Val) (flat' : (l : Loan) → flat (types_at Ps (meanwhile l)) (vss' l) ≡ vs)
          (bd' : (l : Loan) → AllOutlive (suc m) os (meanwhile l)) (gg : (l : Loan) → (g (meanwhile l) (lent_at place l, xs' l)).ghost) (asked : (l : Loan) → ent 𝓤 (emp 𝓤) ((g (meanwhile l) (lent_at place l, xs' l)).requires (gg l)))
          (had : (l : Loan) → ent 𝓤 (sem 𝓛 (owns (types_at Ps κs) xs vss)) (sem 𝓛 (owns (types_at Ps (meanwhile l)) (xs' l) (vss' l))))
          (rest : (l : Loan) → Fins (meanwhile l) Ps ks (xs' l) → Fins κs Ps ks xs) (fits : (w : Fins κs Ps ks xs) → fits_of κs Ps ks hs xs w)
          (leaves : (l : Loan) (w : Fins (meanwhile l) Ps ks (xs' l)) → ent 𝓤 (sem 𝓛 (lasts_of (meanwhile l) Ps ks (xs' l) w)) (sem 𝓛 (has_of κs Ps ks hs xs (rest l w) vss)))
          (gh : (c κs (place, xs)).ghost) where
        abbrev Rests : Loan → Type 0
        Rests l = Fins (meanwhile l) Ps ks (xs' l)

        abbrev pub Ensured : (l : Loan) → Out.Denot → (S κs.1).Denot → Rests l → SProp 𝓤
        Ensured l r y w = (g (meanwhile l) (lent_at place l, xs' l)).ensures (gg l) r (at_exit in_place (meanwhile l) (lent_at place l, xs' l) (y, w))

        abbrev pub AtEnd : (RS.the_row Ref E).Denot → Fins κs Ps ks xs → SProp 𝓤
        AtEnd r w = (c κs (place, xs)).ensures gh r (at_exit chains κs (place, xs) (tt, w))

        abbrev Says : Loan → Out.Denot → (S κs.1).Denot → SProp 𝓤
        Says l r y = sep 𝓤 Others (ex 𝓤 (λ (w : Rests l). sep 𝓤 (sem 𝓛 (has_of κs Ps ks hs xs (rest l w) vss)) (Ensured l r y w)))

        abbrev With : Loan → Val → Out.Denot → (S κs.1).Denot → SProp 𝓤
        With l v r y = sep 𝓤 (sem 𝓛 (Out.own_val r (v ∷ []))) (sep 𝓤 (A.lft (l.0 ∷ κs.0) l.2) (sep 𝓤 (A.res l.1 ((S κs.1).coded.code y)) (Says l r y)))

        abbrev pass : Loan → G.Ghost
        pass l = ((meanwhile l, (l.2, qs.1), bd' l, (lent_at place l, xs' l), (vptr b o ∷ [], vss' l)), gg l)

        told : (l : Loan) (v : Val) → ent 𝓤 (G.post (pass l) v) (CallGives 𝓛 (S κs.1) E ε typed κs.0 qs.0 place Says l v)
        told l v =
            qed 𝓛 (raw (G.post (pass l) v) ∷ []) ∵ updating ! $
            use1 𝓛 (later (some (λ (r : Out.Denot). ((‵ (flft (l.0 ∷ κs.0) l.2) ⊛ raw Others) ⊛ ‵ (Out.own_val r (v ∷ []))) ⊛
            some (λ (ws : Lasts in_place (meanwhile l) (lent_at place l, xs' l)). ‵ (lasts in_place (meanwhile l) (lent_at place l, xs' l) ws) ⊛ raw (Ensured l r ws.0 ws.1))))) (id⊢ 𝓤 _) $
            await ! tt $ pick ! (λ r. split ! $ split ! $ split ! $ move ! (3 ∷ []) $ pick ! (λ ws. split ! $ fsplit ! $ fsplit ! $
            -- [the last value; the borrow; what the others leave; what is said; the token; the other tokens; the outcome]
            move ! (2 ∷ []) $ use1 𝓛 (‵ (has_of κs Ps ks hs xs (rest l ws.1) vss)) (leaves l ws.1) $
            now ! $ show ! (λ (r : Out.Denot). ex 𝓤 (λ (y : (S κs.1).Denot). With l v r y)) r $ show ! (With l v r) ws.0 $
            keep ! (6 ∷ 4 ∷ 1 ∷ 5 ∷ 0 ∷ 3 ∷ []) $ frame ! $ frame ! $ frame ! $ frame ! $
            show ! (λ (w : Rests l). sep 𝓤 (sem 𝓛 (has_of κs Ps ks hs xs (rest l w) vss)) (Ensured l r ws.0 w)) ws.1 $ done !))

        before : (l : Loan) → ent 𝓤 (Lent 𝓛 (S κs.1) E ε typed κs.0 qs.0 place l (sep 𝓤 (sem 𝓛 (owns (types_at Ps κs) xs vss)) Others)) (G.pre (pass l))
        before l =
            qed 𝓛 (‵ (RefAt 𝓛 (S κs.1) (named 0) (named 0) κs.0 qs.0 place.ghost_name b o (named 0) (l.0 ∷ κs.0) l.1 place.now) ∷ ‵ (flft (l.0 ∷ κs.0) l.2) ∷ ‵ (owns (types_at Ps κs) xs vss) ∷ raw Others ∷ []) ∵
            move ! (2 ∷ []) $ use1 𝓛 (‵ (owns (types_at Ps (meanwhile l)) (xs' l) (vss' l))) (had l) $ move ! (1 ∷ 0 ∷ []) $ fjoin ! $ move ! (1 ∷ 2 ∷ []) $ join ! $ join ! $
            use0 𝓛 (raw ((g (meanwhile l) (lent_at place l, xs' l)).requires (gg l))) (asked l) $ move ! (1 ∷ 0 ∷ []) $ done !

        abbrev bound : (walk_of 𝓛 chains (stayed hs) c).Ghost
        bound = ((κs, qs, bd, (place, xs), (us, vss)), gh)

        abbrev pub Post : Val → SProp 𝓤
        Post = (walk_of 𝓛 chains (stayed hs) c).post bound

        abbrev Self : (S κs.1).Denot → Fml
        Self y = RefAt 𝓛 (S κs.1) (named 0) (named 0) κs.0 qs.0 place.ghost_name b o (named 0) κs.0 place.ghost_name y

        module _ (at_ok : (l : Loan) (y : (S κs.1).Denot) (w : Rests l) → ent 𝓤 (sep 𝓤 (sem 𝓛 (LendsIfOk (S κs.1) (S κs.1) place {E = E.Denot} (Ok (left_at place y)) (λ z. z) place.now)) (Ensured l (Ok tt) y w)) (AtEnd (Ok (left_at place y)) (rest l w)))
            (at_err : (l : Loan) (e : E.Denot) (y : (S κs.1).Denot) (w : Rests l) → ent 𝓤 (sep 𝓤 (A.obs place.ghost_name ((S κs.1).coded.code y)) (Ensured l (Err e) y w)) (AtEnd (Err e) (rest l w))) where
          ends_ok : (l : Loan) (y : (S κs.1).Denot) → ent 𝓤 (sep 𝓤 (sem 𝓛 (Self y)) (sep 𝓤 (A.lft κs.0 qs.0) (Says l (Ok tt) y))) (Post (live 0 (of_list (vptr b o ∷ []))))
          ends_ok l y =
              qed 𝓛 (‵ (Self y) ∷ ‵ (flft κs.0 qs.0) ∷ (raw Others ⊛ some (λ (w : Rests l). ‵ (has_of κs Ps ks hs xs (rest l w) vss) ⊛ raw (Ensured l (Ok tt) y w))) ∷ []) ∵
              move ! (2 ∷ []) $ split ! $ move ! (1 ∷ []) $ pick ! (λ w. split ! $ move ! (3 ∷ []) $
              -- [self; what the others leave; what is said; the other tokens; its token]
              use1 𝓛 (‵ ((RS.the_row Ref E).own_val (Ok (left_at place y)) (live 0 (of_list (vptr b o ∷ [])) ∷ []))) (Ok-of 𝓛 Ref E (left_at place y) (vptr b o)) $
              suffices ! _ (ends_at 𝓛 chains (stayed hs) c bound (live 0 (of_list (vptr b o ∷ []))) (Ok (left_at place y)) (tt, rest l w) (tt, fits (rest l w))) $
              nothing ! $ use1 𝓛 (‵ (LendsIfOk (S κs.1) (S κs.1) place {E = E.Denot} (Ok (left_at place y)) (λ z. z) place.now)) (lends_ok 𝓛 (S κs.1) place E.Denot y) $
              move ! (2 ∷ []) $ nothing ! $ fjoin ! $ move ! (0 ∷ 2 ∷ []) $ join ! $ move ! (4 ∷ 3 ∷ []) $ join ! $ join ! $ frame ! $
              use2 𝓛 (raw (AtEnd (Ok (left_at place y)) (rest l w))) (at_ok l y w) $ done !)

          ends_err : (l : Loan) (e : E.Denot) (v : Val) (y : (S κs.1).Denot)
              → ent 𝓤 (sep 𝓤 (sem 𝓛 (E.own_val e (v ∷ []))) (sep 𝓤 (sem 𝓛 (Self y)) (sep 𝓤 (A.lft κs.0 qs.0) (Says l (Err e) y)))) (Post (live 1 (of_list (v ∷ []))))
          ends_err l e v y =
              qed 𝓛 (‵ (E.own_val e (v ∷ [])) ∷ ‵ (Self y) ∷ ‵ (flft κs.0 qs.0) ∷ (raw Others ⊛ some (λ (w : Rests l). ‵ (has_of κs Ps ks hs xs (rest l w) vss) ⊛ raw (Ensured l (Err e) y w))) ∷ []) ∵
              move ! (3 ∷ []) $ split ! $ move ! (1 ∷ []) $ pick ! (λ w. split ! $ move ! (3 ∷ []) $
              -- [the error; what the others leave; what is said; the other tokens; self; its token]
              use1 𝓛 (‵ ((RS.the_row Ref E).own_val (Err e) (live 1 (of_list (v ∷ [])) ∷ []))) (Err-of 𝓛 Ref E e v) $
              suffices ! _ (ends_at 𝓛 chains (stayed hs) c bound (live 1 (of_list (v ∷ []))) (Err e) (tt, rest l w) (tt, fits (rest l w))) $
              move ! (4 ∷ []) $ fsplit3 ! $ drop ! $ move ! (1 ∷ []) $ drop ! $
              -- [what the lender reads; the result; what the others leave; what is said; the other tokens; its token]
              move ! (2 ∷ []) $ nothing ! $ fjoin ! $ move ! (0 ∷ 2 ∷ []) $ join ! $ move ! (4 ∷ 3 ∷ []) $ join ! $ join ! $ frame ! $
              use2 𝓛 (raw (AtEnd (Err e) (rest l w))) (at_err l e y w) $ done !)

          -- what the walk has on entry is enough to run the call in place and to answer
          pub chained : (C : Calls 𝓤 H) → FmC 𝓤 H 𝓛.laws C → (key : Callee) → Triple 𝓤 (C key) G
              → ent 𝓤 (sep 𝓤 (sem 𝓛 (Self place.now)) (sep 𝓤 (A.lft κs.0 qs.0) (sep 𝓤 (sem 𝓛 (owns (types_at Ps κs) xs vss)) Others))) (H.⇛ (C key (vptr b o ∷ vs) (λ v. H.⇛ (Answered 𝓤 ε b o Post v))))
          chained C fm key holds =
              let call : (l : Loan) → ent 𝓤 (Lent 𝓛 (S κs.1) E ε typed κs.0 qs.0 place l (sep 𝓤 (sem 𝓛 (owns (types_at Ps κs) xs vss)) Others)) (C key (vptr b o ∷ vs) (CallGives 𝓛 (S κs.1) E ε typed κs.0 qs.0 place Says l)) = λ l.
              via 𝓤 (G.pre (pass l)) (before l) (via 𝓤 (C key (vptr b o ∷ vs) (G.post (pass l)))
              (subst (λ (us : List Val). ent 𝓤 (G.pre (pass l)) (C key (vptr b o ∷ us) (G.post (pass l)))) (flat' l) (holds (pass l)))
              (fm→mono 𝓤 (C key (vptr b o ∷ vs)) (fm key (vptr b o ∷ vs)) (G.post (pass l)) (CallGives 𝓛 (S κs.1) E ε typed κs.0 qs.0 place Says l) (told l))) in
              lends 𝓛 (S κs.1) E ε typed κs.0 qs.0 place (C key (vptr b o ∷ vs)) (fm key (vptr b o ∷ vs)) (sep 𝓤 (sem 𝓛 (owns (types_at Ps κs) xs vss)) Others) Says Post call ends_ok ends_err
