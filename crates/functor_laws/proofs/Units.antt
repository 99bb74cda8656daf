-- The functors and funsigs of a unit.
use Rattle.std.proofs.Common.{◌≡◌, ℕ, suc, ◌+◌, ◌≤◌, List, [], ◌∷◌, length, refl, ap, ◌∙◌, arith, Bool, true, false, not}
use Rattle.semantic_objects.specs.declared.name.TyName.{TyName}
use Rattle.semantic_objects.specs.Symbols.{same_name}
use Rattle.semantic_objects.specs.Tables.{Table, with_entry}
use Rattle.semantic_objects.specs.Environments.{Signature, Functor, Top, empty_env}
use Rattle.unification.proofs.Walking.{or_either}
use Rattle.env_parts.specs.Types.{is_bound}
use Rattle.realisation.specs.Names.{names_in_env, is_listed}
use Rattle.realisation.specs.Canonical.{is_bound_name}
use Rattle.realisation.proofs.Listing.{name_is}
use Rattle.static_semantics.specs.Inferring.{Progress}
use Rattle.static_semantics.specs.TypeInference.{new_label}
use Rattle.static_semantics.specs.Holding.{Given, AllItems, AllRows}
use Rattle.static_semantics.proofs.Holding.{given_then, rows_with, rows_with_all}
use Rattle.inference_laws.specs.Nodes.{Nodes, DecOf, Makes, IsReadyFor, below_number}
use Rattle.inference_laws.proofs.Both.{ty_both}
use Rattle.inference_laws.proofs.Making.{given_both, numbered_rise, ready_after}
use Rattle.inference_laws.proofs.WellFormed.{below_admits}
use Rattle.module_semantics.specs.SignatureNames.{unit_names, opened}
use Rattle.module_semantics.specs.SignatureInference.{signature_of}
use Rattle.unit_semantics.specs.UnitPhrases.{FunPhrase, FunsigPhrase, TopPhrase, read_unit}
use Rattle.unit_semantics.specs.StructureInference.{core_scope, infer_module}
use Rattle.unit_semantics.specs.UnitInference.{top_with, with_given, without_variables, names_since, top_with_param, infer_body, infer_result, infer_structures, infer_signatures, infer_functors, infer_funsigs, infer_top, infer_tops}
use Rattle.unit_laws.specs.Spelling.{FunSpelt, FunsigSpelt, TopSpelt}
use Rattle.unit_laws.specs.Parts.{AreBoundFrom, FunctorOf, IsOfTop}
use Rattle.unit_laws.proofs.SignaturesMade.{FromSigs, ClosedOf, signature_made}
use Rattle.unit_laws.proofs.ModulesMade.{sigs_of, later_top, ModMade, module_made}
use Rattle.unit_laws.proofs.UnitsMade.{known_made, OneOf, with_param, body_made, result_sig_made, param_made, TopMade, top_made, after_dec}
use Rattle.unit_laws.proofs.Promised.{More, is_more, signature_more, unit_read}
use Rattle.unit_laws.proofs.Naming.{unit_length}
use Rattle.table_laws.proofs.Declarations.{always}
use Rattle.functor_laws.specs.Promises.{open_below, TakesFromParameter, TakeFromParameters, FunctorsTakeFromParameters}
use Rattle.functor_laws.proofs.Nodes.{open_rises, open_is_below, open_admits, IsOpenFor, open_names, open_after, inside_nodes, inside_admits, open_inside, new_inside}
use Rattle.functor_laws.proofs.Results.{param_inside, functor_takes}

-- what is in scope is made of earlier names of the unit, and where no bound name stands in it, of no bound names
record IsReady (good : List ℕ → Bool) (home : List ℕ) (top : Top) (st : Progress) : Type 0 where
  below : IsReadyFor home (IsOfTop good top st) st.names
  open_ : IsOpenFor home (IsOfTop good top st) st.names

-- ---- the parameter

abbrev ParamNodes : List ℕ → Signature × Progress → Nodes
ParamNodes home s = inside_nodes home s.1.names (s.1.names + length s.0.bound) s.0.bound
    (unit_names home s.1.names s.0.bound) (names_in_env s.0.env)

abbrev SigStep : (List ℕ → Bool) → List ℕ → Top → Progress → Signature × Progress → Type 0
SigStep good home top st s = Makes home (FromSigs good top.signatures (core_scope home top) st) st s.1 (ClosedOf s)

rises : (good : List ℕ → Bool) (home : List ℕ) (top : Top) (st : Progress) (s : Signature × Progress)
    → SigStep good home top st s → st.names ≤ s.1.names
rises good home top st s k = numbered_rise home st.names k.names s.1.names k.numbered

-- the parameter's signature where no bound name but its own stands
param_open : (good : List ℕ → Bool) (home : List ℕ) (top : Top) (st : Progress) (s : Signature × Progress)
    → IsReady good home top st → SigStep good home top st s → ClosedOf s (open_below home s.1.names)
param_open good home top st s h k =
    let i : IsOfTop good top st (open_below home s.1.names) = h.open_ s.1.names (rises good home top st s k) in
    k.holds (open_below home s.1.names) (sigs_of good home (open_below home s.1.names) top st st i i.state)
    (open_names home st.names k.names s.1.names s.1.names k.numbered (omega arith))

-- what is in scope in the functor
scope_inside : (good : List ℕ → Bool) (home : List ℕ) (top : Top) (st : Progress) (s : Signature × Progress)
    (name : Rattle.sml_trees.specs.declared.name.Name.Name) → IsReady good home top st → SigStep good home top st s
    → IsOfTop good (top_with_param name (opened home s.0 s.1).0.env top) (opened home s.0 s.1).1 (ParamNodes home s)
scope_inside good home top st s name h k =
    let q : Nodes = ParamNodes home s in
    let a = inside_admits home s.1.names (s.1.names + length s.0.bound) s.0.bound
    (unit_names home s.1.names s.0.bound) (names_in_env s.0.env) good in
    let p : ClosedOf s (open_below home s.1.names) = param_open good home top st s h k in
    let f : More (open_below home s.1.names) q = open_inside home s.1.names (s.1.names + length s.0.bound) s.0.bound
    (unit_names home s.1.names s.0.bound) (names_in_env s.0.env) s.1.names (omega arith) in
    with_param good q top name s.0 (opened home s.0 s.1) st
    (is_more good (open_below home s.1.names) q top st f a (h.open_ s.1.names (rises good home top st s k))) (
      signature_more (open_below home s.1.names) q f s.0 p.1,
      (
        (λ n. ty_both (open_below home s.1.names) (open_below home s.1.names) q (λ c parts i j. f c parts i)
            (s.1.types.stands n) (p.0 n) (p.0 n)),
        param_inside home s.1.names s.0 p.1.env,
      ),
    )

-- ---- functors

body_takes : (good : List ℕ → Bool) (depth : ℕ) (home : List ℕ) (top : Top) (bind : FunPhrase) (st : Progress)
    (s : Signature × Progress) → FunSpelt good bind → IsReady good home top st → SigStep good home top st s
    → Given (λ r. TakesFromParameter r.0) (infer_body depth home top bind s.0 (opened home s.0 s.1))
body_takes good depth home top bind st s p h k =
    let inside : Signature × Progress = opened home s.0 s.1 in
    let inner : Top = top_with_param bind.param inside.0.env top in
    let Whole : Functor × Progress → Type 0 = λ r. TakesFromParameter r.0 in
    given_then (ModMade good home inner inside.1) Whole (infer_module depth home inner bind.body inside.1) _
    (module_made good depth home inner bind.body inside.1 p.1
    (ready_after h.below (param_made good home top st s k)
    (λ q i j. with_param good q top bind.param s.0 inside st i j))) (λ r l.
    given_then (ModMade good home inner inside.1) Whole (without_variables (core_scope home top) bind.name r) _
    (known_made good home inner inside.1 (core_scope home top) bind.name r l) (λ e m.
    let q : Nodes = ParamNodes home s in
    let d : DecOf e q = m.holds q (scope_inside good home top st s bind.param h k)
    (new_inside home s.1.names (s.1.names + length s.0.bound) s.0.bound (unit_names home s.1.names s.0.bound)
    (names_in_env s.0.env) inside.1.names m.names e.1.names (omega arith) m.numbered) in
    functor_takes home s.1.names s.0 inside.0 (names_since home inside.1.names e.0) [] e.0 refl
    (param_open good home top st s h k).1.bound (λ n i. absurd (cc)) (λ n i. absurd (cc)) d.1))

-- names that a signature binds are bound ones
are_bound : (k : ℕ) (names : List TyName) (n : TyName) → AreBoundFrom k names → is_listed n names ≡ true
    → not (is_bound_name n) ≡ false
are_bound k [] n h l = absurd (cc)
are_bound k (name ∷ names) n h l = or_either (same_name n name) (is_listed n names) l
    (λ e. ap (λ (z : TyName). not (is_bound_name z)) (name_is n name e)
    ∙ ap (λ z. not (is_bound z)) h.0)
    (λ e. are_bound (suc k) names n h.2 e)

result_takes : (good : List ℕ → Bool) (home : List ℕ) (top : Top) (bind : FunsigPhrase) (st : Progress)
    (s : Signature × Progress) → FunsigSpelt good bind → IsReady good home top st → SigStep good home top st s
    → Given (λ r. TakesFromParameter r.0) (infer_result home top bind s.0 (opened home s.0 s.1))
result_takes good home top bind st s p h k =
    let inside : Signature × Progress = opened home s.0 s.1 in
    let inner : Top = top_with_param bind.param inside.0.env top in
    let Whole : Functor × Progress → Type 0 = λ r. TakesFromParameter r.0 in
    given_then (SigStep good home inner inside.1) Whole
    (signature_of top.signatures (core_scope home inner) bind.result_sig inside.1) _
    (signature_made good inner.signatures (core_scope home inner) bind.result_sig inside.1 p.1
    (ready_after h.below (param_made good home top st s k) (λ q i j. sigs_of good home q inner inside.1 inside.1
    (with_param good q top bind.param s.0 inside st i j) j.1.0))) (λ r l.
    let q : Nodes = ParamNodes home s in
    let i : IsOfTop good inner inside.1 q = scope_inside good home top st s bind.param h k in
    let d : ClosedOf r q = l.holds q (sigs_of good home q inner inside.1 inside.1 i i.state)
    (new_inside home s.1.names (s.1.names + length s.0.bound) s.0.bound (unit_names home s.1.names s.0.bound)
    (names_in_env s.0.env) inside.1.names l.names r.1.names (omega arith) l.numbered) in
    functor_takes home s.1.names s.0 inside.0 r.0.bound r.0.bound r.0.env refl
    (param_open good home top st s h k).1.bound (λ n j. j) (λ n j. are_bound 0 r.0.bound n d.1.bound j) d.1.env)

abbrev Rows_ : Table Functor × Progress → Type 0
Rows_ r = AllRows TakesFromParameter r.0

-- a functor, and what is ready after it
abbrev Step : (List ℕ → Bool) → List ℕ → Top → Progress → Functor × Progress → Type 0
Step good home top st r = TakesFromParameter r.0 × Makes home (IsOfTop good top st) st r.1 (OneOf FunctorOf r)

ready_then : (good : List ℕ → Bool) (home : List ℕ) (top : Top) (st : Progress) (r : Functor × Progress)
    → IsReady good home top st → Makes home (IsOfTop good top st) st r.1 (OneOf FunctorOf r)
    → IsReady good home top r.1
ready_then good home top st r h k = record {
  below = ready_after h.below k (λ q i j. later_top good q top st r.1 i j.0);
  open_ = open_after h.open_ k (λ q i j. later_top good q top st r.1 i j.0);
}

functors_take : (good : List ℕ → Bool) (depth : ℕ) (home : List ℕ) (top : Top) (binds : List FunPhrase)
    (made : Table Functor) (st : Progress) → AllItems (FunSpelt good) binds → IsReady good home top st
    → AllRows TakesFromParameter made → Given Rows_ (infer_functors depth home top binds made st)
functors_take good depth home top [] made st p h t = t
functors_take good depth home top (bind ∷ binds) made st p h t =
    always Rows_ (new_label (core_scope home top) bind.name made) _ (λ u.
    given_then (SigStep good home top st) Rows_ (signature_of top.signatures (core_scope home top) bind.param_sig st) _
    (signature_made good top.signatures (core_scope home top) bind.param_sig st p.0.0
    (λ m l. sigs_of good home (below_number home m) top st st (h.below m l) (h.below m l).state)) (λ s k.
    given_then (Step good home top st) Rows_ (infer_body depth home top bind s.0 (opened home s.0 s.1)) _
    (given_both (λ r. TakesFromParameter r.0) (λ r. Makes home (IsOfTop good top st) st r.1 (OneOf FunctorOf r))
    (infer_body depth home top bind s.0 (opened home s.0 s.1))
    (body_takes good depth home top bind st s p.0 h k)
    (body_made good depth home top bind s.0 (opened home s.0 s.1) st p.0 h.below (param_made good home top st s k)))
    (λ r l. functors_take good depth home top binds (with_entry bind.name.text r.0 made) r.1 p.1
    (ready_then good home top st r h l.1) (rows_with TakesFromParameter bind.name.text r.0 made l.0 t))))

funsigs_take : (good : List ℕ → Bool) (home : List ℕ) (top : Top) (binds : List FunsigPhrase) (made : Table Functor)
    (st : Progress) → AllItems (FunsigSpelt good) binds → IsReady good home top st → AllRows TakesFromParameter made
    → Given Rows_ (infer_funsigs home top binds made st)
funsigs_take good home top [] made st p h t = t
funsigs_take good home top (bind ∷ binds) made st p h t =
    always Rows_ (new_label (core_scope home top) bind.name made) _ (λ u.
    given_then (SigStep good home top st) Rows_ (signature_of top.signatures (core_scope home top) bind.param_sig st) _
    (signature_made good top.signatures (core_scope home top) bind.param_sig st p.0.0
    (λ m l. sigs_of good home (below_number home m) top st st (h.below m l) (h.below m l).state)) (λ s k.
    given_then (Step good home top st) Rows_ (infer_result home top bind s.0 (opened home s.0 s.1)) _
    (given_both (λ r. TakesFromParameter r.0) (λ r. Makes home (IsOfTop good top st) st r.1 (OneOf FunctorOf r))
    (infer_result home top bind s.0 (opened home s.0 s.1))
    (result_takes good home top bind st s p.0 h k)
    (result_sig_made good home top bind s.0 (opened home s.0 s.1) st p.0 (unit_length home s.1.names s.0.bound) h.below
    (param_made good home top st s k)))
    (λ r l. funsigs_take good home top binds (with_entry bind.name.text r.0 made) r.1 p.1
    (ready_then good home top st r h l.1) (rows_with TakesFromParameter bind.name.text r.0 made l.0 t))))

-- ---- the top level

abbrev TopTakes : Top × Progress → Type 0
TopTakes r = TakeFromParameters r.0

top_takes : (good : List ℕ → Bool) (depth : ℕ) (home : List ℕ) (top : Top) (dec : TopPhrase) (st : Progress)
    → TopSpelt good dec → IsReady good home top st → Given TopTakes (infer_top depth home top dec st)
top_takes good depth home top (TopPhrase.Structures binds at) st p h =
    always TopTakes (infer_structures depth home top binds empty_env st) _ (λ r. record { functors = tt; funsigs = tt })
top_takes good depth home top (TopPhrase.Signatures binds at) st p h =
    always TopTakes (infer_signatures home top binds [] st) _ (λ r. record { functors = tt; funsigs = tt })
top_takes good depth home top (TopPhrase.Functors binds at) st p h =
    given_then Rows_ TopTakes (infer_functors depth home top binds [] st) _
    (functors_take good depth home top binds [] st p h tt) (λ r k. record { functors = k; funsigs = tt })
top_takes good depth home top (TopPhrase.Funsigs binds at) st p h =
    given_then Rows_ TopTakes (infer_funsigs home top binds [] st) _
    (funsigs_take good home top binds [] st p h tt) (λ r k. record { functors = tt; funsigs = k })

both_take : (first second : Top) → TakeFromParameters first → TakeFromParameters second
    → TakeFromParameters (top_with first second)
both_take first second h k = record {
  functors = rows_with_all TakesFromParameter second.functors first.functors k.functors h.functors;
  funsigs = rows_with_all TakesFromParameter second.funsigs first.funsigs k.funsigs h.funsigs;
}

tops_take : (good : List ℕ → Bool) (depth : ℕ) (home : List ℕ) (top : Top) (decs : List TopPhrase) (st : Progress)
    → AllItems (TopSpelt good) decs → IsReady good home top st → Given TopTakes (infer_tops depth home top decs st)
tops_take good depth home top [] st p h = record { functors = tt; funsigs = tt }
tops_take good depth home top (dec ∷ decs) st p h =
    given_then (λ r. TopTakes r × TopMade good home top st r) TopTakes (infer_top depth home top dec st) _
    (given_both TopTakes (TopMade good home top st) (infer_top depth home top dec st)
    (top_takes good depth home top dec st p.0 h) (top_made good depth home top dec st p.0 h.below)) (λ r k.
    given_then TopTakes TopTakes (infer_tops depth home (top_with top r.0) decs r.1) _
    (tops_take good depth home (top_with top r.0) decs r.1 p.1 (record {
      below = ready_after h.below k.1 (λ q i j. after_dec good q top st r i j);
      open_ = open_after h.open_ k.1 (λ q i j. after_dec good q top st r i j);
    })) (λ v l. both_take r.0 v.0 k.0 l))

pub functors_take_from_parameters : FunctorsTakeFromParameters
functors_take_from_parameters = record {
  all = λ good depth home basis given sealing tops st p h.
      let top : Top = with_given basis given in
      tops_take good depth home top (read_unit sealing tops) st (unit_read good sealing tops p) (record {
        below = λ m l. is_more good (open_below home m) (below_number home m) top st (open_is_below home m)
            (below_admits good home m)
            (is_more good (open_below home st.names) (open_below home m) top st (open_rises home st.names m l)
            (open_admits good home m) h);
        open_ = λ m l. is_more good (open_below home st.names) (open_below home m) top st
            (open_rises home st.names m l) (open_admits good home m) h;
      });
}
