-- What units are made of.
use Rattle.std.proofs.Common.{◌≡◌, ℕ, ◌+◌, List, [], ◌∷◌, ◌++◌, length, refl, sym, ◌∙◌, arith, Option, Some, None, Bool, true, false, ◌&&◌, eqb}
use Rattle.std.proofs.Common.{length-append}
use Rattle.std.specs.Option.{is_some}
use Rattle.sml_trees.specs.declared.name.Name.{Name}
use Rattle.semantic_objects.specs.declared.name.TyName.{TyName}
use Rattle.semantic_objects.specs.declared.symbol.Symbol.TheVariants as symbol
use Rattle.semantic_objects.specs.Tables.{Table, entry, with_entry}
use Rattle.semantic_objects.specs.Environments.{Env, Signature, Functor, Top, structures, empty_env, modified_by, with_structure}
use Rattle.unification.proofs.Walking.{or_either, or_right, and_left}
use Rattle.realisation.specs.Names.{is_listed}
use Rattle.realisation.specs.Realised.{of_rows}
use Rattle.static_semantics.specs.Inferring.{Progress, Scope, Answer, ◌>>=◌, name_at}
use Rattle.static_semantics.specs.TypeInference.{new_label}
use Rattle.static_semantics.specs.Holding.{Given, AllItems, AllRows}
use Rattle.static_semantics.proofs.Holding.{given_then, given_where, rows_with, rows_with_all, has_modified}
use Rattle.static_semantics.proofs.TypesGrow.{given_more}
use Rattle.inference_laws.specs.Nodes.{Nodes, StateOf, SchemeOf, FunctionOf, DecOf, Makes, IsReadyFor, below_number}
use Rattle.inference_laws.proofs.Making.{plain, after, before, ready_after, less}
use Rattle.module_semantics.specs.SigPhrases.{SigBinds}
use Rattle.module_semantics.specs.SignatureNames.{rows_between, bound_names, opened}
use Rattle.module_semantics.specs.SignatureInference.{signature_of}
use Rattle.unit_semantics.specs.UnitPhrases.{ModuleBinds, FunPhrase, FunsigPhrase, TopPhrase}
use Rattle.unit_semantics.specs.StructureInference.{core_scope, known_env, infer_module}
use Rattle.unit_semantics.specs.UnitInference.{top_with, has_variable, without_variables, names_since, top_with_param, infer_body, infer_result, infer_structures, infer_signatures, infer_functors, infer_funsigs, infer_top, infer_tops}
use Rattle.unit_laws.specs.Spelling.{ModuleBindsSpelt, SigBindsSpelt, FunSpelt, FunsigSpelt, TopSpelt}
use Rattle.unit_laws.specs.Parts.{allowing, SignatureOf, FunctorOf, TopOf, IsOfTop}
use Rattle.unit_laws.proofs.Realised.{Realises, env_realised, env_known}
use Rattle.unit_laws.proofs.Naming.{rows_realise, has_between, between_of, listed_stand, to_allowed, unit_length, bound_numbered, bound_length}
use Rattle.unit_laws.proofs.SignaturesMade.{nothing_of, one_structure, empty_stands, FromSigs, OutOf, ClosedOf, opened_made, signature_made}
use Rattle.unit_laws.proofs.ModulesMade.{sigs_of, later_top, ModMade, FromBinds, module_made}

-- ---- steps

labelled : {A B : Type 0} (Q : B → Type 0) (sc : Scope) (name : Name) (rows : Table A) (next : Unit {0} → Answer B)
    → Given Q (next tt) → Given Q (new_label sc name rows >>= next)
labelled Q sc name rows next h = given_where Q (is_some (entry name.text rows)) 40 sc (name_at name) next h

-- with everything put in
pub known_made : (good : List ℕ → Bool) (home : List ℕ) (top : Top) (st : Progress) (sc : Scope) (name : Name)
    (r : Env × Progress) → ModMade good home top st r → Given (ModMade good home top st) (without_variables sc name r)
known_made good home top st sc name r k =
    given_where (ModMade good home top st) (has_variable (known_env r.0 r.1)) 42 sc (name_at name) _
    (less k (λ q i j. (j.0, env_known q r.1.types.stands r.0 j.0 j.1)))

-- ---- structures

bound_after : (good : List ℕ → Bool) (q : Nodes) (top : Top) (made : Env) (name : List ℕ) (st : Progress)
    (r : Env × Progress) → FromBinds good top made st q → DecOf r q
    → FromBinds good top (with_structure name r.0 made) r.1 q
bound_after good q top made name st r i j = (later_top good q top st r.1 i.0 j.0, one_structure q name r.0 made j.1 i.1)

structures_made : (good : List ℕ → Bool) (depth : ℕ) (home : List ℕ) (top : Top) (binds : ModuleBinds) (made : Env)
    (st : Progress) → ModuleBindsSpelt good binds → IsReadyFor home (FromBinds good top made st) st.names
    → Given (λ r. Makes home (FromBinds good top made st) st r.1 (DecOf r))
    (infer_structures depth home top binds made st)
structures_made good depth home top ModuleBinds.EndOfBinds made st p h = plain refl (λ q i. (i.0.state, i.1))
structures_made good depth home top (ModuleBinds.Bind name str rest) made st p h =
    let Whole : Env × Progress → Type 0 = λ r. Makes home (FromBinds good top made st) st r.1 (DecOf r) in
    labelled Whole (core_scope home top) name (structures made) _
    (given_then (ModMade good home top st) Whole (infer_module depth home top str st) _
    (module_made good depth home top str st p.0 (λ m l. (h m l).0)) (λ r k.
    given_then (ModMade good home top st) Whole (without_variables (core_scope home top) name r) _
    (known_made good home top st (core_scope home top) name r k) (λ e l.
    let first : Makes home (FromBinds good top made st) st e.1 (DecOf e) = before refl l (λ q i. i.0) in
    given_more (λ v. Makes home (FromBinds good top (with_structure name.text e.0 made) e.1) e.1 v.1 (DecOf v)) Whole
    (infer_structures depth home top rest (with_structure name.text e.0 made) e.1)
    (λ v n. less (after first n (λ q i j. bound_after good q top made name.text st e i j)) (λ q i j. j.1))
    (structures_made good depth home top rest (with_structure name.text e.0 made) e.1 p.1
    (ready_after h first (λ q i j. bound_after good q top made name.text st e i j))))))

-- ---- signatures

-- after signatures, after functors
abbrev FromTable : {A : Type 0} → (Nodes → A → Type 0) → (List ℕ → Bool) → Top → Table A → Progress → Nodes → Type 0
FromTable R good top made st q = IsOfTop good top st q × AllRows (R q) made

abbrev TableOf : {A : Type 0} → (Nodes → A → Type 0) → Table A × Progress → Nodes → Type 0
TableOf R r q = StateOf q r.1.types × AllRows (R q) r.0

abbrev pub OneOf : {A : Type 0} → (Nodes → A → Type 0) → A × Progress → Nodes → Type 0
OneOf R r q = StateOf q r.1.types × R q r.0

row_after : {A : Type 0} (R : Nodes → A → Type 0) (good : List ℕ → Bool) (q : Nodes) (top : Top) (made : Table A)
    (name : List ℕ) (st : Progress) (r : A × Progress) → FromTable R good top made st q → OneOf R r q
    → FromTable R good top (with_entry name r.0 made) r.1 q
row_after R good q top made name st r i j = (later_top good q top st r.1 i.0 j.0, rows_with (R q) name r.0 made j.1 i.1)

signatures_made : (good : List ℕ → Bool) (home : List ℕ) (top : Top) (binds : SigBinds) (made : Table Signature)
    (st : Progress) → SigBindsSpelt good binds → IsReadyFor home (FromTable SignatureOf good top made st) st.names
    → Given (λ r. Makes home (FromTable SignatureOf good top made st) st r.1 (TableOf SignatureOf r))
    (infer_signatures home top binds made st)
signatures_made good home top SigBinds.EndOfBinds made st p h = plain refl (λ q i. (i.0.state, i.1))
signatures_made good home top (SigBinds.Bind name sig rest) made st p h =
    let From : Nodes → Type 0 = FromTable SignatureOf good top made st in
    let Whole : Table Signature × Progress → Type 0 = λ r. Makes home From st r.1 (TableOf SignatureOf r) in
    labelled Whole (core_scope home top) name made _
    (given_then (λ r. Makes home (FromSigs good top.signatures (core_scope home top) st) st r.1 (ClosedOf r)) Whole
    (signature_of top.signatures (core_scope home top) sig st) _
    (signature_made good top.signatures (core_scope home top) sig st p.0
    (λ m l. sigs_of good home (below_number home m) top st st (h m l).0 (h m l).0.state)) (λ r k.
    let first : Makes home From st r.1 (OneOf SignatureOf r) =
    before refl k (λ q i. sigs_of good home q top st st i.0 i.0.state) in
    given_more
    (λ v. Makes home (FromTable SignatureOf good top (with_entry name.text r.0 made) r.1) r.1 v.1 (TableOf SignatureOf
    v))
    Whole (infer_signatures home top rest (with_entry name.text r.0 made) r.1)
    (λ v n. less (after first n (λ q i j. row_after SignatureOf good q top made name.text st r i j)) (λ q i j. j.1))
    (signatures_made good home top rest (with_entry name.text r.0 made) r.1 p.1
    (ready_after h first (λ q i j. row_after SignatureOf good q top made name.text st r i j)))))

-- ---- functors

-- a signature for the parameter, open inside
abbrev pub ParamOf : Signature → Signature × Progress → Nodes → Type 0
ParamOf param inside q = SignatureOf q param × OutOf inside q

pub with_param : (good : List ℕ → Bool) (q : Nodes) (top : Top) (name : Name) (param : Signature)
    (inside : Signature × Progress) (st : Progress) → IsOfTop good top st q → ParamOf param inside q
    → IsOfTop good (top_with_param name inside.0.env top) inside.1 q
with_param good q top name param inside st h k = record {
  admits = h.admits;
  scope = record {
    env = has_modified (SchemeOf q) (FunctionOf q) top.env (with_structure name.text inside.0.env empty_env) h.scope.env
        (one_structure q name.text inside.0.env empty_env k.1.1 (nothing_of q));
    signatures = h.scope.signatures;
    functors = h.scope.functors;
    funsigs = h.scope.funsigs;
  };
  state = k.1.0;
}

pub body_made : (good : List ℕ → Bool) (depth : ℕ) (home : List ℕ) (top : Top) (bind : FunPhrase) (param : Signature)
    (inside : Signature × Progress) (st : Progress) → FunSpelt good bind
    → IsReadyFor home (IsOfTop good top st) st.names
    → Makes home (IsOfTop good top st) st inside.1 (ParamOf param inside)
    → Given (λ r. Makes home (IsOfTop good top st) st r.1 (OneOf FunctorOf r)) (infer_body depth home top bind param
    inside)
body_made good depth home top bind param inside st p h k =
    let inner : Top = top_with_param bind.param inside.0.env top in
    let Whole : Functor × Progress → Type 0 = λ r. Makes home (IsOfTop good top st) st r.1 (OneOf FunctorOf r) in
    given_then (ModMade good home inner inside.1) Whole (infer_module depth home inner bind.body inside.1) _
    (module_made good depth home inner bind.body inside.1 p.1
    (ready_after h k (λ q i j. with_param good q top bind.param param inside st i j))) (λ r l.
    given_then (ModMade good home inner inside.1) Whole (without_variables (core_scope home top) bind.name r) _
    (known_made good home inner inside.1 (core_scope home top) bind.name r l) (λ e m.
    let names : List TyName = names_since home inside.1.names e.0 in
    let news : List TyName = param.bound ++ bound_names (length param.bound) names in
    less (after k m (λ q i j. with_param good q top bind.param param inside st i j)) (λ q i j. (
      j.1.0,
      record {
        bound = j.0.0.bound;
        param = j.0.0.env;
        further = bound_numbered (length param.bound) names;
        result = env_realised q (allowing news q) (of_rows (rows_between (inside.0.bound ++ names) news))
            (to_allowed q (inside.0.bound ++ names) news (empty_stands good q i.admits)) e.0 j.1.1;
      },
    ))))

-- names that were allowed are replaced by others that are
between_allowed : (q : Nodes) (names olds news : List TyName) → q (symbol.Record []) 0 ≡ true
    → ((name : TyName) → is_listed name names ≡ true → is_listed name olds ≡ true) → length news ≡ length olds
    → Realises (allowing names q) (allowing news q) (of_rows (rows_between olds news))
between_allowed q names olds news e f g = rows_realise (allowing names q) (allowing news q) (rows_between olds news)
    (record { arrow = λ parts h. h; labels = λ labels parts h. h }) e
    (between_of (allowing news q) olds news (listed_stand q news news (λ name l. l)))
    (λ name parts n i. or_either (is_listed name names && eqb parts name.arity) (q (symbol.Name name) parts) i
    (λ l. absurd (none_false (of_rows (rows_between olds news) name)
    (has_between olds news g name (f name (and_left (is_listed name names) (eqb parts name.arity) l))) n))
    (λ l. or_right (is_listed name news && eqb parts name.arity) (q (symbol.Name name) parts) l))
  where
    none_false : (o : Option Rattle.semantic_objects.specs.declared.entry.TypeFn.TypeFn)
        → Rattle.std.specs.Option.is_none o ≡ false → Rattle.std.specs.Option.is_none o ≡ true → ⊥
    none_false None h k = absurd (cc)
    none_false (Some f) h k = absurd (cc)

listed_back : (name : TyName) (xs ys : List TyName) → is_listed name ys ≡ true → is_listed name (xs ++ ys) ≡ true
listed_back name [] ys h = h
listed_back name (x ∷ xs) ys h = or_right (Rattle.semantic_objects.specs.Symbols.same_name name x)
    (is_listed name (xs ++ ys)) (listed_back name xs ys h)

pub result_sig_made : (good : List ℕ → Bool) (home : List ℕ) (top : Top) (bind : FunsigPhrase) (param : Signature)
    (inside : Signature × Progress) (st : Progress) → FunsigSpelt good bind
    → length inside.0.bound ≡ length param.bound
    → IsReadyFor home (IsOfTop good top st) st.names
    → Makes home (IsOfTop good top st) st inside.1 (ParamOf param inside)
    → Given (λ r. Makes home (IsOfTop good top st) st r.1 (OneOf FunctorOf r)) (infer_result home top bind param inside)
result_sig_made good home top bind param inside st p same h k =
    let inner : Top = top_with_param bind.param inside.0.env top in
    let Whole : Functor × Progress → Type 0 = λ r. Makes home (IsOfTop good top st) st r.1 (OneOf FunctorOf r) in
    given_then (λ r. Makes home (FromSigs good inner.signatures (core_scope home inner) inside.1) inside.1 r.1
    (ClosedOf r))
    Whole (signature_of top.signatures (core_scope home inner) bind.result_sig inside.1) _
    (signature_made good inner.signatures (core_scope home inner) bind.result_sig inside.1 p.1
    (ready_after h k (λ q i j. sigs_of good home q inner inside.1 inside.1
    (with_param good q top bind.param param inside st i j) j.1.0))) (λ r l.
    let names : List TyName = r.0.bound in
    let olds : List TyName = inside.0.bound ++ names in
    let more : List TyName = bound_names (length param.bound) names in
    let news : List TyName = param.bound ++ more in
    let long : length news ≡ length olds =
    length-append param.bound more ∙ (let a : length more ≡ length names = bound_length (length param.bound) names in
    let b : length inside.0.bound ≡ length param.bound = same in
    let c : length param.bound + length more ≡ length inside.0.bound + length names = omega (arith, a, b) in c)
    ∙ sym (length-append inside.0.bound names) in
    less (after k l (λ q i j. sigs_of good home q inner inside.1 inside.1
    (with_param good q top bind.param param inside st i j) j.1.0)) (λ q i j. (
      j.1.0,
      record {
        bound = j.0.0.bound;
        param = j.0.0.env;
        further = bound_numbered (length param.bound) names;
        result = env_realised (allowing names q) (allowing news q) (of_rows (rows_between olds news))
            (between_allowed q names olds news (empty_stands good q i.admits)
            (λ name m. listed_back name inside.0.bound names m) long) r.0.env j.1.1.env;
      },
    )))

-- the parameter of a binding
pub param_made : (good : List ℕ → Bool) (home : List ℕ) (top : Top) (st : Progress) (p : Signature × Progress)
    → Makes home (FromSigs good top.signatures (core_scope home top) st) st p.1 (ClosedOf p)
    → Makes home (IsOfTop good top st) st (opened home p.0 p.1).1 (ParamOf p.0 (opened home p.0 p.1))
param_made good home top st p k =
    let first : Makes home (IsOfTop good top st) st p.1 (ClosedOf p) =
    before refl k (λ q i. sigs_of good home q top st st i i.state) in
    less (after first (opened_made good home p.0 p.1) (λ q i j. (i.admits, j.0, j.1))) (λ q i j. (j.0.1, j.1))

functors_made : (good : List ℕ → Bool) (depth : ℕ) (home : List ℕ) (top : Top) (binds : List FunPhrase)
    (made : Table Functor) (st : Progress) → AllItems (FunSpelt good) binds
    → IsReadyFor home (FromTable FunctorOf good top made st) st.names
    → Given (λ r. Makes home (FromTable FunctorOf good top made st) st r.1 (TableOf FunctorOf r))
    (infer_functors depth home top binds made st)
functors_made good depth home top [] made st p h = plain refl (λ q i. (i.0.state, i.1))
functors_made good depth home top (bind ∷ binds) made st p h =
    let From : Nodes → Type 0 = FromTable FunctorOf good top made st in
    let Whole : Table Functor × Progress → Type 0 = λ r. Makes home From st r.1 (TableOf FunctorOf r) in
    labelled Whole (core_scope home top) bind.name made _
    (given_then (λ s. Makes home (FromSigs good top.signatures (core_scope home top) st) st s.1 (ClosedOf s)) Whole
    (signature_of top.signatures (core_scope home top) bind.param_sig st) _
    (signature_made good top.signatures (core_scope home top) bind.param_sig st p.0.0
    (λ m l. sigs_of good home (below_number home m) top st st (h m l).0 (h m l).0.state)) (λ s k.
    given_then (λ r. Makes home (IsOfTop good top st) st r.1 (OneOf FunctorOf r)) Whole
    (infer_body depth home top bind s.0 (opened home s.0 s.1)) _
    (body_made good depth home top bind s.0 (opened home s.0 s.1) st p.0 (λ m l. (h m l).0)
    (param_made good home top st s k)) (λ r l.
    let first : Makes home From st r.1 (OneOf FunctorOf r) = before refl l (λ q i. i.0) in
    given_more
    (λ v. Makes home (FromTable FunctorOf good top (with_entry bind.name.text r.0 made) r.1) r.1 v.1 (TableOf
    FunctorOf v))
    Whole (infer_functors depth home top binds (with_entry bind.name.text r.0 made) r.1)
    (λ v n. less (after first n (λ q i j. row_after FunctorOf good q top made bind.name.text st r i j)) (λ q i j. j.1))
    (functors_made good depth home top binds (with_entry bind.name.text r.0 made) r.1 p.1
    (ready_after h first (λ q i j. row_after FunctorOf good q top made bind.name.text st r i j))))))

funsigs_made : (good : List ℕ → Bool) (home : List ℕ) (top : Top) (binds : List FunsigPhrase)
    (made : Table Functor) (st : Progress) → AllItems (FunsigSpelt good) binds
    → IsReadyFor home (FromTable FunctorOf good top made st) st.names
    → Given (λ r. Makes home (FromTable FunctorOf good top made st) st r.1 (TableOf FunctorOf r))
    (infer_funsigs home top binds made st)
funsigs_made good home top [] made st p h = plain refl (λ q i. (i.0.state, i.1))
funsigs_made good home top (bind ∷ binds) made st p h =
    let From : Nodes → Type 0 = FromTable FunctorOf good top made st in
    let Whole : Table Functor × Progress → Type 0 = λ r. Makes home From st r.1 (TableOf FunctorOf r) in
    labelled Whole (core_scope home top) bind.name made _
    (given_then (λ s. Makes home (FromSigs good top.signatures (core_scope home top) st) st s.1 (ClosedOf s)) Whole
    (signature_of top.signatures (core_scope home top) bind.param_sig st) _
    (signature_made good top.signatures (core_scope home top) bind.param_sig st p.0.0
    (λ m l. sigs_of good home (below_number home m) top st st (h m l).0 (h m l).0.state)) (λ s k.
    given_then (λ r. Makes home (IsOfTop good top st) st r.1 (OneOf FunctorOf r)) Whole
    (infer_result home top bind s.0 (opened home s.0 s.1)) _
    (result_sig_made good home top bind s.0 (opened home s.0 s.1) st p.0 (unit_length home s.1.names s.0.bound)
    (λ m l. (h m l).0) (param_made good home top st s k)) (λ r l.
    let first : Makes home From st r.1 (OneOf FunctorOf r) = before refl l (λ q i. i.0) in
    given_more
    (λ v. Makes home (FromTable FunctorOf good top (with_entry bind.name.text r.0 made) r.1) r.1 v.1 (TableOf
    FunctorOf v))
    Whole (infer_funsigs home top binds (with_entry bind.name.text r.0 made) r.1)
    (λ v n. less (after first n (λ q i j. row_after FunctorOf good q top made bind.name.text st r i j)) (λ q i j. j.1))
    (funsigs_made good home top binds (with_entry bind.name.text r.0 made) r.1 p.1
    (ready_after h first (λ q i j. row_after FunctorOf good q top made bind.name.text st r i j))))))

-- ---- the top level

abbrev pub TopMade : (List ℕ → Bool) → List ℕ → Top → Progress → Top × Progress → Type 0
TopMade good home top st r = Makes home (IsOfTop good top st) st r.1 (OneOf TopOf r)

pub top_made : (good : List ℕ → Bool) (depth : ℕ) (home : List ℕ) (top : Top) (dec : TopPhrase) (st : Progress)
    → TopSpelt good dec → IsReadyFor home (IsOfTop good top st) st.names
    → Given (TopMade good home top st) (infer_top depth home top dec st)
top_made good depth home top (TopPhrase.Structures binds at) st p h =
    given_then (λ r. Makes home (FromBinds good top empty_env st) st r.1 (DecOf r)) (TopMade good home top st)
    (infer_structures depth home top binds empty_env st) _
    (structures_made good depth home top binds empty_env st p (λ m l. (h m l, nothing_of (below_number home m)))) (λ r
    k.
    less (before refl k (λ q i. onto_binds good q top st i)) (λ q i j. (
      j.0,
      record {
        env = j.1;
        signatures = tt;
        functors = tt;
        funsigs = tt;
      },
    )))
  where
    onto_binds : (good : List ℕ → Bool) (q : Nodes) (top : Top) (st : Progress) → IsOfTop good top st q
        → FromBinds good top empty_env st q
    onto_binds good q top st i = (i, nothing_of q)
top_made good depth home top (TopPhrase.Signatures binds at) st p h =
    given_then (λ r. Makes home (FromTable SignatureOf good top [] st) st r.1 (TableOf SignatureOf r))
    (TopMade good home top st) (infer_signatures home top binds [] st) _
    (signatures_made good home top binds [] st p (λ m l. (h m l, tt))) (λ r k.
    less (before refl k (λ q i. no_rows SignatureOf good q top st i)) (λ q i j. (
      j.0,
      record {
        env = nothing_of q;
        signatures = j.1;
        functors = tt;
        funsigs = tt;
      },
    )))
  where
    no_rows : {A : Type 0} (R : Nodes → A → Type 0) (good : List ℕ → Bool) (q : Nodes) (top : Top) (st : Progress)
        → IsOfTop good top st q → FromTable R good top [] st q
    no_rows R good q top st i = (i, tt)
top_made good depth home top (TopPhrase.Functors binds at) st p h =
    given_then (λ r. Makes home (FromTable FunctorOf good top [] st) st r.1 (TableOf FunctorOf r))
    (TopMade good home top st) (infer_functors depth home top binds [] st) _
    (functors_made good depth home top binds [] st p (λ m l. (h m l, tt))) (λ r k.
    less (before refl k (λ q i. no_rows FunctorOf good q top st i)) (λ q i j. (
      j.0,
      record {
        env = nothing_of q;
        signatures = tt;
        functors = j.1;
        funsigs = tt;
      },
    )))
  where
    no_rows : {A : Type 0} (R : Nodes → A → Type 0) (good : List ℕ → Bool) (q : Nodes) (top : Top) (st : Progress)
        → IsOfTop good top st q → FromTable R good top [] st q
    no_rows R good q top st i = (i, tt)
top_made good depth home top (TopPhrase.Funsigs binds at) st p h =
    given_then (λ r. Makes home (FromTable FunctorOf good top [] st) st r.1 (TableOf FunctorOf r))
    (TopMade good home top st) (infer_funsigs home top binds [] st) _
    (funsigs_made good home top binds [] st p (λ m l. (h m l, tt))) (λ r k.
    less (before refl k (λ q i. no_rows FunctorOf good q top st i)) (λ q i j. (
      j.0,
      record {
        env = nothing_of q;
        signatures = tt;
        functors = tt;
        funsigs = j.1;
      },
    )))
  where
    no_rows : {A : Type 0} (R : Nodes → A → Type 0) (good : List ℕ → Bool) (q : Nodes) (top : Top) (st : Progress)
        → IsOfTop good top st q → FromTable R good top [] st q
    no_rows R good q top st i = (i, tt)

both_of : (q : Nodes) (first second : Top) → TopOf q first → TopOf q second → TopOf q (top_with first second)
both_of q first second h k = record {
  env = has_modified (SchemeOf q) (FunctionOf q) first.env second.env h.env k.env;
  signatures = rows_with_all (SignatureOf q) second.signatures first.signatures k.signatures h.signatures;
  functors = rows_with_all (FunctorOf q) second.functors first.functors k.functors h.functors;
  funsigs = rows_with_all (FunctorOf q) second.funsigs first.funsigs k.funsigs h.funsigs;
}

pub after_dec : (good : List ℕ → Bool) (q : Nodes) (top : Top) (st : Progress) (r : Top × Progress) → IsOfTop good top st q
    → OneOf TopOf r q → IsOfTop good (top_with top r.0) r.1 q
after_dec good q top st r h k = record { admits = h.admits; scope = both_of q top r.0 h.scope k.1; state = k.0 }

pub tops_made : (good : List ℕ → Bool) (depth : ℕ) (home : List ℕ) (top : Top) (decs : List TopPhrase) (st : Progress)
    → AllItems (TopSpelt good) decs → IsReadyFor home (IsOfTop good top st) st.names
    → Given (TopMade good home top st) (infer_tops depth home top decs st)
tops_made good depth home top [] st p h = plain refl (λ q i. (i.state, nothing_at q))
  where
    nothing_at : (q : Nodes) → TopOf q Rattle.semantic_objects.specs.Environments.empty_top
    nothing_at q = record { env = nothing_of q; signatures = tt; functors = tt; funsigs = tt }
tops_made good depth home top (dec ∷ decs) st p h =
    given_then (TopMade good home top st) (TopMade good home top st) (infer_top depth home top dec st) _
    (top_made good depth home top dec st p.0 h) (λ r k.
    given_then (TopMade good home (top_with top r.0) r.1) (TopMade good home top st)
    (infer_tops depth home (top_with top r.0) decs r.1) _
    (tops_made good depth home (top_with top r.0) decs r.1 p.1
    (ready_after h k (λ q i j. after_dec good q top st r i j))) (λ v l.
    less (after k l (λ q i j. after_dec good q top st r i j)) (λ q i j. (j.1.0, both_of q r.0 v.0 j.0.1 j.1.1))))
