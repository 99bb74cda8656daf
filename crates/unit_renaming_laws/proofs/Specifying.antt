-- Specifications move with the variables.
use Rattle.std.proofs.Common.{◌≡◌, ℕ, zero, suc, ◌+◌, List, [], ◌∷◌, ◌++◌, map, length, refl, sym, ap, ap₂, ◌∙◌, subst, Option, Some, None, Bool, true, false, ◌||◌, ◌&&◌, cond, not}
use Rattle.std.specs.Prelude.{filter, option_to_list, eqb}
use Rattle.sml_trees.specs.declared.name.At.{At}
use Rattle.sml_trees.specs.declared.name.LongName.{LongName}
use Rattle.semantic_objects.specs.declared.name.TyName.{TyName}
use Rattle.semantic_objects.specs.declared.symbol.Symbol.TheVariants as symbol
use Rattle.semantic_objects.specs.declared.entry.TypeFn.{TypeFn}
use Rattle.semantic_objects.specs.declared.entry.TypeStr.{TypeStr}
use Rattle.semantic_objects.specs.declared.entry.ValueEntry.{ValueEntry}
use Rattle.semantic_objects.specs.declared.entry.VidStatus.TheVariants as status
use Rattle.semantic_objects.specs.Symbols.{same_name}
use Rattle.semantic_objects.specs.Tables.{Table, entry}
use Rattle.semantic_objects.specs.Trees.{Tree, Trees}
use Rattle.semantic_objects.specs.Environments.{Env, Signature, structures, types, values, empty_env, with_type, with_value}
use Rattle.unification.specs.Types.{Ty, put}
use Rattle.unification.specs.Closing.{closed_over, put_tree, put_trees}
use Rattle.unification.specs.Generality.{same_trees}
use Rattle.bare_phrases.specs.Phrases.{TyPhrase, ConPhrase, DatPhrase}
use Rattle.realisation.specs.Names.{is_listed}
use Rattle.static_semantics.specs.BasicTypes.{is_equality_variable}
use Rattle.static_semantics.specs.Inferring.{Progress, Scope, with_written_alone, Answer, gives, name_at}
use Rattle.static_semantics.specs.WrittenVariables.{tyvars_of_ty, by_place, texts_once}
use Rattle.static_semantics.specs.TypeInference.{infer_ty, listed, numbers, as_written}
use Rattle.static_semantics.specs.DatatypeInference.{own_name, own_type, after_names, infer_optional_ty, datatypes_of, exception_entry}
use Rattle.static_semantics.specs.EnvironmentsPut.{put_type, put_value, each_entry, put_env, put_scope}
use Rattle.module_semantics.specs.SigPhrases.{ValPhrase, TypeDescPhrase}
use Rattle.module_semantics.specs.SignatureNames.{variables_from, if_all, name_over, name_alone, also_bound}
use Rattle.module_semantics.specs.SignatureInference.{shares, have_common, specified, variables_of, val_entry, infer_vals, infer_type_descs, exception_ty, infer_exception_specs, type_alone, value_alone, specified_cons, specified_types, name_of_type, names_of_types, infer_datatype_specs, lacks_equality, with_function, refuses_long, replaced, where_type}
use Rattle.module_semantics.specs.ElaboratesSignatures.{sig_of}
use Rattle.renaming_laws.specs.Moved.{moved, AreMoved, Both, Moves, MovesIn}
use Rattle.renaming_laws.proofs.Answers.{plain_then, moves_then, both_where, mapped}
use Rattle.renaming_laws.proofs.Environments.{each_found, each_has, put_has_structures, put_has_types, put_has_values, put_modified}
use Rattle.renaming_laws.proofs.Closing.{closed_moved}
use Rattle.renaming_laws.proofs.Generality.{admits_moved}
use Rattle.renaming_laws.proofs.TypesMoved.{ty_moved, later_rows, listed_moved, numbers_moved, written_alone_moved, own_stays, optional_moved, datatypes_moved, exception_moved}
use Rattle.renaming_laws.proofs.StepsMoved.{RowsMove, implicit_moved}
use Rattle.unit_renaming_laws.specs.Moved.{put_type_function, put_signature}
use Rattle.unit_renaming_laws.proofs.Realising.{realised_by_moved}

abbrev pub SigsMove : ℕ → Signature × Progress → Signature × Progress → Type 0
SigsMove k = MovesIn k (put_signature (moved k))

abbrev pub PartsMove : ℕ → Signature → Signature → Type 0
PartsMove k = Moves (put_signature (moved k))

pub names_after : (k n : ℕ) (st u : Progress) → AreMoved k st u → AreMoved k (after_names n st) (after_names n u)
names_after k n st u h = record { types = h.types; names = ap (λ z. z + n) h.names }

-- ---- a name by itself

same_as_variables : (k n first : ℕ) (ts : Trees)
    → same_trees (put_trees (moved k) ts) (variables_from n first) ≡ same_trees ts (variables_from n first)
same_as_variables k zero first Trees.Nil = refl
same_as_variables k (suc n) first Trees.Nil = refl
same_as_variables k zero first (Trees.Cons t ts) = refl
same_as_variables k (suc n) first (Trees.Cons (Tree.Bound i) ts) =
    ap (λ z. eqb i first && z) (same_as_variables k n (suc first) ts)
same_as_variables k (suc n) first (Trees.Cons (Tree.Free v) ts) = refl
same_as_variables k (suc n) first (Trees.Cons (Tree.Made c us) ts) = refl

name_over_moved : (k arity : ℕ) (t : Tree) → name_over arity (put_tree (moved k) t) ≡ name_over arity t
name_over_moved k arity (Tree.Bound i) = refl
name_over_moved k arity (Tree.Free n) = refl
name_over_moved k arity (Tree.Made symbol.Arrow ts) = refl
name_over_moved k arity (Tree.Made (symbol.Record labels) ts) = refl
name_over_moved k arity (Tree.Made (symbol.Name name) ts) =
    ap (λ z. if_all (eqb name.arity arity && z) name) (same_as_variables k arity 0 ts)

pub alone_moved : (k : ℕ) (function : TypeFn)
    → name_alone (put_type_function (moved k) function) ≡ name_alone function
alone_moved k function = name_over_moved k function.arity function.body

-- ---- what is specified

shares_moved : {A : Type 0} (f : A → A) (rows table : Table A)
    → shares (each_entry f rows) (each_entry f table) ≡ shares rows table
shares_moved f [] table = refl
shares_moved f (row ∷ rows) table = ap₂ (λ a b. a || b) (each_has f row.0 table) (shares_moved f rows table)

shared_of : {A : Type 0} (f : A → A) (x y a b : Table A) → x ≡ each_entry f a → y ≡ each_entry f b
    → shares x y ≡ shares a b
shared_of f x y a b e g = ap₂ (λ v w. shares v w) e g ∙ shares_moved f a b

common_moved : (k : ℕ) (part env : Env)
    → have_common (put_env (moved k) part) (put_env (moved k) env) ≡ have_common part env
common_moved k part env = ap₂ (λ a b. a || b)
    (shared_of (put_env (moved k)) (structures (put_env (moved k) part)) (structures (put_env (moved k) env))
    (structures part) (structures env) (put_has_structures (moved k) part) (put_has_structures (moved k) env))
    (ap₂ (λ a b. a || b)
    (shared_of (put_type (moved k)) (types (put_env (moved k) part)) (types (put_env (moved k) env)) (types part)
    (types env) (put_has_types (moved k) part) (put_has_types (moved k) env))
    (shared_of (put_value (moved k)) (values (put_env (moved k) part)) (values (put_env (moved k) env)) (values part)
    (values env) (put_has_values (moved k) part) (put_has_values (moved k) env)))

pub specified_moved : (k : ℕ) (sc : Scope) (at : At) (part : Env) (made : Signature)
    → Both (PartsMove k) (specified sc at part made)
    (specified (put_scope (moved k) sc) at (put_env (moved k) part) (put_signature (moved k) made))
specified_moved k sc at part made =
    both_where k (PartsMove k) (have_common part made.env)
    (have_common (put_env (moved k) part) (put_env (moved k) made.env)) 40 sc at _ _ (common_moved k part made.env)
    (ap (sig_of made.bound) (put_modified (moved k) made.env part))

pub specified_as : (k : ℕ) (sc : Scope) (at : At) (part other : Env) (made : Signature)
    → other ≡ put_env (moved k) part
    → Both (PartsMove k) (specified sc at part made)
    (specified (put_scope (moved k) sc) at other (put_signature (moved k) made))
specified_as k sc at part other made e =
    subst (λ z. Both (PartsMove k) (specified sc at part made)
    (specified (put_scope (moved k) sc) at z (put_signature (moved k) made))) (sym e)
    (specified_moved k sc at part made)

-- ---- `val`

pub written_ty_moved : (k : ℕ) (rows : List (List ℕ × ℕ)) (sc : Scope) (ty : TyPhrase)
    → Both (Moves (put (moved k))) (infer_ty (with_written_alone (as_written rows) sc) ty)
    (infer_ty (with_written_alone (as_written (later_rows k rows)) (put_scope (moved k) sc)) ty)
written_ty_moved k rows sc ty =
    subst (λ z. Both (Moves (put (moved k))) (infer_ty (with_written_alone (as_written rows) sc) ty) (infer_ty z ty))
    (sym (written_alone_moved k rows sc)) (ty_moved k (with_written_alone (as_written rows) sc) ty)

marks_stay : (k : ℕ) (own : List (List ℕ × ℕ))
    → map (λ row. is_equality_variable row.0) (later_rows k own) ≡ map (λ row. is_equality_variable row.0) own
marks_stay k [] = refl
marks_stay k (row ∷ rows) = ap (λ z. is_equality_variable row.0 ∷ z) (marks_stay k rows)

abbrev variable_of : List Bool → Tree → ValueEntry
variable_of marks body = record { status = status.Variable; scheme = record { marks = marks; body = body } }

val_entry_moved : (k : ℕ) (own : List (List ℕ × ℕ)) (ty : Ty)
    → val_entry (later_rows k own) (put (moved k) ty) ≡ put_value (moved k) (val_entry own ty)
val_entry_moved k own ty = ap₂ variable_of (marks_stay k own)
    (ap (λ vs. closed_over vs (put (moved k) ty)) (numbers_moved k own) ∙ closed_moved k (numbers own) ty)

pub vals_moved : (k : ℕ) (sc : Scope) (descs : List ValPhrase) (made : Signature) (st u : Progress) → AreMoved k st u
    → Both (SigsMove k) (infer_vals sc descs made st)
    (infer_vals (put_scope (moved k) sc) descs (put_signature (moved k) made) u)
vals_moved k sc [] made st u h = (refl, h)
vals_moved k sc (desc ∷ descs) made st u h =
    let r : List (List ℕ × ℕ) × Progress = variables_of desc.ty st in
    let q : List (List ℕ × ℕ) × Progress = variables_of desc.ty u in
    let i : RowsMove k r q = implicit_moved k [] (texts_once [] (by_place (tyvars_of_ty desc.ty))) [] st u h in
    plain_then (put (moved k)) (SigsMove k) (infer_ty (with_written_alone (as_written r.0) sc) desc.ty)
    (infer_ty (with_written_alone (as_written q.0) (put_scope (moved k) sc)) desc.ty) _ _
    (subst (λ z. Both (Moves (put (moved k))) (infer_ty (with_written_alone (as_written r.0) sc) desc.ty)
    (infer_ty (with_written_alone (as_written z) (put_scope (moved k) sc)) desc.ty)) (sym i.0)
    (written_ty_moved k r.0 sc desc.ty)) (λ ty.
    plain_then (put_signature (moved k)) (SigsMove k)
    (specified sc (name_at desc.name) (with_value desc.name.text (val_entry r.0 ty) empty_env) made)
    (specified (put_scope (moved k) sc) (name_at desc.name)
    (with_value desc.name.text (val_entry q.0 (put (moved k) ty)) empty_env) (put_signature (moved k) made)) _ _
    (specified_as k sc (name_at desc.name) (with_value desc.name.text (val_entry r.0 ty) empty_env)
    (with_value desc.name.text (val_entry q.0 (put (moved k) ty)) empty_env) made
    (ap (λ v. with_value desc.name.text v empty_env)
    (ap (λ o. val_entry o (put (moved k) ty)) i.0 ∙ val_entry_moved k r.0 ty)))
    (λ sig. vals_moved k sc descs sig r.1 q.1 i.1))

-- ---- `type`, `eqtype`, `exception`

pub type_descs_moved : (k : ℕ) (sc : Scope) (eq : Bool) (descs : List TypeDescPhrase) (made : Signature)
    (st u : Progress) → AreMoved k st u
    → Both (SigsMove k) (infer_type_descs sc eq descs made st)
    (infer_type_descs (put_scope (moved k) sc) eq descs (put_signature (moved k) made) u)
type_descs_moved k sc eq [] made st u h = (refl, h)
type_descs_moved k sc eq (desc ∷ descs) made st u h =
    let name : TyName = own_name sc.home st.names (length desc.tyvars) eq in
    let other : TyName = own_name sc.home u.names (length desc.tyvars) eq in
    moves_then k (later_rows k) (SigsMove k) (listed sc desc.tyvars [] st)
    (listed (put_scope (moved k) sc) desc.tyvars [] u) _ _ (listed_moved k sc desc.tyvars [] st u h) (λ rows v w i.
    plain_then (put_signature (moved k)) (SigsMove k)
    (specified sc (name_at desc.name) (with_type desc.name.text (own_type name) empty_env)
    (also_bound (name ∷ []) made))
    (specified (put_scope (moved k) sc) (name_at desc.name) (with_type desc.name.text (own_type other) empty_env)
    (also_bound (other ∷ []) (put_signature (moved k) made))) _ _
    (subst (λ n. Both (PartsMove k)
    (specified sc (name_at desc.name) (with_type desc.name.text (own_type name) empty_env)
    (also_bound (name ∷ []) made))
    (specified (put_scope (moved k) sc) (name_at desc.name)
    (with_type desc.name.text (own_type (own_name sc.home n (length desc.tyvars) eq)) empty_env)
    (also_bound (own_name sc.home n (length desc.tyvars) eq ∷ []) (put_signature (moved k) made)))) (sym h.names)
    (specified_as k sc (name_at desc.name) (with_type desc.name.text (own_type name) empty_env)
    (with_type desc.name.text (own_type name) empty_env) (also_bound (name ∷ []) made)
    (sym (ap (λ z. with_type desc.name.text z empty_env) (own_stays k name)))))
    (λ sig. type_descs_moved k sc eq descs sig (after_names 1 v) (after_names 1 w) (names_after k 1 v w i)))

exception_ty_moved : (k : ℕ) (arg : Option Ty)
    → exception_ty (mapped (put (moved k)) arg) ≡ put (moved k) (exception_ty arg)
exception_ty_moved k None = refl
exception_ty_moved k (Some t) = refl

pub exception_specs_moved : (k : ℕ) (sc : Scope) (cons : List ConPhrase) (made : Signature)
    → Both (PartsMove k) (infer_exception_specs sc cons made)
    (infer_exception_specs (put_scope (moved k) sc) cons (put_signature (moved k) made))
exception_specs_moved k sc [] made = refl
exception_specs_moved k sc (con ∷ cons) made =
    plain_then (mapped (put (moved k))) (PartsMove k) (infer_optional_ty (with_written_alone [] sc) con.arg)
    (infer_optional_ty (with_written_alone [] (put_scope (moved k) sc)) con.arg) _ _
    (optional_moved k (with_written_alone [] sc) con.arg) (λ arg.
    plain_then (put_signature (moved k)) (PartsMove k)
    (specified sc (name_at con.name) (with_value con.name.text (exception_entry (exception_ty arg)) empty_env) made)
    (specified (put_scope (moved k) sc) (name_at con.name)
    (with_value con.name.text (exception_entry (exception_ty (mapped (put (moved k)) arg))) empty_env)
    (put_signature (moved k) made)) _ _
    (specified_as k sc (name_at con.name)
    (with_value con.name.text (exception_entry (exception_ty arg)) empty_env)
    (with_value con.name.text (exception_entry (exception_ty (mapped (put (moved k)) arg))) empty_env) made
    (ap (λ v. with_value con.name.text v empty_env)
    (ap exception_entry (exception_ty_moved k arg) ∙ exception_moved k (exception_ty arg))))
    (λ sig. exception_specs_moved k sc cons sig))

-- ---- `datatype`

type_alone_moved : (k : ℕ) (name : List ℕ) (o : Option TypeStr)
    → type_alone name (mapped (put_type (moved k)) o) ≡ put_env (moved k) (type_alone name o)
type_alone_moved k name None = refl
type_alone_moved k name (Some str) = refl

value_alone_moved : (k : ℕ) (name : List ℕ) (o : Option ValueEntry)
    → value_alone name (mapped (put_value (moved k)) o) ≡ put_env (moved k) (value_alone name o)
value_alone_moved k name None = refl
value_alone_moved k name (Some v) = refl

type_there : (k : ℕ) (name : List ℕ) (env : Env)
    → entry name (types (put_env (moved k) env)) ≡ mapped (put_type (moved k)) (entry name (types env))
type_there k name env = ap (entry name) (put_has_types (moved k) env)
    ∙ each_found (put_type (moved k)) name (types env)

value_there : (k : ℕ) (name : List ℕ) (env : Env)
    → entry name (values (put_env (moved k) env)) ≡ mapped (put_value (moved k)) (entry name (values env))
value_there k name env = ap (entry name) (put_has_values (moved k) env)
    ∙ each_found (put_value (moved k)) name (values env)

specified_cons_moved : (k : ℕ) (sc : Scope) (cons : List ConPhrase) (new : Env) (made : Signature)
    → Both (PartsMove k) (specified_cons sc cons new made)
    (specified_cons (put_scope (moved k) sc) cons (put_env (moved k) new) (put_signature (moved k) made))
specified_cons_moved k sc [] new made = refl
specified_cons_moved k sc (con ∷ cons) new made =
    let text : List ℕ = con.name.text in
    plain_then (put_signature (moved k)) (PartsMove k)
    (specified sc (name_at con.name) (value_alone text (entry text (values new))) made)
    (specified (put_scope (moved k) sc) (name_at con.name)
    (value_alone text (entry text (values (put_env (moved k) new)))) (put_signature (moved k) made)) _ _
    (specified_as k sc (name_at con.name) (value_alone text (entry text (values new)))
    (value_alone text (entry text (values (put_env (moved k) new)))) made
    (ap (value_alone text) (value_there k text new) ∙ value_alone_moved k text (entry text (values new))))
    (λ sig. specified_cons_moved k sc cons new sig)

specified_types_moved : (k : ℕ) (sc : Scope) (binds : List DatPhrase) (new : Env) (made : Signature)
    → Both (PartsMove k) (specified_types sc binds new made)
    (specified_types (put_scope (moved k) sc) binds (put_env (moved k) new) (put_signature (moved k) made))
specified_types_moved k sc [] new made = refl
specified_types_moved k sc (bind ∷ binds) new made =
    let text : List ℕ = bind.name.text in
    plain_then (put_signature (moved k)) (PartsMove k)
    (specified sc (name_at bind.name) (type_alone text (entry text (types new))) made)
    (specified (put_scope (moved k) sc) (name_at bind.name)
    (type_alone text (entry text (types (put_env (moved k) new)))) (put_signature (moved k) made)) _ _
    (specified_as k sc (name_at bind.name) (type_alone text (entry text (types new)))
    (type_alone text (entry text (types (put_env (moved k) new)))) made
    (ap (type_alone text) (type_there k text new) ∙ type_alone_moved k text (entry text (types new)))) (λ with.
    plain_then (put_signature (moved k)) (PartsMove k) (specified_cons sc bind.cons new with)
    (specified_cons (put_scope (moved k) sc) bind.cons (put_env (moved k) new) (put_signature (moved k) with)) _ _
    (specified_cons_moved k sc bind.cons new with) (λ sig. specified_types_moved k sc binds new sig))

name_of_moved : (k : ℕ) (o : Option TypeStr) → name_of_type (mapped (put_type (moved k)) o) ≡ name_of_type o
name_of_moved k None = refl
name_of_moved k (Some str) = ap option_to_list (alone_moved k str.function)

names_of_moved : (k : ℕ) (binds : List DatPhrase) (new : Env)
    → names_of_types binds (put_env (moved k) new) ≡ names_of_types binds new
names_of_moved k [] new = refl
names_of_moved k (bind ∷ binds) new = ap₂ (λ a b. a ++ b)
    (ap name_of_type (type_there k bind.name.text new) ∙ name_of_moved k (entry bind.name.text (types new)))
    (names_of_moved k binds new)

pub datatype_specs_moved : (k : ℕ) (sc : Scope) (binds : List DatPhrase) (made : Signature) (st u : Progress)
    → AreMoved k st u
    → Both (SigsMove k) (infer_datatype_specs sc binds made st)
    (infer_datatype_specs (put_scope (moved k) sc) binds (put_signature (moved k) made) u)
datatype_specs_moved k sc binds made st u h =
    moves_then k (put_env (moved k)) (SigsMove k) (datatypes_of sc [] binds st)
    (datatypes_of (put_scope (moved k) sc) [] binds u) _ _ (datatypes_moved k sc [] binds st u h) (λ new v w i.
    plain_then (put_signature (moved k)) (SigsMove k)
    (specified_types sc binds new (also_bound (names_of_types binds new) made))
    (specified_types (put_scope (moved k) sc) binds (put_env (moved k) new)
    (also_bound (names_of_types binds (put_env (moved k) new)) (put_signature (moved k) made))) _ _
    (subst (λ z. Both (PartsMove k) (specified_types sc binds new (also_bound (names_of_types binds new) made))
    (specified_types (put_scope (moved k) sc) binds (put_env (moved k) new)
    (also_bound z (put_signature (moved k) made)))) (sym (names_of_moved k binds new))
    (specified_types_moved k sc binds new (also_bound (names_of_types binds new) made)))
    (λ sig. (refl, i)))

-- ---- `where type`

lacks_moved : (k : ℕ) (o : Option TyName) (by : TypeFn)
    → lacks_equality o (put_type_function (moved k) by) ≡ lacks_equality o by
lacks_moved k None by = refl
lacks_moved k (Some name) by =
    ap (λ z. name.eq && not z) (admits_moved k (λ i. true) (λ n. false) (λ n. false) by.body (λ n. refl))

with_function_moved : (k : ℕ) (name : TyName) (by : TypeFn) (sig : Signature)
    → with_function name (put_type_function (moved k) by) (put_signature (moved k) sig)
    ≡ put_signature (moved k) (with_function name by sig)
with_function_moved k name by sig = ap (sig_of (filter (λ m. not (same_name name m)) sig.bound))
    (realised_by_moved k ((name, by) ∷ []) sig.env)

pub either_answer : {A : Type 0} (Q : A → A → Type 0) (c : Bool) (x y z w : Answer A) → Both Q x z → Both Q y w
    → Both Q (cond c x y) (cond c z w)
either_answer Q true x y z w h l = h
either_answer Q false x y z w h l = l

replaced_moved : (k : ℕ) (sc : Scope) (at : At) (long : LongName) (by : TypeFn) (sig : Signature) (o : Option TyName)
    → Both (PartsMove k) (replaced sc at long by sig o)
    (replaced (put_scope (moved k) sc) at long (put_type_function (moved k) by) (put_signature (moved k) sig) o)
replaced_moved k sc at long by sig None = refl
replaced_moved k sc at long by sig (Some name) =
    either_answer (PartsMove k) (is_listed name sig.bound) (gives (with_function name by sig))
    (refuses_long sc at long)
    (gives (with_function name (put_type_function (moved k) by) (put_signature (moved k) sig)))
    (refuses_long (put_scope (moved k) sc) at long) (with_function_moved k name by sig) refl

pub where_moved : (k : ℕ) (sc : Scope) (at : At) (long : LongName) (old by : TypeFn) (sig : Signature)
    → Both (PartsMove k) (where_type sc at long old by sig)
    (where_type (put_scope (moved k) sc) at long (put_type_function (moved k) old) (put_type_function (moved k) by)
    (put_signature (moved k) sig))
where_moved k sc at long old by sig =
    both_where k (PartsMove k) (not (eqb by.arity old.arity)) (not (eqb by.arity old.arity)) 35 sc at _ _ refl
    (both_where k (PartsMove k) (lacks_equality (name_alone old) by)
    (lacks_equality (name_alone (put_type_function (moved k) old)) (put_type_function (moved k) by)) 33 sc at _ _
    (ap (λ o. lacks_equality o (put_type_function (moved k) by)) (alone_moved k old)
    ∙ lacks_moved k (name_alone old) by)
    (subst (λ o. Both (PartsMove k) (replaced sc at long by sig (name_alone old))
    (replaced (put_scope (moved k) sc) at long (put_type_function (moved k) by) (put_signature (moved k) sig) o))
    (sym (alone_moved k old)) (replaced_moved k sc at long by sig (name_alone old))))
