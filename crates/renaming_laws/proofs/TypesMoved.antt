-- Types, what `type` binds, datatypes and exceptions move with the variables.
use Rattle.std.proofs.Common.{◌≡◌, ℕ, zero, suc, ◌+◌, ◌-◌, List, [], ◌∷◌, ◌++◌, map, length, refl, sym, ap, ap₂, ◌∙◌, subst, Option, Some, None, Bool, true, false, ◌&&◌, cond, not, get_or}
use Rattle.std.proofs.lemmas.List.{map-append, length-map}
use Rattle.std.proofs.lemmas.Bool.{eq-eqb}
use Rattle.std.specs.Prelude.{eqb}
use Rattle.std.specs.Option.{is_some}
use Rattle.std.specs.List.{list_all}
use Rattle.sml_trees.specs.declared.name.Name.{Name}
use Rattle.sml_trees.specs.declared.name.LongName.{LongName}
use Rattle.semantic_objects.specs.declared.name.TyName.{TyName}
use Rattle.semantic_objects.specs.declared.symbol.Symbol.TheVariants as symbol
use Rattle.semantic_objects.specs.declared.entry.TypeStr.{TypeStr}
use Rattle.semantic_objects.specs.declared.entry.ValueEntry.{ValueEntry}
use Rattle.semantic_objects.specs.Tables.{Table, entry, with_entry}
use Rattle.semantic_objects.specs.Trees.{Tree, Trees, TypeScheme}
use Rattle.semantic_objects.specs.Environments.{Env, structures, types, values, empty_env, with_type, with_value, modified_by}
use Rattle.unification.specs.Types.{Ty, Types, put, put_all, admits, admits_all, equality_of, where_parts}
use Rattle.unification.specs.Closing.{is_among, place_of, closed_over, closed_over_all, put_tree, put_trees}
use Rattle.unification.proofs.Walking.{or_left, or_right}
use Rattle.bare_phrases.specs.Phrases.{TyPhrase, TyFields, TyPhrases, TypPhrase, ConPhrase, DatPhrase, ExBodyPhrase, ExPhrase}
use Rattle.static_semantics.specs.BasicTypes.{exn_ty, arrow_ty, types_of, record_ty, is_one_of, is_equality_variable, reserved_constructors}
use Rattle.static_semantics.specs.Inferring.{Progress, Scope, under, with_written, with_written_alone, ◌>>=◌, name_at, long_at, known, found_at, named, is_named}
use Rattle.static_semantics.specs.TypeInference.{infer_ty, infer_ty_fields, infer_tys, new_rigid, listed, numbers, as_written, type_function, plain_type, infer_types}
use Rattle.static_semantics.specs.DatatypeInference.{own_name, own_ty, counted, own_type, new_types, Con, Dat, infer_optional_ty, infer_cons, cons_of, infer_dats, settled, settled_all, settled_symbol, argument_admits, dat_admits, narrowed, looked_over, looked_over_times, equality_choice, con_ty, con_schemes, con_entries, with_datatype, datatype_str, made_types, after_names, datatypes_of, infer_replication, is_exception, exception_entry, exception_of, infer_exceptions, exceptions_of}
use Rattle.static_semantics.specs.CoreInference.{infer_open}
use Rattle.static_semantics.specs.EnvironmentsPut.{put_scheme, put_con, put_type, put_value, each_entry, put_env, put_rows, put_scope}
use Rattle.renaming_laws.specs.Moved.{moved, AreMoved, Both, Moves, MovesIn}
use Rattle.renaming_laws.proofs.Answers.{plain_then, moves_then, both_where, mapped, known_moved}
use Rattle.renaming_laws.proofs.Environments.{each_with, each_has, each_named, each_is_named, each_names, put_has_structures, put_has_types, put_has_values, put_with_value, put_with_type, put_modified, put_found, put_datatype}
use Rattle.renaming_laws.proofs.Closing.{rigid_moved, applied_to_moved, later, closed_moved, function_moved}

-- ---- types

sides : (k : ℕ) (rows : Table Ty)
    → types_of (map (λ row. row.1) (each_entry (put (moved k)) rows)) ≡ put_all (moved k) (types_of
    (map (λ row. row.1) rows))
sides k [] = refl
sides k (row ∷ rows) = ap (Types.Cons (put (moved k) row.1)) (sides k rows)

pub record_moved : (k : ℕ) (rows : Table Ty)
    → record_ty (each_entry (put (moved k)) rows) ≡ put (moved k) (record_ty rows)
record_moved k rows = ap₂ (λ ns ts. Ty.Made (symbol.Record ns) ts) (each_names (put (moved k)) rows) (sides k rows)

has_moved : (k : ℕ) (name : List ℕ) (made : Env)
    → is_some (entry name (types (put_env (moved k) made))) ≡ is_some (entry name (types made))
has_moved k name made = ap (λ z. is_some (entry name z)) (put_has_types (moved k) made)
    ∙ each_has (put_type (moved k)) name (types made)

mutual
  pub ty_moved : (k : ℕ) (sc : Scope) (ty : TyPhrase)
      → Both (Moves (put (moved k))) (infer_ty sc ty) (infer_ty (put_scope (moved k) sc) ty)
  ty_moved k sc (TyPhrase.Var name at) = known_moved k (put (moved k)) sc
      (let long : LongName = record { parts = name.text ∷ []; line = name.line; col = name.col } in long)
      (named name.text sc.written) (named name.text (put_rows (moved k) sc.written))
      (each_named (put (moved k)) name.text sc.written)
  ty_moved k sc (TyPhrase.Record fields at) =
      plain_then (each_entry (put (moved k))) (Moves (put (moved k))) (infer_ty_fields sc fields [])
      (infer_ty_fields (put_scope (moved k) sc) fields []) _ _ (ty_fields_moved k sc fields []) (record_moved k)
  ty_moved k sc (TyPhrase.Named args long at) =
      plain_then (map (put (moved k))) (Moves (put (moved k))) (infer_tys sc args)
      (infer_tys (put_scope (moved k) sc) args) _ _ (tys_moved k sc args) (λ made.
      plain_then (put_type (moved k)) (Moves (put (moved k))) (known sc long (found_at types long.parts sc.env))
      (known (put_scope (moved k) sc) long (found_at types long.parts (put_env (moved k) sc.env))) _ _
      (known_moved k (put_type (moved k)) sc long (found_at types long.parts sc.env)
      (found_at types long.parts (put_env (moved k) sc.env))
      (put_found (moved k) (put_type (moved k)) types (put_has_types (moved k)) long.parts sc.env)) (λ found.
      both_where k (Moves (put (moved k))) (not (eqb (length made) found.function.arity))
      (not (eqb (length (map (put (moved k)) made)) found.function.arity)) 35 sc at _ _
      (ap (λ z. not (eqb z found.function.arity)) (length-map made (put (moved k))))
      (applied_to_moved k found.function made)))
  ty_moved k sc (TyPhrase.Arrow from to at) =
      plain_then (put (moved k)) (Moves (put (moved k))) (infer_ty sc from) (infer_ty (put_scope (moved k) sc) from) _ _
      (ty_moved k sc from) (λ a.
      plain_then (put (moved k)) (Moves (put (moved k))) (infer_ty sc to) (infer_ty (put_scope (moved k) sc) to) _ _
      (ty_moved k sc to) (λ b. refl))

  ty_fields_moved : (k : ℕ) (sc : Scope) (fields : TyFields) (made : Table Ty)
      → Both (Moves (each_entry (put (moved k)))) (infer_ty_fields sc fields made)
      (infer_ty_fields (put_scope (moved k) sc) fields (each_entry (put (moved k)) made))
  ty_fields_moved k sc TyFields.EndOfFields made = refl
  ty_fields_moved k sc (TyFields.Field label ty rest) made =
      both_where k (Moves (each_entry (put (moved k)))) (is_some (entry label.text made))
      (is_some (entry label.text (each_entry (put (moved k)) made))) 40 sc (name_at label) _ _
      (each_has (put (moved k)) label.text made)
      (plain_then (put (moved k)) (Moves (each_entry (put (moved k)))) (infer_ty sc ty)
      (infer_ty (put_scope (moved k) sc) ty) _ _ (ty_moved k sc ty) (λ t.
      subst (λ z. Both (Moves (each_entry (put (moved k)))) (infer_ty_fields sc rest (with_entry label.text t made))
      (infer_ty_fields (put_scope (moved k) sc) rest z)) (sym (each_with (put (moved k)) label.text t made))
      (ty_fields_moved k sc rest (with_entry label.text t made))))

  tys_moved : (k : ℕ) (sc : Scope) (tys : TyPhrases)
      → Both (Moves (map (put (moved k)))) (infer_tys sc tys) (infer_tys (put_scope (moved k) sc) tys)
  tys_moved k sc TyPhrases.EndOfArgs = refl
  tys_moved k sc (TyPhrases.Arg ty rest) =
      plain_then (put (moved k)) (Moves (map (put (moved k)))) (infer_ty sc ty) (infer_ty (put_scope (moved k) sc) ty)
      _ _ (ty_moved k sc ty) (λ t.
      plain_then (map (put (moved k))) (Moves (map (put (moved k)))) (infer_tys sc rest)
      (infer_tys (put_scope (moved k) sc) rest) _ _ (tys_moved k sc rest) (λ ts. refl))

-- ---- lists of type variables

abbrev pub later_rows : ℕ → List (List ℕ × ℕ) → List (List ℕ × ℕ)
later_rows k rows = each_entry (λ v. v + k) rows

pub row_after : (k : ℕ) (text : List ℕ) (rows : List (List ℕ × ℕ)) (st u : Progress) → AreMoved k st u
    → later_rows k (rows ++ (text, st.types.next) ∷ []) ≡ later_rows k rows ++ (text, u.types.next) ∷ []
row_after k text rows st u h =
    map-append (λ (row : List ℕ × ℕ). (row.0, row.1 + k)) rows ((text, st.types.next) ∷ [])
    ∙ ap (λ n. later_rows k rows ++ (text, n) ∷ []) (sym h.types.next)

pub listed_moved : (k : ℕ) (sc : Scope) (names : List Name) (before : List (List ℕ × ℕ)) (st u : Progress)
    → AreMoved k st u
    → Both (MovesIn k (later_rows k)) (listed sc names before st)
    (listed (put_scope (moved k) sc) names (later_rows k before) u)
listed_moved k sc [] before st u h = (refl, h)
listed_moved k sc (name ∷ names) before st u h =
    both_where k (MovesIn k (later_rows k)) (is_named name.text before) (is_named name.text (later_rows k before)) 40 sc
    (name_at name) _ _ (each_is_named (λ v. v + k) name.text before)
    (subst (λ z. Both (MovesIn k (later_rows k))
    (listed sc names (before ++ (name.text, st.types.next) ∷ []) (new_rigid name.text st))
    (listed (put_scope (moved k) sc) names z (new_rigid name.text u))) (row_after k name.text before st u h)
    (listed_moved k sc names (before ++ (name.text, st.types.next) ∷ []) (new_rigid name.text st)
    (new_rigid name.text u)
    (rigid_moved k name.text st u h)))

pub numbers_moved : (k : ℕ) (rows : List (List ℕ × ℕ)) → numbers (later_rows k rows) ≡ later k (numbers rows)
numbers_moved k [] = refl
numbers_moved k (row ∷ rows) = ap (λ z. (row.1 + k) ∷ z) (numbers_moved k rows)

written_rows : (k : ℕ) (rows : List (List ℕ × ℕ)) → as_written (later_rows k rows) ≡ put_rows (moved k) (as_written rows)
written_rows k [] = refl
written_rows k (row ∷ rows) = ap (λ z. (row.0, Ty.Var (row.1 + k)) ∷ z) (written_rows k rows)

abbrev scope_of : Env → List ℕ → List (List ℕ × Ty) → Scope
scope_of env home written = record { env = env; written = written; home = home }

pub written_alone_moved : (k : ℕ) (rows : List (List ℕ × ℕ)) (sc : Scope)
    → with_written_alone (as_written (later_rows k rows)) (put_scope (moved k) sc)
    ≡ put_scope (moved k) (with_written_alone (as_written rows) sc)
written_alone_moved k rows sc = ap (scope_of (put_env (moved k) sc.env) sc.home) (written_rows k rows)

pub with_written_moved : (k : ℕ) (rows : List (List ℕ × ℕ)) (sc : Scope)
    → with_written (as_written (later_rows k rows)) (put_scope (moved k) sc)
    ≡ put_scope (moved k) (with_written (as_written rows) sc)
with_written_moved k rows sc = ap (scope_of (put_env (moved k) sc.env) sc.home)
    (ap (λ z. z ++ put_rows (moved k) sc.written) (written_rows k rows)
    ∙ sym (map-append (λ (row : List ℕ × Ty). (row.0, put (moved k) row.1)) (as_written rows) sc.written))

pub under_moved : (k : ℕ) (made : Env) (sc : Scope)
    → under (put_env (moved k) made) (put_scope (moved k) sc) ≡ put_scope (moved k) (under made sc)
under_moved k made sc = ap (λ e. scope_of e sc.home (put_rows (moved k) sc.written))
    (put_modified (moved k) sc.env made)

-- ---- `type`

type_bound : (k : ℕ) (name : List ℕ) (rows : List (List ℕ × ℕ)) (ty : Ty) (made : Env)
    → with_type name (plain_type (type_function (numbers (later_rows k rows)) (put (moved k) ty))) (put_env (moved k)
    made)
    ≡ put_env (moved k) (with_type name (plain_type (type_function (numbers rows) ty)) made)
type_bound k name rows ty made =
    ap (λ vs. with_type name (plain_type (type_function vs (put (moved k) ty))) (put_env (moved k) made))
    (numbers_moved k rows)
    ∙ ap (λ f. with_type name (plain_type f) (put_env (moved k) made)) (function_moved k (numbers rows) ty)
    ∙ put_with_type (moved k) name (plain_type (type_function (numbers rows) ty)) made

pub infer_types_moved : (k : ℕ) (sc : Scope) (binds : List TypPhrase) (made : Env) (st u : Progress) → AreMoved k st u
    → Both (MovesIn k (put_env (moved k))) (infer_types sc binds made st)
    (infer_types (put_scope (moved k) sc) binds (put_env (moved k) made) u)
infer_types_moved k sc [] made st u h = (refl, h)
infer_types_moved k sc (bind ∷ binds) made st u h =
    moves_then k (later_rows k) (MovesIn k (put_env (moved k))) (listed sc bind.tyvars [] st)
    (listed (put_scope (moved k) sc) bind.tyvars [] u) _ _ (listed_moved k sc bind.tyvars [] st u h) (λ rows v w i.
    both_where k (MovesIn k (put_env (moved k))) (is_some (entry bind.name.text (types made)))
    (is_some (entry bind.name.text (types (put_env (moved k) made)))) 40 sc (name_at bind.name) _ _
    (has_moved k bind.name.text made)
    (plain_then (put (moved k)) (MovesIn k (put_env (moved k)))
    (infer_ty (with_written_alone (as_written rows) sc) bind.ty)
    (infer_ty (with_written_alone (as_written (later_rows k rows)) (put_scope (moved k) sc)) bind.ty) _ _
    (subst (λ z. Both (Moves (put (moved k))) (infer_ty (with_written_alone (as_written rows) sc) bind.ty)
    (infer_ty z bind.ty)) (sym (written_alone_moved k rows sc))
    (ty_moved k (with_written_alone (as_written rows) sc) bind.ty)) (λ ty.
    subst (λ z. Both (MovesIn k (put_env (moved k)))
    (infer_types sc binds (with_type bind.name.text (plain_type (type_function (numbers rows) ty)) made) v)
    (infer_types (put_scope (moved k) sc) binds z w)) (sym (type_bound k bind.name.text rows ty made))
    (infer_types_moved k sc binds (with_type bind.name.text (plain_type (type_function (numbers rows) ty)) made) v w
    i))))

-- ---- datatypes

bound_stays : (k i n : ℕ) (b : Bool) → b ≡ true
    → put_tree (moved k) (cond b (Tree.Bound i) (Tree.Free n)) ≡ cond b (Tree.Bound i) (Tree.Free n)
bound_stays k i n true e = refl
bound_stays k i n false e = absurd (cc)

closed_own : (k : ℕ) (vs ws : List ℕ) → ((n : ℕ) → is_among n ws ≡ true → is_among n vs ≡ true)
    → put_trees (moved k) (closed_over_all vs (types_of (map Ty.Var ws)))
    ≡ closed_over_all vs (types_of (map Ty.Var ws))
closed_own k vs [] h = refl
closed_own k vs (w ∷ ws) h = ap₂ Trees.Cons
    (bound_stays k (place_of w vs) w (is_among w vs) (h w (or_left (eqb w w) (is_among w ws) (eq-eqb w w refl))))
    (closed_own k vs ws (λ n e. h n (or_right (eqb n w) (is_among n ws) e)))

abbrev type_of_body : TyName → Trees → TypeStr
type_of_body name ts = plain_type (record {
  arity = length (counted name.arity 0);
  body = Tree.Made (symbol.Name name) ts;
})

pub own_stays : (k : ℕ) (name : TyName) → put_type (moved k) (own_type name) ≡ own_type name
own_stays k name = ap (type_of_body name) (closed_own k (counted name.arity 0) (counted name.arity 0) (λ n e. e))

new_types_moved : (k : ℕ) (sc : Scope) (binds : List DatPhrase) (number : ℕ) (made : Env)
    → Both (Moves (put_env (moved k))) (new_types sc binds number made)
    (new_types (put_scope (moved k) sc) binds number (put_env (moved k) made))
new_types_moved k sc [] number made = refl
new_types_moved k sc (bind ∷ binds) number made =
    let str : TypeStr = own_type (own_name sc.home number (length bind.tyvars) true) in
    both_where k (Moves (put_env (moved k))) (is_some (entry bind.name.text (types made)))
    (is_some (entry bind.name.text (types (put_env (moved k) made)))) 40 sc (name_at bind.name) _ _
    (has_moved k bind.name.text made)
    (subst (λ z. Both (Moves (put_env (moved k))) (new_types sc binds (suc number) (with_type bind.name.text str made))
    (new_types (put_scope (moved k) sc) binds (suc number) z))
    (sym (ap (λ z. with_type bind.name.text z (put_env (moved k) made))
    (sym (own_stays k (own_name sc.home number (length bind.tyvars) true)))
    ∙ put_with_type (moved k) bind.name.text str made))
    (new_types_moved k sc binds (suc number) (with_type bind.name.text str made)))

pub optional_moved : (k : ℕ) (sc : Scope) (ty : Option TyPhrase)
    → Both (Moves (mapped (put (moved k)))) (infer_optional_ty sc ty) (infer_optional_ty (put_scope (moved k) sc) ty)
optional_moved k sc None = refl
optional_moved k sc (Some ty) = plain_then (put (moved k)) (Moves (mapped (put (moved k)))) (infer_ty sc ty)
    (infer_ty (put_scope (moved k) sc) ty) _ _ (ty_moved k sc ty) (λ t. refl)

abbrev put_args : ℕ → List Con → List Con
put_args k cons = each_entry (mapped (put (moved k))) cons

args_after : (k : ℕ) (xs ys : List Con) → put_args k (xs ++ ys) ≡ put_args k xs ++ put_args k ys
args_after k xs ys = map-append (λ (con : Con). (con.0, mapped (put (moved k)) con.1)) xs ys

cons_moved : (k : ℕ) (sc : Scope) (refused : List (List ℕ)) (cons : List ConPhrase) (before made : List Con)
    → Both (Moves (put_args k)) (infer_cons sc refused cons before made)
    (infer_cons (put_scope (moved k) sc) refused cons (put_args k before) (put_args k made))
cons_moved k sc refused [] before made = refl
cons_moved k sc refused (con ∷ cons) before made =
    both_where k (Moves (put_args k)) (is_one_of refused con.name.text) (is_one_of refused con.name.text) 34 sc
    (name_at con.name) _ _ refl
    (both_where k (Moves (put_args k)) (is_named con.name.text (before ++ made))
    (is_named con.name.text (put_args k before ++ put_args k made)) 40 sc (name_at con.name) _ _
    (ap (is_named con.name.text) (sym (args_after k before made))
    ∙ each_is_named (mapped (put (moved k))) con.name.text (before ++ made))
    (plain_then (mapped (put (moved k))) (Moves (put_args k)) (infer_optional_ty sc con.arg)
    (infer_optional_ty (put_scope (moved k) sc) con.arg) _ _ (optional_moved k sc con.arg) (λ arg.
    subst (λ z. Both (Moves (put_args k)) (infer_cons sc refused cons before (made ++ (con.name.text, arg) ∷ []))
    (infer_cons (put_scope (moved k) sc) refused cons (put_args k before) z))
    (args_after k made ((con.name.text, arg) ∷ []))
    (cons_moved k sc refused cons before (made ++ (con.name.text, arg) ∷ [])))))

abbrev pub moved_dat : ℕ → Dat → Dat
moved_dat k dat = record {
  name = dat.name;
  variables = later_rows k dat.variables;
  cons = each_entry (mapped (put (moved k))) dat.cons;
}

cons_of_moved : (k : ℕ) (dats : List Dat) → cons_of (map (moved_dat k) dats) ≡ put_args k (cons_of dats)
cons_of_moved k [] = refl
cons_of_moved k (dat ∷ dats) = ap (λ z. put_args k dat.cons ++ z) (cons_of_moved k dats)
    ∙ sym (args_after k dat.cons (cons_of dats))

dats_moved : (k : ℕ) (sc : Scope) (refused : List (List ℕ)) (binds : List DatPhrase) (made : List Dat)
    (st u : Progress)
    → AreMoved k st u
    → Both (MovesIn k (map (moved_dat k))) (infer_dats sc refused binds made st)
    (infer_dats (put_scope (moved k) sc) refused binds (map (moved_dat k) made) u)
dats_moved k sc refused [] made st u h = (refl, h)
dats_moved k sc refused (bind ∷ binds) made st u h =
    moves_then k (later_rows k) (MovesIn k (map (moved_dat k))) (listed sc bind.tyvars [] st)
    (listed (put_scope (moved k) sc) bind.tyvars [] u) _ _ (listed_moved k sc bind.tyvars [] st u h) (λ rows v w i.
    let own : Scope = with_written_alone (as_written rows) sc in
    let other : Scope = with_written_alone (as_written (later_rows k rows)) (put_scope (moved k) sc) in
    plain_then (put_args k) (MovesIn k (map (moved_dat k))) (infer_cons own refused bind.cons (cons_of made) [])
    (infer_cons other refused bind.cons (cons_of (map (moved_dat k) made)) []) _ _
    (subst (λ z. Both (Moves (put_args k)) (infer_cons own refused bind.cons (cons_of made) [])
    (infer_cons z refused bind.cons (cons_of (map (moved_dat k) made)) [])) (sym (written_alone_moved k rows sc))
    (subst (λ z. Both (Moves (put_args k)) (infer_cons own refused bind.cons (cons_of made) [])
    (infer_cons (put_scope (moved k) own) refused bind.cons z [])) (sym (cons_of_moved k made))
    (cons_moved k own refused bind.cons (cons_of made) []))) (λ cons.
    let dat : Dat = record { name = bind.name.text; variables = rows; cons = cons } in
    subst (λ z. Both (MovesIn k (map (moved_dat k))) (infer_dats sc refused binds (made ++ dat ∷ []) v)
    (infer_dats (put_scope (moved k) sc) refused binds z w)) (map-append (moved_dat k) made (dat ∷ []))
    (dats_moved k sc refused binds (made ++ dat ∷ []) v w i)))

-- ---- which datatypes admit equality

module _ (k : ℕ) (home : List ℕ) (first : ℕ) where
  mutual
    settled_moved : (choice : List Bool) (t : Ty)
        → settled home first choice (put (moved k) t) ≡ put (moved k) (settled home first choice t)
    settled_moved choice (Ty.Var n) = refl
    settled_moved choice (Ty.Made c ts) = ap (Ty.Made (settled_symbol home first choice c)) (settled_all_moved choice ts)

    settled_all_moved : (choice : List Bool) (ts : Types)
        → settled_all home first choice (put_all (moved k) ts) ≡ put_all (moved k) (settled_all home first choice ts)
    settled_all_moved choice Types.Nil = refl
    settled_all_moved choice (Types.Cons t ts) = ap₂ Types.Cons (settled_moved choice t) (settled_all_moved choice ts)

  mutual
    admits_moved : (t : Ty) → admits (λ n. true) (put (moved k) t) ≡ admits (λ n. true) t
    admits_moved (Ty.Var n) = refl
    admits_moved (Ty.Made c ts) = ap (where_parts (equality_of c)) (admits_all_moved ts)

    admits_all_moved : (ts : Types) → admits_all (λ n. true) (put_all (moved k) ts) ≡ admits_all (λ n. true) ts
    admits_all_moved Types.Nil = refl
    admits_all_moved (Types.Cons t ts) = ap₂ (λ a b. a && b) (admits_moved t) (admits_all_moved ts)

  argument_moved : (choice : List Bool) (arg : Option Ty)
      → argument_admits home first choice (mapped (put (moved k)) arg) ≡ argument_admits home first choice arg
  argument_moved choice None = refl
  argument_moved choice (Some t) = ap (admits (λ n. true)) (settled_moved choice t)
      ∙ admits_moved (settled home first choice t)

  arguments_moved : (choice : List Bool) (cons : List Con)
      → list_all (λ (con : Con). argument_admits home first choice con.1) (put_args k cons)
      ≡ list_all (λ (con : Con). argument_admits home first choice con.1) cons
  arguments_moved choice [] = refl
  arguments_moved choice (con ∷ cons) = ap₂ (λ a b. a && b) (argument_moved choice con.1) (arguments_moved choice cons)

  looks_moved : (choice : List Bool) (dats : List Dat)
      → map (dat_admits home first choice) (map (moved_dat k) dats) ≡ map (dat_admits home first choice) dats
  looks_moved choice [] = refl
  looks_moved choice (dat ∷ dats) = ap₂ (λ a b. a ∷ b) (arguments_moved choice dat.cons) (looks_moved choice dats)

  times_moved : (n : ℕ) (dats : List Dat) (choice : List Bool)
      → looked_over_times n home first (map (moved_dat k) dats) choice ≡ looked_over_times n home first dats choice
  times_moved zero dats choice = refl
  times_moved (suc n) dats choice =
      ap (looked_over_times n home first (map (moved_dat k) dats)) (ap (narrowed choice) (looks_moved choice dats))
      ∙ times_moved n dats (looked_over home first dats choice)

  all_true : (dats : List Dat) → map (λ (dat : Dat). true) (map (moved_dat k) dats) ≡ map (λ (dat : Dat). true) dats
  all_true [] = refl
  all_true (dat ∷ dats) = ap (λ z. true ∷ z) (all_true dats)

  choice_moved : (dats : List Dat) → equality_choice home first (map (moved_dat k) dats) ≡ equality_choice home first dats
  choice_moved dats =
      ap₂ (λ n c. looked_over_times n home first (map (moved_dat k) dats) c) (length-map dats (moved_dat k))
      (all_true dats)
      ∙ times_moved (length dats) dats (map (λ (dat : Dat). true) dats)

  -- ---- what is made of them

  con_ty_moved : (choice : List Bool) (of : Ty) (arg : Option Ty)
      → con_ty home first choice (put (moved k) of) (mapped (put (moved k)) arg)
      ≡ put (moved k) (con_ty home first choice of arg)
  con_ty_moved choice of None = refl
  con_ty_moved choice of (Some t) = ap (λ z. arrow_ty z (put (moved k) of)) (settled_moved choice t)

  own_marks : (own : List (List ℕ × ℕ))
      → map (λ row. is_equality_variable row.0) (later_rows k own) ≡ map (λ row. is_equality_variable row.0) own
  own_marks [] = refl
  own_marks (row ∷ rows) = ap (λ z. is_equality_variable row.0 ∷ z) (own_marks rows)

  con_scheme_moved : (choice : List Bool) (own : List (List ℕ × ℕ)) (of : Ty) (arg : Option Ty)
      → (let σ : TypeScheme = record {
        marks = map (λ row. is_equality_variable row.0) (later_rows k own);
        body = closed_over (numbers (later_rows k own))
            (con_ty home first choice (put (moved k) of) (mapped (put (moved k)) arg));
      } in σ)
      ≡ put_scheme (moved k) (record {
        marks = map (λ row. is_equality_variable row.0) own;
        body = closed_over (numbers own) (con_ty home first choice of arg);
      })
  con_scheme_moved choice own of arg = ap₂ (λ ms x. let σ : TypeScheme = record { marks = ms; body = x } in σ)
      (own_marks own)
      (ap₂ closed_over (numbers_moved k own) (con_ty_moved choice of arg)
      ∙ closed_moved k (numbers own) (con_ty home first choice of arg))

  schemes_moved : (choice : List Bool) (own : List (List ℕ × ℕ)) (of : Ty) (cons : List Con)
      → con_schemes home first choice (later_rows k own) (put (moved k) of) (put_args k cons)
      ≡ each_entry (put_scheme (moved k)) (con_schemes home first choice own of cons)
  schemes_moved choice own of [] = refl
  schemes_moved choice own of (con ∷ cons) =
      ap₂ (with_entry con.0) (con_scheme_moved choice own of con.1) (schemes_moved choice own of cons)
      ∙ each_with (put_scheme (moved k)) con.0 _ (con_schemes home first choice own of cons)

  entries_moved : (rows : Table TypeScheme)
      → con_entries (each_entry (put_scheme (moved k)) rows) ≡ map (put_con (moved k)) (con_entries rows)
  entries_moved [] = refl
  entries_moved (row ∷ rows) = ap (λ z. put_con (moved k) (record { name = row.0; scheme = row.1 }) ∷ z)
      (entries_moved rows)

  vars_moved : (vs : List ℕ) → types_of (map Ty.Var (later k vs)) ≡ put_all (moved k) (types_of (map Ty.Var vs))
  vars_moved [] = refl
  vars_moved (v ∷ vs) = ap (Types.Cons (Ty.Var (v + k))) (vars_moved vs)

  own_ty_moved : (number : ℕ) (eq : Bool) (own : List (List ℕ × ℕ))
      → own_ty (own_name home number (length (later_rows k own)) eq) (numbers (later_rows k own))
      ≡ put (moved k) (own_ty (own_name home number (length own) eq) (numbers own))
  own_ty_moved number eq own =
      ap₂ (λ n vs. own_ty (own_name home number n eq) vs)
      (length-map own (λ (row : List ℕ × ℕ). (row.0, row.1 + k)))
      (numbers_moved k own)
      ∙ ap (λ ts. Ty.Made (symbol.Name (own_name home number (length own) eq)) ts) (vars_moved (numbers own))

  str_moved : (choice : List Bool) (own : List (List ℕ × ℕ)) (of : Ty) (cons : List Con)
      → datatype_str home first choice (later_rows k own) (put (moved k) of) (put_args k cons)
      ≡ put_type (moved k) (datatype_str home first choice own of cons)
  str_moved choice own of cons = ap₂ (λ f cs. let str : TypeStr = record { function = f; cons = cs } in str)
      (ap (λ vs. type_function vs (put (moved k) of)) (numbers_moved k own) ∙ function_moved k (numbers own) of)
      (ap con_entries (schemes_moved choice own of cons)
      ∙ entries_moved (con_schemes home first choice own of cons))

  made_types_moved : (choice : List Bool) (number : ℕ) (dats : List Dat) (env : Env)
      → made_types home first choice number (map (moved_dat k) dats) (put_env (moved k) env)
      ≡ put_env (moved k) (made_types home first choice number dats env)
  made_types_moved choice number [] env = refl
  made_types_moved choice number (dat ∷ dats) env =
      let eq : Bool = get_or choice (number - first) false in
      let of : Ty = own_ty (own_name home number (length dat.variables) eq) (numbers dat.variables) in
      let str : TypeStr = datatype_str home first choice dat.variables of dat.cons in
      ap (λ z. made_types home first choice (suc number) (map (moved_dat k) dats)
      (with_datatype dat.name z (put_env (moved k) env)))
      (ap (λ t. datatype_str home first choice (later_rows k dat.variables) t (put_args k dat.cons))
      (own_ty_moved number eq dat.variables)
      ∙ str_moved choice dat.variables of dat.cons)
      ∙ ap (made_types home first choice (suc number) (map (moved_dat k) dats))
      (put_datatype (moved k) dat.name str env)
      ∙ made_types_moved choice (suc number) dats (with_datatype dat.name str env)

pub datatypes_moved : (k : ℕ) (sc : Scope) (refused : List (List ℕ)) (binds : List DatPhrase) (st u : Progress)
    → AreMoved k st u
    → Both (MovesIn k (put_env (moved k))) (datatypes_of sc refused binds st)
    (datatypes_of (put_scope (moved k) sc) refused binds u)
datatypes_moved k sc refused binds st u h =
    subst (λ n. Both (MovesIn k (put_env (moved k))) (datatypes_of sc refused binds st)
    (new_types (put_scope (moved k) sc) binds n empty_env
    >>= λ new. infer_dats (under new (put_scope (moved k) sc)) refused binds [] u
    >>= λ r. Some (Rattle.std.specs.Prelude.Ok (
      made_types sc.home n (equality_choice sc.home n r.0) n r.0 empty_env,
      after_names (length binds) r.1,
    )))) (sym h.names)
    (plain_then (put_env (moved k)) (MovesIn k (put_env (moved k))) (new_types sc binds st.names empty_env)
    (new_types (put_scope (moved k) sc) binds st.names empty_env) _ _ (new_types_moved k sc binds st.names empty_env)
    (λ new.
    moves_then k (map (moved_dat k)) (MovesIn k (put_env (moved k))) (infer_dats (under new sc) refused binds [] st)
    (infer_dats (under (put_env (moved k) new) (put_scope (moved k) sc)) refused binds [] u) _ _
    (subst (λ z. Both (MovesIn k (map (moved_dat k))) (infer_dats (under new sc) refused binds [] st)
    (infer_dats z refused binds [] u)) (sym (under_moved k new sc))
    (dats_moved k (under new sc) refused binds [] st u h)) (λ dats v w i. (
      ap (λ c. made_types sc.home st.names c st.names (map (moved_dat k) dats) empty_env)
          (choice_moved k sc.home st.names dats)
          ∙ made_types_moved k sc.home st.names (equality_choice sc.home st.names dats) st.names dats empty_env,
      (let r : AreMoved k (after_names (length binds) v) (after_names (length binds) w) = record {
        types = i.types;
        names = ap (λ z. z + length binds) i.names;
      } in r),
    ))))

-- ---- replication, exceptions and `open`

pub value_found_moved : (k : ℕ) (sc : Scope) (long : LongName)
    → Both (Moves (put_value (moved k))) (known sc long (found_at values long.parts sc.env))
    (known (put_scope (moved k) sc) long (found_at values long.parts (put_env (moved k) sc.env)))
value_found_moved k sc long = known_moved k (put_value (moved k)) sc long (found_at values long.parts sc.env)
    (found_at values long.parts (put_env (moved k) sc.env))
    (put_found (moved k) (put_value (moved k)) values (put_has_values (moved k)) long.parts sc.env)

pub replication_moved : (k : ℕ) (sc : Scope) (name : Name) (long : LongName)
    → Both (Moves (put_env (moved k))) (infer_replication sc name long)
    (infer_replication (put_scope (moved k) sc) name long)
replication_moved k sc name long =
    plain_then (put_type (moved k)) (Moves (put_env (moved k))) (known sc long (found_at types long.parts sc.env))
    (known (put_scope (moved k) sc) long (found_at types long.parts (put_env (moved k) sc.env))) _ _
    (known_moved k (put_type (moved k)) sc long (found_at types long.parts sc.env)
    (found_at types long.parts (put_env (moved k) sc.env))
    (put_found (moved k) (put_type (moved k)) types (put_has_types (moved k)) long.parts sc.env))
    (λ str. put_datatype (moved k) name.text str empty_env)

pub exception_moved : (k : ℕ) (t : Ty) → exception_entry (put (moved k) t) ≡ put_value (moved k) (exception_entry t)
exception_moved k t = ap (λ x. let v : ValueEntry = record {
  status = (exception_entry t).status;
  scheme = record { marks = []; body = x };
} in v) (closed_moved k [] t)

exception_of_moved : (k : ℕ) (sc : Scope) (body : ExBodyPhrase)
    → Both (Moves (put_value (moved k))) (exception_of sc body) (exception_of (put_scope (moved k) sc) body)
exception_of_moved k sc ExBodyPhrase.Plain = exception_moved k exn_ty
exception_of_moved k sc (ExBodyPhrase.Of ty) =
    plain_then (put (moved k)) (Moves (put_value (moved k))) (infer_ty sc ty) (infer_ty (put_scope (moved k) sc) ty) _ _
    (ty_moved k sc ty) (λ t. exception_moved k (arrow_ty t exn_ty))
exception_of_moved k sc (ExBodyPhrase.Copy long) =
    plain_then (put_value (moved k)) (Moves (put_value (moved k))) (known sc long (found_at values long.parts sc.env))
    (known (put_scope (moved k) sc) long (found_at values long.parts (put_env (moved k) sc.env))) _ _
    (value_found_moved k sc long) (λ v.
    both_where k (Moves (put_value (moved k))) (not (is_exception v.status)) (not (is_exception v.status)) 34 sc
    (long_at long) _ _ refl refl)

infer_exceptions_moved : (k : ℕ) (sc : Scope) (binds : List ExPhrase) (made : Env)
    → Both (Moves (put_env (moved k))) (infer_exceptions sc binds made)
    (infer_exceptions (put_scope (moved k) sc) binds (put_env (moved k) made))
infer_exceptions_moved k sc [] made = refl
infer_exceptions_moved k sc (bind ∷ binds) made =
    both_where k (Moves (put_env (moved k))) (is_one_of reserved_constructors bind.name.text)
    (is_one_of reserved_constructors bind.name.text) 34 sc (name_at bind.name) _ _ refl
    (both_where k (Moves (put_env (moved k))) (is_some (entry bind.name.text (values made)))
    (is_some (entry bind.name.text (values (put_env (moved k) made)))) 40 sc (name_at bind.name) _ _
    (ap (λ z. is_some (entry bind.name.text z)) (put_has_values (moved k) made)
    ∙ each_has (put_value (moved k)) bind.name.text (values made))
    (plain_then (put_value (moved k)) (Moves (put_env (moved k))) (exception_of sc bind.body)
    (exception_of (put_scope (moved k) sc) bind.body) _ _ (exception_of_moved k sc bind.body) (λ v.
    subst (λ z. Both (Moves (put_env (moved k))) (infer_exceptions sc binds (with_value bind.name.text v made))
    (infer_exceptions (put_scope (moved k) sc) binds z)) (sym (put_with_value (moved k) bind.name.text v made))
    (infer_exceptions_moved k sc binds (with_value bind.name.text v made)))))

pub exceptions_moved : (k : ℕ) (sc : Scope) (binds : List ExPhrase)
    → Both (Moves (put_env (moved k))) (exceptions_of sc binds) (exceptions_of (put_scope (moved k) sc) binds)
exceptions_moved k sc binds = infer_exceptions_moved k sc binds empty_env

pub open_moved : (k : ℕ) (sc : Scope) (longs : List LongName) (made : Env)
    → Both (Moves (put_env (moved k))) (infer_open sc longs made)
    (infer_open (put_scope (moved k) sc) longs (put_env (moved k) made))
open_moved k sc [] made = refl
open_moved k sc (long ∷ longs) made =
    plain_then (put_env (moved k)) (Moves (put_env (moved k))) (known sc long (found_at structures long.parts sc.env))
    (known (put_scope (moved k) sc) long (found_at structures long.parts (put_env (moved k) sc.env))) _ _
    (known_moved k (put_env (moved k)) sc long (found_at structures long.parts sc.env)
    (found_at structures long.parts (put_env (moved k) sc.env))
    (put_found (moved k) (put_env (moved k)) structures (put_has_structures (moved k)) long.parts sc.env)) (λ env.
    subst (λ z. Both (Moves (put_env (moved k))) (infer_open sc longs (modified_by made env))
    (infer_open (put_scope (moved k) sc) longs z)) (sym (put_modified (moved k) made env))
    (open_moved k sc longs (modified_by made env)))
