-- Replication, exceptions and `open` have derivations.
use Rattle.std.proofs.Common.{◌≡◌, ℕ, List, [], ◌∷◌, map, refl, sym, ap, ◌∙◌, subst, Some, None, false, not}
use Rattle.sml_trees.specs.declared.name.At.{At}
use Rattle.sml_trees.specs.declared.name.Name.{Name}
use Rattle.sml_trees.specs.declared.name.LongName.{LongName}
use Rattle.semantic_objects.specs.declared.entry.ConEntry.{ConEntry}
use Rattle.semantic_objects.specs.declared.entry.TypeStr.{TypeStr}
use Rattle.semantic_objects.specs.declared.entry.ValueEntry.{ValueEntry}
use Rattle.semantic_objects.specs.declared.entry.VidStatus.TheVariants as status
use Rattle.semantic_objects.specs.Tables.{entry}
use Rattle.semantic_objects.specs.Environments.{Env, structures, types, values, empty_env, modified_by, with_type, with_value}
use Rattle.unification.specs.Types.{Ty, Substitution, State, put}
use Rattle.bare_phrases.specs.Phrases.{TyPhrase, ExBodyPhrase, ExPhrase, DecPhrase}
use Rattle.static_semantics.specs.BasicTypes.{exn_ty, arrow_ty, is_one_of, reserved_constructors}
use Rattle.static_semantics.specs.Inferring.{Progress, Scope, gives, name_at, long_at, known, found_at, has_too_large, sized_dec}
use Rattle.static_semantics.specs.TypeInference.{infer_ty}
use Rattle.static_semantics.specs.DatatypeInference.{with_cons, with_datatype, infer_replication, is_exception, exception_entry, exception_of, infer_exceptions}
use Rattle.static_semantics.specs.CoreInference.{infer_open}
use Rattle.static_semantics.specs.EnvironmentsPut.{put_con, put_type, put_value, put_env, put_scope}
use Rattle.static_semantics.specs.Elaborates.{ElaboratesExceptions, ElaboratesOpen, ElaboratesDec}
use Rattle.static_semantics.specs.Holding.{Given}
use Rattle.static_semantics.proofs.Holding.{given_then, given_where, given_known}
use Rattle.static_semantics.proofs.TypesGrow.{given_more}
use Rattle.inference_laws.specs.Alike.{FirmEnv}
use Rattle.inference_laws.proofs.SeenLater.{put_closed}
use Rattle.phrase_laws.specs.Derived.{DecDerived}
use Rattle.phrase_laws.proofs.Finding.{no_entry_put, structures_put, values_put, found_put, type_found_put, with_value_put, with_type_put, modified_put}
use Rattle.phrase_laws.proofs.Types.{given_check, given_new, is_not, TyDerived, ty_derives}
use Rattle.phrase_laws.proofs.Steps.{given_each, found_each}
use Rattle.phrase_laws.proofs.Patterns.{ValueFound, value_known}

pub dec_sized : (sc : Scope) (dec : DecPhrase) (st : Progress) (at : At) (r : Env × Progress) → DecDerived sc dec st r
    → Given (DecDerived sc dec st) (sized_dec sc at r)
dec_sized sc dec st at r h =
    given_where (DecDerived sc dec st) (has_too_large r.1.types.stands r.0) 38 sc at (λ u. gives r) h

-- a declaration that needs no state
pub stateless_derived : (sc : Scope) (dec : DecPhrase) (st : Progress) (made : Env)
    → ((p : State) → ElaboratesDec p.marks (put_scope p.stands sc) st.names dec (put_env p.stands made) st.names)
    → DecDerived sc dec st (made, st)
stateless_derived sc dec st made h = record { solved = λ p q. q; leaves = λ p q. q; derives = λ p q. h p }

-- ---- replication

with_cons_put : (s : Substitution) (cons : List ConEntry) (env : Env)
    → with_cons (map (put_con s) cons) (put_env s env) ≡ put_env s (with_cons cons env)
with_cons_put s [] env = refl
with_cons_put s (con ∷ cons) env =
    let value : ValueEntry = record { status = status.Constructor; scheme = con.scheme } in
    ap (with_cons (map (put_con s) cons)) (with_value_put s con.name value env)
    ∙ with_cons_put s cons (with_value con.name value env)

pub with_datatype_put : (s : Substitution) (name : List ℕ) (str : TypeStr) (env : Env)
    → with_datatype name (put_type s str) (put_env s env) ≡ put_env s (with_datatype name str env)
with_datatype_put s name str env = ap (with_cons (map (put_con s) str.cons)) (with_type_put s name str env)
    ∙ with_cons_put s str.cons (with_type name str env)

pub replication_derives : (sc : Scope) (name : Name) (long : LongName) (at : At) (st : Progress)
    → Given (λ made. DecDerived sc (DecPhrase.Replication name long at) st (made, st)) (infer_replication sc name long)
replication_derives sc name long at st =
    let Found : TypeStr → Type 0 =
    λ str. (s : Substitution) → found_at types long.parts (put_scope s sc).env ≡ Some (put_type s str) in
    given_then Found (λ made. DecDerived sc (DecPhrase.Replication name long at) st (made, st))
    (known sc long (found_at types long.parts sc.env)) _
    (given_known Found sc long (found_at types long.parts sc.env)
    (found_each put_type (found_at types long.parts sc.env) (λ s. found_at types long.parts (put_scope s sc).env)
    (λ s. type_found_put s long.parts sc.env)))
    (λ str f. stateless_derived sc (DecPhrase.Replication name long at) st (with_datatype name.text str empty_env)
    (λ p. subst (λ z. ElaboratesDec p.marks (put_scope p.stands sc) st.names (DecPhrase.Replication name long at) z
    st.names) (with_datatype_put p.stands name.text str empty_env)
    (ElaboratesDec.rule_18 p.marks (put_scope p.stands sc) st.names name long at (put_type p.stands str)
    (f p.stands))))

-- ---- exceptions

entry_put_value : (s : Substitution) (ty : Ty) → exception_entry (put s ty) ≡ put_value s (exception_entry ty)
entry_put_value s ty = ap (λ x. (let value : ValueEntry = record {
  status = status.Exception;
  scheme = record { marks = []; body = x };
} in value)) (sym (put_closed s ty))

-- whatever follows, an exception with this value before it
abbrev Adds : Scope → ExPhrase → List ExPhrase → Env → ValueEntry → Type 0
Adds sc bind binds before value = (s : Substitution) (after : Env)
    → ElaboratesExceptions (put_scope s sc) binds (put_env s (with_value bind.name.text value before)) after
    → ElaboratesExceptions (put_scope s sc) (bind ∷ binds) (put_env s before) after

-- that the name may be bound
record MayBind (bind : ExPhrase) (before : Env) : Type 0 where
  allowed : is_one_of reserved_constructors bind.name.text ≡ false
  new : entry bind.name.text (values before) ≡ None

new_put : (s : Substitution) (name : List ℕ) (before : Env) → entry name (values before) ≡ None
    → entry name (values (put_env s before)) ≡ None
new_put s name before h = ap (entry name) (values_put s before) ∙ no_entry_put (put_value s) name (values before) h

constant_adds : (sc : Scope) (bind : ExPhrase) (binds : List ExPhrase) (before : Env) → MayBind bind before
    → bind.body ≡ ExBodyPhrase.Plain → Adds sc bind binds before (exception_entry exn_ty)
constant_adds sc bind binds before h e s after k =
    ElaboratesExceptions.rule_30_constant (put_scope s sc) bind binds (put_env s before) after e h.allowed
    (new_put s bind.name.text before h.new)
    (subst (λ z. ElaboratesExceptions (put_scope s sc) binds z after)
    (sym (ap (λ v. with_value bind.name.text v (put_env s before)) (entry_put_value s exn_ty)
    ∙ with_value_put s bind.name.text (exception_entry exn_ty) before)) k)

of_adds : (sc : Scope) (bind : ExPhrase) (binds : List ExPhrase) (before : Env) (ty : TyPhrase) (t : Ty)
    → MayBind bind before → bind.body ≡ ExBodyPhrase.Of ty → ((s : Substitution) → TyDerived s sc ty t)
    → Adds sc bind binds before (exception_entry (arrow_ty t exn_ty))
of_adds sc bind binds before ty t h e d s after k =
    ElaboratesExceptions.rule_30_of (put_scope s sc) bind binds (put_env s before) after ty (put s t) e h.allowed
    (new_put s bind.name.text before h.new) (d s)
    (subst (λ z. ElaboratesExceptions (put_scope s sc) binds z after)
    (sym (ap (λ v. with_value bind.name.text v (put_env s before)) (entry_put_value s (arrow_ty t exn_ty))
    ∙ with_value_put s bind.name.text (exception_entry (arrow_ty t exn_ty)) before)) k)

copy_adds : (sc : Scope) (bind : ExPhrase) (binds : List ExPhrase) (before : Env) (long : LongName)
    (value : ValueEntry) → MayBind bind before → bind.body ≡ ExBodyPhrase.Copy long → ValueFound sc long value
    → not (is_exception value.status) ≡ false → Adds sc bind binds before value
copy_adds sc bind binds before long value h e f c s after k =
    ElaboratesExceptions.rule_31 (put_scope s sc) bind binds (put_env s before) after long (put_value s value) e
    h.allowed (new_put s bind.name.text before h.new) (f.found s) (is_not (is_exception value.status) c)
    (subst (λ z. ElaboratesExceptions (put_scope s sc) binds z after)
    (sym (with_value_put s bind.name.text value before)) k)

exception_adds : (sc : Scope) (bind : ExPhrase) (binds : List ExPhrase) (before : Env) → FirmEnv sc.env
    → MayBind bind before → (body : ExBodyPhrase) → bind.body ≡ body
    → Given (Adds sc bind binds before) (exception_of sc body)
exception_adds sc bind binds before firm h ExBodyPhrase.Plain e = constant_adds sc bind binds before h e
exception_adds sc bind binds before firm h (ExBodyPhrase.Of ty) e =
    given_then (λ t. (s : Substitution) → TyDerived s sc ty t) (Adds sc bind binds before) (infer_ty sc ty) _
    (given_each (λ s. TyDerived s sc ty) (infer_ty sc ty) (λ s. ty_derives s sc ty))
    (λ t d. of_adds sc bind binds before ty t h e d)
exception_adds sc bind binds before firm h (ExBodyPhrase.Copy long) e =
    given_then (ValueFound sc long) (Adds sc bind binds before) (known sc long (found_at values long.parts sc.env)) _
    (value_known sc long firm) (λ value f.
    given_check (Adds sc bind binds before) (not (is_exception value.status)) 34 sc (long_at long) _
    (λ c. copy_adds sc bind binds before long value h e f c))

abbrev pub ExceptionsDerived : Scope → List ExPhrase → Env → Env → Type 0
ExceptionsDerived sc binds before after =
    (s : Substitution) → ElaboratesExceptions (put_scope s sc) binds (put_env s before) (put_env s after)

pub exceptions_derive : (sc : Scope) (binds : List ExPhrase) (before : Env) → FirmEnv sc.env
    → Given (ExceptionsDerived sc binds before) (infer_exceptions sc binds before)
exceptions_derive sc [] before firm = λ s. ElaboratesExceptions.no_exceptions (put_scope s sc) (put_env s before)
exceptions_derive sc (bind ∷ binds) before firm =
    let Q : Env → Type 0 = ExceptionsDerived sc (bind ∷ binds) before in
    given_check Q (is_one_of reserved_constructors bind.name.text) 34 sc (name_at bind.name) _ (λ a.
    given_new Q bind.name.text (values before) 40 sc (name_at bind.name) _ (λ n.
    given_then (Adds sc bind binds before) Q (exception_of sc bind.body) _
    (exception_adds sc bind binds before firm (record { allowed = a; new = n }) bind.body refl) (λ value add.
    given_more (ExceptionsDerived sc binds (with_value bind.name.text value before)) Q
    (infer_exceptions sc binds (with_value bind.name.text value before))
    (λ after k s. add s (put_env s after) (k s))
    (exceptions_derive sc binds (with_value bind.name.text value before) firm))))

-- ---- `open`

abbrev pub OpenDerived : Scope → List LongName → Env → Env → Type 0
OpenDerived sc longs before after =
    (s : Substitution) → ElaboratesOpen (put_scope s sc) longs (put_env s before) (put_env s after)

pub open_derives : (sc : Scope) (longs : List LongName) (before : Env)
    → Given (OpenDerived sc longs before) (infer_open sc longs before)
open_derives sc [] before = λ s. ElaboratesOpen.no_structures (put_scope s sc) (put_env s before)
open_derives sc (long ∷ longs) before =
    let Q : Env → Type 0 = OpenDerived sc (long ∷ longs) before in
    let Found : Env → Type 0 =
    λ env. (s : Substitution) → found_at structures long.parts (put_scope s sc).env ≡ Some (put_env s env) in
    given_then Found Q (known sc long (found_at structures long.parts sc.env)) _
    (given_known Found sc long (found_at structures long.parts sc.env)
    (found_each put_env (found_at structures long.parts sc.env)
    (λ s. found_at structures long.parts (put_scope s sc).env)
    (λ s. found_put structures s (put_env s) (structures_put s) long.parts sc.env))) (λ env f.
    given_more (OpenDerived sc longs (modified_by before env)) Q (infer_open sc longs (modified_by before env))
    (λ after k s. ElaboratesOpen.rule_22_next (put_scope s sc) long longs (put_env s before) (put_env s after)
    (put_env s env) (f s)
    (subst (λ z. ElaboratesOpen (put_scope s sc) longs z (put_env s after)) (sym (modified_put s before env)) (k s)))
    (open_derives sc longs (modified_by before env)))
