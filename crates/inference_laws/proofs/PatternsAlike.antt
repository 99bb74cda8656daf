-- Patterns in environments that are seen alike.
use Rattle.std.proofs.Common.{◌≡◌, ℕ, ◌+◌, List, [], ◌∷◌, map, refl, ap, ap₂, ◌∙◌, subst, Option, Some, None, Bool, true, false, not}
use Rattle.std.specs.Option.{is_some}
use Rattle.sml_trees.specs.declared.name.At.{At}
use Rattle.sml_trees.specs.declared.name.LongName.{LongName}
use Rattle.semantic_objects.specs.declared.symbol.Symbol.{Symbol}
use Rattle.semantic_objects.specs.declared.symbol.Symbol.TheVariants as symbol
use Rattle.semantic_objects.specs.declared.entry.ValueEntry.{ValueEntry}
use Rattle.semantic_objects.specs.Tables.{Table, names_of, entry, with_entry}
use Rattle.semantic_objects.specs.Trees.{Tree}
use Rattle.semantic_objects.specs.Environments.{Env, values}
use Rattle.unification.specs.Types.{Ty, Types, Substitution, put, put_all}
use Rattle.unification.specs.Instances.{fill, fill_all}
use Rattle.unification.specs.Closing.{put_tree}
use Rattle.unification.specs.Touching.{Touches}
use Rattle.bare_phrases.specs.Phrases.{TyPhrase, PatPhrase, PatFields}
use Rattle.static_semantics.specs.BasicTypes.{int_ty, string_ty, char_ty, types_of, record_ty, two_parts, arrow_parts, reserved_names, is_one_of}
use Rattle.static_semantics.specs.Inferring.{Progress, Scope, Answer, ◌>>=◌, refuses_where, name_at, known, unify_at, found_at, is_named, is_con, stands_for_con, new_variable, new_instance, Bound, is_too_large, sized_pat}
use Rattle.static_semantics.specs.TypeInference.{infer_ty}
use Rattle.static_semantics.specs.PatternInference.{bind_variable, is_no_arrow, takes_none, arrow_in, with_argument, lone_con, applied_con, known_pat, name_by, name_pat, typed_variable, infer_pat, infer_pat_fields}
use Rattle.static_semantics.specs.Holding.{Given, AllRows, ValueHas}
use Rattle.static_semantics.specs.Growing.{TyIn, SchemeIn, Grows, IsReady}
use Rattle.static_semantics.proofs.Holding.{given_then, given_where, rows_with, rows_after}
use Rattle.static_semantics.proofs.Growing.{grows_same, rows_later, ready_later, grows_variable, ty_new, grows_instance, unify_grows}
use Rattle.static_semantics.proofs.TypesGrow.{ty_grows}
use Rattle.static_semantics.proofs.PatternsGrow.{PatIn, value_in, pat_grows}
use Rattle.static_semantics.proofs.Ages.{Any}
use Rattle.inference_laws.specs.Alike.{RowsAlike, Both, is_variable_tree, ValuesAlike, TypesSame, SeenAlike, SameTy, in_env, PatsAlike}
use Rattle.inference_laws.proofs.Alike.{same_then, both_same, both_plain, both_then3, both_where, Found, found_some, rows_alike_with, rows_alike_found, rows_alike_after, rows_alike_named, alike_values}
use Rattle.inference_laws.proofs.SameTypes.{given_any, ty_same}
use Rattle.inference_laws.proofs.SeenLater.{same_later, rows_same_later, values_later, seen_later, types_of_seen, instance_same, instance_state_same, value_alike, unify_same, unify_touches}

abbrev PatAt : Progress → Ty → Ty → Bound → Bound → Type 0
PatAt u a b c d = SameTy u.types.stands a b × RowsAlike (SameTy u.types.stands) c d

abbrev pub FieldsAlike : Table Ty × Bound × Progress → Table Ty × Bound × Progress → Type 0
FieldsAlike r v =
    (r.2 ≡ v.2) × (RowsAlike (SameTy r.2.types.stands) r.0 v.0 × RowsAlike (SameTy r.2.types.stands) r.1 v.1)

abbrev FieldsAt : Progress → Table Ty → Table Ty → Bound → Bound → Type 0
FieldsAt u a b c d = RowsAlike (SameTy u.types.stands) a b × RowsAlike (SameTy u.types.stands) c d

-- ---- checks

-- a check that says something where it passes
pub both_passed : {B : Type 0} (Q : B → B → Type 0) (c d : Bool) (number : ℕ) (sc : Scope) (f : Env) (at : At)
    (next more : Unit {0} → Answer B) → c ≡ d → (c ≡ false → Both Q (next tt) (more tt))
    → Both Q (refuses_where c number sc at >>= next) (refuses_where d number (in_env f sc) at >>= more)
both_passed Q true true number sc f at next more e h = refl
both_passed Q true false number sc f at next more e h = absurd (cc)
both_passed Q false true number sc f at next more e h = absurd (cc)
both_passed Q false false number sc f at next more e h = h refl

not_false : (b : Bool) → not b ≡ false → b ≡ true
not_false true e = refl
not_false false e = absurd (cc)

pat_sized : (sc : Scope) (f : Env) (at : At) (a b : Ty) (c d : Bound) (u : Progress) → PatAt u a b c d
    → Both PatsAlike (sized_pat sc at (a, c, u)) (sized_pat (in_env f sc) at (b, d, u))
pat_sized sc f at a b c d u h = both_where PatsAlike (is_too_large (put u.types.stands a))
    (is_too_large (put u.types.stands b)) 38 sc f at _ _ (ap is_too_large h.0) (refl, h)

-- ---- records

names_alike : (R : Ty → Ty → Type 0) (xs ys : Table Ty) → RowsAlike R xs ys → names_of xs ≡ names_of ys
names_alike R [] [] h = refl
names_alike R [] (y ∷ ys) h = absurd h
names_alike R (x ∷ xs) [] h = absurd h
names_alike R (x ∷ xs) (y ∷ ys) h = ap₂ (λ a ns. a ∷ ns) h.0 (names_alike R xs ys h.2)

parts_same : (s : Substitution) (xs ys : Table Ty) → RowsAlike (SameTy s) xs ys
    → put_all s (types_of (map (λ row. row.1) xs)) ≡ put_all s (types_of (map (λ row. row.1) ys))
parts_same s [] [] h = refl
parts_same s [] (y ∷ ys) h = absurd h
parts_same s (x ∷ xs) [] h = absurd h
parts_same s (x ∷ xs) (y ∷ ys) h = ap₂ Types.Cons h.1 (parts_same s xs ys h.2)

pub record_same : (s : Substitution) (xs ys : Table Ty) → RowsAlike (SameTy s) xs ys
    → SameTy s (record_ty xs) (record_ty ys)
record_same s xs ys h = ap₂ (λ ns ts. Ty.Made (symbol.Record ns) ts) (names_alike (SameTy s) xs ys h)
    (parts_same s xs ys h)

-- ---- constructors

shape_same : (s : Substitution) (x y : Tree) → put_tree s x ≡ put_tree s y → is_variable_tree x ≡ false
    → is_variable_tree y ≡ false → takes_none x ≡ takes_none y
shape_same s (Tree.Bound i) (Tree.Bound j) e h k = refl
shape_same s (Tree.Bound i) (Tree.Made d us) e h k = absurd (cc)
shape_same s (Tree.Made c ts) (Tree.Bound j) e h k = absurd (cc)
shape_same s (Tree.Made c ts) (Tree.Made d us) e h k = ap is_no_arrow (let i : c ≡ d = cc in i)
shape_same s (Tree.Free n) y e h k = absurd (cc)
shape_same s (Tree.Bound i) (Tree.Free m) e h k = absurd (cc)
shape_same s (Tree.Made c ts) (Tree.Free m) e h k = absurd (cc)

abbrev SidesAlike : Substitution → Ty × Ty → Ty × Ty → Type 0
SidesAlike s a b = SameTy s a.0 b.0 × SameTy s a.1 b.1

two_alike : (s : Substitution) (ts us : Types) → put_all s ts ≡ put_all s us
    → Found (SidesAlike s) (two_parts ts) (two_parts us)
two_alike s Types.Nil Types.Nil e = tt
two_alike s Types.Nil (Types.Cons u us) e = absurd (cc)
two_alike s (Types.Cons t ts) Types.Nil e = absurd (cc)
two_alike s (Types.Cons t Types.Nil) (Types.Cons u Types.Nil) e = tt
two_alike s (Types.Cons t Types.Nil) (Types.Cons u (Types.Cons v us)) e = absurd (cc)
two_alike s (Types.Cons t (Types.Cons a ts)) (Types.Cons u Types.Nil) e = absurd (cc)
two_alike s (Types.Cons t (Types.Cons a Types.Nil)) (Types.Cons u (Types.Cons b Types.Nil)) e = (
  let i : put s t ≡ put s u = cc in i,
  let i : put s a ≡ put s b = cc in i,
)
two_alike s (Types.Cons t (Types.Cons a Types.Nil)) (Types.Cons u (Types.Cons b (Types.Cons v us))) e = absurd (cc)
two_alike s (Types.Cons t (Types.Cons a (Types.Cons x ts))) (Types.Cons u (Types.Cons b Types.Nil)) e = absurd (cc)
two_alike s (Types.Cons t (Types.Cons a (Types.Cons x ts))) (Types.Cons u (Types.Cons b (Types.Cons y us))) e = tt

sides_alike : (s : Substitution) (c d : Symbol) (ts us : Types) → put s (Ty.Made c ts) ≡ put s (Ty.Made d us)
    → Found (SidesAlike s) (arrow_parts (Ty.Made c ts)) (arrow_parts (Ty.Made d us))
sides_alike s symbol.Arrow symbol.Arrow ts us e = two_alike s ts us (let i : put_all s ts ≡ put_all s us = cc in i)
sides_alike s symbol.Arrow (symbol.Record labels) ts us e = absurd (cc)
sides_alike s symbol.Arrow (symbol.Name name) ts us e = absurd (cc)
sides_alike s (symbol.Record labels) symbol.Arrow ts us e = absurd (cc)
sides_alike s (symbol.Record labels) (symbol.Record others) ts us e = tt
sides_alike s (symbol.Record labels) (symbol.Name name) ts us e = absurd (cc)
sides_alike s (symbol.Name name) symbol.Arrow ts us e = absurd (cc)
sides_alike s (symbol.Name name) (symbol.Record labels) ts us e = absurd (cc)
sides_alike s (symbol.Name name) (symbol.Name other) ts us e = tt

arrows_alike : (s b : Substitution) (x y : Tree) → put_tree s x ≡ put_tree s y → is_variable_tree x ≡ false
    → is_variable_tree y ≡ false → SameTy s (fill b Ty.Var x) (fill b Ty.Var y)
    → Found (SidesAlike s) (arrow_in x (fill b Ty.Var x)) (arrow_in y (fill b Ty.Var y))
arrows_alike s b (Tree.Bound i) (Tree.Bound j) e h k l = tt
arrows_alike s b (Tree.Bound i) (Tree.Made d us) e h k l = absurd (cc)
arrows_alike s b (Tree.Made c ts) (Tree.Bound j) e h k l = absurd (cc)
arrows_alike s b (Tree.Made c ts) (Tree.Made d us) e h k l =
    sides_alike s c d (fill_all b Ty.Var ts) (fill_all b Ty.Var us) l
arrows_alike s b (Tree.Free n) y e h k l = absurd (cc)
arrows_alike s b (Tree.Bound i) (Tree.Free m) e h k l = absurd (cc)
arrows_alike s b (Tree.Made c ts) (Tree.Free m) e h k l = absurd (cc)

argument_alike : (s : Substitution) (sc : Scope) (f : Env) (at : At) (o p : Option (Ty × Ty)) → Found (SidesAlike s) o p
    → Both (SidesAlike s) (with_argument sc at o) (with_argument (in_env f sc) at p)
argument_alike s sc f at None None h = refl
argument_alike s sc f at None (Some y) h = absurd h
argument_alike s sc f at (Some x) None h = absurd h
argument_alike s sc f at (Some x) (Some y) h = h

lone_alike : (sc : Scope) (f : Env) (at : At) (c d : Bound) (v w : ValueEntry) (st : Progress) → IsReady Any sc st
    → RowsAlike (SameTy st.types.stands) c d → ValuesAlike st.types.stands v w
    → Both PatsAlike (lone_con sc at c v st) (lone_con (in_env f sc) at d w st)
lone_alike sc f at c d v w st h k l =
    let g : Grows Any st (new_instance v.scheme st).1 = grows_instance Any v.scheme st h.fit h.new in
    both_passed PatsAlike (not (is_con v.status)) (not (is_con w.status)) 34 sc f at _ _
    (ap (λ z. not (is_con z)) l.status)
    (λ e. let shaped = l.shaped (not_false (is_con v.status) e) in
    both_where PatsAlike (not (takes_none v.scheme.body)) (not (takes_none w.scheme.body)) 34 sc f at _ _
    (ap not (shape_same st.types.stands v.scheme.body w.scheme.body l.body shaped.0 shaped.1)) (
      instance_state_same v.scheme w.scheme st l.marks,
      (
        same_later st (new_instance v.scheme st).1 (new_instance v.scheme st).0 (new_instance w.scheme st).0 g.touches
            (instance_same v.scheme w.scheme st l.body),
        rows_same_later st (new_instance v.scheme st).1 c d g.touches k,
      ),
    ))

-- a constructor with its argument, whose patterns have been inferred
applied_alike : (depth : ℕ) (sc : Scope) (f : Env) (at : At) (v w : ValueEntry) (a b : Ty) (c d : Bound) (st : Progress)
    → IsReady Any sc st → PatAt st a b c d → ValuesAlike st.types.stands v w
    → Both PatsAlike (applied_con depth sc at v (a, c, st)) (applied_con depth (in_env f sc) at w (b, d, st))
applied_alike depth sc f at v w a b c d st h k l =
    let u : Progress = (new_instance v.scheme st).1 in
    let g : Grows Any st u = grows_instance Any v.scheme st h.fit h.new in
    let same : SameTy st.types.stands (new_instance v.scheme st).0 (new_instance w.scheme st).0 =
    instance_same v.scheme w.scheme st l.body in
    both_passed PatsAlike (not (is_con v.status)) (not (is_con w.status)) 34 sc f at _ _
    (ap (λ z. not (is_con z)) l.status)
    (λ e. let shaped = l.shaped (not_false (is_con v.status) e) in
    both_plain (λ parts. Unit {0}) (SidesAlike st.types.stands) PatsAlike
    (with_argument sc at (arrow_in v.scheme.body (new_instance v.scheme st).0))
    (with_argument (in_env f sc) at (arrow_in w.scheme.body (new_instance w.scheme st).0)) _ _
    (given_any (with_argument sc at (arrow_in v.scheme.body (new_instance v.scheme st).0)))
    (argument_alike st.types.stands sc f at (arrow_in v.scheme.body (new_instance v.scheme st).0)
    (arrow_in w.scheme.body (new_instance w.scheme st).0)
    (arrows_alike st.types.stands (λ i. Ty.Var (st.types.next + i)) v.scheme.body w.scheme.body l.body shaped.0 shaped.1
    same)) (λ x y _ i.
    same_then (λ r. Touches Any u.types r.types) PatsAlike (unify_at depth sc at x.0 a u)
    (unify_at depth (in_env f sc) at y.0 b (new_instance w.scheme st).1) _ _
    (unify_same depth sc f at x.0 a y.0 b u (same_later st u x.0 y.0 g.touches i.0) (same_later st u a b g.touches k.0)
    ∙ ap (unify_at depth (in_env f sc) at y.0 b) (instance_state_same v.scheme w.scheme st l.marks))
    (unify_touches depth sc at x.0 a u g.fit) (λ r j. (
      refl,
      (
        same_later u r x.1 y.1 j (same_later st u x.1 y.1 g.touches i.1),
        rows_same_later u r c d j (rows_same_later st u c d g.touches k.1),
      ),
    ))))

known_pat_alike : (sc : Scope) (f : Env) (long : LongName) (at : At) (c d : Bound) (st : Progress) → IsReady Any sc st
    → SeenAlike st.types.stands sc.env f → RowsAlike (SameTy st.types.stands) c d
    → Both PatsAlike (known_pat sc long at c st) (known_pat (in_env f sc) long at d st)
known_pat_alike sc f long at c d st h k l =
    both_plain (λ v. Unit {0}) (ValuesAlike st.types.stands) PatsAlike
    (known sc long (found_at values long.parts sc.env)) (known (in_env f sc) long (found_at values long.parts f)) _ _
    (given_any (known sc long (found_at values long.parts sc.env))) (value_alike st.types.stands sc f long k)
    (λ v w _ i. lone_alike sc f at c d v w st h l i)

-- a variable that is bound
variable_alike : (sc : Scope) (f : Env) (at : At) (name : List ℕ) (c d : Bound) (st : Progress) → IsReady Any sc st
    → RowsAlike (SameTy st.types.stands) c d
    → Both PatsAlike (bind_variable sc at name c st) (bind_variable (in_env f sc) at name d st)
variable_alike sc f at name c d st h k =
    both_where PatsAlike (is_one_of reserved_names name) (is_one_of reserved_names name) 34 sc f at _ _ refl
    (both_where PatsAlike (is_named name c) (is_named name d) 40 sc f at _ _
    (rows_alike_named (SameTy st.types.stands) name c d k) (
      refl,
      (
        refl,
        rows_alike_after (SameTy st.types.stands) c d ((name, (new_variable st).0) ∷ [])
            ((name, (new_variable st).0) ∷ []) k (refl, refl, tt),
      ),
    ))

pub con_same : (s : Substitution) (o p : Option ValueEntry) → Found (ValuesAlike s) o p
    → stands_for_con o ≡ stands_for_con p
con_same s None None h = refl
con_same s None (Some w) h = absurd h
con_same s (Some v) None h = absurd h
con_same s (Some v) (Some w) h = ap is_con h.status

pub name_con_same : (s : Substitution) (e f : Env) (name : List ℕ) → SeenAlike s e f
    → stands_for_con (entry name (values e)) ≡ stands_for_con (entry name (values f))
name_con_same s e f name h = con_same s (entry name (values e)) (entry name (values f))
    (rows_alike_found (ValuesAlike s) name (values e) (values f) (alike_values (ValuesAlike s) TypesSame e f h))

name_by_alike : (sc : Scope) (f : Env) (at : At) (con : Bool) (name : List ℕ) (long : LongName) (c d : Bound)
    (st : Progress) → IsReady Any sc st → SeenAlike st.types.stands sc.env f → RowsAlike (SameTy st.types.stands) c d
    → Both PatsAlike (name_by sc at con name long c st) (name_by (in_env f sc) at con name long d st)
name_by_alike sc f at true name long c d st h k l = known_pat_alike sc f long at c d st h k l
name_by_alike sc f at false name long c d st h k l = variable_alike sc f at name c d st h l

name_alike : (sc : Scope) (f : Env) (long : LongName) (at : At) (parts : List (List ℕ)) (c d : Bound) (st : Progress)
    → IsReady Any sc st → SeenAlike st.types.stands sc.env f → RowsAlike (SameTy st.types.stands) c d
    → Both PatsAlike (name_pat sc long at parts c st) (name_pat (in_env f sc) long at parts d st)
name_alike sc f long at [] c d st h k l = known_pat_alike sc f long at c d st h k l
name_alike sc f long at (name ∷ []) c d st h k l =
    subst (λ z. Both PatsAlike (name_pat sc long at (name ∷ []) c st) (name_by (in_env f sc) at z name long d st))
    (name_con_same st.types.stands sc.env f name k)
    (name_by_alike sc f at (stands_for_con (entry name (values sc.env))) name long c d st h k l)
name_alike sc f long at (name ∷ next ∷ rest) c d st h k l = known_pat_alike sc f long at c d st h k l

-- the type that is written at a variable
typed_same : (depth : ℕ) (sc : Scope) (f : Env) (at : At) (a b : Ty) (ty : Option TyPhrase) (st : Progress)
    → SeenAlike st.types.stands sc.env f → SameTy st.types.stands a b
    → typed_variable depth sc at a ty st ≡ typed_variable depth (in_env f sc) at b ty st
typed_same depth sc f at a b None st k l = refl
typed_same depth sc f at a b (Some ty) st k l =
    both_same (infer_ty sc ty) (infer_ty (in_env f sc) ty) _ _
    (ty_same sc f ty (types_of_seen st.types.stands sc.env f k)) (λ t. unify_same depth sc f at a t b t st l refl)

typed_grows : (depth : ℕ) (sc : Scope) (at : At) (x : Ty) (ty : Option TyPhrase) (st : Progress) → IsReady Any sc st
    → TyIn Any st.types x → Given (Grows Any st) (typed_variable depth sc at x ty st)
typed_grows depth sc at x None st h k = grows_same Any st h.fit
typed_grows depth sc at x (Some ty) st h k =
    given_then (TyIn Any st.types) (Grows Any st) (infer_ty sc ty) _ (ty_grows Any st.types sc ty h.scope)
    (λ t l. unify_grows Any depth sc at x t st h.fit k l)

-- what binding a variable gives
bind_grows : (sc : Scope) (at : At) (name : List ℕ) (bound : Bound) (st : Progress) → IsReady Any sc st
    → AllRows (TyIn Any st.types) bound → Given (PatIn Any st) (bind_variable sc at name bound st)
bind_grows sc at name bound st h k =
    let g : Grows Any st (new_variable st).1 = grows_variable Any false false st h.fit h.new in
    let t : TyIn Any (new_variable st).1.types (new_variable st).0 = ty_new Any false false st h.fit h.new in
    given_where (PatIn Any st) (is_one_of reserved_names name) 34 sc at _
    (given_where (PatIn Any st) (is_named name bound) 40 sc at _ (
      g,
      t,
      rows_after (TyIn Any (new_variable st).1.types) bound ((name, (new_variable st).0) ∷ [])
          (rows_later Any st (new_variable st).1 bound g k) (t, tt),
    ))

mutual
  pub pat_alike : (depth : ℕ) (sc : Scope) (f : Env) (pat : PatPhrase) (c d : Bound) (st : Progress) → IsReady Any sc st
      → AllRows (TyIn Any st.types) c → SeenAlike st.types.stands sc.env f → RowsAlike (SameTy st.types.stands) c d
      → Both PatsAlike (infer_pat depth sc pat c st) (infer_pat depth (in_env f sc) pat d st)
  pat_alike depth sc f (PatPhrase.Wild at) c d st h i k l =
      pat_sized sc f at (new_variable st).0 (new_variable st).0 c d (new_variable st).1 (refl, l)
  pat_alike depth sc f (PatPhrase.Int value at) c d st h i k l = pat_sized sc f at int_ty int_ty c d st (refl, l)
  pat_alike depth sc f (PatPhrase.Str value at) c d st h i k l = pat_sized sc f at string_ty string_ty c d st (refl, l)
  pat_alike depth sc f (PatPhrase.Char value at) c d st h i k l = pat_sized sc f at char_ty char_ty c d st (refl, l)
  pat_alike depth sc f (PatPhrase.Long long at) c d st h i k l =
      both_then3 (λ r. Unit {0}) PatAt PatsAlike (name_pat sc long at long.parts c st)
      (name_pat (in_env f sc) long at long.parts d st) _ _ (given_any (name_pat sc long at long.parts c st))
      (name_alike sc f long at long.parts c d st h k l) (λ a b x y u _ m. pat_sized sc f at a b x y u m)
  pat_alike depth sc f (PatPhrase.Record fields at) c d st h i k l =
      both_then3 (λ r. Unit {0}) FieldsAt PatsAlike (infer_pat_fields depth sc fields [] c st)
      (infer_pat_fields depth (in_env f sc) fields [] d st) _ _ (given_any (infer_pat_fields depth sc fields [] c st))
      (pat_fields_alike depth sc f fields [] [] c d st h tt i k tt l) (λ a b x y u _ m.
      pat_sized sc f at (record_ty a) (record_ty b) x y u (record_same u.types.stands a b m.0, m.1))
  pat_alike depth sc f (PatPhrase.Con long arg at) c d st h i k l =
      both_plain (ValueHas (SchemeIn Any st.types)) (ValuesAlike st.types.stands) PatsAlike
      (known sc long (found_at values long.parts sc.env)) (known (in_env f sc) long (found_at values long.parts f)) _ _
      (value_in Any st.types sc long h.scope) (value_alike st.types.stands sc f long k) (λ v w j m.
      both_then3 (PatIn Any st) PatAt PatsAlike (infer_pat depth sc arg c st) (infer_pat depth (in_env f sc) arg d st)
      _ _
      (pat_grows Any depth sc arg c st h i) (pat_alike depth sc f arg c d st h i k l) (λ a b x y u g n.
      both_then3 (λ r. Unit {0}) PatAt PatsAlike (applied_con depth sc at v (a, x, u))
      (applied_con depth (in_env f sc) at w (b, y, u)) _ _ (given_any (applied_con depth sc at v (a, x, u)))
      (applied_alike depth sc f at v w a b x y u (ready_later Any sc st u h g.0) n
      (values_later st u g.0.touches v w m)) (λ p q z t r _ o. pat_sized sc f at p q z t r o)))
  pat_alike depth sc f (PatPhrase.Typed pat ty at) c d st h i k l =
      both_then3 (PatIn Any st) PatAt PatsAlike (infer_pat depth sc pat c st) (infer_pat depth (in_env f sc) pat d st)
      _ _
      (pat_grows Any depth sc pat c st h i) (pat_alike depth sc f pat c d st h i k l) (λ a b x y u g n.
      same_then (λ t. Unit {0}) PatsAlike (infer_ty sc ty) (infer_ty (in_env f sc) ty) _ _
      (ty_same sc f ty (types_of_seen st.types.stands sc.env f k)) (given_any (infer_ty sc ty)) (λ t _.
      same_then (λ r. Touches Any u.types r.types) PatsAlike (unify_at depth sc at a t u)
      (unify_at depth (in_env f sc) at b t u) _ _ (unify_same depth sc f at a t b t u n.0 refl)
      (unify_touches depth sc at a t u g.0.fit) (λ r o.
      pat_sized sc f at a b x y r (same_later u r a b o n.0, rows_same_later u r x y o n.1))))
  pat_alike depth sc f (PatPhrase.As name ty pat at) c d st h i k l =
      both_where PatsAlike (stands_for_con (entry name.text (values sc.env)))
      (stands_for_con (entry name.text (values f)))
      34 sc f at _ _ (name_con_same st.types.stands sc.env f name.text k)
      (both_then3 (PatIn Any st) PatAt PatsAlike (bind_variable sc (name_at name) name.text c st)
      (bind_variable (in_env f sc) (name_at name) name.text d st) _ _ (bind_grows sc (name_at name) name.text c st h i)
      (variable_alike sc f (name_at name) name.text c d st h l) (λ a b x y u g n.
      let ready : IsReady Any sc u = ready_later Any sc st u h g.0 in
      let seen : SeenAlike u.types.stands sc.env f = seen_later st u sc.env f g.0.touches k in
      same_then (Grows Any u) PatsAlike (typed_variable depth sc at a ty u)
      (typed_variable depth (in_env f sc) at b ty u)
      _ _ (typed_same depth sc f at a b ty u seen n.0) (typed_grows depth sc at a ty u ready g.1) (λ v m.
      both_then3 (PatIn Any v) PatAt PatsAlike (infer_pat depth sc pat x v) (infer_pat depth (in_env f sc) pat y v) _ _
      (pat_grows Any depth sc pat x v (ready_later Any sc u v ready m) (rows_later Any u v x m g.2))
      (pat_alike depth sc f pat x y v (ready_later Any sc u v ready m) (rows_later Any u v x m g.2)
      (seen_later u v sc.env f m.touches seen) (rows_same_later u v x y m.touches n.1)) (λ p q z t w j o.
      let e : SameTy w.types.stands a b = same_later v w a b j.0.touches (same_later u v a b m.touches n.0) in
      same_then (λ r. Touches Any w.types r.types) PatsAlike (unify_at depth sc at a p w)
      (unify_at depth (in_env f sc) at b q w) _ _ (unify_same depth sc f at a p b q w e o.0)
      (unify_touches depth sc at a p w j.0.fit) (λ r s.
      pat_sized sc f at a b z t r (same_later w r a b s e, rows_same_later w r z t s o.1))))))

  pub pat_fields_alike : (depth : ℕ) (sc : Scope) (f : Env) (fields : PatFields) (made other : Table Ty) (c d : Bound)
      (st : Progress) → IsReady Any sc st → AllRows (TyIn Any st.types) made → AllRows (TyIn Any st.types) c
      → SeenAlike st.types.stands sc.env f → RowsAlike (SameTy st.types.stands) made other
      → RowsAlike (SameTy st.types.stands) c d
      → Both FieldsAlike (infer_pat_fields depth sc fields made c st)
      (infer_pat_fields depth (in_env f sc) fields other d st)
  pat_fields_alike depth sc f PatFields.EndOfFields made other c d st h j i k m l = (refl, (m, l))
  pat_fields_alike depth sc f (PatFields.Field label pat rest) made other c d st h j i k m l =
      both_where FieldsAlike (is_some (entry label.text made)) (is_some (entry label.text other)) 40 sc f
      (name_at label)
      _ _ (found_some (SameTy st.types.stands) (entry label.text made) (entry label.text other)
      (rows_alike_found (SameTy st.types.stands) label.text made other m))
      (both_then3 (PatIn Any st) PatAt FieldsAlike (infer_pat depth sc pat c st)
      (infer_pat depth (in_env f sc) pat d st)
      _ _ (pat_grows Any depth sc pat c st h i) (pat_alike depth sc f pat c d st h i k l) (λ a b x y u g n.
      pat_fields_alike depth sc f rest (with_entry label.text a made) (with_entry label.text b other) x y u
      (ready_later Any sc st u h g.0)
      (rows_with (TyIn Any u.types) label.text a made g.1 (rows_later Any st u made g.0 j)) g.2
      (seen_later st u sc.env f g.0.touches k)
      (rows_alike_with (SameTy u.types.stands) label.text a b made other n.0
      (rows_same_later st u made other g.0.touches m)) n.1))
