-- Types that phrases stand for, in which nothing was put in.
use Rattle.std.proofs.Common.{◌≡◌, ℕ, zero, suc, List, [], ◌∷◌, length, map, get_or, refl, sym, ap, ap₂, ◌∙◌, subst, Option, Some, None, Bool, true, false, cond, not, eqb, eq-eqb}
use Rattle.std.specs.Prelude.{Result, Ok, Err, OnOk}
use Rattle.std.specs.Option.{option_map, is_some}
use Rattle.std.proofs.lemmas.Bool.{eqb-true}
use Rattle.sml_trees.specs.declared.name.At.{At}
use Rattle.sml_trees.specs.declared.name.Name.{Name}
use Rattle.sml_trees.specs.declared.name.LongName.{LongName}
use Rattle.sml_trees.specs.declared.ty.Ty.{Ty as Phrase}
use Rattle.sml_trees.specs.declared.ty.TyField.{TyField, out-TyField}
use Rattle.semantic_objects.specs.declared.name.TyId.{TyId}
use Rattle.semantic_objects.specs.declared.name.TyId.TheVariants as id
use Rattle.semantic_objects.specs.declared.entry.TypeFn.{TypeFn}
use Rattle.semantic_objects.specs.declared.entry.TypeStr.{TypeStr}
use Rattle.semantic_objects.specs.declared.entry.ValueEntry.{ValueEntry}
use Rattle.semantic_objects.specs.declared.symbol.Symbol.TheVariants as symbol
use Rattle.semantic_objects.specs.declared.part.TreePart.{TreePart}
use Rattle.semantic_objects.specs.declared.part.TreePart.TheVariants as part
use Rattle.semantic_objects.specs.Trees.{Tree, Trees, TypeScheme}
use Rattle.semantic_objects.specs.Parts.{id_number, part_tree}
use Rattle.semantic_objects.specs.Tables.{Table as Named, names_of, entry, with_entry}
use Rattle.semantic_objects.specs.Environments.{types}
use Rattle.env_parts.specs.Types.{holds_free, any_holds_free}
use Rattle.unification.specs.Types.{Ty, Types, Substitution, put_all, occurs, occurs_any}
use Rattle.unification.specs.Instances.{fill, fill_all}
use Rattle.unification.specs.Closing.{is_among, place_of, noticed, found_in, found_in_all, closed_over, scheme_over}
use Rattle.unification.proofs.Walking.{or_left, or_right, or_false_left, or_false_right}
use Rattle.type_nodes.specs.Tables.{Table, state, type_of, whole}
use Rattle.type_schemes.specs.Schemes.{is_kept, closed_scheme}
use Rattle.bare_phrases.specs.Phrases.{TyPhrase, TyFields, TyPhrases}
use Rattle.bare_phrases.specs.PhraseOf.{ty_phrase, ty_phrases, ty_field_phrase, ty_fields}
use Rattle.bare_phrases.proofs.Forms.{ty_field_phrase-kept}
use Rattle.sml_modules.specs.Items.{function_of}
use Rattle.sml_modules.specs.Graphs.{Graph}
use Rattle.static_semantics.specs.BasicTypes.{unit_ty, arrow_ty, record_ty, types_of}
use Rattle.static_semantics.specs.Inferring.{Scope, ◌>>=◌, gives, name_at, refuses_where, known, found_at}
use Rattle.static_semantics.specs.TypeInference.{applied_to, infer_ty, infer_ty_fields, infer_tys}
use Rattle.static_semantics.specs.Holding.{Given, AllItems, AllRows}
use Rattle.static_semantics.proofs.Holding.{given_then, given_where, rows_with}
use Rattle.core_scopes.specs.Scopes.{Bindings, written_of, first_entry}
use Rattle.type_phrases.specs.Inferred.{scope_in}
use Rattle.type_phrases.proofs.Keeping.{as_read}
use Rattle.type_phrases.proofs.Steps.{variable_is}
use Rattle.firm_types.specs.Firm.{IsFirmTy, IsFirmPhrase, AreFirmFields, AreFirmArgs, IsFirmId, IsFirmVariable, IsClosedType}

-- ---- schemes that close nothing

mutual
  found_none : (kept : ℕ → Bool) (u : Ty) (vs : List ℕ) → ((n : ℕ) → occurs n u ≡ true → kept n ≡ true)
      → found_in kept u vs ≡ vs
  found_none kept (Ty.Var n) vs h =
      ap (λ b. noticed b n vs) (h n (eq-eqb n n refl))
  found_none kept (Ty.Made c ts) vs h = found_none_all kept ts vs h

  found_none_all : (kept : ℕ → Bool) (ts : Types) (vs : List ℕ) → ((n : ℕ) → occurs_any n ts ≡ true → kept n ≡ true)
      → found_in_all kept ts vs ≡ vs
  found_none_all kept Types.Nil vs h = refl
  found_none_all kept (Types.Cons t ts) vs h =
      ap (found_in_all kept ts) (found_none kept t vs (λ n k. h n (or_left (occurs n t) (occurs_any n ts) k)))
      ∙ found_none_all kept ts vs (λ n k. h n (or_right (occurs n t) (occurs_any n ts) k))

-- a scheme that keeps all variables of its type
pub open_is : (t : Table) (a : TyId) (kept : List TyId) → kept ≡ a ∷ []
    → closed_scheme t kept a ≡ record { marks = []; body = closed_over [] (whole t a) }
open_is t a kept e =
    ap (λ ids. closed_scheme t ids a) e
    ∙ ap (λ vs. scheme_over vs (state t).marks (whole t a))
    (found_none (is_kept t (a ∷ [])) (whole t a) []
    (λ n h. or_left (occurs n (whole t a)) false h))

free_is : (b : Bool) (i n m : ℕ) → Tree.Free n ≡ cond b (Tree.Bound i) (Tree.Free m) → m ≡ n
free_is true i n m h = absurd (cc)
free_is false i n m h = cc

-- what a type is that was closed to a variable of the table
pub closed_free : (vs : List ℕ) (u : Ty) (n : ℕ) → Tree.Free n ≡ closed_over vs u → u ≡ Ty.Var n
closed_free vs (Ty.Var m) n h = ap Ty.Var (free_is (is_among m vs) (place_of m vs) n m h)
closed_free vs (Ty.Made c ts) n h = absurd (cc)

-- a variable whose type is closed to itself
pub stands_is : (t : Table) (number other : ℕ) (p : TreePart) (v : TyId) (x : Tree) (σ : TypeScheme)
    → σ ≡ record { marks = []; body = closed_over [] (whole t (id.Variable number)) } → x ≡ σ.body → part_tree p ≡ x
    → p ≡ part.Free v → v ≡ id.Variable other → eqb other number ≡ true → (state t).stands number ≡ Ty.Var number
stands_is t number other p v x σ h k l m n e =
    let i : Tree.Free other ≡ closed_over [] (whole t (id.Variable number)) =
    sym (ap (λ (w : TyId). Tree.Free (id_number w)) n) ∙ sym (ap part_tree m) ∙ l ∙ k
    ∙ ap (λ (τ : TypeScheme). τ.body) h in
    closed_free [] (whole t (id.Variable number)) other i ∙ ap Ty.Var (eqb-true other number e)

-- ---- types over types in which nothing was put in

mutual
  filled_firm : (s b : Substitution) (x : Tree) → ((i : ℕ) → IsFirmTy s (b i)) → holds_free x ≡ false
      → IsFirmTy s (fill b Ty.Var x)
  filled_firm s b (Tree.Bound i) h k = h i
  filled_firm s b (Tree.Free n) h k = absurd (cc)
  filled_firm s b (Tree.Made c ts) h k = ap (Ty.Made c) (filled_firm_all s b ts h k)

  filled_firm_all : (s b : Substitution) (xs : Trees) → ((i : ℕ) → IsFirmTy s (b i)) → any_holds_free xs ≡ false
      → put_all s (fill_all b Ty.Var xs) ≡ fill_all b Ty.Var xs
  filled_firm_all s b Trees.Nil h k = refl
  filled_firm_all s b (Trees.Cons x xs) h k = ap₂ Types.Cons
      (filled_firm s b x h (or_false_left (holds_free x) (any_holds_free xs) k))
      (filled_firm_all s b xs h (or_false_right (holds_free x) (any_holds_free xs) k))

items_firm : (s : Substitution) (ts : List Ty) → AllItems (IsFirmTy s) ts → (i : ℕ) → IsFirmTy s (get_or ts i unit_ty)
items_firm s [] h i = refl
items_firm s (t ∷ ts) h zero = h.0
items_firm s (t ∷ ts) h (suc i) = items_firm s ts h.1 i

rows_firm : (s : Substitution) (rows : Named Ty) → AllRows (IsFirmTy s) rows
    → put_all s (types_of (map (λ (row : List ℕ × Ty). row.1) rows)) ≡ types_of (map (λ (row : List ℕ × Ty). row.1) rows)
rows_firm s [] h = refl
rows_firm s (row ∷ rows) h = ap₂ Types.Cons h.0 (rows_firm s rows h.1)

record_ty_firm : (s : Substitution) (rows : Named Ty) → AllRows (IsFirmTy s) rows → IsFirmTy s (record_ty rows)
record_ty_firm s rows h = ap (Ty.Made (symbol.Record (names_of rows))) (rows_firm s rows h)

arrow_firm : (s : Substitution) (a b : Ty) → IsFirmTy s a → IsFirmTy s b → IsFirmTy s (arrow_ty a b)
arrow_firm s a b h k = ap₂ (λ (x : Ty) (y : Ty). arrow_ty x y) h k

-- ---- phrases

fields_firm : (s : Substitution) (inner : Scope) (fields : TyFields) (made : Named Ty) → AreFirmFields s inner fields
    → AllRows (IsFirmTy s) made → Given (AllRows (IsFirmTy s)) (infer_ty_fields inner fields made)
fields_firm s inner TyFields.EndOfFields made h k = k
fields_firm s inner (TyFields.Field label ty rest) made h k =
    given_where (AllRows (IsFirmTy s)) (is_some (entry label.text made)) 40 inner (name_at label) _
    (given_then (IsFirmTy s) (AllRows (IsFirmTy s)) (infer_ty inner ty) _ h.0 (λ t l.
    fields_firm s inner rest (with_entry label.text t made) h.1 (rows_with (IsFirmTy s) label.text t made l k)))

args_firm : (s : Substitution) (inner : Scope) (args : TyPhrases) → AreFirmArgs s inner args
    → Given (AllItems (IsFirmTy s)) (infer_tys inner args)
args_firm s inner TyPhrases.EndOfArgs h = tt
args_firm s inner (TyPhrases.Arg ty rest) h =
    given_then (IsFirmTy s) (AllItems (IsFirmTy s)) (infer_ty inner ty) _ h.0 (λ t k.
    given_then (AllItems (IsFirmTy s)) (AllItems (IsFirmTy s)) (infer_tys inner rest) _ (args_firm s inner rest h.1)
    (λ ts l. (k, l)))

pub record_firm : (s : Substitution) (inner : Scope) (fields : TyFields) (at : At) → AreFirmFields s inner fields
    → IsFirmPhrase s inner (TyPhrase.Record fields at)
record_firm s inner fields at h =
    given_then (AllRows (IsFirmTy s)) (IsFirmTy s) (infer_ty_fields inner fields []) (λ made. gives (record_ty made))
    (fields_firm s inner fields [] h tt) (λ made k. record_ty_firm s made k)

pub arrow_phrase_firm : (s : Substitution) (inner : Scope) (from to : TyPhrase) (at : At) → IsFirmPhrase s inner from
    → IsFirmPhrase s inner to → IsFirmPhrase s inner (TyPhrase.Arrow from to at)
arrow_phrase_firm s inner from to at h k =
    given_then (IsFirmTy s) (IsFirmTy s) (infer_ty inner from) _ h (λ a i.
    given_then (IsFirmTy s) (IsFirmTy s) (infer_ty inner to) _ k (λ b j. arrow_firm s a b i j))

function_firm : (s : Substitution) (inner : Scope) (long : LongName) (at : At) (made : List Ty) (o : Option TypeStr)
    → AllItems (IsFirmTy s) made → ((str : TypeStr) → o ≡ Some str → IsClosedType str)
    → Given (IsFirmTy s) (known inner long o
    >>= λ found. refuses_where (not (eqb (length made) found.function.arity)) 35 inner at
    >>= λ u. gives (applied_to found.function made))
function_firm s inner long at made None h k = tt
function_firm s inner long at made (Some str) h k = given_where (IsFirmTy s) (not (eqb (length made) str.function.arity)) 35 inner at _
    (filled_firm s (λ i. get_or made i unit_ty) str.function.body (items_firm s made h) (k str refl))

pub named_firm : (s : Substitution) (inner : Scope) (args : TyPhrases) (long : LongName) (at : At)
    → AreFirmArgs s inner args
    → ((str : TypeStr) → found_at types long.parts inner.env ≡ Some str → IsClosedType str)
    → IsFirmPhrase s inner (TyPhrase.Named args long at)
named_firm s inner args long at h k =
    given_then (AllItems (IsFirmTy s)) (IsFirmTy s) (infer_tys inner args) _ (args_firm s inner args h) (λ made l.
    function_firm s inner long at made (found_at types long.parts inner.env) l k)

firm_known : (t : Table) (inner : Scope) (long : LongName) (o : Option TyId)
    → ((a : TyId) → o ≡ Some a → IsFirmId t a)
    → Given (IsFirmTy (state t).stands) (known inner long (option_map (type_of t) o))
firm_known t inner long None h = tt
firm_known t inner long (Some (id.Variable n)) h = h (id.Variable n) refl
firm_known t inner long (Some (id.Made i)) h = absurd (h (id.Made i) refl)

pub variable_firm : {V : Type 0} (g : Graph) (t : Table) (read : V → ValueEntry) (sc : Bindings V) (name : Name)
    (at : At) → IsFirmVariable t sc name.text
    → IsFirmPhrase (state t).stands (scope_in g t read sc) (TyPhrase.Var name at)
variable_firm g t read sc name at h =
    let long : LongName = record { parts = name.text ∷ []; line = name.line; col = name.col } in
    subst (Given (IsFirmTy (state t).stands))
    (sym (variable_is g t sc (scope_in g t read sc) name (first_entry (written_of sc) name.text)
    (as_read g t read sc) refl))
    (firm_known t (scope_in g t read sc) long (first_entry (written_of sc) name.text) h)

-- ---- the forms of phrases

pub as_phrase : (s : Substitution) (inner : Scope) (p q : TyPhrase) → p ≡ q → IsFirmPhrase s inner q
    → IsFirmPhrase s inner p
as_phrase s inner p q e h = subst (IsFirmPhrase s inner) (sym e) h

-- the first of some fields
pub field_passed : (s : Substitution) (inner : Scope) (fields left rest : List TyField) (x : TyField)
    → left ≡ x ∷ rest → IsFirmPhrase s inner (ty_phrase (out-TyField x).ty)
    → (AreFirmFields s inner (ty_fields (map ty_field_phrase left))
    → AreFirmFields s inner (ty_fields (map ty_field_phrase fields)))
    → AreFirmFields s inner (ty_fields (map ty_field_phrase rest))
    → AreFirmFields s inner (ty_fields (map ty_field_phrase fields))
field_passed s inner fields left rest x e h k l =
    k (subst (λ xs. AreFirmFields s inner (ty_fields (map ty_field_phrase xs))) (sym e)
    (subst (λ (row : Name × TyPhrase). AreFirmFields s inner (TyFields.Field row.0 row.1
    (ty_fields (map ty_field_phrase rest)))) (sym (ty_field_phrase-kept x)) (h, l)))

pub arg_passed : (s : Substitution) (inner : Scope) (args left rest : List Phrase) (x : Phrase)
    → left ≡ x ∷ rest → IsFirmPhrase s inner (ty_phrase x)
    → (AreFirmArgs s inner (ty_phrases (map ty_phrase left)) → AreFirmArgs s inner (ty_phrases (map ty_phrase args)))
    → AreFirmArgs s inner (ty_phrases (map ty_phrase rest))
    → AreFirmArgs s inner (ty_phrases (map ty_phrase args))
arg_passed s inner args left rest x e h k l =
    k (subst (λ xs. AreFirmArgs s inner (ty_phrases (map ty_phrase xs))) (sym e) (h, l))

-- what is found where no type function is
pub none_found : (o : Option TypeStr) (str : TypeStr) → None ≡ option_map function_of o → o ≡ Some str → ⊥
none_found o str h k = let e : None ≡ Some (function_of str) = h ∙ ap (option_map function_of) k in cc

some_function : (f : TypeFn) (o : Option TypeStr) (str : TypeStr) → Some f ≡ option_map function_of o → o ≡ Some str
    → str.function ≡ f
some_function f o str h k = let e : Some f ≡ Some (function_of str) = h ∙ ap (option_map function_of) k in
    let i : f ≡ str.function = cc in sym i

pub function_closed : (f : TypeFn) (o : Option TypeStr) (str : TypeStr) → Some f ≡ option_map function_of o
    → o ≡ Some str → holds_free f.body ≡ false → IsClosedType str
function_closed f o str h k e =
    subst (λ (x : TypeFn). holds_free x.body ≡ false) (sym (some_function f o str h k)) e

-- ---- answers of checks

pub on_ok : {A E : Type 0} {P Q : Type 0} (r : Result A E) → (P → Q) → OnOk r P → OnOk r Q
on_ok (Ok x) f h = f h
on_ok (Err e) f h = h

pub not_true : (b c : Bool) → c ≡ not b → c ≡ true → b ≡ false
not_true true c h k = let e : false ≡ true = sym h ∙ k in absurd (cc)
not_true false c h k = refl

pub firm_one : {V : Type 0} (t : Table) (sc : Bindings V) (name : List ℕ) (id : TyId) (o : Option TyId)
    → o ≡ first_entry (written_of sc) name → o ≡ Some id → IsFirmId t id → IsFirmVariable t sc name
firm_one t sc name id o e k h = λ a i.
    let same : Some id ≡ Some a = sym k ∙ e ∙ i in
    let f : id ≡ a = cc in subst (IsFirmId t) f h

pub firm_none : {V : Type 0} (t : Table) (sc : Bindings V) (name : List ℕ) (o : Option TyId)
    → o ≡ first_entry (written_of sc) name → o ≡ None → IsFirmVariable t sc name
firm_none t sc name o e k = λ a i. let same : None ≡ Some a = sym k ∙ e ∙ i in absurd (cc)
