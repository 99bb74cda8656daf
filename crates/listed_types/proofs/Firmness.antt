-- The types of phrases whose type names stand for functions without variables of a table: what stands for such variables
-- changes them only where it changes what is written around.
use Rattle.std.proofs.Common.{◌≡◌, ℕ, zero, suc, List, [], ◌∷◌, ◌++◌, length, map, get_or, refl, sym, ap, ap₂, ◌∙◌, subst, Option, Some, None, Bool, true, false, not, ◌||◌}
use Rattle.std.specs.Prelude.{eqb, Result, Ok, Err, IfOk, IsErrAnd}
use Rattle.std.specs.Option.{is_some}
use Rattle.cm_base.specs.declared.fault.Fault.{Fault}
use Rattle.cm_base.specs.declared.fault.Fault.TheVariants as fault
use Rattle.sml_trees.specs.declared.name.LongName.{LongName}
use Rattle.semantic_objects.specs.declared.entry.TypeStr.{TypeStr}
use Rattle.semantic_objects.specs.declared.entry.ValueEntry.{ValueEntry}
use Rattle.semantic_objects.specs.declared.name.TyId.{TyId}
use Rattle.semantic_objects.specs.declared.node.TypeNode.{TypeNode}
use Rattle.semantic_objects.specs.declared.node.TypeNode.TheVariants as node
use Rattle.semantic_objects.specs.declared.symbol.Symbol.TheVariants as symbol
use Rattle.semantic_objects.specs.Tables.{Table as Named, names_of, entry, with_entry}
use Rattle.semantic_objects.specs.Trees.{Tree, Trees, trees_of}
use Rattle.semantic_objects.specs.Nodes.{nowhere, node_tree, trees_at, unfolded_after, unfolded, root}
use Rattle.semantic_objects.specs.Environments.{types}
use Rattle.unification.specs.Types.{Ty, Types, Substitution, put, put_all}
use Rattle.unification.specs.Instances.{fill, fill_all}
use Rattle.unification.proofs.Walking.{or_false_left, or_false_right}
use Rattle.env_parts.specs.Types.{holds_free, any_holds_free}
use Rattle.bare_phrases.specs.Phrases.{TyPhrase, TyFields, TyPhrases}
use Rattle.type_nodes.specs.Tables.{Table, state, type_of, whole}
use Rattle.sml_modules.specs.Items.{map_rows}
use Rattle.sml_modules.specs.Graphs.{Graph}
use Rattle.name_trails.specs.Trails.{Rows}
use Rattle.static_semantics.specs.BasicTypes.{unit_ty, record_ty, types_of, exn_ty}
use Rattle.static_semantics.specs.Inferring.{Scope, Answer, gives, known, name_at, found_at, named, variable_entry}
use Rattle.static_semantics.specs.TypeInference.{infer_ty, infer_ty_fields, infer_tys}
use Rattle.static_semantics.specs.Holding.{Given, IfSome, AllItems, AllRows}
use Rattle.static_semantics.proofs.Holding.{given_then, given_where, given_known, rows_with}
use Rattle.static_semantics.proofs.TypesGrow.{rows_named}
use Rattle.core_scopes.specs.Scopes.{Bindings, seen, written_of}
use Rattle.type_phrases.specs.Inferred.{Answers, scope_in}
use Rattle.listed_types.specs.Firm.{is_free, any_free, is_firm_found, IsFirm, AreFirmFields, AreFirmArgs, AreAlone, FirmIn}

-- ---- nodes of which none is a variable of a table

abbrev AllFirm : List Tree → Type 0
AllFirm [] = Unit {0}
AllFirm (t ∷ ts) = (holds_free t ≡ false) × AllFirm ts

firm_at : (made : List Tree) (p : ℕ) → AllFirm made → holds_free (get_or made p nowhere) ≡ false
firm_at [] p h = refl
firm_at (t ∷ made) zero h = h.0
firm_at (t ∷ made) (suc p) h = firm_at made p h.1

firm_snoc : (made : List Tree) (t : Tree) → AllFirm made → holds_free t ≡ false → AllFirm (made ++ t ∷ [])
firm_snoc [] t h k = (k, tt)
firm_snoc (u ∷ made) t h k = (h.0, firm_snoc made t h.1 k)

or_false : (a b : Bool) → a ≡ false → b ≡ false → (a || b) ≡ false
or_false true b h k = h
or_false false b h k = k

firm_parts : (made : List Tree) (ps : List ℕ) → AllFirm made → any_holds_free (trees_of (trees_at made ps)) ≡ false
firm_parts made [] h = refl
firm_parts made (p ∷ ps) h = or_false (holds_free (get_or made p nowhere)) (any_holds_free (trees_of (trees_at made ps)))
    (firm_at made p h) (firm_parts made ps h)

firm_node : (made : List Tree) (x : TypeNode) → AllFirm made → is_free x ≡ false → holds_free (node_tree made x) ≡ false
firm_node made (node.Bound i) h k = refl
firm_node made (node.Free n) h k = k
firm_node made (node.Made c ps) h k = firm_parts made ps h

firm_all : (made : List Tree) (xs : List TypeNode) → AllFirm made → any_free xs ≡ false
    → AllFirm (unfolded_after made xs)
firm_all made [] h k = h
firm_all made (x ∷ xs) h k = firm_all (made ++ node_tree made x ∷ []) xs
    (firm_snoc made (node_tree made x) h (firm_node made x h (or_false_left (is_free x) (any_free xs) k)))
    (or_false_right (is_free x) (any_free xs) k)

pub firm_root : (xs : List TypeNode) → any_free xs ≡ false → holds_free (root xs) ≡ false
firm_root xs h = firm_at (unfolded xs) _ (firm_all [] xs tt h)

-- ---- types

abbrev IsFixed : Substitution → Ty → Type 0
IsFixed s t = put s t ≡ t

items_get : (R : Ty → Type 0) (xs : List Ty) (d : Ty) → R d → AllItems R xs → (i : ℕ) → R (get_or xs i d)
items_get R [] d h k i = h
items_get R (x ∷ xs) d h k zero = k.0
items_get R (x ∷ xs) d h k (suc i) = items_get R xs d h k.1 i

mutual
  fill_fixed : (s b : Substitution) → ((i : ℕ) → IsFixed s (b i)) → (x : Tree) → holds_free x ≡ false
      → IsFixed s (fill b Ty.Var x)
  fill_fixed s b h (Tree.Bound i) k = h i
  fill_fixed s b h (Tree.Free n) k = absurd (cc)
  fill_fixed s b h (Tree.Made c ts) k = ap (Ty.Made c) (fill_all_fixed s b h ts k)

  fill_all_fixed : (s b : Substitution) → ((i : ℕ) → IsFixed s (b i)) → (xs : Trees) → any_holds_free xs ≡ false
      → put_all s (fill_all b Ty.Var xs) ≡ fill_all b Ty.Var xs
  fill_all_fixed s b h Trees.Nil k = refl
  fill_all_fixed s b h (Trees.Cons x xs) k =
      ap₂ Types.Cons (fill_fixed s b h x (or_false_left (holds_free x) (any_holds_free xs) k))
      (fill_all_fixed s b h xs (or_false_right (holds_free x) (any_holds_free xs) k))

not_true : (b : Bool) → not b ≡ true → b ≡ false
not_true true h = absurd (cc)
not_true false h = refl

abbrev IsFirmStr : TypeStr → Type 0
IsFirmStr str = holds_free str.function.body ≡ false

firm_found : (o : Option TypeStr) → is_firm_found o ≡ true → IfSome IsFirmStr o
firm_found None h = tt
firm_found (Some found) h = not_true (holds_free found.function.body) h

record_fixed : (s : Substitution) (made : Named Ty) → AllRows (IsFixed s) made
    → put_all s (types_of (map (λ row. row.1) made)) ≡ types_of (map (λ row. row.1) made)
record_fixed s [] h = refl
record_fixed s (row ∷ made) h = ap₂ Types.Cons h.0 (record_fixed s made h.1)

abbrev RowsFixed : Substitution → Scope → Type 0
RowsFixed s sc = AllRows (IsFixed s) sc.written

mutual
  ty_fixed : (s : Substitution) (sc : Scope) (ty : TyPhrase) → RowsFixed s sc → IsFirm sc.env ty
      → Given (IsFixed s) (infer_ty sc ty)
  ty_fixed s sc (TyPhrase.Var name at) h k = given_known (IsFixed s) sc
      (let long : LongName = record { parts = name.text ∷ []; line = name.line; col = name.col } in long)
      (named name.text sc.written) (rows_named (IsFixed s) name.text sc.written h)
  ty_fixed s sc (TyPhrase.Record fields at) h k = given_then (AllRows (IsFixed s)) (IsFixed s)
      (infer_ty_fields sc fields []) (λ made. gives (record_ty made)) (fields_fixed s sc fields [] h k tt)
      (λ made l. ap (Ty.Made (symbol.Record (names_of made))) (record_fixed s made l))
  ty_fixed s sc (TyPhrase.Named args long at) h k =
      given_then (AllItems (IsFixed s)) (IsFixed s) (infer_tys sc args) _ (args_fixed s sc args h k.1) (λ made l.
      given_then IsFirmStr (IsFixed s) (known sc long (found_at types long.parts sc.env)) _
      (given_known IsFirmStr sc long (found_at types long.parts sc.env)
      (firm_found (found_at types long.parts sc.env) k.0)) (λ found m.
      given_where (IsFixed s) (not (eqb (length made) found.function.arity)) 35 sc at _
      (fill_fixed s (λ i. get_or made i unit_ty) (items_get (IsFixed s) made unit_ty refl l) found.function.body m)))
  ty_fixed s sc (TyPhrase.Arrow from to at) h k =
      given_then (IsFixed s) (IsFixed s) (infer_ty sc from) _ (ty_fixed s sc from h k.0) (λ a l.
      given_then (IsFixed s) (IsFixed s) (infer_ty sc to) _ (ty_fixed s sc to h k.1) (λ b m.
      ap (Ty.Made symbol.Arrow) (ap₂ (λ x y. Types.Cons x (Types.Cons y Types.Nil)) l m)))

  fields_fixed : (s : Substitution) (sc : Scope) (fields : TyFields) (made : Named Ty) → RowsFixed s sc
      → AreFirmFields sc.env fields → AllRows (IsFixed s) made
      → Given (AllRows (IsFixed s)) (infer_ty_fields sc fields made)
  fields_fixed s sc TyFields.EndOfFields made h k l = l
  fields_fixed s sc (TyFields.Field label ty rest) made h k l =
      given_where (AllRows (IsFixed s)) (is_some (entry label.text made)) 40 sc (name_at label) _
      (given_then (IsFixed s) (AllRows (IsFixed s)) (infer_ty sc ty) _ (ty_fixed s sc ty h k.0) (λ t m.
      fields_fixed s sc rest (with_entry label.text t made) h k.1 (rows_with (IsFixed s) label.text t made m l)))

  args_fixed : (s : Substitution) (sc : Scope) (tys : TyPhrases) → RowsFixed s sc → AreFirmArgs sc.env tys
      → Given (AllItems (IsFixed s)) (infer_tys sc tys)
  args_fixed s sc TyPhrases.EndOfArgs h k = tt
  args_fixed s sc (TyPhrases.Arg ty rest) h k =
      given_then (IsFixed s) (AllItems (IsFixed s)) (infer_ty sc ty) _ (ty_fixed s sc ty h k.0) (λ t l.
      given_then (AllItems (IsFixed s)) (AllItems (IsFixed s)) (infer_tys sc rest) _ (args_fixed s sc rest h k.1) (λ ts m.
      (l, m)))

-- ---- in a table

alone_rows : (t : Table) (rows : Rows TyId) → AreAlone t rows → AllRows (IsFixed (state t).stands) (map_rows (type_of t) rows)
alone_rows t [] h = tt
alone_rows t (row ∷ rows) h = (h.0, alone_rows t rows h.1)

given_is : (R : Ty → Type 0) (m : Answer Ty) (x : Ty) → m ≡ gives x → Given R m → R x
given_is R m x e h = subst (Given R) e h

-- some entry for values, of which types know nothing
abbrev any_value : {V : Type 0} → V → ValueEntry
any_value v = variable_entry exn_ty

pub firm_whole : {V : Type 0} (g : Graph) (old new : Table) (sc : Bindings V) (ty : TyPhrase) (id : TyId)
    → AreAlone old (written_of sc) → state new ≡ state old
    → ((read : V → ValueEntry) → IsFirm (seen g read sc) ty)
    → ((read : V → ValueEntry) → infer_ty (scope_in g old read sc) ty ≡ gives (type_of new id))
    → whole new id ≡ type_of new id
firm_whole g old new sc ty id h same firm is =
    ap (λ s. put s.stands (type_of new id)) same
    ∙ given_is (IsFixed (state old).stands) (infer_ty (scope_in g old any_value sc) ty) (type_of new id) (is any_value)
    (ty_fixed (state old).stands (scope_in g old any_value sc) ty (alone_rows old (written_of sc) h) (firm any_value))

-- .. where something is answered
pub firm_answer : {V : Type 0} (g : Graph) (old new : Table) (sc : Bindings V) (ty : TyPhrase) (r : Result TyId Fault)
    → AreAlone old (written_of sc) → state new ≡ state old → FirmIn g sc ty
    → ((read : V → ValueEntry) → Answers (infer_ty (scope_in g old read sc) ty) (type_of new) r)
    → IfOk r (λ id. whole new id ≡ type_of new id)
firm_answer g old new sc ty (Ok id) h same firm is = firm_whole g old new sc ty id h same firm is
firm_answer g old new sc ty (Err e) h same firm is = tt

-- what a failed step hands on, whatever it would have given
pub refused_as : {R S A : Type 0} (want : Answer A) (f : R → A) (h : S → A) (r : Result S Fault) (e : Fault)
    → IsErrAnd r (λ z. z ≡ e) → Answers want f (Err e) → Answers want h r
refused_as want f h (Ok x) e k l = absurd k
refused_as want f h (Err z) (fault.Diag diag) k l = subst (λ y. Answers want h (Err y)) (sym k) l
refused_as want f h (Err z) fault.NoMemory k l = subst (λ y. Answers want h (Err y)) (sym k) tt
