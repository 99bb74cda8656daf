-- Small phrases with what inference gives them, each with the text that it is read from. A column is that of the text,
-- whose parentheses and fixities are gone in the phrase.
use Rattle.std.proofs.Common.{◌≡◌, ℕ, List, [], ◌∷◌, refl, Option, Some, None, Bool, true, false}
use Rattle.std.specs.Prelude.{pos, codes, Ok, Err}
use Rattle.sml_trees.specs.declared.name.At.{At}
use Rattle.sml_trees.specs.declared.name.Name.{Name}
use Rattle.sml_trees.specs.declared.name.LongName.{LongName}
use Rattle.semantic_objects.specs.declared.name.Owner.TheVariants as owner
use Rattle.semantic_objects.specs.declared.name.TyName.{TyName}
use Rattle.semantic_objects.specs.declared.symbol.Symbol.TheVariants as symbol
use Rattle.semantic_objects.specs.declared.entry.TypeStr.{TypeStr}
use Rattle.semantic_objects.specs.declared.entry.ConEntry.{ConEntry}
use Rattle.semantic_objects.specs.declared.entry.ValueEntry.{ValueEntry}
use Rattle.semantic_objects.specs.declared.entry.VidStatus.{VidStatus}
use Rattle.semantic_objects.specs.declared.entry.VidStatus.TheVariants as status
use Rattle.semantic_objects.specs.Trees.{Tree, Trees}
use Rattle.semantic_objects.specs.Environments.{Env, empty_env, with_structure, with_type, with_value}
use Rattle.unification.specs.Types.{Ty, put}
use Rattle.unification.specs.Fitting.{no_variable}
use Rattle.bare_phrases.specs.Phrases.{TyPhrase, TyPhrases, TypPhrase, ConPhrase, DatPhrase, ExBodyPhrase, ExPhrase, PatPhrase, PatFields, ExpPhrase, ExpFields, Rules, DecPhrase, DecPhrases, StrBinds}
use Rattle.static_semantics.specs.BasicTypes.{int_ty, string_ty, exn_ty, unit_ty, basis_ty, arrow_ty, record_ty, named_ty}
use Rattle.static_semantics.specs.Inferring.{Progress, Scope, outermost, Answer, diag_at}
use Rattle.static_semantics.specs.CoreInference.{infer_exp}

-- ---- phrases

abbrev at : ℕ → At
at n = record { line = 1; col = n }

abbrev name : List ℕ → ℕ → Name
name text n = record { text = text; line = 1; col = n }

abbrev long : List (List ℕ) → ℕ → LongName
long parts n = record { parts = parts; line = 1; col = n }

abbrev type_bind : List Name → Name → TyPhrase → TypPhrase
type_bind tyvars bound ty = record { tyvars = tyvars; name = bound; ty = ty }

abbrev con_bind : Name → Option TyPhrase → ConPhrase
con_bind bound arg = record { name = bound; arg = arg }

abbrev dat_bind : List Name → Name → List ConPhrase → DatPhrase
dat_bind tyvars bound cons = record { tyvars = tyvars; name = bound; cons = cons }

abbrev ex_bind : Name → ExBodyPhrase → ExPhrase
ex_bind bound body = record { name = bound; body = body }

-- ---- a part of the initial basis, with an exception `E` and a structure `A` that has a variable `x` of type `int`

abbrev basis_name : ℕ → ℕ → TyName
basis_name number arity = record { owner = owner.Basis; number = number; arity = arity; eq = true }

abbrev bool_ty : Ty
bool_ty = basis_ty 1 true

abbrev list_ty : Ty → Ty
list_ty ty = named_ty (basis_name 4 1) (ty ∷ [])

abbrev option_ty : Ty → Ty
option_ty ty = named_ty (basis_name 5 1) (ty ∷ [])

abbrev pair_ty : Ty → Ty → Ty
pair_ty a b = record_ty ((codes "1", a) ∷ (codes "2", b) ∷ [])

abbrev applied_tree : ℕ → Tree → Tree
applied_tree number of = Tree.Made (symbol.Name (basis_name number 1)) (Trees.Cons of Trees.Nil)

abbrev arrow_tree : Tree → Tree → Tree
arrow_tree from to = Tree.Made symbol.Arrow (Trees.Cons from (Trees.Cons to Trees.Nil))

abbrev constant_tree : ℕ → Bool → Tree
constant_tree number eq =
    Tree.Made (symbol.Name (record { owner = owner.Basis; number = number; arity = 0; eq = eq })) Trees.Nil

abbrev both_tree : Tree → Tree
both_tree of = Tree.Made (symbol.Record (codes "1" ∷ codes "2" ∷ [])) (Trees.Cons of (Trees.Cons of Trees.Nil))

abbrev value : VidStatus → List Bool → Tree → ValueEntry
value kind marks body = record { status = kind; scheme = record { marks = marks; body = body } }

abbrev type_of : ℕ → Tree → List ConEntry → TypeStr
type_of arity body cons = record { function = record { arity = arity; body = body }; cons = cons }

abbrev con : List ℕ → Tree → ConEntry
con text body = record { name = text; scheme = record { marks = false ∷ []; body = body } }

abbrev some_tree : Tree
some_tree = arrow_tree (Tree.Bound 0) (applied_tree 5 (Tree.Bound 0))

abbrev with_values : Env → Env
with_values env =
    with_value (codes "true") (value status.Constructor [] (constant_tree 1 true))
    (with_value (codes "nil") (value status.Constructor (false ∷ []) (applied_tree 4 (Tree.Bound 0)))
    (with_value (codes "SOME") (value status.Constructor (false ∷ []) some_tree)
    (with_value (codes "ref") (value status.Constructor (false ∷ [])
    (arrow_tree (Tree.Bound 0) (applied_tree 6 (Tree.Bound 0))))
    (with_value (codes "=") (value status.Variable (true ∷ [])
    (arrow_tree (both_tree (Tree.Bound 0)) (constant_tree 1 true)))
    (with_value (codes "E") (value status.Exception [] (constant_tree 7 false)) env)))))

abbrev with_types_of : Env → Env
with_types_of env =
    with_type (codes "int") (type_of 0 (constant_tree 0 true) [])
    (with_type (codes "string") (type_of 0 (constant_tree 2 true) [])
    (with_type (codes "list") (type_of 1 (applied_tree 4 (Tree.Bound 0)) [])
    (with_type (codes "option") (type_of 1 (applied_tree 5 (Tree.Bound 0)) (con (codes "SOME") some_tree ∷ []))
    (with_type (codes "ref") (type_of 1 (applied_tree 6 (Tree.Bound 0)) []) env))))

abbrev structure_a : Env
structure_a = with_structure (codes "B") empty_env
    (with_value (codes "x") (value status.Variable [] (constant_tree 0 true)) empty_env)

abbrev basis : Env
basis = with_structure (codes "A") structure_a (with_values (with_types_of empty_env))

abbrev top : Scope
top = outermost (codes "u") basis

abbrev start : Progress
start = record { types = no_variable; names = 0 }

-- ---- what comes out

-- the type as it is known in the end
abbrev shown : Answer (Ty × Progress) → Answer Ty
shown None = None
shown (Some (Err diag)) = Some (Err diag)
shown (Some (Ok r)) = Some (Ok (put r.1.types.stands r.0))

abbrev of : ExpPhrase → Answer Ty
of exp = shown (infer_exp 20 top exp start)

abbrev accepted : Ty → Answer Ty
accepted ty = Some (Ok ty)

abbrev refused : ℕ → ℕ → List (List ℕ) → Answer Ty
refused number col names = Some (Err (diag_at number top (at col) names))

-- ---- rows

-- fn f => fn x => f (f x)
row_1 : of
    (ExpPhrase.Fn (Rules.Rule (PatPhrase.Long (long (codes "f" ∷ []) 4) (at 4)) (ExpPhrase.Fn (Rules.Rule
    (PatPhrase.Long (long (codes "x" ∷ []) 12) (at 12)) (ExpPhrase.App (ExpPhrase.Long (long (codes "f" ∷ []) 17)
    (at 17)) (ExpPhrase.App (ExpPhrase.Long (long (codes "f" ∷ []) 20) (at 20)) (ExpPhrase.Long (long (codes "x" ∷
    []) 22) (at 22)) (at 20)) (at 17)) Rules.EndOfRules) (at 9)) Rules.EndOfRules) (at 1))
    ≡ (accepted (arrow_ty (arrow_ty (Ty.Var 1) (Ty.Var 1)) (arrow_ty (Ty.Var 1) (Ty.Var 1))))
row_1 = refl

-- fn x => x x
row_2 : of
    (ExpPhrase.Fn (Rules.Rule (PatPhrase.Long (long (codes "x" ∷ []) 4) (at 4)) (ExpPhrase.App (ExpPhrase.Long (long
    (codes "x" ∷ []) 9) (at 9)) (ExpPhrase.Long (long (codes "x" ∷ []) 11) (at 11)) (at 9)) Rules.EndOfRules) (at
    1))
    ≡ (refused 32 9 ([]))
row_2 = refl

-- (fn x => x) = (fn x => x)
row_3 : of
    (ExpPhrase.App (ExpPhrase.Long (long (codes "=" ∷ []) 13) (at 13)) (ExpPhrase.Record (ExpFields.Field (name
    (codes "1") 1) (ExpPhrase.Fn (Rules.Rule (PatPhrase.Long (long (codes "x" ∷ []) 5) (at 5)) (ExpPhrase.Long
    (long (codes "x" ∷ []) 10) (at 10)) Rules.EndOfRules) (at 2)) (ExpFields.Field (name (codes "2") 1)
    (ExpPhrase.Fn (Rules.Rule (PatPhrase.Long (long (codes "x" ∷ []) 19) (at 19)) (ExpPhrase.Long (long (codes "x"
    ∷ []) 24) (at 24)) Rules.EndOfRules) (at 16)) ExpFields.EndOfFields)) (at 1)) (at 1))
    ≡ (refused 33 1 ([]))
row_3 = refl

-- let datatype t = T in T end
row_4 : of
    (ExpPhrase.Let (DecPhrase.Sequence (DecPhrases.Dec (DecPhrase.Datatypes (dat_bind ([]) (name (codes "t") 14)
    (con_bind (name (codes "T") 18) None ∷ []) ∷ []) (at 5)) DecPhrases.EndOfDecs) (at 5)) (ExpPhrase.Long (long
    (codes "T" ∷ []) 23) (at 23)) (at 1))
    ≡ (refused 41 1 ([]))
row_4 = refl

-- 1 : 'a
row_5 : of
    (ExpPhrase.Typed (ExpPhrase.Int (pos 1) (at 1)) (TyPhrase.Var (name (codes "'a") 5) (at 5)) (at 1))
    ≡ (refused 30 5 (codes "'a" ∷ []))
row_5 = refl

-- 1 : nope1 nope2
row_6 : of
    (ExpPhrase.Typed (ExpPhrase.Int (pos 1) (at 1)) (TyPhrase.Named (TyPhrases.Arg (TyPhrase.Named
    TyPhrases.EndOfArgs (long (codes "nope1" ∷ []) 5) (at 5)) TyPhrases.EndOfArgs) (long (codes "nope2" ∷ []) 11)
    (at 5)) (at 1))
    ≡ (refused 30 5 (codes "nope1" ∷ []))
row_6 = refl

-- 1 : int A.nope
row_7 : of
    (ExpPhrase.Typed (ExpPhrase.Int (pos 1) (at 1)) (TyPhrase.Named (TyPhrases.Arg (TyPhrase.Named
    TyPhrases.EndOfArgs (long (codes "int" ∷ []) 5) (at 5)) TyPhrases.EndOfArgs) (long (codes "A" ∷ codes "nope" ∷
    []) 9) (at 5)) (at 1))
    ≡ (refused 30 9 (codes "A.nope" ∷ []))
row_7 = refl

-- 1 : int int
row_8 : of
    (ExpPhrase.Typed (ExpPhrase.Int (pos 1) (at 1)) (TyPhrase.Named (TyPhrases.Arg (TyPhrase.Named
    TyPhrases.EndOfArgs (long (codes "int" ∷ []) 5) (at 5)) TyPhrases.EndOfArgs) (long (codes "int" ∷ []) 9) (at
    5)) (at 1))
    ≡ (refused 35 5 ([]))
row_8 = refl

-- fn x : nope1 -> nope2 => x
row_9 : of
    (ExpPhrase.Fn (Rules.Rule (PatPhrase.Typed (PatPhrase.Long (long (codes "x" ∷ []) 4) (at 4)) (TyPhrase.Arrow
    (TyPhrase.Named TyPhrases.EndOfArgs (long (codes "nope1" ∷ []) 8) (at 8)) (TyPhrase.Named TyPhrases.EndOfArgs
    (long (codes "nope2" ∷ []) 17) (at 17)) (at 8)) (at 4)) (ExpPhrase.Long (long (codes "x" ∷ []) 26) (at 26))
    Rules.EndOfRules) (at 1))
    ≡ (refused 30 8 (codes "nope1" ∷ []))
row_9 = refl

-- fn _ => 1
row_10 : of
    (ExpPhrase.Fn (Rules.Rule (PatPhrase.Wild (at 4)) (ExpPhrase.Int (pos 1) (at 9)) Rules.EndOfRules) (at 1))
    ≡ (accepted (arrow_ty (Ty.Var 0) int_ty))
row_10 = refl

-- fn op nil => nil
row_11 : of
    (ExpPhrase.Fn (Rules.Rule (PatPhrase.Long (long (codes "nil" ∷ []) 7) (at 4)) (ExpPhrase.Long (long (codes "nil"
    ∷ []) 14) (at 14)) Rules.EndOfRules) (at 1))
    ≡ (accepted (arrow_ty (list_ty (Ty.Var 0)) (list_ty (Ty.Var 1))))
row_11 = refl

-- fn op :: => 1, without `::` in the environment
row_12 : of
    (ExpPhrase.Fn (Rules.Rule (PatPhrase.Long (long (codes "::" ∷ []) 7) (at 4)) (ExpPhrase.Int (pos 1) (at 13))
    Rules.EndOfRules) (at 1))
    ≡ (refused 34 4 ([]))
row_12 = refl

-- fn (x, op x) => nope
row_13 : of
    (ExpPhrase.Fn (Rules.Rule (PatPhrase.Record (PatFields.Field (name (codes "1") 4) (PatPhrase.Long (long (codes
    "x" ∷ []) 5) (at 5)) (PatFields.Field (name (codes "2") 4) (PatPhrase.Long (long (codes "x" ∷ []) 11) (at 8))
    PatFields.EndOfFields)) (at 4)) (ExpPhrase.Long (long (codes "nope" ∷ []) 17) (at 17)) Rules.EndOfRules) (at
    1))
    ≡ (refused 40 8 ([]))
row_13 = refl

-- fn A.nope => 1
row_14 : of
    (ExpPhrase.Fn (Rules.Rule (PatPhrase.Long (long (codes "A" ∷ codes "nope" ∷ []) 4) (at 4)) (ExpPhrase.Int (pos
    1) (at 14)) Rules.EndOfRules) (at 1))
    ≡ (refused 30 4 (codes "A.nope" ∷ []))
row_14 = refl

-- fn A.x => 1
row_15 : of
    (ExpPhrase.Fn (Rules.Rule (PatPhrase.Long (long (codes "A" ∷ codes "x" ∷ []) 4) (at 4)) (ExpPhrase.Int (pos 1)
    (at 11)) Rules.EndOfRules) (at 1))
    ≡ (refused 34 4 ([]))
row_15 = refl

-- fn SOME => 1
row_16 : of
    (ExpPhrase.Fn (Rules.Rule (PatPhrase.Long (long (codes "SOME" ∷ []) 4) (at 4)) (ExpPhrase.Int (pos 1) (at 12))
    Rules.EndOfRules) (at 1))
    ≡ (refused 34 4 ([]))
row_16 = refl

-- fn op nope (x, x) => 1
row_17 : of
    (ExpPhrase.Fn (Rules.Rule (PatPhrase.Con (long (codes "nope" ∷ []) 7) (PatPhrase.Record (PatFields.Field (name
    (codes "1") 12) (PatPhrase.Long (long (codes "x" ∷ []) 13) (at 13)) (PatFields.Field (name (codes "2") 12)
    (PatPhrase.Long (long (codes "x" ∷ []) 16) (at 16)) PatFields.EndOfFields)) (at 12)) (at 4)) (ExpPhrase.Int
    (pos 1) (at 22)) Rules.EndOfRules) (at 1))
    ≡ (refused 30 7 (codes "nope" ∷ []))
row_17 = refl

-- fn op nil (x, x) => 1
row_18 : of
    (ExpPhrase.Fn (Rules.Rule (PatPhrase.Con (long (codes "nil" ∷ []) 7) (PatPhrase.Record (PatFields.Field (name
    (codes "1") 11) (PatPhrase.Long (long (codes "x" ∷ []) 12) (at 12)) (PatFields.Field (name (codes "2") 11)
    (PatPhrase.Long (long (codes "x" ∷ []) 15) (at 15)) PatFields.EndOfFields)) (at 11)) (at 4)) (ExpPhrase.Int
    (pos 1) (at 21)) Rules.EndOfRules) (at 1))
    ≡ (refused 40 15 ([]))
row_18 = refl

-- fn op nil x => 1
row_19 : of
    (ExpPhrase.Fn (Rules.Rule (PatPhrase.Con (long (codes "nil" ∷ []) 7) (PatPhrase.Long (long (codes "x" ∷ []) 11)
    (at 11)) (at 4)) (ExpPhrase.Int (pos 1) (at 17)) Rules.EndOfRules) (at 1))
    ≡ (refused 34 4 ([]))
row_19 = refl

-- fn A.x y => 1
row_20 : of
    (ExpPhrase.Fn (Rules.Rule (PatPhrase.Con (long (codes "A" ∷ codes "x" ∷ []) 4) (PatPhrase.Long (long (codes "y"
    ∷ []) 8) (at 8)) (at 4)) (ExpPhrase.Int (pos 1) (at 13)) Rules.EndOfRules) (at 1))
    ≡ (refused 34 4 ([]))
row_20 = refl

-- fn SOME 1 => 2
row_21 : of
    (ExpPhrase.Fn (Rules.Rule (PatPhrase.Con (long (codes "SOME" ∷ []) 4) (PatPhrase.Int (pos 1) (at 9)) (at 4))
    (ExpPhrase.Int (pos 1) (at 14)) Rules.EndOfRules) (at 1))
    ≡ (accepted (arrow_ty (option_ty int_ty) int_ty))
row_21 = refl

-- fn (1 : nope) => 2
row_22 : of
    (ExpPhrase.Fn (Rules.Rule (PatPhrase.Typed (PatPhrase.Int (pos 1) (at 5)) (TyPhrase.Named TyPhrases.EndOfArgs
    (long (codes "nope" ∷ []) 9) (at 9)) (at 5)) (ExpPhrase.Int (pos 1) (at 18)) Rules.EndOfRules) (at 1))
    ≡ (refused 30 9 (codes "nope" ∷ []))
row_22 = refl

-- fn (1 : string) => 2
row_23 : of
    (ExpPhrase.Fn (Rules.Rule (PatPhrase.Typed (PatPhrase.Int (pos 1) (at 5)) (TyPhrase.Named TyPhrases.EndOfArgs
    (long (codes "string" ∷ []) 9) (at 9)) (at 5)) (ExpPhrase.Int (pos 1) (at 20)) Rules.EndOfRules) (at 1))
    ≡ (refused 31 5 ([]))
row_23 = refl

-- fn op x : int as y => y "a"
row_24 : of
    (ExpPhrase.Fn (Rules.Rule (PatPhrase.As (name (codes "x") 7) (Some (TyPhrase.Named TyPhrases.EndOfArgs (long
    (codes "int" ∷ []) 11) (at 11))) (PatPhrase.Long (long (codes "y" ∷ []) 18) (at 18)) (at 4)) (ExpPhrase.App
    (ExpPhrase.Long (long (codes "y" ∷ []) 23) (at 23)) (ExpPhrase.Str [] (at 25)) (at 23)) Rules.EndOfRules) (at
    1))
    ≡ (refused 31 23 ([]))
row_24 = refl

-- fn op nil : nope as y => y
row_25 : of
    (ExpPhrase.Fn (Rules.Rule (PatPhrase.As (name (codes "nil") 7) (Some (TyPhrase.Named TyPhrases.EndOfArgs (long
    (codes "nope" ∷ []) 13) (at 13))) (PatPhrase.Long (long (codes "y" ∷ []) 21) (at 21)) (at 4)) (ExpPhrase.Long
    (long (codes "y" ∷ []) 26) (at 26)) Rules.EndOfRules) (at 1))
    ≡ (refused 34 4 ([]))
row_25 = refl

-- fn op :: : nope as y => y, without `::` in the environment
row_26 : of
    (ExpPhrase.Fn (Rules.Rule (PatPhrase.As (name (codes "::") 7) (Some (TyPhrase.Named TyPhrases.EndOfArgs (long
    (codes "nope" ∷ []) 12) (at 12))) (PatPhrase.Long (long (codes "y" ∷ []) 20) (at 20)) (at 4)) (ExpPhrase.Long
    (long (codes "y" ∷ []) 25) (at 25)) Rules.EndOfRules) (at 1))
    ≡ (refused 34 7 ([]))
row_26 = refl

-- fn x : int as "s" => x
row_27 : of
    (ExpPhrase.Fn (Rules.Rule (PatPhrase.As (name (codes "x") 4) (Some (TyPhrase.Named TyPhrases.EndOfArgs (long
    (codes "int" ∷ []) 8) (at 8))) (PatPhrase.Str [] (at 15)) (at 4)) (ExpPhrase.Long (long (codes "x" ∷ []) 22)
    (at 22)) Rules.EndOfRules) (at 1))
    ≡ (refused 31 4 ([]))
row_27 = refl

-- fn {b = x, a = x} => x
row_28 : of
    (ExpPhrase.Fn (Rules.Rule (PatPhrase.Record (PatFields.Field (name (codes "b") 5) (PatPhrase.Long (long (codes
    "x" ∷ []) 9) (at 9)) (PatFields.Field (name (codes "a") 12) (PatPhrase.Long (long (codes "x" ∷ []) 16) (at
    16)) PatFields.EndOfFields)) (at 4)) (ExpPhrase.Long (long (codes "x" ∷ []) 22) (at 22)) Rules.EndOfRules) (at
    1))
    ≡ (refused 40 16 ([]))
row_28 = refl

-- fn {b = 1, a = x} => x
row_29 : of
    (ExpPhrase.Fn (Rules.Rule (PatPhrase.Record (PatFields.Field (name (codes "b") 5) (PatPhrase.Int (pos 1) (at 9))
    (PatFields.Field (name (codes "a") 12) (PatPhrase.Long (long (codes "x" ∷ []) 16) (at 16))
    PatFields.EndOfFields)) (at 4)) (ExpPhrase.Long (long (codes "x" ∷ []) 22) (at 22)) Rules.EndOfRules) (at 1))
    ≡ (accepted (arrow_ty (record_ty ((codes "a", Ty.Var 0) ∷ (codes "b", int_ty) ∷ [])) (Ty.Var 0)))
row_29 = refl

-- fn {a = 1, a = nope 1} => 1
row_30 : of
    (ExpPhrase.Fn (Rules.Rule (PatPhrase.Record (PatFields.Field (name (codes "a") 5) (PatPhrase.Int (pos 1) (at 9))
    (PatFields.Field (name (codes "a") 12) (PatPhrase.Con (long (codes "nope" ∷ []) 16) (PatPhrase.Int (pos 1) (at
    21)) (at 16)) PatFields.EndOfFields)) (at 4)) (ExpPhrase.Int (pos 1) (at 27)) Rules.EndOfRules) (at 1))
    ≡ (refused 40 12 ([]))
row_30 = refl

-- op A.nope
row_31 : of
    (ExpPhrase.Long (long (codes "A" ∷ codes "nope" ∷ []) 4) (at 1))
    ≡ (refused 30 4 (codes "A.nope" ∷ []))
row_31 = refl

-- {b = nope1, a = nope2}
row_32 : of
    (ExpPhrase.Record (ExpFields.Field (name (codes "b") 2) (ExpPhrase.Long (long (codes "nope1" ∷ []) 6) (at 6))
    (ExpFields.Field (name (codes "a") 13) (ExpPhrase.Long (long (codes "nope2" ∷ []) 17) (at 17))
    ExpFields.EndOfFields)) (at 1))
    ≡ (refused 30 6 (codes "nope1" ∷ []))
row_32 = refl

-- 1 nope
row_33 : of
    (ExpPhrase.App (ExpPhrase.Int (pos 1) (at 1)) (ExpPhrase.Long (long (codes "nope" ∷ []) 3) (at 3)) (at 1))
    ≡ (refused 30 3 (codes "nope" ∷ []))
row_33 = refl

-- nope1 nope2
row_34 : of
    (ExpPhrase.App (ExpPhrase.Long (long (codes "nope1" ∷ []) 1) (at 1)) (ExpPhrase.Long (long (codes "nope2" ∷ [])
    7) (at 7)) (at 1))
    ≡ (refused 30 1 (codes "nope1" ∷ []))
row_34 = refl

-- nope1 handle _ => nope2
row_35 : of
    (ExpPhrase.Handle (ExpPhrase.Long (long (codes "nope1" ∷ []) 1) (at 1)) (Rules.Rule (PatPhrase.Wild (at 14))
    (ExpPhrase.Long (long (codes "nope2" ∷ []) 19) (at 19)) Rules.EndOfRules) (at 1))
    ≡ (refused 30 1 (codes "nope1" ∷ []))
row_35 = refl

-- let val x : nope1 = nope2 in 1 end
row_36 : of
    (ExpPhrase.Let (DecPhrase.Sequence (DecPhrases.Dec (DecPhrase.Val ([]) (Rules.Rule (PatPhrase.Typed
    (PatPhrase.Long (long (codes "x" ∷ []) 9) (at 9)) (TyPhrase.Named TyPhrases.EndOfArgs (long (codes "nope1" ∷
    []) 13) (at 13)) (at 9)) (ExpPhrase.Long (long (codes "nope2" ∷ []) 21) (at 21)) Rules.EndOfRules)
    Rules.EndOfRules (at 5)) DecPhrases.EndOfDecs) (at 5)) (ExpPhrase.Int (pos 1) (at 30)) (at 1))
    ≡ (refused 30 13 (codes "nope1" ∷ []))
row_36 = refl

-- 1 1
row_37 : of
    (ExpPhrase.App (ExpPhrase.Int (pos 1) (at 1)) (ExpPhrase.Int (pos 1) (at 3)) (at 1))
    ≡ (refused 31 1 ([]))
row_37 = refl

-- nope1 : nope2
row_38 : of
    (ExpPhrase.Typed (ExpPhrase.Long (long (codes "nope1" ∷ []) 1) (at 1)) (TyPhrase.Named TyPhrases.EndOfArgs (long
    (codes "nope2" ∷ []) 9) (at 9)) (at 1))
    ≡ (refused 30 1 (codes "nope1" ∷ []))
row_38 = refl

-- 1 : string
row_39 : of
    (ExpPhrase.Typed (ExpPhrase.Int (pos 1) (at 1)) (TyPhrase.Named TyPhrases.EndOfArgs (long (codes "string" ∷ [])
    5) (at 5)) (at 1))
    ≡ (refused 31 1 ([]))
row_39 = refl

-- raise 1
row_40 : of
    (ExpPhrase.Raise (ExpPhrase.Int (pos 1) (at 7)) (at 1))
    ≡ (refused 31 1 ([]))
row_40 = refl

-- raise E
row_41 : of
    (ExpPhrase.Raise (ExpPhrase.Long (long (codes "E" ∷ []) 7) (at 7)) (at 1))
    ≡ (accepted (Ty.Var 0))
row_41 = refl

-- 1 handle "s" => nope
row_42 : of
    (ExpPhrase.Handle (ExpPhrase.Int (pos 1) (at 1)) (Rules.Rule (PatPhrase.Str [] (at 10)) (ExpPhrase.Long (long
    (codes "nope" ∷ []) 17) (at 17)) Rules.EndOfRules) (at 1))
    ≡ (refused 30 17 (codes "nope" ∷ []))
row_42 = refl

-- 1 handle "s" => 2
row_43 : of
    (ExpPhrase.Handle (ExpPhrase.Int (pos 1) (at 1)) (Rules.Rule (PatPhrase.Str [] (at 10)) (ExpPhrase.Int (pos 1)
    (at 17)) Rules.EndOfRules) (at 1))
    ≡ (refused 31 1 ([]))
row_43 = refl

-- 1 handle E => "s"
row_44 : of
    (ExpPhrase.Handle (ExpPhrase.Int (pos 1) (at 1)) (Rules.Rule (PatPhrase.Long (long (codes "E" ∷ []) 10) (at 10))
    (ExpPhrase.Str [] (at 15)) Rules.EndOfRules) (at 1))
    ≡ (refused 31 1 ([]))
row_44 = refl

-- fn 1 => 2 | "s" => nope
row_45 : of
    (ExpPhrase.Fn (Rules.Rule (PatPhrase.Int (pos 1) (at 4)) (ExpPhrase.Int (pos 1) (at 9)) (Rules.Rule
    (PatPhrase.Str [] (at 13)) (ExpPhrase.Long (long (codes "nope" ∷ []) 20) (at 20)) Rules.EndOfRules)) (at 1))
    ≡ (refused 31 13 ([]))
row_45 = refl

-- fn 1 => 2 | 2 => "s"
row_46 : of
    (ExpPhrase.Fn (Rules.Rule (PatPhrase.Int (pos 1) (at 4)) (ExpPhrase.Int (pos 1) (at 9)) (Rules.Rule
    (PatPhrase.Int (pos 1) (at 13)) (ExpPhrase.Str [] (at 18)) Rules.EndOfRules)) (at 1))
    ≡ (refused 31 18 ([]))
row_46 = refl

-- fn with no rules, which no source has
row_47 : of
    (ExpPhrase.Fn Rules.EndOfRules (at 1))
    ≡ (accepted (arrow_ty (Ty.Var 0) (Ty.Var 1)))
row_47 = refl

-- let datatype t = T in fn T => 1 end
row_48 : of
    (ExpPhrase.Let (DecPhrase.Sequence (DecPhrases.Dec (DecPhrase.Datatypes (dat_bind ([]) (name (codes "t") 14)
    (con_bind (name (codes "T") 18) None ∷ []) ∷ []) (at 5)) DecPhrases.EndOfDecs) (at 5)) (ExpPhrase.Fn
    (Rules.Rule (PatPhrase.Long (long (codes "T" ∷ []) 26) (at 26)) (ExpPhrase.Int (pos 1) (at 31))
    Rules.EndOfRules) (at 23)) (at 1))
    ≡ (refused 41 1 ([]))
row_48 = refl

-- let datatype t = T in (fn T => 1) T end
row_49 : of
    (ExpPhrase.Let (DecPhrase.Sequence (DecPhrases.Dec (DecPhrase.Datatypes (dat_bind ([]) (name (codes "t") 14)
    (con_bind (name (codes "T") 18) None ∷ []) ∷ []) (at 5)) DecPhrases.EndOfDecs) (at 5)) (ExpPhrase.App
    (ExpPhrase.Fn (Rules.Rule (PatPhrase.Long (long (codes "T" ∷ []) 27) (at 27)) (ExpPhrase.Int (pos 1) (at 32))
    Rules.EndOfRules) (at 24)) (ExpPhrase.Long (long (codes "T" ∷ []) 35) (at 35)) (at 23)) (at 1))
    ≡ (accepted int_ty)
row_49 = refl

-- let val x = fn y => y in (x 1, x "s") end
row_50 : of
    (ExpPhrase.Let (DecPhrase.Sequence (DecPhrases.Dec (DecPhrase.Val ([]) (Rules.Rule (PatPhrase.Long (long (codes
    "x" ∷ []) 9) (at 9)) (ExpPhrase.Fn (Rules.Rule (PatPhrase.Long (long (codes "y" ∷ []) 16) (at 16))
    (ExpPhrase.Long (long (codes "y" ∷ []) 21) (at 21)) Rules.EndOfRules) (at 13)) Rules.EndOfRules)
    Rules.EndOfRules (at 5)) DecPhrases.EndOfDecs) (at 5)) (ExpPhrase.Record (ExpFields.Field (name (codes "1")
    26) (ExpPhrase.App (ExpPhrase.Long (long (codes "x" ∷ []) 27) (at 27)) (ExpPhrase.Int (pos 1) (at 29)) (at
    27)) (ExpFields.Field (name (codes "2") 26) (ExpPhrase.App (ExpPhrase.Long (long (codes "x" ∷ []) 32) (at 32))
    (ExpPhrase.Str [] (at 34)) (at 32)) ExpFields.EndOfFields)) (at 26)) (at 1))
    ≡ (accepted (pair_ty int_ty string_ty))
row_50 = refl

-- let val x = (fn y => y) (fn y => y) in (x 1, x "s") end
row_51 : of
    (ExpPhrase.Let (DecPhrase.Sequence (DecPhrases.Dec (DecPhrase.Val ([]) (Rules.Rule (PatPhrase.Long (long (codes
    "x" ∷ []) 9) (at 9)) (ExpPhrase.App (ExpPhrase.Fn (Rules.Rule (PatPhrase.Long (long (codes "y" ∷ []) 17) (at
    17)) (ExpPhrase.Long (long (codes "y" ∷ []) 22) (at 22)) Rules.EndOfRules) (at 14)) (ExpPhrase.Fn (Rules.Rule
    (PatPhrase.Long (long (codes "y" ∷ []) 29) (at 29)) (ExpPhrase.Long (long (codes "y" ∷ []) 34) (at 34))
    Rules.EndOfRules) (at 26)) (at 13)) Rules.EndOfRules) Rules.EndOfRules (at 5)) DecPhrases.EndOfDecs) (at 5))
    (ExpPhrase.Record (ExpFields.Field (name (codes "1") 40) (ExpPhrase.App (ExpPhrase.Long (long (codes "x" ∷ [])
    41) (at 41)) (ExpPhrase.Int (pos 1) (at 43)) (at 41)) (ExpFields.Field (name (codes "2") 40) (ExpPhrase.App
    (ExpPhrase.Long (long (codes "x" ∷ []) 46) (at 46)) (ExpPhrase.Str [] (at 48)) (at 46))
    ExpFields.EndOfFields)) (at 40)) (at 1))
    ≡ (refused 31 46 ([]))
row_51 = refl

-- fn x => let val y = x in (y 1, y "s") end
row_52 : of
    (ExpPhrase.Fn (Rules.Rule (PatPhrase.Long (long (codes "x" ∷ []) 4) (at 4)) (ExpPhrase.Let (DecPhrase.Sequence
    (DecPhrases.Dec (DecPhrase.Val ([]) (Rules.Rule (PatPhrase.Long (long (codes "y" ∷ []) 17) (at 17))
    (ExpPhrase.Long (long (codes "x" ∷ []) 21) (at 21)) Rules.EndOfRules) Rules.EndOfRules (at 13))
    DecPhrases.EndOfDecs) (at 13)) (ExpPhrase.Record (ExpFields.Field (name (codes "1") 26) (ExpPhrase.App
    (ExpPhrase.Long (long (codes "y" ∷ []) 27) (at 27)) (ExpPhrase.Int (pos 1) (at 29)) (at 27)) (ExpFields.Field
    (name (codes "2") 26) (ExpPhrase.App (ExpPhrase.Long (long (codes "y" ∷ []) 32) (at 32)) (ExpPhrase.Str [] (at
    34)) (at 32)) ExpFields.EndOfFields)) (at 26)) (at 9)) Rules.EndOfRules) (at 1))
    ≡ (refused 31 32 ([]))
row_52 = refl

-- let val x = SOME nil in (x : int list option, x : string list option) end
row_53 : of
    (ExpPhrase.Let (DecPhrase.Sequence (DecPhrases.Dec (DecPhrase.Val ([]) (Rules.Rule (PatPhrase.Long (long (codes
    "x" ∷ []) 9) (at 9)) (ExpPhrase.App (ExpPhrase.Long (long (codes "SOME" ∷ []) 13) (at 13)) (ExpPhrase.Long
    (long (codes "nil" ∷ []) 18) (at 18)) (at 13)) Rules.EndOfRules) Rules.EndOfRules (at 5))
    DecPhrases.EndOfDecs) (at 5)) (ExpPhrase.Record (ExpFields.Field (name (codes "1") 25) (ExpPhrase.Typed
    (ExpPhrase.Long (long (codes "x" ∷ []) 26) (at 26)) (TyPhrase.Named (TyPhrases.Arg (TyPhrase.Named
    (TyPhrases.Arg (TyPhrase.Named TyPhrases.EndOfArgs (long (codes "int" ∷ []) 30) (at 30)) TyPhrases.EndOfArgs)
    (long (codes "list" ∷ []) 34) (at 30)) TyPhrases.EndOfArgs) (long (codes "option" ∷ []) 39) (at 30)) (at 26))
    (ExpFields.Field (name (codes "2") 25) (ExpPhrase.Typed (ExpPhrase.Long (long (codes "x" ∷ []) 47) (at 47))
    (TyPhrase.Named (TyPhrases.Arg (TyPhrase.Named (TyPhrases.Arg (TyPhrase.Named TyPhrases.EndOfArgs (long (codes
    "string" ∷ []) 51) (at 51)) TyPhrases.EndOfArgs) (long (codes "list" ∷ []) 58) (at 51)) TyPhrases.EndOfArgs)
    (long (codes "option" ∷ []) 63) (at 51)) (at 47)) ExpFields.EndOfFields)) (at 25)) (at 1))
    ≡ (accepted (pair_ty (option_ty (list_ty int_ty)) (option_ty (list_ty string_ty))))
row_53 = refl

-- let val x = ref nil in (x : int list ref, x : string list ref) end
row_54 : of
    (ExpPhrase.Let (DecPhrase.Sequence (DecPhrases.Dec (DecPhrase.Val ([]) (Rules.Rule (PatPhrase.Long (long (codes
    "x" ∷ []) 9) (at 9)) (ExpPhrase.App (ExpPhrase.Long (long (codes "ref" ∷ []) 13) (at 13)) (ExpPhrase.Long
    (long (codes "nil" ∷ []) 17) (at 17)) (at 13)) Rules.EndOfRules) Rules.EndOfRules (at 5))
    DecPhrases.EndOfDecs) (at 5)) (ExpPhrase.Record (ExpFields.Field (name (codes "1") 24) (ExpPhrase.Typed
    (ExpPhrase.Long (long (codes "x" ∷ []) 25) (at 25)) (TyPhrase.Named (TyPhrases.Arg (TyPhrase.Named
    (TyPhrases.Arg (TyPhrase.Named TyPhrases.EndOfArgs (long (codes "int" ∷ []) 29) (at 29)) TyPhrases.EndOfArgs)
    (long (codes "list" ∷ []) 33) (at 29)) TyPhrases.EndOfArgs) (long (codes "ref" ∷ []) 38) (at 29)) (at 25))
    (ExpFields.Field (name (codes "2") 24) (ExpPhrase.Typed (ExpPhrase.Long (long (codes "x" ∷ []) 43) (at 43))
    (TyPhrase.Named (TyPhrases.Arg (TyPhrase.Named (TyPhrases.Arg (TyPhrase.Named TyPhrases.EndOfArgs (long (codes
    "string" ∷ []) 47) (at 47)) TyPhrases.EndOfArgs) (long (codes "list" ∷ []) 54) (at 47)) TyPhrases.EndOfArgs)
    (long (codes "ref" ∷ []) 59) (at 47)) (at 43)) ExpFields.EndOfFields)) (at 24)) (at 1))
    ≡ (refused 31 43 ([]))
row_54 = refl

-- let val x = 1 and x = nope in 1 end
row_55 : of
    (ExpPhrase.Let (DecPhrase.Sequence (DecPhrases.Dec (DecPhrase.Val ([]) (Rules.Rule (PatPhrase.Long (long (codes
    "x" ∷ []) 9) (at 9)) (ExpPhrase.Int (pos 1) (at 13)) (Rules.Rule (PatPhrase.Long (long (codes "x" ∷ []) 19)
    (at 19)) (ExpPhrase.Long (long (codes "nope" ∷ []) 23) (at 23)) Rules.EndOfRules)) Rules.EndOfRules (at 5))
    DecPhrases.EndOfDecs) (at 5)) (ExpPhrase.Int (pos 1) (at 31)) (at 1))
    ≡ (refused 40 19 ([]))
row_55 = refl

-- let val 1 = "s" and x = nope in 1 end
row_56 : of
    (ExpPhrase.Let (DecPhrase.Sequence (DecPhrases.Dec (DecPhrase.Val ([]) (Rules.Rule (PatPhrase.Int (pos 1) (at
    9)) (ExpPhrase.Str [] (at 13)) (Rules.Rule (PatPhrase.Long (long (codes "x" ∷ []) 21) (at 21)) (ExpPhrase.Long
    (long (codes "nope" ∷ []) 25) (at 25)) Rules.EndOfRules)) Rules.EndOfRules (at 5)) DecPhrases.EndOfDecs) (at
    5)) (ExpPhrase.Int (pos 1) (at 33)) (at 1))
    ≡ (refused 31 9 ([]))
row_56 = refl

-- let val rec f = fn x => nope and _ = fn x => x in 1 end
row_57 : of
    (ExpPhrase.Let (DecPhrase.Sequence (DecPhrases.Dec (DecPhrase.Val ([]) Rules.EndOfRules (Rules.Rule
    (PatPhrase.Long (long (codes "f" ∷ []) 13) (at 13)) (ExpPhrase.Fn (Rules.Rule (PatPhrase.Long (long (codes "x"
    ∷ []) 20) (at 20)) (ExpPhrase.Long (long (codes "nope" ∷ []) 25) (at 25)) Rules.EndOfRules) (at 17))
    (Rules.Rule (PatPhrase.Wild (at 34)) (ExpPhrase.Fn (Rules.Rule (PatPhrase.Long (long (codes "x" ∷ []) 41) (at
    41)) (ExpPhrase.Long (long (codes "x" ∷ []) 46) (at 46)) Rules.EndOfRules) (at 38)) Rules.EndOfRules)) (at 5))
    DecPhrases.EndOfDecs) (at 5)) (ExpPhrase.Int (pos 1) (at 51)) (at 1))
    ≡ (refused 34 34 ([]))
row_57 = refl

-- let val rec f = fn x => f in 1 end
row_58 : of
    (ExpPhrase.Let (DecPhrase.Sequence (DecPhrases.Dec (DecPhrase.Val ([]) Rules.EndOfRules (Rules.Rule
    (PatPhrase.Long (long (codes "f" ∷ []) 13) (at 13)) (ExpPhrase.Fn (Rules.Rule (PatPhrase.Long (long (codes "x"
    ∷ []) 20) (at 20)) (ExpPhrase.Long (long (codes "f" ∷ []) 25) (at 25)) Rules.EndOfRules) (at 17))
    Rules.EndOfRules) (at 5)) DecPhrases.EndOfDecs) (at 5)) (ExpPhrase.Int (pos 1) (at 30)) (at 1))
    ≡ (refused 32 13 ([]))
row_58 = refl

-- let val rec (f : int -> int) = fn x => x in f end
row_59 : of
    (ExpPhrase.Let (DecPhrase.Sequence (DecPhrases.Dec (DecPhrase.Val ([]) Rules.EndOfRules (Rules.Rule
    (PatPhrase.Typed (PatPhrase.Long (long (codes "f" ∷ []) 14) (at 14)) (TyPhrase.Arrow (TyPhrase.Named
    TyPhrases.EndOfArgs (long (codes "int" ∷ []) 18) (at 18)) (TyPhrase.Named TyPhrases.EndOfArgs (long (codes
    "int" ∷ []) 25) (at 25)) (at 18)) (at 14)) (ExpPhrase.Fn (Rules.Rule (PatPhrase.Long (long (codes "x" ∷ [])
    35) (at 35)) (ExpPhrase.Long (long (codes "x" ∷ []) 40) (at 40)) Rules.EndOfRules) (at 32)) Rules.EndOfRules)
    (at 5)) DecPhrases.EndOfDecs) (at 5)) (ExpPhrase.Long (long (codes "f" ∷ []) 45) (at 45)) (at 1))
    ≡ (accepted (arrow_ty int_ty int_ty))
row_59 = refl

-- let val ('a, 'a) x = 1 in 1 end
row_60 : of
    (ExpPhrase.Let (DecPhrase.Sequence (DecPhrases.Dec (DecPhrase.Val ((name (codes "'a") 10) ∷ (name (codes "'a")
    14) ∷ []) (Rules.Rule (PatPhrase.Long (long (codes "x" ∷ []) 18) (at 18)) (ExpPhrase.Int (pos 1) (at 22))
    Rules.EndOfRules) Rules.EndOfRules (at 5)) DecPhrases.EndOfDecs) (at 5)) (ExpPhrase.Int (pos 1) (at 27)) (at
    1))
    ≡ (refused 40 14 ([]))
row_60 = refl

-- let val x : 'a list ref = ref nil in 1 end
row_61 : of
    (ExpPhrase.Let (DecPhrase.Sequence (DecPhrases.Dec (DecPhrase.Val ([]) (Rules.Rule (PatPhrase.Typed
    (PatPhrase.Long (long (codes "x" ∷ []) 9) (at 9)) (TyPhrase.Named (TyPhrases.Arg (TyPhrase.Named
    (TyPhrases.Arg (TyPhrase.Var (name (codes "'a") 13) (at 13)) TyPhrases.EndOfArgs) (long (codes "list" ∷ [])
    16) (at 13)) TyPhrases.EndOfArgs) (long (codes "ref" ∷ []) 21) (at 13)) (at 9)) (ExpPhrase.App (ExpPhrase.Long
    (long (codes "ref" ∷ []) 27) (at 27)) (ExpPhrase.Long (long (codes "nil" ∷ []) 31) (at 31)) (at 27))
    Rules.EndOfRules) Rules.EndOfRules (at 5)) DecPhrases.EndOfDecs) (at 5)) (ExpPhrase.Int (pos 1) (at 38)) (at
    1))
    ≡ (refused 37 5 (codes "'a" ∷ []))
row_61 = refl

-- let val x = case ref nil : 'b list ref of y => (nil : 'a list, y) in 1 end
row_62 : of
    (ExpPhrase.Let (DecPhrase.Sequence (DecPhrases.Dec (DecPhrase.Val ([]) (Rules.Rule (PatPhrase.Long (long (codes
    "x" ∷ []) 9) (at 9)) (ExpPhrase.App (ExpPhrase.Fn (Rules.Rule (PatPhrase.Long (long (codes "y" ∷ []) 43) (at
    43)) (ExpPhrase.Record (ExpFields.Field (name (codes "1") 48) (ExpPhrase.Typed (ExpPhrase.Long (long (codes
    "nil" ∷ []) 49) (at 49)) (TyPhrase.Named (TyPhrases.Arg (TyPhrase.Var (name (codes "'a") 55) (at 55))
    TyPhrases.EndOfArgs) (long (codes "list" ∷ []) 58) (at 55)) (at 49)) (ExpFields.Field (name (codes "2") 48)
    (ExpPhrase.Long (long (codes "y" ∷ []) 64) (at 64)) ExpFields.EndOfFields)) (at 48)) Rules.EndOfRules) (at
    13)) (ExpPhrase.Typed (ExpPhrase.App (ExpPhrase.Long (long (codes "ref" ∷ []) 18) (at 18)) (ExpPhrase.Long
    (long (codes "nil" ∷ []) 22) (at 22)) (at 18)) (TyPhrase.Named (TyPhrases.Arg (TyPhrase.Named (TyPhrases.Arg
    (TyPhrase.Var (name (codes "'b") 28) (at 28)) TyPhrases.EndOfArgs) (long (codes "list" ∷ []) 31) (at 28))
    TyPhrases.EndOfArgs) (long (codes "ref" ∷ []) 36) (at 28)) (at 18)) (at 13)) Rules.EndOfRules)
    Rules.EndOfRules (at 5)) DecPhrases.EndOfDecs) (at 5)) (ExpPhrase.Int (pos 1) (at 70)) (at 1))
    ≡ (refused 37 5 (codes "'b" ∷ []))
row_62 = refl

-- fn x => let val y : 'a = x in 1 end
row_63 : of
    (ExpPhrase.Fn (Rules.Rule (PatPhrase.Long (long (codes "x" ∷ []) 4) (at 4)) (ExpPhrase.Let (DecPhrase.Sequence
    (DecPhrases.Dec (DecPhrase.Val ([]) (Rules.Rule (PatPhrase.Typed (PatPhrase.Long (long (codes "y" ∷ []) 17)
    (at 17)) (TyPhrase.Var (name (codes "'a") 21) (at 21)) (at 17)) (ExpPhrase.Long (long (codes "x" ∷ []) 26) (at
    26)) Rules.EndOfRules) Rules.EndOfRules (at 13)) DecPhrases.EndOfDecs) (at 13)) (ExpPhrase.Int (pos 1) (at
    31)) (at 9)) Rules.EndOfRules) (at 1))
    ≡ (refused 37 13 (codes "'a" ∷ []))
row_63 = refl

-- let val f = fn x : 'a => x 1 in f end
row_64 : of
    (ExpPhrase.Let (DecPhrase.Sequence (DecPhrases.Dec (DecPhrase.Val ([]) (Rules.Rule (PatPhrase.Long (long (codes
    "f" ∷ []) 9) (at 9)) (ExpPhrase.Fn (Rules.Rule (PatPhrase.Typed (PatPhrase.Long (long (codes "x" ∷ []) 16) (at
    16)) (TyPhrase.Var (name (codes "'a") 20) (at 20)) (at 16)) (ExpPhrase.App (ExpPhrase.Long (long (codes "x" ∷
    []) 26) (at 26)) (ExpPhrase.Int (pos 1) (at 28)) (at 26)) Rules.EndOfRules) (at 13)) Rules.EndOfRules)
    Rules.EndOfRules (at 5)) DecPhrases.EndOfDecs) (at 5)) (ExpPhrase.Long (long (codes "f" ∷ []) 33) (at 33)) (at
    1))
    ≡ (refused 31 26 ([]))
row_64 = refl

-- let val f = fn x : ''a => x in f (fn y => y) end
row_65 : of
    (ExpPhrase.Let (DecPhrase.Sequence (DecPhrases.Dec (DecPhrase.Val ([]) (Rules.Rule (PatPhrase.Long (long (codes
    "f" ∷ []) 9) (at 9)) (ExpPhrase.Fn (Rules.Rule (PatPhrase.Typed (PatPhrase.Long (long (codes "x" ∷ []) 16) (at
    16)) (TyPhrase.Var (name (codes "''a") 20) (at 20)) (at 16)) (ExpPhrase.Long (long (codes "x" ∷ []) 27) (at
    27)) Rules.EndOfRules) (at 13)) Rules.EndOfRules) Rules.EndOfRules (at 5)) DecPhrases.EndOfDecs) (at 5))
    (ExpPhrase.App (ExpPhrase.Long (long (codes "f" ∷ []) 32) (at 32)) (ExpPhrase.Fn (Rules.Rule (PatPhrase.Long
    (long (codes "y" ∷ []) 38) (at 38)) (ExpPhrase.Long (long (codes "y" ∷ []) 43) (at 43)) Rules.EndOfRules) (at
    35)) (at 32)) (at 1))
    ≡ (refused 33 32 ([]))
row_65 = refl

-- fn f (x : 'a) as an outer val: let val f = fn x : 'a => let val y = (nil : 'a list) in (y : 'a list, y : int list) end in 1 end
row_66 : of
    (ExpPhrase.Let (DecPhrase.Sequence (DecPhrases.Dec (DecPhrase.Val ([]) (Rules.Rule (PatPhrase.Long (long (codes
    "f" ∷ []) 9) (at 9)) (ExpPhrase.Fn (Rules.Rule (PatPhrase.Typed (PatPhrase.Long (long (codes "x" ∷ []) 16) (at
    16)) (TyPhrase.Var (name (codes "'a") 20) (at 20)) (at 16)) (ExpPhrase.Let (DecPhrase.Sequence (DecPhrases.Dec
    (DecPhrase.Val ([]) (Rules.Rule (PatPhrase.Long (long (codes "y" ∷ []) 34) (at 34)) (ExpPhrase.Typed
    (ExpPhrase.Long (long (codes "nil" ∷ []) 39) (at 39)) (TyPhrase.Named (TyPhrases.Arg (TyPhrase.Var (name
    (codes "'a") 45) (at 45)) TyPhrases.EndOfArgs) (long (codes "list" ∷ []) 48) (at 45)) (at 39))
    Rules.EndOfRules) Rules.EndOfRules (at 30)) DecPhrases.EndOfDecs) (at 30)) (ExpPhrase.Record (ExpFields.Field
    (name (codes "1") 57) (ExpPhrase.Typed (ExpPhrase.Long (long (codes "y" ∷ []) 58) (at 58)) (TyPhrase.Named
    (TyPhrases.Arg (TyPhrase.Var (name (codes "'a") 62) (at 62)) TyPhrases.EndOfArgs) (long (codes "list" ∷ [])
    65) (at 62)) (at 58)) (ExpFields.Field (name (codes "2") 57) (ExpPhrase.Typed (ExpPhrase.Long (long (codes "y"
    ∷ []) 71) (at 71)) (TyPhrase.Named (TyPhrases.Arg (TyPhrase.Named TyPhrases.EndOfArgs (long (codes "int" ∷ [])
    75) (at 75)) TyPhrases.EndOfArgs) (long (codes "list" ∷ []) 79) (at 75)) (at 71)) ExpFields.EndOfFields)) (at
    57)) (at 26)) Rules.EndOfRules) (at 13)) Rules.EndOfRules) Rules.EndOfRules (at 5)) DecPhrases.EndOfDecs) (at
    5)) (ExpPhrase.Int (pos 1) (at 93)) (at 1))
    ≡ (refused 31 71 ([]))
row_66 = refl

-- let val f = fn () => let val y = (nil : 'a list) in (y, nil : 'a list) end in f end
row_67 : of
    (ExpPhrase.Let (DecPhrase.Sequence (DecPhrases.Dec (DecPhrase.Val ([]) (Rules.Rule (PatPhrase.Long (long (codes
    "f" ∷ []) 9) (at 9)) (ExpPhrase.Fn (Rules.Rule (PatPhrase.Record PatFields.EndOfFields (at 16)) (ExpPhrase.Let
    (DecPhrase.Sequence (DecPhrases.Dec (DecPhrase.Val ([]) (Rules.Rule (PatPhrase.Long (long (codes "y" ∷ []) 30)
    (at 30)) (ExpPhrase.Typed (ExpPhrase.Long (long (codes "nil" ∷ []) 35) (at 35)) (TyPhrase.Named (TyPhrases.Arg
    (TyPhrase.Var (name (codes "'a") 41) (at 41)) TyPhrases.EndOfArgs) (long (codes "list" ∷ []) 44) (at 41)) (at
    35)) Rules.EndOfRules) Rules.EndOfRules (at 26)) DecPhrases.EndOfDecs) (at 26)) (ExpPhrase.Record
    (ExpFields.Field (name (codes "1") 53) (ExpPhrase.Long (long (codes "y" ∷ []) 54) (at 54)) (ExpFields.Field
    (name (codes "2") 53) (ExpPhrase.Typed (ExpPhrase.Long (long (codes "nil" ∷ []) 57) (at 57)) (TyPhrase.Named
    (TyPhrases.Arg (TyPhrase.Var (name (codes "'a") 63) (at 63)) TyPhrases.EndOfArgs) (long (codes "list" ∷ [])
    66) (at 63)) (at 57)) ExpFields.EndOfFields)) (at 53)) (at 22)) Rules.EndOfRules) (at 13)) Rules.EndOfRules)
    Rules.EndOfRules (at 5)) DecPhrases.EndOfDecs) (at 5)) (ExpPhrase.Long (long (codes "f" ∷ []) 79) (at 79)) (at
    1))
    ≡ (accepted (arrow_ty unit_ty (pair_ty (list_ty (Ty.Var 5)) (list_ty (Ty.Var 5)))))
row_67 = refl

-- let type ('a, 'a) t = int in 1 end
row_68 : of
    (ExpPhrase.Let (DecPhrase.Sequence (DecPhrases.Dec (DecPhrase.Types (type_bind ((name (codes "'a") 11) ∷ (name
    (codes "'a") 15) ∷ []) (name (codes "t") 19) (TyPhrase.Named TyPhrases.EndOfArgs (long (codes "int" ∷ []) 23)
    (at 23)) ∷ []) (at 5)) DecPhrases.EndOfDecs) (at 5)) (ExpPhrase.Int (pos 1) (at 30)) (at 1))
    ≡ (refused 40 15 ([]))
row_68 = refl

-- let type t = int and u = t in 1 end
row_69 : of
    (ExpPhrase.Let (DecPhrase.Sequence (DecPhrases.Dec (DecPhrase.Types (type_bind ([]) (name (codes "t") 10)
    (TyPhrase.Named TyPhrases.EndOfArgs (long (codes "int" ∷ []) 14) (at 14)) ∷ type_bind ([]) (name (codes "u")
    22) (TyPhrase.Named TyPhrases.EndOfArgs (long (codes "t" ∷ []) 26) (at 26)) ∷ []) (at 5))
    DecPhrases.EndOfDecs) (at 5)) (ExpPhrase.Int (pos 1) (at 31)) (at 1))
    ≡ (refused 30 26 (codes "t" ∷ []))
row_69 = refl

-- let type t = int and t = nope in 1 end, which no source has
row_70 : of
    (ExpPhrase.Let (DecPhrase.Sequence (DecPhrases.Dec (DecPhrase.Types (type_bind ([]) (name (codes "t") 10)
    (TyPhrase.Named TyPhrases.EndOfArgs (long (codes "int" ∷ []) 14) (at 14)) ∷ type_bind ([]) (name (codes "t")
    22) (TyPhrase.Named TyPhrases.EndOfArgs (long (codes "nope" ∷ []) 26) (at 26)) ∷ []) (at 5))
    DecPhrases.EndOfDecs) (at 5)) (ExpPhrase.Int (pos 1) (at 34)) (at 1))
    ≡ (refused 40 22 ([]))
row_70 = refl

-- let type ('a, 'b) t = 'b list in fn x : (int, string) t => x end
row_71 : of
    (ExpPhrase.Let (DecPhrase.Sequence (DecPhrases.Dec (DecPhrase.Types (type_bind ((name (codes "'a") 11) ∷ (name
    (codes "'b") 15) ∷ []) (name (codes "t") 19) (TyPhrase.Named (TyPhrases.Arg (TyPhrase.Var (name (codes "'b")
    23) (at 23)) TyPhrases.EndOfArgs) (long (codes "list" ∷ []) 26) (at 23)) ∷ []) (at 5)) DecPhrases.EndOfDecs)
    (at 5)) (ExpPhrase.Fn (Rules.Rule (PatPhrase.Typed (PatPhrase.Long (long (codes "x" ∷ []) 37) (at 37))
    (TyPhrase.Named (TyPhrases.Arg (TyPhrase.Named TyPhrases.EndOfArgs (long (codes "int" ∷ []) 42) (at 42))
    (TyPhrases.Arg (TyPhrase.Named TyPhrases.EndOfArgs (long (codes "string" ∷ []) 47) (at 47))
    TyPhrases.EndOfArgs)) (long (codes "t" ∷ []) 55) (at 41)) (at 37)) (ExpPhrase.Long (long (codes "x" ∷ []) 60)
    (at 60)) Rules.EndOfRules) (at 34)) (at 1))
    ≡ (accepted (arrow_ty (list_ty string_ty) (list_ty string_ty)))
row_71 = refl

-- let datatype t = A of t and t = true in 1 end
row_72 : of
    (ExpPhrase.Let (DecPhrase.Sequence (DecPhrases.Dec (DecPhrase.Datatypes (dat_bind ([]) (name (codes "t") 14)
    (con_bind (name (codes "A") 18) (Some (TyPhrase.Named TyPhrases.EndOfArgs (long (codes "t" ∷ []) 23) (at 23)))
    ∷ []) ∷ dat_bind ([]) (name (codes "t") 29) (con_bind (name (codes "true") 33) None ∷ []) ∷ []) (at 5))
    DecPhrases.EndOfDecs) (at 5)) (ExpPhrase.Int (pos 1) (at 41)) (at 1))
    ≡ (refused 40 29 ([]))
row_72 = refl

-- let datatype t = A of nope | it in 1 end
row_73 : of
    (ExpPhrase.Let (DecPhrase.Sequence (DecPhrases.Dec (DecPhrase.Datatypes (dat_bind ([]) (name (codes "t") 14)
    (con_bind (name (codes "A") 18) (Some (TyPhrase.Named TyPhrases.EndOfArgs (long (codes "nope" ∷ []) 23) (at
    23))) ∷ con_bind (name (codes "it") 30) None ∷ []) ∷ []) (at 5)) DecPhrases.EndOfDecs) (at 5)) (ExpPhrase.Int
    (pos 1) (at 36)) (at 1))
    ≡ (refused 30 23 (codes "nope" ∷ []))
row_73 = refl

-- let datatype t = it of nope in 1 end
row_74 : of
    (ExpPhrase.Let (DecPhrase.Sequence (DecPhrases.Dec (DecPhrase.Datatypes (dat_bind ([]) (name (codes "t") 14)
    (con_bind (name (codes "it") 18) (Some (TyPhrase.Named TyPhrases.EndOfArgs (long (codes "nope" ∷ []) 24) (at
    24))) ∷ []) ∷ []) (at 5)) DecPhrases.EndOfDecs) (at 5)) (ExpPhrase.Int (pos 1) (at 32)) (at 1))
    ≡ (refused 34 18 ([]))
row_74 = refl

-- let datatype t = A and u = A of nope in 1 end
row_75 : of
    (ExpPhrase.Let (DecPhrase.Sequence (DecPhrases.Dec (DecPhrase.Datatypes (dat_bind ([]) (name (codes "t") 14)
    (con_bind (name (codes "A") 18) None ∷ []) ∷ dat_bind ([]) (name (codes "u") 24) (con_bind (name (codes "A")
    28) (Some (TyPhrase.Named TyPhrases.EndOfArgs (long (codes "nope" ∷ []) 33) (at 33))) ∷ []) ∷ []) (at 5))
    DecPhrases.EndOfDecs) (at 5)) (ExpPhrase.Int (pos 1) (at 41)) (at 1))
    ≡ (refused 40 28 ([]))
row_75 = refl

-- let datatype t = A of u and u = B of t in A = A end: a function at an equality
row_76 : of
    (ExpPhrase.Let (DecPhrase.Sequence (DecPhrases.Dec (DecPhrase.Datatypes (dat_bind ([]) (name (codes "t") 14)
    (con_bind (name (codes "A") 18) (Some (TyPhrase.Named TyPhrases.EndOfArgs (long (codes "u" ∷ []) 23) (at 23)))
    ∷ []) ∷ dat_bind ([]) (name (codes "u") 29) (con_bind (name (codes "B") 33) (Some (TyPhrase.Named
    TyPhrases.EndOfArgs (long (codes "t" ∷ []) 38) (at 38))) ∷ []) ∷ []) (at 5)) DecPhrases.EndOfDecs) (at 5))
    (ExpPhrase.App (ExpPhrase.Long (long (codes "=" ∷ []) 45) (at 45)) (ExpPhrase.Record (ExpFields.Field (name
    (codes "1") 43) (ExpPhrase.Long (long (codes "A" ∷ []) 43) (at 43)) (ExpFields.Field (name (codes "2") 43)
    (ExpPhrase.Long (long (codes "A" ∷ []) 47) (at 47)) ExpFields.EndOfFields)) (at 43)) (at 43)) (at 1))
    ≡ (refused 33 43 ([]))
row_76 = refl

-- let datatype t = A of u and u = B | C of t -> t in fn x => x = A B end
row_77 : of
    (ExpPhrase.Let (DecPhrase.Sequence (DecPhrases.Dec (DecPhrase.Datatypes (dat_bind ([]) (name (codes "t") 14)
    (con_bind (name (codes "A") 18) (Some (TyPhrase.Named TyPhrases.EndOfArgs (long (codes "u" ∷ []) 23) (at 23)))
    ∷ []) ∷ dat_bind ([]) (name (codes "u") 29) (con_bind (name (codes "B") 33) None ∷ con_bind (name (codes "C")
    37) (Some (TyPhrase.Arrow (TyPhrase.Named TyPhrases.EndOfArgs (long (codes "t" ∷ []) 42) (at 42))
    (TyPhrase.Named TyPhrases.EndOfArgs (long (codes "t" ∷ []) 47) (at 47)) (at 42))) ∷ []) ∷ []) (at 5))
    DecPhrases.EndOfDecs) (at 5)) (ExpPhrase.App (ExpPhrase.Fn (Rules.Rule (PatPhrase.Long (long (codes "x" ∷ [])
    55) (at 55)) (ExpPhrase.App (ExpPhrase.Long (long (codes "=" ∷ []) 62) (at 62)) (ExpPhrase.Record
    (ExpFields.Field (name (codes "1") 60) (ExpPhrase.Long (long (codes "x" ∷ []) 60) (at 60)) (ExpFields.Field
    (name (codes "2") 60) (ExpPhrase.App (ExpPhrase.Long (long (codes "A" ∷ []) 64) (at 64)) (ExpPhrase.Long (long
    (codes "B" ∷ []) 66) (at 66)) (at 64)) ExpFields.EndOfFields)) (at 60)) (at 60)) Rules.EndOfRules) (at 52))
    (ExpPhrase.App (ExpPhrase.Long (long (codes "A" ∷ []) 64) (at 64)) (ExpPhrase.Long (long (codes "B" ∷ []) 66)
    (at 66)) (at 64)) (at 52)) (at 1))
    ≡ (refused 33 60 ([]))
row_77 = refl

-- let datatype t = A of u and u = B | C of t ref in (fn x => x = A B) (A B) end
row_78 : of
    (ExpPhrase.Let (DecPhrase.Sequence (DecPhrases.Dec (DecPhrase.Datatypes (dat_bind ([]) (name (codes "t") 14)
    (con_bind (name (codes "A") 18) (Some (TyPhrase.Named TyPhrases.EndOfArgs (long (codes "u" ∷ []) 23) (at 23)))
    ∷ []) ∷ dat_bind ([]) (name (codes "u") 29) (con_bind (name (codes "B") 33) None ∷ con_bind (name (codes "C")
    37) (Some (TyPhrase.Named (TyPhrases.Arg (TyPhrase.Named TyPhrases.EndOfArgs (long (codes "t" ∷ []) 42) (at
    42)) TyPhrases.EndOfArgs) (long (codes "ref" ∷ []) 44) (at 42))) ∷ []) ∷ []) (at 5)) DecPhrases.EndOfDecs) (at
    5)) (ExpPhrase.App (ExpPhrase.Fn (Rules.Rule (PatPhrase.Long (long (codes "x" ∷ []) 55) (at 55))
    (ExpPhrase.App (ExpPhrase.Long (long (codes "=" ∷ []) 62) (at 62)) (ExpPhrase.Record (ExpFields.Field (name
    (codes "1") 60) (ExpPhrase.Long (long (codes "x" ∷ []) 60) (at 60)) (ExpFields.Field (name (codes "2") 60)
    (ExpPhrase.App (ExpPhrase.Long (long (codes "A" ∷ []) 64) (at 64)) (ExpPhrase.Long (long (codes "B" ∷ []) 66)
    (at 66)) (at 64)) ExpFields.EndOfFields)) (at 60)) (at 60)) Rules.EndOfRules) (at 52)) (ExpPhrase.App
    (ExpPhrase.Long (long (codes "A" ∷ []) 70) (at 70)) (ExpPhrase.Long (long (codes "B" ∷ []) 72) (at 72)) (at
    70)) (at 51)) (at 1))
    ≡ (accepted bool_ty)
row_78 = refl

-- let datatype b = datatype nope in 1 end
row_79 : of
    (ExpPhrase.Let (DecPhrase.Sequence (DecPhrases.Dec (DecPhrase.Replication (name (codes "b") 14) (long (codes
    "nope" ∷ []) 27) (at 5)) DecPhrases.EndOfDecs) (at 5)) (ExpPhrase.Int (pos 1) (at 35)) (at 1))
    ≡ (refused 30 27 (codes "nope" ∷ []))
row_79 = refl

-- let datatype b = datatype option in fn SOME 1 => 1 end
row_80 : of
    (ExpPhrase.Let (DecPhrase.Sequence (DecPhrases.Dec (DecPhrase.Replication (name (codes "b") 14) (long (codes
    "option" ∷ []) 27) (at 5)) DecPhrases.EndOfDecs) (at 5)) (ExpPhrase.Fn (Rules.Rule (PatPhrase.Con (long (codes
    "SOME" ∷ []) 40) (PatPhrase.Int (pos 1) (at 45)) (at 40)) (ExpPhrase.Int (pos 1) (at 50)) Rules.EndOfRules)
    (at 37)) (at 1))
    ≡ (accepted (arrow_ty (option_ty int_ty) int_ty))
row_80 = refl

-- let exception it in 1 end
row_81 : of
    (ExpPhrase.Let (DecPhrase.Sequence (DecPhrases.Dec (DecPhrase.Exceptions (ex_bind (name (codes "it") 15)
    ExBodyPhrase.Plain ∷ []) (at 5)) DecPhrases.EndOfDecs) (at 5)) (ExpPhrase.Int (pos 1) (at 21)) (at 1))
    ≡ (refused 34 15 ([]))
row_81 = refl

-- let exception F and F of nope in 1 end
row_82 : of
    (ExpPhrase.Let (DecPhrase.Sequence (DecPhrases.Dec (DecPhrase.Exceptions (ex_bind (name (codes "F") 15)
    ExBodyPhrase.Plain ∷ ex_bind (name (codes "F") 21) (ExBodyPhrase.Of (TyPhrase.Named TyPhrases.EndOfArgs (long
    (codes "nope" ∷ []) 26) (at 26))) ∷ []) (at 5)) DecPhrases.EndOfDecs) (at 5)) (ExpPhrase.Int (pos 1) (at 34))
    (at 1))
    ≡ (refused 40 21 ([]))
row_82 = refl

-- let exception F of 'a in 1 end
row_83 : of
    (ExpPhrase.Let (DecPhrase.Sequence (DecPhrases.Dec (DecPhrase.Exceptions (ex_bind (name (codes "F") 15)
    (ExBodyPhrase.Of (TyPhrase.Var (name (codes "'a") 20) (at 20))) ∷ []) (at 5)) DecPhrases.EndOfDecs) (at 5))
    (ExpPhrase.Int (pos 1) (at 26)) (at 1))
    ≡ (refused 30 20 (codes "'a" ∷ []))
row_83 = refl

-- let exception F = nope in 1 end
row_84 : of
    (ExpPhrase.Let (DecPhrase.Sequence (DecPhrases.Dec (DecPhrase.Exceptions (ex_bind (name (codes "F") 15)
    (ExBodyPhrase.Copy (long (codes "nope" ∷ []) 19)) ∷ []) (at 5)) DecPhrases.EndOfDecs) (at 5)) (ExpPhrase.Int
    (pos 1) (at 27)) (at 1))
    ≡ (refused 30 19 (codes "nope" ∷ []))
row_84 = refl

-- let exception F = op SOME in 1 end
row_85 : of
    (ExpPhrase.Let (DecPhrase.Sequence (DecPhrases.Dec (DecPhrase.Exceptions (ex_bind (name (codes "F") 15)
    (ExBodyPhrase.Copy (long (codes "SOME" ∷ []) 22)) ∷ []) (at 5)) DecPhrases.EndOfDecs) (at 5)) (ExpPhrase.Int
    (pos 1) (at 30)) (at 1))
    ≡ (refused 34 22 ([]))
row_85 = refl

-- let exception F = E in F end
row_86 : of
    (ExpPhrase.Let (DecPhrase.Sequence (DecPhrases.Dec (DecPhrase.Exceptions (ex_bind (name (codes "F") 15)
    (ExBodyPhrase.Copy (long (codes "E" ∷ []) 19)) ∷ []) (at 5)) DecPhrases.EndOfDecs) (at 5)) (ExpPhrase.Long
    (long (codes "F" ∷ []) 24) (at 24)) (at 1))
    ≡ (accepted exn_ty)
row_86 = refl

-- let local val x = 1 in val y = x end in x end
row_87 : of
    (ExpPhrase.Let (DecPhrase.Sequence (DecPhrases.Dec (DecPhrase.Local (DecPhrase.Sequence (DecPhrases.Dec
    (DecPhrase.Val ([]) (Rules.Rule (PatPhrase.Long (long (codes "x" ∷ []) 15) (at 15)) (ExpPhrase.Int (pos 1) (at
    19)) Rules.EndOfRules) Rules.EndOfRules (at 11)) DecPhrases.EndOfDecs) (at 11)) (DecPhrase.Sequence
    (DecPhrases.Dec (DecPhrase.Val ([]) (Rules.Rule (PatPhrase.Long (long (codes "y" ∷ []) 28) (at 28))
    (ExpPhrase.Long (long (codes "x" ∷ []) 32) (at 32)) Rules.EndOfRules) Rules.EndOfRules (at 24))
    DecPhrases.EndOfDecs) (at 24)) (at 5)) DecPhrases.EndOfDecs) (at 5)) (ExpPhrase.Long (long (codes "x" ∷ [])
    41) (at 41)) (at 1))
    ≡ (refused 30 41 (codes "x" ∷ []))
row_87 = refl

-- let open A A.B in x end: A.B is looked up before A is opened
row_88 : of
    (ExpPhrase.Let (DecPhrase.Sequence (DecPhrases.Dec (DecPhrase.Open ((long (codes "A" ∷ []) 10) ∷ (long (codes
    "B" ∷ []) 12) ∷ []) (at 5)) DecPhrases.EndOfDecs) (at 5)) (ExpPhrase.Long (long (codes "x" ∷ []) 19) (at 19))
    (at 1))
    ≡ (refused 30 12 (codes "B" ∷ []))
row_88 = refl

-- let open A in x end
row_89 : of
    (ExpPhrase.Let (DecPhrase.Sequence (DecPhrases.Dec (DecPhrase.Open ((long (codes "A" ∷ []) 10) ∷ []) (at 5))
    DecPhrases.EndOfDecs) (at 5)) (ExpPhrase.Long (long (codes "x" ∷ []) 15) (at 15)) (at 1))
    ≡ (accepted int_ty)
row_89 = refl

-- let val x = 1 val x = "s" val y = x in y end
row_90 : of
    (ExpPhrase.Let (DecPhrase.Sequence (DecPhrases.Dec (DecPhrase.Val ([]) (Rules.Rule (PatPhrase.Long (long (codes
    "x" ∷ []) 9) (at 9)) (ExpPhrase.Int (pos 1) (at 13)) Rules.EndOfRules) Rules.EndOfRules (at 5))
    (DecPhrases.Dec (DecPhrase.Val ([]) (Rules.Rule (PatPhrase.Long (long (codes "x" ∷ []) 19) (at 19))
    (ExpPhrase.Str [] (at 23)) Rules.EndOfRules) Rules.EndOfRules (at 15)) (DecPhrases.Dec (DecPhrase.Val ([])
    (Rules.Rule (PatPhrase.Long (long (codes "y" ∷ []) 31) (at 31)) (ExpPhrase.Long (long (codes "x" ∷ []) 35) (at
    35)) Rules.EndOfRules) Rules.EndOfRules (at 27)) DecPhrases.EndOfDecs))) (at 5)) (ExpPhrase.Long (long (codes
    "y" ∷ []) 40) (at 40)) (at 1))
    ≡ (accepted string_ty)
row_90 = refl

-- let structure S = A in 1 end, which no source has
row_91 : of
    (ExpPhrase.Let (DecPhrase.Sequence (DecPhrases.Dec (DecPhrase.Structures StrBinds.EndOfBinds (at 5))
    DecPhrases.EndOfDecs) (at 5)) (ExpPhrase.Int (pos 1) (at 24)) (at 1))
    ≡ None
row_91 = refl
