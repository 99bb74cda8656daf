-- Small units with what they define, or where they are refused, each with the text that it is read from. A column is
-- that of the text.
use Rattle.std.proofs.Common.{◌≡◌, ℕ, List, [], ◌∷◌, refl, Option, Some, None, Bool, true, false}
use Rattle.std.specs.Prelude.{codes, Err, pos}
use Rattle.sml_trees.specs.declared.name.At.{At}
use Rattle.sml_trees.specs.declared.name.Name.{Name}
use Rattle.sml_trees.specs.declared.name.LongName.{LongName}
use Rattle.semantic_objects.specs.declared.name.Owner.{Owner}
use Rattle.semantic_objects.specs.declared.name.Owner.TheVariants as owner
use Rattle.semantic_objects.specs.declared.name.TyName.{TyName}
use Rattle.semantic_objects.specs.declared.symbol.Symbol.TheVariants as symbol
use Rattle.semantic_objects.specs.declared.entry.TypeStr.{TypeStr}
use Rattle.semantic_objects.specs.declared.entry.ConEntry.{ConEntry}
use Rattle.semantic_objects.specs.declared.entry.ValueEntry.{ValueEntry}
use Rattle.semantic_objects.specs.declared.entry.VidStatus.{VidStatus}
use Rattle.semantic_objects.specs.declared.entry.VidStatus.TheVariants as status
use Rattle.semantic_objects.specs.Tables.{entry}
use Rattle.semantic_objects.specs.Trees.{Tree, Trees}
use Rattle.semantic_objects.specs.Environments.{Env, Functor, Top, types, values, empty_env, empty_top, with_structure, with_type, with_value}
use Rattle.unification.specs.Fitting.{no_variable}
use Rattle.bare_phrases.specs.Phrases.{TyPhrase, TyFields, TyPhrases, TypPhrase, ConPhrase, DatPhrase, PatPhrase, PatFields, ExpPhrase, ExpFields, Rules, DecPhrase}
use Rattle.static_semantics.specs.Inferring.{Progress, outermost, Answer, ◌>>=◌, gives, diag_at, found_at}
use Rattle.module_semantics.specs.SigPhrases.{ValPhrase, TypeDescPhrase, SigPhrase, SpecPhrase, SpecPhrases, SigBinds}
use Rattle.unit_semantics.specs.UnitPhrases.{ModulePhrase, ModuleDec, ModuleDecs, ModuleBinds, FunPhrase, FunsigPhrase, TopPhrase}
use Rattle.unit_semantics.specs.UnitInference.{top_of_env, top_of_functors, infer_unit}

-- ---- phrases

abbrev pub at : ℕ → At
at n = record { line = 1; col = n }

abbrev pub name : List ℕ → ℕ → Name
name text n = record { text = text; line = 1; col = n }

abbrev pub long : List (List ℕ) → ℕ → LongName
long parts n = record { parts = parts; line = 1; col = n }

abbrev pub type_bind : List Name → Name → TyPhrase → TypPhrase
type_bind tyvars bound ty = record { tyvars = tyvars; name = bound; ty = ty }

abbrev pub con_bind : Name → Option TyPhrase → ConPhrase
con_bind bound arg = record { name = bound; arg = arg }

abbrev pub dat_bind : List Name → Name → List ConPhrase → DatPhrase
dat_bind tyvars bound cons = record { tyvars = tyvars; name = bound; cons = cons }

abbrev pub val_desc : Name → TyPhrase → ValPhrase
val_desc bound ty = record { name = bound; ty = ty }

abbrev pub type_desc : List Name → Name → TypeDescPhrase
type_desc tyvars bound = record { tyvars = tyvars; name = bound }

abbrev pub fun_bind : Name → Name → SigPhrase → ModulePhrase → FunPhrase
fun_bind bound param sig body = record { name = bound; param = param; param_sig = sig; body = body }

abbrev pub funsig_bind : Name → Name → SigPhrase → SigPhrase → FunsigPhrase
funsig_bind bound param sig result = record { name = bound; param = param; param_sig = sig; result_sig = result }

-- ---- types, and a part of the initial basis

abbrev pub name_of : Owner → ℕ → ℕ → Bool → TyName
name_of own number arity eq = record { owner = own; number = number; arity = arity; eq = eq }

abbrev pub own_name : ℕ → Bool → TyName
own_name number eq = name_of (owner.«Unit» (codes "u")) number 0 eq

abbrev pub bound_name : ℕ → Bool → TyName
bound_name number eq = name_of owner.Bound number 0 eq

abbrev pub named : TyName → Tree
named n = Tree.Made (symbol.Name n) Trees.Nil

abbrev pub int_tree : Tree
int_tree = named (name_of owner.Basis 0 0 true)

abbrev pub bool_tree : Tree
bool_tree = named (name_of owner.Basis 1 0 true)

abbrev pub string_tree : Tree
string_tree = named (name_of owner.Basis 2 0 true)

-- a type name of the basis over one type
abbrev pub over : ℕ → Tree → Tree
over number of = Tree.Made (symbol.Name (name_of owner.Basis number 1 true)) (Trees.Cons of Trees.Nil)

abbrev pub unit_tree : Tree
unit_tree = Tree.Made (symbol.Record []) Trees.Nil

abbrev pub pair_tree : Tree → Tree → Tree
pair_tree a b = Tree.Made (symbol.Record (codes "1" ∷ codes "2" ∷ [])) (Trees.Cons a (Trees.Cons b Trees.Nil))

abbrev pub arrow_tree : Tree → Tree → Tree
arrow_tree from to = Tree.Made symbol.Arrow (Trees.Cons from (Trees.Cons to Trees.Nil))

abbrev pub d_of_t : Tree
d_of_t = arrow_tree (named (bound_name 0 false)) (named (bound_name 1 false))

abbrev pub con : List ℕ → Tree → ConEntry
con text body = record { name = text; scheme = record { marks = []; body = body } }

abbrev pub type_of : ℕ → Tree → List ConEntry → TypeStr
type_of arity body cons = record { function = record { arity = arity; body = body }; cons = cons }

abbrev pub plain : Tree → TypeStr
plain body = type_of 0 body []

abbrev pub value : VidStatus → List Bool → Tree → ValueEntry
value kind marks body = record { status = kind; scheme = record { marks = marks; body = body } }

abbrev pub variable : List Bool → Tree → ValueEntry
variable marks body = value status.Variable marks body

abbrev pub functor_by : List TyName → Env → List TyName → Env → Functor
functor_by bound param further result = record { bound = bound; param = param; further = further; result = result }

abbrev pub basis_values : Env
basis_values =
    with_value (codes "true") (value status.Constructor [] bool_tree)
    (with_value (codes "false") (value status.Constructor [] bool_tree)
    (with_value (codes "nil") (value status.Constructor (false ∷ []) (over 4 (Tree.Bound 0)))
    (with_value (codes "::") (value status.Constructor (false ∷ [])
    (arrow_tree (pair_tree (Tree.Bound 0) (over 4 (Tree.Bound 0))) (over 4 (Tree.Bound 0))))
    (with_value (codes "ref") (value status.Constructor (false ∷ [])
    (arrow_tree (Tree.Bound 0) (over 6 (Tree.Bound 0))))
    (with_value (codes ":=") (variable (false ∷ [])
    (arrow_tree (pair_tree (over 6 (Tree.Bound 0)) (Tree.Bound 0)) unit_tree))
    (with_value (codes "+") (variable [] (arrow_tree (pair_tree int_tree int_tree) int_tree)) empty_env))))))

abbrev pub min_entry : ValueEntry
min_entry = variable [] (arrow_tree (pair_tree int_tree int_tree) int_tree)

abbrev pub basis : Env
basis = with_structure (codes "Int") (with_value (codes "min") min_entry empty_env)
    (with_type (codes "int") (plain int_tree)
    (with_type (codes "string") (plain string_tree)
    (with_type (codes "list") (type_of 1 (over 4 (Tree.Bound 0)) []) basis_values)))

abbrev pub start : Progress
start = record { types = no_variable; names = 0 }

-- ---- what comes out

abbrev pub over_given : Top → Bool → List TopPhrase → Answer Top
over_given given sealing tops = infer_unit 20 (codes "u") basis given sealing tops start >>= λ r. gives r.0

abbrev pub of : Bool → List TopPhrase → Answer Top
of sealing tops = over_given empty_top sealing tops

abbrev pub refused : ℕ → ℕ → List (List ℕ) → Answer Top
refused number col names = Some (Err (diag_at number (outermost (codes "u") basis) (at col) names))

abbrev pub whole : Answer Top → Answer Top
whole answer = answer

abbrev pub if_any : {A : Type 0} → Option A → Answer A
if_any None = None
if_any (Some x) = gives x

abbrev pub seen_value : List (List ℕ) → Answer Top → Answer ValueEntry
seen_value path answer = answer >>= λ top. if_any (found_at values path top.env)

abbrev pub seen_type : List (List ℕ) → Answer Top → Answer TypeStr
seen_type path answer = answer >>= λ top. if_any (found_at types path top.env)

abbrev pub seen_functor : List ℕ → Answer Top → Answer Functor
seen_functor text answer = answer >>= λ top. if_any (entry text top.functors)

abbrev pub seen_funsig : List ℕ → Answer Top → Answer Functor
seen_funsig text answer = answer >>= λ top. if_any (entry text top.funsigs)

-- ---- units

-- signature S = sig type t val v : t end structure A = struct type t = int val v = 1 end structure X = A : S
--   structure Y = struct val n = X.v + 1 end
defines_1 : seen_value (codes "Y" ∷ codes "n" ∷ []) (of false (TopPhrase.Signatures (SigBinds.Bind (name
    (codes "S") 11) (SigPhrase.Sig (SpecPhrase.Sequence (SpecPhrases.Next (SpecPhrase.Types (type_desc [] (name
    (codes "t") 24) ∷ []) (at 19)) (SpecPhrases.Next (SpecPhrase.Vals (val_desc (name (codes "v") 30)
    (TyPhrase.Named TyPhrases.EndOfArgs (long (codes "t" ∷ []) 34) (at 34)) ∷ []) (at 26)) SpecPhrases.EndOfSpecs))
    (at 15)) (at 15)) SigBinds.EndOfBinds) (at 1) ∷ TopPhrase.Structures (ModuleBinds.Bind (name (codes "A") 50)
    (ModulePhrase.Struct (ModuleDec.Sequence (ModuleDecs.Dec (ModuleDec.Core (DecPhrase.Types (type_bind [] (name
    (codes "t") 66) (TyPhrase.Named TyPhrases.EndOfArgs (long (codes "int" ∷ []) 70) (at 70)) ∷ []) (at 61)))
    (ModuleDecs.Dec (ModuleDec.Core (DecPhrase.Val [] (Rules.Rule (PatPhrase.Long (long (codes "v" ∷ []) 78) (at
    78)) (ExpPhrase.Int (pos 1) (at 82)) Rules.EndOfRules) Rules.EndOfRules (at 74))) ModuleDecs.EndOfDecs)) (at
    54)) (at 54)) ModuleBinds.EndOfBinds) (at 40) ∷ TopPhrase.Structures (ModuleBinds.Bind (name (codes "X") 98)
    (ModulePhrase.Transparent (ModulePhrase.Named (long (codes "A" ∷ []) 102) (at 102)) (SigPhrase.Named (name
    (codes "S") 106) (at 106)) (at 102)) ModuleBinds.EndOfBinds) (at 88) ∷ TopPhrase.Structures (ModuleBinds.Bind
    (name (codes "Y") 118) (ModulePhrase.Struct (ModuleDec.Sequence (ModuleDecs.Dec (ModuleDec.Core (DecPhrase.Val
    [] (Rules.Rule (PatPhrase.Long (long (codes "n" ∷ []) 133) (at 133)) (ExpPhrase.App (ExpPhrase.Long (long
    (codes "+" ∷ []) 141) (at 141)) (ExpPhrase.Record (ExpFields.Field (name (codes "1") 137) (ExpPhrase.Long (long
    (codes "X" ∷ codes "v" ∷ []) 137) (at 137)) (ExpFields.Field (name (codes "2") 137) (ExpPhrase.Int (pos 1) (at
    143)) ExpFields.EndOfFields)) (at 137)) (at 137)) Rules.EndOfRules) Rules.EndOfRules (at 129)))
    ModuleDecs.EndOfDecs) (at 122)) (at 122)) ModuleBinds.EndOfBinds) (at 108) ∷ [])) ≡ gives (variable [] int_tree)
defines_1 = refl

-- structure A = struct val x = 1 end structure A = struct val y = 1 end
defines_2 : whole (of false (TopPhrase.Structures (ModuleBinds.Bind (name (codes "A") 11) (ModulePhrase.Struct
    (ModuleDec.Sequence (ModuleDecs.Dec (ModuleDec.Core (DecPhrase.Val [] (Rules.Rule (PatPhrase.Long (long
    (codes "x" ∷ []) 26) (at 26)) (ExpPhrase.Int (pos 1) (at 30)) Rules.EndOfRules) Rules.EndOfRules (at 22)))
    ModuleDecs.EndOfDecs) (at 15)) (at 15)) ModuleBinds.EndOfBinds) (at 1) ∷ TopPhrase.Structures (ModuleBinds.Bind
    (name (codes "A") 46) (ModulePhrase.Struct (ModuleDec.Sequence (ModuleDecs.Dec (ModuleDec.Core (DecPhrase.Val []
    (Rules.Rule (PatPhrase.Long (long (codes "y" ∷ []) 61) (at 61)) (ExpPhrase.Int (pos 1) (at 65))
    Rules.EndOfRules) Rules.EndOfRules (at 57))) ModuleDecs.EndOfDecs) (at 50)) (at 50)) ModuleBinds.EndOfBinds) (at
    36) ∷ [])) ≡ gives (top_of_env (with_structure (codes "A") (with_value (codes "y") (variable [] int_tree)
    empty_env) empty_env))
defines_2 = refl

-- functor F (X : sig type t end) = struct datatype d = D of X.t type u = X.t end
defines_3 : seen_functor (codes "F") (of false (TopPhrase.Functors (fun_bind (name (codes "F") 9) (name
    (codes "X") 12) (SigPhrase.Sig (SpecPhrase.Sequence (SpecPhrases.Next (SpecPhrase.Types (type_desc [] (name
    (codes "t") 25) ∷ []) (at 20)) SpecPhrases.EndOfSpecs) (at 16)) (at 16)) (ModulePhrase.Struct
    (ModuleDec.Sequence (ModuleDecs.Dec (ModuleDec.Core (DecPhrase.Datatypes (dat_bind [] (name (codes "d") 50)
    (con_bind (name (codes "D") 54) (Some (TyPhrase.Named TyPhrases.EndOfArgs (long (codes "X" ∷ codes "t" ∷ []) 59)
    (at 59))) ∷ []) ∷ []) (at 41))) (ModuleDecs.Dec (ModuleDec.Core (DecPhrase.Types (type_bind [] (name (codes "u")
    68) (TyPhrase.Named TyPhrases.EndOfArgs (long (codes "X" ∷ codes "t" ∷ []) 72) (at 72)) ∷ []) (at 63)))
    ModuleDecs.EndOfDecs)) (at 34)) (at 34)) ∷ []) (at 1) ∷ [])) ≡ gives (functor_by (bound_name 0 false ∷ [])
    (with_type (codes "t") (plain (named (bound_name 0 false))) empty_env) (bound_name 1 false ∷ []) (with_type
    (codes "d") (type_of 0 (named (bound_name 1 false)) (con (codes "D") d_of_t ∷ [])) (with_type (codes "u") (plain
    (named (bound_name 0 false))) (with_value (codes "D") (value status.Constructor [] d_of_t) empty_env))))
defines_3 = refl

-- functor F (X : sig end) = struct local datatype t = T in val x = 1 end end structure A = struct datatype u = U
--   end
defines_4 : seen_type (codes "A" ∷ codes "u" ∷ []) (of false (TopPhrase.Functors (fun_bind (name (codes "F") 9)
    (name (codes "X") 12) (SigPhrase.Sig (SpecPhrase.Sequence SpecPhrases.EndOfSpecs (at 16)) (at 16))
    (ModulePhrase.Struct (ModuleDec.Sequence (ModuleDecs.Dec (ModuleDec.Local (ModuleDec.Sequence (ModuleDecs.Dec
    (ModuleDec.Core (DecPhrase.Datatypes (dat_bind [] (name (codes "t") 49) (con_bind (name (codes "T") 53) None ∷
    []) ∷ []) (at 40))) ModuleDecs.EndOfDecs) (at 34)) (ModuleDec.Sequence (ModuleDecs.Dec (ModuleDec.Core
    (DecPhrase.Val [] (Rules.Rule (PatPhrase.Long (long (codes "x" ∷ []) 62) (at 62)) (ExpPhrase.Int (pos 1) (at
    66)) Rules.EndOfRules) Rules.EndOfRules (at 58))) ModuleDecs.EndOfDecs) (at 34)) (at 34)) ModuleDecs.EndOfDecs)
    (at 27)) (at 27)) ∷ []) (at 1) ∷ TopPhrase.Structures (ModuleBinds.Bind (name (codes "A") 86)
    (ModulePhrase.Struct (ModuleDec.Sequence (ModuleDecs.Dec (ModuleDec.Core (DecPhrase.Datatypes (dat_bind [] (name
    (codes "u") 106) (con_bind (name (codes "U") 110) None ∷ []) ∷ []) (at 97))) ModuleDecs.EndOfDecs) (at 90)) (at
    90)) ModuleBinds.EndOfBinds) (at 76) ∷ [])) ≡ gives (type_of 0 (named (own_name 1 true)) (con (codes "U") (named
    (own_name 1 true)) ∷ []))
defines_4 = refl

-- functor F (X : sig end) = struct local datatype t = T in val x = 1 end end
defines_5 : seen_functor (codes "F") (of false (TopPhrase.Functors (fun_bind (name (codes "F") 9) (name
    (codes "X") 12) (SigPhrase.Sig (SpecPhrase.Sequence SpecPhrases.EndOfSpecs (at 16)) (at 16))
    (ModulePhrase.Struct (ModuleDec.Sequence (ModuleDecs.Dec (ModuleDec.Local (ModuleDec.Sequence (ModuleDecs.Dec
    (ModuleDec.Core (DecPhrase.Datatypes (dat_bind [] (name (codes "t") 49) (con_bind (name (codes "T") 53) None ∷
    []) ∷ []) (at 40))) ModuleDecs.EndOfDecs) (at 34)) (ModuleDec.Sequence (ModuleDecs.Dec (ModuleDec.Core
    (DecPhrase.Val [] (Rules.Rule (PatPhrase.Long (long (codes "x" ∷ []) 62) (at 62)) (ExpPhrase.Int (pos 1) (at
    66)) Rules.EndOfRules) Rules.EndOfRules (at 58))) ModuleDecs.EndOfDecs) (at 34)) (at 34)) ModuleDecs.EndOfDecs)
    (at 27)) (at 27)) ∷ []) (at 1) ∷ [])) ≡ gives (functor_by [] empty_env [] (with_value (codes "x") (variable []
    int_tree) empty_env))
defines_5 = refl

-- functor F (X : sig end) = struct datatype t = T end structure A = F (struct end) structure B = F (struct end)
defines_6 : seen_value (codes "B" ∷ codes "T" ∷ []) (of false (TopPhrase.Functors (fun_bind (name (codes "F") 9)
    (name (codes "X") 12) (SigPhrase.Sig (SpecPhrase.Sequence SpecPhrases.EndOfSpecs (at 16)) (at 16))
    (ModulePhrase.Struct (ModuleDec.Sequence (ModuleDecs.Dec (ModuleDec.Core (DecPhrase.Datatypes (dat_bind [] (name
    (codes "t") 43) (con_bind (name (codes "T") 47) None ∷ []) ∷ []) (at 34))) ModuleDecs.EndOfDecs) (at 27)) (at
    27)) ∷ []) (at 1) ∷ TopPhrase.Structures (ModuleBinds.Bind (name (codes "A") 63) (ModulePhrase.Functor (name
    (codes "F") 67) (ModulePhrase.Struct (ModuleDec.Sequence ModuleDecs.EndOfDecs (at 70)) (at 70)) (at 67))
    ModuleBinds.EndOfBinds) (at 53) ∷ TopPhrase.Structures (ModuleBinds.Bind (name (codes "B") 92)
    (ModulePhrase.Functor (name (codes "F") 96) (ModulePhrase.Struct (ModuleDec.Sequence ModuleDecs.EndOfDecs (at
    99)) (at 99)) (at 96)) ModuleBinds.EndOfBinds) (at 82) ∷ [])) ≡ gives (value status.Constructor [] (named
    (own_name 2 true)))
defines_6 = refl

-- funsig G (X : sig type t end) = sig type u val f : X.t -> u end
defines_7 : seen_funsig (codes "G") (of false (TopPhrase.Funsigs (funsig_bind (name (codes "G") 8) (name
    (codes "X") 11) (SigPhrase.Sig (SpecPhrase.Sequence (SpecPhrases.Next (SpecPhrase.Types (type_desc [] (name
    (codes "t") 24) ∷ []) (at 19)) SpecPhrases.EndOfSpecs) (at 15)) (at 15)) (SigPhrase.Sig (SpecPhrase.Sequence
    (SpecPhrases.Next (SpecPhrase.Types (type_desc [] (name (codes "u") 42) ∷ []) (at 37)) (SpecPhrases.Next
    (SpecPhrase.Vals (val_desc (name (codes "f") 48) (TyPhrase.Arrow (TyPhrase.Named TyPhrases.EndOfArgs (long
    (codes "X" ∷ codes "t" ∷ []) 52) (at 52)) (TyPhrase.Named TyPhrases.EndOfArgs (long (codes "u" ∷ []) 59) (at
    59)) (at 52)) ∷ []) (at 44)) SpecPhrases.EndOfSpecs)) (at 33)) (at 33)) ∷ []) (at 1) ∷ [])) ≡ gives (functor_by
    (bound_name 0 false ∷ []) (with_type (codes "t") (plain (named (bound_name 0 false))) empty_env) (bound_name 1
    false ∷ []) (with_type (codes "u") (plain (named (bound_name 1 false))) (with_value (codes "f") (variable []
    d_of_t) empty_env)))
defines_7 = refl

-- structure S = struct structure A = struct val r = ref nil end val u = A.r := 1 :: nil end
defines_8 : seen_value (codes "S" ∷ codes "A" ∷ codes "r" ∷ []) (of false (TopPhrase.Structures
    (ModuleBinds.Bind (name (codes "S") 11) (ModulePhrase.Struct (ModuleDec.Sequence (ModuleDecs.Dec
    (ModuleDec.Structures (ModuleBinds.Bind (name (codes "A") 32) (ModulePhrase.Struct (ModuleDec.Sequence
    (ModuleDecs.Dec (ModuleDec.Core (DecPhrase.Val [] (Rules.Rule (PatPhrase.Long (long (codes "r" ∷ []) 47) (at
    47)) (ExpPhrase.App (ExpPhrase.Long (long (codes "ref" ∷ []) 51) (at 51)) (ExpPhrase.Long (long (codes "nil" ∷
    []) 55) (at 55)) (at 51)) Rules.EndOfRules) Rules.EndOfRules (at 43))) ModuleDecs.EndOfDecs) (at 36)) (at 36))
    ModuleBinds.EndOfBinds) (at 22)) (ModuleDecs.Dec (ModuleDec.Core (DecPhrase.Val [] (Rules.Rule (PatPhrase.Long
    (long (codes "u" ∷ []) 67) (at 67)) (ExpPhrase.App (ExpPhrase.Long (long (codes ":=" ∷ []) 75) (at 75))
    (ExpPhrase.Record (ExpFields.Field (name (codes "1") 71) (ExpPhrase.Long (long (codes "A" ∷ codes "r" ∷ []) 71)
    (at 71)) (ExpFields.Field (name (codes "2") 71) (ExpPhrase.App (ExpPhrase.Long (long (codes "::" ∷ []) 80) (at
    80)) (ExpPhrase.Record (ExpFields.Field (name (codes "1") 78) (ExpPhrase.Int (pos 1) (at 78)) (ExpFields.Field
    (name (codes "2") 78) (ExpPhrase.Long (long (codes "nil" ∷ []) 83) (at 83)) ExpFields.EndOfFields)) (at 78)) (at
    78)) ExpFields.EndOfFields)) (at 71)) (at 71)) Rules.EndOfRules) Rules.EndOfRules (at 63)))
    ModuleDecs.EndOfDecs)) (at 15)) (at 15)) ModuleBinds.EndOfBinds) (at 1) ∷ [])) ≡ gives (variable [] (over 6
    (over 4 int_tree)))
defines_8 = refl

-- structure X : sig type t end = struct type t = int val v = 1 end : sig type t val v : t end, with the option
--   that seals
defines_9 : whole (of true (TopPhrase.Structures (ModuleBinds.Bind (name (codes "X") 11)
    (ModulePhrase.Transparent (ModulePhrase.Transparent (ModulePhrase.Struct (ModuleDec.Sequence (ModuleDecs.Dec
    (ModuleDec.Core (DecPhrase.Types (type_bind [] (name (codes "t") 44) (TyPhrase.Named TyPhrases.EndOfArgs (long
    (codes "int" ∷ []) 48) (at 48)) ∷ []) (at 39))) (ModuleDecs.Dec (ModuleDec.Core (DecPhrase.Val [] (Rules.Rule
    (PatPhrase.Long (long (codes "v" ∷ []) 56) (at 56)) (ExpPhrase.Int (pos 1) (at 60)) Rules.EndOfRules)
    Rules.EndOfRules (at 52))) ModuleDecs.EndOfDecs)) (at 32)) (at 32)) (SigPhrase.Sig (SpecPhrase.Sequence
    (SpecPhrases.Next (SpecPhrase.Types (type_desc [] (name (codes "t") 77) ∷ []) (at 72)) (SpecPhrases.Next
    (SpecPhrase.Vals (val_desc (name (codes "v") 83) (TyPhrase.Named TyPhrases.EndOfArgs (long (codes "t" ∷ []) 87)
    (at 87)) ∷ []) (at 79)) SpecPhrases.EndOfSpecs)) (at 68)) (at 68)) (at 32)) (SigPhrase.Sig (SpecPhrase.Sequence
    (SpecPhrases.Next (SpecPhrase.Types (type_desc [] (name (codes "t") 24) ∷ []) (at 19)) SpecPhrases.EndOfSpecs)
    (at 15)) (at 15)) (at 32)) ModuleBinds.EndOfBinds) (at 1) ∷ [])) ≡ gives (top_of_env (with_structure (codes "X")
    (with_type (codes "t") (plain (named (own_name 2 false))) empty_env) empty_env))
defines_9 = refl

-- structure X : sig type t end = struct type t = int val v = 1 end : sig type t val v : t end
defines_10 : whole (of false (TopPhrase.Structures (ModuleBinds.Bind (name (codes "X") 11)
    (ModulePhrase.Transparent (ModulePhrase.Transparent (ModulePhrase.Struct (ModuleDec.Sequence (ModuleDecs.Dec
    (ModuleDec.Core (DecPhrase.Types (type_bind [] (name (codes "t") 44) (TyPhrase.Named TyPhrases.EndOfArgs (long
    (codes "int" ∷ []) 48) (at 48)) ∷ []) (at 39))) (ModuleDecs.Dec (ModuleDec.Core (DecPhrase.Val [] (Rules.Rule
    (PatPhrase.Long (long (codes "v" ∷ []) 56) (at 56)) (ExpPhrase.Int (pos 1) (at 60)) Rules.EndOfRules)
    Rules.EndOfRules (at 52))) ModuleDecs.EndOfDecs)) (at 32)) (at 32)) (SigPhrase.Sig (SpecPhrase.Sequence
    (SpecPhrases.Next (SpecPhrase.Types (type_desc [] (name (codes "t") 77) ∷ []) (at 72)) (SpecPhrases.Next
    (SpecPhrase.Vals (val_desc (name (codes "v") 83) (TyPhrase.Named TyPhrases.EndOfArgs (long (codes "t" ∷ []) 87)
    (at 87)) ∷ []) (at 79)) SpecPhrases.EndOfSpecs)) (at 68)) (at 68)) (at 32)) (SigPhrase.Sig (SpecPhrase.Sequence
    (SpecPhrases.Next (SpecPhrase.Types (type_desc [] (name (codes "t") 24) ∷ []) (at 19)) SpecPhrases.EndOfSpecs)
    (at 15)) (at 15)) (at 32)) ModuleBinds.EndOfBinds) (at 1) ∷ [])) ≡ gives (top_of_env (with_structure (codes "X")
    (with_type (codes "t") (plain int_tree) empty_env) empty_env))
defines_10 = refl

-- functor F (X : sig end) : sig type t end = struct structure B : sig type t end = struct type t = int end open B
--   end, with the option that seals
defines_11 : seen_functor (codes "F") (of true (TopPhrase.Functors (fun_bind (name (codes "F") 9) (name
    (codes "X") 12) (SigPhrase.Sig (SpecPhrase.Sequence SpecPhrases.EndOfSpecs (at 16)) (at 16))
    (ModulePhrase.Transparent (ModulePhrase.Struct (ModuleDec.Sequence (ModuleDecs.Dec (ModuleDec.Structures
    (ModuleBinds.Bind (name (codes "B") 61) (ModulePhrase.Transparent (ModulePhrase.Struct (ModuleDec.Sequence
    (ModuleDecs.Dec (ModuleDec.Core (DecPhrase.Types (type_bind [] (name (codes "t") 94) (TyPhrase.Named
    TyPhrases.EndOfArgs (long (codes "int" ∷ []) 98) (at 98)) ∷ []) (at 89))) ModuleDecs.EndOfDecs) (at 82)) (at
    82)) (SigPhrase.Sig (SpecPhrase.Sequence (SpecPhrases.Next (SpecPhrase.Types (type_desc [] (name (codes "t") 74)
    ∷ []) (at 69)) SpecPhrases.EndOfSpecs) (at 65)) (at 65)) (at 82)) ModuleBinds.EndOfBinds) (at 51))
    (ModuleDecs.Dec (ModuleDec.Core (DecPhrase.Open ((long (codes "B" ∷ []) 111) ∷ []) (at 106)))
    ModuleDecs.EndOfDecs)) (at 44)) (at 44)) (SigPhrase.Sig (SpecPhrase.Sequence (SpecPhrases.Next (SpecPhrase.Types
    (type_desc [] (name (codes "t") 36) ∷ []) (at 31)) SpecPhrases.EndOfSpecs) (at 27)) (at 27)) (at 44)) ∷ []) (at
    1) ∷ [])) ≡ gives (functor_by [] empty_env [] (with_type (codes "t") (plain int_tree) empty_env))
defines_11 = refl

-- functor F (X : sig end) :> sig type t end = struct type t = int end
defines_12 : seen_functor (codes "F") (of false (TopPhrase.Functors (fun_bind (name (codes "F") 9) (name
    (codes "X") 12) (SigPhrase.Sig (SpecPhrase.Sequence SpecPhrases.EndOfSpecs (at 16)) (at 16))
    (ModulePhrase.Opaque (ModulePhrase.Struct (ModuleDec.Sequence (ModuleDecs.Dec (ModuleDec.Core (DecPhrase.Types
    (type_bind [] (name (codes "t") 57) (TyPhrase.Named TyPhrases.EndOfArgs (long (codes "int" ∷ []) 61) (at 61)) ∷
    []) (at 52))) ModuleDecs.EndOfDecs) (at 45)) (at 45)) (SigPhrase.Sig (SpecPhrase.Sequence (SpecPhrases.Next
    (SpecPhrase.Types (type_desc [] (name (codes "t") 37) ∷ []) (at 32)) SpecPhrases.EndOfSpecs) (at 28)) (at 28))
    (at 45)) ∷ []) (at 1) ∷ [])) ≡ gives (functor_by [] empty_env (bound_name 0 false ∷ []) (with_type (codes "t")
    (plain (named (bound_name 0 false))) empty_env))
defines_12 = refl

-- structure A = let val x = 1 in struct val y = x end end
defines_13 : whole (of false (TopPhrase.Structures (ModuleBinds.Bind (name (codes "A") 11) (ModulePhrase.Within
    (ModuleDec.Sequence (ModuleDecs.Dec (ModuleDec.Core (DecPhrase.Val [] (Rules.Rule (PatPhrase.Long (long
    (codes "x" ∷ []) 23) (at 23)) (ExpPhrase.Int (pos 1) (at 27)) Rules.EndOfRules) Rules.EndOfRules (at 19)))
    ModuleDecs.EndOfDecs) (at 15)) (ModulePhrase.Struct (ModuleDec.Sequence (ModuleDecs.Dec (ModuleDec.Core
    (DecPhrase.Val [] (Rules.Rule (PatPhrase.Long (long (codes "y" ∷ []) 43) (at 43)) (ExpPhrase.Long (long
    (codes "x" ∷ []) 47) (at 47)) Rules.EndOfRules) Rules.EndOfRules (at 39))) ModuleDecs.EndOfDecs) (at 32)) (at
    32)) (at 15)) ModuleBinds.EndOfBinds) (at 1) ∷ [])) ≡ gives (top_of_env (with_structure (codes "A") (with_value
    (codes "y") (variable [] int_tree) empty_env) empty_env))
defines_13 = refl

-- structure A = struct local structure B = struct val x = 1 end in val y = B.x end end
defines_14 : whole (of false (TopPhrase.Structures (ModuleBinds.Bind (name (codes "A") 11) (ModulePhrase.Struct
    (ModuleDec.Sequence (ModuleDecs.Dec (ModuleDec.Local (ModuleDec.Sequence (ModuleDecs.Dec (ModuleDec.Structures
    (ModuleBinds.Bind (name (codes "B") 38) (ModulePhrase.Struct (ModuleDec.Sequence (ModuleDecs.Dec (ModuleDec.Core
    (DecPhrase.Val [] (Rules.Rule (PatPhrase.Long (long (codes "x" ∷ []) 53) (at 53)) (ExpPhrase.Int (pos 1) (at
    57)) Rules.EndOfRules) Rules.EndOfRules (at 49))) ModuleDecs.EndOfDecs) (at 42)) (at 42))
    ModuleBinds.EndOfBinds) (at 28)) ModuleDecs.EndOfDecs) (at 22)) (ModuleDec.Sequence (ModuleDecs.Dec
    (ModuleDec.Core (DecPhrase.Val [] (Rules.Rule (PatPhrase.Long (long (codes "y" ∷ []) 70) (at 70))
    (ExpPhrase.Long (long (codes "B" ∷ codes "x" ∷ []) 74) (at 74)) Rules.EndOfRules) Rules.EndOfRules (at 66)))
    ModuleDecs.EndOfDecs) (at 22)) (at 22)) ModuleDecs.EndOfDecs) (at 15)) (at 15)) ModuleBinds.EndOfBinds) (at 1) ∷
    [])) ≡ gives (top_of_env (with_structure (codes "A") (with_value (codes "y") (variable [] int_tree) empty_env)
    empty_env))
defines_14 = refl

-- functor F (type t) : sig val x : t list end = struct val x = nil end
defines_15 : seen_functor (codes "F") (of false (TopPhrase.Functors (fun_bind (name (codes "F") 9) (name
    (codes "%S") 12) (SigPhrase.Sig (SpecPhrase.Sequence (SpecPhrases.Next (SpecPhrase.Types (type_desc [] (name
    (codes "t") 17) ∷ []) (at 12)) SpecPhrases.EndOfSpecs) (at 12)) (at 12)) (ModulePhrase.Within
    (ModuleDec.Sequence (ModuleDecs.Dec (ModuleDec.Core (DecPhrase.Open ((long (codes "%S" ∷ []) 47) ∷ []) (at 47)))
    ModuleDecs.EndOfDecs) (at 47)) (ModulePhrase.Transparent (ModulePhrase.Struct (ModuleDec.Sequence
    (ModuleDecs.Dec (ModuleDec.Core (DecPhrase.Val [] (Rules.Rule (PatPhrase.Long (long (codes "x" ∷ []) 58) (at
    58)) (ExpPhrase.Long (long (codes "nil" ∷ []) 62) (at 62)) Rules.EndOfRules) Rules.EndOfRules (at 54)))
    ModuleDecs.EndOfDecs) (at 47)) (at 47)) (SigPhrase.Sig (SpecPhrase.Sequence (SpecPhrases.Next (SpecPhrase.Vals
    (val_desc (name (codes "x") 30) (TyPhrase.Named (TyPhrases.Arg (TyPhrase.Named TyPhrases.EndOfArgs (long
    (codes "t" ∷ []) 34) (at 34)) TyPhrases.EndOfArgs) (long (codes "list" ∷ []) 36) (at 34)) ∷ []) (at 26))
    SpecPhrases.EndOfSpecs) (at 22)) (at 22)) (at 47)) (at 47)) ∷ []) (at 1) ∷ [])) ≡ gives (functor_by (bound_name
    0 false ∷ []) (with_type (codes "t") (plain (named (bound_name 0 false))) empty_env) [] (with_value (codes "x")
    (variable [] (over 4 (named (bound_name 0 false)))) empty_env))
defines_15 = refl

-- functor F (X : sig type t end) = struct type u = X.t list end functor G (Y : sig type t end) = F (struct type t
--   = Y.t list end)
defines_16 : seen_functor (codes "G") (of false (TopPhrase.Functors (fun_bind (name (codes "F") 9) (name
    (codes "X") 12) (SigPhrase.Sig (SpecPhrase.Sequence (SpecPhrases.Next (SpecPhrase.Types (type_desc [] (name
    (codes "t") 25) ∷ []) (at 20)) SpecPhrases.EndOfSpecs) (at 16)) (at 16)) (ModulePhrase.Struct
    (ModuleDec.Sequence (ModuleDecs.Dec (ModuleDec.Core (DecPhrase.Types (type_bind [] (name (codes "u") 46)
    (TyPhrase.Named (TyPhrases.Arg (TyPhrase.Named TyPhrases.EndOfArgs (long (codes "X" ∷ codes "t" ∷ []) 50) (at
    50)) TyPhrases.EndOfArgs) (long (codes "list" ∷ []) 54) (at 50)) ∷ []) (at 41))) ModuleDecs.EndOfDecs) (at 34))
    (at 34)) ∷ []) (at 1) ∷ TopPhrase.Functors (fun_bind (name (codes "G") 71) (name (codes "Y") 74) (SigPhrase.Sig
    (SpecPhrase.Sequence (SpecPhrases.Next (SpecPhrase.Types (type_desc [] (name (codes "t") 87) ∷ []) (at 82))
    SpecPhrases.EndOfSpecs) (at 78)) (at 78)) (ModulePhrase.Functor (name (codes "F") 96) (ModulePhrase.Struct
    (ModuleDec.Sequence (ModuleDecs.Dec (ModuleDec.Core (DecPhrase.Types (type_bind [] (name (codes "t") 111)
    (TyPhrase.Named (TyPhrases.Arg (TyPhrase.Named TyPhrases.EndOfArgs (long (codes "Y" ∷ codes "t" ∷ []) 115) (at
    115)) TyPhrases.EndOfArgs) (long (codes "list" ∷ []) 119) (at 115)) ∷ []) (at 106))) ModuleDecs.EndOfDecs) (at
    99)) (at 99)) (at 96)) ∷ []) (at 63) ∷ [])) ≡ gives (functor_by (bound_name 0 false ∷ []) (with_type (codes "t")
    (plain (named (bound_name 0 false))) empty_env) [] (with_type (codes "u") (plain (over 4 (over 4 (named
    (bound_name 0 false))))) empty_env))
defines_16 = refl

-- signature S = sig type t val v : t end structure A = struct structure X :> S = struct type t = int val v = 1 end
--   type w = X.t end
defines_17 : seen_type (codes "A" ∷ codes "w" ∷ []) (of false (TopPhrase.Signatures (SigBinds.Bind (name
    (codes "S") 11) (SigPhrase.Sig (SpecPhrase.Sequence (SpecPhrases.Next (SpecPhrase.Types (type_desc [] (name
    (codes "t") 24) ∷ []) (at 19)) (SpecPhrases.Next (SpecPhrase.Vals (val_desc (name (codes "v") 30)
    (TyPhrase.Named TyPhrases.EndOfArgs (long (codes "t" ∷ []) 34) (at 34)) ∷ []) (at 26)) SpecPhrases.EndOfSpecs))
    (at 15)) (at 15)) SigBinds.EndOfBinds) (at 1) ∷ TopPhrase.Structures (ModuleBinds.Bind (name (codes "A") 50)
    (ModulePhrase.Struct (ModuleDec.Sequence (ModuleDecs.Dec (ModuleDec.Structures (ModuleBinds.Bind (name
    (codes "X") 71) (ModulePhrase.Opaque (ModulePhrase.Struct (ModuleDec.Sequence (ModuleDecs.Dec (ModuleDec.Core
    (DecPhrase.Types (type_bind [] (name (codes "t") 92) (TyPhrase.Named TyPhrases.EndOfArgs (long (codes "int" ∷
    []) 96) (at 96)) ∷ []) (at 87))) (ModuleDecs.Dec (ModuleDec.Core (DecPhrase.Val [] (Rules.Rule (PatPhrase.Long
    (long (codes "v" ∷ []) 104) (at 104)) (ExpPhrase.Int (pos 1) (at 108)) Rules.EndOfRules) Rules.EndOfRules (at
    100))) ModuleDecs.EndOfDecs)) (at 80)) (at 80)) (SigPhrase.Named (name (codes "S") 76) (at 76)) (at 80))
    ModuleBinds.EndOfBinds) (at 61)) (ModuleDecs.Dec (ModuleDec.Core (DecPhrase.Types (type_bind [] (name
    (codes "w") 119) (TyPhrase.Named TyPhrases.EndOfArgs (long (codes "X" ∷ codes "t" ∷ []) 123) (at 123)) ∷ []) (at
    114))) ModuleDecs.EndOfDecs)) (at 54)) (at 54)) ModuleBinds.EndOfBinds) (at 40) ∷ [])) ≡ gives (plain (named
    (own_name 2 false)))
defines_17 = refl

-- signature S = sig type t val v : t end structure A = struct type t = int val v = 1 end structure X = A :> S
--   structure Y = struct val n = X.v + 1 end
refuses_1 : of false (TopPhrase.Signatures (SigBinds.Bind (name (codes "S") 11) (SigPhrase.Sig
    (SpecPhrase.Sequence (SpecPhrases.Next (SpecPhrase.Types (type_desc [] (name (codes "t") 24) ∷ []) (at 19))
    (SpecPhrases.Next (SpecPhrase.Vals (val_desc (name (codes "v") 30) (TyPhrase.Named TyPhrases.EndOfArgs (long
    (codes "t" ∷ []) 34) (at 34)) ∷ []) (at 26)) SpecPhrases.EndOfSpecs)) (at 15)) (at 15)) SigBinds.EndOfBinds) (at
    1) ∷ TopPhrase.Structures (ModuleBinds.Bind (name (codes "A") 50) (ModulePhrase.Struct (ModuleDec.Sequence
    (ModuleDecs.Dec (ModuleDec.Core (DecPhrase.Types (type_bind [] (name (codes "t") 66) (TyPhrase.Named
    TyPhrases.EndOfArgs (long (codes "int" ∷ []) 70) (at 70)) ∷ []) (at 61))) (ModuleDecs.Dec (ModuleDec.Core
    (DecPhrase.Val [] (Rules.Rule (PatPhrase.Long (long (codes "v" ∷ []) 78) (at 78)) (ExpPhrase.Int (pos 1) (at
    82)) Rules.EndOfRules) Rules.EndOfRules (at 74))) ModuleDecs.EndOfDecs)) (at 54)) (at 54))
    ModuleBinds.EndOfBinds) (at 40) ∷ TopPhrase.Structures (ModuleBinds.Bind (name (codes "X") 98)
    (ModulePhrase.Opaque (ModulePhrase.Named (long (codes "A" ∷ []) 102) (at 102)) (SigPhrase.Named (name
    (codes "S") 107) (at 107)) (at 102)) ModuleBinds.EndOfBinds) (at 88) ∷ TopPhrase.Structures (ModuleBinds.Bind
    (name (codes "Y") 119) (ModulePhrase.Struct (ModuleDec.Sequence (ModuleDecs.Dec (ModuleDec.Core (DecPhrase.Val
    [] (Rules.Rule (PatPhrase.Long (long (codes "n" ∷ []) 134) (at 134)) (ExpPhrase.App (ExpPhrase.Long (long
    (codes "+" ∷ []) 142) (at 142)) (ExpPhrase.Record (ExpFields.Field (name (codes "1") 138) (ExpPhrase.Long (long
    (codes "X" ∷ codes "v" ∷ []) 138) (at 138)) (ExpFields.Field (name (codes "2") 138) (ExpPhrase.Int (pos 1) (at
    144)) ExpFields.EndOfFields)) (at 138)) (at 138)) Rules.EndOfRules) Rules.EndOfRules (at 130)))
    ModuleDecs.EndOfDecs) (at 123)) (at 123)) ModuleBinds.EndOfBinds) (at 109) ∷ []) ≡ refused 31 138 []
refuses_1 = refl

-- signature S = sig type t val v : t end structure A = struct type t = int val v = 1 end structure X = A : S
--   structure Y = struct val n = X.v + 1 end, with the option that seals
refuses_2 : of true (TopPhrase.Signatures (SigBinds.Bind (name (codes "S") 11) (SigPhrase.Sig
    (SpecPhrase.Sequence (SpecPhrases.Next (SpecPhrase.Types (type_desc [] (name (codes "t") 24) ∷ []) (at 19))
    (SpecPhrases.Next (SpecPhrase.Vals (val_desc (name (codes "v") 30) (TyPhrase.Named TyPhrases.EndOfArgs (long
    (codes "t" ∷ []) 34) (at 34)) ∷ []) (at 26)) SpecPhrases.EndOfSpecs)) (at 15)) (at 15)) SigBinds.EndOfBinds) (at
    1) ∷ TopPhrase.Structures (ModuleBinds.Bind (name (codes "A") 50) (ModulePhrase.Struct (ModuleDec.Sequence
    (ModuleDecs.Dec (ModuleDec.Core (DecPhrase.Types (type_bind [] (name (codes "t") 66) (TyPhrase.Named
    TyPhrases.EndOfArgs (long (codes "int" ∷ []) 70) (at 70)) ∷ []) (at 61))) (ModuleDecs.Dec (ModuleDec.Core
    (DecPhrase.Val [] (Rules.Rule (PatPhrase.Long (long (codes "v" ∷ []) 78) (at 78)) (ExpPhrase.Int (pos 1) (at
    82)) Rules.EndOfRules) Rules.EndOfRules (at 74))) ModuleDecs.EndOfDecs)) (at 54)) (at 54))
    ModuleBinds.EndOfBinds) (at 40) ∷ TopPhrase.Structures (ModuleBinds.Bind (name (codes "X") 98)
    (ModulePhrase.Transparent (ModulePhrase.Named (long (codes "A" ∷ []) 102) (at 102)) (SigPhrase.Named (name
    (codes "S") 106) (at 106)) (at 102)) ModuleBinds.EndOfBinds) (at 88) ∷ TopPhrase.Structures (ModuleBinds.Bind
    (name (codes "Y") 118) (ModulePhrase.Struct (ModuleDec.Sequence (ModuleDecs.Dec (ModuleDec.Core (DecPhrase.Val
    [] (Rules.Rule (PatPhrase.Long (long (codes "n" ∷ []) 133) (at 133)) (ExpPhrase.App (ExpPhrase.Long (long
    (codes "+" ∷ []) 141) (at 141)) (ExpPhrase.Record (ExpFields.Field (name (codes "1") 137) (ExpPhrase.Long (long
    (codes "X" ∷ codes "v" ∷ []) 137) (at 137)) (ExpFields.Field (name (codes "2") 137) (ExpPhrase.Int (pos 1) (at
    143)) ExpFields.EndOfFields)) (at 137)) (at 137)) Rules.EndOfRules) Rules.EndOfRules (at 129)))
    ModuleDecs.EndOfDecs) (at 122)) (at 122)) ModuleBinds.EndOfBinds) (at 108) ∷ []) ≡ refused 31 137 []
refuses_2 = refl

-- functor F (X : sig end) = struct datatype t = T end structure A = F (struct end) structure B = F (struct end)
--   structure C = struct val x = (fn A.T => 1) B.T end
refuses_3 : of false (TopPhrase.Functors (fun_bind (name (codes "F") 9) (name (codes "X") 12) (SigPhrase.Sig
    (SpecPhrase.Sequence SpecPhrases.EndOfSpecs (at 16)) (at 16)) (ModulePhrase.Struct (ModuleDec.Sequence
    (ModuleDecs.Dec (ModuleDec.Core (DecPhrase.Datatypes (dat_bind [] (name (codes "t") 43) (con_bind (name
    (codes "T") 47) None ∷ []) ∷ []) (at 34))) ModuleDecs.EndOfDecs) (at 27)) (at 27)) ∷ []) (at 1) ∷
    TopPhrase.Structures (ModuleBinds.Bind (name (codes "A") 63) (ModulePhrase.Functor (name (codes "F") 67)
    (ModulePhrase.Struct (ModuleDec.Sequence ModuleDecs.EndOfDecs (at 70)) (at 70)) (at 67)) ModuleBinds.EndOfBinds)
    (at 53) ∷ TopPhrase.Structures (ModuleBinds.Bind (name (codes "B") 92) (ModulePhrase.Functor (name (codes "F")
    96) (ModulePhrase.Struct (ModuleDec.Sequence ModuleDecs.EndOfDecs (at 99)) (at 99)) (at 96))
    ModuleBinds.EndOfBinds) (at 82) ∷ TopPhrase.Structures (ModuleBinds.Bind (name (codes "C") 121)
    (ModulePhrase.Struct (ModuleDec.Sequence (ModuleDecs.Dec (ModuleDec.Core (DecPhrase.Val [] (Rules.Rule
    (PatPhrase.Long (long (codes "x" ∷ []) 136) (at 136)) (ExpPhrase.App (ExpPhrase.Fn (Rules.Rule (PatPhrase.Long
    (long (codes "A" ∷ codes "T" ∷ []) 144) (at 144)) (ExpPhrase.Int (pos 1) (at 151)) Rules.EndOfRules) (at 141))
    (ExpPhrase.Long (long (codes "B" ∷ codes "T" ∷ []) 154) (at 154)) (at 140)) Rules.EndOfRules) Rules.EndOfRules
    (at 132))) ModuleDecs.EndOfDecs) (at 125)) (at 125)) ModuleBinds.EndOfBinds) (at 111) ∷ []) ≡ refused 31 140 []
refuses_3 = refl

-- structure A = struct val r = ref nil end and B = struct val x = nope end
refuses_4 : of false (TopPhrase.Structures (ModuleBinds.Bind (name (codes "A") 11) (ModulePhrase.Struct
    (ModuleDec.Sequence (ModuleDecs.Dec (ModuleDec.Core (DecPhrase.Val [] (Rules.Rule (PatPhrase.Long (long
    (codes "r" ∷ []) 26) (at 26)) (ExpPhrase.App (ExpPhrase.Long (long (codes "ref" ∷ []) 30) (at 30))
    (ExpPhrase.Long (long (codes "nil" ∷ []) 34) (at 34)) (at 30)) Rules.EndOfRules) Rules.EndOfRules (at 22)))
    ModuleDecs.EndOfDecs) (at 15)) (at 15)) (ModuleBinds.Bind (name (codes "B") 46) (ModulePhrase.Struct
    (ModuleDec.Sequence (ModuleDecs.Dec (ModuleDec.Core (DecPhrase.Val [] (Rules.Rule (PatPhrase.Long (long
    (codes "x" ∷ []) 61) (at 61)) (ExpPhrase.Long (long (codes "nope" ∷ []) 65) (at 65)) Rules.EndOfRules)
    Rules.EndOfRules (at 57))) ModuleDecs.EndOfDecs) (at 50)) (at 50)) ModuleBinds.EndOfBinds)) (at 1) ∷ []) ≡
    refused 42 11 []
refuses_4 = refl

-- functor F (X : sig end) = struct val r = ref nil end
refuses_5 : of false (TopPhrase.Functors (fun_bind (name (codes "F") 9) (name (codes "X") 12) (SigPhrase.Sig
    (SpecPhrase.Sequence SpecPhrases.EndOfSpecs (at 16)) (at 16)) (ModulePhrase.Struct (ModuleDec.Sequence
    (ModuleDecs.Dec (ModuleDec.Core (DecPhrase.Val [] (Rules.Rule (PatPhrase.Long (long (codes "r" ∷ []) 38) (at
    38)) (ExpPhrase.App (ExpPhrase.Long (long (codes "ref" ∷ []) 42) (at 42)) (ExpPhrase.Long (long (codes "nil" ∷
    []) 46) (at 46)) (at 42)) Rules.EndOfRules) Rules.EndOfRules (at 34))) ModuleDecs.EndOfDecs) (at 27)) (at 27)) ∷
    []) (at 1) ∷ []) ≡ refused 42 9 []
refuses_5 = refl

-- structure X = F (struct val y = nope end)
refuses_6 : of false (TopPhrase.Structures (ModuleBinds.Bind (name (codes "X") 11) (ModulePhrase.Functor (name
    (codes "F") 15) (ModulePhrase.Struct (ModuleDec.Sequence (ModuleDecs.Dec (ModuleDec.Core (DecPhrase.Val []
    (Rules.Rule (PatPhrase.Long (long (codes "y" ∷ []) 29) (at 29)) (ExpPhrase.Long (long (codes "nope" ∷ []) 33)
    (at 33)) Rules.EndOfRules) Rules.EndOfRules (at 25))) ModuleDecs.EndOfDecs) (at 18)) (at 18)) (at 15))
    ModuleBinds.EndOfBinds) (at 1) ∷ []) ≡ refused 30 15 (codes "F" ∷ [])
refuses_6 = refl

-- structure A = struct val x = 1 end and B = A
refuses_7 : of false (TopPhrase.Structures (ModuleBinds.Bind (name (codes "A") 11) (ModulePhrase.Struct
    (ModuleDec.Sequence (ModuleDecs.Dec (ModuleDec.Core (DecPhrase.Val [] (Rules.Rule (PatPhrase.Long (long
    (codes "x" ∷ []) 26) (at 26)) (ExpPhrase.Int (pos 1) (at 30)) Rules.EndOfRules) Rules.EndOfRules (at 22)))
    ModuleDecs.EndOfDecs) (at 15)) (at 15)) (ModuleBinds.Bind (name (codes "B") 40) (ModulePhrase.Named (long
    (codes "A" ∷ []) 44) (at 44)) ModuleBinds.EndOfBinds)) (at 1) ∷ []) ≡ refused 30 44 (codes "A" ∷ [])
refuses_7 = refl

-- functor F (X : sig type t end) = struct end structure X = F (struct end)
refuses_8 : of false (TopPhrase.Functors (fun_bind (name (codes "F") 9) (name (codes "X") 12) (SigPhrase.Sig
    (SpecPhrase.Sequence (SpecPhrases.Next (SpecPhrase.Types (type_desc [] (name (codes "t") 25) ∷ []) (at 20))
    SpecPhrases.EndOfSpecs) (at 16)) (at 16)) (ModulePhrase.Struct (ModuleDec.Sequence ModuleDecs.EndOfDecs (at 34))
    (at 34)) ∷ []) (at 1) ∷ TopPhrase.Structures (ModuleBinds.Bind (name (codes "X") 55) (ModulePhrase.Functor (name
    (codes "F") 59) (ModulePhrase.Struct (ModuleDec.Sequence ModuleDecs.EndOfDecs (at 62)) (at 62)) (at 59))
    ModuleBinds.EndOfBinds) (at 45) ∷ []) ≡ refused 36 62 (codes "t" ∷ [])
refuses_8 = refl

-- functor F (X : sig type t end) = struct end structure X = F ()
refuses_9 : of false (TopPhrase.Functors (fun_bind (name (codes "F") 9) (name (codes "X") 12) (SigPhrase.Sig
    (SpecPhrase.Sequence (SpecPhrases.Next (SpecPhrase.Types (type_desc [] (name (codes "t") 25) ∷ []) (at 20))
    SpecPhrases.EndOfSpecs) (at 16)) (at 16)) (ModulePhrase.Struct (ModuleDec.Sequence ModuleDecs.EndOfDecs (at 34))
    (at 34)) ∷ []) (at 1) ∷ TopPhrase.Structures (ModuleBinds.Bind (name (codes "X") 55) (ModulePhrase.Functor (name
    (codes "F") 59) (ModulePhrase.Struct (ModuleDec.Sequence ModuleDecs.EndOfDecs (at 59)) (at 59)) (at 59))
    ModuleBinds.EndOfBinds) (at 45) ∷ []) ≡ refused 36 59 (codes "t" ∷ [])
refuses_9 = refl

-- functor F (X : sig type t val v : t end) = struct end structure X = F (type t = int val v = "")
refuses_10 : of false (TopPhrase.Functors (fun_bind (name (codes "F") 9) (name (codes "X") 12) (SigPhrase.Sig
    (SpecPhrase.Sequence (SpecPhrases.Next (SpecPhrase.Types (type_desc [] (name (codes "t") 25) ∷ []) (at 20))
    (SpecPhrases.Next (SpecPhrase.Vals (val_desc (name (codes "v") 31) (TyPhrase.Named TyPhrases.EndOfArgs (long
    (codes "t" ∷ []) 35) (at 35)) ∷ []) (at 27)) SpecPhrases.EndOfSpecs)) (at 16)) (at 16)) (ModulePhrase.Struct
    (ModuleDec.Sequence ModuleDecs.EndOfDecs (at 44)) (at 44)) ∷ []) (at 1) ∷ TopPhrase.Structures (ModuleBinds.Bind
    (name (codes "X") 65) (ModulePhrase.Functor (name (codes "F") 69) (ModulePhrase.Struct (ModuleDec.Sequence
    (ModuleDecs.Dec (ModuleDec.Core (DecPhrase.Types (type_bind [] (name (codes "t") 77) (TyPhrase.Named
    TyPhrases.EndOfArgs (long (codes "int" ∷ []) 81) (at 81)) ∷ []) (at 72))) (ModuleDecs.Dec (ModuleDec.Core
    (DecPhrase.Val [] (Rules.Rule (PatPhrase.Long (long (codes "v" ∷ []) 89) (at 89)) (ExpPhrase.Str (codes "") (at
    93)) Rules.EndOfRules) Rules.EndOfRules (at 85))) ModuleDecs.EndOfDecs)) (at 72)) (at 72)) (at 69))
    ModuleBinds.EndOfBinds) (at 55) ∷ []) ≡ refused 37 72 (codes "v" ∷ [])
refuses_10 = refl

-- structure X : Nope = struct val a = 1 2 end
refuses_11 : of false (TopPhrase.Structures (ModuleBinds.Bind (name (codes "X") 11) (ModulePhrase.Transparent
    (ModulePhrase.Struct (ModuleDec.Sequence (ModuleDecs.Dec (ModuleDec.Core (DecPhrase.Val [] (Rules.Rule
    (PatPhrase.Long (long (codes "a" ∷ []) 33) (at 33)) (ExpPhrase.App (ExpPhrase.Int (pos 1) (at 37))
    (ExpPhrase.Int (pos 2) (at 39)) (at 37)) Rules.EndOfRules) Rules.EndOfRules (at 29))) ModuleDecs.EndOfDecs) (at
    22)) (at 22)) (SigPhrase.Named (name (codes "Nope") 15) (at 15)) (at 22)) ModuleBinds.EndOfBinds) (at 1) ∷ []) ≡
    refused 31 37 []
refuses_11 = refl

-- structure X : Nope = struct val a = 1 end
refuses_12 : of false (TopPhrase.Structures (ModuleBinds.Bind (name (codes "X") 11) (ModulePhrase.Transparent
    (ModulePhrase.Struct (ModuleDec.Sequence (ModuleDecs.Dec (ModuleDec.Core (DecPhrase.Val [] (Rules.Rule
    (PatPhrase.Long (long (codes "a" ∷ []) 33) (at 33)) (ExpPhrase.Int (pos 1) (at 37)) Rules.EndOfRules)
    Rules.EndOfRules (at 29))) ModuleDecs.EndOfDecs) (at 22)) (at 22)) (SigPhrase.Named (name (codes "Nope") 15) (at
    15)) (at 22)) ModuleBinds.EndOfBinds) (at 1) ∷ []) ≡ refused 30 15 (codes "Nope" ∷ [])
refuses_12 = refl

-- functor F (X : sig val true : int end) = struct open X val y = if true then 1 else 2 end
refuses_13 : of false (TopPhrase.Functors (fun_bind (name (codes "F") 9) (name (codes "X") 12) (SigPhrase.Sig
    (SpecPhrase.Sequence (SpecPhrases.Next (SpecPhrase.Vals (val_desc (name (codes "true") 24) (TyPhrase.Named
    TyPhrases.EndOfArgs (long (codes "int" ∷ []) 31) (at 31)) ∷ []) (at 20)) SpecPhrases.EndOfSpecs) (at 16)) (at
    16)) (ModulePhrase.Struct (ModuleDec.Sequence (ModuleDecs.Dec (ModuleDec.Core (DecPhrase.Open ((long (codes "X"
    ∷ []) 54) ∷ []) (at 49))) (ModuleDecs.Dec (ModuleDec.Core (DecPhrase.Val [] (Rules.Rule (PatPhrase.Long (long
    (codes "y" ∷ []) 60) (at 60)) (ExpPhrase.App (ExpPhrase.Fn (Rules.Rule (PatPhrase.Long (long (codes "true" ∷ [])
    64) (at 64)) (ExpPhrase.Int (pos 1) (at 77)) (Rules.Rule (PatPhrase.Long (long (codes "false" ∷ []) 64) (at 64))
    (ExpPhrase.Int (pos 2) (at 84)) Rules.EndOfRules)) (at 64)) (ExpPhrase.Long (long (codes "true" ∷ []) 67) (at
    67)) (at 64)) Rules.EndOfRules) Rules.EndOfRules (at 56))) ModuleDecs.EndOfDecs)) (at 42)) (at 42)) ∷ []) (at 1)
    ∷ []) ≡ refused 34 64 []
refuses_13 = refl

-- functor F (X : sig end) = struct val y = nope end
refuses_14 : of false (TopPhrase.Functors (fun_bind (name (codes "F") 9) (name (codes "X") 12) (SigPhrase.Sig
    (SpecPhrase.Sequence SpecPhrases.EndOfSpecs (at 16)) (at 16)) (ModulePhrase.Struct (ModuleDec.Sequence
    (ModuleDecs.Dec (ModuleDec.Core (DecPhrase.Val [] (Rules.Rule (PatPhrase.Long (long (codes "y" ∷ []) 38) (at
    38)) (ExpPhrase.Long (long (codes "nope" ∷ []) 42) (at 42)) Rules.EndOfRules) Rules.EndOfRules (at 34)))
    ModuleDecs.EndOfDecs) (at 27)) (at 27)) ∷ []) (at 1) ∷ []) ≡ refused 30 42 (codes "nope" ∷ [])
refuses_14 = refl

-- functor F (X : sig type t end) = X : sig type t end where type t = int
refuses_15 : of false (TopPhrase.Functors (fun_bind (name (codes "F") 9) (name (codes "X") 12) (SigPhrase.Sig
    (SpecPhrase.Sequence (SpecPhrases.Next (SpecPhrase.Types (type_desc [] (name (codes "t") 25) ∷ []) (at 20))
    SpecPhrases.EndOfSpecs) (at 16)) (at 16)) (ModulePhrase.Transparent (ModulePhrase.Named (long (codes "X" ∷ [])
    34) (at 34)) (SigPhrase.Where (SigPhrase.Sig (SpecPhrase.Sequence (SpecPhrases.Next (SpecPhrase.Types (type_desc
    [] (name (codes "t") 47) ∷ []) (at 42)) SpecPhrases.EndOfSpecs) (at 38)) (at 38)) [] (long (codes "t" ∷ []) 64)
    (TyPhrase.Named TyPhrases.EndOfArgs (long (codes "int" ∷ []) 68) (at 68)) (at 38)) (at 34)) ∷ []) (at 1) ∷ []) ≡
    refused 37 34 (codes "t" ∷ [])
refuses_15 = refl

-- structure A = struct structure B = struct val x = 1 end and C = B end
refuses_16 : of false (TopPhrase.Structures (ModuleBinds.Bind (name (codes "A") 11) (ModulePhrase.Struct
    (ModuleDec.Sequence (ModuleDecs.Dec (ModuleDec.Structures (ModuleBinds.Bind (name (codes "B") 32)
    (ModulePhrase.Struct (ModuleDec.Sequence (ModuleDecs.Dec (ModuleDec.Core (DecPhrase.Val [] (Rules.Rule
    (PatPhrase.Long (long (codes "x" ∷ []) 47) (at 47)) (ExpPhrase.Int (pos 1) (at 51)) Rules.EndOfRules)
    Rules.EndOfRules (at 43))) ModuleDecs.EndOfDecs) (at 36)) (at 36)) (ModuleBinds.Bind (name (codes "C") 61)
    (ModulePhrase.Named (long (codes "B" ∷ []) 65) (at 65)) ModuleBinds.EndOfBinds)) (at 22)) ModuleDecs.EndOfDecs)
    (at 15)) (at 15)) ModuleBinds.EndOfBinds) (at 1) ∷ []) ≡ refused 30 65 (codes "B" ∷ [])
refuses_16 = refl

-- functor F (X : sig end) = struct end and G (Y : sig end) = F (Y)
refuses_17 : of false (TopPhrase.Functors (fun_bind (name (codes "F") 9) (name (codes "X") 12) (SigPhrase.Sig
    (SpecPhrase.Sequence SpecPhrases.EndOfSpecs (at 16)) (at 16)) (ModulePhrase.Struct (ModuleDec.Sequence
    ModuleDecs.EndOfDecs (at 27)) (at 27)) ∷ fun_bind (name (codes "G") 42) (name (codes "Y") 45) (SigPhrase.Sig
    (SpecPhrase.Sequence SpecPhrases.EndOfSpecs (at 49)) (at 49)) (ModulePhrase.Functor (name (codes "F") 60)
    (ModulePhrase.Named (long (codes "Y" ∷ []) 63) (at 63)) (at 60)) ∷ []) (at 1) ∷ []) ≡ refused 30 60 (codes "F" ∷
    [])
refuses_17 = refl

-- signature S = sig end and T = S
refuses_18 : of false (TopPhrase.Signatures (SigBinds.Bind (name (codes "S") 11) (SigPhrase.Sig
    (SpecPhrase.Sequence SpecPhrases.EndOfSpecs (at 15)) (at 15)) (SigBinds.Bind (name (codes "T") 27)
    (SigPhrase.Named (name (codes "S") 31) (at 31)) SigBinds.EndOfBinds)) (at 1) ∷ []) ≡ refused 30 31 (codes "S" ∷
    [])
refuses_18 = refl

-- structure A = struct local structure B = struct val x = 1 end in end val y = B.x end
refuses_19 : of false (TopPhrase.Structures (ModuleBinds.Bind (name (codes "A") 11) (ModulePhrase.Struct
    (ModuleDec.Sequence (ModuleDecs.Dec (ModuleDec.Local (ModuleDec.Sequence (ModuleDecs.Dec (ModuleDec.Structures
    (ModuleBinds.Bind (name (codes "B") 38) (ModulePhrase.Struct (ModuleDec.Sequence (ModuleDecs.Dec (ModuleDec.Core
    (DecPhrase.Val [] (Rules.Rule (PatPhrase.Long (long (codes "x" ∷ []) 53) (at 53)) (ExpPhrase.Int (pos 1) (at
    57)) Rules.EndOfRules) Rules.EndOfRules (at 49))) ModuleDecs.EndOfDecs) (at 42)) (at 42))
    ModuleBinds.EndOfBinds) (at 28)) ModuleDecs.EndOfDecs) (at 22)) (ModuleDec.Sequence ModuleDecs.EndOfDecs (at
    22)) (at 22)) (ModuleDecs.Dec (ModuleDec.Core (DecPhrase.Val [] (Rules.Rule (PatPhrase.Long (long (codes "y" ∷
    []) 74) (at 74)) (ExpPhrase.Long (long (codes "B" ∷ codes "x" ∷ []) 78) (at 78)) Rules.EndOfRules)
    Rules.EndOfRules (at 70))) ModuleDecs.EndOfDecs)) (at 15)) (at 15)) ModuleBinds.EndOfBinds) (at 1) ∷ []) ≡
    refused 30 78 (codes "B.x" ∷ [])
refuses_19 = refl

-- funsig G (X : sig type t end) = sig val f : X.u end
refuses_20 : of false (TopPhrase.Funsigs (funsig_bind (name (codes "G") 8) (name (codes "X") 11) (SigPhrase.Sig
    (SpecPhrase.Sequence (SpecPhrases.Next (SpecPhrase.Types (type_desc [] (name (codes "t") 24) ∷ []) (at 19))
    SpecPhrases.EndOfSpecs) (at 15)) (at 15)) (SigPhrase.Sig (SpecPhrase.Sequence (SpecPhrases.Next (SpecPhrase.Vals
    (val_desc (name (codes "f") 41) (TyPhrase.Named TyPhrases.EndOfArgs (long (codes "X" ∷ codes "u" ∷ []) 45) (at
    45)) ∷ []) (at 37)) SpecPhrases.EndOfSpecs) (at 33)) (at 33)) ∷ []) (at 1) ∷ []) ≡ refused 30 45 (codes "X.u" ∷
    [])
refuses_20 = refl

-- structure B = struct val z = A.x end, where a structure A is given
abbrev pub given_a : Top
given_a = top_of_env (with_structure (codes "A") (with_value (codes "x") (variable [] string_tree) empty_env) empty_env)

defines_given : over_given given_a false (TopPhrase.Structures (ModuleBinds.Bind (name (codes "B") 11)
    (ModulePhrase.Struct (ModuleDec.Sequence (ModuleDecs.Dec (ModuleDec.Core (DecPhrase.Val [] (Rules.Rule
    (PatPhrase.Long (long (codes "z" ∷ []) 26) (at 26)) (ExpPhrase.Long (long (codes "A" ∷ codes "x" ∷ []) 30) (at
    30)) Rules.EndOfRules) Rules.EndOfRules (at 22))) ModuleDecs.EndOfDecs) (at 15)) (at 15)) ModuleBinds.EndOfBinds)
    (at 1) ∷ []) ≡ gives
    (top_of_env (with_structure (codes "B") (with_value (codes "z") (variable [] string_tree) empty_env) empty_env))
defines_given = refl

-- structure A = struct end and A = Nope, which no source gives
refuses_twice : of false (TopPhrase.Structures (ModuleBinds.Bind (name (codes "A") 11) (ModulePhrase.Struct
    (ModuleDec.Sequence ModuleDecs.EndOfDecs (at 15)) (at 15)) (ModuleBinds.Bind (name (codes "A") 30)
    (ModulePhrase.Named (long (codes "Nope" ∷ []) 34) (at 34)) ModuleBinds.EndOfBinds)) (at 1) ∷ [])
    ≡ refused 40 30 []
refuses_twice = refl

-- a type name over its variable
abbrev pub stack_tree : Tree
stack_tree = Tree.Made (symbol.Name (name_of (owner.«Unit» (codes "u")) 2 1 false)) (Trees.Cons (Tree.Bound 0) Trees.Nil)

abbrev pub functor_f : Functor
functor_f = functor_by (bound_name 0 false ∷ [])
    (with_type (codes "t") (plain (named (bound_name 0 false))) empty_env) []
    (with_type (codes "u") (plain (named (bound_name 0 false))) empty_env)

-- structures of two units that have a type name each
abbrev pub foreign : List ℕ → Tree
foreign unit = named (name_of (owner.«Unit» unit) 0 0 true)

abbrev pub given_q : Top
given_q = top_of_env
    (with_structure (codes "Q1")
    (with_value (codes "f") (variable [] (arrow_tree (foreign (codes "p1")) unit_tree)) empty_env)
    (with_structure (codes "Q2") (with_value (codes "v") (variable [] (foreign (codes "p2"))) empty_env) empty_env))

-- signature STACK = sig type 'a t val empty : 'a t val push : 'a * 'a t -> 'a t end structure Stack :> STACK =
--   struct type 'a t = 'a list val empty = [] fun push (x, s) = x :: s end
defines_stack : seen_value (codes "Stack" ∷ codes "push" ∷ []) (of false (TopPhrase.Signatures (SigBinds.Bind
    (name (codes "STACK") 11) (SigPhrase.Sig (SpecPhrase.Sequence (SpecPhrases.Next (SpecPhrase.Types (type_desc
    ((name (codes "'a") 28) ∷ []) (name (codes "t") 31) ∷ []) (at 23)) (SpecPhrases.Next (SpecPhrase.Vals (val_desc
    (name (codes "empty") 37) (TyPhrase.Named (TyPhrases.Arg (TyPhrase.Var (name (codes "'a") 45) (at 45))
    TyPhrases.EndOfArgs) (long (codes "t" ∷ []) 48) (at 45)) ∷ []) (at 33)) (SpecPhrases.Next (SpecPhrase.Vals
    (val_desc (name (codes "push") 54) (TyPhrase.Arrow (TyPhrase.Record (TyFields.Field (name (codes "1") 61)
    (TyPhrase.Var (name (codes "'a") 61) (at 61)) (TyFields.Field (name (codes "2") 61) (TyPhrase.Named
    (TyPhrases.Arg (TyPhrase.Var (name (codes "'a") 66) (at 66)) TyPhrases.EndOfArgs) (long (codes "t" ∷ []) 69) (at
    66)) TyFields.EndOfFields)) (at 61)) (TyPhrase.Named (TyPhrases.Arg (TyPhrase.Var (name (codes "'a") 74) (at
    74)) TyPhrases.EndOfArgs) (long (codes "t" ∷ []) 77) (at 74)) (at 61)) ∷ []) (at 50)) SpecPhrases.EndOfSpecs)))
    (at 19)) (at 19)) SigBinds.EndOfBinds) (at 1) ∷ TopPhrase.Structures (ModuleBinds.Bind (name (codes "Stack") 93)
    (ModulePhrase.Opaque (ModulePhrase.Struct (ModuleDec.Sequence (ModuleDecs.Dec (ModuleDec.Core (DecPhrase.Types
    (type_bind ((name (codes "'a") 122) ∷ []) (name (codes "t") 125) (TyPhrase.Named (TyPhrases.Arg (TyPhrase.Var
    (name (codes "'a") 129) (at 129)) TyPhrases.EndOfArgs) (long (codes "list" ∷ []) 132) (at 129)) ∷ []) (at 117)))
    (ModuleDecs.Dec (ModuleDec.Core (DecPhrase.Val [] (Rules.Rule (PatPhrase.Long (long (codes "empty" ∷ []) 141)
    (at 141)) (ExpPhrase.Long (long (codes "nil" ∷ []) 149) (at 149)) Rules.EndOfRules) Rules.EndOfRules (at 137)))
    (ModuleDecs.Dec (ModuleDec.Core (DecPhrase.Val [] Rules.EndOfRules (Rules.Rule (PatPhrase.Long (long
    (codes "push" ∷ []) 156) (at 156)) (ExpPhrase.Fn (Rules.Rule (PatPhrase.Long (long (codes "%1" ∷ []) 156) (at
    156)) (ExpPhrase.App (ExpPhrase.Fn (Rules.Rule (PatPhrase.Record (PatFields.Field (name (codes "1") 161)
    (PatPhrase.Long (long (codes "x" ∷ []) 162) (at 162)) (PatFields.Field (name (codes "2") 161) (PatPhrase.Long
    (long (codes "s" ∷ []) 165) (at 165)) PatFields.EndOfFields)) (at 161)) (ExpPhrase.App (ExpPhrase.Long (long
    (codes "::" ∷ []) 172) (at 172)) (ExpPhrase.Record (ExpFields.Field (name (codes "1") 170) (ExpPhrase.Long (long
    (codes "x" ∷ []) 170) (at 170)) (ExpFields.Field (name (codes "2") 170) (ExpPhrase.Long (long (codes "s" ∷ [])
    175) (at 175)) ExpFields.EndOfFields)) (at 170)) (at 170)) Rules.EndOfRules) (at 156)) (ExpPhrase.Long (long
    (codes "%1" ∷ []) 156) (at 156)) (at 156)) Rules.EndOfRules) (at 156)) Rules.EndOfRules) (at 152)))
    ModuleDecs.EndOfDecs))) (at 110)) (at 110)) (SigPhrase.Named (name (codes "STACK") 102) (at 102)) (at 110))
    ModuleBinds.EndOfBinds) (at 83) ∷ [])) ≡ gives (variable (false ∷ []) (arrow_tree (pair_tree (Tree.Bound 0)
    stack_tree) stack_tree))
defines_stack = refl

-- structure Int = struct open Int val two = 2 end
defines_int : of false (TopPhrase.Structures (ModuleBinds.Bind (name (codes "Int") 11) (ModulePhrase.Struct
    (ModuleDec.Sequence (ModuleDecs.Dec (ModuleDec.Core (DecPhrase.Open ((long (codes "Int" ∷ []) 29) ∷ []) (at
    24))) (ModuleDecs.Dec (ModuleDec.Core (DecPhrase.Val [] (Rules.Rule (PatPhrase.Long (long (codes "two" ∷ []) 37)
    (at 37)) (ExpPhrase.Int (pos 2) (at 43)) Rules.EndOfRules) Rules.EndOfRules (at 33))) ModuleDecs.EndOfDecs)) (at
    17)) (at 17)) ModuleBinds.EndOfBinds) (at 1) ∷ []) ≡ gives (top_of_env (with_structure (codes "Int") (with_value
    (codes "min") min_entry (with_value (codes "two") (variable [] int_tree) empty_env)) empty_env))
defines_int = refl

-- functor F (X : sig type t end) = struct type u = X.t end funsig G (X : sig end) = sig type t end, and what F is
defines_f : seen_functor (codes "F") (of false (TopPhrase.Functors (fun_bind (name (codes "F") 9) (name
    (codes "X") 12) (SigPhrase.Sig (SpecPhrase.Sequence (SpecPhrases.Next (SpecPhrase.Types (type_desc [] (name
    (codes "t") 25) ∷ []) (at 20)) SpecPhrases.EndOfSpecs) (at 16)) (at 16)) (ModulePhrase.Struct
    (ModuleDec.Sequence (ModuleDecs.Dec (ModuleDec.Core (DecPhrase.Types (type_bind [] (name (codes "u") 46)
    (TyPhrase.Named TyPhrases.EndOfArgs (long (codes "X" ∷ codes "t" ∷ []) 50) (at 50)) ∷ []) (at 41)))
    ModuleDecs.EndOfDecs) (at 34)) (at 34)) ∷ []) (at 1) ∷ TopPhrase.Funsigs (funsig_bind (name (codes "G") 65)
    (name (codes "X") 68) (SigPhrase.Sig (SpecPhrase.Sequence SpecPhrases.EndOfSpecs (at 72)) (at 72))
    (SigPhrase.Sig (SpecPhrase.Sequence (SpecPhrases.Next (SpecPhrase.Types (type_desc [] (name (codes "t") 92) ∷
    []) (at 87)) SpecPhrases.EndOfSpecs) (at 83)) (at 83)) ∷ []) (at 58) ∷ [])) ≡ gives functor_f
defines_f = refl

-- .. and what G is
defines_g : seen_funsig (codes "G") (of false (TopPhrase.Functors (fun_bind (name (codes "F") 9) (name
    (codes "X") 12) (SigPhrase.Sig (SpecPhrase.Sequence (SpecPhrases.Next (SpecPhrase.Types (type_desc [] (name
    (codes "t") 25) ∷ []) (at 20)) SpecPhrases.EndOfSpecs) (at 16)) (at 16)) (ModulePhrase.Struct
    (ModuleDec.Sequence (ModuleDecs.Dec (ModuleDec.Core (DecPhrase.Types (type_bind [] (name (codes "u") 46)
    (TyPhrase.Named TyPhrases.EndOfArgs (long (codes "X" ∷ codes "t" ∷ []) 50) (at 50)) ∷ []) (at 41)))
    ModuleDecs.EndOfDecs) (at 34)) (at 34)) ∷ []) (at 1) ∷ TopPhrase.Funsigs (funsig_bind (name (codes "G") 65)
    (name (codes "X") 68) (SigPhrase.Sig (SpecPhrase.Sequence SpecPhrases.EndOfSpecs (at 72)) (at 72))
    (SigPhrase.Sig (SpecPhrase.Sequence (SpecPhrases.Next (SpecPhrase.Types (type_desc [] (name (codes "t") 92) ∷
    []) (at 87)) SpecPhrases.EndOfSpecs) (at 83)) (at 83)) ∷ []) (at 58) ∷ [])) ≡ gives (functor_by [] empty_env
    (bound_name 0 false ∷ []) (with_type (codes "t") (plain (named (bound_name 0 false))) empty_env))
defines_g = refl

-- structure B = F (struct type t = int end), where F is given
defines_b : over_given (top_of_functors ((codes "F", functor_f) ∷ [])) false (TopPhrase.Structures
    (ModuleBinds.Bind (name (codes "B") 11) (ModulePhrase.Functor (name (codes "F") 15) (ModulePhrase.Struct
    (ModuleDec.Sequence (ModuleDecs.Dec (ModuleDec.Core (DecPhrase.Types (type_bind [] (name (codes "t") 30)
    (TyPhrase.Named TyPhrases.EndOfArgs (long (codes "int" ∷ []) 34) (at 34)) ∷ []) (at 25))) ModuleDecs.EndOfDecs)
    (at 18)) (at 18)) (at 15)) ModuleBinds.EndOfBinds) (at 1) ∷ []) ≡ gives (top_of_env (with_structure (codes "B")
    (with_type (codes "u") (plain int_tree) empty_env) empty_env))
defines_b = refl

-- structure M = struct val u = Q1.f Q2.v end, where types of two other units are given
refuses_foreign : over_given given_q false (TopPhrase.Structures (ModuleBinds.Bind (name (codes "M") 11)
    (ModulePhrase.Struct (ModuleDec.Sequence (ModuleDecs.Dec (ModuleDec.Core (DecPhrase.Val [] (Rules.Rule
    (PatPhrase.Long (long (codes "u" ∷ []) 26) (at 26)) (ExpPhrase.App (ExpPhrase.Long (long (codes "Q1" ∷ codes "f"
    ∷ []) 30) (at 30)) (ExpPhrase.Long (long (codes "Q2" ∷ codes "v" ∷ []) 35) (at 35)) (at 30)) Rules.EndOfRules)
    Rules.EndOfRules (at 22))) ModuleDecs.EndOfDecs) (at 15)) (at 15)) ModuleBinds.EndOfBinds) (at 1) ∷ []) ≡
    refused 31 30 []
refuses_foreign = refl
