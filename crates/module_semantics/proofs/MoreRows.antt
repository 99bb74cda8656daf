-- More small signatures and matchings: copied datatypes, `include`, exceptions, `where type` at a datatype, what the
-- second walk of matching refuses and in which order, and sealing of two names.
use Rattle.std.proofs.Common.{◌≡◌, ℕ, List, [], ◌∷◌, refl, Option, Some, None, true, false}
use Rattle.std.specs.Prelude.{codes}
use Rattle.semantic_objects.specs.declared.name.Owner.TheVariants as owner
use Rattle.semantic_objects.specs.declared.entry.VidStatus.TheVariants as status
use Rattle.semantic_objects.specs.Trees.{Tree}
use Rattle.semantic_objects.specs.Environments.{Env, Signature, empty_env, with_structure, with_type, with_value}
use Rattle.bare_phrases.specs.Phrases.{TyPhrase}
use Rattle.static_semantics.specs.Inferring.{Scope, outermost, Answer, gives}
use Rattle.module_semantics.specs.SigPhrases.{SigPhrase, SpecPhrase}
use Rattle.module_semantics.specs.SignatureNames.{sealed}
use Rattle.module_semantics.specs.SignatureInference.{signature_of}
use Rattle.module_semantics.proofs.Rows.{at, name, long, con_ty, val_spec, con_bind, datatype_spec, sig_end, where_type, name_of, named, int_tree, string_tree, exn_tree, arrow_tree, type_of, con, value, basis, start, sig_of, bound_name, bound_of_one, over_variable, t_and_v, sigs, first_of, of, refused, into}

-- ---- copied datatypes

abbrev bool_tree : Tree
bool_tree = named (name_of owner.Basis 1 0 true)

abbrev bools : Env → Env
bools env = with_value (codes "true") (value status.Constructor [] bool_tree)
    (with_value (codes "false") (value status.Constructor [] bool_tree) env)

abbrev bool_type : List ℕ → Env → Env
bool_type text env = with_type text (type_of 0 bool_tree (con (codes "false") bool_tree
    ∷ con (codes "true") bool_tree ∷ [])) env

abbrev with_bools : Scope
with_bools = outermost (codes "u") (bools (bool_type (codes "bool") basis))

abbrev in_bools : SigPhrase → Answer Signature
in_bools sig = first_of (signature_of sigs with_bools sig start)

-- sig datatype t = datatype bool end
copied_1 : in_bools (sig_end (SpecPhrase.Replication (name (codes "t") 14) (long (codes "bool" ∷ []) 27) (at 5) ∷ []))
    ≡ gives (sig_of [] (bools (bool_type (codes "t") empty_env)))
copied_1 = refl

-- sig datatype t = datatype nope end
copied_2 : in_bools (sig_end (SpecPhrase.Replication (name (codes "t") 14) (long (codes "nope" ∷ []) 27) (at 5) ∷ []))
    ≡ refused 30 27 (codes "nope" ∷ [])
copied_2 = refl

-- sig val true : int datatype t = datatype bool end
copied_3 : in_bools (sig_end (val_spec (codes "true") 9 (con_ty (codes "int") 16)
    ∷ SpecPhrase.Replication (name (codes "t") 29) (long (codes "bool" ∷ []) 42) (at 20) ∷ []))
    ≡ refused 40 29 []
copied_3 = refl

-- ---- `include`

abbrev include_s : ℕ → SpecPhrase
include_s n = SpecPhrase.Include (SigPhrase.Named (name (codes "S") 13) (at 13)) (at n)

-- sig include S val w : t end
include_1 : of (sig_end (include_s 5 ∷ val_spec (codes "w") 19 (con_ty (codes "t") 23) ∷ []))
    ≡ gives (sig_of (bound_name 0 false ∷ [])
    (with_value (codes "w") (value status.Variable [] (named (bound_name 0 false))) t_and_v.env))
include_1 = refl

-- sig include S include S end
include_2 : of (sig_end (include_s 5 ∷ include_s 15 ∷ [])) ≡ refused 40 15 []
include_2 = refl

-- ---- exceptions

abbrev exception_spec : List ℕ → ℕ → Option TyPhrase → SpecPhrase
exception_spec text n arg = SpecPhrase.Exceptions (con_bind text n arg ∷ []) (at 5)

-- sig exception E of int exception F end
exception_1 : of (sig_end (exception_spec (codes "E") 15 (Some (con_ty (codes "int") 20))
    ∷ exception_spec (codes "F") 34 None ∷ []))
    ≡ gives (sig_of [] (with_value (codes "E") (value status.Exception [] (arrow_tree int_tree exn_tree))
    (with_value (codes "F") (value status.Exception [] exn_tree) empty_env)))
exception_1 = refl

-- sig exception E val E : int end
exception_2 : of (sig_end (exception_spec (codes "E") 15 None ∷ val_spec (codes "E") 21 (con_ty (codes "int") 25) ∷ []))
    ≡ refused 40 21 []
exception_2 = refl

-- ---- `where type` at a datatype: the constructors stay

-- sig datatype t = A end where type t = int
where_1 : of (where_type (sig_end (datatype_spec (codes "t") 14 (con_bind (codes "A") 18 None ∷ []) ∷ []))
    (codes "t" ∷ []) 35 (con_ty (codes "int") 39))
    ≡ gives (sig_of [] (with_type (codes "t") (type_of 0 int_tree (con (codes "A") int_tree ∷ []))
    (with_value (codes "A") (value status.Constructor [] int_tree) empty_env)))
where_1 = refl

abbrev function_ty : ℕ → ℕ → TyPhrase
function_ty n m = TyPhrase.Arrow (con_ty (codes "int") n) (con_ty (codes "int") m) (at n)

abbrev function_tree : Tree
function_tree = arrow_tree int_tree int_tree

-- sig datatype t = A | B of int -> int end where type t = int -> int
where_2 : of (where_type (sig_end (datatype_spec (codes "t") 14 (con_bind (codes "A") 18 None
    ∷ con_bind (codes "B") 22 (Some (function_ty 27 34)) ∷ []) ∷ []))
    (codes "t" ∷ []) 53 (function_ty 57 64))
    ≡ gives (sig_of [] (with_type (codes "t") (type_of 0 function_tree (con (codes "A") function_tree
    ∷ con (codes "B") (arrow_tree function_tree function_tree) ∷ []))
    (with_value (codes "A") (value status.Constructor [] function_tree)
    (with_value (codes "B") (value status.Constructor [] (arrow_tree function_tree function_tree)) empty_env))))
where_2 = refl

-- sig datatype t = A end where type t = int -> int
where_3 : of (where_type (sig_end (datatype_spec (codes "t") 14 (con_bind (codes "A") 18 None ∷ []) ∷ []))
    (codes "t" ∷ []) 35 (function_ty 39 46)) ≡ refused 33 1 []
where_3 = refl

-- ---- the second walk

abbrev t_is : Tree → Env → Env
t_is ty env = with_type (codes "t") (type_of 0 ty []) env

abbrev u_is : Tree → Env → Env
u_is ty env = with_type (codes "u") (type_of 0 ty []) env

abbrev x_is : Tree → Env
x_is ty = with_value (codes "x") (value status.Variable [] ty) empty_env

-- struct type 'a t = int end : sig type t = int end
walk_1 : into (with_type (codes "t") (type_of 1 int_tree []) empty_env) (sig_of [] (t_is int_tree empty_env))
    ≡ refused 35 7 []
walk_1 = refl

-- struct type t = string end : sig type t = int end
walk_2 : into (t_is string_tree empty_env) (sig_of [] (t_is int_tree empty_env)) ≡ refused 37 7 (codes "t" ∷ [])
walk_2 = refl

-- struct datatype t = A | B end : sig datatype t = A end
abbrev own_tree : Tree
own_tree = named (name_of (owner.«Unit» (codes "u")) 0 0 true)

walk_3 : into (with_type (codes "t") (type_of 0 own_tree (con (codes "A") own_tree ∷ con (codes "B") own_tree ∷ []))
    (with_value (codes "A") (value status.Constructor [] own_tree)
    (with_value (codes "B") (value status.Constructor [] own_tree) empty_env)))
    (sig_of (bound_name 0 true ∷ []) (with_type (codes "t")
    (type_of 0 (named (bound_name 0 true)) (con (codes "A") (named (bound_name 0 true)) ∷ []))
    (with_value (codes "A") (value status.Constructor [] (named (bound_name 0 true))) empty_env)))
    ≡ refused 37 7 (codes "t" ∷ [])
walk_3 = refl

-- struct end : sig type t = int end
walk_4 : into empty_env (sig_of [] (t_is int_tree empty_env)) ≡ refused 36 7 (codes "t" ∷ [])
walk_4 = refl

-- struct structure A = struct end end : sig structure A : sig val x : int end end
walk_5 : into (with_structure (codes "A") empty_env empty_env)
    (sig_of [] (with_structure (codes "A") (x_is int_tree) empty_env)) ≡ refused 36 7 (codes "A.x" ∷ [])
walk_5 = refl

-- a type that misfits comes before a value that is missing: struct type t = string end : sig type t = int val v : int
-- end
walk_6 : into (t_is string_tree empty_env)
    (sig_of [] (t_is int_tree (with_value (codes "v") (value status.Variable [] int_tree) empty_env)))
    ≡ refused 37 7 (codes "t" ∷ [])
walk_6 = refl

-- what is inside a structure comes before the types beside it: struct structure A = struct val x = "" end end : sig
-- structure A : sig val x : int end type t = int end
walk_7 : into (with_structure (codes "A") (x_is string_tree) empty_env)
    (sig_of [] (with_structure (codes "A") (x_is int_tree) (t_is int_tree empty_env)))
    ≡ refused 37 7 (codes "A.x" ∷ [])
walk_7 = refl

-- a flexible name that stands alone twice is realised at the first: struct type t = int type u = string end : sig
-- type t type u = t end
walk_8 : into (t_is int_tree (u_is string_tree empty_env))
    (sig_of (bound_name 0 false ∷ []) (t_is (named (bound_name 0 false)) (u_is (named (bound_name 0 false)) empty_env)))
    ≡ refused 37 7 (codes "u" ∷ [])
walk_8 = refl

-- .. which may be inside a structure: struct type t = int structure A = struct type u = string end end : sig type t
-- structure A : sig type u = t end end
walk_9 : into (t_is int_tree (with_structure (codes "A") (u_is string_tree empty_env) empty_env))
    (sig_of (bound_name 0 false ∷ []) (t_is (named (bound_name 0 false))
    (with_structure (codes "A") (u_is (named (bound_name 0 false)) empty_env) empty_env)))
    ≡ refused 37 7 (codes "t" ∷ [])
walk_9 = refl

-- ---- sealing

abbrev two_types : Tree → Tree → Env
two_types t u = t_is t (with_type (codes "u") (type_of 1 u []) empty_env)

abbrev two_names : Signature
two_names = sig_of (bound_name 0 true ∷ bound_of_one 1 ∷ [])
    (two_types (named (bound_name 0 true)) (over_variable (bound_of_one 1)))

-- sig eqtype t type 'a u end, with the numbers 3 and 4
seal_2 : (sealed (codes "u") two_names start).0 ≡ two_types (named (name_of (owner.«Unit» (codes "u")) 3 0 true))
    (over_variable (name_of (owner.«Unit» (codes "u")) 4 1 false))
seal_2 = refl

seal_3 : (sealed (codes "u") two_names start).1.names ≡ 5
seal_3 = refl
