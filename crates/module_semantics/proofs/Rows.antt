-- Small signatures with what inference and matching give of them, each with the text that it stands for. A column that
-- a diagnostic shows is that of the text; the others are near it.
use Rattle.std.proofs.Common.{◌≡◌, ℕ, List, [], ◌∷◌, refl, Option, Some, None, Bool, true, false}
use Rattle.std.specs.Prelude.{codes, Err}
use Rattle.sml_trees.specs.declared.name.At.{At}
use Rattle.sml_trees.specs.declared.name.Name.{Name}
use Rattle.sml_trees.specs.declared.name.LongName.{LongName}
use Rattle.semantic_objects.specs.declared.name.Owner.{Owner}
use Rattle.semantic_objects.specs.declared.name.Owner.TheVariants as owner
use Rattle.semantic_objects.specs.declared.name.TyName.{TyName}
use Rattle.semantic_objects.specs.declared.symbol.Symbol.TheVariants as symbol
use Rattle.semantic_objects.specs.declared.entry.TypeStr.{TypeStr}
use Rattle.semantic_objects.specs.declared.entry.ConEntry.{ConEntry}
use Rattle.semantic_objects.specs.declared.entry.ValueEntry.{ValueEntry}
use Rattle.semantic_objects.specs.declared.entry.VidStatus.{VidStatus}
use Rattle.semantic_objects.specs.declared.entry.VidStatus.TheVariants as status
use Rattle.semantic_objects.specs.Tables.{Table}
use Rattle.semantic_objects.specs.Trees.{Tree, Trees}
use Rattle.semantic_objects.specs.Environments.{Env, Signature, empty_env, with_structure, with_type, with_value}
use Rattle.unification.specs.Fitting.{no_variable}
use Rattle.bare_phrases.specs.Phrases.{TyPhrase, TyPhrases, ConPhrase, DatPhrase}
use Rattle.static_semantics.specs.Inferring.{Progress, Scope, outermost, Answer, ◌>>=◌, gives, diag_at}
use Rattle.module_semantics.specs.SigPhrases.{ValPhrase, TypeDescPhrase, SigPhrase, SpecPhrase, SigBinds, spec_phrases}
use Rattle.module_semantics.specs.SignatureNames.{sealed}
use Rattle.module_semantics.specs.SignatureInference.{signature_of}
use Rattle.module_semantics.specs.Matching.{matched}

-- ---- phrases

abbrev pub at : ℕ → At
at n = record { line = 1; col = n }

abbrev pub name : List ℕ → ℕ → Name
name text n = record { text = text; line = 1; col = n }

abbrev pub long : List (List ℕ) → ℕ → LongName
long parts n = record { parts = parts; line = 1; col = n }

abbrev pub con_ty : List ℕ → ℕ → TyPhrase
con_ty text n = TyPhrase.Named TyPhrases.EndOfArgs (long (text ∷ []) n) (at n)

abbrev pub var_ty : List ℕ → ℕ → TyPhrase
var_ty text n = TyPhrase.Var (name text n) (at n)

abbrev pub val_spec : List ℕ → ℕ → TyPhrase → SpecPhrase
val_spec text n ty =
    SpecPhrase.Vals ((let desc : ValPhrase = record { name = name text n; ty = ty } in desc) ∷ []) (at n)

abbrev pub desc : List Name → List ℕ → ℕ → TypeDescPhrase
desc tyvars text n = record { tyvars = tyvars; name = name text n }

abbrev pub type_spec : List Name → List ℕ → ℕ → SpecPhrase
type_spec tyvars text n = SpecPhrase.Types (desc tyvars text n ∷ []) (at n)

abbrev pub eqtype_spec : List ℕ → ℕ → SpecPhrase
eqtype_spec text n = SpecPhrase.Eqtypes (desc [] text n ∷ []) (at n)

abbrev pub con_bind : List ℕ → ℕ → Option TyPhrase → ConPhrase
con_bind text n arg = record { name = name text n; arg = arg }

abbrev pub datatype_spec : List ℕ → ℕ → List ConPhrase → SpecPhrase
datatype_spec text n cons =
    SpecPhrase.Datatypes ((let bind : DatPhrase = record { tyvars = []; name = name text n; cons = cons } in bind) ∷ [])
    (at n)

abbrev pub sig_end : List SpecPhrase → SigPhrase
sig_end specs = SigPhrase.Sig (SpecPhrase.Sequence (spec_phrases specs) (at 5)) (at 1)

abbrev pub where_type : SigPhrase → List (List ℕ) → ℕ → TyPhrase → SigPhrase
where_type sig parts n ty = SigPhrase.Where sig [] (long parts n) ty (at 1)

-- `type t = ty` as it is written bare
abbrev pub type_is : List ℕ → ℕ → TyPhrase → SpecPhrase
type_is text n ty = SpecPhrase.Include (where_type (sig_end (type_spec [] text n ∷ [])) (text ∷ []) n ty) (at n)

-- ---- a part of the initial basis

abbrev pub name_of : Owner → ℕ → ℕ → Bool → TyName
name_of own number arity eq = record { owner = own; number = number; arity = arity; eq = eq }

abbrev pub named : TyName → Tree
named n = Tree.Made (symbol.Name n) Trees.Nil

abbrev pub int_tree : Tree
int_tree = named (name_of owner.Basis 0 0 true)

abbrev pub string_tree : Tree
string_tree = named (name_of owner.Basis 2 0 true)

abbrev pub exn_tree : Tree
exn_tree = named (name_of owner.Basis 7 0 false)

abbrev pub arrow_tree : Tree → Tree → Tree
arrow_tree from to = Tree.Made symbol.Arrow (Trees.Cons from (Trees.Cons to Trees.Nil))

abbrev pub type_of : ℕ → Tree → List ConEntry → TypeStr
type_of arity body cons = record { function = record { arity = arity; body = body }; cons = cons }

abbrev pub con : List ℕ → Tree → ConEntry
con text body = record { name = text; scheme = record { marks = []; body = body } }

abbrev pub value : VidStatus → List Bool → Tree → ValueEntry
value kind marks body = record { status = kind; scheme = record { marks = marks; body = body } }

abbrev pub basis : Env
basis = with_type (codes "int") (type_of 0 int_tree []) (with_type (codes "exn") (type_of 0 exn_tree []) empty_env)

abbrev pub top : Scope
top = outermost (codes "u") basis

abbrev pub start : Progress
start = record { types = no_variable; names = 3 }

abbrev pub sig_of : List TyName → Env → Signature
sig_of bound env = record { bound = bound; env = env }

-- bound names, and one over its variable
abbrev pub bound_name : ℕ → Bool → TyName
bound_name number eq = name_of owner.Bound number 0 eq

abbrev pub bound_of_one : ℕ → TyName
bound_of_one number = name_of owner.Bound number 1 false

abbrev pub over_variable : TyName → Tree
over_variable n = Tree.Made (symbol.Name n) (Trees.Cons (Tree.Bound 0) Trees.Nil)

-- `sig type t val v : t end`
abbrev pub t_and_v : Signature
t_and_v = sig_of (bound_name 0 false ∷ [])
    (with_type (codes "t") (type_of 0 (named (bound_name 0 false)) [])
    (with_value (codes "v") (value status.Variable [] (named (bound_name 0 false))) empty_env))

abbrev pub sigs : Table Signature
sigs = (codes "S", t_and_v) ∷ []

-- ---- what comes out

abbrev pub first_of : {A : Type 0} → Answer (A × Progress) → Answer A
first_of r = r >>= λ x. gives x.0

abbrev pub of : SigPhrase → Answer Signature
of sig = first_of (signature_of sigs top sig start)

abbrev pub refused : {A : Type 0} → ℕ → ℕ → List (List ℕ) → Answer A
refused number col names = Some (Err (diag_at number top (at col) names))

-- ---- signatures

-- sig type t val v : t end
sig_1 : of (sig_end (type_spec [] (codes "t") 10 ∷ val_spec (codes "v") 16 (con_ty (codes "t") 20) ∷ []))
    ≡ gives t_and_v
sig_1 = refl

-- sig type t datatype t = A end
sig_2 : of (sig_end (type_spec [] (codes "t") 10
    ∷ datatype_spec (codes "t") 21 (con_bind (codes "A") 25 None ∷ []) ∷ []))
    ≡ refused 40 21 []
sig_2 = refl

-- sig val A : int datatype t = A end
sig_3 : of (sig_end (val_spec (codes "A") 9 (con_ty (codes "int") 13)
    ∷ datatype_spec (codes "t") 26 (con_bind (codes "A") 30 None ∷ []) ∷ []))
    ≡ refused 40 30 []
sig_3 = refl

-- sig val x : int val x : nope end
sig_4 : of (sig_end (val_spec (codes "x") 9 (con_ty (codes "int") 13)
    ∷ val_spec (codes "x") 21 (con_ty (codes "nope") 25) ∷ []))
    ≡ refused 30 25 (codes "nope" ∷ [])
sig_4 = refl

-- sig val x : int val x : int end
sig_5 : of (sig_end (val_spec (codes "x") 9 (con_ty (codes "int") 13)
    ∷ val_spec (codes "x") 21 (con_ty (codes "int") 25) ∷ []))
    ≡ refused 40 21 []
sig_5 = refl

-- sig structure A : sig type t end and B : sig type u = A.t end end
sig_6 : of (sig_end (SpecPhrase.Structures (SigBinds.Bind (name (codes "A") 15)
    (sig_end (type_spec [] (codes "t") 28 ∷ []))
    (SigBinds.Bind (name (codes "B") 38) (sig_end (type_is (codes "u") 51
    (TyPhrase.Named TyPhrases.EndOfArgs (long (codes "A" ∷ codes "t" ∷ []) 55) (at 55)) ∷ []))
    SigBinds.EndOfBinds)) (at 5) ∷ []))
    ≡ refused 30 55 (codes "A.t" ∷ [])
sig_6 = refl

-- sig eqtype t end where type t = int -> int
sig_7 : of (where_type (sig_end (eqtype_spec (codes "t") 12 ∷ [])) (codes "t" ∷ []) 29
    (TyPhrase.Arrow (con_ty (codes "int") 33) (con_ty (codes "int") 40) (at 33)))
    ≡ refused 33 1 []
sig_7 = refl

-- sig type 'a t end where type t = int
sig_8 : of (where_type (sig_end (type_spec (name (codes "'a") 10 ∷ []) (codes "t") 13 ∷ [])) (codes "t" ∷ []) 30
    (con_ty (codes "int") 34))
    ≡ refused 35 1 []
sig_8 = refl

-- sig type t = int end where type t = int -> int
sig_9 : of (where_type (sig_end (type_is (codes "t") 10 (con_ty (codes "int") 14) ∷ [])) (codes "t" ∷ []) 33
    (TyPhrase.Arrow (con_ty (codes "int") 37) (con_ty (codes "int") 44) (at 37)))
    ≡ refused 33 1 []
sig_9 = refl

-- sig type t = int end where type t = int
sig_10 : of (where_type (sig_end (type_is (codes "t") 10 (con_ty (codes "int") 14) ∷ [])) (codes "t" ∷ []) 33
    (con_ty (codes "int") 37))
    ≡ refused 37 1 (codes "t" ∷ [])
sig_10 = refl

-- sig type t type u val x : u end where type t = int
sig_11 : of (where_type (sig_end (type_spec [] (codes "t") 10 ∷ type_spec [] (codes "u") 17
    ∷ val_spec (codes "x") 23 (con_ty (codes "u") 27) ∷ [])) (codes "t" ∷ []) 44 (con_ty (codes "int") 48))
    ≡ gives (sig_of (bound_name 0 false ∷ []) (with_type (codes "t") (type_of 0 int_tree [])
    (with_type (codes "u") (type_of 0 (named (bound_name 0 false)) [])
    (with_value (codes "x") (value status.Variable [] (named (bound_name 0 false))) empty_env))))
sig_11 = refl

-- sig type t end where type nope = nope2
sig_12 : of (where_type (sig_end (type_spec [] (codes "t") 10 ∷ [])) (codes "nope" ∷ []) 27 (con_ty (codes "nope2") 34))
    ≡ refused 30 27 (codes "nope" ∷ [])
sig_12 = refl

-- sig exception E of 'a end
sig_13 : of (sig_end (SpecPhrase.Exceptions (con_bind (codes "E") 15 (Some (var_ty (codes "'a") 20)) ∷ []) (at 5) ∷ []))
    ≡ refused 30 20 (codes "'a" ∷ [])
sig_13 = refl

-- sig val f : ''b -> 'a end
sig_14 : of (sig_end (val_spec (codes "f") 9
    (TyPhrase.Arrow (var_ty (codes "''b") 13) (var_ty (codes "'a") 20) (at 13)) ∷ []))
    ≡ gives (sig_of [] (with_value (codes "f")
    (value status.Variable (true ∷ false ∷ []) (arrow_tree (Tree.Bound 0) (Tree.Bound 1))) empty_env))
sig_14 = refl

-- sig structure X : S structure Y : S end
sig_15 : of (sig_end (SpecPhrase.Structures (SigBinds.Bind (name (codes "X") 15) (SigPhrase.Named (name (codes "S") 19)
    (at 19)) SigBinds.EndOfBinds) (at 5)
    ∷ SpecPhrase.Structures (SigBinds.Bind (name (codes "Y") 31) (SigPhrase.Named (name (codes "S") 35) (at 35))
    SigBinds.EndOfBinds) (at 21) ∷ []))
    ≡ gives (sig_of (bound_name 0 false ∷ bound_name 1 false ∷ [])
    (with_structure (codes "X") t_and_v.env
    (with_structure (codes "Y")
    (with_type (codes "t") (type_of 0 (named (bound_name 1 false)) [])
    (with_value (codes "v") (value status.Variable [] (named (bound_name 1 false))) empty_env)) empty_env)))
sig_15 = refl

-- sig datatype t = A | B of int end, whose type admits equality
abbrev pub a_or_b : Signature
a_or_b = sig_of (bound_name 0 true ∷ [])
    (with_type (codes "t") (type_of 0 (named (bound_name 0 true)) (con (codes "A") (named (bound_name 0 true))
    ∷ con (codes "B") (arrow_tree int_tree (named (bound_name 0 true))) ∷ []))
    (with_value (codes "A") (value status.Constructor [] (named (bound_name 0 true)))
    (with_value (codes "B") (value status.Constructor [] (arrow_tree int_tree (named (bound_name 0 true)))) empty_env)))

sig_16 : of (sig_end (datatype_spec (codes "t") 14
    (con_bind (codes "B") 22 (Some (con_ty (codes "int") 27)) ∷ con_bind (codes "A") 18 None ∷ []) ∷ []))
    ≡ gives a_or_b
sig_16 = refl

-- Nope
sig_17 : of (SigPhrase.Named (name (codes "Nope") 1) (at 1)) ≡ refused 30 1 (codes "Nope" ∷ [])
sig_17 = refl

-- sig include S type t end
sig_18 : of (sig_end (SpecPhrase.Include (SigPhrase.Named (name (codes "S") 13) (at 13)) (at 5)
    ∷ type_spec [] (codes "t") 20 ∷ [])) ≡ refused 40 20 []
sig_18 = refl

-- ---- matching

abbrev pub into : Env → Signature → Answer Env
into env sig = matched top (at 7) no_variable env sig

abbrev pub with_v : Tree → Tree → Env
with_v ty of_v = with_type (codes "t") (type_of 0 ty [])
    (with_value (codes "v") (value status.Variable [] of_v) empty_env)

-- struct type t = int val v = 1 end : S
match_1 : into (with_v int_tree int_tree) t_and_v ≡ gives (with_v int_tree int_tree)
match_1 = refl

-- struct type t = int val v = "" end : S
match_2 : into (with_v int_tree string_tree) t_and_v ≡ refused 37 7 (codes "v" ∷ [])
match_2 = refl

-- struct end : sig type t = int type 'a u end
match_3 : into empty_env (sig_of (bound_of_one 0 ∷ []) (with_type (codes "t") (type_of 0 int_tree [])
    (with_type (codes "u") (type_of 1 (over_variable (bound_of_one 0)) []) empty_env)))
    ≡ refused 36 7 (codes "u" ∷ [])
match_3 = refl

-- a missing structure comes before a misfit value of an earlier one
match_4 : into (with_structure (codes "A") (with_value (codes "x") (value status.Variable [] string_tree) empty_env)
    empty_env)
    (sig_of [] (with_structure (codes "A") (with_value (codes "x") (value status.Variable [] int_tree) empty_env)
    (with_structure (codes "B") empty_env empty_env)))
    ≡ refused 36 7 (codes "B" ∷ [])
match_4 = refl

match_5 : into (with_structure (codes "A") (with_value (codes "x") (value status.Variable [] string_tree) empty_env)
    empty_env)
    (sig_of [] (with_structure (codes "A") (with_value (codes "x") (value status.Variable [] int_tree) empty_env)
    empty_env))
    ≡ refused 37 7 (codes "A.x" ∷ [])
match_5 = refl

-- struct type t = exn end : sig eqtype t end
match_6 : into (with_type (codes "t") (type_of 0 exn_tree []) empty_env)
    (sig_of (bound_name 0 true ∷ []) (with_type (codes "t") (type_of 0 (named (bound_name 0 true)) []) empty_env))
    ≡ refused 33 7 []
match_6 = refl

-- struct type t = int end : sig type 'a t end
match_7 : into (with_type (codes "t") (type_of 0 int_tree []) empty_env)
    (sig_of (bound_of_one 0 ∷ [])
    (with_type (codes "t") (type_of 1 (over_variable (bound_of_one 0)) []) empty_env))
    ≡ refused 35 7 []
match_7 = refl

-- a flexible name that stands nowhere alone
match_8 : into basis (sig_of (bound_name 0 false ∷ []) empty_env) ≡ refused 37 7 []
match_8 = refl

-- struct type t = int val A = .. val B = .. end : sig datatype t = A | B of int end
match_9 : into (with_type (codes "t") (type_of 0 int_tree [])
    (with_value (codes "A") (value status.Variable [] int_tree)
    (with_value (codes "B") (value status.Variable [] (arrow_tree int_tree int_tree)) empty_env))) a_or_b
    ≡ refused 37 7 (codes "t" ∷ [])
match_9 = refl

-- struct val f = fn x => x end : sig val f : int -> int end, and the other way
abbrev pub f_of : List Bool → Tree → Env
f_of marks body = with_value (codes "f") (value status.Variable marks (arrow_tree body body)) empty_env

match_10 : into (f_of (false ∷ []) (Tree.Bound 0)) (sig_of [] (f_of [] int_tree)) ≡ gives (f_of [] int_tree)
match_10 = refl

match_11 : into (f_of [] int_tree) (sig_of [] (f_of (false ∷ []) (Tree.Bound 0))) ≡ refused 37 7 (codes "f" ∷ [])
match_11 = refl

-- a variable where an exception is specified, and the other way
match_12 : into (with_value (codes "E") (value status.Variable [] exn_tree) empty_env)
    (sig_of [] (with_value (codes "E") (value status.Exception [] exn_tree) empty_env))
    ≡ refused 37 7 (codes "E" ∷ [])
match_12 = refl

match_13 : into (with_value (codes "E") (value status.Exception [] exn_tree) empty_env)
    (sig_of [] (with_value (codes "E") (value status.Variable [] exn_tree) empty_env))
    ≡ gives (with_value (codes "E") (value status.Variable [] exn_tree) empty_env)
match_13 = refl

-- ---- sealing

abbrev pub own : TyName
own = name_of (owner.«Unit» (codes "u")) 3 0 false

seal_1 : (sealed (codes "u") t_and_v start).0 ≡ with_v (named own) (named own)
seal_1 = refl
