-- Types that are specified by their names. Only private functions cite this file.
use Rattle.std.specs.Prelude.{◌∷◌, [], Bool, length, map}
use Rattle.semantic_objects.specs.declared.name.TyName.{TyName}
use Rattle.semantic_objects.specs.declared.symbol.Symbol.TheVariants as symbol
use Rattle.semantic_objects.specs.Environments.{Signature, empty_env, with_type}
use Rattle.semantic_objects.specs.Trees.{Tree, trees_of}
use Rattle.static_semantics.specs.Inferring.{Progress, Scope, Answer, ◌>>=◌, gives, name_at}
use Rattle.static_semantics.specs.TypeInference.{listed}
use Rattle.static_semantics.specs.DatatypeInference.{counted, own_name, own_type, after_names}
use Rattle.module_semantics.specs.SigPhrases.{TypeDescPhrase}
use Rattle.module_semantics.specs.SignatureNames.{also_bound}
use Rattle.module_semantics.specs.SignatureInference.{specified}

abbrev pub own_tree : TyName → Tree
own_tree name = Tree.Made (symbol.Name name) (trees_of (map Tree.Bound (counted name.arity 0)))

-- a type with a new name, after what is specified so far
abbrev pub with_name : Scope → TypeDescPhrase → TyName → Signature → Answer Signature
with_name sc desc name made =
    specified sc (name_at desc.name) (with_type desc.name.text (own_type name) empty_env) (also_bound (name ∷ []) made)

-- one type of a specification
abbrev pub infer_type_desc : Scope → Bool → TypeDescPhrase → Signature → Progress → Answer (Signature × Progress)
infer_type_desc sc eq desc made st =
    listed sc desc.tyvars [] st
    >>= λ r. with_name sc desc (own_name sc.home st.names (length desc.tyvars) eq) made
    >>= λ sig. gives (sig, after_names 1 r.1)
