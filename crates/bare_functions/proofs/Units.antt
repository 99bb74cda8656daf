-- What a text that is a unit becomes binds functions behind `rec`.
use Rattle.std.proofs.Common.{◌≡◌, List, [], ◌∷◌, map, Bool, true, false}
use Rattle.std.specs.List.{list_all}
use Rattle.sml_trees.specs.declared.name.At.{At}
use Rattle.sml_trees.specs.declared.exp.Dec.TheVariants as dec
use Rattle.sml_trees.specs.declared.exp.StrExp.{StrExp}
use Rattle.sml_trees.specs.declared.full_unit.FullTopDec.{FullTopDec}
use Rattle.sml_trees.specs.declared.full_unit.FullTopDec.TheVariants as full
use Rattle.sml_trees.specs.declared.full_unit.FullParam.{FullParam}
use Rattle.sml_trees.specs.declared.full_unit.FullParam.TheVariants as param
use Rattle.sml_trees.specs.declared.full_unit.FullFunctorBind.{FullFunctorBind}
use Rattle.bare_forms.specs.Patterns.{long_at}
use Rattle.bare_forms.specs.Structures.{sealed, bare_str, bare_str_bind}
use Rattle.bare_forms.specs.Units.{param_text, opening, functor_of, bare_functor, bare_topdec, bare_of}
use Rattle.static_semantics.specs.Holding.{AllItems}
use Rattle.unit_semantics.specs.UnitPhrases.{ModulePhrase, ModuleBinds, TopPhrase, fun_phrase, top_phrase, read_module, read_binds, read_top, unit_phrases}
use Rattle.elaboration_laws.specs.Declaring.{BindsValues}
use Rattle.module_laws.specs.Declaring.{ModuleHas, ModuleBindsHave}
use Rattle.unit_derivations.specs.Declaring.{FunHas, TopHas}
use Rattle.unit_derivations.proofs.Promised.{units_have_derivations}
use Rattle.recursion_laws.specs.Functions.{str_bind_binds, functor_binds, topdec_binds}
use Rattle.recursion_laws.proofs.Forms.{first_true, second_true}
use Rattle.recursion_laws.proofs.Units.{recs_are_functions}
use Rattle.bare_functions.specs.Promises.{SourcesBindFunctions, SourcesHaveDerivations}
use Rattle.bare_functions.proofs.Nodes.{HasS, HasB, items_map, binds_have, has-Open, has-Sequence, has-Within}
use Rattle.bare_functions.proofs.Structures.{has-sealed, str_is, bind_is}

-- items that pass a test
each_that : {A : Type 0} (test : A → Bool) (P : A → Type 0) → ((x : A) → test x ≡ true → P x) → (xs : List A)
    → list_all test xs ≡ true → AllItems P xs
each_that test P get [] all = tt
each_that test P get (x ∷ xs) all = (
  get x (first_true (test x) (list_all test xs) all),
  each_that test P get xs (second_true (test x) (list_all test xs) all),
)

-- ---- functors

has-opening : (at : At) (body : StrExp) → HasS body → HasS (opening at body)
has-opening at body is =
    let opened = dec.Open (long_at at param_text ∷ []) at in
    has-Within (dec.Sequence (opened ∷ []) at) body at
    (has-Sequence (opened ∷ []) at (has-Open (long_at at param_text ∷ []) at, tt)).inside is

has-functor : (bind : FullFunctorBind) (p : FullParam) → functor_binds bind ≡ true → HasS (functor_of bind p).body
has-functor bind (param.Named name sig) is = has-sealed bind.seal (bare_str bind.body) (str_is bind.body is)
has-functor bind (param.Spec specs at) is =
    has-opening (bare_str bind.body).at (sealed bind.seal (bare_str bind.body))
    (has-sealed bind.seal (bare_str bind.body) (str_is bind.body is))

-- ---- the option that seals

read_module_has : (sealing : Bool) (str : ModulePhrase) → ModuleHas BindsValues str
    → ModuleHas BindsValues (read_module sealing str)
read_module_has sealing (ModulePhrase.Struct dec at) h = h
read_module_has sealing (ModulePhrase.Named long at) h = h
read_module_has false (ModulePhrase.Transparent str sig at) h = h
read_module_has true (ModulePhrase.Transparent str sig at) h = h
read_module_has sealing (ModulePhrase.Opaque str sig at) h = h
read_module_has sealing (ModulePhrase.Functor name argument at) h = h
read_module_has sealing (ModulePhrase.Within dec body at) h = h

read_binds_have : (sealing : Bool) (binds : ModuleBinds) → ModuleBindsHave BindsValues binds
    → ModuleBindsHave BindsValues (read_binds sealing binds)
read_binds_have sealing ModuleBinds.EndOfBinds h = tt
read_binds_have sealing (ModuleBinds.Bind name str rest) h =
    (read_module_has sealing str h.0, read_binds_have sealing rest h.1)

read_top_has : (sealing : Bool) (top : TopPhrase) → TopHas BindsValues top → TopHas BindsValues (read_top sealing top)
read_top_has sealing (TopPhrase.Structures binds at) h = read_binds_have sealing binds h
read_top_has sealing (TopPhrase.Signatures binds at) h = tt
read_top_has sealing (TopPhrase.Functors binds at) h = h
read_top_has sealing (TopPhrase.Funsigs binds at) h = tt

-- ---- units

topdec_has : (topdec : FullTopDec) → topdec_binds topdec ≡ true → TopHas BindsValues (top_phrase (bare_topdec topdec))
topdec_has (full.Structures binds at) is =
    binds_have (map bare_str_bind binds) (items_map HasB bare_str_bind binds
    (each_that str_bind_binds (λ b. HasB (bare_str_bind b)) bind_is binds is))
topdec_has (full.Signatures binds at) is = tt
topdec_has (full.Functors binds at) is =
    items_map (FunHas BindsValues) fun_phrase (map bare_functor binds)
    (items_map (λ b. FunHas BindsValues (fun_phrase b)) bare_functor binds
    (each_that functor_binds (λ b. FunHas BindsValues (fun_phrase (bare_functor b))) (λ b h. has-functor b b.param h) binds is))
topdec_has (full.Funsigs binds at) is = tt

pub sources_bind_functions : SourcesBindFunctions
sources_bind_functions file source unit sealing is =
    items_map (TopHas BindsValues) (read_top sealing) (map top_phrase (map bare_topdec unit.topdecs))
    (items_map (λ t. TopHas BindsValues (read_top sealing t)) top_phrase (map bare_topdec unit.topdecs)
    (items_map (λ t. TopHas BindsValues (read_top sealing (top_phrase t))) bare_topdec unit.topdecs
    (each_that topdec_binds (λ t. TopHas BindsValues (read_top sealing (top_phrase (bare_topdec t))))
    (λ t h. read_top_has sealing (top_phrase (bare_topdec t)) (topdec_has t h)) unit.topdecs
    (recs_are_functions file source unit is))))

pub sources_have_derivations : SourcesHaveDerivations
sources_have_derivations file source unit sealing is depth home basis given st h =
    units_have_derivations.all depth home basis given sealing (unit_phrases (bare_of unit)) st
    (sources_bind_functions file source unit sealing is) h
