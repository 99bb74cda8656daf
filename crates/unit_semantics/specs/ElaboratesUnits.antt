-- The rules of structure expressions, of the declarations in them, of functors and of the top level, a clause a rule,
-- each named by its number in the Definition of Standard ML (Revised), section 5.7. Signatures of functors are an
-- addition of Standard ML of New Jersey, and so is their rule.
--
-- `s` says which type variables there are and which of them are equality variables. A phrase begins at one number and
-- ends at another: the type names that are made in it have the numbers between, and whichever phrase ends first has
-- the lower ones. So new names are none that are in scope. The body of a functor has one derivation, with a parameter
-- of new names; where the functor is applied, its result is realised.
--
-- It isn't asked that what a declaration of the core makes is principal, nor that no type variable is left at the end
-- of the top level (rules 87 to 89). Neither is a type's size.
use Rattle.std.specs.Prelude.{◌≡◌, ℕ, ◌+◌, List, [], ◌∷◌, length, Option, Some, None}
use Rattle.sml_trees.specs.declared.name.At.{At}
use Rattle.sml_trees.specs.declared.name.Name.{Name}
use Rattle.sml_trees.specs.declared.name.LongName.{LongName}
use Rattle.semantic_objects.specs.declared.entry.TypeFn.{TypeFn}
use Rattle.semantic_objects.specs.Tables.{Table, entry, with_entry}
use Rattle.semantic_objects.specs.Environments.{Env, Signature, Functor, Top, structures, empty_env, modified_by, with_structure, empty_top}
use Rattle.unification.specs.Types.{State}
use Rattle.bare_phrases.specs.Phrases.{DecPhrase}
use Rattle.realisation.specs.Realised.{Realisation, of_rows, realised}
use Rattle.static_semantics.specs.Inferring.{found_at}
use Rattle.static_semantics.specs.Elaborates.{ElaboratesDec}
use Rattle.module_semantics.specs.SigPhrases.{SigPhrase, SigBinds}
use Rattle.module_semantics.specs.SignatureNames.{rows_between, with_bound_names, unit_names}
use Rattle.module_semantics.specs.ElaboratesSignatures.{ElaboratesSignature, Matches}
use Rattle.unit_semantics.specs.UnitPhrases.{ModulePhrase, ModuleDec, ModuleDecs, ModuleBinds, FunPhrase, FunsigPhrase, TopPhrase}
use Rattle.unit_semantics.specs.StructureInference.{core_scope, top_under, param_of}
use Rattle.unit_semantics.specs.UnitInference.{top_with, top_of_env, top_of_signatures, top_of_functors, top_of_funsigs, with_given, names_since, functor_of, top_with_param}

-- one realisation, and another where it gives nothing
abbrev pub or_else : Option TypeFn → Option TypeFn → Option TypeFn
or_else None other = other
or_else (Some by) other = Some by

abbrev pub beside : Realisation → Realisation → Realisation
beside φ ψ name = or_else (φ name) (ψ name)

-- a signature with new names of a unit for those that it binds, from a number on
abbrev pub renewed : List ℕ → ℕ → Signature → Signature
renewed home number sig = with_bound_names (unit_names home number sig.bound) sig

-- new names for a functor's further ones, from a number on
abbrev pub further_by : List ℕ → ℕ → Functor → Realisation
further_by home number fun = of_rows (rows_between fun.further (unit_names home number fun.further))

-- ---- structure expressions and declarations

mutual
  pub data ElaboratesModule : State → List ℕ → Top → ℕ → ModulePhrase → Env → ℕ → Type 0 where
    rule_50 : (s : State) (home : List ℕ) (top : Top) (n m : ℕ) (dec : ModuleDec) (at : At) (made : Env)
        → ElaboratesModuleDec s home top n dec made m
        → ElaboratesModule s home top n (ModulePhrase.Struct dec at) made m
    rule_51 : (s : State) (home : List ℕ) (top : Top) (n : ℕ) (long : LongName) (at : At) (env : Env)
        → found_at structures long.parts top.env ≡ Some env
        → ElaboratesModule s home top n (ModulePhrase.Named long at) env n
    rule_52 : (s : State) (home : List ℕ) (top : Top) (n k m : ℕ) (str : ModulePhrase) (sig : SigPhrase) (at : At)
        (env : Env) (made : Signature) (φ : Realisation)
        → ElaboratesModule s home top n str env k
        → ElaboratesSignature top.signatures (core_scope home top) k sig made m
        → Matches s env made φ
        → ElaboratesModule s home top n (ModulePhrase.Transparent str sig at) (realised φ made.env) m
    rule_53 : (s : State) (home : List ℕ) (top : Top) (n k m : ℕ) (str : ModulePhrase) (sig : SigPhrase) (at : At)
        (env : Env) (made : Signature) (φ : Realisation)
        → ElaboratesModule s home top n str env k
        → ElaboratesSignature top.signatures (core_scope home top) k sig made m
        → Matches s env made φ
        → ElaboratesModule s home top n (ModulePhrase.Opaque str sig at) (renewed home m made).env
        (m + length made.bound)
    rule_54 : (s : State) (home : List ℕ) (top : Top) (n m : ℕ) (name : Name) (argument : ModulePhrase) (at : At)
        (fun : Functor) (env : Env) (φ : Realisation)
        → entry name.text top.functors ≡ Some fun
        → ElaboratesModule s home top n argument env m
        → Matches s env (param_of fun) φ
        → ElaboratesModule s home top n (ModulePhrase.Functor name argument at)
        (realised (beside φ (further_by home m fun)) fun.result) (m + length fun.further)
    rule_55 : (s : State) (home : List ℕ) (top : Top) (n k m : ℕ) (dec : ModuleDec) (body : ModulePhrase) (at : At)
        (first made : Env)
        → ElaboratesModuleDec s home top n dec first k
        → ElaboratesModule s home (top_under first top) k body made m
        → ElaboratesModule s home top n (ModulePhrase.Within dec body at) made m

  pub data ElaboratesModuleDec : State → List ℕ → Top → ℕ → ModuleDec → Env → ℕ → Type 0 where
    rule_56 : (s : State) (home : List ℕ) (top : Top) (n m : ℕ) (dec : DecPhrase) (made : Env)
        → ElaboratesDec s.marks (core_scope home top) n dec made m
        → ElaboratesModuleDec s home top n (ModuleDec.Core dec) made m
    rule_57 : (s : State) (home : List ℕ) (top : Top) (n m : ℕ) (binds : ModuleBinds) (at : At) (made : Env)
        → ElaboratesModuleBinds s home top n binds empty_env made m
        → ElaboratesModuleDec s home top n (ModuleDec.Structures binds at) made m
    rule_58 : (s : State) (home : List ℕ) (top : Top) (n k m : ℕ) (hidden shown : ModuleDec) (at : At)
        (first made : Env)
        → ElaboratesModuleDec s home top n hidden first k
        → ElaboratesModuleDec s home (top_under first top) k shown made m
        → ElaboratesModuleDec s home top n (ModuleDec.Local hidden shown at) made m
    rules_59_60 : (s : State) (home : List ℕ) (top : Top) (n m : ℕ) (decs : ModuleDecs) (at : At) (made : Env)
        → ElaboratesModuleDecs s home top n decs made m
        → ElaboratesModuleDec s home top n (ModuleDec.Sequence decs at) made m

  pub data ElaboratesModuleDecs : State → List ℕ → Top → ℕ → ModuleDecs → Env → ℕ → Type 0 where
    rule_59 : (s : State) (home : List ℕ) (top : Top) (n : ℕ)
        → ElaboratesModuleDecs s home top n ModuleDecs.EndOfDecs empty_env n
    rule_60 : (s : State) (home : List ℕ) (top : Top) (n k m : ℕ) (dec : ModuleDec) (rest : ModuleDecs)
        (first second : Env)
        → ElaboratesModuleDec s home top n dec first k
        → ElaboratesModuleDecs s home (top_under first top) k rest second m
        → ElaboratesModuleDecs s home top n (ModuleDecs.Dec dec rest) (modified_by first second) m

  -- bindings after what those before them bind: each sees what is in scope before all of them
  pub data ElaboratesModuleBinds : State → List ℕ → Top → ℕ → ModuleBinds → Env → Env → ℕ → Type 0 where
    no_module_binds : (s : State) (home : List ℕ) (top : Top) (n : ℕ) (made : Env)
        → ElaboratesModuleBinds s home top n ModuleBinds.EndOfBinds made made n
    rule_61 : (s : State) (home : List ℕ) (top : Top) (n k m : ℕ) (name : Name) (str : ModulePhrase)
        (rest : ModuleBinds) (before after env : Env)
        → entry name.text (structures before) ≡ None
        → ElaboratesModule s home top n str env k
        → ElaboratesModuleBinds s home top k rest (with_structure name.text env before) after m
        → ElaboratesModuleBinds s home top n (ModuleBinds.Bind name str rest) before after m

-- ---- signatures, functors and signatures of functors, after those before them in the same declaration

pub data ElaboratesSigBinds : List ℕ → Top → ℕ → SigBinds → Table Signature → Table Signature → ℕ → Type 0 where
  no_sig_binds : (home : List ℕ) (top : Top) (n : ℕ) (made : Table Signature)
      → ElaboratesSigBinds home top n SigBinds.EndOfBinds made made n
  rule_67 : (home : List ℕ) (top : Top) (n k m : ℕ) (name : Name) (sig : SigPhrase) (rest : SigBinds)
      (before after : Table Signature) (made : Signature)
      → entry name.text before ≡ None
      → ElaboratesSignature top.signatures (core_scope home top) n sig made k
      → ElaboratesSigBinds home top k rest (with_entry name.text made before) after m
      → ElaboratesSigBinds home top n (SigBinds.Bind name sig rest) before after m

pub data ElaboratesFunBinds : State → List ℕ → Top → ℕ → List FunPhrase → Table Functor → Table Functor → ℕ → Type 0
  where
    no_fun_binds : (s : State) (home : List ℕ) (top : Top) (n : ℕ) (made : Table Functor)
        → ElaboratesFunBinds s home top n [] made made n
    rule_86 : (s : State) (home : List ℕ) (top : Top) (n k l m : ℕ) (bind : FunPhrase) (binds : List FunPhrase)
        (before after : Table Functor) (param inside : Signature) (result : Env)
        → entry bind.name.text before ≡ None
        → ElaboratesSignature top.signatures (core_scope home top) n bind.param_sig param k
        → inside ≡ renewed home k param
        → ElaboratesModule s home (top_with_param bind.param inside.env top) (k + length param.bound) bind.body result l
        → ElaboratesFunBinds s home top l binds
        (with_entry bind.name.text
        (functor_of param inside (names_since home (k + length param.bound) result) result) before) after m
        → ElaboratesFunBinds s home top n (bind ∷ binds) before after m

pub data ElaboratesFunsigBinds : List ℕ → Top → ℕ → List FunsigPhrase → Table Functor → Table Functor → ℕ → Type 0
  where
    no_funsig_binds : (home : List ℕ) (top : Top) (n : ℕ) (made : Table Functor)
        → ElaboratesFunsigBinds home top n [] made made n
    rule_funsig : (home : List ℕ) (top : Top) (n k l m : ℕ) (bind : FunsigPhrase) (binds : List FunsigPhrase)
        (before after : Table Functor) (param inside result : Signature)
        → entry bind.name.text before ≡ None
        → ElaboratesSignature top.signatures (core_scope home top) n bind.param_sig param k
        → inside ≡ renewed home k param
        → ElaboratesSignature top.signatures (core_scope home (top_with_param bind.param inside.env top))
        (k + length param.bound) bind.result_sig result l
        → ElaboratesFunsigBinds home top l binds
        (with_entry bind.name.text (functor_of param inside result.bound result.env) before) after m
        → ElaboratesFunsigBinds home top n (bind ∷ binds) before after m

-- ---- the top level

pub data ElaboratesTop : State → List ℕ → Top → ℕ → TopPhrase → Top → ℕ → Type 0 where
  rule_57_at_top : (s : State) (home : List ℕ) (top : Top) (n m : ℕ) (binds : ModuleBinds) (at : At) (made : Env)
      → ElaboratesModuleBinds s home top n binds empty_env made m
      → ElaboratesTop s home top n (TopPhrase.Structures binds at) (top_of_env made) m
  rule_66 : (s : State) (home : List ℕ) (top : Top) (n m : ℕ) (binds : SigBinds) (at : At) (made : Table Signature)
      → ElaboratesSigBinds home top n binds [] made m
      → ElaboratesTop s home top n (TopPhrase.Signatures binds at) (top_of_signatures made) m
  rule_85 : (s : State) (home : List ℕ) (top : Top) (n m : ℕ) (binds : List FunPhrase) (at : At)
      (made : Table Functor)
      → ElaboratesFunBinds s home top n binds [] made m
      → ElaboratesTop s home top n (TopPhrase.Functors binds at) (top_of_functors made) m
  rule_funsigs : (s : State) (home : List ℕ) (top : Top) (n m : ℕ) (binds : List FunsigPhrase) (at : At)
      (made : Table Functor)
      → ElaboratesFunsigBinds home top n binds [] made m
      → ElaboratesTop s home top n (TopPhrase.Funsigs binds at) (top_of_funsigs made) m

pub data ElaboratesTops : State → List ℕ → Top → ℕ → List TopPhrase → Top → ℕ → Type 0 where
  no_tops : (s : State) (home : List ℕ) (top : Top) (n : ℕ) → ElaboratesTops s home top n [] empty_top n
  rules_87_88_89 : (s : State) (home : List ℕ) (top : Top) (n k m : ℕ) (dec : TopPhrase) (decs : List TopPhrase)
      (first second : Top)
      → ElaboratesTop s home top n dec first k
      → ElaboratesTops s home (top_with top first) k decs second m
      → ElaboratesTops s home top n (dec ∷ decs) (top_with first second) m

-- a unit, read with the option that seals or without it
abbrev pub ElaboratesUnit : State → List ℕ → Env → Top → ℕ → List TopPhrase → Top → ℕ → Type 0
ElaboratesUnit s home basis given n tops made m = ElaboratesTops s home (with_given basis given) n tops made m
