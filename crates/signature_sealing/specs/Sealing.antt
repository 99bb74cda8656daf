-- What calls that make new names of a unit leave, and signatures with such names.
use Rattle.std.specs.Prelude.{◌≡◌, List, ◌++◌, length}
use Rattle.semantic_objects.specs.declared.name.TyName.{TyName}
use Rattle.semantic_objects.specs.Environments.{Signature}
use Rattle.sml_modules.specs.declared.id.EnvId.{EnvId}
use Rattle.sml_modules.specs.declared.parts.SigParts.{SigParts}
use Rattle.sml_modules.specs.Graphs.{Graph, env_at, HasEnv, HasSigParts, Keeps, signature_of}
use Rattle.static_semantics.specs.Inferring.{Progress}
use Rattle.module_semantics.specs.SignatureNames.{unit_names, opened, sealed}

-- the new names that a graph makes for some names
abbrev pub new_names_of : Graph → List TyName → List TyName
new_names_of g names = unit_names g.home (length g.made) names

-- a graph with names made
abbrev pub with_names : List TyName → Graph → Graph
with_names names g = record { items = g.items; home = g.home; made = g.made ++ names }

-- names were made, and nothing else was
pub record MayMakeNames (old new : Graph) : Type 0 where
  pub more : List TyName
  pub is : new ≡ with_names more old

-- a signature was opened: these are its parts, the names that it binds were made in their order, and all ids keep what
-- they stand for
pub record IsOpened (old new : Graph) (sig : Signature) (parts : SigParts) : Type 0 where
  pub there : HasSigParts new parts
  pub is : (st : Progress) → st.names ≡ length old.made → signature_of new parts ≡ (opened old.home sig st).0
  pub names : (st : Progress) → st.names ≡ length old.made → length new.made ≡ (opened old.home sig st).1.names
  pub keeps : Keeps old new
  pub home : new.home ≡ old.home
  pub made : new.made ≡ old.made ++ new_names_of old sig.bound

-- .. and the environment stands for a structure under the signature
pub record IsSealed (old new : Graph) (sig : Signature) (id : EnvId) : Type 0 where
  pub there : HasEnv new id
  pub is : (st : Progress) → st.names ≡ length old.made → env_at new id ≡ (sealed old.home sig st).0
  pub names : (st : Progress) → st.names ≡ length old.made → length new.made ≡ (sealed old.home sig st).1.names
  pub keeps : Keeps old new
  pub home : new.home ≡ old.home
  pub made : new.made ≡ old.made ++ new_names_of old sig.bound
