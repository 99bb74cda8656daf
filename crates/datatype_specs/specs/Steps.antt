-- Datatypes that are specified, step by step. Only private functions cite this file.
use Rattle.std.specs.Prelude.{[]}
use Rattle.semantic_objects.specs.Tables.{entry, with_all}
use Rattle.semantic_objects.specs.Environments.{Env, Signature, env_of, types, values}
use Rattle.bare_phrases.specs.Phrases.{ConPhrase, DatPhrase}
use Rattle.static_semantics.specs.Inferring.{Scope, Answer, name_at}
use Rattle.module_semantics.specs.SignatureInference.{specified, type_alone, value_alone}
use Rattle.datatype_specs.specs.declared.datatypes.NewTypes.{NewTypes}

-- what datatypes make, as an environment
abbrev pub env_of_new : NewTypes → Env
env_of_new new = env_of [] (with_all new.types []) (with_all new.values [])

-- one constructor, after what is specified so far
abbrev pub specified_con : Scope → ConPhrase → Env → Signature → Answer Signature
specified_con sc con new made =
    specified sc (name_at con.name) (value_alone con.name.text (entry con.name.text (values new))) made

-- one type
abbrev pub specified_type : Scope → DatPhrase → Env → Signature → Answer Signature
specified_type sc bind new made =
    specified sc (name_at bind.name) (type_alone bind.name.text (entry bind.name.text (types new))) made
