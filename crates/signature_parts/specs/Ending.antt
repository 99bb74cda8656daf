-- Signatures that are used in others, and signatures that end. The Definition of Standard ML (Revised), rules 62, 63, 65,
-- 75 and 84.
use Rattle.sml_trees.specs.declared.name.At.{At}
use Rattle.sml_trees.specs.declared.name.Name.{Name}
use Rattle.semantic_objects.specs.Tables.{Table as Named, entry}
use Rattle.semantic_objects.specs.Environments.{Signature, empty_env, with_structure}
use Rattle.static_semantics.specs.Inferring.{Progress, Scope, Answer, ◌>>=◌, gives, name_at, known}
use Rattle.module_semantics.specs.SignatureNames.{opened, also_bound}
use Rattle.module_semantics.specs.SignatureInference.{specified, single}

-- a structure with a signature, after what is specified so far
abbrev pub structure_specified : Scope → Name → Signature → Signature → Answer Signature
structure_specified sc name sig made =
    specified sc (name_at name) (with_structure name.text sig.env empty_env) (also_bound sig.bound made)

-- all of a signature
abbrev pub included : Scope → At → Signature → Signature → Answer Signature
included sc at sig made = specified sc at sig.env (also_bound sig.bound made)

-- a signature by its name, with new names for those that it binds
abbrev pub used : Named Signature → Scope → Name → Progress → Answer (Signature × Progress)
used sigs sc name st = known sc (single name) (entry name.text sigs) >>= λ sig. gives (opened sc.home sig st)
