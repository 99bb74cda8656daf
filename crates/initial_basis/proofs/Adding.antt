-- Nodes that are added step by step.
use Rattle.std.proofs.Common.{◌≡◌, ℕ, refl, sym, ap, ap₂, ◌∙◌, subst, List, [], ◌∷◌}
use Rattle.semantic_objects.specs.Tables.{Table, with_all}
use Rattle.semantic_objects.specs.Environments.{Env, env_of, Top, empty_top}
use Rattle.sml_modules.specs.declared.id.EnvId.{EnvId}
use Rattle.sml_modules.specs.declared.id.SigId.{SigId}
use Rattle.sml_modules.specs.declared.id.FunId.{FunId}
use Rattle.sml_modules.specs.declared.id.TopId.{TopId}
use Rattle.sml_modules.specs.declared.parts.NamedEnv.{NamedEnv}
use Rattle.sml_modules.specs.declared.parts.NamedType.{NamedType}
use Rattle.sml_modules.specs.declared.parts.NamedValue.{NamedValue}
use Rattle.sml_modules.specs.Graphs.{Graph, Keeps, GivesEnv, GivesTop, HasEnv, HasEnvs, env_at, top_at, structure_rows, type_rows, value_rows, env_of_entries, with_env}
use Rattle.semantic_objects.specs.declared.entry.VidStatus.TheVariants.{Variable}
use Rattle.initial_basis.specs.declared.row.Row.{Row}
use Rattle.initial_basis.specs.declared.type_names.NamedName.{NamedName}
use Rattle.initial_basis.specs.Phrases.{rows_of}
use Rattle.initial_basis.specs.Basis.{basis_names, basis_types, basis_values, basis_structures, basis_env, values_of, env_of_lines, with_names, OnlyAdds, GivesStructures}
use Rattle.initial_basis.specs.Table.{int_lines, string_lines, char_lines}
use Rattle.cm_base.specs.declared.fault.NoMemory.{NoMemory}
use Rattle.std.specs.Prelude.{Result, Ok, Err, IfOk, OnErr, Bool, if◌then◌else◌, codes}

pub keeps_self : (g : Graph) → Keeps g g
keeps_self g = record {
  has_env = λ id h. h;
  env = λ id h. refl;
  has_signature = λ id h. h;
  signature = λ id h. refl;
  has_functor = λ id h. h;
  functor = λ id h. refl;
  has_top = λ id h. h;
  top = λ id h. refl;
}

pub keeps_then : (a b c : Graph) → Keeps a b → Keeps b c → Keeps a c
keeps_then a b c h k = record {
  has_env = λ id x. k.has_env id (h.has_env id x);
  env = λ id x. k.env id (h.has_env id x) ∙ h.env id x;
  has_signature = λ id x. k.has_signature id (h.has_signature id x);
  signature = λ id x. k.signature id (h.has_signature id x) ∙ h.signature id x;
  has_functor = λ id x. k.has_functor id (h.has_functor id x);
  functor = λ id x. k.functor id (h.has_functor id x) ∙ h.functor id x;
  has_top = λ id x. k.has_top id (h.has_top id x);
  top = λ id x. k.top id (h.has_top id x) ∙ h.top id x;
}

pub adds_self : (g : Graph) → OnlyAdds g g
adds_self g = record { keeps = keeps_self g; home = refl; made = refl }

pub adds_same : (a b : Graph) → b ≡ a → OnlyAdds a b
adds_same a b e = subst (OnlyAdds a) (sym e) (adds_self a)

pub adds_then : (a b c : Graph) → OnlyAdds a b → OnlyAdds b c → OnlyAdds a c
adds_then a b c h k =
    record { keeps = keeps_then a b c h.keeps k.keeps; home = k.home ∙ h.home; made = k.made ∙ h.made }

pub env_adds : (a b : Graph) (env : Env) (id : EnvId) → GivesEnv a b env id → OnlyAdds a b
env_adds a b env id h = record { keeps = h.keeps; home = h.home; made = h.made }

pub top_adds : (a b : Graph) (top : Top) (id : TopId) → GivesTop a b top id → OnlyAdds a b
top_adds a b top id h = record { keeps = h.keeps; home = h.home; made = h.made }

-- three structures, given one after the other
pub three_given : (a b c d : Graph) (m n o : List ℕ) (x y z : Env) (i j k : EnvId) → GivesEnv a b x i → GivesEnv b c y j
    → GivesEnv c d z k
    → GivesStructures a d ((m, x) ∷ (n, y) ∷ (o, z) ∷ [])
    ((let e : NamedEnv = record { name = m; env = i } in e) ∷ (let e : NamedEnv = record { name = n; env = j } in e)
    ∷ (let e : NamedEnv = record { name = o; env = k } in e) ∷ [])
three_given a b c d m n o x y z i j k f g h =
    let bd : Keeps b d = keeps_then b c d g.keeps h.keeps in record {
      there = (bd.has_env i f.there, (h.keeps.has_env j g.there, (h.there, tt)));
      are = ap₂ (λ p q. (m, p) ∷ q) (bd.env i f.there ∙ f.stands)
          (ap₂ (λ p q. (n, p) ∷ (o, q) ∷ []) (h.keeps.env j g.there ∙ g.stands) h.stands);
      adds = adds_then a b d (env_adds a b x i f) (adds_then b c d (env_adds b c y j g) (env_adds c d z k h));
    }

-- an environment or a top that is given after nodes were added
pub env_after : (a b c : Graph) (env : Env) (id : EnvId) → OnlyAdds a b → GivesEnv b c env id → GivesEnv a c env id
env_after a b c env id h k = record {
  there = k.there;
  stands = k.stands;
  keeps = keeps_then a b c h.keeps k.keeps;
  home = k.home ∙ h.home;
  made = k.made ∙ h.made;
}

pub top_after : (a b c : Graph) (top : Top) (id : TopId) → OnlyAdds a b → GivesTop b c top id → GivesTop a c top id
top_after a b c top id h k = record {
  there = k.there;
  stands = k.stands;
  keeps = keeps_then a b c h.keeps k.keeps;
  home = k.home ∙ h.home;
  made = k.made ∙ h.made;
}

-- the initial environment, over its structures
pub env_given : (a b c : Graph) (wanted : Table Env) (given : List NamedEnv) (types : List NamedType)
    (values : List NamedValue) (id : EnvId) → GivesStructures a b wanted given
    → GivesEnv b c (env_of_entries b given types values) id
    → GivesEnv a c (env_of (with_all wanted []) (with_all (type_rows types) []) (with_all (value_rows values) [])) id
env_given a b c wanted given types values id g h = record {
  there = h.there;
  stands = h.stands ∙ ap (λ (z : Table Env). env_of (with_all z []) (with_all (type_rows types) []) (with_all (value_rows values) [])) g.are;
  keeps = keeps_then a b c g.adds.keeps h.keeps;
  home = h.home ∙ g.adds.home;
  made = h.made ∙ g.adds.made;
}

-- the top of an environment, over the empty one
pub top_given : (a b c d : Graph) (env : Env) (id : EnvId) (empty whole : TopId) → GivesEnv a b env id
    → GivesTop b c empty_top empty → GivesTop c d (with_env (env_at c id) (top_at c empty)) whole
    → GivesTop a d (let t : Top = record { env = env; signatures = []; functors = []; funsigs = [] } in t) whole
top_given a b c d env id empty whole f g h = record {
  there = h.there;
  stands = h.stands ∙ ap₂ with_env (g.keeps.env id f.there ∙ f.stands) g.stands;
  keeps = keeps_then a b d f.keeps (keeps_then b c d g.keeps h.keeps);
  home = h.home ∙ (g.home ∙ f.home);
  made = h.made ∙ (g.made ∙ f.made);
}

pub env_still : (b c : Graph) (top : Top) (t : TopId) (id : EnvId) → GivesTop b c top t → HasEnv b id → HasEnv c id
env_still b c top t id g h = g.keeps.has_env id h

-- an environment of rows that are those of lines
pub of_lines : (a b : Graph) (names : List NamedName) (rows : List Row) (lines : List (List ℕ)) (id : EnvId)
    → names ≡ basis_names → rows ≡ rows_of lines
    → GivesEnv a b (env_of [] [] (with_all (value_rows (values_of names Variable rows)) [])) id
    → GivesEnv a b (env_of_lines lines) id
of_lines a b names rows lines id e f h =
    subst (λ (z : List Row). GivesEnv a b (env_of [] [] (with_all (value_rows (values_of basis_names Variable z)) [])) id) f
    (subst (λ (z : List NamedName). GivesEnv a b (env_of [] [] (with_all (value_rows (values_of z Variable rows)) [])) id) e h)

pub adds_err : {A : Type 0} (a c d : Graph) (r : Result A NoMemory) → OnlyAdds a c → OnErr r (d ≡ c) → OnErr r (OnlyAdds a d)
adds_err a c d (Ok x) h k = tt
adds_err a c d (Err fault) h k = adds_then a c d h (adds_same c d k)

pub err_adds : {A : Type 0} (a d : Graph) (r : Result A NoMemory) → OnlyAdds a d → OnErr r (OnlyAdds a d)
err_adds a d (Ok x) h = tt
err_adds a d (Err fault) h = h

-- .. of what a call answers
pub structures_ok : (a b c d : Graph) (i j k : EnvId) (r : Result (List NamedEnv) NoMemory)
    → GivesEnv a b (env_of_lines int_lines) i → GivesEnv b c (env_of_lines string_lines) j
    → GivesEnv c d (env_of_lines char_lines) k → IfOk r (λ given. given ≡ with_names i j k)
    → IfOk r (GivesStructures a d basis_structures)
unfolding basis_structures
structures_ok a b c d i j k (Ok given) f g h e =
    subst (GivesStructures a d basis_structures) (sym e)
    (three_given a b c d (codes "Int") (codes "String") (codes "Char") (env_of_lines int_lines) (env_of_lines string_lines)
    (env_of_lines char_lines) i j k f g h)
structures_ok a b c d i j k (Err fault) f g h e = tt

pub env_ok : (a b c : Graph) (nobasis : Bool) (given : List NamedEnv) (types : List NamedType) (values : List NamedValue)
    (r : Result EnvId NoMemory) → GivesStructures a b (if nobasis then [] else basis_structures) given
    → types ≡ basis_types → values ≡ basis_values → IfOk r (GivesEnv b c (env_of_entries b given types values))
    → IfOk r (GivesEnv a c (basis_env nobasis))
unfolding basis_env
env_ok a b c nobasis given types values (Ok id) g e f h =
    subst (λ (z : List NamedType). GivesEnv a c (env_of (with_all (if nobasis then [] else basis_structures) [])
    (with_all (type_rows z) []) (with_all (value_rows basis_values) [])) id) e
    (subst (λ (z : List NamedValue). GivesEnv a c (env_of (with_all (if nobasis then [] else basis_structures) [])
    (with_all (type_rows types) []) (with_all (value_rows z) [])) id) f
    (env_given a b c (if nobasis then [] else basis_structures) given types values id g h))
env_ok a b c nobasis given types values (Err fault) g e f h = tt

pub top_ok : (a b c d : Graph) (env : Env) (id : EnvId) (empty : TopId) (r : Result TopId NoMemory) → GivesEnv a b env id
    → GivesTop b c empty_top empty → IfOk r (GivesTop c d (with_env (env_at c id) (top_at c empty)))
    → IfOk r (GivesTop a d (let t : Top = record { env = env; signatures = []; functors = []; funsigs = [] } in t))
top_ok a b c d env id empty (Ok whole) f g h = top_given a b c d env id empty whole f g h
top_ok a b c d env id empty (Err fault) f g h = tt

pub no_structures : (g : Graph) → GivesStructures g g [] []
no_structures g = record { there = tt; are = refl; adds = adds_self g }

pub ruleset adding = (adds_self, adds_same, adds_then, env_adds, top_adds, err_adds, no_structures)
