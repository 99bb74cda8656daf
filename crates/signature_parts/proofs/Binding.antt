-- What is specified so far in scope, and more of it.
use Rattle.std.proofs.Common.{◌≡◌, ℕ, ◌+◌, ◌<◌, refl, sym, ap, ap₂, ◌∙◌, subst, List, [], ◌∷◌, ◌++◌, length, take, drop, get_or, zero, suc, arith}
use Rattle.std.proofs.lemmas.List.{take-append-drop, map-append}
use Rattle.semantic_objects.specs.declared.entry.TypeStr.{TypeStr}
use Rattle.semantic_objects.specs.declared.entry.ValueEntry.{ValueEntry}
use Rattle.semantic_objects.specs.Tables.{Table, with_all}
use Rattle.semantic_objects.specs.Environments.{Env, env_of, structures_of, table_of, structures, types, values, modified_by}
use Rattle.sml_modules.specs.declared.id.EnvId.{EnvId}
use Rattle.sml_modules.specs.declared.parts.NamedEnv.{NamedEnv}
use Rattle.sml_modules.specs.Items.{map_rows}
use Rattle.sml_modules.specs.Graphs.{Graph, env_at, HasEnvs, structure_rows, type_rows}
use Rattle.name_trails.specs.Trails.{Rows}
use Rattle.core_scopes.specs.declared.made.Made.{Made}
use Rattle.core_scopes.specs.declared.made.NamedInScope.{NamedInScope}
use Rattle.core_scopes.specs.Scopes.{Bindings, entry_of, seen, written_of, AreEnvs, IsScopeOf}
use Rattle.core_scopes.specs.Listed.{env_rows}
use Rattle.core_scopes.specs.Marks.{value_rows, env_of_made, Becomes}
use Rattle.core_scopes.specs.Marks as marks
use Rattle.core_scopes.proofs.Tables.{all_append, all_at_once}
use Rattle.core_scopes.proofs.Scoping.{map_append}
use Rattle.signature_specs.specs.declared.specified.Specified.{Specified}
use Rattle.signature_specs.specs.Specs.{env_so_far, IsFrontOf}
use Rattle.signature_specs.proofs.Specifying.{tables_back}
use Rattle.signature_parts.specs.Growing.{IsBound}
use Rattle.signature_parts.specs.Steps.{mark_of, IsMadeSince}

-- ---- tables

at_once : {A : Type 0} (rows t : Table A) → with_all (with_all rows []) t ≡ with_all rows t
at_once rows t = all_at_once rows [] t refl

joined : {A : Type 0} (past more made t : Table A) → made ≡ past ++ more
    → with_all (with_all more []) (with_all (with_all past []) t) ≡ with_all (with_all made []) t
joined past more made t e =
    at_once more (with_all (with_all past []) t) ∙ ap (with_all more) (at_once past t)
    ∙ sym (all_append past more t) ∙ ap (λ rows. with_all rows t) (sym e) ∙ sym (at_once made t)

since : {A : Type 0} (past now : List A) → take (length past) now ≡ past → now ≡ past ++ drop (length past) now
since past now h =
    sym (take-append-drop (length past) now) ∙ ap (λ z. z ++ drop (length past) now) h

env_is : (ss us : Table Env) (ts xs : Table TypeStr) (vs ys : Table ValueEntry) → ss ≡ us → ts ≡ xs → vs ≡ ys
    → env_of ss ts vs ≡ env_of us xs ys
env_is ss us ts xs vs ys h k l = cc

-- ---- structures

pub rows_of_structures : (g : Graph) (part : List NamedEnv) → map_rows (env_at g) (env_rows part) ≡ structure_rows g part
rows_of_structures g [] = refl
rows_of_structures g (e ∷ es) = ap (λ (z : Table Env). (e.name, env_at g e.env) ∷ z) (rows_of_structures g es)

envs_dropped : (g : Graph) (n : ℕ) (rows : Rows EnvId) → AreEnvs g rows → AreEnvs g (drop n rows)
envs_dropped g zero rows h = h
envs_dropped g (suc n) [] h = tt
envs_dropped g (suc n) (row ∷ rows) h = envs_dropped g n rows h.1

pub envs_listed : (g : Graph) (part : List NamedEnv) → AreEnvs g (env_rows part) → HasEnvs g part
envs_listed g [] h = tt
envs_listed g (e ∷ es) h = (h.0, envs_listed g es h.1)

-- ---- more in scope

module _ {V : Type 0} (g : Graph) (past made : Specified) (part : Made V) (more : IsMadeSince (mark_of past) made part)
    (front : IsFrontOf past made) where
  pub part_there : AreEnvs g made.structures → HasEnvs g part.structures
  part_there h =
      envs_listed g part.structures
      (subst (AreEnvs g) (sym more.structures) (envs_dropped g (length past.structures) made.structures h))

  structures_joined : (t : Table Env)
      → with_all (with_all (structure_rows g part.structures) [])
      (with_all (with_all (map_rows (env_at g) past.structures) []) t)
      ≡ with_all (with_all (map_rows (env_at g) made.structures) []) t
  structures_joined t =
      joined (map_rows (env_at g) past.structures) (structure_rows g part.structures)
      (map_rows (env_at g) made.structures) t
      (ap (map_rows (env_at g)) (since past.structures made.structures front.structures
      ∙ ap (λ z. past.structures ++ z) (sym more.structures))
      ∙ map_append (env_at g) past.structures (env_rows part.structures)
      ∙ ap (λ (z : Table Env). map_rows (env_at g) past.structures ++ z) (rows_of_structures g part.structures))

  pub more_under : (read : V → ValueEntry) (env : Env)
      → modified_by (modified_by env (env_so_far g past)) (env_of_made g read part)
      ≡ modified_by env (env_so_far g made)
  more_under read env =
      env_is _ _ _ _ _ _
      (ap₂ (λ (a b : Table Env). with_all a b) (tables_back (with_all (structure_rows g part.structures) []))
      (tables_back (with_all (table_of (structures_of (with_all (map_rows (env_at g) past.structures) [])))
      (structures env))
      ∙ ap (λ (z : Table Env). with_all z (structures env))
      (tables_back (with_all (map_rows (env_at g) past.structures) [])))
      ∙ structures_joined (structures env)
      ∙ ap (λ (z : Table Env). with_all z (structures env))
      (sym (tables_back (with_all (map_rows (env_at g) made.structures) []))))
      (joined past.types (type_rows part.types) made.types (types env)
      (since past.types made.types front.types ∙ ap (λ z. past.types ++ z) (sym more.types)))
      (joined past.values (value_rows read part.values) made.values (values env)
      (since past.values made.values front.values ∙ ap (λ z. past.values ++ z) (sym (more.values read))))

  pub bound_since : (old new : Bindings V) → AreEnvs g made.structures → IsScopeOf g old
      → Becomes g old new (λ read. modified_by (seen g read old) (env_of_made g read part)) (written_of old)
      → marks.IsFrontOf new new → IsBound g g past made old new
  bound_since old new envs there becomes whole = record {
    front = front;
    envs = envs;
    under = λ read env h.
        sym (more_under read env)
        ∙ ap (λ (z : Env). modified_by z (env_of_made g read part)) h ∙ sym (becomes.seen read);
    written = becomes.written;
    there = becomes.there there;
    behind = becomes.front;
    whole = whole;
  }

-- ---- values in scope, one after another

next_taken : {A : Type 0} (xs : List A) (i : ℕ) (x : A) → i < length xs → x ≡ get_or xs i x
    → take (i + 1) xs ≡ take i xs ++ x ∷ []
next_taken [] i x h e = absurd (omega (arith, h))
next_taken (y ∷ ys) zero x h e = ap (λ z. z ∷ []) (sym e)
next_taken (y ∷ ys) (suc i) x h e =
    let k : suc i + 1 ≡ suc (i + 1) = omega arith in
    ap (λ n. take n (y ∷ ys)) k ∙ ap (λ zs. y ∷ zs) (next_taken ys i x (omega (arith, h)) e)

abbrev row_of : List ℕ → ValueEntry → List ℕ × ValueEntry
row_of n v = (n, v)

row_is : (n m : List ℕ) (v w : ValueEntry) → n ≡ m → v ≡ w → row_of n v ≡ row_of m w
row_is n m v w e f = ap₂ row_of e f

pub values_more : {V : Type 0} (read : V → ValueEntry) (list longer : List (NamedInScope V)) (one : NamedInScope V)
    (rows : List (List ℕ × ValueEntry)) (i : ℕ) (row : List ℕ × ValueEntry) → longer ≡ list ++ one ∷ []
    → value_rows read list ≡ take i rows → i < length rows → row ≡ get_or rows i row → one.name ≡ row.0
    → entry_of read one.entry ≡ row.1 → value_rows read longer ≡ take (i + 1) rows
values_more {V} read list longer one rows i row e h lt is n v =
    ap (value_rows read) e
    ∙ map-append (λ (x : NamedInScope V). (x.name, entry_of read x.entry)) list (one ∷ [])
    ∙ ap₂ (λ (a : Table ValueEntry) (b : List ℕ × ValueEntry). a ++ b ∷ []) h
    (row_is one.name row.0 (entry_of read one.entry) row.1 n v)
    ∙ sym (next_taken rows i row lt is)
