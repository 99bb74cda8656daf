-- Sealed structures, and results of functors.
use Rattle.std.proofs.Common.{◌≡◌, ℕ, ◌+◌, refl, sym, ap, ap₂, ◌∙◌, subst, List, [], ◌∷◌, ◌++◌, length, length-append, suc}
use Rattle.std.proofs.lemmas.List.{map-append}
use Rattle.semantic_objects.specs.declared.name.TyName.{TyName}
use Rattle.semantic_objects.specs.declared.entry.TypeFn.{TypeFn}
use Rattle.semantic_objects.specs.Environments.{Env, Signature, Functor}
use Rattle.realisation.specs.Realised.{of_rows, realised}
use Rattle.type_nodes.specs.Tables.{Table}
use Rattle.type_walks.specs.declared.replacing.Replace.{Replace}
use Rattle.type_walks.specs.Replaced.{rows_of, put_by}
use Rattle.sml_modules.specs.declared.id.EnvId.{EnvId}
use Rattle.sml_modules.specs.declared.parts.FunParts.{FunParts}
use Rattle.sml_modules.specs.Graphs.{Graph, env_at, functor_of, HasEnv, Keeps, GivesEnv}
use Rattle.module_semantics.specs.SignatureNames.{rows_between, unit_names, sealed}
use Rattle.module_semantics.specs.Matching.{Rows}
use Rattle.type_phrases.specs.Inferred.{progress}
use Rattle.unit_semantics.specs.StructureInference.{result_by}
use Rattle.structure_matching.specs.Matches.{StaysGraph}
use Rattle.signature_sealing.specs.Sealing.{new_names_of, with_names, MayMakeNames, IsSealed}
use Rattle.module_rules.specs.Results.{Grows, IsRenewed}
use Rattle.module_rules.proofs.Answering.{pair_same}
use Rattle.module_rules.proofs.Growing.{keeps_both}

-- ---- names that were made

keeps_named : (g h : Graph) (names : List TyName) → h ≡ with_names names g → Keeps g h
keeps_named g h names e = subst (λ z. Keeps g z) (sym e) (record {
  has_env = λ id k. k;
  env = λ id k. refl;
  has_signature = λ id k. k;
  signature = λ id k. refl;
  has_functor = λ id k. k;
  functor = λ id k. refl;
  has_top = λ id k. k;
  top = λ id k. refl;
})

pub grows_named : (g h : Graph) (names : List TyName) → h ≡ with_names names g → Grows g h
grows_named g h names e = record {
  keeps = keeps_named g h names e;
  home = ap (λ (z : Graph). z.home) e;
}

pub grows_may : (g h : Graph) → MayMakeNames g h → Grows g h
grows_may g h m = grows_named g h m.more m.is

pub env_named : (g h : Graph) (names : List TyName) (id : EnvId) → h ≡ with_names names g → HasEnv g id → HasEnv h id
env_named g h names id e there = (keeps_named g h names e).has_env id there

count_names : (home : List ℕ) (n : ℕ) (names : List TyName) → length (unit_names home n names) ≡ length names
count_names home n [] = refl
count_names home n (name ∷ names) = ap suc (count_names home (suc n) names)

-- ---- sealed structures

pub sealed_is : (t u : Table) (g h k : Graph) (home : List ℕ) (sig other : Signature) (id : EnvId) → home ≡ h.home
    → other ≡ sig → u ≡ t → h.made ≡ g.made → IsSealed h k other id
    → sealed home sig (progress t g) ≡ (env_at k id, progress u k)
sealed_is t u g h k home sig other id e f w m s =
    let n : length g.made ≡ length h.made = sym (ap length m) in
    ap₂ (λ (x : List ℕ) (y : Signature). sealed x y (progress t g)) e (sym f)
    ∙ pair_same t u (sealed h.home other (progress t g)).0 (env_at k id) (sealed h.home other (progress t g)).1.names
    (length k.made) w (sym (s.is (progress t g) n)) (sym (s.names (progress t g) n))

-- ---- results of functors

abbrev row_for : TyName → TypeFn → TyName × TypeFn
row_for name by = (name, by)

pub rows_joined : (front back all : List Replace) → all ≡ front ++ back → rows_of all ≡ rows_of front ++ rows_of back
rows_joined front back all e =
    ap rows_of e ∙ map-append (λ (r : Replace). row_for r.name r.by) front back

pub renewed_by : (g h k : Graph) (further : List TyName) (olds : List TyName) (by new all : List Replace) (env id : EnvId)
    → olds ≡ further → rows_of new ≡ rows_between olds (new_names_of g olds) → h ≡ with_names (new_names_of g olds) g
    → rows_of all ≡ rows_of by ++ rows_of new → GivesEnv h k (realised (put_by all) (env_at h env)) id
    → IsRenewed g k further (rows_of by) (env_at g env) id
renewed_by g h k further olds by new all env id o r e j a = record {
  there = a.there;
  stands = a.stands
      ∙ ap (λ (z : Rows). realised (of_rows z) (env_at h env))
      (j ∙ ap (λ (z : Rows). rows_of by ++ z) (r ∙ ap (λ ns. rows_between ns (new_names_of g ns)) o))
      ∙ ap (λ (z : Graph). realised (of_rows (rows_of by ++ rows_between further (new_names_of g further))) (env_at z env)) e;
  keeps = keeps_both g h k (keeps_named g h (new_names_of g olds) e) a.keeps;
  home = a.home ∙ ap (λ (z : Graph). z.home) e;
  made = a.made ∙ ap (λ (z : Graph). z.made) e ∙ ap (λ ns. g.made ++ new_names_of g ns) o;
}

pub result_is : (t u : Table) (g h k : Graph) (home : List ℕ) (parts : FunParts) (rows : Rows) (fun : Functor) (id : EnvId)
    → functor_of g parts ≡ fun → HasEnv g parts.result → home ≡ h.home → u ≡ t → StaysGraph g h
    → IsRenewed h k parts.further rows (env_at h parts.result) id
    → result_by home fun rows (progress t g) ≡ (env_at k id, progress u k)
result_is t u g h k home parts rows fun id f there e w s r =
    let n : length g.made ≡ length h.made = sym (ap length s.made) in
    ap (λ (x : Functor). result_by home x rows (progress t g)) (sym f)
    ∙ pair_same t u
    (realised (of_rows (rows ++ rows_between parts.further (unit_names home (length g.made) parts.further)))
    (env_at g parts.result)) (env_at k id) (length g.made + length parts.further) (length k.made) w
    (ap₂ (λ (x : List ℕ) c. realised (of_rows (rows ++ rows_between parts.further (unit_names x c parts.further)))
    (env_at g parts.result)) e n
    ∙ ap (λ (x : Env). realised (of_rows (rows ++ rows_between parts.further (new_names_of h parts.further))) x)
    (sym (s.keeps.env parts.result there))
    ∙ sym r.stands)
    (ap (λ c. c + length parts.further) n
    ∙ ap (λ c. length h.made + c) (sym (count_names h.home (length h.made) parts.further))
    ∙ sym (length-append h.made (new_names_of h parts.further)) ∙ sym (ap length r.made))

pub grows_renewed : (g h k : Graph) (further : List TyName) (rows : Rows) (body : Env) (id : EnvId) → StaysGraph g h
    → IsRenewed h k further rows body id → Grows g k
grows_renewed g h k further rows body id s r = record {
  keeps = keeps_both g h k s.keeps r.keeps;
  home = r.home ∙ s.home;
}

pub grows_sealed : (g h k : Graph) (sig : Signature) (id : EnvId) → StaysGraph g h → IsSealed h k sig id → Grows g k
grows_sealed g h k sig id s r = record {
  keeps = keeps_both g h k s.keeps r.keeps;
  home = r.home ∙ s.home;
}

-- ---- calls that fail

pub grows_after : (g h k : Graph) (names : List TyName) → h ≡ with_names names g → k ≡ h → Grows g k
grows_after g h k names e f = subst (Grows g) (sym f) (grows_named g h names e)
