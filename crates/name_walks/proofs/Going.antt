-- The steps of a walk through a graph.
use Rattle.std.proofs.Common.{◌≡◌, ℕ, List, [], ◌∷◌, ◌++◌, map, refl, sym, ap, ◌∙◌}
use Rattle.std.specs.List.{flat_map}
use Rattle.std.proofs.lemmas.List.{append_assoc, append-nil}
use Rattle.semantic_objects.specs.declared.name.TyName.{TyName}
use Rattle.semantic_objects.specs.declared.entry.ConEntry.{ConEntry}
use Rattle.semantic_objects.specs.Symbols.{same_name}
use Rattle.semantic_objects.specs.Trees.{Tree}
use Rattle.env_parts.specs.declared.tables.EnvTables.{EnvTables}
use Rattle.env_parts.specs.Types.{con_types}
use Rattle.sml_modules.specs.declared.id.EnvId.{EnvId}
use Rattle.sml_modules.specs.Items.{Item, at, as_env, IsEnv}
use Rattle.sml_modules.specs.Graphs.{Graph}
use Rattle.sml_modules.specs.Adding.{ReadsEnv}
use Rattle.realisation.specs.Names.{names_in, names_in_list, is_listed, once}
use Rattle.environment_walks.specs.declared.steps.Step.{Step}
use Rattle.environment_walks.specs.declared.steps.Step.TheVariants as step
use Rattle.environment_walks.specs.Stepping.{entered}
use Rattle.name_walks.specs.Noting.{noted_all}
use Rattle.name_walks.specs.Places.{item_names, place_names, Opens, HasAll}
use Rattle.name_walks.specs.Places as places
use Rattle.name_walks.proofs.Notes.{noted_append, entered_append, opened}
use Rattle.name_walks.proofs.Once.{tells_names, noted_once}
use Rattle.name_walks.proofs.Meeting.{tables_named, row_places, part_places, all_named}

-- ---- environments

pub env_opened : (items : List Item) (before one two three four : List Step) (p : ℕ) (t : EnvTables)
    → IsEnv (at items p) → ReadsEnv items (as_env (at items p)) t → one ≡ before ++ step.Leave p ∷ []
    → two ≡ one ++ entered (map (λ row. row.1) t.values) → three ≡ two ++ entered (map (λ row. row.1) t.types)
    → four ≡ three ++ entered (map (λ row. row.1) t.structures) → Opens (place_names items) p before four
env_opened items before one two three four p t h r a b c d names done =
    let ss : List Step = entered (row_places t.structures) in
    let ts : List Step = entered (row_places t.types) in
    let vs : List Step = entered (row_places t.values) in
    let parts : entered (part_places t) ≡ (vs ++ ts) ++ ss =
    entered_append (row_places t.structures) (row_places t.types ++ row_places t.values)
    ∙ ap (λ z. z ++ ss) (entered_append (row_places t.types) (row_places t.values)) in
    let after : four ≡ (before ++ step.Leave p ∷ []) ++ entered (part_places t) =
    d ∙ ap (λ z. z ++ ss) (c ∙ ap (λ z. z ++ ts) (b ∙ ap (λ z. z ++ vs) a))
    ∙ ap (λ z. z ++ ss) (append_assoc (before ++ step.Leave p ∷ []) vs ts)
    ∙ append_assoc (before ++ step.Leave p ∷ []) (vs ++ ts) ss
    ∙ ap (λ z. (before ++ step.Leave p ∷ []) ++ z) (sym parts) in
    opened same_name is_listed tells_names (place_names items) names names [] done before four p (part_places t)
    (tables_named items p t h r) refl after

pub entry_noted : (items : List Item) (p : ℕ) (x : Item) (d e : List TyName) → at items p ≡ x
    → e ≡ noted_all is_listed d (item_names x) → e ≡ noted_all is_listed d (place_names items p)
entry_noted items p x d e h k = k ∙ ap (λ z. noted_all is_listed d (item_names z)) (sym h)

-- ---- entries

pub both_noted : (d e f xs ys : List TyName) → e ≡ noted_all is_listed d xs → f ≡ noted_all is_listed e ys
    → f ≡ noted_all is_listed d (xs ++ ys)
both_noted d e f xs ys h k = k ∙ ap (λ z. noted_all is_listed z ys) h ∙ sym (noted_append is_listed d xs ys)

pub one_noted : (d e : List TyName) (t : Tree) → e ≡ noted_all is_listed d (names_in t)
    → e ≡ noted_all is_listed d (names_in_list (t ∷ []))
one_noted d e t h = h ∙ ap (noted_all is_listed d) (sym (append-nil (names_in t)))

pub con_next : (d e all : List TyName) (rest more : List ConEntry) (con : ConEntry) → rest ≡ con ∷ more
    → e ≡ noted_all is_listed d (names_in con.scheme.body)
    → noted_all is_listed d (names_in_list (con_types rest)) ≡ all
    → noted_all is_listed e (names_in_list (con_types more)) ≡ all
con_next d e all rest more con h k l =
    ap (λ z. noted_all is_listed z (names_in_list (con_types more))) k
    ∙ sym (noted_append is_listed d (names_in con.scheme.body) (names_in_list (con_types more)))
    ∙ ap (λ z. noted_all is_listed d (names_in_list (con_types z))) (sym h) ∙ l

-- ---- the whole walk

pub whole_named : (g : Graph) (ids : List EnvId) (ps : List ℕ) (d e : List TyName) → HasAll g ids
    → ps ≡ map (λ (id : EnvId). id.place) ids → d ≡ []
    → e ≡ noted_all is_listed d (flat_map (place_names g.items) ps) → e ≡ once (places.names_in_all g ids)
whole_named g ids ps d e h p k n = n
    ∙ ap (λ z. noted_all is_listed z (flat_map (place_names g.items) ps)) k
    ∙ noted_once (flat_map (place_names g.items) ps)
    ∙ ap (λ z. once (flat_map (place_names g.items) z)) p
    ∙ ap once (all_named g ids h)

pub one_named : (xs ys : List TyName) → xs ≡ once (ys ++ []) → xs ≡ once ys
one_named xs ys h = h ∙ ap once (append-nil ys)
