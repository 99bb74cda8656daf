-- The steps of a walk through a type.
use Rattle.std.proofs.Common.{◌≡◌, ℕ, List, [], ◌∷◌, ◌++◌, sym, ap, ◌∙◌, subst, Some, None, slice_get, Bool, true, ltb, length, get_or, eqb}
use Rattle.std.specs.List.{flat_map}
use Rattle.std.proofs.lemmas.List.{append-nil}
use Rattle.std.proofs.lemmas.Grind.{flat_map-append}
use Rattle.std.proofs.lemmas.Bool.{ltb-true}
use Rattle.std.proofs.lemmas.Option.{slice_get-get_or}
use Rattle.semantic_objects.specs.declared.name.TyName.{TyName}
use Rattle.semantic_objects.specs.declared.node.TypeNode.{TypeNode}
use Rattle.semantic_objects.specs.Symbols.{same_name}
use Rattle.semantic_objects.specs.Nodes.{AreNodes}
use Rattle.unification.specs.Closing.{is_among}
use Rattle.realisation.specs.Names.{is_listed}
use Rattle.environment_walks.specs.declared.places.Images.{Images}
use Rattle.environment_walks.specs.declared.steps.Step.{Step}
use Rattle.environment_walks.specs.declared.steps.Step.TheVariants as step
use Rattle.environment_walks.specs.Changing.{image_in}
use Rattle.environment_walks.specs.Stepping.{entered}
use Rattle.name_walks.specs.Noting.{noted_all, IsWalk}
use Rattle.name_walks.specs.Visits.{names_at, variables_at, node_names, node_variables, TakesStep, FollowsWalk}
use Rattle.name_walks.proofs.Notes.{IsSet, noted_append, skipped, opened, parts_done, begins, ends, goes_on}
use Rattle.name_walks.proofs.Once.{tells_names, tells_variables}
use Rattle.name_walks.proofs.Meeting.{parts_of, node_named, node_binds}

visit_more : {A : Type 0} (listed : A → List A → Bool) (own : ℕ → List A) (d : List A) (old new : List ℕ) (p : ℕ)
    → new ≡ old ++ p ∷ []
    → noted_all listed d (flat_map own new) ≡ noted_all listed (noted_all listed d (flat_map own old)) (own p)
visit_more listed own d old new p e = ap (λ z. noted_all listed d (flat_map own z)) e
    ∙ ap (noted_all listed d) (flat_map-append own old (p ∷ []) ∙ ap (λ z. flat_map own old ++ z) (append-nil (own p)))
    ∙ noted_append listed d (flat_map own old) (own p)

pub node_opened : (nodes : List TypeNode) (old new : List ℕ) (done : Images) (before mid after : List Step) (p : ℕ)
    (x : TypeNode) → AreNodes nodes → slice_get nodes p ≡ Some x → new ≡ old ++ p ∷ []
    → mid ≡ before ++ step.Leave p ∷ [] → after ≡ mid ++ entered (parts_of x)
    → TakesStep nodes (step.Enter p) old new done done before after
node_opened nodes old new done before mid after p x h k e f g =
    let steps : after ≡ (before ++ step.Leave p ∷ []) ++ entered (parts_of x) =
    g ∙ ap (λ z. z ++ entered (parts_of x)) f in
    record {
      names = λ d. opened same_name is_listed tells_names (node_names nodes)
          (noted_all is_listed d (flat_map (names_at nodes) old)) (noted_all is_listed d (flat_map (names_at nodes) new))
          (names_at nodes p) done before after p (parts_of x) (node_named nodes p x h k)
          (visit_more is_listed (names_at nodes) d old new p e) steps;
      variables = λ d. opened eqb is_among tells_variables (node_variables nodes)
          (noted_all is_among d (flat_map (variables_at nodes) old))
          (noted_all is_among d (flat_map (variables_at nodes) new))
          (variables_at nodes p) done before after p (parts_of x) (node_binds nodes p x h k)
          (visit_more is_among (variables_at nodes) d old new p e) steps;
    }

pub leaf_opened : (nodes : List TypeNode) (old new : List ℕ) (done : Images) (before after : List Step) (p : ℕ)
    (x : TypeNode) → AreNodes nodes → slice_get nodes p ≡ Some x → parts_of x ≡ [] → new ≡ old ++ p ∷ []
    → after ≡ before ++ step.Leave p ∷ [] → TakesStep nodes (step.Enter p) old new done done before after
leaf_opened nodes old new done before after p x h k n e f =
    node_opened nodes old new done before after after p x h k e f
    (sym (append-nil after) ∙ ap (λ z. after ++ entered z) (sym n))

pub node_skipped : (nodes : List TypeNode) (old : List ℕ) (done : Images) (before : List Step) (p q : ℕ)
    → image_in done p ≡ Some q → TakesStep nodes (step.Enter p) old old done done before before
node_skipped nodes old done before p q e = record {
  names = λ d. skipped same_name is_listed tells_names (node_names nodes)
      (noted_all is_listed d (flat_map (names_at nodes) old)) done before p q e;
  variables = λ d. skipped eqb is_among tells_variables (node_variables nodes)
      (noted_all is_among d (flat_map (variables_at nodes) old)) done before p q e;
}

pub node_done : (nodes : List TypeNode) (old : List ℕ) (done next : Images) (before : List Step) (p image : ℕ)
    → IsSet done next p image → TakesStep nodes (step.Leave p) old old done next before before
node_done nodes old done next before p image set = record {
  names = λ d. parts_done same_name is_listed tells_names (node_names nodes)
      (noted_all is_listed d (flat_map (names_at nodes) old)) done next before p image set;
  variables = λ d. parts_done eqb is_among tells_variables (node_variables nodes)
      (noted_all is_among d (flat_map (variables_at nodes) old)) done next before p image set;
}

-- ---- the whole walk

-- what was visited and what is left to be is all below a node
pub record IsVisiting (nodes : List TypeNode) (at : ℕ) (visits : List ℕ) (done : Images) (steps : List Step)
    : Type 0 where
  pub names : (d : List TyName) → IsWalk is_listed (node_names nodes) (noted_all is_listed d (node_names nodes at))
      (noted_all is_listed d (flat_map (names_at nodes) visits)) done steps
  pub variables : (d : List ℕ) → IsWalk is_among (node_variables nodes) (noted_all is_among d (node_variables nodes at))
      (noted_all is_among d (flat_map (variables_at nodes) visits)) done steps

pub visiting_begins : (nodes : List TypeNode) (at : ℕ) (visits : List ℕ) (done : Images) (steps : List Step)
    → visits ≡ [] → ((x : ℕ) → image_in done x ≡ None) → steps ≡ step.Enter at ∷ []
    → IsVisiting nodes at visits done steps
visiting_begins nodes at visits done steps v h e = subst (λ z. IsVisiting nodes at z done steps) (sym v) (record {
  names = λ d. subst (λ z. IsWalk is_listed (node_names nodes) (noted_all is_listed d z) d done steps)
      (append-nil (node_names nodes at))
      (begins same_name is_listed tells_names (node_names nodes) d done steps (at ∷ []) h e);
  variables = λ d. subst (λ z. IsWalk is_among (node_variables nodes) (noted_all is_among d z) d done steps)
      (append-nil (node_variables nodes at))
      (begins eqb is_among tells_variables (node_variables nodes) d done steps (at ∷ []) h e);
})

pub visiting_goes_on : (nodes : List TypeNode) (at : ℕ) (old new : List ℕ) (done next : Images)
    (steps before after : List Step) (s : Step) → steps ≡ before ++ s ∷ []
    → TakesStep nodes s old new done next before after → IsVisiting nodes at old done steps
    → IsVisiting nodes at new next after
visiting_goes_on nodes at old new done next steps before after s h t v = record {
  names = λ d. goes_on same_name is_listed tells_names (node_names nodes) (noted_all is_listed d (node_names nodes at))
      (noted_all is_listed d (flat_map (names_at nodes) old)) (noted_all is_listed d (flat_map (names_at nodes) new))
      done next steps before after s h (t.names d) (v.names d);
  variables = λ d. goes_on eqb is_among tells_variables (node_variables nodes)
      (noted_all is_among d (node_variables nodes at)) (noted_all is_among d (flat_map (variables_at nodes) old))
      (noted_all is_among d (flat_map (variables_at nodes) new)) done next steps before after s h (t.variables d)
      (v.variables d);
}

pub visiting_ends : (nodes : List TypeNode) (at : ℕ) (visits : List ℕ) (done : Images) (steps : List Step)
    → steps ≡ [] → IsVisiting nodes at visits done steps → FollowsWalk nodes at visits
visiting_ends nodes at visits done steps e v = record {
  names = λ d. ends same_name is_listed tells_names (node_names nodes) (noted_all is_listed d (node_names nodes at))
      (noted_all is_listed d (flat_map (names_at nodes) visits)) done steps e (v.names d);
  variables = λ d. ends eqb is_among tells_variables (node_variables nodes)
      (noted_all is_among d (node_variables nodes at)) (noted_all is_among d (flat_map (variables_at nodes) visits))
      done steps e (v.variables d);
}

-- ---- nodes that are looked up

pub found_at : (nodes : List TypeNode) (i : ℕ) (x d : TypeNode) → true ≡ ltb i (length nodes) → x ≡ get_or nodes i d
    → slice_get nodes i ≡ Some x
found_at nodes i x d h e = slice_get-get_or nodes i d (ltb-true i (length nodes) (sym h)) ∙ ap Some (sym e)
