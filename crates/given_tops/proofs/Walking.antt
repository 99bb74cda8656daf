-- The steps of a walk.
use Rattle.std.proofs.Common.{◌≡◌, ℕ, List, [], ◌∷◌, ◌++◌, map, refl, sym, subst, Bool, true, false}
use Rattle.std.specs.Prelude.{◌↔◌, Result, Ok, Err, IfOk}
use Rattle.std.specs.Option.{is_some}
use Rattle.semantic_objects.specs.Tables.{IsTable}
use Rattle.sml_modules.specs.declared.node.EnvNode.{EnvNode}
use Rattle.sml_modules.specs.declared.node.Node.TheVariants as node
use Rattle.sml_modules.specs.Items.{Item, at, as_env, IsEnv}
use Rattle.sml_modules.specs.Adding.{StandsAt}
use Rattle.inference_laws.specs.Nodes.{Nodes}
use Rattle.environment_walks.specs.declared.places.Images.{Images}
use Rattle.environment_walks.specs.declared.steps.Step.{Step}
use Rattle.environment_walks.specs.declared.steps.Step.TheVariants as step
use Rattle.environment_walks.specs.Changing.{image_in}
use Rattle.environment_walks.specs.Stepping.{entered}
use Rattle.given_tops.specs.Fitting.{EnvFits}
use Rattle.given_tops.specs.Walking.{ItemFits, AreFit, AreDone, AreAsked, Asked, step_place}
use Rattle.given_tops.proofs.Rows.{TablesFit, tables_fit, fits_tables, env_fits, fits_env, IsSet, set_fits, done_fits, rows_done, asked_append, asked_front, asked_back, rows_asked}

-- the answer for the item at a place
pub entry_at : {E : Type 0} (q : Nodes) (items : List Item) (place : ℕ) (item : Item) (r : Result Bool E)
    → at items place ≡ item → IfOk r (λ b. (b ≡ true) ↔ ItemFits q item)
    → IfOk r (λ b. (b ≡ true) ↔ ItemFits q (at items place))
entry_at q items place item r e h = subst (λ x. IfOk r (λ b. (b ≡ true) ↔ ItemFits q x)) (sym e) h

-- an environment is left when its parts are done
pub left : (q : Nodes) (items : List Item) (old new : Images) (place : ℕ) (kept : EnvNode)
    → StandsAt items place (node.Env kept) → AreFit q items old → IsTable kept.tables.structures
    → IsTable kept.tables.types → IsTable kept.tables.values
    → AreDone old (map (λ row. row.1) kept.tables.structures) → AreDone old (map (λ row. row.1) kept.tables.types)
    → AreDone old (map (λ row. row.1) kept.tables.values) → IsSet old new place place → AreFit q items new
left q items old new place kept s h a b c ss ts vs set =
    let rows : TablesFit q items kept.tables = record {
      structures = rows_done q items old kept.tables.structures h ss;
      types = rows_done q items old kept.tables.types h ts;
      values = rows_done q items old kept.tables.values h vs;
    } in
    set_fits q items old new place place h
    (subst (ItemFits q) (sym s.is) (fits_tables q items kept.tables s.node.0 a b c rows)) set

-- .. and before they are, all of them are asked for
pub opened : (q : Nodes) (items : List Item) (root place : ℕ) (kept : EnvNode) (s0 s1 s2 s3 s4 : List Step)
    → StandsAt items place (node.Env kept) → Asked q items root place → AreAsked q items root s0
    → s1 ≡ s0 ++ step.Leave place ∷ [] → s2 ≡ s1 ++ entered (map (λ row. row.1) kept.tables.structures)
    → s3 ≡ s2 ++ entered (map (λ row. row.1) kept.tables.types)
    → s4 ≡ s3 ++ entered (map (λ row. row.1) kept.tables.values) → AreAsked q items root s4
opened q items root place kept s0 s1 s2 s3 s4 s asked h a b c d =
    let tables : ItemFits q (at items root) → TablesFit q items kept.tables =
    λ r. tables_fit q items kept.tables s.node.0 (subst (ItemFits q) s.is (asked r)) in
    let one : AreAsked q items root s1 =
    subst (AreAsked q items root) (sym a) (asked_append q items root s0 (step.Leave place ∷ []) h (asked, tt)) in
    let two : AreAsked q items root s2 =
    subst (AreAsked q items root) (sym b) (asked_append q items root s1
    (entered (map (λ row. row.1) kept.tables.structures)) one
    (rows_asked q items root kept.tables.structures (λ r. (tables r).structures))) in
    let three : AreAsked q items root s3 =
    subst (AreAsked q items root) (sym c) (asked_append q items root s2
    (entered (map (λ row. row.1) kept.tables.types)) two
    (rows_asked q items root kept.tables.types (λ r. (tables r).types))) in
    subst (AreAsked q items root) (sym d) (asked_append q items root s3
    (entered (map (λ row. row.1) kept.tables.values)) three
    (rows_asked q items root kept.tables.values (λ r. (tables r).values)))

-- what isn't so at a place isn't so
pub refutes : (P : Type 0) (b : Bool) → (b ≡ true) ↔ P → b ≡ false → P → ⊥
refutes P true h e k = absurd (cc)
refutes P false h e k = let t : false ≡ true = h.1 k in absurd (cc)

-- .. and the other way round
pub refuted : (P : Type 0) → (P → ⊥) → (false ≡ true) ↔ P
refuted P h = (λ t. absurd (cc), λ k. absurd (h k))

pub shown : (P : Type 0) → P → (true ≡ true) ↔ P
shown P h = (λ t. h, λ k. refl)

-- the last step is taken
pub last_asked : (q : Nodes) (items : List Item) (root : ℕ) (steps before : List Step) (last : Step)
    → steps ≡ before ++ last ∷ [] → AreAsked q items root steps → Asked q items root (step_place last)
last_asked q items root steps before last e h =
    (asked_back q items root before (last ∷ []) (subst (AreAsked q items root) e h)).0

pub rest_asked : (q : Nodes) (items : List Item) (root : ℕ) (steps before : List Step) (last : Step)
    → steps ≡ before ++ last ∷ [] → AreAsked q items root steps → AreAsked q items root before
rest_asked q items root steps before last e h =
    asked_front q items root before (last ∷ []) (subst (AreAsked q items root) e h)

pub whole_env : {E : Type 0} (q : Nodes) (x : Item) (r : Result Bool E) → IsEnv x
    → IfOk r (λ b. (b ≡ true) ↔ ItemFits q x) → IfOk r (λ b. (b ≡ true) ↔ EnvFits q (as_env x))
whole_env q x (Ok b) is h = (λ k. fits_env q x is (h.0 k), λ k. h.1 (env_fits q x is k))
whole_env q x (Err e) is h = tt
