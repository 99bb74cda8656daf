-- The steps of a walk.
use Rattle.std.proofs.Common.{◌≡◌, ℕ, List, [], ◌∷◌, ◌++◌, map, refl, sym, subst, Bool, true, false}
use Rattle.std.specs.Prelude.{◌↔◌, Result, Ok, Err, IfOk}
use Rattle.std.specs.Option.{is_some}
use Rattle.sml_modules.specs.declared.node.EnvNode.{EnvNode}
use Rattle.sml_modules.specs.declared.node.Node.TheVariants as node
use Rattle.sml_modules.specs.Items.{Item, at, as_env, IsEnv}
use Rattle.sml_modules.specs.Adding.{StandsAt}
use Rattle.environment_walks.specs.declared.places.Images.{Images}
use Rattle.environment_walks.specs.declared.steps.Step.{Step}
use Rattle.environment_walks.specs.declared.steps.Step.TheVariants as step
use Rattle.environment_walks.specs.Changing.{image_in}
use Rattle.environment_walks.specs.Stepping.{entered}
use Rattle.environment_ages.specs.Below.{StandsBelow}
use Rattle.environment_ages.specs.Walking.{ItemBelow, AreBelow, AreDone, AreAsked, Asked, GoesOn, step_place}
use Rattle.environment_ages.proofs.Rows.{TablesBelow, tables_below, below_tables, env_below, below_env, IsSet, set_below, done_below, rows_done, asked_append, asked_front, asked_back, rows_asked}

-- the answer for the item at a place
pub entry_at : {E : Type 0} (n : ℕ) (items : List Item) (place : ℕ) (item : Item) (r : Result Bool E)
    → at items place ≡ item → IfOk r (λ b. (b ≡ true) ↔ ItemBelow n item)
    → IfOk r (λ b. (b ≡ true) ↔ ItemBelow n (at items place))
entry_at n items place item r e h = subst (λ x. IfOk r (λ b. (b ≡ true) ↔ ItemBelow n x)) (sym e) h

-- an environment is left when its parts are done
pub left : (n : ℕ) (items : List Item) (old new : Images) (place : ℕ) (kept : EnvNode)
    → StandsAt items place (node.Env kept) → AreBelow n items old
    → AreDone old (map (λ row. row.1) kept.tables.structures) → AreDone old (map (λ row. row.1) kept.tables.types)
    → AreDone old (map (λ row. row.1) kept.tables.values) → IsSet old new place place → AreBelow n items new
left n items old new place kept s h ss ts vs set =
    let rows : TablesBelow n items kept.tables = record {
      structures = rows_done n items old kept.tables.structures h ss;
      types = rows_done n items old kept.tables.types h ts;
      values = rows_done n items old kept.tables.values h vs;
    } in
    set_below n items old new place place h
    (subst (ItemBelow n) (sym s.is) (below_tables n items kept.tables s.node.0 rows)) set

-- .. and before they are, all of them are asked for
pub opened : (n : ℕ) (items : List Item) (root place : ℕ) (kept : EnvNode) (s0 s1 s2 s3 s4 : List Step)
    → StandsAt items place (node.Env kept) → Asked n items root place → AreAsked n items root s0
    → s1 ≡ s0 ++ step.Leave place ∷ [] → s2 ≡ s1 ++ entered (map (λ row. row.1) kept.tables.structures)
    → s3 ≡ s2 ++ entered (map (λ row. row.1) kept.tables.types)
    → s4 ≡ s3 ++ entered (map (λ row. row.1) kept.tables.values) → AreAsked n items root s4
opened n items root place kept s0 s1 s2 s3 s4 s asked h a b c d =
    let tables : ItemBelow n (at items root) → TablesBelow n items kept.tables =
    λ r. tables_below n items kept.tables s.node.0 (subst (ItemBelow n) s.is (asked r)) in
    let one : AreAsked n items root s1 =
    subst (AreAsked n items root) (sym a) (asked_append n items root s0 (step.Leave place ∷ []) h (asked, tt)) in
    let two : AreAsked n items root s2 =
    subst (AreAsked n items root) (sym b) (asked_append n items root s1
    (entered (map (λ row. row.1) kept.tables.structures)) one
    (rows_asked n items root kept.tables.structures (λ r. (tables r).structures))) in
    let three : AreAsked n items root s3 =
    subst (AreAsked n items root) (sym c) (asked_append n items root s2
    (entered (map (λ row. row.1) kept.tables.types)) two
    (rows_asked n items root kept.tables.types (λ r. (tables r).types))) in
    subst (AreAsked n items root) (sym d) (asked_append n items root s3
    (entered (map (λ row. row.1) kept.tables.values)) three
    (rows_asked n items root kept.tables.values (λ r. (tables r).values)))

-- an entry that was met
pub entry_fails : (n : ℕ) (items : List Item) (place : ℕ) (b : Bool) → (b ≡ true) ↔ ItemBelow n (at items place)
    → b ≡ false → ItemBelow n (at items place) → ⊥
entry_fails n items place true h e k = absurd (cc)
entry_fails n items place false h e k = let t : false ≡ true = h.1 k in absurd (cc)

-- what isn't so at a place isn't so at the root
pub goes_up : {E : Type 0} (n : ℕ) (items : List Item) (root place : ℕ) (Then : Type 0) (r : Result Bool E)
    → Asked n items root place → IfOk r (GoesOn (ItemBelow n (at items place)) Then)
    → IfOk r (GoesOn (ItemBelow n (at items root)) Then)
goes_up n items root place Then (Ok true) asked h = h
goes_up n items root place Then (Ok false) asked h = λ k. h (asked k)
goes_up n items root place Then (Err e) asked h = tt

-- the last step is taken
pub last_asked : (n : ℕ) (items : List Item) (root : ℕ) (steps before : List Step) (last : Step)
    → steps ≡ before ++ last ∷ [] → AreAsked n items root steps → Asked n items root (step_place last)
last_asked n items root steps before last e h =
    (asked_back n items root before (last ∷ []) (subst (AreAsked n items root) e h)).0

pub rest_asked : (n : ℕ) (items : List Item) (root : ℕ) (steps before : List Step) (last : Step)
    → steps ≡ before ++ last ∷ [] → AreAsked n items root steps → AreAsked n items root before
rest_asked n items root steps before last e h =
    asked_front n items root before (last ∷ []) (subst (AreAsked n items root) e h)

goes_if : (Whole Then : Type 0) (b : Bool) → GoesOn Whole Then b → b ≡ true → Then
goes_if Whole Then true h e = h
goes_if Whole Then false h e = absurd (cc)

ends_if : (Whole Then : Type 0) (b : Bool) → GoesOn Whole Then b → b ≡ false → Whole → ⊥
ends_if Whole Then true h e = absurd (cc)
ends_if Whole Then false h e = h

pub goes : (n : ℕ) (items : List Item) (root : ℕ) (new : Images) (b : Bool)
    → GoesOn (ItemBelow n (at items root)) (AreBelow n items new) b → b ≡ true → AreBelow n items new
goes n items root new b h e = goes_if (ItemBelow n (at items root)) (AreBelow n items new) b h e

pub ends : (n : ℕ) (items : List Item) (root : ℕ) (new : Images) (b : Bool)
    → GoesOn (ItemBelow n (at items root)) (AreBelow n items new) b → b ≡ false
    → (false ≡ true) ↔ ItemBelow n (at items root)
ends n items root new b h e = (
  λ k. absurd (cc),
  λ k. absurd (ends_if (ItemBelow n (at items root)) (AreBelow n items new) b h e k),
)

pub whole_done : (n : ℕ) (items : List Item) (done : Images) (root : ℕ) → AreBelow n items done
    → is_some (image_in done root) ≡ true → (true ≡ true) ↔ ItemBelow n (at items root)
whole_done n items done root h s = (λ k. done_below n items done root h s, λ k. refl)

pub whole_env : {E : Type 0} (n : ℕ) (x : Item) (r : Result Bool E) → IsEnv x
    → IfOk r (λ b. (b ≡ true) ↔ ItemBelow n x) → IfOk r (λ b. (b ≡ true) ↔ StandsBelow n (as_env x))
whole_env n x (Ok b) is h = (λ k. below_env n x is (h.0 k), λ k. h.1 (env_below n x is k))
whole_env n x (Err e) is h = tt
