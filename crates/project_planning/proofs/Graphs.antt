-- The graph of a project's units, and the order of it.
use Rattle.std.proofs.Common.{◌≡◌, ◌∙◌, sym, ap, refl, subst, ℕ, ◌<◌, List, [], ◌∷◌, length, get_or, map, Some, Result, Ok, Err, arith}
use Rattle.std.specs.Prelude.{All}
use Rattle.std.proofs.lemmas.List.{length-map}
use Rattle.std.proofs.lemmas.List.Elements.{All-map}
use Rattle.std.proofs.lemmas.Option.{slice_get-get_or}
use Rattle.cm_base.specs.declared.diag.Diag.{Diag}
use Rattle.cm_description.specs.WellFormed.{AllDiffer, IsWellFormed}
use Rattle.cm_description.specs.declared.loaded.Project.{Project}
use Rattle.cm_description.specs.declared.loaded.Unit.{Unit as ProjectUnit}
use Rattle.cm_description.specs.declared.loaded.Wanted.{Wanted}
use Rattle.dependency_graph.specs.Cycle.{IsOrdered}
use Rattle.dependency_graph.specs.Order.{AllAreUnits, IsOrder, Placed, name_of}
use Rattle.dependency_graph.specs.Order.{AllDiffer as NamesAreApart}
use Rattle.dependency_graph.specs.Ordered.{cycle_diag, ordered}
use Rattle.project_planning.specs.Buildable.{AreProvided}
use Rattle.project_planning.specs.Planning.{edges_of, in_order, providers_of, unit_names}

-- names that stand nowhere twice differ
names_differ : (names : List (List ℕ)) → AllDiffer names → NamesAreApart names
names_differ names apart a b first second same =
    apart a b (name_of names b) (slice_get-get_or names a [] first ∙ ap Some same) (slice_get-get_or names b [] second)

pub units_differ : (p : Project) (names : List (List ℕ)) → IsWellFormed p → names ≡ unit_names p → NamesAreApart names
units_differ p names formed is = subst NamesAreApart (sym is) (names_differ (unit_names p) formed.names)

pub names_count : (p : Project) (names : List (List ℕ)) → names ≡ unit_names p → length names ≡ length p.units
names_count p names is = ap length is ∙ length-map p.units (λ (unit : ProjectUnit). unit.name)

pub edges_count : (p : Project) (names edges : List (List ℕ)) (wanted : List (List Wanted))
    → length wanted ≡ length p.units → names ≡ unit_names p → edges ≡ edges_of wanted → length edges ≡ length names
edges_count p names edges wanted counted named is =
    ap length is ∙ length-map wanted providers_of ∙ counted ∙ sym (names_count p names named)

pub edges_are_units : (p : Project) (edges : List (List ℕ)) (wanted : List (List Wanted))
    → length wanted ≡ length p.units → AreProvided p wanted → edges ≡ edges_of wanted → AllAreUnits edges
edges_are_units p edges wanted counted provided is =
    subst AllAreUnits (sym is)
    (subst (λ n. All (λ list. All (λ u. u < n) list) (edges_of wanted)) (sym (length-map wanted providers_of ∙ counted))
    (All-map (λ list. All (λ u. u < length p.units) list) providers_of wanted
    (λ k d lt. All-map (λ u. u < length p.units) (λ (w : Wanted). w.provider) (get_or wanted k d) (provided k d lt))))

-- what the names and the edges say says the project
pub order_gives : (p : Project) (names edges : List (List ℕ)) (wanted : List (List Wanted))
    (r : Result (List Placed) Diag) → names ≡ unit_names p → edges ≡ edges_of wanted → in_order names edges ≡ r
    → in_order (unit_names p) (edges_of wanted) ≡ r
order_gives p names edges wanted r named is gives =
    ap (λ n. in_order n (edges_of wanted)) (sym named) ∙ ap (in_order names) (sym is) ∙ gives

pub order_whole : (p : Project) (names edges : List (List ℕ)) (wanted : List (List Wanted)) (order : List Placed)
    → names ≡ unit_names p → edges ≡ edges_of wanted → IsOrder names edges order
    → IsOrder (unit_names p) (edges_of wanted) order
order_whole p names edges wanted order named is whole =
    subst (λ n. IsOrder n (edges_of wanted) order) named (subst (λ e. IsOrder names e order) is whole)

pub order_count : (p : Project) (edges : List (List ℕ)) (order : List Placed) → IsOrder (unit_names p) edges order
    → length order ≡ length p.units
order_count p edges order whole = whole.counted ∙ names_count p (unit_names p) refl
