-- Components and what is found under their names.
use Rattle.std.proofs.Common.{◌≡◌, ℕ, ◌+◌, sym, ap, ap₂, ◌∙◌, subst, List, [], ◌∷◌, ◌++◌, map, take, slice_get}
use Rattle.std.proofs.lemmas.List.{map-append}
use Rattle.semantic_objects.specs.Tables.{Table, entry, names_of}
use Rattle.environment_walks.proofs.Ordering.{taken_more, row_at}
use Rattle.structure_matching.specs.declared.parts.Component.{Component}
use Rattle.structure_matching.specs.Found.{specified_rows, AreFound, IsComponentAt}
use Rattle.structure_matching.proofs.Listing.{some_is}

found_more : (found : Table ℕ) (made : List Component) (c : Component) → AreFound found made
    → c.found ≡ entry c.name found → AreFound found (made ++ c ∷ [])
found_more found [] c h e = (e, tt)
found_more found (d ∷ made) c h e = (h.0, found_more found made c h.1 e)

pub component_more : (specified table : Table ℕ) (names : List (List ℕ)) (places : List ℕ) (made new : List Component)
    (c : Component) (i : ℕ) → names ≡ names_of specified → places ≡ map (λ row. row.1) specified
    → specified_rows made ≡ take i specified → AreFound table made → IsComponentAt table names places i c
    → new ≡ made ++ c ∷ []
    → (specified_rows new ≡ take (i + 1) specified) × AreFound table new
component_more specified table names places made new c i e f rows found at is = (
  row_at specified i c.name (ap (λ z. slice_get z i) (sym e) ∙ at.name)
      (λ p place row. (let same : p ≡ c.specified =
      some_is p c.specified (sym place ∙ ap (λ z. slice_get z i) (sym f) ∙ at.specified) in
      ap specified_rows is
      ∙ map-append (λ (d : Component). (d.name, d.specified)) made (c ∷ [])
      ∙ ap₂ (λ xs q. xs ++ (c.name, q) ∷ []) rows (sym same)
      ∙ sym (taken_more specified i (c.name, p) row))),
  subst (AreFound table) (sym is) (found_more table made c found at.found),
)
