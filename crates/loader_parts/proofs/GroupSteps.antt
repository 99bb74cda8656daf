-- The group that begins.
use Rattle.std.proofs.Common.{◌≡◌, ◌∙◌, ℕ, List, ap}
use Rattle.cm_description.specs.declared.description.Description.{Description}
use Rattle.cm_description.specs.declared.loaded.Group.{Group}
use Rattle.project_loading.specs.Projects.{begun}

-- the group that begins has the name that was copied
pub begun_copied : (group : Group) (copied name : List ℕ) (d : Description) → group ≡ begun copied d → copied ≡ name
    → group ≡ begun name d
begun_copied group copied name d is same = is ∙ ap (λ (n : List ℕ). begun n d) same
