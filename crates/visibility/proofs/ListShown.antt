-- What a group shows by its export list, by its tables.
use Rattle.std.proofs.Common.{◌≡◌, ◌∙◌, sym, ap, ap₂, subst, refl, ℕ, Bool, true, false, cond, List, [], ◌∷◌, Option, Result, Ok, Err}
use Rattle.std.specs.Prelude.{◌↔◌, IsTrue}
use Rattle.std.specs.Result.{IsErrAnd}
use Rattle.cm_base.specs.Calls.{Gives}
use Rattle.cm_base.specs.declared.diag.Diag.{Diag}
use Rattle.cm_base.specs.declared.fault.Fault.{Fault}
use Rattle.cm_base.specs.declared.record.Def.{Def}
use Rattle.cm_base.specs.declared.record.ModName.{ModName}
use Rattle.cm_base.specs.declared.record.Skeleton.{Skeleton}
use Rattle.cm_description.specs.Answers.{is_empty}
use Rattle.cm_description.specs.declared.loaded.Export.{Export}
use Rattle.cm_description.specs.declared.loaded.Group.{Group}
use Rattle.cm_description.specs.declared.loaded.Project.{Project}
use Rattle.visibility.proofs.Answering.{bind_right, bind_wrong, passed}
use Rattle.visibility.specs.Choosing.{chosen_items}
use Rattle.visibility.specs.Exports.{default_exports, entry_exports, names_in, shown_list}
use Rattle.visibility.specs.Projects.{members, sources}
use Rattle.visibility.specs.Tables.{shown_among, shown_below, shown_by_tables}
use Rattle.visibility.specs.declared.found.Found.{Found}

pub empty_true : {A : Type 0} (b : Bool) (xs : List A) → IsTrue b ↔ (xs ≡ []) → b ≡ true → is_empty xs ≡ true
empty_true b xs iff is = ap is_empty (iff.0 is)

pub empty_false : {A : Type 0} (b : Bool) (xs : List A) → IsTrue b ↔ (xs ≡ []) → b ≡ false → is_empty xs ≡ false
empty_false b [] iff is = let yes : b ≡ true = iff.1 refl in cc
empty_false b (x ∷ xs) iff is = refl

-- a group without an entry
pub by_default : (r : Result (List Export) Fault) (behind beneath : ModName → Found) (group : Group)
    (shown : List ModName) (chosen : List ℕ) → is_empty group.entries ≡ true
    → Gives r (default_exports beneath group.file shown) → Gives r (shown_list behind beneath group shown chosen)
by_default r behind beneath group shown chosen none gives =
    subst (λ b. Gives r (cond b (default_exports beneath group.file shown) (entry_exports behind group.entries chosen)))
    (sym none) gives

-- .. and one with entries
pub by_entries : (r : Result (List Export) Fault) (behind beneath : ModName → Found) (group : Group)
    (shown : List ModName) (chosen : List ℕ) → is_empty group.entries ≡ false
    → Gives r (entry_exports behind group.entries chosen) → Gives r (shown_list behind beneath group shown chosen)
by_entries r behind beneath group shown chosen some gives =
    subst (λ b. Gives r (cond b (default_exports beneath group.file shown) (entry_exports behind group.entries chosen)))
    (sym some) gives

-- the names that are there, as the call has them
there_is : (project : Project) (skeletons : List Skeleton) (places : ℕ → Option ℕ) (below : List (List Export)) (g : ℕ)
    (there : List ModName) (units among : List ℕ) → there ≡ names_in skeletons units (shown_among places below among)
    → units ≡ sources project g → among ≡ members project g
    → there ≡ names_in skeletons (sources project g) (shown_among places below (members project g))
there_is project skeletons places below g there units among is is_units is_among =
    is ∙ ap₂ (λ us ms. names_in skeletons us (shown_among places below ms)) is_units is_among

-- a list of directives that is refused
pub chosen_refused : (project : Project) (skeletons : List Skeleton) (defs : List Def) (places : ℕ → Option ℕ)
    (below : List (List Export)) (behind beneath : ModName → Found) (g : ℕ) (group : Group) (there : List ModName)
    (units among : List ℕ) (e : Fault) (r : Result (List Export) Fault)
    → there ≡ names_in skeletons units (shown_among places below among) → units ≡ sources project g
    → among ≡ members project g → IsErrAnd r (λ y. y ≡ e)
    → Gives {A = List ℕ} (Err e) (chosen_items defs there group.export_lines)
    → Gives r (shown_by_tables project skeletons defs places below behind beneath g group)
chosen_refused project skeletons defs places below behind beneath g group there units among e r is is_units is_among
    wrong gives =
    let all : List ModName = names_in skeletons (sources project g) (shown_among places below (members project g)) in
    let same : there ≡ all = there_is project skeletons places below g there units among is is_units is_among in
    passed r e (chosen_items defs there group.export_lines)
    (shown_by_tables project skeletons defs places below behind beneath g group) wrong gives
    (λ diag refused.
    bind_wrong (chosen_items defs all group.export_lines)
    (λ chosen. shown_list behind beneath group
    (names_in skeletons (sources project g) (shown_below project places below g)) chosen) diag
    (ap (λ t. chosen_items defs t group.export_lines) (sym same) ∙ refused))

-- .. and one that chooses these items
pub chosen_shown : (project : Project) (skeletons : List Skeleton) (defs : List Def) (places : ℕ → Option ℕ)
    (below : List (List Export)) (behind beneath : ModName → Found) (g : ℕ) (group : Group) (there : List ModName)
    (units among numbers now : List ℕ) → there ≡ names_in skeletons units (shown_among places below among)
    → units ≡ sources project g → among ≡ members project g
    → chosen_items defs there group.export_lines ≡ Ok numbers → now ≡ numbers
    → shown_list behind beneath group (names_in skeletons (sources project g) (shown_below project places below g)) now
    ≡ shown_by_tables project skeletons defs places below behind beneath g group
chosen_shown project skeletons defs places below behind beneath g group there units among numbers now is is_units
    is_among chooses same_numbers =
    let all : List ModName = names_in skeletons (sources project g) (shown_among places below (members project g)) in
    let same : there ≡ all = there_is project skeletons places below g there units among is is_units is_among in
    sym (bind_right (chosen_items defs all group.export_lines)
    (λ chosen. shown_list behind beneath group
    (names_in skeletons (sources project g) (shown_below project places below g)) chosen) now
    (ap (λ t. chosen_items defs t group.export_lines) (sym same) ∙ chooses ∙ ap Ok (sym same_numbers)))
