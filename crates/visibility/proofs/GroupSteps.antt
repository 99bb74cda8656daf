-- Group after group, the names of a project.
use Rattle.std.proofs.Common.{◌≡◌, ◌∙◌, sym, ap, ap₂, refl, ℕ, ◌+◌, ◌<◌, List, [], ◌∷◌, ◌++◌, length, drop, get_or, slice_get, Option, Some, None, Result, Ok, Err}
use Rattle.std.specs.Prelude.{slice_set}
use Rattle.cm_base.specs.Diags.{◌>>=◌}
use Rattle.cm_base.specs.declared.diag.Diag.{Diag}
use Rattle.cm_base.specs.declared.record.Def.{Def}
use Rattle.cm_base.specs.declared.record.Skeleton.{Skeleton}
use Rattle.cm_conditions.proofs.TableSteps.{left_at}
use Rattle.cm_description.specs.declared.loaded.Export.{Export}
use Rattle.cm_description.specs.declared.loaded.Project.{Project}
use Rattle.cm_description.specs.declared.loaded.Wanted.{Wanted}
use Rattle.visibility.specs.Exports.{exports_of}
use Rattle.visibility.specs.Imports.{imports_in}
use Rattle.visibility.specs.Naming.{importing, names, with_groups, with_imports}
use Rattle.visibility.specs.Tables.{Added, added, with_group}

-- ---- the imports of units

-- one more unit is set
pub set_more : (imports : ℕ → Result (List Wanted) Diag) (units : List ℕ) (i u : ℕ) (wanted new : List (List Wanted))
    (these : List Wanted)
    → i < length units → u ≡ get_or units i u → imports u ≡ Ok these → new ≡ slice_set wanted u these
    → with_imports imports (drop (i + 1) units) new ≡ with_imports imports (drop i units) wanted
set_more imports units i u wanted new these lt is gives set =
    ap (with_imports imports (drop (i + 1) units)) set
    ∙ sym (ap (λ left. with_imports imports left wanted) (left_at units i u lt is)
    ∙ ap (λ (r : Result (List Wanted) Diag).
    r >>= (λ t. with_imports imports (drop (i + 1) units) (slice_set wanted u t))) gives)

-- one more unit is refused
pub set_wrong : (imports : ℕ → Result (List Wanted) Diag) (units : List ℕ) (i u : ℕ) (wanted : List (List Wanted))
    (diag : Diag)
    → i < length units → u ≡ get_or units i u → imports u ≡ Err diag
    → with_imports imports (drop i units) wanted ≡ Err diag
set_wrong imports units i u wanted diag lt is gives =
    ap (λ left. with_imports imports left wanted) (left_at units i u lt is)
    ∙ ap (λ (r : Result (List Wanted) Diag).
    r >>= (λ t. with_imports imports (drop (i + 1) units) (slice_set wanted u t))) gives

-- ---- groups

-- what follows on both of two answers
both_ok : {C : Type 0} (a : Result (List Export) Diag) (b : Result (List (List Wanted)) Diag)
    (k : List Export → List (List Wanted) → Result C Diag) (e : List Export) (w : List (List Wanted))
    → (a >>= (λ x. b >>= (λ s. Ok (added x s)))) ≡ Ok (added e w) → (a >>= (λ x. b >>= (λ s. k x s))) ≡ k e w
both_ok (Ok x) (Ok s) k e w h =
    let same : added x s ≡ added e w = cc in
    ap₂ k (ap (λ (p : Added). p.exports) same) (ap (λ (p : Added). p.wanted) same)
both_ok (Ok x) (Err d) k e w h = cc
both_ok (Err d) b k e w h = cc

both_wrong : {C : Type 0} (a : Result (List Export) Diag) (b : Result (List (List Wanted)) Diag)
    (k : List Export → List (List Wanted) → Result C Diag) (diag : Diag)
    → (a >>= (λ x. b >>= (λ s. Ok (added x s)))) ≡ Err diag → (a >>= (λ x. b >>= (λ s. k x s))) ≡ Err diag
both_wrong (Ok x) (Ok s) k diag h = cc
both_wrong (Ok x) (Err d) k diag h = let same : d ≡ diag = cc in ap Err same
both_wrong (Err d) b k diag h = let same : d ≡ diag = cc in ap Err same

-- one more group
pub group_more : (project : Project) (skeletons : List Skeleton) (defs : List Def) (groups : List ℕ) (i g : ℕ)
    (below now : List (List Export)) (wanted new : List (List Wanted)) (exports : List Export)
    → i < length groups → g ≡ get_or groups i g
    → with_group project skeletons defs below g wanted ≡ Ok (added exports new) → now ≡ below ++ exports ∷ []
    → with_groups project skeletons defs (drop (i + 1) groups) (names now new)
    ≡ with_groups project skeletons defs (drop i groups) (names below wanted)
group_more project skeletons defs groups i g below now wanted new exports lt is gives grown =
    ap (λ xs. with_groups project skeletons defs (drop (i + 1) groups) (names xs new)) grown
    ∙ sym (ap (λ left. with_groups project skeletons defs left (names below wanted)) (left_at groups i g lt is)
    ∙ both_ok (exports_of project skeletons defs g below)
    (with_imports (imports_in project skeletons below g) (importing project g) wanted)
    (λ x s. with_groups project skeletons defs (drop (i + 1) groups) (names (below ++ x ∷ []) s)) exports new gives)

-- one more group is refused
pub group_wrong : (project : Project) (skeletons : List Skeleton) (defs : List Def) (groups : List ℕ) (i g : ℕ)
    (below : List (List Export)) (wanted : List (List Wanted)) (diag : Diag)
    → i < length groups → g ≡ get_or groups i g
    → with_group project skeletons defs below g wanted ≡ Err diag
    → with_groups project skeletons defs (drop i groups) (names below wanted) ≡ Err diag
group_wrong project skeletons defs groups i g below wanted diag lt is gives =
    ap (λ left. with_groups project skeletons defs left (names below wanted)) (left_at groups i g lt is)
    ∙ both_wrong (exports_of project skeletons defs g below)
    (with_imports (imports_in project skeletons below g) (importing project g) wanted)
    (λ x s. with_groups project skeletons defs (drop (i + 1) groups) (names (below ++ x ∷ []) s)) diag gives
