-- The units under which members export a name, as a table finds them.
use Rattle.std.proofs.Common.{◌≡◌, ◌∙◌, sym, ap, refl, ℕ, ◌+◌, ◌<◌, ◌==◌, Bool, true, false, ◌&&◌, cond, List, [], ◌∷◌, ◌++◌, length, drop, get_or, map, Option, Some, None, unwrap_or}
use Rattle.std.specs.Prelude.{filter, flat_map, fold}
use Rattle.std.specs.List.{list_all}
use Rattle.cm_base.specs.declared.record.ModName.{ModName}
use Rattle.cm_conditions.proofs.TableSteps.{left_at, same_is}
use Rattle.cm_conditions.specs.Tables.{same_name}
use Rattle.cm_conditions.specs.Values.{same_module}
use Rattle.cm_description.specs.declared.loaded.Export.{Export}
use Rattle.visibility.proofs.ModuleNames.{name_is}
use Rattle.visibility.specs.Providers.{found_in, units_under}
use Rattle.visibility.specs.Tables.{with_unit, at_name}
use Rattle.visibility.specs.declared.found.Found.{Found}
use Rattle.visibility.specs.declared.found.Found.TheVariants as found

fold_several : (us : List ℕ) → fold with_unit found.Several us ≡ found.Several
fold_several [] = refl
fold_several (u ∷ us) = fold_several us

one_by : (v : ℕ) (us : List ℕ) (b : Bool)
    → fold with_unit (found.One v) us ≡ cond (list_all (λ w. v == w) us) (found.One v) found.Several
    → fold with_unit (cond b (found.One v) found.Several) us
    ≡ cond (b && list_all (λ w. v == w) us) (found.One v) found.Several
one_by v us true h = h
one_by v us false h = fold_several us

fold_one : (v : ℕ) (us : List ℕ)
    → fold with_unit (found.One v) us ≡ cond (list_all (λ w. v == w) us) (found.One v) found.Several
fold_one v [] = refl
fold_one v (u ∷ us) = one_by v us (v == u) (fold_one v us)

-- units one after the other are found as all of them are
pub fold_found : (us : List ℕ) → fold with_unit found.Missing us ≡ found_in us
fold_found [] = refl
fold_found (v ∷ us) = fold_one v us

fold_by : (b : Bool) (f : Found) (e : Export) (es : List Export)
    → fold with_unit f (map (λ (x : Export). x.unit) (cond b (e ∷ es) es))
    ≡ fold with_unit (cond b (with_unit f e.unit) f) (map (λ (x : Export). x.unit) es)
fold_by true f e es = refl
fold_by false f e es = refl

-- one more export, before others
pub fold_under : (f : Found) (e : Export) (es : List Export) (name : ModName)
    → fold with_unit f (units_under (e ∷ es) name)
    ≡ fold with_unit (cond (same_module e.name name) (with_unit f e.unit) f) (units_under es name)
fold_under f e es name =
    fold_by (same_module e.name name) f e (filter (λ (x : Export). same_module x.name name) es)

pub fold_under-append : (f : Found) (xs ys : List Export) (name : ModName)
    → fold with_unit f (units_under (xs ++ ys) name)
    ≡ fold with_unit (fold with_unit f (units_under xs name)) (units_under ys name)
fold_under-append f [] ys name = refl
fold_under-append f (e ∷ xs) ys name =
    fold_under f e (xs ++ ys) name
    ∙ fold_under-append (cond (same_module e.name name) (with_unit f e.unit) f) xs ys name
    ∙ sym (ap (λ g. fold with_unit g (units_under ys name)) (fold_under f e xs name))

-- what a table finds at a name, with one more unit at another or at this one
at_by : (table : ModName → Option Found) (key name : ModName) (u : ℕ) (b : Bool) → same_name key name ≡ b
    → unwrap_or (cond b (Some (with_unit (at_name table key) u)) (table name)) found.Missing
    ≡ cond b (with_unit (at_name table name) u) (at_name table name)
at_by table key name u true is = ap (λ n. with_unit (at_name table n) u) (name_is key name is)
at_by table key name u false is = refl

-- one more export is noted
pub note_more : (old new : ModName → Option Found) (exports : List Export) (i : ℕ) (e : Export) (name : ModName)
    → i < length exports → e ≡ get_or exports i e
    → new name ≡ cond (same_name e.name name) (Some (with_unit (at_name old e.name) e.unit)) (old name)
    → fold with_unit (at_name new name) (units_under (drop (i + 1) exports) name)
    ≡ fold with_unit (at_name old name) (units_under (drop i exports) name)
note_more old new exports i e name lt is updated =
    ap (λ (o : Option Found). fold with_unit (unwrap_or o found.Missing) (units_under (drop (i + 1) exports) name))
    updated
    ∙ ap (λ f. fold with_unit f (units_under (drop (i + 1) exports) name))
    (at_by old e.name name e.unit (same_name e.name name) refl
    ∙ ap (λ b. cond b (with_unit (at_name old name) e.unit) (at_name old name)) (same_is e.name name))
    ∙ sym (ap (λ left. fold with_unit (at_name old name) (units_under left name)) (left_at exports i e lt is)
    ∙ fold_under (at_name old name) e (drop (i + 1) exports) name)

-- one more member is noted
pub member_more : (shown : ℕ → List Export) (old new : ModName → Option Found) (among : List ℕ) (i m : ℕ)
    (name : ModName)
    → i < length among → m ≡ get_or among i m
    → at_name new name ≡ fold with_unit (at_name old name) (units_under (shown m) name)
    → fold with_unit (at_name new name) (units_under (flat_map shown (drop (i + 1) among)) name)
    ≡ fold with_unit (at_name old name) (units_under (flat_map shown (drop i among)) name)
member_more shown old new among i m name lt is noted =
    ap (λ f. fold with_unit f (units_under (flat_map shown (drop (i + 1) among)) name)) noted
    ∙ sym (ap (λ left. fold with_unit (at_name old name) (units_under (flat_map shown left) name))
    (left_at among i m lt is)
    ∙ fold_under-append (at_name old name) (shown m) (flat_map shown (drop (i + 1) among)) name)
