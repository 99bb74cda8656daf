-- The tool at a place of a box, and a box of which one tool is changed.
use Rattle.std.proofs.Common.{◌≡◌, ◌≢◌, sym, subst, ℕ, zero, suc, ◌+◌, ◌<◌, ◌≤◌, List, [], ◌∷◌, length, take, take_all, set, get_or, Some}
use Rattle.std.specs.Prelude.{slice_get}
use Rattle.std.proofs.lemmas.List.Elements.{All-more}
use Rattle.tool_deriving.specs.Toolboxes.{NoneHas, IsPlaceOf, OfOne}

-- what is got is there
got : {A : Type 0} (tools : List A) (at : ℕ) (tool : A) → slice_get tools at ≡ Some tool → get_or tools at tool ≡ tool
got [] at tool e = absurd cc
got (one ∷ tools) zero tool e = cc
got (one ∷ tools) (suc at) tool e = got tools at tool e

-- the first tool that has a class
pub place_found : {A : Type 0} (class_of : A → List ℕ) (class : List ℕ) (tools : List A) (at : ℕ) (tool : A)
    → slice_get tools at ≡ Some tool → class_of tool ≡ class → NoneHas class_of class (take at tools)
    → IsPlaceOf class_of class tools at
place_found class_of class tools at tool there has first =
    record { tool = tool; there = there; has = has; first = first }

-- one more that hasn't
pub none_more : {A : Type 0} (class_of : A → List ℕ) (class : List ℕ) (tools : List A) (at : ℕ) (tool : A)
    → at < length tools → slice_get tools at ≡ Some tool → class_of tool ≢ class → NoneHas class_of class (take at tools)
    → NoneHas class_of class (take (at + 1) tools)
none_more class_of class tools at tool lt there apart none =
    All-more (λ one. class_of one ≢ class) tools at tool lt none
    (subst (λ one. class_of one ≢ class) (sym (got tools at tool there)) apart)

-- all of them
pub none_all : {A : Type 0} (class_of : A → List ℕ) (class : List ℕ) (tools : List A) (at : ℕ)
    → length tools ≤ at → NoneHas class_of class (take at tools) → NoneHas class_of class tools
none_all class_of class tools at le none = subst (NoneHas class_of class) (take_all at tools le) none

-- one tool is changed
pub of_one : {A : Type 0} (at : ℕ) (old new : List A) (before after : A) (Holds : A → A → Type 0)
    → slice_get old at ≡ Some before → new ≡ set old at after → Holds before after → OfOne at old new Holds
of_one at old new before after Holds was is so = record { before = before; after = after; was = was; is = is; so = so }
