-- How the tables of definitions and modules grow.
use Rattle.std.proofs.Common.{◌≡◌, ℕ, ◌+◌, ◌<◌, Bool, true, false, ◌||◌, cond, List, [], ◌∷◌, ◌++◌, length, drop, get_or, refl, ap, sym, ◌∙◌, append_assoc, add-one, arith}
use Rattle.std.proofs.Math.Seq.{drop-cons}
use Rattle.cm_base.specs.declared.record.ModName.{ModName}
use Rattle.cm_base.specs.declared.record.Namespace.{Namespace}
use Rattle.cm_base.specs.declared.record.Namespace.TheVariants as space
use Rattle.cm_conditions.specs.Tables.{same_name}
use Rattle.cm_conditions.specs.Values.{same_module, has_module}

-- the last of the items that are left comes before those behind
pub one_back : {X : Type 0} (all rest before behind : List X) (x : X) → all ≡ rest ++ behind → rest ≡ before ++ x ∷ []
    → all ≡ before ++ (x ∷ behind)
one_back all rest before behind x h k = h ∙ ap (λ xs. xs ++ behind) k ∙ append_assoc before (x ∷ []) behind

-- where none is left, all are behind
pub all_back : {X : Type 0} (all rest behind : List X) → all ≡ rest ++ behind → length rest ≡ 0 → behind ≡ all
all_back all [] behind h none = sym h
all_back all (x ∷ rest) behind h none = absurd (omega arith)

-- what is left of a list, from an item on
pub left_at : {X : Type 0} (items : List X) (i : ℕ) (item : X) → i < length items → item ≡ get_or items i item
    → drop i items ≡ item ∷ drop (i + 1) items
left_at items i item lt is = rw add-one (drop-cons items i item lt) ∙ ap (λ x. x ∷ drop (i + 1) items) (sym is)

-- equality of names is that of name space and text
abbrev named : Namespace → List ℕ → ModName
named space name = record { space = space; name = name }

spaces : (s t : Namespace) (x y : List ℕ) → same_name (named s x) (named t y) ≡ same_module (named s x) (named t y)
spaces space.Structure space.Structure x y = refl
spaces space.Signature space.Structure x y = refl
spaces space.Functor space.Structure x y = refl
spaces space.Funsig space.Structure x y = refl
spaces _ _ x y = refl

pub same_is : (a b : ModName) → same_name a b ≡ same_module a b
same_is a b = spaces a.space b.space a.name b.name

pub here_too : (a new old more : Bool) → new ≡ cond a true old → (new || more) ≡ (old || (a || more))
here_too true new true more h = rw h refl
here_too true new false more h = rw h refl
here_too false new old more h = rw h refl

-- a set with one more of the modules has, with those that are left, the same as before
pub one_in : (modules : List ModName) (i : ℕ) (name : ModName) (old new : Bool) (wanted : ModName)
    → i < length modules → name ≡ get_or modules i name → new ≡ cond (same_name name wanted) true old
    → (new || has_module (drop (i + 1) modules) wanted) ≡ (old || has_module (drop i modules) wanted)
one_in modules i name old new wanted lt here is =
    here_too (same_module name wanted) new old (has_module (drop (i + 1) modules) wanted)
    (is ∙ ap (λ same. cond same true old) (same_is name wanted))
    ∙ ap (λ left. old || has_module left wanted) (sym (left_at modules i name lt here))
