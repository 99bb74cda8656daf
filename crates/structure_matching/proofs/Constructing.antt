-- Constructors one by one, and types without variables of a table.
use Rattle.std.proofs.Common.{◌≡◌, ℕ, refl, ap, ap₂, ◌∙◌, List, false, ◌||◌}
use Rattle.semantic_objects.specs.declared.entry.ConEntry.{ConEntry}
use Rattle.semantic_objects.specs.Symbols.{same_list}
use Rattle.semantic_objects.specs.Trees.{Tree, Trees, TypeScheme}
use Rattle.unification.specs.Closing.{plug, plug_all, canonical_scheme}
use Rattle.env_parts.specs.Types.{holds_free, any_holds_free, facts_of, con_types}
use Rattle.module_semantics.specs.Matching.{same_con}

mutual
  plug_free : (f : ℕ → ℕ) (x : Tree) → holds_free (plug (λ i. Tree.Bound (f i)) x) ≡ holds_free x
  plug_free f (Tree.Bound i) = refl
  plug_free f (Tree.Free n) = refl
  plug_free f (Tree.Made c xs) = plug_free_all f xs

  plug_free_all : (f : ℕ → ℕ) (xs : Trees) → any_holds_free (plug_all (λ i. Tree.Bound (f i)) xs) ≡ any_holds_free xs
  plug_free_all f Trees.Nil = refl
  plug_free_all f (Trees.Cons x xs) = ap₂ (λ a b. a || b) (plug_free f x) (plug_free_all f xs)

-- the one form of a scheme without variables of a table
pub form_closed : (σ made : TypeScheme) → holds_free σ.body ≡ false → made ≡ canonical_scheme σ
    → holds_free made.body ≡ false
form_closed σ made h e = ap (λ (τ : TypeScheme). holds_free τ.body) e ∙ plug_free _ σ.body ∙ h

-- ---- lists

-- what is known of the rest of two lists of constructors
pub record SameTo (left right this that : List ConEntry) : Type 0 where
  pub whole : same_list same_con this that ≡ same_list same_con left right
  pub this_closed : (facts_of (con_types this)).has_free ≡ false
  pub that_closed : (facts_of (con_types that)).has_free ≡ false

-- ---- whole type structures
