-- Texts that are gathered, each once.
use Rattle.std.specs.Prelude.{◌≡◌, ℕ, List, [], ◌∷◌, ◌++◌, cond, nat_eq}
use Rattle.std.specs.Cmp.Lexicographic.{pointwise}
use Rattle.indexmap.specs.IndexSet.{IndexSet, contains}
use Rattle.sml_trees.specs.declared.name.Name.{Name}
use Rattle.static_semantics.specs.BasicTypes.{is_one_of}

-- a set has the texts of a list
abbrev pub AreSeen : {S : Type 0} → IndexSet (List ℕ) S → List (List ℕ) → Type 0
AreSeen seen texts = (text : List ℕ) → contains (pointwise nat_eq) seen text ≡ is_one_of texts text

-- a text behind others, if it isn't one of them
abbrev pub with_text : List (List ℕ) → List ℕ → List (List ℕ)
with_text texts text = cond (is_one_of texts text) texts (texts ++ text ∷ [])

-- .. and those of names, one after another
abbrev pub with_names : List (List ℕ) → List Name → List (List ℕ)
with_names texts [] = texts
with_names texts (x ∷ xs) = with_names (with_text texts x.text) xs
