-- What the search for names that stand twice has seen and finds in the rest of a list. Of the names it keeps each once.
use Rattle.std.specs.Prelude.{ℕ, List, [], ◌∷◌, ◌++◌, if◌then◌else◌}
use Rattle.sml_trees.specs.declared.name.At.{At}
use Rattle.sml_trees.specs.declared.name.Name.{Name}
use Rattle.repeated_names.specs.Repeats.{Member, is_among, place_again}

-- the names before what follows a name
abbrev pub names_then : List (List ℕ) → Name → List (List ℕ)
names_then seen name = if is_among seen name.text then seen else seen ++ name.text ∷ []

-- .. before what follows a list
abbrev pub names_behind : List (List ℕ) → List Member → List (List ℕ)
names_behind seen [] = seen
names_behind seen (m ∷ ms) = names_behind (names_then seen m.name) ms

-- what is found in a list behind those names
abbrev pub found_behind : List (List ℕ) → List Member → List At
found_behind seen [] = []
found_behind seen (m ∷ ms) = place_again seen m.name ++ (m.inside ++ found_behind (names_then seen m.name) ms)
